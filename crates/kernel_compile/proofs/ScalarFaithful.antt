-- The words of a kernel's code do what the kernel says.
use Rattle.std.proofs.Common.{◌≡◌, ℕ, false, ◌&&◌, ◌+◌, ◌-◌, ◌*◌, ◌<◌, ◌≤◌, ◌^◌, List, [], ◌++◌, append-nil, refl, sym, ap, ◌∙◌, subst, arith}
use Rattle.std.specs.Prelude.{All}
use Rattle.guest_types.specs.Memory.{Memory}
use Rattle.machine_model.specs.Machine.{State}
use Rattle.machine_model.specs.Written.{file_of}
use Rattle.kernel_tree.specs.Plain.{Program}
use Rattle.kernel_meaning.specs.ScalarRun as scalar
use Rattle.kernel_meaning.specs.ScalarRun.{begun, scalar_run}
use Rattle.kernel_meaning.proofs.RunsFrom.{start_within, whole_run}
use Rattle.dependence.specs.Bound.{is_vector, is_apart, runs_in_chunks}
use Rattle.dependence.specs.Classes.{class_of}
use Rattle.close_bound.specs.CloseBound.{iteration_steps, outside_steps}
use Rattle.label_fix.specs.DraftRun.{DraftEntry, Laid, draft_run}
use Rattle.label_fix.specs.Finished.{AreFit, size, words_of}
use Rattle.label_fix.specs.Stretches.{Goes, Resolves}
use Rattle.label_fix.proofs.StretchSteps.{stop_after, end_after}
use Rattle.label_fix.proofs.LabelsOnce.{Once, resolves_in}
use Rattle.loop_code.specs.Kernel.{begin_code, scalar_code, begin_labels}
use Rattle.loop_code.specs.Runs.{HasArguments, BeginRuns, ScalarRuns}
use Rattle.scalar_words.specs.Iterations.{Comes, ends_so, faults_so}
use Rattle.loop_code.proofs.Placed.{whole_once}
use Rattle.vector_order.proofs.Streams.{true_false}
use Rattle.promises.specs.Faithful.{Follows, CloseSlowFaithful, close_slow_steps}
use Rattle.kernel_compile.specs.Drafted.{FollowsAnywhere}
use Rattle.kernel_compile.proofs.DraftedFiles.{drafted_file}

-- ---- runs that end

pub comes_after : {D : Laid} {c e : List DraftEntry} {s t : State} {K F G i a : ℕ} {r : scalar.Run} → F + a ≤ G → Goes D c s e t a → Comes D e t K F i r → Comes D c s K G i r
comes_after {K = K} {G = G} le g (ends_so n e h) = ends_so n e (end_after (K * n + G) (omega arith) g h)
comes_after {K = K} {G = G} le g (faults_so n kind e ok h) = faults_so n kind e ok (stop_after (K * n + G) (omega arith) g h)

-- the outcome of a run of enough steps
pub comes_follow : {D : Laid} {c : List DraftEntry} {s : State} {K F : ℕ} {r : scalar.Run} (k : Program) (args : List ℕ) (vl steps : ℕ) → runs_in_chunks k args ≡ false → K * begun r + F ≤ steps → Comes D c s K F 0 r → Follows k args vl r (draft_run D steps 0 c s)
comes_follow {D = D} {c = c} {s = s} {K = K} {F = F} k args vl steps alone le (ends_so {bg = bg} n e h) =
    let z : bg ≡ n = omega (arith, e) in
    let p = ap (λ x. K * x) z in
    let w = h.within in
    let f : h.count + (steps - h.count) ≡ steps = omega (arith, le, p, w) in
    (0 + h.count, ap (λ j. draft_run D j 0 c s) (sym f) ∙ h.by (steps - h.count) 0)
comes_follow {D = D} {c = c} {s = s} {K = K} {F = F} k args vl steps alone le (faults_so {m = m} {bg = bg} n kind e ok h) =
    let z : bg ≡ n = omega (arith, e) in
    let p = ap (λ x. K * x) z in
    let w = h.within in
    let f : h.count + (steps - h.count) ≡ steps = omega (arith, le, p, w) in
    record {
      kind = kind;
      access = ok;
      pc = h.pc;
      at = h.at;
      left = m;
      steps = 0 + h.count;
      is = ap (λ j. draft_run D j 0 c s) (sym f) ∙ h.by (steps - h.count) 0;
      kept = λ address far. refl;
      near = λ chunks. absurd (true_false (runs_in_chunks k args) chunks alone);
    }

-- ---- from the first iteration on

module _ (R : ℕ → ℕ) (k : Program) (scalar_class : is_vector (class_of k) ≡ false) (begins : BeginRuns R k) (runs : ScalarRuns R k) where
  -- iterations are run one by one, whatever the arguments are
  never_chunks : (args : List ℕ) → runs_in_chunks k args ≡ false
  never_chunks args = ap (λ b. b && is_apart k args) scalar_class

  code_comes : (D : Laid) (n : ℕ) (args : List ℕ) (m : Memory) (s : State) → HasArguments args m s → Resolves D (begin_code R k 0 (scalar_code R k n [])) → Resolves D (scalar_code R k n [])
      → Comes D (begin_code R k 0 (scalar_code R k n [])) s (iteration_steps k) (outside_steps k) 0 (scalar_run k args m)
  code_comes D n args m s given all res =
      let b = begins D 0 (scalar_code R k n []) args m s given all in
      let c = runs.reached D n [] 0 b.names m b.end res (start_within k.for_loop b.names) b.at in
      subst (λ r. Comes D (begin_code R k 0 (scalar_code R k n [])) s (iteration_steps k) (outside_steps k) 0 r) (whole_run k args m b.names b.starts) (comes_after (omega arith) b.goes c)

  -- Entries that are the code of a kernel, after a front, follow the scalar loop wherever they are laid.
  pub followed : (n : ℕ) (entries front : List DraftEntry) → entries ≡ front ++ scalar_code R k n [] → entries ≡ begin_code R k 0 (scalar_code R k n []) → Once entries → FollowsAnywhere close_slow_steps k entries
  followed n entries front following begun_by placed base steps q args s given is few le =
      let D : Laid = record { base = base; entries = entries } in
      let code = begin_code R k 0 (scalar_code R k n []) in
      let c = code_comes D n args s.memory s given (resolves_in D code [] begun_by placed) (resolves_in D (scalar_code R k n []) front following placed) in
      let enough : iteration_steps k * begun (scalar_run k args s.memory) + outside_steps k ≤ steps = omega (arith, le) in
      subst (λ es. Follows k args s.vl (scalar_run k args s.memory) (draft_run D steps 0 es s)) (sym begun_by) (comes_follow k args s.vl steps (never_chunks args) enough c)

  -- and come to a file that does what the kernel says
  pub compiled : (labels n : ℕ) (entries front : List DraftEntry) (words : List ℕ) → entries ≡ front ++ scalar_code R k n [] → entries ≡ begin_code R k 0 (scalar_code R k n []) → Once entries → AreFit labels entries → size entries ≤ 65536 → words ≡ words_of entries → All (λ w. w < 2 ^ 32) words
      → CloseSlowFaithful k (file_of words)
  compiled labels n entries front words following begun_by placed fits few is small = drafted_file close_slow_steps k labels entries words (followed n entries front following begun_by placed) fits few is small

-- what the two emitting calls leave in a draft
pub record Emitted (R : ℕ → ℕ) (k : Program) (n : ℕ) (entries front : List DraftEntry) : Type 0 where
  pub following : entries ≡ front ++ scalar_code R k n []
  pub begun_by : entries ≡ begin_code R k 0 (scalar_code R k n [])
  pub placed : Once entries

pub emitted : (R : ℕ → ℕ) (k : Program) (l0 l1 : ℕ) (e0 e1 e2 : List DraftEntry) → e0 ≡ [] → l0 ≡ 0 → l1 ≡ l0 + begin_labels k → ((rest : List DraftEntry) → e1 ++ rest ≡ e0 ++ begin_code R k l0 rest) → ((rest : List DraftEntry) → e2 ++ rest ≡ e1 ++ scalar_code R k l1 rest) → Emitted R k l1 e2 e1
emitted R k l0 l1 e0 e1 e2 none first next begin scalar =
    let code = scalar_code R k l1 [] in
    let following : e2 ≡ e1 ++ code = sym (append-nil e2) ∙ scalar [] in
    let begun_by : e2 ≡ begin_code R k 0 code = following ∙ begin code ∙ ap (λ es. es ++ begin_code R k l0 code) none ∙ ap (λ l. begin_code R k l code) first in
    let n : 0 + begin_labels k ≡ l1 = omega (arith, first, next) in
    record {
      following = following;
      begun_by = begun_by;
      placed = subst Once (sym begun_by) (subst (λ l. Once (begin_code R k 0 (scalar_code R k l []))) n (whole_once R k 0));
    }
