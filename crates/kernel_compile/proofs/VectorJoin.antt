-- The words of a kernel's code with a vector part do what the kernel says.
use Rattle.std.proofs.Common.{◌≡◌, ℕ, ◌+◌, ◌-◌, ◌*◌, ◌<◌, ◌≤◌, ◌^◌, Bool, true, false, List, [], ◌∷◌, length, Some, None, refl, sym, ap, ◌∙◌, subst, arith, ⊎_elim}
use Rattle.std.specs.Prelude.{◌&&◌, slice_index, if◌then◌else◌}
use Rattle.std.specs.Int.{div_ceil}
use Rattle.std.proofs.lemmas.Bool.{cases_lt}
use Rattle.std.proofs.Math.Nat.{mul-le-mul_left, mul-le-mul_right}
use Rattle.guest_types.specs.Length.{lanes}
use Rattle.guest_types.specs.Memory.{Memory, IsMemory, byte_at, can_read}
use Rattle.machine_model.specs.declared.outcome.StopKind.{StopKind}
use Rattle.machine_model.specs.Machine.{State, jump}
use Rattle.machine_model.specs.Run.{End, Stop, memory_left}
use Rattle.machine_model.specs.States.{IsState}
use Rattle.kernel_tree.specs.Plain.{Program}
use Rattle.kernel_tree.specs.Items.{size_of, vars_size, loop_index}
use Rattle.kernel_tree.specs.Grammar.{IsTree}
use Rattle.kernel_tree.specs.Typing.{check_fault}
use Rattle.kernel_meaning.specs.Eval.{Names}
use Rattle.kernel_meaning.specs.ScalarRun as scalar
use Rattle.kernel_meaning.specs.ScalarRun.{begun, started, scalar_run}
use Rattle.kernel_meaning.proofs.RunsFrom.{start_within, whole_run}
use Rattle.reg_assign.specs.declared.interval.RegClass.TheVariants.{X, Z, P}
use Rattle.reg_assign.specs.Registers.{Assignment}
use Rattle.loop_form.specs.Lanes.{lane_width_of}
use Rattle.loop_form.specs.Registers.{FitsKernel}
use Rattle.dependence.specs.Apart.{Apart, used_of, bound_place}
use Rattle.dependence.specs.Bound.{is_apart, is_vector, runs_in_chunks, at_once}
use Rattle.close_bound.specs.CloseBound.{has_break, pass_steps, passes, spare, iteration_steps, last_steps, guard_steps, ending_steps, outside_steps, loop_steps, close_bound}
use Rattle.close_bound.proofs.CloseBounds.{pass_few, last_few, outside_few}
use Rattle.dependence.specs.Classes.{class_of}
use Rattle.dependence.specs.declared.reason.Class.TheVariants.{Vector}
use Rattle.dependence.proofs.Bounds.{tested}
use Rattle.label_fix.specs.DraftRun.{DraftEntry, Laid, Branch, Place, Always, following, address_of, draft_run}
use Rattle.label_fix.specs.Suppressions.{cuts}
use Rattle.label_fix.specs.Finished.{AreFit}
use Rattle.label_fix.specs.Stretches.{Goes, Resolves, Paced}
use Rattle.label_fix.proofs.StretchSteps.{chain, taken_goes}
use Rattle.loop_code.specs.Kernel.{scalar_code}
use Rattle.scalar_words.specs.KernelRegisters.{register_in}
use Rattle.scalar_words.specs.Iterations.{Frame, AtIteration, Comes, faults_so}
use Rattle.loop_code.specs.Runs.{HasArguments, BeginRuns, ScalarRuns}
use Rattle.overlap_guard.specs.Guard.{guard_code}
use Rattle.overlap_guard.specs.Meets.{Passes, Chooses, on_where, off_where, MeetsApart}
use Rattle.vector_emit.proofs.FromBelow.{Ground, IsGround, most_lanes, limit}
use Rattle.vector_emit.specs.VectorCode.{vector_code}
use Rattle.vector_emit.specs.VectorRuns as vectors
use Rattle.vector_emit.specs.VectorRuns.{Near, VectorRuns, edge_steps, vector_base, vector_unit, vector_most}
use Rattle.promises.specs.Faithful.{Follows, IsNearFault, IsNearAccess, end_steps}
use Rattle.kernel_compile.proofs.ScalarFaithful.{comes_after, comes_follow}
use Rattle.kernel_compile.proofs.MapStays.{draft_map}
use Rattle.kernel_compile.proofs.Paces.{end_paced, stop_paced, end_count, stop_count, stop_place, paced_steps_are_enough}
use Rattle.kernel_compile.proofs.NearFaults.{both_unmapped, elsewhere}
use Rattle.kernel_compile.proofs.NearAccesses.{near_access}
use Rattle.kernel_compile.proofs.AtLoop.{bases_held, bounded}
use Rattle.kernel_compile.proofs.AtVector.{homes_low, at_same, has_loop, ground_of, is_ground}
use Rattle.kernel_compile.proofs.VectorPlaced.{whole_code}

-- ---- how many iterations are run at once

in_chunks : (k : Program) (args : List ℕ) → class_of k ≡ Vector → Apart k args → runs_in_chunks k args ≡ true
in_chunks k args vector apart = ap (λ c. is_vector c && is_apart k args) vector ∙ (tested k args).1 apart

one_by_one : (k : Program) (args : List ℕ) → class_of k ≡ Vector → (Apart k args → ⊥) → runs_in_chunks k args ≡ false
one_by_one k args vector not = ap (λ c. is_vector c && is_apart k args) vector ∙ by (is_apart k args) refl
  where
    by : (b : Bool) → is_apart k args ≡ b → b ≡ false
    by false e = refl
    by true e = absurd (not ((tested k args).0 e))

-- ---- how many steps suffice

-- Of a run that begins m iterations: by the close bound and free elements, of which `cut` are suppressed in these steps, or by
-- the bound that counts iterations alone.
pub data Suffices (k : Program) (args : List ℕ) (vl m cut steps : ℕ) : Type 0 where
  by_close : (q : ℕ) → cut ≤ q → close_bound k args vl m q ≤ steps → Suffices k args vl m cut steps
  by_iterations : (q : ℕ) → end_steps k args vl m q ≤ steps → Suffices k args vl m cut steps

-- the words up to the loop
abbrev reach_steps : Program → ℕ
reach_steps k = 2 + length k.params + 4 * vars_size (loop_index k) k.vars + guard_steps (used_of k)

-- ---- outcomes

-- a run that ends within the bound
vector_ends_within : (d : Laid) (c : List DraftEntry) (s : State) (k : Program) (args : List ℕ) (vl steps : ℕ) (m : Memory) (r bg count : ℕ) → count ≤ steps → ((n taken : ℕ) → draft_run d (count + n) taken c s ≡ End m r (taken + count)) → Follows k args vl (scalar.End m r bg) (draft_run d steps 0 c s)
vector_ends_within d c s k args vl steps m r bg count le by =
    let f : count + (steps - count) ≡ steps = omega (arith, le) in
    (0 + count, ap (λ j. draft_run d j 0 c s) (sym f) ∙ by (steps - count) 0)

-- ---- a chunk that stops

module _ (g : Ground) (is : IsGround g) (memory left faulted : Memory) (bg : ℕ) {kind : StopKind} {at : ℕ} (bound : limit g ≡ slice_index g.args (bound_place g.kernel)) (near : Near g bg kind at left faulted)
    (high : (a : ℕ) → 2 ^ 64 ≤ a → byte_at left a ≡ byte_at faulted a) where
  kept_near : (a : ℕ) → (IsNearFault g.kernel g.args (most_lanes g) bg a → ⊥) → byte_at left a ≡ byte_at faulted a
  kept_near a far =
      ⊎_elim
      (λ (low : a < 2 ^ 64). near.kept a low (elsewhere g.kernel g.args (most_lanes g) bg near.i near.k a near.few (let w = near.within in omega (arith, w, bound)) near.from near.until far))
      (λ (past : 2 ^ 64 ≤ a). high a past)
      (cases_lt a (2 ^ 64))

-- what is mapped at a fault of scalar code, that of the state in which it is entered
fault_map : {D : Laid} {o : List DraftEntry} {t : State} {K F i bg : ℕ} {m : Memory} (a : ℕ) → Comes D o t K F i (scalar.Fault m bg) → can_read m a ≡ can_read t.memory a
fault_map {D = D} {o = o} {t = t} a (faults_so n kind e ok h) = ap (λ x. can_read (memory_left x) a) (sym (h.by 0 0)) ∙ draft_map D (h.count + 0) 0 o t a

-- the bound, by whether the iterations are run in chunks
close_as : (k : Program) (args : List ℕ) (vl m q steps : ℕ) (b : Bool) → runs_in_chunks k args ≡ b → close_bound k args vl m q ≤ steps → outside_steps k + loop_steps b k (lanes vl (lane_width_of k)) m q ≤ steps
close_as k args vl m q steps b e le = subst (λ c. outside_steps k + loop_steps c k (lanes vl (lane_width_of k)) m q ≤ steps) e le

-- the words of scalar code, where iterations are run one by one
scalar_suffices : (k : Program) (args : List ℕ) (vl m cut steps : ℕ) → length k.params ≤ 8 → runs_in_chunks k args ≡ false → Suffices k args vl m cut steps → iteration_steps k * m + (reach_steps k + ending_steps k) ≤ steps
scalar_suffices k args vl m cut steps params alone (by_close q few le) = let h = close_as k args vl m q steps false alone le in omega (arith, h)
scalar_suffices k args vl m cut steps params alone (by_iterations q le) =
    let out = outside_few k params in
    let each : iteration_steps k * m ≤ (32 + 8 * size_of k) * 2 * m = mul-le-mul_right m (let f : iteration_steps k ≤ (32 + 8 * size_of k) * 2 = omega arith in f) in
    omega (arith, out, each, le)

-- A run through the vector part: c is the whole code from the state s on, e the vector part and o the scalar part, both from t on.
record Entered (g : Ground) (D : Laid) (c e o : List DraftEntry) (s t : State) (vl : ℕ) (m : Memory) : Type 0 where
  is : IsGround g
  bound : limit g ≡ slice_index g.args (bound_place g.kernel)
  params : length g.kernel.params ≤ 8
  chunks : runs_in_chunks g.kernel g.args ≡ true
  lanes : lanes vl (lane_width_of g.kernel) ≡ most_lanes g
  goes : Goes D c s e t (reach_steps g.kernel)
  good : IsMemory m
  from : s.memory ≡ m
  here : t.memory ≡ m

-- so many are run at once
at_lanes : {g : Ground} {D : Laid} {c e o : List DraftEntry} {s t : State} {vl : ℕ} {m : Memory} → Entered g D c e o s t vl m → at_once g.kernel g.args vl ≡ most_lanes g
at_lanes {g = g} {vl = vl} x = ap (λ b. if b then lanes vl (lane_width_of g.kernel) else 1) x.chunks ∙ x.lanes

-- the words of the passes, with those of some free elements
in_bound : (U D e r q base rest out last steps : ℕ) → r ≤ q → base + 1 + rest ≤ out + last → out + (U * (D + e * (1 + q)) + last) ≤ steps → base + (1 + rest + U * (D + e * (1 + 0))) + U * e * r ≤ steps
in_bound U D e r q base rest out last steps few within le = let up : U * e * r ≤ U * e * q = mul-le-mul_left (U * e) few in omega (arith, up, within, le)

-- so many steps are not fewer than the words of such a run
in_steps : {g : Ground} {D : Laid} {c e o : List DraftEntry} {s t : State} {vl : ℕ} {m : Memory} → Entered g D c e o s t vl m → (bg count steps : ℕ) → Suffices g.kernel g.args vl bg (cuts D steps c s) steps
    → Paced D c s count (vector_unit g) (reach_steps g.kernel + vector_base g bg) → count ≤ reach_steps g.kernel + vector_most g bg → count ≤ steps
in_steps {g = g} {D = D} {c = c} {s = s} {vl = vl} x bg count steps (by_close q cut le) paced few =
    let k = g.kernel in
    let whole = close_as k g.args vl bg q steps true x.chunks le in
    let here : outside_steps k + (pass_steps k * passes k (most_lanes g) bg q + last_steps (has_break k) k) ≤ steps = subst (λ n. outside_steps k + (pass_steps k * passes k n bg q + last_steps (has_break k) k) ≤ steps) x.lanes whole in
    paced_steps_are_enough D c s count (vector_unit g) (reach_steps k + vector_base g bg) steps
    (in_bound (pass_steps k) (div_ceil bg (most_lanes g)) (spare (has_break k)) (cuts D steps c s) q (reach_steps k) (edge_steps k) (outside_steps k) (last_steps (has_break k) k) steps cut (omega arith) here) paced
in_steps {g = g} x bg count steps (by_iterations q le) paced few =
    let k = g.kernel in
    let out = outside_few k x.params in
    let last = last_few (has_break k) k in
    let each : pass_steps k * (2 * bg + 2) ≤ (32 + 8 * size_of k) * (2 * bg + 2) = mul-le-mul_right (2 * bg + 2) (pass_few k) in
    omega (arith, le, few, out, last, each)

follows_chunk : {g : Ground} {D : Laid} {c e o : List DraftEntry} {s t : State} {vl steps K F : ℕ} {m : Memory} {r : scalar.Run} → Entered g D c e o s t vl m → vectors.Follows g D e t (vector_unit g) (vector_base g) (vector_most g) r → Comes D o t K F 0 r
    → Suffices g.kernel g.args vl (begun r) (cuts D steps c s) steps → Follows g.kernel g.args vl r (draft_run D steps 0 c s)
follows_chunk {g = g} {D = D} {c = c} {s = s} {vl = vl} {steps = steps} x (vectors.ends_so {m = left} {r = result} {bg = bg} w most) h le =
    let all = end_paced x.goes w in
    let few = in_steps x bg all.count steps le all.paced (let n = end_count x.goes w in let f = x.goes.within in omega (arith, n, f, most)) in
    vector_ends_within D c s g.kernel g.args vl steps left result bg all.count few all.by
follows_chunk {g = g} {D = D} {c = c} {s = s} {t = t} {vl = vl} {steps = steps} {m = m} x (vectors.faults_so {m = faulted} {bg = bg} kind left access w near most) h le =
    let all = stop_paced x.goes w in
    let few = in_steps x bg all.count steps le all.paced (let n = stop_count x.goes w in let f = x.goes.within in omega (arith, n, f, most)) in
    let f : all.count + (steps - all.count) ≡ steps = omega (arith, few) in
    let stops : draft_run D steps 0 c s ≡ Stop kind all.pc all.at left (0 + all.count) = ap (λ j. draft_run D j 0 c s) (sym f) ∙ all.by (steps - all.count) 0 in
    record {
      kind = kind;
      access = access;
      pc = all.pc;
      at = all.at;
      left = left;
      steps = 0 + all.count;
      is = stops;
      kept = λ address far.
          kept_near g x.is m left faulted bg x.bound near
          (λ a high. both_unmapped m left faulted a x.good high (ap (λ o. can_read (memory_left o) a) (sym stops) ∙ draft_map D steps 0 c s a ∙ ap (λ y. can_read y a) x.from) (fault_map a h ∙ ap (λ y. can_read y a) x.here))
          address (λ n. far (subst (λ L. IsNearFault g.kernel g.args L bg address) (sym (at_lanes x)) n));
      near = λ chunks. subst (λ L. IsNearAccess g.kernel g.args L bg kind all.at) (sym (at_lanes x)) (subst (λ at. IsNearAccess g.kernel g.args (most_lanes g) bg kind at) (sym (stop_place x.goes w)) (near_access g x.is x.bound near));
    }

-- ---- the code

-- the parts of the code, each with what stands after it
abbrev pub vector_part : (ℕ → ℕ) → Program → (a b : Assignment) → (n1 n3 : ℕ) → List DraftEntry
vector_part R k a b n1 n3 = vector_code R k a b n1 n3 []

abbrev pub guard_part : (ℕ → ℕ) → Program → (a b : Assignment) → (n1 n2 n3 : ℕ) → List DraftEntry
guard_part R k a b n1 n2 n3 = guard_code k n1 n2 (vector_part R k a b n1 n3)

abbrev pub scalar_part : (ℕ → ℕ) → Program → (a b : Assignment) → (n1 n2 n3 : ℕ) → List DraftEntry
scalar_part R k a b n1 n2 n3 = scalar_code R k n1 (Place 0 ∷ guard_part R k a b n1 n2 n3)

-- The draft of a kernel's code, laid; each part stands where its labels lead.
pub record IsLaid (R : ℕ → ℕ) (k : Program) (a b : Assignment) (labels n1 n2 n3 : ℕ) (D : Laid) : Type 0 where
  pub whole : Resolves D (whole_code R k a b n1 n2 n3)
  pub scalar : Resolves D (scalar_part R k a b n1 n2 n3)
  pub place : following D 0 ≡ guard_part R k a b n1 n2 n3
  pub guard : Resolves D (guard_part R k a b n1 n2 n3)
  pub vector : Resolves D (vector_part R k a b n1 n3)
  pub fit : AreFit labels D.entries
  pub fits : AreFit labels (whole_code R k a b n1 n2 n3)

-- The loop begins at the guard.
record AtGuard (R : ℕ → ℕ) (k : Program) (a b : Assignment) (n1 n2 n3 : ℕ) (D : Laid) (args : List ℕ) (m : Memory) (s : State) : Type 0 where
  names : Names
  starts : started k args m ≡ Some names
  end : State
  goes : Goes D (whole_code R k a b n1 n2 n3) s (guard_part R k a b n1 n2 n3) end (2 + length k.params + 4 * vars_size (loop_index k) k.vars)
  at : AtIteration R k 0 names m end
  vl : end.vl ≡ s.vl

-- What is known of the kernel and of the codes that it is joined of.
pub record IsJoined (k : Program) (a b c : Assignment) : Type 0 where
  pub spelled : ∥ IsTree k ∥₁
  pub sound : check_fault k ≡ None
  pub vector : class_of k ≡ Vector
  pub few : length k.params ≤ 8
  pub near : bound_place k ≤ 7
  pub z : FitsKernel k Z a
  pub p : FitsKernel k P b
  pub x : FitsKernel k X c
  pub begins : BeginRuns (register_in c) k
  pub runs : ScalarRuns (register_in c) k
  pub meets : MeetsApart k
  pub vectors : VectorRuns

module _ (k : Program) (a b c : Assignment) (j : IsJoined k a b c) where
  to_guard : (labels n1 n2 n3 : ℕ) (D : Laid) (args : List ℕ) (m : Memory) (s : State) → IsLaid (register_in c) k a b labels n1 n2 n3 D → HasArguments args m s → AtGuard (register_in c) k a b n1 n2 n3 D args m s
  to_guard labels n1 n2 n3 D args m s is given =
      let R = register_in c in
      let whole = whole_code R k a b n1 n2 n3 in
      let begin = j.begins D 1 (Branch Always 0 ∷ scalar_part R k a b n1 n2 n3) args m s given is.whole in
      let t : State = jump begin.end (address_of D 0) in
      let taken : Goes D (Branch Always 0 ∷ scalar_part R k a b n1 n2 n3) begin.end (following D 0) t 1 = taken_goes refl in
      let there : Goes D whole s (following D 0) t (2 + length k.params + 4 * vars_size (loop_index k) k.vars) = chain (2 + length k.params + 4 * vars_size (loop_index k) k.vars) (omega arith) begin.goes taken in
      record {
        names = begin.names;
        starts = begin.starts;
        end = t;
        goes = subst (λ es. Goes D whole s es t (2 + length k.params + 4 * vars_size (loop_index k) k.vars)) is.place there;
        at = at_same R k 0 begin.names m begin.end t (homes_low k c j.x j.few) (λ r le. refl) refl refl begin.at;
        vl = ap (λ (f : Frame). f.vl) begin.frame;
      }

  -- to scalar code, where the arrays do not lie apart
  off_follows : (labels n1 n2 n3 : ℕ) (D : Laid) (args : List ℕ) (m : Memory) (s : State) (cut steps : ℕ) → IsLaid (register_in c) k a b labels n1 n2 n3 D → (h : AtGuard (register_in c) k a b n1 n2 n3 D args m s) → (Apart k args → ⊥)
      → Passes D (guard_part (register_in c) k a b n1 n2 n3) h.end (following D n1) (guard_steps (used_of k)) → Suffices k args s.vl (begun (scalar_run k args m)) cut steps → Follows k args s.vl (scalar_run k args m) (draft_run D steps 0 (whole_code (register_in c) k a b n1 n2 n3) s)
  off_follows labels n1 n2 n3 D args m s cut steps is h not pass le =
      let R = register_in c in
      let whole = whole_code R k a b n1 n2 n3 in
      let at = at_same R k 0 h.names m h.end pass.end (homes_low k c j.x j.few) pass.others pass.sized pass.memory h.at in
      let there : Goes D whole s (following D n1) pass.end (reach_steps k) = chain (reach_steps k) (omega arith) h.goes pass.goes in
      let entered = j.runs.entered D n1 (Place 0 ∷ guard_part R k a b n1 n2 n3) 0 h.names m pass.end is.scalar (start_within k.for_loop h.names) at in
      let comes : Comes D whole s (iteration_steps k) (reach_steps k + ending_steps k) 0 (scalar_run k args m) =
      subst (λ r. Comes D whole s (iteration_steps k) (reach_steps k + ending_steps k) 0 r) (whole_run k args m h.names h.starts) (comes_after (omega arith) there entered) in
      comes_follow k args s.vl steps (one_by_one k args j.vector not) (scalar_suffices k args s.vl (begun (scalar_run k args m)) cut steps j.few (one_by_one k args j.vector not) le) comes

  -- to the vector part, where they do
  on_follows : (labels n1 n2 n3 : ℕ) (D : Laid) (args : List ℕ) (m : Memory) (s : State) (steps : ℕ) → IsLaid (register_in c) k a b labels n1 n2 n3 D → HasArguments args m s → IsState s
      → (h : AtGuard (register_in c) k a b n1 n2 n3 D args m s) → Apart k args → Passes D (guard_part (register_in c) k a b n1 n2 n3) h.end (vector_part (register_in c) k a b n1 n3) (guard_steps (used_of k))
      → Suffices k args s.vl (begun (scalar_run k args m)) (cuts D steps (whole_code (register_in c) k a b n1 n2 n3) s) steps → Follows k args s.vl (scalar_run k args m) (draft_run D steps 0 (whole_code (register_in c) k a b n1 n2 n3) s)
  on_follows labels n1 n2 n3 D args m s steps is given state h apart pass le =
      let R = register_in c in
      let whole = whole_code R k a b n1 n2 n3 in
      let part = vector_part R k a b n1 n3 in
      let loop = has_loop k j.vector in
      let at = at_same R k 0 h.names m h.end pass.end (homes_low k c j.x j.few) pass.others pass.sized pass.memory h.at in
      let there : Goes D whole s part pass.end (reach_steps k) = chain (reach_steps k) (omega arith) h.goes pass.goes in
      let kept = there.keeps labels is.fit is.fits state in
      let ground = is_ground R k loop.0 a b args m h.names pass.end j.spelled j.sound j.vector j.few j.near j.z j.p loop.1 given.words h.starts at kept.0.sized apart in
      let g = ground_of k loop.0 a b args m h.names pass.end in
      let bound = bounded R k loop.0 args m h.names pass.end j.sound loop.1 given.words h.starts at.held in
      let reaches = λ (i : ℕ) (names : Names) (memory : Memory) (t : State). j.runs.entered D n1 (Place 0 ∷ guard_part R k a b n1 n2 n3) i names memory t is.scalar in
      let run = j.vectors g c D n1 n3 [] m pass.end ground j.x kept.0 refl at (λ r low. refl) is.vector reaches in
      let entered = reaches 0 h.names m pass.end (start_within k.for_loop h.names) at in
      let same = whole_run k args m h.names h.starts in
      let x : Entered g D whole part (following D n1) s pass.end s.vl m = record {
        is = ground;
        bound = bound.limit;
        params = j.few;
        chunks = in_chunks k args j.vector apart;
        lanes = ap (λ n. lanes n (lane_width_of k)) (sym (pass.vl ∙ h.vl));
        goes = there;
        good = given.good;
        from = given.memory;
        here = at.memory;
      } in
      subst (λ r. Follows k args s.vl r (draft_run D steps 0 whole s)) same (follows_chunk x run entered (subst (λ r. Suffices k args s.vl (begun r) (cuts D steps whole s) steps) (sym same) le))

  -- the code from its first word on
  pub code_follows : (labels n1 n2 n3 : ℕ) (D : Laid) (args : List ℕ) (m : Memory) (s : State) (steps : ℕ) → IsLaid (register_in c) k a b labels n1 n2 n3 D → HasArguments args m s → IsState s
      → Suffices k args s.vl (begun (scalar_run k args m)) (cuts D steps (whole_code (register_in c) k a b n1 n2 n3) s) steps → Follows k args s.vl (scalar_run k args m) (draft_run D steps 0 (whole_code (register_in c) k a b n1 n2 n3) s)
  code_follows labels n1 n2 n3 D args m s steps is given state le =
      let R = register_in c in
      let h = to_guard labels n1 n2 n3 D args m s is given in
      let loop = has_loop k j.vector in
      let bound = bounded R k loop.0 args m h.names h.end j.sound loop.1 given.words h.starts h.at.held in
      by h (j.meets D args n1 n2 (vector_part R k a b n1 n3) h.end h.at.sized bound.held (bases_held R k args m h.names h.end given.words h.starts h.at.held) is.guard)
    where
      by : (h : AtGuard (register_in c) k a b n1 n2 n3 D args m s) → Chooses D (guard_part (register_in c) k a b n1 n2 n3) h.end (vector_part (register_in c) k a b n1 n3) (following D n1) (Apart k args) (guard_steps (used_of k))
          → Follows k args s.vl (scalar_run k args m) (draft_run D steps 0 (whole_code (register_in c) k a b n1 n2 n3) s)
      by h (on_where apart pass) = on_follows labels n1 n2 n3 D args m s steps is given state h apart pass le
      by h (off_where not pass) = off_follows labels n1 n2 n3 D args m s (cuts D steps (whole_code (register_in c) k a b n1 n2 n3) s) steps is h not pass le
