-- The code of a kernel does what its scalar loop does.
use Rattle.std.proofs.Common.{◌≡◌, ℕ, ◌+◌, ◌-◌, ◌*◌, ◌<◌, ◌≤◌, ◌^◌, true, List, [], ◌∷◌, length, Option, Some, None, refl, sym, ap, ◌∙◌, subst, arith}
use Rattle.std.specs.Prelude.{slice_index, option_map}
use Rattle.std.proofs.Math.Nat.{mul-le-mul_right}
use Rattle.guest_types.specs.Memory.{Memory}
use Rattle.machine_model.specs.Machine.{State}
use Rattle.kernel_tree.specs.Plain.{PlainLoop, Returned, Program}
use Rattle.kernel_tree.specs.Items.{block_size, for_loop_size, answer_size, index_of, loop_start, loop_end}
use Rattle.kernel_tree.specs.Typing.{Scope, var_scope, check_fault}
use Rattle.kernel_tree.proofs.Scopes.{scope_index}
use Rattle.reg_assign.specs.declared.interval.RegClass.TheVariants.{X}
use Rattle.reg_assign.specs.Registers.{Assignment}
use Rattle.loop_form.specs.Registers.{FitsKernel}
use Rattle.kernel_meaning.specs.Eval.{Names, value_at}
use Rattle.kernel_meaning.specs.ScalarRun.{Run, bound_of, iterations, finish, returned, ended, for_loop_from, run_from, IsWithin}
use Rattle.kernel_meaning.proofs.Residues.{word-below}
use Rattle.label_fix.specs.DraftRun.{DraftEntry, Place, Laid, following}
use Rattle.label_fix.proofs.StretchSteps.{Goes, Resolves, stay, end_after, stop_after, stop_more, pass}
use Rattle.scalar_words.specs.Layout.{Layout, Homes, register_at, with_loose}
use Rattle.loop_code.specs.Loosening.{for_loop_loose, after_loop, covers_answer, held_loosely}
use Rattle.loop_code.specs.LoopNumbers.{held_numbers, loop_layout}
use Rattle.loop_code.specs.Loop.{answer_code, bare, test_code, loop_code, FitsAnswer, FitsLoop}
use Rattle.scalar_words.specs.KernelRegisters.{layout_of_kernel, kernel_homes, register_in}
use Rattle.loop_code.specs.Kernel.{for_loop_code, scalar_code}
use Rattle.loop_code.specs.KernelFits.{KernelFits}
use Rattle.scalar_words.specs.Safe.{AreSteady}
use Rattle.scalar_words.specs.Iterations.{AreHeld, AtIteration, Comes, ends_so, faults_so}
use Rattle.loop_code.specs.Runs.{end_steps, ScalarRuns}
use Rattle.scalar_words.proofs.LayoutStates.{Assigned, AreSafe, AreInRegisters, At, name_held}
use Rattle.scalar_words.proofs.Told.{told_same, told_none}
use Rattle.value_code.specs.declared.extent.Extent.TheVariants.{Whole}
use Rattle.value_code.proofs.CoversNone.{covers_none}
use Rattle.loop_code.proofs.HoldBlocks.{numbers_next, assigned_with, safe_with}
use Rattle.loop_code.proofs.LoopRuns.{fixed_at, plain, plain_loaded, at_bare, answer_runs, loop_runs}
use Rattle.scalar_words.proofs.ChosenOf.{chosen_all}
use Rattle.loop_code.proofs.FitsKernel.{kernel_fits}

-- ---- counts

comes_within : {D : Laid} {c : List DraftEntry} {s : State} {K F i : ℕ} {r : Run} (K2 F2 : ℕ) → K ≤ K2 → F ≤ F2 → Comes D c s K F i r → Comes D c s K2 F2 i r
comes_within {K = K} {F = F} K2 F2 a b (ends_so n e h) = let k = mul-le-mul_right n a in ends_so n e (end_after (K2 * n + F2) (omega (arith, k, b)) (stay 0) h)
comes_within {K = K} {F = F} K2 F2 a b (faults_so n kind e ok h) = let k = mul-le-mul_right n a in faults_so n kind e ok (stop_more (K2 * n + F2) (omega (arith, k, b)) h)

comes_following : {D : Laid} {c e : List DraftEntry} {s t : State} {K F i : ℕ} {r : Run} → Goes D c s e t 0 → Comes D e t K F i r → Comes D c s K F i r
comes_following {K = K} {F = F} g (ends_so n e h) = ends_so n e (end_after (K * n + F) (omega arith) g h)
comes_following {K = K} {F = F} g (faults_so n kind e ok h) = faults_so n kind e ok (stop_after (K * n + F) (omega arith) g h)

-- ---- states

held_all : (hs : Homes) (ns : Names) (p : ℕ) (s : State) → AreHeld hs ns s → AreInRegisters hs ns p s
held_all [] [] p s h = tt
held_all [] (n ∷ ns) p s h = absurd h
held_all (x ∷ hs) [] p s h = absurd h
held_all (x ∷ hs) (n ∷ ns) p s h = (h.0, (λ l. h.1), held_all hs ns p s h.2)

iteration_at_head : (L : Layout) (R : ℕ → ℕ) (k : Program) (i : ℕ) (names : Names) (m : Memory) (s : State) (p : ℕ) → AtIteration R k i names m s → At (fixed_at {L = plain L} i 0 s.x (plain_loaded L s.x)) (kernel_homes R k) (var_scope k).visible names m p s
iteration_at_head L R k i names m s p at = record {
  sized = at.sized;
  nine = at.index;
  args = λ r lt. refl;
  ranged = at.ranged;
  memory = at.memory;
  good = at.good;
  stand = names;
  told = told_same [] 0 names (λ x. refl);
  held = held_all (kernel_homes R k) names p s at.held;
}

-- ---- the loop, and what follows it

abbrev FitsForLoop : Layout → Homes → Scope → Option PlainLoop → (b b2 : ℕ) → Option Returned → Type 0
FitsForLoop L hs s (Some l) b b2 answer = FitsLoop L hs s l b b2 answer
FitsForLoop L hs s None b b2 answer = FitsAnswer (bare L) hs s b2 answer × (covers_answer (bare L).loose s answer ≡ true)

fits_for_loop : (L : Layout) (hs : Homes) (s : Scope) (b b2 : ℕ) (answer : Option Returned) (for_loop : Option PlainLoop) → ((l : PlainLoop) → for_loop ≡ Some l → FitsLoop L hs s l b b2 answer) → (for_loop ≡ None → FitsAnswer (bare L) hs s b2 answer × (covers_answer (bare L).loose s answer ≡ true)) → FitsForLoop L hs s for_loop b b2 answer
fits_for_loop L hs s b b2 answer (Some l) f g = f l refl
fits_for_loop L hs s b b2 answer None f g = g refl

abbrev steps_per_iteration : Option (List ℕ) → Option PlainLoop → ℕ
steps_per_iteration i (Some l) = 4 * block_size i l.body + 4
steps_per_iteration i None = 0

-- the steps of an iteration
iteration_size : (i : Option (List ℕ)) (for_loop : Option PlainLoop) → i ≡ option_map index_of for_loop → steps_per_iteration i for_loop ≤ 4 * for_loop_size for_loop
iteration_size i (Some l) e = let z = ap (λ j. block_size j l.body) e in omega (arith, z)
iteration_size i None e = omega arith

module _ (D : Laid) (L : Layout) (fit : Assigned L) (hs : Homes) (s : Scope) (steady : AreSteady hs) (safe : (b : ℕ) → AreSafe L b hs) where
  for_loop_runs : (for_loop : Option PlainLoop) (b n b2 : ℕ) (answer : Option Returned) (rest : List DraftEntry) (args : List ℕ) (i : ℕ) (names : Names) (m : Memory) (st : State) → s.index ≡ option_map index_of for_loop → FitsForLoop L hs s for_loop b b2 answer → Resolves D (for_loop_code L hs s for_loop b n b2 answer rest) → IsWithin for_loop i names → ((p : ℕ) → At (fixed_at {L = plain L} i 0 args (plain_loaded L args)) hs s.visible names m p st)
      → Comes D (following D n) st (steps_per_iteration s.index for_loop) (4 * answer_size s.index answer + 5) i (for_loop_from s for_loop answer i m names)
  for_loop_runs (Some l) b n b2 answer rest args i names m st index fits res le at =
      let r = register_at hs l.bound in
      let a = at b in
      let same = told_none 0 a.stand names a.told in
      let is : slice_index args r ≡ bound_of l names = sym (a.args r fits.bound_low) ∙ name_held hs a.stand l.bound b st a.sized a.held fits.bound ∙ ap (bound_of l) same in
      let small : slice_index args r < 2 ^ 64 = omega (arith, is, word-below (value_at names l.bound)) in
      let sum : i + (bound_of l names - i) ≡ slice_index args r = omega (arith, is, le) in
      let q = loop_runs D L fit hs s l b n b2 answer rest fits steady (safe b) index res args small (bound_of l names - i) i names m st sum a in
      subst (λ es. Comes D es st (steps_per_iteration s.index (Some l)) (4 * answer_size s.index answer + 5) i (for_loop_from s (Some l) answer i m names)) (sym res.0)
      (comes_within (steps_per_iteration s.index (Some l)) (4 * answer_size s.index answer + 5) (omega arith) (omega arith)
      (subst (λ x. Comes D (test_code L hs s l b n b2 answer rest) st (steps_per_iteration s.index (Some l)) (4 * answer_size s.index answer + 3 + 2) i (finish s l answer x (iterations s l (bound_of l names - i) i m names))) is q))
  for_loop_runs None b n b2 answer rest args i names m st index fits res e at =
      subst (λ es. Comes D es st 0 (4 * answer_size s.index answer + 5) i (ended m 0 (returned s answer m names))) (sym res.0)
      (comes_within 0 (4 * answer_size s.index answer + 5) (omega arith) (omega arith) (answer_runs D (bare L) (assigned_with L 0 [] (after_loop L.loose) tt fit) s rest 0 i 0 0 b2 (n + 1) answer fits.1 (omega (arith, e)) (safe_with L [] (after_loop L.loose) b2 hs (safe b2)) (at_bare L (at b2)) fits.0 res.1))

-- ---- kernels

head_first : (D : Laid) (L : Layout) (hs : Homes) (s : Scope) (for_loop : Option PlainLoop) (b n b2 : ℕ) (answer : Option Returned) (rest : List DraftEntry) (st : State) → Resolves D (for_loop_code L hs s for_loop b n b2 answer rest) → Goes D (for_loop_code L hs s for_loop b n b2 answer rest) st (following D n) st 0
head_first D L hs s (Some l) b n b2 answer rest st res = subst (λ es. Goes D (loop_code L hs s l b n b2 answer rest) st es st 0) (sym res.0) pass
head_first D L hs s None b n b2 answer rest st res = subst (λ es. Goes D (Place n ∷ answer_code (bare L) hs s b2 (n + 1) answer rest) st es st 0) (sym res.0) pass

covers_nothing : (s : Scope) (answer : Option Returned) → covers_answer [] s answer ≡ true
covers_nothing s None = refl
covers_nothing s (Some a) = covers_none a.value s Whole (Some a.type)

module _ (R : ℕ → ℕ) (k : Program) (fit : KernelFits R k) where
  -- without a loop no name is held loosely
  straight : k.for_loop ≡ None → FitsAnswer (bare (loop_layout R k)) (kernel_homes R k) (var_scope k) (loop_end k) k.answer × (covers_answer (after_loop (held_loosely k)) (var_scope k) k.answer ≡ true)
  straight e =
      let none : after_loop (held_loosely k) ≡ [] = ap (λ t. after_loop (for_loop_loose (var_scope k) t k.answer)) e in
      (subst (λ ls. FitsAnswer (with_loose (layout_of_kernel R k) ls) (kernel_homes R k) (var_scope k) (loop_end k) k.answer) (sym none) (fit.straight e), subst (λ ls. covers_answer ls (var_scope k) k.answer ≡ true) (sym none) (covers_nothing (var_scope k) k.answer))

  comes : (D : Laid) (n : ℕ) (rest : List DraftEntry) (i : ℕ) (names : Names) (m : Memory) (s : State) → Resolves D (scalar_code R k n rest) → IsWithin k.for_loop i names → AtIteration R k i names m s
      → Comes D (following D n) s (4 * for_loop_size k.for_loop) (end_steps k) i (run_from k i m names)
  comes D n rest i names m s res le at =
      let L = loop_layout R k in
      let p = length k.params in
      let next = numbers_next R k in
      let hs = kernel_homes R k in
      let j = scope_index k in
      let a = ap (λ j. answer_size j k.answer) j in
      let t = iteration_size (var_scope k).index k.for_loop j in
      comes_within (4 * for_loop_size k.for_loop) (end_steps k) (omega (arith, t)) (omega (arith, a))
      (for_loop_runs D L (assigned_with (layout_of_kernel R k) p (held_numbers R k) (held_loosely k) next fit.assigned) hs (var_scope k) fit.steady (λ b. safe_with (layout_of_kernel R k) (held_numbers R k) (held_loosely k) b hs (fit.safe b)) k.for_loop (loop_start k) n (loop_end k) k.answer rest s.x i names m s j (fits_for_loop L hs (var_scope k) (loop_start k) (loop_end k) k.answer k.for_loop fit.looped straight) res le (λ p. iteration_at_head L R k i names m s p at))

  pub scalar_runs : ScalarRuns R k
  scalar_runs = record {
    reached = λ D n rest i names m s res le at. comes_following (head_first D (loop_layout R k) (kernel_homes R k) (var_scope k) k.for_loop (loop_start k) n (loop_end k) k.answer rest s res) (comes D n rest i names m s res le at);
    entered = comes;
  }

-- ---- registers that were assigned

-- the registers of a kernel's intervals fit it
pub fits : (k : Program) (a : Assignment) → check_fault k ≡ None → length k.params ≤ 8 → FitsKernel k X a → KernelFits (register_in a) k
fits k a checked few f = kernel_fits (register_in a) k checked few (chosen_all k a f)
