-- The names in the general registers: a pass leaves those of the state as the loop began.
use Rattle.std.proofs.Common.{◌≡◌, ◌≢◌, ℕ, ◌+◌, ◌≤◌, List, [], ◌∷◌, length, sym, ◌∙◌, subst, arith}
use Rattle.machine_model.specs.Machine.{State, x_at}
use Rattle.kernel_tree.specs.Plain.{Parameter, Accumulator, Program}
use Rattle.kernel_meaning.specs.Eval.{Names}
use Rattle.scalar_words.specs.Layout.{Layout, Homes, Lasts}
use Rattle.scalar_words.specs.Safe.{Others}
use Rattle.scalar_words.specs.Safe.{AreSafe, AreSteady}
use Rattle.scalar_words.specs.Iterations.{AreHeld}
use Rattle.scalar_words.specs.KernelRegisters.{param_homes, var_homes, kernel_homes}
use Rattle.scalar_words.proofs.AssignedOf.{counted-low}
use Rattle.scalar_words.proofs.KernelNames.{others-append}

-- X8 is no name's register
pub params_eight : (n p : ℕ) (ps : List Parameter) → n + length ps ≤ 8 → Others (param_homes n ps) 8 p
params_eight n p [] h = tt
params_eight n p (q ∷ ps) h = ((λ l e. absurd (omega (arith, h, e))), params_eight (n + 1) p ps (omega (arith, h)))

pub vars_eight : (R : ℕ → ℕ) (j p : ℕ) (vs : List Accumulator) → Others (var_homes R j vs) 8 p
vars_eight R j p [] = tt
vars_eight R j p (v ∷ vs) = ((λ l e. absurd (let c = counted-low (R j) in omega (arith, c, e))), vars_eight R (j + 1) p vs)

pub names_eight : (R : ℕ → ℕ) (k : Program) (p : ℕ) → length k.params ≤ 8 → Others (kernel_homes R k) 8 p
names_eight R k p few = others-append (param_homes 0 k.params) (var_homes R 0 k.vars) 8 p (params_eight 0 p k.params (omega (arith, few))) (vars_eight R 0 p k.vars)

-- where the registers up to 25 but for X8 and X9 are the same
pub held_still : (L : Layout) (p : ℕ) (hs : Homes) (ns : Names) (s t : State) → AreSteady hs → AreSafe L p hs → Others hs 9 p → Others hs 8 p → ((r : ℕ) → r ≤ 25 → r ≢ 9 → r ≢ 8 → x_at t r ≡ x_at s r) → AreHeld hs ns s → AreHeld hs ns t
held_still L p [] [] s t steady safe nine eight same h = tt
held_still L p [] (n ∷ ns) s t steady safe nine eight same h = absurd h
held_still L p (x ∷ hs) [] s t steady safe nine eight same h = absurd h
held_still L p (x ∷ hs) (n ∷ ns) s t steady safe nine eight same h =
    let lasts : Lasts x.last_use p = subst (λ u. Lasts u p) (sym steady.0) tt in
    (h.0, same x.register (safe.0.high lasts) (nine.0 lasts) (eight.0 lasts) ∙ h.1, held_still L p hs ns s t steady.1 safe.1 nine.1 eight.1 same h.2)
