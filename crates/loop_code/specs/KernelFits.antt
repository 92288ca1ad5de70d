-- When registers fit a whole kernel.
use Rattle.std.specs.Prelude.{◌≡◌, ℕ, ◌+◌, List, [], ◌∷◌, ◌++◌, length, Some, None}
use Rattle.kernel_tree.specs.Plain.{Accumulator, PlainLoop, Program}
use Rattle.kernel_tree.specs.Items.{term_size, loop_start, loop_end}
use Rattle.kernel_tree.specs.Typing.{Scope, declared, param_scope, var_scope}
use Rattle.scalar_words.specs.Layout.{Layout, Homes}
use Rattle.scalar_words.specs.Safe.{Others, Assigned, AreSafe, AreSteady}
use Rattle.loop_code.specs.Loop.{FitsAnswer, FitsLoop}
use Rattle.scalar_words.specs.KernelRegisters.{counted_x, layout_of_kernel, param_homes, var_home, kernel_homes, IsBound}
use Rattle.loop_code.specs.LoopNumbers.{loop_layout}
use Rattle.loop_code.specs.Kernel.{FitsVars}
use Rattle.kernel_tree.specs.declared.fault.Binding.TheVariants as binding

-- ---- accumulators

-- Accumulators from number j on, whose items begin at b, with the homes of the names before them: the items of an initial
-- value leave these names alone, and the accumulator's register is that of none of them.
abbrev pub AreSafeVars : Layout → (ℕ → ℕ) → Homes → Scope → (j b : ℕ) → List Accumulator → Type 0
AreSafeVars L R hs s j b [] = AreSafe L b hs
AreSafeVars L R hs s j b (v ∷ vs) =
    AreSafe L b hs × Others hs (counted_x (R j)) (b + term_size s.index v.init + 1)
    × AreSafeVars L R (hs ++ var_home R j v ∷ []) (declared s v.name (binding.Accumulator v.type)) (j + 1) (b + term_size s.index v.init + 1) vs

abbrev pub VarsFit : (ℕ → ℕ) → Program → Type 0
VarsFit R k = FitsVars (layout_of_kernel R k) R (param_homes 0 k.params) (param_scope k) 0 (length k.params) k.vars

abbrev pub VarsAreSafe : (ℕ → ℕ) → Program → Type 0
VarsAreSafe R k = AreSafeVars (layout_of_kernel R k) R (param_homes 0 k.params) (param_scope k) 0 (length k.params) k.vars

-- ---- the loop, and the returned expression

abbrev pub LoopFits : (ℕ → ℕ) → Program → PlainLoop → Type 0
LoopFits R k l = FitsLoop (loop_layout R k) (kernel_homes R k) (var_scope k) l (loop_start k) (loop_end k) k.answer

-- the returned expression of a kernel without a loop
abbrev pub AnswerFits : (ℕ → ℕ) → Program → Type 0
AnswerFits R k = FitsAnswer (layout_of_kernel R k) (kernel_homes R k) (var_scope k) (loop_end k) k.answer

-- ---- the whole

pub record KernelFits (R : ℕ → ℕ) (k : Program) : Type 0 where
  pub assigned : Assigned (layout_of_kernel R k)
  pub vars : VarsFit R k
  pub vars_safe : VarsAreSafe R k
  -- the parameters and accumulators: held throughout, and left alone by every item
  pub steady : AreSteady (kernel_homes R k)
  pub safe : (b : ℕ) → AreSafe (layout_of_kernel R k) b (kernel_homes R k)
  pub looped : (l : PlainLoop) → k.for_loop ≡ Some l → LoopFits R k l
  pub bound : (l : PlainLoop) → k.for_loop ≡ Some l → IsBound R k l
  pub straight : k.for_loop ≡ None → AnswerFits R k
