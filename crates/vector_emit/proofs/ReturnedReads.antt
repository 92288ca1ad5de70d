-- The returned expression of a checked kernel reads no memory, and so it is always there.
use Rattle.std.proofs.Common.{◌≡◌, ℕ, false, [], Option, Some, None, refl, ap, subst}
use Rattle.std.specs.Prelude.{option_map}
use Rattle.guest_types.specs.Memory.{Memory}
use Rattle.kernel_tree.specs.Plain.{PlainLoop, Returned, Program}
use Rattle.kernel_tree.specs.Items.{loop_end}
use Rattle.kernel_tree.specs.Typing.{Scope, after_for_loop, var_scope, answer_faults, check_fault}
use Rattle.kernel_tree.proofs.Faultless.{answer_faultless}
use Rattle.kernel_tree.proofs.Scopes.{scope_outside}
use Rattle.kernel_meaning.specs.Operators.{word}
use Rattle.kernel_meaning.specs.Eval.{Names}
use Rattle.kernel_meaning.specs.ScalarRun.{returned}
use Rattle.scalar_words.proofs.Present.{IsThere, value_there}
use Rattle.vector_emit.proofs.Iterations.{Answers}

returned_there : (s : Scope) (from : ℕ) (answer : Option Returned) (m : Memory) (ns : Names) → s.inside ≡ false → answer_faults s from answer ≡ [] → IsThere (returned s answer m ns)
returned_there s from None m ns out none = (0, refl)
returned_there s from (Some a) m ns out none = let h = value_there a.value s from (Some a.type) m ns out none in (word h.0, ap (option_map word) h.1)

pub answer_is_checked : (k : Program) (l : PlainLoop) → check_fault k ≡ None → k.for_loop ≡ Some l → Answers (var_scope k) l k.answer
answer_is_checked k l checked is m ns =
    let from = loop_end k in
    returned_there (after_for_loop (var_scope k) (Some l)) from k.answer m ns (scope_outside k)
    (subst (λ l. answer_faults (after_for_loop (var_scope k) l) from k.answer ≡ []) is (answer_faultless k checked))
