use Rattle.std.proofs.Common.{◌∷◌, ◌++◌, ap₂, ◌∙◌}
use Rattle.std.specs.Prelude.{ℤ, string_bytes}
use Rattle.std.specs.Int.{w128}
use Rattle.std.proofs.lemmas.Int.{to_z-of_z}
use Rattle.std.proofs.lemmas.Result.{IfOk-weaker, IfOk-from_err}
use Rattle.kernel_tree.specs.declared.mark.Mark.{Mark}
use Rattle.kernel_tree.specs.TextToken.{IsMark}
use Rattle.kernel_tree.specs.Printing.{spaced, closed, print_count}
use Rattle.kernel_print.proofs.expr.end_shift.Goals as goal

pub returns-in_err-put_mark : goal.returns-in_err-put_mark
returns-in_err-put_mark c = IfOk-from_err _ _ c.from_residual.ensures.0

pub returns-in_err-put_count : goal.returns-in_err-put_count
returns-in_err-put_count c = IfOk-from_err _ _ c.from_residual-in_err-put_count.ensures.0

pub returns : goal.returns
returns c = IfOk-weaker c.close.result _ _ (λ _ h rest.
    h rest ∙ c.in_ok-put_count.ensures _ ∙ c.in_ok-put_mark.ensures _
    ∙ ap₂ (λ (m : Mark) (n : ℤ). string_bytes c.args.out.now ++ spaced (IsMark m ∷ print_count n (closed c.args.place rest))) c.shift_mark.ensures (to_z-of_z w128 c.args.count c.ranges.count)) c.close.ensures
