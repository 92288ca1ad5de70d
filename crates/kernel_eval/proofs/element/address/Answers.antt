use Rattle.std.proofs.Common.{◌+◌, ◌*◌, ◌%◌, ◌^◌, ap, ap₂, ◌∙◌}
use Rattle.std.specs.Int.{w128}
use Rattle.std.proofs.lemmas.Int.{to_z-of_z}
use Rattle.kernel_meaning.specs.Operators.{word}
use Rattle.kernel_eval.proofs.Words.{address_is}
use Rattle.kernel_eval.proofs.element.address.Goals as goal

pub returns : goal.returns
returns c =
    let base = c.word.ensures ∙ ap word (to_z-of_z w128 c.args.base c.ranges.base) in
    let number = c.word-2.ensures ∙ ap word (to_z-of_z w128 c.args.number c.ranges.number) in
    let count = c.from.ensures ∙ c.bytes.ensures.value in
    ap₂ (λ a m. (a + m) % 2 ^ 64) base (ap₂ (λ n w. (n * w) % 2 ^ 64) count number) ∙ address_is c.args.ty c.args.base c.args.number
