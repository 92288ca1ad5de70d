use Rattle.std.proofs.Common.{◌++◌, ap, sym, ◌∙◌, arith}
use Rattle.std.specs.Int.{to_le_bytes, from_le_bytes, w32}
use Rattle.page.proofs.Numbers.{number_and_rest}
use Rattle.page.proofs.request.number_in.Goals as goal

pub returns-clause-found : goal.returns-clause-found
returns-clause-found c =
    let parts = c.in-Some.ensures.cases in
    number_and_rest c.args.bytes.now c.from_le_bytes.result (omega (arith, parts.2)) (λ i. omega (arith, c.type_inv.bytes i))
    (c.from_le_bytes.ensures ∙ ap (from_le_bytes w32) parts.0)
    ∙ ap (λ it. to_le_bytes w32 c.from_le_bytes.result ++ it) (sym parts.1)
