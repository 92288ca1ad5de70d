use Rattle.std.proofs.Common.{ap, length, lit<, arith}
use Rattle.std.proofs.lemmas.Fmt.{length-decimal-le}
use Rattle.list_text.proofs.parts.push_decimal.Goals as goal

pub returns-clause-short : goal.returns-clause-short
returns-clause-short c = λ h. omega (arith, c.push_str.ensures.len, ap length c.format.ensures.text, length-decimal-le 2 c.args.number (lit< tt) h (omega arith))
