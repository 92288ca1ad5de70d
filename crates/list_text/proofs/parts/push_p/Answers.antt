use Rattle.std.proofs.Common.{codes, decimal, ◌∙◌, arith}
use Rattle.list_text.proofs.Pieces.{next, in_two}
use Rattle.list_text.proofs.parts.push_p.Goals as goal

pub push_str-requires : goal.push_str-requires
push_str-requires c = omega (arith, c.requires.room)

pub push_decimal-requires : goal.push_decimal-requires
push_decimal-requires c = omega (arith, c.requires.room, c.push_str.ensures.len)

pub returns : goal.returns
returns c = record {
  bytes =
      c.push_decimal.ensures.bytes ∙ next (decimal c.args.number) c.push_str.ensures.bytes
      ∙ in_two c.args.into.now.bytes (codes "p") (decimal c.args.number);
  len = omega (arith, c.requires.room, c.push_str.ensures.len, c.push_decimal.ensures.short (omega (arith, c.requires.below)));
}
