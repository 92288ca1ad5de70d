use Rattle.std.proofs.Common.{codes, decimal, ◌∙◌, arith}
use Rattle.sve_code.specs.Numbers.{size_number}
use Rattle.list_text.specs.Parts.{dotted}
use Rattle.list_text.proofs.Pieces.{piece, next, in_three}
use Rattle.list_text.proofs.parts.push_z.Goals as goal

pub push_str-requires : goal.push_str-requires
push_str-requires c = omega (arith, c.requires)

pub push_decimal-requires : goal.push_decimal-requires
push_decimal-requires c = omega (arith, c.requires, c.push_str.ensures.len)

pub push_str-requires-2 : goal.push_str-requires-2
push_str-requires-2 c = omega (arith, c.requires, c.push_str.ensures.len, c.push_decimal.ensures.short (omega (arith, c.args.register.in_range)), c.dotted_of.ensures.len)

pub returns : goal.returns
returns c = record {
  bytes =
      piece _ c.push_str-2.ensures.bytes c.dotted_of.ensures.name
      ∙ next (dotted (size_number c.args.size)) (c.push_decimal.ensures.bytes
      ∙ next (decimal c.args.register.number) c.push_str.ensures.bytes)
      ∙ in_three c.args.into.now.bytes (codes "z") (decimal c.args.register.number) (dotted (size_number c.args.size));
  len = omega (arith, c.requires, c.push_str.ensures.len, c.push_decimal.ensures.short (omega (arith, c.args.register.in_range)), c.push_str-2.ensures.len, c.dotted_of.ensures.len);
}
