use Rattle.std.proofs.Common.{codes, ◌∙◌, arith}
use Rattle.list_text.specs.Parts.{comma, x_or_sp, z_register}
use Rattle.list_text.proofs.Pieces.{next, in_five}
use Rattle.list_text.proofs.parts.push_vector_address.Goals as goal

pub push_str-requires : goal.push_str-requires
push_str-requires c = omega (arith, c.requires)

pub push_x_or_sp-requires : goal.push_x_or_sp-requires
push_x_or_sp-requires c = omega (arith, c.requires, c.push_str.ensures.len)

pub comma_z-requires : goal.comma_z-requires
comma_z-requires c = omega (arith, c.requires, c.push_str.ensures.len, c.push_x_or_sp.ensures.len)

pub push_str-requires-2 : goal.push_str-requires-2
push_str-requires-2 c = omega (arith, c.requires, c.push_str.ensures.len, c.push_x_or_sp.ensures.len, c.comma_z.ensures.len)

pub returns : goal.returns
returns c =
    c.push_str-2.ensures.bytes
    ∙ next (codes "]") (c.comma_z.ensures.bytes
    ∙ next (z_register 3 c.args.offsets.number) (next comma (c.push_x_or_sp.ensures.bytes
    ∙ next (x_or_sp c.args.base.number) c.push_str.ensures.bytes)))
    ∙ in_five c.args.into.now.bytes (codes ", [") (x_or_sp c.args.base.number) comma (z_register 3 c.args.offsets.number) (codes "]")
