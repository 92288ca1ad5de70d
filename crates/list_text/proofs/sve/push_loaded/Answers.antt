use Rattle.std.proofs.Common.{codes, ◌∙◌, arith}
use Rattle.sve_code.specs.Numbers.{size_number}
use Rattle.list_text.specs.Parts.{p_register, z_register}
use Rattle.list_text.proofs.Pieces.{next, in_five}
use Rattle.list_text.proofs.sve.push_loaded.Goals as goal

pub push_str-requires : goal.push_str-requires
push_str-requires c = omega (arith, c.requires)

pub push_z-requires : goal.push_z-requires
push_z-requires c = omega (arith, c.requires, c.push_str.ensures.len)

pub push_str-requires-2 : goal.push_str-requires-2
push_str-requires-2 c = omega (arith, c.requires, c.push_str.ensures.len, c.push_z.ensures.len)

pub push_p-requires : goal.push_p-requires
push_p-requires c = record { below = omega (arith, c.args.pg.in_range); room = omega (arith, c.requires, c.push_str.ensures.len, c.push_z.ensures.len, c.push_str-2.ensures.len) }

pub push_str-requires-3 : goal.push_str-requires-3
push_str-requires-3 c = omega (arith, c.requires, c.push_str.ensures.len, c.push_z.ensures.len, c.push_str-2.ensures.len, c.push_p.ensures.len)

pub returns : goal.returns
returns c = record {
  bytes =
      c.push_str-3.ensures.bytes
      ∙ next (codes "/z") (c.push_p.ensures.bytes
      ∙ next (p_register c.args.pg.number) (c.push_str-2.ensures.bytes
      ∙ next (codes "}, ") (c.push_z.ensures.bytes
      ∙ next (z_register (size_number c.args.size) c.args.zt.number) c.push_str.ensures.bytes)))
      ∙ in_five c.args.into.now.bytes (codes " {") (z_register (size_number c.args.size) c.args.zt.number) (codes "}, ") (p_register c.args.pg.number) (codes "/z");
  len = omega (arith, c.requires, c.push_str.ensures.len, c.push_z.ensures.len, c.push_str-2.ensures.len, c.push_p.ensures.len, c.push_str-3.ensures.len);
}
