use Rattle.std.proofs.Common.{codes, ◌∙◌, arith}
use Rattle.sve_code.specs.Numbers.{size_number}
use Rattle.list_text.specs.Parts.{comma, dotted, p_register, z_register}
use Rattle.list_text.proofs.Pieces.{piece, next}
use Rattle.list_text.proofs.sve.compare_to.Goals as goal

pub begin_p-requires : goal.begin_p-requires
begin_p-requires c = record { below = c.args.pd.in_range; short = c.requires }

pub push_str-requires : goal.push_str-requires
push_str-requires c = omega (arith, c.begin_p.ensures.len, c.dotted_of.ensures.len)

pub comma_p-requires : goal.comma_p-requires
comma_p-requires c = record { below = omega (arith, c.args.pg.in_range); room = omega (arith, c.begin_p.ensures.len, c.push_str.ensures.len, c.dotted_of.ensures.len) }

pub push_str-requires-2 : goal.push_str-requires-2
push_str-requires-2 c = omega (arith, c.begin_p.ensures.len, c.push_str.ensures.len, c.dotted_of.ensures.len, c.comma_p.ensures.len)

pub push_z-requires : goal.push_z-requires
push_z-requires c = omega (arith, c.begin_p.ensures.len, c.push_str.ensures.len, c.dotted_of.ensures.len, c.comma_p.ensures.len, c.push_str-2.ensures.len)

pub comma_z-requires : goal.comma_z-requires
comma_z-requires c = omega (arith, c.begin_p.ensures.len, c.push_str.ensures.len, c.dotted_of.ensures.len, c.comma_p.ensures.len, c.push_str-2.ensures.len, c.push_z.ensures.len)

pub returns : goal.returns
returns c =
    c.comma_z.ensures.bytes
    ∙ next (z_register (size_number c.args.size) c.args.zm.number) (next comma (c.push_z.ensures.bytes
    ∙ next (z_register (size_number c.args.size) c.args.zn.number) (c.push_str-2.ensures.bytes
    ∙ next (codes "/z, ") (c.comma_p.ensures.bytes
    ∙ next (p_register c.args.pg.number) (next comma (piece _ c.push_str.ensures.bytes c.dotted_of.ensures.name
    ∙ next (dotted (size_number c.args.size)) c.begin_p.ensures.bytes))))))
