use Rattle.std.proofs.Common.{decimal, ◌∙◌, arith}
use Rattle.sve_code.specs.Numbers.{size_number}
use Rattle.list_text.specs.Parts.{comma, p_register, z_register}
use Rattle.list_text.proofs.Pieces.{next}
use Rattle.list_text.proofs.sve.reduction_to.Goals as goal

pub begin-requires : goal.begin-requires
begin-requires c = c.requires.short

pub push_str-requires : goal.push_str-requires
push_str-requires c = omega (arith, c.begin.ensures.len, c.requires.one)

pub push_decimal-requires : goal.push_decimal-requires
push_decimal-requires c = omega (arith, c.begin.ensures.len, c.push_str.ensures.len, c.requires.one)

pub comma_p-requires : goal.comma_p-requires
comma_p-requires c = record { below = omega (arith, c.args.pg.in_range); room = omega (arith, c.begin.ensures.len, c.push_str.ensures.len, c.requires.one, c.push_decimal.ensures.len) }

pub comma_z-requires : goal.comma_z-requires
comma_z-requires c = omega (arith, c.begin.ensures.len, c.push_str.ensures.len, c.requires.one, c.push_decimal.ensures.len, c.comma_p.ensures.len)

pub returns : goal.returns
returns c =
    c.comma_z.ensures.bytes
    ∙ next (z_register (size_number c.args.size) c.args.zn.number) (next comma (c.comma_p.ensures.bytes
    ∙ next (p_register c.args.pg.number) (next comma (c.push_decimal.ensures.bytes
    ∙ next (decimal c.args.zd.number) (c.push_str.ensures.bytes
    ∙ next c.args.letter.now c.begin.ensures.bytes)))))
