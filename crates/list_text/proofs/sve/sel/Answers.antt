use Rattle.std.proofs.Common.{◌∙◌, lit≤, arith}
use Rattle.sve_code.specs.Numbers.{size_number}
use Rattle.list_text.specs.Parts.{comma, p_register, z_register}
use Rattle.list_text.proofs.Pieces.{next}
use Rattle.list_text.proofs.sve.sel.Goals as goal

pub begin_z-requires : goal.begin_z-requires
begin_z-requires c = lit≤ tt

pub comma_p-requires : goal.comma_p-requires
comma_p-requires c = record { below = c.args.pg.in_range; room = omega (arith, c.begin_z.ensures.len) }

pub comma_z-requires : goal.comma_z-requires
comma_z-requires c = omega (arith, c.begin_z.ensures.len, c.comma_p.ensures.len)

pub comma_z-requires-2 : goal.comma_z-requires-2
comma_z-requires-2 c = omega (arith, c.begin_z.ensures.len, c.comma_p.ensures.len, c.comma_z.ensures.len)

pub returns : goal.returns
returns c =
    c.comma_z-2.ensures.bytes
    ∙ next (z_register (size_number c.args.size) c.args.zm.number) (next comma (c.comma_z.ensures.bytes
    ∙ next (z_register (size_number c.args.size) c.args.zn.number) (next comma (c.comma_p.ensures.bytes
    ∙ next (p_register c.args.pg.number) (next comma c.begin_z.ensures.bytes)))))
