use Rattle.std.proofs.Common.{◌∙◌, arith}
use Rattle.list_text.specs.Parts.{comma, x_register}
use Rattle.list_text.proofs.Pieces.{next}
use Rattle.list_text.proofs.a64.four_registers.Goals as goal

pub begin_x-requires : goal.begin_x-requires
begin_x-requires c = c.requires

pub comma_x-requires : goal.comma_x-requires
comma_x-requires c = omega (arith, c.begin_x.ensures.len)

pub comma_x-requires-2 : goal.comma_x-requires-2
comma_x-requires-2 c = omega (arith, c.begin_x.ensures.len, c.comma_x.ensures.len)

pub comma_x-requires-3 : goal.comma_x-requires-3
comma_x-requires-3 c = omega (arith, c.begin_x.ensures.len, c.comma_x.ensures.len, c.comma_x-2.ensures.len)

pub returns : goal.returns
returns c =
    c.comma_x-3.ensures.bytes
    ∙ next (x_register c.args.ra.number) (next comma (c.comma_x-2.ensures.bytes
    ∙ next (x_register c.args.rm.number) (next comma (c.comma_x.ensures.bytes
    ∙ next (x_register c.args.rn.number) (next comma c.begin_x.ensures.bytes)))))
