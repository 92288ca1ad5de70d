use Rattle.std.proofs.Common.{◌∙◌, lit≤, arith}
use Rattle.sve_code.specs.Numbers.{size_number}
use Rattle.list_text.specs.Parts.{comma, dotted, p_register}
use Rattle.list_text.proofs.Pieces.{piece, next}
use Rattle.list_text.proofs.sve.cntp.Goals as goal

pub begin_x-requires : goal.begin_x-requires
begin_x-requires c = lit≤ tt

pub comma_p-requires : goal.comma_p-requires
comma_p-requires c = record { below = c.args.pg.in_range; room = omega (arith, c.begin_x.ensures.len) }

pub comma_p-requires-2 : goal.comma_p-requires-2
comma_p-requires-2 c = record { below = c.args.pn.in_range; room = omega (arith, c.begin_x.ensures.len, c.comma_p.ensures.len) }

pub push_str-requires : goal.push_str-requires
push_str-requires c = omega (arith, c.begin_x.ensures.len, c.comma_p.ensures.len, c.comma_p-2.ensures.len, c.dotted_of.ensures.len)

pub returns : goal.returns
returns c =
    piece _ c.push_str.ensures.bytes c.dotted_of.ensures.name
    ∙ next (dotted (size_number c.args.size)) (c.comma_p-2.ensures.bytes
    ∙ next (p_register c.args.pn.number) (next comma (c.comma_p.ensures.bytes
    ∙ next (p_register c.args.pg.number) (next comma c.begin_x.ensures.bytes))))
