use Rattle.std.proofs.Common.{◌∙◌, lit≤, arith}
use Rattle.sve_code.specs.Numbers.{size_number}
use Rattle.list_text.specs.Parts.{comma, dotted, x_register}
use Rattle.list_text.proofs.Pieces.{piece, next}
use Rattle.list_text.proofs.sve.whilelo.Goals as goal

pub begin_p-requires : goal.begin_p-requires
begin_p-requires c = record { below = c.args.pd.in_range; short = lit≤ tt }

pub push_str-requires : goal.push_str-requires
push_str-requires c = omega (arith, c.begin_p.ensures.len, c.dotted_of.ensures.len)

pub comma_x-requires : goal.comma_x-requires
comma_x-requires c = omega (arith, c.begin_p.ensures.len, c.push_str.ensures.len, c.dotted_of.ensures.len)

pub comma_x-requires-2 : goal.comma_x-requires-2
comma_x-requires-2 c = omega (arith, c.begin_p.ensures.len, c.push_str.ensures.len, c.dotted_of.ensures.len, c.comma_x.ensures.len)

pub returns : goal.returns
returns c =
    c.comma_x-2.ensures.bytes
    ∙ next (x_register c.args.rm.number) (next comma (c.comma_x.ensures.bytes
    ∙ next (x_register c.args.rn.number) (next comma (piece _ c.push_str.ensures.bytes c.dotted_of.ensures.name
    ∙ next (dotted (size_number c.args.size)) c.begin_p.ensures.bytes))))
