use Rattle.std.proofs.Common.{codes, ◌∙◌, lit≤, arith}
use Rattle.list_text.specs.Parts.{comma, p_register}
use Rattle.list_text.proofs.Pieces.{next}
use Rattle.list_text.proofs.sve.ptest.Goals as goal

pub begin_p-requires : goal.begin_p-requires
begin_p-requires c = record { below = c.args.pg.in_range; short = lit≤ tt }

pub comma_p-requires : goal.comma_p-requires
comma_p-requires c = record { below = c.args.pn.in_range; room = omega (arith, c.begin_p.ensures.len) }

pub push_str-requires : goal.push_str-requires
push_str-requires c = omega (arith, c.begin_p.ensures.len, c.comma_p.ensures.len)

pub returns : goal.returns
returns c =
    c.push_str.ensures.bytes ∙ next (codes ".b") (c.comma_p.ensures.bytes ∙ next (p_register c.args.pn.number) (next comma c.begin_p.ensures.bytes))
