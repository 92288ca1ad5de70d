use Rattle.std.proofs.Common.{codes, ◌∙◌, lit≤, arith}
use Rattle.list_text.specs.Parts.{p_register}
use Rattle.list_text.proofs.Pieces.{next}
use Rattle.list_text.proofs.sve.rdffr_predicated.Goals as goal

pub begin_p-requires : goal.begin_p-requires
begin_p-requires c = record { below = c.args.pd.in_range; short = lit≤ tt }

pub push_str-requires : goal.push_str-requires
push_str-requires c = omega (arith, c.begin_p.ensures.len)

pub push_p-requires : goal.push_p-requires
push_p-requires c = record { below = c.args.pg.in_range; room = omega (arith, c.begin_p.ensures.len, c.push_str.ensures.len) }

pub push_str-requires-2 : goal.push_str-requires-2
push_str-requires-2 c = omega (arith, c.begin_p.ensures.len, c.push_str.ensures.len, c.push_p.ensures.len)

pub returns : goal.returns
returns c =
    c.push_str-2.ensures.bytes
    ∙ next (codes "/z") (c.push_p.ensures.bytes
    ∙ next (p_register c.args.pg.number) (c.push_str.ensures.bytes
    ∙ next (codes ".b, ") c.begin_p.ensures.bytes))
