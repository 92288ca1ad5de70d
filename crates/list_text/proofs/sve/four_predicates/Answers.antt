use Rattle.std.proofs.Common.{codes, ◌∙◌, arith}
use Rattle.list_text.specs.Parts.{p_register}
use Rattle.list_text.proofs.Pieces.{next}
use Rattle.list_text.proofs.sve.four_predicates.Goals as goal

pub begin_p-requires : goal.begin_p-requires
begin_p-requires c = record { below = c.args.pd.in_range; short = c.requires }

pub push_str-requires : goal.push_str-requires
push_str-requires c = omega (arith, c.begin_p.ensures.len)

pub push_p-requires : goal.push_p-requires
push_p-requires c = record { below = c.args.pg.in_range; room = omega (arith, c.begin_p.ensures.len, c.push_str.ensures.len) }

pub push_str-requires-2 : goal.push_str-requires-2
push_str-requires-2 c = omega (arith, c.begin_p.ensures.len, c.push_str.ensures.len, c.push_p.ensures.len)

pub push_p-requires-2 : goal.push_p-requires-2
push_p-requires-2 c = record { below = c.args.pn.in_range; room = omega (arith, c.begin_p.ensures.len, c.push_str.ensures.len, c.push_p.ensures.len, c.push_str-2.ensures.len) }

pub push_str-requires-3 : goal.push_str-requires-3
push_str-requires-3 c = omega (arith, c.begin_p.ensures.len, c.push_str.ensures.len, c.push_p.ensures.len, c.push_str-2.ensures.len, c.push_p-2.ensures.len)

pub push_p-requires-3 : goal.push_p-requires-3
push_p-requires-3 c = record { below = c.args.pm.in_range; room = omega (arith, c.begin_p.ensures.len, c.push_str.ensures.len, c.push_p.ensures.len, c.push_str-2.ensures.len, c.push_p-2.ensures.len, c.push_str-3.ensures.len) }

pub push_str-requires-4 : goal.push_str-requires-4
push_str-requires-4 c = omega (arith, c.begin_p.ensures.len, c.push_str.ensures.len, c.push_p.ensures.len, c.push_str-2.ensures.len, c.push_p-2.ensures.len, c.push_str-3.ensures.len, c.push_p-3.ensures.len)

pub returns : goal.returns
returns c =
    c.push_str-4.ensures.bytes
    ∙ next (codes ".b") (c.push_p-3.ensures.bytes
    ∙ next (p_register c.args.pm.number) (c.push_str-3.ensures.bytes
    ∙ next (codes ".b, ") (c.push_p-2.ensures.bytes
    ∙ next (p_register c.args.pn.number) (c.push_str-2.ensures.bytes
    ∙ next (codes "/z, ") (c.push_p.ensures.bytes
    ∙ next (p_register c.args.pg.number) (c.push_str.ensures.bytes
    ∙ next (codes ".b, ") c.begin_p.ensures.bytes))))))
