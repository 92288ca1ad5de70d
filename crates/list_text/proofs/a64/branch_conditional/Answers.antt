use Rattle.std.proofs.Common.{codes, ◌∙◌, lit≤, arith}
use Rattle.a64_code.specs.View.{cond_number}
use Rattle.list_text.specs.Parts.{cond_name, signed_constant}
use Rattle.list_text.proofs.Pieces.{piece, next}
use Rattle.list_text.proofs.a64.branch_conditional.Goals as goal

pub begin-requires : goal.begin-requires
begin-requires c = lit≤ tt

pub push_str-requires : goal.push_str-requires
push_str-requires c = omega (arith, c.begin.ensures.len, c.name_of_cond.ensures.len)

pub push_str-requires-2 : goal.push_str-requires-2
push_str-requires-2 c = omega (arith, c.begin.ensures.len, c.push_str.ensures.len, c.name_of_cond.ensures.len)

pub push_offset_19-requires : goal.push_offset_19-requires
push_offset_19-requires c = omega (arith, c.begin.ensures.len, c.push_str.ensures.len, c.name_of_cond.ensures.len, c.push_str-2.ensures.len)

pub returns : goal.returns
returns c =
    c.push_offset_19.ensures.bytes
    ∙ next (signed_constant 4 19 c.args.imm19.number) (c.push_str-2.ensures.bytes
    ∙ next (codes " ") (piece _ c.push_str.ensures.bytes c.name_of_cond.ensures.name
    ∙ next (cond_name (cond_number c.args.cond)) c.begin.ensures.bytes))
