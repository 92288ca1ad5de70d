use Rattle.std.proofs.Common.{codes, ◌∙◌, arith}
use Rattle.a64_code.specs.View.{cond_number}
use Rattle.list_text.specs.Parts.{comma, cond_name, x_register}
use Rattle.list_text.proofs.Pieces.{piece, next}
use Rattle.list_text.proofs.a64.registers_and_cond.Goals as goal

pub begin_x-requires : goal.begin_x-requires
begin_x-requires c = c.requires

pub comma_x-requires : goal.comma_x-requires
comma_x-requires c = omega (arith, c.begin_x.ensures.len)

pub comma_x-requires-2 : goal.comma_x-requires-2
comma_x-requires-2 c = omega (arith, c.begin_x.ensures.len, c.comma_x.ensures.len)

pub push_str-requires : goal.push_str-requires
push_str-requires c = omega (arith, c.begin_x.ensures.len, c.comma_x.ensures.len, c.comma_x-2.ensures.len)

pub push_str-requires-2 : goal.push_str-requires-2
push_str-requires-2 c = omega (arith, c.begin_x.ensures.len, c.comma_x.ensures.len, c.comma_x-2.ensures.len, c.push_str.ensures.len, c.name_of_cond.ensures.len)

pub returns : goal.returns
returns c =
    piece _ c.push_str-2.ensures.bytes c.name_of_cond.ensures.name
    ∙ next (cond_name (cond_number c.args.cond)) (c.push_str.ensures.bytes
    ∙ next (codes ", ") (c.comma_x-2.ensures.bytes
    ∙ next (x_register c.args.rm.number) (next comma (c.comma_x.ensures.bytes
    ∙ next (x_register c.args.rn.number) (next comma c.begin_x.ensures.bytes)))))
