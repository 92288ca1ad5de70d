use Rattle.std.proofs.Common.{codes, ◌∙◌, arith}
use Rattle.list_text.specs.Parts.{comma, lsl_by, x_or_sp, x_register}
use Rattle.list_text.proofs.Pieces.{next, in_six}
use Rattle.list_text.proofs.parts.push_register_address.Goals as goal

pub push_str-requires : goal.push_str-requires
push_str-requires c = omega (arith, c.requires.room)

pub push_x_or_sp-requires : goal.push_x_or_sp-requires
push_x_or_sp-requires c = omega (arith, c.requires.room, c.push_str.ensures.len)

pub comma_x-requires : goal.comma_x-requires
comma_x-requires c = omega (arith, c.requires.room, c.push_str.ensures.len, c.push_x_or_sp.ensures.len)

pub push_lsl-requires : goal.push_lsl-requires
push_lsl-requires c = record { short = c.requires.short; room = omega (arith, c.requires.room, c.push_str.ensures.len, c.push_x_or_sp.ensures.len, c.comma_x.ensures.len) }

pub push_str-requires-2 : goal.push_str-requires-2
push_str-requires-2 c = omega (arith, c.requires.room, c.push_str.ensures.len, c.push_x_or_sp.ensures.len, c.comma_x.ensures.len, c.push_lsl.ensures.len)

pub returns : goal.returns
returns c =
    c.push_str-2.ensures.bytes
    ∙ next (codes "]") (c.push_lsl.ensures.bytes
    ∙ next (lsl_by c.args.shift) (c.comma_x.ensures.bytes
    ∙ next (x_register c.args.offset.number) (next comma (c.push_x_or_sp.ensures.bytes
    ∙ next (x_or_sp c.args.base.number) c.push_str.ensures.bytes))))
    ∙ in_six c.args.into.now.bytes (codes ", [") (x_or_sp c.args.base.number) comma (x_register c.args.offset.number) (lsl_by c.args.shift) (codes "]")
