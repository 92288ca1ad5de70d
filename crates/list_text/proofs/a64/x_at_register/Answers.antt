use Rattle.std.proofs.Common.{◌*◌, ap, ◌∙◌, arith}
use Rattle.word_rows.specs.Field.{flag_number}
use Rattle.list_text.specs.Parts.{at_register}
use Rattle.list_text.proofs.Flags.{flagged, times_flag}
use Rattle.list_text.proofs.Pieces.{piece, next}
use Rattle.list_text.proofs.a64.x_at_register.Goals as goal

pub begin_x-requires : goal.begin_x-requires
begin_x-requires c = c.requires.short

pub overflow_mul-log : goal.overflow_mul-log
overflow_mul-log c = omega (arith, c.requires.sized, times_flag c.args.log c.from.result c.args.scaled c.from.ensures)

pub push_register_address-requires : goal.push_register_address-requires
push_register_address-requires c = record {
  short = omega (arith, c.requires.sized, times_flag c.args.log c.from.result c.args.scaled c.from.ensures);
  room = omega (arith, c.begin_x.ensures.len);
}

pub returns : goal.returns
returns c =
    piece _ c.push_register_address.ensures (ap (λ n. at_register c.args.rn.number c.args.rm.number (c.args.log * n)) (c.from.ensures ∙ flagged c.args.scaled))
    ∙ next (at_register c.args.rn.number c.args.rm.number (c.args.log * flag_number c.args.scaled)) c.begin_x.ensures.bytes
