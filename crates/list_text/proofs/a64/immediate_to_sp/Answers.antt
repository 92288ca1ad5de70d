use Rattle.std.proofs.Common.{◌*◌, ap, ◌∙◌, arith}
use Rattle.word_rows.specs.Field.{flag_number}
use Rattle.list_text.specs.Parts.{comma, constant, lsl_by, x_or_sp}
use Rattle.list_text.proofs.Flags.{flagged, times_flag}
use Rattle.list_text.proofs.Pieces.{piece, next}
use Rattle.list_text.proofs.a64.immediate_to_sp.Goals as goal

pub begin_x_or_sp-requires : goal.begin_x_or_sp-requires
begin_x_or_sp-requires c = c.requires

pub comma_x_or_sp-requires : goal.comma_x_or_sp-requires
comma_x_or_sp-requires c = omega (arith, c.begin_x_or_sp.ensures.len)

pub comma_constant-requires : goal.comma_constant-requires
comma_constant-requires c = omega (arith, c.begin_x_or_sp.ensures.len, c.comma_x_or_sp.ensures.len)

pub overflow_mul-from : goal.overflow_mul-from
overflow_mul-from c = omega (arith, times_flag 12 c.from.result c.args.sh c.from.ensures)

pub push_lsl-requires : goal.push_lsl-requires
push_lsl-requires c = record {
  short = omega (arith, times_flag 12 c.from.result c.args.sh c.from.ensures);
  room = omega (arith, c.begin_x_or_sp.ensures.len, c.comma_x_or_sp.ensures.len, c.comma_constant.ensures.len);
}

pub returns : goal.returns
returns c =
    piece _ c.push_lsl.ensures.bytes (ap (λ n. lsl_by (12 * n)) (c.from.ensures ∙ flagged c.args.sh))
    ∙ next (lsl_by (12 * flag_number c.args.sh)) (c.comma_constant.ensures.bytes
    ∙ next (constant c.args.imm12.number) (next comma (c.comma_x_or_sp.ensures.bytes
    ∙ next (x_or_sp c.args.rn.number) (next comma c.begin_x_or_sp.ensures.bytes))))
