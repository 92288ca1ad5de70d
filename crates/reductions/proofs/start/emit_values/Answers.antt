use Rattle.std.proofs.Common.{◌+◌, ◌++◌, drop, ap, ◌∙◌}
use Rattle.loop_form.specs.HeldView.{view}
use Rattle.loop_form.specs.View.{program}
use Rattle.reductions.specs.EdgeCode.{holds_code}
use Rattle.reductions.proofs.StartEmits.{next_value}
use Rattle.reductions.proofs.start.emit_values.Goals as goal

pub loop-value-preserved : goal.loop-value-preserved
loop-value-preserved c =
    let l = c.loop-value in
    let k = program c.args.facts.now.kernel.now in
    let a = c.args.regs.now in
    record {
      place = ap (λ n. n + 1) l.invariant.place;
      labels = c.in_ok-emit_value.ensures.labels ∙ l.invariant.labels;
      code = λ rest.
          c.in_ok-emit_value.ensures.code (holds_code k a (l.place + 1) (view (drop (l.value-index + 1) c.args.values.now)) rest)
          ∙ ap (λ es. l.draft.entries ++ es) (next_value k a l.place c.counted_vector.result.number l.value-index c.args.values.now _ rest c.loop-value-test.true c.counted_vector.ensures)
          ∙ l.invariant.code rest;
    }
