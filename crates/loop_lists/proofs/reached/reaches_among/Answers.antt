use Rattle.std.proofs.Common.{◌+◌, ◌++◌, length, drop, ap, sym, ◌∙◌, arith}
use Rattle.std.specs.Prelude.{filter_map}
use Rattle.arrayvec.specs.ArrayVec.{ArrayVec}
use Rattle.loop_form.specs.declared.reach.Reach.{Reach}
use Rattle.loop_form.specs.Reaches.{reach_at}
use Rattle.loop_form.specs.View.{program, entry_of, entries_view}
use Rattle.loop_lists.proofs.Steps.{one_mapped, none_mapped, all_mapped}
use Rattle.loop_lists.proofs.reached.reaches_among.Goals.{in-Some, in_default}
use Rattle.loop_lists.proofs.reached.reaches_among.Goals as goal

pub loop-entry-preserved : goal.loop-entry-preserved
loop-entry-preserved c =
    let l = c.loop-entry in
    let k = program c.args.kernel.now in
    let es = c.args.entries.now in
    let i = l.entry-index in
    let e = c.entry-item.result in
    let lt = c.loop-entry-test.true in
    let at = c.entry-item.is in
    elim c.match-reach_in.branch [
      | in-Some w ↦
          let same = ap (λ (v : ArrayVec Reach). length v.items) w.reaches-is in
          record {
            room = omega (arith, same, w.push.ensures.len, l.invariant.room);
            reaches = ap (λ (v : ArrayVec Reach). v.items ++ filter_map (reach_at k) (entries_view (drop (i + 1) es))) w.reaches-is
                ∙ one_mapped entry_of (reach_at k) es i e _ _ _ _ lt at (sym c.reach_in.ensures ∙ w.in-Some.is) w.push.ensures.items l.invariant.reaches;
          }
      | in_default w ↦
          let same = ap (λ (v : ArrayVec Reach). length v.items) w.reaches-is in
          record {
            room = omega (arith, same, l.invariant.room);
            reaches = ap (λ (v : ArrayVec Reach). v.items ++ filter_map (reach_at k) (entries_view (drop (i + 1) es))) w.reaches-is
                ∙ none_mapped entry_of (reach_at k) es i e _ _ lt at (sym c.reach_in.ensures ∙ w.in_default.is) l.invariant.reaches;
          }
    ]

pub returns : goal.returns
returns c = all_mapped entry_of (reach_at (program c.args.kernel.now)) c.args.entries.now c.loop-entry.entry-index _ _ c.loop-entry-test.false c.loop-entry.invariant.reaches
