use Rattle.std.proofs.Common.{◌+◌, ◌++◌, length, drop, ap, sym, ◌∙◌, arith, subst}
use Rattle.std.specs.Prelude.{filter_map}
use Rattle.arrayvec.specs.ArrayVec.{ArrayVec}
use Rattle.kernel_tree.specs.Items.{loop_index}
use Rattle.kernel_tree.proofs.Walks.{next_item}
use Rattle.loop_form.specs.declared.stream.Stream.{Stream}
use Rattle.loop_form.specs.Near.{AreNear}
use Rattle.loop_form.specs.Streams.{stream_of}
use Rattle.loop_form.specs.View.{program, entry_of, entries_view}
use Rattle.loop_lists.proofs.Steps.{one_mapped, none_mapped, all_mapped}
use Rattle.loop_lists.proofs.access.streams_among.Goals.{in-Some, in_default}
use Rattle.loop_lists.proofs.access.streams_among.Goals as goal

pub loop-entry-preserved : goal.loop-entry-preserved
loop-entry-preserved c =
    let l = c.loop-entry in
    let k = program c.args.kernel.now in
    let es = c.args.entries.now in
    let i = l.entry-index in
    let e = c.entry-item.result in
    let lt = c.loop-entry-test.true in
    let at = c.entry-item.is in
    let near = (subst (AreNear (loop_index k)) (ap entries_view (next_item es i e lt at)) l.invariant.near).1 in
    elim c.match-stream.branch [
      | in-Some w ↦
          let same = ap (λ (v : ArrayVec Stream). length v.items) w.streams-is in
          record {
            room = omega (arith, same, w.push.ensures.len, l.invariant.room);
            near = near;
            streams = ap (λ (v : ArrayVec Stream). v.items ++ filter_map (stream_of k) (entries_view (drop (i + 1) es))) w.streams-is
                ∙ one_mapped entry_of (stream_of k) es i e _ _ _ _ lt at (sym c.stream.ensures ∙ w.in-Some.is) w.push.ensures.items l.invariant.streams;
          }
      | in_default w ↦
          let same = ap (λ (v : ArrayVec Stream). length v.items) w.streams-is in
          record {
            room = omega (arith, same, l.invariant.room);
            near = near;
            streams = ap (λ (v : ArrayVec Stream). v.items ++ filter_map (stream_of k) (entries_view (drop (i + 1) es))) w.streams-is
                ∙ none_mapped entry_of (stream_of k) es i e _ _ lt at (sym c.stream.ensures ∙ w.in_default.is) l.invariant.streams;
          }
    ]

pub returns : goal.returns
returns c = all_mapped entry_of (stream_of (program c.args.kernel.now)) c.args.entries.now c.loop-entry.entry-index _ _ c.loop-entry-test.false c.loop-entry.invariant.streams

pub loop-entry-init : goal.loop-entry-init
loop-entry-init c =
    let none = ap length c.new-streams.ensures in
    record {
      room = omega (arith, none);
      near = c.requires.near;
      streams = ap (λ l. l ++ filter_map (stream_of (program c.args.kernel.now)) (entries_view c.args.entries.now)) c.new-streams.ensures;
    }

pub stream-requires : goal.stream-requires
stream-requires c =
    let l = c.loop-entry in
    (subst (AreNear (loop_index (program c.args.kernel.now))) (ap entries_view (next_item c.args.entries.now l.entry-index c.entry-item.result c.loop-entry-test.true c.entry-item.is)) l.invariant.near).0
