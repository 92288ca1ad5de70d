use Rattle.std.proofs.Common.{◌+◌, ◌++◌, drop, Option, Vec, Global, ℕ, ap, sym, ◌∙◌}
use Rattle.std.specs.Prelude.{filter_map}
use Rattle.reg_assign.specs.declared.interval.Interval.{Interval}
use Rattle.loop_form.specs.Needs.{span, span_of}
use Rattle.loop_form.specs.View.{entry_of, entries_view}
use Rattle.loop_lists.proofs.Steps.{one_mapped, none_mapped, all_mapped}
use Rattle.loop_lists.proofs.values.push_spans.Goals.{in-Some+in_ok-push, in_default}
use Rattle.loop_lists.proofs.values.push_spans.Goals as goal

pub loop-entry-preserved : goal.loop-entry-preserved
loop-entry-preserved c =
    let l = c.loop-entry in
    let h = span_of c.args.class (entries_view c.args.all.now) in
    let is = c.args.some.now in
    let e = c.entry-item.result in
    elim c.match-last_use_if_made.branch [
      | in-Some+in_ok-push w ↦ ap (λ (v : Vec Interval Global). v.items ++ filter_map h (entries_view (drop (l.entry-index + 1) is))) w.spans-is
          ∙ one_mapped entry_of h is l.entry-index e _ _ _ _ c.loop-entry-test.true c.entry-item.is (ap (λ (o : Option ℕ). span e.item o) (sym c.last_use_if_made.ensures ∙ w.in-Some.is)) w.in_ok-push.ensures.items l.invariant
      | in_default w ↦ ap (λ (v : Vec Interval Global). v.items ++ filter_map h (entries_view (drop (l.entry-index + 1) is))) w.spans-is
          ∙ none_mapped entry_of h is l.entry-index e _ _ c.loop-entry-test.true c.entry-item.is (ap (λ (o : Option ℕ). span e.item o) (sym c.last_use_if_made.ensures ∙ w.in_default.is)) l.invariant
    ]

pub returns : goal.returns
returns c = all_mapped entry_of (span_of c.args.class (entries_view c.args.all.now)) c.args.some.now c.loop-entry.entry-index _ _ c.loop-entry-test.false c.loop-entry.invariant
