use Rattle.std.proofs.Common.{◌≡◌, ◌+◌, drop, refl, sym, ap, ◌∙◌}
use Rattle.std.specs.Prelude.{max, if◌then◌else◌}
use Rattle.loop_form.specs.Listing.{names, last_use_from}
use Rattle.loop_form.specs.View.{entry_of, entries_view}
use Rattle.loop_lists.proofs.Loops.{one_carried, all_carried}
use Rattle.loop_lists.proofs.item_list.last_use_of.Goals.{then-is_name, else-is_name}
use Rattle.loop_lists.proofs.item_list.last_use_of.Goals as goal

pub loop-entry-preserved : goal.loop-entry-preserved
unfolding last_use_from
loop-entry-preserved c =
    let l = c.loop-entry in
    let x = c.entry-item.result in
    let rest = drop (l.entry-index + 1) c.args.entries.now in
    let last : (if names c.args.name.now (entry_of x) then max l.last x.last_use else l.last) ≡ c.if-is_name.last =
    elim c.if-is_name.branch [
      | then-is_name w ↦ ap (λ b. if b then max l.last x.last_use else l.last) (sym c.is_name.ensures ∙ w.if-is_name.true) ∙ sym w.max-last.ensures ∙ sym w.last-is
      | else-is_name w ↦ ap (λ b. if b then max l.last x.last_use else l.last) (sym c.is_name.ensures ∙ w.if-is_name.false) ∙ sym w.last-is
    ] in
    one_carried (λ n es. last_use_from c.args.name.now n (entries_view es)) c.args.entries.now l.entry-index x l.last c.if-is_name.last _ c.loop-entry-test.true c.entry-item.is
    (ap (λ n. last_use_from c.args.name.now n (entries_view rest)) last) l.invariant

pub returns : goal.returns
unfolding last_use_from
returns c = all_carried (λ n es. last_use_from c.args.name.now n (entries_view es)) c.args.entries.now c.loop-entry.entry-index c.loop-entry.last _ refl c.loop-entry-test.false c.loop-entry.invariant
