use Rattle.std.proofs.Common.{◌+◌, List, [], ◌∷◌, ◌++◌, take, drop, sym, ap, ◌∙◌, arith, append_assoc, append-nil}
use Rattle.std.proofs.lemmas.List.{map-append, take_more, drop_all, length-take-le}
use Rattle.std.proofs.lemmas.Result.{IfOk-from_err}
use Rattle.kernel_tree.proofs.Walks.{next_item}
use Rattle.loop_form.specs.declared.entry.Entry.{Entry}
use Rattle.loop_form.specs.HeldView.{view}
use Rattle.loop_form.specs.Needs.{new_constant, constants}
use Rattle.loop_form.specs.View.{content_of, entry_of, entries_view}
use Rattle.loop_lists.proofs.held_throughout.push_constants.Goals as goal

pub slice_bounds-push_new-end : goal.slice_bounds-push_new-end
slice_bounds-push_new-end c = sym (length-take-le c.loop-entry.place c.args.entries.now (omega (arith, c.loop-entry.invariant.place, c.loop-entry-test.true)))

pub returns-in_err-push_new : goal.returns-in_err-push_new
returns-in_err-push_new c = IfOk-from_err c.from_residual.result _ c.from_residual.ensures.0

pub loop-entry-preserved : goal.loop-entry-preserved
unfolding constants
loop-entry-preserved c =
    let l = c.loop-entry in
    let es = c.args.entries.now in
    let i = l.entry-index in
    let x = c.entry-item.result in
    let rest = entries_view (drop (i + 1) es) in
    let old = view l.held.items in
    let front = take_more es i x c.loop-entry-test.true ∙ ap (λ (y : Entry). take i es ++ y ∷ []) (sym c.entry-item.is) in
    let before = ap entries_view front ∙ map-append entry_of (take i es) (x ∷ []) in
    record {
      place = ap (λ n. n + 1) l.invariant.place;
      held =
          ap (λ h. h ++ constants (entries_view (take (i + 1) es)) rest) (c.in_ok-push_new.ensures ∙ ap (λ n. old ++ new_constant (entries_view (take n es)) x.ty (content_of x.content)) l.invariant.place)
          ∙ append_assoc old (new_constant (entries_view (take i es)) x.ty (content_of x.content)) (constants (entries_view (take (i + 1) es)) rest)
          ∙ ap (λ b. old ++ (new_constant (entries_view (take i es)) x.ty (content_of x.content) ++ constants b rest)) before
          ∙ sym (ap (λ (ys : List Entry). old ++ constants (entries_view (take i es)) (entries_view ys)) (next_item es i x c.loop-entry-test.true c.entry-item.is))
          ∙ l.invariant.held;
    }

pub returns : goal.returns
unfolding constants
returns c =
    let l = c.loop-entry in
    let es = c.args.entries.now in
    sym (ap (λ (ys : List Entry). view l.held.items ++ constants (entries_view (take l.entry-index es)) (entries_view ys)) (drop_all l.entry-index es c.loop-entry-test.false) ∙ append-nil (view l.held.items)) ∙ l.invariant.held
