use Rattle.std.proofs.Common.{◌≡◌, ◌++◌, length, map, ap, ◌∙◌, arith}
use Rattle.std.proofs.lemmas.List.{length-map}
use Rattle.guest_types.specs.declared.length.Width.TheVariants.{B}
use Rattle.reg_assign.specs.declared.interval.RegClass.TheVariants.{Z, P}
use Rattle.std.proofs.lemmas.Result.{IfOk-from_err}
use Rattle.loop_form.specs.Entries.{entries_of, loop_entries}
use Rattle.loop_form.specs.HeldView.{view_of, view}
use Rattle.loop_form.specs.Lanes.{widest}
use Rattle.loop_form.specs.Listing.{item_of}
use Rattle.loop_form.specs.Needs.{throughout}
use Rattle.loop_form.specs.Places.{places_from}
use Rattle.loop_form.specs.View.{program, entry_of, entries_view}
use Rattle.loop_lists.proofs.facts.facts_by.Goals as goal

pub invariant_of-result : goal.invariant_of-result
invariant_of-result c =
    let k = program c.args.kernel.now in
    let all = entries_view c.args.all.now in
    let looped = entries_view c.args.looped.now in
    let number = c.len.ensures in
    let held = c.in_ok-push_of_loop.ensures ∙ ap (λ hs. view hs ++ throughout k Z) c.new-held.ensures.items in
    let many : length (map view_of c.push_of_loop.new.held.items) ≡ length (throughout k Z) = ap length held in
    let same = length-map c.push_of_loop.new.held.items view_of in
    let count : c.len.result ≡ length (throughout k Z) = omega (arith, number, many, same) in
    record {
      listed = c.in_ok-listing.ensures ∙ ap (λ es. map (item_of es) es) c.requires.all;
      looped = ∣ ap entries_view c.in_ok-entries.ensures.items ∙ c.requires.looped ∣₁;
      begins = c.first_item-first.ensures;
      sized = c.widest_of-width.ensures ∙ ap (widest k B) c.requires.looped;
      throughout = held;
      valued = c.in_ok-values.ensures ∙ ap (λ n. places_from Z all n looped) count ∙ ap (λ es. places_from Z es (length (throughout k Z)) looped) c.requires.all ∙ ap (places_from Z (entries_of k) (length (throughout k Z))) c.requires.looped;
      tested = c.in_ok-truths.ensures ∙ ap (λ es. places_from P es 0 looped) c.requires.all ∙ ap (places_from P (entries_of k) 0) c.requires.looped;
    }

-- how many are held, and how many items the loop has
pub overflow_cast-len : goal.overflow_cast-len
overflow_cast-len c =
    let k = program c.args.kernel.now in
    let number = c.len.ensures in
    let held = c.in_ok-push_of_loop.ensures ∙ ap (λ hs. view hs ++ throughout k Z) c.new-held.ensures.items in
    let many : length (map view_of c.push_of_loop.new.held.items) ≡ length (throughout k Z) = ap length held in
    let same = length-map c.push_of_loop.new.held.items view_of in
    let few = c.few_intervals.ensures in
    record { fits = omega (arith, number, many, same, few) }

pub push_of_loop-requires : goal.push_of_loop-requires
push_of_loop-requires c = c.requires.looped

pub places_from-requires : goal.places_from-requires
places_from-requires c =
    let k = program c.args.kernel.now in
    let number = c.len.ensures in
    let held = c.in_ok-push_of_loop.ensures ∙ ap (λ hs. view hs ++ throughout k Z) c.new-held.ensures.items in
    let many : length (map view_of c.push_of_loop.new.held.items) ≡ length (throughout k Z) = ap length held in
    let same = length-map c.push_of_loop.new.held.items view_of in
    let looped : length (entries_view c.args.looped.now) ≡ length (loop_entries k) = ap length c.requires.looped in
    let items = length-map c.args.looped.now entry_of in
    let few = c.few_intervals.ensures in
    omega (arith, number, many, same, looped, items, few)

pub places_from-requires-2 : goal.places_from-requires-2
places_from-requires-2 c =
    let k = program c.args.kernel.now in
    let looped : length (entries_view c.args.looped.now) ≡ length (loop_entries k) = ap length c.requires.looped in
    let items = length-map c.args.looped.now entry_of in
    let few = c.few_intervals.ensures in
    omega (arith, looped, items, few)

pub returns-in_err-listing : goal.returns-in_err-listing
returns-in_err-listing c = IfOk-from_err c.from_residual.result _ c.from_residual.ensures.0

pub returns-in_err-entries : goal.returns-in_err-entries
returns-in_err-entries c = IfOk-from_err c.from_residual-in_err-entries.result _ c.from_residual-in_err-entries.ensures.0

pub returns-in_err-push_of_loop : goal.returns-in_err-push_of_loop
returns-in_err-push_of_loop c = IfOk-from_err c.from_residual-in_err-push_of_loop.result _ c.from_residual-in_err-push_of_loop.ensures.0

pub returns-in_err-values : goal.returns-in_err-values
returns-in_err-values c = IfOk-from_err c.from_residual-in_err-values.result _ c.from_residual-in_err-values.ensures.0

pub returns-in_err-truths : goal.returns-in_err-truths
returns-in_err-truths c = IfOk-from_err c.from_residual-in_err-truths.result _ c.from_residual-in_err-truths.ensures.0
