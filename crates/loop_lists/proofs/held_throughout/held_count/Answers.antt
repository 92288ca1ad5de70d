use Rattle.std.proofs.Common.{◌≡◌, ◌++◌, ◌∙◌, length, map, ap, arith}
use Rattle.std.proofs.lemmas.List.{length-map}
use Rattle.loop_form.specs.HeldView.{view_of, view}
use Rattle.loop_form.specs.Needs.{throughout}
use Rattle.loop_form.specs.View.{program}
use Rattle.loop_lists.proofs.held_throughout.held_count.Goals as goal

pub overflow_cast-result : goal.overflow_cast-result
unfolding program
overflow_cast-result c =
    let few = c.few_intervals.ensures in
    let n = c.len.ensures in
    let held : length (map view_of c.push_of_class.new.held.items) ≡ length (throughout (program c.args.kernel.now) c.args.class) = ap length (c.in_ok-push_of_class.ensures ∙ ap (λ hs. view hs ++ throughout (program c.args.kernel.now) c.args.class) c.new-held.ensures.items) in
    let same = length-map c.push_of_class.new.held.items view_of in
    omega (arith, few, n, held, same)

pub returns : goal.returns
unfolding program
returns c =
    let n = c.len.ensures in
    let held : length (map view_of c.push_of_class.new.held.items) ≡ length (throughout (program c.args.kernel.now) c.args.class) = ap length (c.in_ok-push_of_class.ensures ∙ ap (λ hs. view hs ++ throughout (program c.args.kernel.now) c.args.class) c.new-held.ensures.items) in
    let same = length-map c.push_of_class.new.held.items view_of in
    omega (arith, n, held, same)
