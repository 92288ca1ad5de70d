use Rattle.std.proofs.Common.{List, [], ◌++◌, map, ap, ap₂, ◌∙◌}
use Rattle.std.specs.Prelude.{filter}
use Rattle.std.proofs.lemmas.Result.{IfOk-from_err, on_ok_weaker}
use Rattle.kernel_tree.specs.Plain.{Parameter, Accumulator}
use Rattle.kernel_tree.specs.Items.{loop_index}
use Rattle.loop_form.specs.Entries.{Entry}
use Rattle.loop_form.specs.HeldView.{view}
use Rattle.loop_form.specs.Needs.{scalars, constants, index_held, is_updated, accumulating_of}
use Rattle.loop_form.specs.View.{program, entries_view}
use Rattle.loop_lists.proofs.Trees.{params_listed, vars_listed}
use Rattle.loop_lists.proofs.Walks.{four_more}
use Rattle.loop_lists.proofs.held_throughout.push_of_loop.Goals as goal

pub returns-in_err-push_scalars : goal.returns-in_err-push_scalars
returns-in_err-push_scalars c = IfOk-from_err c.from_residual.result _ c.from_residual.ensures.0

pub returns-in_err-push_constants : goal.returns-in_err-push_constants
returns-in_err-push_constants c = IfOk-from_err c.from_residual-in_err-push_constants.result _ c.from_residual-in_err-push_constants.ensures.0

pub returns-in_err-push_index : goal.returns-in_err-push_index
returns-in_err-push_index c = IfOk-from_err c.from_residual-in_err-push_index.result _ c.from_residual-in_err-push_index.ensures.0

pub returns : goal.returns
returns c =
    let k = program c.args.kernel.now in
    let old = view c.args.held.now.items in
    let params = params_listed c.args.kernel.now c.kernel-tree.result.now c.kernel-tree.ensures c.deref.result.now c.deref.ensures.value in
    let vars = vars_listed c.args.kernel.now c.kernel-tree.result.now c.kernel-tree.ensures c.deref-2.result.now c.deref-2.ensures.value in
    let parts = λ (es : List Entry) (ps : List Parameter) (vs : List Accumulator). old ++ (scalars es ps ++ (constants [] es ++ (index_held es (loop_index k) ++ map accumulating_of (filter (is_updated es) vs)))) in
    on_ok_weaker c.push_updated.result (λ p.
    four_more old (view c.push_scalars.new.held.items) (view c.push_constants.new.held.items) (view c.push_index.new.held.items) (view c.push_updated.new.held.items) _ _ _ _
    c.in_ok-push_scalars.ensures c.in_ok-push_constants.ensures c.in_ok-push_index.ensures p
    ∙ ap₂ (parts (entries_view c.args.entries.now)) params vars ∙ ap (λ (es : List Entry). parts es k.params k.vars) c.requires) c.push_updated.ensures
