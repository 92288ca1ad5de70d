use Rattle.std.proofs.Common.{ap, ◌∙◌}
use Rattle.std.specs.Prelude.{option_map, option_and_then}
use Rattle.kernel_tree.specs.Plain.{name_of, term_of}
use Rattle.kernel_tree.specs.Typing.{accumulator_type}
use Rattle.kernel_tree.proofs.Walks.{update_type}
use Rattle.kernel_scope.specs.Scopes.{scope_of}
use Rattle.scalar_words.specs.View.{form_of, looses_of}
use Rattle.loop_code.proofs.LooseSteps.{covers_update_not}
use Rattle.loop_code.proofs.StatementWalks.{covers_update_is}
use Rattle.loop_code.proofs.loosening.covers_update.Goals as goal

pub returns-then-is_enough : goal.returns-then-is_enough
returns-then-is_enough c =
    let s = scope_of c.args.scope.now in
    let x = name_of c.args.name.now in
    let want = update_type c.lookup.result c.and_then-want.result c.and_then-want.ensures ∙ ap (option_and_then accumulator_type) c.lookup.ensures in
    covers_update_is (looses_of c.args.loose.now) s x c.args.op c.update_operator.result (term_of c.args.value.now) (option_map form_of c.loose_form-held.result) c.held_extent.result c.binary_extent-asked.result c.and_then-want.result c.is_enough.result c.covers.result
    c.loose_form-held.ensures c.update_operator.ensures want c.held_extent.ensures c.binary_extent-asked.ensures c.is_enough.ensures c.if-is_enough.true c.covers.ensures

pub returns-else-is_enough : goal.returns-else-is_enough
returns-else-is_enough c =
    let s = scope_of c.args.scope.now in
    let x = name_of c.args.name.now in
    let want = update_type c.lookup.result c.and_then-want.result c.and_then-want.ensures ∙ ap (option_and_then accumulator_type) c.lookup.ensures in
    c.if-is_enough.false ∙ covers_update_not (looses_of c.args.loose.now) s x c.args.op c.update_operator.result (term_of c.args.value.now) (option_map form_of c.loose_form-held.result) c.held_extent.result c.binary_extent-asked.result c.and_then-want.result c.is_enough.result
    c.loose_form-held.ensures c.update_operator.ensures want c.held_extent.ensures c.binary_extent-asked.ensures c.is_enough.ensures c.if-is_enough.false
