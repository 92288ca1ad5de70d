use Rattle.std.proofs.Common.{◌≡◌, ℕ, ◌+◌, ◌++◌, Option, Some, refl, sym, ap, ap₂, ◌∙◌, arith, rules}
use Rattle.std.specs.Prelude.{ℤ, max}
use Rattle.std.specs.Int.{w128}
use Rattle.std.proofs.lemmas.Int.{to_z-of_z}
use Rattle.kernel_tree.specs.declared.ast.Expr.{Expr}
use Rattle.kernel_tree.specs.declared.ops.Ty.{Ty}
use Rattle.kernel_tree.specs.declared.ops.Ty.TheVariants as ty
use Rattle.kernel_tree.specs.Plain.{Literal, Variable, Element, Unary, Operation, Shift, Conversion, Choice, Comparison, Both, Either, Not, name_of, term_of}
use Rattle.kernel_tree.specs.Items as items
use Rattle.kernel_tree.specs.Items.{term_size, index_items}
use Rattle.kernel_tree.specs.Limits.{term_depth}
use Rattle.kernel_tree.specs.Typing as typing
use Rattle.kernel_tree.proofs.Walks.{smaller_room}
use Rattle.kernel_scope.specs.Scopes.{scope_of}
use Rattle.kernel_types.specs.Parts.{role_of}
use Rattle.kernel_types.proofs.LeastFault.{part_and_item, sooner-none, then_item, two_then_item, three_then_item, both_rules}
use Rattle.kernel_types.proofs.TypeLists.{then_types}
use Rattle.kernel_types.proofs.KindWalks.{called, read_called, has_room, walked, computed_items, streamed, computed}
use Rattle.kernel_types.proofs.OperandWalks.{three_1_to_0, three_1_to_left_0, three_1_to_right_0, middle_below, last_below, one_end, past_item, two_first, two_second, two_end, two_next, either_first, either_mark, either_second, either_end, either_next, three_first, three_second, three_third, three_end, three_next}
use Rattle.kernel_types.proofs.terms.+terms.Goals as goal

pub walk_read-returns-clause-found : goal.walk_read-returns-clause-found
walk_read-returns-clause-found t c =
    let scope = scope_of c.args.scope.now in
    let from = c.args.notes.now.next in
    let role = role_of c.args.role in
    let index = term_of c.args.index.now in
    let offset = items.stream_offset scope.index index in
    let inner = typing.inner_faults offset (typing.faults scope from (typing.Value (typing.index_type scope index)) index) in
    let at = c.walk_index.new.notes.next in
    let value = typing.as_value at role in
    let read = typing.read_faults at scope.inside (typing.wanted role) (typing.lookup scope (name_of c.args.array.now)) in
    let place = typing.index_faults at offset (typing.own scope index) in
    let read_is = rw (c.wanted-ty.ensures, c.lookup.ensures) at c.read_fault-read.ensures in
    let place_is = rw c.own_type.ensures at (c.index_fault-at.ensures offset c.stream_distance-distance.ensures) in
    let here = c.sooner-2.ensures ∙ both_rules c.as_value.result c.sooner.result value (read ++ place) c.as_value.ensures (c.sooner.ensures ∙ both_rules c.read_fault-read.result c.index_fault-at.result read place read_is place_is) in
    let all = then_item c.args.notes.now.found c.walk_index.new.notes.found c.sooner-2.result inner (value ++ (read ++ place)) c.walk_index.ensures.found here in
    c.end.ensures.found ∙ (rw c.walk_index.ensures.next at all)

pub walk_unary-returns-clause-found : goal.walk_unary-returns-clause-found
walk_unary-returns-clause-found t c =
    let scope = scope_of c.args.scope.now in
    let role = role_of c.args.role in
    let inner = typing.faults scope c.args.notes.now.next (typing.Value (typing.wanted role)) (term_of c.args.arg.now) in
    let all = then_item c.args.notes.now.found c.walk_expr.new.notes.found c.as_value.result inner (typing.as_value c.walk_expr.new.notes.next role) (rw c.wanted-ty.ensures at c.walk_expr.ensures.found) c.as_value.ensures in
    c.end.ensures.found ∙ (rw c.walk_expr.ensures.next at all)

pub walk_binary-returns-clause-found : goal.walk_binary-returns-clause-found
walk_binary-returns-clause-found t c =
    let scope = scope_of c.args.scope.now in
    let role = role_of c.args.role in
    let want = typing.Value (typing.wanted role) in
    let left = typing.faults scope c.args.notes.now.next want (term_of c.args.left.now) in
    let right = typing.faults scope c.walk_expr.new.notes.next want (term_of c.args.right.now) in
    let all = two_then_item c.args.notes.now.found c.walk_expr.new.notes.found c.walk_expr-2.new.notes.found c.as_value.result left right (typing.as_value c.walk_expr-2.new.notes.next role) (rw c.wanted-ty.ensures at c.walk_expr.ensures.found) (rw c.wanted-ty.ensures at c.walk_expr-2.ensures.found) c.as_value.ensures in
    c.end.ensures.found ∙ (rw (c.walk_expr-2.ensures.next, c.walk_expr.ensures.next) at all)

pub walk_shift-returns-clause-found : goal.walk_shift-returns-clause-found
walk_shift-returns-clause-found t c =
    let role = role_of c.args.role in
    part_and_item _ _ _ _ _ _ _
    (λ (item : ℕ). typing.as_value item role ++ typing.shift_faults item (typing.wanted role) c.args.count)
    c.walk_expr.ensures.next
    c.walk_expr.ensures.found
    (ap (λ (o : Option Ty). typing.faults (scope_of c.args.scope.now) c.args.notes.now.next (typing.Value o) (term_of c.args.arg.now)) c.wanted.ensures)
    (c.end_shift.ensures.found ∙ ap (λ (n : ℤ). typing.sooner c.walk_expr.new.notes.found (typing.least (typing.as_value c.walk_expr.new.notes.next role ++ typing.shift_faults c.walk_expr.new.notes.next (typing.wanted role) n))) (to_z-of_z w128 c.args.count c.ranges.count))

pub walk_cast-returns-clause-found : goal.walk_cast-returns-clause-found
walk_cast-returns-clause-found t c =
    let scope = scope_of c.args.scope.now in
    let role = role_of c.args.role in
    let own = typing.own scope (term_of c.args.arg.now) in
    let inner = typing.faults scope c.args.notes.now.next (typing.Value own) (term_of c.args.arg.now) in
    let at = c.walk_expr.new.notes.next in
    let value = typing.as_value at role in
    let other = typing.mismatch at (typing.wanted role) c.args.ty in
    let none = typing.untyped at own in
    let rules = c.sooner-found.ensures ∙ both_rules c.mismatch.result c.untyped.result other none (rw c.wanted-want.ensures at c.mismatch.ensures) (rw c.own_type-own.ensures at c.untyped.ensures) in
    let here = c.sooner.ensures ∙ both_rules c.as_value.result c.sooner-found.result value (other ++ none) c.as_value.ensures rules in
    let all = then_item c.args.notes.now.found c.walk_expr.new.notes.found c.sooner.result inner (value ++ (other ++ none)) (rw c.own_type-own.ensures at c.walk_expr.ensures.found) here in
    c.end.ensures.found ∙ (rw c.walk_expr.ensures.next at all)

pub walk_select-returns-clause-found : goal.walk_select-returns-clause-found
walk_select-returns-clause-found t c =
    let scope = scope_of c.args.scope.now in
    let role = role_of c.args.role in
    let want = typing.Value (typing.wanted role) in
    let yes = typing.faults scope c.args.notes.now.next want (term_of c.args.yes.now) in
    let no = typing.faults scope c.walk_expr.new.notes.next want (term_of c.args.no.now) in
    let cond = typing.faults scope c.walk_expr-2.new.notes.next typing.Condition (term_of c.args.cond.now) in
    let all = three_then_item c.args.notes.now.found c.walk_expr.new.notes.found c.walk_expr-2.new.notes.found c.walk_expr-3.new.notes.found c.as_value.result yes no cond (typing.as_value c.walk_expr-3.new.notes.next role) (rw c.wanted-ty.ensures at c.walk_expr.ensures.found) (rw c.wanted-ty.ensures at c.walk_expr-2.ensures.found) c.walk_expr-3.ensures.found c.as_value.ensures in
    c.end.ensures.found ∙ (rw (c.walk_expr-3.ensures.next, c.walk_expr-2.ensures.next, c.walk_expr.ensures.next) at all)

pub walk_compare-returns-clause-found : goal.walk_compare-returns-clause-found
walk_compare-returns-clause-found t c =
    let scope = scope_of c.args.scope.now in
    let role = role_of c.args.role in
    let side = typing.Value c.first-side.result in
    let left = typing.faults scope c.args.notes.now.next side (term_of c.args.left.now) in
    let right = typing.faults scope c.walk_expr.new.notes.next side (term_of c.args.right.now) in
    let at = c.walk_expr-2.new.notes.next in
    let cond = typing.as_condition at role in
    let none = typing.untyped at c.first-side.result in
    let here = c.sooner-found.ensures ∙ both_rules c.as_condition.result c.untyped.result cond none c.as_condition.ensures c.untyped.ensures in
    let all = two_then_item c.args.notes.now.found c.walk_expr.new.notes.found c.walk_expr-2.new.notes.found c.sooner-found.result left right (cond ++ none) c.walk_expr.ensures.found c.walk_expr-2.ensures.found here in
    c.end.ensures.found ∙ (rw (c.walk_expr-2.ensures.next, c.walk_expr.ensures.next, c.first-side.ensures, c.own_type.ensures, c.own_type-2.ensures) at all)

pub walk_and-returns-clause-found : goal.walk_and-returns-clause-found
walk_and-returns-clause-found t c =
    let scope = scope_of c.args.scope.now in
    let role = role_of c.args.role in
    let left = typing.faults scope c.args.notes.now.next typing.Condition (term_of c.args.left.now) in
    let right = typing.faults scope c.walk_expr.new.notes.next typing.Condition (term_of c.args.right.now) in
    let all = two_then_item c.args.notes.now.found c.walk_expr.new.notes.found c.walk_expr-2.new.notes.found c.as_condition.result left right (typing.as_condition c.walk_expr-2.new.notes.next role) c.walk_expr.ensures.found c.walk_expr-2.ensures.found c.as_condition.ensures in
    c.end.ensures.found ∙ (rw (c.walk_expr-2.ensures.next, c.walk_expr.ensures.next) at all)

-- a mark stands after the left side, and no fault at it
pub walk_or-returns-clause-found : goal.walk_or-returns-clause-found
walk_or-returns-clause-found t c =
    let scope = scope_of c.args.scope.now in
    let role = role_of c.args.role in
    let left = typing.faults scope c.args.notes.now.next typing.Condition (term_of c.args.left.now) in
    let right = typing.faults scope c.end.new.notes.next typing.Condition (term_of c.args.right.now) in
    let marked = c.end.ensures.found ∙ sooner-none c.walk_expr.new.notes.found ∙ c.walk_expr.ensures.found in
    let all = two_then_item c.args.notes.now.found c.end.new.notes.found c.walk_expr-2.new.notes.found c.as_condition.result left right (typing.as_condition c.walk_expr-2.new.notes.next role) marked c.walk_expr-2.ensures.found c.as_condition.ensures in
    c.end-2.ensures.found ∙ (rw (c.walk_expr-2.ensures.next, c.end.ensures.next, c.walk_expr.ensures.next) at all)

pub walk_not-returns-clause-found : goal.walk_not-returns-clause-found
walk_not-returns-clause-found t c =
    let inner = typing.faults (scope_of c.args.scope.now) c.args.notes.now.next typing.Condition (term_of c.args.arg.now) in
    let all = then_item c.args.notes.now.found c.walk_expr.new.notes.found c.as_condition.result inner (typing.as_condition c.walk_expr.new.notes.next (role_of c.args.role)) c.walk_expr.ensures.found c.as_condition.ensures in
    c.end.ensures.found ∙ (rw c.walk_expr.ensures.next at all)

pub walk_read-returns-clause-types : goal.walk_read-returns-clause-types
walk_read-returns-clause-types t c = then_types c.walk_index.ensures.types (rw c.wanted-ty.ensures at c.end.ensures.types)

pub walk_unary-returns-clause-types : goal.walk_unary-returns-clause-types
walk_unary-returns-clause-types t c = then_types (rw c.wanted-ty.ensures at c.walk_expr.ensures.types) (rw c.wanted-ty.ensures at c.end.ensures.types)

pub walk_binary-returns-clause-types : goal.walk_binary-returns-clause-types
walk_binary-returns-clause-types t c = then_types (rw c.wanted-ty.ensures at c.walk_expr.ensures.types) (then_types (rw c.wanted-ty.ensures at c.walk_expr-2.ensures.types) (rw c.wanted-ty.ensures at c.end.ensures.types))

pub walk_shift-returns-clause-types : goal.walk_shift-returns-clause-types
walk_shift-returns-clause-types t c = then_types (rw c.wanted.ensures at c.walk_expr.ensures.types) c.end_shift.ensures.types

pub walk_cast-returns-clause-types : goal.walk_cast-returns-clause-types
walk_cast-returns-clause-types t c = then_types (rw c.own_type-own.ensures at c.walk_expr.ensures.types) (rw c.wanted-want.ensures at c.end.ensures.types)

pub walk_select-returns-clause-types : goal.walk_select-returns-clause-types
walk_select-returns-clause-types t c = then_types (rw c.wanted-ty.ensures at c.walk_expr.ensures.types) (then_types (rw c.wanted-ty.ensures at c.walk_expr-2.ensures.types) (then_types c.walk_expr-3.ensures.types (rw c.wanted-ty.ensures at c.end.ensures.types)))

pub walk_compare-returns-clause-types : goal.walk_compare-returns-clause-types
walk_compare-returns-clause-types t c = then_types (rw (c.first-side.ensures, c.own_type.ensures, c.own_type-2.ensures) at c.walk_expr.ensures.types) (then_types (rw (c.first-side.ensures, c.own_type.ensures, c.own_type-2.ensures) at c.walk_expr-2.ensures.types) c.end.ensures.types)

pub walk_and-returns-clause-types : goal.walk_and-returns-clause-types
walk_and-returns-clause-types t c = then_types c.walk_expr.ensures.types (then_types c.walk_expr-2.ensures.types c.end.ensures.types)

pub walk_or-returns-clause-types : goal.walk_or-returns-clause-types
walk_or-returns-clause-types t c = then_types c.walk_expr.ensures.types (then_types c.end.ensures.types (then_types c.walk_expr-2.ensures.types c.end-2.ensures.types))

pub walk_not-returns-clause-types : goal.walk_not-returns-clause-types
walk_not-returns-clause-types t c = then_types c.walk_expr.ensures.types c.end.ensures.types

pub walk_unary-walk_expr-requires : goal.walk_unary-walk_expr-requires
walk_unary-walk_expr-requires t c = (three_1_to_0 t (term_depth (term_of c.args.arg.now)) c.decreases, smaller_room c.args.notes.now.next (term_size (scope_of c.args.scope.now).index (term_of c.args.arg.now)) c.requires)

pub walk_unary-end-requires : goal.walk_unary-end-requires
walk_unary-end-requires t c = one_end c.args.notes.now.next (term_size (scope_of c.args.scope.now).index (term_of c.args.arg.now)) c.walk_expr.new.notes.next c.requires c.walk_expr.ensures.next

pub walk_unary-returns-clause-next : goal.walk_unary-returns-clause-next
walk_unary-returns-clause-next t c = past_item c.args.notes.now.next c.walk_expr.new.notes.next c.end.new.notes.next (term_size (scope_of c.args.scope.now).index (term_of c.args.arg.now)) c.walk_expr.ensures.next c.end.ensures.next

pub walk_binary-walk_expr-requires : goal.walk_binary-walk_expr-requires
walk_binary-walk_expr-requires t c = (three_1_to_left_0 t (term_depth (term_of c.args.left.now)) (term_depth (term_of c.args.right.now)) c.decreases, two_first c.args.notes.now.next (term_size (scope_of c.args.scope.now).index (term_of c.args.left.now)) (term_size (scope_of c.args.scope.now).index (term_of c.args.right.now)) c.requires)

pub walk_binary-walk_expr-requires-2 : goal.walk_binary-walk_expr-requires-2
walk_binary-walk_expr-requires-2 t c = (three_1_to_right_0 t (term_depth (term_of c.args.left.now)) (term_depth (term_of c.args.right.now)) c.decreases, two_second c.args.notes.now.next (term_size (scope_of c.args.scope.now).index (term_of c.args.left.now)) (term_size (scope_of c.args.scope.now).index (term_of c.args.right.now)) c.requires c.walk_expr.new.notes.next c.walk_expr.ensures.next)

pub walk_binary-end-requires : goal.walk_binary-end-requires
walk_binary-end-requires t c = two_end c.args.notes.now.next (term_size (scope_of c.args.scope.now).index (term_of c.args.left.now)) (term_size (scope_of c.args.scope.now).index (term_of c.args.right.now)) c.requires c.walk_expr.new.notes.next c.walk_expr-2.new.notes.next c.walk_expr.ensures.next c.walk_expr-2.ensures.next

pub walk_binary-returns-clause-next : goal.walk_binary-returns-clause-next
walk_binary-returns-clause-next t c = two_next c.args.notes.now.next (term_size (scope_of c.args.scope.now).index (term_of c.args.left.now)) (term_size (scope_of c.args.scope.now).index (term_of c.args.right.now)) c.walk_expr.new.notes.next c.walk_expr-2.new.notes.next c.end.new.notes.next c.walk_expr.ensures.next c.walk_expr-2.ensures.next c.end.ensures.next

pub walk_shift-walk_expr-requires : goal.walk_shift-walk_expr-requires
walk_shift-walk_expr-requires t c = (three_1_to_0 t (term_depth (term_of c.args.arg.now)) c.decreases, smaller_room c.args.notes.now.next (term_size (scope_of c.args.scope.now).index (term_of c.args.arg.now)) c.requires)

pub walk_shift-end_shift-requires : goal.walk_shift-end_shift-requires
walk_shift-end_shift-requires t c = one_end c.args.notes.now.next (term_size (scope_of c.args.scope.now).index (term_of c.args.arg.now)) c.walk_expr.new.notes.next c.requires c.walk_expr.ensures.next

pub walk_shift-returns-clause-next : goal.walk_shift-returns-clause-next
walk_shift-returns-clause-next t c = past_item c.args.notes.now.next c.walk_expr.new.notes.next c.end_shift.new.notes.next (term_size (scope_of c.args.scope.now).index (term_of c.args.arg.now)) c.walk_expr.ensures.next c.end_shift.ensures.next

pub walk_cast-walk_expr-requires : goal.walk_cast-walk_expr-requires
walk_cast-walk_expr-requires t c = (three_1_to_0 t (term_depth (term_of c.args.arg.now)) c.decreases, smaller_room c.args.notes.now.next (term_size (scope_of c.args.scope.now).index (term_of c.args.arg.now)) c.requires)

pub walk_cast-end-requires : goal.walk_cast-end-requires
walk_cast-end-requires t c = one_end c.args.notes.now.next (term_size (scope_of c.args.scope.now).index (term_of c.args.arg.now)) c.walk_expr.new.notes.next c.requires c.walk_expr.ensures.next

pub walk_cast-returns-clause-next : goal.walk_cast-returns-clause-next
walk_cast-returns-clause-next t c = past_item c.args.notes.now.next c.walk_expr.new.notes.next c.end.new.notes.next (term_size (scope_of c.args.scope.now).index (term_of c.args.arg.now)) c.walk_expr.ensures.next c.end.ensures.next

pub walk_select-walk_expr-requires : goal.walk_select-walk_expr-requires
walk_select-walk_expr-requires t c = (middle_below t (term_depth (term_of c.args.cond.now)) (term_depth (term_of c.args.yes.now)) (term_depth (term_of c.args.no.now)) c.decreases, three_first c.args.notes.now.next (term_size (scope_of c.args.scope.now).index (term_of c.args.yes.now)) (term_size (scope_of c.args.scope.now).index (term_of c.args.no.now)) (term_size (scope_of c.args.scope.now).index (term_of c.args.cond.now)) c.requires)

pub walk_select-walk_expr-requires-2 : goal.walk_select-walk_expr-requires-2
walk_select-walk_expr-requires-2 t c = (last_below t (term_depth (term_of c.args.cond.now)) (term_depth (term_of c.args.yes.now)) (term_depth (term_of c.args.no.now)) c.decreases, three_second c.args.notes.now.next (term_size (scope_of c.args.scope.now).index (term_of c.args.yes.now)) (term_size (scope_of c.args.scope.now).index (term_of c.args.no.now)) (term_size (scope_of c.args.scope.now).index (term_of c.args.cond.now)) c.requires c.walk_expr.new.notes.next c.walk_expr.ensures.next)

pub walk_select-walk_expr-requires-3 : goal.walk_select-walk_expr-requires-3
walk_select-walk_expr-requires-3 t c = (three_1_to_left_0 t (term_depth (term_of c.args.cond.now)) (max (term_depth (term_of c.args.yes.now)) (term_depth (term_of c.args.no.now))) c.decreases, three_third c.args.notes.now.next (term_size (scope_of c.args.scope.now).index (term_of c.args.yes.now)) (term_size (scope_of c.args.scope.now).index (term_of c.args.no.now)) (term_size (scope_of c.args.scope.now).index (term_of c.args.cond.now)) c.requires c.walk_expr.new.notes.next c.walk_expr-2.new.notes.next c.walk_expr.ensures.next c.walk_expr-2.ensures.next)

pub walk_select-end-requires : goal.walk_select-end-requires
walk_select-end-requires t c = three_end c.args.notes.now.next (term_size (scope_of c.args.scope.now).index (term_of c.args.yes.now)) (term_size (scope_of c.args.scope.now).index (term_of c.args.no.now)) (term_size (scope_of c.args.scope.now).index (term_of c.args.cond.now)) c.requires c.walk_expr.new.notes.next c.walk_expr-2.new.notes.next c.walk_expr-3.new.notes.next c.walk_expr.ensures.next c.walk_expr-2.ensures.next c.walk_expr-3.ensures.next

pub walk_select-returns-clause-next : goal.walk_select-returns-clause-next
walk_select-returns-clause-next t c = three_next c.args.notes.now.next (term_size (scope_of c.args.scope.now).index (term_of c.args.yes.now)) (term_size (scope_of c.args.scope.now).index (term_of c.args.no.now)) (term_size (scope_of c.args.scope.now).index (term_of c.args.cond.now)) c.walk_expr.new.notes.next c.walk_expr-2.new.notes.next c.walk_expr-3.new.notes.next c.end.new.notes.next c.walk_expr.ensures.next c.walk_expr-2.ensures.next c.walk_expr-3.ensures.next c.end.ensures.next

pub walk_compare-walk_expr-requires : goal.walk_compare-walk_expr-requires
walk_compare-walk_expr-requires t c = (three_1_to_left_0 t (term_depth (term_of c.args.left.now)) (term_depth (term_of c.args.right.now)) c.decreases, two_first c.args.notes.now.next (term_size (scope_of c.args.scope.now).index (term_of c.args.left.now)) (term_size (scope_of c.args.scope.now).index (term_of c.args.right.now)) c.requires)

pub walk_compare-walk_expr-requires-2 : goal.walk_compare-walk_expr-requires-2
walk_compare-walk_expr-requires-2 t c = (three_1_to_right_0 t (term_depth (term_of c.args.left.now)) (term_depth (term_of c.args.right.now)) c.decreases, two_second c.args.notes.now.next (term_size (scope_of c.args.scope.now).index (term_of c.args.left.now)) (term_size (scope_of c.args.scope.now).index (term_of c.args.right.now)) c.requires c.walk_expr.new.notes.next c.walk_expr.ensures.next)

pub walk_compare-end-requires : goal.walk_compare-end-requires
walk_compare-end-requires t c = two_end c.args.notes.now.next (term_size (scope_of c.args.scope.now).index (term_of c.args.left.now)) (term_size (scope_of c.args.scope.now).index (term_of c.args.right.now)) c.requires c.walk_expr.new.notes.next c.walk_expr-2.new.notes.next c.walk_expr.ensures.next c.walk_expr-2.ensures.next

pub walk_compare-returns-clause-next : goal.walk_compare-returns-clause-next
walk_compare-returns-clause-next t c = two_next c.args.notes.now.next (term_size (scope_of c.args.scope.now).index (term_of c.args.left.now)) (term_size (scope_of c.args.scope.now).index (term_of c.args.right.now)) c.walk_expr.new.notes.next c.walk_expr-2.new.notes.next c.end.new.notes.next c.walk_expr.ensures.next c.walk_expr-2.ensures.next c.end.ensures.next

pub walk_and-walk_expr-requires : goal.walk_and-walk_expr-requires
walk_and-walk_expr-requires t c = (three_1_to_left_0 t (term_depth (term_of c.args.left.now)) (term_depth (term_of c.args.right.now)) c.decreases, two_first c.args.notes.now.next (term_size (scope_of c.args.scope.now).index (term_of c.args.left.now)) (term_size (scope_of c.args.scope.now).index (term_of c.args.right.now)) c.requires)

pub walk_and-walk_expr-requires-2 : goal.walk_and-walk_expr-requires-2
walk_and-walk_expr-requires-2 t c = (three_1_to_right_0 t (term_depth (term_of c.args.left.now)) (term_depth (term_of c.args.right.now)) c.decreases, two_second c.args.notes.now.next (term_size (scope_of c.args.scope.now).index (term_of c.args.left.now)) (term_size (scope_of c.args.scope.now).index (term_of c.args.right.now)) c.requires c.walk_expr.new.notes.next c.walk_expr.ensures.next)

pub walk_and-end-requires : goal.walk_and-end-requires
walk_and-end-requires t c = two_end c.args.notes.now.next (term_size (scope_of c.args.scope.now).index (term_of c.args.left.now)) (term_size (scope_of c.args.scope.now).index (term_of c.args.right.now)) c.requires c.walk_expr.new.notes.next c.walk_expr-2.new.notes.next c.walk_expr.ensures.next c.walk_expr-2.ensures.next

pub walk_and-returns-clause-next : goal.walk_and-returns-clause-next
walk_and-returns-clause-next t c = two_next c.args.notes.now.next (term_size (scope_of c.args.scope.now).index (term_of c.args.left.now)) (term_size (scope_of c.args.scope.now).index (term_of c.args.right.now)) c.walk_expr.new.notes.next c.walk_expr-2.new.notes.next c.end.new.notes.next c.walk_expr.ensures.next c.walk_expr-2.ensures.next c.end.ensures.next

pub walk_or-walk_expr-requires : goal.walk_or-walk_expr-requires
walk_or-walk_expr-requires t c = (three_1_to_left_0 t (term_depth (term_of c.args.left.now)) (term_depth (term_of c.args.right.now)) c.decreases, either_first c.args.notes.now.next (term_size (scope_of c.args.scope.now).index (term_of c.args.left.now)) (term_size (scope_of c.args.scope.now).index (term_of c.args.right.now)) c.requires)

pub walk_or-walk_expr-requires-2 : goal.walk_or-walk_expr-requires-2
walk_or-walk_expr-requires-2 t c = (three_1_to_right_0 t (term_depth (term_of c.args.left.now)) (term_depth (term_of c.args.right.now)) c.decreases, either_second c.args.notes.now.next (term_size (scope_of c.args.scope.now).index (term_of c.args.left.now)) (term_size (scope_of c.args.scope.now).index (term_of c.args.right.now)) c.requires c.walk_expr.new.notes.next c.end.new.notes.next c.walk_expr.ensures.next c.end.ensures.next)

pub walk_or-end-requires : goal.walk_or-end-requires
walk_or-end-requires t c = either_mark c.args.notes.now.next (term_size (scope_of c.args.scope.now).index (term_of c.args.left.now)) (term_size (scope_of c.args.scope.now).index (term_of c.args.right.now)) c.requires c.walk_expr.new.notes.next c.walk_expr.ensures.next

pub walk_or-end-requires-2 : goal.walk_or-end-requires-2
walk_or-end-requires-2 t c = either_end c.args.notes.now.next (term_size (scope_of c.args.scope.now).index (term_of c.args.left.now)) (term_size (scope_of c.args.scope.now).index (term_of c.args.right.now)) c.requires c.walk_expr.new.notes.next c.end.new.notes.next c.walk_expr-2.new.notes.next c.walk_expr.ensures.next c.end.ensures.next c.walk_expr-2.ensures.next

pub walk_or-returns-clause-next : goal.walk_or-returns-clause-next
walk_or-returns-clause-next t c = either_next c.args.notes.now.next (term_size (scope_of c.args.scope.now).index (term_of c.args.left.now)) (term_size (scope_of c.args.scope.now).index (term_of c.args.right.now)) c.walk_expr.new.notes.next c.end.new.notes.next c.walk_expr-2.new.notes.next c.end-2.new.notes.next c.walk_expr.ensures.next c.end.ensures.next c.walk_expr-2.ensures.next c.end-2.ensures.next

pub walk_not-walk_expr-requires : goal.walk_not-walk_expr-requires
walk_not-walk_expr-requires t c = (three_1_to_0 t (term_depth (term_of c.args.arg.now)) c.decreases, smaller_room c.args.notes.now.next (term_size (scope_of c.args.scope.now).index (term_of c.args.arg.now)) c.requires)

pub walk_not-end-requires : goal.walk_not-end-requires
walk_not-end-requires t c = one_end c.args.notes.now.next (term_size (scope_of c.args.scope.now).index (term_of c.args.arg.now)) c.walk_expr.new.notes.next c.requires c.walk_expr.ensures.next

pub walk_not-returns-clause-next : goal.walk_not-returns-clause-next
walk_not-returns-clause-next t c = past_item c.args.notes.now.next c.walk_expr.new.notes.next c.end.new.notes.next (term_size (scope_of c.args.scope.now).index (term_of c.args.arg.now)) c.walk_expr.ensures.next c.end.ensures.next

pub walk_read-end-requires : goal.walk_read-end-requires
walk_read-end-requires t c = one_end c.args.notes.now.next (index_items (scope_of c.args.scope.now).index (term_of c.args.index.now)) c.walk_index.new.notes.next c.requires c.walk_index.ensures.next

pub walk_read-returns-clause-next : goal.walk_read-returns-clause-next
walk_read-returns-clause-next t c = past_item c.args.notes.now.next c.walk_index.new.notes.next c.end.new.notes.next (index_items (scope_of c.args.scope.now).index (term_of c.args.index.now)) c.walk_index.ensures.next c.end.ensures.next

-- ---- an expression by its kind; a literal and the count of a shift are passed on by their 128 bits, and read back from them

pub walk_expr-walk_literal-requires : goal.walk_expr-walk_literal-requires
walk_expr-walk_literal-requires t c =
    let is : term_of c.args.expr.now ≡ Literal c.in-Lit.value = ap term_of c.in-Lit.is in
    has_room (scope_of c.args.scope.now).index c.args.notes.now.next (term_of c.args.expr.now) (Literal c.in-Lit.value) c.requires is refl

pub walk_expr-returns-in-Lit : goal.walk_expr-returns-in-Lit
walk_expr-returns-in-Lit t c =
    let is : term_of c.args.expr.now ≡ Literal c.in-Lit.value = ap term_of c.in-Lit.is in
    let made = walked (scope_of c.args.scope.now) (role_of c.args.role) c.args.notes.now c.walk_literal.new.notes (Literal c.in-Lit.value) (term_of c.args.expr.now) is (record { next = c.walk_literal.ensures.next; found = c.walk_literal.ensures.found ∙ ap (λ (n : ℤ). typing.sooner c.args.notes.now.found (typing.least (typing.faults (scope_of c.args.scope.now) c.args.notes.now.next (role_of c.args.role) (Literal n)))) (to_z-of_z w128 c.in-Lit.value (search rules)); types = c.walk_literal.ensures.types }) in
    record { next = made.next; found = made.found; types = made.types }

pub walk_expr-walk_name-requires : goal.walk_expr-walk_name-requires
walk_expr-walk_name-requires t c =
    let is : term_of c.args.expr.now ≡ Variable (name_of c.in-Var.name) = ap term_of c.in-Var.is in
    has_room (scope_of c.args.scope.now).index c.args.notes.now.next (term_of c.args.expr.now) (Variable (name_of c.in-Var.name)) c.requires is refl

pub walk_expr-returns-in-Var : goal.walk_expr-returns-in-Var
walk_expr-returns-in-Var t c =
    let is : term_of c.args.expr.now ≡ Variable (name_of c.in-Var.name) = ap term_of c.in-Var.is in
    let made = walked (scope_of c.args.scope.now) (role_of c.args.role) c.args.notes.now c.walk_name.new.notes (Variable (name_of c.in-Var.name)) (term_of c.args.expr.now) is (record { next = c.walk_name.ensures.next; found = c.walk_name.ensures.found; types = c.walk_name.ensures.types }) in
    record { next = made.next; found = made.found; types = made.types }

pub walk_expr-walk_read-requires : goal.walk_expr-walk_read-requires
walk_expr-walk_read-requires t c =
    let is : term_of c.args.expr.now ≡ Element (name_of c.in-Read.array) (term_of c.deref.result.now) = ap term_of c.in-Read.is ∙ ap (λ (e : Expr). Element (name_of c.in-Read.array) (term_of e)) (sym c.deref.ensures) in
    read_called (scope_of c.args.scope.now).index t c.args.notes.now.next (term_of c.args.expr.now) c.decreases c.requires (Element (name_of c.in-Read.array) (term_of c.deref.result.now)) (term_depth (term_of c.deref.result.now)) (index_items (scope_of c.args.scope.now).index (term_of c.deref.result.now) + 1) is refl refl

pub walk_expr-returns-in-Read : goal.walk_expr-returns-in-Read
walk_expr-returns-in-Read t c =
    let is : term_of c.args.expr.now ≡ Element (name_of c.in-Read.array) (term_of c.deref.result.now) = ap term_of c.in-Read.is ∙ ap (λ (e : Expr). Element (name_of c.in-Read.array) (term_of e)) (sym c.deref.ensures) in
    let made = walked (scope_of c.args.scope.now) (role_of c.args.role) c.args.notes.now c.walk_read.new.notes (Element (name_of c.in-Read.array) (term_of c.deref.result.now)) (term_of c.args.expr.now) is (record { next = c.walk_read.ensures.next; found = c.walk_read.ensures.found; types = c.walk_read.ensures.types }) in
    record { next = made.next; found = made.found; types = made.types }

pub walk_expr-walk_unary-requires : goal.walk_expr-walk_unary-requires
walk_expr-walk_unary-requires t c =
    let is : term_of c.args.expr.now ≡ Unary c.in-Unary.op (term_of c.deref-in-Unary.result.now) = ap term_of c.in-Unary.is ∙ ap (λ (e : Expr). Unary c.in-Unary.op (term_of e)) (sym c.deref-in-Unary.ensures) in
    called (scope_of c.args.scope.now).index t c.args.notes.now.next (term_of c.args.expr.now) c.decreases c.requires (Unary c.in-Unary.op (term_of c.deref-in-Unary.result.now)) (term_depth (term_of c.deref-in-Unary.result.now)) (term_size (scope_of c.args.scope.now).index (term_of c.deref-in-Unary.result.now) + 1) is refl refl

pub walk_expr-returns-in-Unary : goal.walk_expr-returns-in-Unary
walk_expr-returns-in-Unary t c =
    let is : term_of c.args.expr.now ≡ Unary c.in-Unary.op (term_of c.deref-in-Unary.result.now) = ap term_of c.in-Unary.is ∙ ap (λ (e : Expr). Unary c.in-Unary.op (term_of e)) (sym c.deref-in-Unary.ensures) in
    let made = walked (scope_of c.args.scope.now) (role_of c.args.role) c.args.notes.now c.walk_unary.new.notes (Unary c.in-Unary.op (term_of c.deref-in-Unary.result.now)) (term_of c.args.expr.now) is (record { next = c.walk_unary.ensures.next; found = c.walk_unary.ensures.found; types = c.walk_unary.ensures.types }) in
    record { next = made.next; found = made.found; types = made.types }

pub walk_expr-walk_binary-requires : goal.walk_expr-walk_binary-requires
walk_expr-walk_binary-requires t c =
    let is : term_of c.args.expr.now ≡ Operation c.in-Binary.op (term_of c.deref-in-Binary.result.now) (term_of c.deref-in-Binary-2.result.now) = ap term_of c.in-Binary.is ∙ ap₂ (λ (e f : Expr). Operation c.in-Binary.op (term_of e) (term_of f)) (sym c.deref-in-Binary.ensures) (sym c.deref-in-Binary-2.ensures) in
    called (scope_of c.args.scope.now).index t c.args.notes.now.next (term_of c.args.expr.now) c.decreases c.requires (Operation c.in-Binary.op (term_of c.deref-in-Binary.result.now) (term_of c.deref-in-Binary-2.result.now)) (max (term_depth (term_of c.deref-in-Binary.result.now)) (term_depth (term_of c.deref-in-Binary-2.result.now))) (term_size (scope_of c.args.scope.now).index (term_of c.deref-in-Binary.result.now) + term_size (scope_of c.args.scope.now).index (term_of c.deref-in-Binary-2.result.now) + 1) is refl refl

pub walk_expr-returns-in-Binary : goal.walk_expr-returns-in-Binary
walk_expr-returns-in-Binary t c =
    let is : term_of c.args.expr.now ≡ Operation c.in-Binary.op (term_of c.deref-in-Binary.result.now) (term_of c.deref-in-Binary-2.result.now) = ap term_of c.in-Binary.is ∙ ap₂ (λ (e f : Expr). Operation c.in-Binary.op (term_of e) (term_of f)) (sym c.deref-in-Binary.ensures) (sym c.deref-in-Binary-2.ensures) in
    let made = walked (scope_of c.args.scope.now) (role_of c.args.role) c.args.notes.now c.walk_binary.new.notes (Operation c.in-Binary.op (term_of c.deref-in-Binary.result.now) (term_of c.deref-in-Binary-2.result.now)) (term_of c.args.expr.now) is (record { next = c.walk_binary.ensures.next; found = c.walk_binary.ensures.found; types = c.walk_binary.ensures.types }) in
    record { next = made.next; found = made.found; types = made.types }

pub walk_expr-walk_shift-requires : goal.walk_expr-walk_shift-requires
walk_expr-walk_shift-requires t c =
    let is : term_of c.args.expr.now ≡ Shift c.in-Shift.left_shift (term_of c.deref-in-Shift.result.now) c.in-Shift.count = ap term_of c.in-Shift.is ∙ ap (λ (e : Expr). Shift c.in-Shift.left_shift (term_of e) c.in-Shift.count) (sym c.deref-in-Shift.ensures) in
    called (scope_of c.args.scope.now).index t c.args.notes.now.next (term_of c.args.expr.now) c.decreases c.requires (Shift c.in-Shift.left_shift (term_of c.deref-in-Shift.result.now) c.in-Shift.count) (term_depth (term_of c.deref-in-Shift.result.now)) (term_size (scope_of c.args.scope.now).index (term_of c.deref-in-Shift.result.now) + 1) is refl refl

pub walk_expr-returns-in-Shift : goal.walk_expr-returns-in-Shift
walk_expr-returns-in-Shift t c =
    let is : term_of c.args.expr.now ≡ Shift c.in-Shift.left_shift (term_of c.deref-in-Shift.result.now) c.in-Shift.count = ap term_of c.in-Shift.is ∙ ap (λ (e : Expr). Shift c.in-Shift.left_shift (term_of e) c.in-Shift.count) (sym c.deref-in-Shift.ensures) in
    let made = walked (scope_of c.args.scope.now) (role_of c.args.role) c.args.notes.now c.walk_shift.new.notes (Shift c.in-Shift.left_shift (term_of c.deref-in-Shift.result.now) c.in-Shift.count) (term_of c.args.expr.now) is (record { next = c.walk_shift.ensures.next; found = c.walk_shift.ensures.found ∙ ap (λ (n : ℤ). typing.sooner c.args.notes.now.found (typing.least (typing.faults (scope_of c.args.scope.now) c.args.notes.now.next (role_of c.args.role) (Shift c.in-Shift.left_shift (term_of c.deref-in-Shift.result.now) n)))) (to_z-of_z w128 c.in-Shift.count (search rules)); types = c.walk_shift.ensures.types }) in
    record { next = made.next; found = made.found; types = made.types }

pub walk_expr-walk_cast-requires : goal.walk_expr-walk_cast-requires
walk_expr-walk_cast-requires t c =
    let is : term_of c.args.expr.now ≡ Conversion (term_of c.deref-in-Cast.result.now) c.in-Cast.ty = ap term_of c.in-Cast.is ∙ ap (λ (e : Expr). Conversion (term_of e) c.in-Cast.ty) (sym c.deref-in-Cast.ensures) in
    called (scope_of c.args.scope.now).index t c.args.notes.now.next (term_of c.args.expr.now) c.decreases c.requires (Conversion (term_of c.deref-in-Cast.result.now) c.in-Cast.ty) (term_depth (term_of c.deref-in-Cast.result.now)) (term_size (scope_of c.args.scope.now).index (term_of c.deref-in-Cast.result.now) + 1) is refl refl

pub walk_expr-returns-in-Cast : goal.walk_expr-returns-in-Cast
walk_expr-returns-in-Cast t c =
    let is : term_of c.args.expr.now ≡ Conversion (term_of c.deref-in-Cast.result.now) c.in-Cast.ty = ap term_of c.in-Cast.is ∙ ap (λ (e : Expr). Conversion (term_of e) c.in-Cast.ty) (sym c.deref-in-Cast.ensures) in
    let made = walked (scope_of c.args.scope.now) (role_of c.args.role) c.args.notes.now c.walk_cast.new.notes (Conversion (term_of c.deref-in-Cast.result.now) c.in-Cast.ty) (term_of c.args.expr.now) is (record { next = c.walk_cast.ensures.next; found = c.walk_cast.ensures.found; types = c.walk_cast.ensures.types }) in
    record { next = made.next; found = made.found; types = made.types }

pub walk_expr-walk_select-requires : goal.walk_expr-walk_select-requires
walk_expr-walk_select-requires t c =
    let is : term_of c.args.expr.now ≡ Choice (term_of c.deref-in-Select.result.now) (term_of c.deref-in-Select-2.result.now) (term_of c.deref-in-Select-3.result.now) = ap term_of c.in-Select.is ∙ ap₂ (λ (e f : Expr). Choice (term_of e) (term_of f) (term_of c.in-Select.no.value)) (sym c.deref-in-Select.ensures) (sym c.deref-in-Select-2.ensures) ∙ ap (λ (e : Expr). Choice (term_of c.deref-in-Select.result.now) (term_of c.deref-in-Select-2.result.now) (term_of e)) (sym c.deref-in-Select-3.ensures) in
    called (scope_of c.args.scope.now).index t c.args.notes.now.next (term_of c.args.expr.now) c.decreases c.requires (Choice (term_of c.deref-in-Select.result.now) (term_of c.deref-in-Select-2.result.now) (term_of c.deref-in-Select-3.result.now)) (max (term_depth (term_of c.deref-in-Select.result.now)) (max (term_depth (term_of c.deref-in-Select-2.result.now)) (term_depth (term_of c.deref-in-Select-3.result.now)))) (term_size (scope_of c.args.scope.now).index (term_of c.deref-in-Select-2.result.now) + term_size (scope_of c.args.scope.now).index (term_of c.deref-in-Select-3.result.now) + term_size (scope_of c.args.scope.now).index (term_of c.deref-in-Select.result.now) + 1) is refl refl

pub walk_expr-returns-in-Select : goal.walk_expr-returns-in-Select
walk_expr-returns-in-Select t c =
    let is : term_of c.args.expr.now ≡ Choice (term_of c.deref-in-Select.result.now) (term_of c.deref-in-Select-2.result.now) (term_of c.deref-in-Select-3.result.now) = ap term_of c.in-Select.is ∙ ap₂ (λ (e f : Expr). Choice (term_of e) (term_of f) (term_of c.in-Select.no.value)) (sym c.deref-in-Select.ensures) (sym c.deref-in-Select-2.ensures) ∙ ap (λ (e : Expr). Choice (term_of c.deref-in-Select.result.now) (term_of c.deref-in-Select-2.result.now) (term_of e)) (sym c.deref-in-Select-3.ensures) in
    let made = walked (scope_of c.args.scope.now) (role_of c.args.role) c.args.notes.now c.walk_select.new.notes (Choice (term_of c.deref-in-Select.result.now) (term_of c.deref-in-Select-2.result.now) (term_of c.deref-in-Select-3.result.now)) (term_of c.args.expr.now) is (record { next = c.walk_select.ensures.next; found = c.walk_select.ensures.found; types = c.walk_select.ensures.types }) in
    record { next = made.next; found = made.found; types = made.types }

pub walk_expr-walk_compare-requires : goal.walk_expr-walk_compare-requires
walk_expr-walk_compare-requires t c =
    let is : term_of c.args.expr.now ≡ Comparison c.in-Compare.op (term_of c.deref-in-Compare.result.now) (term_of c.deref-in-Compare-2.result.now) = ap term_of c.in-Compare.is ∙ ap₂ (λ (e f : Expr). Comparison c.in-Compare.op (term_of e) (term_of f)) (sym c.deref-in-Compare.ensures) (sym c.deref-in-Compare-2.ensures) in
    called (scope_of c.args.scope.now).index t c.args.notes.now.next (term_of c.args.expr.now) c.decreases c.requires (Comparison c.in-Compare.op (term_of c.deref-in-Compare.result.now) (term_of c.deref-in-Compare-2.result.now)) (max (term_depth (term_of c.deref-in-Compare.result.now)) (term_depth (term_of c.deref-in-Compare-2.result.now))) (term_size (scope_of c.args.scope.now).index (term_of c.deref-in-Compare.result.now) + term_size (scope_of c.args.scope.now).index (term_of c.deref-in-Compare-2.result.now) + 1) is refl refl

pub walk_expr-returns-in-Compare : goal.walk_expr-returns-in-Compare
walk_expr-returns-in-Compare t c =
    let is : term_of c.args.expr.now ≡ Comparison c.in-Compare.op (term_of c.deref-in-Compare.result.now) (term_of c.deref-in-Compare-2.result.now) = ap term_of c.in-Compare.is ∙ ap₂ (λ (e f : Expr). Comparison c.in-Compare.op (term_of e) (term_of f)) (sym c.deref-in-Compare.ensures) (sym c.deref-in-Compare-2.ensures) in
    let made = walked (scope_of c.args.scope.now) (role_of c.args.role) c.args.notes.now c.walk_compare.new.notes (Comparison c.in-Compare.op (term_of c.deref-in-Compare.result.now) (term_of c.deref-in-Compare-2.result.now)) (term_of c.args.expr.now) is (record { next = c.walk_compare.ensures.next; found = c.walk_compare.ensures.found; types = c.walk_compare.ensures.types }) in
    record { next = made.next; found = made.found; types = made.types }

pub walk_expr-walk_and-requires : goal.walk_expr-walk_and-requires
walk_expr-walk_and-requires t c =
    let is : term_of c.args.expr.now ≡ Both (term_of c.deref-in-And.result.now) (term_of c.deref-in-And-2.result.now) = ap term_of c.in-And.is ∙ ap₂ (λ (e f : Expr). Both (term_of e) (term_of f)) (sym c.deref-in-And.ensures) (sym c.deref-in-And-2.ensures) in
    called (scope_of c.args.scope.now).index t c.args.notes.now.next (term_of c.args.expr.now) c.decreases c.requires (Both (term_of c.deref-in-And.result.now) (term_of c.deref-in-And-2.result.now)) (max (term_depth (term_of c.deref-in-And.result.now)) (term_depth (term_of c.deref-in-And-2.result.now))) (term_size (scope_of c.args.scope.now).index (term_of c.deref-in-And.result.now) + term_size (scope_of c.args.scope.now).index (term_of c.deref-in-And-2.result.now) + 1) is refl refl

pub walk_expr-returns-in-And : goal.walk_expr-returns-in-And
walk_expr-returns-in-And t c =
    let is : term_of c.args.expr.now ≡ Both (term_of c.deref-in-And.result.now) (term_of c.deref-in-And-2.result.now) = ap term_of c.in-And.is ∙ ap₂ (λ (e f : Expr). Both (term_of e) (term_of f)) (sym c.deref-in-And.ensures) (sym c.deref-in-And-2.ensures) in
    let made = walked (scope_of c.args.scope.now) (role_of c.args.role) c.args.notes.now c.walk_and.new.notes (Both (term_of c.deref-in-And.result.now) (term_of c.deref-in-And-2.result.now)) (term_of c.args.expr.now) is (record { next = c.walk_and.ensures.next; found = c.walk_and.ensures.found; types = c.walk_and.ensures.types }) in
    record { next = made.next; found = made.found; types = made.types }

pub walk_expr-walk_or-requires : goal.walk_expr-walk_or-requires
walk_expr-walk_or-requires t c =
    let is : term_of c.args.expr.now ≡ Either (term_of c.deref-in-Or.result.now) (term_of c.deref-in-Or-2.result.now) = ap term_of c.in-Or.is ∙ ap₂ (λ (e f : Expr). Either (term_of e) (term_of f)) (sym c.deref-in-Or.ensures) (sym c.deref-in-Or-2.ensures) in
    called (scope_of c.args.scope.now).index t c.args.notes.now.next (term_of c.args.expr.now) c.decreases c.requires (Either (term_of c.deref-in-Or.result.now) (term_of c.deref-in-Or-2.result.now)) (max (term_depth (term_of c.deref-in-Or.result.now)) (term_depth (term_of c.deref-in-Or-2.result.now))) (term_size (scope_of c.args.scope.now).index (term_of c.deref-in-Or.result.now) + 1 + term_size (scope_of c.args.scope.now).index (term_of c.deref-in-Or-2.result.now) + 1) is refl refl

pub walk_expr-returns-in-Or : goal.walk_expr-returns-in-Or
walk_expr-returns-in-Or t c =
    let is : term_of c.args.expr.now ≡ Either (term_of c.deref-in-Or.result.now) (term_of c.deref-in-Or-2.result.now) = ap term_of c.in-Or.is ∙ ap₂ (λ (e f : Expr). Either (term_of e) (term_of f)) (sym c.deref-in-Or.ensures) (sym c.deref-in-Or-2.ensures) in
    let made = walked (scope_of c.args.scope.now) (role_of c.args.role) c.args.notes.now c.walk_or.new.notes (Either (term_of c.deref-in-Or.result.now) (term_of c.deref-in-Or-2.result.now)) (term_of c.args.expr.now) is (record { next = c.walk_or.ensures.next; found = c.walk_or.ensures.found; types = c.walk_or.ensures.types }) in
    record { next = made.next; found = made.found; types = made.types }

pub walk_expr-walk_not-requires : goal.walk_expr-walk_not-requires
walk_expr-walk_not-requires t c =
    let is : term_of c.args.expr.now ≡ Not (term_of c.deref-in-Not.result.now) = ap term_of c.in-Not.is ∙ ap (λ (e : Expr). Not (term_of e)) (sym c.deref-in-Not.ensures) in
    called (scope_of c.args.scope.now).index t c.args.notes.now.next (term_of c.args.expr.now) c.decreases c.requires (Not (term_of c.deref-in-Not.result.now)) (term_depth (term_of c.deref-in-Not.result.now)) (term_size (scope_of c.args.scope.now).index (term_of c.deref-in-Not.result.now) + 1) is refl refl

pub walk_expr-returns-in-Not : goal.walk_expr-returns-in-Not
walk_expr-returns-in-Not t c =
    let is : term_of c.args.expr.now ≡ Not (term_of c.deref-in-Not.result.now) = ap term_of c.in-Not.is ∙ ap (λ (e : Expr). Not (term_of e)) (sym c.deref-in-Not.ensures) in
    let made = walked (scope_of c.args.scope.now) (role_of c.args.role) c.args.notes.now c.walk_not.new.notes (Not (term_of c.deref-in-Not.result.now)) (term_of c.args.expr.now) is (record { next = c.walk_not.ensures.next; found = c.walk_not.ensures.found; types = c.walk_not.ensures.types }) in
    record { next = made.next; found = made.found; types = made.types }

-- ---- an index, by its distance where it is a stream index

pub walk_index-walk_expr-requires : goal.walk_index-walk_expr-requires
walk_index-walk_expr-requires t c =
    let size = computed_items (items.stream_offset (scope_of c.args.scope.now).index (term_of c.args.index.now)) (items.term_size (scope_of c.args.scope.now).index (term_of c.args.index.now)) c.stream_distance.result c.stream_distance.ensures c.in-None.is in
    (omega arith, omega arith)

pub walk_index-returns-in-Some : goal.walk_index-returns-in-Some
walk_index-returns-in-Some t c =
    let made = streamed (scope_of c.args.scope.now) c.args.notes.now (term_of c.args.index.now) (items.stream_offset (scope_of c.args.scope.now).index (term_of c.args.index.now)) c.stream_distance.result _ c.stream_distance.ensures c.in-Some.is in
    record { next = made.next; found = made.found; types = made.types }

pub walk_index-returns-in-None : goal.walk_index-returns-in-None
walk_index-returns-in-None t c =
    let s = scope_of c.args.scope.now in
    let e = term_of c.args.index.now in
    let ty = c.first-ty.ensures ∙ ap (λ (o : Option Ty). typing.first o (Some ty.U64)) c.own_type.ensures in
    let made = computed s c.args.notes.now c.walk_expr.new.notes e (items.stream_offset s.index e) c.stream_distance.result c.first-ty.result c.stream_distance.ensures c.in-None.is ty (record { next = c.walk_expr.ensures.next; found = c.walk_expr.ensures.found; types = c.walk_expr.ensures.types }) in
    record { next = made.next; found = made.found; types = made.types }

pub walk_read-walk_index-requires : goal.walk_read-walk_index-requires
walk_read-walk_index-requires t c = (omega arith, omega arith)
