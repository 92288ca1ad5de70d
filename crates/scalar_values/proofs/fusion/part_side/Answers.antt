use mir.Syntax.{w128}
use mir.Val.{SFits, of_z, to_z}
use Rattle.std.proofs.lemmas.Int.{to_z-of_z}
use Rattle.std.proofs.Common.{refl, sym, ap, ◌∙◌, rules}
use Rattle.kernel_tree.specs.Plain.{term_of}
use Rattle.kernel_tree.specs.declared.ast.Expr.{Expr}
use Rattle.kernel_scope.specs.Scopes.{scope_of}
use Rattle.scalar_words.specs.View.{homes_of}
use Rattle.value_code.specs.ValueRegisters.{home}
use Rattle.scalar_values.proofs.PartKinds.{binary_of, shift_of, cast_of, product_side, shift_side, cast_side, no_side, left_size, left_fits, left_room_of, right_room_of, shift_room_of, cast_room_of}
use Rattle.scalar_values.proofs.fusion.part_side.Goals as goal

pub expr_size-requires : goal.expr_size-requires
expr_size-requires c = left_size (scope_of c.args.site.now.scope).index c.args.item c.in-Binary.op (term_of c.deref.result.now) (term_of c.in-Binary.right.value) (term_of c.args.expr.now) (binary_of c.args.expr.now c.in-Binary.op c.in-Binary.left c.in-Binary.right c.deref.result.now c.in-Binary.right.value c.in-Binary.is c.deref.ensures refl) c.requires

pub overflow_add-second : goal.overflow_add-second
overflow_add-second c = left_fits (scope_of c.args.site.now.scope).index c.args.item c.expr_size.result c.in-Binary.op (term_of c.deref.result.now) (term_of c.in-Binary.right.value) (term_of c.args.expr.now) (binary_of c.args.expr.now c.in-Binary.op c.in-Binary.left c.in-Binary.right c.deref.result.now c.in-Binary.right.value c.in-Binary.is c.deref.ensures refl) c.expr_size.ensures c.requires

pub home_of-p-requires : goal.home_of-p-requires
home_of-p-requires c = left_room_of (scope_of c.args.site.now.scope).index c.args.item c.in-Binary.op (term_of c.deref-in-Binary.result.now) (term_of c.in-Binary.right.value) (term_of c.args.expr.now) (binary_of c.args.expr.now c.in-Binary.op c.in-Binary.left c.in-Binary.right c.deref-in-Binary.result.now c.in-Binary.right.value c.in-Binary.is c.deref-in-Binary.ensures refl) c.requires

pub home_of-q-requires : goal.home_of-q-requires
home_of-q-requires c = right_room_of (scope_of c.args.site.now.scope).index c.args.item c.expr_size.result c.in-Binary.op (term_of c.deref.result.now) (term_of c.deref-in-Binary-2.result.now) (term_of c.args.expr.now) (binary_of c.args.expr.now c.in-Binary.op c.in-Binary.left c.in-Binary.right c.deref.result.now c.deref-in-Binary-2.result.now c.in-Binary.is c.deref.ensures c.deref-in-Binary-2.ensures) c.expr_size.ensures c.requires

pub home_of-requires : goal.home_of-requires
home_of-requires c = shift_room_of (scope_of c.args.site.now.scope).index c.args.item c.in-Shift.left_shift c.in-Shift.count (term_of c.deref-in-Shift.result.now) (term_of c.args.expr.now) (shift_of c.args.expr.now c.in-Shift.left_shift c.in-Shift.arg c.in-Shift.count c.deref-in-Shift.result.now c.in-Shift.is c.deref-in-Shift.ensures) c.requires

pub home_of-requires-in-Cast : goal.home_of-requires-in-Cast
home_of-requires-in-Cast c = cast_room_of (scope_of c.args.site.now.scope).index c.args.item c.in-Cast.ty (term_of c.deref-in-Cast.result.now) (term_of c.args.expr.now) (cast_of c.args.expr.now c.in-Cast.arg c.in-Cast.ty c.deref-in-Cast.result.now c.in-Cast.is c.deref-in-Cast.ensures) c.requires

pub returns-in-Binary : goal.returns-in-Binary
returns-in-Binary c =
    product_side c.args.site.now.layout (homes_of c.args.site.now.homes.items) (scope_of c.args.site.now.scope).index c.args.want c.args.item c.expr_size.result c.in-Binary.op (term_of c.deref.result.now) (term_of c.deref-in-Binary-2.result.now) (term_of c.args.expr.now) c.home_of-p.result.number c.home_of-q.result.number
    (binary_of c.args.expr.now c.in-Binary.op c.in-Binary.left c.in-Binary.right c.deref.result.now c.deref-in-Binary-2.result.now c.in-Binary.is c.deref.ensures c.deref-in-Binary-2.ensures) c.expr_size.ensures
    (c.home_of-p.ensures ∙ ap (λ (e : Expr). home c.args.site.now.layout (homes_of c.args.site.now.homes.items) (scope_of c.args.site.now.scope).index c.args.item (term_of e)) (c.deref-in-Binary.ensures ∙ sym c.deref.ensures)) c.home_of-q.ensures

pub returns-in-Shift : goal.returns-in-Shift
returns-in-Shift c =
    let in_range : SFits w128 c.in-Shift.count = search rules in
    shift_side c.args.site.now.layout (homes_of c.args.site.now.homes.items) (scope_of c.args.site.now.scope).index c.args.want c.args.item c.in-Shift.left_shift c.signed_side.result (term_of c.deref-in-Shift.result.now) (term_of c.args.expr.now) c.in-Shift.count (to_z w128 (of_z w128 c.in-Shift.count)) c.shift_count.result.number c.home_of.result.number
    (shift_of c.args.expr.now c.in-Shift.left_shift c.in-Shift.arg c.in-Shift.count c.deref-in-Shift.result.now c.in-Shift.is c.deref-in-Shift.ensures) (to_z-of_z w128 c.in-Shift.count in_range) c.signed_side.ensures c.shift_count.ensures c.home_of.ensures

pub returns-in-Cast : goal.returns-in-Cast
returns-in-Cast c = cast_side c.args.site.now.layout (homes_of c.args.site.now.homes.items) (scope_of c.args.site.now.scope).index c.args.want c.args.item (term_of c.deref-in-Cast.result.now) (term_of c.args.expr.now) c.in-Cast.ty c.home_of-in-Cast.result.number (cast_of c.args.expr.now c.in-Cast.arg c.in-Cast.ty c.deref-in-Cast.result.now c.in-Cast.is c.deref-in-Cast.ensures) c.home_of-in-Cast.ensures

pub returns-in_default : goal.returns-in_default
returns-in_default c = no_side c.args.site.now.layout (homes_of c.args.site.now.homes.items) (scope_of c.args.site.now.scope).index c.args.want c.args.item c.args.expr.now c.zero.result.number c.zero.ensures c.in_default.not-Binary c.in_default.not-Shift c.in_default.not-Cast
