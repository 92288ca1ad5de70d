use mir.Syntax.{w128}
use mir.Val.{SFits, of_z, to_z}
use Rattle.std.proofs.lemmas.Int.{to_z-of_z}
use Rattle.std.proofs.Common.{Bool, ap, ◌∙◌, rules}
use Rattle.kernel_tree.specs.Plain.{term_of}
use Rattle.kernel_scope.specs.Scopes.{scope_of}
use Rattle.value_code.specs.Code.{stays}
use Rattle.scalar_values.proofs.PartKinds.{binary_of, shift_of, cast_of, product_fused, no_product_fused, product_not_taken, shift_fused, shift_not_taken, cast_within, cast_fits, operation_parts, shift_parts, cast_parts, not_fused}
use Rattle.scalar_values.proofs.fusion.is_fused.Goals as goal

pub returns-then-is_product : goal.returns-then-is_product
returns-then-is_product c =
    let is = binary_of c.args.expr.now c.in-Binary.inner c.in-Binary.left c.in-Binary.right c.deref.result.now c.deref-then-is_product.result.now c.in-Binary.is c.deref.ensures c.deref-then-is_product.ensures in
    record {
      fused = product_fused (scope_of c.args.scope.now) c.args.op c.args.asked.extent c.args.asked.want c.in-Binary.inner (term_of c.deref.result.now) (term_of c.deref-then-is_product.result.now) (term_of c.args.expr.now) c.takes_product.result c.is_product.result c.stays.result is c.takes_product.ensures c.if-takes_product.true c.is_product.ensures c.if-is_product.true (c.stays.ensures ∙ ap (λ (b : Bool). stays b c.args.asked.want) c.binary_asks.ensures.settles);
      parts = operation_parts c.stays.result c.in-Binary.inner (term_of c.deref.result.now) (term_of c.deref-then-is_product.result.now) (term_of c.args.expr.now) is;
    }

pub returns-else-is_product : goal.returns-else-is_product
returns-else-is_product c = record {
  fused = no_product_fused (scope_of c.args.scope.now) c.args.op c.args.asked.extent c.args.asked.want c.in-Binary.inner (term_of c.in-Binary.left.value) (term_of c.in-Binary.right.value) (term_of c.args.expr.now) c.takes_product.result c.is_product.result (ap term_of c.in-Binary.is) c.takes_product.ensures c.if-takes_product.true c.is_product.ensures c.if-is_product.false;
  parts = operation_parts c.is_product.result c.in-Binary.inner (term_of c.in-Binary.left.value) (term_of c.in-Binary.right.value) (term_of c.args.expr.now) (ap term_of c.in-Binary.is);
}

pub returns-else-takes_product : goal.returns-else-takes_product
returns-else-takes_product c = record {
  fused = product_not_taken (scope_of c.args.scope.now) c.args.op c.args.asked.extent c.args.asked.want c.in-Binary.inner (term_of c.in-Binary.left.value) (term_of c.in-Binary.right.value) (term_of c.args.expr.now) c.takes_product.result (ap term_of c.in-Binary.is) c.takes_product.ensures c.if-takes_product.false;
  parts = operation_parts c.takes_product.result c.in-Binary.inner (term_of c.in-Binary.left.value) (term_of c.in-Binary.right.value) (term_of c.args.expr.now) (ap term_of c.in-Binary.is);
}

pub returns-then-takes_shift : goal.returns-then-takes_shift
returns-then-takes_shift c =
    let is = shift_of c.args.expr.now c.in-Shift.left_shift c.in-Shift.arg c.in-Shift.count c.deref-then-takes_shift.result.now c.in-Shift.is c.deref-then-takes_shift.ensures in
    let in_range : SFits w128 c.in-Shift.count = search rules in
    record {
      fused = shift_fused (scope_of c.args.scope.now) c.args.op c.args.asked.extent c.args.asked.want c.in-Shift.left_shift (term_of c.deref-then-takes_shift.result.now) (term_of c.args.expr.now) c.in-Shift.count (to_z w128 (of_z w128 c.in-Shift.count)) c.takes_shift.result c.stays-then-takes_shift.result is (to_z-of_z w128 c.in-Shift.count in_range) c.takes_shift.ensures c.if-takes_shift.true (c.stays-then-takes_shift.ensures ∙ ap (λ (b : Bool). stays b c.args.asked.want) c.shift_asks.ensures.settles);
      parts = shift_parts c.stays-then-takes_shift.result c.in-Shift.left_shift (term_of c.deref-then-takes_shift.result.now) (term_of c.args.expr.now) c.in-Shift.count is;
    }

pub returns-else-takes_shift : goal.returns-else-takes_shift
returns-else-takes_shift c = record {
  fused = shift_not_taken (scope_of c.args.scope.now) c.args.op c.args.asked.extent c.args.asked.want c.in-Shift.left_shift (term_of c.in-Shift.arg.value) (term_of c.args.expr.now) c.in-Shift.count c.takes_shift.result (ap term_of c.in-Shift.is) c.takes_shift.ensures c.if-takes_shift.false;
  parts = shift_parts c.takes_shift.result c.in-Shift.left_shift (term_of c.in-Shift.arg.value) (term_of c.args.expr.now) c.in-Shift.count (ap term_of c.in-Shift.is);
}

pub returns-then-within_type : goal.returns-then-within_type
returns-then-within_type c = record {
  fused = cast_within (scope_of c.args.scope.now) c.args.op c.args.asked.extent c.args.asked.want (term_of c.in-Cast.arg.value) (term_of c.args.expr.now) c.in-Cast.ty c.within_type.result (ap term_of c.in-Cast.is) c.within_type.ensures c.if-within_type.true;
  parts = cast_parts c.within_type.result (term_of c.in-Cast.arg.value) (term_of c.args.expr.now) c.in-Cast.ty (ap term_of c.in-Cast.is);
}

pub returns-else-within_type : goal.returns-else-within_type
returns-else-within_type c =
    let is = cast_of c.args.expr.now c.in-Cast.arg c.in-Cast.ty c.deref-else-within_type.result.now c.in-Cast.is c.deref-else-within_type.ensures in
    record {
      fused = cast_fits (scope_of c.args.scope.now) c.args.op c.args.asked.extent c.args.asked.want (term_of c.deref-else-within_type.result.now) (term_of c.args.expr.now) c.in-Cast.ty c.own_type.result c.within_type.result c.fits_at.result is c.within_type.ensures c.if-within_type.false c.fits_at.ensures c.own_type.ensures;
      parts = cast_parts c.fits_at.result (term_of c.deref-else-within_type.result.now) (term_of c.args.expr.now) c.in-Cast.ty is;
    }

pub returns-in_default : goal.returns-in_default
returns-in_default c = record { fused = not_fused (scope_of c.args.scope.now) c.args.op c.args.asked.extent c.args.asked.want c.args.expr.now c.in_default.not-Binary c.in_default.not-Shift c.in_default.not-Cast; parts = tt }
