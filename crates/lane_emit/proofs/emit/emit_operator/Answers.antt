use Rattle.std.proofs.Common.{◌≡◌, Some, rules, sym, ap, ◌∙◌}
use Rattle.guest_types.proofs.Errors.{on_error}
use Rattle.loop_form.specs.LoopItems as ops
use Rattle.loop_form.specs.LoopView.{op_of}
use Rattle.lane_emit.specs.LaneCode.{unary_code, binary_code}
use Rattle.lane_emit.specs.ItemCode.{value_code}
use Rattle.lane_emit.specs.RegistersView.{registers_of}
use Rattle.lane_emit.proofs.Appended.{adds_as}
use Rattle.lane_emit.proofs.emit.emit_operator.Goals as goal

pub returns-in_err-apply-in-Unary-default-Some-default : goal.returns-in_err-apply-in-Unary-default-Some-default
returns-in_err-apply-in-Unary-default-Some-default c = on_error _ _ c.from_residual.ensures.0

pub returns-in_ok-apply-in-Unary-default-Some-default : goal.returns-in_ok-apply-in-Unary-default-Some-default
returns-in_ok-apply-in-Unary-default-Some-default c =
    let r = registers_of c.args.registers.now in
    let op = c.in-Unary-default-Some-default.op in
    let x = c.in-Unary-default-Some-default.arg in
    let d = c.z-d.ensures in
    let a = c.source.ensures in
    let typed : c.in-Unary-default-Some-default.ty' ≡ Some c.in-Unary-default-Some-default.ty = search rules in
    adds_as c.args.words.now.items c.apply.new.words.items _ _
    ((λ i. unary_code c.args.width op c.in-Unary-default-Some-default.ty (d i) (a i))
    ∙ ap (λ t. value_code c.args.width r c.args.item (ops.Unary op t x)) (sym typed)
    ∙ ap (λ o. value_code c.args.width r c.args.item (op_of o)) (sym c.in-Unary-default-Some-default.is))
    c.in_ok-apply-in-Unary-default-Some-default.ensures

pub returns-in_err-combine-in-Binary-default-Some-default-default : goal.returns-in_err-combine-in-Binary-default-Some-default-default
returns-in_err-combine-in-Binary-default-Some-default-default c = on_error _ _ c.from_residual-in_err-combine-in-Binary-default-Some-default-default.ensures.0

pub returns-in_ok-combine-in-Binary-default-Some-default-default : goal.returns-in_ok-combine-in-Binary-default-Some-default-default
returns-in_ok-combine-in-Binary-default-Some-default-default c =
    let r = registers_of c.args.registers.now in
    let op = c.in-Binary-default-Some-default-default.op in
    let x = c.in-Binary-default-Some-default-default.left in
    let y = c.in-Binary-default-Some-default-default.right in
    let d = c.z-d.ensures in
    let a = c.source-a.ensures in
    let b = c.source-b.ensures in
    let typed : c.in-Binary-default-Some-default-default.ty' ≡ Some c.in-Binary-default-Some-default-default.ty = search rules in
    adds_as c.args.words.now.items c.combine.new.words.items _ _
    ((λ i. binary_code c.args.width op c.in-Binary-default-Some-default-default.ty (d i) (a i) (b i))
    ∙ ap (λ t. value_code c.args.width r c.args.item (ops.Binary op t x y)) (sym typed)
    ∙ ap (λ o. value_code c.args.width r c.args.item (op_of o)) (sym c.in-Binary-default-Some-default-default.is))
    c.in_ok-combine-in-Binary-default-Some-default-default.ensures
