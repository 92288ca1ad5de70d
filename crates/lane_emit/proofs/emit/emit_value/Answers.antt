use Rattle.std.proofs.Common.{◌≡◌, Some, rules, [], ◌∷◌, sym, ap, ◌∙◌, ⊎_elim}
use Rattle.guest_types.proofs.Errors.{on_error}
use Rattle.sve_code.specs.Table.{sel}
use Rattle.loop_form.specs.LoopItems as ops
use Rattle.loop_form.specs.LoopView.{op_of}
use Rattle.lane_emit.specs.Stretch.{word}
use Rattle.lane_emit.specs.LaneCode.{size_of, cast_code, z_copy}
use Rattle.lane_emit.specs.ItemCode.{value_code, is_operator}
use Rattle.lane_emit.specs.RegistersView.{registers_of}
use Rattle.lane_emit.proofs.Appended.{adds_as, adds_word, adds_last}
use Rattle.lane_emit.proofs.emit.emit_value.Goals as goal

pub emit_operator-requires : goal.emit_operator-requires
emit_operator-requires c = ⊎_elim (λ h. ap (λ o. is_operator (op_of o)) h.3) (λ h. ap (λ o. is_operator (op_of o)) h.4) c.in-Unary.is

pub returns-in_err-emit_operator-in-Unary : goal.returns-in_err-emit_operator-in-Unary
returns-in_err-emit_operator-in-Unary c = on_error _ _ c.from_residual.ensures.0

pub returns-in_ok-emit_operator-in-Unary : goal.returns-in_ok-emit_operator-in-Unary
returns-in_ok-emit_operator-in-Unary c = c.in_ok-emit_operator-in-Unary.ensures

pub returns-in_err-shift-in-Shift-default-default-Some-default : goal.returns-in_err-shift-in-Shift-default-default-Some-default
returns-in_err-shift-in-Shift-default-default-Some-default c = on_error _ _ c.from_residual-in_err-shift-in-Shift-default-default-Some-default.ensures.0

pub returns-in_err-cast-in-Cast-Some-default-default : goal.returns-in_err-cast-in-Cast-Some-default-default
returns-in_err-cast-in-Cast-Some-default-default c = on_error _ _ c.from_residual-in_err-cast-in-Cast-Some-default-default.ensures.0

pub returns-in_ok-cast-in-Cast-Some-default-default : goal.returns-in_ok-cast-in-Cast-Some-default-default
returns-in_ok-cast-in-Cast-Some-default-default c =
    let r = registers_of c.args.registers.now in
    let to = c.in-Cast-Some-default-default.to in
    let x = c.in-Cast-Some-default-default.arg in
    let d = c.z-d.ensures in
    let a = c.source-in-Cast-Some-default-default.ensures in
    let typed : c.in-Cast-Some-default-default.from' ≡ Some c.in-Cast-Some-default-default.from = search rules in
    adds_as c.args.words.now.items c.cast.new.words.items _ _
    ((λ i. cast_code c.args.width c.in-Cast-Some-default-default.from to (d i) (a i))
    ∙ ap (λ t. value_code c.args.width r c.args.item (ops.Cast t to x)) (sym typed)
    ∙ ap (λ o. value_code c.args.width r c.args.item (op_of o)) (sym c.in-Cast-Some-default-default.is))
    c.in_ok-cast-in-Cast-Some-default-default.ensures

pub returns-in_err-z_copy-in-Let : goal.returns-in_err-z_copy-in-Let
returns-in_err-z_copy-in-Let c = on_error _ _ c.from_residual-in_err-z_copy-in-Let.ensures.0

pub returns-in_ok-z_copy-in-Let : goal.returns-in_ok-z_copy-in-Let
returns-in_ok-z_copy-in-Let c =
    let d = c.z-d.ensures in
    let a = c.source-in-Let.ensures in
    let code = (λ i. z_copy (d i) (a i) []) ∙ ap (λ o. value_code c.args.width (registers_of c.args.registers.now) c.args.item (op_of o)) (sym c.in-Let.is) in
    adds_as c.args.words.now.items c.z_copy.new.words.items _ _ code (adds_last c.args.words.now.items c.z_copy.new.words.items (z_copy c.z-d.result.number c.source-in-Let.result.number) c.in_ok-z_copy-in-Let.ensures)

pub returns-in_err-push-in-Select : goal.returns-in_err-push-in-Select
returns-in_err-push-in-Select c = on_error _ _ c.from_residual-in_err-push-in-Select.ensures.0

pub returns-in_ok-push-in-Select : goal.returns-in_ok-push-in-Select
returns-in_ok-push-in-Select c =
    let d = c.z-d.ensures in
    let p = c.wide-p.ensures ∙ c.p.ensures in
    let a = c.source-in-Select.ensures in
    let b = c.source-in-Select-2.ensures in
    adds_word c.args.words.now.items c.push.new.self.items c.select.result _ c.in_ok-push-in-Select.ensures.items
    (ap (λ w. w ∷ []) c.select.ensures
    ∙ (λ i. word sel (d i ∷ a i ∷ p i ∷ b i ∷ size_of c.args.width ∷ []) ∷ [])
    ∙ ap (λ o. value_code c.args.width (registers_of c.args.registers.now) c.args.item (op_of o)) (sym c.in-Select.is))
