use Rattle.std.proofs.Common.{◌≡◌, Some, rules, [], ◌∷◌, sym, ap, ◌∙◌}
use Rattle.guest_types.proofs.Errors.{on_error}
use Rattle.sve_code.specs.Table.{p_and, p_bic, p_orr}
use Rattle.loop_form.specs.LoopItems as ops
use Rattle.loop_form.specs.LoopView.{op_of}
use Rattle.lane_emit.specs.Stretch.{word}
use Rattle.lane_emit.specs.LaneCode.{test_code}
use Rattle.lane_emit.specs.ItemCode.{truth_code}
use Rattle.lane_emit.specs.RegistersView.{registers_of}
use Rattle.lane_emit.proofs.Appended.{adds_word}
use Rattle.lane_emit.proofs.emit.emit_truth.Goals as goal

pub returns-in_err-push-in-Compare-default-Some-default-default : goal.returns-in_err-push-in-Compare-default-Some-default-default
returns-in_err-push-in-Compare-default-Some-default-default c = on_error _ _ c.from_residual.ensures.0

pub returns-in_ok-push-in-Compare-default-Some-default-default : goal.returns-in_ok-push-in-Compare-default-Some-default-default
returns-in_ok-push-in-Compare-default-Some-default-default c =
    let r = registers_of c.args.registers.now in
    let m = c.args.mask.number in
    let op = c.in-Compare-default-Some-default-default.op in
    let x = c.in-Compare-default-Some-default-default.left in
    let y = c.in-Compare-default-Some-default-default.right in
    let d = c.wide-d.ensures ∙ c.p.ensures in
    let a = c.source-a.ensures in
    let b = c.source-b.ensures in
    let typed : c.in-Compare-default-Some-default-default.ty' ≡ Some c.in-Compare-default-Some-default-default.ty = search rules in
    adds_word c.args.words.now.items c.push.new.self.items c.test.result _ c.in_ok-push-in-Compare-default-Some-default-default.ensures.items
    (sym c.test.ensures
    ∙ (λ i. test_code c.args.width op c.in-Compare-default-Some-default-default.ty (d i) m (a i) (b i))
    ∙ ap (λ t. truth_code c.args.width r c.args.item m (ops.Compare op t x y)) (sym typed)
    ∙ ap (λ o. truth_code c.args.width r c.args.item m (op_of o)) (sym c.in-Compare-default-Some-default-default.is))

pub returns-in_err-push-in-Not : goal.returns-in_err-push-in-Not
returns-in_err-push-in-Not c = on_error _ _ c.from_residual-in_err-push-in-Not.ensures.0

pub returns-in_ok-push-in-Not : goal.returns-in_ok-push-in-Not
returns-in_ok-push-in-Not c =
    let d = c.wide-d.ensures ∙ c.p.ensures in
    let m = c.wide-m.ensures in
    let q = c.wide-c.ensures ∙ c.p-in-Not.ensures in
    adds_word c.args.words.now.items c.push-in-Not.new.self.items c.logical.result _ c.in_ok-push-in-Not.ensures.items
    (ap (λ w. w ∷ []) c.logical.ensures
    ∙ (λ i. word p_bic (d i ∷ m i ∷ m i ∷ q i ∷ []) ∷ [])
    ∙ ap (λ o. truth_code c.args.width (registers_of c.args.registers.now) c.args.item c.args.mask.number (op_of o)) (sym c.in-Not.is))

pub returns-in_err-push-in-And : goal.returns-in_err-push-in-And
returns-in_err-push-in-And c = on_error _ _ c.from_residual-in_err-push-in-And.ensures.0

pub returns-in_ok-push-in-And : goal.returns-in_ok-push-in-And
returns-in_ok-push-in-And c =
    let d = c.wide-d.ensures ∙ c.p.ensures in
    let m = c.wide-m.ensures in
    let q = c.wide-c-in-And.ensures ∙ c.p-in-And.ensures in
    adds_word c.args.words.now.items c.push-in-And.new.self.items c.logical-in-And.result _ c.in_ok-push-in-And.ensures.items
    (ap (λ w. w ∷ []) c.logical-in-And.ensures
    ∙ (λ i. word p_and (d i ∷ q i ∷ m i ∷ q i ∷ []) ∷ [])
    ∙ ap (λ o. truth_code c.args.width (registers_of c.args.registers.now) c.args.item c.args.mask.number (op_of o)) (sym c.in-And.is))

pub returns-in_err-push-in-Or : goal.returns-in_err-push-in-Or
returns-in_err-push-in-Or c = on_error _ _ c.from_residual-in_err-push-in-Or.ensures.0

pub returns-in_ok-push-in-Or : goal.returns-in_ok-push-in-Or
returns-in_ok-push-in-Or c =
    let d = c.wide-d.ensures ∙ c.p.ensures in
    let m = c.wide-m.ensures in
    let a = c.wide-a.ensures ∙ c.p-in-Or.ensures in
    let b = c.wide-b.ensures ∙ c.p-in-Or-2.ensures in
    adds_word c.args.words.now.items c.push-in-Or.new.self.items c.logical-in-Or.result _ c.in_ok-push-in-Or.ensures.items
    (ap (λ w. w ∷ []) c.logical-in-Or.ensures
    ∙ (λ i. word p_orr (d i ∷ a i ∷ m i ∷ b i ∷ []) ∷ [])
    ∙ ap (λ o. truth_code c.args.width (registers_of c.args.registers.now) c.args.item c.args.mask.number (op_of o)) (sym c.in-Or.is))
