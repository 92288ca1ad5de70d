use Rattle.std.proofs.Common.{ℕ, Bool, List, [], ◌∷◌, ◌-◌, ◌*◌, if◌then◌else◌, sym, ap, ◌∙◌, eq-eqb, ne_eqb}
use Rattle.std.proofs.lemmas.Result.{on_ok_weaker}
use Rattle.guest_types.specs.declared.length.Width.{Width}
use Rattle.guest_types.specs.Length.{width_bits}
use Rattle.guest_types.proofs.Errors.{on_error}
use Rattle.kernel_tree.specs.declared.ops.Ty.{Ty}
use Rattle.lane_emit.specs.Stretch.{VectorInstruction}
use Rattle.lane_emit.specs.LaneCode.{z_copy, shift_word, right_by, right_name}
use Rattle.lane_emit.proofs.Appended.{adds_as, adds_word, adds_last}
use Rattle.lane_emit.proofs.code.shifted_right.Goals as goal

-- a copy, or the shift itself
abbrev either : Width → ℕ → Ty → (d a : ℕ) → Bool → List VectorInstruction
either w n t d a b = if b then z_copy d a [] else shift_word (right_name t) d a (2 * width_bits w - n) ∷ []

pub returns-in_err-push : goal.returns-in_err-push
returns-in_err-push c = on_error _ _ c.from_residual.ensures.0

pub returns-then-count-eq0 : goal.returns-then-count-eq0
returns-then-count-eq0 c =
    let d = c.args.d.number in
    let a = c.args.a.number in
    let code = ap (either c.args.width c.args.count c.args.ty d a) (sym (eq-eqb c.args.count 0 c.if-count-eq0.true)) in
    on_ok_weaker c.z_copy.result (λ p. adds_as c.args.words.now.items c.z_copy.new.words.items _ _ code (adds_last c.args.words.now.items c.z_copy.new.words.items (z_copy d a) p)) c.z_copy.ensures

pub returns-in_ok-push : goal.returns-in_ok-push
returns-in_ok-push c =
    let w = c.args.width in
    let n = c.args.count in
    let d = c.args.d.number in
    let a = c.args.a.number in
    adds_word c.args.words.now.items c.push.new.self.items c.shift_right.result _ c.in_ok-push.ensures.items
    (ap (λ i. i ∷ []) c.shift_right.ensures
    ∙ ap (λ signed. shift_word (right_by signed) d a (2 * width_bits w - n) ∷ []) c.is_signed.ensures
    ∙ ap (either w n c.args.ty d a) (sym (ne_eqb n 0 c.if-count-eq0.false)))
