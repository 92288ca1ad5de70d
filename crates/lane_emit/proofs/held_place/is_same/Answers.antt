use Rattle.std.proofs.Common.{◌≡◌, ℕ, ℤ, List, Option, Bor, false, refl, sym, ap, ◌∙◌}
use Rattle.kernel_tree.specs.declared.ops.Ty.{Ty}
use Rattle.loop_form.specs.declared.held_throughout.Held.{Held}
use Rattle.loop_form.specs.declared.held_throughout.Held.TheVariants as held
use Rattle.loop_form.specs.HeldView.{view_of}
use Rattle.loop_form.specs.Needs as needs
use Rattle.lane_emit.specs.LoopRegisters.{is_same}
use Rattle.lane_emit.proofs.held_place.is_same.Goals as goal

other_than_scalar : (x : List ℕ) (v : Held) → ((y : Bor (List ℕ)) → v ≡ held.Scalar y → ⊥) → false ≡ is_same (needs.Scalar x) (view_of v)
other_than_scalar x (held.Scalar y) other = absurd (other y refl)
other_than_scalar x (held.Constant t n) other = refl
other_than_scalar x held.Index other = refl
other_than_scalar x (held.Accumulating y) other = refl

no_constant : (s : Option Ty) (m : ℤ) (v : Held) → ((t : Option Ty) (n : ℤ) → v ≡ held.Constant t n → ⊥) → false ≡ is_same (needs.Constant s m) (view_of v)
no_constant s m (held.Scalar y) other = refl
no_constant s m (held.Constant t n) other = absurd (other t n refl)
no_constant s m held.Index other = refl
no_constant s m (held.Accumulating y) other = refl

other_than_index : (v : Held) → (v ≡ held.Index → ⊥) → false ≡ is_same needs.Index (view_of v)
other_than_index (held.Scalar y) other = refl
other_than_index (held.Constant t n) other = refl
other_than_index held.Index other = absurd (other refl)
other_than_index (held.Accumulating y) other = refl

no_accumulator : (x : List ℕ) (v : Held) → ((y : Bor (List ℕ)) → v ≡ held.Accumulating y → ⊥) → false ≡ is_same (needs.Accumulating x) (view_of v)
no_accumulator x (held.Scalar y) other = refl
no_accumulator x (held.Constant t n) other = refl
no_accumulator x held.Index other = refl
no_accumulator x (held.Accumulating y) other = absurd (other y refl)

pub returns-in-Scalar-Scalar : goal.returns-in-Scalar-Scalar
returns-in-Scalar-Scalar c =
    let v = sym c.in-Scalar-Scalar.is-0 in
    let u = sym c.in-Scalar-Scalar.is-1 in
    c.eq.ensures ∙ (λ i. is_same (view_of (v i)) (view_of (u i)))

pub returns-in-Index-Index : goal.returns-in-Index-Index
returns-in-Index-Index c =
    let v = sym c.in-Index-Index.is-0 in
    let u = sym c.in-Index-Index.is-1 in
    λ i. is_same (view_of (v i)) (view_of (u i))

pub returns-in-Accumulating-Accumulating : goal.returns-in-Accumulating-Accumulating
returns-in-Accumulating-Accumulating c =
    let v = sym c.in-Accumulating-Accumulating.is-0 in
    let u = sym c.in-Accumulating-Accumulating.is-1 in
    c.eq-in-Accumulating-Accumulating.ensures ∙ (λ i. is_same (view_of (v i)) (view_of (u i)))

pub returns-in_default : goal.returns-in_default
returns-in_default c = other_than_scalar c.in_default.field-0-0.now c.args.wanted c.in_default.not-Scalar-1 ∙ ap (λ v. is_same (view_of v) (view_of c.args.wanted)) (sym c.in_default.is-0)

pub returns-in_default-2 : goal.returns-in_default-2
returns-in_default-2 c = no_constant c.in_default.field-0-0 c.in_default.field-1-0 c.args.wanted c.in_default.not-Constant-1 ∙ ap (λ v. is_same (view_of v) (view_of c.args.wanted)) (sym c.in_default.is-0)

pub returns-in_default-3 : goal.returns-in_default-3
returns-in_default-3 c = other_than_index c.args.wanted c.in_default.not-Index-1 ∙ ap (λ v. is_same (view_of v) (view_of c.args.wanted)) (sym c.in_default.is-0)

pub returns-in_default-4 : goal.returns-in_default-4
returns-in_default-4 c = no_accumulator c.in_default.field-0-0.now c.args.wanted c.in_default.not-Accumulating-1 ∙ ap (λ v. is_same (view_of v) (view_of c.args.wanted)) (sym c.in_default.is-0)
