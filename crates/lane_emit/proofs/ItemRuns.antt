-- The code of an item makes what the item makes in each lane.
use Rattle.std.proofs.Common.{◌≡◌, ℕ, ◌<◌, ℤ, Bool, true, false, not, ◌&&◌, ◌||◌, List, Option, Some, None, refl, sym, ap, ◌∙◌, subst}
use Rattle.std.specs.Prelude.{nat_eq, nat_lt, if◌then◌else◌}
use Rattle.std.proofs.lemmas.Bool.{eq-eqb}
use Rattle.guest_types.specs.declared.length.Width.{Width}
use Rattle.kernel_tree.specs.declared.ops.Ty.{Ty}
use Rattle.kernel_tree.specs.Wrap.{wrap}
use Rattle.kernel_meaning.specs.Operators.{unary_on, binary_on, shift_on, shift_count, compare_on}
use Rattle.kernel_meaning.specs.Eval.{choose_value}
use Rattle.machine_model.specs.Machine.{State}
use Rattle.loop_form.specs.LoopItems.{Op}
use Rattle.loop_form.specs.LoopItems as ops
use Rattle.lane_emit.specs.Right.{IsOf}
use Rattle.lane_emit.specs.Stretch.{VectorInstruction, Ready, MakesP}
use Rattle.lane_emit.specs.ItemCode.{Registers, Chunk, lane_at, operand, truth_of, mask_of, new_value, AllTyped, MaskRight, OperandsRight, Makes, makes_truth, made_type, ItemRuns, LanesRight}
use Rattle.lane_emit.proofs.Ranges.{wrap-is_of}
use Rattle.lane_emit.proofs.Residues.{held}
use Rattle.lane_emit.proofs.Stretches.{renamed_z}
use Rattle.lane_emit.proofs.Values.{unary_z, binary_z, shift_z, cast_z, let_z, pick_z}
use Rattle.lane_emit.proofs.Truths.{same_p, any_p, invert_p, test_p}

same_number : (q : ℕ) → nat_eq q q ≡ true
same_number q = eq-eqb q q refl

-- the value and the truth that an item was given
chosen_value : (q : ℕ) (v w : ℤ) → (if nat_eq q q then v else w) ≡ v
chosen_value q v w = ap (λ b. if b then v else w) (same_number q)

chosen_truth : (q : ℕ) (v w : Bool) → (if nat_eq q q then v else w) ≡ v
chosen_truth q v w = ap (λ b. if b then v else w) (same_number q)

renamed_p : {c : List VectorInstruction} {s : State} {d : ℕ} {w : Width} {t u : ℕ → Bool} → ((e : ℕ) → t e ≡ u e) → MakesP c s d w t → MakesP c s d w u
renamed_p same m = record { end = m.end; runs = m.runs; is = m.is; only = m.only; right = λ e lt. m.right e lt ∙ same e }

choose_of : (t : Ty) (b : Bool) (x y : ℤ) → IsOf t x → IsOf t y → IsOf t (choose_value b x y)
choose_of t true x y h k = h
choose_of t false x y h k = k

module _ (c : Chunk) (r : Registers) (s : State) (q m : ℕ) (mask : Option ℕ) (ready : Ready c.w c.n s) (lz : r.z q < 32) (lp : r.p q < 16) (masked : MaskRight c s m mask) where
  abbrev on : ℕ → Bool
  on = mask_of c mask

  value_made : (op : Op) (v : ℕ → ℤ) → makes_truth op ≡ false → ((e : ℕ) → new_value c op q mask e ≡ v e) → AllTyped (made_type op) c.n v → Makes false c r s q m mask op → ItemRuns c r s q m mask op
  value_made op v kind is of made = record {
    makes = subst (λ b. Makes b c r s q m mask op) (sym kind) made;
    typed = typed_as (made_type op) of;
  }
    where
      typed_as : (t : Option Ty) → AllTyped t c.n v → AllTyped t c.n (new_value c op q mask)
      typed_as None h = tt
      typed_as (Some t) h = λ e lt. subst (IsOf t) (sym (is e)) (h e lt)

  truth_made : (op : Op) → makes_truth op ≡ true → made_type op ≡ None → Makes true c r s q m mask op → ItemRuns c r s q m mask op
  truth_made op kind none made = record {
    makes = subst (λ b. Makes b c r s q m mask op) (sym kind) made;
    typed = subst (λ t. AllTyped t c.n (new_value c op q mask)) (sym none) tt;
  }

  pub lanes_right : (op : Op) → OperandsRight c r s op → ItemRuns c r s q m mask op
  lanes_right (ops.Unary op (Some t) x) h =
      let v = λ (e : ℕ). wrap t (unary_on op (operand c x e)) in
      let is = λ (e : ℕ). chosen_value q (v e) ((lane_at c e).value q) in
      value_made (ops.Unary op (Some t) x) v refl is (λ e lt. wrap-is_of t (unary_on op (operand c x e)))
      (renamed_z (λ e lt. ap (held c.w) (sym (is e))) (unary_z t c.w ready h.wide (r.z q) (r.source x) lz h.number (operand c x) h.right h.typed op))
  lanes_right (ops.Unary op None x) h = absurd h
  lanes_right (ops.Binary op (Some t) x y) h =
      let v = λ (e : ℕ). wrap t (binary_on op (operand c x e) (operand c y e)) in
      let is = λ (e : ℕ). chosen_value q (v e) ((lane_at c e).value q) in
      value_made (ops.Binary op (Some t) x y) v refl is (λ e lt. wrap-is_of t (binary_on op (operand c x e) (operand c y e)))
      (renamed_z (λ e lt. ap (held c.w) (sym (is e))) (binary_z t c.w ready h.0.wide (r.z q) (r.source x) lz h.0.number (operand c x) h.0.right h.0.typed (r.source y) h.1.number (operand c y) h.1.right h.1.typed op))
  lanes_right (ops.Binary op None x y) h = absurd h
  lanes_right (ops.Shift left k (Some t) x) h =
      let v = λ (e : ℕ). wrap t (shift_on left (shift_count k) (operand c x e)) in
      let is = λ (e : ℕ). chosen_value q (v e) ((lane_at c e).value q) in
      value_made (ops.Shift left k (Some t) x) v refl is (λ e lt. wrap-is_of t (shift_on left (shift_count k) (operand c x e)))
      (renamed_z (λ e lt. ap (held c.w) (sym (is e))) (shift_z t c.w ready h.0.wide (r.z q) (r.source x) lz h.0.number (operand c x) h.0.right h.0.typed left k h.1))
  lanes_right (ops.Shift left k None x) h = absurd h
  lanes_right (ops.Cast (Some from) t x) h =
      let v = λ (e : ℕ). wrap t (operand c x e) in
      let is = λ (e : ℕ). chosen_value q (v e) ((lane_at c e).value q) in
      value_made (ops.Cast (Some from) t x) v refl is (λ e lt. wrap-is_of t (operand c x e))
      (renamed_z (λ e lt. ap (held c.w) (sym (is e))) (cast_z from c.w ready h.0.wide (r.z q) (r.source x) lz h.0.number (operand c x) h.0.right h.0.typed t h.1))
  lanes_right (ops.Cast None t x) h = absurd h
  lanes_right (ops.Let (Some t) x) h =
      let is = λ (e : ℕ). chosen_value q (operand c x e) ((lane_at c e).value q) in
      value_made (ops.Let (Some t) x) (operand c x) refl is h.typed
      (renamed_z (λ e lt. ap (held c.w) (sym (is e))) (let_z t c.w ready h.wide (r.z q) (r.source x) lz h.number (operand c x) h.right h.typed))
  lanes_right (ops.Let None x) h = absurd h
  lanes_right (ops.Select (Some t) b x y) h =
      let v = λ (e : ℕ). choose_value (truth_of c b e) (operand c x e) (operand c y e) in
      let is = λ (e : ℕ). chosen_value q (v e) ((lane_at c e).value q) in
      value_made (ops.Select (Some t) b x y) v refl is (λ e lt. choose_of t (truth_of c b e) (operand c x e) (operand c y e) (h.1.typed e lt) (h.2.typed e lt))
      (renamed_z (λ e lt. ap (held c.w) (sym (is e))) (pick_z c.w (r.z q) (r.p b) (r.source x) (r.source y) (truth_of c b) (operand c x) (operand c y) ready lz h.0 h.1.right h.2.right))
  lanes_right (ops.Select None b x y) h = absurd h
  lanes_right (ops.Compare op (Some t) x y) h =
      truth_made (ops.Compare op (Some t) x y) refl refl
      (renamed_p (λ e. ap (λ b. nat_lt e c.n && b) (sym (chosen_truth q (on e && compare_on op (operand c x e) (operand c y e)) ((lane_at c e).truth q))))
      (test_p c.w ready.is (r.p q) m lp on masked op t h.0.wide (r.source x) (r.source y) (operand c x) (operand c y) h.0.right h.1.right h.0.typed h.1.typed))
  lanes_right (ops.Compare op None x y) h = absurd h
  lanes_right (ops.Not b) h =
      truth_made (ops.Not b) refl refl
      (renamed_p (λ e. ap (λ b. nat_lt e c.n && b) (sym (chosen_truth q (on e && not (truth_of c b e)) ((lane_at c e).truth q)))) (invert_p c.w ready.is (r.p q) m lp on masked (r.p b) (truth_of c b) h))
  lanes_right (ops.And b) h =
      truth_made (ops.And b) refl refl
      (renamed_p (λ e. ap (λ b. nat_lt e c.n && b) (sym (chosen_truth q (on e && truth_of c b e) ((lane_at c e).truth q)))) (same_p c.w ready.is (r.p q) m lp on masked (r.p b) (truth_of c b) h))
  lanes_right (ops.Or a b) h =
      truth_made (ops.Or a b) refl refl
      (renamed_p (λ e. ap (λ b. nat_lt e c.n && b) (sym (chosen_truth q (on e && (truth_of c a e || truth_of c b e)) ((lane_at c e).truth q)))) (any_p c.w ready.is (r.p q) m lp on masked (r.p a) (r.p b) (truth_of c a) (truth_of c b) h.0 h.1))
  lanes_right (ops.Load a base t k) h = absurd h
  lanes_right (ops.Gather a base t k u x) h = absurd h
  lanes_right (ops.Store a base t k v) h = absurd h
  lanes_right (ops.Update x op t v) h = absurd h
  lanes_right (ops.Break b) h = absurd h

pub lanes_right_law : LanesRight
lanes_right_law c r s q m mask op ready lz lp masked h = lanes_right c r s q m mask ready lz lp masked op h
