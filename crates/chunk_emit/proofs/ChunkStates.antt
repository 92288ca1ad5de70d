-- From one item of a chunk to the next.
use Rattle.std.proofs.Common.{◌≡◌, ◌≢◌, ℕ, ◌+◌, ◌<◌, ◌≤◌, Bool, true, false, ◌&&◌, List, Option, Some, None, sym, ap, ◌∙◌, subst, arith, ⊎_elim, ltb}
use Rattle.std.specs.Prelude.{nat_lt}
use Rattle.std.proofs.lemmas.Bool.{cases_lt, lt-ltb, le-ltb}
use Rattle.std.proofs.lemmas.Bool.Decides.{eqb_tells}
use Rattle.guest_types.specs.Length.{width_bits, lanes}
use Rattle.guest_types.specs.Elements.{at, active, bit}
use Rattle.kernel_tree.specs.declared.ops.Ty.{Ty}
use Rattle.kernel_tree.specs.Wrap.{residue}
use Rattle.machine_model.specs.Machine.{State, x_at, z_at, p_at}
use Rattle.machine_model.specs.States.{IsState}
use Rattle.vector_order.specs.Orders.{Lanes}
use Rattle.loop_form.specs.declared.loop_item.Operand.{Operand}
use Rattle.loop_form.specs.declared.loop_item.Operand.TheVariants.{Constant, Outer, LoopIndex, Made}
use Rattle.kernel_meaning.specs.Operators.{wrapped}
use Rattle.lane_emit.proofs.Ranges.{wrap-is_of}
use Rattle.lane_emit.specs.Right.{IsOf, ZRight, PRight, within}
use Rattle.lane_emit.specs.Stretch.{Ready}
use Rattle.lane_emit.specs.ItemCode.{AllOf, operand, truth_of, mask_of, mask_register, OperandRight, TruthRight, MaskRight}
use Rattle.chunk_emit.specs.Registers.{Layout, z_of, p_of}
use Rattle.chunk_emit.specs.Chunk.{Setting, chunk_of, ValueRight, TruthExact, SumRight, Holds}
use Rattle.chunk_emit.specs.Fits.{Assigned, FitsOperand, FitsTruth, FitsMask}

-- a truth counts only in the lanes
pub and_below_same : (e n : ℕ) (a b : Bool) → (e < n → a ≡ b) → (nat_lt e n && a) ≡ (nat_lt e n && b)
and_below_same e n a b h = ⊎_elim (λ lt. ap (λ a. ltb e n && a) (h lt)) (λ ge. let no : ltb e n ≡ false = le-ltb e n ge in ap (λ t. t && a) no ∙ sym (ap (λ t. t && b) no)) (cases_lt e n)

pub lane_below_and : (e n : ℕ) (b : Bool) → e < n → (nat_lt e n && b) ≡ b
lane_below_and e n b lt = ap (λ t. t && b) (lt-ltb e n lt)

pub outside : (e n : ℕ) (b : Bool) → n ≤ e → (nat_lt e n && b) ≡ false
outside e n b le = ap (λ t. t && b) (le-ltb e n le)

-- What item p does to the registers and to the lanes: at most its own registers change, and X26.
pub record Moves (l : Layout) (f : Setting) (p : ℕ) (t : Lanes) (s : State) (u : Lanes) (v : State) : Type 0 where
  pub is : IsState v
  pub vl : v.vl ≡ s.vl
  pub stops : v.stops ≡ s.stops
  pub memory : v.memory ≡ u.memory
  pub x : (r : ℕ) → r ≢ 26 → x_at v r ≡ x_at s r
  pub active : p_at v 0 ≡ p_at s 0
  pub all : p_at v 1 ≡ p_at s 1
  pub held : (x : Operand) → l.held x ≡ true → z_at v (l.registers.source x) ≡ z_at s (l.registers.source x)
  pub kept_z : (q : ℕ) → q < p → p < l.z_last_use q → z_at v (z_of l q) ≡ z_at s (z_of l q)
  pub kept_p : (q : ℕ) → q < p → p < l.p_last_use q → p_at v (p_of l q) ≡ p_at s (p_of l q)
  pub values : (q e : ℕ) → q < p → e < f.n → (u.lane (f.i + e)).value q ≡ (t.lane (f.i + e)).value q
  pub truths : (q e : ℕ) → q < p → e < f.n → (u.lane (f.i + e)).truth q ≡ (t.lane (f.i + e)).truth q
  pub value : p < l.z_last_use p → ValueRight l f u v p
  pub truth : p < l.p_last_use p → TruthExact f (p_at v (p_of l p)) (truth_of (chunk_of f u) p)
  pub sums : (x : List ℕ) → l.updated x ≡ true → SumRight l f u x (z_at v (l.sum x))

module _ {l : Layout} {f : Setting} {p : ℕ} {t : Lanes} {s : State} (h : Holds l f p t s) where
  pub holds_on : {u : Lanes} {v : State} → Moves l f p t s u v → Holds l f (p + 1) u v
  holds_on {u = u} {v = v} m = record {
    is = m.is;
    few = h.few;
    vl = m.vl ∙ h.vl;
    stops = m.stops ∙ h.stops;
    memory = m.memory;
    x = λ r ne. m.x r ne ∙ h.x r ne;
    index = h.index;
    active = λ e lt. ap (λ z. active f.w z e) m.active ∙ h.active e lt;
    top = λ j lt. ap (λ z. bit z j) m.active ∙ h.top j lt;
    all = λ e lt. ap (λ z. active f.w z e) m.all ∙ h.all e lt;
    held = λ x is. let old = h.held x is in
        record {
          right = λ a e lt. ap (λ z. at f.w z e) (m.held x is) ∙ old.right a e lt;
          typed = old.typed;
        };
    values = λ q lt le. ⊎_elim
        (λ eq. subst (λ q. ValueRight l f u v q) (sym eq.1) (m.value (omega (arith, le, ap l.z_last_use eq.1))))
        (λ ne. old_value q (omega (arith, lt, ne.1)) le)
        (eqb_tells q p);
    truths = λ q lt le. ⊎_elim
        (λ eq. subst (λ q. TruthExact f (p_at v (p_of l q)) (truth_of (chunk_of f u) q)) (sym eq.1) (m.truth (omega (arith, le, ap l.p_last_use eq.1))))
        (λ ne. old_truth q (omega (arith, lt, ne.1)) le)
        (eqb_tells q p);
    sums = m.sums;
  }
    where
      old_value : (q : ℕ) → q < p → p + 1 ≤ l.z_last_use q → ValueRight l f u v q
      old_value q lt le =
          let old = h.values q lt (omega (arith, le)) in
          record {
            right = λ e el. ap (λ z. at f.w z e) (m.kept_z q lt (omega (arith, le))) ∙ old.right e el ∙ ap (residue (width_bits f.w)) (sym (m.values q e lt el));
            typed = λ e el. subst (IsOf (l.type (Made q))) (sym (m.values q e lt el)) (old.typed e el);
          }

      old_truth : (q : ℕ) → q < p → p + 1 ≤ l.p_last_use q → TruthExact f (p_at v (p_of l q)) (truth_of (chunk_of f u) q)
      old_truth q lt le e el =
          ap (λ z. active f.w z e) (m.kept_p q lt (omega (arith, le))) ∙ h.truths q lt (omega (arith, le)) e el
          ∙ and_below_same e f.n _ _ (λ en. sym (m.truths q e lt en))

  -- an item's number may be left out where it makes nothing
  pub holds_later : (q : ℕ) → p ≤ q → ((r : ℕ) → p ≤ r → r < q → (l.z_last_use r ≤ r) × (l.p_last_use r ≤ r)) → Holds l f q t s
  holds_later q le none = record {
    is = h.is;
    few = h.few;
    vl = h.vl;
    stops = h.stops;
    memory = h.memory;
    x = h.x;
    index = h.index;
    active = h.active;
    top = h.top;
    all = h.all;
    held = h.held;
    values = λ r lt last. ⊎_elim (λ before. h.values r before (omega (arith, le, last))) (λ past. absurd (omega (arith, (none r past lt).0, last, lt))) (cases_lt r p);
    truths = λ r lt last. ⊎_elim (λ before. h.truths r before (omega (arith, le, last))) (λ past. absurd (omega (arith, (none r past lt).1, last, lt))) (cases_lt r p);
    sums = h.sums;
  }

  -- ---- operands

  pub ready : Ready f.w f.n s
  ready = record {
    is = h.is;
    few = subst (λ v. f.n ≤ lanes v f.w) (sym h.vl) h.few;
    all = λ e lt. h.all e (omega (arith, lt, h.few));
  }

  pub truth_right : (q : ℕ) → FitsTruth l p q → TruthRight (chunk_of f t) l.registers s q
  truth_right q k e lt = h.truths q k.0 k.1 e (omega (arith, lt, h.few)) ∙ lane_below_and e f.n _ lt

  pub mask_exact : (mask : Option ℕ) → FitsMask l p mask → TruthExact f (p_at s (mask_register l.registers mask)) (mask_of (chunk_of f t) mask)
  mask_exact None k = h.active
  mask_exact (Some q) k = h.truths q k.0 k.1

  pub mask_right : (mask : Option ℕ) → FitsMask l p mask → MaskRight (chunk_of f t) s (mask_register l.registers mask) mask
  mask_right mask k = subst (λ v. PRight f.w (lanes v f.w) (p_at s (mask_register l.registers mask)) (within f.n (mask_of (chunk_of f t) mask))) (sym h.vl) (mask_exact mask k)

  module _ (fit : Assigned l) where
    held_operand : (x : Operand) → l.held x ≡ true → ZRight f.w f.n (z_at s (l.registers.source x)) (operand (chunk_of f t) x)
    held_operand x is e lt = (h.held x is).right (t.lane (f.i + e)) e (omega (arith, lt, h.few))

    held_typed : (ty : Ty) (x : Operand) → l.held x ≡ true → l.type x ≡ ty → AllOf ty f.n (operand (chunk_of f t) x)
    held_typed ty x is same e lt = subst (λ k. IsOf k (operand (chunk_of f t) x e)) same ((h.held x is).typed (t.lane (f.i + e)) e lt)

    pub operand_right : (ty : Ty) (x : Operand) → FitsOperand l f.w p ty x → OperandRight (chunk_of f t) l.registers s ty x
    operand_right ty (Constant u z) k = record {
      number = fit.held_small (Constant u z) k.0.0;
      wide = k.1;
      right = held_operand (Constant u z) k.0.0;
      typed = λ e lt. subst (λ o. IsOf ty (wrapped o z)) (sym k.0.1) (wrap-is_of ty z);
    }
    operand_right ty (Outer x) k = record {
      number = fit.held_small (Outer x) k.0.0;
      wide = k.1;
      right = held_operand (Outer x) k.0.0;
      typed = held_typed ty (Outer x) k.0.0 k.0.1;
    }
    operand_right ty LoopIndex k = record {
      number = fit.held_small LoopIndex k.0.0;
      wide = k.1;
      right = held_operand LoopIndex k.0.0;
      typed = held_typed ty LoopIndex k.0.0 k.0.1;
    }
    operand_right ty (Made q) k =
        let value = h.values q k.0.0.0 k.0.0.1 in
        record {
          number = subst (λ r. r < 32) (sym (fit.made q)) (fit.z_small q);
          wide = k.1;
          right = subst (λ r. ZRight f.w f.n (z_at s r) (operand (chunk_of f t) (Made q))) (sym (fit.made q)) value.right;
          typed = λ e lt. subst (λ k. IsOf k (operand (chunk_of f t) (Made q) e)) k.0.1 (value.typed e lt);
        }
