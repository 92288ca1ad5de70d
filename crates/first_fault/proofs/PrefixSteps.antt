-- From one step of the region to the next.
use Rattle.std.proofs.Common.{◌≡◌, ℕ, ◌+◌, ◌*◌, ◌<◌, ◌≤◌, Bool, true, ltb, sym, ap, ◌∙◌, subst, arith, ⊎_elim}
use Rattle.std.proofs.lemmas.Bool.{cases_lt}
use Rattle.std.proofs.lemmas.Bool.Decides.{eqb_tells}
use Rattle.guest_types.specs.declared.length.Width.TheVariants.{B}
use Rattle.guest_types.specs.Length.{IsLength, width_bits, width_bytes, lanes, all_lanes}
use Rattle.guest_types.specs.Elements.{at, active, bit, predicate}
use Rattle.guest_types.proofs.AtWidths.{lanes-bound, width_bytes-lanes, bit-predicate}
use Rattle.guest_types.proofs.Widths.{whole-register, some-bytes, lane-inside}
use Rattle.guest_types.proofs.Predicates.{element_bit-bytes}
use Rattle.kernel_tree.specs.declared.ops.Ty.{Ty}
use Rattle.kernel_tree.specs.Wrap.{residue}
use Rattle.kernel_meaning.specs.Operators.{wrapped}
use Rattle.machine_model.specs.Machine.{State, z_at, p_at}
use Rattle.machine_model.specs.States.{IsState}
use Rattle.vector_order.specs.Orders.{Lane, Lanes}
use Rattle.loop_form.specs.declared.loop_item.Operand.{Operand}
use Rattle.loop_form.specs.declared.loop_item.Operand.TheVariants.{Constant, Outer, LoopIndex, Made}
use Rattle.lane_emit.proofs.Ranges.{wrap-is_of}
use Rattle.lane_emit.specs.Right.{IsOf, ZRight, PRight}
use Rattle.lane_emit.specs.Stretch.{Ready}
use Rattle.lane_emit.specs.ItemCode.{Chunk, AllOf, operand, truth_of, OperandRight}
use Rattle.chunk_emit.specs.Registers.{Layout, z_of, p_of}
use Rattle.chunk_emit.specs.Chunk.{Setting, chunk_of, count_of, ValueRight, Holds}
use Rattle.chunk_emit.specs.Fits.{Assigned, FitsOperand, NoneBetween}
use Rattle.first_fault.specs.RegionCode.{Mode, Early}
use Rattle.first_fault.specs.Prefix.{IsTop, with_count, lanes_of, Same, Inside}
use Rattle.first_fault.proofs.PrefixBits.{lane_bits_within, top_active}

pub same_then : {l : Layout} {a s v : State} → Same l a s → Same l s v → Same l a v
same_then h k = record {
  memory = k.memory ∙ h.memory;
  vl = k.vl ∙ h.vl;
  x = λ r ne. k.x r ne ∙ h.x r ne;
  all = k.all ∙ h.all;
  held = λ x is. k.held x is ∙ h.held x is;
  sums = λ x is. k.sums x is ∙ h.sums x is;
}

-- the chunk of the first n lanes
abbrev pub prefix : Setting → State → (n : ℕ) → (ℕ → Lane) → Chunk
prefix f a n ls = chunk_of (with_count f n) (lanes_of a.memory ls)

-- What the words of item p do to the registers, where k of the lanes come through.
pub record PrefixStep (mode : Mode) (l : Layout) (f : Setting) (a : State) (p : ℕ) (ls : ℕ → Lane) (s : State) (k : ℕ) (new : ℕ → Lane) (v : State) : Type 0 where
  pub is : IsState v
  pub same : Same l s v
  pub top : IsTop f.w k (p_at v 0)
  pub ffr : mode ≡ Early → (e : ℕ) → e < k → active f.w v.ffr e ≡ true
  pub kept_z : (q : ℕ) → q < p → p < l.z_last_use q → z_at v (z_of l q) ≡ z_at s (z_of l q)
  pub kept_p : (q : ℕ) → q < p → p < l.p_last_use q → (e : ℕ) → e < k → active f.w (p_at v (p_of l q)) e ≡ active f.w (p_at s (p_of l q)) e
  pub values : (q e : ℕ) → q < p → e < k → (new (f.i + e)).value q ≡ (ls (f.i + e)).value q
  pub truths : (q e : ℕ) → q < p → e < k → (new (f.i + e)).truth q ≡ (ls (f.i + e)).truth q
  pub value : p < l.z_last_use p → ValueRight l (with_count f k) (lanes_of a.memory new) v p
  pub truth : p < l.p_last_use p → PRight f.w k (p_at v (p_of l p)) (truth_of (prefix f a k new) p)

module _ {l : Layout} (fit : Assigned l) {f : Setting} {a : State} {p0 : ℕ} {t0 : Lanes} (h0 : Holds l f p0 t0 a) where
  pub long : IsLength f.vl
  long = subst IsLength h0.vl h0.is.sized

  -- the first bit of an element
  pub lane_byte_below_256 : (e : ℕ) → e < count_of f → width_bytes f.w * e < 256
  lane_byte_below_256 e lt = lane-inside f.w e (all_lanes f.w) (omega (arith, lt, (lanes-bound f.vl f.w long).1)) (omega (arith, whole-register f.w))

  pub in_bytes : (e : ℕ) → e < count_of f → width_bytes f.w * e < lanes f.vl B
  in_bytes e lt = omega (arith, lane_bits_within (width_bytes f.w) (count_of f) e lt, width_bytes-lanes f.vl f.w long, width_bytes-lanes f.vl B long, some-bytes f.w)

  -- a predicate made byte by byte
  pub byte_made : (h : ℕ → Bool) (j : ℕ) → j < lanes f.vl B → bit (predicate 1 h (lanes f.vl B)) j ≡ h j
  byte_made h j lt = bit-predicate 1 h (lanes f.vl B) j (omega (arith, lt, (lanes-bound f.vl B long).1)) ∙ element_bit-bytes h (lanes f.vl B) j lt

  module _ {mode : Mode} {n p : ℕ} {ls : ℕ → Lane} {s : State} (h : Inside mode l f a n p ls s) where
    pub length_is : s.vl ≡ f.vl
    length_is = h.same.vl ∙ h0.vl

    pub few_all : n ≤ count_of f
    few_all = omega (arith, h.few, h0.few)

    pub top_is : (e : ℕ) → e < count_of f → active f.w (p_at s 0) e ≡ ltb e n
    top_is e lt = top_active f.w n (p_at s 0) h.top e (lane_byte_below_256 e lt)

    pub inside_on : {k : ℕ} {new : ℕ → Lane} {v : State} → k ≤ n → PrefixStep mode l f a p ls s k new v → Inside mode l f a k (p + 1) new v
    inside_on {k = k} {new = new} {v = v} le m = record {
      is = m.is;
      few = omega (arith, le, h.few);
      alone = λ e. omega (arith, le, h.alone e);
      same = same_then h.same m.same;
      top = m.top;
      ffr = m.ffr;
      values = λ q lt last_use. ⊎_elim
          (λ eq. subst (λ q. ValueRight l (with_count f k) (lanes_of a.memory new) v q) (sym eq.1) (m.value (omega (arith, last_use, ap l.z_last_use eq.1))))
          (λ ne. old_value q (omega (arith, lt, ne.1)) last_use)
          (eqb_tells q p);
      truths = λ q lt last_use. ⊎_elim
          (λ eq. subst (λ q. PRight f.w k (p_at v (p_of l q)) (truth_of (prefix f a k new) q)) (sym eq.1) (m.truth (omega (arith, last_use, ap l.p_last_use eq.1))))
          (λ ne. old_truth q (omega (arith, lt, ne.1)) last_use)
          (eqb_tells q p);
    }
      where
        old_value : (q : ℕ) → q < p → p + 1 ≤ l.z_last_use q → ValueRight l (with_count f k) (lanes_of a.memory new) v q
        old_value q lt last_use =
            let old = h.values q lt (omega (arith, last_use)) in
            record {
              right = λ e el. ap (λ z. at f.w z e) (m.kept_z q lt (omega (arith, last_use))) ∙ old.right e (omega (arith, el, le)) ∙ ap (residue (width_bits f.w)) (sym (m.values q e lt el));
              typed = λ e el. subst (IsOf (l.type (Made q))) (sym (m.values q e lt el)) (old.typed e (omega (arith, el, le)));
            }

        old_truth : (q : ℕ) → q < p → p + 1 ≤ l.p_last_use q → PRight f.w k (p_at v (p_of l q)) (truth_of (prefix f a k new) q)
        old_truth q lt last_use e el = m.kept_p q lt (omega (arith, last_use)) e el ∙ h.truths q lt (omega (arith, last_use)) e (omega (arith, el, le)) ∙ sym (m.truths q e lt el)

    -- an item's number may be left out where it makes nothing
    pub inside_later : (q : ℕ) → p ≤ q → NoneBetween l p q → Inside mode l f a n q ls s
    inside_later q le none = record {
      is = h.is;
      few = h.few;
      alone = h.alone;
      same = h.same;
      top = h.top;
      ffr = h.ffr;
      values = λ r lt last. ⊎_elim (λ before. h.values r before (omega (arith, le, last))) (λ past. absurd (omega (arith, (none r past lt).0, last, lt))) (cases_lt r p);
      truths = λ r lt last. ⊎_elim (λ before. h.truths r before (omega (arith, le, last))) (λ past. absurd (omega (arith, (none r past lt).1, last, lt))) (cases_lt r p);
    }

    -- ---- operands

    pub ready : Ready f.w n s
    ready = record {
      is = h.is;
      few = subst (λ v. n ≤ lanes v f.w) (sym length_is) few_all;
      all = λ e lt. ap (λ b. active f.w b e) h.same.all ∙ h0.all e (omega (arith, lt, few_all));
    }

    held_operand : (x : Operand) → l.held x ≡ true → ZRight f.w n (z_at s (l.registers.source x)) (operand (prefix f a n ls) x)
    held_operand x is e lt = ap (λ z. at f.w z e) (h.same.held x is) ∙ (h0.held x is).right (ls (f.i + e)) e (omega (arith, lt, few_all))

    held_typed : (ty : Ty) (x : Operand) → l.held x ≡ true → l.type x ≡ ty → AllOf ty n (operand (prefix f a n ls) x)
    held_typed ty x is same e lt = subst (λ k. IsOf k (operand (prefix f a n ls) x e)) same ((h0.held x is).typed (ls (f.i + e)) e (omega (arith, lt, h.few)))

    pub operand_right : (ty : Ty) (x : Operand) → FitsOperand l f.w p ty x → OperandRight (prefix f a n ls) l.registers s ty x
    operand_right ty (Constant u z) k = record {
      number = fit.held_small (Constant u z) k.0.0;
      wide = k.1;
      right = held_operand (Constant u z) k.0.0;
      typed = λ e lt. subst (λ o. IsOf ty (wrapped o z)) (sym k.0.1) (wrap-is_of ty z);
    }
    operand_right ty (Outer x) k = record {
      number = fit.held_small (Outer x) k.0.0;
      wide = k.1;
      right = held_operand (Outer x) k.0.0;
      typed = held_typed ty (Outer x) k.0.0 k.0.1;
    }
    operand_right ty LoopIndex k = record {
      number = fit.held_small LoopIndex k.0.0;
      wide = k.1;
      right = held_operand LoopIndex k.0.0;
      typed = held_typed ty LoopIndex k.0.0 k.0.1;
    }
    operand_right ty (Made q) k =
        let value = h.values q k.0.0.0 k.0.0.1 in
        record {
          number = subst (λ r. r < 32) (sym (fit.made q)) (fit.z_small q);
          wide = k.1;
          right = subst (λ r. ZRight f.w n (z_at s r) (operand (prefix f a n ls) (Made q))) (sym (fit.made q)) value.right;
          typed = λ e lt. subst (λ k. IsOf k (operand (prefix f a n ls) (Made q) e)) k.0.1 (value.typed e lt);
        }
