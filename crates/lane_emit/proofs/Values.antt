-- The code of each operation on values leaves its result right in the lanes.
use Rattle.std.proofs.Common.{◌≡◌, ℕ, ◌-◌, ◌*◌, ◌%◌, ◌<◌, ◌≤◌, ℤ, pos, negsuc, neg_ℤ, ◌+ℤ◌, ◌-ℤ◌, ◌*ℤ◌, Bool, true, false, cond, not, [], ◌∷◌, refl, sym, ap, ap₂, ◌∙◌, subst, arith, int_lt, unsigned_abs, bit_and, bit_or, bit_xor}
use Rattle.std.specs.Prelude.{nat_eq, if◌then◌else◌}
use Rattle.std.specs.Int.{int_shr, int_min, int_max}
use Rattle.std.proofs.lemmas.Int.{ints, clamps}
use Rattle.std.proofs.lemmas.Bool.{true≢false, eqb-true, eqb-false}
use Rattle.std.proofs.Math.Nat.{mul_comm, div-one}
use Rattle.guest_types.specs.declared.length.Width.{Width}
use Rattle.guest_types.specs.declared.length.Width.TheVariants.{D}
use Rattle.guest_types.specs.declared.operation.LaneOp.{LaneOp}
use Rattle.guest_types.specs.declared.operation.LaneOp.TheVariants as lane_ops
use Rattle.guest_types.specs.declared.operation.LaneUnary.{LaneUnary}
use Rattle.guest_types.specs.declared.operation.LaneUnary.TheVariants as unaries
use Rattle.guest_types.specs.declared.operation.ShiftOp.TheVariants as shifts
use Rattle.guest_types.specs.Length.{width_bits, modulus}
use Rattle.guest_types.specs.Elements.{at}
use Rattle.guest_types.specs.Lanes.{lane, shifted, binary_at, merge_at, merge_one_at, shift_at, select_at}
use Rattle.kernel_tree.specs.declared.ops.Ty.{Ty}
use Rattle.kernel_tree.specs.declared.ops.UnaryOp.{UnaryOp}
use Rattle.kernel_tree.specs.declared.ops.UnaryOp.TheVariants as unary_op
use Rattle.kernel_tree.specs.declared.ops.BinaryOp.{BinaryOp}
use Rattle.kernel_tree.specs.declared.ops.BinaryOp.TheVariants as binary_op
use Rattle.kernel_tree.specs.Wrap.{wrap, bits_of, is_signed}
use Rattle.kernel_meaning.specs.Operators.{unary_on, binary_on, shift_on, shift_count}
use Rattle.kernel_meaning.specs.Eval.{choose_value}
use Rattle.machine_model.specs.Machine.{State, z_at, p_at}
use Rattle.machine_model.specs.States.{IsState}
use Rattle.machine_model.specs.VectorEffects.{do_vector, put_lanes}
use Rattle.sve_code.specs.Table.{Name, lsr_imm, asr_imm, m_smax, m_umax, m_smin, m_umin, m_mul, m_abs}
use Rattle.lane_emit.specs.Right.{IsOf, ZRight, PRight, fits}
use Rattle.lane_emit.specs.Stretch as stretch
use Rattle.lane_emit.specs.Stretch.{OnlyZ, Ready, MakesZ}
use Rattle.lane_emit.specs.ItemCode.{AllOf}
use Rattle.lane_emit.specs.LaneCode.{size_of, z_copy, z_extend, z_settle, unary_leaves, unary_code, merged, binary_code, shift_word, right_name, lane_count, shift_by, shift_code, cast_code, copy_code, pick_code}
use Rattle.lane_emit.proofs.Ranges.{InBits, in_bits, widened, wrap-of, of-fits, of-cond, of-shr, of-flip, abs-unsigned}
use Rattle.lane_emit.proofs.Residues.{held, add-held, sub-held, mul-held, and-held, or-held, xor-held, neg-held, not-held, abs-held, lsl-held, lsr-held, asr-held}
use Rattle.lane_emit.proofs.Orders.{smin-held, smax-held, umin-held, umax-held}
use Rattle.lane_emit.proofs.ExtendedLanes.{and-kept, or-kept, xor-kept}
use Rattle.lane_emit.proofs.Shifts.{lsl_does, lsr_does, asr_does}
use Rattle.lane_emit.proofs.BitwiseLanes.{and-at, or-at, xor-at}
use Rattle.lane_emit.proofs.Stretches.{width-size, only_same, ready_then, small_at, small_made, done_z, renamed_z, first_z, lanes_z}
use Rattle.lane_emit.proofs.CopyCode.{copy_then, copy_z, unary_then, extend_z, settle_z}

-- a value of the type in a lane that is as wide
pub in_lane : (t : Ty) (w : Width) (v : ℤ) → bits_of t ≤ width_bits w → IsOf t v → InBits (is_signed t) (width_bits w) v
in_lane t w v le h = widened (is_signed t) (bits_of t) (width_bits w) v le (in_bits t v h)

same_of : (t : Ty) (w : Width) (v : ℤ) → IsOf t v → held w v ≡ held w (wrap t v)
same_of t w v h = ap (held w) (sym (wrap-of t v h))

int_min-comm : (x y : ℤ) → int_min y x ≡ int_min x y
int_min-comm x y = omega (arith, ints, clamps)

int_max-comm : (x y : ℤ) → int_max y x ≡ int_max x y
int_max-comm x y = omega (arith, ints, clamps)

module _ {s : State} (t : Ty) (w : Width) {n : ℕ} (r : Ready w n s) (wide : bits_of t ≤ width_bits w) (d a : ℕ) (ld : d < 32) (la : a < 32) (x : ℕ → ℤ) (ax : ZRight w n (z_at s a) x) (tx : AllOf t n x) where
  -- ---- one operand

  abbrev old_one : LaneUnary → Width → ℕ → ℕ
  old_one op k = merge_one_at op k (p_at s 1) (z_at s d) (z_at s a)

  settled : (b : Bool) (u : ℕ → ℤ) → (b ≡ false → (e : ℕ) → e < n → held w (u e) ≡ held w (wrap t (u e))) → (s2 : State) → IsState s2 → OnlyZ d s s2 → ZRight w n (z_at s2 d) u → MakesZ (z_settle b w t d) s2 d w n (λ e. wrap t (u e))
  settled b u keeps s2 is only here = settle_z b t d w u (ready_then r is only) ld here wide keeps

  neg_z : MakesZ (unary_code w unary_op.Neg t d a) s d w n (λ e. wrap t (unary_on unary_op.Neg (x e)))
  neg_z =
      unary_then unaries.Neg d a w x (λ e. neg_ℤ (x e)) r ld ax (ap (λ k. put_lanes s d k (old_one unaries.Neg k)) (width-size w)) (λ e lt. neg-held w (x e))
      (settled true (λ e. neg_ℤ (x e)) (λ e. absurd cc))

  flip_keeps : unary_leaves unary_op.Flip t ≡ false → (e : ℕ) → e < n → held w (neg_ℤ (x e) -ℤ pos 1) ≡ held w (wrap t (neg_ℤ (x e) -ℤ pos 1))
  flip_keeps q e lt = same_of t w (neg_ℤ (x e) -ℤ pos 1) (of-flip t (x e) (contrary (is_signed t) q) (tx e lt))
    where
      contrary : (b : Bool) → not b ≡ false → b ≡ true
      contrary true q = refl
      contrary false q = absurd cc

  flip_z : MakesZ (unary_code w unary_op.Flip t d a) s d w n (λ e. wrap t (unary_on unary_op.Flip (x e)))
  flip_z =
      unary_then unaries.Not d a w x (λ e. neg_ℤ (x e) -ℤ pos 1) r ld ax (ap (λ k. put_lanes s d k (old_one unaries.Not k)) (width-size w)) (λ e lt. not-held w (x e))
      (settled (unary_leaves unary_op.Flip t) (λ e. neg_ℤ (x e) -ℤ pos 1) flip_keeps)

  abs_z : MakesZ (unary_code w unary_op.Abs t d a) s d w n (λ e. wrap t (unary_on unary_op.Abs (x e)))
  abs_z = by (is_signed t) refl
    where
      by : (b : Bool) → is_signed t ≡ b → MakesZ (if b then stretch.word m_abs (d ∷ a ∷ 1 ∷ size_of w ∷ []) ∷ z_settle (is_signed t) w t d else z_copy d a []) s d w n (λ e. wrap t (pos (unsigned_abs (x e))))
      by true q =
          unary_then unaries.Abs d a w x (λ e. pos (unsigned_abs (x e))) r ld ax (ap (λ k. put_lanes s d k (old_one unaries.Abs k)) (width-size w))
          (λ e lt. abs-held w (x e) (subst (λ b. InBits b (width_bits w) (x e)) q (in_lane t w (x e) wide (tx e lt))))
          (settled (is_signed t) (λ e. pos (unsigned_abs (x e))) (λ no. absurd (true≢false (sym q ∙ no))))
      by false q =
          renamed_z (λ e lt. let same = abs-unsigned t (x e) q (tx e lt) in same_of t w (x e) (tx e lt) ∙ ap (λ v. held w (wrap t v)) (sym same))
          (copy_z d a w x r ld la ax)

  pub unary_z : (op : UnaryOp) → MakesZ (unary_code w op t d a) s d w n (λ e. wrap t (unary_on op (x e)))
  unary_z unary_op.Neg = neg_z
  unary_z unary_op.Flip = flip_z
  unary_z unary_op.Abs = abs_z

  -- ---- shifts by a constant

  pub shift_by_z : (left : Bool) (c : ℕ) → c < width_bits w → MakesZ (shift_by w left c t d a) s d w n (λ e. wrap t (shift_on left c (x e)))
  shift_by_z true c short =
      lanes_z w (shift_at shifts.Lsl w (z_at s a) c) (λ e. shift_on true c (x e)) r ld (lsl_does s d a w c short)
      (λ e lt. ap (λ m. shifted shifts.Lsl (modulus w) m c) (ax e lt) ∙ lsl-held w (x e) c)
      (settled true (λ e. shift_on true c (x e)) (λ e. absurd cc))
  shift_by_z false c short = by (nat_eq c 0) refl
    where
      right : (e : ℕ) → e < n → held w (int_shr (x e) c) ≡ held w (wrap t (int_shr (x e) c))
      right e lt = same_of t w (int_shr (x e) c) (of-shr t c (x e) (tx e lt))

      shift_right : (b : Bool) → is_signed t ≡ b → 1 ≤ c → MakesZ (shift_word (if b then asr_imm else lsr_imm) d a (2 * width_bits w - c) ∷ []) s d w n (λ e. wrap t (int_shr (x e) c))
      shift_right true q some =
          renamed_z right
          (lanes_z w (shift_at shifts.Asr w (z_at s a) c) (λ e. int_shr (x e) c) r ld (asr_does s d a w c some short)
          (λ e lt. ap (λ m. shifted shifts.Asr (modulus w) m c) (ax e lt) ∙ asr-held w (x e) c (omega (arith, short)) (subst (λ b. InBits b (width_bits w) (x e)) q (in_lane t w (x e) wide (tx e lt))))
          (λ t is only here. done_z is here))
      shift_right false q some =
          renamed_z right
          (lanes_z w (shift_at shifts.Lsr w (z_at s a) c) (λ e. int_shr (x e) c) r ld (lsr_does s d a w c some short)
          (λ e lt. ap (λ m. shifted shifts.Lsr (modulus w) m c) (ax e lt) ∙ lsr-held w (x e) c (subst (λ b. InBits b (width_bits w) (x e)) q (in_lane t w (x e) wide (tx e lt))))
          (λ t is only here. done_z is here))

      shr_none : (v : ℤ) → int_shr v 0 ≡ v
      shr_none (pos m) = ap pos (div-one m)
      shr_none (negsuc m) = ap negsuc (div-one m)

      by : (b : Bool) → nat_eq c 0 ≡ b → MakesZ (if b then z_copy d a [] else shift_word (right_name t) d a (2 * width_bits w - c) ∷ []) s d w n (λ e. wrap t (int_shr (x e) c))
      by true q =
          renamed_z (λ e lt. same_of t w (x e) (tx e lt) ∙ ap (λ v. held w (wrap t v)) (sym (ap (int_shr (x e)) (eqb-true c 0 q) ∙ shr_none (x e))))
          (copy_z d a w x r ld la ax)
      by false q = shift_right (is_signed t) refl (let ne = eqb-false c 0 q in omega (arith, ne))

  pub shift_z : (left : Bool) (k : ℤ) → shift_count k < width_bits w → MakesZ (shift_code w left k t d a) s d w n (λ e. wrap t (shift_on left (shift_count k) (x e)))
  shift_z left k short =
      let same : lane_count w (shift_count k) ≡ shift_count k = omega (arith, short) in
      subst (λ c. MakesZ (shift_by w left c t d a) s d w n (λ e. wrap t (shift_on left (shift_count k) (x e)))) (sym same) (shift_by_z left (shift_count k) short)

  -- ---- casts from this type, and `let`

  pub cast_z : (to : Ty) → bits_of to ≤ width_bits w → MakesZ (cast_code w t to d a) s d w n (λ e. wrap to (x e))
  cast_z to room = by (fits t to) refl
    where
      by : (b : Bool) → fits t to ≡ b → MakesZ (if b then z_copy d a [] else z_extend w to d a) s d w n (λ e. wrap to (x e))
      by true q = renamed_z (λ e lt. same_of to w (x e) (of-fits t to (x e) q (tx e lt))) (copy_z d a w x r ld la ax)
      by false q = extend_z to d a w x r ld la ax room

  pub let_z : MakesZ (copy_code d a) s d w n x
  let_z = copy_z d a w x r ld la ax

  -- ---- two operands of the type

  module _ (b : ℕ) (lb : b < 32) (y : ℕ → ℤ) (by_ : ZRight w n (z_at s b) y) (ty : AllOf t n y) where
    operands : (op : LaneOp) (e : ℕ) → e < n → binary_at op w (z_at s a) (z_at s b) e ≡ lane op (modulus w) (held w (x e)) (held w (y e))
    operands op e lt = ap₂ (lane op (modulus w)) (ax e lt) (by_ e lt)

    add_z : MakesZ (binary_code w binary_op.Add t d a b) s d w n (λ e. wrap t (x e +ℤ y e))
    add_z =
        lanes_z w (binary_at lane_ops.Add w (z_at s a) (z_at s b)) (λ e. x e +ℤ y e) r ld (ap (λ k. put_lanes s d k (binary_at lane_ops.Add k (z_at s a) (z_at s b))) (width-size w))
        (λ e lt. operands lane_ops.Add e lt ∙ add-held w (x e) (y e))
        (settled true (λ e. x e +ℤ y e) (λ e. absurd cc))

    sub_z : MakesZ (binary_code w binary_op.Sub t d a b) s d w n (λ e. wrap t (x e -ℤ y e))
    sub_z =
        lanes_z w (binary_at lane_ops.Sub w (z_at s a) (z_at s b)) (λ e. x e -ℤ y e) r ld (ap (λ k. put_lanes s d k (binary_at lane_ops.Sub k (z_at s a) (z_at s b))) (width-size w))
        (λ e lt. operands lane_ops.Sub e lt ∙ sub-held w (x e) (y e))
        (settled true (λ e. x e -ℤ y e) (λ e. absurd cc))

    and_z : MakesZ (binary_code w binary_op.And t d a b) s d w n (λ e. wrap t (binary_on binary_op.And (x e) (y e)))
    and_z =
        first_z w D (binary_at lane_ops.And D (z_at s a) (z_at s b)) (λ e. binary_on binary_op.And (x e) (y e)) r.is ld refl
        (λ e lt. and-at s.vl w (z_at s a) (z_at s b) e r.is.sized (small_at s a r.is la) (small_at s b r.is lb) (small_made s.vl D _ r.is.sized) (omega (arith, lt, r.few)) ∙ ap₂ bit_and (ax e lt) (by_ e lt) ∙ and-held w (x e) (y e))
        (settled false (λ e. binary_on binary_op.And (x e) (y e)) (λ q e lt. sym (and-kept w t (x e) (y e) (tx e lt) (ty e lt))))

    or_z : MakesZ (binary_code w binary_op.Or t d a b) s d w n (λ e. wrap t (binary_on binary_op.Or (x e) (y e)))
    or_z =
        first_z w D (binary_at lane_ops.Or D (z_at s a) (z_at s b)) (λ e. binary_on binary_op.Or (x e) (y e)) r.is ld refl
        (λ e lt. or-at s.vl w (z_at s a) (z_at s b) e r.is.sized (small_at s a r.is la) (small_at s b r.is lb) (small_made s.vl D _ r.is.sized) (omega (arith, lt, r.few)) ∙ ap₂ bit_or (ax e lt) (by_ e lt) ∙ or-held w (x e) (y e))
        (settled false (λ e. binary_on binary_op.Or (x e) (y e)) (λ q e lt. sym (or-kept w t (x e) (y e) (tx e lt) (ty e lt))))

    xor_z : MakesZ (binary_code w binary_op.Xor t d a b) s d w n (λ e. wrap t (binary_on binary_op.Xor (x e) (y e)))
    xor_z =
        first_z w D (binary_at lane_ops.Xor D (z_at s a) (z_at s b)) (λ e. binary_on binary_op.Xor (x e) (y e)) r.is ld refl
        (λ e lt. xor-at s.vl w (z_at s a) (z_at s b) e r.is.sized (small_at s a r.is la) (small_at s b r.is lb) (small_made s.vl D _ r.is.sized) (omega (arith, lt, r.few)) ∙ ap₂ bit_xor (ax e lt) (by_ e lt) ∙ xor-held w (x e) (y e))
        (settled false (λ e. binary_on binary_op.Xor (x e) (y e)) (λ q e lt. sym (xor-kept w t (x e) (y e) (tx e lt) (ty e lt))))

    -- an operation that changes its first operand
    module _ (name : Name) (op : LaneOp) (u : ℕ → ℤ) (more : Bool)
        (does : (s : State) (c : ℕ) → do_vector (stretch.word name (d ∷ c ∷ 1 ∷ size_of w ∷ [])) s ≡ put_lanes s d w (merge_at op w (p_at s 1) (z_at s d) (z_at s c)))
        (law : (e : ℕ) → e < n → lane op (modulus w) (held w (x e)) (held w (y e)) ≡ held w (u e))
        (exchanged : (e : ℕ) → e < n → lane op (modulus w) (held w (y e)) (held w (x e)) ≡ held w (u e))
        (keeps : more ≡ false → (e : ℕ) → e < n → held w (u e) ≡ held w (wrap t (u e))) where
      -- one word, from a state in which its operands stand in d and c
      merged_word : (s2 : State) (c : ℕ) (p q : ℕ → ℤ) → Ready w n s2 → OnlyZ d s s2 → ZRight w n (z_at s2 d) p → ZRight w n (z_at s2 c) q → ((e : ℕ) → e < n → lane op (modulus w) (held w (p e)) (held w (q e)) ≡ held w (u e))
          → MakesZ (stretch.word name (d ∷ c ∷ 1 ∷ size_of w ∷ []) ∷ z_settle more w t d) s2 d w n (λ e. wrap t (u e))
      merged_word s2 c p q r2 only hp hq same =
          lanes_z w (merge_at op w (p_at s2 1) (z_at s2 d) (z_at s2 c)) u r2 ld (does s2 c)
          (λ e lt. ap (λ b. cond b (binary_at op w (z_at s2 d) (z_at s2 c) e) (at w (z_at s2 d) e)) (r2.all e lt) ∙ ap₂ (lane op (modulus w)) (hp e lt) (hq e lt) ∙ same e lt)
          (λ s3 is last here. settle_z more t d w u (ready_then r2 is last) ld here wide keeps)

      merged_z : MakesZ (merged w name d a b (z_settle more w t d)) s d w n (λ e. wrap t (u e))
      merged_z = by (nat_eq d b) refl
        where
          by : (c : Bool) → nat_eq d b ≡ c → MakesZ (if c then stretch.word name (d ∷ a ∷ 1 ∷ size_of w ∷ []) ∷ z_settle more w t d else z_copy d a (stretch.word name (d ∷ b ∷ 1 ∷ size_of w ∷ []) ∷ z_settle more w t d)) s d w n (λ e. wrap t (u e))
          by true q = merged_word s a y x r (only_same d s) (subst (λ k. ZRight w n (z_at s k) y) (sym (eqb-true d b q)) by_) ax exchanged
          by false q =
              copy_then d a w x r ld la ax
              (λ s2 is only here. merged_word s2 b x y (ready_then r is only) only here (λ e lt. ap (λ z. at w z e) (only.z b (λ e. eqb-false d b q (sym e))) ∙ by_ e lt) law)

    mul_z : MakesZ (binary_code w binary_op.Mul t d a b) s d w n (λ e. wrap t (x e *ℤ y e))
    mul_z =
        merged_z m_mul lane_ops.Mul (λ e. x e *ℤ y e) true (λ s c. ap (λ k. put_lanes s d k (merge_at lane_ops.Mul k (p_at s 1) (z_at s d) (z_at s c))) (width-size w))
        (λ e lt. mul-held w (x e) (y e)) (λ e lt. ap (λ m. m % modulus w) (mul_comm (held w (y e)) (held w (x e))) ∙ mul-held w (x e) (y e)) (λ e. absurd cc)

    least_keeps : (e : ℕ) → e < n → held w (int_min (x e) (y e)) ≡ held w (wrap t (int_min (x e) (y e)))
    least_keeps e lt = same_of t w (int_min (x e) (y e)) (of-cond t (int_lt (y e) (x e)) (y e) (x e) (ty e lt) (tx e lt))

    greatest_keeps : (e : ℕ) → e < n → held w (int_max (x e) (y e)) ≡ held w (wrap t (int_max (x e) (y e)))
    greatest_keeps e lt = same_of t w (int_max (x e) (y e)) (of-cond t (int_lt (y e) (x e)) (x e) (y e) (tx e lt) (ty e lt))

    in_x : (sg : Bool) → is_signed t ≡ sg → (e : ℕ) → e < n → InBits sg (width_bits w) (x e)
    in_x sg q e lt = subst (λ b. InBits b (width_bits w) (x e)) q (in_lane t w (x e) wide (tx e lt))

    in_y : (sg : Bool) → is_signed t ≡ sg → (e : ℕ) → e < n → InBits sg (width_bits w) (y e)
    in_y sg q e lt = subst (λ b. InBits b (width_bits w) (y e)) q (in_lane t w (y e) wide (ty e lt))

    min_z : MakesZ (binary_code w binary_op.Min t d a b) s d w n (λ e. wrap t (int_min (x e) (y e)))
    min_z = by (is_signed t) refl
      where
        by : (sg : Bool) → is_signed t ≡ sg → MakesZ (merged w (if sg then m_smin else m_umin) d a b []) s d w n (λ e. wrap t (int_min (x e) (y e)))
        by true q =
            merged_z m_smin lane_ops.SMin (λ e. int_min (x e) (y e)) false (λ s c. ap (λ k. put_lanes s d k (merge_at lane_ops.SMin k (p_at s 1) (z_at s d) (z_at s c))) (width-size w))
            (λ e lt. smin-held w (x e) (y e) (in_x true q e lt) (in_y true q e lt))
            (λ e lt. smin-held w (y e) (x e) (in_y true q e lt) (in_x true q e lt) ∙ ap (held w) (int_min-comm (x e) (y e))) (λ no. least_keeps)
        by false q =
            merged_z m_umin lane_ops.UMin (λ e. int_min (x e) (y e)) false (λ s c. ap (λ k. put_lanes s d k (merge_at lane_ops.UMin k (p_at s 1) (z_at s d) (z_at s c))) (width-size w))
            (λ e lt. umin-held w (x e) (y e) (in_x false q e lt) (in_y false q e lt))
            (λ e lt. umin-held w (y e) (x e) (in_y false q e lt) (in_x false q e lt) ∙ ap (held w) (int_min-comm (x e) (y e))) (λ no. least_keeps)

    max_z : MakesZ (binary_code w binary_op.Max t d a b) s d w n (λ e. wrap t (int_max (x e) (y e)))
    max_z = by (is_signed t) refl
      where
        by : (sg : Bool) → is_signed t ≡ sg → MakesZ (merged w (if sg then m_smax else m_umax) d a b []) s d w n (λ e. wrap t (int_max (x e) (y e)))
        by true q =
            merged_z m_smax lane_ops.SMax (λ e. int_max (x e) (y e)) false (λ s c. ap (λ k. put_lanes s d k (merge_at lane_ops.SMax k (p_at s 1) (z_at s d) (z_at s c))) (width-size w))
            (λ e lt. smax-held w (x e) (y e) (in_x true q e lt) (in_y true q e lt))
            (λ e lt. smax-held w (y e) (x e) (in_y true q e lt) (in_x true q e lt) ∙ ap (held w) (int_max-comm (x e) (y e))) (λ no. greatest_keeps)
        by false q =
            merged_z m_umax lane_ops.UMax (λ e. int_max (x e) (y e)) false (λ s c. ap (λ k. put_lanes s d k (merge_at lane_ops.UMax k (p_at s 1) (z_at s d) (z_at s c))) (width-size w))
            (λ e lt. umax-held w (x e) (y e) (in_x false q e lt) (in_y false q e lt))
            (λ e lt. umax-held w (y e) (x e) (in_y false q e lt) (in_x false q e lt) ∙ ap (held w) (int_max-comm (x e) (y e))) (λ no. greatest_keeps)

    pub binary_z : (op : BinaryOp) → MakesZ (binary_code w op t d a b) s d w n (λ e. wrap t (binary_on op (x e) (y e)))
    binary_z binary_op.Add = add_z
    binary_z binary_op.Sub = sub_z
    binary_z binary_op.Mul = mul_z
    binary_z binary_op.And = and_z
    binary_z binary_op.Or = or_z
    binary_z binary_op.Xor = xor_z
    binary_z binary_op.Min = min_z
    binary_z binary_op.Max = max_z

-- ---- one of two values, of any type

choose_held : (w : Width) (b : Bool) (x y : ℤ) → cond b (held w x) (held w y) ≡ held w (choose_value b x y)
choose_held w true x y = refl
choose_held w false x y = refl

pub pick_z : {s : State} (w : Width) {n : ℕ} (d p a b : ℕ) (c : ℕ → Bool) (x y : ℕ → ℤ) → Ready w n s → d < 32 → PRight w n (p_at s p) c → ZRight w n (z_at s a) x → ZRight w n (z_at s b) y → MakesZ (pick_code w d p a b) s d w n (λ e. choose_value (c e) (x e) (y e))
pick_z {s = s} w {n = n} d p a b c x y r ld cp ax by_ =
    lanes_z w (select_at w (p_at s p) (z_at s a) (z_at s b)) (λ e. choose_value (c e) (x e) (y e)) r ld (ap (λ k. put_lanes s d k (select_at k (p_at s p) (z_at s a) (z_at s b))) (width-size w))
    (λ e lt. ap (λ q. cond q (at w (z_at s a) e) (at w (z_at s b) e)) (cp e lt) ∙ ap₂ (λ m k. cond (c e) m k) (ax e lt) (by_ e lt) ∙ choose_held w (c e) (x e) (y e))
    (λ t is only here. done_z is here)
