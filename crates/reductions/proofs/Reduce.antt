-- The reduction of an accumulator's lanes.
use Rattle.std.proofs.Common.{◌≡◌, ℕ, zero, suc, ◌+◌, ◌-◌, ◌/◌, ◌%◌, ◌^◌, ◌<◌, ◌≤◌, ℤ, pos, negsuc, Bool, true, false, cond, List, [], ◌∷◌, refl, sym, ap, ap₂, ◌∙◌, subst, arith, bit_and, bit_or, bit_xor, get_or-set_same}
use Rattle.std.specs.Prelude.{if◌then◌else◌}
use Rattle.std.specs.Int.{int_min, int_max}
use Rattle.std.specs.Int.Bits.{or_zero_l, xor_zero_l}
use Rattle.std.proofs.lemmas.Int.{ints, clamps}
use Rattle.std.proofs.lemmas.Nat.{and_comm, and_mask}
use Rattle.std.proofs.Math.Nat.{mod-eq_of_lt, div-one}
use Rattle.guest_types.specs.declared.length.Width.{Width}
use Rattle.guest_types.specs.declared.length.Width.TheVariants.{B, H, S, D}
use Rattle.guest_types.specs.declared.operation.LaneOp.TheVariants as lane_ops
use Rattle.guest_types.specs.declared.operation.ReduceOp.{ReduceOp}
use Rattle.guest_types.specs.declared.operation.ReduceOp.TheVariants as reduce_ops
use Rattle.guest_types.specs.Length.{IsLength, width_bits, width_bytes, modulus, lanes}
use Rattle.guest_types.specs.Elements.{at, register, element}
use Rattle.guest_types.specs.Lanes.{lane, identity, joined, folded, reduce_at, reduce_of, dup_at}
use Rattle.guest_types.specs.LaneMemory.{width_of_size}
use Rattle.guest_types.proofs.AtWidths.{at-register, lanes-bound}
use Rattle.guest_types.proofs.Shifts.{modulus-power}
use Rattle.kernel_tree.specs.declared.ops.Ty.{Ty}
use Rattle.kernel_tree.specs.declared.ops.UpdateOp.{UpdateOp}
use Rattle.kernel_tree.specs.declared.ops.UpdateOp.TheVariants as update
use Rattle.kernel_tree.specs.Wrap.{residue, bits_of, is_signed}
use Rattle.machine_model.specs.Machine.{State, Went, z_at, with_z, p_at, next}
use Rattle.machine_model.specs.VectorEffects.{reduced, do_vector}
use Rattle.machine_model.proofs.StateSteps.{vector_made, one_put}
use Rattle.sve_code.specs.Table as sve
use Rattle.machine_model.proofs.StateLaws.{one_element-fits}
use Rattle.lane_emit.specs.Right.{IsOf}
use Rattle.lane_emit.specs.Stretch as stretch
use Rattle.lane_emit.specs.Stretch.{do_all, and_then}
use Rattle.lane_emit.specs.LaneCode.{size_of}
use Rattle.lane_emit.proofs.Ranges.{InBits}
use Rattle.lane_emit.proofs.Residues.{held, held-below}
use Rattle.lane_emit.proofs.Orders.{smin-held, smax-held}
use Rattle.lane_emit.proofs.BitwiseLanes.{Small, small_all, at-part}
use Rattle.lane_emit.proofs.Stretches.{width-size}
use Rattle.lane_emit.specs.Joins as joins
use Rattle.lane_emit.specs.Folds.{together}
use Rattle.lane_emit.specs.AccumulatorLanes.{Holds}
use Rattle.reductions.specs.Reductions.{reduce_name, ReductionIsTogether}
use Rattle.lane_emit.proofs.JoinLaws as laws
use Rattle.lane_emit.proofs.FoldOrders.{together_of}
use Rattle.lane_emit.proofs.AccumulatorUpdates.{low_sum, through, at_most_64, low_held, low_joined, takes_in, ranged, only_z}

-- the reduction of an operator
abbrev reduce_op : UpdateOp → Ty → ReduceOp
reduce_op update.Add t = reduce_ops.UAdd
reduce_op update.And t = reduce_ops.And
reduce_op update.Or t = reduce_ops.Or
reduce_op update.Xor t = reduce_ops.Xor
reduce_op update.Min t = if is_signed t then reduce_ops.SMin else reduce_ops.UMin
reduce_op update.Max t = if is_signed t then reduce_ops.SMax else reduce_ops.UMax

-- the width of its result
abbrev result_width : UpdateOp → Width → Width
result_width update.Add w = D
result_width other w = w

ones_is : (w : Width) (x : ℤ) → bit_and (modulus w - 1) (held w x) ≡ held w x
ones_is w x =
    and_comm (modulus w - 1) (held w x) ∙ ap (λ m. bit_and (held w x) (m - 1)) (modulus-power w) ∙ and_mask (held w x) (width_bits w)
    ∙ mod-eq_of_lt (subst (λ m. held w x < m) (modulus-power w) (held-below w x))

top_is : (w : Width) → held w (pos (2 ^ (width_bits w - 1) - 1)) ≡ modulus w / 2 - 1
top_is B = refl
top_is other = refl

bottom_is : (w : Width) → held w (negsuc (2 ^ (width_bits w - 1) - 1)) ≡ modulus w / 2
bottom_is B = refl
bottom_is other = refl

some_half : (w : Width) → 0 < 2 ^ (width_bits w - 1)
some_half B = omega arith
some_half other = omega arith

below_top : (w : Width) (x : ℤ) → InBits true (width_bits w) x → int_min (pos (2 ^ (width_bits w - 1) - 1)) x ≡ x
below_top w (pos n) h = omega (arith, ints, clamps, h)
below_top w (negsuc n) h = omega (arith, ints, clamps, h)

above_bottom : (w : Width) (x : ℤ) → InBits true (width_bits w) x → int_max (negsuc (2 ^ (width_bits w - 1) - 1)) x ≡ x
above_bottom w (pos n) h = let some = some_half w in omega (arith, ints, clamps, h, some)
above_bottom w (negsuc n) h = let some = some_half w in omega (arith, ints, clamps, h, some)

module _ (t : Ty) (w : Width) (wide : bits_of t ≤ width_bits w) where
  -- ---- the first lane, with what a reduction starts from

  first_least : (sg : Bool) → is_signed t ≡ sg → (y : ℤ) → IsOf t y → joined (if sg then reduce_ops.SMin else reduce_ops.UMin) (modulus w) (identity (if sg then reduce_ops.SMin else reduce_ops.UMin) (modulus w)) (held w y) ≡ held w y
  first_least true q y h =
      let top = pos (2 ^ (width_bits w - 1) - 1) in
      let some = some_half w in
      ap (λ a. lane lane_ops.SMin (modulus w) a (held w y)) (sym (top_is w)) ∙ smin-held w top y (omega (arith, some)) (ranged t w wide true q y h) ∙ ap (held w) (below_top w y (ranged t w wide true q y h))
  first_least false q y h = let lt = held-below w y in omega (arith, lt)

  first_greatest : (sg : Bool) → is_signed t ≡ sg → (y : ℤ) → IsOf t y → joined (if sg then reduce_ops.SMax else reduce_ops.UMax) (modulus w) (identity (if sg then reduce_ops.SMax else reduce_ops.UMax) (modulus w)) (held w y) ≡ held w y
  first_greatest true q y h =
      let bottom = negsuc (2 ^ (width_bits w - 1) - 1) in
      let some = some_half w in
      ap (λ a. lane lane_ops.SMax (modulus w) a (held w y)) (sym (bottom_is w)) ∙ smax-held w bottom y (omega (arith, some)) (ranged t w wide true q y h) ∙ ap (held w) (above_bottom w y (ranged t w wide true q y h))
  first_greatest false q y h = omega arith

  first_lane : (op : UpdateOp) (b : ℕ) (y : ℤ) → IsOf t y → Holds op t w b y → Holds op t w (joined (reduce_op op t) (modulus w) (identity (reduce_op op t) (modulus w)) b) y
  first_lane update.Add b y h e = ap (λ n. n % 2 ^ 64 % 2 ^ bits_of t) (let z : 0 + b ≡ b = omega arith in z) ∙ through t D b (at_most_64 t) ∙ e
  first_lane update.And b y h e = ap (bit_and (modulus w - 1)) e ∙ ones_is w y
  first_lane update.Or b y h e = or_zero_l b ∙ e
  first_lane update.Xor b y h e = xor_zero_l b ∙ e
  first_lane update.Min b y h e = ap (λ a. joined (reduce_op update.Min t) (modulus w) (identity (reduce_op update.Min t) (modulus w)) a) e ∙ first_least (is_signed t) refl y h
  first_lane update.Max b y h e = ap (λ a. joined (reduce_op update.Max t) (modulus w) (identity (reduce_op update.Max t) (modulus w)) a) e ∙ first_greatest (is_signed t) refl y h

  -- ---- one lane more

  same_least : (sg : Bool) (a b : ℕ) → joined (if sg then reduce_ops.SMin else reduce_ops.UMin) (modulus w) a b ≡ lane (if sg then lane_ops.SMin else lane_ops.UMin) (modulus w) a b
  same_least true a b = refl
  same_least false a b = refl

  same_greatest : (sg : Bool) (a b : ℕ) → joined (if sg then reduce_ops.SMax else reduce_ops.UMax) (modulus w) a b ≡ lane (if sg then lane_ops.SMax else lane_ops.UMax) (modulus w) a b
  same_greatest true a b = refl
  same_greatest false a b = refl

  joined_holds : (op : UpdateOp) (a b : ℕ) (x y : ℤ) → IsOf t x → IsOf t y → Holds op t w a x → Holds op t w b y → Holds op t w (joined (reduce_op op t) (modulus w) a b) (joins.joined op t x y)
  joined_holds update.Add a b x y h k e f = low_sum t D a b (at_most_64 t) ∙ ap₂ (λ m n. (m + n) % 2 ^ bits_of t) e f ∙ low_joined t x y
  joined_holds update.And a b x y h k e f = ap (bit_and a) f ∙ takes_in t w wide update.And a x y h k e
  joined_holds update.Or a b x y h k e f = ap (bit_or a) f ∙ takes_in t w wide update.Or a x y h k e
  joined_holds update.Xor a b x y h k e f = ap (bit_xor a) f ∙ takes_in t w wide update.Xor a x y h k e
  joined_holds update.Min a b x y h k e f = ap (joined (reduce_op update.Min t) (modulus w) a) f ∙ same_least (is_signed t) a (held w y) ∙ takes_in t w wide update.Min a x y h k e
  joined_holds update.Max a b x y h k e f = ap (joined (reduce_op update.Max t) (modulus w) a) f ∙ same_greatest (is_signed t) a (held w y) ∙ takes_in t w wide update.Max a x y h k e

  -- ---- all lanes

  -- at least one lane
  folds : (op : UpdateOp) (n : ℕ) (f : ℕ → ℕ) (taken : ℕ → ℤ) → ((e : ℕ) → e < suc n → IsOf t (taken e) × Holds op t w (f e) (taken e)) → Holds op t w (folded (joined (reduce_op op t) (modulus w)) (identity (reduce_op op t) (modulus w)) f (suc n)) (together op t (suc n) taken)
  unfolding folded
  folds op zero f taken h =
      let one = h 0 (omega arith) in
      subst (Holds op t w (joined (reduce_op op t) (modulus w) (identity (reduce_op op t) (modulus w)) (f 0))) (sym ((laws.joins op t).keeps (taken 0) one.0)) (first_lane op (f 0) (taken 0) one.0 one.1)
  folds op (suc n) f taken h =
      let last = h (suc n) (omega arith) in
      joined_holds op (folded (joined (reduce_op op t) (modulus w)) (identity (reduce_op op t) (modulus w)) f (suc n)) (f (suc n)) (together op t (suc n) taken) (taken (suc n)) (together_of op t (suc n) taken) last.0 (folds op n f taken (λ e lt. h e (omega (arith, lt)))) last.1

  -- the bits of the type
  low_bits : (op : UpdateOp) (a : ℕ) (x : ℤ) → Holds op t w a x → a % 2 ^ bits_of t ≡ residue (bits_of t) x
  low_bits update.Add a x e = e
  low_bits update.And a x e = ap (λ m. m % 2 ^ bits_of t) e ∙ low_held t w x wide
  low_bits update.Or a x e = ap (λ m. m % 2 ^ bits_of t) e ∙ low_held t w x wide
  low_bits update.Xor a x e = ap (λ m. m % 2 ^ bits_of t) e ∙ low_held t w x wide
  low_bits update.Min a x e = ap (λ m. m % 2 ^ bits_of t) e ∙ low_held t w x wide
  low_bits update.Max a x e = ap (λ m. m % 2 ^ bits_of t) e ∙ low_held t w x wide

  result_wide : (op : UpdateOp) → bits_of t ≤ width_bits (result_width op w)
  result_wide update.Add = at_most_64 t
  result_wide update.And = wide
  result_wide update.Or = wide
  result_wide update.Xor = wide
  result_wide update.Min = wide
  result_wide update.Max = wide

-- the lowest element is what a doubleword ends in
first_part : (w : Width) (z : List ℕ) → Small z → at w z 0 ≡ at D z 0 % modulus w
first_part B z h = at-part B 0 z h ∙ ap (λ n. n % 2 ^ 8) (div-one (at D z 0))
first_part H z h = at-part H 0 z h ∙ ap (λ n. n % 2 ^ 16) (div-one (at D z 0))
first_part S z h = at-part S 0 z h ∙ ap (λ n. n % 2 ^ 32) (div-one (at D z 0))
first_part D z h = at-part D 0 z h ∙ ap (λ n. n % 2 ^ 64) (div-one (at D z 0))

-- a result in the lowest element
low_result : (t : Ty) (vl : ℕ) (w : Width) (r : ℕ) → IsLength vl → bits_of t ≤ width_bits w → at D (register (width_bytes w) (dup_at r) 1) 0 % 2 ^ bits_of t ≡ r % 2 ^ bits_of t
low_result t vl w r h wide =
    let z = reduced w r in
    let small = small_all z (vector_made vl (width_bytes w) (dup_at r) 1 h (one_element-fits vl w h)).small in
    sym (through t w (at D z 0) wide) ∙ ap (λ n. n % 2 ^ bits_of t) (sym (first_part w z small) ∙ at-register w (dup_at r) 1 0 (omega arith)) ∙ through t w r wide

reduce_does : (op : UpdateOp) (t : Ty) (w : Width) (s : State) (d z : ℕ) → do_vector (stretch.word (reduce_name op t) (d ∷ z ∷ 1 ∷ size_of w ∷ [])) s ≡ Went (next (with_z s d (reduced (result_width op w) (reduce_of (reduce_op op t) w (lanes s.vl w) (p_at s 1) (z_at s z)))))
reduce_does op t w s d z = by op ∙ ap (λ k. Went (next (with_z s d (reduced (result_width op k) (reduce_of (reduce_op op t) k (lanes s.vl k) (p_at s 1) (z_at s z)))))) (width-size w)
  where
    least : (sg : Bool) → do_vector (stretch.word (if sg then sve.sminv else sve.uminv) (d ∷ z ∷ 1 ∷ size_of w ∷ [])) s ≡ Went (next (with_z s d (reduced (width_of_size (size_of w)) (reduce_of (if sg then reduce_ops.SMin else reduce_ops.UMin) (width_of_size (size_of w)) (lanes s.vl (width_of_size (size_of w))) (p_at s 1) (z_at s z)))))
    least true = refl
    least false = refl

    greatest : (sg : Bool) → do_vector (stretch.word (if sg then sve.smaxv else sve.umaxv) (d ∷ z ∷ 1 ∷ size_of w ∷ [])) s ≡ Went (next (with_z s d (reduced (width_of_size (size_of w)) (reduce_of (if sg then reduce_ops.SMax else reduce_ops.UMax) (width_of_size (size_of w)) (lanes s.vl (width_of_size (size_of w))) (p_at s 1) (z_at s z)))))
    greatest true = refl
    greatest false = refl

    by : (op : UpdateOp) → do_vector (stretch.word (reduce_name op t) (d ∷ z ∷ 1 ∷ size_of w ∷ [])) s ≡ Went (next (with_z s d (reduced (result_width op (width_of_size (size_of w))) (reduce_of (reduce_op op t) (width_of_size (size_of w)) (lanes s.vl (width_of_size (size_of w))) (p_at s 1) (z_at s z)))))
    by update.Add = refl
    by update.And = refl
    by update.Or = refl
    by update.Xor = refl
    by update.Min = least (is_signed t)
    by update.Max = greatest (is_signed t)

pub reduction_together : ReductionIsTogether
reduction_together op t w s d z taken ready lt wide holds of =
    let n = lanes s.vl w in
    let f = reduce_at (reduce_op op t) w (p_at s 1) (z_at s z) in
    let r = reduce_of (reduce_op op t) w n (p_at s 1) (z_at s z) in
    let bytes = reduced (result_width op w) r in
    let some = (lanes-bound s.vl w ready.is.sized).0 in
    let more : n ≡ suc (n - 1) = omega (arith, some) in
    let here : (e : ℕ) → e < suc (n - 1) → IsOf t (taken e) × Holds op t w (f e) (taken e) =
    λ e el. (let inside : e < n = omega (arith, el, some) in (of e inside, subst (λ x. Holds op t w x (taken e)) (sym (ap (λ b. cond b (at w (z_at s z) e) (identity (reduce_op op t) (modulus w))) (ready.all e inside))) (holds e inside))) in
    let whole : Holds op t w r (together op t n taken) = subst (λ k. Holds op t w (folded (joined (reduce_op op t) (modulus w)) (identity (reduce_op op t) (modulus w)) f k) (together op t k taken)) (sym more) (folds t w wide op (n - 1) f taken here) in
    record {
      end = next (with_z s d bytes);
      runs = ap (λ o. and_then o (do_all [])) (reduce_does op t w s d z);
      is = one_put s _ d (result_width op w) r ready.is refl;
      only = only_z d s bytes;
      low =
          ap (λ y. element 8 y 0 % 2 ^ bits_of t) (get_or-set_same s.z d bytes [] (omega (arith, ready.is.z_count, lt)))
          ∙ low_result t s.vl (result_width op w) r ready.is.sized (result_wide t w wide op)
          ∙ low_bits t w wide op r (together op t n taken) whole;
    }
