-- Each operator of an update, on the values of a type, is a commutative monoid.
use Rattle.std.proofs.Common.{◌≡◌, ℕ, ◌+◌, ◌-◌, ◌%◌, ◌^◌, ◌<◌, ℤ, pos, negsuc, ◌+ℤ◌, refl, sym, ap, ◌∙◌, subst, arith, bit_and, bit_or, bit_xor}
use Rattle.std.specs.Int.{int_min, int_max}
use Rattle.std.specs.Int.Bits.{or_zero_l, xor_zero_l, xor_assoc}
use Rattle.std.proofs.lemmas.Int.{ints, clamps}
use Rattle.std.proofs.lemmas.Nat.{and_comm, or_comm, xor_comm, and_assoc, and_mask, or_lt}
use Rattle.std.proofs.lemmas.Nat.Bits.{bit_at_or, same_from_bits_below}
use Rattle.guest_types.specs.declared.length.Width.{Width}
use Rattle.guest_types.specs.declared.length.Width.TheVariants.{B, H, S, D}
use Rattle.guest_types.specs.declared.operation.LaneOp.TheVariants as lane_ops
use Rattle.guest_types.specs.Length.{width_bits, modulus}
use Rattle.guest_types.specs.Lanes.{lane}
use Rattle.kernel_tree.specs.declared.ops.Ty.{Ty}
use Rattle.kernel_tree.specs.declared.ops.Ty.TheVariants as ty
use Rattle.kernel_tree.specs.declared.ops.UpdateOp.{UpdateOp}
use Rattle.kernel_tree.specs.declared.ops.UpdateOp.TheVariants as update
use Rattle.kernel_tree.specs.Wrap.{wrap, residue, bits_of}
use Rattle.kernel_meaning.specs.Operators.{word, binary_on, operator_of}
use Rattle.loop_form.specs.Lanes.{type_width}
use Rattle.lane_emit.specs.Right.{IsOf, least, greatest}
use Rattle.lane_emit.proofs.Ranges.{wrap-is_of, wrap-of}
use Rattle.lane_emit.proofs.Residues.{held, held-below, add-held, and-held, or-held, xor-held}
use Rattle.lane_emit.proofs.ExtendedLanes.{held-wrap}
use Rattle.lane_emit.specs.Joins.{joined, Joins}

-- a lane as wide as the type
pub own : (t : Ty) → bits_of t ≡ width_bits (type_width t)
own ty.I8 = refl
own other = refl

-- what that lane holds of a value tells it
wrap_by_residue : (t : Ty) (x y : ℤ) → residue (bits_of t) x ≡ residue (bits_of t) y → wrap t x ≡ wrap t y
wrap_by_residue ty.I8 x y e = cc
wrap_by_residue other x y e = cc

pub wrap_by_held : (t : Ty) (x y : ℤ) → held (type_width t) x ≡ held (type_width t) y → wrap t x ≡ wrap t y
wrap_by_held t x y e = wrap_by_residue t x y (subst (λ k. residue k x ≡ residue k y) (sym (own t)) e)

abbrev pub lane_of : Ty → ℤ → ℕ
lane_of t x = held (type_width t) x

pub lane-wrap : (t : Ty) (x : ℤ) → lane_of t (wrap t x) ≡ lane_of t x
lane-wrap t x = held-wrap (type_width t) t x (own t)

add_assoc : (w : Width) (a b c : ℕ) → ((a + b) % modulus w + c) % modulus w ≡ (a + (b + c) % modulus w) % modulus w
add_assoc B a b c = omega arith
add_assoc other a b c = omega arith

pub zero_of : (t : Ty) → IsOf t (pos 0)
zero_of ty.I8 = (omega (arith, ints), omega (arith, ints))
zero_of other = (omega (arith, ints), omega (arith, ints))

least_is : (t : Ty) → IsOf t (least t)
least_is ty.I8 = (omega (arith, ints), omega (arith, ints))
least_is other = (omega (arith, ints), omega (arith, ints))

greatest_is : (t : Ty) → IsOf t (greatest t)
greatest_is ty.I8 = (omega (arith, ints), omega (arith, ints))
greatest_is other = (omega (arith, ints), omega (arith, ints))

-- ---- operators that a lane computes

-- an operation of integers whose lane is an operation of the lanes
module _ (t : Ty) (f : ℤ → ℤ → ℤ) (g : ℕ → ℕ → ℕ) (law : (x y : ℤ) → g (lane_of t x) (lane_of t y) ≡ lane_of t (f x y)) where
  by_lane : (x y : ℤ) → lane_of t (wrap t (f x y)) ≡ g (lane_of t x) (lane_of t y)
  by_lane x y = lane-wrap t (f x y) ∙ sym (law x y)

  lane_commutes : ((a b : ℕ) → g a b ≡ g b a) → (x y : ℤ) → wrap t (f x y) ≡ wrap t (f y x)
  lane_commutes h x y = wrap_by_held t (f x y) (f y x) (sym (law x y) ∙ h (lane_of t x) (lane_of t y) ∙ law y x)

  lane_associates : (x y z : ℤ) → g (g (lane_of t x) (lane_of t y)) (lane_of t z) ≡ g (lane_of t x) (g (lane_of t y) (lane_of t z)) → wrap t (f (wrap t (f x y)) z) ≡ wrap t (f x (wrap t (f y z)))
  lane_associates x y z h =
      wrap_by_held t (f (wrap t (f x y)) z) (f x (wrap t (f y z)))
      (sym (law (wrap t (f x y)) z) ∙ ap (λ a. g a (lane_of t z)) (by_lane x y) ∙ h
      ∙ ap (g (lane_of t x)) (sym (by_lane y z)) ∙ law x (wrap t (f y z)))

  lane_keeps : (z x : ℤ) → IsOf t x → g (lane_of t z) (lane_of t x) ≡ lane_of t x → wrap t (f z x) ≡ x
  lane_keeps z x h e = wrap_by_held t (f z x) x (sym (law z x) ∙ e) ∙ wrap-of t x h

zero_lane : (w : Width) → held w (pos 0) ≡ 0
zero_lane B = refl
zero_lane other = refl

ones_lane : (w : Width) → held w (negsuc 0) ≡ 2 ^ width_bits w - 1
ones_lane B = refl
ones_lane other = refl

held_mod_width : (w : Width) (x : ℤ) → held w x % 2 ^ width_bits w ≡ held w x
held_mod_width B x = let h = held-below B x in omega (arith, h)
held_mod_width H x = let h = held-below H x in omega (arith, h)
held_mod_width S x = let h = held-below S x in omega (arith, h)
held_mod_width D x = let h = held-below D x in omega (arith, h)

plus_zero : (w : Width) (x : ℤ) → lane lane_ops.Add (modulus w) 0 (held w x) ≡ held w x
plus_zero B x = let h = held-below B x in omega (arith, h)
plus_zero H x = let h = held-below H x in omega (arith, h)
plus_zero S x = let h = held-below S x in omega (arith, h)
plus_zero D x = let h = held-below D x in omega (arith, h)

add_comm : (w : Width) (a b : ℕ) → lane lane_ops.Add (modulus w) a b ≡ lane lane_ops.Add (modulus w) b a
add_comm w a b = ap (λ n. n % modulus w) (let e : a + b ≡ b + a = omega arith in e)

held_64 : (w : Width) (x : ℤ) → held w x < 2 ^ 64
held_64 B x = let h = held-below B x in omega (arith, h)
held_64 H x = let h = held-below H x in omega (arith, h)
held_64 S x = let h = held-below S x in omega (arith, h)
held_64 D x = held-below D x

or_assoc : (a b c : ℕ) → a < 2 ^ 64 → b < 2 ^ 64 → c < 2 ^ 64 → bit_or (bit_or a b) c ≡ bit_or a (bit_or b c)
or_assoc a b c ha hb hc =
    same_from_bits_below 64 (bit_or (bit_or a b) c) (bit_or a (bit_or b c)) (or_lt 64 (bit_or a b) c (or_lt 64 a b ha hb) hc) (or_lt 64 a (bit_or b c) ha (or_lt 64 b c hb hc))
    (λ i lt. let p = bit_at_or (bit_or a b) c i in let q = bit_at_or a b i in let r = bit_at_or a (bit_or b c) i in let s = bit_at_or b c i in omega (arith, p, q, r, s))

closed_in : (t : Ty) (op : UpdateOp) (x y : ℤ) → IsOf t (joined op t x y)
closed_in t op x y = wrap-is_of t (binary_on (operator_of op) x y)

add_joins : (t : Ty) → Joins update.Add t
add_joins t =
    let w = type_width t in record {
      closed = closed_in t update.Add;
      neutral = zero_of t;
      keeps = λ x h. lane_keeps t (λ x y. x +ℤ y) (lane lane_ops.Add (modulus w)) (add-held w) (pos 0) x h (ap (λ a. lane lane_ops.Add (modulus w) a (held w x)) (zero_lane w) ∙ plus_zero w x);
      commutes = lane_commutes t (λ x y. x +ℤ y) (lane lane_ops.Add (modulus w)) (add-held w) (add_comm w);
      associates = λ x y z _ _ _. lane_associates t (λ x y. x +ℤ y) (lane lane_ops.Add (modulus w)) (add-held w) x y z (add_assoc w (held w x) (held w y) (held w z));
    }

and_joins : (t : Ty) → Joins update.And t
and_joins t =
    let w = type_width t in
    let f = λ (x y : ℤ). pos (bit_and (word x) (word y)) in record {
      closed = closed_in t update.And;
      neutral = wrap-is_of t (negsuc 0);
      keeps = λ x h. lane_keeps t f bit_and (and-held w) (wrap t (negsuc 0)) x h
          (ap (λ a. bit_and a (held w x)) (lane-wrap t (negsuc 0) ∙ ones_lane w) ∙ and_comm (2 ^ width_bits w - 1) (held w x) ∙ and_mask (held w x) (width_bits w) ∙ held_mod_width w x);
      commutes = lane_commutes t f bit_and (and-held w) and_comm;
      associates = λ x y z _ _ _. lane_associates t f bit_and (and-held w) x y z (and_assoc (held w z) (held w x) (held w y));
    }

or_joins : (t : Ty) → Joins update.Or t
or_joins t =
    let w = type_width t in
    let f = λ (x y : ℤ). pos (bit_or (word x) (word y)) in record {
      closed = closed_in t update.Or;
      neutral = zero_of t;
      keeps = λ x h. lane_keeps t f bit_or (or-held w) (pos 0) x h (ap (λ a. bit_or a (held w x)) (zero_lane w) ∙ or_zero_l (held w x));
      commutes = lane_commutes t f bit_or (or-held w) or_comm;
      associates = λ x y z _ _ _. lane_associates t f bit_or (or-held w) x y z (or_assoc (held w x) (held w y) (held w z) (held_64 w x) (held_64 w y) (held_64 w z));
    }

xor_joins : (t : Ty) → Joins update.Xor t
xor_joins t =
    let w = type_width t in
    let f = λ (x y : ℤ). pos (bit_xor (word x) (word y)) in record {
      closed = closed_in t update.Xor;
      neutral = zero_of t;
      keeps = λ x h. lane_keeps t f bit_xor (xor-held w) (pos 0) x h (ap (λ a. bit_xor a (held w x)) (zero_lane w) ∙ xor_zero_l (held w x));
      commutes = lane_commutes t f bit_xor (xor-held w) xor_comm;
      associates = λ x y z _ _ _. lane_associates t f bit_xor (xor-held w) x y z (xor_assoc (held w x) (held w y) (held w z));
    }

-- ---- the least and the greatest

pub min_of : (t : Ty) (x y : ℤ) → IsOf t x → IsOf t y → IsOf t (int_min x y)
min_of t x y h k = let a = h.0 in let b = h.1 in let c = k.0 in let d = k.1 in (omega (arith, ints, clamps), omega (arith, ints, clamps))

pub max_of : (t : Ty) (x y : ℤ) → IsOf t x → IsOf t y → IsOf t (int_max x y)
max_of t x y h k = let a = h.0 in let b = h.1 in let c = k.0 in let d = k.1 in (omega (arith, ints, clamps), omega (arith, ints, clamps))

min_assoc : (x y z : ℤ) → int_min (int_min x y) z ≡ int_min x (int_min y z)
min_assoc x y z = omega (arith, ints, clamps)

max_assoc : (x y z : ℤ) → int_max (int_max x y) z ≡ int_max x (int_max y z)
max_assoc x y z = omega (arith, ints, clamps)

min_comm : (x y : ℤ) → int_min x y ≡ int_min y x
min_comm x y = omega (arith, ints, clamps)

max_comm : (x y : ℤ) → int_max x y ≡ int_max y x
max_comm x y = omega (arith, ints, clamps)

min_joins : (t : Ty) → Joins update.Min t
min_joins t =
    let is = λ (x y : ℤ) (h : IsOf t x) (k : IsOf t y). wrap-of t (int_min x y) (min_of t x y h k) in record {
      closed = closed_in t update.Min;
      neutral = greatest_is t;
      keeps = λ x h. is (greatest t) x (greatest_is t) h ∙ (let b = h.1 in omega (arith, ints, clamps));
      commutes = λ x y. ap (wrap t) (min_comm x y);
      associates = λ x y z h k l. ap (λ v. wrap t (int_min v z)) (is x y h k) ∙ ap (wrap t) (min_assoc x y z) ∙ ap (λ v. wrap t (int_min x v)) (sym (is y z k l));
    }

max_joins : (t : Ty) → Joins update.Max t
max_joins t =
    let is = λ (x y : ℤ) (h : IsOf t x) (k : IsOf t y). wrap-of t (int_max x y) (max_of t x y h k) in record {
      closed = closed_in t update.Max;
      neutral = least_is t;
      keeps = λ x h. is (least t) x (least_is t) h ∙ (let b = h.0 in omega (arith, ints, clamps));
      commutes = λ x y. ap (wrap t) (max_comm x y);
      associates = λ x y z h k l. ap (λ v. wrap t (int_max v z)) (is x y h k) ∙ ap (wrap t) (max_assoc x y z) ∙ ap (λ v. wrap t (int_max x v)) (sym (is y z k l));
    }

pub joins : (op : UpdateOp) (t : Ty) → Joins op t
joins update.Add t = add_joins t
joins update.And t = and_joins t
joins update.Or t = or_joins t
joins update.Xor t = xor_joins t
joins update.Min t = min_joins t
joins update.Max t = max_joins t
