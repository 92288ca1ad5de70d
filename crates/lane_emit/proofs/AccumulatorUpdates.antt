-- Updates of an accumulator in the lanes.
use Rattle.std.proofs.Common.{◌≡◌, ℕ, ◌+◌, ◌%◌, ◌^◌, ◌<◌, ◌≤◌, ℤ, ◌+ℤ◌, Bool, true, false, cond, [], ◌∷◌, refl, sym, ap, ap₂, ◌∙◌, subst, arith, bit_and, bit_or, bit_xor, get_or-set_same}
use Rattle.std.specs.Prelude.{if◌then◌else◌}
use Rattle.std.specs.Int.{int_min, int_max}
use Rattle.guest_types.specs.declared.length.Width.{Width}
use Rattle.guest_types.specs.declared.length.Width.TheVariants.{B, H, S, D}
use Rattle.guest_types.specs.declared.operation.LaneOp.{LaneOp}
use Rattle.guest_types.specs.declared.operation.LaneOp.TheVariants as lane_ops
use Rattle.guest_types.specs.Length.{width_bits, width_bytes, modulus, lanes}
use Rattle.guest_types.specs.Elements.{at, active, register}
use Rattle.guest_types.specs.Lanes.{lane, merge_at}
use Rattle.guest_types.specs.LaneMemory.{width_of_size}
use Rattle.guest_types.proofs.AtWidths.{at-register}
use Rattle.kernel_tree.specs.declared.ops.Ty.{Ty}
use Rattle.kernel_tree.specs.declared.ops.Ty.TheVariants as ty
use Rattle.kernel_tree.specs.declared.ops.UpdateOp.{UpdateOp}
use Rattle.kernel_tree.specs.declared.ops.UpdateOp.TheVariants as update
use Rattle.kernel_tree.specs.Wrap.{residue, bits_of, is_signed}
use Rattle.kernel_meaning.specs.Operators.{word}
use Rattle.machine_model.specs.Machine.{State, z_at, with_z, p_at, next}
use Rattle.machine_model.specs.VectorEffects.{do_vector, put_lanes}
use Rattle.machine_model.proofs.StateSteps.{lanes_put}
use Rattle.sve_code.specs.Table as sve
use Rattle.lane_emit.specs.Right.{IsOf}
use Rattle.lane_emit.specs.Stretch as stretch
use Rattle.lane_emit.specs.Stretch.{do_all, and_then}
use Rattle.lane_emit.specs.LaneCode.{size_of}
use Rattle.lane_emit.proofs.Ranges.{InBits, wrap-of}
use Rattle.lane_emit.proofs.Residues.{held, held-whole, held-word, add-held, and-held, or-held, xor-held}
use Rattle.lane_emit.proofs.Orders.{smin-held, smax-held, umin-held, umax-held}
use Rattle.lane_emit.proofs.ExtendedLanes.{and-kept, or-kept, xor-kept}
use Rattle.lane_emit.proofs.Stretches.{width-size}
use Rattle.lane_emit.proofs.Throughout.{dup_z}
use Rattle.lane_emit.proofs.Values.{in_lane}
use Rattle.lane_emit.specs.Joins as joins
use Rattle.lane_emit.specs.AccumulatorLanes.{Holds, update_name, StartIsIdentity, UpdateIsTaken}
use Rattle.lane_emit.proofs.JoinLaws as laws
use Rattle.lane_emit.proofs.JoinLaws.{min_of, max_of}
pub use Rattle.lane_emit.proofs.Stretches.{only_wrote as only_z}

-- ---- one lane

-- the low bits of a type in a lane
pub low_sum : (t : Ty) (w : Width) (a b : ℕ) → bits_of t ≤ width_bits w → (a + b) % modulus w % 2 ^ bits_of t ≡ (a % 2 ^ bits_of t + b % 2 ^ bits_of t) % 2 ^ bits_of t
low_sum ty.I8 B a b le = omega arith
low_sum ty.I8 H a b le = omega arith
low_sum ty.I8 S a b le = omega arith
low_sum ty.I8 D a b le = omega arith
low_sum ty.U8 B a b le = omega arith
low_sum ty.U8 H a b le = omega arith
low_sum ty.U8 S a b le = omega arith
low_sum ty.U8 D a b le = omega arith
low_sum ty.I16 B a b le = absurd (omega (arith, le))
low_sum ty.I16 H a b le = omega arith
low_sum ty.I16 S a b le = omega arith
low_sum ty.I16 D a b le = omega arith
low_sum ty.U16 B a b le = absurd (omega (arith, le))
low_sum ty.U16 H a b le = omega arith
low_sum ty.U16 S a b le = omega arith
low_sum ty.U16 D a b le = omega arith
low_sum ty.I32 B a b le = absurd (omega (arith, le))
low_sum ty.I32 H a b le = absurd (omega (arith, le))
low_sum ty.I32 S a b le = omega arith
low_sum ty.I32 D a b le = omega arith
low_sum ty.U32 B a b le = absurd (omega (arith, le))
low_sum ty.U32 H a b le = absurd (omega (arith, le))
low_sum ty.U32 S a b le = omega arith
low_sum ty.U32 D a b le = omega arith
low_sum ty.I64 B a b le = absurd (omega (arith, le))
low_sum ty.I64 H a b le = absurd (omega (arith, le))
low_sum ty.I64 S a b le = absurd (omega (arith, le))
low_sum ty.I64 D a b le = omega arith
low_sum ty.U64 B a b le = absurd (omega (arith, le))
low_sum ty.U64 H a b le = absurd (omega (arith, le))
low_sum ty.U64 S a b le = absurd (omega (arith, le))
low_sum ty.U64 D a b le = omega arith

last : (t : Ty) (n : ℕ) → (n % 2 ^ bits_of t + 0 % 2 ^ bits_of t) % 2 ^ bits_of t ≡ n % 2 ^ bits_of t
last ty.I8 n = omega arith
last other n = omega arith

-- an element keeps them
pub through : (t : Ty) (w : Width) (n : ℕ) → bits_of t ≤ width_bits w → n % modulus w % 2 ^ bits_of t ≡ n % 2 ^ bits_of t
through t w n le = ap (λ m. m % modulus w % 2 ^ bits_of t) (let e : n ≡ n + 0 = omega arith in e) ∙ low_sum t w n 0 le ∙ last t n

pub at_most_64 : (t : Ty) → bits_of t ≤ width_bits D
at_most_64 ty.I8 = omega arith
at_most_64 other = omega arith

own_word : (t : Ty) (v : ℤ) → residue (bits_of t) v ≡ word v % 2 ^ bits_of t
own_word ty.I8 v = held-word B v
own_word ty.U8 v = held-word B v
own_word ty.I16 v = held-word H v
own_word ty.U16 v = held-word H v
own_word ty.I32 v = held-word S v
own_word ty.U32 v = held-word S v
own_word ty.I64 v = held-word D v
own_word ty.U64 v = held-word D v

-- what a lane holds of a value, in the bits of a type
pub low_held : (t : Ty) (w : Width) (v : ℤ) → bits_of t ≤ width_bits w → held w v % 2 ^ bits_of t ≡ residue (bits_of t) v
low_held t w v le = ap (λ n. n % 2 ^ bits_of t) (held-word w v) ∙ through t w (word v) le ∙ sym (own_word t v)

pub low_joined : (t : Ty) (x y : ℤ) → (residue (bits_of t) x + residue (bits_of t) y) % 2 ^ bits_of t ≡ residue (bits_of t) (joins.joined update.Add t x y)
low_joined ty.I8 x y = add-held B x y ∙ sym (laws.lane-wrap ty.I8 (x +ℤ y))
low_joined ty.U8 x y = add-held B x y ∙ sym (laws.lane-wrap ty.U8 (x +ℤ y))
low_joined ty.I16 x y = add-held H x y ∙ sym (laws.lane-wrap ty.I16 (x +ℤ y))
low_joined ty.U16 x y = add-held H x y ∙ sym (laws.lane-wrap ty.U16 (x +ℤ y))
low_joined ty.I32 x y = add-held S x y ∙ sym (laws.lane-wrap ty.I32 (x +ℤ y))
low_joined ty.U32 x y = add-held S x y ∙ sym (laws.lane-wrap ty.U32 (x +ℤ y))
low_joined ty.I64 x y = add-held D x y ∙ sym (laws.lane-wrap ty.I64 (x +ℤ y))
low_joined ty.U64 x y = add-held D x y ∙ sym (laws.lane-wrap ty.U64 (x +ℤ y))

-- the operation of a lane
abbrev pub lane_op : UpdateOp → Ty → LaneOp
lane_op update.Add t = lane_ops.Add
lane_op update.And t = lane_ops.And
lane_op update.Or t = lane_ops.Or
lane_op update.Xor t = lane_ops.Xor
lane_op update.Min t = if is_signed t then lane_ops.SMin else lane_ops.UMin
lane_op update.Max t = if is_signed t then lane_ops.SMax else lane_ops.UMax

module _ (t : Ty) (w : Width) (wide : bits_of t ≤ width_bits w) where
  pub ranged : (sg : Bool) → is_signed t ≡ sg → (v : ℤ) → IsOf t v → InBits sg (width_bits w) v
  ranged sg q v h = subst (λ b. InBits b (width_bits w) v) q (in_lane t w v wide h)

  least_of : (sg : Bool) → is_signed t ≡ sg → (x y : ℤ) → IsOf t x → IsOf t y → lane (if sg then lane_ops.SMin else lane_ops.UMin) (modulus w) (held w x) (held w y) ≡ held w (joins.joined update.Min t x y)
  least_of true q x y h k = smin-held w x y (ranged true q x h) (ranged true q y k) ∙ ap (held w) (sym (wrap-of t (int_min x y) (min_of t x y h k)))
  least_of false q x y h k = umin-held w x y (ranged false q x h) (ranged false q y k) ∙ ap (held w) (sym (wrap-of t (int_min x y) (min_of t x y h k)))

  greatest_of : (sg : Bool) → is_signed t ≡ sg → (x y : ℤ) → IsOf t x → IsOf t y → lane (if sg then lane_ops.SMax else lane_ops.UMax) (modulus w) (held w x) (held w y) ≡ held w (joins.joined update.Max t x y)
  greatest_of true q x y h k = smax-held w x y (ranged true q x h) (ranged true q y k) ∙ ap (held w) (sym (wrap-of t (int_max x y) (max_of t x y h k)))
  greatest_of false q x y h k = umax-held w x y (ranged false q x h) (ranged false q y k) ∙ ap (held w) (sym (wrap-of t (int_max x y) (max_of t x y h k)))

  -- a lane that takes in a value
  pub takes_in : (op : UpdateOp) (a : ℕ) (x y : ℤ) → IsOf t x → IsOf t y → Holds op t w a x → Holds op t w (lane (lane_op op t) (modulus w) a (held w y)) (joins.joined op t x y)
  takes_in update.Add a x y h k e = low_sum t w a (held w y) wide ∙ ap₂ (λ m n. (m + n) % 2 ^ bits_of t) e (low_held t w y wide) ∙ low_joined t x y
  takes_in update.And a x y h k e = ap (λ m. bit_and m (held w y)) e ∙ and-held w x y ∙ sym (and-kept w t x y h k)
  takes_in update.Or a x y h k e = ap (λ m. bit_or m (held w y)) e ∙ or-held w x y ∙ sym (or-kept w t x y h k)
  takes_in update.Xor a x y h k e = ap (λ m. bit_xor m (held w y)) e ∙ xor-held w x y ∙ sym (xor-kept w t x y h k)
  takes_in update.Min a x y h k e = ap (λ m. lane (lane_op update.Min t) (modulus w) m (held w y)) e ∙ least_of (is_signed t) refl x y h k
  takes_in update.Max a x y h k e = ap (λ m. lane (lane_op update.Max t) (modulus w) m (held w y)) e ∙ greatest_of (is_signed t) refl x y h k

  -- what an element keeps of a lane, the lane does
  kept_whole : (op : UpdateOp) (a : ℕ) (x : ℤ) → Holds op t w a x → Holds op t w (a % modulus w) x
  kept_whole update.Add a x e = through t w a wide ∙ e
  kept_whole update.And a x e = ap (λ m. m % modulus w) e ∙ held-whole w x
  kept_whole update.Or a x e = ap (λ m. m % modulus w) e ∙ held-whole w x
  kept_whole update.Xor a x e = ap (λ m. m % modulus w) e ∙ held-whole w x
  kept_whole update.Min a x e = ap (λ m. m % modulus w) e ∙ held-whole w x
  kept_whole update.Max a x e = ap (λ m. m % modulus w) e ∙ held-whole w x

-- ---- an update

update_does : (op : UpdateOp) (t : Ty) (w : Width) (s : State) (z m a : ℕ) → do_vector (stretch.word (update_name op t) (z ∷ a ∷ m ∷ size_of w ∷ [])) s ≡ put_lanes s z w (merge_at (lane_op op t) w (p_at s m) (z_at s z) (z_at s a))
update_does op t w s z m a = by op ∙ ap (λ k. put_lanes s z k (merge_at (lane_op op t) k (p_at s m) (z_at s z) (z_at s a))) (width-size w)
  where
    least : (sg : Bool) → do_vector (stretch.word (if sg then sve.m_smin else sve.m_umin) (z ∷ a ∷ m ∷ size_of w ∷ [])) s ≡ put_lanes s z (width_of_size (size_of w)) (merge_at (if sg then lane_ops.SMin else lane_ops.UMin) (width_of_size (size_of w)) (p_at s m) (z_at s z) (z_at s a))
    least true = refl
    least false = refl

    greatest : (sg : Bool) → do_vector (stretch.word (if sg then sve.m_smax else sve.m_umax) (z ∷ a ∷ m ∷ size_of w ∷ [])) s ≡ put_lanes s z (width_of_size (size_of w)) (merge_at (if sg then lane_ops.SMax else lane_ops.UMax) (width_of_size (size_of w)) (p_at s m) (z_at s z) (z_at s a))
    greatest true = refl
    greatest false = refl

    by : (op : UpdateOp) → do_vector (stretch.word (update_name op t) (z ∷ a ∷ m ∷ size_of w ∷ [])) s ≡ put_lanes s z (width_of_size (size_of w)) (merge_at (lane_op op t) (width_of_size (size_of w)) (p_at s m) (z_at s z) (z_at s a))
    by update.Add = refl
    by update.And = refl
    by update.Or = refl
    by update.Xor = refl
    by update.Min = least (is_signed t)
    by update.Max = greatest (is_signed t)

one_lane : (op : UpdateOp) (t : Ty) (w : Width) → bits_of t ≤ width_bits w → (c b : Bool) → c ≡ b → (x y : ℕ) (v u : ℤ) → IsOf t v × IsOf t u × (b ≡ true → y ≡ held w u) → Holds op t w x v → Holds op t w (cond c (lane (lane_op op t) (modulus w) x y) x) (cond b (joins.joined op t v u) v)
one_lane op t w wide true true e x y v u given h = subst (λ k. Holds op t w (lane (lane_op op t) (modulus w) x k) (joins.joined op t v u)) (sym (given.2 refl)) (takes_in t w wide op x v u given.0 given.1 h)
one_lane op t w wide true false e x y v u given h = absurd cc
one_lane op t w wide false true e x y v u given h = absurd cc
one_lane op t w wide false false e x y v u given h = h

pub update_taken : UpdateIsTaken
update_taken op t w s z m a on taken value h lt wide mask holds given =
    let n = lanes s.vl w in
    let f = merge_at (lane_op op t) w (p_at s m) (z_at s z) (z_at s a) in
    let bytes = register (width_bytes w) f n in
    let new = λ (e : ℕ). cond (on e) (joins.joined op t (taken e) (value e)) (taken e) in
    let inside : (e : ℕ) → e < n → Holds op t w (f e) (new e) = λ e el. one_lane op t w wide (active w (p_at s m) e) (on e) (mask e el) (at w (z_at s z) e) (at w (z_at s a) e) (taken e) (value e) (given e el) (holds e el) in
    record {
      end = next (with_z s z bytes);
      runs = ap (λ o. and_then o (do_all [])) (update_does op t w s z m a);
      is = lanes_put s _ z w f h refl;
      only = only_z z s bytes;
      holds = λ e el. subst (λ x. Holds op t w x (new e)) (sym (ap (λ r. at w r e) (get_or-set_same s.z z bytes [] (omega (arith, h.z_count, lt))) ∙ at-register w f n e el)) (kept_whole t w wide op (f e) (new e) (inside e el));
    }

-- ---- the start

held_start : (op : UpdateOp) (t : Ty) (w : Width) (a : ℕ) → bits_of t ≤ width_bits w → a ≡ held w (joins.identity op t) → Holds op t w a (joins.identity op t)
held_start update.Add t w a wide e = ap (λ n. n % 2 ^ bits_of t) e ∙ low_held t w (joins.identity update.Add t) wide
held_start other t w a wide e = e

pub start_identity : StartIsIdentity
start_identity op t w s z x h lz lx wide e =
    let m = dup_z w z x (joins.identity op t) h lz lx e in
    record { end = m.end; runs = m.runs; is = m.is; only = m.only; holds = λ i lt. held_start op t w (at w (z_at m.end z) i) wide (m.right i lt) }
