-- What the words of shifts do.
use Rattle.std.proofs.Common.{◌≡◌, ℕ, ◌+◌, ◌-◌, ◌*◌, ◌/◌, ◌%◌, ◌<◌, ◌≤◌, true, false, refl, ap, ◌∙◌, arith}
use Rattle.std.specs.Prelude.{nat_lt}
use Rattle.std.proofs.lemmas.Bool.{lt-ltb, le-ltb}
use Rattle.guest_types.specs.declared.length.Width.{Width}
use Rattle.guest_types.specs.declared.length.Width.TheVariants.{B, H, S, D}
use Rattle.guest_types.specs.declared.operation.ShiftOp.{ShiftOp}
use Rattle.guest_types.specs.declared.operation.ShiftOp.TheVariants as shifts
use Rattle.guest_types.specs.Length.{width_bits}
use Rattle.guest_types.specs.Lanes.{shift_at}
use Rattle.guest_types.specs.LaneMemory.{width_of_size}
use Rattle.guest_types.proofs.Numbers.{split_at_3_and_5}
use Rattle.machine_model.specs.Machine.{State, Step, z_at}
use Rattle.machine_model.specs.VectorEffects.{do_vector, put_lanes}
use Rattle.sve_code.specs.Table.{lsl_imm, lsr_imm, asr_imm}
use Rattle.sve_code.specs.Numbers.{shift_size, left_amount, right_amount, element_width}
use Rattle.lane_emit.specs.LaneCode.{size_of, shift_word}
use Rattle.lane_emit.proofs.Stretches.{width-size}

-- the width that the amount of a shift names
size_is : (w : Width) (v : ℕ) → width_bits w ≤ v → v < 2 * width_bits w → shift_size v ≡ size_of w
size_is B v le lt = let e1 : nat_lt v 16 ≡ true = lt-ltb v 16 (omega (arith, lt)) in rw e1 refl
size_is H v le lt = let e1 : nat_lt v 16 ≡ false = le-ltb v 16 (omega (arith, le)) in let e2 : nat_lt v 32 ≡ true = lt-ltb v 32 (omega (arith, lt)) in rw (e1, e2) refl
size_is S v le lt =
    let e1 : nat_lt v 16 ≡ false = le-ltb v 16 (omega (arith, le)) in
    let e2 : nat_lt v 32 ≡ false = le-ltb v 32 (omega (arith, le)) in
    let e3 : nat_lt v 64 ≡ true = lt-ltb v 64 (omega (arith, lt)) in
    rw (e1, e2, e3) refl
size_is D v le lt =
    let e1 : nat_lt v 16 ≡ false = le-ltb v 16 (omega (arith, le)) in
    let e2 : nat_lt v 32 ≡ false = le-ltb v 32 (omega (arith, le)) in
    let e3 : nat_lt v 64 ≡ false = le-ltb v 64 (omega (arith, le)) in
    rw (e1, e2, e3) refl

element_bits : (w : Width) → element_width (size_of w) ≡ width_bits w
element_bits B = refl
element_bits other = refl

module _ (s : State) (d a : ℕ) (op : ShiftOp) where
  -- a shift of elements whose size has this number
  abbrev sized_shift : (size count : ℕ) → Step
  sized_shift size count = put_lanes s d (width_of_size size) (shift_at op (width_of_size size) (z_at s a) count)

  sized_at : (w : Width) (size count c : ℕ) → size ≡ size_of w → count ≡ c → sized_shift size count ≡ put_lanes s d w (shift_at op w (z_at s a) c)
  sized_at w size count c e f =
      ap (λ n. sized_shift n count) e ∙ ap (λ k. put_lanes s d k (shift_at op k (z_at s a) count)) (width-size w) ∙ ap (λ n. put_lanes s d w (shift_at op w (z_at s a) n)) f

  left_at : (w : Width) (v c : ℕ) → v ≡ width_bits w + c → c < width_bits w → sized_shift (shift_size v) (left_amount v) ≡ put_lanes s d w (shift_at op w (z_at s a) c)
  left_at w v c e short =
      let size : shift_size v ≡ size_of w = size_is w v (omega (arith, e)) (omega (arith, e, short)) in
      sized_at w (shift_size v) (left_amount v) c size (ap (λ n. v - element_width n) size ∙ ap (λ n. v - n) (element_bits w) ∙ omega (arith, e))

  right_at : (w : Width) (v c : ℕ) → v ≡ 2 * width_bits w - c → 1 ≤ c → c < width_bits w → sized_shift (shift_size v) (right_amount v) ≡ put_lanes s d w (shift_at op w (z_at s a) c)
  right_at w v c e some short =
      let size : shift_size v ≡ size_of w = size_is w v (omega (arith, e, short)) (omega (arith, e, some, short)) in
      sized_at w (shift_size v) (right_amount v) c size (ap (λ n. 2 * element_width n - v) size ∙ ap (λ n. 2 * n - v) (element_bits w) ∙ omega (arith, e, short))

pub lsl_does : (s : State) (d a : ℕ) (w : Width) (c : ℕ) → c < width_bits w → do_vector (shift_word lsl_imm d a (width_bits w + c)) s ≡ put_lanes s d w (shift_at shifts.Lsl w (z_at s a) c)
lsl_does s d a w c short = let v = width_bits w + c in left_at s d a shifts.Lsl w (32 * (v / 32) + 8 * (v / 8 % 4) + v % 8) c (split_at_3_and_5 v) short

pub lsr_does : (s : State) (d a : ℕ) (w : Width) (c : ℕ) → 1 ≤ c → c < width_bits w → do_vector (shift_word lsr_imm d a (2 * width_bits w - c)) s ≡ put_lanes s d w (shift_at shifts.Lsr w (z_at s a) c)
lsr_does s d a w c some short = let v = 2 * width_bits w - c in right_at s d a shifts.Lsr w (32 * (v / 32) + 8 * (v / 8 % 4) + v % 8) c (split_at_3_and_5 v) some short

pub asr_does : (s : State) (d a : ℕ) (w : Width) (c : ℕ) → 1 ≤ c → c < width_bits w → do_vector (shift_word asr_imm d a (2 * width_bits w - c)) s ≡ put_lanes s d w (shift_at shifts.Asr w (z_at s a) c)
asr_does s d a w c some short = let v = 2 * width_bits w - c in right_at s d a shifts.Asr w (32 * (v / 32) + 8 * (v / 8 % 4) + v % 8) c (split_at_3_and_5 v) some short
