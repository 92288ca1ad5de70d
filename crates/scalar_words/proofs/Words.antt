-- What the instructions compute, in terms of integers and types.
use Rattle.std.proofs.Common.{◌≡◌, ℕ, ◌-◌, ◌*◌, ◌/◌, ◌%◌, ◌^◌, ◌<◌, ◌≤◌, Bool, true, false, refl, ap, ◌∙◌, arith, ltb}
use Rattle.std.specs.Prelude.{ℤ, pos, negsuc, if◌then◌else◌}
use Rattle.std.specs.Int.{w8, w16, w32, w64, cast_signed}
use Rattle.std.proofs.lemmas.Bool.{ltb-false, ltb-true}
use Rattle.std.proofs.Math.Nat.{mod-eq_of_lt}
use Rattle.kernel_tree.specs.declared.ops.Ty.{Ty}
use Rattle.kernel_tree.specs.Wrap.{wrap, residue, bits_of, is_signed}
use Rattle.kernel_meaning.specs.Operators.{word}
use Rattle.kernel_meaning.proofs.Residues.{word-below, residue-16, residue-32, residue-8}
use Rattle.kernel_meaning.specs.TypeValues.{IsOf}
use Rattle.kernel_meaning.proofs.TypeRanges.{InBits, in_bits, widened}
use Rattle.machine_model.specs.Arithmetic.{signed_field, unsigned_field, extended_word}
use Rattle.kernel_tree.specs.declared.ops.Ty.TheVariants as ty

-- a value of 64 bits, by whether it is of a signed type
abbrev pub InRange : Bool → ℤ → Type 0
InRange signed v = InBits signed 64 v

bits-few : (t : Ty) → bits_of t ≤ 64
bits-few ty.I8 = omega arith
bits-few other = omega arith

pub in_range : (t : Ty) (v : ℤ) → IsOf t v → InRange (is_signed t) v
in_range t v h = widened (is_signed t) (bits_of t) 64 v (bits-few t) (in_bits t v h)

-- the low bits of a word, extended by their type
abbrev pub extended : Ty → ℕ → ℕ
extended t n = if is_signed t then signed_field n 0 (bits_of t - 1) else unsigned_field n 0 (bits_of t - 1)

-- ---- extension is wrapping

pub residue-64 : (z : ℤ) → residue 64 z ≡ word z % 2 ^ 64
residue-64 (pos n) = omega arith
residue-64 (negsuc n) = omega arith

-- a number of k bits, read as signed, as a word
signed_by_8 : (b : Bool) (m : ℕ) → ltb m (2 ^ 7) ≡ b → m < 2 ^ 8 → extended_word 8 m * 1 % 2 ^ 64 ≡ word (cast_signed w8 m)
signed_by_8 true m e h = rw e (omega (arith, ltb-true m (2 ^ 7) e))
signed_by_8 false m e h = rw e (omega (arith, ltb-false m (2 ^ 7) e, h))

signed_by_16 : (b : Bool) (m : ℕ) → ltb m (2 ^ 15) ≡ b → m < 2 ^ 16 → extended_word 16 m * 1 % 2 ^ 64 ≡ word (cast_signed w16 m)
signed_by_16 true m e h = rw e (omega (arith, ltb-true m (2 ^ 15) e))
signed_by_16 false m e h = rw e (omega (arith, ltb-false m (2 ^ 15) e, h))

signed_by_32 : (b : Bool) (m : ℕ) → ltb m (2 ^ 31) ≡ b → m < 2 ^ 32 → extended_word 32 m * 1 % 2 ^ 64 ≡ word (cast_signed w32 m)
signed_by_32 true m e h = rw e (omega (arith, ltb-true m (2 ^ 31) e))
signed_by_32 false m e h = rw e (omega (arith, ltb-false m (2 ^ 31) e, h))

signed_by_64 : (b : Bool) (m : ℕ) → ltb m (2 ^ 63) ≡ b → m < 2 ^ 64 → extended_word 64 m * 1 % 2 ^ 64 ≡ word (cast_signed w64 m)
signed_by_64 true m e h = rw e (omega (arith, ltb-true m (2 ^ 63) e))
signed_by_64 false m e h = rw e (omega (arith, ltb-false m (2 ^ 63) e, h))

pub extended-wrap : (t : Ty) (z : ℤ) → extended t (word z) ≡ word (wrap t z)
extended-wrap ty.U8 z = omega (arith, residue-8 z)
extended-wrap ty.U16 z = omega (arith, residue-16 z)
extended-wrap ty.U32 z = omega (arith, residue-32 z)
extended-wrap ty.U64 z = omega (arith, word-below z)
extended-wrap ty.I8 z =
    let m = word z / 2 ^ 0 % 2 ^ 8 in
    let e : m ≡ residue 8 z = omega (arith, residue-8 z) in
    signed_by_8 (ltb m (2 ^ 7)) m refl (omega arith) ∙ ap (λ n. word (cast_signed w8 n)) e
extended-wrap ty.I16 z =
    let m = word z / 2 ^ 0 % 2 ^ 16 in
    let e : m ≡ residue 16 z = omega (arith, residue-16 z) in
    signed_by_16 (ltb m (2 ^ 15)) m refl (omega arith) ∙ ap (λ n. word (cast_signed w16 n)) e
extended-wrap ty.I32 z =
    let m = word z / 2 ^ 0 % 2 ^ 32 in
    let e : m ≡ residue 32 z = omega (arith, residue-32 z) in
    signed_by_32 (ltb m (2 ^ 31)) m refl (omega arith) ∙ ap (λ n. word (cast_signed w32 n)) e
extended-wrap ty.I64 z =
    let m = word z / 2 ^ 0 % 2 ^ 64 in
    let e : m ≡ residue 64 z = omega (arith, word-below z) in
    signed_by_64 (ltb m (2 ^ 63)) m refl (omega arith) ∙ ap (λ n. word (cast_signed w64 n)) e

pub signed_64 : (b : Bool) (n : ℕ) → ltb n (2 ^ 63) ≡ b → n < 2 ^ 64 → n ≡ word (wrap ty.I64 (pos n))
signed_64 true n e h = let q : n % 2 ^ 64 ≡ n = mod-eq_of_lt h in rw (q, e) (omega (arith, ltb-true n (2 ^ 63) e))
signed_64 false n e h = let q : n % 2 ^ 64 ≡ n = mod-eq_of_lt h in rw (q, e) (omega (arith, ltb-false n (2 ^ 63) e, h))
