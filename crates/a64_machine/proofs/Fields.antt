-- Laws of fields of bits.
use Rattle.std.proofs.Common.{◌≡◌, ℕ, zero, suc, ◌+◌, ◌-◌, ◌*◌, ◌/◌, ◌%◌, ◌^◌, ◌<◌, ◌≤◌, arith, sym, ◌∙◌, ap, bit_and, mod-eq_of_lt, add-mul, one-mul, mul-lt-mul_of_pos_right, nat_le, false, if◌then◌else◌}
use Rattle.std.proofs.lemmas.Bool.Decides.{nat_tests}
use Rattle.machine_model.specs.Arithmetic.{field_taken, field_width, field_place, unsigned_field}
use Rattle.std.proofs.lemmas.Nat.{pow_pos, pow-add, div-mul-add, and_mask}
use Rattle.std.proofs.Math.Pow.{pow_mono}

product_of_one_more : (m q : ℕ) → (m + 1) * q ≡ m * q + q
product_of_one_more m q = add-mul m 1 q ∙ ap (λ x. m * q + x) (one-mul q)

-- an immediate of 16 bits at a multiple of 16 bits fits 64 bits
pub moved_fits : (hw imm : ℕ) → hw < 4 → imm < 2 ^ 16 → imm * 2 ^ (16 * hw) % 2 ^ 64 ≡ imm * 2 ^ (16 * hw)
moved_fits zero imm h i = omega arith
moved_fits (suc zero) imm h i = omega arith
moved_fits (suc (suc zero)) imm h i = omega arith
moved_fits (suc (suc (suc zero))) imm h i = omega arith
moved_fits (suc (suc (suc (suc k)))) imm h i = absurd (omega arith)

top_over : (n m q : ℕ) → zero < q → n ≡ m * q + q → (n - 1) / q ≡ m
top_over n m q pos e = let f : n - 1 ≡ m * q + (q - 1) = omega arith in ap (λ x. x / q) f ∙ div-mul-add m q (q - 1) (omega arith)

-- all ones of 64 bits, of which so many at the top are dropped
pub ones_of_width : (w k : ℕ) → w + k ≡ 64 → (2 ^ 64 - 1) / 2 ^ k + 1 ≡ 2 ^ w
ones_of_width w k e =
    let whole : 2 ^ 64 ≡ 2 ^ w * 2 ^ k = ap (λ n. 2 ^ n) (sym e) ∙ pow-add 2 w k in
    let some : zero < 2 ^ w = pow_pos w in
    let again : 2 ^ w - 1 + 1 ≡ 2 ^ w = omega arith in
    let parts : 2 ^ w * 2 ^ k ≡ (2 ^ w - 1) * 2 ^ k + 2 ^ k = ap (λ x. x * 2 ^ k) (sym again) ∙ product_of_one_more (2 ^ w - 1) (2 ^ k) in
    ap (λ x. x + 1) (top_over (2 ^ 64) (2 ^ w - 1) (2 ^ k) (pow_pos k) (whole ∙ parts)) ∙ again

-- the ones of so many bits are a mask
pub bit_and_ones : (v ones w : ℕ) → ones + 1 ≡ 2 ^ w → bit_and v ones ≡ v % 2 ^ w
bit_and_ones v ones w e = let f : ones ≡ 2 ^ w - 1 = omega arith in ap (bit_and v) f ∙ and_mask v w

-- a field that is moved up within 64 bits fits them
pub moved_up : (v w k : ℕ) → v < 2 ^ w → w + k ≤ 64 → v * 2 ^ k % 2 ^ 64 ≡ v * 2 ^ k
moved_up v w k h room =
    let low : v * 2 ^ k < 2 ^ w * 2 ^ k = mul-lt-mul_of_pos_right h (pow_pos k) in
    let e : 2 ^ (w + k) ≡ 2 ^ w * 2 ^ k = pow-add 2 w k in
    let high : 2 ^ (w + k) ≤ 2 ^ 64 = pow_mono room in
    mod-eq_of_lt (omega arith)

-- where the field goes up, its number is the moved one
pub unsigned-up : (v taken immr imms : ℕ) → imms < immr → immr < 64 → taken ≡ field_taken v immr imms → taken < 2 ^ field_width immr imms
    → taken * 2 ^ (64 - immr) % 2 ^ 64 ≡ unsigned_field v immr imms
unsigned-up v taken immr imms up room e fits =
    let no : nat_le immr imms ≡ false = grind (arith, nat_tests) in
    let width : field_width immr imms ≡ imms + 1 = ap (λ b. if b then imms + 1 - immr else imms + 1) no in
    let place : field_place immr imms ≡ 64 - immr = ap (λ b. if b then 0 else 64 - immr) no in
    let small : taken < 2 ^ (imms + 1) = rw width at fits in
    moved_up taken (imms + 1) (64 - immr) small (omega arith) ∙ ap (λ x. x * 2 ^ (64 - immr)) e ∙ ap (λ k. field_taken v immr imms * 2 ^ k) (sym place)
