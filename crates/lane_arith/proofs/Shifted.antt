-- Shifts and extensions of one vector, lane by lane.
use Rattle.std.proofs.Common.{◌≡◌, ℕ, ◌+◌, ◌-◌, ◌/◌, ◌%◌, ◌^◌, ◌<◌, ◌≤◌, cond, ltb, List, sym, ap, ◌∙◌, subst, arith, bit_and}
use Rattle.std.proofs.lemmas.Bool.{cond_both}
use Rattle.std.proofs.lemmas.Nat.{and_mask, pow-add, le-div}
use Rattle.std.proofs.Math.Nat.{mod-lt, mod-eq_of_lt, div-div-eq-div-mul, div-mul-le_self, pow-le-pow_right, one-le-pow}
use Rattle.guest_types.specs.declared.length.Width.{Width}
use Rattle.guest_types.specs.declared.operation.ShiftOp.{ShiftOp}
use Rattle.guest_types.specs.declared.operation.ShiftOp.TheVariants.{Asr}
use Rattle.guest_types.specs.declared.operation.LaneUnary.{LaneUnary}
use Rattle.guest_types.specs.declared.operation.LaneUnary.TheVariants.{Abs, Neg, Not, SxtB, UxtB, SxtH, UxtH, SxtW, UxtW}
use Rattle.guest_types.specs.Length.{width_bits, modulus}
use Rattle.guest_types.specs.Lanes.{sign_extended, unary, source_bits, shifted, shift_at}
use Rattle.guest_types.proofs.Shifts.{modulus-power, ones-above}
use Rattle.guest_types.proofs.Widths.{modulus_pos}
use Rattle.lane_blocks.proofs.Lanes.{IsLanes}
use Rattle.lane_arith.specs.Blocks.{unary_at}

pub by-shift : {n : ℕ} {xs : List ℕ} {op known : ShiftOp} (w : Width) (a : List ℕ) (count : ℕ) → op ≡ known → IsLanes n (shift_at known w a count) xs → IsLanes n (shift_at op w a count) xs
by-shift {n} {xs} w a count is h = subst (λ o. IsLanes n (shift_at o w a count) xs) (sym is) h

pub by-unary : {n : ℕ} {xs : List ℕ} {op known : LaneUnary} (w : Width) (a : List ℕ) → op ≡ known → IsLanes n (unary_at known w a) xs → IsLanes n (unary_at op w a) xs
by-unary {n} {xs} w a is h = subst (λ o. IsLanes n (unary_at o w a) xs) (sym is) h

-- ---- shifts

-- a shift down in two steps
pub two-steps : (x c : ℕ) → 1 ≤ c → x / 2 ^ (c - 1) / 2 ^ 1 ≡ x / 2 ^ c
two-steps x c some =
    let whole : c - 1 + 1 ≡ c = omega arith in
    div-div-eq-div-mul x (2 ^ (c - 1)) (2 ^ 1) ∙ ap (λ n. x / n) (sym (pow-add 2 (c - 1) 1) ∙ ap (λ n. 2 ^ n) whole)

-- a shift down that fills with the top bit
pub shifted_with_fill : (w : Width) (x c top low fill : ℕ) → x < modulus w → top + 1 ≡ modulus w → 1 ≤ c → c ≤ width_bits w → low ≡ top / 2 ^ c → fill ≡ top - low
    → (x / 2 ^ (c - 1) / 2 ^ 1 + cond (ltb x (modulus w / 2)) 0 fill) % modulus w ≡ shifted Asr (modulus w) x c
shifted_with_fill w x c top low fill inside is_top some short is_low is_fill =
    let ones = ones-above w c top short is_top in
    let made : fill ≡ modulus w - modulus w / 2 ^ c = is_fill ∙ ap (λ n. top - n) is_low ∙ ones.1 in
    let some_power : 0 < 2 ^ c = omega (arith, one-le-pow c 2 (omega arith)) in
    let below : x / 2 ^ c ≤ top / 2 ^ c = le-div (x / 2 ^ c) top (2 ^ c) some_power (omega (arith, div-mul-le_self x (2 ^ c))) in
    let least : top / 2 ^ c ≤ top = omega (arith, ones.0, ones.1, is_top) in
    let sum : ℕ = x / 2 ^ c + cond (ltb x (modulus w / 2)) 0 (modulus w - modulus w / 2 ^ c) in
    ap (λ n. (n + cond (ltb x (modulus w / 2)) 0 fill) % modulus w) (two-steps x c some)
    ∙ ap (λ n. (x / 2 ^ c + cond (ltb x (modulus w / 2)) 0 n) % modulus w) made
    ∙ mod-eq_of_lt (
    cond_both (ltb x (modulus w / 2)) 0 (modulus w - modulus w / 2 ^ c) (λ n. x / 2 ^ c + n < modulus w)
    (λ _. omega (arith, below, least, is_top))
    (λ _. omega (arith, below, ones.0, is_top)))

-- ---- extensions

-- the lowest k bits with the sign that the highest of them gives
pub signed : (k m x : ℕ) → 1 ≤ k → 2 ^ k ≤ m
    → cond (ltb (bit_and x (2 ^ k - 1)) (2 ^ k / 2)) (bit_and x (2 ^ k - 1)) ((bit_and x (2 ^ k - 1) + (m - 2 ^ k)) % m) ≡ sign_extended (2 ^ k) m x
signed k m x some fits =
    let low = x % 2 ^ k in
    let up : 2 ^ 0 ≤ 2 ^ k = pow-le-pow_right {n = 2} (omega arith) {i = 0} {j = k} (omega arith) in
    let inside : low < 2 ^ k = mod-lt x (omega (arith, up)) in
    ap (λ n. cond (ltb n (2 ^ k / 2)) n ((n + (m - 2 ^ k)) % m)) (and_mask x k)
    ∙ ap (cond (ltb low (2 ^ k / 2)) low) (mod-eq_of_lt (let under : low + (m - 2 ^ k) < m = omega arith in under))

sign-below : (k m x : ℕ) → 2 ^ k ≤ m → sign_extended (2 ^ k) m x < m
sign-below k m x fits =
    let low = x % 2 ^ k in
    let up : 2 ^ 0 ≤ 2 ^ k = pow-le-pow_right {n = 2} (omega arith) {i = 0} {j = k} (omega arith) in
    let inside : low < 2 ^ k = mod-lt x (omega (arith, up)) in
    cond_both (ltb low (2 ^ k / 2)) low (low + (m - 2 ^ k)) (λ n. n < m) (λ _. omega arith) (λ _. omega arith)

power-fits : (k : ℕ) (w : Width) → k < width_bits w → 2 ^ k ≤ modulus w
power-fits k w h = subst (λ m. 2 ^ k ≤ m) (sym (modulus-power w)) (pow-le-pow_right {n = 2} (omega arith) {i = k} {j = width_bits w} (omega arith))

rest-below : (k m x : ℕ) → 2 ^ k ≤ m → x % 2 ^ k < m
rest-below k m x fits =
    let up : 2 ^ 0 ≤ 2 ^ k = pow-le-pow_right {n = 2} (omega arith) {i = 0} {j = k} (omega arith) in
    let inside : x % 2 ^ k < 2 ^ k = mod-lt x (omega (arith, up)) in
    omega arith

pub unary-below : (op : LaneUnary) (w : Width) (x : ℕ) → source_bits op < width_bits w → x < modulus w → unary op (modulus w) x < modulus w
unary-below Abs w x h l = cond_both (ltb x (modulus w / 2)) x ((modulus w - x) % modulus w) (λ n. n < modulus w) (λ _. l) (λ _. mod-lt (modulus w - x) (modulus_pos w))
unary-below Neg w x h l = mod-lt (modulus w - x) (modulus_pos w)
unary-below Not w x h l = omega (arith, modulus_pos w)
unary-below SxtB w x h l = sign-below 8 (modulus w) x (power-fits 8 w h)
unary-below UxtB w x h l = rest-below 8 (modulus w) x (power-fits 8 w h)
unary-below SxtH w x h l = sign-below 16 (modulus w) x (power-fits 16 w h)
unary-below UxtH w x h l = rest-below 16 (modulus w) x (power-fits 16 w h)
unary-below SxtW w x h l = sign-below 32 (modulus w) x (power-fits 32 w h)
unary-below UxtW w x h l = rest-below 32 (modulus w) x (power-fits 32 w h)
