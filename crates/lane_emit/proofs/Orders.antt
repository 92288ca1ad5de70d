-- The order of two values is that of the elements that hold them: of the biased ones where the type is signed.
use Rattle.std.proofs.Common.{◌≡◌, ℕ, ◌+◌, ◌-◌, ◌/◌, ◌%◌, ◌^◌, ◌<◌, ◌≤◌, ℤ, pos, negsuc, Bool, true, false, not, ◌&&◌, refl, sym, ap, ap₂, ◌∙◌, arith, cond, ltb, leb, eqb, int_lt, int_le, min, max, inl, inr, ⊎_elim}
use Rattle.std.specs.Int.{int_min, int_max}
use Rattle.std.proofs.lemmas.Int.{ints}
use Rattle.std.proofs.lemmas.Bool.{true≢false, cases_lt, cases_eq, lt-ltb, le-ltb, le-leb, lt-leb, eq-eqb, ne_eqb, ltb-true, ltb-false}
use Rattle.std.proofs.lemmas.Bool.Decides.{nat_tests}
use Rattle.guest_types.specs.declared.length.Width.{Width}
use Rattle.guest_types.specs.declared.length.Width.TheVariants.{B}
use Rattle.guest_types.specs.declared.operation.LaneOp.TheVariants as lane_ops
use Rattle.guest_types.specs.declared.operation.LaneCompare.TheVariants as compares
use Rattle.guest_types.specs.Length.{width_bits, modulus}
use Rattle.guest_types.specs.Lanes.{lane, biased, signed_lt, is_true}
use Rattle.kernel_tree.specs.declared.ops.CompareOp.TheVariants as compare
use Rattle.kernel_meaning.specs.Operators.{compare_on}
use Rattle.lane_emit.proofs.Ranges.{InBits}
use Rattle.lane_emit.proofs.Residues.{held, held-up, held-down, held-plain, halves}

-- ---- biased elements

bias_up : (w : Width) (n : ℕ) → n < 2 ^ (width_bits w - 1) → (n + modulus w / 2) % modulus w ≡ n + 2 ^ (width_bits w - 1)
bias_up B n h = omega (arith, h)
bias_up other n h = omega (arith, h)

bias_down : (w : Width) (n : ℕ) → n < 2 ^ (width_bits w - 1) → (modulus w - 1 - n + modulus w / 2) % modulus w ≡ 2 ^ (width_bits w - 1) - 1 - n
bias_down B n h = omega (arith, h)
bias_down other n h = omega (arith, h)

-- the place of a value in the order of its elements
abbrev place : ℕ → ℤ → ℕ
place h (pos n) = n + h
place h (negsuc n) = h - 1 - n

biased-held : (w : Width) (x : ℤ) → InBits true (width_bits w) x → biased (modulus w) (held w x) ≡ place (2 ^ (width_bits w - 1)) x
biased-held w (pos n) h = ap (λ a. (a + modulus w / 2) % modulus w) (held-up w n h) ∙ bias_up w n h
biased-held w (negsuc n) h = ap (λ a. (a + modulus w / 2) % modulus w) (held-down w n h) ∙ bias_down w n h

less_placed : (k : ℕ) (x y : ℤ) → InBits true k x → InBits true k y → ltb (place (2 ^ (k - 1)) x) (place (2 ^ (k - 1)) y) ≡ int_lt x y
less_placed k (pos a) (pos b) h i = grind (arith, nat_tests)
less_placed k (pos a) (negsuc b) h i = le-ltb _ _ (omega (arith, h, i))
less_placed k (negsuc a) (pos b) h i = lt-ltb _ _ (omega (arith, h, i))
less_placed k (negsuc a) (negsuc b) h i =
    ⊎_elim
    (λ (lt : b < a). lt-ltb _ _ (omega (arith, h, i, lt)) ∙ sym (lt-ltb b a lt))
    (λ (ge : a ≤ b). le-ltb _ _ (omega (arith, h, i, ge)) ∙ sym (le-ltb b a ge))
    (cases_lt b a)

upto_placed : (k : ℕ) (x y : ℤ) → InBits true k x → InBits true k y → leb (place (2 ^ (k - 1)) x) (place (2 ^ (k - 1)) y) ≡ int_le x y
upto_placed k (pos a) (pos b) h i = grind (arith, nat_tests)
upto_placed k (pos a) (negsuc b) h i = lt-leb _ _ (omega (arith, h, i))
upto_placed k (negsuc a) (pos b) h i = le-leb _ _ (omega (arith, h, i))
upto_placed k (negsuc a) (negsuc b) h i =
    ⊎_elim
    (λ (lt : a < b). lt-leb _ _ (omega (arith, h, i, lt)) ∙ sym (lt-leb b a lt))
    (λ (ge : b ≤ a). le-leb _ _ (omega (arith, h, i, ge)) ∙ sym (le-leb b a ge))
    (cases_lt a b)

signed_less : (w : Width) (x y : ℤ) → InBits true (width_bits w) x → InBits true (width_bits w) y → signed_lt (modulus w) (held w x) (held w y) ≡ int_lt x y
signed_less w x y h i = ap₂ ltb (biased-held w x h) (biased-held w y i) ∙ less_placed (width_bits w) x y h i

signed_upto : (w : Width) (x y : ℤ) → InBits true (width_bits w) x → InBits true (width_bits w) y → leb (biased (modulus w) (held w x)) (biased (modulus w) (held w y)) ≡ int_le x y
signed_upto w x y h i = ap₂ leb (biased-held w x h) (biased-held w y i) ∙ upto_placed (width_bits w) x y h i

unsigned_less : (w : Width) (x y : ℤ) → InBits false (width_bits w) x → InBits false (width_bits w) y → ltb (held w x) (held w y) ≡ int_lt x y
unsigned_less w (pos a) (pos b) h i = ap₂ ltb (held-plain w a h) (held-plain w b i)
unsigned_less w (pos a) (negsuc b) h i = absurd i
unsigned_less w (negsuc a) y h i = absurd h

unsigned_upto : (w : Width) (x y : ℤ) → InBits false (width_bits w) x → InBits false (width_bits w) y → leb (held w x) (held w y) ≡ int_le x y
unsigned_upto w (pos a) (pos b) h i = ap₂ leb (held-plain w a h) (held-plain w b i)
unsigned_upto w (pos a) (negsuc b) h i = absurd i
unsigned_upto w (negsuc a) y h i = absurd h

-- ---- equality

both_ways : (a b : ℕ) → eqb a b ≡ (leb a b && leb b a)
both_ways a b = grind (arith, nat_tests)

signed_equal : (w : Width) (x y : ℤ) → InBits true (width_bits w) x → InBits true (width_bits w) y → eqb (held w x) (held w y) ≡ (int_le x y && int_le y x)
signed_equal w (pos a) (pos b) h i = ap₂ eqb (held-up w a h) (held-up w b i) ∙ both_ways a b
signed_equal w (pos a) (negsuc b) h i = ap₂ eqb (held-up w a h) (held-down w b i) ∙ ne_eqb _ _ (λ e. absurd (omega (arith, halves w, h, i, e)))
signed_equal w (negsuc a) (pos b) h i = ap₂ eqb (held-down w a h) (held-up w b i) ∙ ne_eqb _ _ (λ e. absurd (omega (arith, halves w, h, i, e)))
signed_equal w (negsuc a) (negsuc b) h i =
    ap₂ eqb (held-down w a h) (held-down w b i)
    ∙ elim (cases_eq a b) [
      | inl e ↦ eq-eqb _ _ (omega (arith, e)) ∙ sym (ap₂ (λ s t. s && t) (le-leb b a (omega (arith, e))) (le-leb a b (omega (arith, e))))
      | inr ne ↦ ne_eqb _ _ (λ e. ne (omega (arith, halves w, h, i, e))) ∙ sym (sym (both_ways b a) ∙ ne_eqb b a (λ e. ne (sym e)))
    ]

unsigned_equal : (w : Width) (x y : ℤ) → InBits false (width_bits w) x → InBits false (width_bits w) y → eqb (held w x) (held w y) ≡ (int_le x y && int_le y x)
unsigned_equal w (pos a) (pos b) h i = ap₂ eqb (held-plain w a h) (held-plain w b i) ∙ both_ways a b
unsigned_equal w (pos a) (negsuc b) h i = absurd i
unsigned_equal w (negsuc a) y h i = absurd h

pub equal-held : (sg : Bool) (w : Width) (x y : ℤ) → InBits sg (width_bits w) x → InBits sg (width_bits w) y → is_true compares.Eq (modulus w) (held w x) (held w y) ≡ compare_on compare.Eq x y
equal-held true w x y h i = signed_equal w x y h i
equal-held false w x y h i = unsigned_equal w x y h i

pub unequal-held : (sg : Bool) (w : Width) (x y : ℤ) → InBits sg (width_bits w) x → InBits sg (width_bits w) y → is_true compares.Ne (modulus w) (held w x) (held w y) ≡ compare_on compare.Ne x y
unequal-held sg w x y h i = ap not (equal-held sg w x y h i)

pub gt-held : (w : Width) (x y : ℤ) → InBits true (width_bits w) x → InBits true (width_bits w) y → is_true compares.Gt (modulus w) (held w x) (held w y) ≡ compare_on compare.Gt x y
gt-held w x y h i = signed_less w y x i h

pub ge-held : (w : Width) (x y : ℤ) → InBits true (width_bits w) x → InBits true (width_bits w) y → is_true compares.Ge (modulus w) (held w x) (held w y) ≡ compare_on compare.Ge x y
ge-held w x y h i = signed_upto w y x i h

pub hi-held : (w : Width) (x y : ℤ) → InBits false (width_bits w) x → InBits false (width_bits w) y → is_true compares.Hi (modulus w) (held w x) (held w y) ≡ compare_on compare.Gt x y
hi-held w x y h i = unsigned_less w y x i h

pub hs-held : (w : Width) (x y : ℤ) → InBits false (width_bits w) x → InBits false (width_bits w) y → is_true compares.Hs (modulus w) (held w x) (held w y) ≡ compare_on compare.Ge x y
hs-held w x y h i = unsigned_upto w y x i h

-- ---- the lesser and the greater one

neither_less : (w : Width) (x y : ℤ) → int_lt x y ≡ false → int_lt y x ≡ false → held w y ≡ held w x
neither_less w x y e f = ap (held w) (let same : y ≡ x = omega (arith, ints) in same)

less-turned : (x y : ℤ) → int_lt x y ≡ true → int_lt y x ≡ false
less-turned x y e = by (int_lt y x) refl
  where
    by : (b : Bool) → int_lt y x ≡ b → int_lt y x ≡ false
    by true f = absurd (omega (arith, ints))
    by false f = f

lesser : (w : Width) (x y : ℤ) (a b : Bool) → int_lt x y ≡ a → int_lt y x ≡ b → cond a (held w x) (held w y) ≡ held w (cond b y x)
lesser w x y true true e f = absurd (true≢false (sym f ∙ less-turned x y e))
lesser w x y true false e f = refl
lesser w x y false true e f = refl
lesser w x y false false e f = neither_less w x y e f

greater : (w : Width) (x y : ℤ) (a b : Bool) → int_lt x y ≡ a → int_lt y x ≡ b → cond a (held w y) (held w x) ≡ held w (cond b x y)
greater w x y true true e f = absurd (true≢false (sym f ∙ less-turned x y e))
greater w x y true false e f = refl
greater w x y false true e f = refl
greater w x y false false e f = sym (neither_less w x y e f)

pub smin-held : (w : Width) (x y : ℤ) → InBits true (width_bits w) x → InBits true (width_bits w) y → lane lane_ops.SMin (modulus w) (held w x) (held w y) ≡ held w (int_min x y)
smin-held w x y h i = ap (λ b. cond b (held w x) (held w y)) (signed_less w x y h i) ∙ lesser w x y (int_lt x y) (int_lt y x) refl refl

pub smax-held : (w : Width) (x y : ℤ) → InBits true (width_bits w) x → InBits true (width_bits w) y → lane lane_ops.SMax (modulus w) (held w x) (held w y) ≡ held w (int_max x y)
smax-held w x y h i = ap (λ b. cond b (held w y) (held w x)) (signed_less w x y h i) ∙ greater w x y (int_lt x y) (int_lt y x) refl refl

least_of : (a b : ℕ) (t : Bool) → ltb b a ≡ t → min a b ≡ cond t b a
least_of a b true e = let lt = ltb-true b a e in omega arith
least_of a b false e = let ge = ltb-false b a e in omega arith

greatest_of : (a b : ℕ) (t : Bool) → ltb b a ≡ t → max a b ≡ cond t a b
greatest_of a b true e = let lt = ltb-true b a e in omega arith
greatest_of a b false e = let ge = ltb-false b a e in omega arith

held-cond : (w : Width) (b : Bool) (x y : ℤ) → cond b (held w x) (held w y) ≡ held w (cond b x y)
held-cond w true x y = refl
held-cond w false x y = refl

pub umin-held : (w : Width) (x y : ℤ) → InBits false (width_bits w) x → InBits false (width_bits w) y → lane lane_ops.UMin (modulus w) (held w x) (held w y) ≡ held w (int_min x y)
umin-held w x y h i = least_of (held w x) (held w y) (int_lt y x) (unsigned_less w y x i h) ∙ held-cond w (int_lt y x) y x

pub umax-held : (w : Width) (x y : ℤ) → InBits false (width_bits w) x → InBits false (width_bits w) y → lane lane_ops.UMax (modulus w) (held w x) (held w y) ≡ held w (int_max x y)
umax-held w x y h i = greatest_of (held w x) (held w y) (int_lt y x) (unsigned_less w y x i h) ∙ held-cond w (int_lt y x) x y
