-- The forms of a row's texts, one for each value of what stands there only sometimes.
use Rattle.std.proofs.Common.{◌≡◌, ℕ, zero, suc, ◌+◌, ◌*◌, ◌/◌, ◌^◌, ◌<◌, ◌≤◌, List, [], ◌∷◌, ◌++◌, true, false, Some, refl, sym, ap, subst, ◌∙◌, arith, eqb, mul-zero}
use Rattle.std.specs.Prelude.{codes, nat_lt, nat_le, ◌==◌, if◌then◌else◌}
use Rattle.std.proofs.lemmas.Bool.{eqb-true}
use Rattle.std.proofs.lemmas.Bool.Decides.{nat_tests}
use Rattle.list_text.specs.Parts.{x_register, w_register, x_or_sp, w_or_sp, cond_name, size_letter, signed_constant, comma, z_register}
use Rattle.list_text.specs.A64Text as text
use Rattle.list_text.specs.SveText as sve
use Rattle.asm_forms.specs.Rules.{Factors, Quarter, LeftShift, RightShift, form_of}
use Rattle.asm_forms.specs.Reading.{candidate}
use Rattle.std.proofs.lemmas.List.{append-nil}
use Rattle.word_rows.specs.Field.{bits}
use Rattle.asm_forms.specs.Rules.{dot}
use Rattle.sve_code.specs.Numbers.{left_amount, right_amount}
use Rattle.sve_asm.proofs.Sums.{mod_below}
use Rattle.sve_asm.proofs.Words.{IsBlanked, by_test}
use Rattle.sve_asm.proofs.ByWords.{reads-none}
use Rattle.sve_asm.proofs.Pieces.{x-blanked, w-blanked, x_or_sp-blanked, w_or_sp-blanked, b-blanked, h-blanked, s-blanked, d-blanked}
use Rattle.sve_asm.proofs.Spelled.{is_mnemonic, spelled}
use Rattle.sve_asm.proofs.ScalarForms.{form_imm, form_imm_lsl, form_unshifted, form_shifted_lsl, form_shifted_lsr, form_shifted_asr, form_shifted_ror, form_wide, form_wide_lsl, form_branch, form_branch_back, form_branch_if, form_branch_if_back, form_compare, form_compare_back}
use Rattle.sve_asm.proofs.AccessForms.{form_no_offset, form_offset, form_index, form_index_lsl}
use Rattle.sve_asm.proofs.PredicateForms.{form_dup, form_series, form_series_back}
use Rattle.sve_asm.proofs.VectorForms.{form_left, form_right, form_reduce}

-- an immediate, where R is the text of the result
pub imm : (R : ℕ → List ℕ) → ((n : ℕ) → n < 32 → IsBlanked (R n) 120 n) → (m : List ℕ) (b0 b1 w a b n s : ℕ) → is_mnemonic m ≡ true
    → form_of m (codes " x, x, #0") ≡ Some (Factors (1 ∷ 32 ∷ 1024 ∷ []), b0) → form_of m (codes " x, x, #0, l #0") ≡ Some (Factors (1 ∷ 32 ∷ 1024 ∷ []), b1)
    → b1 ≡ b0 + 4194304 → a < 32 → b < 32 → n < 4096 → s < 2 → w < 2 ^ 32
    → b0 + a * 1 + b * 32 + n * 1024 + s * 4194304 ≡ w → candidate (text.add_sub_immediate (m ++ codes " ") R (a ∷ b ∷ n ∷ s ∷ [])) ≡ Some w
imm R is m b0 b1 w a b n zero h f g d ha hb hn hs hw e = form_imm R is m b0 w a b n h f ha hb hn hw (omega arith)
imm R is m b0 b1 w a b n (suc zero) h f g d ha hb hn hs hw e = form_imm_lsl R is m b1 w a b n h g ha hb hn hw (omega arith)
imm R is m b0 b1 w a b n (suc (suc s)) h f g d ha hb hn hs hw e = absurd (omega arith)

not_zero : (n : ℕ) → eqb (suc n) 0 ≡ false
not_zero n = grind (arith, nat_tests)

pub shifted : (m : List ℕ) (base w a b n c t : ℕ) → is_mnemonic m ≡ true → form_of m (codes " x, x, x") ≡ Some (Factors (1 ∷ 32 ∷ 65536 ∷ []), base)
    → form_of m (codes " x, x, x, l #0") ≡ Some (Factors (1 ∷ 32 ∷ 65536 ∷ 4194304 ∷ 1024 ∷ []), base) → a < 32 → b < 32 → n < 64 → c < 32 → t < 4 → w < 2 ^ 32
    → base + a * 1 + b * 32 + n * 1024 + c * 65536 + t * 4194304 ≡ w → candidate (text.shifted_register (m ++ codes " ") (a ∷ b ∷ n ∷ c ∷ t ∷ [])) ≡ Some w
shifted m base w a b zero c zero h f g ha hb hn hc ht hw e = form_unshifted m base w a b c h f ha hb hc hw (omega arith)
shifted m base w a b (suc n) c zero h f g ha hb hn hc ht hw e = form_shifted_lsl m base w a b (suc n) c h g ha hb hn hc (not_zero n) hw (omega arith)
shifted m base w a b n c (suc zero) h f g ha hb hn hc ht hw e = form_shifted_lsr m base w a b n c h g ha hb hn hc hw (omega arith)
shifted m base w a b n c (suc (suc zero)) h f g ha hb hn hc ht hw e = form_shifted_asr m base w a b n c h g ha hb hn hc hw (omega arith)
shifted m base w a b n c (suc (suc (suc zero))) h f g ha hb hn hc ht hw e = form_shifted_ror m base w a b n c h g ha hb hn hc hw (omega arith)
shifted m base w a b n c (suc (suc (suc (suc t)))) h f g ha hb hn hc ht hw e = absurd (omega arith)

times_not_zero : (k n : ℕ) → 0 < k → eqb (k * suc n) 0 ≡ false
times_not_zero k n h = grind (arith, nat_tests)

pub wide : (m : List ℕ) (base w a n k : ℕ) → is_mnemonic m ≡ true → form_of m (codes " x, #0") ≡ Some (Factors (1 ∷ 32 ∷ []), base)
    → form_of m (codes " x, #0, l #0") ≡ Some (Factors (1 ∷ 32 ∷ 0 ∷ 131072 ∷ []), base) → a < 32 → n < 65536 → k < 4 → w < 2 ^ 32
    → base + a * 1 + n * 32 + k * 2097152 ≡ w → candidate (text.move_wide (m ++ codes " ") (a ∷ n ∷ k ∷ [])) ≡ Some w
wide m base w a n zero h f g ha hn hk hw e = form_wide m base w a n h f ha hn hw (omega arith)
wide m base w a n (suc k) h f g ha hn hk hw e = form_wide_lsl m base w a n (suc k) h g ha hn hk (times_not_zero 16 k (omega arith)) hw (omega arith)

pub branch : (m : List ℕ) (b0 b1 w n : ℕ) → is_mnemonic m ≡ true → form_of m (codes " #0") ≡ Some (Quarter 1, b0)
    → form_of m (codes " #-0") ≡ Some (Quarter 18446744073709551615, b1) → b1 ≡ b0 + 67108864 → n < 67108864 → w < 2 ^ 32 → b0 + n * 1 ≡ w
    → candidate ((m ++ codes " ") ++ signed_constant 4 26 n) ≡ Some w
branch m b0 b1 w n h f g d hn hw e =
    by_test (nat_lt n 33554432) (λ q. form_branch m b0 w n h f hn q hw (omega arith)) (λ q. form_branch_back m b1 w n h g hn q hw (omega arith))

pub branch_if : (m : List ℕ) (b0 b1 w k n : ℕ) → is_mnemonic m ≡ true → form_of m (codes ".c #0") ≡ Some (Factors (1 ∷ 8 ∷ []), b0)
    → form_of m (codes ".c #-0") ≡ Some (Factors (1 ∷ 18446744073709551608 ∷ []), b1) → b1 ≡ b0 + 16777216 → k < 15 → n < 524288 → w < 2 ^ 32 → b0 + k * 1 + n * 32 ≡ w
    → candidate ((((m ++ codes ".") ++ cond_name k) ++ codes " ") ++ signed_constant 4 19 n) ≡ Some w
branch_if m b0 b1 w k n h f g d hk hn hw e =
    by_test (nat_lt n 262144) (λ q. form_branch_if m b0 w k n h f hk hn q hw (omega arith)) (λ q. form_branch_if_back m b1 w k n h g hk hn q hw (omega arith))

pub compare : (m : List ℕ) (b0 b1 w a n : ℕ) → is_mnemonic m ≡ true → form_of m (codes " x, #0") ≡ Some (Factors (1 ∷ 8 ∷ []), b0)
    → form_of m (codes " x, #-0") ≡ Some (Factors (1 ∷ 18446744073709551608 ∷ []), b1) → b1 ≡ b0 + 16777216 → a < 32 → n < 524288 → w < 2 ^ 32 → b0 + a * 1 + n * 32 ≡ w
    → candidate (text.compare_branch (m ++ codes " ") (a ∷ n ∷ [])) ≡ Some w
compare m b0 b1 w a n h f g d ha hn hw e =
    by_test (nat_lt n 262144) (λ q. form_compare m b0 w a n h f ha hn q hw (omega arith)) (λ q. form_compare_back m b1 w a n h g ha hn q hw (omega arith))

-- an access at an offset of n elements of k bytes
pub offset : (R : ℕ → List ℕ) (l k f : ℕ) → ((n : ℕ) → n < 32 → IsBlanked (R n) l n) → ((n : ℕ) → n < 4096 → (k * n < 32768) × (f * (k * n) ≡ n * 1024))
    → (m : List ℕ) (base w a b n : ℕ) → is_mnemonic m ≡ true → form_of m (32 ∷ l ∷ codes ", [x]") ≡ Some (Factors (1 ∷ 32 ∷ []), base)
    → form_of m (32 ∷ l ∷ codes ", [x, #0]") ≡ Some (Factors (1 ∷ 32 ∷ f ∷ []), base) → a < 32 → b < 32 → n < 4096 → w < 2 ^ 32
    → base + a * 1 + b * 32 + n * 1024 ≡ w → candidate (text.load_store_immediate (m ++ codes " ") R k (a ∷ b ∷ n ∷ [])) ≡ Some w
offset R l k f is scale m base w a b n h g i ha hb hn hw e =
    let s = scale n hn in
    by_test (eqb (k * n) 0)
    (λ q. let none : n * 1024 ≡ 0 = sym s.1 ∙ ap (λ x. f * x) (eqb-true _ _ q) ∙ mul-zero f in form_no_offset R l is m base w a b (k * n) h g ha hb q hw (omega arith))
    (λ q. form_offset R l is m base w a b n (k * n) f h i ha hb s.0 s.1 q hw e)

-- an access at an index, which is shifted by k
pub indexed : (R : ℕ → List ℕ) (l k : ℕ) → ((n : ℕ) → n < 32 → IsBlanked (R n) l n) → eqb (k * 0) 0 ≡ true → eqb (k * 1) 0 ≡ false → k * 1 < 64
    → (m : List ℕ) (b0 b1 w a b s c : ℕ) → is_mnemonic m ≡ true → form_of m (32 ∷ l ∷ codes ", [x, x]") ≡ Some (Factors (1 ∷ 32 ∷ 65536 ∷ []), b0)
    → form_of m (32 ∷ l ∷ codes ", [x, x, l #0]") ≡ Some (Factors (1 ∷ 32 ∷ 65536 ∷ []), b1) → b1 ≡ b0 + 4096 → a < 32 → b < 32 → s < 2 → c < 32 → w < 2 ^ 32
    → b0 + a * 1 + b * 32 + s * 4096 + c * 65536 ≡ w → candidate (text.load_store_register (m ++ codes " ") R k (a ∷ b ∷ s ∷ c ∷ [])) ≡ Some w
indexed R l k is none some small m b0 b1 w a b zero c h f g d ha hb hs hc hw e = form_index R l is m b0 w a b c (k * 0) h f ha hb hc none hw (omega arith)
indexed R l k is none some small m b0 b1 w a b (suc zero) c h f g d ha hb hs hc hw e = form_index_lsl R l is m b1 w a b c (k * 1) h g ha hb hc small some hw (omega arith)
indexed R l k is none some small m b0 b1 w a b (suc (suc s)) c h f g d ha hb hs hc hw e = absurd (omega arith)

pub dup_any : (m : List ℕ) (base w a b s : ℕ) → is_mnemonic m ≡ true → form_of m (codes " z.T, x") ≡ Some (Factors (1 ∷ 4194304 ∷ 32 ∷ []), base)
    → form_of m (codes " z.T, w") ≡ Some (Factors (1 ∷ 4194304 ∷ 32 ∷ []), base) → a < 32 → b < 32 → s < 4 → w < 2 ^ 32 → base + a * 1 + b * 32 + s * 4194304 ≡ w
    → candidate ((((m ++ codes " ") ++ z_register s a) ++ comma) ++ (if s == 3 then x_or_sp b else w_or_sp b)) ≡ Some w
dup_any m base w a b s h f g ha hb hs hw e =
    by_test (s == 3) (λ q. rw q (form_dup x_or_sp 120 x_or_sp-blanked m base w a b s h f ha hb hs hw e)) (λ q. rw q (form_dup w_or_sp 119 w_or_sp-blanked m base w a b s h g ha hb hs hw e))

series : (R : ℕ → List ℕ) (l : ℕ) → ((n : ℕ) → n < 32 → IsBlanked (R n) l n) → (m : List ℕ) (b0 b1 w a b n s : ℕ) → is_mnemonic m ≡ true
    → form_of m (codes " z.T, " ++ (l ∷ codes ", #0")) ≡ Some (Factors (1 ∷ 4194304 ∷ 32 ∷ 65536 ∷ []), b0)
    → form_of m (codes " z.T, " ++ (l ∷ codes ", #-0")) ≡ Some (Factors (1 ∷ 4194304 ∷ 32 ∷ 18446744073709486080 ∷ []), b1) → b1 ≡ b0 + 2097152
    → a < 32 → b < 32 → n < 32 → s < 4 → w < 2 ^ 32 → b0 + a * 1 + b * 32 + n * 65536 + s * 4194304 ≡ w
    → candidate ((((((m ++ codes " ") ++ z_register s a) ++ comma) ++ R b) ++ comma) ++ signed_constant 1 5 n) ≡ Some w
series R l is m b0 b1 w a b n s h f g d ha hb hn hs hw e =
    by_test (nat_lt n 16) (λ q. form_series R l is m b0 w a b n s h f ha hb hn hs q hw e) (λ q. form_series_back R l is m b1 w a b n s h g ha hb hn hs q hw (omega arith))

pub series_any : (m : List ℕ) (b0 b1 w a b n s : ℕ) → is_mnemonic m ≡ true → form_of m (codes " z.T, x, #0") ≡ Some (Factors (1 ∷ 4194304 ∷ 32 ∷ 65536 ∷ []), b0)
    → form_of m (codes " z.T, w, #0") ≡ Some (Factors (1 ∷ 4194304 ∷ 32 ∷ 65536 ∷ []), b0)
    → form_of m (codes " z.T, x, #-0") ≡ Some (Factors (1 ∷ 4194304 ∷ 32 ∷ 18446744073709486080 ∷ []), b1)
    → form_of m (codes " z.T, w, #-0") ≡ Some (Factors (1 ∷ 4194304 ∷ 32 ∷ 18446744073709486080 ∷ []), b1) → b1 ≡ b0 + 2097152
    → a < 32 → b < 32 → n < 32 → s < 4 → w < 2 ^ 32 → b0 + a * 1 + b * 32 + n * 65536 + s * 4194304 ≡ w
    → candidate ((((((m ++ codes " ") ++ z_register s a) ++ comma) ++ (if s == 3 then x_register b else w_register b)) ++ comma) ++ signed_constant 1 5 n) ≡ Some w
series_any m b0 b1 w a b n s h f1 f2 f3 f4 d ha hb hn hs hw e =
    by_test (s == 3) (λ q. rw q (series x_register 120 x-blanked m b0 b1 w a b n s h f1 f3 d ha hb hn hs hw e))
    (λ q. rw q (series w_register 119 w-blanked m b0 b1 w a b n s h f2 f4 d ha hb hn hs hw e))

pub left_any : (m : List ℕ) (base w a b i t u : ℕ) → is_mnemonic m ≡ true → form_of m (codes " z.T, z.T, #0") ≡ Some (LeftShift, base)
    → a < 32 → b < 32 → i < 8 → t < 4 → u < 4 → w < 2 ^ 32 → 8 ≤ 32 * u + 8 * t + i → base + a * 1 + b * 32 + i * 65536 + t * 524288 + u * 4194304 ≡ w
    → candidate (sve.shift_immediate (m ++ codes " ") left_amount (a ∷ b ∷ i ∷ t ∷ u ∷ [])) ≡ Some w
left_any m base w a b i t u h f ha hb hi ht hu hw low e = form_left m base w a b (32 * u + 8 * t + i) h f ha hb (omega arith) hw low (omega arith)

pub right_any : (m : List ℕ) (base w a b i t u : ℕ) → is_mnemonic m ≡ true → form_of m (codes " z.T, z.T, #0") ≡ Some (RightShift, base)
    → a < 32 → b < 32 → i < 8 → t < 4 → u < 4 → w < 2 ^ 32 → 8 ≤ 32 * u + 8 * t + i → base + a * 1 + b * 32 + i * 65536 + t * 524288 + u * 4194304 ≡ w
    → candidate (sve.shift_immediate (m ++ codes " ") right_amount (a ∷ b ∷ i ∷ t ∷ u ∷ [])) ≡ Some w
right_any m base w a b i t u h f ha hb hi ht hu hw low e = form_right m base w a b (32 * u + 8 * t + i) h f ha hb (omega arith) hw low (omega arith)

pub reduce_any : (m : List ℕ) (base w a b c s : ℕ) → is_mnemonic m ≡ true → form_of m (codes " v, p, z.T") ≡ Some (Factors (1 ∷ 1024 ∷ 32 ∷ 4194304 ∷ []), base)
    → a < 32 → b < 32 → c < 16 → s < 4 → w < 2 ^ 32 → base + a * 1 + b * 32 + c * 1024 + s * 4194304 ≡ w
    → candidate (sve.reduction (m ++ codes " ") (size_letter s) (a ∷ b ∷ c ∷ s ∷ [])) ≡ Some w
reduce_any m base w a b c zero h f ha hb hc hs hw e = form_reduce (codes "b") b-blanked m base w a b c 0 h f ha hb hc (omega arith) hw e
reduce_any m base w a b c (suc zero) h f ha hb hc hs hw e = form_reduce (codes "h") h-blanked m base w a b c 1 h f ha hb hc (omega arith) hw e
reduce_any m base w a b c (suc (suc zero)) h f ha hb hc hs hw e = form_reduce (codes "s") s-blanked m base w a b c 2 h f ha hb hc (omega arith) hw e
reduce_any m base w a b c (suc (suc (suc zero))) h f ha hb hc hs hw e = form_reduce (codes "d") d-blanked m base w a b c 3 h f ha hb hc (omega arith) hw e
reduce_any m base w a b c (suc (suc (suc (suc s)))) h f ha hb hc hs hw e = absurd (omega arith)

-- a fact of each number below n, the greatest first
abbrev pub Each : (ℕ → Type 0) → ℕ → Type 0
Each P zero = Unit {0}
Each P (suc n) = P n × Each P n

pub holds_below : (P : ℕ → Type 0) (n : ℕ) → Each P n → (d : ℕ) → d < n → P d
holds_below P zero p d l = absurd (omega arith)
holds_below P (suc n) p d l = by_test (eqb d n) (λ q. subst P (sym (eqb-true d n q)) p.0) (λ q. holds_below P n p.1 d (grind (arith, nat_tests)))

-- ---- a word whose text has no operands
pub whole_word : (m : List ℕ) (base w : ℕ) → is_mnemonic m ≡ true → form_of m [] ≡ Some (Factors [], base) → w < 2 ^ 32 → base ≡ w → candidate m ≡ Some w
unfolding dot
whole_word m base w h f hw e = spelled m h f reads-none refl refl (sym (append-nil m)) (omega arith)

-- ---- the numbers of fields
pub bits_below : (w low width : ℕ) → bits w low width < 2 ^ width
bits_below w low width = mod_below (w / 2 ^ low) width

pub wider : (w low : ℕ) → bits w low 3 < 16
wider w low = omega (arith, bits_below w low 3)

pub admitted : (n m : ℕ) → nat_lt n m ≡ true → n < m
admitted n m h = grind (arith, nat_tests)

pub at_least : (n m : ℕ) → nat_le m n ≡ true → m ≤ n
at_least n m h = grind (arith, nat_tests)
