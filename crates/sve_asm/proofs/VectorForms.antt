-- The texts of the SVE forms of vectors, read back.
use Rattle.std.proofs.Common.{◌≡◌, ℕ, ◌+◌, ◌*◌, ◌-◌, ◌/◌, ◌%◌, ◌^◌, ◌<◌, ◌≤◌, List, [], ◌∷◌, ◌++◌, true, Some, refl, arith, append_assoc}
use Rattle.std.specs.Prelude.{decimal, codes, nat_lt, nat_le}
use Rattle.std.proofs.lemmas.List.{append-nil}
use Rattle.std.proofs.lemmas.Bool.Decides.{nat_tests}
use Rattle.list_text.specs.Parts.{size_letter, comma}
use Rattle.list_text.specs.SveText as sve
use Rattle.sve_code.specs.Numbers.{shift_size, left_amount, right_amount}
use Rattle.asm_forms.specs.Rules.{Factors, LeftShift, RightShift, dot, element_bits, left_shift, right_shift, form_of}
use Rattle.asm_forms.specs.Reading.{candidate}
use Rattle.sve_asm.proofs.Words.{IsBlanked, by_test, decimal-blanked}
use Rattle.sve_asm.proofs.ByWords.{reads-blank, reads-last}
use Rattle.sve_asm.proofs.Pieces.{p-blanked, z-blanked, size-blanked, d_size-blanked}
use Rattle.sve_asm.proofs.Spelled.{is_mnemonic, spelled}
use Rattle.sve_asm.proofs.PlainParts.{over, Space, Comma, CommaNumber, Dot, Zeroing, Merging}

pub form_vectors : (m : List ℕ) (base w a b c s : ℕ) → is_mnemonic m ≡ true → form_of m (codes " z.T, z.T, z.T") ≡ Some (Factors (1 ∷ 4194304 ∷ 32 ∷ 0 ∷ 65536 ∷ []), base) → a < 32 → b < 32 → c < 32 → s < 4 → w < 2 ^ 32 → base + a * 1 + b * 32 + c * 65536 + s * 4194304 ≡ w → candidate (sve.vectors (m ++ codes " ") (a ∷ b ∷ c ∷ s ∷ [])) ≡ Some w
unfolding dot
form_vectors m base w a b c s h f ha hb hc hs hw e =
    spelled m h f (over Space (reads-blank (z-blanked a ha) refl (over Dot (reads-blank (size-blanked s hs) refl (over Comma (reads-blank (z-blanked b hb) refl (over Dot (reads-blank (size-blanked s hs) refl (over Comma (reads-blank (z-blanked c hc) refl (over Dot (reads-last (size-blanked s hs)))))))))))))
    refl refl (simp (append_assoc, append-nil)) (omega arith)

pub form_bitwise : (m : List ℕ) (base w a b c : ℕ) → is_mnemonic m ≡ true → form_of m (codes " z.T, z.T, z.T") ≡ Some (Factors (1 ∷ 0 ∷ 32 ∷ 0 ∷ 65536 ∷ []), base) → a < 32 → b < 32 → c < 32 → w < 2 ^ 32 → base + a * 1 + b * 32 + c * 65536 ≡ w → candidate (sve.bitwise (m ++ codes " ") (a ∷ b ∷ c ∷ [])) ≡ Some w
unfolding dot
form_bitwise m base w a b c h f ha hb hc hw e =
    spelled m h f (over Space (reads-blank (z-blanked a ha) refl (over Dot (reads-blank d_size-blanked refl (over Comma (reads-blank (z-blanked b hb) refl (over Dot (reads-blank d_size-blanked refl (over Comma (reads-blank (z-blanked c hc) refl (over Dot (reads-last d_size-blanked))))))))))))
    refl refl (simp (append_assoc, append-nil)) (omega arith)

assoc_shift : (m s z a d t c b h n : List ℕ) → (((((m ++ s) ++ ((z ++ a) ++ (d ++ t))) ++ c) ++ ((z ++ b) ++ (d ++ t))) ++ c) ++ (h ++ n)
    ≡ m ++ (s ++ ((z ++ a) ++ (d ++ (t ++ (c ++ ((z ++ b) ++ (d ++ (t ++ (c ++ (h ++ n))))))))))
assoc_shift m s z a d t c b h n = simp append_assoc

size_small : (v : ℕ) → shift_size v < 4
size_small v =
    by_test (nat_lt v 16) (λ q. rw q (omega arith)) (λ q. by_test (nat_lt v 32) (λ r. rw (q, r) (omega arith)) (λ r. by_test (nat_lt v 64) (λ s. rw (q, r, s) (omega arith)) (λ s. rw (q, r, s) (omega arith))))

left_value : (v : ℕ) → 8 ≤ v → v < 128 → (nat_le (left_amount v) 64 ≡ true) × (element_bits (shift_size v) + left_amount v ≡ v)
left_value v low hv =
    by_test (nat_lt v 16) (λ q. rw q (grind (arith, nat_tests), omega arith)) (λ q. by_test (nat_lt v 32) (λ r. rw (q, r) (grind (arith, nat_tests), grind (arith, nat_tests)))
    (λ r. by_test (nat_lt v 64) (λ s. rw (q, r, s) (grind (arith, nat_tests), grind (arith, nat_tests))) (λ s. rw (q, r, s) (grind (arith, nat_tests), grind (arith, nat_tests)))))

right_value : (v : ℕ) → 8 ≤ v → v < 128 → (nat_le (right_amount v) 64 ≡ true) × (2 * element_bits (shift_size v) - right_amount v ≡ v)
right_value v low hv =
    by_test (nat_lt v 16) (λ q. rw q (grind (arith, nat_tests), grind (arith, nat_tests))) (λ q. by_test (nat_lt v 32) (λ r. rw (q, r) (grind (arith, nat_tests), grind (arith, nat_tests)))
    (λ r. by_test (nat_lt v 64) (λ s. rw (q, r, s) (grind (arith, nat_tests), grind (arith, nat_tests))) (λ s. rw (q, r, s) (grind (arith, nat_tests), grind (arith, nat_tests)))))

pub form_left : (m : List ℕ) (base w a b v : ℕ) → is_mnemonic m ≡ true → form_of m (codes " z.T, z.T, #0") ≡ Some (LeftShift, base) → a < 32 → b < 32 → v < 128 → w < 2 ^ 32 → 8 ≤ v
    → base + a * 1 + b * 32 + v % 32 * 65536 + v / 32 * 4194304 ≡ w → candidate (sve.shift_text (m ++ codes " ") left_amount a b v) ≡ Some w
unfolding left_shift
form_left m base w a b v h f ha hb hv hw low e =
    let s = left_value v low hv in
    let t = size-blanked (shift_size v) (size_small v) in
    spelled m h f (over Space (reads-blank (z-blanked a ha) refl (over Dot (reads-blank t refl (over Comma (reads-blank (z-blanked b hb) refl (over Dot (reads-blank t refl (over CommaNumber (reads-last (decimal-blanked (left_amount v) (omega arith))))))))))))
    refl refl (assoc_shift m (codes " ") (codes "z") (decimal a) (codes ".") (size_letter (shift_size v)) comma (decimal b) (codes "#") (decimal (left_amount v))) (rw (s.0, s.1) (omega arith))

pub form_right : (m : List ℕ) (base w a b v : ℕ) → is_mnemonic m ≡ true → form_of m (codes " z.T, z.T, #0") ≡ Some (RightShift, base) → a < 32 → b < 32 → v < 128 → w < 2 ^ 32 → 8 ≤ v
    → base + a * 1 + b * 32 + v % 32 * 65536 + v / 32 * 4194304 ≡ w → candidate (sve.shift_text (m ++ codes " ") right_amount a b v) ≡ Some w
unfolding right_shift
form_right m base w a b v h f ha hb hv hw low e =
    let s = right_value v low hv in
    let t = size-blanked (shift_size v) (size_small v) in
    spelled m h f (over Space (reads-blank (z-blanked a ha) refl (over Dot (reads-blank t refl (over Comma (reads-blank (z-blanked b hb) refl (over Dot (reads-blank t refl (over CommaNumber (reads-last (decimal-blanked (right_amount v) (grind (arith, nat_tests)))))))))))))
    refl refl (assoc_shift m (codes " ") (codes "z") (decimal a) (codes ".") (size_letter (shift_size v)) comma (decimal b) (codes "#") (decimal (right_amount v))) (rw (s.0, s.1) (omega arith))

pub form_binary : (m : List ℕ) (base w a b c s : ℕ) → is_mnemonic m ≡ true → form_of m (codes " z.T, p/m, z.T, z.T") ≡ Some (Factors (1 ∷ 4194304 ∷ 1024 ∷ 0 ∷ 0 ∷ 32 ∷ []), base) → a < 32 → b < 32 → c < 16 → s < 4 → w < 2 ^ 32 → base + a * 1 + b * 32 + c * 1024 + s * 4194304 ≡ w → candidate (sve.binary_predicated (m ++ codes " ") (a ∷ b ∷ c ∷ s ∷ [])) ≡ Some w
unfolding dot
form_binary m base w a b c s h f ha hb hc hs hw e =
    spelled m h f (over Space (reads-blank (z-blanked a ha) refl (over Dot (reads-blank (size-blanked s hs) refl (over Comma (reads-blank (p-blanked c hc) refl (over Merging (reads-blank (z-blanked a ha) refl (over Dot (reads-blank (size-blanked s hs) refl (over Comma (reads-blank (z-blanked b hb) refl (over Dot (reads-last (size-blanked s hs)))))))))))))))
    refl refl (simp (append_assoc, append-nil)) (omega arith)

pub form_unary : (m : List ℕ) (base w a b c s : ℕ) → is_mnemonic m ≡ true → form_of m (codes " z.T, p/m, z.T") ≡ Some (Factors (1 ∷ 4194304 ∷ 1024 ∷ 32 ∷ []), base) → a < 32 → b < 32 → c < 16 → s < 4 → w < 2 ^ 32 → base + a * 1 + b * 32 + c * 1024 + s * 4194304 ≡ w → candidate (sve.unary_predicated (m ++ codes " ") (a ∷ b ∷ c ∷ s ∷ [])) ≡ Some w
unfolding dot
form_unary m base w a b c s h f ha hb hc hs hw e =
    spelled m h f (over Space (reads-blank (z-blanked a ha) refl (over Dot (reads-blank (size-blanked s hs) refl (over Comma (reads-blank (p-blanked c hc) refl (over Merging (reads-blank (z-blanked b hb) refl (over Dot (reads-last (size-blanked s hs)))))))))))
    refl refl (simp (append_assoc, append-nil)) (omega arith)

pub form_extend : (m : List ℕ) (base w a b c : ℕ) → is_mnemonic m ≡ true → form_of m (codes " z.T, p/m, z.T") ≡ Some (Factors (1 ∷ 0 ∷ 1024 ∷ 32 ∷ []), base) → a < 32 → b < 32 → c < 16 → w < 2 ^ 32 → base + a * 1 + b * 32 + c * 1024 ≡ w → candidate (sve.extend_word (m ++ codes " ") (a ∷ b ∷ c ∷ [])) ≡ Some w
unfolding dot
form_extend m base w a b c h f ha hb hc hw e =
    spelled m h f (over Space (reads-blank (z-blanked a ha) refl (over Dot (reads-blank d_size-blanked refl (over Comma (reads-blank (p-blanked c hc) refl (over Merging (reads-blank (z-blanked b hb) refl (over Dot (reads-last d_size-blanked))))))))))
    refl refl (simp (append_assoc, append-nil)) (omega arith)

-- L is the letter of the scalar
pub form_reduce : (L : List ℕ) → ((n : ℕ) → n < 32 → IsBlanked (L ++ decimal n) 118 n) → (m : List ℕ) (base w a b c s : ℕ) → is_mnemonic m ≡ true
    → form_of m (codes " v, p, z.T") ≡ Some (Factors (1 ∷ 1024 ∷ 32 ∷ 4194304 ∷ []), base) → a < 32 → b < 32 → c < 16 → s < 4 → w < 2 ^ 32
    → base + a * 1 + b * 32 + c * 1024 + s * 4194304 ≡ w → candidate (sve.reduction (m ++ codes " ") L (a ∷ b ∷ c ∷ s ∷ [])) ≡ Some w
unfolding dot
form_reduce L is m base w a b c s h f ha hb hc hs hw e =
    spelled m h f (over Space (reads-blank (is a ha) refl (over Comma (reads-blank (p-blanked c hc) refl (over Comma (reads-blank (z-blanked b hb) refl (over Dot (reads-last (size-blanked s hs)))))))))
    refl refl (simp (append_assoc, append-nil)) (omega arith)

pub form_compare_z : (m : List ℕ) (base w a b c d s : ℕ) → is_mnemonic m ≡ true → form_of m (codes " p.T, p/z, z.T, z.T") ≡ Some (Factors (1 ∷ 4194304 ∷ 1024 ∷ 32 ∷ 0 ∷ 65536 ∷ []), base) → a < 16 → b < 32 → c < 16 → d < 32 → s < 4 → w < 2 ^ 32 → base + a * 1 + b * 32 + c * 1024 + d * 65536 + s * 4194304 ≡ w → candidate (sve.compare_vectors (m ++ codes " ") (a ∷ b ∷ c ∷ d ∷ s ∷ [])) ≡ Some w
unfolding dot
form_compare_z m base w a b c d s h f ha hb hc hd hs hw e =
    spelled m h f (over Space (reads-blank (p-blanked a ha) refl (over Dot (reads-blank (size-blanked s hs) refl (over Comma (reads-blank (p-blanked c hc) refl (over Zeroing (reads-blank (z-blanked b hb) refl (over Dot (reads-blank (size-blanked s hs) refl (over Comma (reads-blank (z-blanked d hd) refl (over Dot (reads-last (size-blanked s hs)))))))))))))))
    refl refl (simp (append_assoc, append-nil)) (omega arith)
