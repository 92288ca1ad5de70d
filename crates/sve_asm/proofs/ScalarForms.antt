-- The texts of the A64 forms but those of accesses, read back: each has the one word that its numbers make.
use Rattle.std.proofs.Common.{◌≡◌, ℕ, ◌+◌, ◌*◌, ◌-◌, ◌^◌, ◌<◌, List, [], ◌∷◌, ◌++◌, true, false, Some, refl, arith, append_assoc, eqb}
use Rattle.std.specs.Prelude.{decimal, codes, nat_lt}
use Rattle.std.proofs.lemmas.List.{append-nil}
use Rattle.list_text.specs.Parts.{x_register, cond_name, signed_constant}
use Rattle.list_text.specs.A64Text as text
use Rattle.list_text.specs.SveText as sve
use Rattle.asm_forms.specs.Rules.{Factors, Quarter, dot, quarter, form_of}
use Rattle.asm_forms.specs.Reading.{candidate}
use Rattle.sve_asm.proofs.Words.{IsBlanked, decimal-blanked}
use Rattle.sve_asm.proofs.ByWords.{reads-blank, reads-last, reads-none}
use Rattle.sve_asm.proofs.Pieces.{x-blanked, x_or_sp-blanked, v-blanked, cond-blanked, lsl-blanked, lsr-blanked, asr-blanked, ror-blanked, zero-blanked, d_size-blanked}
use Rattle.sve_asm.proofs.Spelled.{is_mnemonic, spelled}
use Rattle.sve_asm.proofs.PlainParts.{over, Space, Comma, CommaNumber, Number, Negative, Dot, CommaNegative, Open, Close}

pub form_imm : (R : ℕ → List ℕ) → ((n : ℕ) → n < 32 → IsBlanked (R n) 120 n) → (m : List ℕ) (base w a b n : ℕ) → is_mnemonic m ≡ true
    → form_of m (codes " x, x, #0") ≡ Some (Factors (1 ∷ 32 ∷ 1024 ∷ []), base) → a < 32 → b < 32 → n < 4096 → w < 2 ^ 32 → base + a * 1 + b * 32 + n * 1024 ≡ w
    → candidate (text.add_sub_immediate (m ++ codes " ") R (a ∷ b ∷ n ∷ 0 ∷ [])) ≡ Some w
unfolding dot
form_imm R is m base w a b n h f ha hb hn hw e =
    spelled m h f (over Space (reads-blank (is a ha) refl (over Comma (reads-blank (x_or_sp-blanked b hb) refl (over CommaNumber (reads-last (decimal-blanked n (omega arith))))))))
    refl refl (simp (append_assoc, append-nil)) (omega arith)

pub form_imm_lsl : (R : ℕ → List ℕ) → ((n : ℕ) → n < 32 → IsBlanked (R n) 120 n) → (m : List ℕ) (base w a b n : ℕ) → is_mnemonic m ≡ true
    → form_of m (codes " x, x, #0, l #0") ≡ Some (Factors (1 ∷ 32 ∷ 1024 ∷ []), base) → a < 32 → b < 32 → n < 4096 → w < 2 ^ 32 → base + a * 1 + b * 32 + n * 1024 ≡ w
    → candidate (text.add_sub_immediate (m ++ codes " ") R (a ∷ b ∷ n ∷ 1 ∷ [])) ≡ Some w
unfolding dot
form_imm_lsl R is m base w a b n h f ha hb hn hw e =
    spelled m h f (over Space (reads-blank (is a ha) refl (over Comma (reads-blank (x_or_sp-blanked b hb) refl (over CommaNumber (reads-blank (decimal-blanked n (omega arith)) refl (over Comma (reads-blank lsl-blanked refl (over Number (reads-last (decimal-blanked 12 (omega arith))))))))))))
    refl refl (simp (append_assoc, append-nil)) (omega arith)

pub form_unshifted : (m : List ℕ) (base w a b c : ℕ) → is_mnemonic m ≡ true → form_of m (codes " x, x, x") ≡ Some (Factors (1 ∷ 32 ∷ 65536 ∷ []), base) → a < 32 → b < 32 → c < 32 → w < 2 ^ 32 → base + a * 1 + b * 32 + c * 65536 ≡ w → candidate (text.shifted_register (m ++ codes " ") (a ∷ b ∷ 0 ∷ c ∷ 0 ∷ [])) ≡ Some w
unfolding dot
form_unshifted m base w a b c h f ha hb hc hw e =
    spelled m h f (over Space (reads-blank (x-blanked a ha) refl (over Comma (reads-blank (x-blanked b hb) refl (over Comma (reads-last (x-blanked c hc)))))))
    refl refl (simp (append_assoc, append-nil)) (omega arith)

pub form_shifted_lsl : (m : List ℕ) (base w a b n c : ℕ) → is_mnemonic m ≡ true → form_of m (codes " x, x, x, l #0") ≡ Some (Factors (1 ∷ 32 ∷ 65536 ∷ 4194304 ∷ 1024 ∷ []), base) → a < 32 → b < 32 → n < 64 → c < 32 → eqb n 0 ≡ false → w < 2 ^ 32 → base + a * 1 + b * 32 + n * 1024 + c * 65536 ≡ w → candidate (text.shifted_register (m ++ codes " ") (a ∷ b ∷ n ∷ c ∷ 0 ∷ [])) ≡ Some w
unfolding dot
form_shifted_lsl m base w a b n c h f ha hb hn hc q0 hw e =
    spelled m h f (over Space (reads-blank (x-blanked a ha) refl (over Comma (reads-blank (x-blanked b hb) refl (over Comma (reads-blank (x-blanked c hc) refl (over Comma (reads-blank lsl-blanked refl (over Number (reads-last (decimal-blanked n (omega arith))))))))))))
    refl refl (rw q0 (simp (append_assoc, append-nil))) (omega arith)

pub form_shifted_lsr : (m : List ℕ) (base w a b n c : ℕ) → is_mnemonic m ≡ true → form_of m (codes " x, x, x, l #0") ≡ Some (Factors (1 ∷ 32 ∷ 65536 ∷ 4194304 ∷ 1024 ∷ []), base) → a < 32 → b < 32 → n < 64 → c < 32 → w < 2 ^ 32 → base + a * 1 + b * 32 + n * 1024 + c * 65536 + 1 * 4194304 ≡ w → candidate (text.shifted_register (m ++ codes " ") (a ∷ b ∷ n ∷ c ∷ 1 ∷ [])) ≡ Some w
unfolding dot
form_shifted_lsr m base w a b n c h f ha hb hn hc hw e =
    spelled m h f (over Space (reads-blank (x-blanked a ha) refl (over Comma (reads-blank (x-blanked b hb) refl (over Comma (reads-blank (x-blanked c hc) refl (over Comma (reads-blank lsr-blanked refl (over Number (reads-last (decimal-blanked n (omega arith))))))))))))
    refl refl (simp (append_assoc, append-nil)) (omega arith)

pub form_shifted_asr : (m : List ℕ) (base w a b n c : ℕ) → is_mnemonic m ≡ true → form_of m (codes " x, x, x, l #0") ≡ Some (Factors (1 ∷ 32 ∷ 65536 ∷ 4194304 ∷ 1024 ∷ []), base) → a < 32 → b < 32 → n < 64 → c < 32 → w < 2 ^ 32 → base + a * 1 + b * 32 + n * 1024 + c * 65536 + 1 * 8388608 ≡ w → candidate (text.shifted_register (m ++ codes " ") (a ∷ b ∷ n ∷ c ∷ 2 ∷ [])) ≡ Some w
unfolding dot
form_shifted_asr m base w a b n c h f ha hb hn hc hw e =
    spelled m h f (over Space (reads-blank (x-blanked a ha) refl (over Comma (reads-blank (x-blanked b hb) refl (over Comma (reads-blank (x-blanked c hc) refl (over Comma (reads-blank asr-blanked refl (over Number (reads-last (decimal-blanked n (omega arith))))))))))))
    refl refl (simp (append_assoc, append-nil)) (omega arith)

pub form_shifted_ror : (m : List ℕ) (base w a b n c : ℕ) → is_mnemonic m ≡ true → form_of m (codes " x, x, x, l #0") ≡ Some (Factors (1 ∷ 32 ∷ 65536 ∷ 4194304 ∷ 1024 ∷ []), base) → a < 32 → b < 32 → n < 64 → c < 32 → w < 2 ^ 32 → base + a * 1 + b * 32 + n * 1024 + c * 65536 + 1 * 12582912 ≡ w → candidate (text.shifted_register (m ++ codes " ") (a ∷ b ∷ n ∷ c ∷ 3 ∷ [])) ≡ Some w
unfolding dot
form_shifted_ror m base w a b n c h f ha hb hn hc hw e =
    spelled m h f (over Space (reads-blank (x-blanked a ha) refl (over Comma (reads-blank (x-blanked b hb) refl (over Comma (reads-blank (x-blanked c hc) refl (over Comma (reads-blank ror-blanked refl (over Number (reads-last (decimal-blanked n (omega arith))))))))))))
    refl refl (simp (append_assoc, append-nil)) (omega arith)

pub form_wide : (m : List ℕ) (base w a n : ℕ) → is_mnemonic m ≡ true → form_of m (codes " x, #0") ≡ Some (Factors (1 ∷ 32 ∷ []), base) → a < 32 → n < 65536 → w < 2 ^ 32 → base + a * 1 + n * 32 ≡ w → candidate (text.move_wide (m ++ codes " ") (a ∷ n ∷ 0 ∷ [])) ≡ Some w
unfolding dot
form_wide m base w a n h f ha hn hw e =
    spelled m h f (over Space (reads-blank (x-blanked a ha) refl (over CommaNumber (reads-last (decimal-blanked n (omega arith))))))
    refl refl (simp (append_assoc, append-nil)) (omega arith)

pub form_wide_lsl : (m : List ℕ) (base w a n k : ℕ) → is_mnemonic m ≡ true → form_of m (codes " x, #0, l #0") ≡ Some (Factors (1 ∷ 32 ∷ 0 ∷ 131072 ∷ []), base) → a < 32 → n < 65536 → k < 4 → eqb (16 * k) 0 ≡ false → w < 2 ^ 32 → base + a * 1 + n * 32 + k * 2097152 ≡ w → candidate (text.move_wide (m ++ codes " ") (a ∷ n ∷ k ∷ [])) ≡ Some w
unfolding dot
form_wide_lsl m base w a n k h f ha hn hk q0 hw e =
    spelled m h f (over Space (reads-blank (x-blanked a ha) refl (over CommaNumber (reads-blank (decimal-blanked n (omega arith)) refl (over Comma (reads-blank lsl-blanked refl (over Number (reads-last (decimal-blanked (16 * k) (omega arith))))))))))
    refl refl (rw q0 (simp (append_assoc, append-nil))) (omega arith)

pub form_multiply : (m : List ℕ) (base w a b n c : ℕ) → is_mnemonic m ≡ true → form_of m (codes " x, x, x, x") ≡ Some (Factors (1 ∷ 32 ∷ 65536 ∷ 1024 ∷ []), base) → a < 32 → b < 32 → n < 32 → c < 32 → w < 2 ^ 32 → base + a * 1 + b * 32 + n * 1024 + c * 65536 ≡ w → candidate (text.multiply_add (m ++ codes " ") (a ∷ b ∷ n ∷ c ∷ [])) ≡ Some w
unfolding dot
form_multiply m base w a b n c h f ha hb hn hc hw e =
    spelled m h f (over Space (reads-blank (x-blanked a ha) refl (over Comma (reads-blank (x-blanked b hb) refl (over Comma (reads-blank (x-blanked c hc) refl (over Comma (reads-last (x-blanked n hn)))))))))
    refl refl (simp (append_assoc, append-nil)) (omega arith)

pub form_variable : (m : List ℕ) (base w a b c : ℕ) → is_mnemonic m ≡ true → form_of m (codes " x, x, x") ≡ Some (Factors (1 ∷ 32 ∷ 65536 ∷ []), base) → a < 32 → b < 32 → c < 32 → w < 2 ^ 32 → base + a * 1 + b * 32 + c * 65536 ≡ w → candidate (text.shift_variable (m ++ codes " ") (a ∷ b ∷ c ∷ [])) ≡ Some w
unfolding dot
form_variable m base w a b c h f ha hb hc hw e =
    spelled m h f (over Space (reads-blank (x-blanked a ha) refl (over Comma (reads-blank (x-blanked b hb) refl (over Comma (reads-last (x-blanked c hc)))))))
    refl refl (simp (append_assoc, append-nil)) (omega arith)

pub form_bitfield : (m : List ℕ) (base w a b n k : ℕ) → is_mnemonic m ≡ true → form_of m (codes " x, x, #0, #0") ≡ Some (Factors (1 ∷ 32 ∷ 65536 ∷ 1024 ∷ []), base) → a < 32 → b < 32 → n < 64 → k < 64 → w < 2 ^ 32 → base + a * 1 + b * 32 + n * 1024 + k * 65536 ≡ w → candidate (text.bitfield (m ++ codes " ") (a ∷ b ∷ n ∷ k ∷ [])) ≡ Some w
unfolding dot
form_bitfield m base w a b n k h f ha hb hn hk hw e =
    spelled m h f (over Space (reads-blank (x-blanked a ha) refl (over Comma (reads-blank (x-blanked b hb) refl (over CommaNumber (reads-blank (decimal-blanked k (omega arith)) refl (over CommaNumber (reads-last (decimal-blanked n (omega arith))))))))))
    refl refl (simp (append_assoc, append-nil)) (omega arith)

pub form_select : (m : List ℕ) (base w a b k c : ℕ) → is_mnemonic m ≡ true → form_of m (codes " x, x, x, c") ≡ Some (Factors (1 ∷ 32 ∷ 65536 ∷ 4096 ∷ []), base) → a < 32 → b < 32 → k < 15 → c < 32 → w < 2 ^ 32 → base + a * 1 + b * 32 + k * 4096 + c * 65536 ≡ w → candidate (text.conditional_select (m ++ codes " ") (a ∷ b ∷ k ∷ c ∷ [])) ≡ Some w
unfolding dot
form_select m base w a b k c h f ha hb hk hc hw e =
    spelled m h f (over Space (reads-blank (x-blanked a ha) refl (over Comma (reads-blank (x-blanked b hb) refl (over Comma (reads-blank (x-blanked c hc) refl (over Comma (reads-last (cond-blanked k hk)))))))))
    refl refl (simp (append_assoc, append-nil)) (omega arith)

pub form_branch : (m : List ℕ) (base w n : ℕ) → is_mnemonic m ≡ true → form_of m (codes " #0") ≡ Some (Quarter 1, base) → n < 67108864 → nat_lt n 33554432 ≡ true → w < 2 ^ 32 → base + n * 1 ≡ w → candidate ((m ++ codes " ") ++ signed_constant 4 26 n) ≡ Some w
unfolding quarter
form_branch m base w n h f hn q0 hw e =
    spelled m h f (over Number (reads-last (decimal-blanked (4 * n) (omega arith))))
    refl refl (rw q0 (simp (append_assoc, append-nil))) (omega arith)

pub form_branch_back : (m : List ℕ) (base w n : ℕ) → is_mnemonic m ≡ true → form_of m (codes " #-0") ≡ Some (Quarter 18446744073709551615, base) → n < 67108864 → nat_lt n 33554432 ≡ false → w < 2 ^ 32 → base + n * 1 ≡ w + 1 * 67108864 → candidate ((m ++ codes " ") ++ signed_constant 4 26 n) ≡ Some w
unfolding quarter
form_branch_back m base w n h f hn q0 hw e =
    spelled m h f (over Negative (reads-last (decimal-blanked (4 * (67108864 - n)) (omega arith))))
    refl refl (rw q0 (simp (append_assoc, append-nil))) (omega arith)

pub form_branch_if : (m : List ℕ) (base w k n : ℕ) → is_mnemonic m ≡ true → form_of m (codes ".c #0") ≡ Some (Factors (1 ∷ 8 ∷ []), base) → k < 15 → n < 524288 → nat_lt n 262144 ≡ true → w < 2 ^ 32 → base + k * 1 + n * 32 ≡ w → candidate ((((m ++ codes ".") ++ cond_name k) ++ codes " ") ++ signed_constant 4 19 n) ≡ Some w
unfolding dot
form_branch_if m base w k n h f hk hn q0 hw e =
    spelled m h f (over Dot (reads-blank (cond-blanked k hk) refl (over Number (reads-last (decimal-blanked (4 * n) (omega arith))))))
    refl refl (rw q0 (simp (append_assoc, append-nil))) (omega arith)

pub form_branch_if_back : (m : List ℕ) (base w k n : ℕ) → is_mnemonic m ≡ true → form_of m (codes ".c #-0") ≡ Some (Factors (1 ∷ 18446744073709551608 ∷ []), base) → k < 15 → n < 524288 → nat_lt n 262144 ≡ false → w < 2 ^ 32 → base + k * 1 + n * 32 ≡ w + 1 * 16777216 → candidate ((((m ++ codes ".") ++ cond_name k) ++ codes " ") ++ signed_constant 4 19 n) ≡ Some w
unfolding dot
form_branch_if_back m base w k n h f hk hn q0 hw e =
    spelled m h f (over Dot (reads-blank (cond-blanked k hk) refl (over Negative (reads-last (decimal-blanked (4 * (524288 - n)) (omega arith))))))
    refl refl (rw q0 (simp (append_assoc, append-nil))) (omega arith)

pub form_compare : (m : List ℕ) (base w a n : ℕ) → is_mnemonic m ≡ true → form_of m (codes " x, #0") ≡ Some (Factors (1 ∷ 8 ∷ []), base) → a < 32 → n < 524288 → nat_lt n 262144 ≡ true → w < 2 ^ 32 → base + a * 1 + n * 32 ≡ w → candidate (text.compare_branch (m ++ codes " ") (a ∷ n ∷ [])) ≡ Some w
unfolding dot
form_compare m base w a n h f ha hn q0 hw e =
    spelled m h f (over Space (reads-blank (x-blanked a ha) refl (over CommaNumber (reads-last (decimal-blanked (4 * n) (omega arith))))))
    refl refl (rw q0 (simp (append_assoc, append-nil))) (omega arith)

pub form_compare_back : (m : List ℕ) (base w a n : ℕ) → is_mnemonic m ≡ true → form_of m (codes " x, #-0") ≡ Some (Factors (1 ∷ 18446744073709551608 ∷ []), base) → a < 32 → n < 524288 → nat_lt n 262144 ≡ false → w < 2 ^ 32 → base + a * 1 + n * 32 ≡ w + 1 * 16777216 → candidate (text.compare_branch (m ++ codes " ") (a ∷ n ∷ [])) ≡ Some w
unfolding dot
form_compare_back m base w a n h f ha hn q0 hw e =
    spelled m h f (over Space (reads-blank (x-blanked a ha) refl (over CommaNegative (reads-last (decimal-blanked (4 * (524288 - n)) (omega arith))))))
    refl refl (rw q0 (simp (append_assoc, append-nil))) (omega arith)

pub form_ret : (m : List ℕ) (base w a : ℕ) → is_mnemonic m ≡ true → form_of m (codes " x") ≡ Some (Factors (32 ∷ []), base) → a < 32 → w < 2 ^ 32 → base + a * 32 ≡ w → candidate ((m ++ codes " ") ++ x_register a) ≡ Some w
unfolding dot
form_ret m base w a h f ha hw e =
    spelled m h f (over Space (reads-last (x-blanked a ha)))
    refl refl (simp (append_assoc, append-nil)) (omega arith)

pub form_count : (m : List ℕ) (base w a : ℕ) → is_mnemonic m ≡ true → form_of m (codes " x") ≡ Some (Factors (1 ∷ []), base) → a < 32 → w < 2 ^ 32 → base + a * 1 ≡ w → candidate (sve.element_count (m ++ codes " ") (a ∷ [])) ≡ Some w
unfolding dot
form_count m base w a h f ha hw e =
    spelled m h f (over Space (reads-last (x-blanked a ha)))
    refl refl (simp (append_assoc, append-nil)) (omega arith)

pub form_exception : (m : List ℕ) (base w n : ℕ) → is_mnemonic m ≡ true → form_of m (codes " #0") ≡ Some (Factors (32 ∷ []), base) → n < 65536 → w < 2 ^ 32 → base + n * 32 ≡ w → candidate (text.exception (m ++ codes " ") (n ∷ [])) ≡ Some w
unfolding dot
form_exception m base w n h f hn hw e =
    spelled m h f (over Number (reads-last (decimal-blanked n (omega arith))))
    refl refl (simp (append_assoc, append-nil)) (omega arith)

pub form_umov : (m : List ℕ) (base w a b : ℕ) → is_mnemonic m ≡ true → form_of m (codes " x, v.T[0]") ≡ Some (Factors (1 ∷ 32 ∷ []), base) → a < 32 → b < 32 → w < 2 ^ 32 → base + a * 1 + b * 32 ≡ w → candidate (((((m ++ codes " ") ++ x_register a) ++ codes ", v") ++ decimal b) ++ codes ".d[0]") ≡ Some w
unfolding dot
form_umov m base w a b h f ha hb hw e =
    spelled m h f (over Space (reads-blank (x-blanked a ha) refl (over Comma (reads-blank (v-blanked b hb) refl (over Dot (reads-blank d_size-blanked refl (over Open (reads-blank zero-blanked refl (over Close reads-none)))))))))
    refl refl (simp (append_assoc, append-nil)) (omega arith)
