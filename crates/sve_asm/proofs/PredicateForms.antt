-- The texts of the SVE forms of predicates, of counts, and of vectors made of scalars, read back.
use Rattle.std.proofs.Common.{◌≡◌, ℕ, ◌+◌, ◌*◌, ◌-◌, ◌^◌, ◌<◌, List, [], ◌∷◌, ◌++◌, true, false, Some, refl, arith, append_assoc}
use Rattle.std.specs.Prelude.{codes, nat_lt}
use Rattle.std.proofs.lemmas.List.{append-nil}
use Rattle.list_text.specs.Parts.{x_register, p_register, signed_constant, comma, dotted, z_register}
use Rattle.list_text.specs.SveText as sve
use Rattle.asm_forms.specs.Rules.{Factors, dot, form_of}
use Rattle.asm_forms.specs.Reading.{candidate}
use Rattle.sve_asm.proofs.Words.{IsBlanked, decimal-blanked}
use Rattle.sve_asm.proofs.ByWords.{reads-blank, reads-last, reads-word}
use Rattle.sve_asm.proofs.Pieces.{x-blanked, p-blanked, z-blanked, size-blanked, b_size-blanked, none_z}
use Rattle.sve_asm.proofs.Spelled.{is_mnemonic, spelled}
use Rattle.sve_asm.proofs.PlainParts.{over, Space, Comma, CommaNumber, Dot, CommaNegative, Zeroing, Slash}

pub form_true : (m : List ℕ) (base w a s : ℕ) → is_mnemonic m ≡ true → form_of m (codes " p.T") ≡ Some (Factors (1 ∷ 4194304 ∷ []), base) → a < 16 → s < 4 → w < 2 ^ 32 → base + a * 1 + s * 4194304 ≡ w → candidate (((m ++ codes " ") ++ p_register a) ++ dotted s) ≡ Some w
unfolding dot
form_true m base w a s h f ha hs hw e =
    spelled m h f (over Space (reads-blank (p-blanked a ha) refl (over Dot (reads-last (size-blanked s hs)))))
    refl refl (simp (append_assoc, append-nil)) (omega arith)

pub form_false : (m : List ℕ) (base w a : ℕ) → is_mnemonic m ≡ true → form_of m (codes " p.T") ≡ Some (Factors (1 ∷ []), base) → a < 16 → w < 2 ^ 32 → base + a * 1 ≡ w → candidate (((m ++ codes " ") ++ p_register a) ++ codes ".b") ≡ Some w
unfolding dot
form_false m base w a h f ha hw e =
    spelled m h f (over Space (reads-blank (p-blanked a ha) refl (over Dot (reads-last b_size-blanked))))
    refl refl (simp (append_assoc, append-nil)) (omega arith)

pub form_write : (m : List ℕ) (base w a : ℕ) → is_mnemonic m ≡ true → form_of m (codes " p.T") ≡ Some (Factors (32 ∷ []), base) → a < 16 → w < 2 ^ 32 → base + a * 32 ≡ w → candidate (((m ++ codes " ") ++ p_register a) ++ codes ".b") ≡ Some w
unfolding dot
form_write m base w a h f ha hw e =
    spelled m h f (over Space (reads-blank (p-blanked a ha) refl (over Dot (reads-last b_size-blanked))))
    refl refl (simp (append_assoc, append-nil)) (omega arith)

pub form_while : (m : List ℕ) (base w a b c s : ℕ) → is_mnemonic m ≡ true → form_of m (codes " p.T, x, x") ≡ Some (Factors (1 ∷ 4194304 ∷ 32 ∷ 65536 ∷ []), base) → a < 16 → b < 32 → c < 32 → s < 4 → w < 2 ^ 32 → base + a * 1 + b * 32 + c * 65536 + s * 4194304 ≡ w → candidate (((((((m ++ codes " ") ++ p_register a) ++ dotted s) ++ comma) ++ x_register b) ++ comma) ++ x_register c) ≡ Some w
unfolding dot
form_while m base w a b c s h f ha hb hc hs hw e =
    spelled m h f (over Space (reads-blank (p-blanked a ha) refl (over Dot (reads-blank (size-blanked s hs) refl (over Comma (reads-blank (x-blanked b hb) refl (over Comma (reads-last (x-blanked c hc)))))))))
    refl refl (simp (append_assoc, append-nil)) (omega arith)

pub form_test : (m : List ℕ) (base w a b : ℕ) → is_mnemonic m ≡ true → form_of m (codes " p, p.T") ≡ Some (Factors (1024 ∷ 32 ∷ []), base) → a < 16 → b < 16 → w < 2 ^ 32 → base + a * 32 + b * 1024 ≡ w → candidate (((((m ++ codes " ") ++ p_register b) ++ comma) ++ p_register a) ++ codes ".b") ≡ Some w
unfolding dot
form_test m base w a b h f ha hb hw e =
    spelled m h f (over Space (reads-blank (p-blanked b hb) refl (over Comma (reads-blank (p-blanked a ha) refl (over Dot (reads-last b_size-blanked))))))
    refl refl (simp (append_assoc, append-nil)) (omega arith)

pub form_logical : (m : List ℕ) (base w a b c d : ℕ) → is_mnemonic m ≡ true → form_of m (codes " p.T, p/z, p.T, p.T") ≡ Some (Factors (1 ∷ 0 ∷ 1024 ∷ 32 ∷ 0 ∷ 65536 ∷ []), base) → a < 16 → b < 16 → c < 16 → d < 16 → w < 2 ^ 32 → base + a * 1 + b * 32 + c * 1024 + d * 65536 ≡ w → candidate (sve.predicate_logical (m ++ codes " ") (a ∷ b ∷ c ∷ d ∷ [])) ≡ Some w
unfolding dot
form_logical m base w a b c d h f ha hb hc hd hw e =
    spelled m h f (over Space (reads-blank (p-blanked a ha) refl (over Dot (reads-blank b_size-blanked refl (over Comma (reads-blank (p-blanked c hc) refl (over Zeroing (reads-blank (p-blanked b hb) refl (over Dot (reads-blank b_size-blanked refl (over Comma (reads-blank (p-blanked d hd) refl (over Dot (reads-last b_size-blanked))))))))))))))
    refl refl (simp (append_assoc, append-nil)) (omega arith)

pub form_break : (m : List ℕ) (base w a b c : ℕ) → is_mnemonic m ≡ true → form_of m (codes " p.T, p/z, p.T") ≡ Some (Factors (1 ∷ 0 ∷ 1024 ∷ 32 ∷ []), base) → a < 16 → b < 16 → c < 16 → w < 2 ^ 32 → base + a * 1 + b * 32 + c * 1024 ≡ w → candidate (sve.break_at (m ++ codes " ") (a ∷ b ∷ c ∷ [])) ≡ Some w
unfolding dot
form_break m base w a b c h f ha hb hc hw e =
    spelled m h f (over Space (reads-blank (p-blanked a ha) refl (over Dot (reads-blank b_size-blanked refl (over Comma (reads-blank (p-blanked c hc) refl (over Zeroing (reads-blank (p-blanked b hb) refl (over Dot (reads-last b_size-blanked))))))))))
    refl refl (simp (append_assoc, append-nil)) (omega arith)

pub form_read_z : (m : List ℕ) (base w a b : ℕ) → is_mnemonic m ≡ true → form_of m (codes " p.T, p/z") ≡ Some (Factors (1 ∷ 0 ∷ 32 ∷ []), base) → a < 16 → b < 16 → w < 2 ^ 32 → base + a * 1 + b * 32 ≡ w → candidate (((((m ++ codes " ") ++ p_register a) ++ codes ".b, ") ++ p_register b) ++ codes "/z") ≡ Some w
unfolding dot
form_read_z m base w a b h f ha hb hw e =
    spelled m h f (over Space (reads-blank (p-blanked a ha) refl (over Dot (reads-blank b_size-blanked refl (over Comma (reads-blank (p-blanked b hb) refl (over Slash (reads-word (codes "z") refl none_z))))))))
    refl refl (simp (append_assoc, append-nil)) (omega arith)

pub form_increment : (m : List ℕ) (base w a b s : ℕ) → is_mnemonic m ≡ true → form_of m (codes " x, p.T") ≡ Some (Factors (1 ∷ 32 ∷ 4194304 ∷ []), base) → a < 32 → b < 16 → s < 4 → w < 2 ^ 32 → base + a * 1 + b * 32 + s * 4194304 ≡ w → candidate (((((m ++ codes " ") ++ x_register a) ++ comma) ++ p_register b) ++ dotted s) ≡ Some w
unfolding dot
form_increment m base w a b s h f ha hb hs hw e =
    spelled m h f (over Space (reads-blank (x-blanked a ha) refl (over Comma (reads-blank (p-blanked b hb) refl (over Dot (reads-last (size-blanked s hs)))))))
    refl refl (simp (append_assoc, append-nil)) (omega arith)

pub form_count_true : (m : List ℕ) (base w a b c s : ℕ) → is_mnemonic m ≡ true → form_of m (codes " x, p, p.T") ≡ Some (Factors (1 ∷ 1024 ∷ 32 ∷ 4194304 ∷ []), base) → a < 32 → b < 16 → c < 16 → s < 4 → w < 2 ^ 32 → base + a * 1 + b * 32 + c * 1024 + s * 4194304 ≡ w → candidate (((((((m ++ codes " ") ++ x_register a) ++ comma) ++ p_register c) ++ comma) ++ p_register b) ++ dotted s) ≡ Some w
unfolding dot
form_count_true m base w a b c s h f ha hb hc hs hw e =
    spelled m h f (over Space (reads-blank (x-blanked a ha) refl (over Comma (reads-blank (p-blanked c hc) refl (over Comma (reads-blank (p-blanked b hb) refl (over Dot (reads-last (size-blanked s hs)))))))))
    refl refl (simp (append_assoc, append-nil)) (omega arith)

-- R is the text of a register whose blank is l
pub form_dup : (R : ℕ → List ℕ) (l : ℕ) → ((n : ℕ) → n < 32 → IsBlanked (R n) l n) → (m : List ℕ) (base w a b s : ℕ) → is_mnemonic m ≡ true
    → form_of m (codes " z.T, " ++ (l ∷ [])) ≡ Some (Factors (1 ∷ 4194304 ∷ 32 ∷ []), base) → a < 32 → b < 32 → s < 4 → w < 2 ^ 32
    → base + a * 1 + b * 32 + s * 4194304 ≡ w → candidate ((((m ++ codes " ") ++ z_register s a) ++ comma) ++ R b) ≡ Some w
unfolding dot
form_dup R l is m base w a b s h f ha hb hs hw e =
    spelled m h f (over Space (reads-blank (z-blanked a ha) refl (over Dot (reads-blank (size-blanked s hs) refl (over Comma (reads-last (is b hb)))))))
    refl refl (simp (append_assoc, append-nil)) (omega arith)

pub form_series : (R : ℕ → List ℕ) (l : ℕ) → ((n : ℕ) → n < 32 → IsBlanked (R n) l n) → (m : List ℕ) (base w a b n s : ℕ) → is_mnemonic m ≡ true
    → form_of m (codes " z.T, " ++ (l ∷ codes ", #0")) ≡ Some (Factors (1 ∷ 4194304 ∷ 32 ∷ 65536 ∷ []), base) → a < 32 → b < 32 → n < 32 → s < 4 → nat_lt n 16 ≡ true → w < 2 ^ 32
    → base + a * 1 + b * 32 + n * 65536 + s * 4194304 ≡ w → candidate ((((((m ++ codes " ") ++ z_register s a) ++ comma) ++ R b) ++ comma) ++ signed_constant 1 5 n) ≡ Some w
unfolding dot
form_series R l is m base w a b n s h f ha hb hn hs q hw e =
    spelled m h f (over Space (reads-blank (z-blanked a ha) refl (over Dot (reads-blank (size-blanked s hs) refl (over Comma (reads-blank (is b hb) refl (over CommaNumber (reads-last (decimal-blanked (1 * n) (omega arith))))))))))
    refl refl (rw q (simp (append_assoc, append-nil))) (omega arith)

pub form_series_back : (R : ℕ → List ℕ) (l : ℕ) → ((n : ℕ) → n < 32 → IsBlanked (R n) l n) → (m : List ℕ) (base w a b n s : ℕ) → is_mnemonic m ≡ true
    → form_of m (codes " z.T, " ++ (l ∷ codes ", #-0")) ≡ Some (Factors (1 ∷ 4194304 ∷ 32 ∷ 18446744073709486080 ∷ []), base) → a < 32 → b < 32 → n < 32 → s < 4 → nat_lt n 16 ≡ false → w < 2 ^ 32
    → base + a * 1 + b * 32 + n * 65536 + s * 4194304 ≡ w + 1 * 2097152 → candidate ((((((m ++ codes " ") ++ z_register s a) ++ comma) ++ R b) ++ comma) ++ signed_constant 1 5 n) ≡ Some w
unfolding dot
form_series_back R l is m base w a b n s h f ha hb hn hs q hw e =
    spelled m h f (over Space (reads-blank (z-blanked a ha) refl (over Dot (reads-blank (size-blanked s hs) refl (over Comma (reads-blank (is b hb) refl (over CommaNegative (reads-last (decimal-blanked (1 * (32 - n)) (omega arith))))))))))
    refl refl (rw q (simp (append_assoc, append-nil))) (omega arith)

pub form_sel : (m : List ℕ) (base w a b c d s : ℕ) → is_mnemonic m ≡ true → form_of m (codes " z.T, p, z.T, z.T") ≡ Some (Factors (1 ∷ 4194304 ∷ 1024 ∷ 32 ∷ 0 ∷ 65536 ∷ []), base) → a < 32 → b < 32 → c < 16 → d < 32 → s < 4 → w < 2 ^ 32 → base + a * 1 + b * 32 + c * 1024 + d * 65536 + s * 4194304 ≡ w → candidate ((((((((m ++ codes " ") ++ z_register s a) ++ comma) ++ p_register c) ++ comma) ++ z_register s b) ++ comma) ++ z_register s d) ≡ Some w
unfolding dot
form_sel m base w a b c d s h f ha hb hc hd hs hw e =
    spelled m h f (over Space (reads-blank (z-blanked a ha) refl (over Dot (reads-blank (size-blanked s hs) refl (over Comma (reads-blank (p-blanked c hc) refl (over Comma (reads-blank (z-blanked b hb) refl (over Dot (reads-blank (size-blanked s hs) refl (over Comma (reads-blank (z-blanked d hd) refl (over Dot (reads-last (size-blanked s hs)))))))))))))))
    refl refl (simp (append_assoc, append-nil)) (omega arith)
