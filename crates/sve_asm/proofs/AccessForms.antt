-- The texts of A64 accesses, read back: each has the one word that its numbers make. `R` is the text of the register that is loaded or stored, `l` its blank.
use Rattle.std.proofs.Common.{◌≡◌, ℕ, ◌+◌, ◌*◌, ◌^◌, ◌<◌, List, [], ◌∷◌, ◌++◌, true, false, Some, refl, append_assoc, arith, eqb}
use Rattle.std.specs.Prelude.{decimal, codes}
use Rattle.list_text.specs.Parts.{x_register, x_or_sp, comma, at_offset, at_register}
use Rattle.asm_forms.specs.Rules.{Factors, dot, form_of}
use Rattle.asm_forms.specs.Reading.{candidate}
use Rattle.sve_asm.proofs.Words.{IsBlanked, decimal-blanked}
use Rattle.sve_asm.proofs.ByWords.{reads-blank, reads-none}
use Rattle.sve_asm.proofs.Pieces.{x-blanked, x_or_sp-blanked, lsl-blanked}
use Rattle.sve_asm.proofs.Spelled.{is_mnemonic, spelled}
use Rattle.sve_asm.proofs.PlainParts.{assoc_index, over, Space, Comma, CommaNumber, Number, Close, CommaOpen}

assoc_offset : (m s r o x c h d z : List ℕ) → ((m ++ s) ++ r) ++ (((o ++ x) ++ (c ++ (h ++ d))) ++ z) ≡ m ++ (s ++ (r ++ (o ++ (x ++ (c ++ (h ++ (d ++ z)))))))
assoc_offset m s r o x c h d z = simp append_assoc

assoc_none : (m s r o x e z : List ℕ) → ((m ++ s) ++ r) ++ (((o ++ x) ++ e) ++ z) ≡ m ++ (s ++ (r ++ (o ++ (x ++ (e ++ z)))))
assoc_none m s r o x e z = simp append_assoc

assoc_plain : (m s r o x c y e z : List ℕ) → ((m ++ s) ++ r) ++ (((((o ++ x) ++ c) ++ y) ++ e) ++ z) ≡ m ++ (s ++ (r ++ (o ++ (x ++ (c ++ (y ++ (e ++ z)))))))
assoc_plain m s r o x c y e z = simp append_assoc

-- the offset is by v bytes, and n its field
pub form_no_offset : (R : ℕ → List ℕ) (l : ℕ) → ((n : ℕ) → n < 32 → IsBlanked (R n) l n) → (m : List ℕ) (base w a b v : ℕ) → is_mnemonic m ≡ true
    → form_of m (32 ∷ l ∷ codes ", [x]") ≡ Some (Factors (1 ∷ 32 ∷ []), base) → a < 32 → b < 32 → eqb v 0 ≡ true → w < 2 ^ 32 → base + a * 1 + b * 32 ≡ w
    → candidate (((m ++ codes " ") ++ R a) ++ at_offset b v) ≡ Some w
unfolding dot
form_no_offset R l is m base w a b v h f ha hb q hw e =
    spelled m h f (over Space (reads-blank (is a ha) refl (over CommaOpen (reads-blank (x_or_sp-blanked b hb) refl (over Close reads-none)))))
    refl refl (rw q (assoc_none m (codes " ") (R a) (codes ", [") (x_or_sp b) [] (codes "]"))) (omega arith)

pub form_offset : (R : ℕ → List ℕ) (l : ℕ) → ((n : ℕ) → n < 32 → IsBlanked (R n) l n) → (m : List ℕ) (base w a b n v k : ℕ) → is_mnemonic m ≡ true
    → form_of m (32 ∷ l ∷ codes ", [x, #0]") ≡ Some (Factors (1 ∷ 32 ∷ k ∷ []), base) → a < 32 → b < 32 → v < 32768 → k * v ≡ n * 1024 → eqb v 0 ≡ false
    → w < 2 ^ 32 → base + a * 1 + b * 32 + n * 1024 ≡ w → candidate (((m ++ codes " ") ++ R a) ++ at_offset b v) ≡ Some w
unfolding dot
form_offset R l is m base w a b n v k h f ha hb hv scale q hw e =
    spelled m h f (over Space (reads-blank (is a ha) refl (over CommaOpen (reads-blank (x_or_sp-blanked b hb) refl
    (over CommaNumber (reads-blank (decimal-blanked v (omega arith)) refl (over Close reads-none)))))))
    refl refl (rw q (assoc_offset m (codes " ") (R a) (codes ", [") (x_or_sp b) comma (codes "#") (decimal v) (codes "]"))) (rw scale (omega arith))

pub form_index : (R : ℕ → List ℕ) (l : ℕ) → ((n : ℕ) → n < 32 → IsBlanked (R n) l n) → (m : List ℕ) (base w a b c v : ℕ) → is_mnemonic m ≡ true
    → form_of m (32 ∷ l ∷ codes ", [x, x]") ≡ Some (Factors (1 ∷ 32 ∷ 65536 ∷ []), base) → a < 32 → b < 32 → c < 32 → eqb v 0 ≡ true
    → w < 2 ^ 32 → base + a * 1 + b * 32 + c * 65536 ≡ w → candidate (((m ++ codes " ") ++ R a) ++ at_register b c v) ≡ Some w
unfolding dot
form_index R l is m base w a b c v h f ha hb hc q hw e =
    spelled m h f (over Space (reads-blank (is a ha) refl (over CommaOpen (reads-blank (x_or_sp-blanked b hb) refl
    (over Comma (reads-blank (x-blanked c hc) refl (over Close reads-none)))))))
    refl refl (rw q (assoc_plain m (codes " ") (R a) (codes ", [") (x_or_sp b) comma (x_register c) [] (codes "]"))) (omega arith)

pub form_index_lsl : (R : ℕ → List ℕ) (l : ℕ) → ((n : ℕ) → n < 32 → IsBlanked (R n) l n) → (m : List ℕ) (base w a b c v : ℕ) → is_mnemonic m ≡ true
    → form_of m (32 ∷ l ∷ codes ", [x, x, l #0]") ≡ Some (Factors (1 ∷ 32 ∷ 65536 ∷ []), base) → a < 32 → b < 32 → c < 32 → v < 64 → eqb v 0 ≡ false
    → w < 2 ^ 32 → base + a * 1 + b * 32 + c * 65536 ≡ w → candidate (((m ++ codes " ") ++ R a) ++ at_register b c v) ≡ Some w
unfolding dot
form_index_lsl R l is m base w a b c v h f ha hb hc hv q hw e =
    spelled m h f (over Space (reads-blank (is a ha) refl (over CommaOpen (reads-blank (x_or_sp-blanked b hb) refl (over Comma (reads-blank (x-blanked c hc) refl
    (over Comma (reads-blank lsl-blanked refl (over Number (reads-blank (decimal-blanked v (omega arith)) refl (over Close reads-none)))))))))))
    refl refl (rw q (assoc_index m (codes " ") (R a) (codes ", [") (x_or_sp b) comma (x_register c) (codes ", lsl ") (codes "#") (decimal v) (codes "]"))) (omega arith)
