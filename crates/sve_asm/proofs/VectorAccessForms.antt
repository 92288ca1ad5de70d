-- The texts of the SVE forms of accesses, read back.
use Rattle.std.proofs.Common.{◌≡◌, ℕ, ◌+◌, ◌*◌, ◌%◌, ◌^◌, ◌<◌, List, [], ◌∷◌, ◌++◌, true, false, Some, refl, ◌∙◌, arith, append_assoc, eqb, ap}
use Rattle.std.specs.Prelude.{decimal, codes}
use Rattle.std.proofs.lemmas.List.{append-nil}
use Rattle.list_text.specs.Parts.{x_register, x_or_sp, p_register, size_letter, comma, z_register, at_register, at_offset}
use Rattle.list_text.specs.SveText as sve
use Rattle.asm_forms.specs.Rules.{Factors, dot, form_of}
use Rattle.asm_forms.specs.Reading.{candidate}
use Rattle.sve_asm.proofs.Words.{decimal-blanked}
use Rattle.sve_asm.proofs.ByWords.{reads-blank, reads-none}
use Rattle.sve_asm.proofs.Pieces.{x-blanked, x_or_sp-blanked, p-blanked, z-blanked, size-blanked, d_size-blanked, lsl-blanked}
use Rattle.sve_asm.proofs.Spelled.{is_mnemonic, spelled}
use Rattle.sve_asm.proofs.PlainParts.{assoc_load, assoc_load_lsl, assoc_load_no, assoc_gather, assoc_store_lsl, over, Comma, Number, Dot, Close, CommaOpen, ListOpen, ListClose, ZeroingOpen}

-- what the numbers of a load add, where p is that of its size
sum_index : (base a b c d p : ℕ) → base + (1 * a + (p + (1024 * c + (32 * b + (65536 * d + 0))))) ≡ base + a * 1 + b * 32 + c * 1024 + d * 65536 + p
sum_index base a b c d p = omega arith

sum_no : (base a b c p : ℕ) → base + (1 * a + (p + (1024 * c + (32 * b + 0)))) ≡ base + a * 1 + b * 32 + c * 1024 + p
sum_no base a b c p = omega arith

pub form_load : (f : ℕ) (m : List ℕ) (base w a b c d s : ℕ) → is_mnemonic m ≡ true → form_of m (codes " {z.T}, p/z, [x, x]") ≡ Some (Factors (1 ∷ f ∷ 1024 ∷ 32 ∷ 65536 ∷ []), base) → a < 32 → b < 32 → c < 16 → d < 32 → s < 4 → (base + a * 1 + b * 32 + c * 1024 + d * 65536 + f * s) % 2 ^ 32 ≡ w → candidate ((m ++ sve.loaded s a c) ++ at_register b d 0) ≡ Some w
unfolding dot
form_load f m base w a b c d s h g ha hb hc hd hs e =
    spelled m h g (over ListOpen (reads-blank (z-blanked a ha) refl (over Dot (reads-blank (size-blanked s hs) refl (over ListClose (reads-blank (p-blanked c hc) refl (over ZeroingOpen (reads-blank (x_or_sp-blanked b hb) refl (over Comma (reads-blank (x-blanked d hd) refl (over Close reads-none)))))))))))
    refl refl (assoc_load m (codes " {") (codes "z") (decimal a) (codes ".") (size_letter s) (codes "}, ") (codes "p") (decimal c) (codes "/z") (codes ", [") (x_or_sp b) comma (x_register d) [] (codes "]")) (ap (λ x. x % 2 ^ 32) (sum_index base a b c d (f * s)) ∙ e)

pub form_load_lsl : (f : ℕ) (m : List ℕ) (base w a b c d s k : ℕ) → is_mnemonic m ≡ true → form_of m (codes " {z.T}, p/z, [x, x, l #0]") ≡ Some (Factors (1 ∷ f ∷ 1024 ∷ 32 ∷ 65536 ∷ []), base) → a < 32 → b < 32 → c < 16 → d < 32 → s < 4 → k < 4 → eqb k 0 ≡ false → (base + a * 1 + b * 32 + c * 1024 + d * 65536 + f * s) % 2 ^ 32 ≡ w → candidate ((m ++ sve.loaded s a c) ++ at_register b d k) ≡ Some w
unfolding dot
form_load_lsl f m base w a b c d s k h g ha hb hc hd hs hk q0 e =
    spelled m h g (over ListOpen (reads-blank (z-blanked a ha) refl (over Dot (reads-blank (size-blanked s hs) refl (over ListClose (reads-blank (p-blanked c hc) refl (over ZeroingOpen (reads-blank (x_or_sp-blanked b hb) refl (over Comma (reads-blank (x-blanked d hd) refl (over Comma (reads-blank lsl-blanked refl (over Number (reads-blank (decimal-blanked k (omega arith)) refl (over Close reads-none)))))))))))))))
    refl refl (rw q0 (assoc_load_lsl m (codes " {") (codes "z") (decimal a) (codes ".") (size_letter s) (codes "}, ") (codes "p") (decimal c) (codes "/z") (codes ", [") (x_or_sp b) comma (x_register d) (codes ", lsl ") (codes "#") (decimal k) (codes "]"))) (ap (λ x. x % 2 ^ 32) (sum_index base a b c d (f * s)) ∙ e)

pub form_load_no : (f : ℕ) (m : List ℕ) (base w a b c s : ℕ) → is_mnemonic m ≡ true → form_of m (codes " {z.T}, p/z, [x]") ≡ Some (Factors (1 ∷ f ∷ 1024 ∷ 32 ∷ []), base) → a < 32 → b < 32 → c < 16 → s < 4 → (base + a * 1 + b * 32 + c * 1024 + f * s) % 2 ^ 32 ≡ w → candidate ((m ++ sve.loaded s a c) ++ at_offset b 0) ≡ Some w
unfolding dot
form_load_no f m base w a b c s h g ha hb hc hs e =
    spelled m h g (over ListOpen (reads-blank (z-blanked a ha) refl (over Dot (reads-blank (size-blanked s hs) refl (over ListClose (reads-blank (p-blanked c hc) refl (over ZeroingOpen (reads-blank (x_or_sp-blanked b hb) refl (over Close reads-none)))))))))
    refl refl (assoc_load_no m (codes " {") (codes "z") (decimal a) (codes ".") (size_letter s) (codes "}, ") (codes "p") (decimal c) (codes "/z") (codes ", [") (x_or_sp b) [] (codes "]")) (ap (λ x. x % 2 ^ 32) (sum_no base a b c (f * s)) ∙ e)

pub form_gather : (m : List ℕ) (base w a b c d : ℕ) → is_mnemonic m ≡ true → form_of m (codes " {z.T}, p/z, [x, z.T]") ≡ Some (Factors (1 ∷ 0 ∷ 1024 ∷ 32 ∷ 65536 ∷ []), base) → a < 32 → b < 32 → c < 16 → d < 32 → w < 2 ^ 32 → base + a * 1 + b * 32 + c * 1024 + d * 65536 ≡ w → candidate (sve.gather m (a ∷ b ∷ c ∷ d ∷ [])) ≡ Some w
unfolding dot
form_gather m base w a b c d h f ha hb hc hd hw e =
    spelled m h f (over ListOpen (reads-blank (z-blanked a ha) refl (over Dot (reads-blank d_size-blanked refl (over ListClose (reads-blank (p-blanked c hc) refl (over ZeroingOpen (reads-blank (x_or_sp-blanked b hb) refl (over Comma (reads-blank (z-blanked d hd) refl (over Dot (reads-blank d_size-blanked refl (over Close reads-none)))))))))))))
    refl refl (assoc_gather m (codes " {") (codes "z") (decimal a) (codes ".") (codes "d") (codes "}, ") (codes "p") (decimal c) (codes "/z") (codes ", [") (x_or_sp b) comma (codes "z") (decimal d) (codes "]")) (omega arith)

pub form_store : (m : List ℕ) (base w a b c d s : ℕ) → is_mnemonic m ≡ true → form_of m (codes " {z.T}, p, [x, x]") ≡ Some (Factors (1 ∷ 2097152 ∷ 1024 ∷ 32 ∷ 65536 ∷ []), base) → a < 32 → b < 32 → c < 16 → d < 32 → s < 4 → w < 2 ^ 32 → base + a * 1 + b * 32 + c * 1024 + d * 65536 + s * 2097152 ≡ w → candidate (((((m ++ codes " {") ++ z_register s a) ++ codes "}, ") ++ p_register c) ++ at_register b d 0) ≡ Some w
unfolding dot
form_store m base w a b c d s h f ha hb hc hd hs hw e =
    spelled m h f (over ListOpen (reads-blank (z-blanked a ha) refl (over Dot (reads-blank (size-blanked s hs) refl (over ListClose (reads-blank (p-blanked c hc) refl (over CommaOpen (reads-blank (x_or_sp-blanked b hb) refl (over Comma (reads-blank (x-blanked d hd) refl (over Close reads-none)))))))))))
    refl refl (simp (append_assoc, append-nil)) (omega arith)

pub form_store_lsl : (m : List ℕ) (base w a b c d s k : ℕ) → is_mnemonic m ≡ true → form_of m (codes " {z.T}, p, [x, x, l #0]") ≡ Some (Factors (1 ∷ 2097152 ∷ 1024 ∷ 32 ∷ 65536 ∷ []), base) → a < 32 → b < 32 → c < 16 → d < 32 → s < 4 → k < 4 → eqb k 0 ≡ false → w < 2 ^ 32 → base + a * 1 + b * 32 + c * 1024 + d * 65536 + s * 2097152 ≡ w → candidate (((((m ++ codes " {") ++ z_register s a) ++ codes "}, ") ++ p_register c) ++ at_register b d k) ≡ Some w
unfolding dot
form_store_lsl m base w a b c d s k h f ha hb hc hd hs hk q0 hw e =
    spelled m h f (over ListOpen (reads-blank (z-blanked a ha) refl (over Dot (reads-blank (size-blanked s hs) refl (over ListClose (reads-blank (p-blanked c hc) refl (over CommaOpen (reads-blank (x_or_sp-blanked b hb) refl (over Comma (reads-blank (x-blanked d hd) refl (over Comma (reads-blank lsl-blanked refl (over Number (reads-blank (decimal-blanked k (omega arith)) refl (over Close reads-none)))))))))))))))
    refl refl (rw q0 (assoc_store_lsl m (codes " {") (codes "z") (decimal a) (codes ".") (size_letter s) (codes "}, ") (codes "p") (decimal c) (codes ", [") (x_or_sp b) comma (x_register d) (codes ", lsl ") (codes "#") (decimal k) (codes "]"))) (omega arith)
