-- Parts of a text that have no number in them stand in front of what is read; and how such parts are joined.
use Rattle.std.proofs.Common.{◌≡◌, ℕ, List, ◌++◌, true, refl, append_assoc}
use Rattle.std.specs.Prelude.{codes}
use Rattle.number_text.specs.Numbers.{decimal_of}
use Rattle.asm_forms.specs.Blanks.{over_words, meanings, meaning_in, blank_of}
use Rattle.asm_forms.specs.Rules.{dot}
use Rattle.sve_asm.proofs.ByWords.{Reads, is_plain, reads-plain}

pub assoc_index : (m s r o x c y l h d z : List ℕ) → ((m ++ s) ++ r) ++ (((((o ++ x) ++ c) ++ y) ++ (l ++ (h ++ d))) ++ z)
    ≡ m ++ (s ++ (r ++ (o ++ (x ++ (c ++ (y ++ (l ++ (h ++ (d ++ z)))))))))
assoc_index m s r o x c y l h d z = simp append_assoc

pub assoc_load : (m o zz a dot s k pp c e q x g y n z : List ℕ)
    → (m ++ ((((o ++ ((zz ++ a) ++ (dot ++ s))) ++ k) ++ (pp ++ c)) ++ e)) ++ (((((q ++ x) ++ g) ++ y) ++ n) ++ z)
    ≡ m ++ (o ++ (zz ++ (a ++ (dot ++ (s ++ (k ++ (pp ++ (c ++ (e ++ (q ++ (x ++ (g ++ (y ++ (n ++ z))))))))))))))
assoc_load m o zz a dot s k pp c e q x g y n z = simp append_assoc

pub assoc_load_lsl : (m o zz a dot s k pp c e q x g y l h d z : List ℕ)
    → (m ++ ((((o ++ ((zz ++ a) ++ (dot ++ s))) ++ k) ++ (pp ++ c)) ++ e)) ++ (((((q ++ x) ++ g) ++ y) ++ (l ++ (h ++ d))) ++ z)
    ≡ m ++ (o ++ (zz ++ (a ++ (dot ++ (s ++ (k ++ (pp ++ (c ++ (e ++ (q ++ (x ++ (g ++ (y ++ (l ++ (h ++ (d ++ z))))))))))))))))
assoc_load_lsl m o zz a dot s k pp c e q x g y l h d z = simp append_assoc

pub assoc_gather : (m o zz a dot s k pp c e q x g y f z : List ℕ)
    → (m ++ ((((o ++ ((zz ++ a) ++ (dot ++ s))) ++ k) ++ (pp ++ c)) ++ e)) ++ ((((q ++ x) ++ g) ++ ((y ++ f) ++ (dot ++ s))) ++ z)
    ≡ m ++ (o ++ (zz ++ (a ++ (dot ++ (s ++ (k ++ (pp ++ (c ++ (e ++ (q ++ (x ++ (g ++ (y ++ (f ++ (dot ++ (s ++ z))))))))))))))))
assoc_gather m o zz a dot s k pp c e q x g y f z = simp append_assoc

pub assoc_load_no : (m o zz a dot s k pp c e q x n z : List ℕ)
    → (m ++ ((((o ++ ((zz ++ a) ++ (dot ++ s))) ++ k) ++ (pp ++ c)) ++ e)) ++ (((q ++ x) ++ n) ++ z)
    ≡ m ++ (o ++ (zz ++ (a ++ (dot ++ (s ++ (k ++ (pp ++ (c ++ (e ++ (q ++ (x ++ (n ++ z))))))))))))
assoc_load_no m o zz a dot s k pp c e q x n z = simp append_assoc

pub assoc_store_lsl : (m o zz a dot s k pp c q x g y l h d z : List ℕ)
    → ((((m ++ o) ++ ((zz ++ a) ++ (dot ++ s))) ++ k) ++ (pp ++ c)) ++ (((((q ++ x) ++ g) ++ y) ++ (l ++ (h ++ d))) ++ z)
    ≡ m ++ (o ++ (zz ++ (a ++ (dot ++ (s ++ (k ++ (pp ++ (c ++ (q ++ (x ++ (g ++ (y ++ (l ++ (h ++ (d ++ z)))))))))))))))
assoc_store_lsl m o zz a dot s k pp c q x g y l h d z = simp append_assoc

-- what stands between the words of an instruction that have numbers
pub data Part : Type 0 where
  Space : Part
  Comma : Part
  CommaNumber : Part
  Number : Part
  Negative : Part
  Dot : Part
  CommaNegative : Part
  Open : Part
  Close : Part
  CommaOpen : Part
  Zeroing : Part
  Slash : Part
  Merging : Part
  ListOpen : Part
  ListClose : Part
  ZeroingOpen : Part

abbrev pub text_of : Part → List ℕ
text_of Space = codes " "
text_of Comma = codes ", "
text_of CommaNumber = codes ", #"
text_of Number = codes " #"
text_of Negative = codes " #-"
text_of Dot = codes "."
text_of CommaNegative = codes ", #-"
text_of Open = codes "["
text_of Close = codes "]"
text_of CommaOpen = codes ", ["
text_of Zeroing = codes "/z, "
text_of Slash = codes "/"
text_of Merging = codes "/m, "
text_of ListOpen = codes " {"
text_of ListClose = codes "}, "
text_of ZeroingOpen = codes "/z, ["

plain-part : (part : Part) → is_plain (text_of part) ≡ true
unfolding over_words blank_of meanings meaning_in decimal_of
plain-part Space = refl
plain-part other = refl

-- such a part in front of a text
pub over : (part : Part) {text blanks numbers : List ℕ} → Reads text blanks numbers → Reads (text_of part ++ text) (text_of part ++ blanks) numbers
over part r = reads-plain (text_of part) (plain-part part) r
