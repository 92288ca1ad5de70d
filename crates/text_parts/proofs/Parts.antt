-- Parts of a text between bytes like a mark.
use Rattle.std.proofs.Common.{◌≡◌, ℕ, ◌+◌, ◌<◌, false, List, ◌∷◌, ◌++◌, length, take, drop, get_or, All, sym, ap, ◌∙◌, add-one, ◌≢◌, arith}
use Rattle.std.proofs.lemmas.List.{take-append-drop}
use Rattle.std.proofs.Math.Seq.{drop-cons}
use Rattle.std.proofs.lemmas.List.Splits.{slice_split_at, length-slice_split}
use Rattle.std.proofs.lemmas.Bool.{eq-eqb}
use Rattle.std.specs.List.{slice_split}
use Rattle.text_parts.specs.Parts.{is_byte, parts_at}

pub cut_at : (mark : ℕ) (text : List ℕ) (i : ℕ) → All (λ (b : ℕ). is_byte mark b ≡ false) (take i text) → i < length text → get_or text i 0 ≡ mark → slice_split (is_byte mark) text ≡ take i text ∷ slice_split (is_byte mark) (drop (i + 1) text)
cut_at mark text i before inside here =
    let whole : text ≡ take i text ++ (get_or text i 0 ∷ drop (i + 1) text) =
    sym (take-append-drop i text) ∙ ap (λ l. take i text ++ l) (drop-cons text i 0 inside ∙ ap (λ k. get_or text i 0 ∷ drop k text) (sym (add-one i))) in
    ap (slice_split (is_byte mark)) whole
    ∙ slice_split_at (is_byte mark) (take i text) (get_or text i 0) (drop (i + 1) text) before (eq-eqb (get_or text i 0) mark here)

-- a text has a part
pub some_part : (mark : ℕ) (text : List ℕ) → length (parts_at mark text) ≢ 0
some_part mark text e = absurd (omega (arith, length-slice_split (is_byte mark) text, e))
