-- The arguments of words, one after the other.
use Rattle.std.proofs.Common.{◌≡◌, ◌∙◌, ◌+◌, ◌<◌, ◌≤◌, ℕ, zero, suc, List, [], ◌∷◌, ◌++◌, length, length-append, drop, get_or, sym, ap, refl, arith, Option, Some, None}
use Rattle.std.specs.Prelude.{option_and_then}
use Rattle.std.specs.Borrow.{Bor}
use Rattle.std.proofs.lemmas.List.{drop_more}
use Rattle.command_line.specs.Line.{arguments_from}
use Rattle.command_line.specs.Numbers.{argument_of}
use Rattle.command_line.specs.View.{all_left}

abbrev after : List ℕ → List (Bor (List ℕ)) → Option ℕ → Option (List ℕ)
after before rest found = option_and_then (λ n. arguments_from (before ++ n ∷ []) (all_left rest)) found

-- the word at a place, and those after it
pub at_word : (words : List (Bor (List ℕ))) (i : ℕ) (d : Bor (List ℕ)) (before text : List ℕ) (found : Option ℕ) → i < length words → text ≡ (get_or words i d).now → found ≡ argument_of text
    → arguments_from before (all_left (drop i words)) ≡ after before (drop (i + 1) words) found
unfolding arguments_from
at_word words i d before text found less t f =
    ap (λ ws. arguments_from before (all_left ws)) (drop_more words i d less) ∙ ap (after before (drop (i + 1) words)) (ap argument_of (sym t) ∙ sym f)

pub next_argument : (words : List (Bor (List ℕ))) (i n : ℕ) (d : Bor (List ℕ)) (before text more : List ℕ) (found : Option ℕ) (whole : Option (List ℕ)) → i < length words → text ≡ (get_or words i d).now
    → found ≡ argument_of text → found ≡ Some n → more ≡ before ++ n ∷ [] → (arguments_from before (all_left (drop i words)) ≡ whole) × (length before ≡ i)
    → (arguments_from more (all_left (drop (i + 1) words)) ≡ whole) × (length more ≡ i + 1)
next_argument words i n d before text more found whole less t f some m inv = (
  ap (λ b. arguments_from b (all_left (drop (i + 1) words))) m ∙ sym (at_word words i d before text found less t f ∙ ap (after before (drop (i + 1) words)) some) ∙ inv.0,
  ap length m ∙ length-append before (n ∷ []) ∙ ap (λ k. k + 1) inv.1,
)

pub no_argument : (words : List (Bor (List ℕ))) (i : ℕ) (d : Bor (List ℕ)) (before text : List ℕ) (found : Option ℕ) (whole : Option (List ℕ)) → i < length words → text ≡ (get_or words i d).now
    → found ≡ argument_of text → found ≡ None → arguments_from before (all_left (drop i words)) ≡ whole → None ≡ whole
no_argument words i d before text found whole less t f none inv = sym (at_word words i d before text found less t f ∙ ap (after before (drop (i + 1) words)) none) ∙ inv

pub all_read : (words : List (Bor (List ℕ))) (i : ℕ) (before : List ℕ) (whole : Option (List ℕ)) → length words ≤ i → arguments_from before (all_left (drop i words)) ≡ whole → Some before ≡ whole
unfolding arguments_from
all_read words i before whole most inv = ap (λ ws. arguments_from before (all_left ws)) (sym (drop_past words i most)) ∙ inv
  where
    drop_past : (ws : List (Bor (List ℕ))) (k : ℕ) → length ws ≤ k → drop k ws ≡ []
    drop_past [] k le = drop_nil k
      where
        drop_nil : (k : ℕ) → drop {A = Bor (List ℕ)} k [] ≡ []
        drop_nil zero = refl
        drop_nil (suc k) = refl
    drop_past (w ∷ ws) zero le = absurd (omega arith)
    drop_past (w ∷ ws) (suc k) le = drop_past ws k (omega arith)
