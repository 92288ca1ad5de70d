-- What calls answer, and the words of a list.
use Rattle.std.proofs.Common.{◌≡◌, ◌∙◌, ◌≤◌, ◌<◌, ◌-◌, ℕ, List, [], ◌∷◌, length, take, drop, map, get_or, sym, ap, refl, arith, Option, None}
use Rattle.std.specs.Prelude.{IfOk, Result}
use Rattle.std.specs.Borrow.{Bor}
use Rattle.std.proofs.lemmas.Result.{IfOk-weaker}
use Rattle.std.proofs.lemmas.List.{take_all}
use Rattle.command_line.specs.Line.{Words, one_file}
use Rattle.command_line.specs.View.{all_left}

pub ok_is : {X T E : Type 0} (r : Result T E) (f : T → X) (y z : X) → IfOk r (λ x. f x ≡ y) → y ≡ z → IfOk r (λ x. f x ≡ z)
ok_is r f y z h e = IfOk-weaker r (λ x. f x ≡ y) (λ x. f x ≡ z) (λ x p. p ∙ e) h

-- a list that is taken apart into the first element and the others
pub opened : {A B : Type 0} (f : A → B) (words : List A) (word : A) → 1 ≤ length words → map f words ≡ f (get_or words 0 word) ∷ map f (take (length words - 1) (drop 1 words))
opened f [] word least = absurd (omega arith)
opened f (first ∷ rest) word least = ap (λ r. f first ∷ map f r) (sym (take_all (length (first ∷ rest) - 1) rest (omega arith)))

pub no_elements : {A B : Type 0} (f : A → B) (words : List A) → length words < 1 → map f words ≡ []
no_elements f [] less = refl
no_elements f (word ∷ rest) less = absurd (omega arith)

-- functions of two words, and of one
module _ {X : Type 0} (f : Words → Option X) where
  pub none_of_fewer : (words : List (Bor (List ℕ))) → f [] ≡ None → ((a : List ℕ) → f (a ∷ []) ≡ None) → length words < 2 → f (all_left words) ≡ None
  none_of_fewer [] none one less = none
  none_of_fewer (a ∷ []) none one less = one a.now
  none_of_fewer (a ∷ b ∷ more) none one less = absurd (omega arith)

  pub none_of_more : (words : List (Bor (List ℕ))) → ((a b c : List ℕ) (more : Words) → f (a ∷ b ∷ c ∷ more) ≡ None) → 3 ≤ length words → f (all_left words) ≡ None
  none_of_more [] many most = absurd (omega arith)
  none_of_more (a ∷ []) many most = absurd (omega arith)
  none_of_more (a ∷ b ∷ []) many most = absurd (omega arith)
  none_of_more (a ∷ b ∷ c ∷ more) many most = many a.now b.now c.now (all_left more)

pub two_left : (words : List (Bor (List ℕ))) (d e : Bor (List ℕ)) → 2 ≤ length words → length words < 3 → all_left words ≡ (get_or words 0 d).now ∷ (get_or words 1 e).now ∷ []
two_left (a ∷ b ∷ []) d e least less = refl
two_left [] d e least less = absurd (omega arith)
two_left (a ∷ []) d e least less = absurd (omega arith)
two_left (a ∷ b ∷ c ∷ more) d e least less = absurd (omega arith)

pub one_left : (words : List (Bor (List ℕ))) (d : Bor (List ℕ)) → 1 ≤ length words → length words < 2 → all_left words ≡ (get_or words 0 d).now ∷ []
one_left (a ∷ []) d least less = refl
one_left [] d least less = absurd (omega arith)
one_left (a ∷ b ∷ more) d least less = absurd (omega arith)

pub no_file : (words : List (Bor (List ℕ))) → length words < 1 → one_file (all_left words) ≡ None
no_file [] less = refl
no_file (a ∷ more) less = absurd (omega arith)

pub more_files : (words : List (Bor (List ℕ))) → 2 ≤ length words → one_file (all_left words) ≡ None
more_files [] most = absurd (omega arith)
more_files (a ∷ []) most = absurd (omega arith)
more_files (a ∷ b ∷ more) most = refl
