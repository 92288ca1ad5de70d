-- What a loop over a list puts at a list's end, item by item.
use Rattle.std.proofs.Common.{◌≡◌, ℕ, ◌+◌, ◌<◌, ◌≤◌, List, [], ◌∷◌, ◌++◌, ◌∙◌, length, drop, get_or, map, Bool, true, false, refl, sym, ap, append_assoc, append-nil}
use Rattle.std.specs.Prelude.{filter, if◌then◌else◌}
use Rattle.std.proofs.lemmas.List.{drop_all}
use Rattle.kernel_tree.proofs.Walks.{next_item}

module _ {E B : Type 0} (put : List E → List B) (xs : List E) (i : ℕ) where
  -- one more item puts more there
  pub one_put : (x : E) (old new more whole : List B) → i < length xs → x ≡ get_or xs i x → new ≡ old ++ more → put (x ∷ drop (i + 1) xs) ≡ more ++ put (drop (i + 1) xs) → old ++ put (drop i xs) ≡ whole → new ++ put (drop (i + 1) xs) ≡ whole
  one_put x old new more whole lt at n e w =
      ap (λ l. l ++ put (drop (i + 1) xs)) n ∙ append_assoc old more (put (drop (i + 1) xs)) ∙ ap (λ l. old ++ l) (sym (ap put (next_item xs i x lt at) ∙ e)) ∙ w

  -- after the last item
  pub all_put : (old whole : List B) → put [] ≡ [] → length xs ≤ i → old ++ put (drop i xs) ≡ whole → old ≡ whole
  all_put old whole none le w = sym (ap (λ l. old ++ l) (ap put (drop_all i xs le) ∙ none) ∙ append-nil old) ∙ w

-- one more of those that pass a test
pub one_where : {A B : Type 0} (f : A → B) (p : A → Bool) (x : A) (xs : List A) → map f (filter p (x ∷ xs)) ≡ (if p x then f x ∷ [] else []) ++ map f (filter p xs)
one_where f p x xs = by_test (p x)
  where
    by_test : (b : Bool) → map f (if b then x ∷ filter p xs else filter p xs) ≡ (if b then f x ∷ [] else []) ++ map f (filter p xs)
    by_test true = refl
    by_test false = refl

module _ {E C : Type 0} (go : C → List E → C) (xs : List E) (i : ℕ) where
  -- a value that is carried through the items
  pub one_carried : (x : E) (now next whole : C) → i < length xs → x ≡ get_or xs i x → go now (x ∷ drop (i + 1) xs) ≡ go next (drop (i + 1) xs) → go now (drop i xs) ≡ whole → go next (drop (i + 1) xs) ≡ whole
  one_carried x now next whole lt at e w = sym (ap (go now) (next_item xs i x lt at) ∙ e) ∙ w

  pub all_carried : (now whole : C) → go now [] ≡ now → length xs ≤ i → go now (drop i xs) ≡ whole → now ≡ whole
  all_carried now whole none le w = sym (ap (go now) (drop_all i xs le) ∙ none) ∙ w
