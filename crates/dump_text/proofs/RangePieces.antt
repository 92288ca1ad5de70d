-- What is made for each number of a range.
use Rattle.std.proofs.Common.{◌≡◌, ℕ, zero, suc, ◌+◌, List, [], ◌∷◌, ◌++◌, flat_map, sym, ap, ◌∙◌, arith, add-one}
use Rattle.std.proofs.lemmas.List.{flat_map_more}
use Rattle.std.specs.List.{range_with_len}

range_more : (a n j : ℕ) → a + n ≡ j → range_with_len a (suc n) ≡ range_with_len a n ++ j ∷ []
range_more a zero j e = let same : a ≡ j = omega arith in ap (λ x. x ∷ []) same
range_more a (suc n) j e = ap (λ l. a ∷ l) (range_more (a + 1) n j (omega arith))

-- one number more
pub pieces_more : (f : ℕ → List ℕ) (before : List ℕ) (a n j : ℕ) → a + n ≡ j → (before ++ flat_map f (range_with_len a n)) ++ f j ≡ before ++ flat_map f (range_with_len a (n + 1))
pieces_more f before a n j e =
    flat_map_more f before (range_with_len a n) j
    ∙ ap (λ l. before ++ flat_map f l) (sym (range_more a n j e) ∙ ap (range_with_len a) (sym (add-one n)))
