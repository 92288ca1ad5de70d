-- A slice by its first element and what is left.
use Rattle.std.proofs.Common.{◌≡◌, ◌-◌, List, [], ◌∷◌, ◌++◌, ◌∙◌, sym, ap, append_assoc, append-nil}

pub append_of_empty : {A : Type 0} (old added : List A) → added ≡ [] → old ≡ old ++ added
append_of_empty old added n = sym (ap (λ l. old ++ l) n ∙ append-nil old)

-- a part and one more, and what follows
pub followed : {A : Type 0} (old middle new first : List A) (x : A) (rest whole : List A) → middle ≡ old ++ (first ++ x ∷ []) → new ≡ middle ++ rest → whole ≡ first ++ x ∷ rest → new ≡ old ++ whole
followed old middle new first x rest whole m n w =
    n ∙ ap (λ l. l ++ rest) m ∙ append_assoc old (first ++ x ∷ []) rest ∙ ap (λ l. old ++ l) (append_assoc first (x ∷ []) rest ∙ sym w)
