-- Bytes put one after another.
use Rattle.std.proofs.Common.{◌≡◌, ℕ, List, [], ◌++◌, ap, ◌∙◌, append_assoc}

-- what was appended stands before the rest
pub before : (old new part rest : List ℕ) → new ≡ old ++ part → new ++ rest ≡ old ++ (part ++ rest)
before old new part rest e = ap (λ l. l ++ rest) e ∙ append_assoc old part rest

pub nothing : (old rest : List ℕ) → old ≡ [] → old ++ rest ≡ rest
nothing old rest e = ap (λ l. l ++ rest) e
