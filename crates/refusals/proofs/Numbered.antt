-- Numbers at the ends of lines.
use Rattle.std.proofs.Common.{◌≡◌, ℕ, List, [], ◌++◌, ap, ◌∙◌, append-nil}

-- a number at the end of a line
pub line_with : (front number back x y z : List ℕ) → x ≡ front → y ≡ number → z ≡ back → x ++ (y ++ (z ++ [])) ≡ front ++ (number ++ back)
line_with front number back x y z ex ey ez =
    ap (λ t. t ++ (y ++ (z ++ []))) ex ∙ ap (λ t. front ++ (t ++ (z ++ []))) ey ∙ ap (λ t. front ++ (number ++ t)) (append-nil z ∙ ez)
