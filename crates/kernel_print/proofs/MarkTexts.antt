-- The text of a mark that is none of the signs is that of a reserved word.
use Rattle.std.proofs.Common.{◌≡◌, refl}
use Rattle.kernel_tree.specs.declared.mark.Mark.{Mark}
use Rattle.kernel_tree.specs.declared.mark.Mark.TheVariants as mark
use Rattle.kernel_tree.specs.Printing.{reserved_text, mark_text}

pub reserved : (z : Mark)
    → (z ≡ mark.OpenParen → ⊥)
    → (z ≡ mark.CloseParen → ⊥)
    → (z ≡ mark.OpenBracket → ⊥)
    → (z ≡ mark.CloseBracket → ⊥)
    → (z ≡ mark.OpenBrace → ⊥)
    → (z ≡ mark.CloseBrace → ⊥)
    → (z ≡ mark.Comma → ⊥)
    → (z ≡ mark.Semicolon → ⊥)
    → (z ≡ mark.Colon → ⊥)
    → (z ≡ mark.Arrow → ⊥)
    → (z ≡ mark.Range → ⊥)
    → (z ≡ mark.Equals → ⊥)
    → (z ≡ mark.Plus → ⊥)
    → (z ≡ mark.Minus → ⊥)
    → (z ≡ mark.Star → ⊥)
    → (z ≡ mark.ShiftLeft → ⊥)
    → (z ≡ mark.ShiftRight → ⊥)
    → (z ≡ mark.Ampersand → ⊥)
    → (z ≡ mark.Caret → ⊥)
    → (z ≡ mark.Bar → ⊥)
    → (z ≡ mark.AndAnd → ⊥)
    → (z ≡ mark.OrOr → ⊥)
    → (z ≡ mark.Tilde → ⊥)
    → (z ≡ mark.Bang → ⊥)
    → reserved_text z ≡ mark_text z
reserved mark.OpenParen a b c d e f g h i j k l m n o p q r s t u v w x = absurd (a refl)
reserved mark.CloseParen a b c d e f g h i j k l m n o p q r s t u v w x = absurd (b refl)
reserved mark.OpenBracket a b c d e f g h i j k l m n o p q r s t u v w x = absurd (c refl)
reserved mark.CloseBracket a b c d e f g h i j k l m n o p q r s t u v w x = absurd (d refl)
reserved mark.OpenBrace a b c d e f g h i j k l m n o p q r s t u v w x = absurd (e refl)
reserved mark.CloseBrace a b c d e f g h i j k l m n o p q r s t u v w x = absurd (f refl)
reserved mark.Comma a b c d e f g h i j k l m n o p q r s t u v w x = absurd (g refl)
reserved mark.Semicolon a b c d e f g h i j k l m n o p q r s t u v w x = absurd (h refl)
reserved mark.Colon a b c d e f g h i j k l m n o p q r s t u v w x = absurd (i refl)
reserved mark.Arrow a b c d e f g h i j k l m n o p q r s t u v w x = absurd (j refl)
reserved mark.Range a b c d e f g h i j k l m n o p q r s t u v w x = absurd (k refl)
reserved mark.Equals a b c d e f g h i j k l m n o p q r s t u v w x = absurd (l refl)
reserved mark.Plus a b c d e f g h i j k l m n o p q r s t u v w x = absurd (m refl)
reserved mark.Minus a b c d e f g h i j k l m n o p q r s t u v w x = absurd (n refl)
reserved mark.Star a b c d e f g h i j k l m n o p q r s t u v w x = absurd (o refl)
reserved mark.ShiftLeft a b c d e f g h i j k l m n o p q r s t u v w x = absurd (p refl)
reserved mark.ShiftRight a b c d e f g h i j k l m n o p q r s t u v w x = absurd (q refl)
reserved mark.Ampersand a b c d e f g h i j k l m n o p q r s t u v w x = absurd (r refl)
reserved mark.Caret a b c d e f g h i j k l m n o p q r s t u v w x = absurd (s refl)
reserved mark.Bar a b c d e f g h i j k l m n o p q r s t u v w x = absurd (t refl)
reserved mark.AndAnd a b c d e f g h i j k l m n o p q r s t u v w x = absurd (u refl)
reserved mark.OrOr a b c d e f g h i j k l m n o p q r s t u v w x = absurd (v refl)
reserved mark.Tilde a b c d e f g h i j k l m n o p q r s t u v w x = absurd (w refl)
reserved mark.Bang a b c d e f g h i j k l m n o p q r s t u v w x = absurd (x refl)
reserved mark.Kernel a b c d e f g h i j k l m n o p q r s t u v w x = refl
reserved mark.Var a b c d e f g h i j k l m n o p q r s t u v w x = refl
reserved mark.For a b c d e f g h i j k l m n o p q r s t u v w x = refl
reserved mark.In a b c d e f g h i j k l m n o p q r s t u v w x = refl
reserved mark.Let a b c d e f g h i j k l m n o p q r s t u v w x = refl
reserved mark.If a b c d e f g h i j k l m n o p q r s t u v w x = refl
reserved mark.Else a b c d e f g h i j k l m n o p q r s t u v w x = refl
reserved mark.Break a b c d e f g h i j k l m n o p q r s t u v w x = refl
reserved mark.Return a b c d e f g h i j k l m n o p q r s t u v w x = refl
reserved mark.Select a b c d e f g h i j k l m n o p q r s t u v w x = refl
reserved mark.Min a b c d e f g h i j k l m n o p q r s t u v w x = refl
reserved mark.Max a b c d e f g h i j k l m n o p q r s t u v w x = refl
reserved mark.Abs a b c d e f g h i j k l m n o p q r s t u v w x = refl
reserved mark.As a b c d e f g h i j k l m n o p q r s t u v w x = refl
