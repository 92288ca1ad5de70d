-- Where there is no answer.
use Rattle.std.specs.Prelude.{◌≡◌, Option, None, IfSome}
use Rattle.std.proofs.Common.{sym, subst}

-- what is not there is whatever is said of it
pub if_some_of_none : {T : Type 0} (P : T → Type 0) (o : Option T) → o ≡ None → IfSome o P
if_some_of_none P o e = subst (λ x. IfSome x P) (sym e) tt
