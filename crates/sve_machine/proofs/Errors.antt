-- What is known of an error is known of the error of a call.
use Rattle.std.proofs.Common.{◌≡◌, Result, Ok, Err, sym, subst}
use Rattle.std.specs.Result.{IsErrAnd, IfErr}

pub error_is : {T E : Type 0} (P : E → Type 0) (error : E) (r : Result T E) → P error → IsErrAnd r (λ e. e ≡ error) → IfErr r P
error_is P error (Ok x) p h = tt
error_is P error (Err e) p h = subst P (sym h) p
