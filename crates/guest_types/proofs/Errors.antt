-- A call that failed owes nothing of a success, and what holds at once holds after any call.
use Rattle.std.proofs.Common.{Result, Ok, Err, ◌≡◌}
use Rattle.std.specs.Result.{IsErr, OnOk, OnErr}
use Rattle.std.proofs.lemmas.Result.{IfOk-from_err}

pub on_error : {T E : Type 0} (P : Type 0) (r : Result T E) → IsErr r → OnOk r P
on_error P r e = IfOk-from_err r (λ _. P) e

pub in_error : {T E P : Type 0} (r : Result T E) → P → OnErr r P
in_error (Ok x) p = tt
in_error (Err e) p = p

pub ok_unique : {T E : Type 0} (a b : T) (r : Result T E) → r ≡ Ok a → r ≡ Ok b → a ≡ b
ok_unique a b r e h = cc
