-- What a read at a place of a list finds.
use Rattle.std.proofs.Common.{◌≡◌, ℕ, List, length, Option, Some, None, Bor, is_some, IfSome, get_or, option_copied, ltb, refl, sym, ltb-true, ltb-false}
use Rattle.std.specs.Prelude.{slice_get}
use Rattle.std.specs.Option.{option_flatten}
use Rattle.std.proofs.lemmas.Option.{slice_get_past, slice_get_read}
use Rattle.lane_emit.specs.LoopRegisters.{flat}

pub looked : {X : Type 0} (o : Option (Bor X)) (xs : List X) (n : ℕ) → is_some o ≡ ltb n (length xs) → IfSome o (λ x. x.now ≡ get_or xs n x.now) → option_copied o ≡ slice_get xs n
looked None xs n e h = sym (slice_get_past xs n (ltb-false n (length xs) (sym e)))
looked (Some x) xs n e h = sym (slice_get_read xs (length xs) n x.now refl (ltb-true n (length xs) (sym e)) h)

pub flat_is : (o : Option (Option ℕ)) → option_flatten o ≡ flat o
flat_is None = refl
flat_is (Some o) = refl
