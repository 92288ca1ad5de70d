-- Places of parameters, and numbers that are the same.
use Rattle.std.proofs.Common.{◌≡◌, ℕ, zero, suc, ◌<◌, List, [], ◌∷◌, true, Some, refl, ap, length, arith}
use Rattle.std.specs.Prelude.{ℤ, pos, negsuc}
use Rattle.std.proofs.lemmas.Bool.{eq-eqb, eqb-true}
use Rattle.kernel_tree.specs.declared.ops.Ty.{Ty}
use Rattle.kernel_tree.specs.Plain.{Parameter}
use Rattle.loop_form.specs.Needs.{same_number}
use Rattle.loop_form.specs.Streams.{type_of_place}

pub typed_place-below : (ps : List Parameter) (p : ℕ) (t : Ty) → type_of_place ps p ≡ Some t → p < length ps
typed_place-below [] p t e = absurd cc
typed_place-below (q ∷ ps) zero t e = omega arith
typed_place-below (q ∷ ps) (suc p) t e = let r = typed_place-below ps p t e in omega (arith, r)

pub same_number-refl : (n : ℤ) → same_number n n ≡ true
same_number-refl (pos n) = eq-eqb n n refl
same_number-refl (negsuc n) = eq-eqb n n refl

pub same_number-told : (m n : ℤ) → same_number m n ≡ true → m ≡ n
same_number-told (pos m) (pos n) e = ap pos (eqb-true m n e)
same_number-told (negsuc m) (negsuc n) e = ap negsuc (eqb-true m n e)
same_number-told (pos m) (negsuc n) e = absurd cc
same_number-told (negsuc m) (pos n) e = absurd cc
