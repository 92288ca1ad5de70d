-- How many numbers are held, as the code counts them.
use Rattle.std.proofs.Common.{◌≡◌, List, [], ◌∷◌, length, suc, refl, ap}
use Rattle.scalar_words.specs.declared.constant.Constant.{Constant}
use Rattle.scalar_words.specs.View.{constants_of}

pub count_constants : (cs : List Constant) → length (constants_of cs) ≡ length cs
count_constants [] = refl
count_constants (c ∷ cs) = ap suc (count_constants cs)
