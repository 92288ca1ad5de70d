-- The place of a name that is none of the others.
use Rattle.std.proofs.Common.{◌≡◌, ℕ, ◌+◌, ◌≤◌, List, map, drop, length, ap, arith}
use Rattle.std.proofs.Math.ListN.{drop_of_length-le}
use Rattle.kernel_scope.specs.declared.scope.Local.{Local}
use Rattle.kernel_scope.specs.Scopes.{local_of}
use Rattle.kernel_plan.specs.Resolve.{most_slots, place}

module _ (ls : List Local) (i : ℕ) (t : List ℕ) (n : ℕ) (so_far : i + place (map local_of (drop i ls)) t ≡ n) where
  pub past_all : i ≤ length ls → length ls ≤ i → length ls + most_slots ≡ n
  past_all h g =
      let here : place (map local_of (drop i ls)) t ≡ most_slots = ap (λ (xs : List Local). place (map local_of xs) t) (drop_of_length-le ls g) in
      omega (arith, so_far, here, h, g)
