-- The value of an expression that registers fit is one of its type.
use Rattle.std.proofs.Common.{◌≡◌, ℕ, Option, Some, None}
use Rattle.std.specs.Prelude.{ℤ}
use Rattle.guest_types.specs.Memory.{Memory}
use Rattle.kernel_tree.specs.declared.ops.Ty.{Ty}
use Rattle.kernel_tree.specs.Plain.{Term, Literal, Variable, Element, Unary, Operation, Shift, Conversion, Choice}
use Rattle.kernel_tree.specs.Typing.{Scope, own}
use Rattle.kernel_meaning.specs.TypeValues.{IsOf}
use Rattle.kernel_meaning.specs.Eval.{Names, value}
use Rattle.kernel_meaning.specs.Ranges.{AreRanged}
use Rattle.kernel_meaning.proofs.ValueRanges.{IsTyped, value_range}
use Rattle.scalar_words.specs.Layout.{Layout, Homes}
use Rattle.value_code.specs.Fits.{IsSome, Fits}
use Rattle.value_bounds.proofs.InBounds.{AreTyped}
use Rattle.value_bounds.proofs.InBounds as typed

fits_typed : (e : Term) (L : Layout) (hs : Homes) (s : Scope) (T : Ty) (b user : ℕ) → Fits L hs s (Some T) b user e → IsTyped s T e
fits_typed (Literal n) L hs s T b user fits = tt
fits_typed (Variable x) L hs s T b user fits = fits.1
fits_typed (Element a i) L hs s T b user fits = fits.0
fits_typed (Unary op x) L hs s T b user fits = tt
fits_typed (Operation op x y) L hs s T b user fits = tt
fits_typed (Shift left x n) L hs s T b user fits = tt
fits_typed (Conversion x t) L hs s T b user fits = let same : Some t ≡ Some T = fits.0 in cc
fits_typed (Choice c x y) L hs s T b user fits = (fits_typed x L hs s T _ _ fits.0, fits_typed y L hs s T _ _ fits.1)
fits_typed other L hs s T b user fits = absurd fits

pub value-range : (L : Layout) (hs : Homes) (s : Scope) (names : Names) (m : Memory) (e : Term) (T : Ty) (b user : ℕ) (v : ℤ) → Fits L hs s (Some T) b user e → AreRanged s.visible names → value s (Some T) e m names ≡ Some v → IsOf T v
value-range L hs s names m e T b user v fits r is = value_range e s T m names v (fits_typed e L hs s T b user fits) r is

same_some : (o : Option Ty) → IsSome o → typed.IsSome o
same_some None h = absurd h
same_some (Some t) h = tt

-- registers fit an expression whose names, elements and casts have the types that their places want
pub fits_types : (e : Term) (L : Layout) (hs : Homes) (s : Scope) (want : Option Ty) (b user : ℕ) → Fits L hs s want b user e → AreTyped s want e
fits_types (Literal n) L hs s want b user fits = tt
fits_types (Variable x) L hs s want b user fits = fits.1
fits_types (Element a i) L hs s want b user fits = fits.0
fits_types (Unary op x) L hs s want b user fits = fits_types x L hs s want _ _ fits.1
fits_types (Operation op x y) L hs s want b user fits = (fits_types x L hs s want _ _ fits.1, fits_types y L hs s want _ _ fits.2)
fits_types (Shift left x n) L hs s want b user fits = fits_types x L hs s want _ _ fits.1
fits_types (Conversion x t) L hs s want b user fits = (fits.0, same_some (own s x) fits.1, fits_types x L hs s (own s x) _ _ fits.2)
fits_types (Choice c x y) L hs s want b user fits = (fits_types x L hs s want _ _ fits.0, fits_types y L hs s want _ _ fits.1)
fits_types other L hs s want b user fits = absurd fits
