-- Where no name is held loosely, any expression may ask for whole values.
use Rattle.std.proofs.Common.{◌≡◌, ℕ, List, [], Bool, true, Option, Some, None, refl}
use Rattle.std.specs.Prelude.{ℤ, option_and_then}
use Rattle.std.proofs.lemmas.Bool.{and_from}
use Rattle.kernel_tree.specs.declared.ops.Ty.{Ty}
use Rattle.kernel_tree.specs.Plain.{Term, Literal, Variable, Element, Unary, Operation, Shift, Conversion, Choice, Comparison, Both, Either, Not}
use Rattle.kernel_tree.specs.Items.{stream_offset}
use Rattle.kernel_tree.specs.Typing.{Scope, lookup, own, element_type, index_type, side_type}
use Rattle.value_code.specs.declared.extent.Extent.{Extent}
use Rattle.value_code.specs.Extents.{Whole, converted_extent}
use Rattle.value_code.specs.Leaving.{unary_asks, binary_asks, shift_asks}
use Rattle.value_code.specs.Covers.{index_covers, covers, covers_truth}

pub index_by : (i : Option (List ℕ)) (want : Option Ty) (o : Option ℤ) (computed : Bool) → computed ≡ true → index_covers [] i None want o computed ≡ true
index_by None want (Some c) computed h = refl
index_by (Some x) want (Some c) computed h = refl
index_by i want None computed h = h

mutual
  pub covers_none : (e : Term) (s : Scope) (w : Extent) (want : Option Ty) → covers [] s w want e ≡ true
  covers_none (Literal z) s w want = refl
  covers_none (Variable x) s w want = refl
  covers_none (Element a i) s w want = index_by s.index (option_and_then element_type (lookup s a)) (stream_offset s.index i) _ (covers_none i s Whole (index_type s i))
  covers_none (Unary op e) s w want = covers_none e s (unary_asks s want op e w) want
  covers_none (Operation op x y) s w want = and_from _ _ (covers_none x s (binary_asks s want op x y w) want) (covers_none y s (binary_asks s want op x y w) want)
  covers_none (Shift left e n) s w want = covers_none e s (shift_asks s want left e n w) want
  covers_none (Conversion e t) s w want = covers_none e s (converted_extent w (own s e) t) (own s e)
  covers_none (Choice c x y) s w want = and_from _ _ (covers_none x s w want) (and_from _ _ (covers_none y s w want) (covers_truth_none c s))
  covers_none (Comparison op x y) s w want = refl
  covers_none (Both x y) s w want = refl
  covers_none (Either x y) s w want = refl
  covers_none (Not e) s w want = refl

  pub covers_truth_none : (e : Term) (s : Scope) → covers_truth [] s e ≡ true
  covers_truth_none (Comparison op x y) s = and_from _ _ (covers_none x s Whole (side_type s x y)) (covers_none y s Whole (side_type s x y))
  covers_truth_none (Both x y) s = and_from _ _ (covers_truth_none x s) (covers_truth_none y s)
  covers_truth_none (Either x y) s = and_from _ _ (covers_truth_none x s) (covers_truth_none y s)
  covers_truth_none (Not e) s = covers_truth_none e s
  covers_truth_none (Literal z) s = refl
  covers_truth_none (Variable x) s = refl
  covers_truth_none (Element a e) s = refl
  covers_truth_none (Unary op e) s = refl
  covers_truth_none (Operation op x y) s = refl
  covers_truth_none (Shift left e n) s = refl
  covers_truth_none (Conversion e t) s = refl
  covers_truth_none (Choice c x y) s = refl
