-- Whether an expression asks no more of a name than stands in its register, where some accumulators are held loosely.
use Rattle.std.specs.Prelude.{ℤ, List, Bool, true, false, ◌&&◌, Option, Some, None, is_none, option_and_then, nat_eq, ℕ}
use Rattle.kernel_tree.specs.declared.ops.Ty.{Ty}
use Rattle.kernel_tree.specs.Plain.{Term, Literal, Variable, Element, Unary, Operation, Shift, Conversion, Choice, Comparison, Both, Either, Not}
use Rattle.kernel_tree.specs.Items.{stream_offset}
use Rattle.kernel_tree.specs.Typing.{Scope, lookup, own, element_type, index_type, side_type}
use Rattle.kernel_tree.specs.Wrap.{byte_count}
use Rattle.scalar_words.specs.Layout.{Form, LowBits, Ahead, Behind, Loose, loose_in}
use Rattle.value_code.specs.declared.extent.Extent.{Extent}
use Rattle.value_code.specs.Extents.{Whole, extent_of, within_type, converted_extent}
use Rattle.value_code.specs.Leaving.{unary_asks, binary_asks, shift_asks}

-- what a name that is held so tells
abbrev pub held_extent : Option Form → Extent
held_extent (Some (LowBits t)) = extent_of t
held_extent _ = Whole

abbrev pub is_enough : Option Form → Extent → Bool
is_enough None w = true
is_enough (Some (LowBits t)) w = within_type w t
is_enough (Some (Ahead t)) w = false
is_enough (Some Behind) w = false

-- the value itself stands in a name's register
abbrev pub is_whole : List Loose → List ℕ → Bool
is_whole ls x = is_none (loose_in ls x)

-- the loop variable
abbrev pub index_form : List Loose → Option (List ℕ) → Option Form
index_form ls None = None
index_form ls (Some x) = loose_in ls x

-- an array of elements of a type and the loop variable stand in their registers so that the address of each element at an
-- offset from the loop variable is the sum of the two
abbrev pub stands_together : (array index : Option Form) → Option Ty → Bool
stands_together None None want = true
stands_together (Some (Ahead t)) (Some Behind) (Some u) = nat_eq (byte_count t) (byte_count u)
stands_together _ _ _ = false

-- an index of such an array: an offset from the loop variable, or one that is computed
abbrev pub index_covers : List Loose → Option (List ℕ) → (array : Option Form) → Option Ty → Option ℤ → (computed : Bool) → Bool
index_covers ls i array want (Some c) computed = stands_together array (index_form ls i) want
index_covers ls i array want None computed = is_none array && computed

-- of the expression so much is asked for
abbrev mutual
  pub covers : List Loose → Scope → Extent → Option Ty → Term → Bool
  covers ls s w want (Literal z) = true
  covers ls s w want (Variable x) = is_enough (loose_in ls x) w
  covers ls s w want (Element a e) =
      index_covers ls s.index (loose_in ls a) (option_and_then element_type (lookup s a)) (stream_offset s.index e) (covers ls s Whole (index_type s e) e)
  covers ls s w want (Unary op e) = covers ls s (unary_asks s want op e w) want e
  covers ls s w want (Operation op x y) = covers ls s (binary_asks s want op x y w) want x && covers ls s (binary_asks s want op x y w) want y
  covers ls s w want (Shift left e n) = covers ls s (shift_asks s want left e n w) want e
  covers ls s w want (Conversion e t) = covers ls s (converted_extent w (own s e) t) (own s e) e
  covers ls s w want (Choice c x y) = covers ls s w want x && (covers ls s w want y && covers_truth ls s c)
  covers ls s w want (Comparison op x y) = true
  covers ls s w want (Both x y) = true
  covers ls s w want (Either x y) = true
  covers ls s w want (Not e) = true

  pub covers_truth : List Loose → Scope → Term → Bool
  covers_truth ls s (Comparison op x y) = covers ls s Whole (side_type s x y) x && covers ls s Whole (side_type s x y) y
  covers_truth ls s (Both x y) = covers_truth ls s x && covers_truth ls s y
  covers_truth ls s (Either x y) = covers_truth ls s x && covers_truth ls s y
  covers_truth ls s (Not e) = covers_truth ls s e
  covers_truth ls s (Literal z) = true
  covers_truth ls s (Variable x) = true
  covers_truth ls s (Element a e) = true
  covers_truth ls s (Unary op e) = true
  covers_truth ls s (Operation op x y) = true
  covers_truth ls s (Shift left e n) = true
  covers_truth ls s (Conversion e t) = true
  covers_truth ls s (Choice c x y) = true
