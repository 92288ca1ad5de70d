-- Which names are held loosely, step by step.
use Rattle.std.proofs.Common.{◌≡◌, Bool, true, false, ℕ, List, [], ◌∷◌, ◌++◌, Option, Some, None, refl, sym, ap, ap₂, ◌∙◌}
use Rattle.std.specs.Prelude.{◌&&◌, if◌then◌else◌, MatchOption, option_and_then}
use Rattle.kernel_tree.specs.declared.fault.Binding.{Binding}
use Rattle.kernel_tree.specs.declared.ops.Ty.{Ty}
use Rattle.kernel_tree.specs.declared.ops.BinaryOp.{BinaryOp}
use Rattle.kernel_tree.specs.declared.ops.UpdateOp.{UpdateOp}
use Rattle.kernel_tree.specs.Plain.{Term, Block, Update}
use Rattle.kernel_tree.specs.Typing.{Scope, lookup, accumulator_type}
use Rattle.kernel_tree.proofs.Walks.{update_type}
use Rattle.kernel_scope.specs.Scopes.{in_body}
use Rattle.kernel_meaning.specs.Operators.{operator_of}
use Rattle.kernel_meaning.specs.TypeValues.{binary_leaves}
use Rattle.scalar_words.specs.declared.loose.Loose.{Loose as LooseName}
use Rattle.scalar_words.specs.View.{loose_of, looses_of}
use Rattle.scalar_words.specs.Layout.{Form, Loose, loose_in}
use Rattle.scalar_words.specs.Words.{is_narrow}
use Rattle.value_code.specs.declared.extent.Extent.{Extent}
use Rattle.value_code.specs.Extents.{binary_extent}
use Rattle.value_code.specs.Covers.{held_extent, is_enough, is_whole, covers}
use Rattle.loop_code.specs.Statements.{update_extent}
use Rattle.loop_code.specs.Loosening.{narrow_at, gained, loosened, covers_action}
use Rattle.loop_code.proofs.Emission.{looses_push}

-- ---- the accumulator of an update that would have to extend it

no_type : (b : Bool) → None ≡ (if b then narrow_at None else None)
no_type true = refl
no_type false = refl

module _ (ls ms : List Loose) (s : Scope) (all : Block) (x : List ℕ) (by : UpdateOp) (op : BinaryOp) (found : Option Binding) (want : Option Ty) (same : ms ≡ ls) (operator : op ≡ operator_of by) (is_found : found ≡ lookup s x) (is_wanted : MatchOption found (want ≡ None) (λ y. want ≡ accumulator_type y)) where
  same_gained : gained ms x op want ≡ gained ls x (operator_of by) (option_and_then accumulator_type (lookup s x))
  same_gained = ap (λ (n : List Loose). gained n x op want) same ∙ ap₂ (λ (o : BinaryOp) (w : Option Ty). gained ls x o w) operator (update_type found want is_wanted ∙ ap (option_and_then accumulator_type) is_found)

  by_gained : (o : Option Ty) (ns : List Loose) → ns ≡ loosened (in_body s) all x o ls → o ≡ gained ms x op want → ns ≡ loosened (in_body s) all x (gained ls x (operator_of by) (option_and_then accumulator_type (lookup s x))) ls
  by_gained o ns e f = e ∙ ap (λ (p : Option Ty). loosened (in_body s) all x p ls) (f ∙ same_gained)

  pub gained_some : (t : Ty) (ns : List Loose) → want ≡ Some t → true ≡ binary_leaves op → true ≡ is_whole ms x → true ≡ is_narrow t → ns ≡ loosened (in_body s) all x (Some t) ls → ns ≡ loosened (in_body s) all x (gained ls x (operator_of by) (option_and_then accumulator_type (lookup s x))) ls
  gained_some t ns is leaves whole narrow e =
      by_gained (Some t) ns e (ap (λ b. if b then Some t else None) narrow ∙ ap narrow_at (sym is) ∙ ap₂ (λ (b c : Bool). if b && c then narrow_at want else None) leaves whole)

  pub gained_wide : (t : Ty) → want ≡ Some t → true ≡ binary_leaves op → true ≡ is_whole ms x → false ≡ is_narrow t → ls ≡ loosened (in_body s) all x (gained ls x (operator_of by) (option_and_then accumulator_type (lookup s x))) ls
  gained_wide t is leaves whole narrow =
      by_gained None ls refl (ap (λ b. if b then Some t else None) narrow ∙ ap narrow_at (sym is) ∙ ap₂ (λ (b c : Bool). if b && c then narrow_at want else None) leaves whole)

  pub gained_held : true ≡ binary_leaves op → false ≡ is_whole ms x → ls ≡ loosened (in_body s) all x (gained ls x (operator_of by) (option_and_then accumulator_type (lookup s x))) ls
  gained_held leaves whole = by_gained None ls refl (ap₂ (λ (b c : Bool). if b && c then narrow_at want else None) leaves whole)

  pub gained_within : false ≡ binary_leaves op → ls ≡ loosened (in_body s) all x (gained ls x (operator_of by) (option_and_then accumulator_type (lookup s x))) ls
  gained_within leaves = by_gained None ls refl (ap (λ b. if b && is_whole ms x then narrow_at want else None) leaves)

  pub gained_none : want ≡ None → ls ≡ loosened (in_body s) all x (gained ls x (operator_of by) (option_and_then accumulator_type (lookup s x))) ls
  gained_none is = by_gained None ls refl (no_type (binary_leaves op && is_whole ms x) ∙ ap (λ (w : Option Ty). gained ms x op w) (sym is))

-- an update asks more of an accumulator than stands in its register
pub covers_update_not : (ls : List Loose) (s : Scope) (x : List ℕ) (by : UpdateOp) (op : BinaryOp) (e : Term) (f : Option Form) (w asked : Extent) (want : Option Ty) (b : Bool) → f ≡ loose_in ls x → op ≡ operator_of by → want ≡ option_and_then accumulator_type (lookup s x) → w ≡ held_extent f → asked ≡ binary_extent op w want → b ≡ is_enough f asked → b ≡ false → false ≡ covers_action ls s (Update x by e)
covers_update_not ls s x by op e f w asked want b h1 h2 h3 h4 h5 h6 h7 =
    let ty = option_and_then accumulator_type (lookup s x) in
    let most = update_extent ls x (operator_of by) ty in
    let i : asked ≡ most = rw (h5, h4, h1, h2, h3) refl in
    let j : is_enough (loose_in ls x) most ≡ false = ap₂ is_enough (sym h1) (sym i) ∙ sym h6 ∙ h7 in
    ap (λ v. v && covers ls s most ty e) (sym j)

-- ---- one name more

pub pushed : (old new : List LooseName) (l : LooseName) (m : Loose) → new ≡ old ++ l ∷ [] → loose_of l ≡ m → looses_of new ≡ looses_of old ++ m ∷ []
pushed old new l m e f = ap looses_of e ∙ looses_push old l ∙ ap (λ y. looses_of old ++ y ∷ []) f
