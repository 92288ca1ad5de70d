-- What an expression is resolved to is told by the visible names and the loop variable.
use Rattle.std.proofs.Common.{◌≡◌, ℕ, List, Bool, Option, Some, None, refl, ap, ap₂, ◌∙◌}
use Rattle.kernel_tree.specs.declared.ops.Ty.{Ty}
use Rattle.kernel_tree.specs.declared.ops.Ty.TheVariants as ty
use Rattle.kernel_tree.specs.Plain.{Term, Literal, Variable, Element, Unary, Operation, Shift, Conversion, Choice, Comparison, Both, Either, Not, Returned}
use Rattle.kernel_tree.specs.Items.{stream_offset}
use Rattle.kernel_tree.specs.Typing.{Scope, first, own, index_type, side_type}
use Rattle.kernel_plan.specs.Trees as trees
use Rattle.kernel_plan.specs.Resolve.{read_tree, resolved}
use Rattle.kernel_plan.specs.Plans.{resolved_answer}

abbrev moved : Scope → List (List ℕ) → Bool → Scope
moved s names b = record s { taken = names; inside = b }

own-moved : (s : Scope) (n : List (List ℕ)) (b : Bool) (e : Term) → own (moved s n b) e ≡ own s e
own-moved s n b (Unary op e) = own-moved s n b e
own-moved s n b (Operation op x y) = ap₂ first (own-moved s n b x) (own-moved s n b y)
own-moved s n b (Shift left e k) = own-moved s n b e
own-moved s n b (Choice c x y) = ap₂ first (own-moved s n b x) (own-moved s n b y)
own-moved s n b other = refl

resolved-moved : (s : Scope) (n : List (List ℕ)) (b : Bool) (want : Option Ty) (e : Term) → resolved (moved s n b) want e ≡ resolved s want e
resolved-moved s n b want (Literal k) = refl
resolved-moved s n b want (Variable x) = refl
resolved-moved s n b want (Element a i) =
    ap (read_tree s a (stream_offset s.index i)) (ap (λ o. resolved (moved s n b) (first o (Some ty.U64)) i) (own-moved s n b i) ∙ resolved-moved s n b (index_type s i) i)
resolved-moved s n b want (Unary op e) = ap (trees.Unary op want) (resolved-moved s n b want e)
resolved-moved s n b want (Operation op x y) = ap₂ (trees.Binary op want) (resolved-moved s n b want x) (resolved-moved s n b want y)
resolved-moved s n b want (Shift left e k) = ap (trees.Shift left k want) (resolved-moved s n b want e)
resolved-moved s n b want (Conversion e t) = ap (trees.Cast t) (ap (λ o. resolved (moved s n b) o e) (own-moved s n b e) ∙ resolved-moved s n b (own s e) e)
resolved-moved s n b want (Choice c x y) =
    ap₂ (λ f g. trees.Select f g (resolved (moved s n b) want y)) (resolved-moved s n b None c) (resolved-moved s n b want x)
    ∙ ap (trees.Select (resolved s None c) (resolved s want x)) (resolved-moved s n b want y)
resolved-moved s n b want (Comparison op x y) =
    let side = ap₂ first (own-moved s n b x) (own-moved s n b y) in
    ap (λ o. trees.Compare op (resolved (moved s n b) o x) (resolved (moved s n b) o y)) side
    ∙ ap₂ (trees.Compare op) (resolved-moved s n b (side_type s x y) x) (resolved-moved s n b (side_type s x y) y)
resolved-moved s n b want (Both x y) = ap₂ trees.And (resolved-moved s n b None x) (resolved-moved s n b None y)
resolved-moved s n b want (Either x y) = ap₂ trees.Or (resolved-moved s n b None x) (resolved-moved s n b None y)
resolved-moved s n b want (Not e) = ap trees.Not (resolved-moved s n b None e)

pub resolved-same : (s t : Scope) (want : Option Ty) (e : Term) → t.visible ≡ s.visible → t.index ≡ s.index → resolved t want e ≡ resolved s want e
resolved-same s t want e f g =
    ap₂ (λ v i. resolved (record { visible = v; taken = t.taken; index = i; inside = t.inside }) want e) f g ∙ resolved-moved s t.taken t.inside want e

pub answer-same : (s t : Scope) (a : Option Returned) → t.visible ≡ s.visible → t.index ≡ s.index → resolved_answer t a ≡ resolved_answer s a
answer-same s t None f g = refl
answer-same s t (Some a) f g = ap Some (resolved-same s t (Some a.type) a.value f g)
