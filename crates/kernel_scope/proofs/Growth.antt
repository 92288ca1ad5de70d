-- What statements do to a scope: names are added to those that are visible and to those that are declared.
use Rattle.std.proofs.Common.{◌≡◌, ℕ, List, [], ◌∷◌, ◌++◌, Option, Some, None, Bool, true, false, if◌then◌else◌, length, take, refl, sym, ap, ◌∙◌, append_assoc}
use Rattle.std.proofs.lemmas.List.{append-nil}
use Rattle.std.proofs.Math.Seq.{take-append_seam}
use Rattle.kernel_tree.specs.declared.ops.Ty.{Ty}
use Rattle.kernel_tree.specs.declared.fault.Binding.TheVariants as binding
use Rattle.kernel_tree.specs.Plain.{Action, Define, Put, Update, Choose, Leave, Block, Done, Then, Otherwise, Nothing, Else}
use Rattle.kernel_tree.specs.Typing.{Local, Scope, local, is_taken, insert_name, first, own, left, defined, after_action, after_block, after_otherwise}
use Rattle.kernel_scope.specs.Scopes.{kept, closed, in_body}

pub record Grows (s t : Scope) : Type 0 where
  pub more : List Local
  pub visible : t.visible ≡ s.visible ++ more
  pub names : List (List ℕ)
  pub taken : t.taken ≡ s.taken ++ names
  pub index : t.index ≡ s.index
  pub inside : t.inside ≡ s.inside

stays : (s : Scope) → Grows s s
stays s = record { more = []; visible = sym (append-nil s.visible); names = []; taken = sym (append-nil s.taken); index = refl; inside = refl }

further : (s t u : Scope) → Grows s t → Grows t u → Grows s u
further s t u g h = record {
  more = g.more ++ h.more;
  visible = h.visible ∙ ap (λ (ls : List Local). ls ++ h.more) g.visible ∙ append_assoc s.visible g.more h.more;
  names = g.names ++ h.names;
  taken = h.taken ∙ ap (λ (xs : List (List ℕ)). xs ++ h.names) g.taken ∙ append_assoc s.taken g.names h.names;
  index = h.index ∙ g.index;
  inside = h.inside ∙ g.inside;
}

grows_left : (s t : Scope) → Grows s t → Grows s (left s t)
grows_left s t g = record { more = []; visible = sym (append-nil s.visible); names = g.names; taken = g.taken; index = refl; inside = refl }

-- a name that is declared again is no new one
taken_or_added : (b : Bool) (names : List (List ℕ)) (x : List ℕ) → (if b then names else names ++ x ∷ []) ≡ names ++ (if b then [] else x ∷ [])
taken_or_added true names x = sym (append-nil names)
taken_or_added false names x = refl

abbrev new_name : Scope → List ℕ → List (List ℕ)
new_name s x = if is_taken s x then [] else x ∷ []

taken_with_name : (s : Scope) (x : List ℕ) → insert_name s.taken x ≡ s.taken ++ new_name s x
taken_with_name s x = taken_or_added (is_taken s x) s.taken x

define : (s : Scope) (x : List ℕ) (o : Option Ty) → Grows s (defined s x o)
define s x None = record { more = []; visible = sym (append-nil s.visible); names = new_name s x; taken = taken_with_name s x; index = refl; inside = refl }
define s x (Some t) = record { more = local x (binding.Value t) ∷ []; visible = refl; names = new_name s x; taken = taken_with_name s x; index = refl; inside = refl }

mutual
  pub grows_by_action : (a : Action) (s : Scope) → Grows s (after_action s a)
  grows_by_action (Define x t e) s = define s x (first t (own s e))
  grows_by_action (Put a i e) s = stays s
  grows_by_action (Update x op e) s = stays s
  grows_by_action (Choose c b d) s =
      let t = left s (after_block s b) in
      let u = after_otherwise t d in
      grows_left s u (further s t u (grows_left s (after_block s b) (grows_by_block b s)) (grows_by_otherwise d t))
  grows_by_action (Leave c) s = stays s

  pub grows_by_block : (b : Block) (s : Scope) → Grows s (after_block s b)
  grows_by_block Done s = stays s
  grows_by_block (Then a b) s = further s (after_action s a) (after_block (after_action s a) b) (grows_by_action a s) (grows_by_block b (after_action s a))

  pub grows_by_otherwise : (d : Otherwise) (s : Scope) → Grows s (after_otherwise s d)
  grows_by_otherwise Nothing s = stays s
  grows_by_otherwise (Else b) s = grows_by_block b s

pub back : {A : Type 0} (n : ℕ) (xs ys zs : List A) → n ≡ length xs → ys ≡ xs ++ zs → take n ys ≡ xs
back n xs ys zs e q = rw (e, q) (take-append_seam xs zs)

scope_is : (s : Scope) (ls : List Local) (i : Option (List ℕ)) (b : Bool) (names : List (List ℕ)) → ls ≡ s.visible → i ≡ s.index → b ≡ s.inside → record { visible = ls; taken = names; index = i; inside = b } ≡ record s { taken = names }
scope_is s ls i b names e f g = rw (e, f, g) refl

-- after a block those names are visible that were so before it
pub kept-block : (s : Scope) (n : ℕ) (b : Block) → n ≡ length s.visible → kept n (after_block s b) ≡ left s (after_block s b)
kept-block s n b e =
    let g = grows_by_block b s in
    scope_is s _ _ _ (after_block s b).taken (back n s.visible (after_block s b).visible g.more e g.visible) g.index g.inside

scope_same : (s : Scope) (ls : List Local) (i : Option (List ℕ)) (b : Bool) (names : List (List ℕ)) → ls ≡ s.visible → names ≡ s.taken → i ≡ s.index → b ≡ s.inside → record { visible = ls; taken = names; index = i; inside = b } ≡ s
scope_same s ls i b names e f g h = rw (e, f, g, h) refl

-- after the loop the scope is what it was before its body
pub closed-body : (s : Scope) (n m : ℕ) (b : Block) → n ≡ length s.visible → m ≡ length s.taken → s.inside ≡ false → closed n m (after_block (in_body s) b) ≡ s
closed-body s n m b e f o =
    let g = grows_by_block b (in_body s) in
    scope_same s _ _ _ _ (back n s.visible (after_block (in_body s) b).visible g.more e g.visible) (back m s.taken (after_block (in_body s) b).taken g.names f g.taken) g.index (sym o)
