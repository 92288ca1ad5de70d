-- Names that the code keeps, as the scope of the rules of typing has them.
use Rattle.std.proofs.Common.{◌≡◌, ℕ, List, [], ◌∷◌, ◌++◌, Bool, true, false, Option, map, take, refl, sym, ap, ◌∙◌, if◌then◌else◌}
use Rattle.std.specs.Prelude.{bytes_eq, option_map, ◌||◌}
use Rattle.std.specs.List.{find, list_any}
use Rattle.std.specs.Borrow.{Bor}
use Rattle.std.proofs.lemmas.List.{take-map, map_push}
use Rattle.indexmap.specs.IndexSet.{insert_key}
use Rattle.kernel_tree.specs.declared.fault.Binding.{Binding}
use Rattle.kernel_tree.specs.Typing as typing
use Rattle.kernel_scope.specs.declared.scope.Local.{Local}
use Rattle.kernel_scope.specs.Scopes.{lent_text, local_of, named, binding_among}

abbrev found : List Local → List ℕ → Option Binding
found ls x = option_map typing.binding_of (find (typing.has_name x) (map local_of ls))

found_of_cons : (b : Bool) (l : Local) (ls : List Local) (x : List ℕ) → named x l ≡ b → found ls x ≡ binding_among ls x → found (l ∷ ls) x ≡ binding_among (l ∷ ls) x
found_of_cons true l ls x e h = rw e refl
found_of_cons false l ls x e h = rw e h

pub binding-among : (ls : List Local) (x : List ℕ) → option_map typing.binding_of (find (typing.has_name x) (map local_of ls)) ≡ binding_among ls x
binding-among [] x = refl
binding-among (l ∷ ls) x = found_of_cons (named x l) l ls x refl (binding-among ls x)

abbrev pub is_text : List ℕ → Bor (List ℕ) → Bool
is_text x t = bytes_eq x (lent_text t)

abbrev same_text : Bor (List ℕ) → Bor (List ℕ) → Bool
same_text s t = is_text (lent_text s) t

pub is-among : (ts : List (Bor (List ℕ))) (x : List ℕ) → list_any (bytes_eq x) (map lent_text ts) ≡ list_any (is_text x) ts
is-among [] x = refl
is-among (t ∷ ts) x = ap (λ (b : Bool). is_text x t || b) (is-among ts x)

lent_texts_of_push : (b : Bool) (ts : List (Bor (List ℕ))) (t : Bor (List ℕ)) → map lent_text (if b then ts else ts ++ t ∷ []) ≡ (if b then map lent_text ts else map lent_text ts ++ lent_text t ∷ [])
lent_texts_of_push true ts t = refl
lent_texts_of_push false ts t = map_push lent_text ts t

-- a text goes into a set as its bytes go among the names
pub insert-text : (ts : List (Bor (List ℕ))) (t : Bor (List ℕ)) → map lent_text (insert_key same_text ts t) ≡ typing.insert_name (map lent_text ts) (lent_text t)
insert-text ts t =
    let among = λ (b : Bool). if b then map lent_text ts else map lent_text ts ++ lent_text t ∷ [] in
    lent_texts_of_push (list_any (same_text t) ts) ts t ∙ ap among (sym (is-among ts (lent_text t)))

pub take_locals : (n : ℕ) (ls : List Local) → take n (map local_of ls) ≡ map local_of (take n ls)
take_locals n ls = take-map local_of n ls

pub take_texts : (n : ℕ) (ts : List (Bor (List ℕ))) → take n (map lent_text ts) ≡ map lent_text (take n ts)
take_texts n ts = take-map lent_text n ts
