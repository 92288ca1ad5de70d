-- In a loop of class Vector each accumulator is updated by one operator.
use Rattle.std.proofs.Common.{◌≡◌, ℕ, zero, suc, Bool, true, false, cond, List, [], ◌∷◌, ◌++◌, Some, refl, sym, ap, ◌∙◌}
use Rattle.std.specs.Prelude.{bytes_eq, nat_eq, not, ◌||◌, ◌&&◌}
use Rattle.std.specs.List.{list_any, find}
use Rattle.std.proofs.lemmas.Bool.{eqb-true, or_parts}
use Rattle.kernel_tree.specs.declared.ops.UpdateOp.{UpdateOp}
use Rattle.kernel_tree.specs.Plain.{Program}
use Rattle.loop_form.specs.Entries.{Content, IsLiteral, IsUpdate, Entry, loop_entries}
use Rattle.loop_form.specs.Needs.{is_update, updates}
use Rattle.dependence.specs.Classes.{number_of_update, other_update, updates_otherwise, mixed_content, is_mixed, class_of}
use Rattle.dependence.specs.declared.reason.Class.TheVariants.{Vector}
use Rattle.dependence.proofs.ClassLaws.{class_facts}
use Rattle.chunk_emit.specs.KernelLayout.{operator_in, operator_of, update_of}
use Rattle.kernel_tree.specs.declared.ops.UpdateOp.TheVariants as update

update_from : ℕ → UpdateOp
update_from zero = update.Add
update_from (suc zero) = update.And
update_from (suc (suc zero)) = update.Or
update_from (suc (suc (suc zero))) = update.Xor
update_from (suc (suc (suc (suc zero)))) = update.Min
update_from (suc (suc (suc (suc (suc n))))) = update.Max

update_back : (op : UpdateOp) → update_from (number_of_update op) ≡ op
unfolding update_from
update_back update.Add = refl
update_back other = refl

no_other : (x : List ℕ) (op : UpdateOp) (c : Content) → is_update x c ≡ true → other_update x op c ≡ false → operator_in c ≡ op
no_other x op (IsUpdate y o) e f = sym (update_back o) ∙ ap update_from (eqb-true _ _ (by (bytes_eq y x) (nat_eq (number_of_update o) (number_of_update op)) e f)) ∙ update_back op
  where
    by : (a b : Bool) → a ≡ true → a && not b ≡ false → b ≡ true
    by true true e f = refl
    by true false e f = absurd cc
    by false b e f = absurd cc
no_other x op (IsLiteral n) e f = absurd cc
no_other x op other e f = absurd cc

first_operator : (x : List ℕ) (op : UpdateOp) (es : List Entry) → list_any (updates x) es ≡ true → list_any (updates_otherwise x op) es ≡ false → operator_of (find (updates x) es) ≡ op
first_operator x op [] e f = absurd cc
first_operator x op (y ∷ es) e f =
    let parts = or_parts (updates_otherwise x op y) (list_any (updates_otherwise x op) es) f in
    by (updates x y) refl e (λ h. first_operator x op es h parts.1) parts.0
  where
    by : (b : Bool) → updates x y ≡ b → b || list_any (updates x) es ≡ true → (list_any (updates x) es ≡ true → operator_of (find (updates x) es) ≡ op) → updates_otherwise x op y ≡ false → operator_of (cond b (Some y) (find (updates x) es)) ≡ op
    by true g e more other = no_other x op y.content g other
    by false g e more other = more e

pub any_none : {A : Type 0} (p : A → Bool) (xs : List A) (y : A) (ys : List A) → list_any p (xs ++ y ∷ ys) ≡ false → p y ≡ false
any_none p [] y ys e = (or_parts (p y) (list_any p ys) e).0
any_none p (x ∷ xs) y ys e = any_none p xs y ys (or_parts (p x) (list_any p (xs ++ y ∷ ys)) e).1

-- the operator of an update is that of the first update of its accumulator
pub one_operator : (k : Program) (x : List ℕ) (op : UpdateOp) (xs : List Entry) (e : Entry) (ys : List Entry) → class_of k ≡ Vector → xs ++ e ∷ ys ≡ loop_entries k → e.content ≡ IsUpdate x op → list_any (updates x) (loop_entries k) ≡ true → update_of k x ≡ op
one_operator k x op xs e ys vector split is updated =
    let single : is_mixed (loop_entries k) e ≡ false = any_none (is_mixed (loop_entries k)) xs e ys (ap (list_any (is_mixed (loop_entries k))) split ∙ (class_facts k vector).unmixed) in
    first_operator x op (loop_entries k) updated (sym (ap (mixed_content (loop_entries k)) is) ∙ single)
