-- A walk over an expression or a statement by its kind: what it asks of the call, and what the call leaves.
use Rattle.std.proofs.Common.{◌≡◌, ℕ, ◌+◌, ◌*◌, ◌<◌, ◌^◌, List, Option, Some, None, refl, sym, ap, subst, arith}
use Rattle.std.specs.Prelude.{ℤ, Result, IfOk}
use Rattle.kernel_tree.specs.declared.ops.Ty.{Ty}
use Rattle.kernel_tree.specs.Plain.{Term, Action}
use Rattle.kernel_tree.specs.Limits.{term_depth}
use Rattle.kernel_tree.specs.Items.{index_size, term_size, action_size}
use Rattle.kernel_tree.specs.Typing.{Scope, Role, Value, index_type, faults, inner_faults, term_types, inner_types, after_action, action_faults, action_types, sooner, least}
use Rattle.kernel_size.specs.Distances.{distance_of}
use Rattle.kernel_types.specs.declared.notes.Notes.{Notes}
use Rattle.kernel_types.specs.Parts.{Adds}
use Rattle.kernel_types.proofs.LeastFault.{sooner-none}
use Rattle.kernel_types.proofs.TypeLists.{no_types}

-- ---- an expression of a kind

module _ (i : Option (List ℕ)) (t from : ℕ) (whole : Term) (falls : 3 * term_depth whole ≡ t) (fits : from + term_size i whole < 2 ^ 32) where
  pub called : (e : Term) (n s : ℕ) → whole ≡ e → term_depth e ≡ n + 1 → term_size i e ≡ s → (3 * n + 1 < t) × (from + s < 2 ^ 32)
  called e n s is d z =
      let deep = ap term_depth is in
      let size = ap (term_size i) is in
      (omega (arith, falls, deep, d), omega (arith, fits, size, z))

  pub read_called : (e : Term) (n s : ℕ) → whole ≡ e → term_depth e ≡ n + 1 → term_size i e ≡ s → (3 * n + 2 < t) × (from + s < 2 ^ 32)
  read_called e n s is d z =
      let deep = ap term_depth is in
      let size = ap (term_size i) is in
      (omega (arith, falls, deep, d), omega (arith, fits, size, z))

pub has_room : (i : Option (List ℕ)) (from : ℕ) (whole e : Term) → from + term_size i whole < 2 ^ 32 → whole ≡ e → term_size i e ≡ 1 → from + 1 < 2 ^ 32
has_room i from whole e fits is z = let size = ap (term_size i) is in omega (arith, fits, size, z)

-- an expression was gone over
pub record Walked (s : Scope) (role : Role) (old new : Notes) (e : Term) : Type 0 where
  pub next : new.next ≡ old.next + term_size s.index e
  pub found : new.found ≡ sooner old.found (least (faults s old.next role e))
  pub types : Adds old new (term_types s role e)

pub walked : (s : Scope) (role : Role) (old new : Notes) (e whole : Term) → whole ≡ e → Walked s role old new e → Walked s role old new whole
walked s role old new e whole is w = subst (λ (x : Term). Walked s role old new x) (sym is) w

-- ---- a statement of a kind

-- a statement was gone over
pub record Acted (s t : Scope) (old new : Notes) (a : Action) : Type 0 where
  pub scope : t ≡ after_action s a
  pub next : new.next ≡ old.next + action_size s.index a
  pub found : new.found ≡ sooner old.found (least (action_faults s old.next a))
  pub types : Adds old new (action_types s a)

pub acted : (s t : Scope) (old new : Notes) (a whole : Action) → whole ≡ a → Acted s t old new a → Acted s t old new whole
acted s t old new a whole is w = subst (λ (x : Action). Acted s t old new x) (sym is) w

-- the same, where memory was enough
pub record ActedIf {T E : Type 0} (r : Result T E) (s t : Scope) (old new : Notes) (a : Action) : Type 0 where
  pub scope : IfOk r (λ _. t ≡ after_action s a)
  pub next : IfOk r (λ _. new.next ≡ old.next + action_size s.index a)
  pub found : IfOk r (λ _. new.found ≡ sooner old.found (least (action_faults s old.next a)))
  pub types : IfOk r (λ _. Adds old new (action_types s a))

pub acted_if : {T E : Type 0} (r : Result T E) (s t : Scope) (old new : Notes) (a whole : Action) → whole ≡ a → ActedIf r s t old new a → ActedIf r s t old new whole
acted_if r s t old new a whole is w = subst (λ (x : Action). ActedIf r s t old new x) (sym is) w

pub action_room : (i : Option (List ℕ)) (from : ℕ) (whole a : Action) → whole ≡ a → from + action_size i whole < 2 ^ 32 → from + action_size i a < 2 ^ 32
action_room i from whole a is h = subst (λ (x : Action). from + action_size i x < 2 ^ 32) is h

-- ---- an index, by its distance where it is a stream index

-- an index was gone over, of which a stream index has no items
pub record Entered (s : Scope) (old new : Notes) (e : Term) (o : Option ℤ) : Type 0 where
  pub next : new.next ≡ old.next + index_size o (term_size s.index e)
  pub found : new.found ≡ sooner old.found (least (inner_faults o (faults s old.next (Value (index_type s e)) e)))
  pub types : Adds old new (inner_types o (term_types s (Value (index_type s e)) e))

pub streamed : (s : Scope) (m : Notes) (e : Term) (o : Option ℤ) (d : Option ℕ) (far : ℕ) → d ≡ distance_of o → d ≡ Some far → Entered s m m e o
streamed s m e (Some c) d far f g = record { next = omega arith; found = sym (sooner-none m.found); types = no_types m }
streamed s m e None d far f g = cc

pub computed_items : (o : Option ℤ) (n : ℕ) (d : Option ℕ) → d ≡ distance_of o → d ≡ None → index_size o n ≡ n
computed_items (Some c) n d f g = cc
computed_items None n d f g = refl

pub computed : (s : Scope) (old new : Notes) (e : Term) (o : Option ℤ) (d : Option ℕ) (ty : Option Ty) → d ≡ distance_of o → d ≡ None → ty ≡ index_type s e → Walked s (Value ty) old new e → Entered s old new e o
computed s old new e (Some c) d ty f g is w = cc
computed s old new e None d ty f g is w =
    let made = subst (λ (x : Option Ty). Walked s (Value x) old new e) is w in
    record { next = made.next; found = made.found; types = made.types }
