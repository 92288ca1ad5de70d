-- One step of a walk over a list.
use Rattle.std.proofs.Common.{◌≡◌, ◌+◌, List, [], ◌∷◌, ◌++◌, Option, Some, None, refl, sym, ap, ◌∙◌, append_assoc, arith}
use Rattle.kernel_tree.specs.declared.fault.Found.{Found}
use Rattle.kernel_tree.specs.Plain.{Action, Block, Then, Parameter, Accumulator}
use Rattle.kernel_tree.specs.Items.{term_size, action_size, block_size, vars_size}
use Rattle.kernel_tree.specs.Typing.{Scope, Value, after_action, after_block, after_params, after_vars, twice, faults, action_faults, block_faults, params_faults, vars_faults, term_types, action_types, block_types, params_types, vars_types, sooner, least}
use Rattle.kernel_tree.proofs.Scopes.{index_after}
use Rattle.kernel_scope.specs.Scopes.{after_param, after_var}
use Rattle.kernel_types.specs.declared.notes.Notes.{Notes}
use Rattle.kernel_types.specs.Parts.{Adds, var_faults, var_types}
use Rattle.kernel_types.proofs.LeastFault.{sooner-assoc, least-append}
use Rattle.kernel_types.proofs.TypeLists.{then_types, after_mark}

-- the first fault of a part, and then of what follows it
pub two_parts : (o p : Option Found) (xs ys : List Found) → p ≡ sooner o (least xs) → sooner p (least ys) ≡ sooner o (least (xs ++ ys))
two_parts o p xs ys e = ap (λ (r : Option Found). sooner r (least ys)) e ∙ sooner-assoc o (least xs) (least ys) ∙ ap (sooner o) (sym (least-append xs ys))

pub record GoesOn (s t : Scope) (old new : Notes) (b x : Block) : Type 0 where
  pub scope : after_block t b ≡ after_block s x
  pub next : new.next + block_size t.index b ≡ old.next + block_size s.index x
  pub found : sooner new.found (least (block_faults t new.next b)) ≡ sooner old.found (least (block_faults s old.next x))
  pub types : (last : Notes) → Adds new last (block_types t b) → Adds old last (block_types s x)

-- after a statement the walk goes on at the next
pub statement_notes_go_on : (s t : Scope) (old new : Notes) (a : Action) (b x : Block) → x ≡ Then a b → t ≡ after_action s a → new.next ≡ old.next + action_size s.index a → new.found ≡ sooner old.found (least (action_faults s old.next a)) → Adds old new (action_types s a) → GoesOn s t old new b x
statement_notes_go_on s t old new a b x e f g h i = record {
  scope = rw (e, f) refl;
  next = rw (e, f, g) (rw (index_after s a) (omega arith));
  found = rw (e, f, g) (two_parts old.found new.found (action_faults s old.next a) _ h);
  types = λ last k. rw e (then_types i (rw f at k));
}

pub record ParamsGoOn (s t : Scope) (old new : Notes) (ps xs : List Parameter) : Type 0 where
  pub scope : after_params t ps ≡ after_params s xs
  pub found : sooner new.found (least (params_faults t new.next ps)) ≡ sooner old.found (least (params_faults s old.next xs))
  pub types : (last : Notes) → Adds new last (params_types ps) → Adds old last (params_types xs)

-- after a parameter the walk goes on at the next
pub params_go_on : (s t : Scope) (old new : Notes) (x : Parameter) (ps xs : List Parameter) → xs ≡ x ∷ ps → t ≡ after_param s x → new.next ≡ old.next + 1 → new.found ≡ sooner old.found (least (twice old.next s x.name)) → Adds old new (None ∷ []) → ParamsGoOn s t old new ps xs
params_go_on s t old new x ps xs e f g h i = record {
  scope = rw (e, f) refl;
  found = rw (e, f, g) (two_parts old.found new.found (twice old.next s x.name) _ h);
  types = λ last k. rw e (then_types i k);
}

pub record VarsGoOn (s t : Scope) (old new : Notes) (vs xs : List Accumulator) : Type 0 where
  pub scope : after_vars t vs ≡ after_vars s xs
  pub next : new.next + vars_size t.index vs ≡ old.next + vars_size s.index xs
  pub found : sooner new.found (least (vars_faults t new.next vs)) ≡ sooner old.found (least (vars_faults s old.next xs))
  pub types : (last : Notes) → Adds new last (vars_types t vs) → Adds old last (vars_types s xs)

-- after an accumulator the walk goes on at the next
pub vars_go_on : (s t : Scope) (old new : Notes) (x : Accumulator) (vs xs : List Accumulator) → xs ≡ x ∷ vs → t ≡ after_var s x → new.next ≡ old.next + (term_size s.index x.init + 1) → new.found ≡ sooner old.found (least (var_faults s old.next x)) → Adds old new (var_types s x) → VarsGoOn s t old new vs xs
vars_go_on s t old new x vs xs e f g h i =
    let fs = faults s old.next (Value (Some x.type)) x.init in
    let item = old.next + term_size s.index x.init in
    let after : old.next + (term_size s.index x.init + 1) ≡ item + 1 = omega arith in
    record {
      scope = rw (e, f) refl;
      next = rw (e, f, g) (omega arith);
      found = rw (e, f, g, after) (two_parts old.found new.found (var_faults s old.next x) _ h ∙ ap (λ (gs : List Found). sooner old.found (least gs)) (append_assoc fs (twice item s x.name) (vars_faults (after_var s x) (item + 1) vs)));
      types = λ last k. rw e (after_mark (term_types s (Value (Some x.type)) x.init) i (rw f at k));
    }
