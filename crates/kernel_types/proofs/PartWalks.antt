-- The walks over the parts of a kernel: what they ask of their calls, and what these leave.
use Rattle.std.proofs.Common.{◌≡◌, ℕ, ◌+◌, ◌<◌, ◌^◌, List, [], ◌∷◌, ◌++◌, Bool, Option, Some, None, if◌then◌else◌, refl, sym, ap, ap₂, subst, ◌∙◌, arith}
use Rattle.std.specs.Prelude.{Result, IfOk}
use Rattle.kernel_tree.specs.declared.ops.Ty.{Ty}
use Rattle.kernel_tree.specs.declared.fault.Found.{Found}
use Rattle.kernel_tree.specs.declared.fault.Binding.TheVariants as binding
use Rattle.kernel_tree.specs.declared.fault.Fault.TheVariants as fault
use Rattle.kernel_tree.specs.Plain.{Term, Define, Block, Parameter, Accumulator, PlainLoop, Returned}
use Rattle.kernel_tree.specs.Items.{term_size, block_size, vars_size, for_loop_size, answer_size}
use Rattle.kernel_tree.specs.Typing.{Scope, Value, first, own, declared, after_params, after_vars, after_for_loop, found_at, twice, is_taken, untyped, faults, action_faults, params_faults, vars_faults, for_loop_faults, answer_faults, params_types, vars_types, for_loop_types, answer_types, sooner, least}
use Rattle.kernel_types.specs.declared.notes.Notes.{Notes}
use Rattle.kernel_types.specs.Parts.{Adds, var_faults}
use Rattle.kernel_types.proofs.LeastFault.{sooner-none, then_item, both_rules}
use Rattle.kernel_types.proofs.KindWalks.{Walked}
use Rattle.kernel_types.proofs.OperandWalks.{past_item}
use Rattle.kernel_types.proofs.TypeLists.{no_types, then_types}

-- ---- a `let` and an accumulator: the value, and then the name

pub let_found : (s : Scope) (n item : ℕ) (o p q both again none : Option Found) (taken : Bool) (wanted ty : Option Ty) (x : List ℕ) (e : Term) →
    wanted ≡ first ty (own s e) → item ≡ n + term_size s.index e → p ≡ sooner o (least (faults s n (Value wanted) e)) →
    taken ≡ is_taken s x → again ≡ least (if taken then found_at item fault.Twice else []) → none ≡ least (untyped item wanted) →
    both ≡ sooner again none → q ≡ sooner p both → q ≡ sooner o (least (action_faults s n (Define x ty e)))
let_found s n item o p q both again none taken wanted ty x e is at d f g h i j =
    let again_is : again ≡ least (twice item s x) = g ∙ ap (λ (y : Bool). least (if y then found_at item fault.Twice else [])) f in
    let here = i ∙ both_rules again none (twice item s x) (untyped item wanted) again_is h in
    j
    ∙ then_item o p both (faults s n (Value wanted) e) (twice item s x ++ untyped item wanted) d here
    ∙ ap₂ (λ (w : Option Ty) (k : ℕ). sooner o (least (faults s n (Value w) e ++ (twice k s x ++ untyped k w)))) is at

pub var_found : (s : Scope) (n item : ℕ) (o p q again : Option Found) (taken : Bool) (v : Accumulator) →
    item ≡ n + term_size s.index v.init → p ≡ sooner o (least (faults s n (Value (Some v.type)) v.init)) →
    taken ≡ is_taken s v.name → again ≡ least (if taken then found_at item fault.Twice else []) → q ≡ sooner p again →
    q ≡ sooner o (least (var_faults s n v))
var_found s n item o p q again taken v at d f g j =
    let again_is : again ≡ least (twice item s v.name) = g ∙ ap (λ (y : Bool). least (if y then found_at item fault.Twice else [])) f in
    j
    ∙ then_item o p again (faults s n (Value (Some v.type)) v.init) (twice item s v.name) d again_is
    ∙ ap (λ (k : ℕ). sooner o (least (faults s n (Value (Some v.type)) v.init ++ twice k s v.name))) at

-- ---- a parameter

pub param_found : (s : Scope) (n : ℕ) (o p again : Option Found) (taken : Bool) (x : List ℕ) → taken ≡ is_taken s x → again ≡ least (if taken then found_at n fault.Twice else []) → p ≡ sooner o again → p ≡ sooner o (least (twice n s x))
param_found s n o p again taken x e f g = g ∙ ap (sooner o) (f ∙ ap (λ (y : Bool). least (if y then found_at n fault.Twice else [])) e)

-- ---- the accumulators

pub var_room : (i j : Option (List ℕ)) (whole xs more : List Accumulator) (x : Accumulator) (from at : ℕ) → xs ≡ x ∷ more → at + vars_size i xs ≡ from + vars_size j whole → from + vars_size j whole < 2 ^ 32 → at + term_size i x.init + 1 < 2 ^ 32
var_room i j whole xs more x from at e f h = omega (arith, ap (vars_size i) e, f, h)

pub record VarsWalked (s t : Scope) (old new : Notes) (vs : List Accumulator) : Type 0 where
  pub scope : t ≡ after_vars s vs
  pub next : new.next ≡ old.next + vars_size s.index vs
  pub found : new.found ≡ sooner old.found (least (vars_faults s old.next vs))
  pub types : Adds old new (vars_types s vs)

pub vars_end : (s t : Scope) (old new : Notes) (xs whole : List Accumulator) → xs ≡ [] → after_vars t xs ≡ after_vars s whole → new.next + vars_size t.index xs ≡ old.next + vars_size s.index whole
    → sooner new.found (least (vars_faults t new.next xs)) ≡ sooner old.found (least (vars_faults s old.next whole)) → ((last : Notes) → Adds new last (vars_types t xs) → Adds old last (vars_types s whole)) → VarsWalked s t old new whole
vars_end s t old new xs whole e f g h k = record {
  scope = ap (after_vars t) (sym e) ∙ f;
  next = omega (arith, ap (vars_size t.index) e, g);
  found = sym (sooner-none new.found) ∙ ap (λ (vs : List Accumulator). sooner new.found (least (vars_faults t new.next vs))) (sym e) ∙ h;
  types = k new (subst (λ (vs : List Accumulator). Adds new new (vars_types t vs)) (sym e) (no_types new));
}

-- ---- the parameters

pub record ParamsWalked (s t : Scope) (old new : Notes) (ps : List Parameter) : Type 0 where
  pub scope : t ≡ after_params s ps
  pub found : new.found ≡ sooner old.found (least (params_faults s old.next ps))
  pub types : Adds old new (params_types ps)

pub params_end : (s t : Scope) (old new : Notes) (xs whole : List Parameter) → xs ≡ [] → after_params t xs ≡ after_params s whole
    → sooner new.found (least (params_faults t new.next xs)) ≡ sooner old.found (least (params_faults s old.next whole)) → ((last : Notes) → Adds new last (params_types xs) → Adds old last (params_types whole)) → ParamsWalked s t old new whole
params_end s t old new xs whole e f h k = record {
  scope = ap (after_params t) (sym e) ∙ f;
  found = sym (sooner-none new.found) ∙ ap (λ (ps : List Parameter). sooner new.found (least (params_faults t new.next ps))) (sym e) ∙ h;
  types = k new (subst (λ (ps : List Parameter). Adds new new (params_types ps)) (sym e) (no_types new));
}

-- ---- the loop

pub loop_room : (s t : Scope) (n m : ℕ) (l : PlainLoop) (b : Block) → t ≡ declared s l.index binding.Index → b ≡ l.body → m ≡ n + 1 → s.index ≡ Some l.index → n + for_loop_size (Some l) < 2 ^ 32 → m + block_size t.index b < 2 ^ 32
loop_room s t n m l b e f d g h =
    let i : block_size t.index b ≡ block_size (Some l.index) l.body = ap₂ block_size (ap (λ (x : Scope). x.index) e ∙ g) f in
    omega (arith, i, d, h)

pub loop_next : (s t : Scope) (n m k : ℕ) (l : PlainLoop) (b : Block) → t ≡ declared s l.index binding.Index → b ≡ l.body → m ≡ n + 1 → s.index ≡ Some l.index → k ≡ m + block_size t.index b → k ≡ n + for_loop_size (Some l)
loop_next s t n m k l b e f d g h =
    let i : block_size t.index b ≡ block_size (Some l.index) l.body = ap₂ block_size (ap (λ (x : Scope). x.index) e ∙ g) f in
    omega (arith, i, d, h)

pub record LoopWalked (s t : Scope) (old new : Notes) (o : Option PlainLoop) : Type 0 where
  pub scope : t ≡ after_for_loop s o
  pub next : new.next ≡ old.next + for_loop_size o
  pub found : new.found ≡ sooner old.found (least (for_loop_faults s old.next o))
  pub types : Adds old new (for_loop_types s o)

pub no_loop : (s : Scope) (m : Notes) (o : Option PlainLoop) → o ≡ None → LoopWalked s s m m o
no_loop s m None e = record { scope = refl; next = omega arith; found = sym (sooner-none m.found); types = no_types m }
no_loop s m (Some l) e = cc

pub record LoopWalkedIf {T E : Type 0} (r : Result T E) (s t : Scope) (old new : Notes) (o : Option PlainLoop) : Type 0 where
  pub scope : IfOk r (λ _. t ≡ after_for_loop s o)
  pub next : IfOk r (λ _. new.next ≡ old.next + for_loop_size o)
  pub found : IfOk r (λ _. new.found ≡ sooner old.found (least (for_loop_faults s old.next o)))
  pub types : IfOk r (λ _. Adds old new (for_loop_types s o))

pub one_loop : {T E : Type 0} (r : Result T E) (s t : Scope) (old new : Notes) (l : PlainLoop) (o : Option PlainLoop) → o ≡ Some l → LoopWalkedIf r s t old new (Some l) → LoopWalkedIf r s t old new o
one_loop r s t old new l o is w = subst (λ (x : Option PlainLoop). LoopWalkedIf r s t old new x) (sym is) w

-- ---- the answer

pub record AnswerWalked (s : Scope) (old new : Notes) (o : Option Returned) : Type 0 where
  pub next : new.next ≡ old.next + answer_size s.index o
  pub found : new.found ≡ sooner old.found (least (answer_faults s old.next o))
  pub types : Adds old new (answer_types s o)

pub no_answer : (s : Scope) (m : Notes) (o : Option Returned) → o ≡ None → AnswerWalked s m m o
no_answer s m None e = record { next = omega arith; found = sym (sooner-none m.found); types = no_types m }
no_answer s m (Some a) e = cc

pub one_answer : (s : Scope) (old middle new : Notes) (a : Returned) (o : Option Returned) → o ≡ Some a → Walked s (Value (Some a.type)) old middle a.value → new.next ≡ middle.next + 1 → new.found ≡ sooner middle.found None → Adds middle new (None ∷ []) → AnswerWalked s old new o
one_answer s old middle new a o is w e f g = subst (λ (x : Option Returned). AnswerWalked s old new x) (sym is) (record {
  next = past_item old.next middle.next new.next (term_size s.index a.value) w.next e;
  found = f ∙ sooner-none middle.found ∙ w.found;
  types = then_types w.types g;
})

pub value_fits : (i : Option (List ℕ)) (n : ℕ) (a : Returned) (o : Option Returned) → o ≡ Some a → n + answer_size i o < 2 ^ 32 → n + term_size i a.value < 2 ^ 32
value_fits i n a o is h = let size = ap (answer_size i) is in omega (arith, size, h)

pub mark_room : (i : Option (List ℕ)) (n m : ℕ) (a : Returned) (o : Option Returned) → o ≡ Some a → n + answer_size i o < 2 ^ 32 → m ≡ n + term_size i a.value → m + 1 < 2 ^ 32
mark_room i n m a o is h e = let size = ap (answer_size i) is in omega (arith, size, h, e)
