-- One more name of a kernel in its scope and among the homes.
use Rattle.std.proofs.Common.{◌≡◌, ℕ, ◌+◌, ◌^◌, ◌<◌, ◌≤◌, List, [], ◌∷◌, ◌++◌, ◌∙◌, length, drop, get_or, sym, ap, arith, append-nil}
use Rattle.std.proofs.lemmas.List.{drop_all, map-append}
use Rattle.kernel_tree.specs.declared.ast.Param.{Param}
use Rattle.kernel_tree.specs.declared.ast.Var.{Var}
use Rattle.kernel_tree.specs.Plain.{parameter_of, parameters_of, accumulator_of, accumulators_of}
use Rattle.kernel_tree.specs.Typing.{Scope, after_params, after_vars}
use Rattle.kernel_tree.proofs.Walks.{next_item, listed_one_on}
use Rattle.kernel_scope.specs.Scopes.{lent_text, after_param, after_var}
use Rattle.scalar_words.specs.declared.home.Home.{Home}
use Rattle.scalar_words.specs.View.{home_of, homes_of}
use Rattle.scalar_words.specs.Layout.{Homes}
use Rattle.scalar_words.specs.KernelRegisters.{param_home, param_homes, var_home, var_homes}

-- parameter i of some
module _ (ps : List Param) (i : ℕ) (p : Param) (lt : i < length ps) (at : p ≡ get_or ps i p) where
  pub param_scope : (old new whole : Scope) → new ≡ after_param old (parameter_of p) → after_params old (parameters_of (drop i ps)) ≡ whole → after_params new (parameters_of (drop (i + 1) ps)) ≡ whole
  param_scope old new whole e w = ap (λ s. after_params s (parameters_of (drop (i + 1) ps))) e ∙ sym (ap (λ l. after_params old (parameters_of l)) (next_item ps i p lt at)) ∙ w

  pub param_more : (n : ℕ) (old new whole : Homes) → new ≡ old ++ param_home n (parameter_of p) ∷ [] → old ++ param_homes n (parameters_of (drop i ps)) ≡ whole → new ++ param_homes (n + 1) (parameters_of (drop (i + 1) ps)) ≡ whole
  param_more n old new whole e w = listed_one_on old new whole _ _ _ e (ap (λ l. param_homes n (parameters_of l)) (next_item ps i p lt at)) w

-- accumulator i of some
module _ (R : ℕ → ℕ) (vs : List Var) (i : ℕ) (v : Var) (lt : i < length vs) (at : v ≡ get_or vs i v) where
  pub var_scope : (old new whole : Scope) → new ≡ after_var old (accumulator_of v) → after_vars old (accumulators_of (drop i vs)) ≡ whole → after_vars new (accumulators_of (drop (i + 1) vs)) ≡ whole
  var_scope old new whole e w = ap (λ s. after_vars s (accumulators_of (drop (i + 1) vs))) e ∙ sym (ap (λ l. after_vars old (accumulators_of l)) (next_item vs i v lt at)) ∙ w

  pub var_more : (old new whole : Homes) → new ≡ old ++ var_home R i (accumulator_of v) ∷ [] → old ++ var_homes R i (accumulators_of (drop i vs)) ≡ whole → new ++ var_homes R (i + 1) (accumulators_of (drop (i + 1) vs)) ≡ whole
  var_more old new whole e w = listed_one_on old new whole _ _ _ e (ap (λ l. var_homes R i (accumulators_of l)) (next_item vs i v lt at)) w

-- after the last accumulator
pub after_all : (vs : List Var) (i : ℕ) (s whole : Scope) → length vs ≤ i → after_vars s (accumulators_of (drop i vs)) ≡ whole → s ≡ whole
after_all vs i s whole h w = sym (ap (λ l. after_vars s (accumulators_of l)) (drop_all i vs h)) ∙ w

pub all_homes : (R : ℕ → ℕ) (vs : List Var) (i : ℕ) (l whole : Homes) → length vs ≤ i → l ++ var_homes R i (accumulators_of (drop i vs)) ≡ whole → l ≡ whole
all_homes R vs i l whole h w = sym (ap (λ xs. l ++ var_homes R i (accumulators_of xs)) (drop_all i vs h) ∙ append-nil l) ∙ w

-- after the last parameter
pub params_all : (ps : List Param) (i : ℕ) (s whole : Scope) → length ps ≤ i → after_params s (parameters_of (drop i ps)) ≡ whole → s ≡ whole
params_all ps i s whole h w = sym (ap (λ l. after_params s (parameters_of l)) (drop_all i ps h)) ∙ w

pub params_homes : (ps : List Param) (i n : ℕ) (l whole : Homes) → length ps ≤ i → l ++ param_homes n (parameters_of (drop i ps)) ≡ whole → l ≡ whole
params_homes ps i n l whole h w = sym (ap (λ xs. l ++ param_homes n (parameters_of xs)) (drop_all i ps h) ∙ append-nil l) ∙ w

-- a name that is pushed to the homes
pub home_pushed : (hs new : List Home) (h : Home) (x : List ℕ) → new ≡ hs ++ h ∷ [] → lent_text h.name ≡ x → homes_of new ≡ homes_of hs ++ record { name = x; register = h.register.number; last_use = h.last_use } ∷ []
home_pushed hs new h x e f = ap homes_of e ∙ map-append home_of hs (h ∷ []) ∙ ap (λ y. homes_of hs ++ record { name = y; register = h.register.number; last_use = h.last_use } ∷ []) f

-- the register of a parameter
pub param_low : (ps : List Param) (i n : ℕ) → n ≡ i → i < length ps → length ps ≤ 8 → n < 2 ^ 5
param_low ps i n e lt few = omega (arith, e, lt, few)
