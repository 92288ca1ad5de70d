-- One step of a walk over a list.
use Rattle.std.proofs.Common.{◌≡◌, ◌+◌, List, [], ◌∷◌, ◌++◌, length, refl, ap, ◌∙◌}
use Rattle.kernel_tree.specs.Plain as plain
use Rattle.kernel_tree.specs.Plain.{Accumulator, Action, Block}
use Rattle.std.specs.Prelude.{Some}
use Rattle.kernel_tree.specs.declared.fault.Binding.TheVariants as binding
use Rattle.kernel_tree.specs.Typing.{Scope, declared, after_action, after_block, after_vars}
use Rattle.kernel_plan.specs.declared.step.Step.{Step}
use Rattle.kernel_plan.specs.Trees.{Set, Tasks, Done, Then, followed, task_of, tasks_of}
use Rattle.kernel_plan.specs.Resolve.{resolved, resolved_action, resolved_block}
use Rattle.kernel_plan.specs.Plans.{resolved_vars}

-- a step more
pub followed-push : (xs : List Step) (s : Step) (rest : Tasks) → followed (tasks_of (xs ++ s ∷ [])) rest ≡ followed (tasks_of xs) (Then (task_of s) rest)
followed-push [] s rest = refl
followed-push (x ∷ xs) s rest = ap (Then (task_of x)) (followed-push xs s rest)

pub followed-done : (ts : Tasks) → followed ts Done ≡ ts
followed-done Done = refl
followed-done (Then t ts) = ap (Then t) (followed-done ts)

pub record GoesOn (s t : Scope) (xs ys : List Step) (b x : Block) : Type 0 where
  pub scope : after_block t b ≡ after_block s x
  pub steps : followed (tasks_of ys) (resolved_block t b) ≡ followed (tasks_of xs) (resolved_block s x)

-- after a statement the walk goes on at the next
pub statement_goes_on : (s t : Scope) (xs ys : List Step) (step : Step) (a : Action) (b x : Block) → x ≡ plain.Then a b → t ≡ after_action s a → ys ≡ xs ++ step ∷ [] → task_of step ≡ resolved_action s a → GoesOn s t xs ys b x
statement_goes_on s t xs ys step a b x e f g h = record {
  scope = rw (e, f) refl;
  steps = rw (e, f, g) (followed-push xs step (resolved_block (after_action s a) b) ∙ ap (λ task. followed (tasks_of xs) (Then task (resolved_block (after_action s a) b))) h);
}

pub record VarsGoOn (s t : Scope) (xs ys : List Step) (b x : List Accumulator) : Type 0 where
  pub scope : after_vars t b ≡ after_vars s x
  pub steps : followed (tasks_of ys) (resolved_vars t b) ≡ followed (tasks_of xs) (resolved_vars s x)

-- after an accumulator the walk goes on at the next
pub vars_go_on : (s t : Scope) (xs ys : List Step) (step : Step) (v : Accumulator) (b x : List Accumulator) → x ≡ v ∷ b → t ≡ declared s v.name (binding.Accumulator v.type) → ys ≡ xs ++ step ∷ [] → task_of step ≡ Set (length s.visible) (resolved s (Some v.type) v.init) → VarsGoOn s t xs ys b x
vars_go_on s t xs ys step v b x e f g h = record {
  scope = rw (e, f) refl;
  steps = rw (e, f, g) (followed-push xs step (resolved_vars (declared s v.name (binding.Accumulator v.type)) b) ∙ ap (λ task. followed (tasks_of xs) (Then task (resolved_vars (declared s v.name (binding.Accumulator v.type)) b))) h);
}
