-- The plan of a kernel: what sets its accumulators, its loop with the slots of its bound and variable, and what it returns.
use Rattle.std.specs.Prelude.{ℕ, List, [], ◌∷◌, length, Option, Some, None, option_map}
use Rattle.kernel_tree.specs.declared.fault.Binding.TheVariants as binding
use Rattle.kernel_tree.specs.Plain.{Accumulator, PlainLoop, Returned, Program}
use Rattle.kernel_tree.specs.Typing.{Scope, declared, in_loop, after_for_loop, param_scope, var_scope}
use Rattle.kernel_plan.specs.Trees.{Tree, Set, Tasks, Done, Then, tree_of, tasks_of}
use Rattle.kernel_plan.specs.Resolve.{slot_of, resolved, resolved_block}
use Rattle.kernel_plan.specs.declared.plan.ResolvedLoop.{ResolvedLoop}
use Rattle.kernel_plan.specs.declared.plan.Plan.{Plan}

-- a loop: the slots of its bound and of its variable
pub record LoopPlan : Type 0 where
  pub bound : ℕ
  pub index : ℕ
  pub body : Tasks

pub record Planned : Type 0 where
  pub start : Tasks
  pub for_loop : Option LoopPlan
  pub answer : Option Tree

abbrev pub loop_plan_of : ResolvedLoop → LoopPlan
loop_plan_of c = record { bound = c.bound; index = c.index; body = tasks_of c.body.items }

abbrev pub planned_of : Plan → Planned
planned_of p = record { start = tasks_of p.start.items; for_loop = option_map loop_plan_of p.for_loop; answer = option_map tree_of p.answer }

-- ---- kernels

abbrev pub resolved_vars : Scope → List Accumulator → Tasks
resolved_vars scope [] = Done
resolved_vars scope (v ∷ vs) = Then (Set (length scope.visible) (resolved scope (Some v.type) v.init)) (resolved_vars (declared scope v.name (binding.Accumulator v.type)) vs)

abbrev pub resolved_loop : Scope → PlainLoop → LoopPlan
resolved_loop scope l = record { bound = slot_of scope l.bound; index = length scope.visible; body = resolved_block (in_loop scope l) l.body }

abbrev pub resolved_for_loop : Scope → Option PlainLoop → Option LoopPlan
resolved_for_loop scope None = None
resolved_for_loop scope (Some l) = Some (resolved_loop scope l)

abbrev pub resolved_answer : Scope → Option Returned → Option Tree
resolved_answer scope None = None
resolved_answer scope (Some a) = Some (resolved scope (Some a.type) a.value)

abbrev pub planned : Program → Planned
planned k = record {
  start = resolved_vars (param_scope k) k.vars;
  for_loop = resolved_for_loop (var_scope k) k.for_loop;
  answer = resolved_answer (after_for_loop (var_scope k) k.for_loop) k.answer;
}
