use Rattle.std.proofs.Common.{◌≡◌, ◌-◌, ◌∙◌, List, ap₂, pos, rules, arith}
use Rattle.std.specs.Prelude.{slice_set}
use Rattle.kernel_meaning.specs.Ends.{Next, Broke, Faulted}
use Rattle.kernel_plan.specs.declared.step.Step.{Step}
use Rattle.kernel_plan.specs.Trees.{tasks_of}
use Rattle.kernel_eval.specs.Slots.{Slots, do_tasks}
use Rattle.kernel_plan.specs.Plans.{loop_plan_of}
use Rattle.kernel_eval.proofs.IterationWalks.{iterations_step, iterations_done}
use Rattle.kernel_eval.proofs.run.follow.Goals as goal

pub returns-in-Broke : goal.returns-in-Broke
returns-in-Broke g c =
    let l = c.loop-at in
    let put : c.put.new.slots ≡ slice_set l.slots c.args.resolved.now.index (pos l.at) = search rules in
    iterations_step (loop_plan_of c.args.resolved.now) c.args.count l.at (g.M.GuestMemory.memory l.memory) l.slots (Broke (g.M.GuestMemory.memory c.perform.new.memory) c.perform.new.slots) c.loop-at-test.true (c.in-Broke.ensures ∙ ap₂ (λ (xs : List Step) (vs : Slots). do_tasks (tasks_of xs) (g.M.GuestMemory.memory l.memory) vs) c.deref.ensures.value put) ∙ l.invariant

pub returns-in-Faulted : goal.returns-in-Faulted
returns-in-Faulted g c =
    let l = c.loop-at in
    let put : c.put.new.slots ≡ slice_set l.slots c.args.resolved.now.index (pos l.at) = search rules in
    iterations_step (loop_plan_of c.args.resolved.now) c.args.count l.at (g.M.GuestMemory.memory l.memory) l.slots (Faulted (g.M.GuestMemory.memory c.perform.new.memory)) c.loop-at-test.true (c.in-Faulted.ensures ∙ ap₂ (λ (xs : List Step) (vs : Slots). do_tasks (tasks_of xs) (g.M.GuestMemory.memory l.memory) vs) c.deref.ensures.value put) ∙ l.invariant

pub loop-at-preserved : goal.loop-at-preserved
loop-at-preserved g c =
    let l = c.loop-at in
    let put : c.put.new.slots ≡ slice_set l.slots c.args.resolved.now.index (pos l.at) = search rules in
    iterations_step (loop_plan_of c.args.resolved.now) c.args.count l.at (g.M.GuestMemory.memory l.memory) l.slots (Next (g.M.GuestMemory.memory c.perform.new.memory) c.perform.new.slots) c.loop-at-test.true (c.in-Next.ensures ∙ ap₂ (λ (xs : List Step) (vs : Slots). do_tasks (tasks_of xs) (g.M.GuestMemory.memory l.memory) vs) c.deref.ensures.value put) ∙ l.invariant

pub returns : goal.returns
returns g c =
    let l = c.loop-at in
    iterations_done (loop_plan_of c.args.resolved.now) (c.args.count - l.at) l.at (g.M.GuestMemory.memory l.memory) l.slots (omega arith) ∙ l.invariant
