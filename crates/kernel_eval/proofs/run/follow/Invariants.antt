use Rattle.std.proofs.Common.{◌≡◌, ◌-◌}
use Rattle.kernel_plan.specs.Plans.{loop_plan_of}
use Rattle.kernel_eval.specs.SlotRuns.{slot_iterations}
use Rattle.kernel_eval.proofs.run.follow.Given as goal

abbrev pub invariant-loop-at : goal.invariant-loop-at
invariant-loop-at g l = slot_iterations (loop_plan_of l.resolved) (l.count - l.at) l.at (g.M.GuestMemory.memory l.memory) l.slots ≡ slot_iterations (loop_plan_of l.resolved) l.count 0 (g.M.GuestMemory.memory l.fn.memory) l.fn.slots
