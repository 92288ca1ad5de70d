-- The run of a resolved kernel over the values of its slots.
use Rattle.std.specs.Prelude.{ℕ, zero, suc, ◌+◌, ◌-◌, pos, ◌++◌, map, length, replicate, Option, Some, None, option_map, nat_lt, min, slice_set, if◌then◌else◌}
use Rattle.guest_types.specs.Memory.{Memory}
use Rattle.kernel_meaning.specs.Ends.{BlockEnd, Next, Broke, Faulted, LoopState, Going, Left, Failed, go_on}
use Rattle.kernel_meaning.specs.Operators.{word}
use Rattle.kernel_meaning.specs.Eval.{Names, value_of}
use Rattle.kernel_meaning.specs.ScalarRun.{Run, End, Fault, ended}
use Rattle.kernel_meaning.specs.declared.outcome.ScalarOutcome.{ScalarOutcome}
use Rattle.kernel_meaning.specs.declared.outcome.ScalarOutcome.TheVariants as outcome
use Rattle.kernel_plan.specs.Trees.{Tree}
use Rattle.kernel_plan.specs.Resolve.{most_slots}
use Rattle.kernel_plan.specs.Plans.{LoopPlan, Planned}
use Rattle.kernel_eval.specs.Slots.{Slots, slot_at, tree_value, do_tasks}
use Rattle.kernel_eval.specs.declared.loop_state.LoopState.{LoopState as CodeState}
use Rattle.kernel_eval.specs.declared.loop_state.LoopState.TheVariants as code

-- the slots at the start: the values of names, and zeros
abbrev pub filled : Names → Slots
filled names = map value_of names ++ replicate (most_slots - length names) (pos 0)

abbrev pub loop_state_of : CodeState → Memory → Slots → LoopState Slots
loop_state_of code.Going memory slots = Going memory slots
loop_state_of (code.Left at) memory slots = Left memory slots at.number
loop_state_of (code.Failed at) memory slots = Failed memory at.number

-- iteration i
abbrev pub slot_iteration : LoopPlan → ℕ → Memory → Slots → BlockEnd Slots
slot_iteration l i memory slots = do_tasks l.body memory (slice_set slots l.index (pos i))

-- so many iterations, from iteration i on
unfoldable pub slot_iterations : LoopPlan → ℕ → ℕ → Memory → Slots → LoopState Slots
slot_iterations l zero i memory slots = Going memory slots
slot_iterations l (suc count) i memory slots = go_on (slot_iteration l i memory slots) i (slot_iterations l count (i + 1))

abbrev pub slot_answer : Option Tree → Memory → Slots → Option ℕ
slot_answer None memory slots = Some 0
slot_answer (Some t) memory slots = option_map word (tree_value t memory slots)

abbrev pub slot_closed : Option Tree → ℕ → Memory → Slots → (done begun : ℕ) → Run
slot_closed answer index memory slots done n = ended memory n (slot_answer answer memory (slice_set slots index (pos done)))

-- a run, or the memory of one that is cut short
pub data Limited : Type 0 where
  Ended : Run → Limited
  Cut : Memory → Limited

abbrev pub limited_of : ScalarOutcome → Memory → Limited
limited_of (outcome.End result n) memory = Ended (End memory result n)
limited_of (outcome.Fault n) memory = Ended (Fault memory n)
limited_of outcome.Spent memory = Cut memory

-- the end of a loop of n iterations, of which at most `limit` are done
abbrev pub slot_finish : Option Tree → ℕ → (n limit : ℕ) → LoopState Slots → Limited
slot_finish answer index n limit (Going memory slots) = if nat_lt limit n then Cut memory else Ended (slot_closed answer index memory slots n n)
slot_finish answer index n limit (Left memory slots i) = Ended (slot_closed answer index memory slots i (i + 1))
slot_finish answer index n limit (Failed memory i) = Ended (Fault memory (i + 1))

abbrev pub slot_loop : Option Tree → LoopPlan → ℕ → ℕ → Memory → Slots → Limited
slot_loop answer l limit n memory slots = slot_finish answer l.index n limit (slot_iterations l (min n limit) 0 memory slots)

abbrev pub slot_for_loop : Option Tree → Option LoopPlan → ℕ → Memory → Slots → Limited
slot_for_loop answer None limit memory slots = Ended (ended memory 0 (slot_answer answer memory slots))
slot_for_loop answer (Some l) limit memory slots = slot_loop answer l limit (word (slot_at slots l.bound)) memory slots

abbrev pub slot_begun : Planned → ℕ → BlockEnd Slots → Limited
slot_begun p limit (Next memory slots) = slot_for_loop p.answer p.for_loop limit memory slots
slot_begun p limit (Broke memory slots) = Ended (Fault memory 0)
slot_begun p limit (Faulted memory) = Ended (Fault memory 0)

abbrev pub slot_run : Planned → ℕ → Memory → Slots → Limited
slot_run p limit memory slots = slot_begun p limit (do_tasks p.start memory slots)
