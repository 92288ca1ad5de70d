use Rattle.std.proofs.Common.{◌<◌, ◌^◌, List, length, sym, ◌∙◌, subst}
use Rattle.reg_assign.specs.declared.interval.Interval.{Interval}
use Rattle.reg_assign.specs.Intervals.{Ascend}
use Rattle.reg_assign.specs.Registers.{IsAssignment}
use Rattle.loop_form.specs.View.{program}
use Rattle.compiler_tests.proofs.registers.registers_of.Goals as goal

pub assign-requires-clause-few : goal.assign-requires-clause-few
unfolding program
assign-requires-clause-few c = subst (λ (l : List Interval). length l < 2 ^ 32) (sym (c.deref.ensures.value ∙ c.in_ok-intervals.ensures)) c.ordered_intervals.ensures.few

pub assign-requires-clause-ascending : goal.assign-requires-clause-ascending
unfolding program
assign-requires-clause-ascending c = subst Ascend (sym (c.deref.ensures.value ∙ c.in_ok-intervals.ensures)) c.ordered_intervals.ensures.ascending

pub returns-in-Ok : goal.returns-in-Ok
unfolding program
returns-in-Ok c = record {
  intervals = c.in-Ok.ensures.kept ∙ c.deref.ensures.value ∙ c.in_ok-intervals.ensures;
  assigned = subst (λ n. IsAssignment n c.in-Ok.regs) c.counted_registers.ensures c.in-Ok.ensures.fits;
}
