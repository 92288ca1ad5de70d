use Rattle.std.proofs.Common.{ap, ◌∙◌}
use Rattle.a64_machine.specs.Cores.{flags_in}
use Rattle.sve_machine.proofs.predicates.set_flags.Goals as goal

pub returns-clause-flags : goal.returns-clause-flags
returns-clause-flags c = ap flags_in c.pred_test-bits.ensures ∙ c.flags_are_kept.ensures _
