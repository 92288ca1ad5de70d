use Rattle.machine_model.proofs.Suppressed.{suppressed-add, suppressed-over, suppressed-more, none_suppressed}
use Rattle.machine_model.proofs.laws.suppressed_adds_up.Goals as goal

pub returns-clause-onward : goal.returns-clause-onward
returns-clause-onward c = suppressed-add

pub returns-clause-over : goal.returns-clause-over
returns-clause-over c = suppressed-over

pub returns-clause-more : goal.returns-clause-more
returns-clause-more c = suppressed-more

pub returns-clause-quiet : goal.returns-clause-quiet
returns-clause-quiet c = none_suppressed
