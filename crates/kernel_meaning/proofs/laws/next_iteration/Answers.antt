use Rattle.kernel_meaning.proofs.RunsFrom as runs
use Rattle.kernel_meaning.proofs.laws.next_iteration.Goals as goal

pub returns-clause-next : goal.returns-clause-next
returns-clause-next c k l i memory after names others loop left same iterated = runs.run_from_next_iteration k l i memory after names others loop left same iterated

pub returns-clause-broke : goal.returns-clause-broke
returns-clause-broke c k l i memory after names others loop left iterated = runs.breaks k l i memory after names others loop left iterated

pub returns-clause-faulted : goal.returns-clause-faulted
returns-clause-faulted c k l i memory after names loop left iterated = runs.faults k l i memory after names loop left iterated

pub returns-clause-over : goal.returns-clause-over
returns-clause-over c k l i memory names loop none = runs.over k l i memory names loop none
