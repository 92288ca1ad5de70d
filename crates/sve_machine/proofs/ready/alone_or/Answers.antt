use Rattle.std.proofs.Common.{true, refl}
use Rattle.sve_machine.proofs.DecodedWords.{none_by_test}
use Rattle.sve_machine.proofs.ready.alone_or.Goals as goal

pub returns-then-is_alone : goal.returns-then-is_alone
returns-then-is_alone c = record { same = λ pc ready. ready; alone = none_by_test _ true c.if-is_alone.ensures refl }

pub returns : goal.returns
returns c = record { same = λ pc ready s at. refl; alone = tt }
