use Rattle.sve_top.proofs.SomeExpectedLaws.{one_expected}
use Rattle.sve_top.proofs.top.one_expected.Goals as goal

pub returns : goal.returns
returns c held bytes line v w settled p q = one_expected held bytes line v w settled p q
