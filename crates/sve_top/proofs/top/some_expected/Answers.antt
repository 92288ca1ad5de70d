use Rattle.sve_top.proofs.SomeExpectedLaws.{some_expected}
use Rattle.sve_top.proofs.top.some_expected.Goals as goal

pub returns : goal.returns
returns c held bytes line settled = some_expected held bytes line settled
