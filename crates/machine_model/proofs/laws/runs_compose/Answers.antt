use Rattle.std.proofs.Common.{◌+◌, arith}
use Rattle.machine_model.proofs.Runs.{leads_after}
use Rattle.machine_model.proofs.laws.runs_compose.Goals as goal

pub returns-clause-onward : goal.returns-clause-onward
returns-clause-onward c n k taken s t h = (leads_after n s t h).by (n + k) k taken (omega arith)

pub returns-clause-spent : goal.returns-clause-spent
returns-clause-spent c n taken s t h = (leads_after n s t h).by n 0 taken (omega arith)
