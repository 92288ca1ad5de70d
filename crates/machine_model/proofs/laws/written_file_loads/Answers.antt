use Rattle.machine_model.proofs.WrittenLoads.{load-file_of}
use Rattle.machine_model.proofs.WrittenFetch.{fetch_beside}
use Rattle.machine_model.proofs.CodeInMemory.{code_stands}
use Rattle.machine_model.proofs.laws.written_file_loads.Goals as goal

pub returns-clause-loads : goal.returns-clause-loads
returns-clause-loads c = load-file_of

pub returns-clause-fetches : goal.returns-clause-fetches
returns-clause-fetches c = fetch_beside

pub returns-clause-code : goal.returns-clause-code
returns-clause-code c = code_stands
