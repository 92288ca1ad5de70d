use Rattle.map_text.proofs.ByteLaws.{mapped, put, kept}
use Rattle.map_text.proofs.laws.bytes_are_put.Goals as goal

pub returns-clause-mapped : goal.returns-clause-mapped
returns-clause-mapped c = mapped

pub returns-clause-put : goal.returns-clause-put
returns-clause-put c = put

pub returns-clause-kept : goal.returns-clause-kept
returns-clause-kept c = kept
