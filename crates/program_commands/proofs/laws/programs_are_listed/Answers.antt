use Rattle.program_commands.proofs.ReadBack.{image_listed, file_listed}
use Rattle.program_commands.proofs.laws.programs_are_listed.Goals as goal

pub returns-clause-image : goal.returns-clause-image
returns-clause-image c = image_listed

pub returns-clause-file : goal.returns-clause-file
returns-clause-file c = file_listed
