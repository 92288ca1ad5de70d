use Rattle.program_commands.proofs.AssembledWords.{words_are}
use Rattle.program_commands.proofs.laws.assembled_words_are_programs.Goals as goal

pub returns : goal.returns
returns c = words_are
