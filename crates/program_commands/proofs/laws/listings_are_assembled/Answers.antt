use Rattle.program_commands.proofs.ReadBack.{words_again, listing_assembled, file_again}
use Rattle.program_commands.proofs.laws.listings_are_assembled.Goals as goal

pub returns-clause-words : goal.returns-clause-words
returns-clause-words c = words_again

pub returns-clause-accepted : goal.returns-clause-accepted
returns-clause-accepted c = listing_assembled

pub returns-clause-same : goal.returns-clause-same
returns-clause-same c = file_again
