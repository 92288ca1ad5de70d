use Rattle.chunk_emit.proofs.Counts as counts
use Rattle.chunk_emit.proofs.few_words.Goals as goal

pub returns : goal.returns
returns c = counts.few_words
