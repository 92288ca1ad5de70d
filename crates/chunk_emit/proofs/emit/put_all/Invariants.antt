use Rattle.std.proofs.Common.{◌≡◌, List, ◌++◌, drop}
use Rattle.label_fix.specs.DraftRun as plain
use Rattle.lane_emit.specs.View.{words_of}
use Rattle.chunk_emit.specs.ChunkCode.{vectors, puts}
use Rattle.chunk_emit.proofs.emit.put_all.Given as goal

abbrev pub invariant-loop-word : goal.invariant-loop-word
invariant-loop-word l = record {
  labels : l.draft.labels ≡ l.fn.draft.labels;
  code : (rest : List plain.DraftEntry) → l.draft.entries ++ puts (vectors (words_of (drop l.word-index l.words))) rest ≡ l.fn.draft.entries ++ puts (vectors (words_of l.words)) rest;
}
