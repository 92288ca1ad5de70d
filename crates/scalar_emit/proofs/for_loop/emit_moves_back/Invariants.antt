use Rattle.std.proofs.Common.{◌≡◌, List, ◌++◌, drop}
use Rattle.label_fix.specs.DraftRun as plain
use Rattle.scalar_words.specs.View.{homes_of, looses_of}
use Rattle.loop_code.specs.Loop.{settle_code}
use Rattle.scalar_emit.proofs.for_loop.emit_moves_back.Given as goal

abbrev pub invariant-loop-held : goal.invariant-loop-held
invariant-loop-held l = record {
  labels : l.draft.labels ≡ l.fn.draft.labels;
  code : (rest : List plain.DraftEntry) → l.draft.entries ++ settle_code l.bound.number (homes_of l.homes) (looses_of (drop l.held-index l.loose)) rest ≡ l.fn.draft.entries ++ settle_code l.bound.number (homes_of l.homes) (looses_of l.loose) rest;
}
