use Rattle.std.proofs.Common.{◌≡◌, List, ◌++◌, drop}
use Rattle.label_fix.specs.DraftRun as plain
use Rattle.scalar_words.specs.View.{constants_of}
use Rattle.loop_code.specs.Loop.{numbers_code}
use Rattle.scalar_emit.proofs.numbers.emit_numbers.Given as goal

abbrev pub invariant-loop-constant : goal.invariant-loop-constant
invariant-loop-constant l = record {
  labels : l.draft.labels ≡ l.fn.draft.labels;
  code : (rest : List plain.DraftEntry) → l.draft.entries ++ numbers_code (constants_of (drop l.constant-index l.constants)) rest ≡ l.fn.draft.entries ++ numbers_code (constants_of l.constants) rest;
}
