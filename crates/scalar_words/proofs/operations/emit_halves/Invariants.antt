use Rattle.std.proofs.Common.{◌≡◌, false, List, [], ◌∷◌, ◌++◌, drop}
use Rattle.label_fix.specs.DraftRun.{DraftEntry}
use Rattle.scalar_words.proofs.HalfWords.{more_code}
use Rattle.scalar_words.proofs.operations.emit_halves.Given as goal

abbrev pub invariant-loop-half : goal.invariant-loop-half
invariant-loop-half l = record {
  place : l.place ≡ l.half-index;
  labels : l.draft.labels ≡ l.fn.draft.labels;
  code : (rest : List DraftEntry) → l.draft.entries ++ more_code l.ones l.begun l.d.number l.h0 l.place (drop l.half-index (l.h0 ∷ l.h1 ∷ l.h2 ∷ l.h3 ∷ [])) rest
      ≡ l.fn.draft.entries ++ more_code l.ones false l.d.number l.h0 0 (l.h0 ∷ l.h1 ∷ l.h2 ∷ l.h3 ∷ []) rest;
}
