use Rattle.std.proofs.Common.{◌≡◌, ◌∷◌, w32, sym, ap, ◌∙◌, ◌++◌}
use Rattle.std.proofs.lemmas.Int.{to_z-of_z}
use Rattle.label_fix.specs.Draft.{word_view}
use Rattle.chunk_emit.specs.ChunkCode.{puts, with_index}
use Rattle.chunk_emit.proofs.emit.emit_index.Goals as goal

pub returns-in_ok-put : goal.returns-in_ok-put
returns-in_ok-put c = record {
  labels = c.in_ok-put.ensures.labels;
  code = λ words rest.
      let is : with_index c.args.offset words ≡ word_view c.index_word.result ∷ words = ap (λ o. with_index o words) (sym (to_z-of_z w32 c.args.offset c.ranges.offset)) ∙ c.index_word.ensures.word words in
      c.in_ok-put.ensures.code (puts words rest) ∙ ap (λ w. c.args.draft.now.entries ++ puts w rest) (sym is);
}
