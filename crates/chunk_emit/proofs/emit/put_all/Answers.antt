use Rattle.std.proofs.Common.{◌+◌, ◌++◌, drop, refl, sym, ap, ◌∙◌, drop_of_length-le}
use Rattle.guest_types.proofs.Errors.{on_error}
use Rattle.kernel_tree.proofs.Walks.{next_item}
use Rattle.lane_emit.specs.View.{words_of}
use Rattle.chunk_emit.specs.ChunkCode.{vectors, puts}
use Rattle.chunk_emit.proofs.emit.put_all.Goals as goal

pub loop-word-init : goal.loop-word-init
loop-word-init c = record { labels = refl; code = λ rest. refl }

pub returns-in_err-put : goal.returns-in_err-put
returns-in_err-put c = on_error _ _ c.from_residual.ensures.0

pub loop-word-preserved : goal.loop-word-preserved
loop-word-preserved c =
    let l = c.loop-word in
    let ws = c.args.words.now in
    let e = next_item ws l.word-index c.word-item.result c.loop-word-test.true c.word-item.is in
    record {
      labels = c.in_ok-put.ensures.labels ∙ l.invariant.labels;
      code = λ rest.
          c.in_ok-put.ensures.code (puts (vectors (words_of (drop (l.word-index + 1) ws))) rest)
          ∙ ap (λ vs. l.draft.entries ++ puts (vectors (words_of vs)) rest) (sym e)
          ∙ l.invariant.code rest;
    }

pub returns : goal.returns
returns c =
    let l = c.loop-word in
    let end = drop_of_length-le c.args.words.now c.loop-word-test.false in
    record {
      labels = l.invariant.labels;
      code = λ rest. ap (λ vs. l.draft.entries ++ puts (vectors (words_of vs)) rest) (sym end) ∙ l.invariant.code rest;
    }
