use Rattle.std.proofs.Common.{◌+◌, List, ◌++◌, drop, ap, ◌∙◌}
use Rattle.label_fix.specs.DraftRun.{DraftEntry}
use Rattle.scalar_words.specs.View.{homes_of, looses_of}
use Rattle.loop_code.specs.Loop.{settle_code}
use Rattle.loop_code.proofs.Emission.{settle_step}
use Rattle.scalar_emit.proofs.for_loop.emit_moves_back.Goals as goal

pub loop-held-preserved : goal.loop-held-preserved
loop-held-preserved c =
    let l = c.loop-held in
    let ls = c.args.loose.now in
    let hs = homes_of c.args.homes.now in
    let r = c.args.bound.number in
    record {
      labels = c.in_ok-emit_form_back.ensures.labels ∙ l.invariant.labels;
      code = λ rest. c.in_ok-emit_form_back.ensures.code (settle_code r hs (looses_of (drop (l.held-index + 1) ls)) rest)
          ∙ ap (λ (es : List DraftEntry). l.draft.entries ++ es) (settle_step r hs ls l.held-index _ c.register_named.result.number rest c.loop-held-test.true c.register_named.ensures)
          ∙ l.invariant.code rest;
    }
