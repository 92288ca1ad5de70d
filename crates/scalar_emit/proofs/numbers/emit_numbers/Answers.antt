use Rattle.std.proofs.Common.{◌+◌, List, ◌++◌, drop, ap, ◌∙◌}
use Rattle.kernel_tree.proofs.Walks.{next_item}
use Rattle.label_fix.specs.DraftRun.{DraftEntry}
use Rattle.scalar_words.specs.View.{constants_of}
use Rattle.loop_code.specs.Loop.{numbers_code}
use Rattle.loop_code.proofs.Emission.{number_step}
use Rattle.scalar_emit.proofs.numbers.emit_numbers.Goals as goal

pub loop-constant-preserved : goal.loop-constant-preserved
loop-constant-preserved c =
    let l = c.loop-constant in
    let cs = c.args.constants.now in
    let more = drop (l.constant-index + 1) cs in
    let e = next_item cs l.constant-index c.constant-item.result c.loop-constant-test.true c.constant-item.is in
    record {
      labels = c.in_ok-emit_key.ensures.labels ∙ l.invariant.labels;
      code = λ rest. c.in_ok-emit_key.ensures.code (numbers_code (constants_of more) rest)
          ∙ ap (λ (es : List DraftEntry). l.draft.entries ++ es) (number_step (drop l.constant-index cs) more c.constant-item.result rest e)
          ∙ l.invariant.code rest;
    }
