use Rattle.io_edges.proofs.Puts.{put_as}
use Rattle.sve_debug.proofs.Told.{went_back, went_too_far}
use Rattle.sve_debug.proofs.debugger.Debugger.put_back.Goals as goal

pub returns-then-back : goal.returns-then-back
returns-then-back g c = record {
  session = c.back.ensures.session;
  steps = c.back.ensures.steps;
  text = put_as _ _ _ _ _ _ _ (went_back _ c.back.result _ _ c.back.ensures.gone c.if-back.true) c.put_stand.ensures;
}

pub returns-else-back : goal.returns-else-back
returns-else-back g c = record {
  session = c.back.ensures.session;
  steps = c.back.ensures.steps;
  text = put_as _ _ _ _ _ _ _ (went_too_far _ c.back.result _ _ c.back.ensures.gone c.if-back.false) c.put_line.ensures;
}
