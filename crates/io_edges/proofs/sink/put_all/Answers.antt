use Rattle.std.proofs.Common.{arith, length-drop}
use Rattle.std.proofs.lemmas.List.{take_rest}
use Rattle.io_edges.proofs.Puts.{puts_more, puts_untold}
use Rattle.io_edges.proofs.sink.put_all.Goals as goal

pub loop-at-preserved : goal.loop-at-preserved
loop-at-preserved g c =
    let some = rw (take_rest c.args.bytes.now c.loop-at.at) at c.in_ok-n.ensures.some in
    let bytes = rw (take_rest c.args.bytes.now c.loop-at.at) at c.in_ok-n.ensures.bytes in
    record {
      within = omega (arith, some, length-drop c.loop-at.at c.args.bytes.now);
      so_far = puts_more (g.S.Sink.taken c.args.sink.now) (g.S.Sink.taken c.loop-at.sink) (g.S.Sink.taken c.put.new.self) c.args.bytes.now c.loop-at.at c.in_ok-n.n c.loop-at.invariant.so_far bytes;
      untold = λ h. puts_untold _ _ _ _ (c.loop-at.invariant.untold h) bytes;
      later = omega (arith, c.in_ok-n.ensures.cause.later);
    }

pub returns-in_err-n-clause-untold : goal.returns-in_err-n-clause-untold
returns-in_err-n-clause-untold g c h = puts_untold _ _ _ _ (c.loop-at.invariant.untold h) c.in_err-n.ensures.bytes

pub returns-clause-untold : goal.returns-clause-untold
returns-clause-untold g c = c.loop-at.invariant.untold
