use Rattle.std.proofs.Common.{ap, ◌∙◌}
use Rattle.lane_memory.specs.Loads.{load_of}
use Rattle.lane_memory.proofs.load.load_into.Goals as goal

pub returns-then-load_whole-clause-done : goal.returns-then-load_whole-clause-done
returns-then-load_whole-clause-done c =
    ap (λ mode. load_of mode c.args.load.now.row.dtype c.args.load.now.base c.args.load.now.index c.args.vl c.args.pages.now.memory c.args.stops.now c.args.pg.now.bits c.args.ffr.now.bits) c.in-Plain.is
    ∙ c.load_whole.ensures.loaded c.args.stops.now c.args.ffr.now.bits c.if-load_whole.true
