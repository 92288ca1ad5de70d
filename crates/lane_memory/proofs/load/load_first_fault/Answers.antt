use Rattle.lane_memory.proofs.LoadLaws.{free-inside, free-read, first-done}
use Rattle.lane_memory.proofs.load.load_first_fault.Goals as goal

pub load_early-requires-clause-from : goal.load_early-requires-clause-from
load_early-requires-clause-from c =
    free-inside c.args.masked.now.reading c.args.pages.now.memory c.args.masked.now.pg.now.bits c.args.masked.now.lanes c.in_ok-from.from c.in_ok-from.ensures.free

pub load_early-requires-clause-read : goal.load_early-requires-clause-read
load_early-requires-clause-read c =
    free-read c.args.masked.now.reading c.args.pages.now.memory c.args.masked.now.pg.now.bits c.args.masked.now.lanes c.in_ok-from.from c.in_ok-from.ensures.free

pub returns-clause-done : goal.returns-clause-done
returns-clause-done c =
    first-done c.args.masked.now.reading c.args.pages.now.memory c.args.stops.now c.args.masked.now.pg.now.bits c.args.masked.now.lanes c.in_ok-from.from c.args.ffr.now.bits
    (record { z = c.load_early.new.out.bytes; ffr = c.load_early.new.ffr.bits; stops = c.load_early.new.stops })
    c.in_ok-from.ensures.free c.load_early.ensures
