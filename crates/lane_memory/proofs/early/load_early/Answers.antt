use Rattle.std.proofs.Common.{refl, sym, ap, ◌∙◌, arith}
use Rattle.guest_types.specs.Elements.{first_true}
use Rattle.guest_types.specs.LaneMemory.{is_clear}
use Rattle.guest_types.specs.EarlyLoads.{suppressed_at, stop_at}
use Rattle.lane_memory.specs.Readings.{on_from, faults_of, refused_of, lanes_of}
use Rattle.lane_memory.proofs.FirstTrue.{first_true-some, first_true-absent}
use Rattle.lane_memory.proofs.EarlySteps.{Parts, limit-inside, kept-read, early-whole}
use Rattle.lane_memory.proofs.early.load_early.Goals as goal

pub clear_from-requires : goal.clear_from-requires
clear_from-requires c e is =
    let f = first_true-some (suppressed_at (on_from c.args.masked.now.reading c.args.masked.now.pg.now.bits c.args.from) (faults_of c.args.masked.now.reading c.args.pages.now.memory) (stop_at c.args.stops.now)) c.args.masked.now.lanes 0 e (sym c.first_suppressed-first.ensures.first ∙ is) in
    omega (arith, f.below, c.requires.inside)

pub fill-requires-clause-inside : goal.fill-requires-clause-inside
fill-requires-clause-inside c =
    let r = c.args.masked.now.reading in
    let m = c.args.pages.now.memory in
    let pg = c.args.masked.now.pg.now.bits in
    let limit = first_true (is_clear r.element c.clear_from.new.ffr.bits) c.args.masked.now.lanes 0 in
    let parts : Parts r m c.args.stops.now pg c.args.from c.args.masked.now.lanes c.args.ffr.now.bits c.first_suppressed-first.result limit c.clear_from.new.ffr.bits =
    record { found = c.first_suppressed-first.ensures.first; cleared = c.clear_from.ensures; clear = refl } in
    let inside = limit-inside r m c.args.stops.now pg c.args.from c.args.masked.now.lanes c.args.ffr.now.bits c.first_suppressed-first.result limit c.clear_from.new.ffr.bits parts in
    omega (arith, c.count_set-kept.ensures, inside, c.requires.inside)

pub fill-requires-clause-read : goal.fill-requires-clause-read
fill-requires-clause-read c =
    let r = c.args.masked.now.reading in
    let m = c.args.pages.now.memory in
    let pg = c.args.masked.now.pg.now.bits in
    let limit = first_true (is_clear r.element c.clear_from.new.ffr.bits) c.args.masked.now.lanes 0 in
    let parts : Parts r m c.args.stops.now pg c.args.from c.args.masked.now.lanes c.args.ffr.now.bits c.first_suppressed-first.result limit c.clear_from.new.ffr.bits =
    record { found = c.first_suppressed-first.ensures.first; cleared = c.clear_from.ensures; clear = refl } in
    first_true-absent (refused_of r m pg) c.count_set-kept.result 0 (λ j _ l.
    kept-read r m c.args.stops.now pg c.args.from c.args.masked.now.lanes c.args.ffr.now.bits c.first_suppressed-first.result limit c.clear_from.new.ffr.bits parts c.requires.inside c.requires.read j (omega (arith, c.count_set-kept.ensures, l)))

pub returns : goal.returns
returns c =
    let r = c.args.masked.now.reading in
    let m = c.args.pages.now.memory in
    let pg = c.args.masked.now.pg.now.bits in
    let limit = first_true (is_clear r.element c.clear_from.new.ffr.bits) c.args.masked.now.lanes 0 in
    let parts : Parts r m c.args.stops.now pg c.args.from c.args.masked.now.lanes c.args.ffr.now.bits c.first_suppressed-first.result limit c.clear_from.new.ffr.bits =
    record { found = c.first_suppressed-first.ensures.first; cleared = c.clear_from.ensures; clear = refl } in
    early-whole r m c.args.stops.now pg c.args.from c.args.masked.now.lanes c.args.ffr.now.bits c.first_suppressed-first.result limit c.clear_from.new.ffr.bits c.first_suppressed-first.new.stops c.fill.new.out.bytes parts c.requires.inside c.first_suppressed-first.ensures.counted
    (c.fill.ensures ∙ ap (lanes_of r m pg) c.count_set-kept.ensures)
