use Rattle.std.proofs.Common.{◌≡◌, false, ap, ◌∙◌, arith}
use Rattle.guest_types.specs.LaneMemory.{fault_at}
use Rattle.guest_types.proofs.Registers.{put-more}
use Rattle.lane_memory.specs.Readings.{form_of}
use Rattle.lane_memory.specs.Gathers.{gather_place, gather_refused, gathered_of}
use Rattle.lane_memory.proofs.FirstTrue.{first_true-at, first_true-absent}
use Rattle.lane_memory.proofs.ReadLaws.{below-next}
use Rattle.lane_memory.proofs.gather.gathered.Goals as goal

pub returns-in-Err-clause-fault : goal.returns-in-Err-clause-fault
returns-in-Err-clause-fault c =
    let refused = gather_refused c.args.reading c.args.pages.now.memory c.args.offsets.now.bytes c.args.pg.now.bits in
    ap (fault_at (form_of c.args.reading) c.args.pages.now.memory (gather_place c.args.reading c.args.offsets.now.bytes))
    (first_true-at refused c.args.lanes 0 c.loop-e.e c.in-Err.ensures.refused (omega arith) (omega (arith, c.loop-e-test.true)) (λ j _ l. c.loop-e.invariant.1 j l))
    ∙ c.in-Err.ensures.fault

pub loop-e-preserved : goal.loop-e-preserved
loop-e-preserved c =
    let refused = gather_refused c.args.reading c.args.pages.now.memory c.args.offsets.now.bytes c.args.pg.now.bits in (
      put-more 8 (gathered_of c.args.reading c.args.pages.now.memory c.args.offsets.now.bytes c.args.pg.now.bits) c.loop-e.e c.in-Ok.value c.loop-e.out.bytes c.put.new.self.bytes c.loop-e.invariant.0 c.put.ensures c.in-Ok.ensures.done,
      λ j l. below-next (λ j. refused j ≡ false) c.loop-e.e j (c.loop-e.invariant.1 j) c.in-Ok.ensures.free l,
    )

pub returns-clause-free : goal.returns-clause-free
returns-clause-free c =
    let refused = gather_refused c.args.reading c.args.pages.now.memory c.args.offsets.now.bytes c.args.pg.now.bits in
    first_true-absent refused c.args.lanes 0 (λ j _ l. c.loop-e.invariant.1 j (omega (arith, c.loop-e-test.false)))
