use Rattle.std.proofs.Common.{◌≡◌, None, Some, Ok, Err}
use Rattle.std.proofs.lemmas.Result.{IfErr-weaker}
use Rattle.guest_types.specs.declared.length.Width.TheVariants.{D}
use Rattle.guest_types.specs.Length.{width_bytes}
use Rattle.guest_types.specs.Elements.{first_true, register}
use Rattle.guest_types.specs.LaneMemory.{fault_at}
use Rattle.lane_memory.specs.Readings.{form_of}
use Rattle.lane_memory.specs.Gathers.{gather_of, gather_place, gather_refused, gathered_of}
use Rattle.lane_memory.proofs.GatherLaws.{gather-done, gather-refused, ok_both}
use Rattle.lane_memory.proofs.gather.gather_into.Goals as goal

pub returns-clause-done : goal.returns-clause-done
returns-clause-done c stops ffr =
    let r = c.reading_of-reading.result in
    let m = c.args.pages.now.memory in
    let offsets = c.args.offsets.now.bytes in
    let pg = c.args.pg.now.bits in
    let n = c.lanes-lanes.result in
    let z = c.gathered_by_size.new.out.bytes in
    ok_both c.gathered_by_size.result
    (z ≡ register (width_bytes D) (gathered_of r m offsets pg) n)
    (first_true (gather_refused r m offsets pg) n 0 ≡ None)
    (gather_of c.args.row.dtype c.args.base c.args.vl m stops offsets pg ffr ≡ Ok (record { z = z; ffr = ffr; stops = stops }))
    (λ is none. gather-done r m stops offsets pg ffr c.args.row.dtype c.args.base c.args.vl n c.reading_of-reading.ensures.form c.reading_of-reading.ensures.base c.requires.wide c.lanes-lanes.ensures.value z is none)
    c.gathered_by_size.ensures.done c.gathered_by_size.ensures.free

pub returns-clause-refused : goal.returns-clause-refused
returns-clause-refused c stops ffr =
    let r = c.reading_of-reading.result in
    let m = c.args.pages.now.memory in
    let offsets = c.args.offsets.now.bytes in
    let pg = c.args.pg.now.bits in
    let n = c.lanes-lanes.result in
    IfErr-weaker c.gathered_by_size.result
    (λ fault. fault_at (form_of r) m (gather_place r offsets) (first_true (gather_refused r m offsets pg) n 0) ≡ Some fault)
    (λ fault. gather_of c.args.row.dtype c.args.base c.args.vl m stops offsets pg ffr ≡ Err fault)
    (λ fault h. gather-refused r m stops offsets pg ffr c.args.row.dtype c.args.base c.args.vl n c.reading_of-reading.ensures.form c.reading_of-reading.ensures.base c.requires.wide c.lanes-lanes.ensures.value fault h)
    c.gathered_by_size.ensures.fault
