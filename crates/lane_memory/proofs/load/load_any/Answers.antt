use Rattle.std.proofs.Common.{◌≡◌, Ok, Err, ap, ◌∙◌}
use Rattle.std.proofs.lemmas.Result.{on_ok_weaker, IfErr-weaker}
use Rattle.guest_types.specs.declared.row.LoadMode.TheVariants.{Plain, FirstFault, NonFault}
use Rattle.guest_types.specs.LaneMemory.{plain_load}
use Rattle.guest_types.specs.EarlyLoads.{first_fault_early}
use Rattle.lane_memory.specs.Readings.{form_of, place_of, on_of}
use Rattle.lane_memory.specs.Loads.{LoadLeft, load_of, left_by_plain, left_by_first}
use Rattle.lane_memory.proofs.LoadLaws.{load_of-reading, all-free}
use Rattle.lane_memory.proofs.load.load_any.Goals as goal

pub returns-in-Plain-clause-done : goal.returns-in-Plain-clause-done
returns-in-Plain-clause-done c =
    let r = c.new-reading.result in
    let m = c.args.pages.now.memory in
    let stops = c.args.stops.now in
    let pg = c.args.pg.now.bits in
    let ffr = c.args.ffr.now.bits in
    let n = c.lanes-lanes.result in
    on_ok_weaker c.load_plain.result
    (λ h. ap (λ mode. load_of mode c.args.load.now.row.dtype c.args.load.now.base c.args.load.now.index c.args.vl m stops pg ffr) c.in-Plain.is
    ∙ load_of-reading Plain c.args.load.now.row.dtype c.args.load.now.base c.args.load.now.index c.args.vl m stops pg ffr r n c.new-reading.ensures.form c.new-reading.ensures.base c.new-reading.ensures.index c.lanes-lanes.ensures.value
    ∙ ap (left_by_plain stops) h)
    (c.load_plain.ensures.done ffr)

pub returns-in-Plain-clause-refused : goal.returns-in-Plain-clause-refused
returns-in-Plain-clause-refused c =
    let r = c.new-reading.result in
    let m = c.args.pages.now.memory in
    let stops = c.args.stops.now in
    let pg = c.args.pg.now.bits in
    let ffr = c.args.ffr.now.bits in
    let n = c.lanes-lanes.result in
    IfErr-weaker c.load_plain.result
    (λ fault. plain_load (form_of r) m (on_of r pg) (place_of r) n ffr ≡ Err fault)
    (λ fault. load_of c.args.load.now.mode c.args.load.now.row.dtype c.args.load.now.base c.args.load.now.index c.args.vl m stops pg ffr ≡ Err fault)
    (λ fault h. ap (λ mode. load_of mode c.args.load.now.row.dtype c.args.load.now.base c.args.load.now.index c.args.vl m stops pg ffr) c.in-Plain.is
    ∙ load_of-reading Plain c.args.load.now.row.dtype c.args.load.now.base c.args.load.now.index c.args.vl m stops pg ffr r n c.new-reading.ensures.form c.new-reading.ensures.base c.new-reading.ensures.index c.lanes-lanes.ensures.value
    ∙ ap (left_by_plain stops) h)
    (c.load_plain.ensures.refused ffr)

pub returns-in-FirstFault-clause-done : goal.returns-in-FirstFault-clause-done
returns-in-FirstFault-clause-done c =
    let r = c.new-reading.result in
    let m = c.args.pages.now.memory in
    let stops = c.args.stops.now in
    let pg = c.args.pg.now.bits in
    let ffr = c.args.ffr.now.bits in
    let n = c.lanes-lanes.result in
    on_ok_weaker c.load_first_fault.result
    (λ h. ap (λ mode. load_of mode c.args.load.now.row.dtype c.args.load.now.base c.args.load.now.index c.args.vl m stops pg ffr) c.in-FirstFault.is
    ∙ load_of-reading FirstFault c.args.load.now.row.dtype c.args.load.now.base c.args.load.now.index c.args.vl m stops pg ffr r n c.new-reading.ensures.form c.new-reading.ensures.base c.new-reading.ensures.index c.lanes-lanes.ensures.value
    ∙ h)
    c.load_first_fault.ensures.done

pub returns-in-FirstFault-clause-refused : goal.returns-in-FirstFault-clause-refused
returns-in-FirstFault-clause-refused c =
    let r = c.new-reading.result in
    let m = c.args.pages.now.memory in
    let stops = c.args.stops.now in
    let pg = c.args.pg.now.bits in
    let ffr = c.args.ffr.now.bits in
    let n = c.lanes-lanes.result in
    IfErr-weaker c.load_first_fault.result
    (λ fault. first_fault_early (form_of r) m stops (on_of r pg) (place_of r) n ffr ≡ Err fault)
    (λ fault. load_of c.args.load.now.mode c.args.load.now.row.dtype c.args.load.now.base c.args.load.now.index c.args.vl m stops pg ffr ≡ Err fault)
    (λ fault h. ap (λ mode. load_of mode c.args.load.now.row.dtype c.args.load.now.base c.args.load.now.index c.args.vl m stops pg ffr) c.in-FirstFault.is
    ∙ load_of-reading FirstFault c.args.load.now.row.dtype c.args.load.now.base c.args.load.now.index c.args.vl m stops pg ffr r n c.new-reading.ensures.form c.new-reading.ensures.base c.new-reading.ensures.index c.lanes-lanes.ensures.value
    ∙ ap left_by_first h)
    c.load_first_fault.ensures.refused

pub returns-in-NonFault-clause-done : goal.returns-in-NonFault-clause-done
returns-in-NonFault-clause-done c =
    let r = c.new-reading.result in
    let m = c.args.pages.now.memory in
    let stops = c.args.stops.now in
    let pg = c.args.pg.now.bits in
    let ffr = c.args.ffr.now.bits in
    let n = c.lanes-lanes.result in
    let left : LoadLeft = record { z = c.load_early.new.out.bytes; ffr = c.load_early.new.ffr.bits; stops = c.load_early.new.stops } in
    ap (λ mode. load_of mode c.args.load.now.row.dtype c.args.load.now.base c.args.load.now.index c.args.vl m stops pg ffr) c.in-NonFault.is
    ∙ load_of-reading NonFault c.args.load.now.row.dtype c.args.load.now.base c.args.load.now.index c.args.vl m stops pg ffr r n c.new-reading.ensures.form c.new-reading.ensures.base c.new-reading.ensures.index c.lanes-lanes.ensures.value
    ∙ ap Ok (all-free r m stops pg n ffr left c.load_early.ensures)
