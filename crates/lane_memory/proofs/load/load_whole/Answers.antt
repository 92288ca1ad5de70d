use Rattle.std.proofs.Common.{◌≡◌, Ok, false, refl, sym, ap, ◌∙◌}
use Rattle.guest_types.specs.declared.row.LoadMode.TheVariants.{Plain}
use Rattle.guest_types.specs.LaneMemory.{or_fault, fault_at, plain_load}
use Rattle.lane_memory.specs.Readings.{form_of, place_of, on_of, lanes_of}
use Rattle.lane_memory.specs.Loads.{left_by_plain}
use Rattle.lane_memory.specs.declared.reading.Reading.{Reading}
use Rattle.lane_memory.proofs.LoadLaws.{load_of-reading}
use Rattle.lane_memory.proofs.load.load_whole.Goals as goal

pub returns-clause-loaded : goal.returns-clause-loaded
returns-clause-loaded c stops ffr went =
    let w = c.in-Some.width in
    let r : Reading = record { base = c.args.load.now.base; index = c.args.load.now.index; memory = w; element = w; signed = false } in
    let m = c.args.pages.now.memory in
    let pg = c.args.pg.now.bits in
    let n = c.lanes-lanes.result in
    let done : plain_load (form_of r) m (on_of r pg) (place_of r) n ffr ≡ Ok (record { z = c.fill_full.new.out.bytes; ffr = ffr }) =
    ap (λ o. or_fault (fault_at (form_of r) m (place_of r) o) (record { z = lanes_of r m pg n; ffr = ffr })) (c.fill_full.ensures.free went)
    ∙ ap (λ z. Ok (record { z = z; ffr = ffr })) (sym (c.fill_full.ensures.filled went)) in
    load_of-reading Plain c.args.load.now.row.dtype c.args.load.now.base c.args.load.now.index c.args.vl m stops pg ffr r n (sym c.in-Some.ensures) refl refl c.lanes-lanes.ensures.value
    ∙ ap (left_by_plain stops) done
