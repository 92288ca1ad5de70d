use Rattle.std.proofs.Common.{◌≡◌, ◌-◌, sym, ap, ◌∙◌}
use Rattle.std.proofs.lemmas.Result.{on_ok_weaker, IfErr-weaker}
use Rattle.guest_types.specs.LaneMemory.{store_of, StoreFault}
use Rattle.lane_memory.specs.Writings.{stored_of}
use Rattle.lane_memory.proofs.StoreLaws.{store_of-writing}
use Rattle.lane_memory.proofs.WriteLaws.{range-stored}
use Rattle.lane_memory.proofs.store.store.Goals as goal

pub returns-then-store_at_once-clause-done : goal.returns-then-store_at_once-clause-done
returns-then-store_at_once-clause-done c =
    let e = c.new-writing.ensures in
    let w = c.new-writing.result in
    store_of-writing c.args.row.msz c.args.row.size c.args.base c.args.index c.args.vl c.args.pg.now.bits c.args.z.now.bytes c.args.pages.now.memory w c.lanes-lanes.result e.memory e.element e.base e.index c.lanes-lanes.ensures.value
    ∙ c.store_at_once.ensures.done c.if-store_at_once.true

pub returns-clause-done : goal.returns-clause-done
returns-clause-done c =
    let e = c.new-writing.ensures in
    let w = c.new-writing.result in
    let pg = c.args.pg.now.bits in
    let z = c.args.z.now.bytes in
    let m = c.args.pages.now.memory in
    let range = c.active_range-range.result in
    let same = c.store_at_once.ensures.unchanged c.if-store_at_once.false in
    on_ok_weaker c.store_active.result
    (λ h. store_of-writing c.args.row.msz c.args.row.size c.args.base c.args.index c.args.vl pg z m w c.lanes-lanes.result e.memory e.element e.base e.index c.lanes-lanes.ensures.value
    ∙ range-stored w pg z c.lanes-lanes.result range.from range.to m c.active_range-range.ensures
    ∙ ap (stored_of w pg z (range.to - range.from) range.from) (sym same) ∙ h)
    c.store_active.ensures.done

pub returns-clause-refused : goal.returns-clause-refused
returns-clause-refused c =
    let e = c.new-writing.ensures in
    let w = c.new-writing.result in
    let pg = c.args.pg.now.bits in
    let z = c.args.z.now.bytes in
    let m = c.args.pages.now.memory in
    let range = c.active_range-range.result in
    let same = c.store_at_once.ensures.unchanged c.if-store_at_once.false in
    IfErr-weaker c.store_active.result
    (λ fault. stored_of w pg z (range.to - range.from) range.from c.store_at_once.new.pages.memory ≡ StoreFault fault c.store_active.new.pages.memory)
    (λ fault. store_of c.args.row.msz c.args.row.size c.args.base c.args.index c.args.vl pg z m ≡ StoreFault fault c.store_active.new.pages.memory)
    (λ fault h. store_of-writing c.args.row.msz c.args.row.size c.args.base c.args.index c.args.vl pg z m w c.lanes-lanes.result e.memory e.element e.base e.index c.lanes-lanes.ensures.value
    ∙ range-stored w pg z c.lanes-lanes.result range.from range.to m c.active_range-range.ensures
    ∙ ap (stored_of w pg z (range.to - range.from) range.from) (sym same) ∙ h)
    c.store_active.ensures.refused
