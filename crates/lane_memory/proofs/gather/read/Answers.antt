use Rattle.std.proofs.Common.{◌<◌, [], sym, ap, ◌∙◌, subst}
use Rattle.guest_types.specs.Length.{width_bytes}
use Rattle.guest_types.specs.Memory.{loaded}
use Rattle.guest_types.proofs.Stores.{loaded-below}
use Rattle.guest_types.proofs.Widths.{modulus-is}
use Rattle.lane_memory.proofs.GatherLaws.{on-lane, on-free, on-fault}
use Rattle.lane_memory.proofs.gather.read.Goals as goal

pub extend-requires : goal.extend-requires
extend-requires c =
    let w = c.args.reading.memory in
    let read = ap (loaded c.args.pages.now.memory c.place-address.result) (sym c.requires.size) ∙ sym c.in-Ok.ensures.value in
    subst (λ n. c.in-Ok.value < n) (sym (modulus-is w)) (loaded-below c.args.pages.now.memory c.place-address.result (width_bytes w) c.in-Ok.value c.is_memory.ensures read)

pub returns-in-Ok-clause-done : goal.returns-in-Ok-clause-done
returns-in-Ok-clause-done c pg on = on-lane c.args.reading c.args.pages.now.memory c.args.offsets.now.bytes pg c.args.e c.place-address.result c.args.size c.in-Ok.value c.extend.result on c.place-address.ensures c.requires.size c.in-Ok.ensures.value c.extend.ensures

pub returns-in-Ok-clause-free : goal.returns-in-Ok-clause-free
returns-in-Ok-clause-free c pg = on-free c.args.reading c.args.pages.now.memory c.args.offsets.now.bytes pg c.args.e c.place-address.result c.args.size c.in-Ok.value c.place-address.ensures c.requires.size c.in-Ok.ensures.value

pub returns-in-Err-clause-fault : goal.returns-in-Err-clause-fault
returns-in-Err-clause-fault c = on-fault c.args.reading c.args.pages.now.memory c.args.offsets.now.bytes [] c.args.e c.place-address.result c.args.size c.in-Err.fault c.place-address.ensures c.requires.size c.in-Err.ensures.value
