use Rattle.std.proofs.Common.{◌<◌, sym, ap, ◌∙◌, subst, refl}
use Rattle.guest_types.specs.Length.{width_bytes}
use Rattle.guest_types.specs.Memory.{loaded}
use Rattle.guest_types.proofs.Stores.{loaded-below}
use Rattle.guest_types.proofs.Widths.{modulus-is}
use Rattle.lane_memory.proofs.ReadLaws.{read-one}
use Rattle.std.proofs.lemmas.Bool.{both_ways}
use Rattle.lane_memory.proofs.Sizes.{byte_size}
use Rattle.lane_memory.proofs.fill.copy_one.Goals as goal

pub extend-requires : goal.extend-requires
extend-requires c =
    let w = c.args.reading.memory in
    let read = ap (loaded c.args.pages.now.memory c.place.result) (sym c.bytes-size.ensures) ∙ sym c.in-Ok.ensures.value in
    subst (λ n. c.in-Ok.value < n) (sym (modulus-is w)) (loaded-below c.args.pages.now.memory c.place.result (width_bytes w) c.in-Ok.value c.is_memory.ensures read)

pub returns-in-Ok : goal.returns-in-Ok
returns-in-Ok c =
    let old = c.args.out.now.bytes in
    read-one c.args.reading c.args.pages.now.memory c.args.pg.now.bits c.args.e c.place.result c.bytes-size.result c.in-Ok.value c.extend.result old c.put.new.self.bytes c.is_whole.ensures c.requires.inside c.place.ensures c.bytes-size.ensures c.in-Ok.ensures.value c.extend.ensures c.put.ensures

pub is_active-requires : goal.is_active-requires
is_active-requires c = c.requires.inside

pub load-requires : goal.load-requires
load-requires c = byte_size c.args.reading.memory _ c.bytes-size.ensures

pub put-requires : goal.put-requires
put-requires c = c.requires.inside

pub returns-else-is_active : goal.returns-else-is_active
returns-else-is_active c = record { read = λ on. absurd (both_ways _ (sym c.if-is_active.ensures) on); kept = λ i l. refl }
