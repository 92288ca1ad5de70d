use Rattle.std.proofs.Common.{◌≡◌, true, false, length, refl, rules}
use Rattle.machine_model.specs.Load.{in_order}
use Rattle.elf_image.specs.Loadable.{meets_from}
use Rattle.elf_image.proofs.Ordering.{clash_from_meets}
use Rattle.elf_image.proofs.load.image_in_order.Goals as goal

pub returns-then-any_meet-clause-refusal : goal.returns-then-any_meet-clause-refusal
returns-then-any_meet-clause-refusal c =
    let loaded = c.args.loaded.now in
    let is : c.in_ok-segments.segments.items ≡ in_order loaded = search rules in
    let meet : meets_from 0 c.in_ok-segments.segments.items ≡ true = cc in
    let e = clash_from_meets (length c.args.bytes.now) loaded _ true c.requires is meet in
    rw e refl

pub laid-requires : goal.laid-requires
laid-requires c =
    let is : c.deref-2.result.now ≡ in_order c.args.loaded.now = search rules in
    let apart : meets_from 0 c.deref-2.result.now ≡ false = cc in
    record { loadable = c.requires; order = is; apart = apart }
