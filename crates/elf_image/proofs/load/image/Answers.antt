use Rattle.std.proofs.Common.{length, sym}
use Rattle.elf_image.proofs.Ordering.{in_order_already}
use Rattle.elf_image.proofs.load.image.Goals as goal

pub laid-requires : goal.laid-requires
laid-requires c =
    let apart = sym c.if-any_meet.ensures in
    record { loadable = c.requires; order = in_order_already (length c.args.bytes.now) 0 c.args.loaded.now c.requires apart; apart = apart }
