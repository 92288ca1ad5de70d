-- The items of a checked kernel's loop fit, those of its break region and those of the rest.
use Rattle.std.proofs.Common.{◌+◌}
use Rattle.kernel_tree.specs.Items.{loop_start}
use Rattle.loop_form.specs.LoopItems.{loop_items}
use Rattle.chunk_emit.specs.KernelLayout.{layout_of_loop}
use Rattle.chunk_emit.proofs.FitsLoop.{loop_steps}
use Rattle.first_fault.specs.KernelFits.{KernelFits}
use Rattle.first_fault.proofs.RegionFits.{both_fit}
use Rattle.first_fault.proofs.LiveTruths.{no_truth_live}
use Rattle.first_fault.proofs.BreakRegions.{region_splits}

pub kernel_fits : KernelFits
kernel_fits k l a b f checked for_loop vector few outer z_fits p_fits setting =
    let steps = loop_steps k l a b f checked for_loop vector few setting in
    let split = region_splits k l for_loop vector in
    let both = both_fit (layout_of_loop k a b) f (loop_start k + 1) (loop_items k l) split.whole split.unwritten split.unbroken outer steps in
    record { region = both.region; rest = both.rest; dead = no_truth_live k l a b f for_loop outer both.region }
