use Rattle.std.proofs.Common.{◌+◌, sym, ap₂, ◌∙◌, arith}
use Rattle.sweep_kernel.proofs.PageLists.{sum_from_none, sum_from_more}
use Rattle.sweep_kernel.proofs.pages.byte_sum.Goals as goal

pub loop-i-init : goal.loop-i-init
loop-i-init c = (sym (sum_from_none c.args.pages.now.memory 0x3000000), omega arith)

pub loop-i-preserved : goal.loop-i-preserved
loop-i-preserved c =
    let here = c.loop-i.invariant in
    (ap₂ ◌+◌ here.0 c.byte_or_zero.ensures ∙ sym (sum_from_more c.args.pages.now.memory 0x3000000 c.loop-i.i), omega (arith, here.1))
