use Rattle.std.proofs.Common.{ap, sym, ◌∙◌, arith}
use Rattle.std.proofs.Math.ListN.{drop_of_length-le}
use Rattle.std.specs.Prelude.{filter}
use Rattle.dependence.specs.Apart.{is_reach_of}
use Rattle.overlap_guard.specs.Arrays.{reach_on}
use Rattle.overlap_guard.proofs.UsedArrays.{reach_end}
use Rattle.overlap_guard.proofs.used.find_reach.Goals as goal

pub returns : goal.returns
returns c =
    reach_end c.loop-reach.found
    ∙ ap (λ rs. reach_on c.loop-reach.found (filter (is_reach_of c.args.place) rs)) (sym (drop_of_length-le c.args.reaches.now (omega (arith, c.loop-reach-test.false, c.loop-reach.auto.reach-index-end))))
    ∙ c.loop-reach.invariant
