use Rattle.std.proofs.Common.{◌≤◌, subst, sym}
use Rattle.guest_types.specs.Length.{all_lanes}
use Rattle.guest_types.proofs.AtWidths.{lanes-bound}
use Rattle.lane_bench.proofs.plain.elements.Goals as goal

pub returns : goal.returns
returns c = subst (λ n. n ≤ all_lanes c.args.width) (sym c.lanes.ensures.value) (lanes-bound c.args.vl c.args.width c.lanes.ensures.valid).1
