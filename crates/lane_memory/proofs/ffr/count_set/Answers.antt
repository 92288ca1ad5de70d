use Rattle.std.proofs.Common.{◌≡◌, ◌-◌, ◌*◌, not, sym, ap, ◌∙◌, arith}
use Rattle.std.specs.Prelude.{unwrap_or}
use Rattle.guest_types.specs.Elements.{first_true, bits_of}
use Rattle.lane_blocks.specs.Blocks.{is_below}
use Rattle.lane_memory.proofs.FfrCleared.{none-clear}
use Rattle.guest_types.specs.LaneMemory.{is_clear}
use Rattle.guest_types.proofs.LaneSteps.{first_true-on, first_true-off, first_true-end}
use Rattle.lane_memory.proofs.ffr.count_set.Goals as goal

pub returns-then-is_below : goal.returns-then-is_below
returns-then-is_below c =
    let w = c.args.width in
    let ffr = c.args.ffr.now.bits in
    let bits = c.is_below.ensures c.if-is_below.true ∙ ap (λ k. bits_of (is_below (k * c.args.lanes)) 32) c.bytes.ensures in
    ap (λ o. unwrap_or o c.args.lanes) (sym (none-clear w ffr c.args.lanes c.requires bits))

pub loop-e-init : goal.loop-e-init
loop-e-init c = ap (λ n. first_true (is_clear c.args.width c.args.ffr.now.bits) n 0) (let q : c.args.lanes ≡ c.args.lanes - 0 = omega arith in q)

pub returns-then-not-is_active : goal.returns-then-not-is_active
returns-then-not-is_active c =
    ap (λ o. unwrap_or o c.args.lanes)
    (sym (c.loop-e.invariant ∙ first_true-on (is_clear c.args.width c.args.ffr.now.bits) c.args.lanes c.loop-e.e c.loop-e-test.true (ap not (sym c.if-not-is_active.ensures))))

pub loop-e-preserved : goal.loop-e-preserved
loop-e-preserved c =
    c.loop-e.invariant ∙ first_true-off (is_clear c.args.width c.args.ffr.now.bits) c.args.lanes c.loop-e.e c.loop-e-test.true (ap not (sym c.if-not-is_active.ensures))

pub returns : goal.returns
returns c =
    ap (λ o. unwrap_or o c.args.lanes) (sym (c.loop-e.invariant ∙ first_true-end (is_clear c.args.width c.args.ffr.now.bits) c.args.lanes c.loop-e.e c.loop-e-test.false))
