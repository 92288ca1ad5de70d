use Rattle.std.proofs.Common.{sym, arith, inl, inr}
use Rattle.std.proofs.lemmas.Bool.{cases_lt}
use Rattle.lane_memory.specs.Readings.{on_of}
use Rattle.lane_memory.proofs.FirstTrue.{first_true-at, first_true-absent, false_next}
use Rattle.lane_memory.proofs.refusal.first_active.Goals as goal

pub returns-then-is_active : goal.returns-then-is_active
returns-then-is_active c =
    let on = on_of c.args.reading c.args.pg.now.bits in
    sym (first_true-at on c.args.lanes 0 c.loop-e.e (sym c.if-is_active.ensures) (omega arith) (omega (arith, c.loop-e-test.true, c.active_range-range.ensures.inside)) (λ j _ l. c.loop-e.invariant j l))

pub returns : goal.returns
returns c =
    let on = on_of c.args.reading c.args.pg.now.bits in
    sym (first_true-absent on c.args.lanes 0 (λ j _ l. elim (cases_lt j c.loop-e.e) [
      | inl b ↦ c.loop-e.invariant j b
      | inr g ↦ c.active_range-range.ensures.after j (omega (arith, c.loop-e-test.false)) (omega arith)
    ]))

pub active_range-range-requires : goal.active_range-range-requires
active_range-range-requires c = c.requires

pub loop-e-init : goal.loop-e-init
loop-e-init c = c.active_range-range.ensures.before

pub is_active-requires : goal.is_active-requires
is_active-requires c = omega (arith, c.loop-e-test.true, c.active_range-range.ensures.inside, c.requires)

pub loop-e-preserved : goal.loop-e-preserved
loop-e-preserved c = false_next (on_of c.args.reading c.args.pg.now.bits) c.loop-e.e c.loop-e.invariant (sym c.if-is_active.ensures)
