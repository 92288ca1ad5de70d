use Rattle.std.proofs.Common.{◌+◌, sym, ◌∙◌, subst}
use Rattle.lane_memory.specs.Readings.{on_from, faults_of}
use Rattle.lane_memory.proofs.EarlySteps.{Going, going-begins, going-faults, going-stops, going-on, going-past, going-ends, first-never, on_from-below, on_from-above}
use Rattle.lane_memory.proofs.early.first_suppressed.Goals as goal
use Rattle.lane_memory.proofs.early.first_suppressed.Goals.{then-is_active+else-faults+else-next, else-is_active}

pub returns-then-is_none-clause-first : goal.returns-then-is_none-clause-first
returns-then-is_none-clause-first c =
    c.first_refused.ensures ∙ first-never c.args.reading c.args.pages.now.memory c.args.stops.now c.args.pg.now.bits c.args.from c.args.lanes (c.is_none.ensures.0 c.if-is_none.true) c.requires.from

pub loop-e-init : goal.loop-e-init
loop-e-init c =
    let r = c.args.reading in
    let pg = c.args.pg.now.bits in
    let from = c.args.from in
    going-begins c.args.stops.now (on_from r pg from) (faults_of r c.args.pages.now.memory) c.args.lanes from c.is_counted.ensures c.requires.from (on_from-below r pg from)

pub returns-then-faults : goal.returns-then-faults
returns-then-faults c =
    let r = c.args.reading in
    let pg = c.args.pg.now.bits in
    let from = c.args.from in
    let e = c.loop-e.e in
    let is = going-faults c.args.stops.now (on_from r pg from) (faults_of r c.args.pages.now.memory) c.args.lanes e c.loop-e.stops c.loop-e.invariant c.loop-e-test.true (on_from-above r pg from e c.loop-e.auto.e ∙ sym c.if-is_active.ensures) (sym c.if-faults.ensures) in
    record { first = is.first; counted = is.stops }

pub returns-then-next : goal.returns-then-next
returns-then-next c =
    let r = c.args.reading in
    let pg = c.args.pg.now.bits in
    let from = c.args.from in
    let e = c.loop-e.e in
    let is = going-stops c.args.stops.now (on_from r pg from) (faults_of r c.args.pages.now.memory) c.args.lanes e c.loop-e.stops c.next.new.self c.loop-e.invariant c.loop-e-test.true (on_from-above r pg from e c.loop-e.auto.e ∙ sym c.if-is_active.ensures) (sym c.if-faults.ensures) (sym c.if-next.ensures.value) c.next.ensures.counted in
    record { first = is.first; counted = is.stops }

pub loop-e-preserved : goal.loop-e-preserved
loop-e-preserved c =
    let r = c.args.reading in
    let pg = c.args.pg.now.bits in
    let from = c.args.from in
    let e = c.loop-e.e in
    let s0 = c.args.stops.now in
    let free = on_from r pg from in
    let faults = faults_of r c.args.pages.now.memory in
    elim c.if-is_active.branch [
      | then-is_active+else-faults+else-next w ↦
          subst (Going s0 free faults c.args.lanes (e + 1)) (sym w.stops-is)
          (going-on s0 free faults c.args.lanes e c.loop-e.stops w.next.new.self c.loop-e.invariant c.loop-e-test.true (on_from-above r pg from e c.loop-e.auto.e ∙ sym w.if-is_active.ensures) (sym w.if-faults.ensures) (sym w.if-next.ensures.value) w.next.ensures.counted)
      | else-is_active w ↦
          subst (Going s0 free faults c.args.lanes (e + 1)) (sym w.stops-is)
          (going-past s0 free faults c.args.lanes e c.loop-e.stops c.loop-e.invariant c.loop-e-test.true (on_from-above r pg from e c.loop-e.auto.e ∙ sym w.if-is_active.ensures))
    ]

pub returns : goal.returns
returns c =
    let r = c.args.reading in
    let pg = c.args.pg.now.bits in
    let is = going-ends c.args.stops.now (on_from r pg c.args.from) (faults_of r c.args.pages.now.memory) c.args.lanes c.loop-e.e c.loop-e.stops c.loop-e.invariant (c.loop-e.auto.e-end c.requires.from) c.loop-e-test.false in
    record { first = is.first; counted = is.stops }
