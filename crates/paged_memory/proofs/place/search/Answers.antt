use Rattle.std.proofs.Common.{◌-◌, ◌/◌, ◌+◌, ◌<◌, length, arith, sym, ◌∙◌}
use Rattle.std.proofs.lemmas.List.{length-map}
use Rattle.paged_memory.specs.Layout.{head_numbers}
use Rattle.paged_memory.specs.declared.head.Head.{Head}
use Rattle.paged_memory.proofs.Places.{between_after, between_before, between_none, number-head, no_head, between_start}
use Rattle.paged_memory.proofs.place.search.Goals as goal

pub loop-low-preserved-then-here-number-2 : goal.loop-low-preserved-then-here-number-2
loop-low-preserved-then-here-number-2 c =
    let heads = c.args.heads.now in
    let middle = c.loop-low.low + (c.loop-low.high - c.loop-low.low) / 2 in
    let inside : middle < length heads = omega (arith, c.loop-low.invariant.inside, length-map heads (λ (head : Head). head.number)) in
    let here = number-head heads middle no_head inside in
    between_after (head_numbers heads) c.args.number c.loop-low.low c.loop-low.high middle c.requires c.loop-low.invariant (omega arith) (omega arith) (omega (arith, here, c.if-here-number-2.true))

pub loop-low-preserved : goal.loop-low-preserved
loop-low-preserved c =
    let heads = c.args.heads.now in
    let middle = c.loop-low.low + (c.loop-low.high - c.loop-low.low) / 2 in
    let inside : middle < length heads = omega (arith, c.loop-low.invariant.inside, length-map heads (λ (head : Head). head.number)) in
    let here = number-head heads middle no_head inside in
    between_before (head_numbers heads) c.args.number c.loop-low.low c.loop-low.high middle c.requires c.loop-low.invariant (omega arith) (omega (arith, here, c.if-here-number.false, c.if-here-number-2.false))

pub returns-clause-absent : goal.returns-clause-absent
returns-clause-absent c =
    between_none (head_numbers c.args.heads.now) c.args.number c.loop-low.low c.loop-low.high c.loop-low.invariant c.loop-low-test.false

pub loop-low-init : goal.loop-low-init
loop-low-init c = between_start (head_numbers c.args.heads.now) c.args.number _ (sym (length-map c.args.heads.now (λ (head : Head). head.number)))

pub overflow_sub-middle : goal.overflow_sub-middle
overflow_sub-middle c = omega (arith, c.loop-low-test.true)

pub overflow_add-middle : goal.overflow_add-middle
overflow_add-middle c = omega (arith, c.loop-low-test.true)

pub bounds-heads-middle : goal.bounds-heads-middle
bounds-heads-middle c = omega (arith, c.loop-low-test.true, c.loop-low.invariant.inside, length-map c.args.heads.now (λ (head : Head). head.number))

pub returns-then-here-number-clause-found : goal.returns-then-here-number-clause-found
returns-then-here-number-clause-found c =
    let heads = c.args.heads.now in
    let middle = c.loop-low.low + (c.loop-low.high - c.loop-low.low) / 2 in
    let inside : middle < length heads = omega (arith, c.loop-low-test.true, c.loop-low.invariant.inside, length-map heads (λ (head : Head). head.number)) in
    record { below = inside; here = number-head heads middle no_head inside ∙ c.if-here-number.true }

pub overflow_add-low : goal.overflow_add-low
overflow_add-low c = omega (arith, c.loop-low-test.true)

pub loop-low-smaller-then-here-number-2 : goal.loop-low-smaller-then-here-number-2
loop-low-smaller-then-here-number-2 c = omega (arith, c.loop-low-test.true)

pub loop-low-smaller : goal.loop-low-smaller
loop-low-smaller c = omega (arith, c.loop-low-test.true)
