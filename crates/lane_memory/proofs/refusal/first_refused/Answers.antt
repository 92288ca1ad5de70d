use Rattle.std.proofs.Common.{◌≡◌, ◌-◌, ◌*◌, false, sym, ap, arith, inl, inr, ◌≤◌}
use Rattle.std.proofs.lemmas.Bool.{cases_lt}
use Rattle.lane_memory.specs.Readings.{refused_of}
use Rattle.lane_memory.proofs.FirstTrue.{first_true-at, first_true-absent}
use Rattle.lane_memory.proofs.ReadLaws.{part-free, refused-inactive, below-next}
use Rattle.guest_types.specs.Length.{all_lanes}
use Rattle.lane_memory.proofs.Sizes.{few_bytes, lanes_most}
use Rattle.lane_memory.proofs.refusal.first_refused.Goals as goal

pub loop-e-preserved-then-has_span : goal.loop-e-preserved-then-has_span
loop-e-preserved-then-has_span c =
    let r = c.args.reading in
    let n = c.count_in_page-count.result in (
      omega (arith, c.loop-e.invariant.0),
      λ j least l. elim (cases_lt j c.loop-e.e) [
        | inl b ↦ c.loop-e.invariant.1 j least b
        | inr g ↦ part-free r c.args.pages.now.memory c.args.pg.now.bits c.loop-e.e n c.place-address.result (c.bytes-size.result * n) j c.place-address.ensures (ap (λ m. m * n) c.bytes-size.ensures) (sym c.if-has_span.ensures) g l
      ],
    )

pub returns-then-is_refused : goal.returns-then-is_refused
returns-then-is_refused c =
    let refused = refused_of c.args.reading c.args.pages.now.memory c.args.pg.now.bits in
    sym (first_true-at refused (c.args.to - c.args.from) c.args.from c.loop-e.e (sym c.if-is_refused.ensures) c.loop-e.invariant.0 (omega (arith, c.loop-e.invariant.0, c.loop-e-test.true, c.active_range-range.ensures.inside)) c.loop-e.invariant.1)

pub loop-e-preserved : goal.loop-e-preserved
loop-e-preserved c =
    let refused = refused_of c.args.reading c.args.pages.now.memory c.args.pg.now.bits in (
      omega (arith, c.loop-e.invariant.0),
      λ j least l. below-next (λ j. refused j ≡ false) c.loop-e.e j (c.loop-e.invariant.1 j least) (sym c.if-is_refused.ensures) l,
    )

pub returns : goal.returns
returns c =
    let refused = refused_of c.args.reading c.args.pages.now.memory c.args.pg.now.bits in
    sym (first_true-absent refused (c.args.to - c.args.from) c.args.from (λ j least l. elim (cases_lt j c.loop-e.e) [
      | inl b ↦ c.loop-e.invariant.1 j least b
      | inr g ↦ refused-inactive c.args.reading c.args.pages.now.memory c.args.pg.now.bits j (c.active_range-range.ensures.after j (omega (arith, c.loop-e-test.false)) (omega arith))
    ]))

pub active_range-range-requires : goal.active_range-range-requires
active_range-range-requires c = c.requires

pub overflow_sub-range : goal.overflow_sub-range
overflow_sub-range c = omega (arith, c.loop-e-test.true)

pub overflow_mul-size : goal.overflow_mul-size
overflow_mul-size c =
    let n = c.count_in_page-count.result in
    let few : n ≤ all_lanes c.args.reading.element = omega (arith, c.count_in_page-count.ensures, c.loop-e-test.true, c.active_range-range.ensures.inside, c.requires) in
    omega (arith, few_bytes c.args.reading.memory c.args.reading.element n few, ap (λ k. k * n) c.bytes-size.ensures)

pub overflow_cast-size : goal.overflow_cast-size
overflow_cast-size c =
    let n = c.count_in_page-count.result in
    let few : n ≤ all_lanes c.args.reading.element = omega (arith, c.count_in_page-count.ensures, c.loop-e-test.true, c.active_range-range.ensures.inside, c.requires) in
    omega (arith, few_bytes c.args.reading.memory c.args.reading.element n few, ap (λ k. k * n) c.bytes-size.ensures)

pub overflow_add-e : goal.overflow_add-e
overflow_add-e c = omega (arith, c.count_in_page-count.ensures, c.loop-e-test.true, c.active_range-range.ensures.inside, c.requires, lanes_most c.args.reading.element)

pub is_refused-requires : goal.is_refused-requires
is_refused-requires c = omega (arith, c.loop-e-test.true, c.active_range-range.ensures.inside, c.requires)

pub overflow_add-e-else-is_refused : goal.overflow_add-e-else-is_refused
overflow_add-e-else-is_refused c = omega (arith, c.loop-e-test.true, c.active_range-range.ensures.inside, c.requires, lanes_most c.args.reading.element)

pub loop-e-smaller : goal.loop-e-smaller
loop-e-smaller c = omega (arith, c.loop-e-test.true)
