use Rattle.std.proofs.Common.{◌*◌, refl, ap, arith, subst, ◌≡◌, ◌≤◌, ◌∙◌}
use Rattle.lane_memory.specs.Readings.{refused_of, HoldsLanes}
use Rattle.lane_memory.proofs.FirstTrue.{first_true-none}
use Rattle.lane_memory.proofs.ReadLaws.{holds-part, holds-one, holds-none}
use Rattle.guest_types.specs.Length.{all_lanes}
use Rattle.lane_memory.proofs.Sizes.{few_bytes, lanes_most}
use Rattle.lane_memory.proofs.fill.copy_active.Goals as goal

pub loop-e-preserved-in-Some : goal.loop-e-preserved-in-Some
loop-e-preserved-in-Some c =
    let r = c.args.reading in
    let n = c.count_in_page-count.result in
    let h = c.loop-e.invariant in (
      omega (arith, h.0),
      omega (arith, c.count_in_page-count.ensures, c.loop-e-test.true),
      holds-part r c.args.pages.now.memory c.args.pg.now.bits c.in-Some.part.now c.args.from c.loop-e.e n c.place-address.result (c.bytes-size.result * n) c.loop-e.out.bytes c.copy_part.new.out.bytes c.is_memory.ensures h.2 c.place-address.ensures (ap (λ m. m * n) c.bytes-size.ensures) (c.in-Some.ensures.some.0 refl) c.in-Some.ensures.value c.copy_part.ensures,
    )

pub copy_one-requires-clause-read : goal.copy_one-requires-clause-read
copy_one-requires-clause-read c =
    first_true-none (refused_of c.args.reading c.args.pages.now.memory c.args.pg.now.bits) c.args.to 0 c.requires.read c.loop-e.e (omega arith) (omega (arith, c.loop-e-test.true))

pub loop-e-preserved : goal.loop-e-preserved
loop-e-preserved c =
    let h = c.loop-e.invariant in (
      omega (arith, h.0),
      omega (arith, c.loop-e-test.true),
      holds-one c.args.reading c.args.pages.now.memory c.args.pg.now.bits c.args.from c.loop-e.e c.loop-e.out.bytes c.copy_one.new.out.bytes h.2 c.copy_one.ensures,
    )

pub loop-e-init : goal.loop-e-init
loop-e-init c = (omega arith, c.requires.order, holds-none c.args.reading c.args.pages.now.memory c.args.pg.now.bits c.args.from c.args.out.now.bytes)

pub overflow_sub-to : goal.overflow_sub-to
overflow_sub-to c = omega (arith, c.loop-e-test.true)

pub overflow_mul-size : goal.overflow_mul-size
overflow_mul-size c =
    let n = c.count_in_page-count.result in
    let few : n ≤ all_lanes c.args.reading.element = omega (arith, c.count_in_page-count.ensures, c.loop-e-test.true, c.requires.inside) in
    omega (arith, few_bytes c.args.reading.memory c.args.reading.element n few, ap (λ k. k * n) c.bytes-size.ensures)

pub overflow_cast-size : goal.overflow_cast-size
overflow_cast-size c =
    let n = c.count_in_page-count.result in
    let few : n ≤ all_lanes c.args.reading.element = omega (arith, c.count_in_page-count.ensures, c.loop-e-test.true, c.requires.inside) in
    omega (arith, few_bytes c.args.reading.memory c.args.reading.element n few, ap (λ k. k * n) c.bytes-size.ensures)

pub copy_part-requires : goal.copy_part-requires
copy_part-requires c = record {
  part = c.in-Some.ensures.len ∙ ap (λ k. k * c.count_in_page-count.result) c.bytes-size.ensures;
  inside = omega (arith, c.count_in_page-count.ensures, c.loop-e-test.true, c.requires.inside);
}

pub overflow_add-e : goal.overflow_add-e
overflow_add-e c = omega (arith, c.count_in_page-count.ensures, c.loop-e-test.true, c.requires.inside, lanes_most c.args.reading.element)

pub copy_one-requires-clause-inside : goal.copy_one-requires-clause-inside
copy_one-requires-clause-inside c = omega (arith, c.loop-e-test.true, c.requires.inside)

pub overflow_add-e-in_default : goal.overflow_add-e-in_default
overflow_add-e-in_default c = omega (arith, c.loop-e-test.true, c.requires.inside, lanes_most c.args.reading.element)

pub loop-e-smaller : goal.loop-e-smaller
loop-e-smaller c = omega (arith, c.loop-e-test.true)

pub returns : goal.returns
returns c =
    let all : c.loop-e.e ≡ c.args.to = omega (arith, c.loop-e-test.false, c.loop-e.invariant.1) in
    subst (λ e. HoldsLanes c.args.reading c.args.pages.now.memory c.args.pg.now.bits c.args.from e c.loop-e.out.bytes) all c.loop-e.invariant.2
