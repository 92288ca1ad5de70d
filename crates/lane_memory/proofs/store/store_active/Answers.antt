use Rattle.std.proofs.Common.{◌≡◌, suc, ◌+◌, ◌-◌, ◌*◌, true, refl, sym, ap, ap₂, ◌∙◌, arith, subst, ◌≤◌}
use Rattle.guest_types.specs.Length.{width_bytes, all_lanes}
use Rattle.guest_types.specs.Spans.{has_span_mut}
use Rattle.guest_types.specs.Elements.{at, active}
use Rattle.lane_memory.specs.Writings.{target_of, stored_of}
use Rattle.lane_memory.proofs.SpanWrites.{store-one_done, store-one_stop}
use Rattle.lane_memory.proofs.WriteLaws.{part-stored}
use Rattle.paged_memory.specs.Loans.{IsPlaceOf}
use Rattle.lane_memory.proofs.Sizes.{few_bytes, lanes_most}
use Rattle.lane_memory.proofs.store.store_active.Goals as goal

pub loop-e-preserved-in-Some : goal.loop-e-preserved-in-Some
loop-e-preserved-in-Some c =
    let w = c.args.writing in
    let pg = c.args.pg.now.bits in
    let z = c.args.z.now.bytes in
    let e = c.loop-e.e in
    let n = c.count_in_page-count.result in
    let to = c.args.to in
    let h = c.loop-e.invariant in
    let has : has_span_mut c.loop-e.pages.memory (target_of w e) (width_bytes w.memory * n) ≡ true =
    sym (ap₂ (has_span_mut c.loop-e.pages.memory) c.target-address.ensures (ap (λ m. m * n) c.bytes-size.ensures)) ∙ c.in-Some.ensures.some.0 refl in (
      omega (arith, h.0),
      omega (arith, c.count_in_page-count.ensures, c.loop-e-test.true),
      h.2 ∙ ap (λ l. stored_of w pg z l e c.loop-e.pages.memory) (let q : to - e ≡ n + (to - (e + n)) = omega (arith, c.count_in_page-count.ensures, c.loop-e-test.true) in q)
          ∙ part-stored w pg z e n (to - (e + n)) c.loop-e.pages.memory c.store_part.new.pages.memory c.is_memory.ensures has c.store_part.ensures.written,
      c.store_part.ensures.past ∙ h.3,
    )

pub returns-in-Err-clause-refused : goal.returns-in-Err-clause-refused
returns-in-Err-clause-refused c =
    let w = c.args.writing in
    let pg = c.args.pg.now.bits in
    let z = c.args.z.now.bytes in
    let e = c.loop-e.e in
    let to = c.args.to in
    c.loop-e.invariant.2 ∙ ap (λ l. stored_of w pg z l e c.loop-e.pages.memory) (let q : to - e ≡ suc (to - (e + 1)) = omega (arith, c.loop-e-test.true) in q)
    ∙ store-one_stop (active w.element pg) (target_of w) (at w.element z) (width_bytes w.memory) (to - (e + 1)) e c.loop-e.pages.memory c.store_one.new.pages.memory c.in-Err.fault c.in-Err.ensures.refused

pub loop-e-preserved : goal.loop-e-preserved
loop-e-preserved c =
    let w = c.args.writing in
    let pg = c.args.pg.now.bits in
    let z = c.args.z.now.bytes in
    let e = c.loop-e.e in
    let to = c.args.to in (
      omega (arith, c.loop-e.invariant.0),
      omega (arith, c.loop-e-test.true),
      c.loop-e.invariant.2 ∙ ap (λ l. stored_of w pg z l e c.loop-e.pages.memory) (let q : to - e ≡ suc (to - (e + 1)) = omega (arith, c.loop-e-test.true) in q)
          ∙ store-one_done (active w.element pg) (target_of w) (at w.element z) (width_bytes w.memory) (to - (e + 1)) e c.loop-e.pages.memory c.store_one.new.pages.memory c.in_default-store_one.ensures.done,
      c.store_one.ensures.past ∙ c.loop-e.invariant.3,
    )

pub loop-e-init : goal.loop-e-init
loop-e-init c = (omega arith, c.requires.order, refl, refl)

pub overflow_sub-to : goal.overflow_sub-to
overflow_sub-to c = omega (arith, c.loop-e-test.true)

pub overflow_mul-size : goal.overflow_mul-size
overflow_mul-size c =
    let few : c.count_in_page-count.result ≤ all_lanes c.args.writing.element = omega (arith, c.count_in_page-count.ensures, c.loop-e-test.true, c.requires.inside) in
    omega (arith, few_bytes c.args.writing.memory c.args.writing.element c.count_in_page-count.result few, ap (λ k. k * c.count_in_page-count.result) c.bytes-size.ensures)

pub overflow_cast-size : goal.overflow_cast-size
overflow_cast-size c =
    let few : c.count_in_page-count.result ≤ all_lanes c.args.writing.element = omega (arith, c.count_in_page-count.ensures, c.loop-e-test.true, c.requires.inside) in
    omega (arith, few_bytes c.args.writing.memory c.args.writing.element c.count_in_page-count.result few, ap (λ k. k * c.count_in_page-count.result) c.bytes-size.ensures)

pub store_part-requires : goal.store_part-requires
store_part-requires c =
    let m = c.loop-e.pages.memory in
    let n = c.count_in_page-count.result in
    let place = c.in-Some.place in
    record {
      inside = omega (arith, c.count_in_page-count.ensures, c.loop-e-test.true, c.requires.inside);
      part = subst (λ a. IsPlaceOf m a (width_bytes c.args.writing.memory * n) place) c.target-address.ensures
          (subst (λ l. IsPlaceOf m c.target-address.result l place) (ap (λ k. k * n) c.bytes-size.ensures) c.in-Some.ensures.value);
    }

pub overflow_add-e : goal.overflow_add-e
overflow_add-e c = omega (arith, c.count_in_page-count.ensures, c.loop-e-test.true, c.requires.inside, lanes_most c.args.writing.element)

pub store_one-requires : goal.store_one-requires
store_one-requires c = omega (arith, c.loop-e-test.true, c.requires.inside)

pub returns-in-Err-clause-past : goal.returns-in-Err-clause-past
returns-in-Err-clause-past c = c.store_one.ensures.past ∙ c.loop-e.invariant.3

pub overflow_add-e-in_default : goal.overflow_add-e-in_default
overflow_add-e-in_default c = omega (arith, c.loop-e-test.true, c.requires.inside, lanes_most c.args.writing.element)

pub loop-e-smaller : goal.loop-e-smaller
loop-e-smaller c = omega (arith, c.loop-e-test.true)

pub returns-clause-done : goal.returns-clause-done
returns-clause-done c =
    let none : c.args.to - c.loop-e.e ≡ 0 = omega (arith, c.loop-e-test.false) in
    c.loop-e.invariant.2 ∙ ap (λ l. stored_of c.args.writing c.args.pg.now.bits c.args.z.now.bytes l c.loop-e.e c.loop-e.pages.memory) none

pub returns-clause-past : goal.returns-clause-past
returns-clause-past c = c.loop-e.invariant.3
