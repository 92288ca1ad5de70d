use Rattle.std.proofs.Common.{◌≡◌, ◌+◌, ◌*◌, sym, ap, ◌∙◌, subst, arith, length, rules, ◌<◌}
use Rattle.guest_types.specs.Length.{width_bytes, all_lanes}
use Rattle.paged_memory.specs.Numbers.{number_in, with_number}
use Rattle.lane_memory.specs.Writings.{IsWritten}
use Rattle.lane_memory.proofs.WriteLaws.{Under, under-none, under-on, under-off}
use Rattle.lane_memory.proofs.Sizes.{byte_size, lanes_most, few_bytes, element_end, lane_end}
use Rattle.lane_memory.proofs.write.narrow.Goals as goal
use Rattle.lane_memory.proofs.write.narrow.Goals.{then-is_active, else-is_active}

pub loop-i-init : goal.loop-i-init
loop-i-init c = under-none c.args.elements.now.writing c.args.elements.now.pg.now.bits c.args.elements.now.z.now.bytes c.args.elements.now.from c.args.elements.now.count c.args.part.now

pub loop-i-preserved : goal.loop-i-preserved
loop-i-preserved c =
    let w = c.args.elements.now.writing in
    let pg = c.args.elements.now.pg.now.bits in
    let z = c.args.elements.now.z.now.bytes in
    let from = c.args.elements.now.from in
    let i = c.loop-i.i in
    let old = c.args.part.now in
    let was = c.loop-i.part in
    let m = width_bytes w.memory in
    let k = width_bytes w.element in
    elim c.if-is_active.branch [
      | then-is_active v ↦
          let number : v.number-value.result ≡ number_in z (k * (from + i)) k = v.number-value.ensures ∙ ap (λ k. number_in z (k * (from + i)) k) c.requires.element in
          let put : v.put_number.new.bytes ≡ with_number was (m * i) m v.number-value.result = v.put_number.ensures ∙ ap (λ m. with_number was (m * i) m v.number-value.result) c.requires.memory in
          subst (Under w pg z from c.args.elements.now.count (i + 1) old) (sym v.part-is)
          (under-on w pg z from c.args.elements.now.count i v.number-value.result old was v.put_number.new.bytes c.loop-i.invariant c.loop-i-test.true c.requires.part (sym v.if-is_active.ensures) number put)
      | else-is_active v ↦
          subst (Under w pg z from c.args.elements.now.count (i + 1) old) (sym v.part-is)
          (under-off w pg z from c.args.elements.now.count i old was c.loop-i.invariant c.loop-i-test.true (sym v.if-is_active.ensures))
    ]

pub returns : goal.returns
returns c =
    let all : c.loop-i.i ≡ c.args.elements.now.count = omega (arith, c.loop-i-test.false, c.loop-i.auto.i-end) in
    subst (λ i. IsWritten c.args.elements.now.writing c.args.elements.now.pg.now.bits c.args.elements.now.z.now.bytes c.args.elements.now.from i c.args.part.now c.loop-i.part) all c.loop-i.invariant.done

pub overflow_add-from : goal.overflow_add-from
overflow_add-from c = omega (arith, c.loop-i-test.true, c.requires.inside, lanes_most c.args.elements.now.writing.element)

pub overflow_add-from-then-is_active : goal.overflow_add-from-then-is_active
overflow_add-from-then-is_active c = omega (arith, c.loop-i-test.true, c.requires.inside, lanes_most c.args.elements.now.writing.element)

pub is_active-requires : goal.is_active-requires
is_active-requires c = omega (arith, c.loop-i-test.true, c.requires.inside)

pub overflow_mul-element : goal.overflow_mul-element
overflow_mul-element c =
    let inside : c.args.elements.now.from + c.loop-i.i < all_lanes c.args.elements.now.writing.element = omega (arith, c.loop-i-test.true, c.requires.inside) in
    omega (arith, lane_end c.args.elements.now.writing.element c.args.element (c.args.elements.now.from + c.loop-i.i) c.requires.element inside)

pub number-value-requires : goal.number-value-requires
number-value-requires c =
    let inside : c.args.elements.now.from + c.loop-i.i < all_lanes c.args.elements.now.writing.element = omega (arith, c.loop-i-test.true, c.requires.inside) in
    let whole : length c.args.elements.now.z.now.bytes ≡ 256 = search rules in
    record {
      size = byte_size c.args.elements.now.writing.element c.args.element c.requires.element;
      inside = omega (arith, whole, lane_end c.args.elements.now.writing.element c.args.element (c.args.elements.now.from + c.loop-i.i) c.requires.element inside);
    }

pub overflow_mul-memory : goal.overflow_mul-memory
overflow_mul-memory c =
    let few = few_bytes c.args.elements.now.writing.memory c.args.elements.now.writing.element c.args.elements.now.count (omega (arith, c.requires.inside)) in
    omega (arith, few, c.requires.part, element_end (width_bytes c.args.elements.now.writing.memory) c.args.memory c.loop-i.i c.args.elements.now.count (length c.args.part.now) c.requires.memory c.loop-i-test.true c.requires.part)

pub put_number-requires : goal.put_number-requires
put_number-requires c = record {
  size = byte_size c.args.elements.now.writing.memory c.args.memory c.requires.memory;
  inside = omega (arith, c.loop-i.invariant.done.long, element_end (width_bytes c.args.elements.now.writing.memory) c.args.memory c.loop-i.i c.args.elements.now.count (length c.args.part.now) c.requires.memory c.loop-i-test.true c.requires.part);
}
