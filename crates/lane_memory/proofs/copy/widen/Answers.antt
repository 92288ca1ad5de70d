use Rattle.std.proofs.Common.{◌≡◌, ◌+◌, ◌*◌, ◌<◌, ℕ, get_or, Fits, w8, rules, sym, ap, ◌∙◌, subst, arith, length, refl}
use Rattle.guest_types.specs.Length.{width_bytes, modulus, all_lanes}
use Rattle.paged_memory.specs.Numbers.{number_in, with_number}
use Rattle.lane_memory.proofs.ReadLaws.{chunk-below, number_in-chunk, copied-more, length-written}
use Rattle.lane_memory.specs.Readings.{IsCopied}
use Rattle.lane_memory.proofs.Sizes.{byte_size, lanes_most, few_bytes, element_end, lane_end}
use Rattle.lane_memory.proofs.copy.widen.Goals as goal

pub extend-requires : goal.extend-requires
extend-requires c =
    let r = c.args.reading in
    let part = c.args.part.now in
    let m = width_bytes r.memory in
    let i = c.loop-i.i in
    let small : (j : ℕ) → Fits w8 (get_or part j 0) = λ j. search rules in
    let is : c.number-value.result ≡ number_in part (m * i) m = c.number-value.ensures ∙ ap (λ n. number_in part (n * i) n) c.requires.memory in
    subst (λ v. v < modulus r.memory) (sym (is ∙ number_in-chunk part (m * i) m)) (chunk-below r.memory (m * i) part (λ j. (small j).fits))

pub loop-i-preserved : goal.loop-i-preserved
loop-i-preserved c =
    let r = c.args.reading in
    let part = c.args.part.now in
    let from = c.args.from in
    let m = width_bytes r.memory in
    let k = width_bytes r.element in
    let i = c.loop-i.i in
    let was = c.loop-i.out.bytes in
    let now = c.put_number.new.bytes in
    let is : c.number-value.result ≡ number_in part (m * i) m = c.number-value.ensures ∙ ap (λ n. number_in part (n * i) n) c.requires.memory in
    let written : now ≡ with_number was (k * (from + i)) k c.extend.result = c.put_number.ensures ∙ ap (λ n. with_number was (n * (from + i)) n c.extend.result) c.requires.element in
    let inside : from + i < all_lanes r.element = omega (arith, c.loop-i-test.true, c.requires.inside) in (
      length-written was now r.element (from + i) c.extend.result c.loop-i.invariant.0 inside written,
      copied-more r part from i c.args.out.now.bytes was now c.number-value.result c.extend.result c.loop-i.invariant.1 c.loop-i.invariant.0 inside is c.extend.ensures written,
    )

pub loop-i-init : goal.loop-i-init
loop-i-init c =
    let whole : length c.args.out.now.bytes ≡ 256 = search rules in (
      whole,
      record { copied = λ i l. absurd (omega (arith, l)); kept = λ i _. refl },
    )

pub overflow_mul-memory : goal.overflow_mul-memory
overflow_mul-memory c =
    let few = few_bytes c.args.reading.memory c.args.reading.element c.args.count (omega (arith, c.requires.inside)) in
    omega (arith, few, c.requires.part, element_end (width_bytes c.args.reading.memory) c.args.memory c.loop-i.i c.args.count (length c.args.part.now) c.requires.memory c.loop-i-test.true c.requires.part)

pub number-value-requires : goal.number-value-requires
number-value-requires c = record {
  size = byte_size c.args.reading.memory c.args.memory c.requires.memory;
  inside = element_end (width_bytes c.args.reading.memory) c.args.memory c.loop-i.i c.args.count (length c.args.part.now) c.requires.memory c.loop-i-test.true c.requires.part;
}

pub overflow_add-at : goal.overflow_add-at
overflow_add-at c = omega (arith, c.loop-i-test.true, c.requires.inside, lanes_most c.args.reading.element)

pub overflow_mul-at : goal.overflow_mul-at
overflow_mul-at c =
    let inside : c.args.from + c.loop-i.i < all_lanes c.args.reading.element = omega (arith, c.loop-i-test.true, c.requires.inside) in
    omega (arith, lane_end c.args.reading.element c.args.element (c.args.from + c.loop-i.i) c.requires.element inside)

pub put_number-requires : goal.put_number-requires
put_number-requires c =
    let inside : c.args.from + c.loop-i.i < all_lanes c.args.reading.element = omega (arith, c.loop-i-test.true, c.requires.inside) in
    record {
      size = byte_size c.args.reading.element c.args.element c.requires.element;
      inside = omega (arith, c.loop-i.invariant.0, lane_end c.args.reading.element c.args.element (c.args.from + c.loop-i.i) c.requires.element inside);
    }

pub returns : goal.returns
returns c =
    let all : c.loop-i.i ≡ c.args.count = omega (arith, c.loop-i-test.false, c.loop-i.auto.i-end) in
    subst (λ i. IsCopied c.args.reading c.args.part.now c.args.from i c.args.out.now.bytes c.loop-i.out.bytes) all c.loop-i.invariant.1
