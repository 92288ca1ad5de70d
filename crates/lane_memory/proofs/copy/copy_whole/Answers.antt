use Rattle.std.proofs.Common.{◌≡◌, ◌+◌, ◌-◌, ◌*◌, ◌++◌, ℕ, length, get_or, take, drop, Fits, w8, rules, ap, ap₂, ◌∙◌, arith}
use Rattle.guest_types.specs.Length.{width_bytes}
use Rattle.lane_memory.proofs.ReadLaws.{copied-whole}
use Rattle.lane_memory.proofs.Sizes.{lanes_end}
use Rattle.lane_memory.proofs.copy.copy_whole.Goals as goal

pub returns : goal.returns
returns c =
    let r = c.args.reading in
    let part = c.args.part.now in
    let old = c.args.out.now.bytes in
    let long : length old ≡ 256 = search rules in
    let small : (j : ℕ) → Fits w8 (get_or part j 0) = λ j. search rules in
    let at = c.bytes.result * c.args.from in
    let size : at + length part - at ≡ width_bytes r.element * c.args.count = omega (arith, c.requires.part, ap (λ w. width_bytes w * c.args.count) c.requires.same) in
    copied-whole r part c.args.from c.args.count old _ c.requires.same c.requires.part c.requires.inside long (λ j. (small j).fits)
    (ap (λ n. take at old ++ (c.copy_from_slice.new.self ++ drop n (drop at old))) size
    ∙ ap₂ (λ l ys. take l old ++ (ys ++ drop (width_bytes r.element * c.args.count) (drop l old))) (ap (λ k. k * c.args.from) c.bytes.ensures) c.copy_from_slice.ensures.after)

pub overflow_mul-at : goal.overflow_mul-at
overflow_mul-at c =
    let at = ap (λ k. k * c.args.from) c.bytes.ensures in
    let long = c.requires.part ∙ ap (λ w. width_bytes w * c.args.count) c.requires.same in
    omega (arith, lanes_end c.args.reading.element c.args.from c.args.count c.requires.inside, at, long)

pub overflow_add-at : goal.overflow_add-at
overflow_add-at c =
    let at = ap (λ k. k * c.args.from) c.bytes.ensures in
    let long = c.requires.part ∙ ap (λ w. width_bytes w * c.args.count) c.requires.same in
    omega (arith, lanes_end c.args.reading.element c.args.from c.args.count c.requires.inside, at, long)

pub slice_bounds-copy_from_slice-count : goal.slice_bounds-copy_from_slice-count
slice_bounds-copy_from_slice-count c =
    let at = ap (λ k. k * c.args.from) c.bytes.ensures in
    let long = c.requires.part ∙ ap (λ w. width_bytes w * c.args.count) c.requires.same in
    omega (arith, lanes_end c.args.reading.element c.args.from c.args.count c.requires.inside, at, long)

pub slice_bounds-copy_from_slice-start : goal.slice_bounds-copy_from_slice-start
slice_bounds-copy_from_slice-start c =
    let at = ap (λ k. k * c.args.from) c.bytes.ensures in
    let long = c.requires.part ∙ ap (λ w. width_bytes w * c.args.count) c.requires.same in
    omega (arith, lanes_end c.args.reading.element c.args.from c.args.count c.requires.inside, at, long)

pub slice_bounds-copy_from_slice-end : goal.slice_bounds-copy_from_slice-end
slice_bounds-copy_from_slice-end c =
    let at = ap (λ k. k * c.args.from) c.bytes.ensures in
    let long = c.requires.part ∙ ap (λ w. width_bytes w * c.args.count) c.requires.same in
    let whole : length c.args.out.now.bytes ≡ 256 = search rules in
    omega (arith, lanes_end c.args.reading.element c.args.from c.args.count c.requires.inside, at, long, whole)
