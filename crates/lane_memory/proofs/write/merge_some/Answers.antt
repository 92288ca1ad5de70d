use Rattle.std.proofs.Common.{◌≡◌, ◌+◌, ◌-◌, ◌*◌, ◌/◌, ◌++◌, ℕ, length, get_or, take, drop, Fits, w8, rules, ap, ap₂, ◌∙◌, arith}
use Rattle.guest_types.specs.Length.{width_bytes}
use Rattle.lane_memory.proofs.WriteLaws.{merged-part}
use Rattle.lane_memory.proofs.Sizes.{lanes_end}
use Rattle.lane_memory.proofs.write.merge_some.Goals as goal

pub returns : goal.returns
returns c =
    let w = c.args.elements.now.writing in
    let part = c.args.part.now in
    let zeros = c.zero-merged.result.bytes in
    let small : (j : ℕ) → Fits w8 (get_or part j 0) = λ j. search rules in
    let none : length zeros ≡ 256 = search rules in
    let k = width_bytes w.element in
    let at = c.bytes-size.result * c.args.elements.now.from in
    let size : at + length part - at ≡ k * c.args.elements.now.count = omega (arith, c.requires.part, ap (λ w. width_bytes w * c.args.elements.now.count) c.requires.same) in
    merged-part w c.args.elements.now.pg.now.bits c.args.elements.now.z.now.bytes c.args.elements.now.from c.args.elements.now.count ((at + length part + 31) / 32) part zeros _ c.merge_active.new.out.bytes c.copy_from_slice-2.new.self c.requires.same c.requires.part c.requires.inside (λ j. (small j).fits) none
    (ap (λ n. take at zeros ++ (c.copy_from_slice.new.self ++ drop n (drop at zeros))) size
    ∙ ap₂ (λ l ys. take l zeros ++ (ys ++ drop (k * c.args.elements.now.count) (drop l zeros))) (ap (λ k. k * c.args.elements.now.from) c.bytes-size.ensures) c.copy_from_slice.ensures.after)
    (ap₂ (λ a b. (a + b + 31) / 32) (ap (λ k. k * c.args.elements.now.from) c.bytes-size.ensures) (c.requires.part ∙ ap (λ w. width_bytes w * c.args.elements.now.count) c.requires.same))
    c.merge_active.ensures
    (c.copy_from_slice-2.ensures.after ∙ ap₂ (λ n l. take n (drop l c.merge_active.new.out.bytes)) size (ap (λ k. k * c.args.elements.now.from) c.bytes-size.ensures))

pub overflow_mul-at : goal.overflow_mul-at
overflow_mul-at c =
    let at = ap (λ k. k * c.args.elements.now.from) c.bytes-size.ensures in
    let long = c.requires.part ∙ ap (λ w. width_bytes w * c.args.elements.now.count) c.requires.same in
    omega (arith, lanes_end c.args.elements.now.writing.element c.args.elements.now.from c.args.elements.now.count c.requires.inside, at, long)

pub overflow_add-end : goal.overflow_add-end
overflow_add-end c =
    let at = ap (λ k. k * c.args.elements.now.from) c.bytes-size.ensures in
    let long = c.requires.part ∙ ap (λ w. width_bytes w * c.args.elements.now.count) c.requires.same in
    omega (arith, lanes_end c.args.elements.now.writing.element c.args.elements.now.from c.args.elements.now.count c.requires.inside, at, long)

pub overflow_add-end-2 : goal.overflow_add-end-2
overflow_add-end-2 c =
    let at = ap (λ k. k * c.args.elements.now.from) c.bytes-size.ensures in
    let long = c.requires.part ∙ ap (λ w. width_bytes w * c.args.elements.now.count) c.requires.same in
    omega (arith, lanes_end c.args.elements.now.writing.element c.args.elements.now.from c.args.elements.now.count c.requires.inside, at, long)

pub merge_active-requires : goal.merge_active-requires
merge_active-requires c =
    let at = ap (λ k. k * c.args.elements.now.from) c.bytes-size.ensures in
    let long = c.requires.part ∙ ap (λ w. width_bytes w * c.args.elements.now.count) c.requires.same in
    omega (arith, lanes_end c.args.elements.now.writing.element c.args.elements.now.from c.args.elements.now.count c.requires.inside, at, long)

pub slice_bounds-copy_from_slice-count : goal.slice_bounds-copy_from_slice-count
slice_bounds-copy_from_slice-count c =
    let at = ap (λ k. k * c.args.elements.now.from) c.bytes-size.ensures in
    let long = c.requires.part ∙ ap (λ w. width_bytes w * c.args.elements.now.count) c.requires.same in
    omega (arith, lanes_end c.args.elements.now.writing.element c.args.elements.now.from c.args.elements.now.count c.requires.inside, at, long)

pub slice_bounds-copy_from_slice-start : goal.slice_bounds-copy_from_slice-start
slice_bounds-copy_from_slice-start c =
    let at = ap (λ k. k * c.args.elements.now.from) c.bytes-size.ensures in
    let long = c.requires.part ∙ ap (λ w. width_bytes w * c.args.elements.now.count) c.requires.same in
    omega (arith, lanes_end c.args.elements.now.writing.element c.args.elements.now.from c.args.elements.now.count c.requires.inside, at, long)

pub slice_bounds-copy_from_slice-count-2 : goal.slice_bounds-copy_from_slice-count-2
slice_bounds-copy_from_slice-count-2 c =
    let at = ap (λ k. k * c.args.elements.now.from) c.bytes-size.ensures in
    let long = c.requires.part ∙ ap (λ w. width_bytes w * c.args.elements.now.count) c.requires.same in
    omega (arith, lanes_end c.args.elements.now.writing.element c.args.elements.now.from c.args.elements.now.count c.requires.inside, at, long)

pub slice_bounds-copy_from_slice-start-2 : goal.slice_bounds-copy_from_slice-start-2
slice_bounds-copy_from_slice-start-2 c =
    let at = ap (λ k. k * c.args.elements.now.from) c.bytes-size.ensures in
    let long = c.requires.part ∙ ap (λ w. width_bytes w * c.args.elements.now.count) c.requires.same in
    omega (arith, lanes_end c.args.elements.now.writing.element c.args.elements.now.from c.args.elements.now.count c.requires.inside, at, long)

pub slice_bounds-copy_from_slice-end : goal.slice_bounds-copy_from_slice-end
slice_bounds-copy_from_slice-end c =
    let at = ap (λ k. k * c.args.elements.now.from) c.bytes-size.ensures in
    let long = c.requires.part ∙ ap (λ w. width_bytes w * c.args.elements.now.count) c.requires.same in
    let whole : length c.zero-merged.result.bytes ≡ 256 = search rules in
    omega (arith, lanes_end c.args.elements.now.writing.element c.args.elements.now.from c.args.elements.now.count c.requires.inside, at, long, whole)

pub slice_bounds-copy_from_slice-end-2 : goal.slice_bounds-copy_from_slice-end-2
slice_bounds-copy_from_slice-end-2 c =
    let at = ap (λ k. k * c.args.elements.now.from) c.bytes-size.ensures in
    let long = c.requires.part ∙ ap (λ w. width_bytes w * c.args.elements.now.count) c.requires.same in
    omega (arith, lanes_end c.args.elements.now.writing.element c.args.elements.now.from c.args.elements.now.count c.requires.inside, at, long, c.merge_active.ensures.long)
