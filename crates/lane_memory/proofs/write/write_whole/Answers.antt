use Rattle.std.proofs.Common.{◌≡◌, ◌+◌, ◌-◌, ◌*◌, length, take, drop, ap, ap₂, ◌∙◌, arith}
use Rattle.guest_types.specs.Length.{width_bytes}
use Rattle.lane_memory.proofs.WriteLaws.{whole-part}
use Rattle.lane_memory.proofs.Sizes.{lanes_end}
use Rattle.lane_memory.proofs.write.write_whole.Goals as goal

pub returns : goal.returns
returns c =
    let w = c.args.elements.now.writing in
    let z = c.args.elements.now.z.now.bytes in
    let part = c.args.part.now in
    let at = c.bytes.result * c.args.elements.now.from in
    let size : at + length part - at ≡ width_bytes w.element * c.args.elements.now.count = omega (arith, c.requires.part, ap (λ w. width_bytes w * c.args.elements.now.count) c.requires.same) in
    whole-part w c.args.elements.now.pg.now.bits z c.args.elements.now.from c.args.elements.now.count part _ c.requires.same c.requires.part c.requires.inside c.blocks_of-blocks.ensures.len c.blocks_of-blocks.ensures.bytes c.requires.full
    (c.copy_from_slice.ensures.after ∙ ap₂ (λ n l. take n (drop l z)) size (ap (λ k. k * c.args.elements.now.from) c.bytes.ensures))

pub overflow_mul-at : goal.overflow_mul-at
overflow_mul-at c =
    let at = ap (λ k. k * c.args.elements.now.from) c.bytes.ensures in
    let long = c.requires.part ∙ ap (λ w. width_bytes w * c.args.elements.now.count) c.requires.same in
    omega (arith, lanes_end c.args.elements.now.writing.element c.args.elements.now.from c.args.elements.now.count c.requires.inside, at, long)

pub overflow_add-at : goal.overflow_add-at
overflow_add-at c =
    let at = ap (λ k. k * c.args.elements.now.from) c.bytes.ensures in
    let long = c.requires.part ∙ ap (λ w. width_bytes w * c.args.elements.now.count) c.requires.same in
    omega (arith, lanes_end c.args.elements.now.writing.element c.args.elements.now.from c.args.elements.now.count c.requires.inside, at, long)

pub slice_bounds-copy_from_slice-count : goal.slice_bounds-copy_from_slice-count
slice_bounds-copy_from_slice-count c =
    let at = ap (λ k. k * c.args.elements.now.from) c.bytes.ensures in
    let long = c.requires.part ∙ ap (λ w. width_bytes w * c.args.elements.now.count) c.requires.same in
    omega (arith, lanes_end c.args.elements.now.writing.element c.args.elements.now.from c.args.elements.now.count c.requires.inside, at, long)

pub slice_bounds-copy_from_slice-start : goal.slice_bounds-copy_from_slice-start
slice_bounds-copy_from_slice-start c =
    let at = ap (λ k. k * c.args.elements.now.from) c.bytes.ensures in
    let long = c.requires.part ∙ ap (λ w. width_bytes w * c.args.elements.now.count) c.requires.same in
    omega (arith, lanes_end c.args.elements.now.writing.element c.args.elements.now.from c.args.elements.now.count c.requires.inside, at, long)

pub slice_bounds-copy_from_slice-end : goal.slice_bounds-copy_from_slice-end
slice_bounds-copy_from_slice-end c =
    let at = ap (λ k. k * c.args.elements.now.from) c.bytes.ensures in
    let long = c.requires.part ∙ ap (λ w. width_bytes w * c.args.elements.now.count) c.requires.same in
    omega (arith, lanes_end c.args.elements.now.writing.element c.args.elements.now.from c.args.elements.now.count c.requires.inside, at, long, c.blocks_of-blocks.ensures.len)
