use Rattle.std.proofs.Common.{◌≡◌, ◌+◌, ◌-◌, ◌%◌, take, drop, ap, ◌∙◌, arith, rules, length, ◌≤◌}
use Rattle.paged_memory.proofs.HeadPlaces.{stands-place, start-read, part-span}
use Rattle.paged_memory.proofs.Places.{within}
use Rattle.std.proofs.lemmas.List.{length-take-le, length-drop}
use Rattle.paged_memory.proofs.store.Store.part.Goals as goal

pub returns-clause-value : goal.returns-clause-value
returns-clause-value c =
    let heads = c.self.inside.heads.items in
    let bs = c.self.inside.bytes.items in
    let m = c.args.self.now in
    let a = c.args.address in
    let at = c.index.result.now.start + a % 4096 in
    let here = stands-place heads bs m a c.args.len c.args.place c.self.view_is c.requires in
    let size : at + c.args.len - at ≡ c.args.len = omega arith in
    ap (λ l. take (at + c.args.len - at) (drop at l)) c.deref.ensures.value
    ∙ part-span heads bs m a c.args.len c.args.place at (at + c.args.len - at) c.self.view_is c.self.invariant here c.requires.inside
    (ap (λ n. n + a % 4096) (start-read heads c.args.place c.index.result.now here.below c.index.ensures)) size

pub index-requires : goal.index-requires
index-requires c =
    let here = stands-place c.self.inside.heads.items c.self.inside.bytes.items c.args.self.now c.args.address c.args.len c.args.place c.self.view_is c.requires in
    omega (arith, here.below, c.self.inside.heads.ok.0)

pub overflow_add-at : goal.overflow_add-at
overflow_add-at c =
    let heads = c.self.inside.heads.items in
    let bs = c.self.inside.bytes.items in
    let here = stands-place heads bs c.args.self.now c.args.address c.args.len c.args.place c.self.view_is c.requires in
    let most : length bs ≤ 9223372036854775808 = search rules in
    omega (arith, start-read heads c.args.place c.index.result.now here.below c.index.ensures, within heads bs c.args.place c.self.invariant here.below, most)

pub overflow_add-result : goal.overflow_add-result
overflow_add-result c =
    let heads = c.self.inside.heads.items in
    let bs = c.self.inside.bytes.items in
    let here = stands-place heads bs c.args.self.now c.args.address c.args.len c.args.place c.self.view_is c.requires in
    let most : length bs ≤ 9223372036854775808 = search rules in
    omega (arith, start-read heads c.args.place c.index.result.now here.below c.index.ensures, within heads bs c.args.place c.self.invariant here.below, c.requires.inside, most)

pub slice_bounds-result-count : goal.slice_bounds-result-count
slice_bounds-result-count c = omega arith

pub slice_bounds-result-start : goal.slice_bounds-result-start
slice_bounds-result-start c =
    let heads = c.self.inside.heads.items in
    let bs = c.self.inside.bytes.items in
    let here = stands-place heads bs c.args.self.now c.args.address c.args.len c.args.place c.self.view_is c.requires in
    omega (arith, start-read heads c.args.place c.index.result.now here.below c.index.ensures, within heads bs c.args.place c.self.invariant here.below, c.requires.inside, ap length c.deref.ensures.value)

pub slice_bounds-result-end : goal.slice_bounds-result-end
slice_bounds-result-end c =
    let heads = c.self.inside.heads.items in
    let bs = c.self.inside.bytes.items in
    let here = stands-place heads bs c.args.self.now c.args.address c.args.len c.args.place c.self.view_is c.requires in
    omega (arith, start-read heads c.args.place c.index.result.now here.below c.index.ensures, within heads bs c.args.place c.self.invariant here.below, c.requires.inside, ap length c.deref.ensures.value)

pub returns-clause-len : goal.returns-clause-len
returns-clause-len c =
    let heads = c.self.inside.heads.items in
    let bs = c.self.inside.bytes.items in
    let at = c.index.result.now.start + c.args.address % 4096 in
    let here = stands-place heads bs c.args.self.now c.args.address c.args.len c.args.place c.self.view_is c.requires in
    let start = start-read heads c.args.place c.index.result.now here.below c.index.ensures in
    let inside = within heads bs c.args.place c.self.invariant here.below in
    let size : at + c.args.len - at ≡ c.args.len = omega arith in
    length-take-le (at + c.args.len - at) (drop at c.deref.result.now) (omega (arith, length-drop at c.deref.result.now, ap length c.deref.ensures.value, start, inside, c.requires.inside)) ∙ size
