use Rattle.std.proofs.Common.{◌≡◌, ◌≤◌, ◌+◌, ◌-◌, ◌%◌, length, take, drop, rules, sym, ap, ◌∙◌, subst, arith}
use Rattle.std.proofs.lemmas.List.{with_items_is, length-take-le, length-drop}
use Rattle.guest_types.specs.Spans.{span_of}
use Rattle.paged_memory.proofs.HeadPlaces.{stands-place, start-read, part-span, put-mid, span-written}
use Rattle.paged_memory.proofs.Parts.{put_at, length-put_at}
use Rattle.paged_memory.proofs.Places.{within}
use Rattle.paged_memory.proofs.PageLaws.{laid-same}
use Rattle.paged_memory.proofs.store.Store.write_span.Goals as goal

pub returns : goal.returns
returns g c =
    let heads = c.self.inside.heads.items in
    let bs = c.self.inside.bytes.items in
    let m = c.args.self.now in
    let a = c.args.address in
    let len = c.args.len in
    let i = c.args.place in
    let w = c.write.new.part in
    let at = c.index.result.now.start + a % 4096 in
    let here = stands-place heads bs m a len i c.self.view_is c.requires.place in
    let fits = c.requires.place.inside in
    let size : at + len - at ≡ len = omega arith in
    let start = ap (λ n. n + a % 4096) (start-read heads i c.index.result.now here.below c.index.ensures) in
    let inside : at + len ≤ length bs = omega (arith, start, fits, within heads bs i c.self.invariant here.below) in
    let same = ap (λ l. take (at + len - at) (drop at l)) c.deref_mut.ensures.value in
    let part : take (at + len - at) (drop at c.deref_mut.result.now) ≡ span_of m a len =
    same ∙ part-span heads bs m a len i at (at + len - at) c.self.view_is c.self.invariant here fits start size in
    let long : length w ≡ len = c.write.auto.part ∙ ap length same ∙ length-take-le (at + len - at) (drop at bs) (omega (arith, inside, length-drop at bs)) ∙ size in
    let put = put-mid bs c.deref_mut.result.now w at (at + len - at) c.deref_mut.ensures.value (size ∙ sym long) in
    let whole = length-put_at at w bs (omega (arith, inside, long)) in
    record {
      bytes = w;
      long = long;
      written = subst (λ l. g.W.SpanWriter.writes c.args.writer.now l w) part c.write.ensures;
      memory = span-written heads bs _ m a len i w c.self.view_is c.self.invariant here fits long
          (with_items_is c.self.inside.bytes _ (ap length put ∙ whole ∙ sym c.self.inside.bytes.ok.0) ∙ put ∙ ap (λ n. put_at n w bs) start);
    }

pub index-requires : goal.index-requires
index-requires g c =
    let here = stands-place c.self.inside.heads.items c.self.inside.bytes.items c.args.self.now c.args.address c.args.len c.args.place c.self.view_is c.requires.place in
    omega (arith, here.below, c.self.inside.heads.ok.0)

pub overflow_add-at : goal.overflow_add-at
overflow_add-at g c =
    let heads = c.self.inside.heads.items in
    let bs = c.self.inside.bytes.items in
    let here = stands-place heads bs c.args.self.now c.args.address c.args.len c.args.place c.self.view_is c.requires.place in
    let most : length bs ≤ 9223372036854775808 = search rules in
    omega (arith, start-read heads c.args.place c.index.result.now here.below c.index.ensures, within heads bs c.args.place c.self.invariant here.below, most)

pub overflow_add-at-2 : goal.overflow_add-at-2
overflow_add-at-2 g c =
    let heads = c.self.inside.heads.items in
    let bs = c.self.inside.bytes.items in
    let here = stands-place heads bs c.args.self.now c.args.address c.args.len c.args.place c.self.view_is c.requires.place in
    let most : length bs ≤ 9223372036854775808 = search rules in
    omega (arith, start-read heads c.args.place c.index.result.now here.below c.index.ensures, within heads bs c.args.place c.self.invariant here.below, c.requires.place.inside, most)

pub slice_bounds-write-count : goal.slice_bounds-write-count
slice_bounds-write-count g c = omega arith

pub slice_bounds-write-start : goal.slice_bounds-write-start
slice_bounds-write-start g c =
    let heads = c.self.inside.heads.items in
    let bs = c.self.inside.bytes.items in
    let here = stands-place heads bs c.args.self.now c.args.address c.args.len c.args.place c.self.view_is c.requires.place in
    omega (arith, start-read heads c.args.place c.index.result.now here.below c.index.ensures, within heads bs c.args.place c.self.invariant here.below, c.requires.place.inside, ap length c.deref_mut.ensures.value)

pub slice_bounds-write-end : goal.slice_bounds-write-end
slice_bounds-write-end g c =
    let heads = c.self.inside.heads.items in
    let bs = c.self.inside.bytes.items in
    let here = stands-place heads bs c.args.self.now c.args.address c.args.len c.args.place c.self.view_is c.requires.place in
    omega (arith, start-read heads c.args.place c.index.result.now here.below c.index.ensures, within heads bs c.args.place c.self.invariant here.below, c.requires.place.inside, ap length c.deref_mut.ensures.value)

pub invariant_of-self : goal.invariant_of-self
invariant_of-self g c =
    let heads = c.self.inside.heads.items in
    let bs = c.self.inside.bytes.items in
    let m = c.args.self.now in
    let a = c.args.address in
    let len = c.args.len in
    let i = c.args.place in
    let w = c.write.new.part in
    let at = c.index.result.now.start + a % 4096 in
    let here = stands-place heads bs m a len i c.self.view_is c.requires.place in
    let size : at + len - at ≡ len = omega arith in
    let start = ap (λ n. n + a % 4096) (start-read heads i c.index.result.now here.below c.index.ensures) in
    let inside : at + len ≤ length bs = omega (arith, start, c.requires.place.inside, within heads bs i c.self.invariant here.below) in
    let same = ap (λ l. take (at + len - at) (drop at l)) c.deref_mut.ensures.value in
    let long : length w ≡ len = c.write.auto.part ∙ ap length same ∙ length-take-le (at + len - at) (drop at bs) (omega (arith, inside, length-drop at bs)) ∙ size in
    let put = put-mid bs c.deref_mut.result.now w at (at + len - at) c.deref_mut.ensures.value (size ∙ sym long) in
    let whole = ap length put ∙ length-put_at at w bs (omega (arith, inside, long)) in
    laid-same heads bs _ c.self.invariant (ap length (with_items_is c.self.inside.bytes _ (whole ∙ sym c.self.inside.bytes.ok.0)) ∙ whole)
