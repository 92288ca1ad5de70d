use Rattle.std.proofs.Common.{◌≡◌, ◌+◌, ◌-◌, ◌*◌, ◌<◌, suc, length, take, drop, get_or, sym, ap, ◌∙◌, arith}
use Rattle.paged_memory.specs.Epochs.{put_back, with_page}
use Rattle.paged_memory.proofs.UndoLaws.{put_back-last}
use Rattle.paged_memory.proofs.epoch.put_back.Goals as goal

pub loop-k-preserved : goal.loop-k-preserved
loop-k-preserved c =
    let ps = c.args.places.now in
    let ims = c.args.images.now in
    let n = c.loop-k.k - 1 in
    let up : suc n ≡ c.loop-k.k = omega (arith, c.loop-k-test.true) in
    let below : n < length ps = omega (arith, c.loop-k-test.true, c.loop-k.invariant.below) in
    let size : 4096 * n + 4096 - 4096 * n ≡ 4096 = omega arith in
    record {
      below = omega (arith, below);
      rest = ap (put_back (take n ps) ims) (c.put_page.ensures ∙ ap (λ z. with_page (get_or ps n 0) (take z (drop (4096 * n) ims)) c.loop-k.store) size)
          ∙ sym (put_back-last ps ims n c.loop-k.store below)
          ∙ ap (λ j. put_back (take j ps) ims c.loop-k.store) up
          ∙ c.loop-k.invariant.rest;
    }

pub slice_bounds-put_page-count : goal.slice_bounds-put_page-count
slice_bounds-put_page-count c = omega arith

pub slice_bounds-put_page-end : goal.slice_bounds-put_page-end
slice_bounds-put_page-end c = omega (arith, c.requires, c.loop-k.invariant.below, c.loop-k-test.true)

pub slice_bounds-put_page-start : goal.slice_bounds-put_page-start
slice_bounds-put_page-start c = omega (arith, c.requires, c.loop-k.invariant.below, c.loop-k-test.true)
