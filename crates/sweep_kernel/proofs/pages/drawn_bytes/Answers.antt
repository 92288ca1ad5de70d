use Rattle.std.proofs.Common.{ℕ, ◌%◌, List, ◌++◌, ◌∷◌, [], refl, sym, ap₂, ◌∙◌, arith}
use Rattle.sweep_kernel.specs.Numbers.{random}
use Rattle.sweep_kernel.proofs.PageLists.{low_bytes_none, low_bytes_more}
use Rattle.sweep_kernel.proofs.pages.drawn_bytes.Goals as goal

pub loop-i-init : goal.loop-i-init
loop-i-init c = (c.new-bytes.ensures.items ∙ sym (low_bytes_none c.args.draw.now.seed c.args.draw.now.place), refl, omega arith)

pub loop-i-preserved : goal.loop-i-preserved
loop-i-preserved c =
    let seed = c.args.draw.now.seed in
    let place = c.args.draw.now.place in
    let here = c.loop-i.invariant in (
      c.in_ok-push.ensures.items
          ∙ ap₂ (λ (x : List ℕ) (n : ℕ). x ++ n % 256 ∷ []) here.0 (c.number.ensures.value ∙ ap₂ random here.1 here.2)
          ∙ sym (low_bytes_more seed place c.loop-i.i),
      c.after.ensures.seed ∙ here.1,
      omega (arith, c.after.ensures.place, here.2),
    )
