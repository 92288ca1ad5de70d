use Rattle.std.proofs.Common.{ℕ, ◌+◌, List, ◌++◌, ◌∷◌, [], length, refl, sym, ap, ap₂, ◌∙◌, arith, append-nil, append_assoc}
use Rattle.guest_types.specs.Memory.{Memory}
use Rattle.sweep_kernel.specs.Pages.{page_with, low_bytes, drawn_page, pages_from}
use Rattle.sweep_kernel.proofs.PageLists.{pages_from_none, pages_from_more, length_low_bytes, drawn_page-is}
use Rattle.sweep_kernel.proofs.pages.push_drawn.Goals as goal

pub loop-p-init : goal.loop-p-init
loop-p-init c =
    let old = c.args.pages.now.items in
    (sym (ap (λ x. old ++ x) (pages_from_none c.args.first (drawn_page c.args.draw.now.seed c.args.draw.now.place)) ∙ append-nil old), refl, omega arith)

pub push_page-requires-clause-whole : goal.push_page-requires-clause-whole
push_page-requires-clause-whole c =
    ap length c.in_ok-bytes.ensures.bytes ∙ length_low_bytes c.loop-p.draw.seed c.loop-p.draw.place 4096

pub loop-p-preserved : goal.loop-p-preserved
loop-p-preserved c =
    let old = c.args.pages.now.items in
    let seed = c.args.draw.now.seed in
    let place = c.args.draw.now.place in
    let first = c.args.first in
    let p = c.loop-p.p in
    let here = c.loop-p.invariant in
    let bytes = c.in_ok-bytes.ensures.bytes ∙ ap₂ (λ (s j : ℕ). low_bytes s j 4096) here.1 here.2 ∙ sym (drawn_page-is seed place p) in (
      c.in_ok-push_page.ensures
          ∙ ap₂ (λ (m : Memory) (x : List ℕ). m ++ page_with (first + p) x ∷ []) here.0 bytes
          ∙ append_assoc old (pages_from first (drawn_page seed place) p) _
          ∙ ap (λ (m : Memory). old ++ m) (sym (pages_from_more first (drawn_page seed place) p)),
      c.in_ok-bytes.ensures.seed ∙ here.1,
      omega (arith, c.in_ok-bytes.ensures.place, here.2),
    )
