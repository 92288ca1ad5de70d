use Rattle.std.proofs.Common.{ℕ, ◌+◌, List, ◌++◌, ◌∷◌, [], sym, ap, ap₂, ◌∙◌, append-nil, append_assoc}
use Rattle.guest_types.specs.Memory.{Memory}
use Rattle.sweep_kernel.specs.Pages.{page_with, zero_page, pages_from}
use Rattle.sweep_kernel.proofs.PageLists.{pages_from_none, pages_from_more, zero_page-is}
use Rattle.sweep_kernel.proofs.pages.push_zeros.Goals as goal

pub loop-p-init : goal.loop-p-init
loop-p-init c =
    let old = c.args.pages.now.items in
    sym (ap (λ x. old ++ x) (pages_from_none c.args.first zero_page) ∙ append-nil old)

pub loop-p-preserved : goal.loop-p-preserved
loop-p-preserved c =
    let old = c.args.pages.now.items in
    let first = c.args.first in
    let p = c.loop-p.p in
    let bytes = c.in_ok-bytes.ensures ∙ sym (zero_page-is p) in
    c.in_ok-push_page.ensures
    ∙ ap₂ (λ (m : Memory) (x : List ℕ). m ++ page_with (first + p) x ∷ []) c.loop-p.invariant bytes
    ∙ append_assoc old (pages_from first zero_page p) _
    ∙ ap (λ (m : Memory). old ++ m) (sym (pages_from_more first zero_page p))
