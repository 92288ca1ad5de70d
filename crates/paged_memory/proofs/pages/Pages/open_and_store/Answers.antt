use Rattle.std.proofs.Common.{◌≡◌, ◌+◌, ◌-◌, ◌/◌, ◌%◌, ◌^◌, ◌≤◌, ◌⊎◌, inl, inr, ℕ, refl, ap, ◌∙◌, subst, arith}
use Rattle.paged_memory.specs.Epochs.{IsSaved}
use Rattle.paged_memory.proofs.UndoLaws.{kept-opened, numbers-stored, past_of-stored, saved-ends}
use Rattle.paged_memory.proofs.pages.Pages.open_and_store.Goals as goal

size_bounds : (s : ℕ) → (s ≡ 1) ⊎ (s ≡ 2) ⊎ (s ≡ 4) ⊎ (s ≡ 8) → (1 ≤ s) × (s ≤ 8)
size_bounds s (inl e) = (omega (arith, e), omega (arith, e))
size_bounds s (inr (inl e)) = (omega (arith, e), omega (arith, e))
size_bounds s (inr (inr (inl e))) = (omega (arith, e), omega (arith, e))
size_bounds s (inr (inr (inr e))) = (omega (arith, e), omega (arith, e))

pub invariant_of-self : goal.invariant_of-self
invariant_of-self c =
    let m = c.self.inside.store in
    let a = c.args.address in
    kept-opened m _ c.open-2.new.log _ _ (c.open-2.ensures.pages ∙ c.open.ensures.pages ∙ c.self.invariant.pages) c.open-2.ensures.saved refl
    (numbers-stored m c.store.new.self a c.args.size c.args.value c.store.result c.store.ensures.done c.store.ensures.unchanged)

pub returns-clause-past : goal.returns-clause-past
returns-clause-past c =
    let m = c.self.inside.store in
    let a = c.args.address in
    let s = c.args.size in
    let es = c.open-2.new.log.epochs in
    let bounds = size_bounds s c.requires in
    let last : (a + (c.from.result - 1)) % 18446744073709551616 / 4096 ≡ (a + (s - 1)) % 2 ^ 64 / 4096 = ap (λ n. (a + (n - 1)) % 2 ^ 64 / 4096) c.from.ensures in
    past_of-stored es m c.store.new.self a s c.args.value c.store.result c.store.ensures.done c.store.ensures.unchanged (omega arith)
    (saved-ends es m a s (omega arith) bounds.0 bounds.1 (c.open-2.ensures.kept (a / 4096) c.open.ensures.saved) (subst (IsSaved es m) last c.open-2.ensures.saved))
    ∙ c.open-2.ensures.past ∙ c.open.ensures.past
    ∙ ap (λ p. p.past) c.self.view_is
