use Rattle.std.proofs.Common.{ap, ◌∙◌, subst, arith}
use Rattle.paged_memory.specs.Epochs.{IsSaved}
use Rattle.paged_memory.proofs.UndoLaws.{kept-numbers, numbers-stored, past_of-stored, saved-within}
use Rattle.paged_memory.proofs.pages.PagesGuestMemory.store.Goals as goal

pub invariant_of-self : goal.invariant_of-self
invariant_of-self c =
    let m = c.self.inside.store in
    kept-numbers m _ c.self.inside.log c.self.inside.opened
    (numbers-stored m c.store.new.self c.args.address c.args.size c.args.value c.store.result c.store.ensures.done c.store.ensures.unchanged)
    c.self.invariant

pub returns-then-is_open-clause-past : goal.returns-then-is_open-clause-past
returns-then-is_open-clause-past c =
    let m = c.self.inside.store in
    let a = c.args.address in
    let es = c.self.inside.log.epochs in
    let hit = c.is_open.ensures.opened c.if-is_open.true in
    let fits = c.is_open.ensures.inside c.if-is_open.true in
    let saved = subst (IsSaved es m) hit (c.self.invariant.saved (omega (arith, hit))) in
    past_of-stored es m c.store.new.self a c.args.size c.args.value c.store.result c.store.ensures.done c.store.ensures.unchanged (omega arith)
    (saved-within es m a c.args.size (omega arith) fits saved)
    ∙ ap (λ p. p.past) c.self.view_is
