use Rattle.std.proofs.Common.{◌/◌, ap, ◌∙◌}
use Rattle.guest_types.specs.Memory.{page_numbers}
use Rattle.paged_memory.specs.Epochs.{past_of}
use Rattle.paged_memory.proofs.PageLaws.{numbers-with_span}
use Rattle.paged_memory.proofs.UndoLaws.{kept-opened, past_of-with_span}
use Rattle.paged_memory.proofs.pages.Pages.write_span.Goals as goal

pub invariant_of-self : goal.invariant_of-self
invariant_of-self g c =
    let m = c.self.inside.store in
    let a = c.args.address in
    let written = c.write_span.ensures in
    kept-opened m _ c.open_next.new.log c.open_next.new.opened (a / 4096) (c.open_next.ensures.pages ∙ c.self.invariant.pages) c.open_next.ensures.saved c.open_next.ensures.opened (ap page_numbers written.memory ∙ numbers-with_span m a written.bytes)

pub returns-clause-past : goal.returns-clause-past
returns-clause-past g c =
    let m = c.self.inside.store in
    let a = c.args.address in
    let written = c.write_span.ensures in
    let es = c.open_next.new.log.epochs in
    ap (past_of es) written.memory
    ∙ past_of-with_span es m a written.bytes c.open_next.ensures.saved
    ∙ c.open_next.ensures.past
    ∙ ap (λ p. p.past) c.self.view_is
