use Rattle.std.proofs.Common.{[], refl, ap, ◌∙◌}
use Rattle.guest_types.specs.Kept.{kept_more}
use Rattle.paged_memory.specs.Epochs.{past_of}
use Rattle.paged_memory.proofs.UndoLaws.{past_of-note}
use Rattle.paged_memory.proofs.pages.Pages.note.Goals as goal

pub returns-clause-past : goal.returns-clause-past
returns-clause-past c =
    let m = c.self.inside.store in
    ap (λ l. past_of l.epochs m) c.note.ensures.begun
    ∙ past_of-note c.self.inside.log.epochs (record { pages = c.self.inside.log.pages; places = []; images = [] }) m refl c.note.ensures.few
    ∙ ap (λ p. kept_more p.memory p.past) c.self.view_is
