use Rattle.std.proofs.Common.{length, sym, ap, ◌∙◌}
use Rattle.paged_memory.proofs.UndoLaws.{length-past_of}
use Rattle.paged_memory.proofs.pages.Pages.kept.Goals as goal

pub returns : goal.returns
returns c = c.count.ensures.value ∙ sym (length-past_of c.self.inside.log.epochs c.self.inside.store) ∙ ap (λ p. length p.past) c.self.view_is
