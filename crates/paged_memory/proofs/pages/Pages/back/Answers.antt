use Rattle.std.proofs.Common.{length, ap, arith}
use Rattle.paged_memory.proofs.UndoLaws.{length-past_of}
use Rattle.paged_memory.proofs.pages.Pages.back.Goals as goal

pub go_back-requires : goal.go_back-requires
go_back-requires c = omega (arith, c.requires, length-past_of c.self.inside.log.epochs c.self.inside.store, ap (λ p. length p.past) c.self.view_is)
