use Rattle.std.proofs.Common.{sym, ap, ◌∙◌}
use Rattle.std.specs.Option.{option_copied}
use Rattle.sve_machine.proofs.PastLaws.{got-at, got-none}
use Rattle.sve_machine.proofs.history.History.at.Goals as goal

pub unreachable-requires : goal.unreachable-requires
unreachable-requires c = got-none c.self.inside.snapshots.items c.args.self.now c.args.n c.self.view_is c.requires (sym c.get.ensures ∙ ap option_copied c.in-None.is)

pub returns : goal.returns
returns c d = got-at c.self.inside.snapshots.items c.args.self.now c.args.n c.in-Some.snapshot.now d c.self.view_is (sym c.get.ensures ∙ ap option_copied c.in-Some.is)
