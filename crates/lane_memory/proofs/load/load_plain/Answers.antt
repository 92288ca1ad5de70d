use Rattle.std.proofs.Common.{sym, ◌∙◌}
use Rattle.lane_memory.proofs.LoadLaws.{none-refused}
use Rattle.lane_memory.proofs.load.load_plain.Goals as goal

pub fill-requires-clause-read : goal.fill-requires-clause-read
fill-requires-clause-read c =
    none-refused c.args.reading c.args.pages.now.memory c.args.pg.now.bits c.args.lanes (sym c.refusal.ensures ∙ c.in_default.is)

pub fill_at_once-requires : goal.fill_at_once-requires
fill_at_once-requires c = c.requires

pub refusal-requires : goal.refusal-requires
refusal-requires c = c.requires

pub fill-requires-clause-inside : goal.fill-requires-clause-inside
fill-requires-clause-inside c = c.requires
