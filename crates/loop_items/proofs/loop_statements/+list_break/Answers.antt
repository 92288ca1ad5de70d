use Rattle.std.proofs.Common.{ap, ◌∙◌, ◌++◌}
use Rattle.loop_form.specs.LoopView.{view}
use Rattle.loop_items.proofs.Breaks.{one_break}
use Rattle.loop_items.proofs.loop_statements.+list_break.Goals as goal

pub returns-in_default : goal.returns-in_default
returns-in_default t c = record {
  kept = c.list_one_break-in_default.ensures.kept;
  items = λ short taken rest. c.list_one_break-in_default.ensures.items short taken rest ∙ ap (λ more. view c.args.listed.now.items.items ++ more) (one_break c.args.cond.now c.in_default.not-Or _ _ _ _ rest);
}
