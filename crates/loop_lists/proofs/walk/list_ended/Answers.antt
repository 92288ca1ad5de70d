use Rattle.std.proofs.Common.{arith}
use Rattle.kernel_tree.specs.Plain.{term_of}
use Rattle.loop_form.specs.View.{program, content_of, entries_view}
use Rattle.loop_lists.proofs.Walks.{ended_by_operand}
use Rattle.loop_lists.proofs.walk.list_ended.Goals as goal

pub expr_size-requires : goal.expr_size-requires
expr_size-requires c = omega (arith, c.requires.fits)

pub overflow_add-item : goal.overflow_add-item
overflow_add-item c = record { fits = omega (arith, c.requires.fits, c.expr_size.ensures) }

pub list_expr-requires-clause-following : goal.list_expr-requires-clause-following
list_expr-requires-clause-following c = c.requires.following

pub list_expr-requires-clause-fits : goal.list_expr-requires-clause-fits
list_expr-requires-clause-fits c = omega (arith, c.requires.fits)

pub put-requires : goal.put-requires
put-requires c = omega (arith, c.requires.fits, c.requires.following, c.list_expr.ensures.len)

pub returns-clause-items : goal.returns-clause-items
returns-clause-items c =
    ended_by_operand (program c.args.at.kernel.now) c.args.at.from (content_of c.args.content) (entries_view c.args.entries.now.items) _ (term_of c.args.value.now) _ _ c.expr_size.ensures c.list_expr.ensures.items c.put.ensures.items

pub returns-clause-len : goal.returns-clause-len
returns-clause-len c = omega (arith, c.list_expr.ensures.len, c.put.ensures.len)
