use Rattle.std.proofs.Common.{ap, ◌∙◌}
use Rattle.kernel_tree.specs.Plain.{block_of}
use Rattle.kernel_scope.specs.Scopes.{scope_of, closed}
use Rattle.kernel_scope.proofs.Growth.{closed-body}
use Rattle.std.proofs.lemmas.Result.{IfOk-from_err}
use Rattle.kernel_types.proofs.kernels.walk_body.Goals as goal

pub returns-clause-scope : goal.returns-clause-scope
returns-clause-scope c =
    let scope = scope_of c.args.scope.now in
    c.close.ensures
    ∙ ap (closed c.visible_count-visible.result c.declared_count-taken.result) c.in_ok-walk_block.ensures.scope
    ∙ closed-body scope c.visible_count-visible.result c.declared_count-taken.result (block_of c.args.block.now) c.visible_count-visible.ensures c.declared_count-taken.ensures c.requires.outside

pub returns-in_err-walk_block : goal.returns-in_err-walk_block
returns-in_err-walk_block c =
    let failed = c.from_residual.ensures.0 in
    record { scope = IfOk-from_err _ _ failed; next = IfOk-from_err _ _ failed; found = IfOk-from_err _ _ failed; types = IfOk-from_err _ _ failed }

pub returns-clause-next : goal.returns-clause-next
returns-clause-next c =
    c.in_ok-walk_block.ensures.next

pub returns-clause-found : goal.returns-clause-found
returns-clause-found c =
    c.in_ok-walk_block.ensures.found

pub returns-clause-types : goal.returns-clause-types
returns-clause-types c =
    c.in_ok-walk_block.ensures.types
