use Rattle.std.proofs.Common.{refl}
use Rattle.std.proofs.lemmas.Result.{err_from_is_err_and}
use Rattle.kernel_syntax.specs.Headers.{param_at}
use Rattle.expression_syntax.proofs.Chain.{fails_on}
use Rattle.kernel_syntax.proofs.Names.{names, fails_name}
use Rattle.kernel_syntax.proofs.header.parameter.Goals as goal

pub returns-in_err-name : goal.returns-in_err-name
unfolding param_at
returns-in_err-name c =
    let p = err_from_is_err_and c.from_residual.result c.from_residual.ensures.1 in
    rw (p.1, p.2) (fails_name _ _ _ _ _ refl c.in_err-name.ensures)

pub returns-in_err-shape : goal.returns-in_err-shape
unfolding param_at
returns-in_err-shape c =
    let p = err_from_is_err_and c.from_residual-in_err-shape.result c.from_residual-in_err-shape.ensures.1 in
    let name = names _ _ _ _ c.in_ok-name.ensures in
    rw (p.1, p.2, name.read, name.marked) (fails_on _ _ _ _ refl c.in_err-shape.ensures)

pub returns : goal.returns
unfolding param_at
returns c =
    let name = names _ _ _ _ c.in_ok-name.ensures in
    rw (name.read, name.marked, c.in_ok-shape.ensures, c.in_ok-copy_name.ensures) refl
