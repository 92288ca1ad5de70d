use Rattle.std.proofs.Common.{refl}
use Rattle.std.proofs.lemmas.Result.{err_from_is_err_and}
use Rattle.kernel_syntax.specs.Headers.{var_at}
use Rattle.expression_syntax.proofs.Chain.{fails_on, missed_on}
use Rattle.kernel_syntax.proofs.Names.{names, fails_name}
use Rattle.kernel_syntax.proofs.header.accumulator.Goals as goal

pub returns-in_err-name : goal.returns-in_err-name
unfolding var_at
returns-in_err-name c =
    let p = err_from_is_err_and c.from_residual.result c.from_residual.ensures.1 in
    rw (p.1, p.2) (fails_name _ _ _ _ _ refl c.in_err-name.ensures)

pub returns-in_err-ty : goal.returns-in_err-ty
unfolding var_at
returns-in_err-ty c =
    let p = err_from_is_err_and c.from_residual-in_err-ty.result c.from_residual-in_err-ty.ensures.1 in
    let name = names _ _ _ _ c.in_ok-name.ensures in
    rw (p.1, p.2, name.read, name.marked) (missed_on _ _ _ _ refl c.in_err-ty.ensures)

pub returns-in_err-value : goal.returns-in_err-value
unfolding var_at
returns-in_err-value c =
    let p = err_from_is_err_and c.from_residual-in_err-value.result c.from_residual-in_err-value.ensures.1 in
    let name = names _ _ _ _ c.in_ok-name.ensures in
    rw (p.1, p.2, name.read, name.marked, c.in_ok-ty.ensures) (missed_on _ _ _ _ refl c.in_err-value.ensures)

pub returns-in_err-init : goal.returns-in_err-init
unfolding var_at
returns-in_err-init c =
    let p = err_from_is_err_and c.from_residual-in_err-init.result c.from_residual-in_err-init.ensures.1 in
    let name = names _ _ _ _ c.in_ok-name.ensures in
    rw (p.1, p.2, name.read, name.marked, c.in_ok-ty.ensures, c.in_ok-value.ensures) (fails_on _ _ _ _ refl c.in_err-init.ensures)

pub returns : goal.returns
unfolding var_at
returns c =
    let name = names _ _ _ _ c.in_ok-name.ensures in
    rw (name.read, name.marked, c.in_ok-ty.ensures, c.in_ok-value.ensures, c.in_ok-init.ensures, c.into_inner-init.ensures, c.in_ok-name-2.ensures) refl
