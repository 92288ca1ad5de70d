use Rattle.std.proofs.Common.{refl}
use Rattle.std.proofs.lemmas.Result.{err_from_is_err_and}
use Rattle.kernel_syntax.specs.Statements.{define_at}
use Rattle.expression_syntax.proofs.Chain.{fails_on, missed_on}
use Rattle.kernel_syntax.proofs.statement.definition.Goals as goal

pub returns-in_err-name : goal.returns-in_err-name
unfolding define_at
returns-in_err-name c =
    let p = err_from_is_err_and c.from_residual.result c.from_residual.ensures.1 in
    rw (p.1, p.2) (missed_on _ _ _ _ refl c.in_err-name.ensures)

pub returns-in_err-ty : goal.returns-in_err-ty
unfolding define_at
returns-in_err-ty c =
    let p = err_from_is_err_and c.from_residual-in_err-ty.result c.from_residual-in_err-ty.ensures.1 in
    rw (p.1, p.2, c.in_ok-name.ensures) (fails_on _ _ _ _ refl c.in_err-ty.ensures)

pub returns-in_err-from : goal.returns-in_err-from
unfolding define_at
returns-in_err-from c =
    let p = err_from_is_err_and c.from_residual-in_err-from.result c.from_residual-in_err-from.ensures.1 in
    rw (p.1, p.2, c.in_ok-name.ensures, c.in_ok-ty.ensures) (missed_on _ _ _ _ refl c.in_err-from.ensures)

pub returns-in_err-value : goal.returns-in_err-value
unfolding define_at
returns-in_err-value c =
    let p = err_from_is_err_and c.from_residual-in_err-value.result c.from_residual-in_err-value.ensures.1 in
    rw (p.1, p.2, c.in_ok-name.ensures, c.in_ok-ty.ensures, c.in_ok-from.ensures) (fails_on _ _ _ _ refl c.in_err-value.ensures)

pub returns : goal.returns
unfolding define_at
returns c =
    rw (c.in_ok-name.ensures, c.in_ok-ty.ensures, c.in_ok-from.ensures, c.in_ok-value.ensures, c.into_inner-value.ensures, c.in_ok-name-2.ensures) refl
