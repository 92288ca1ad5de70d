use Rattle.std.proofs.Common.{refl}
use Rattle.std.proofs.lemmas.Result.{err_from_is_err_and}
use Rattle.kernel_syntax.specs.Statements.{put_at}
use Rattle.expression_syntax.proofs.Chain.{fails_on, missed_on}
use Rattle.kernel_syntax.proofs.statement.store.Goals as goal

pub returns-in_err-index : goal.returns-in_err-index
unfolding put_at
returns-in_err-index c =
    let p = err_from_is_err_and c.from_residual-in_err-index.result c.from_residual-in_err-index.ensures.1 in
    rw (p.1, p.2) (fails_on _ _ _ _ refl c.in_err-index.ensures)

pub returns-in_err-next : goal.returns-in_err-next
unfolding put_at
returns-in_err-next c =
    let p = err_from_is_err_and c.from_residual-in_err-next.result c.from_residual-in_err-next.ensures.1 in
    rw (p.1, p.2, c.in_ok-index.ensures) (missed_on _ _ _ _ refl c.in_err-next.ensures)

pub returns-in_err-value : goal.returns-in_err-value
unfolding put_at
returns-in_err-value c =
    let p = err_from_is_err_and c.from_residual-in_err-value.result c.from_residual-in_err-value.ensures.1 in
    rw (p.1, p.2, c.in_ok-index.ensures, c.in_ok-next.ensures) (fails_on _ _ _ _ refl c.in_err-value.ensures)

pub returns : goal.returns
unfolding put_at
returns c =
    rw (c.in_ok-index.ensures, c.in_ok-next.ensures, c.in_ok-value.ensures, c.into_inner.ensures, c.into_inner-2.ensures, c.in_ok-array.ensures) refl
