use Rattle.std.proofs.Common.{refl, arith}
use Rattle.std.proofs.lemmas.Result.{err_from_is_err_and}
use Rattle.kernel_syntax.specs.Headers.{kernel_at}
use Rattle.expression_syntax.proofs.Chain.{fails_on, missed_on}
use Rattle.kernel_syntax.proofs.Names.{names, fails_name}
use Rattle.kernel_syntax.proofs.Outcomes.{left_following, nothing_following}
use Rattle.kernel_syntax.proofs.kernel.all.Goals as goal

pub returns-in-len1-up : goal.returns-in-len1-up
unfolding kernel_at
returns-in-len1-up c =
    let name = names _ _ _ _ c.in_ok-name.ensures in
    rw (c.in_ok-from.ensures, name.read, name.marked, c.in_ok-params.ensures, c.in_ok-ty.ensures, c.in_ok-vars.ensures, c.in_ok-body.ensures, c.in_ok-answer.ensures) (left_following _ c.in_ok-answer.rest.now c.in-len1-up.len_at_least)

pub returns-in_err-from : goal.returns-in_err-from
unfolding kernel_at
returns-in_err-from c =
    let p = err_from_is_err_and c.from_residual.result c.from_residual.ensures.1 in
    rw (p.1, p.2) (missed_on _ _ _ _ refl c.in_err-from.ensures)

pub returns-in_err-name : goal.returns-in_err-name
unfolding kernel_at
returns-in_err-name c =
    let p = err_from_is_err_and c.from_residual-in_err-name.result c.from_residual-in_err-name.ensures.1 in
    rw (p.1, p.2, c.in_ok-from.ensures) (fails_name _ _ _ _ _ refl c.in_err-name.ensures)

pub returns-in_err-params : goal.returns-in_err-params
unfolding kernel_at
returns-in_err-params c =
    let p = err_from_is_err_and c.from_residual-in_err-params.result c.from_residual-in_err-params.ensures.1 in
    let name = names _ _ _ _ c.in_ok-name.ensures in
    rw (p.1, p.2, c.in_ok-from.ensures, name.read, name.marked) (fails_on _ _ _ _ refl c.in_err-params.ensures)

pub returns-in_err-ty : goal.returns-in_err-ty
unfolding kernel_at
returns-in_err-ty c =
    let p = err_from_is_err_and c.from_residual-in_err-ty.result c.from_residual-in_err-ty.ensures.1 in
    let name = names _ _ _ _ c.in_ok-name.ensures in
    rw (p.1, p.2, c.in_ok-from.ensures, name.read, name.marked, c.in_ok-params.ensures) (fails_on _ _ _ _ refl c.in_err-ty.ensures)

pub returns-in_err-vars : goal.returns-in_err-vars
unfolding kernel_at
returns-in_err-vars c =
    let p = err_from_is_err_and c.from_residual-in_err-vars.result c.from_residual-in_err-vars.ensures.1 in
    let name = names _ _ _ _ c.in_ok-name.ensures in
    rw (p.1, p.2, c.in_ok-from.ensures, name.read, name.marked, c.in_ok-params.ensures, c.in_ok-ty.ensures) (fails_on _ _ _ _ refl c.in_err-vars.ensures)

pub returns-in_err-body : goal.returns-in_err-body
unfolding kernel_at
returns-in_err-body c =
    let p = err_from_is_err_and c.from_residual-in_err-body.result c.from_residual-in_err-body.ensures.1 in
    let name = names _ _ _ _ c.in_ok-name.ensures in
    rw (p.1, p.2, c.in_ok-from.ensures, name.read, name.marked, c.in_ok-params.ensures, c.in_ok-ty.ensures, c.in_ok-vars.ensures) (fails_on _ _ _ _ refl c.in_err-body.ensures)

pub returns-in_err-answer : goal.returns-in_err-answer
unfolding kernel_at
returns-in_err-answer c =
    let p = err_from_is_err_and c.from_residual-in_err-answer.result c.from_residual-in_err-answer.ensures.1 in
    let name = names _ _ _ _ c.in_ok-name.ensures in
    rw (p.1, p.2, c.in_ok-from.ensures, name.read, name.marked, c.in_ok-params.ensures, c.in_ok-ty.ensures, c.in_ok-vars.ensures, c.in_ok-body.ensures) (fails_on _ _ _ _ refl c.in_err-answer.ensures)

pub returns-in-empty : goal.returns-in-empty
unfolding kernel_at
returns-in-empty c =
    let name = names _ _ _ _ c.in_ok-name.ensures in
    rw (c.in_ok-from.ensures, name.read, name.marked, c.in_ok-params.ensures, c.in_ok-ty.ensures, c.in_ok-vars.ensures, c.in_ok-body.ensures, c.in_ok-answer.ensures, c.in_ok-name-2.ensures) (nothing_following _ c.in_ok-answer.rest.now (omega arith))
