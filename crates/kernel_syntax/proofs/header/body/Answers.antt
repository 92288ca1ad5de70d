use Rattle.std.proofs.Common.{refl}
use Rattle.std.proofs.lemmas.Result.{err_from_is_err_and}
use Rattle.std.proofs.lemmas.List.{length-map}
use Rattle.kernel_tree.specs.Plain.{word_of}
use Rattle.kernel_syntax.specs.Headers.{loop_at, for_loop_at}
use Rattle.expression_syntax.proofs.Chain.{fails_on, missed_on}
use Rattle.kernel_syntax.proofs.Names.{names, fails_name}
use Rattle.kernel_syntax.proofs.header.body.Goals as goal

pub returns-in_err-index : goal.returns-in_err-index
unfolding loop_at for_loop_at
returns-in_err-index c =
    let p = err_from_is_err_and c.from_residual.result c.from_residual.ensures.1 in
    rw (p.1, p.2, ← c.in-Some.ensures.value) (fails_on _ _ _ _ refl (fails_name _ _ _ _ _ refl c.in_err-index.ensures))

pub returns-in_err-range : goal.returns-in_err-range
unfolding loop_at for_loop_at
returns-in_err-range c =
    let p = err_from_is_err_and c.from_residual-in_err-range.result c.from_residual-in_err-range.ensures.1 in
    let index = names _ _ _ _ c.in_ok-index.ensures in
    rw (p.1, p.2, ← c.in-Some.ensures.value, index.read, index.marked) (fails_on _ _ _ _ refl (fails_on _ _ _ _ refl c.in_err-range.ensures))

pub returns-in_err-end : goal.returns-in_err-end
unfolding loop_at for_loop_at
returns-in_err-end c =
    let p = err_from_is_err_and c.from_residual-in_err-end.result c.from_residual-in_err-end.ensures.1 in
    let index = names _ _ _ _ c.in_ok-index.ensures in
    rw (p.1, p.2, ← c.in-Some.ensures.value, index.read, index.marked, c.in_ok-range.ensures) (fails_on _ _ _ _ refl (missed_on _ _ _ _ refl c.in_err-end.ensures))

pub returns-in_err-bound : goal.returns-in_err-bound
unfolding loop_at for_loop_at
returns-in_err-bound c =
    let p = err_from_is_err_and c.from_residual-in_err-bound.result c.from_residual-in_err-bound.ensures.1 in
    let index = names _ _ _ _ c.in_ok-index.ensures in
    rw (p.1, p.2, ← c.in-Some.ensures.value, index.read, index.marked, c.in_ok-range.ensures, c.in_ok-end.ensures) (fails_on _ _ _ _ refl (fails_name _ _ _ _ _ refl c.in_err-bound.ensures))

pub returns-in_err-body : goal.returns-in_err-body
unfolding loop_at for_loop_at
returns-in_err-body c =
    let p = err_from_is_err_and c.from_residual-in_err-body.result c.from_residual-in_err-body.ensures.1 in
    let index = names _ _ _ _ c.in_ok-index.ensures in
    let bound = names _ _ _ _ c.in_ok-bound.ensures in
    rw (p.1, p.2, ← c.in-Some.ensures.value, index.read, index.marked, c.in_ok-range.ensures, c.in_ok-end.ensures, bound.read, bound.marked, length-map c.in_ok-bound.inside.now word_of) (fails_on _ _ _ _ refl (fails_on _ _ _ _ refl c.in_err-body.ensures))

pub returns : goal.returns
unfolding loop_at for_loop_at
returns c =
    let index = names _ _ _ _ c.in_ok-index.ensures in
    let bound = names _ _ _ _ c.in_ok-bound.ensures in
    rw (← c.in-Some.ensures.value, index.read, index.marked, c.in_ok-range.ensures, c.in_ok-end.ensures, bound.read, bound.marked, length-map c.in_ok-bound.inside.now word_of, c.in_ok-body.ensures, c.in_ok-index-2.ensures, c.in_ok-bound-2.ensures) refl
