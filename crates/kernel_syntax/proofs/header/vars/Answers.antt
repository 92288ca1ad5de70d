use Rattle.std.proofs.Common.{◌<◌, ◌≤◌, length, arith}
use Rattle.std.proofs.lemmas.Result.{err_from_is_err_and}
use Rattle.std.proofs.lemmas.List.{length-map, map-append}
use Rattle.kernel_tree.specs.Plain.{word_of, words_of, accumulator_of, accumulators_of}
use Rattle.kernel_syntax.specs.Headers.{vars_at}
use Rattle.kernel_syntax.proofs.ParamLists.{vars_start, fails_accumulator, takes_accumulator, ends_accumulators}
use Rattle.kernel_syntax.proofs.Shorter.{var_short}
use Rattle.kernel_syntax.proofs.header.vars.Goals as goal

pub more-init : goal.more-init
more-init c = record { short = omega arith; follows = rw c.new-vars.ensures.items (vars_start (words_of c.args.tokens.now)) }

pub returns-in_err-var : goal.returns-in_err-var
returns-in_err-var c =
    let p = err_from_is_err_and c.from_residual.result c.from_residual.ensures.1 in
    rw (p.1, p.2) (fails_accumulator (vars_at (words_of c.args.tokens.now)) (accumulators_of c.more.vars.items) (words_of c.more.rest.now) c.more.invariant.follows (words_of c.in-Some.from.now) _ c.in-Some.ensures.value c.in_err-var.ensures)

pub more-preserved : goal.more-preserved
more-preserved c =
    let next = c.in_ok-var.next.now in
    let taken : length (words_of c.in_ok-var.next.now) ≤ length (words_of c.in-Some.from.now) = var_short (words_of c.in-Some.from.now) _ c.in_ok-var.ensures in
    let less : length (words_of next) < length (words_of c.more.rest.now) = omega (arith, taken, c.in-Some.ensures.shorter, length-map c.in_ok-var.next.now word_of, length-map c.in-Some.from.now word_of, length-map c.more.rest.now word_of) in
    record {
      short = omega (arith, taken, c.in-Some.ensures.shorter, length-map c.in_ok-var.next.now word_of, length-map c.in-Some.from.now word_of, length-map c.more.rest.now word_of);
      follows = rw (c.in_ok-push.ensures.items, map-append) (takes_accumulator (vars_at (words_of c.args.tokens.now)) (accumulators_of c.more.vars.items) (words_of c.more.rest.now) c.more.invariant.follows (words_of c.in-Some.from.now) (accumulator_of c.in_ok-var.var) (words_of next) c.in-Some.ensures.value c.in_ok-var.ensures less);
    }

pub more-smaller : goal.more-smaller
more-smaller c =
    let taken : length (words_of c.in_ok-var.next.now) ≤ length (words_of c.in-Some.from.now) = var_short (words_of c.in-Some.from.now) _ c.in_ok-var.ensures in
    omega (arith, taken, c.in-Some.ensures.shorter, length-map c.in_ok-var.next.now word_of, length-map c.in-Some.from.now word_of, length-map c.more.rest.now word_of)

pub returns : goal.returns
returns c = ends_accumulators (vars_at (words_of c.args.tokens.now)) (accumulators_of c.more.vars.items) (words_of c.more.rest.now) c.more.invariant.follows c.in_default.ensures.value
