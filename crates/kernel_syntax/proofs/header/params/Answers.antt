use Rattle.std.proofs.Common.{◌<◌, ◌≤◌, length, Err, refl, ap, ◌∙◌, arith}
use Rattle.std.proofs.lemmas.Result.{err_from_is_err_and}
use Rattle.std.proofs.lemmas.List.{length-map, map-append}
use Rattle.kernel_tree.specs.declared.mark.Mark.TheVariants as mark
use Rattle.kernel_tree.specs.Plain.{word_of, words_of, parameter_of, parameters_of}
use Rattle.kernel_syntax.specs.Headers.{params_at}
use Rattle.kernel_syntax.proofs.ParamLists.{params_start, fails_param, ends_params, full_params, fails_comma, takes_param}
use Rattle.expression_syntax.proofs.Shorter.{past_short}
use Rattle.kernel_syntax.proofs.Shorter.{param_short}
use Rattle.kernel_syntax.proofs.header.params.Goals as goal

pub more-init : goal.more-init
more-init c = record { short = omega arith; follows = rw c.new-params.ensures.items (params_start (words_of c.args.tokens.now) c.in_default.ensures.value) }

pub returns-in_err-param : goal.returns-in_err-param
returns-in_err-param c =
    let p = err_from_is_err_and c.from_residual.result c.from_residual.ensures.1 in
    rw (p.1, p.2) (fails_param (params_at (words_of c.args.tokens.now)) c.more.others (parameters_of c.more.params.items) (words_of c.more.rest.now) c.more.invariant.follows _ c.in_err-param.ensures)

pub returns-in-Some-accept : goal.returns-in-Some-accept
returns-in-Some-accept c = rw (c.in_ok-push.ensures.items, map-append) (ends_params (params_at (words_of c.args.tokens.now)) c.more.others (parameters_of c.more.params.items) (words_of c.more.rest.now) c.more.invariant.follows (parameter_of c.in_ok-param.param) (words_of c.in_ok-param.following.now) (words_of c.in-Some-accept.end.now) c.in_ok-param.ensures c.in-Some-accept.ensures.value)

pub returns-then-others-eq0 : goal.returns-then-others-eq0
returns-then-others-eq0 c = full_params (params_at (words_of c.args.tokens.now)) c.more.others (parameters_of c.more.params.items) (words_of c.more.rest.now) c.more.invariant.follows (parameter_of c.in_ok-param.param) (words_of c.in_ok-param.following.now) c.if-others-eq0.true c.in_ok-param.ensures c.in_default-accept.ensures.value ∙ ap Err (length-map c.in_ok-param.following.now word_of)

pub returns-in_err-next : goal.returns-in_err-next
returns-in_err-next c =
    let p = err_from_is_err_and c.from_residual-in_err-next.result c.from_residual-in_err-next.ensures.1 in
    rw (p.1, p.2) (fails_comma (params_at (words_of c.args.tokens.now)) c.more.others (parameters_of c.more.params.items) (words_of c.more.rest.now) c.more.invariant.follows (parameter_of c.in_ok-param.param) (words_of c.in_ok-param.following.now) _ (omega arith) c.in_ok-param.ensures c.in_default-accept.ensures.value c.in_err-next.ensures)

pub more-preserved : goal.more-preserved
more-preserved c =
    let taken : length (words_of c.in_ok-param.following.now) ≤ length (words_of c.more.rest.now) = param_short (words_of c.more.rest.now) _ c.in_ok-param.ensures in
    let past : length (words_of c.in_ok-next.next.now) < length (words_of c.in_ok-param.following.now) = past_short mark.Comma (words_of c.in_ok-param.following.now) _ c.in_ok-next.ensures in
    record {
      short = omega (arith, taken, past, length-map c.in_ok-param.following.now word_of, length-map c.in_ok-next.next.now word_of, length-map c.more.rest.now word_of);
      follows = rw (c.in_ok-push.ensures.items, map-append) (takes_param (params_at (words_of c.args.tokens.now)) c.more.others (parameters_of c.more.params.items) (words_of c.more.rest.now) c.more.invariant.follows (parameter_of c.in_ok-param.param) (words_of c.in_ok-param.following.now) _ (omega arith) c.in_ok-param.ensures c.in_default-accept.ensures.value c.in_ok-next.ensures);
    }

pub more-smaller : goal.more-smaller
more-smaller c =
    let taken : length (words_of c.in_ok-param.following.now) ≤ length (words_of c.more.rest.now) = param_short (words_of c.more.rest.now) _ c.in_ok-param.ensures in
    let past : length (words_of c.in_ok-next.next.now) < length (words_of c.in_ok-param.following.now) = past_short mark.Comma (words_of c.in_ok-param.following.now) _ c.in_ok-next.ensures in
    omega (arith, taken, past, length-map c.in_ok-param.following.now word_of, length-map c.in_ok-next.next.now word_of, length-map c.more.rest.now word_of)

pub returns-in-Some : goal.returns-in-Some
unfolding params_at
returns-in-Some c = rw (← c.in-Some.ensures.value, c.new-params.ensures.items) refl
