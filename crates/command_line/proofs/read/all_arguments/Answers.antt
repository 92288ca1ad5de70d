use Rattle.std.proofs.Common.{ap, length, arith, [], ℕ, List}
use Rattle.std.specs.Borrow.{Bor}
use Rattle.std.proofs.lemmas.Result.{IfOk-from_err}
use Rattle.command_line.specs.Line.{arguments_from}
use Rattle.command_line.specs.View.{all_left}
use Rattle.command_line.proofs.Arguments.{next_argument, no_argument, all_read}
use Rattle.command_line.proofs.read.all_arguments.Goals as goal

abbrev unread : Bor (List ℕ)
unread = record { ref_ptr = (0, 0); now = [] }

pub loop-word-init : goal.loop-word-init
loop-word-init c = (ap (λ (before : List ℕ). arguments_from before (all_left c.args.words.now)) c.new-args.ensures.items, ap length c.new-args.ensures.items)

pub loop-word-preserved : goal.loop-word-preserved
loop-word-preserved c =
    let l = c.loop-word in
    next_argument c.args.words.now l.word-index c.in-Some.n unread l.args.items c.as_bytes.result.now _ _ _ c.loop-word-test.true c.as_bytes.ensures.value c.argument.ensures c.in-Some.is c.in_ok-push.ensures.items l.invariant

pub returns-in_default : goal.returns-in_default
returns-in_default c =
    let l = c.loop-word in
    record {
      read = no_argument c.args.words.now l.word-index unread l.args.items c.as_bytes.result.now _ _ c.loop-word-test.true c.as_bytes.ensures.value c.argument.ensures c.in_default.is l.invariant.0;
      count = tt;
    }

pub returns-in_err-push : goal.returns-in_err-push
returns-in_err-push c = record { read = IfOk-from_err _ _ c.from_residual.ensures.0; count = IfOk-from_err _ _ c.from_residual.ensures.0 }

pub returns : goal.returns
returns c =
    let l = c.loop-word in
    record {
      read = all_read c.args.words.now l.word-index l.args.items _ c.loop-word-test.false l.invariant.0;
      count = omega (arith, l.invariant.1, l.far-word-index, c.loop-word-test.false);
    }
