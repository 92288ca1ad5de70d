use Rattle.std.proofs.Common.{◌≡◌, ◌-◌, length, take, drop, Some, None, Err, ap, arith}
use Rattle.std.proofs.lemmas.Grind.{common_steps}
use Rattle.std.proofs.lemmas.List.{length-map}
use Rattle.kernel_tree.specs.Plain.{words_of, word_of}
use Rattle.expression_syntax.specs.Reading.{update_front}
use Rattle.kernel_syntax.specs.Statements.{target_at, update_at}
use Rattle.kernel_syntax.proofs.statement.target.Goals as goal

pub returns-in-Some : goal.returns-in-Some
unfolding target_at
returns-in-Some c = rw (← c.in-Some.ensures.value) c.store.ensures

pub returns-in_ok-value-in-Update : goal.returns-in_ok-value-in-Update
unfolding target_at update_at
returns-in_ok-value-in-Update c =
    let front : update_front (words_of c.args.tokens.now) ≡ Some (c.in-Update.op, words_of (take (length c.args.tokens.now - 1) (drop 1 c.args.tokens.now))) = grind (arith, common_steps) in
    rw (← c.in_default.ensures.value, front, c.in_ok-value-in-Update.ensures, c.into_inner-value.ensures, c.in_ok-name-in-Update.ensures) (grind (arith, common_steps))

pub returns-in_default-tokens : goal.returns-in_default-tokens
unfolding target_at
returns-in_default-tokens c =
    let none : update_front (words_of c.args.tokens.now) ≡ None = grind (arith, common_steps) in
    rw (← c.in_default.ensures.value, none) (ap Err (length-map c.args.tokens.now word_of))
