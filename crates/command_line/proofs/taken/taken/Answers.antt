use Rattle.std.proofs.Common.{◌∙◌, ap, sym, rules, true≢false, ◌≤◌, length, Some}
use Rattle.clap.specs.Lexer.{usize_max}
use Rattle.clap.specs.Words.{is_simple, matches_of, takes}
use Rattle.command_line.specs.Given.{given_of}
use Rattle.command_line.specs.View.{texts}
use Rattle.command_line.specs.declared.place.Place.TheVariants as place
use Rattle.command_line.proofs.Commands.{simple}
use Rattle.command_line.proofs.Matches.{stands_given, is_none, given_there, given_found, takes_all, few_texts}
use Rattle.command_line.proofs.taken.taken.Goals as goal

pub returns-then-not-may_follow : goal.returns-then-not-may_follow
returns-then-not-may_follow c =
    is_none (given_of c.args.allowed (texts c.args.words.now))
    (stands_given (texts c.args.words.now) (place.Options c.args.allowed) ∙ sym c.may_follow.ensures ∙ c.if-not-may_follow.true)

pub returns-in-Ok : goal.returns-in-Ok
returns-in-Ok c =
    let words = texts c.args.words.now in
    let there = given_there (given_of c.args.allowed words)
    (stands_given words (place.Options c.args.allowed) ∙ sym c.may_follow.ensures ∙ c.if-not-may_follow.false) in
    let few : length c.args.words.now ≤ usize_max = search rules in
    let rows = c.in-Ok.ensures.matches (ap is_simple c.in_ok-command.ensures ∙ simple c.args.name.now c.args.allowed) in
    ap (λ g. Some g) (given_found c.args.name.now c.args.allowed words there.0 (few_texts c.args.words.now few) there.1 c.in-Ok.matches
    (rows.0 ∙ ap (λ x. matches_of x words) c.in_ok-command.ensures)) ∙ sym there.1

-- the words stand, so that memory alone can be wanting
pub returns-else-is_want_of_memory : goal.returns-else-is_want_of_memory
returns-else-is_want_of_memory c =
    let words = texts c.args.words.now in
    let there = given_there (given_of c.args.allowed words)
    (stands_given words (place.Options c.args.allowed) ∙ sym c.may_follow.ensures ∙ c.if-not-may_follow.false) in
    let few : length c.args.words.now ≤ usize_max = search rules in
    let kind = c.in-Err.ensures.passes (ap (λ x. takes x words) c.in_ok-command.ensures ∙ takes_all c.args.name.now c.args.allowed words there.0 (few_texts c.args.words.now few) there.1) in
    absurd (true≢false (sym (c.is_want_of_memory.ensures kind) ∙ c.if-is_want_of_memory.false))
