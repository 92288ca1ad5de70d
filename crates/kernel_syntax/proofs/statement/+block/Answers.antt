use Rattle.std.proofs.Common.{◌≡◌, ◌-◌, ◌<◌, List, [], length, take, drop, false, Some, None, Err, refl, sym, ap, ◌∙◌, arith, subst}
use Rattle.std.proofs.lemmas.Grind.{common_steps}
use Rattle.std.proofs.lemmas.Result.{err_from_is_err_and}
use Rattle.std.proofs.lemmas.List.{length-map}
use Rattle.kernel_tree.specs.declared.ast.Stmt.{Stmt}
use Rattle.kernel_tree.specs.declared.mark.Beginning.TheVariants as beginning
use Rattle.kernel_tree.specs.declared.token.Token.{Token}
use Rattle.kernel_tree.specs.Grammar.{beginning_of_mark}
use Rattle.expression_syntax.specs.Reading.{mark_at}
use Rattle.kernel_tree.specs.Plain.{words_of, word_of}
use Rattle.kernel_syntax.specs.Statements.{Statements, statement_by, block_at, choose_by}
use Rattle.kernel_syntax.proofs.Blocks.{Follows, block_begins_with_mark, unbegun, block_follows, closes, fails_inside, takes, block-none, block-some}
use Rattle.expression_syntax.proofs.Chain.{fails_on, missed_on}
use Rattle.kernel_syntax.proofs.Shorter.{statement_short}
use Rattle.kernel_syntax.proofs.statement.+block.Goals as goal

-- the tokens after the first
abbrev following : List Token → List Token
following ts = take (length ts - 1) (drop 1 ts)

pub block-returns-then-room-eq0 : goal.block-returns-then-room-eq0
block-returns-then-room-eq0 t c = block-none c.args.whole c.args.room (words_of c.args.tokens.now) _ c.if-room-eq0.true (length-map c.args.tokens.now word_of)

pub block-more-init : goal.block-more-init
block-more-init t c =
    let words = words_of c.args.tokens.now in
    let inner = statement_by c.args.whole (block_at false (c.args.room - 1)) in
    let first : Follows inner (block_at c.args.whole c.args.room words) [] words = subst (λ (w : Statements). Follows inner w [] words) (sym (block-some c.args.whole c.args.room words (omega arith))) (block_follows inner words) in
    (omega arith, subst (λ (s : List Stmt). Follows inner (block_at c.args.whole c.args.room words) s words) (sym c.new-stmts.ensures.items) first)

pub block-returns-in-Some : goal.block-returns-in-Some
block-returns-in-Some t c = closes (statement_by c.args.whole (block_at false (c.args.room - 1))) (block_at c.args.whole c.args.room (words_of c.args.tokens.now)) c.more.stmts.items (words_of c.more.rest.now) c.more.invariant.1 (words_of c.in-Some.following.now) c.in-Some.ensures.value

pub block-returns-in_err-stmt-in-None : goal.block-returns-in_err-stmt-in-None
block-returns-in_err-stmt-in-None t c =
    let p = err_from_is_err_and c.from_residual.result c.from_residual.ensures.1 in
    rw (p.1, p.2) (fails_inside (statement_by c.args.whole (block_at false (c.args.room - 1))) (block_at c.args.whole c.args.room (words_of c.args.tokens.now)) c.more.stmts.items (words_of c.more.rest.now) c.more.invariant.1 _ c.in-None.ensures.value c.in_err-stmt-in-None.ensures)

pub block-more-preserved : goal.block-more-preserved
block-more-preserved t c =
    let next = c.in_ok-stmt-in-None.next.now in
    let short : length (words_of next) < length (words_of c.more.rest.now) = statement_short c.args.whole (c.args.room - 1) (words_of c.more.rest.now) _ c.in_ok-stmt-in-None.ensures in (
      omega (arith, short, length-map next word_of, length-map c.more.rest.now word_of),
      rw c.in_ok-push-in-None.ensures.items (takes (statement_by c.args.whole (block_at false (c.args.room - 1))) (block_at c.args.whole c.args.room (words_of c.args.tokens.now)) c.more.stmts.items (words_of c.more.rest.now) c.more.invariant.1 c.in_ok-stmt-in-None.stmt (words_of next) c.in-None.ensures.value c.in_ok-stmt-in-None.ensures short),
    )

pub block-more-smaller : goal.block-more-smaller
block-more-smaller t c =
    let short : length (words_of c.in_ok-stmt-in-None.next.now) < length (words_of c.more.rest.now) = statement_short c.args.whole (c.args.room - 1) (words_of c.more.rest.now) _ c.in_ok-stmt-in-None.ensures in
    omega (arith, short, length-map c.in_ok-stmt-in-None.next.now word_of, length-map c.more.rest.now word_of)

pub choice-returns-in_err-cond : goal.choice-returns-in_err-cond
unfolding choose_by
choice-returns-in_err-cond t c =
    let p = err_from_is_err_and c.from_residual.result c.from_residual.ensures.1 in
    rw (p.1, p.2) (fails_on _ _ _ _ refl c.in_err-cond.ensures)

pub choice-returns-in_err-then_part : goal.choice-returns-in_err-then_part
unfolding choose_by
choice-returns-in_err-then_part t c =
    let p = err_from_is_err_and c.from_residual-in_err-then_part.result c.from_residual-in_err-then_part.ensures.1 in
    rw (p.1, p.2, c.in_ok-cond.ensures) (fails_on _ _ _ _ refl c.in_err-then_part.ensures)

pub choice-returns-in_err-from-in-Some : goal.choice-returns-in_err-from-in-Some
unfolding choose_by
choice-returns-in_err-from-in-Some t c =
    let p = err_from_is_err_and c.from_residual-in_err-from-in-Some.result c.from_residual-in_err-from-in-Some.ensures.1 in
    rw (p.1, p.2, c.in_ok-cond.ensures, c.in_ok-then_part.ensures, ← c.in-Some.ensures.value) (missed_on _ _ _ _ refl c.in_err-from-in-Some.ensures)

pub choice-returns-in_err-other-in-Some : goal.choice-returns-in_err-other-in-Some
unfolding choose_by
choice-returns-in_err-other-in-Some t c =
    let p = err_from_is_err_and c.from_residual-in_err-other-in-Some.result c.from_residual-in_err-other-in-Some.ensures.1 in
    rw (p.1, p.2, c.in_ok-cond.ensures, c.in_ok-then_part.ensures, ← c.in-Some.ensures.value, c.in_ok-from-in-Some.ensures) (fails_on _ _ _ _ refl c.in_err-other-in-Some.ensures)

pub choice-returns-in_ok-other-in-Some : goal.choice-returns-in_ok-other-in-Some
unfolding choose_by
choice-returns-in_ok-other-in-Some t c = rw (c.in_ok-cond.ensures, c.in_ok-then_part.ensures, ← c.in-Some.ensures.value, c.in_ok-from-in-Some.ensures, c.in_ok-other-in-Some.ensures, c.choose_else.ensures, c.into_inner.ensures) refl

pub choice-returns-in-None : goal.choice-returns-in-None
unfolding choose_by
choice-returns-in-None t c = rw (c.in_ok-cond.ensures, c.in_ok-then_part.ensures, ← c.in-None.ensures.value, c.choose.ensures, c.into_inner-in-None.ensures) refl

pub statement-returns-in-Some-Definition : goal.statement-returns-in-Some-Definition
statement-returns-in-Some-Definition t c =
    let front : mark_at (words_of c.args.tokens.now) ≡ Some (c.in-Mark.mark, words_of (following c.args.tokens.now)) = grind (arith, common_steps) in
    let kind : beginning_of_mark c.in-Mark.mark ≡ Some beginning.Definition = grind (arith, common_steps) in
    rw (block_begins_with_mark c.args.whole _ (words_of c.args.tokens.now) c.in-Mark.mark _ _ front kind) c.definition.ensures

pub statement-returns-in-Some-Choice : goal.statement-returns-in-Some-Choice
statement-returns-in-Some-Choice t c =
    let front : mark_at (words_of c.args.tokens.now) ≡ Some (c.in-Mark.mark, words_of (following c.args.tokens.now)) = grind (arith, common_steps) in
    let kind : beginning_of_mark c.in-Mark.mark ≡ Some beginning.Choice = grind (arith, common_steps) in
    rw (block_begins_with_mark c.args.whole _ (words_of c.args.tokens.now) c.in-Mark.mark _ _ front kind) c.choice.ensures

pub statement-returns-in-Some-Leaving : goal.statement-returns-in-Some-Leaving
statement-returns-in-Some-Leaving t c =
    let front : mark_at (words_of c.args.tokens.now) ≡ Some (c.in-Mark.mark, words_of (following c.args.tokens.now)) = grind (arith, common_steps) in
    let kind : beginning_of_mark c.in-Mark.mark ≡ Some beginning.Leaving = grind (arith, common_steps) in
    rw (block_begins_with_mark c.args.whole _ (words_of c.args.tokens.now) c.in-Mark.mark _ _ front kind) c.leaving.ensures

pub statement-returns-in-None : goal.statement-returns-in-None
statement-returns-in-None t c =
    let front : mark_at (words_of c.args.tokens.now) ≡ Some (c.in-Mark.mark, words_of (following c.args.tokens.now)) = grind (arith, common_steps) in
    let kind : beginning_of_mark c.in-Mark.mark ≡ None = grind (arith, common_steps) in
    unbegun c.args.whole _ (words_of c.args.tokens.now) c.in-Mark.mark _ front kind ∙ ap Err (length-map c.args.tokens.now word_of)

pub choice-block-requires : goal.choice-block-requires
choice-block-requires t c = omega arith

pub choice-block-requires-in-Some : goal.choice-block-requires-in-Some
choice-block-requires-in-Some t c = omega arith

pub statement-choice-requires : goal.statement-choice-requires
statement-choice-requires t c = omega arith

pub block-statement-requires : goal.block-statement-requires
block-statement-requires t c = omega arith
