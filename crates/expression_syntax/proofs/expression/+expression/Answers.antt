use Rattle.std.proofs.Common.{◌≡◌, ◌-◌, ◌<◌, ◌≤◌, List, length, take, drop, Some, None, Err, refl, sym, ◌∙◌, ap, arith}
use Rattle.std.proofs.lemmas.Grind.{common_steps}
use Rattle.std.proofs.lemmas.Result.{err_from_is_err_and}
use Rattle.std.proofs.lemmas.List.{length-map}
use Rattle.kernel_tree.specs.Plain.{term_of, words_of, word_of}
use Rattle.kernel_tree.specs.declared.mark.Opening.TheVariants as opening
use Rattle.kernel_tree.specs.declared.token.Token.{Token}
use Rattle.kernel_tree.specs.Grammar.{opening_of_mark}
use Rattle.expression_syntax.specs.Reading.{mark_at, chain_at, unary_at, signed_by, choice_by, pair_by, absolute_by, term_before}
use Rattle.expression_syntax.specs.Operands.{joined_by, compared_by}
use Rattle.expression_syntax.proofs.Chain.{chain-zero, chain-above, fails_on, missed_on, chain_begins_below, chain_without_operator, takes, chain_ends_at_fault, refuses}
use Rattle.expression_syntax.proofs.Rooms.{opens, unopened}
use Rattle.expression_syntax.proofs.Within.{reads_go}
use Rattle.expression_syntax.proofs.Shorter.{chain_short, extended_short}
use Rattle.expression_syntax.proofs.SignRows.{wraps_none, wraps_more, wraps_fails, wraps_stops, wraps_all}
use Rattle.expression_syntax.proofs.expression.+expression.Goals as goal

-- the tokens after the first
abbrev following : List Token → List Token
following ts = take (length ts - 1) (drop 1 ts)

pub chain-returns-then-level-eq0 : goal.chain-returns-then-level-eq0
chain-returns-then-level-eq0 t c = rw (chain-zero (unary_at c.args.room) c.args.level (words_of c.args.tokens.now) c.if-level-eq0.true) c.unary.ensures

pub chain-returns-in_err-first : goal.chain-returns-in_err-first
chain-returns-in_err-first t c =
    let p = err_from_is_err_and c.from_residual.result c.from_residual.ensures.1 in
    rw (p.1, p.2) (fails_on _ (chain_at (unary_at c.args.room) (c.args.level - 1) (words_of c.args.tokens.now)) _ _ (chain-above (unary_at c.args.room) c.args.level (words_of c.args.tokens.now) (omega arith)) c.in_err-first.ensures)

pub chain-more-init : goal.chain-more-init
chain-more-init t c =
    let short : length (words_of c.in_ok-first.following.now) < length (words_of c.args.tokens.now) = chain_short c.args.room (c.args.level - 1) (words_of c.args.tokens.now) _ c.in_ok-first.ensures in
    (omega (arith, short, length-map c.in_ok-first.following.now word_of, length-map c.args.tokens.now word_of), chain_begins_below (unary_at c.args.room) c.args.level (words_of c.args.tokens.now) _ _ (omega arith) c.in_ok-first.ensures)

pub chain-returns-in_err-whole : goal.chain-returns-in_err-whole
chain-returns-in_err-whole t c =
    let p = err_from_is_err_and c.from_residual-in_err-whole.result c.from_residual-in_err-whole.ensures.1 in
    rw (p.1, p.2) (refuses (unary_at c.args.room) c.args.level (words_of c.args.tokens.now) (term_of c.more.left.value) (words_of c.more.rest.now) c.more.invariant.1 c.in-Some.operator (words_of c.in-Some.after.now) _ c.in-Some.ensures.value c.in_err-whole.ensures)

pub chain-returns-then-compares : goal.chain-returns-then-compares
chain-returns-then-compares t c = chain_ends_at_fault (unary_at c.args.room) c.args.level (words_of c.args.tokens.now) (term_of c.more.left.value) (words_of c.more.rest.now) c.more.invariant.1 c.in-Some.operator (words_of c.in-Some.after.now) _ _ c.in-Some.ensures.value c.in_ok-whole.ensures (sym c.compares.ensures ∙ c.if-compares.true)

pub chain-more-preserved : goal.chain-more-preserved
chain-more-preserved t c =
    let less : length (words_of c.in_ok-whole.next.now) ≤ length (words_of c.in-Some.after.now) = extended_short (chain_at (unary_at c.args.room) (c.args.level - 1)) (reads_go c.args.room (c.args.level - 1)) c.in-Some.operator (term_of c.more.left.value) (words_of c.in-Some.after.now) _ c.in_ok-whole.ensures in
    let short : length (words_of c.in_ok-whole.next.now) < length (words_of c.more.rest.now) = omega (arith, less, c.in-Some.ensures.shorter, length-map c.in_ok-whole.next.now word_of, length-map c.in-Some.after.now word_of, length-map c.more.rest.now word_of) in
    (omega (arith, less, c.in-Some.ensures.shorter, length-map c.in_ok-whole.next.now word_of, length-map c.in-Some.after.now word_of, length-map c.more.rest.now word_of), (takes (unary_at c.args.room) c.args.level (words_of c.args.tokens.now) (term_of c.more.left.value) (words_of c.more.rest.now) c.more.invariant.1 c.in-Some.operator (words_of c.in-Some.after.now) _ _ c.in-Some.ensures.value c.in_ok-whole.ensures (sym c.compares.ensures ∙ c.if-compares.false) short))

pub chain-more-smaller : goal.chain-more-smaller
chain-more-smaller t c =
    let less : length (words_of c.in_ok-whole.next.now) ≤ length (words_of c.in-Some.after.now) = extended_short (chain_at (unary_at c.args.room) (c.args.level - 1)) (reads_go c.args.room (c.args.level - 1)) c.in-Some.operator (term_of c.more.left.value) (words_of c.in-Some.after.now) _ c.in_ok-whole.ensures in
    omega (arith, less, c.in-Some.ensures.shorter, length-map c.in_ok-whole.next.now word_of, length-map c.in-Some.after.now word_of, length-map c.more.rest.now word_of)

pub chain-returns : goal.chain-returns
chain-returns t c = chain_without_operator (unary_at c.args.room) c.args.level (words_of c.args.tokens.now) (term_of c.more.left.value) (words_of c.more.rest.now) c.more.invariant.1 c.in_default.ensures.value

pub unary-returns-in-None : goal.unary-returns-in-None
unary-returns-in-None t c =
    let front : mark_at (words_of c.args.tokens.now) ≡ Some (c.in-Mark.mark, words_of (following c.args.tokens.now)) = grind (arith, common_steps) in
    let none : opening_of_mark c.in-Mark.mark ≡ None = grind (arith, common_steps) in
    unopened c.args.room (words_of c.args.tokens.now) c.in-Mark.mark _ (omega arith) front none ∙ ap Err (length-map c.args.tokens.now word_of)

pub unary-returns-in-Some-Group : goal.unary-returns-in-Some-Group
unary-returns-in-Some-Group t c =
    let front : mark_at (words_of c.args.tokens.now) ≡ Some (c.in-Mark.mark, words_of (following c.args.tokens.now)) = grind (arith, common_steps) in
    let kind : opening_of_mark c.in-Mark.mark ≡ Some opening.Group = grind (arith, common_steps) in
    rw (opens c.args.room (words_of c.args.tokens.now) c.in-Mark.mark _ _ (omega arith) front kind) c.term_then.ensures

pub unary-returns-in-Some-Pair : goal.unary-returns-in-Some-Pair
unary-returns-in-Some-Pair t c =
    let front : mark_at (words_of c.args.tokens.now) ≡ Some (c.in-Mark.mark, words_of (following c.args.tokens.now)) = grind (arith, common_steps) in
    let kind : opening_of_mark c.in-Mark.mark ≡ Some (opening.Pair c.in-Some-Pair.op) = grind (arith, common_steps) in
    rw (opens c.args.room (words_of c.args.tokens.now) c.in-Mark.mark _ _ (omega arith) front kind) c.pair.ensures

pub unary-returns-in-Some-Absolute : goal.unary-returns-in-Some-Absolute
unary-returns-in-Some-Absolute t c =
    let front : mark_at (words_of c.args.tokens.now) ≡ Some (c.in-Mark.mark, words_of (following c.args.tokens.now)) = grind (arith, common_steps) in
    let kind : opening_of_mark c.in-Mark.mark ≡ Some opening.Absolute = grind (arith, common_steps) in
    rw (opens c.args.room (words_of c.args.tokens.now) c.in-Mark.mark _ _ (omega arith) front kind) c.absolute.ensures

pub unary-returns-in-Some-Choice : goal.unary-returns-in-Some-Choice
unary-returns-in-Some-Choice t c =
    let front : mark_at (words_of c.args.tokens.now) ≡ Some (c.in-Mark.mark, words_of (following c.args.tokens.now)) = grind (arith, common_steps) in
    let kind : opening_of_mark c.in-Mark.mark ≡ Some opening.Choice = grind (arith, common_steps) in
    rw (opens c.args.room (words_of c.args.tokens.now) c.in-Mark.mark _ _ (omega arith) front kind) c.choice.ensures

pub unary-returns-in-Some-Signed : goal.unary-returns-in-Some-Signed
unary-returns-in-Some-Signed t c =
    let front : mark_at (words_of c.args.tokens.now) ≡ Some (c.in-Mark.mark, words_of (following c.args.tokens.now)) = grind (arith, common_steps) in
    let kind : opening_of_mark c.in-Mark.mark ≡ Some (opening.Signed c.in-Some-Signed.sign) = grind (arith, common_steps) in
    rw (opens c.args.room (words_of c.args.tokens.now) c.in-Mark.mark _ _ (omega arith) front kind) c.signed.ensures

pub signed-more-init : goal.signed-more-init
signed-more-init t c = record { short = omega arith; less = omega arith; wraps = rw c.new-signs.ensures.items (wraps_none (signed_by (unary_at c.args.room) c.args.sign (words_of c.args.tokens.now))) }

pub signed-returns-then-inner-eq0 : goal.signed-returns-then-inner-eq0
signed-returns-then-inner-eq0 t c = wraps_stops _ c.more.signs.items c.more.inner c.more.last (words_of c.more.rest.now) c.in-Some.next (words_of c.in-Some.following.now) c.more.invariant.wraps c.if-inner-eq0.true c.in-Some.ensures.value ∙ ap Err (length-map c.more.rest.now word_of)

pub signed-more-preserved : goal.signed-more-preserved
signed-more-preserved t c = record {
  short = omega (arith, c.in-Some.ensures.shorter);
  less = omega arith;
  wraps = rw c.in_ok-push.ensures.items (wraps_more _ c.more.signs.items c.more.inner c.more.last (words_of c.more.rest.now) c.in-Some.next (words_of c.in-Some.following.now) c.more.invariant.wraps (omega arith) c.in-Some.ensures.value);
}

pub signed-returns-in_err-arg : goal.signed-returns-in_err-arg
signed-returns-in_err-arg t c =
    let p = err_from_is_err_and c.from_residual-in_err-arg.result c.from_residual-in_err-arg.ensures.1 in
    rw (p.1, p.2) (wraps_fails _ c.more.signs.items _ _ c.more.invariant.wraps c.in_err-arg.ensures)

pub signed-returns : goal.signed-returns
signed-returns t c = rw c.in_ok-following_signs.ensures (wraps_all _ c.more.signs.items _ _ _ c.more.invariant.wraps c.in_ok-arg.ensures)

pub choice-returns-in_err-from : goal.choice-returns-in_err-from
unfolding choice_by
choice-returns-in_err-from t c =
    let p = err_from_is_err_and c.from_residual.result c.from_residual.ensures.1 in
    rw (p.1, p.2) (missed_on _ _ _ _ refl c.in_err-from.ensures)

pub choice-returns-in_err-cond : goal.choice-returns-in_err-cond
unfolding choice_by
choice-returns-in_err-cond t c =
    let p = err_from_is_err_and c.from_residual-in_err-cond.result c.from_residual-in_err-cond.ensures.1 in
    rw (p.1, p.2, c.in_ok-from.ensures) (fails_on _ _ _ _ refl c.in_err-cond.ensures)

pub choice-returns-in_err-yes : goal.choice-returns-in_err-yes
unfolding choice_by
choice-returns-in_err-yes t c =
    let p = err_from_is_err_and c.from_residual-in_err-yes.result c.from_residual-in_err-yes.ensures.1 in
    rw (p.1, p.2, c.in_ok-from.ensures, c.in_ok-cond.ensures) (fails_on _ _ _ _ refl c.in_err-yes.ensures)

pub choice-returns-in_err-no : goal.choice-returns-in_err-no
unfolding choice_by
choice-returns-in_err-no t c =
    let p = err_from_is_err_and c.from_residual-in_err-no.result c.from_residual-in_err-no.ensures.1 in
    rw (p.1, p.2, c.in_ok-from.ensures, c.in_ok-cond.ensures, c.in_ok-yes.ensures) (fails_on _ _ _ _ refl c.in_err-no.ensures)

pub pair-returns-in_err-from : goal.pair-returns-in_err-from
unfolding pair_by
pair-returns-in_err-from t c =
    let p = err_from_is_err_and c.from_residual.result c.from_residual.ensures.1 in
    rw (p.1, p.2) (missed_on _ _ _ _ refl c.in_err-from.ensures)

pub pair-returns-in_err-left : goal.pair-returns-in_err-left
unfolding pair_by
pair-returns-in_err-left t c =
    let p = err_from_is_err_and c.from_residual-in_err-left.result c.from_residual-in_err-left.ensures.1 in
    rw (p.1, p.2, c.in_ok-from.ensures) (fails_on _ _ _ _ refl c.in_err-left.ensures)

pub pair-returns-in_err-right : goal.pair-returns-in_err-right
unfolding pair_by
pair-returns-in_err-right t c =
    let p = err_from_is_err_and c.from_residual-in_err-right.result c.from_residual-in_err-right.ensures.1 in
    rw (p.1, p.2, c.in_ok-from.ensures, c.in_ok-left.ensures) (fails_on _ _ _ _ refl c.in_err-right.ensures)

pub absolute-returns-in_err-from : goal.absolute-returns-in_err-from
unfolding absolute_by
absolute-returns-in_err-from t c =
    let p = err_from_is_err_and c.from_residual.result c.from_residual.ensures.1 in
    rw (p.1, p.2) (missed_on _ _ _ _ refl c.in_err-from.ensures)

pub absolute-returns-in_err-arg : goal.absolute-returns-in_err-arg
unfolding absolute_by
absolute-returns-in_err-arg t c =
    let p = err_from_is_err_and c.from_residual-in_err-arg.result c.from_residual-in_err-arg.ensures.1 in
    rw (p.1, p.2, c.in_ok-from.ensures) (fails_on _ _ _ _ refl c.in_err-arg.ensures)

pub term_then-returns-in_err-e : goal.term_then-returns-in_err-e
unfolding term_before
term_then-returns-in_err-e t c =
    let p = err_from_is_err_and c.from_residual.result c.from_residual.ensures.1 in
    rw (p.1, p.2) (fails_on _ _ _ _ refl c.in_err-e.ensures)

pub term_then-returns-in_err-expect : goal.term_then-returns-in_err-expect
unfolding term_before
term_then-returns-in_err-expect t c =
    let p = err_from_is_err_and c.from_residual-in_err-expect.result c.from_residual-in_err-expect.ensures.1 in
    rw (p.1, p.2, c.in_ok-e.ensures) (missed_on _ _ _ _ refl c.in_err-expect.ensures)

pub extended-returns-in_err-right-in-Joined : goal.extended-returns-in_err-right-in-Joined
unfolding joined_by
extended-returns-in_err-right-in-Joined t c =
    let p = err_from_is_err_and c.from_residual.result c.from_residual.ensures.1 in
    rw (p.1, p.2, c.in-Joined.is) (fails_on _ _ _ _ refl c.in_err-right-in-Joined.ensures)

pub extended-returns-in_err-right-in-Compared : goal.extended-returns-in_err-right-in-Compared
unfolding compared_by
extended-returns-in_err-right-in-Compared t c =
    let p = err_from_is_err_and c.from_residual-in_err-right-in-Compared.result c.from_residual-in_err-right-in-Compared.ensures.1 in
    rw (p.1, p.2, c.in-Compared.is) (fails_on _ _ _ _ refl c.in_err-right-in-Compared.ensures)

pub choice-returns : goal.choice-returns
unfolding choice_by
choice-returns t c = rw (c.in_ok-from.ensures, c.in_ok-cond.ensures, c.in_ok-yes.ensures, c.in_ok-no.ensures) c.read.ensures

pub pair-returns : goal.pair-returns
unfolding pair_by
pair-returns t c = rw (c.in_ok-from.ensures, c.in_ok-left.ensures, c.in_ok-right.ensures) c.read.ensures

pub absolute-returns : goal.absolute-returns
unfolding absolute_by
absolute-returns t c = rw (c.in_ok-from.ensures, c.in_ok-arg.ensures) c.read.ensures

pub term_then-returns : goal.term_then-returns
unfolding term_before
term_then-returns t c = rw (c.in_ok-e.ensures, c.in_ok-expect.ensures) refl

pub extended-chain-requires : goal.extended-chain-requires
extended-chain-requires t c = (omega arith, omega arith)

pub extended-chain-requires-in-Compared : goal.extended-chain-requires-in-Compared
extended-chain-requires-in-Compared t c = (omega arith, omega arith)

pub chain-unary-requires : goal.chain-unary-requires
chain-unary-requires t c = omega arith

pub chain-chain-requires : goal.chain-chain-requires
chain-chain-requires t c = (omega arith, omega arith)

pub chain-extended-requires : goal.chain-extended-requires
chain-extended-requires t c = (omega arith, omega arith)

pub unary-named-requires : goal.unary-named-requires
unary-named-requires t c = omega arith

pub unary-term_then-requires : goal.unary-term_then-requires
unary-term_then-requires t c = omega arith

pub unary-pair-requires : goal.unary-pair-requires
unary-pair-requires t c = omega arith

pub unary-absolute-requires : goal.unary-absolute-requires
unary-absolute-requires t c = omega arith

pub unary-choice-requires : goal.unary-choice-requires
unary-choice-requires t c = omega arith

pub unary-signed-requires : goal.unary-signed-requires
unary-signed-requires t c = omega arith

pub term_then-chain-requires : goal.term_then-chain-requires
term_then-chain-requires t c = (omega arith, omega arith)

pub named-term_then-requires : goal.named-term_then-requires
named-term_then-requires t c = omega arith

pub pair-term_then-requires : goal.pair-term_then-requires
pair-term_then-requires t c = omega arith

pub pair-term_then-requires-2 : goal.pair-term_then-requires-2
pair-term_then-requires-2 t c = omega arith

pub absolute-term_then-requires : goal.absolute-term_then-requires
absolute-term_then-requires t c = omega arith

pub choice-term_then-requires : goal.choice-term_then-requires
choice-term_then-requires t c = omega arith

pub choice-term_then-requires-2 : goal.choice-term_then-requires-2
choice-term_then-requires-2 t c = omega arith

pub choice-term_then-requires-3 : goal.choice-term_then-requires-3
choice-term_then-requires-3 t c = omega arith

pub operand-unary-requires : goal.operand-unary-requires
operand-unary-requires t c = omega arith

pub signed-operand-requires : goal.signed-operand-requires
signed-operand-requires t c = omega arith
