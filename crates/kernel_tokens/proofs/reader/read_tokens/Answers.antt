use Rattle.std.proofs.Common.{◌≡◌, drop, refl, sym, ◌∙◌, ap, arith, Err}
use Rattle.std.proofs.lemmas.List.{map-append}
use Rattle.kernel_tree.specs.Plain.{words_of, word_of}
use Rattle.kernel_tree.specs.Tokens.{piece}
use Rattle.kernel_tokens.specs.Fronts.{piece_of, at_front}
use Rattle.kernel_tokens.proofs.Scans.{tail_is, scanned_first, scanned_gap, scanned_token, scanned_bad, scanned_all, gap_fits, token_fits}
use Rattle.kernel_tokens.proofs.reader.read_tokens.Goals as goal

pub loop-at-init : goal.loop-at-init
loop-at-init c = rw c.new-tokens.ensures.items (scanned_first c.args.text.now)

pub loop-at-preserved-in-Gap : goal.loop-at-preserved-in-Gap
loop-at-preserved-in-Gap c =
    let p : piece_of c.in_ok-more.field-0 ≡ at_front piece (drop c.loop-at.at c.args.text.now) = c.in_ok-more.ensures ∙ ap (at_front piece) (tail_is c.args.text.now c.loop-at.at) in
    scanned_gap c.args.text.now c.loop-at.at c.in-Gap.more _ (words_of c.loop-at.tokens.items) c.loop-at.invariant c.loop-at-test.true (sym p ∙ ap piece_of c.in-Gap.is) refl

pub loop-at-preserved : goal.loop-at-preserved
loop-at-preserved c =
    let p : piece_of c.in_ok-more.field-0 ≡ at_front piece (drop c.loop-at.at c.args.text.now) = c.in_ok-more.ensures ∙ ap (at_front piece) (tail_is c.args.text.now c.loop-at.at) in
    rw (c.in_ok-push-in-Token.ensures.items, map-append) (scanned_token c.args.text.now c.loop-at.at c.in-Token.more _ (words_of c.loop-at.tokens.items) (word_of c.in-Token.token) c.loop-at.invariant c.loop-at-test.true (sym p ∙ ap piece_of c.in-Token.is) refl)

pub returns-in-NoToken-clause-bad_byte : goal.returns-in-NoToken-clause-bad_byte
returns-in-NoToken-clause-bad_byte c at e =
    let p : piece_of c.in_ok-more.field-0 ≡ at_front piece (drop c.loop-at.at c.args.text.now) = c.in_ok-more.ensures ∙ ap (at_front piece) (tail_is c.args.text.now c.loop-at.at) in
    let same : c.loop-at.at ≡ at = cc in
    scanned_bad c.args.text.now c.loop-at.at (words_of c.loop-at.tokens.items) c.loop-at.invariant c.loop-at-test.true (sym p ∙ ap piece_of c.in-NoToken.is) ∙ ap Err same

pub returns-clause-tokens : goal.returns-clause-tokens
returns-clause-tokens c = scanned_all c.args.text.now c.loop-at.at (words_of c.loop-at.tokens.items) c.loop-at.invariant (omega arith)

pub overflow_add-at : goal.overflow_add-at
overflow_add-at c =
    let p : piece_of c.in_ok-more.field-0 ≡ at_front piece (drop c.loop-at.at c.args.text.now) = c.in_ok-more.ensures ∙ ap (at_front piece) (tail_is c.args.text.now c.loop-at.at) in
    omega (arith, gap_fits c.args.text.now c.loop-at.at c.in-Gap.more c.loop-at-test.true (sym p ∙ ap piece_of c.in-Gap.is))

pub overflow_add-at-in-Gap : goal.overflow_add-at-in-Gap
overflow_add-at-in-Gap c =
    let p : piece_of c.in_ok-more.field-0 ≡ at_front piece (drop c.loop-at.at c.args.text.now) = c.in_ok-more.ensures ∙ ap (at_front piece) (tail_is c.args.text.now c.loop-at.at) in
    omega (arith, gap_fits c.args.text.now c.loop-at.at c.in-Gap.more c.loop-at-test.true (sym p ∙ ap piece_of c.in-Gap.is))

pub overflow_add-at-in-Token : goal.overflow_add-at-in-Token
overflow_add-at-in-Token c =
    let p : piece_of c.in_ok-more.field-0 ≡ at_front piece (drop c.loop-at.at c.args.text.now) = c.in_ok-more.ensures ∙ ap (at_front piece) (tail_is c.args.text.now c.loop-at.at) in
    omega (arith, token_fits c.args.text.now c.loop-at.at c.in-Token.more (word_of c.in-Token.token) c.loop-at-test.true (sym p ∙ ap piece_of c.in-Token.is))

pub overflow_add-at-in-Token-2 : goal.overflow_add-at-in-Token-2
overflow_add-at-in-Token-2 c =
    let p : piece_of c.in_ok-more.field-0 ≡ at_front piece (drop c.loop-at.at c.args.text.now) = c.in_ok-more.ensures ∙ ap (at_front piece) (tail_is c.args.text.now c.loop-at.at) in
    omega (arith, token_fits c.args.text.now c.loop-at.at c.in-Token.more (word_of c.in-Token.token) c.loop-at-test.true (sym p ∙ ap piece_of c.in-Token.is))
