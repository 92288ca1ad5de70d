use Rattle.std.proofs.Common.{◌≡◌, length, true, false, arith, rules}
use Rattle.asm_forms.proofs.Fronts.{word_full, end_held, rest_held, rest_full, byte_full}
use Rattle.asm_forms.proofs.blanks.+read_blanks.Goals as goal

pub returns-then-not-push_word-clause-full : goal.returns-then-not-push_word-clause-full
returns-then-not-push_word-clause-full t c = λ z.
    let p : c.push_word.result ≡ false = search rules in
    word_full c.args.bytes.now c.front-word.result.now (length c.args.text.now.items) (length c.args.numbers.now.items) c.front-word.ensures (c.push_word.ensures.full p)

pub returns-in-None-clause-held : goal.returns-in-None-clause-held
returns-in-None-clause-held t c = λ z.
    let p : c.push_word.result ≡ true = search rules in
    end_held c.args.bytes.now c.front-word.result.now c.args.text.now.items c.push_word.new.text.items c.args.numbers.now.items c.push_word.new.numbers.items c.front-word.ensures c.in-None.ensures.value (c.push_word.ensures.held p)

pub returns-then-is_ok-clause-held : goal.returns-then-is_ok-clause-held
returns-then-is_ok-clause-held t c = λ r.
    let p : c.push_word.result ≡ true = search rules in
    rest_held c.args.bytes.now c.front-word.result.now c.args.text.now.items c.push_word.new.text.items c.try_push.new.self.items c.read_blanks.new.text.items c.args.numbers.now.items c.push_word.new.numbers.items c.read_blanks.new.numbers.items c.in-Some.byte c.in-Some.rest.now
    c.front-word.ensures c.in-Some.ensures.value (c.push_word.ensures.held p) (search (rules, c.try_push.ensures.ok, c.if-is_ok.true, c.is_ok.ensures.value)) (c.read_blanks.ensures.held r)

pub returns-then-is_ok-clause-full : goal.returns-then-is_ok-clause-full
returns-then-is_ok-clause-full t c = λ r.
    let p : c.push_word.result ≡ true = search rules in
    rest_full c.args.bytes.now c.front-word.result.now c.in-Some.rest.now c.push_word.new.text.items c.push_word.new.numbers.items c.args.text.now.items c.args.numbers.now.items c.try_push.new.self.items c.in-Some.byte
    c.front-word.ensures c.in-Some.ensures.value (c.push_word.ensures.held p) (search (rules, c.try_push.ensures.ok, c.if-is_ok.true, c.is_ok.ensures.value)) (c.read_blanks.ensures.full r)

pub returns-else-is_ok-clause-full : goal.returns-else-is_ok-clause-full
returns-else-is_ok-clause-full t c = λ r.
    let p : c.push_word.result ≡ true = search rules in
    byte_full c.args.bytes.now c.front-word.result.now c.in-Some.rest.now c.push_word.new.text.items c.push_word.new.numbers.items c.args.text.now.items c.args.numbers.now.items c.in-Some.byte
    c.front-word.ensures c.in-Some.ensures.value (c.push_word.ensures.held p) (search (rules, arith, c.try_push.ensures.full, c.if-is_ok.false, c.is_ok.ensures.value))
