use Rattle.std.proofs.Common.{◌≡◌, ◌+◌, ◌++◌, ◌≤◌, ◌∷◌, [], drop, length, sym, ap, ◌∙◌, append_assoc, append-nil, arith}
use Rattle.std.specs.Prelude.{slice_index_or}
use Rattle.std.proofs.lemmas.List.{length-map}
use Rattle.promises.specs.Saved.{written_among}
use Rattle.call_code.proofs.Among.{among_few}
use Rattle.call_words.specs.Classes.{number_of, numbers_of, written_of}
use Rattle.call_words.proofs.WordLists.{among_step, among_end}
use Rattle.call_words.proofs.saved.saved.Goals as goal

pub loop-register-preserved : goal.loop-register-preserved
loop-register-preserved c =
    let w = written_of c.args.class in
    let words = c.args.words.now in
    let rs = c.args.registers.now in
    let i = c.loop-register.register-index in
    let rest = written_among w words (drop (i + 1) rs) in
    let old = numbers_of c.loop-register.kept.items in
    ap (λ l. l ++ rest) c.in_ok-put_written.ensures
    ∙ append_assoc old (written_among w words (slice_index_or rs i 0 ∷ [])) rest
    ∙ ap (λ l. old ++ l) (sym (among_step w words rs i c.loop-register-test.true))
    ∙ c.loop-register.invariant

pub returns-clause-kept : goal.returns-clause-kept
returns-clause-kept c =
    let w = written_of c.args.class in
    let words = c.args.words.now in
    let rs = c.args.registers.now in
    let old = numbers_of c.loop-register.kept.items in
    sym (append-nil old) ∙ ap (λ l. old ++ l) (sym (among_end w words rs c.loop-register.register-index c.loop-register-test.false)) ∙ c.loop-register.invariant

pub returns-clause-few : goal.returns-clause-few
returns-clause-few c =
    let w = written_of c.args.class in
    let e = ap length (returns-clause-kept c) in
    let n = length-map c.loop-register.kept.items number_of in
    let few = among_few w c.args.words.now c.args.registers.now in
    omega (arith, e, n, few)
