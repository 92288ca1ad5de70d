use Rattle.std.proofs.Common.{◌++◌, ◌∷◌, [], sym, ap, ◌∙◌, append-nil}
use Rattle.std.specs.Prelude.{if◌then◌else◌}
use Rattle.call_words.specs.Classes.{numbers_of, written_of}
use Rattle.call_words.proofs.WordLists.{among_one}
use Rattle.call_words.proofs.saved.put_written.Goals as goal

pub returns-then-is_written : goal.returns-then-is_written
returns-then-is_written c =
    let r = c.args.register in
    let old = numbers_of c.args.kept.now.items in
    c.in_ok-put.ensures
    ∙ ap (λ l. old ++ l) (sym (among_one (written_of c.args.class) c.args.words.now r ∙ ap (λ b. if b then r ∷ [] else []) (sym c.is_written.ensures ∙ c.if-is_written.true)))

pub returns : goal.returns
returns c =
    let r = c.args.register in
    let old = numbers_of c.args.kept.now.items in
    sym (append-nil old)
    ∙ ap (λ l. old ++ l) (sym (among_one (written_of c.args.class) c.args.words.now r ∙ ap (λ b. if b then r ∷ [] else []) (sym c.is_written.ensures ∙ c.if-is_written.false)))
