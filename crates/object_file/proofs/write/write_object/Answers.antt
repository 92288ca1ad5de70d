use Rattle.std.proofs.Common.{◌≡◌, ◌++◌, ◌∷◌, [], sym, ◌∙◌, subst, arith}
use Rattle.std.proofs.lemmas.Grind.{common_steps}
use Rattle.machine_model.specs.Written.{word_bytes}
use Rattle.object_file.specs.Object.{IsObject}
use Rattle.object_file.specs.Written.{object_of}
use Rattle.object_file.proofs.Appended.{before}
use Rattle.object_file.proofs.write.write_object.Goals as goal

pub returns-clause-file : goal.returns-clause-file
returns-clause-file c =
    let words = c.args.words.now in
    let name = c.args.name.now in
    let loop : c.loop-word.file.items ≡ c.in_ok-file.file.items ++ word_bytes words = grind (arith, common_steps) in
    c.in_ok-put_bytes-3.ensures
    ∙ before c.put_bytes.new.file.items c.put_bytes-2.new.file.items _ (0 ∷ []) c.in_ok-put_bytes-2.ensures
    ∙ before c.loop-word.file.items c.put_bytes.new.file.items _ (name ++ 0 ∷ []) c.in_ok-put_bytes.ensures
    ∙ before c.in_ok-file.file.items c.loop-word.file.items (word_bytes words) _ loop
    ∙ c.in_ok-file.ensures name words (omega arith) (omega arith)

pub returns-clause-object : goal.returns-clause-object
returns-clause-object c =
    let words = c.args.words.now in
    let name = c.args.name.now in
    let few = c.requires.few in
    let file : c.put_bytes-3.new.file.items ≡ object_of name words = returns-clause-file c in
    subst (IsObject name words) (sym file) (c.objects_are_read.ensures name words few (omega arith))
