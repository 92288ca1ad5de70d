use Rattle.std.proofs.Common.{◌≡◌, ap, ◌∙◌, arith}
use Rattle.std.proofs.lemmas.Grind.{common_steps}
use Rattle.machine_model.specs.Load.{load}
use Rattle.machine_model.specs.Written.{file_of}
use Rattle.machine_model.proofs.WrittenLoads.{load-file_of}
use Rattle.elf_image.proofs.write.write_elf.Goals as goal

pub returns-clause-loads : goal.returns-clause-loads
returns-clause-loads c =
    let words = c.args.words.now in
    let e : c.loop-word.file.items ≡ file_of words = grind (arith, common_steps) in
    ap load e ∙ load-file_of words c.requires
