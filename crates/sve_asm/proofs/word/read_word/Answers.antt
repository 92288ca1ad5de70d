use Rattle.std.proofs.Common.{◌∙◌, sym, subst}
use Rattle.std.specs.Option.{IfSome}
use Rattle.sve_asm.specs.WordOf.{Spells}
use Rattle.sve_asm.proofs.Spelling.{only-one, spells-all}
use Rattle.sve_asm.proofs.word.read_word.Goals as goal

pub returns-clause-found : goal.returns-clause-found
returns-clause-found c = subst (λ r. IfSome r (Spells c.args.text.now)) (sym c.spelled_word-word.ensures) (spells-all c.args.text.now)

pub returns-clause-only : goal.returns-clause-only
returns-clause-only c = λ word s. c.spelled_word-word.ensures ∙ only-one c.args.text.now word s
