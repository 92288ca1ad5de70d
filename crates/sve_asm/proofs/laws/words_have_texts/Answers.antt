use Rattle.sve_asm.proofs.Spelling.{one-text, read-back, spells}
use Rattle.sve_asm.proofs.laws.words_have_texts.Goals as goal

pub returns-clause-one : goal.returns-clause-one
returns-clause-one c = one-text

pub returns-clause-read_back : goal.returns-clause-read_back
returns-clause-read_back c = read-back

pub returns-clause-spelled : goal.returns-clause-spelled
returns-clause-spelled c = spells
