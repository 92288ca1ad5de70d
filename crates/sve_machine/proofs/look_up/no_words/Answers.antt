use Rattle.sve_machine.proofs.DecodedWords.{none_decoded}
use Rattle.sve_machine.proofs.look_up.no_words.Goals as goal

pub returns : goal.returns
returns c memory = none_decoded memory 1024
