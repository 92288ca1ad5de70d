use Rattle.machine_model.proofs.ListedWords.{listed_spell}
use Rattle.machine_model.proofs.laws.spelled_is_listed.Goals as goal

pub returns : goal.returns
returns c = listed_spell
