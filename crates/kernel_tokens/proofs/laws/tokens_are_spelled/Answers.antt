use Rattle.kernel_tokens.proofs.Spelled.{tokens_spelled}
use Rattle.kernel_tokens.proofs.laws.tokens_are_spelled.Goals as goal

pub returns : goal.returns
returns c text words e = tokens_spelled text words e
