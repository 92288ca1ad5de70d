-- The text of how the run of a kernel ended. Each line ends with a line feed; a result has sixteen lower-case hexadecimal
-- digits, and the number of iterations begun is decimal.
use Rattle.std.specs.Prelude.{ℕ, List, ◌++◌, codes, decimal}
use Rattle.machine_model.specs.OutcomeText.{line_feed}
use Rattle.number_text.specs.Hexadecimal.{hex_text}
use Rattle.kernel_meaning.specs.declared.outcome.ScalarOutcome.{ScalarOutcome}
use Rattle.kernel_meaning.specs.declared.outcome.ScalarOutcome.TheVariants.{End, Fault, Spent}

abbrev pub iterations_text : ℕ → List ℕ
iterations_text n = codes "iterations " ++ (decimal n ++ line_feed)

abbrev pub scalar_text : ScalarOutcome → List ℕ
scalar_text (End result begun) = codes "result " ++ (hex_text result ++ (line_feed ++ iterations_text begun))
scalar_text (Fault begun) = codes "fault" ++ (line_feed ++ iterations_text begun)
scalar_text Spent = codes "spent" ++ line_feed
