-- The text of a run's outcome. Each line ends with a line feed; addresses and results have sixteen lower-case hexadecimal
-- digits, and counts are decimal.
use Rattle.std.specs.Prelude.{ℕ, List, [], ◌∷◌, ◌++◌, codes, decimal}
use Rattle.number_text.specs.Hexadecimal.{hex_text}
use Rattle.machine_model.specs.declared.outcome.StopKind.{StopKind}
use Rattle.machine_model.specs.declared.outcome.StopKind.TheVariants.{Read, Write, Fetch, Undefined, Call, Break}
use Rattle.machine_model.specs.Run.{Outcome, End, Stop, Spent}

abbrev pub line_feed : List ℕ
line_feed = 10 ∷ []

abbrev pub kind_text : StopKind → List ℕ
kind_text Read = codes "read"
kind_text Write = codes "write"
kind_text Fetch = codes "fetch"
kind_text Undefined = codes "undefined"
kind_text Call = codes "call"
kind_text Break = codes "break"

abbrev pub steps_text : ℕ → List ℕ
steps_text n = codes "steps " ++ (decimal n ++ line_feed)

abbrev pub outcome_text : Outcome → List ℕ
outcome_text (End memory result steps) = codes "result " ++ (hex_text result ++ (line_feed ++ steps_text steps))
outcome_text (Stop kind pc at memory steps) =
    codes "stop " ++ (kind_text kind ++ (codes " pc " ++ (hex_text pc ++ (codes " at " ++ (hex_text at ++ (line_feed ++ steps_text steps))))))
outcome_text (Spent pc memory steps) = codes "spent pc " ++ (hex_text pc ++ (line_feed ++ steps_text steps))
