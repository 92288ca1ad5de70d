-- Code that returns in place of ending: each exit call among its words becomes a branch to the place behind them. There a BRK
-- stands first, which no run comes to.
use Rattle.std.specs.Prelude.{ℕ, ◌+◌, List, [], ◌∷◌, length, nat_eq, if◌then◌else◌}
use Rattle.word_rows.specs.Row.{spells}
use Rattle.a64_code.specs.Table as a64
use Rattle.promises.specs.OneExit.{exit_word}

-- BRK #0
abbrev pub trap_word : ℕ
trap_word = 0xD4200000

-- B, forward by so many words
abbrev pub branch_by : ℕ → ℕ
branch_by n = spells a64.row (record { name = a64.b; numbers = n ∷ [] })

-- the word in the place of one with n words after it
abbrev pub returning_word : ℕ → ℕ → ℕ
returning_word w n = if nat_eq w exit_word then branch_by (n + 2) else w

abbrev pub returning : List ℕ → List ℕ
returning [] = trap_word ∷ []
returning (w ∷ ws) = returning_word w (length ws) ∷ returning ws
