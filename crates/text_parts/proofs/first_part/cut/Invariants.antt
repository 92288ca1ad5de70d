use Rattle.std.proofs.Common.{◌≡◌, ℕ, false, take, All}
use Rattle.text_parts.specs.Parts.{is_byte}
use Rattle.text_parts.proofs.first_part.cut.Given as goal

abbrev pub invariant-loop-i : goal.invariant-loop-i
invariant-loop-i l = All (λ (b : ℕ). is_byte l.mark b ≡ false) (take l.i l.text)
