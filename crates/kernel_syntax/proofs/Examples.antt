-- A text whose longest front of a kernel is known.
use Rattle.std.proofs.Common.{◌≡◌, ℕ, zero, suc, ◌≤◌, List, [], ◌∷◌, take, Ok, refl, arith}
use Rattle.std.specs.Prelude.{codes}
use Rattle.kernel_tree.specs.declared.mark.Mark.TheVariants as mark
use Rattle.kernel_tree.specs.TextToken.{TextToken, IsNumber, IsMark}
use Rattle.kernel_tree.specs.Tokens.{tokens_of, scan}
use Rattle.kernel_tree.specs.Front.{Viable, kernel_name}
use Rattle.kernel_syntax.specs.Refusals.{StopsAt}

-- kernel 5
abbrev words : List TextToken
words = IsMark mark.Kernel ∷ IsNumber 5 ∷ []

tokens : tokens_of (codes "kernel 5") ≡ Ok words
unfolding scan
tokens = refl

no_number : Viable words → ⊥
no_number h = elim h [ ]

longest : (n : ℕ) → n ≤ 2 → Viable (take n words) → n ≤ 1
longest zero p v = omega arith
longest (suc zero) p v = omega arith
longest (suc (suc zero)) p v = absurd (no_number v)
longest (suc (suc (suc n))) p v = absurd (omega (arith, p))

-- a name has to follow `kernel`
stops : StopsAt (codes "kernel 5") 1
stops = record { words = words; tokens = tokens; place = record { within = omega arith; viable = kernel_name; longest = longest } }
