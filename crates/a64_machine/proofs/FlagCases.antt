-- What is so of each of the sixteen flags.
use Rattle.std.proofs.Common.{Bool, true, false}
use Rattle.guest_types.specs.Elements.{Flags}

abbrev pub flags : (n z c v : Bool) → Flags
flags n z c v = record { n = n; z = z; c = c; v = v }

-- a fact of both truths
pub record Both (P : Bool → Type 0) : Type 0 where
  pub yes : P true
  pub no : P false

pub both : {P : Bool → Type 0} → P true → P false → Both P
both y n = record { yes = y; no = n }

either : {P : Bool → Type 0} → Both P → (b : Bool) → P b
either p true = p.yes
either p false = p.no

-- what is so of each of the sixteen is so of all
pub each : (P : Flags → Type 0) → Both (λ n. Both (λ z. Both (λ c. Both (λ v. P (flags n z c v))))) → (n z c v : Bool) → P (flags n z c v)
each P p n z c v = either (either (either (either p n) z) c) v
