-- Registers of items and of names that do not meet.
use Rattle.std.specs.Prelude.{◌≡◌, ◌≢◌, ℕ, suc, ◌<◌, ◌≤◌, [], ◌∷◌, Some, None, Bool, true, false, List}
use Rattle.label_fix.specs.Registers.{iteration}
use Rattle.scalar_words.specs.Layout.{Key, Layout, Home, Homes, reg_of, last_use_at, constant_at, IsGiven, IsMade, Lasts, is_home}

-- registers of items: in range, and different where one is made while the other is needed; those that hold numbers and
-- addresses are below them
pub record Assigned (L : Layout) : Type 0 where
  pub low : (p : ℕ) → IsMade L p → 10 ≤ reg_of L p
  pub high : (p : ℕ) → IsMade L p → reg_of L p ≤ 25
  pub apart : (p q : ℕ) → q < p → p < last_use_at L q → IsMade L p → reg_of L p ≢ reg_of L q
  pub constants : (z : Key) (r : ℕ) → constant_at L z ≡ Some r → (r < iteration) × IsGiven iteration z

-- a name's register is none of those that items from p on write while the name is needed
pub record IsSafe (L : Layout) (p : ℕ) (h : Home) : Type 0 where
  pub high : Lasts h.last_use p → h.register ≤ 25
  pub apart : (q : ℕ) → p ≤ q → Lasts h.last_use (suc q) → IsMade L q → reg_of L q ≢ h.register

abbrev pub AreSafe : Layout → ℕ → Homes → Type 0
AreSafe L p [] = Unit {0}
AreSafe L p (h ∷ hs) = IsSafe L p h × AreSafe L p hs

-- all names of these are held throughout
abbrev pub AreSteady : Homes → Type 0
AreSteady [] = Unit {0}
AreSteady (h ∷ hs) = (h.last_use ≡ None) × AreSteady hs

-- ---- registers that fit

-- no other name that is needed has the register of this one
abbrev pub Others : Homes → ℕ → ℕ → Type 0
Others [] r p = Unit {0}
Others (h ∷ hs) r p = (Lasts h.last_use p → h.register ≢ r) × Others hs r p

abbrev pub OnlyIf : Bool → Home → Homes → ℕ → ℕ → Type 0 → Type 0
OnlyIf true h hs r p more = (h.register ≡ r) × Others hs r p
OnlyIf false h hs r p more = (Lasts h.last_use p → h.register ≢ r) × more

abbrev pub Only : Homes → List ℕ → ℕ → ℕ → Type 0
Only [] x r p = Unit {0}
Only (h ∷ hs) x r p = OnlyIf (is_home x h) h hs r p (Only hs x r p)
