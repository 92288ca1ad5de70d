-- What registers hold of the lanes of a chunk. Element e of a register is that of lane e, which is iteration i + e of a chunk
-- that begins at iteration i.
use Rattle.std.specs.Prelude.{◌≡◌, ℕ, ◌<◌, ℤ, Bool, ◌&&◌, List, nat_lt}
use Rattle.guest_types.specs.declared.length.Width.{Width}
use Rattle.guest_types.specs.Length.{width_bits}
use Rattle.guest_types.specs.Elements.{at, active}
use Rattle.kernel_tree.specs.Wrap.{residue}
pub use Rattle.kernel_meaning.specs.TypeValues.{least, greatest, IsOf, fits}

-- A vector register is right for a value in the first n elements of a width: each holds the value of its lane modulo 2 to the
-- width. Where the value is one of a type no wider than the element, that is the value extended by its type.
abbrev pub ZRight : Width → (n : ℕ) → List ℕ → (value : ℕ → ℤ) → Type 0
ZRight w n z value = (e : ℕ) → e < n → at w z e ≡ residue (width_bits w) (value e)

-- a predicate register is right for a truth in the first n elements of a width
abbrev pub PRight : Width → (n : ℕ) → List ℕ → (truth : ℕ → Bool) → Type 0
PRight w n p truth = (e : ℕ) → e < n → active w p e ≡ truth e

-- a truth in the first m lanes, and false in the others
abbrev pub within : ℕ → (ℕ → Bool) → ℕ → Bool
within m truth e = nat_lt e m && truth e
