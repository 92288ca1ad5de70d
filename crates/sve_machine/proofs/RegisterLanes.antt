-- What a getter tells of a register.
use Rattle.std.proofs.Common.{◌≡◌, ℕ, List}
use Rattle.guest_types.specs.Length.{IsLength}
use Rattle.machine_model.specs.States.{IsVector, IsPredicate}
use Rattle.a64_machine.specs.Cores.{VectorState}
use Rattle.sve_machine.specs.VectorStates.{z_of, p_of}

-- a vector register as its getter tells of it
pub record IsZ (r : VectorState) (n : ℕ) (z : List ℕ) : Type 0 where
  pub value : z ≡ z_of r n
  pub shape : IsVector r.vl z
  pub sized : IsLength r.vl

pub record IsP (r : VectorState) (n : ℕ) (p : List ℕ) : Type 0 where
  pub value : p ≡ p_of r n
  pub shape : IsPredicate r.vl p
  pub sized : IsLength r.vl
