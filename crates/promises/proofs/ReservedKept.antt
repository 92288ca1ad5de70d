-- What an instruction that leaves the reserved registers alone keeps.
use Rattle.std.proofs.Common.{◌≡◌, ◌≢◌, ℕ, Bool, true, false, Option, Some, None, sym, ap, ◌∙◌}
use Rattle.std.specs.Prelude.{not, slice_index}
use Rattle.machine_model.specs.Frames.{SameUnless, OtherX}
use Rattle.machine_model.specs.Machine.{State, x_at}
use Rattle.promises.specs.Reserved.{is_reserved, none_reserved}

reserved_is_other : (n d : ℕ) → is_reserved n ≡ true → not (is_reserved d) ≡ true → n ≢ d
reserved_is_other n d h k e = let same = ap is_reserved e in let free = ap not (sym same ∙ h) in absurd cc

pub reserved_x_stays : (o : Option ℕ) (s t : State) (n : ℕ) → none_reserved o ≡ true → is_reserved n ≡ true → OtherX o s t → x_at t n ≡ x_at s n
reserved_x_stays None s t n free h same = ap (λ x. slice_index x n) same
reserved_x_stays (Some d) s t n free h same = same n (reserved_is_other n d h free)

pub sp_unless_written : (b : Bool) (before after : ℕ) → not b ≡ true → SameUnless b before after → after ≡ before
sp_unless_written true before after h same = absurd cc
sp_unless_written false before after h same = same
