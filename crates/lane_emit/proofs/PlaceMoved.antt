-- A place in a list, counted from further ahead.
use Rattle.std.proofs.Common.{◌≡◌, ℕ, suc, ◌+◌, Option, Some, None, refl, ap, arith}
use Rattle.lane_emit.specs.LoopRegisters.{next_place}

abbrev pub moved : ℕ → Option ℕ → Option ℕ
moved n None = None
moved n (Some m) = Some (n + m)

pub moved_next : (n : ℕ) (o : Option ℕ) → moved n (next_place o) ≡ moved (n + 1) o
moved_next n None = refl
moved_next n (Some m) = let e : n + suc m ≡ n + 1 + m = omega arith in ap Some e

pub moved_none : (o : Option ℕ) → moved 0 o ≡ o
moved_none None = refl
moved_none (Some m) = let e : 0 + m ≡ m = omega arith in ap Some e
