-- How the promises on files stand to one another.
use Rattle.std.proofs.Common.{◌≡◌, ℕ, ◌+◌, ◌*◌, ◌≤◌, List, length, refl, ap, ◌∙◌, arith}
use Rattle.std.proofs.Math.Nat.{mul-le-mul_left}
use Rattle.guest_types.specs.EarlyLoads.{StopList, never}
use Rattle.guest_types.specs.Memory.{Memory, merged}
use Rattle.machine_model.specs.Run.{start, start_of, free_start, free_run, machine_run, suppressed}
use Rattle.machine_model.proofs.Suppressed.{none_suppressed}
use Rattle.kernel_tree.specs.Plain.{Program}
use Rattle.kernel_meaning.specs.ScalarRun.{begun, scalar_run}
use Rattle.kernel_tree.specs.Items.{size_of}
use Rattle.dependence.specs.Bound.{free_bound}
use Rattle.close_bound.specs.CloseBound.{close_bound}
use Rattle.dependence.proofs.Bounds as bounds
use Rattle.close_bound.proofs.CloseBounds as closes
use Rattle.promises.specs.Faithful.{IsFaithful, IsAny, Faithful, SlowFaithful, FreeFaithful, FreeEnds, CloseFaithful, FreeSlowFaithful}

pub without_stops : (file args : List ℕ) (pages : Memory) (vl steps : ℕ) → free_run file args pages vl never steps ≡ machine_run file args pages vl steps
unfolding start free_start
without_stops file args pages vl steps = refl

pub free_slow : (k : Program) (file : List ℕ) → FreeSlowFaithful k file → SlowFaithful k file
free_slow k file f = record { image = f.image; loaded = f.loaded; runs = λ args pages vl stops steps begins empty le. f.runs args pages vl stops steps begins tt le }

pub free_ends : (k : Program) (file : List ℕ) → FreeSlowFaithful k file → FreeEnds k file
free_ends k file f = record {
  image = f.image;
  loaded = f.loaded;
  runs = λ args pages vl stops steps begins any le.
      let m = begun (scalar_run k args (merged f.image.pages pages)) in
      let more : (32 + 8 * size_of k) * (m + 2) ≤ (32 + 8 * size_of k) * (2 * m + 2) = mul-le-mul_left (32 + 8 * size_of k) (omega arith) in
      f.runs args pages vl stops steps begins any (omega (arith, more, le));
}

pub free : (k : Program) (file : List ℕ) → FreeFaithful k file → Faithful k file
unfolding free_start start_of
free k file f = record {
  image = f.image;
  loaded = f.loaded;
  runs = λ args pages vl stops steps begins empty le.
      let none = none_suppressed steps (free_start f.image args pages vl stops) empty in
      let m = begun (scalar_run k args (merged f.image.pages pages)) in
      let b = ap (free_bound k args vl m) none ∙ bounds.free_bound_of_none k args vl m in
      f.runs args pages vl stops steps begins tt (omega (arith, b, le));
}

pub slow : (k : Program) (file : List ℕ) → Faithful k file → SlowFaithful k file
slow k file f = record {
  image = f.image;
  loaded = f.loaded;
  runs = λ args pages vl stops steps begins empty le.
      let b = bounds.slow k args vl (begun (scalar_run k args (merged f.image.pages pages))) begins.length in
      f.runs args pages vl stops steps begins empty (omega (arith, b, le));
}

-- what holds within a bound holds within a higher one
pub looser : (few many : Program → (args : List ℕ) (vl m q : ℕ) → ℕ) (IsAllowed : StopList → Type 0) (k : Program) (file : List ℕ) → ((args : List ℕ) (vl m q : ℕ) → few k args vl m q ≤ many k args vl m q) → IsFaithful few IsAllowed k file → IsFaithful many IsAllowed k file
looser few many IsAllowed k file lower f = record {
  image = f.image;
  loaded = f.loaded;
  runs = λ args pages vl stops steps begins any le.
      let h = lower args vl (begun (scalar_run k args (merged f.image.pages pages))) (suppressed steps (free_start f.image args pages vl stops)) in
      f.runs args pages vl stops steps begins any (omega (arith, h, le));
}

pub close : (k : Program) (file : List ℕ) → length k.params ≤ 8 → CloseFaithful k file → FreeFaithful k file
close k file few f = looser close_bound free_bound IsAny k file (λ args vl m q. closes.close k args vl m q few) f
