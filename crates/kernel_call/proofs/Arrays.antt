-- A frame apart from the arrays that a kernel's run stays in is none of its memory.
use Rattle.std.proofs.Common.{◌≡◌, inl, inr, ℕ, ◌+◌, ◌-◌, ◌*◌, ◌%◌, ◌^◌, ◌<◌, ◌≤◌, List, [], ◌∷◌, refl, arith}
use Rattle.guest_types.specs.Memory.{Memory, Disjoint, put_number}
use Rattle.machine_model.specs.Machine.{State}
use Rattle.kernel_tree.specs.Plain.{Program}
use Rattle.kernel_meaning.specs.ScalarRun.{scalar_run}
use Rattle.meaning_frame.specs.Accesses.{Access, AreOff, accesses, run_with}
use Rattle.promises.specs.Saved.{Saved, doublewords, frame_size}
use Rattle.promises.specs.Function.{arguments, IsUntouched}
use Rattle.kernel_call.specs.Untouched.{InSome, AreInside, FrameApart}

module _ (v : Saved) (s : State) (fits : 8 * doublewords v ≤ frame_size v) (room : frame_size v ≤ s.sp) (low : s.sp < 2 ^ 64) where
  abbrev foot : ℕ
  foot = s.sp - frame_size v

  abbrev bytes : ℕ
  bytes = 8 * doublewords v

  -- an access in one of the arrays
  off_one : (arrays : List Access) (access : Access) → FrameApart v s arrays → InSome arrays access → Disjoint foot bytes access.address access.bytes
  off_one [] access apart h = absurd h
  off_one (array ∷ arrays) access apart (inl h) =
      let ends = apart.0 in
      let from = h.0 in
      let until = h.1 in
      elim apart.1 [
        | inl above ↦ λ i j hi hj e. let same = e in omega (arith, fits, room, low, ends, from, until, above, hi, hj, same)
        | inr below ↦ λ i j hi hj e. let same = e in omega (arith, fits, room, low, ends, from, until, below, hi, hj, same)
      ]
  off_one (array ∷ arrays) access apart (inr h) = off_one arrays access apart.2 h

  off_all : (arrays rest : List Access) → FrameApart v s arrays → AreInside arrays rest → AreOff foot bytes rest
  off_all arrays [] apart h = tt
  off_all arrays (access ∷ rest) apart h = (off_one arrays access apart h.0, off_all arrays rest apart h.1)

pub untouched_apart : ((k : Program) (args : List ℕ) (memory : Memory) (a n v : ℕ) → a < 2 ^ 64 → AreOff a n (accesses k args memory) → scalar_run k args (put_number memory a n v) ≡ run_with (λ m. put_number m a n v) (scalar_run k args memory))
    → (v : Saved) (k : Program) (s : State) → 8 * doublewords v ≤ frame_size v → frame_size v ≤ s.sp → s.sp < 2 ^ 64 → (arrays : List Access) → AreInside arrays (accesses k (arguments s) s.memory) → FrameApart v s arrays → IsUntouched v k s
untouched_apart same v k s fits room low arrays inside apart n =
    same k (arguments s) s.memory (s.sp - frame_size v) (8 * doublewords v) n (omega (arith, room, low)) (off_all v s fits room low arrays (accesses k (arguments s) s.memory) apart inside)
