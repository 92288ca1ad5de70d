-- Words that stand in memory, in parts, and the code that they are.
use Rattle.std.proofs.Common.{◌≡◌, ℕ, zero, suc, ◌+◌, ◌*◌, ◌%◌, ◌^◌, ◌<◌, List, [], ◌∷◌, ◌++◌, length, Some, refl, sym, ap, ◌∙◌, arith}
use Rattle.std.specs.Prelude.{slice_get}
use Rattle.std.proofs.Math.Nat.{mod-lt}
use Rattle.std.proofs.lemmas.Nat.{pow_pos}
use Rattle.guest_types.specs.Memory.{Memory, fetched}
use Rattle.machine_model.specs.CodeInMemory.{spell, word_after, HasCode, AllListed, place_after, words_of}
use Rattle.machine_model.specs.InstructionTable.{Listed}
use Rattle.label_fix.specs.Finished.{StandAt}

front_at : (xs ys : List ℕ) (k w : ℕ) → slice_get xs k ≡ Some w → slice_get (xs ++ ys) k ≡ Some w
front_at [] ys k w e = cc
front_at (x ∷ xs) ys zero w e = e
front_at (x ∷ xs) ys (suc k) w e = front_at xs ys k w e

back_at : (xs ys : List ℕ) (k : ℕ) → slice_get (xs ++ ys) (length xs + k) ≡ slice_get ys k
back_at [] ys k = let e : 0 + k ≡ k = omega arith in ap (slice_get ys) e
back_at (x ∷ xs) ys k = let e : suc (length xs) + k ≡ suc (length xs + k) = omega arith in ap (slice_get (x ∷ xs ++ ys)) e ∙ back_at xs ys k

pub stand_front : (m : Memory) (base : ℕ) (xs ys : List ℕ) → StandAt m base (xs ++ ys) → StandAt m base xs
stand_front m base xs ys h k w e = h k w (front_at xs ys k w e)

pub stand_back : (m : Memory) (base : ℕ) (xs ys : List ℕ) → StandAt m base (xs ++ ys) → StandAt m (base + 4 * length xs) ys
stand_back m base xs ys h k w e =
    let p : base + 4 * length xs + 4 * k ≡ base + 4 * (length xs + k) = omega arith in
    ap (λ a. fetched m (a % 2 ^ 64)) p ∙ h (length xs + k) w (back_at xs ys k ∙ e)

pub stand_in : (m w : Memory) (base : ℕ) (xs : List ℕ) → ((a : ℕ) → a < 2 ^ 64 → fetched w a ≡ fetched m a) → StandAt m base xs → StandAt w base xs
stand_in m w base xs same h k v e = same ((base + 4 * k) % 2 ^ 64) (mod-lt (base + 4 * k) (pow_pos 64)) ∙ h k v e

-- from another number that names the same place
pub stand_from : (m : Memory) (base to : ℕ) (xs : List ℕ) → to % 2 ^ 64 ≡ base % 2 ^ 64 → StandAt m base xs → StandAt m to xs
stand_from m base to xs same h k w e = let p : (to + 4 * k) % 2 ^ 64 ≡ (base + 4 * k) % 2 ^ 64 = omega (arith, same) in ap (fetched m) p ∙ h k w e

pub has_code : (m : Memory) (is : List Listed) (pc : ℕ) → pc < 2 ^ 64 → AllListed is → StandAt m pc (words_of is) → HasCode m pc is
has_code m [] pc low listed h = tt
has_code m (i ∷ is) pc low listed h =
    let e0 : (pc + 4 * 0) % 2 ^ 64 ≡ pc = omega (arith, low) in
    let first : fetched m pc ≡ Some (spell i) = ap (fetched m) (sym e0) ∙ h 0 (spell i) refl in
    let rest : StandAt m (word_after pc) (words_of is) = λ k w e. let p : ((pc + 4) % 2 ^ 64 + 4 * k) % 2 ^ 64 ≡ (pc + 4 * suc k) % 2 ^ 64 = omega arith in ap (fetched m) p ∙ h (suc k) w e in
    (first, listed.0, has_code m is (word_after pc) (mod-lt (pc + 4) (pow_pos 64)) listed.1 rest)

pub place_by_count : (is : List Listed) (pc : ℕ) → pc < 2 ^ 64 → place_after pc is ≡ (pc + 4 * length is) % 2 ^ 64
place_by_count [] pc low = omega (arith, low)
place_by_count (i ∷ is) pc low =
    place_by_count is (word_after pc) (mod-lt (pc + 4) (pow_pos 64))
    ∙ (let e : ((pc + 4) % 2 ^ 64 + 4 * length is) % 2 ^ 64 ≡ (pc + 4 * suc (length is)) % 2 ^ 64 = omega arith in e)
