-- The code that tests whether arrays lie apart writes X26 and X27.
use Rattle.std.proofs.Common.{ℕ, suc, ◌*◌, ◌/◌, ◌%◌, Bool, true, false, List, [], ◌∷◌, ℤ, pos, negsuc, refl}
use Rattle.std.specs.Prelude.{◌≡◌, ◌||◌, ◌*ℤ◌, nat_eq, nat_lt, if◌then◌else◌}
use Rattle.a64_code.specs.Table.{Name, add_imm, sub_imm}
use Rattle.guest_types.specs.declared.length.Width.{Width}
use Rattle.guest_types.specs.Length.{width_bytes}
use Rattle.kernel_tree.specs.Plain.{Program}
use Rattle.label_fix.specs.DraftRun.{DraftEntry, word_of}
use Rattle.dependence.specs.declared.used.Extent.{Extent}
use Rattle.dependence.specs.declared.used.Extent.TheVariants.{Streams, Computed, Both}
use Rattle.dependence.specs.declared.used.Used.{Used}
use Rattle.dependence.specs.Apart.{used_of, bound_place}
use Rattle.overlap_guard.specs.Guard.{step_if, steps_code, shift_code, bytes_at, greater_code, extent_code, gap, below_code, is_mixed, none_if, pair_if, label_if, with_code, label_with, pairs_code, bases_code, is_free, code_by, guard_code}
use Rattle.reserved_registers.specs.Alone.{AreAlone, StaysAlone}
use Rattle.reserved_registers.proofs.Entries.{goes_on, put_alone}

-- a word that adds to X26, or takes from it
abbrev StepsAlone : Name → Type 0
StepsAlone name = (amount sh : ℕ) → goes_on (word_of name (26 ∷ 26 ∷ amount ∷ sh ∷ [])) ≡ true

step_alone : (exits : ℕ) (b : Bool) (name : Name) (amount sh : ℕ) (rest : List DraftEntry) → StepsAlone name → AreAlone exits rest → AreAlone exits (step_if b name amount sh rest)
step_alone exits true name amount sh rest s h = h
step_alone exits false name amount sh rest s h = put_alone exits (word_of name (26 ∷ 26 ∷ amount ∷ sh ∷ [])) rest (s amount sh) h

steps_alone : (exits : ℕ) (name : Name) (c : ℕ) (rest : List DraftEntry) → StepsAlone name → AreAlone exits rest → AreAlone exits (steps_code name c rest)
steps_alone exits name c rest s h = step_alone exits (nat_eq (c % 4096) 0) name (c % 4096) 0 _ s (step_alone exits (nat_eq (c / 4096 % 4096) 0) name (c / 4096 % 4096) 1 rest s h)

shift_alone : (exits : ℕ) (k : ℤ) (rest : List DraftEntry) → AreAlone exits rest → AreAlone exits (shift_code k rest)
shift_alone exits (pos c) rest h = steps_alone exits add_imm c rest (λ amount sh. refl) h
shift_alone exits (negsuc c) rest h = steps_alone exits sub_imm (suc c) rest (λ amount sh. refl) h

-- the address is written to X26 or to X27
bytes_alone : (b : Bool) (d p c : ℕ) → goes_on (word_of add_imm (d ∷ p ∷ c % 4096 ∷ 0 ∷ [])) ≡ true → goes_on (if b then word_of add_imm (d ∷ p ∷ c % 4096 ∷ 0 ∷ []) else word_of add_imm (d ∷ p ∷ c / 4096 % 4096 ∷ 1 ∷ [])) ≡ true
bytes_alone true d p c h = h
bytes_alone false d p c h = h

extent_alone : (exits : ℕ) (n p : ℕ) (w : Width) (e : Extent) (rest : List DraftEntry) → AreAlone exits rest → AreAlone exits (extent_code n p w e rest)
extent_alone exits n p w (Streams g) rest h = (refl, h)
extent_alone exits n p w (Computed r) rest h = put_alone exits (bytes_at 26 p (width_bytes w * r)) rest (bytes_alone (nat_lt (width_bytes w * r) 4096) 26 p (width_bytes w * r) refl) h
extent_alone exits n p w (Both g r) rest h = (refl, shift_alone exits (pos (width_bytes w) *ℤ g) _ (put_alone exits (bytes_at 27 p (width_bytes w * r)) (greater_code rest) (bytes_alone (nat_lt (width_bytes w * r) 4096) 27 p (width_bytes w * r) refl) (refl, (refl, h))))

below_alone : (exits : ℕ) (n : ℕ) (u v : Used) (rest : List DraftEntry) → AreAlone exits rest → AreAlone exits (below_code n u v rest)
below_alone exits n u v rest h = extent_alone exits n u.place u.width u.extent _ (shift_alone exits (gap u v) _ (refl, h))

mixed_alone : (exits : ℕ) (m : Bool) (n ok : ℕ) (rest : List DraftEntry) → AreAlone exits rest → AreAlone exits (none_if m n ok rest)
mixed_alone exits true n ok rest h = h
mixed_alone exits false n ok rest h = h

pair_alone : (exits : ℕ) (w : Bool) (n fail ok : ℕ) (u v : Used) (rest : List DraftEntry) → AreAlone exits rest → AreAlone exits (pair_if w n fail ok u v rest)
pair_alone exits true n fail ok u v rest h = below_alone exits n u v _ (mixed_alone exits (is_mixed u v) n ok _ (below_alone exits n v u _ h))
pair_alone exits false n fail ok u v rest h = h

with_alone : (exits : ℕ) (n fail label : ℕ) (u : Used) (vs : List Used) (rest : List DraftEntry) → AreAlone exits rest → AreAlone exits (with_code n fail label u vs rest)
with_alone exits n fail label u [] rest h = h
with_alone exits n fail label u (v ∷ vs) rest h =
    let w = u.stored || v.stored in
    pair_alone exits w n fail label u v _ (with_alone exits n fail (label_if w label) u vs rest h)

pairs_alone : (exits : ℕ) (n fail label : ℕ) (us : List Used) (rest : List DraftEntry) → AreAlone exits rest → AreAlone exits (pairs_code n fail label us rest)
pairs_alone exits n fail label [] rest h = h
pairs_alone exits n fail label (u ∷ us) rest h = with_alone exits n fail label u us _ (pairs_alone exits n fail (label_with label u us) us rest h)

bases_alone : (exits : ℕ) (fail : ℕ) (us : List Used) (rest : List DraftEntry) → AreAlone exits rest → AreAlone exits (bases_code fail us rest)
bases_alone exits fail [] rest h = h
bases_alone exits fail (u ∷ us) rest h = (refl, (refl, (refl, bases_alone exits fail us rest h)))

by_alone : (exits : ℕ) (w : Bool) (n fail label : ℕ) (us : List Used) (rest : List DraftEntry) → AreAlone exits rest → AreAlone exits (code_by w n fail label us rest)
by_alone exits true n fail label us rest h = h
by_alone exits false n fail label us rest h = (refl, bases_alone exits fail us _ (pairs_alone exits n fail label us rest h))

pub guard_stays : (k : Program) (fail label : ℕ) → StaysAlone (guard_code k fail label)
guard_stays k fail label exits rest h = by_alone exits (is_free (used_of k)) (bound_place k) fail label (used_of k) rest h
