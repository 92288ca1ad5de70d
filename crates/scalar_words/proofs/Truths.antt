-- What a comparison leaves.
use Rattle.std.proofs.Common.{◌≡◌, ◌≢◌, ℕ, List, [], ◌∷◌, length, refl, sym, ap, ap₂, ◌∙◌, arith, length-set, get_or-set_other, ⊎_elim}
use Rattle.std.specs.Prelude.{ℤ}
use Rattle.std.proofs.lemmas.List.{get_or_past}
use Rattle.std.proofs.lemmas.Bool.{cases_eq}
use Rattle.machine_model.specs.Machine.{State, x_at, with_x, next}
use Rattle.machine_model.specs.States.{IsState}
use Rattle.machine_model.proofs.StateSteps.{next_is_state, x_kept, flags_kept}
use Rattle.machine_model.specs.Arithmetic.{difference, shifted_word, flags_of}
use Rattle.a64_code.specs.Table.{subs}
use Rattle.machine_model.proofs.StateLaws.{shifted_word-zero}
use Rattle.kernel_meaning.specs.Operators.{word}
use Rattle.kernel_meaning.proofs.Residues.{word-below}
use Rattle.label_fix.specs.DraftRun.{DraftEntry, Put, Laid, word_of}
use Rattle.label_fix.proofs.StretchSteps.{Goes, put_goes}
use Rattle.scalar_words.specs.Layout.{Layout}
use Rattle.scalar_words.proofs.LayoutStates.{Changes, Kept}

-- the state after a comparison
abbrev pub tested : State → ℕ → ℕ → State
tested s a c = next (record (with_x s 31 (difference (x_at s a) (shifted_word 0 (x_at s c) 0))) { flags = flags_of (x_at s a) (shifted_word 0 (x_at s c) 0) })

pub tested_goes : (D : Laid) (rest : List DraftEntry) (s : State) (a c : ℕ) → Goes D (Put (word_of subs (31 ∷ a ∷ 0 ∷ c ∷ 0 ∷ [])) ∷ rest) s rest (tested s a c) 1
tested_goes D rest s a c = put_goes refl

pub tested_other : (s : State) (a c r : ℕ) → r ≢ 31 → x_at (tested s a c) r ≡ x_at s r
tested_other s a c r h = get_or-set_other s.x 31 r _ 0 h

pub tested_sized : (s : State) (a c : ℕ) → length (tested s a c).x ≡ length s.x
tested_sized s a c = length-set s.x 31 _

-- register 31 reads zero before and after
pub tested_all : (s : State) (a c r : ℕ) → length s.x ≡ 31 → x_at (tested s a c) r ≡ x_at s r
tested_all s a c r sized =
    ⊎_elim
    (λ (e : r ≡ 31). let z = tested_sized s a c in get_or_past (tested s a c).x r 0 (omega (arith, e, z, sized)) ∙ sym (get_or_past s.x r 0 (omega (arith, e, sized))))
    (λ ne. tested_other s a c r ne)
    (cases_eq r 31)

pub tested_changes : (s : State) (a c d : ℕ) → Changes s (tested s a c) d
tested_changes s a c d = record { memory = refl; sized = tested_sized s a c; frame = refl; others = λ r hi ne. tested_other s a c r (λ eq. absurd (omega arith)) }

pub tested_shaped : (s : State) (a c : ℕ) → IsState s → IsState (tested s a c)
tested_shaped s a c is =
    let v = difference (x_at s a) (shifted_word 0 (x_at s c) 0) in
    next_is_state _ (flags_kept (with_x s 31 v) (flags_of (x_at s a) (shifted_word 0 (x_at s c) 0)) (x_kept s 31 v is (omega arith)))

pub tested_kept : (L : Layout) (s : State) (a c b e : ℕ) → Kept L s (tested s a c) b e
tested_kept L s a c b e = record { memory = refl; sized = tested_sized s a c; frame = refl; others = λ r hi h. tested_other s a c r (λ eq. absurd (omega arith)) }

pub tested_flags : (s : State) (a c : ℕ) (x y : ℤ) → x_at s a ≡ word x → x_at s c ≡ word y → (tested s a c).flags ≡ flags_of (word x) (word y)
tested_flags s a c x y ex ey = ap₂ (λ m n. flags_of m (shifted_word 0 n 0)) ex ey ∙ ap (λ n. flags_of (word x) n) (shifted_word-zero (word y) (word-below y))
