-- A comparison with a number that its word holds, or with a register.
use Rattle.std.proofs.Common.{◌≡◌, ◌≢◌, ℕ, ◌*◌, ◌%◌, ◌^◌, ◌<◌, ◌≤◌, List, [], ◌∷◌, length, Option, Some, None, refl, ap₂, ◌∙◌, arith, length-set, get_or-set_other}
use Rattle.std.specs.Prelude.{ℤ}
use Rattle.machine_model.specs.Machine.{State, x_at, x_or_sp, with_x, next}
use Rattle.machine_model.specs.Arithmetic.{difference, flags_of}
use Rattle.a64_code.specs.Table.{subs_imm}
use Rattle.machine_model.proofs.StateLaws.{x_or_sp-low}
use Rattle.kernel_meaning.specs.Operators.{word}
use Rattle.label_fix.specs.DraftRun.{DraftEntry, Put, Laid, word_of}
use Rattle.label_fix.proofs.StretchSteps.{Goes, put_goes}
use Rattle.scalar_words.specs.Layout.{Layout}
use Rattle.value_code.specs.ItemWords.{compare_word}
use Rattle.scalar_words.proofs.LayoutStates.{Kept}
use Rattle.scalar_words.proofs.Truths.{tested, tested_goes, tested_other, tested_sized, tested_kept, tested_flags}

-- ---- by a register or a number

-- the right side of a word: a number that the word holds, or else in a register
abbrev pub IsSide : Option ℕ → ℕ → State → ℤ → Type 0
IsSide (Some v) r s y = v ≡ word y
IsSide None r s y = x_at s r ≡ word y

-- the flags of two integers, and all else as it was
pub record Compared (D : Laid) (c : List DraftEntry) (s : State) (rest : List DraftEntry) (x y : ℤ) : Type 0 where
  pub end : State
  pub goes : Goes D c s rest end 1
  pub flags : end.flags ≡ flags_of (word x) (word y)
  pub sized : length end.x ≡ length s.x
  pub others : (r : ℕ) → r ≢ 31 → x_at end r ≡ x_at s r
  pub kept : (L : Layout) (b e : ℕ) → Kept L s end b e

pub compare_goes : (D : Laid) (number : Option ℕ) (rest : List DraftEntry) (s : State) (a c : ℕ) (x y : ℤ) → ((v : ℕ) → number ≡ Some v → v < 4096) → a ≤ 25 → x_at s a ≡ word x → IsSide number c s y → Compared D (Put (compare_word number a c) ∷ rest) s rest x y
compare_goes D None rest s a c x y few hi ex ey = record {
  end = tested s a c;
  goes = tested_goes D rest s a c;
  flags = tested_flags s a c x y ex ey;
  sized = tested_sized s a c;
  others = tested_other s a c;
  kept = λ L b e. tested_kept L s a c b e;
}
compare_goes D (Some v) rest s a c x y few hi ex ey =
    let k = v % 4096 * 2 ^ (12 * 0) in
    let low : k ≡ word y = omega (arith, few v refl, ey) in
    record {
      end = next (record (with_x s 31 (difference (x_or_sp s a) k)) { flags = flags_of (x_or_sp s a) k });
      goes = put_goes {i = word_of subs_imm (31 ∷ a ∷ v % 4096 ∷ 0 ∷ [])} refl;
      flags = ap₂ flags_of (x_or_sp-low s a hi ∙ ex) low;
      sized = length-set s.x 31 _;
      others = λ r ne. get_or-set_other s.x 31 r _ 0 ne;
      kept = λ L b e. record { memory = refl; sized = length-set s.x 31 _; frame = refl; others = λ r le h. get_or-set_other s.x 31 r _ 0 (λ eq. absurd (omega arith)) };
    }
