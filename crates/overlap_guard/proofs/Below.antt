-- The code that compares an end with a beginning.
use Rattle.std.proofs.Common.{◌≡◌, ℕ, ◌+◌, ◌^◌, ◌<◌, ◌≤◌, ℤ, pos, Bool, true, false, List, [], ◌∷◌, refl, ap, ap₂, ◌∙◌, arith}
use Rattle.std.proofs.lemmas.Bool.{leb-true, leb-false}
use Rattle.std.proofs.lemmas.Int.{ints}
use Rattle.std.specs.Prelude.{◌*ℤ◌, ◌≤ℤ◌, ◌<ℤ◌, nat_le, not}
use Rattle.guest_types.specs.declared.length.Width.{Width}
use Rattle.guest_types.specs.Length.{width_bytes}
use Rattle.machine_model.specs.Machine.{State, x_at, next, jump}
use Rattle.machine_model.specs.Arithmetic.{shifted_word, holds}
use Rattle.a64_code.specs.Table.{subs}
use Rattle.machine_model.proofs.StateLaws.{shifted_word-zero}
use Rattle.label_fix.specs.DraftRun.{DraftEntry, Branch, If, Laid, following, address_of, ins}
use Rattle.label_fix.proofs.StretchSteps.{Goes, put_goes, taken_goes, passed_goes, chain}
use Rattle.dependence.specs.declared.used.Extent.{Extent}
use Rattle.dependence.specs.declared.used.Extent.TheVariants.{Streams, Computed, Both}
use Rattle.dependence.specs.declared.used.Used.{Used}
use Rattle.dependence.specs.Apart.{base_in, begin_in, end_in, IsBased}
use Rattle.overlap_guard.specs.Guard.{IsFit, IsFitExtent, left_over, gap, shift_code, below_code}
use Rattle.overlap_guard.proofs.Ends.{IsWithin, near-bytes, near-gap, ordered, turned}
use Rattle.overlap_guard.proofs.Extents.{Entered, extent_runs, words_end}
use Rattle.overlap_guard.proofs.Shifts.{shifts}
use Rattle.overlap_guard.proofs.Tests.{tested, Same, same_on, same_tested, same_jump, Tests, goes_on, goes_off}

near_over : (w : Width) (least : ℤ) (e : Extent) → IsFitExtent least e → IsWithin 8192 (left_over w e)
near_over w least (Streams g) fit = near-bytes w g fit.0
near_over w least (Computed r) fit = (omega (arith, ints), omega (arith, ints))
near_over w least (Both g r) fit = (omega (arith, ints), omega (arith, ints))

-- a comparison of an integer with another one
pub record Compares (D : Laid) (c e : List DraftEntry) (s : State) (z y : ℤ) (most : ℕ) : Type 0 where
  pub end : State
  pub goes : Goes D c s e end most
  pub same : Same s end
  pub yes : Bool
  pub flag : holds 2 end.flags ≡ yes
  pub if_yes : yes ≡ true → z ≤ℤ y
  pub if_no : yes ≡ false → y <ℤ z

module _ (D : Laid) where
  -- a branch where it is not above
  pub branch_low : {c rest : List DraftEntry} {s : State} {z y : ℤ} {m : ℕ} (ok : ℕ) → Compares D c (Branch (If 2) ok ∷ rest) s z y m → Tests D c s (following D ok) rest (z ≤ℤ y) (y <ℤ z) (m + 1)
  branch_low {c = c} {rest = rest} {s = s} {z = z} {y = y} {m = m} ok k = by k.yes k.end k.goes k.same k.flag k.if_yes k.if_no
    where
      by : (b : Bool) (t : State) → Goes D c s (Branch (If 2) ok ∷ rest) t m → Same s t → holds 2 t.flags ≡ b → (b ≡ true → z ≤ℤ y) → (b ≡ false → y <ℤ z) → Tests D c s (following D ok) rest (z ≤ℤ y) (y <ℤ z) (m + 1)
      by true t g k q low high = goes_on (low refl) (jump t (address_of D ok)) (chain (m + 1) (omega arith) g (taken_goes q)) (same_on k (same_jump t _))
      by false t g k q low high = goes_off (high refl) (next t) (chain (m + 1) (omega arith) g (passed_goes q)) (same_on k (same_jump t _))

  -- and one where it is
  pub branch_above : {c rest : List DraftEntry} {s : State} {z y : ℤ} {m : ℕ} (fail : ℕ) → Compares D c (Branch (If 3) fail ∷ rest) s z y m → Tests D c s rest (following D fail) (z ≤ℤ y) (y <ℤ z) (m + 1)
  branch_above {c = c} {rest = rest} {s = s} {z = z} {y = y} {m = m} fail k = by k.yes k.end k.goes k.same k.flag k.if_yes k.if_no
    where
      by : (b : Bool) (t : State) → Goes D c s (Branch (If 3) fail ∷ rest) t m → Same s t → holds 2 t.flags ≡ b → (b ≡ true → z ≤ℤ y) → (b ≡ false → y <ℤ z) → Tests D c s rest (following D fail) (z ≤ℤ y) (y <ℤ z) (m + 1)
      by true t g k q low high = goes_on (low refl) (next t) (chain (m + 1) (omega arith) g (passed_goes (ap not q))) (same_on k (same_jump t _))
      by false t g k q low high = goes_off (high refl) (jump t (address_of D fail)) (chain (m + 1) (omega arith) g (taken_goes (ap not q))) (same_on k (same_jump t _))

  module _ (args : List ℕ) (r n : ℕ) (reg : r ≤ 7) (few : n < 2 ^ 40) where
    pub compares : (s : State) (rest : List DraftEntry) (u v : Used) → Entered r n s → IsFit u → IsFit v → IsBased (base_in args u) → IsBased (base_in args v) → x_at s u.place ≡ base_in args u → x_at s v.place ≡ base_in args v → Compares D (below_code r u v rest) rest s (end_in args n u) (begin_in args v) (words_end u.extent + 3)
    compares s rest u v ent fu fv bu bv hu hv =
        let back = pos (width_bytes v.width) *ℤ v.least in
        let over = left_over u.width u.extent in
        let test = ins subs (31 ∷ v.place ∷ 0 ∷ 26 ∷ 0 ∷ []) ∷ rest in
        let e = extent_runs D r n reg few s (shift_code (gap u v) test) u.place (base_in args u) u.width u.least u.extent ent fu.0 bu hu fu.2 in
        let moved = shifts D e.end test (gap u v) e.word (e.same.sized ∙ ent.sized) e.held e.high e.low (near-gap over back (near_over u.width u.least u.extent fu.2) (near-bytes v.width v.least fv.1)) in
        let t = moved.leaves.end in
        let k = same_on e.same moved.leaves.same in
        let x = moved.word in
        let y = base_in args v in
        let t2 = tested t v.place 26 in
        let hy : x_at t v.place ≡ y = k.others v.place (let f = fv.0 in omega (arith, f)) ∙ hv in
        let flag : holds 2 t2.flags ≡ nat_le x y = ap₂ (λ a b. nat_le (shifted_word 0 b 0) a) hy moved.leaves.held ∙ ap (λ b. nat_le b y) (shifted_word-zero x (let l = moved.low in omega (arith, l))) in
        record {
          end = t2;
          goes = chain (words_end u.extent + 3) (omega arith) e.goes (chain 3 (omega arith) moved.leaves.goes (put_goes refl));
          same = same_on k (same_tested t v.place 26);
          yes = nat_le x y;
          flag = flag;
          if_yes = λ q. ordered (end_in args n u) (pos e.word) over back (begin_in args v) x y e.is moved.is refl (leb-true x y q);
          if_no = λ q. turned (end_in args n u) (pos e.word) over back (begin_in args v) x y e.is moved.is refl (leb-false x y q);
        }
