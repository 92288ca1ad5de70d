-- The word of a row as the sum of its base and its numbers in their places.
use Rattle.std.proofs.Common.{◌≡◌, ℕ, ◌+◌, ◌*◌, ◌%◌, ◌<◌, ◌^◌, List, [], ◌∷◌, true, refl, sym, ap, ◌∙◌, eqb, bit_and, bit_or}
use Rattle.std.proofs.lemmas.Nat.{or_disjoint, and_comm, pow_pos}
use Rattle.std.proofs.lemmas.Bool.{and_parts, eqb-true}
use Rattle.std.proofs.Math.Nat.{mod-lt}
use Rattle.word_rows.specs.Field.{Field, ones_of}
use Rattle.word_rows.specs.Row.{Row, or_into, numbers_in, takes, Fill, is_clear_of, are_disjoint, is_laid_out}
use Rattle.word_rows.proofs.TableLaws.{laid_out, spelled_by_its_numbers, numbers_in-fit, outside, still_clear}

-- the numbers in their places, added to a word
unfoldable pub sum_into : ℕ → List Field → List ℕ → ℕ
sum_into word [] ns = word
sum_into word (f ∷ fs) [] = word
sum_into word (f ∷ fs) (n ∷ ns) = sum_into (word + n * 2 ^ f.low) fs ns

or-is_sum : (v : ℕ) (fs : List Field) (ns : List ℕ) → Fill fs ns → is_clear_of v fs ≡ true → are_disjoint fs ≡ true → or_into v fs ns ≡ sum_into v fs ns
unfolding sum_into
or-is_sum v [] ns fill clear apart = refl
or-is_sum v (f ∷ fs) [] fill clear apart = refl
or-is_sum v (f ∷ fs) (n ∷ ns) fill clear apart =
    let here = and_parts (eqb (bit_and v (ones_of f)) 0) (is_clear_of v fs) clear in
    let there = and_parts (is_clear_of (ones_of f) fs) (are_disjoint fs) apart in
    let none : bit_and v (n * 2 ^ f.low) ≡ 0 = and_comm v (n * 2 ^ f.low) ∙ outside n v f fill.0 (eqb-true _ _ here.0) in
    let sum : bit_or v (n * 2 ^ f.low) ≡ v + n * 2 ^ f.low = or_disjoint v (n * 2 ^ f.low) none in
    or-is_sum (bit_or v (n * 2 ^ f.low)) fs ns fill.1 (still_clear v n f fs fill.0 here.1 there.0) there.1
    ∙ ap (λ x. sum_into x fs ns) sum

pub mod_below : (x k : ℕ) → x % 2 ^ k < 2 ^ k
mod_below x k = mod-lt x (pow_pos k)

-- a word that a row has, as this sum
pub row-sum : (r : Row) (w : ℕ) → is_laid_out r ≡ true → w < 2 ^ 32 → takes r w ≡ true → sum_into r.base r.fields (numbers_in w r.fields) ≡ w
row-sum r w ok small h =
    let e = and_parts _ _ ok in
    let d = and_parts _ _ e.0 in
    let c = and_parts _ _ d.0 in
    let b = and_parts _ _ c.0 in
    sym (or-is_sum r.base r.fields (numbers_in w r.fields) (numbers_in-fit w r.fields) c.1 b.0) ∙ spelled_by_its_numbers r w (laid_out r ok) small h
