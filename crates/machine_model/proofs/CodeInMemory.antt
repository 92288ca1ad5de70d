-- Code that stands in memory: what a step does there, its parts, that it stays, and that the code of a written file stands
-- there, beside any pages that do not meet the file's.
use Rattle.std.proofs.Common.{◌≡◌, ℕ, zero, suc, ◌+◌, ◌*◌, ◌^◌, ◌<◌, ◌≤◌, Bool, true, List, [], ◌∷◌, ◌++◌, length, Some, refl, sym, ◌∙◌, subst, arith, mul-le-mul_right}
use Rattle.std.specs.Prelude.{All, ◌&&◌, nat_lt, nat_le, slice_get, bit_or}
use Rattle.std.proofs.Math.Pow.{pow_mono}
use Rattle.std.proofs.Math.Dec.{lit<}
use Rattle.std.proofs.Math.Nat.{mod-eq_of_lt, mod-lt, one-le-pow, suc-mul}
use Rattle.std.proofs.lemmas.Nat.{or_of_32, pow-add, pow_pos}
use Rattle.std.proofs.lemmas.Bool.{and_parts, ltb-true, leb-true}
use Rattle.std.proofs.lemmas.List.{length-map}
use Rattle.std.proofs.lemmas.List.Elements.{All-nil, All-cons}
use Rattle.guest_types.specs.Memory.{Memory, DoNotMeet, fetched, merged}
use Rattle.word_rows.specs.Field.{Field}
use Rattle.word_rows.specs.Row.{Row, Instruction, IsInstruction, Fill, or_into, spells}
use Rattle.a64_code.specs.Table as a64
use Rattle.sve_code.specs.Table as sve
use Rattle.machine_model.specs.CodeInMemory.{spell, IsListed, word_after, HasCode, place_after, AllListed, words_of}
use Rattle.machine_model.specs.InstructionTable.{Listed, Scalar, Vector}
use Rattle.machine_model.specs.Machine.{State, memory_after}
use Rattle.machine_model.specs.OneStep.{step, does, cuts_in, suppresses}
use Rattle.machine_model.specs.Written.{code_base, image_of_words}
use Rattle.machine_model.proofs.WrittenFetch.{fetch_beside}
use Rattle.machine_model.proofs.ListedWords.{step_does, step_cuts}
use Rattle.machine_model.proofs.MemoryStays.{step_code}

-- ---- a step where code stands

pub code_does : (s : State) (i : Listed) (is : List Listed) → HasCode s.memory s.pc (i ∷ is) → step s ≡ does i s
code_does s i is h = step_does s i h.1 h.0

pub code_cuts : (s : State) (i : Listed) (is : List Listed) → HasCode s.memory s.pc (i ∷ is) → suppresses s ≡ cuts_in i s
code_cuts s i is h = step_cuts s i h.1 h.0

-- whatever the step
pub code_stays : (s : State) (pc : ℕ) (is : List Listed) → pc < 2 ^ 64 → HasCode s.memory pc is → HasCode (memory_after (step s) s) pc is
code_stays s pc [] low h = tt
code_stays s pc (i ∷ is) low h = (step_code s pc low ∙ h.0, h.1, code_stays s (word_after pc) is (mod-lt (pc + 4) (pow_pos 64)) h.2)

-- ---- code in two parts

pub code_front : (memory : Memory) (pc : ℕ) (front back : List Listed) → HasCode memory pc (front ++ back) → HasCode memory pc front
code_front memory pc [] back h = tt
code_front memory pc (i ∷ front) back h = (h.0, h.1, code_front memory (word_after pc) front back h.2)

pub code_back : (memory : Memory) (pc : ℕ) (front back : List Listed) → HasCode memory pc (front ++ back) → HasCode memory (place_after pc front) back
code_back memory pc [] back h = h
code_back memory pc (i ∷ front) back h = code_back memory (word_after pc) front back h.2

-- ---- code whose words are fetched at their places

pub code_from : (memory : Memory) (is : List Listed) (pc : ℕ) → AllListed is → pc + 4 * length is < 2 ^ 64 → ((k w : ℕ) → slice_get (words_of is) k ≡ Some w → fetched memory (pc + 4 * k) ≡ Some w) → HasCode memory pc is
code_from memory [] pc listed fits f = tt
code_from memory (i ∷ is) pc listed fits f =
    let e0 : pc + 4 * 0 ≡ pc = omega arith in
    let e1 : word_after pc ≡ pc + 4 = mod-eq_of_lt (omega arith) in
    let rest = code_from memory is (pc + 4) listed.1 (omega arith) (λ k w at. let e : pc + 4 * suc k ≡ pc + 4 + 4 * k = omega arith in subst (λ p. fetched memory p ≡ Some w) e (f (suc k) w at)) in
    (subst (λ p. fetched memory p ≡ Some (spell i)) e0 (f 0 (spell i) refl), listed.0, subst (λ p. HasCode memory p is) (sym e1) rest)

-- ---- words have 32 bits

abbrev are_within : List Field → Bool
are_within [] = true
are_within (f ∷ fs) = nat_le (f.width + f.low) 32 && are_within fs

placed_below : (n width low : ℕ) → n < 2 ^ width → width + low ≤ 32 → n * 2 ^ low < 2 ^ 32
placed_below n width low h le =
    let e = pow-add 2 width low in
    let up : 2 ^ (width + low) ≤ 2 ^ 32 = pow_mono le in
    let m = scaled n (2 ^ width) (2 ^ low) h (positive low) in
    omega (arith, e, up, m)
  where
    positive : (k : ℕ) → 0 < 2 ^ k
    positive k = one-le-pow k 2 (lit< tt)

    scaled : (p q m : ℕ) → p < q → 0 < m → p * m < q * m
    scaled p q m lt pos = let le : suc p * m ≤ q * m = mul-le-mul_right m lt in omega (arith, le, suc-mul p m, pos)

or_into_below : (fs : List Field) (ns : List ℕ) (w : ℕ) → w < 2 ^ 32 → Fill fs ns → are_within fs ≡ true → or_into w fs ns < 2 ^ 32
or_into_below [] ns w h fill ok = h
or_into_below (f ∷ fs) [] w h fill ok = absurd fill
or_into_below (f ∷ fs) (n ∷ ns) w h fill ok =
    let parts = and_parts _ _ ok in
    or_into_below fs ns (bit_or w (n * 2 ^ f.low)) (or_of_32 w (n * 2 ^ f.low) h (placed_below n f.width f.low fill.0 (leb-true _ _ parts.0))) fill.1 parts.1

abbrev is_within : Row → Bool
is_within row = nat_lt row.base (2 ^ 32) && are_within row.fields

module _ {Name : Type 0} (row : Name → Row) where
  abbrev rows_within : List Name → Bool
  rows_within [] = true
  rows_within (n ∷ ns) = is_within (row n) && rows_within ns

  within_at : (names : List Name) (k : ℕ) (n : Name) → rows_within names ≡ true → slice_get names k ≡ Some n → is_within (row n) ≡ true
  within_at [] k n ok at = cc
  within_at (m ∷ names) zero n ok at = let e : m ≡ n = cc in subst (λ x. is_within (row x) ≡ true) e (and_parts _ _ ok).0
  within_at (m ∷ names) (suc k) n ok at = within_at names k n (and_parts _ _ ok).1 at

  spells_below : (names : List Name) → rows_within names ≡ true → (i : Instruction Name) → IsInstruction row names i → spells row i < 2 ^ 32
  spells_below names within i h =
      let parts = and_parts _ _ (within_at names h.place i.name within h.listed) in
      or_into_below (row i.name).fields i.numbers (row i.name).base (ltb-true _ _ parts.0) h.fits parts.1

scalar_within : rows_within a64.row a64.a64_names ≡ true
unfolding a64.add_sub_imm a64.add_sub_shifted a64.logical a64.move_wide a64.multiply_add a64.shift_variable a64.bitfield a64.select a64.branch a64.branch_if a64.branch_zero a64.ret_form a64.exception a64.nop_form a64.umov_form a64.byte_imm a64.wide_imm a64.byte_register a64.wide_register
scalar_within = refl

vector_within : rows_within sve.row sve.sve_names ≡ true
unfolding sve.true_form sve.false_form sve.while_below sve.test_form sve.pred_logic sve.break_form sve.read_ffr sve.read_ffr_zeroing sve.set_ffr sve.write_ffr sve.count sve.increment_by_count sve.count_true sve.duplicate sve.index sve.select sve.add_sub sve.logic sve.shift_imm sve.merging sve.unary sve.extend_byte sve.extend_half sve.extend_word sve.reduce sve.compare sve.load sve.load_first_fault sve.load_no_fault sve.load_gather sve.store
vector_within = refl

pub spell_below : (i : Listed) → IsListed i → spell i < 2 ^ 32
spell_below (Scalar i) h = spells_below a64.row a64.a64_names scalar_within i h
spell_below (Vector v) h = spells_below sve.row sve.sve_names vector_within v h

pub words_below : (is : List Listed) → AllListed is → All (λ word. word < 2 ^ 32) (words_of is)
words_below [] h = All-nil (λ word. word < 2 ^ 32)
words_below (i ∷ is) h = All-cons (λ word. word < 2 ^ 32) (spell i) (words_of is) (spell_below i h.0) (words_below is h.1)

-- ---- the code of a file

pub code_stands : (is : List Listed) (pages : Memory) → length is ≤ 65536 → AllListed is → DoNotMeet (image_of_words (words_of is)).pages pages → HasCode (merged (image_of_words (words_of is)).pages pages) code_base is
code_stands is pages few listed apart =
    let n = length-map is spell in
    code_from (merged (image_of_words (words_of is)).pages pages) is code_base listed (omega (arith, few))
    (λ k w at. fetch_beside (words_of is) pages k w (omega (arith, n, few)) (words_below is listed) apart at)
