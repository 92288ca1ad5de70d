-- What holds of a table of rows that passes its tests.
use Rattle.std.proofs.Common.{◌≡◌, ℕ, ◌-◌, ◌*◌, ◌/◌, ◌%◌, ◌^◌, ◌<◌, min, max, bit_and, bit_or, true, false, ◌&&◌, cond, eqb, List, [], ◌∷◌, ◌++◌, slice_get, zero, suc, Option, Some, None, inl, inr, refl, sym, ap, ◌∙◌, arith}
use Rattle.std.specs.Int.{bit_at}
use Rattle.std.proofs.lemmas.Nat.{and_assoc, and_comm, shl-shr, and_mask, pow_pos}
use Rattle.std.proofs.lemmas.Nat.Bits.{same_from_bits, bit_at_and, bit_at_or, and_high}
use Rattle.std.proofs.lemmas.Bool.{and_parts, and_from, eqb-true, eq-eqb, both_ways, cases_Bool, not-true, cond-true, cond-false, false_from_ne_true}
use Rattle.std.proofs.lemmas.Option.{same_Some}
use Rattle.std.specs.Option.{option_or, option_map, IfSome}
use Rattle.std.proofs.Math.Nat.{mod-eq_of_lt, mod-lt}
use lib.Bits.{and_zero_r, or_zero_r, or_zero_l}
use Rattle.word_rows.specs.Field.{Field, number_in, ones_of}
use Rattle.word_rows.specs.Row.{Row, mask_of, numbers_in, takes, or_into, Instruction, reads, spells, is_clear_of, are_disjoint, with_ones, is_laid_out, are_apart, is_apart_from_all, is_table, Fill, IsInstruction, are_tables_apart}

min_max : (x y z : ℕ) → min (max x y) z ≡ max (min x z) (min y z)
min_max x y z = omega arith

pub and_or : (a b c : ℕ) → bit_and (bit_or a b) c ≡ bit_or (bit_and a c) (bit_and b c)
and_or a b c = same_from_bits _ _ (λ i.
    bit_at_and (bit_or a b) c i ∙ ap (λ x. min x (bit_at c i)) (bit_at_or a b i) ∙ min_max (bit_at a i) (bit_at b i) (bit_at c i)
    ∙ sym (bit_at_or (bit_and a c) (bit_and b c) i ∙ ap (λ x. max x (bit_at (bit_and b c) i)) (bit_at_and a c i) ∙ ap (max (min (bit_at a i) (bit_at c i))) (bit_at_and b c i)))

pub or_and : (c a b : ℕ) → bit_and c (bit_or a b) ≡ bit_or (bit_and c a) (bit_and c b)
or_and c a b = and_comm c (bit_or a b) ∙ and_or a b c ∙ ap (λ x. bit_or x (bit_and b c)) (and_comm a c) ∙ ap (bit_or (bit_and c a)) (and_comm b c)

-- ---- one field
-- the field's bits of a word are its number, moved there
pub and_ones : (w : ℕ) (f : Field) → bit_and w (ones_of f) ≡ number_in w f * 2 ^ f.low
and_ones w f = and_high w f.width f.low

pub placed_number : (n : ℕ) (f : Field) → n < 2 ^ f.width → number_in (n * 2 ^ f.low) f ≡ n
placed_number n f h = ap (λ x. x % 2 ^ f.width) (shl-shr n f.low) ∙ mod-eq_of_lt h

pub placed_and_ones : (n : ℕ) (f : Field) → n < 2 ^ f.width → bit_and (n * 2 ^ f.low) (ones_of f) ≡ n * 2 ^ f.low
placed_and_ones n f h = and_ones (n * 2 ^ f.low) f ∙ ap (λ x. x * 2 ^ f.low) (placed_number n f h)

same_number : (m n k : ℕ) → m * 2 ^ k ≡ n * 2 ^ k → m ≡ n
same_number m n k e = sym (shl-shr m k) ∙ ap (λ x. x / 2 ^ k) e ∙ shl-shr n k

-- ---- from a word to its numbers and back
spelled_back : (w m : ℕ) (fs : List Field) → or_into (bit_and w m) fs (numbers_in w fs) ≡ bit_and w (with_ones m fs)
spelled_back w m [] = refl
spelled_back w m (f ∷ fs) =
    ap (λ x. or_into x fs (numbers_in w fs)) (ap (bit_or (bit_and w m)) (sym (and_ones w f)) ∙ sym (or_and w m (ones_of f)))
    ∙ spelled_back w (bit_or m (ones_of f)) fs

-- ---- from numbers to a word and back
-- a field's number has no bit outside the field
pub outside : (n m : ℕ) (f : Field) → n < 2 ^ f.width → bit_and m (ones_of f) ≡ 0 → bit_and (n * 2 ^ f.low) m ≡ 0
outside n m f small apart =
    ap (λ x. bit_and x m) (sym (placed_and_ones n f small)) ∙ and_assoc m (n * 2 ^ f.low) (ones_of f)
    ∙ ap (bit_and (n * 2 ^ f.low)) (and_comm (ones_of f) m ∙ apart) ∙ and_zero_r (n * 2 ^ f.low)

pub or_outside : (v n m : ℕ) (f : Field) → n < 2 ^ f.width → bit_and m (ones_of f) ≡ 0 → bit_and (bit_or v (n * 2 ^ f.low)) m ≡ bit_and v m
or_outside v n m f small apart =
    and_or v (n * 2 ^ f.low) m ∙ ap (bit_or (bit_and v m)) (outside n m f small apart) ∙ or_zero_r (bit_and v m)

kept_outside : (v m : ℕ) (fs : List Field) (ns : List ℕ) → Fill fs ns → is_clear_of m fs ≡ true → bit_and (or_into v fs ns) m ≡ bit_and v m
kept_outside v m [] ns fill clear = refl
kept_outside v m (f ∷ fs) [] fill clear = refl
kept_outside v m (f ∷ fs) (n ∷ ns) fill clear =
    let here = and_parts (eqb (bit_and m (ones_of f)) 0) (is_clear_of m fs) clear in
    kept_outside (bit_or v (n * 2 ^ f.low)) m fs ns fill.1 here.1 ∙ or_outside v n m f fill.0 (eqb-true _ _ here.0)

-- a word that is clear of the fields stays so with a number in a field apart from them
pub still_clear : (v n : ℕ) (f : Field) (fs : List Field) → n < 2 ^ f.width → is_clear_of v fs ≡ true → is_clear_of (ones_of f) fs ≡ true → is_clear_of (bit_or v (n * 2 ^ f.low)) fs ≡ true
still_clear v n f [] small clear apart = refl
still_clear v n f (g ∷ fs) small clear apart =
    let here = and_parts (eqb (bit_and v (ones_of g)) 0) (is_clear_of v fs) clear in
    let there = and_parts (eqb (bit_and (ones_of f) (ones_of g)) 0) (is_clear_of (ones_of f) fs) apart in
    let zero_there : bit_and (ones_of g) (ones_of f) ≡ 0 = and_comm (ones_of g) (ones_of f) ∙ eqb-true _ _ there.0 in
    and_from _ _
    (eq-eqb _ _ (or_outside v n (ones_of g) f small zero_there ∙ eqb-true _ _ here.0))
    (still_clear v n f fs small here.1 there.1)

read_back : (v : ℕ) (fs : List Field) (ns : List ℕ) → Fill fs ns → is_clear_of v fs ≡ true → are_disjoint fs ≡ true → numbers_in (or_into v fs ns) fs ≡ ns
read_back v [] [] fill clear apart = refl
read_back v [] (n ∷ ns) fill clear apart = absurd fill
read_back v (f ∷ fs) [] fill clear apart = absurd fill
read_back v (f ∷ fs) (n ∷ ns) fill clear apart =
    let here = and_parts (eqb (bit_and v (ones_of f)) 0) (is_clear_of v fs) clear in
    let there = and_parts (is_clear_of (ones_of f) fs) (are_disjoint fs) apart in
    let w = bit_or v (n * 2 ^ f.low) in
    let first : number_in (or_into w fs ns) f ≡ n =
    same_number _ _ f.low
    (sym (and_ones (or_into w fs ns) f) ∙ kept_outside w (ones_of f) fs ns fill.1 there.0 ∙ and_or v (n * 2 ^ f.low) (ones_of f)
    ∙ ap (λ x. bit_or x (bit_and (n * 2 ^ f.low) (ones_of f))) (eqb-true _ _ here.0) ∙ or_zero_l _ ∙ placed_and_ones n f fill.0) in
    ap (λ x. x ∷ numbers_in (or_into w fs ns) fs) first ∙ ap (λ xs. n ∷ xs) (read_back w fs ns fill.1 (still_clear v n f fs fill.0 here.1 there.0) there.1)

-- ---- one row
pub record LaidOut (r : Row) : Type 0 where
  disjoint : are_disjoint r.fields ≡ true
  mask_clear : is_clear_of (mask_of r) r.fields ≡ true
  base_clear : is_clear_of r.base r.fields ≡ true
  base_fixed : bit_and r.base (mask_of r) ≡ r.base
  whole : with_ones (mask_of r) r.fields ≡ 2 ^ 32 - 1

pub laid_out : (r : Row) → is_laid_out r ≡ true → LaidOut r
laid_out r h =
    let e = and_parts _ _ h in
    let d = and_parts _ _ e.0 in
    let c = and_parts _ _ d.0 in
    let b = and_parts _ _ c.0 in
    record { disjoint = b.0; mask_clear = b.1; base_clear = c.1; base_fixed = eqb-true _ _ d.1; whole = eqb-true _ _ e.1 }

-- a word of the row is spelled by its numbers
pub spelled_by_its_numbers : (r : Row) (w : ℕ) → LaidOut r → w < 2 ^ 32 → takes r w ≡ true → or_into r.base r.fields (numbers_in w r.fields) ≡ w
spelled_by_its_numbers r w ok small h =
    let fixed : bit_and w (mask_of r) ≡ r.base = eqb-true _ _ (and_parts _ _ h).0 in
    ap (λ b. or_into b r.fields (numbers_in w r.fields)) (sym fixed) ∙ spelled_back w (mask_of r) r.fields
    ∙ ap (bit_and w) ok.whole ∙ and_mask w 32 ∙ mod-eq_of_lt small

-- numbers that fit are read again
pub read_again : (r : Row) (ns : List ℕ) → LaidOut r → Fill r.fields ns → numbers_in (or_into r.base r.fields ns) r.fields ≡ ns
read_again r ns ok fill = read_back r.base r.fields ns fill ok.base_clear ok.disjoint

pub taken_again : (r : Row) (ns : List ℕ) → LaidOut r → Fill r.fields ns → r.admits ns ≡ true → takes r (or_into r.base r.fields ns) ≡ true
taken_again r ns ok fill good =
    and_from _ _
    (eq-eqb _ _ (kept_outside r.base (mask_of r) r.fields ns fill ok.mask_clear ∙ ok.base_fixed))
    (ap r.admits (read_again r ns ok fill) ∙ good)

-- no word is in two rows that are apart
pub not_in_both : (a b : Row) (w : ℕ) → are_apart a b ≡ true → takes a w ≡ true → takes b w ≡ true → ⊥
not_in_both a b w apart in_a in_b =
    let fixed_a : bit_and w (mask_of a) ≡ a.base = eqb-true _ _ (and_parts _ _ in_a).0 in
    let fixed_b : bit_and w (mask_of b) ≡ b.base = eqb-true _ _ (and_parts _ _ in_b).0 in
    let same : bit_and a.base (mask_of b) ≡ bit_and b.base (mask_of a) =
    ap (λ x. bit_and x (mask_of b)) (sym fixed_a) ∙ and_assoc (mask_of b) w (mask_of a) ∙ ap (bit_and w) (and_comm (mask_of a) (mask_of b))
    ∙ sym (and_assoc (mask_of a) w (mask_of b)) ∙ ap (λ x. bit_and x (mask_of a)) fixed_b in
    both_ways _ (not-true _ apart) (eq-eqb _ _ same)

-- ---- a table
pub same_name : {Name : Type 0} (row : Name → Row) (w : ℕ) (m n : Name) → m ≡ n → takes (row m) w ≡ true → takes (row n) w ≡ true
same_name row w m n e h = ap (λ x. takes (row x) w) (sym e) ∙ h

-- a word that row a takes is taken by no row apart from it
none_other : {Name : Type 0} (row : Name → Row) (w : ℕ) (a : Row) (names : List Name) → is_apart_from_all row a names ≡ true → takes a w ≡ true → (k : ℕ) (n : Name) → slice_get names k ≡ Some n → takes (row n) w ≡ true → ⊥
none_other row w a [] apart in_a k n at in_n = cc
none_other row w a (m ∷ names) apart in_a zero n at in_n =
    let e : m ≡ n = same_Some m n at in
    not_in_both a (row m) w (and_parts (are_apart a (row m)) (is_apart_from_all row a names) apart).0 in_a (same_name row w n m (sym e) in_n)
none_other row w a (m ∷ names) apart in_a (suc k) n at in_n =
    none_other row w a names (and_parts (are_apart a (row m)) (is_apart_from_all row a names) apart).1 in_a k n at in_n

-- no word is in two rows of a table
pub in_one_row : {Name : Type 0} (row : Name → Row) (names : List Name) → is_table row names ≡ true → (w i j : ℕ) (m n : Name) → slice_get names i ≡ Some m → slice_get names j ≡ Some n → takes (row m) w ≡ true → takes (row n) w ≡ true → i ≡ j
in_one_row row [] ok w i j m n at_i at_j in_m in_n = cc
in_one_row row (a ∷ names) ok w zero zero m n at_i at_j in_m in_n = refl
in_one_row row (a ∷ names) ok w zero (suc j) m n at_i at_j in_m in_n =
    let parts = and_parts (is_laid_out (row a) && is_apart_from_all row (row a) names) (is_table row names) ok in
    absurd (none_other row w (row a) names (and_parts (is_laid_out (row a)) _ parts.0).1 (same_name row w m a (sym (same_Some a m at_i)) in_m) j n at_j in_n)
in_one_row row (a ∷ names) ok w (suc i) zero m n at_i at_j in_m in_n =
    let parts = and_parts (is_laid_out (row a) && is_apart_from_all row (row a) names) (is_table row names) ok in
    absurd (none_other row w (row a) names (and_parts (is_laid_out (row a)) _ parts.0).1 (same_name row w n a (sym (same_Some a n at_j)) in_n) i m at_i in_m)
in_one_row row (a ∷ names) ok w (suc i) (suc j) m n at_i at_j in_m in_n =
    let parts = and_parts (is_laid_out (row a) && is_apart_from_all row (row a) names) (is_table row names) ok in
    ap suc (in_one_row row names parts.1 w i j m n at_i at_j in_m in_n)

pub laid_out_at : {Name : Type 0} (row : Name → Row) (names : List Name) → is_table row names ≡ true → (k : ℕ) (n : Name) → slice_get names k ≡ Some n → LaidOut (row n)
laid_out_at row [] ok k n at = cc
laid_out_at row (a ∷ names) ok zero n at =
    let parts = and_parts (is_laid_out (row a) && is_apart_from_all row (row a) names) (is_table row names) ok in
    laid_out (row n) (ap (λ x. is_laid_out (row x)) (sym (same_Some a n at)) ∙ (and_parts (is_laid_out (row a)) _ parts.0).0)
laid_out_at row (a ∷ names) ok (suc k) n at =
    let parts = and_parts (is_laid_out (row a) && is_apart_from_all row (row a) names) (is_table row names) ok in
    laid_out_at row names parts.1 k n at

-- what a word of a listed row reads as, wherever the row stands
pub reads_row : {Name : Type 0} (row : Name → Row) (names : List Name) → is_table row names ≡ true → (w k : ℕ) (n : Name) → slice_get names k ≡ Some n → takes (row n) w ≡ true → reads row names w ≡ Some (record { name = n; numbers = numbers_in w (row n).fields })
unfolding reads
reads_row row [] ok w k n at h = cc
reads_row row (a ∷ names) ok w zero n at h =
    let e : a ≡ n = same_Some a n at in
    cond-true _ _ _ (same_name row w n a (sym e) h) ∙ ap (λ x. Some (record { name = x; numbers = numbers_in w (row x).fields })) e
reads_row row (a ∷ names) ok w (suc k) n at h =
    let parts = and_parts (is_laid_out (row a) && is_apart_from_all row (row a) names) (is_table row names) ok in
    let other : takes (row a) w ≡ false = false_from_ne_true _ (λ in_a. none_other row w (row a) names (and_parts (is_laid_out (row a)) _ parts.0).1 in_a k n at h) in
    cond-false _ _ _ other ∙ reads_row row names parts.1 w k n at h

-- what is spelled is read again
pub reads-spells : {Name : Type 0} (row : Name → Row) (names : List Name) → is_table row names ≡ true → (i : Instruction Name) → IsInstruction row names i → reads row names (spells row i) ≡ Some i
reads-spells row names ok i h =
    let laid = laid_out_at row names ok h.place i.name h.listed in
    reads_row row names ok (spells row i) h.place i.name h.listed (taken_again (row i.name) i.numbers laid h.fits h.admitted)
    ∙ ap (λ ns. Some (record { name = i.name; numbers = ns })) (read_again (row i.name) i.numbers laid h.fits)

-- what is read spells the word
pub spells-reads : {Name : Type 0} (row : Name → Row) (names : List Name) → is_table row names ≡ true → (w : ℕ) → w < 2 ^ 32 → (i : Instruction Name) → reads row names w ≡ Some i → spells row i ≡ w
unfolding reads
spells-reads row [] ok w small i e = cc
spells-reads row (a ∷ names) ok w small i e =
    let parts = and_parts (is_laid_out (row a) && is_apart_from_all row (row a) names) (is_table row names) ok in
    elim (cases_Bool (takes (row a) w)) [
      | inl h ↦
          ap (spells row) (sym (same_Some _ i (sym (cond-true _ _ _ h) ∙ e)))
          ∙ spelled_by_its_numbers (row a) w (laid_out_at row (a ∷ names) ok zero a refl) small h
      | inr h ↦ spells-reads row names parts.1 w small i (sym (cond-false _ _ _ h) ∙ e)
    ]

-- two lists of rows, one after the other
pub reads-append : {Name : Type 0} (row : Name → Row) (xs ys : List Name) (w : ℕ) → reads row (xs ++ ys) w ≡ option_or (reads row xs w) (reads row ys w)
unfolding reads
reads-append row [] ys w = refl
reads-append row (x ∷ xs) ys w =
    elim (takes (row x) w) as (λ b. cond b (Some (record { name = x; numbers = numbers_in w (row x).fields })) (reads row (xs ++ ys) w) ≡ option_or (cond b (Some (record { name = x; numbers = numbers_in w (row x).fields })) (reads row xs w)) (reads row ys w)) [ true ↦ refl | false ↦ reads-append row xs ys w ]

pub ruleset tables = (reads-append)

-- ---- a decoder that is right by its table, where `seen` is what contracts see of its values
pub spelled_by : {X Name : Type 0} (row : Name → Row) (names : List Name) (view : X → Instruction Name) (w : ℕ) (r : Option X) → is_table row names ≡ true → w < 2 ^ 32 → option_map view r ≡ reads row names w → IfSome r (λ x. spells row (view x) ≡ w)
spelled_by row names view w None ok small e = tt
spelled_by row names view w (Some x) ok small e = spells-reads row names ok w small (view x) (sym e)

pub inverts_by : {X Name : Type 0} (row : Name → Row) (names : List Name) (view : X → Instruction Name) (w : ℕ) (r : Option X) → is_table row names ≡ true → option_map view r ≡ reads row names w → ((x : X) → IsInstruction row names (view x)) → (x : X) → w ≡ spells row (view x) → option_map view r ≡ Some (view x)
inverts_by row names view w r ok e valid x h = e ∙ ap (reads row names) h ∙ reads-spells row names ok (view x) (valid x)

-- a word that one table has is in no row of another that is apart
none_read : {Name : Type 0} (row : Name → Row) (w : ℕ) (a : Row) (names : List Name) → is_apart_from_all row a names ≡ true → takes a w ≡ true → reads row names w ≡ None
unfolding reads
none_read row w a [] apart in_a = refl
none_read row w a (n ∷ names) apart in_a =
    let parts = and_parts (are_apart a (row n)) (is_apart_from_all row a names) apart in
    cond-false _ _ _ (false_from_ne_true _ (λ in_n. not_in_both a (row n) w parts.0 in_a in_n)) ∙ none_read row w a names parts.1 in_a

pub not_in_two_tables : {Name Other : Type 0} (row : Name → Row) (names : List Name) (other : Other → Row) (others : List Other) → are_tables_apart row names other others ≡ true → (w : ℕ) (i : Instruction Name) → reads row names w ≡ Some i → reads other others w ≡ None
unfolding reads
not_in_two_tables row [] other others apart w i e = cc
not_in_two_tables row (n ∷ names) other others apart w i e =
    let parts = and_parts (is_apart_from_all other (row n) others) (are_tables_apart row names other others) apart in
    elim (cases_Bool (takes (row n) w)) [
      | inl h ↦ none_read other w (row n) others parts.0 h
      | inr h ↦ not_in_two_tables row names other others parts.1 w i (sym (cond-false _ _ _ h) ∙ e)
    ]

same_from_view : {X I : Type 0} (view : X → I) (r : Option X) (x : X) → ((x y : X) → view x ≡ view y → x ≡ y) → option_map view r ≡ Some (view x) → r ≡ Some x
same_from_view view None x same e = cc
same_from_view view (Some y) x same e = ap (λ z. Some z) (same y x (same_Some (view y) (view x) e))

-- the same where values that are seen alike are one
pub inverts_exactly : {X Name : Type 0} (row : Name → Row) (names : List Name) (view : X → Instruction Name) (w : ℕ) (r : Option X) → is_table row names ≡ true → option_map view r ≡ reads row names w → ((x : X) → IsInstruction row names (view x)) → ((x y : X) → view x ≡ view y → x ≡ y) → (x : X) → w ≡ spells row (view x) → r ≡ Some x
inverts_exactly row names view w r ok e valid same x h = same_from_view view r x same (inverts_by row names view w r ok e valid x h)

-- the numbers that a word has in its fields fit them
pub numbers_in-fit : (word : ℕ) (fields : List Field) → Fill fields (numbers_in word fields)
numbers_in-fit word [] = tt
numbers_in-fit word (f ∷ fields) = (mod-lt (word / 2 ^ f.low) (pow_pos f.width), numbers_in-fit word fields)
