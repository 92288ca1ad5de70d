-- What the shape of a state gives: past the vector length every element is zero, so that a sentence of all lanes is the same as
-- that of the lanes in use; and the numbers of fields are in range.
use Rattle.std.proofs.Common.{◌≡◌, ℕ, zero, suc, ◌+◌, ◌*◌, ◌/◌, ◌%◌, ◌^◌, ◌<◌, ◌≤◌, Bool, true, false, not, cond, List, [], ◌∷◌, Option, Some, None, inl, inr, refl, sym, ap, ◌∙◌, subst, arith, lit<}
use Rattle.std.specs.Prelude.{slice_index, nat_eq, nat_lt, is_none, IfSome, ◌&&◌, if◌then◌else◌}
use Rattle.std.proofs.lemmas.Bool.{and_parts, and_left, and_right, cases_lt, cond-false, le-ltb, eqb-true, ne_eqb}
use Rattle.std.proofs.Math.Nat.{one-le-pow}
use Rattle.guest_types.specs.declared.length.Width.TheVariants.{B}
use Rattle.guest_types.specs.Length.{IsLength, lanes, width_bytes}
use Rattle.guest_types.specs.declared.operation.PredOp.{PredOp}
use Rattle.guest_types.specs.Elements.{predicate, element_bit, bit, both, first_true, last_true, true_at, pred_test}
use Rattle.guest_types.specs.Lanes.{pred_bit, logic_at, logic_of, broken, brk_at, brk_of}
use Rattle.guest_types.proofs.Predicates.{element_bit-bytes}
use Rattle.guest_types.proofs.AtWidths.{bits_of-ext}
use Rattle.guest_types.specs.declared.length.Width.{Width}
use Rattle.word_rows.specs.Field.{Field}
use Rattle.word_rows.specs.Row.{Instruction, IsInstruction, Fill}
use Rattle.sve_code.specs.Table.{Name, row, sve_names, pn}
use Rattle.machine_model.specs.Machine.{State, Went, x_at, x_or_sp}
use Rattle.machine_model.specs.VectorEffects.{same_field, place_in, field_of, do_vector}
use Rattle.machine_model.specs.States.{IsPredicate, IsState}
use Rattle.machine_model.proofs.StateSteps.{all_past, went_keeps}
use Rattle.machine_model.specs.Arithmetic.{shifted_word}

-- bits that are false past the vector length
bits_past : (vl : ℕ) (f : ℕ → Bool) (j : ℕ) → IsLength vl → ((i : ℕ) → vl / 8 ≤ i → f i ≡ false) → j < 256 → element_bit 1 f 256 j ≡ element_bit 1 f (lanes vl B) j
bits_past vl f j h none lt =
    element_bit-bytes f 256 j lt
    ∙ elim (cases_lt j (vl / 8)) [
      | inl inside ↦ sym (element_bit-bytes f (vl / 8) j inside)
      | inr past ↦
          none j past
          ∙ sym (and_left (nat_eq (j % 1) 0 && nat_lt j (1 * (vl / 8))) (f (j / 1)) (and_right (nat_eq (j % 1) 0) (nat_lt j (1 * (vl / 8))) (le-ltb j (1 * (vl / 8)) (omega (arith, past)))))
    ]

bits_whole : (vl : ℕ) (f : ℕ → Bool) → IsLength vl → ((j : ℕ) → vl / 8 ≤ j → f j ≡ false) → predicate 1 f 256 ≡ predicate 1 f (lanes vl B)
bits_whole vl f h none = bits_of-ext (element_bit 1 f 256) (element_bit 1 f (lanes vl B)) 32 (λ j lt. bits_past vl f j h none lt)

pub logic_whole : (vl : ℕ) (op : PredOp) (pg l r : List ℕ) → IsLength vl → IsPredicate vl pg → logic_of op pg l r ≡ predicate 1 (logic_at op pg l r) (lanes vl B)
logic_whole vl op pg l r h hp = bits_whole vl (logic_at op pg l r) h (λ j past. ap (λ b. b && pred_bit op (bit l j) (bit r j)) (all_past pg hp j past))

pub brk_whole : (vl : ℕ) (after : Bool) (pg p : List ℕ) → IsLength vl → IsPredicate vl pg → brk_of after pg p ≡ predicate 1 (brk_at after pg p) (lanes vl B)
brk_whole vl after pg p h hp = bits_whole vl (brk_at after pg p) h (λ j past. ap (λ b. b && not (broken pg p (cond after j (j + 1)))) (all_past pg hp j past))

-- ---- tests of predicates

first-ext : (f g : ℕ → Bool) (left e n : ℕ) → e + left ≡ n → ((i : ℕ) → i < n → f i ≡ g i) → first_true f left e ≡ first_true g left e
first-ext f g zero e n is same = refl
first-ext f g (suc left) e n is same =
    ap (λ b. if b then Some e else first_true f left (e + 1)) (same e (omega (arith, is)))
    ∙ ap (λ o. if g e then Some e else o) (first-ext f g left (e + 1) n (omega (arith, is)) same)

last-ext : (f g : ℕ → Bool) (n : ℕ) → ((i : ℕ) → i < n → f i ≡ g i) → last_true f n ≡ last_true g n
last-ext f g zero same = refl
last-ext f g (suc n) same =
    ap (λ b. if b then Some n else last_true f n) (same n (omega arith))
    ∙ ap (λ o. if g n then Some n else o) (last-ext f g n (λ i lt. same i (omega (arith, lt))))

chosen-below : (b : Bool) (e n : ℕ) (rest : Option ℕ) → e < n → IfSome rest (λ i. i < n) → IfSome (if b then Some e else rest) (λ i. i < n)
chosen-below true e n rest lt h = lt
chosen-below false e n rest lt h = h

wider : (o : Option ℕ) (n : ℕ) → IfSome o (λ i. i < n) → IfSome o (λ i. i < suc n)
wider None n h = tt
wider (Some i) n h = omega (arith, h)

first-below : (f : ℕ → Bool) (left e n : ℕ) → e + left ≡ n → IfSome (first_true f left e) (λ i. i < n)
first-below f zero e n is = tt
first-below f (suc left) e n is = chosen-below (f e) e n (first_true f left (e + 1)) (omega (arith, is)) (first-below f left (e + 1) n (omega (arith, is)))

last-below : (f : ℕ → Bool) (n : ℕ) → IfSome (last_true f n) (λ i. i < n)
last-below f zero = tt
last-below f (suc n) = chosen-below (f n) n (suc n) (last_true f n) (omega arith) (wider (last_true f n) n (last-below f n))

true-ext : (t u : ℕ → Bool) (n : ℕ) (o : Option ℕ) → IfSome o (λ i. i < n) → ((i : ℕ) → i < n → t i ≡ u i) → true_at t o ≡ true_at u o
true-ext t u n None h same = refl
true-ext t u n (Some i) h same = same i h

-- a test depends on the elements below n alone
pub pred_test-ext : (m k t u : ℕ → Bool) (n : ℕ) → ((e : ℕ) → e < n → m e ≡ k e) → ((e : ℕ) → e < n → t e ≡ u e) → pred_test m t n ≡ pred_test k u n
pred_test-ext m k t u n masks truths =
    let first = true-ext t u n (first_true m n 0) (first-below m n 0 n (omega arith)) truths ∙ ap (true_at u) (first-ext m k n 0 n (omega arith) masks) in
    let none = ap is_none (first-ext (both m t) (both k u) n 0 n (omega arith) (λ e lt. ap (λ b. b && t e) (masks e lt) ∙ ap (λ b. k e && b) (truths e lt))) in
    let last = true-ext t u n (last_true m n) (last-below m n) truths ∙ ap (true_at u) (last-ext m k n masks) in
    ap (λ a. record { n = a; z = is_none (first_true (both m t) n 0); c = not (true_at t (last_true m n)); v = false }) first
    ∙ ap (λ b. record { n = true_at u (first_true k n 0); z = b; c = not (true_at t (last_true m n)); v = false }) none
    ∙ ap (λ b. record { n = true_at u (first_true k n 0); z = is_none (first_true (both k u) n 0); c = not b; v = false }) last

-- ---- the numbers of fields

some_value : (width : ℕ) → 0 < 2 ^ width
some_value width = one-le-pow width 2 (lit< tt)

field_number_below : (b : Bool) (first field : Field) (fields : List Field) (n : ℕ) (ns : List ℕ) → same_field first field ≡ b → n < 2 ^ first.width → slice_index ns (place_in fields field) < 2 ^ field.width → slice_index (n ∷ ns) (if b then 0 else suc (place_in fields field)) < 2 ^ field.width
field_number_below true first field fields n ns is lt rest = let e = eqb-true first.width field.width (and_parts _ _ is).1 in subst (λ w. n < 2 ^ w) e lt
field_number_below false first field fields n ns is lt rest = rest

pub field_below : (fields : List Field) (ns : List ℕ) (field : Field) → Fill fields ns → slice_index ns (place_in fields field) < 2 ^ field.width
field_below [] [] field fill = some_value field.width
field_below [] (n ∷ ns) field fill = absurd fill
field_below (first ∷ fields) [] field fill = absurd fill
field_below (first ∷ fields) (n ∷ ns) field fill = field_number_below (same_field first field) first field fields n ns refl fill.0 (field_below fields ns field fill.1)

-- a listed SVE instruction that goes on keeps the shape of the state
pub vector_keeps : (i : Instruction Name) (s t : State) → IsInstruction row sve_names i → IsState s → do_vector i s ≡ Went t → IsState t
vector_keeps i s t listed h e = went_keeps i.name (field_of i.name i.numbers) s t (field_below (row i.name).fields i.numbers pn listed.fits) h e

-- ---- a register that is not the stack pointer, a word that is not shifted, and one element of any width

pub x_or_sp-below : (s : State) (n : ℕ) → n < 31 → x_or_sp s n ≡ x_at s n
x_or_sp-below s n lt = cond-false _ _ _ (ne_eqb n 31 (λ e. omega arith))

pub x_or_sp-low : (s : State) (p : ℕ) → p ≤ 25 → x_or_sp s p ≡ x_at s p
x_or_sp-low s p le = x_or_sp-below s p (omega arith)

pub shifted_word-zero : (v : ℕ) → v < 2 ^ 64 → shifted_word 0 v 0 ≡ v
shifted_word-zero v h = omega (arith, h)

pub one_element-fits : (vl : ℕ) (w : Width) → IsLength vl → width_bytes w * 1 ≤ vl / 8
one_element-fits vl B h = omega arith
one_element-fits vl other h = omega arith
