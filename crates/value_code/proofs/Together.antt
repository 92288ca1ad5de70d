-- The address of an element at an offset from the loop variable, by what stands in the registers of its array and of the variable.
use Rattle.std.proofs.Common.{◌≡◌, ℕ, ◌*◌, List, Option, Some, None, true, sym, ap, ap₂, ◌∙◌, subst, arith}
use Rattle.std.specs.Prelude.{ℤ, pos, ◌+ℤ◌, ◌-ℤ◌, ◌*ℤ◌}
use Rattle.std.proofs.lemmas.Int.{ints}
use Rattle.std.proofs.lemmas.Bool.{eqb-true}
use Rattle.guest_types.specs.Memory.{Memory, loaded}
use Rattle.machine_model.specs.Machine.{State}
use Rattle.kernel_tree.specs.declared.ops.Ty.{Ty}
use Rattle.kernel_tree.specs.declared.ops.Ty.TheVariants as ty
use Rattle.kernel_tree.specs.Wrap.{byte_count}
use Rattle.kernel_meaning.specs.Operators.{word}
use Rattle.kernel_meaning.specs.Eval.{Names, value_at, iteration, address, read_element, read_value}
use Rattle.scalar_words.specs.Layout.{Form, LowBits, Ahead, Behind, Loose, loose_in, Homes, NameLasts}
use Rattle.scalar_words.proofs.LayoutStates.{AreInRegisters, Tells, Told}
use Rattle.scalar_words.proofs.Told.{told_found}
use Rattle.value_code.specs.Fits.{IndexAt}
use Rattle.value_code.specs.Covers.{index_form, stands_together}

-- so many elements ahead, and as many behind
both_moved : (t : Ty) (count : ℕ) (a i k : ℤ) → a +ℤ pos (byte_count t * count) +ℤ pos (byte_count t) *ℤ (i -ℤ pos count +ℤ k) ≡ a +ℤ pos (byte_count t) *ℤ (i +ℤ k)
both_moved ty.I8 count a i k = omega (arith, ints)
both_moved other count a i k = omega (arith, ints)

place_ahead : (t T : Ty) (count : ℕ) (z v y i k : ℤ) → byte_count t ≡ byte_count T → z ≡ v +ℤ pos (byte_count t * count) → y ≡ i -ℤ pos count → address T z (y +ℤ k) ≡ address T v (i +ℤ k)
place_ahead t T count z v y i k same e f = ap₂ (λ a x. address T a (x +ℤ k)) (e ∙ ap (λ n. v +ℤ pos (n * count)) same) f ∙ ap word (both_moved T count v i k)

together_by : (count : ℕ) (array index : Option Form) (T : Ty) (z v y i k : ℤ) → stands_together array index (Some T) ≡ true → Tells count array z v → Tells count index y i → address T z (y +ℤ k) ≡ address T v (i +ℤ k)
together_by count None None T z v y i k h p q = ap₂ (λ a x. address T a (x +ℤ k)) p q
together_by count None (Some f) T z v y i k h p q = absurd cc
together_by count (Some (LowBits t)) index T z v y i k h p q = absurd cc
together_by count (Some (Ahead t)) None T z v y i k h p q = absurd cc
together_by count (Some (Ahead t)) (Some (LowBits u)) T z v y i k h p q = absurd cc
together_by count (Some (Ahead t)) (Some (Ahead u)) T z v y i k h p q = absurd cc
together_by count (Some (Ahead t)) (Some Behind) T z v y i k h p q = place_ahead t T count z v y i k (eqb-true (byte_count t) (byte_count T) h) p q
together_by count (Some Behind) index T z v y i k h p q = absurd cc

-- the loop variable
index_tells : (ls : List Loose) (count : ℕ) (hs : Homes) (i : Option (List ℕ)) (stand names : Names) (p q : ℕ) (st : State) → AreInRegisters hs stand p st → IndexAt hs i q → Told ls count stand names → Tells count (index_form ls i) (iteration i stand) (iteration i names)
index_tells ls count hs None stand names p q st held at told = absurd at
index_tells ls count hs (Some x) stand names p q st held at told = told_found ls count hs stand names x p q st held at.1 told

pub together_address : (ls : List Loose) (count : ℕ) (hs : Homes) (i : Option (List ℕ)) (a : List ℕ) (T : Ty) (stand names : Names) (k : ℤ) (p q r : ℕ) (st : State) → stands_together (loose_in ls a) (index_form ls i) (Some T) ≡ true → NameLasts hs a q → IndexAt hs i r → AreInRegisters hs stand p st → Told ls count stand names
    → address T (value_at stand a) (iteration i stand +ℤ k) ≡ address T (value_at names a) (iteration i names +ℤ k)
together_address ls count hs i a T stand names k p q r st h lasts at held told =
    together_by count (loose_in ls a) (index_form ls i) T (value_at stand a) (value_at names a) (iteration i stand) (iteration i names) k h (told_found ls count hs stand names a p q st held lasts told) (index_tells ls count hs i stand names p r st held at told)

-- a read of the element
pub together_read : (ls : List Loose) (count : ℕ) (hs : Homes) (i : Option (List ℕ)) (a : List ℕ) (want : Option Ty) (T : Ty) (m : Memory) (stand names : Names) (k : ℤ) (p q r : ℕ) (st : State) → want ≡ Some T → stands_together (loose_in ls a) (index_form ls i) want ≡ true → NameLasts hs a q → IndexAt hs i r → AreInRegisters hs stand p st → Told ls count stand names
    → read_element want m (value_at stand a) (iteration i stand +ℤ k) ≡ read_element want m (value_at names a) (iteration i names +ℤ k)
together_read ls count hs i a want T m stand names k p q r st type h lasts at held told =
    let same = together_address ls count hs i a T stand names k p q r st (subst (λ t. stands_together (loose_in ls a) (index_form ls i) t ≡ true) type h) lasts at held told in
    ap (λ t. read_element t m (value_at stand a) (iteration i stand +ℤ k)) type ∙ ap (λ n. read_value T (loaded m n (byte_count T))) same ∙ sym (ap (λ t. read_element t m (value_at names a) (iteration i names +ℤ k)) type)
