-- Reads at addresses that registers hold.
use Rattle.std.proofs.Common.{◌≡◌, ℕ, ◌+◌, ◌≤◌, Bool, true, false, List, Option, Some, None, refl, sym, ap, ◌∙◌, subst, arith}
use Rattle.std.specs.Prelude.{ℤ, pos, ◌+ℤ◌, ◌*ℤ◌, unsigned_abs, nat_lt, slice_index, option_and_then, unwrap_or, if◌then◌else◌}
use Rattle.std.proofs.lemmas.Int.{ints}
use Rattle.std.proofs.Math.Nat.{mod-eq_of_lt}
use Rattle.guest_types.specs.Memory.{Memory, loaded}
use Rattle.machine_model.specs.Machine.{State, x_at}
use Rattle.machine_model.specs.Arithmetic.{sum}
use Rattle.kernel_tree.specs.declared.ops.Ty.{Ty}
use Rattle.kernel_tree.specs.declared.ops.Ty.TheVariants as ty
use Rattle.kernel_tree.specs.Typing.{Local}
use Rattle.kernel_tree.specs.Wrap.{byte_count}
use Rattle.kernel_meaning.specs.Operators.{word}
use Rattle.kernel_meaning.specs.Eval.{Names, value_at, iteration, address, element_number, read_element, read_value}
use Rattle.kernel_meaning.proofs.Residues.{word-below}
use Rattle.label_fix.specs.DraftRun.{DraftEntry, Laid}
use Rattle.label_fix.proofs.StretchSteps.{Resolves}
use Rattle.value_code.specs.Fits.{IndexAt, FitsIndex}
use Rattle.value_code.specs.HeldNumbers.{element_words}
use Rattle.scalar_words.specs.Layout.{OfAddress, Loose, loose_in, Layout, Homes, reg_of, constant_at, register_at, IsMade, NameLasts}
use Rattle.scalar_words.proofs.LayoutStates.{Assigned, AreInRegisters, Fixed, Told, name_held}
use Rattle.scalar_words.proofs.Told.{Standing}
use Rattle.value_code.specs.Covers.{index_form, stands_together, index_covers}
pub use Rattle.value_code.proofs.WholeNames.{name_less, index_is}
pub use Rattle.value_code.proofs.Together.{together_address}
use Rattle.value_code.specs.ItemWords.{load_code}
use Rattle.value_code.specs.Code.{key_at, place_of, placed_index, right_code}
use Rattle.value_code.proofs.Loads.{Gives, word-sum, load_runs}

pub some_words : (o : Option ℤ) (n : ℕ) → 1 ≤ element_words o n
some_words (Some c) n = omega arith
some_words None n = omega arith

place_of_moved_index : (t : Ty) (base c x : ℤ) → base +ℤ pos (byte_count t) *ℤ c +ℤ pos (byte_count t) *ℤ x ≡ base +ℤ pos (byte_count t) *ℤ (x +ℤ c)
place_of_moved_index ty.I8 base c x = omega (arith, ints)
place_of_moved_index other base c x = omega (arith, ints)

-- an element at an offset is one of an array that begins so many bytes further on
pub address_moved : (t : Ty) (base c x : ℤ) → address t (base +ℤ pos (byte_count t) *ℤ c) x ≡ address t base (x +ℤ c)
address_moved t base c x = ap word (place_of_moved_index t base c x)

-- what an offset that has a place is
record IsPlace (L : Layout) (q : ℕ) (T : Ty) (o : Option ℤ) (r : ℕ) : Type 0 where
  c : ℤ
  offset : o ≡ Some c
  held : constant_at L (OfAddress q (pos (byte_count T) *ℤ c)) ≡ Some r

near_place : (L : Layout) (q : ℕ) (T : Ty) (c : ℤ) (r : ℕ) (b : Bool) → option_and_then (constant_at L) (key_at q (Some T) (if b then Some c else None)) ≡ Some r → IsPlace L q T (Some c) r
near_place L q T c r true e = record { c = c; offset = refl; held = e }
near_place L q T c r false e = absurd cc

is_place : (L : Layout) (q : ℕ) (T : Ty) (o : Option ℤ) (r : ℕ) → place_of L q (Some T) o ≡ Some r → IsPlace L q T o r
is_place L q T None r e = absurd cc
is_place L q T (Some c) r e = near_place L q T c r (nat_lt (unsigned_abs c) 512) e

-- a register with a place has an address, by what stands in the register of the array
pub record AtPlace (stand : Names) (a : List ℕ) (T : Ty) (o : Option ℤ) (s : State) (r : ℕ) : Type 0 where
  pub c : ℤ
  pub offset : o ≡ Some c
  pub low : r ≤ 25
  pub value : x_at s r ≡ word (value_at stand a +ℤ pos (byte_count T) *ℤ c)

pub place_at : {L : Layout} {w : Fixed L} {hs : Homes} {ls : List Local} {stand names : Names} {m : Memory} {p : ℕ} {s : State} (fit : Assigned L) (a : List ℕ) (T : Ty) (o : Option ℤ) (r : ℕ) → place_of L (register_at hs a) (Some T) o ≡ Some r → NameLasts hs a p → Standing w hs ls stand names m p s → AtPlace stand a T o s r
place_at {L = L} {w = w} {hs = hs} {stand = stand} {p = p} {s = s} fit a T o r e lasts at =
    let q = register_at hs a in
    let k = is_place L q T o r e in
    let by = pos (byte_count T) *ℤ k.c in
    let low = fit.constants (OfAddress q by) r k.held in
    let base : slice_index w.args q ≡ word (value_at stand a) = sym (at.args q low.1) ∙ name_held hs stand a p s at.sized at.held lasts in
    let same : word (pos (slice_index w.args q)) ≡ word (value_at stand a) = ap (λ n. word (pos n)) base ∙ mod-eq_of_lt (word-below (value_at stand a)) in
    record {
      c = k.c;
      offset = k.offset;
      low = (let l = low.0 in omega (arith, l));
      value = at.args r low.0 ∙ w.loaded (OfAddress q by) r k.held ∙ word-sum (pos (slice_index w.args q)) by ∙ ap (λ n. sum n (word by)) same ∙ sym (word-sum (value_at stand a) by);
    }

-- the address of an element with a place, by what that register and the loop variable's hold
pub placed_address : (ls : List Loose) (count : ℕ) (hs : Homes) (i : Option (List ℕ)) (a : List ℕ) (T : Ty) (stand names : Names) (c d : ℤ) (p q r : ℕ) (st : State) → Some c ≡ Some d → stands_together (loose_in ls a) (index_form ls i) (Some T) ≡ true → NameLasts hs a q → IndexAt hs i r → AreInRegisters hs stand p st → Told ls count stand names
    → address T (value_at stand a +ℤ pos (byte_count T) *ℤ d) (iteration i stand) ≡ address T (value_at names a) (iteration i names +ℤ c)
placed_address ls count hs i a T stand names c d p q r st e h lasts at held told =
    let same : d ≡ c = cc in
    address_moved T (value_at stand a) d (iteration i stand) ∙ ap (λ k. address T (value_at stand a) (iteration i stand +ℤ k)) same ∙ together_address ls count hs i a T stand names c p q r st h lasts at held told

module _ (D : Laid) (L : Layout) (fit : Assigned L) where
  -- a read, by whether a register has its place
  pub element_with : {st : State} {rest : List DraftEntry} {b e r q x : ℕ} {m : Memory} {most : ℕ} {o : Option ℤ} (place : Option ℕ) (inner : List DraftEntry → List DraftEntry) (load : ℕ → ℕ → List DraftEntry) → Resolves D (right_code place inner (load (unwrap_or place q) (placed_index place x)))
      → (Resolves D (inner (load q x)) → Gives D L (inner (load q x)) st rest b e r m most o) → ((p : ℕ) → place ≡ Some p → Gives D L (load p 9) st rest b e r m most o)
      → Gives D L (right_code place inner (load (unwrap_or place q) (placed_index place x))) st rest b e r m most o
  element_with None inner load res f g = f res
  element_with (Some p) inner load res f g = g p refl

  pub placed_runs : {w : Fixed L} {hs : Homes} {ls : List Local} {stand names : Names} {m : Memory} {st : State} {rest : List DraftEntry} (i : Option (List ℕ)) (a : List ℕ) (T : Ty) (ot : Option Ty) (o computed : Option ℤ) (covered : Bool) (A : Type 0) (r p b : ℕ) → index_covers L.loose i (loose_in L.loose a) ot o covered ≡ true → ot ≡ Some T → place_of L (register_at hs a) ot o ≡ Some r → NameLasts hs a b → FitsIndex o (IndexAt hs i p) A → b ≤ p → IsMade L p → Standing w hs ls stand names m b st
      → Gives D L (load_code ot (reg_of L p) r 9 rest) st rest b (p + 1) (reg_of L p) m 1 (option_and_then (read_element ot m (value_at names a)) (element_number o (iteration i names) computed))
  placed_runs i a T None None computed covered A r p b h type e lasts fits le made at = absurd cc
  placed_runs i a T (Some t) None computed covered A r p b h type e lasts fits le made at = absurd cc
  placed_runs {w = w} {hs = hs} {stand = stand} {names = names} {m = m} {st = st} {rest = rest} i a T ot (Some c) computed covered A r p b h type e lasts fits le made at =
      let k = place_at fit a T (Some c) r (subst (λ t. place_of L (register_at hs a) t (Some c) ≡ Some r) type e) lasts at in
      let load = load_runs D L fit {rest = rest} T (value_at stand a +ℤ pos (byte_count T) *ℤ k.c) (iteration i stand) r 9 p b (p + 1) at.sized le (omega arith) made at.good at.memory k.low k.value (index_is hs i stand p b st le fits.1 at.sized at.held) in
      let there = placed_address L.loose w.count hs i a T stand names c k.c b b p st k.offset (subst (λ t. stands_together (loose_in L.loose a) (index_form L.loose i) t ≡ true) type h) lasts fits.1 at.held at.told in
      let typed = subst (λ n. Gives D L (load_code (Some T) (reg_of L p) r 9 rest) st rest b (p + 1) (reg_of L p) m 1 (read_value T (loaded m n (byte_count T)))) there load in
      subst (λ t. Gives D L (load_code t (reg_of L p) r 9 rest) st rest b (p + 1) (reg_of L p) m 1 (read_element t m (value_at names a) (iteration i names +ℤ c))) (sym type) typed
