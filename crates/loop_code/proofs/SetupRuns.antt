-- What the words do that load what a loop holds.
use Rattle.std.proofs.Common.{◌≡◌, ◌≢◌, ℕ, ◌+◌, ◌<◌, ◌≤◌, Bool, true, false, cond, List, [], ◌∷◌, length, Option, Some, refl, sym, ap, ◌∙◌, arith, ⊎_elim}
use Rattle.std.specs.Prelude.{ℤ, pos, ◌+ℤ◌, option_map, nat_lt}
use Rattle.std.specs.List.{find}
use Rattle.machine_model.specs.Machine.{State, x_at}
use Rattle.machine_model.specs.Arithmetic.{sum}
use Rattle.machine_model.specs.InstructionTable.{Listed}
use Rattle.kernel_meaning.specs.Operators.{word}
use Rattle.kernel_meaning.specs.Eval.{Names}
use Rattle.kernel_meaning.proofs.Residues.{word-below}
use Rattle.label_fix.specs.DraftRun.{DraftEntry, Put, Laid}
use Rattle.label_fix.specs.Finished.{size}
use Rattle.label_fix.proofs.StretchSteps.{Goes, Resolves, stay, chain, put_goes}
use Rattle.scalar_words.specs.Layout.{Key, OfNumber, OfAddress, Constant, Layout, Homes, is_constant, constant_register, constant_in}
use Rattle.scalar_words.proofs.LayoutStates.{Assigned, key_word, AreInRegisters, wrote, wrote_same, wrote_other, wrote_sized}
use Rattle.scalar_words.proofs.Constants.{const_back, const_fills}
use Rattle.scalar_words.proofs.Pieces.{const_put}
use Rattle.scalar_words.proofs.WordCounts.{le_of_le_of_le, const_words}
use Rattle.value_code.specs.ItemWords.{add_word}
use Rattle.value_code.specs.HeldNumbers.{IsReached, AreNext, key_words, loading_words}
use Rattle.value_code.proofs.Loads.{word-sum}
use Rattle.value_code.proofs.Numbers.{addend_is}
use Rattle.value_code.proofs.Operators.{number_goes}
use Rattle.value_code.proofs.HoldTerms.{key_is}
use Rattle.loop_code.specs.Loop.{key_code, numbers_code, AreClear}

-- ---- the code

key_back : (D : Laid) (z : Key) (d : ℕ) (rest : List DraftEntry) → Resolves D (key_code z d rest) → Resolves D rest
key_back D (OfNumber z) d rest h = const_back D d (word z) rest h
key_back D (OfAddress q c) d rest h = h

pub numbers_back : (D : Laid) (cs : List Constant) (rest : List DraftEntry) → Resolves D (numbers_code cs rest) → Resolves D rest
numbers_back D [] rest h = h
numbers_back D (c ∷ cs) rest h = numbers_back D cs rest (key_back D c.key c.register (numbers_code cs rest) h)

key_size : (z : Key) (d : ℕ) (rest : List DraftEntry) (k : ℕ) → size rest ≤ k → size (key_code z d rest) ≤ key_words z + k
key_size (OfNumber z) d rest k h = const_words d (word z) rest k h
key_size (OfAddress q c) d rest k h = omega (arith, h)

pub numbers_words : (cs : List Constant) (rest : List DraftEntry) (k : ℕ) → size rest ≤ k → size (numbers_code cs rest) ≤ loading_words cs + k
numbers_words [] rest k h = omega (arith, h)
numbers_words (c ∷ cs) rest k h = le_of_le_of_le (omega arith) (key_size c.key c.register (numbers_code cs rest) (loading_words cs + k) (numbers_words cs rest k h))

key_put : (P : List DraftEntry → Type 0) → ((i : Listed) (rest : List DraftEntry) → P rest → P (Put i ∷ rest)) → (z : Key) (d : ℕ) (rest : List DraftEntry) → P rest → P (key_code z d rest)
key_put P put (OfNumber z) d rest h = const_put P put d (word z) rest h
key_put P put (OfAddress q c) d rest h = put _ _ h

pub numbers_put : (P : List DraftEntry → Type 0) → ((i : Listed) (rest : List DraftEntry) → P rest → P (Put i ∷ rest)) → (cs : List Constant) (rest : List DraftEntry) → P rest → P (numbers_code cs rest)
numbers_put P put [] rest h = h
numbers_put P put (c ∷ cs) rest h = key_put P put c.key c.register (numbers_code cs rest) (numbers_put P put cs rest h)

-- ---- what it does

-- one register has what it holds
record KeyLoads (D : Laid) (c : List DraftEntry) (s : State) (rest : List DraftEntry) (z : Key) (d : ℕ) : Type 0 where
  end : State
  goes : Goes D c s rest end (key_words z)
  value : x_at end d ≡ key_word s.x z
  others : (r : ℕ) → r ≢ d → x_at end r ≡ x_at s r
  sized : length end.x ≡ length s.x
  memory : end.memory ≡ s.memory

address_sum : (n : ℕ) (c : ℤ) → sum n (word c) ≡ word (pos n +ℤ c)
address_sum n c = (let w = word-sum (pos n) c in omega (arith, w))

key_loads : (D : Laid) (L : Layout) (fit : Assigned L) (p : ℕ) (z : Key) (d : ℕ) (s : State) (rest : List DraftEntry) → p ≤ 9 → d ≤ 25 → length s.x ≡ 31 → IsReached p z → KeyLoads D (key_code z d rest) s rest z d
key_loads D L fit p (OfNumber z) d s rest few hi sized is =
    let f = const_fills D d (omega (arith, hi)) (word z) s rest sized (word-below z) in
    record { end = f.end; goes = f.goes; value = f.value; others = f.others; sized = f.sized; memory = f.memory }
key_loads D L fit p (OfAddress q c) d s rest few hi sized is =
    let low : q ≤ 25 = (let l = is.0 in omega (arith, l, few)) in
    let put = (addend_is (word c) (word c) (nat_lt (word c) 4096) (nat_lt 18446744073709547520 (word c)) refl refl is.1).1 in
    let n = sum (x_at s q) (word c) in
    record {
      end = wrote s d n;
      goes = put_goes {i = add_word (word c) d q} (number_goes D L fit (word c) q d s (nat_lt (word c) 4096) refl (word-below c) put low hi);
      value = wrote_same s d n (omega (arith, sized, hi)) ∙ address_sum (x_at s q) c;
      others = λ r ne. wrote_other s d n r ne;
      sized = wrote_sized s d n;
      memory = refl;
    }

key_same : (p : ℕ) (z : Key) (s t : State) → IsReached p z → ((r : ℕ) → r < p → x_at t r ≡ x_at s r) → key_word t.x z ≡ key_word s.x z
key_same p (OfNumber z) s t is low = refl
key_same p (OfAddress q c) s t is low = ap (λ n. word (pos n +ℤ c)) (low q is.0)

-- all of it is loaded, and registers below and above are as they were
pub record Loads (D : Laid) (c : List DraftEntry) (s : State) (rest : List DraftEntry) (p n : ℕ) (cs : List Constant) : Type 0 where
  pub end : State
  pub goes : Goes D c s rest end (loading_words cs)
  pub memory : end.memory ≡ s.memory
  pub sized : length end.x ≡ length s.x
  pub low : (r : ℕ) → r < p → x_at end r ≡ x_at s r
  pub high : (r : ℕ) → 8 < r + n → x_at end r ≡ x_at s r
  pub loaded : (z : Key) (r : ℕ) → constant_in cs z ≡ Some r → x_at end r ≡ key_word end.x z

loaded_step : (b : Bool) (c : Constant) (o : Option Constant) (z : Key) (r : ℕ) (s : State) → is_constant z c ≡ b → x_at s c.register ≡ key_word s.x c.key → (option_map constant_register o ≡ Some r → x_at s r ≡ key_word s.x z) → option_map constant_register (cond b (Some c) o) ≡ Some r → x_at s r ≡ key_word s.x z
loaded_step true c o z r s e is more h = let same : c.register ≡ r = cc in ap (x_at s) (sym same) ∙ is ∙ ap (key_word s.x) (key_is c.key z e)
loaded_step false c o z r s e is more h = more h

pub numbers_load : (D : Laid) (L : Layout) (fit : Assigned L) (p n : ℕ) (cs : List Constant) (s : State) (rest : List DraftEntry) → length s.x ≡ 31 → AreNext p n cs → Loads D (numbers_code cs rest) s rest p n cs
numbers_load D L fit p n [] s rest sized next = record { end = s; goes = stay 0; memory = refl; sized = refl; low = λ r h. refl; high = λ r h. refl; loaded = λ z r e. absurd cc }
numbers_load D L fit p n (c ∷ cs) s rest sized next =
    let here = next.0 in
    let above = next.1 in
    let f = key_loads D L fit p c.key c.register s (numbers_code cs rest) (omega (arith, here, above)) (omega (arith, here)) sized next.2 in
    let k = numbers_load D L fit p (n + 1) cs f.end rest (f.sized ∙ sized) next.3 in
    let low : (r : ℕ) → r < p → x_at k.end r ≡ x_at s r = λ r h. k.low r h ∙ f.others r (λ e. absurd (omega (arith, above, e, h))) in
    record {
      end = k.end;
      goes = chain (loading_words (c ∷ cs)) (omega arith) f.goes k.goes;
      memory = k.memory ∙ f.memory;
      sized = k.sized ∙ f.sized;
      low = low;
      high = λ r h. k.high r (omega (arith, h)) ∙ f.others r (λ e. absurd (omega (arith, here, e, h)));
      loaded = λ z r e. loaded_step (is_constant z c) c (find (is_constant z) cs) z r k.end refl (k.high c.register (omega (arith, here)) ∙ f.value ∙ sym (key_same p c.key s k.end next.2 low)) (k.loaded z r) e;
    }

held_clear : (p : ℕ) (hs : Homes) (ns : Names) (q : ℕ) (s t : State) → AreClear p hs → ((r : ℕ) → r < p → x_at t r ≡ x_at s r) → ((r : ℕ) → 8 < r + 0 → x_at t r ≡ x_at s r) → AreInRegisters hs ns q s → AreInRegisters hs ns q t
held_clear p [] [] q s t clear low high h = tt
held_clear p [] (n ∷ ns) q s t clear low high h = absurd h
held_clear p (x ∷ hs) [] q s t clear low high h = absurd h
held_clear p (x ∷ hs) (n ∷ ns) q s t clear low high h =
    (h.0, (λ l. ⊎_elim (λ (a : x.register < p). low x.register a) (λ (a : 9 ≤ x.register). high x.register (omega (arith, a))) clear.0 ∙ h.1 l), held_clear p hs ns q s t clear.1 low high h.2)

-- names after them
pub held_loaded : {D : Laid} {c rest : List DraftEntry} {p : ℕ} {s : State} (hs : Homes) (q : ℕ) (ns : Names) (cs : List Constant) (k : Loads D c s rest p 0 cs) → AreClear p hs → AreInRegisters hs ns q s → AreInRegisters hs ns q k.end
held_loaded {p = p} {s = s} hs q ns cs k clear h = held_clear p hs ns q s k.end clear k.low k.high h
