-- The code of a load.
use Rattle.std.proofs.Common.{◌≡◌, ℕ, ◌*◌, ◌%◌, ◌^◌, ◌<◌, ◌≤◌, Bool, true, false, refl, ap, ◌∙◌, arith, ltb, zero, suc, List, [], ◌∷◌, length, Option, Some, None, Result, Ok, Err, sym, ap₂}
use Rattle.std.specs.Prelude.{ℤ, pos, negsuc, ◌+ℤ◌, ◌*ℤ◌}
use Rattle.std.proofs.lemmas.Bool.{ltb-false, ltb-true}
use Rattle.std.proofs.Math.Nat.{mod-eq_of_lt}
use Rattle.kernel_tree.specs.declared.ops.Ty.{Ty}
use Rattle.kernel_tree.specs.Wrap.{wrap, byte_count}
use Rattle.kernel_meaning.specs.Operators.{word}
use Rattle.kernel_meaning.specs.Eval.{address, read_value}
use Rattle.kernel_meaning.proofs.Residues.{word-below, word-add, word-mul}
use Rattle.machine_model.specs.Arithmetic.{sum, difference, shifted_word}
use Rattle.machine_model.specs.Effects.{from_byte, from_half, from_word, load_to, write}
use Rattle.a64_code.specs.Table.{add_imm, sub_imm}
use Rattle.guest_types.specs.declared.memory.AccessFault.{AccessFault}
use Rattle.guest_types.specs.Memory.{Memory, IsMemory, loaded}
use Rattle.guest_types.proofs.Stores.{loaded-below}
use Rattle.machine_model.specs.declared.outcome.StopKind.TheVariants.{Read}
use Rattle.machine_model.specs.InstructionTable.{Listed}
use Rattle.machine_model.specs.Machine.{State, Step, Went, Stopped, x_at, x_or_sp}
use Rattle.machine_model.proofs.StateLaws.{x_or_sp-low}
use Rattle.label_fix.specs.DraftRun.{DraftEntry, Put, Laid, effect, word_of}
use Rattle.label_fix.proofs.StretchSteps.{Stops, stay, put_goes, put_stops}
use Rattle.scalar_words.specs.Layout.{Layout, reg_of, IsMade}
use Rattle.value_code.specs.Fits.{IsSmall}
use Rattle.value_code.specs.ItemWords.{index_word, index_register, load}
use Rattle.scalar_words.specs.Words.{word_code}
use Rattle.scalar_words.proofs.Words.{signed_64}
use Rattle.scalar_words.proofs.LayoutStates.{wrote, wrote_same, Assigned, kept_none, kept_scratch, kept_item}
use Rattle.scalar_words.proofs.WordsRuns.{Gets}
use Rattle.kernel_tree.specs.declared.ops.Ty.TheVariants as ty

-- ---- loads

loaded_8 : (b : Bool) (n : ℕ) → ltb n (2 ^ 7) ≡ b → n < 2 ^ 8 → from_byte n ≡ word (wrap ty.I8 (pos n))
loaded_8 true n e h = let q : n % 2 ^ 8 ≡ n = mod-eq_of_lt h in rw (q, e) (omega (arith, ltb-true n (2 ^ 7) e))
loaded_8 false n e h = let q : n % 2 ^ 8 ≡ n = mod-eq_of_lt h in rw (q, e) (omega (arith, ltb-false n (2 ^ 7) e, h))

loaded_16 : (b : Bool) (n : ℕ) → ltb n (2 ^ 15) ≡ b → n < 2 ^ 16 → from_half n ≡ word (wrap ty.I16 (pos n))
loaded_16 true n e h = let q : n % 2 ^ 16 ≡ n = mod-eq_of_lt h in rw (q, e) (omega (arith, ltb-true n (2 ^ 15) e))
loaded_16 false n e h = let q : n % 2 ^ 16 ≡ n = mod-eq_of_lt h in rw (q, e) (omega (arith, ltb-false n (2 ^ 15) e, h))

loaded_32 : (b : Bool) (n : ℕ) → ltb n (2 ^ 31) ≡ b → n < 2 ^ 32 → from_word n ≡ word (wrap ty.I32 (pos n))
loaded_32 true n e h = let q : n % 2 ^ 32 ≡ n = mod-eq_of_lt h in rw (q, e) (omega (arith, ltb-true n (2 ^ 31) e))
loaded_32 false n e h = let q : n % 2 ^ 32 ≡ n = mod-eq_of_lt h in rw (q, e) (omega (arith, ltb-false n (2 ^ 31) e, h))

-- how a load of a type extends
abbrev pub load_extended : Ty → ℕ → ℕ
load_extended ty.I8 n = from_byte n
load_extended ty.I16 n = from_half n
load_extended ty.I32 n = from_word n
load_extended other n = n

pub load_extended-wrap : (t : Ty) (n : ℕ) → n < 256 ^ byte_count t → load_extended t n ≡ word (wrap t (pos n))
load_extended-wrap ty.I8 n h = loaded_8 (ltb n (2 ^ 7)) n refl (omega arith)
load_extended-wrap ty.I16 n h = loaded_16 (ltb n (2 ^ 15)) n refl (omega arith)
load_extended-wrap ty.I32 n h = loaded_32 (ltb n (2 ^ 31)) n refl (omega arith)
load_extended-wrap ty.I64 n h = signed_64 (ltb n (2 ^ 63)) n refl (omega arith)
load_extended-wrap other n h = omega (arith, h)

-- ---- sums and products

pub word-sum : (a b : ℤ) → word (a +ℤ b) ≡ sum (word a) (word b)
word-sum a b = word-add a b

-- a value in a register, or a fault of a read
pub data Gives (D : Laid) (L : Layout) (c : List DraftEntry) (s : State) (rest : List DraftEntry) (b e r : ℕ) (m : Memory) (most : ℕ) : Option ℤ → Type 0 where
  no_value : Stops D c s Read m most → Gives D L c s rest b e r m most None
  a_value : {v : ℤ} → Gets D L c s rest b e r v most → Gives D L c s rest b e r m most (Some v)

-- ---- loads

-- the offset of element x in bytes
abbrev pub scaled : Ty → ℕ → ℕ
scaled ty.I8 x = x
scaled ty.U8 x = x
scaled ty.I16 x = shifted_word 0 x 1
scaled ty.U16 x = shifted_word 0 x 1
scaled ty.I32 x = shifted_word 0 x 2
scaled ty.U32 x = shifted_word 0 x 2
scaled ty.I64 x = shifted_word 0 x 3
scaled ty.U64 x = shifted_word 0 x 3

scaled-bytes : (t : Ty) (x : ℕ) → x < 2 ^ 64 → scaled t x ≡ byte_count t * x % 2 ^ 64
scaled-bytes ty.I8 x h = omega (arith, h)
scaled-bytes ty.U8 x h = omega (arith, h)
scaled-bytes other x h = omega arith

count-below : (t : Ty) → byte_count t < 2 ^ 64
count-below ty.I8 = omega arith
count-below other = omega arith

-- the address of an element, by the words of the array's address and of the element's number
pub address_is : (t : Ty) (base x : ℤ) (b n : ℕ) → b ≡ word base → n ≡ word x → sum b (scaled t n) ≡ address t base x
address_is t base x b n e f =
    let low : word (pos (byte_count t)) ≡ byte_count t = mod-eq_of_lt (count-below t) in
    let h : n < 2 ^ 64 = (let w = word-below x in omega arith) in
    let prod : scaled t n ≡ word (pos (byte_count t) *ℤ x) = scaled-bytes t n h ∙ ap (λ y. byte_count t * y % 2 ^ 64) f ∙ ap (λ y. y * word x % 2 ^ 64) (sym low) ∙ sym (word-mul (pos (byte_count t)) x) in
    ap₂ sum e prod ∙ sym (word-sum base (pos (byte_count t) *ℤ x))

load_does : (t : Ty) (d p r : ℕ) (s : State) → effect (load t d p r) s ≡ load_to s d (sum (x_or_sp s p) (scaled t (x_at s r))) (byte_count t) (load_extended t)
load_does ty.I8 d p r s = refl
load_does other d p r s = refl

-- a load of an element
pub load_is : (t : Ty) (d p r : ℕ) (s : State) (base x : ℤ) → p ≤ 25 → x_at s p ≡ word base → x_at s r ≡ word x → effect (load t d p r) s ≡ load_to s d (address t base x) (byte_count t) (load_extended t)
load_is t d p r s base x le e f =
    load_does t d p r s ∙ ap (λ a. load_to s d a (byte_count t) (load_extended t)) (ap (λ b. sum b (scaled t (x_at s r))) (x_or_sp-low s p le) ∙ address_is t base x (x_at s p) (x_at s r) e f)

module _ (D : Laid) (L : Layout) (fit : Assigned L) where
  load_by : {rest : List DraftEntry} {s : State} {m : Memory} {i : Listed} (t : Ty) (a p b e : ℕ) (o : Result ℕ AccessFault) → length s.x ≡ 31 → b ≤ p → p < e → IsMade L p → IsMemory m → loaded m a (byte_count t) ≡ o → loaded s.memory a (byte_count t) ≡ o → s.memory ≡ m → effect i s ≡ load_to s (reg_of L p) a (byte_count t) (load_extended t) → Gives D L (Put i ∷ rest) s rest b e (reg_of L p) m 1 (read_value t o)
  load_by {rest = rest} {s = s} {m = m} {i = i} t a p b e (Ok n) sized le lt made good is has same h =
      let d = reg_of L p in
      let v = load_extended t n in
      let went : effect i s ≡ Went (wrote s d v) = h ∙ ap (λ o. elim o as (λ o. Step) [ Ok v ↦ write s d (load_extended t v) | Err fault ↦ Stopped Read s.pc fault.address s.memory ]) has in
      a_value (record {
        end = wrote s d v;
        goes = put_goes went;
        kept = kept_item L s p v b e le lt made;
        value = wrote_same s d v (let hi = fit.high p made in omega (arith, sized, hi)) ∙ load_extended-wrap t n (loaded-below m a (byte_count t) n good is);
      })
  load_by {rest = rest} {s = s} {m = m} {i = i} t a p b e (Err f) sized le lt made good is has same h =
      let d = reg_of L p in
      let stop : effect i s ≡ Stopped Read s.pc f.address m = h ∙ ap (λ o. elim o as (λ o. Step) [ Ok v ↦ write s d (load_extended t v) | Err fault ↦ Stopped Read s.pc fault.address s.memory ]) has ∙ ap (λ m. Stopped Read s.pc f.address m) same in
      no_value (put_stops s.pc f.address stop)

  pub load_runs : {rest : List DraftEntry} {s : State} {m : Memory} (t : Ty) (base x : ℤ) (q r p b e : ℕ) → length s.x ≡ 31 → b ≤ p → p < e → IsMade L p → IsMemory m → s.memory ≡ m → q ≤ 25 → x_at s q ≡ word base → x_at s r ≡ word x → Gives D L (Put (load t (reg_of L p) q r) ∷ rest) s rest b e (reg_of L p) m 1 (read_value t (loaded m (address t base x) (byte_count t)))
  load_runs {s = s} {m = m} t base x q r p b e sized le lt made good same hi eb ex =
      load_by t (address t base x) p b e (loaded m (address t base x) (byte_count t)) sized le lt made good refl (ap (λ n. loaded n (address t base x) (byte_count t)) same) same (load_is t (reg_of L p) q r s base x hi eb ex)

  -- ---- an index

  index_sum : (s : State) (i c : ℤ) (by : Listed) (n : ℕ) (rest : List DraftEntry) (b e : ℕ) → length s.x ≡ 31 → effect by s ≡ Went (wrote s 26 n) → n ≡ word (i +ℤ c) → Gets D L (Put by ∷ rest) s rest b e 26 (i +ℤ c) 1
  index_sum s i c by n rest b e sized does is = record {
    end = wrote s 26 n;
    goes = put_goes does;
    kept = kept_scratch L s 26 n b e (omega arith);
    value = wrote_same s 26 n (omega (arith, sized)) ∙ is;
  }

  -- an index into its register
  pub index_runs : {rest : List DraftEntry} {s : State} (i c : ℤ) (b e : ℕ) → length s.x ≡ 31 → x_at s 9 ≡ word i → IsSmall c → Gets D L (word_code (index_word c) rest) s rest b e (index_register (index_word c)) (i +ℤ c) 1
  index_runs {s = s} i (pos zero) b e sized at small =
      record { end = s; goes = stay 1; kept = kept_none L s b e; value = at ∙ (let w = word-sum i (pos 0) in let h = word-below i in omega (arith, w, h)) }
  index_runs {rest = rest} {s = s} i (pos (suc c)) b e sized at small =
      let low : suc c % 4096 ≡ suc c = mod-eq_of_lt small in
      let n : sum (x_at s 9) (suc c % 4096 * 2 ^ (12 * 0)) ≡ word (i +ℤ pos (suc c)) = ap₂ (λ v k. sum v (k * 2 ^ (12 * 0))) at low ∙ (let w = word-sum i (pos (suc c)) in omega (arith, w, small)) in
      index_sum s i (pos (suc c)) (word_of add_imm (26 ∷ 9 ∷ suc c % 4096 ∷ 0 ∷ [])) (sum (x_at s 9) (suc c % 4096 * 2 ^ (12 * 0))) rest b e sized refl n
  index_runs {rest = rest} {s = s} i (negsuc c) b e sized at small =
      let low : suc c % 4096 ≡ suc c = mod-eq_of_lt (omega (arith, small)) in
      let n : difference (x_at s 9) (suc c % 4096 * 2 ^ (12 * 0)) ≡ word (i +ℤ negsuc c) = ap₂ (λ v k. difference v (k * 2 ^ (12 * 0))) at low ∙ (let w = word-sum i (negsuc c) in omega (arith, w, small)) in
      index_sum s i (negsuc c) (word_of sub_imm (26 ∷ 9 ∷ suc c % 4096 ∷ 0 ∷ [])) (difference (x_at s 9) (suc c % 4096 * 2 ^ (12 * 0))) rest b e sized refl n
