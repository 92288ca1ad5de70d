-- The short stretches of code of one item.
use Rattle.std.proofs.Common.{◌≡◌, ℕ, ◌*◌, ◌%◌, ◌^◌, ◌<◌, ◌≤◌, Bool, true, false, ◌&&◌, List, [], ◌∷◌, length, Some, None, refl, sym, ap, ap₂, ◌∙◌, arith, ltb}
use Rattle.std.specs.Prelude.{ℤ, bit_or, nat_eq, if◌then◌else◌}
use Rattle.std.proofs.lemmas.List.{get_or_past}
use Rattle.std.specs.Int.{w64, cast_signed}
use Rattle.std.proofs.lemmas.Bool.{eqb-true}
use Rattle.std.specs.Int.Bits.{or_zero_l}
use Rattle.a64_code.specs.Table.{orr}
use Rattle.machine_model.specs.InstructionTable.{Listed}
use Rattle.machine_model.specs.Machine.{State, Went, x_at}
use Rattle.machine_model.specs.Arithmetic.{shifted_word}
use Rattle.machine_model.specs.States.{IsState}
use Rattle.kernel_tree.specs.declared.ops.Ty.{Ty}
use Rattle.kernel_tree.specs.Wrap.{wrap, residue}
use Rattle.kernel_meaning.specs.Operators.{word}
use Rattle.kernel_meaning.proofs.Residues.{word-below}
use Rattle.label_fix.specs.DraftRun.{DraftEntry, Put, Laid, effect, word_of}
use Rattle.label_fix.proofs.StretchSteps.{Goes, stay, put_goes, chain, go_more}
use Rattle.scalar_words.specs.Layout.{Layout, reg_of, IsMade}
use Rattle.scalar_words.specs.Words.{extension, extending, copy, copy_word, is_narrow, extend_word, settle_word, word_code}
use Rattle.scalar_words.proofs.Words.{extended, extended-wrap, residue-64, signed_64}
use Rattle.scalar_words.proofs.LayoutStates.{wrote, wrote_same, wrote_sized, wrote_shaped, Assigned, Kept, Changes, changes_on, changes_own, kept_changes}
use Rattle.kernel_tree.specs.declared.ops.Ty.TheVariants as ty

-- a value in a register
pub record Gets (D : Laid) (L : Layout) (c : List DraftEntry) (s : State) (rest : List DraftEntry) (b e r : ℕ) (v : ℤ) (most : ℕ) : Type 0 where
  pub end : State
  pub goes : Goes D c s rest end most
  pub kept : Kept L s end b e
  pub value : x_at end r ≡ word v

-- a value in the one register that changes; the shape of the state is kept
pub record Sets (D : Laid) (c : List DraftEntry) (s : State) (rest : List DraftEntry) (d : ℕ) (v : ℤ) (most : ℕ) : Type 0 where
  pub end : State
  pub goes : Goes D c s rest end most
  pub changes : Changes s end d
  pub value : x_at end d ≡ word v
  pub shaped : IsState s → IsState end

pub gets : (D : Laid) (L : Layout) {c rest : List DraftEntry} {s : State} {v : ℤ} {most : ℕ} (p b e : ℕ) → b ≤ p → p < e → IsMade L p → Sets D c s rest (reg_of L p) v most → Gets D L c s rest b e (reg_of L p) v most
gets D L p b e le lt made g = record { end = g.end; goes = g.goes; kept = kept_changes L p b e le lt made g.changes; value = g.value }

pub set_more : {D : Laid} {c rest : List DraftEntry} {s : State} {d m : ℕ} {v : ℤ} (most : ℕ) → m ≤ most → Sets D c s rest d v m → Sets D c s rest d v most
set_more most le g = record { end = g.end; goes = go_more most le g.goes; changes = g.changes; value = g.value; shaped = g.shaped }

-- what a word of extension does
pub extension_is : (t : Ty) (d a : ℕ) (s : State) (D : Laid) (rest : List DraftEntry) → Goes D (extension t d a ∷ rest) s rest (wrote s d (extended t (x_at s a))) 1
extension_is ty.I8 d a s D rest = put_goes refl
extension_is other d a s D rest = put_goes refl

pub more : (D : Laid) (L : Layout) {c rest : List DraftEntry} {s : State} {b e r m : ℕ} {v : ℤ} (most : ℕ) → m ≤ most → Gets D L c s rest b e r v m → Gets D L c s rest b e r v most
more D L most le g = record { end = g.end; goes = go_more most le g.goes; kept = g.kept; value = g.value }

module _ (D : Laid) (L : Layout) (fit : Assigned L) where
  -- a register into another one
  pub copy_sets : {rest : List DraftEntry} {s : State} (d a : ℕ) (x : ℤ) → length s.x ≡ 31 → d < 31 → x_at s a ≡ word x → Sets D (copy d a ∷ rest) s rest d x 1
  copy_sets {s = s} d a x sized hi is =
      let z : x_at s 31 ≡ 0 = get_or_past s.x 31 0 (omega (arith, sized)) in
      let v = bit_or (x_at s 31) (shifted_word 0 (x_at s a) 0) in
      let small = word-below x in
      let low : word x * 2 ^ 0 % 2 ^ 64 ≡ word x = omega arith in
      let e : v ≡ word x = ap₂ (λ m n. bit_or m (shifted_word 0 n 0)) z is ∙ ap (bit_or 0) low ∙ or_zero_l (word x) in
      record {
        end = wrote s d v;
        goes = put_goes refl;
        changes = changes_own s d v;
        value = wrote_same s d v (omega (arith, sized)) ∙ e;
        shaped = λ shape. wrote_shaped s d v (omega (arith, e, small)) shape;
      }

-- ---- casts

-- a register into another one, where they differ
copy_word_sets : (D : Laid) (L : Layout) (fit : Assigned L) {rest : List DraftEntry} {s : State} (d a : ℕ) (x : ℤ) → length s.x ≡ 31 → d < 31 → x_at s a ≡ word x → (b : Bool) → nat_eq d a ≡ b → Sets D (word_code (if b then None else Some (word_of orr (d ∷ 31 ∷ 0 ∷ a ∷ 0 ∷ []))) rest) s rest d x 1
copy_word_sets D L fit {s = s} d a x sized hi is true e =
    record { end = s; goes = stay 1; changes = record { memory = refl; sized = refl; frame = refl; others = λ r le ne. refl }; value = ap (x_at s) (eqb-true d a e) ∙ is; shaped = λ h. h }
copy_word_sets D L fit d a x sized hi is false e = copy_sets D L fit d a x sized hi is

-- at 64 bits the word of an integer is that of its value at the type
pub wide_wrap : (t : Ty) (z : ℤ) → is_narrow t ≡ false → word (wrap t z) ≡ word z
wide_wrap ty.I64 z e =
    let f : residue 64 z ≡ word z % 2 ^ 64 = residue-64 z in
    ap (λ r. word (cast_signed w64 r)) f ∙ sym (signed_64 (ltb (word z) (2 ^ 63)) (word z) refl (word-below z))
wide_wrap ty.U64 z e = let f = residue-64 z in omega (arith, f, word-below z)
wide_wrap other z e = absurd cc

-- the word of a result that no extension follows
unsettled : (leaves : Bool) (t : Ty) (z : ℤ) → (leaves && is_narrow t) ≡ false → (leaves ≡ false → word (wrap t z) ≡ word z) → word (wrap t z) ≡ word z
unsettled true t z e kept = wide_wrap t z e
unsettled false t z e kept = kept refl

module _ (D : Laid) (L : Layout) (fit : Assigned L) where
  pub copied_sets : {rest : List DraftEntry} {s : State} (d a : ℕ) (x : ℤ) → length s.x ≡ 31 → d < 31 → x_at s a ≡ word x → Sets D (word_code (copy_word d a) rest) s rest d x 1
  copied_sets d a x sized hi is = copy_word_sets D L fit d a x sized hi is (nat_eq d a) refl

  pub extend_sets : {rest : List DraftEntry} {s : State} (t : Ty) (d a : ℕ) (x : ℤ) → length s.x ≡ 31 → d < 31 → x_at s a ≡ word x → Sets D (word_code (extend_word t d a) rest) s rest d (wrap t x) 1
  extend_sets {rest = rest} {s = s} t d a x sized hi is = by (is_narrow t) refl
    where
      by : (b : Bool) → is_narrow t ≡ b → Sets D (word_code (if b then Some (extending t d a) else copy_word d a) rest) s rest d (wrap t x) 1
      by true e =
          let v = extended t (x_at s a) in
          let w : v ≡ word (wrap t x) = ap (extended t) is ∙ extended-wrap t x in
          let low = word-below (wrap t x) in
          record { end = wrote s d v; goes = extension_is t d a s D rest; changes = changes_own s d v; value = wrote_same s d v (omega (arith, sized, hi)) ∙ w; shaped = λ h. wrote_shaped s d v (omega (arith, w, low)) h }
      by false e = copied_sets d a (wrap t x) sized hi (is ∙ sym (wide_wrap t x e))

  -- the extension of a register in place
  pub extended_sets : {rest : List DraftEntry} {s : State} (t : Ty) (d : ℕ) (x : ℤ) → length s.x ≡ 31 → d < 31 → x_at s d ≡ word x → Sets D (word_code (settle_word true t d) rest) s rest d (wrap t x) 1
  extended_sets {rest = rest} {s = s} t d x sized hi is = by (is_narrow t) refl
    where
      by : (b : Bool) → is_narrow t ≡ b → Sets D (word_code (if b then Some (extending t d d) else None) rest) s rest d (wrap t x) 1
      by true e =
          let v = extended t (x_at s d) in
          let w : v ≡ word (wrap t x) = ap (extended t) is ∙ extended-wrap t x in
          let low = word-below (wrap t x) in
          record { end = wrote s d v; goes = extension_is t d d s D rest; changes = changes_own s d v; value = wrote_same s d v (omega (arith, sized, hi)) ∙ w; shaped = λ h. wrote_shaped s d v (omega (arith, w, low)) h }
      by false e = record { end = s; goes = stay 1; changes = record { memory = refl; sized = refl; frame = refl; others = λ r le ne. refl }; value = is ∙ sym (wide_wrap t x e); shaped = λ h. h }

  -- a word that writes a register, and the extension of the register in place where the operation may leave the extended form
  pub settle_sets : {i : Listed} {rest : List DraftEntry} {s : State} (leaves : Bool) (t : Ty) (d n : ℕ) (z : ℤ) → length s.x ≡ 31 → d ≤ 25 → effect i s ≡ Went (wrote s d n) → n ≡ word z → (leaves ≡ false → word (wrap t z) ≡ word z) → Sets D (Put i ∷ word_code (settle_word leaves t d) rest) s rest d (wrap t z) 2
  settle_sets {i = i} {rest = rest} {s = s} leaves t d n z sized hi h is kept = by (leaves && is_narrow t) refl
    where
      by : (b : Bool) → (leaves && is_narrow t) ≡ b → Sets D (Put i ∷ word_code (if b then Some (extending t d d) else None) rest) s rest d (wrap t z) 2
      by true e =
          let s1 = wrote s d n in
          let z1 = wrote_sized s d n in
          let low = word-below z in
          let high = word-below (wrap t z) in
          let v : extended t (x_at s1 d) ≡ word (wrap t z) = ap (extended t) (wrote_same s d n (omega (arith, sized, hi)) ∙ is) ∙ extended-wrap t z in
          record {
            end = wrote s1 d (extended t (x_at s1 d));
            goes = chain 2 (omega arith) (put_goes h) (extension_is t d d s1 D rest);
            changes = changes_on (changes_own s d n) (changes_own s1 d (extended t (x_at s1 d)));
            value = wrote_same s1 d _ (omega (arith, z1, sized, hi)) ∙ v;
            shaped = λ shape. wrote_shaped s1 d (extended t (x_at s1 d)) (omega (arith, v, high)) (wrote_shaped s d n (omega (arith, is, low)) shape);
          }
      by false e =
          let low = word-below z in
          record {
            end = wrote s d n;
            goes = go_more 2 (omega arith) (put_goes h);
            changes = changes_own s d n;
            value = wrote_same s d n (omega (arith, sized, hi)) ∙ is ∙ sym (unsettled leaves t z e kept);
            shaped = λ shape. wrote_shaped s d n (omega (arith, is, low)) shape;
          }
