-- The code of an operator with two operands.
use Rattle.std.proofs.Common.{◌≡◌, ℕ, zero, suc, ◌+◌, ◌*◌, ◌%◌, ◌^◌, ◌≤◌, Bool, true, false, List, [], ◌∷◌, length, refl, sym, ap, ap₂, ◌∙◌, arith, cond}
use Rattle.std.specs.Prelude.{ℤ, pos, negsuc, ◌+ℤ◌, ◌*ℤ◌, ◌-ℤ◌, neg_ℤ, bit_and, bit_or, bit_xor, int_lt, if◌then◌else◌}
use Rattle.std.proofs.lemmas.List.{get_or_past}
use Rattle.std.proofs.lemmas.Nat.{or_lt, xor_lt, and_le_l}
use Rattle.std.proofs.Math.Nat.{mod-eq_of_lt}
use Rattle.machine_model.specs.Machine.{State, x_at}
use Rattle.machine_model.specs.Arithmetic.{sum, difference, shifted_word, holds}
use Rattle.kernel_tree.specs.declared.ops.Ty.{Ty}
use Rattle.kernel_tree.specs.declared.ops.BinaryOp.{BinaryOp}
use Rattle.kernel_tree.specs.Wrap.{wrap, is_signed}
use Rattle.kernel_meaning.specs.Operators.{word, binary_on}
use Rattle.kernel_meaning.specs.TypeValues.{IsOf}
use Rattle.kernel_meaning.proofs.Residues.{word-below, word-mul, word-add}
use Rattle.kernel_meaning.proofs.ExtendedForm.{binary-kept}
use Rattle.a64_code.specs.Table.{subs, csel}
use Rattle.machine_model.proofs.StateLaws.{shifted_word-zero}
use Rattle.scalar_words.proofs.Truths.{tested, tested_goes, tested_flags, tested_sized, tested_all, tested_changes, tested_shaped}
use Rattle.scalar_words.proofs.Compare.{compared}
use Rattle.label_fix.specs.DraftRun.{DraftEntry, Laid, ins, word_of}
use Rattle.label_fix.proofs.StretchSteps.{chain}
use Rattle.scalar_words.specs.Layout.{Layout}
use Rattle.scalar_words.specs.Words.{binary_code, operation_code, word_code, settle_word, condition}
use Rattle.scalar_words.specs.Operands.{binary_joins}
use Rattle.scalar_words.proofs.Words.{InRange, in_range}
use Rattle.scalar_words.proofs.LayoutStates.{changes_on, Assigned}
use Rattle.scalar_words.proofs.WordsRuns.{Sets, set_more, settle_sets}
use Rattle.kernel_tree.specs.declared.ops.BinaryOp.TheVariants as binary
use Rattle.kernel_tree.specs.declared.ops.CompareOp.TheVariants as compare

pub word-negated : (z : ℤ) → word (neg_ℤ z) ≡ difference 0 (word z)
word-negated (pos zero) = refl
word-negated (pos (suc n)) = omega arith
word-negated (negsuc n) = omega arith

pub word-difference : (x y : ℤ) → word (x -ℤ y) ≡ difference (word x) (word y)
word-difference x y = word-add x (neg_ℤ y) ∙ ap (λ n. (word x + n) % 2 ^ 64) (word-negated y) ∙ (let a = word-below x in let b = word-below y in omega arith)

module _ (D : Laid) (L : Layout) (fit : Assigned L) where
  -- a comparison, and one of two registers by whether the first is the greater
  choice_sets : {rest : List DraftEntry} {s : State} (t : Ty) (a c p q d : ℕ) (x y u v : ℤ) → length s.x ≡ 31 → d ≤ 25 → InRange (is_signed t) x → InRange (is_signed t) y → x_at s a ≡ word x → x_at s c ≡ word y → x_at s p ≡ word u → x_at s q ≡ word v
      → word (wrap t (cond (int_lt y x) u v)) ≡ word (cond (int_lt y x) u v)
      → Sets D (ins subs (31 ∷ a ∷ 0 ∷ c ∷ 0 ∷ []) ∷ (ins csel (d ∷ p ∷ condition compare.Gt (is_signed t) ∷ q ∷ []) ∷ word_code (settle_word false t d) rest)) s rest d (wrap t (cond (int_lt y x) u v)) 3
  choice_sets {rest = rest} {s = s} t a c p q d x y u v sized hi rx ry ex ey eu ev kept =
      let t1 = tested s a c in
      let k = condition compare.Gt (is_signed t) in
      let n = if holds k t1.flags then x_at t1 p else x_at t1 q in
      let size : length t1.x ≡ 31 = tested_sized s a c ∙ sized in
      let h : holds k t1.flags ≡ int_lt y x = ap (holds k) (tested_flags s a c x y ex ey) ∙ compared compare.Gt (is_signed t) x y rx ry in
      let is : n ≡ word (cond (int_lt y x) u v) = ap (λ b. if b then x_at t1 p else x_at t1 q) h ∙ ap₂ (λ m k. cond (int_lt y x) m k) (tested_all s a c p sized ∙ eu) (tested_all s a c q sized ∙ ev) ∙ which (int_lt y x) in
      let w = settle_sets D L fit {i = word_of csel (d ∷ p ∷ k ∷ q ∷ [])} {rest = rest} {s = t1} false t d n (cond (int_lt y x) u v) size hi refl is (λ e. kept) in
      record {
        end = w.end;
        goes = chain 3 (omega arith) (tested_goes D _ s a c) w.goes;
        changes = changes_on (tested_changes s a c d) w.changes;
        value = w.value;
        shaped = λ shape. w.shaped (tested_shaped s a c shape);
      }
    where
      which : (b : Bool) → cond b (word u) (word v) ≡ word (cond b u v)
      which true = refl
      which false = refl

  -- an operator that joins low bits, of any two integers
  pub joined_sets : {rest : List DraftEntry} {s : State} (op : BinaryOp) (leaves sg : Bool) (t : Ty) (x y : ℤ) (a c d : ℕ) → binary_joins op ≡ true → length s.x ≡ 31 → d ≤ 25 → (leaves ≡ false → word (wrap t (binary_on op x y)) ≡ word (binary_on op x y)) → x_at s a ≡ word x → x_at s c ≡ word y
      → Sets D (operation_code op sg d a c (word_code (settle_word leaves t d) rest)) s rest d (wrap t (binary_on op x y)) 2
  joined_sets {s = s} binary.Add leaves sg t x y a c d j sized hi kept ex ey = settle_sets D L fit leaves t d (sum (x_at s a) (shifted_word 0 (x_at s c) 0)) (x +ℤ y) sized hi refl (ap₂ (λ m n. sum m (shifted_word 0 n 0)) ex ey ∙ ap (λ n. sum (word x) n) (shifted_word-zero (word y) (word-below y)) ∙ sym (word-add x y)) kept
  joined_sets {s = s} binary.Sub leaves sg t x y a c d j sized hi kept ex ey = settle_sets D L fit leaves t d (difference (x_at s a) (shifted_word 0 (x_at s c) 0)) (x -ℤ y) sized hi refl (ap₂ (λ m n. difference m (shifted_word 0 n 0)) ex ey ∙ ap (λ n. difference (word x) n) (shifted_word-zero (word y) (word-below y)) ∙ sym (word-difference x y)) kept
  joined_sets {s = s} binary.Mul leaves sg t x y a c d j sized hi kept ex ey =
      let z : x_at s 31 ≡ 0 = get_or_past s.x 31 0 (omega (arith, sized)) in
      settle_sets D L fit leaves t d (sum (x_at s 31) (x_at s a * x_at s c % 2 ^ 64)) (x *ℤ y) sized hi refl
      (ap₂ (λ m n. sum (x_at s 31) (m * n % 2 ^ 64)) ex ey ∙ ap (λ n. sum n (word x * word y % 2 ^ 64)) z ∙ omega arith ∙ sym (word-mul x y)) kept
  joined_sets {s = s} binary.And leaves sg t x y a c d j sized hi kept ex ey = settle_sets D L fit leaves t d (bit_and (x_at s a) (shifted_word 0 (x_at s c) 0)) (pos (bit_and (word x) (word y))) sized hi refl (ap₂ (λ m n. bit_and m (shifted_word 0 n 0)) ex ey ∙ ap (λ n. bit_and (word x) n) (shifted_word-zero (word y) (word-below y)) ∙ sym (mod-eq_of_lt (let h = and_le_l (word x) (word y) in omega (arith, h, word-below x)))) kept
  joined_sets {s = s} binary.Or leaves sg t x y a c d j sized hi kept ex ey = settle_sets D L fit leaves t d (bit_or (x_at s a) (shifted_word 0 (x_at s c) 0)) (pos (bit_or (word x) (word y))) sized hi refl (ap₂ (λ m n. bit_or m (shifted_word 0 n 0)) ex ey ∙ ap (λ n. bit_or (word x) n) (shifted_word-zero (word y) (word-below y)) ∙ sym (mod-eq_of_lt (or_lt 64 (word x) (word y) (word-below x) (word-below y)))) kept
  joined_sets {s = s} binary.Xor leaves sg t x y a c d j sized hi kept ex ey = settle_sets D L fit leaves t d (bit_xor (x_at s a) (shifted_word 0 (x_at s c) 0)) (pos (bit_xor (word x) (word y))) sized hi refl (ap₂ (λ m n. bit_xor m (shifted_word 0 n 0)) ex ey ∙ ap (λ n. bit_xor (word x) n) (shifted_word-zero (word y) (word-below y)) ∙ sym (mod-eq_of_lt (xor_lt 64 (word x) (word y) (word-below x) (word-below y)))) kept
  joined_sets binary.Min leaves sg t x y a c d j sized hi kept ex ey = absurd cc
  joined_sets binary.Max leaves sg t x y a c d j sized hi kept ex ey = absurd cc

  pub binary_sets : {rest : List DraftEntry} {s : State} (op : BinaryOp) (t : Ty) (x y : ℤ) (a c d : ℕ) → length s.x ≡ 31 → d ≤ 25 → IsOf t x → IsOf t y → x_at s a ≡ word x → x_at s c ≡ word y → Sets D (binary_code op t d a c rest) s rest d (wrap t (binary_on op x y)) 3
  binary_sets binary.Add t x y a c d sized hi rx ry ex ey = set_more 3 (omega arith) (joined_sets binary.Add true (is_signed t) t x y a c d refl sized hi (binary-kept binary.Add t x y rx ry) ex ey)
  binary_sets binary.Sub t x y a c d sized hi rx ry ex ey = set_more 3 (omega arith) (joined_sets binary.Sub true (is_signed t) t x y a c d refl sized hi (binary-kept binary.Sub t x y rx ry) ex ey)
  binary_sets binary.Mul t x y a c d sized hi rx ry ex ey = set_more 3 (omega arith) (joined_sets binary.Mul true (is_signed t) t x y a c d refl sized hi (binary-kept binary.Mul t x y rx ry) ex ey)
  binary_sets binary.And t x y a c d sized hi rx ry ex ey = set_more 3 (omega arith) (joined_sets binary.And false (is_signed t) t x y a c d refl sized hi (binary-kept binary.And t x y rx ry) ex ey)
  binary_sets binary.Or t x y a c d sized hi rx ry ex ey = set_more 3 (omega arith) (joined_sets binary.Or false (is_signed t) t x y a c d refl sized hi (binary-kept binary.Or t x y rx ry) ex ey)
  binary_sets binary.Xor t x y a c d sized hi rx ry ex ey = set_more 3 (omega arith) (joined_sets binary.Xor false (is_signed t) t x y a c d refl sized hi (binary-kept binary.Xor t x y rx ry) ex ey)
  binary_sets {s = s} binary.Min t x y a c d sized hi rx ry ex ey =
      choice_sets t a c c a d x y y x sized hi (in_range t x rx) (in_range t y ry) ex ey ey ex (binary-kept binary.Min t x y rx ry refl)
  binary_sets {s = s} binary.Max t x y a c d sized hi rx ry ex ey =
      choice_sets t a c a c d x y x y sized hi (in_range t x rx) (in_range t y ry) ex ey ex ey (binary-kept binary.Max t x y rx ry refl)
