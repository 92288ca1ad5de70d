-- The code of operators.
use Rattle.std.proofs.Common.{◌≡◌, ℕ, zero, suc, ◌+◌, ◌-◌, ◌*◌, ◌/◌, ◌%◌, ◌^◌, ◌<◌, ◌≤◌, Bool, true, false, List, [], ◌∷◌, length, Some, ⊎_elim, refl, sym, ap, ap₂, ◌∙◌, subst, arith, ltb, length-set, get_or-set_same, get_or-set_other}
use Rattle.std.specs.Prelude.{ℤ, pos, negsuc, ◌+ℤ◌, ◌-ℤ◌, neg_ℤ, bit_and, bit_or, bit_xor, int_le, unsigned_abs, nat_lt, nat_eq, if◌then◌else◌}
use Rattle.std.proofs.lemmas.List.{get_or_past}
use Rattle.std.proofs.lemmas.Nat.{or_lt, xor_lt, and_le_l}
use Rattle.std.proofs.Math.Nat.{mod-eq_of_lt, div-le_self}
use Rattle.machine_model.specs.Machine.{State, Went, x_at, x_or_sp, with_x, with_x_or_sp, next}
use Rattle.machine_model.proofs.StateSteps.{next_is_state, x_kept, flags_kept}
use Rattle.machine_model.specs.Arithmetic.{sum, difference, shifted_word, inverted, flags_of, holds}
use Rattle.kernel_tree.specs.declared.ops.Ty.{Ty}
use Rattle.kernel_tree.specs.declared.ops.UnaryOp.{UnaryOp}
use Rattle.kernel_tree.specs.declared.ops.BinaryOp.{BinaryOp}
use Rattle.kernel_tree.specs.Wrap.{wrap, is_signed}
use Rattle.kernel_meaning.specs.Operators.{word, unary_on, binary_on, shift_on, shift_count}
use Rattle.kernel_meaning.specs.TypeValues.{IsOf, fits, binary_leaves}
use Rattle.kernel_meaning.proofs.Residues.{word-below, word-add, word-shl}
use Rattle.kernel_meaning.proofs.ExtendedForm.{unary-kept, binary-kept, shift-kept}
use Rattle.std.specs.Int.{w64, cast_signed, cast_unsigned, int_shr}
use Rattle.std.specs.Int.Bits.{or_zero_l}
use Rattle.std.proofs.lemmas.Bool.{lt-ltb, le-ltb, leb-true, cond-false, ne_eqb, ltb-true as nat_lt-true, ltb-false as nat_lt-false}
use Rattle.a64_code.specs.Table.{subs, csel, orr, add_imm, sub_imm}
use Rattle.machine_model.proofs.StateLaws.{x_or_sp-low, shifted_word-zero}
use Rattle.value_code.specs.Code.{takes_product, takes_shift}
use Rattle.value_code.proofs.Numbers.{IsAddend, IsSum}
use Rattle.scalar_words.proofs.Compare.{compared}
use Rattle.label_fix.specs.DraftRun.{DraftEntry, Put, Laid, ins, effect, word_of}
use Rattle.label_fix.proofs.StretchSteps.{put_goes, chain}
use Rattle.scalar_words.specs.Layout.{Layout, reg_of, IsMade}
use Rattle.scalar_words.specs.Words.{operation_code, word_code, copy_word, extend_word, settle_word}
use Rattle.value_code.specs.ItemWords.{Side, Number, Register, Product, Moved, product_word, shift_word, operator_code, add_word, sub_word, sum_word, unary_code, abs_code, shift_code, shift_kind, convert_word}
use Rattle.value_code.specs.declared.extent.Extent.{Extent}
use Rattle.value_code.specs.Extents.{Whole, within_type, unary_joins, operand_extent, asked_extent, binary_extent, settles}
use Rattle.scalar_words.specs.Operands.{binary_joins}
use Rattle.value_code.proofs.Loose.{settled, loose_binary, loose_unary, loose_shift, loose_cast}
use Rattle.scalar_words.proofs.Words.{InRange, in_range}
use Rattle.scalar_words.proofs.LayoutStates.{wrote, changes_on, Assigned}
use Rattle.scalar_words.proofs.WordsRuns.{Gets, Sets, gets, set_more, wide_wrap, copied_sets, extend_sets, settle_sets, more}
use Rattle.scalar_words.proofs.Binary.{word-negated, word-difference, joined_sets, binary_sets}
use Rattle.kernel_tree.specs.declared.ops.Ty.TheVariants as ty
use Rattle.kernel_tree.specs.declared.ops.UnaryOp.TheVariants as unary
use Rattle.kernel_tree.specs.declared.ops.BinaryOp.TheVariants as binary
use Rattle.kernel_tree.specs.declared.ops.CompareOp.TheVariants as compare

pub word-flipped : (z : ℤ) → word (neg_ℤ z -ℤ pos 1) ≡ inverted (word z)
word-flipped z = word-difference (neg_ℤ z) (pos 1) ∙ ap (λ n. difference n (word (pos 1))) (word-negated z) ∙ (let h = word-below z in omega arith)

-- ---- shifts

signed-word : (m : ℤ) → InRange true m → cast_signed w64 (word m) ≡ m
signed-word (pos n) h = let e : n % 2 ^ 64 ≡ n = mod-eq_of_lt (omega (arith, h)) in let f : ltb n (2 ^ 63) ≡ true = lt-ltb n (2 ^ 63) h in rw (e, f) refl
signed-word (negsuc n) h =
    let e : 2 ^ 64 - 1 - n % 2 ^ 64 ≡ 2 ^ 64 - 1 - n = omega (arith, h) in
    let f : ltb (2 ^ 64 - 1 - n) (2 ^ 63) ≡ false = le-ltb _ _ (omega (arith, h)) in
    rw (e, f) (ap negsuc (omega (arith, h)))

unsigned-word : (m : ℤ) → InRange true m → cast_unsigned w64 m ≡ word m
unsigned-word (pos n) h = omega (arith, h)
unsigned-word (negsuc n) h = omega (arith, h)

shr-range : (k : ℕ) (m : ℤ) → InRange true m → InRange true (int_shr m k)
shr-range k (pos n) h = let le = div-le_self n (2 ^ k) in omega (arith, h, le)
shr-range k (negsuc n) h = let le = div-le_self n (2 ^ k) in omega (arith, h, le)

pub shifted-word : (left sg : Bool) (k : ℕ) (x : ℤ) → InRange sg x → shifted_word (shift_kind left sg) (word x) k ≡ word (shift_on left k x)
shifted-word true sg k x h = word-shl x k
shifted-word false true k x h = ap (λ z. cast_unsigned w64 (int_shr z k)) (signed-word x h) ∙ unsigned-word (int_shr x k) (shr-range k x h)
shifted-word false false k (pos n) h =
    let e : n % 2 ^ 64 ≡ n = mod-eq_of_lt h in
    let le = div-le_self n (2 ^ k) in
    ap (λ m. m / 2 ^ k) e ∙ sym (mod-eq_of_lt (omega (arith, h, le)))
shifted-word false false k (negsuc n) h = absurd h

-- ---- absolute values

abs_at : (ge : Bool) (x : ℤ) → int_le x (pos 0) ≡ ge → (if ge then difference 0 (word x) else word x) ≡ word (pos (unsigned_abs x))
abs_at true x e = sym (word-negated x) ∙ ap word (neg_is x e)
  where
    neg_is : (x : ℤ) → int_le x (pos 0) ≡ true → neg_ℤ x ≡ pos (unsigned_abs x)
    neg_is (pos zero) e = refl
    neg_is (pos (suc n)) e = absurd (let h = leb-true (suc n) 0 e in omega (arith, h))
    neg_is (negsuc n) e = refl
abs_at false (pos n) e = refl
abs_at false (negsuc n) e = absurd cc

same-abs : (x : ℤ) → InRange false x → word x ≡ word (pos (unsigned_abs x))
same-abs (pos n) h = refl
same-abs (negsuc n) h = absurd h

-- ---- numbers

into : (s : State) (d v : ℕ) → d ≤ 25 → Went (next (with_x_or_sp s d v)) ≡ Went (wrote s d v)
into s d v hi = ap (λ t. Went (next t)) (cond-false (nat_eq d 31) (record s { sp = v }) (with_x s d v) (ne_eqb d 31 (λ e. absurd (omega arith))))

-- what a word takes as its right side has the word of an integer
abbrev pub IsOperand : Side → State → ℤ → Type 0
IsOperand (Number v) s y = v ≡ word y
IsOperand (Register r) s y = x_at s r ≡ word y
IsOperand (Product p q) s y = x_at s p * x_at s q % 2 ^ 64 ≡ word y
IsOperand (Moved kind n r) s y = shifted_word kind (x_at s r) n ≡ word y

-- an operator whose word takes such a right side
abbrev pub IsTaken : BinaryOp → Side → Type 0
IsTaken op (Number v) = IsSum op v
IsTaken op (Register r) = Unit {0}
IsTaken op (Product p q) = takes_product op ≡ true
IsTaken op (Moved kind n r) = takes_shift op ≡ true

only_joins : (op : BinaryOp) → binary_joins op ≡ false → binary_leaves op ≡ true → ⊥
only_joins binary.Add j b = absurd cc
only_joins other j b = absurd cc

unjoined : (op : BinaryOp) → binary_joins op ≡ false → binary_leaves op ≡ false
unjoined binary.Add j = absurd cc
unjoined binary.Sub j = absurd cc
unjoined binary.Mul j = absurd cc
unjoined binary.And j = absurd cc
unjoined binary.Or j = absurd cc
unjoined binary.Xor j = absurd cc
unjoined binary.Min j = refl
unjoined binary.Max j = refl

module _ (D : Laid) (L : Layout) (fit : Assigned L) where
  -- the absolute value
  abs_sets : {rest : List DraftEntry} {s : State} (leaves sg : Bool) (t : Ty) (x : ℤ) (a d : ℕ) → length s.x ≡ 31 → a ≤ 25 → d ≤ 25 → InRange sg x → (sg ≡ false → word (wrap t (pos (unsigned_abs x))) ≡ word (pos (unsigned_abs x))) → (leaves ≡ false → word (wrap t (pos (unsigned_abs x))) ≡ word (pos (unsigned_abs x))) → x_at s a ≡ word x → Sets D (abs_code leaves sg t d a rest) s rest d (wrap t (pos (unsigned_abs x))) 4
  abs_sets {rest = rest} {s = s} leaves false t x a d sized la hi rx kept stays ex =
      set_more 4 (omega arith) (copied_sets D L fit d a (wrap t (pos (unsigned_abs x))) sized (omega (arith, hi)) (ex ∙ same-abs x rx ∙ sym (kept refl)))
  abs_sets {rest = rest} {s = s} leaves true t x a d sized la hi rx kept stays ex =
      let z : x_at s 31 ≡ 0 = get_or_past s.x 31 0 (omega (arith, sized)) in
      let v = difference (x_at s 31) (shifted_word 0 (x_at s a) 0) in
      let t1 = next (record (with_x s 26 v) { flags = flags_of (x_at s 31) (shifted_word 0 (x_at s a) 0) }) in
      let size : length t1.x ≡ 31 = length-set s.x 26 v ∙ sized in
      let n = if holds 10 t1.flags then x_at t1 26 else x_at t1 a in
      let low = shifted_word-zero (word x) (word-below x) in
      let fl : t1.flags ≡ flags_of (word (pos 0)) (word x) = ap₂ (λ m n. flags_of m (shifted_word 0 n 0)) z ex ∙ ap (λ n. flags_of 0 n) low in
      let h : holds 10 t1.flags ≡ int_le x (pos 0) = ap (holds 10) fl ∙ compared compare.Ge true (pos 0) x (omega arith) rx in
      let e26 : x_at t1 26 ≡ difference 0 (word x) = get_or-set_same s.x 26 v 0 (omega (arith, sized)) ∙ ap₂ (λ m n. difference m (shifted_word 0 n 0)) z ex ∙ ap (λ n. difference 0 n) low in
      let is : n ≡ word (pos (unsigned_abs x)) = ap (λ b. if b then x_at t1 26 else x_at t1 a) h ∙ ap₂ (λ m k. if int_le x (pos 0) then m else k) e26 (get_or-set_other s.x 26 a v 0 (λ e. absurd (omega arith)) ∙ ex) ∙ abs_at (int_le x (pos 0)) x refl in
      let w = settle_sets D L fit {i = word_of csel (d ∷ 26 ∷ 10 ∷ a ∷ [])} {rest = rest} {s = t1} leaves t d n (pos (unsigned_abs x)) size hi refl is stays in
      record {
        end = w.end;
        goes = chain 4 (omega arith) (put_goes {i = word_of subs (26 ∷ 31 ∷ 0 ∷ a ∷ 0 ∷ [])} {t = t1} refl) w.goes;
        changes = changes_on (record { memory = refl; sized = length-set s.x 26 v; frame = refl; others = λ r hi ne. get_or-set_other s.x 26 r v 0 (λ e. absurd (omega arith)) }) w.changes;
        value = w.value;
        shaped = λ shape. w.shaped (next_is_state _ (flags_kept (with_x s 26 v) (flags_of (x_at s 31) (shifted_word 0 (x_at s a) 0)) (x_kept s 26 v shape (omega arith))));
      }

  -- d = a and a number more
  pub number_goes : (v a d : ℕ) (s : State) (b : Bool) → nat_lt v 4096 ≡ b → v < 2 ^ 64 → IsAddend v → a ≤ 25 → d ≤ 25 → effect (add_word v d a) s ≡ Went (wrote s d (sum (x_at s a) v))
  number_goes v a d s true e lt small la hi =
      let low : v % 4096 * 2 ^ (12 * 0) ≡ v = omega (arith, nat_lt-true v 4096 e) in
      ap (λ t. effect (if t then word_of add_imm (d ∷ a ∷ v % 4096 ∷ 0 ∷ []) else word_of sub_imm (d ∷ a ∷ (4096 - v % 4096) % 4096 ∷ 0 ∷ [])) s) e
      ∙ into s d (sum (x_or_sp s a) (v % 4096 * 2 ^ (12 * 0))) hi ∙ ap₂ (λ m n. Went (wrote s d (sum m n))) (x_or_sp-low s a la) low
  number_goes v a d s false e lt small la hi =
      let ge = nat_lt-false v 4096 e in
      let low : 2 ^ 64 - (4096 - v % 4096) % 4096 * 2 ^ (12 * 0) ≡ v = ⊎_elim (λ (l : v < 4096). absurd (omega (arith, l, ge))) (λ (g : 18446744073709547520 < v). omega (arith, g, lt)) small in
      ap (λ t. effect (if t then word_of add_imm (d ∷ a ∷ v % 4096 ∷ 0 ∷ []) else word_of sub_imm (d ∷ a ∷ (4096 - v % 4096) % 4096 ∷ 0 ∷ [])) s) e
      ∙ into s d (difference (x_or_sp s a) ((4096 - v % 4096) % 4096 * 2 ^ (12 * 0))) hi ∙ ap₂ (λ m n. Went (wrote s d ((m + n) % 2 ^ 64))) (x_or_sp-low s a la) low

  -- d = a and a number less
  less_goes : (v a d : ℕ) (s : State) (b : Bool) → nat_lt v 4096 ≡ b → v < 2 ^ 64 → IsAddend v → a ≤ 25 → d ≤ 25 → effect (sub_word v d a) s ≡ Went (wrote s d (difference (x_at s a) v))
  less_goes v a d s true e lt small la hi =
      let low : v % 4096 * 2 ^ (12 * 0) ≡ v = omega (arith, nat_lt-true v 4096 e) in
      ap (λ t. effect (if t then word_of sub_imm (d ∷ a ∷ v % 4096 ∷ 0 ∷ []) else word_of add_imm (d ∷ a ∷ (4096 - v % 4096) % 4096 ∷ 0 ∷ [])) s) e
      ∙ into s d (difference (x_or_sp s a) (v % 4096 * 2 ^ (12 * 0))) hi ∙ ap₂ (λ m n. Went (wrote s d (difference m n))) (x_or_sp-low s a la) low
  less_goes v a d s false e lt small la hi =
      let ge = nat_lt-false v 4096 e in
      let low : (4096 - v % 4096) % 4096 * 2 ^ (12 * 0) ≡ 2 ^ 64 - v = ⊎_elim (λ (l : v < 4096). absurd (omega (arith, l, ge))) (λ (g : 18446744073709547520 < v). omega (arith, g, lt)) small in
      ap (λ t. effect (if t then word_of sub_imm (d ∷ a ∷ v % 4096 ∷ 0 ∷ []) else word_of add_imm (d ∷ a ∷ (4096 - v % 4096) % 4096 ∷ 0 ∷ [])) s) e
      ∙ into s d (sum (x_or_sp s a) ((4096 - v % 4096) % 4096 * 2 ^ (12 * 0))) hi ∙ ap₂ (λ m n. Went (wrote s d ((m + n) % 2 ^ 64))) (x_or_sp-low s a la) low

  -- the same with a number that the word holds as the right side
  sum_sets : {rest : List DraftEntry} {s : State} (v : ℕ) (op : BinaryOp) (leaves : Bool) (t : Ty) (x y : ℤ) (a d : ℕ) → IsSum op v → length s.x ≡ 31 → a ≤ 25 → d ≤ 25 → (leaves ≡ false → word (wrap t (binary_on op x y)) ≡ word (binary_on op x y)) → x_at s a ≡ word x → v ≡ word y
      → Sets D (Put (sum_word op v d a) ∷ word_code (settle_word leaves t d) rest) s rest d (wrap t (binary_on op x y)) 2
  sum_sets {s = s} v binary.Add leaves t x y a d adds sized la hi kept ex ey =
      settle_sets D L fit leaves t d (sum (x_at s a) v) (x +ℤ y) sized hi (number_goes v a d s (nat_lt v 4096) refl (let w = word-below y in omega (arith, ey, w)) adds la hi) (ap₂ sum ex ey ∙ sym (word-add x y)) kept
  sum_sets {s = s} v binary.Sub leaves t x y a d adds sized la hi kept ex ey =
      settle_sets D L fit leaves t d (difference (x_at s a) v) (x -ℤ y) sized hi (less_goes v a d s (nat_lt v 4096) refl (let w = word-below y in omega (arith, ey, w)) adds la hi) (ap₂ difference ex ey ∙ sym (word-difference x y)) kept
  sum_sets v binary.Mul leaves t x y a d adds sized la hi kept ex ey = absurd adds
  sum_sets v binary.And leaves t x y a d adds sized la hi kept ex ey = absurd adds
  sum_sets v binary.Or leaves t x y a d adds sized la hi kept ex ey = absurd adds
  sum_sets v binary.Xor leaves t x y a d adds sized la hi kept ex ey = absurd adds
  sum_sets v binary.Min leaves t x y a d adds sized la hi kept ex ey = absurd adds
  sum_sets v binary.Max leaves t x y a d adds sized la hi kept ex ey = absurd adds

  -- a product that the word of an operator takes, and a register that it shifts
  product_sets : {rest : List DraftEntry} {s : State} (op : BinaryOp) (leaves : Bool) (t : Ty) (x y : ℤ) (a p q d : ℕ) → takes_product op ≡ true → length s.x ≡ 31 → d ≤ 25 → (leaves ≡ false → word (wrap t (binary_on op x y)) ≡ word (binary_on op x y)) → x_at s a ≡ word x → x_at s p * x_at s q % 2 ^ 64 ≡ word y
      → Sets D (Put (product_word op d a p q) ∷ word_code (settle_word leaves t d) rest) s rest d (wrap t (binary_on op x y)) 2
  product_sets {s = s} binary.Add leaves t x y a p q d takes sized hi kept ex ey = settle_sets D L fit leaves t d (sum (x_at s a) (x_at s p * x_at s q % 2 ^ 64)) (x +ℤ y) sized hi refl (ap₂ sum ex ey ∙ sym (word-add x y)) kept
  product_sets {s = s} binary.Sub leaves t x y a p q d takes sized hi kept ex ey = settle_sets D L fit leaves t d (difference (x_at s a) (x_at s p * x_at s q % 2 ^ 64)) (x -ℤ y) sized hi refl (ap₂ difference ex ey ∙ sym (word-difference x y)) kept
  product_sets binary.Mul leaves t x y a p q d takes sized hi kept ex ey = absurd cc
  product_sets binary.And leaves t x y a p q d takes sized hi kept ex ey = absurd cc
  product_sets binary.Or leaves t x y a p q d takes sized hi kept ex ey = absurd cc
  product_sets binary.Xor leaves t x y a p q d takes sized hi kept ex ey = absurd cc
  product_sets binary.Min leaves t x y a p q d takes sized hi kept ex ey = absurd cc
  product_sets binary.Max leaves t x y a p q d takes sized hi kept ex ey = absurd cc

  moved_sets : {rest : List DraftEntry} {s : State} (op : BinaryOp) (leaves : Bool) (t : Ty) (x y : ℤ) (a kind n r d : ℕ) → takes_shift op ≡ true → length s.x ≡ 31 → d ≤ 25 → (leaves ≡ false → word (wrap t (binary_on op x y)) ≡ word (binary_on op x y)) → x_at s a ≡ word x → shifted_word kind (x_at s r) n ≡ word y
      → Sets D (Put (shift_word op d a kind n r) ∷ word_code (settle_word leaves t d) rest) s rest d (wrap t (binary_on op x y)) 2
  moved_sets {s = s} binary.Add leaves t x y a kind n r d takes sized hi kept ex ey = settle_sets D L fit leaves t d (sum (x_at s a) (shifted_word kind (x_at s r) n)) (x +ℤ y) sized hi refl (ap₂ sum ex ey ∙ sym (word-add x y)) kept
  moved_sets {s = s} binary.Sub leaves t x y a kind n r d takes sized hi kept ex ey = settle_sets D L fit leaves t d (difference (x_at s a) (shifted_word kind (x_at s r) n)) (x -ℤ y) sized hi refl (ap₂ difference ex ey ∙ sym (word-difference x y)) kept
  moved_sets {s = s} binary.And leaves t x y a kind n r d takes sized hi kept ex ey = settle_sets D L fit leaves t d (bit_and (x_at s a) (shifted_word kind (x_at s r) n)) (pos (bit_and (word x) (word y))) sized hi refl (ap₂ bit_and ex ey ∙ sym (mod-eq_of_lt (let h = and_le_l (word x) (word y) in omega (arith, h, word-below x)))) kept
  moved_sets {s = s} binary.Or leaves t x y a kind n r d takes sized hi kept ex ey = settle_sets D L fit leaves t d (bit_or (x_at s a) (shifted_word kind (x_at s r) n)) (pos (bit_or (word x) (word y))) sized hi refl (ap₂ bit_or ex ey ∙ sym (mod-eq_of_lt (or_lt 64 (word x) (word y) (word-below x) (word-below y)))) kept
  moved_sets {s = s} binary.Xor leaves t x y a kind n r d takes sized hi kept ex ey = settle_sets D L fit leaves t d (bit_xor (x_at s a) (shifted_word kind (x_at s r) n)) (pos (bit_xor (word x) (word y))) sized hi refl (ap₂ bit_xor ex ey ∙ sym (mod-eq_of_lt (xor_lt 64 (word x) (word y) (word-below x) (word-below y)))) kept
  moved_sets binary.Mul leaves t x y a kind n r d takes sized hi kept ex ey = absurd cc
  moved_sets binary.Min leaves t x y a kind n r d takes sized hi kept ex ey = absurd cc
  moved_sets binary.Max leaves t x y a kind n r d takes sized hi kept ex ey = absurd cc

  -- an operator that joins low bits, by what its word takes as its right side
  joined_runs : {rest : List DraftEntry} {s : State} (side : Side) (op : BinaryOp) (leaves : Bool) (t u : Ty) (x y : ℤ) (a d : ℕ) → binary_joins op ≡ true → length s.x ≡ 31 → a ≤ 25 → d ≤ 25 → IsTaken op side → (leaves ≡ false → word (wrap u (binary_on op x y)) ≡ word (binary_on op x y)) → settle_word leaves u d ≡ settle_word leaves t d → x_at s a ≡ word x → IsOperand side s y
      → Sets D (operator_code side leaves op t d a rest) s rest d (wrap u (binary_on op x y)) 3
  joined_runs {rest = rest} {s = s} (Register c) op leaves t u x y a d j sized la hi takes kept same ex ey =
      subst (λ w. Sets D (operation_code op (is_signed t) d a c (word_code w rest)) s rest d (wrap u (binary_on op x y)) 3) same (set_more 3 (omega arith) (joined_sets D L fit op leaves (is_signed t) u x y a c d j sized hi kept ex ey))
  joined_runs {rest = rest} {s = s} (Number v) op leaves t u x y a d j sized la hi takes kept same ex ey =
      subst (λ w. Sets D (Put (sum_word op v d a) ∷ word_code w rest) s rest d (wrap u (binary_on op x y)) 3) same (set_more 3 (omega arith) (sum_sets v op leaves u x y a d takes sized la hi kept ex ey))
  joined_runs {rest = rest} {s = s} (Product p q) op leaves t u x y a d j sized la hi takes kept same ex ey =
      subst (λ w. Sets D (Put (product_word op d a p q) ∷ word_code w rest) s rest d (wrap u (binary_on op x y)) 3) same (set_more 3 (omega arith) (product_sets op leaves u x y a p q d takes sized hi kept ex ey))
  joined_runs {rest = rest} {s = s} (Moved kind n r) op leaves t u x y a d j sized la hi takes kept same ex ey =
      subst (λ w. Sets D (Put (shift_word op d a kind n r) ∷ word_code w rest) s rest d (wrap u (binary_on op x y)) 3) same (set_more 3 (omega arith) (moved_sets op leaves u x y a kind n r d takes sized hi kept ex ey))

  -- one that does not, at values of its type
  chosen_runs : {rest : List DraftEntry} {s : State} (side : Side) (op : BinaryOp) (t : Ty) (x y : ℤ) (a d : ℕ) → binary_leaves op ≡ false → length s.x ≡ 31 → a ≤ 25 → d ≤ 25 → IsTaken op side → IsOf t x → IsOf t y → x_at s a ≡ word x → IsOperand side s y
      → Sets D (operator_code side (binary_leaves op) op t d a rest) s rest d (wrap t (binary_on op x y)) 3
  chosen_runs (Register c) op t x y a d un sized la hi takes rx ry ex ey = binary_sets D L fit op t x y a c d sized hi rx ry ex ey
  chosen_runs side binary.Add t x y a d un sized la hi takes rx ry ex ey = absurd cc
  chosen_runs side binary.Sub t x y a d un sized la hi takes rx ry ex ey = absurd cc
  chosen_runs side binary.Mul t x y a d un sized la hi takes rx ry ex ey = absurd cc
  chosen_runs side binary.And t x y a d un sized la hi takes rx ry ex ey = joined_runs side binary.And false t t x y a d refl sized la hi takes (binary-kept binary.And t x y rx ry) refl ex ey
  chosen_runs side binary.Or t x y a d un sized la hi takes rx ry ex ey = joined_runs side binary.Or false t t x y a d refl sized la hi takes (binary-kept binary.Or t x y rx ry) refl ex ey
  chosen_runs side binary.Xor t x y a d un sized la hi takes rx ry ex ey = joined_runs side binary.Xor false t t x y a d refl sized la hi takes (binary-kept binary.Xor t x y rx ry) refl ex ey
  chosen_runs (Number v) binary.Min t x y a d un sized la hi takes rx ry ex ey = absurd takes
  chosen_runs (Number v) binary.Max t x y a d un sized la hi takes rx ry ex ey = absurd takes
  chosen_runs (Product p q) binary.Min t x y a d un sized la hi takes rx ry ex ey = absurd cc
  chosen_runs (Product p q) binary.Max t x y a d un sized la hi takes rx ry ex ey = absurd cc
  chosen_runs (Moved kind n r) binary.Min t x y a d un sized la hi takes rx ry ex ey = absurd cc
  chosen_runs (Moved kind n r) binary.Max t x y a d un sized la hi takes rx ry ex ey = absurd cc

  -- the value of a result, in other words
  pub set_as : {c rest : List DraftEntry} {s : State} {d most : ℕ} {v z : ℤ} → word v ≡ word z → Sets D c s rest d v most → Sets D c s rest d z most
  set_as e g = record { end = g.end; goes = g.goes; changes = g.changes; value = g.value ∙ e; shaped = g.shaped }

  -- an operator of which so much is asked for, and whose result is known to stay in the extended form or not
  operation_few : {rest : List DraftEntry} {s : State} (side : Side) (op : BinaryOp) (leaves : Bool) (w : Extent) (t : Ty) (x y : ℤ) (a d : ℕ) → length s.x ≡ 31 → a ≤ 25 → d ≤ 25 → (leaves ≡ true → binary_leaves op ≡ true)
      → (asked_extent (binary_joins op) leaves w (Some t) ≡ Whole → IsOf t x × IsOf t y) → (asked_extent (binary_joins op) leaves w (Some t) ≡ Whole → leaves ≡ false → word (wrap t (binary_on op x y)) ≡ word (binary_on op x y))
      → IsTaken op side → x_at s a ≡ word x → IsOperand side s y
      → Sets D (operator_code side (settles (within_type w t) (binary_joins op) leaves) op t d a rest) s rest d (loose_binary op w (Some t) x y) 3
  operation_few {rest = rest} {s = s} side op leaves w t x y a d sized la hi only range kept takes ex ey = by (within_type w t) (binary_joins op) leaves refl refl only range kept
    where
      by : (l j b : Bool) → within_type w t ≡ l → binary_joins op ≡ j → (b ≡ true → binary_leaves op ≡ true) → (operand_extent l j b w (Some t) ≡ Whole → IsOf t x × IsOf t y) → (operand_extent l j b w (Some t) ≡ Whole → b ≡ false → word (wrap t (binary_on op x y)) ≡ word (binary_on op x y))
          → Sets D (operator_code side (settles l j b) op t d a rest) s rest d (settled l j (Some t) (binary_on op x y)) 3
      by true true b el ej f r k = set_as (wide_wrap ty.U64 (binary_on op x y) refl) (joined_runs side op false t ty.U64 x y a d ej sized la hi takes (λ e. wide_wrap ty.U64 (binary_on op x y) refl) refl ex ey)
      by false true true el ej f r k = joined_runs side op true t t x y a d ej sized la hi takes (λ e. absurd cc) refl ex ey
      by false true false el ej f r k = joined_runs side op false t t x y a d ej sized la hi takes (k refl) refl ex ey
      by true false true el ej f r k = absurd (only_joins op ej (f refl))
      by false false true el ej f r k = absurd (only_joins op ej (f refl))
      by true false false el ej f r k = let in_type = r refl in let un = unjoined op ej in subst (λ b. Sets D (operator_code side b op t d a rest) s rest d (wrap t (binary_on op x y)) 3) un (chosen_runs side op t x y a d un sized la hi takes in_type.0 in_type.1 ex ey)
      by false false false el ej f r k = let in_type = r refl in let un = unjoined op ej in subst (λ b. Sets D (operator_code side b op t d a rest) s rest d (wrap t (binary_on op x y)) 3) un (chosen_runs side op t x y a d un sized la hi takes in_type.0 in_type.1 ex ey)

  pub operation_runs : {rest : List DraftEntry} {s : State} (side : Side) (op : BinaryOp) (leaves : Bool) (w : Extent) (t : Ty) (x y : ℤ) (a d : ℕ) → length s.x ≡ 31 → a ≤ 25 → d ≤ 25 → (leaves ≡ true → binary_leaves op ≡ true)
      → (asked_extent (binary_joins op) leaves w (Some t) ≡ Whole → IsOf t x × IsOf t y) → (asked_extent (binary_joins op) leaves w (Some t) ≡ Whole → leaves ≡ false → word (wrap t (binary_on op x y)) ≡ word (binary_on op x y))
      → IsTaken op side → x_at s a ≡ word x → IsOperand side s y
      → Sets D (operator_code side (settles (within_type w t) (binary_joins op) leaves) op t d a rest) s rest d (loose_binary op w (Some t) x y) 4
  operation_runs side op leaves w t x y a d sized la hi only range kept takes ex ey = set_more 4 (omega arith) (operation_few side op leaves w t x y a d sized la hi only range kept takes ex ey)

  -- one of whose operands nothing is known but their type
  pub operator_runs : {rest : List DraftEntry} {s : State} (side : Side) (op : BinaryOp) (w : Extent) (t : Ty) (x y : ℤ) (a d : ℕ) → length s.x ≡ 31 → a ≤ 25 → d ≤ 25 → (binary_extent op w (Some t) ≡ Whole → IsOf t x × IsOf t y) → IsTaken op side → x_at s a ≡ word x → IsOperand side s y
      → Sets D (operator_code side (settles (within_type w t) (binary_joins op) (binary_leaves op)) op t d a rest) s rest d (loose_binary op w (Some t) x y) 3
  operator_runs side op w t x y a d sized la hi range takes ex ey = operation_few side op (binary_leaves op) w t x y a d sized la hi (λ e. e) range (λ e out. let k = range e in binary-kept op t x y k.0 k.1 out) takes ex ey

  -- the negative, and the complement, of any integer
  neg_sets : {rest : List DraftEntry} {s : State} (leaves : Bool) (t : Ty) (x : ℤ) (a d : ℕ) → length s.x ≡ 31 → d ≤ 25 → (leaves ≡ false → word (wrap t (neg_ℤ x)) ≡ word (neg_ℤ x)) → x_at s a ≡ word x → Sets D (unary_code leaves unary.Neg t d a rest) s rest d (wrap t (neg_ℤ x)) 2
  neg_sets {s = s} leaves t x a d sized hi kept ex =
      let z : x_at s 31 ≡ 0 = get_or_past s.x 31 0 (omega (arith, sized)) in
      settle_sets D L fit leaves t d (difference (x_at s 31) (shifted_word 0 (x_at s a) 0)) (neg_ℤ x) sized hi refl
      (ap₂ (λ m n. difference m (shifted_word 0 n 0)) z ex ∙ ap (λ n. difference 0 n) (shifted_word-zero (word x) (word-below x)) ∙ sym (word-negated x)) kept

  flip_sets : {rest : List DraftEntry} {s : State} (leaves : Bool) (t : Ty) (x : ℤ) (a d : ℕ) → length s.x ≡ 31 → d ≤ 25 → (leaves ≡ false → word (wrap t (neg_ℤ x -ℤ pos 1)) ≡ word (neg_ℤ x -ℤ pos 1)) → x_at s a ≡ word x → Sets D (unary_code leaves unary.Flip t d a rest) s rest d (wrap t (neg_ℤ x -ℤ pos 1)) 2
  flip_sets {s = s} leaves t x a d sized hi kept ex =
      let z : x_at s 31 ≡ 0 = get_or_past s.x 31 0 (omega (arith, sized)) in
      settle_sets D L fit leaves t d (bit_or (x_at s 31) (inverted (shifted_word 0 (x_at s a) 0))) (neg_ℤ x -ℤ pos 1) sized hi refl
      (ap₂ (λ m n. bit_or m (inverted (shifted_word 0 n 0))) z ex ∙ ap (λ n. bit_or 0 (inverted n)) (shifted_word-zero (word x) (word-below x)) ∙ or_zero_l (inverted (word x)) ∙ sym (word-flipped x)) kept

  -- code that extends nothing is that of a type with 64 bits
  pub unary_runs : {rest : List DraftEntry} {s : State} (op : UnaryOp) (leaves : Bool) (w : Extent) (t : Ty) (x : ℤ) (a d : ℕ) → length s.x ≡ 31 → a ≤ 25 → d ≤ 25
      → (asked_extent (unary_joins op) leaves w (Some t) ≡ Whole → IsOf t x) → (asked_extent (unary_joins op) leaves w (Some t) ≡ Whole → leaves ≡ false → word (wrap t (unary_on op x)) ≡ word (unary_on op x)) → x_at s a ≡ word x
      → Sets D (unary_code (settles (within_type w t) (unary_joins op) leaves) op t d a rest) s rest d (loose_unary op w (Some t) x) 4
  unary_runs {rest = rest} {s = s} unary.Neg leaves w t x a d sized la hi range kept ex = by (within_type w t) kept
    where
      by : (l : Bool) → (operand_extent l true leaves w (Some t) ≡ Whole → leaves ≡ false → word (wrap t (neg_ℤ x)) ≡ word (neg_ℤ x)) → Sets D (unary_code (settles l true leaves) unary.Neg t d a rest) s rest d (settled l true (Some t) (neg_ℤ x)) 4
      by true k = set_more 4 (omega arith) (set_as (wide_wrap ty.U64 (neg_ℤ x) refl) (neg_sets false ty.U64 x a d sized hi (λ e. wide_wrap ty.U64 (neg_ℤ x) refl) ex))
      by false k = set_more 4 (omega arith) (neg_sets leaves t x a d sized hi (λ e. k (ap (λ b. operand_extent false true b w (Some t)) e) e) ex)
  unary_runs {rest = rest} {s = s} unary.Flip leaves w t x a d sized la hi range kept ex = by (within_type w t) kept
    where
      by : (l : Bool) → (operand_extent l true leaves w (Some t) ≡ Whole → leaves ≡ false → word (wrap t (neg_ℤ x -ℤ pos 1)) ≡ word (neg_ℤ x -ℤ pos 1)) → Sets D (unary_code (settles l true leaves) unary.Flip t d a rest) s rest d (settled l true (Some t) (neg_ℤ x -ℤ pos 1)) 4
      by true k = set_more 4 (omega arith) (set_as (wide_wrap ty.U64 (neg_ℤ x -ℤ pos 1) refl) (flip_sets false ty.U64 x a d sized hi (λ e. wide_wrap ty.U64 (neg_ℤ x -ℤ pos 1) refl) ex))
      by false k = set_more 4 (omega arith) (flip_sets leaves t x a d sized hi (λ e. k (ap (λ b. operand_extent false true b w (Some t)) e) e) ex)
  unary_runs {rest = rest} {s = s} unary.Abs leaves w t x a d sized la hi range kept ex = by (within_type w t) range kept
    where
      by : (l : Bool) → (operand_extent l false leaves w (Some t) ≡ Whole → IsOf t x) → (operand_extent l false leaves w (Some t) ≡ Whole → leaves ≡ false → word (wrap t (pos (unsigned_abs x))) ≡ word (pos (unsigned_abs x)))
          → Sets D (unary_code (settles l false leaves) unary.Abs t d a rest) s rest d (settled l false (Some t) (pos (unsigned_abs x))) 4
      by true r k = let rx = r refl in abs_sets {rest = rest} leaves (is_signed t) t x a d sized la hi (in_range t x rx) (unary-kept unary.Abs t x rx) (k refl) ex
      by false r k = let rx = r refl in abs_sets {rest = rest} leaves (is_signed t) t x a d sized la hi (in_range t x rx) (unary-kept unary.Abs t x rx) (k refl) ex

  -- a shift to the left of any integer, and one to the right of a value
  left_sets : {rest : List DraftEntry} {s : State} (leaves : Bool) (n : ℤ) (t u : Ty) (x : ℤ) (a d : ℕ) → length s.x ≡ 31 → d ≤ 25 → (leaves ≡ false → word (wrap u (shift_on true (shift_count n) x)) ≡ word (shift_on true (shift_count n) x)) → settle_word leaves u d ≡ settle_word leaves t d → x_at s a ≡ word x
      → Sets D (shift_code leaves true n t d a rest) s rest d (wrap u (shift_on true (shift_count n) x)) 2
  left_sets {rest = rest} {s = s} leaves n t u x a d sized hi kept same ex =
      let z : x_at s 31 ≡ 0 = get_or_past s.x 31 0 (omega (arith, sized)) in
      let k = shift_count n in
      subst (λ q. Sets D (ins orr (d ∷ 31 ∷ k ∷ a ∷ 0 ∷ []) ∷ word_code q rest) s rest d (wrap u (shift_on true k x)) 2) same
      (settle_sets D L fit leaves u d (bit_or (x_at s 31) (shifted_word 0 (x_at s a) k)) (shift_on true k x) sized hi refl
      (ap₂ (λ m n. bit_or m (shifted_word 0 n k)) z ex ∙ or_zero_l (shifted_word 0 (word x) k) ∙ word-shl x k) kept)

  right_sets : {rest : List DraftEntry} {s : State} (n : ℤ) (t : Ty) (x : ℤ) (a d : ℕ) → length s.x ≡ 31 → d ≤ 25 → IsOf t x → x_at s a ≡ word x → Sets D (shift_code false false n t d a rest) s rest d (wrap t (shift_on false (shift_count n) x)) 2
  right_sets {s = s} n t x a d sized hi rx ex =
      let z : x_at s 31 ≡ 0 = get_or_past s.x 31 0 (omega (arith, sized)) in
      let k = shift_count n in
      let kind = shift_kind false (is_signed t) in
      settle_sets D L fit false t d (bit_or (x_at s 31) (shifted_word kind (x_at s a) k)) (shift_on false k x) sized hi refl
      (ap₂ (λ m n. bit_or m (shifted_word kind n k)) z ex ∙ or_zero_l (shifted_word kind (word x) k) ∙ shifted-word false (is_signed t) k x (in_range t x rx)) (shift-kept false k t x rx)

  pub shift_runs : {rest : List DraftEntry} {s : State} (left leaves : Bool) (n : ℤ) (w : Extent) (t : Ty) (x : ℤ) (a d : ℕ) → length s.x ≡ 31 → d ≤ 25 → (leaves ≡ true → left ≡ true)
      → (asked_extent left leaves w (Some t) ≡ Whole → IsOf t x) → (asked_extent left leaves w (Some t) ≡ Whole → leaves ≡ false → word (wrap t (shift_on left (shift_count n) x)) ≡ word (shift_on left (shift_count n) x)) → x_at s a ≡ word x
      → Sets D (shift_code (settles (within_type w t) left leaves) left n t d a rest) s rest d (loose_shift left n w (Some t) x) 4
  shift_runs {rest = rest} {s = s} true leaves n w t x a d sized hi only range kept ex = by (within_type w t) kept
    where
      by : (l : Bool) → (operand_extent l true leaves w (Some t) ≡ Whole → leaves ≡ false → word (wrap t (shift_on true (shift_count n) x)) ≡ word (shift_on true (shift_count n) x)) → Sets D (shift_code (settles l true leaves) true n t d a rest) s rest d (settled l true (Some t) (shift_on true (shift_count n) x)) 4
      by true k = set_more 4 (omega arith) (set_as (wide_wrap ty.U64 (shift_on true (shift_count n) x) refl) (left_sets false n t ty.U64 x a d sized hi (λ e. wide_wrap ty.U64 (shift_on true (shift_count n) x) refl) refl ex))
      by false k = set_more 4 (omega arith) (left_sets leaves n t t x a d sized hi (λ e. k (ap (λ b. operand_extent false true b w (Some t)) e) e) refl ex)
  shift_runs false true n w t x a d sized hi only range kept ex = absurd (let e = only refl in cc)
  shift_runs {rest = rest} {s = s} false false n w t x a d sized hi only range kept ex = by (within_type w t) range
    where
      by : (l : Bool) → (operand_extent l false false w (Some t) ≡ Whole → IsOf t x) → Sets D (shift_code (settles l false false) false n t d a rest) s rest d (settled l false (Some t) (shift_on false (shift_count n) x)) 4
      by true r = set_more 4 (omega arith) (right_sets n t x a d sized hi (r refl) ex)
      by false r = set_more 4 (omega arith) (right_sets n t x a d sized hi (r refl) ex)

  -- a cast of which so much is asked for
  pub cast_runs : {rest : List DraftEntry} {s : State} (low : Bool) (from t : Ty) (x : ℤ) (a p b e : ℕ) → length s.x ≡ 31 → b ≤ p → p < e → IsMade L p → x_at s a ≡ word x → Gets D L (word_code (convert_word low from t (reg_of L p) a) rest) s rest b e (reg_of L p) (loose_cast low (fits from t) t x) 4
  cast_runs {rest = rest} {s = s} low from t x a p b e sized le lt made ex = more D L 4 (omega arith) (gets D L p b e le lt made (by low (fits from t) refl))
    where
      top : reg_of L p < 31
      top = let hi = fit.high p made in omega (arith, hi)

      by : (l f : Bool) → fits from t ≡ f → Sets D (word_code (convert_word l from t (reg_of L p) a) rest) s rest (reg_of L p) (loose_cast l f t x) 1
      by true f ef = copied_sets D L fit (reg_of L p) a x sized top ex
      by false true ef = subst (λ q. Sets D (word_code (if q then copy_word (reg_of L p) a else extend_word t (reg_of L p) a) rest) s rest (reg_of L p) x 1) (sym ef) (copied_sets D L fit (reg_of L p) a x sized top ex)
      by false false ef = subst (λ q. Sets D (word_code (if q then copy_word (reg_of L p) a else extend_word t (reg_of L p) a) rest) s rest (reg_of L p) (wrap t x) 1) (sym ef) (extend_sets D L fit t (reg_of L p) a x sized top ex)
