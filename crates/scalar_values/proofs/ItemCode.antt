-- The code of operators, loads and branches, put together from that of the words which calls append.
use Rattle.std.proofs.Common.{◌≡◌, ℕ, ◌+◌, Bool, true, false, List, [], ◌∷◌, Option, Some, None, refl, sym, subst, ap, ◌∙◌, ◌<◌, ◌-◌, arith, ◌++◌}
use Rattle.std.specs.Prelude.{ℤ, not, if◌then◌else◌}
use Rattle.machine_model.specs.InstructionTable.{Listed}
use Rattle.a64_code.specs.Table.{sbfm, ubfm, subs, sub, orr, orn, csel}
use Rattle.kernel_tree.specs.declared.ops.Ty.{Ty}
use Rattle.kernel_tree.specs.declared.ops.UnaryOp.{UnaryOp}
use Rattle.kernel_tree.specs.declared.ops.BinaryOp.{BinaryOp}
use Rattle.kernel_tree.specs.declared.ops.CompareOp.{CompareOp}
use Rattle.kernel_tree.specs.declared.ops.Ty.TheVariants as ty
use Rattle.kernel_tree.specs.declared.ops.UnaryOp.TheVariants as unary
use Rattle.kernel_tree.specs.Wrap.{bits_of, is_signed}
use Rattle.kernel_meaning.specs.Operators.{shift_count}
use Rattle.kernel_meaning.specs.TypeValues.{fits}
use Rattle.label_fix.specs.Draft.{Drafted}
use Rattle.label_fix.specs.Emits.{Emits}
use Rattle.label_fix.specs.DraftRun.{Kind, Always, If, DraftEntry, Put, Branch, Place, word_of}
use Rattle.label_fix.specs.Finished.{is_plain}
use Rattle.scalar_words.specs.Words.{word_code, settle_word, copy_word, extending, extend_word, is_narrow, condition, at_type, operation_code}
use Rattle.value_code.specs.ItemWords.{Side, Number, Register, Product, Moved, abs_code, unary_code, shift_kind, shift_code, convert_word, compare_word, zero_kind, turned, same_sense, zero_test, branch_code, pick_code, load, load_code, sum_word, product_word, shift_word, operator_code, index_register, IsPlainIf, placed_code}
use Rattle.value_code.specs.Code.{signed_side}

-- ---- operators on one value

pub signed_abs : (leaves signed : Bool) (t : Ty) (d a x y z : ℕ) (u w : Listed) (rest : List DraftEntry) → signed ≡ true → x ≡ 26 → z ≡ 31 → y ≡ 26 → u ≡ word_of subs (x ∷ z ∷ 0 ∷ a ∷ 0 ∷ []) → w ≡ word_of csel (d ∷ y ∷ 10 ∷ a ∷ [])
    → Put u ∷ Put w ∷ word_code (settle_word leaves t d) rest ≡ abs_code leaves signed t d a rest
signed_abs leaves signed t d a x y z u w rest e0 e1 e2 e3 e4 e5 = rw (e4, e5, e1, e2, e3, e0) refl

pub unsigned_abs : (leaves signed : Bool) (t : Ty) (d a : ℕ) (rest : List DraftEntry) → signed ≡ false → word_code (copy_word d a) rest ≡ abs_code leaves signed t d a rest
unsigned_abs leaves signed t d a rest e = rw e refl

pub negated : (leaves : Bool) (op : UnaryOp) (t : Ty) (d a z : ℕ) (w : Listed) (rest : List DraftEntry) → op ≡ unary.Neg → z ≡ 31 → w ≡ word_of sub (d ∷ z ∷ 0 ∷ a ∷ 0 ∷ [])
    → Put w ∷ word_code (settle_word leaves t d) rest ≡ unary_code leaves op t d a rest
negated leaves op t d a z w rest e0 e1 e2 = rw (e2, e1, e0) refl

pub flipped : (leaves : Bool) (op : UnaryOp) (t : Ty) (d a z : ℕ) (w : Listed) (rest : List DraftEntry) → op ≡ unary.Flip → z ≡ 31 → w ≡ word_of orn (d ∷ z ∷ 0 ∷ a ∷ 0 ∷ [])
    → Put w ∷ word_code (settle_word leaves t d) rest ≡ unary_code leaves op t d a rest
flipped leaves op t d a z w rest e0 e1 e2 = rw (e2, e1, e0) refl

pub absolute : (leaves : Bool) (op : UnaryOp) (t : Ty) (d a : ℕ) (rest : List DraftEntry) → op ≡ unary.Abs → abs_code leaves (is_signed t) t d a rest ≡ unary_code leaves op t d a rest
absolute leaves op t d a rest e = rw e refl

-- ---- where a type is wanted, and where none is

pub at_none : (want : Option Ty) (code : Ty → List DraftEntry) (rest : List DraftEntry) → want ≡ None → rest ≡ at_type want code rest
at_none want code rest e = rw e refl

pub unary_at : (leaves : Bool) (op : UnaryOp) (want : Option Ty) (t : Ty) (d e a : ℕ) (rest : List DraftEntry) → want ≡ Some t → d ≡ e → unary_code leaves op t d a rest ≡ at_type want (λ t. unary_code leaves op t e a rest) rest
unary_at leaves op want t d e a rest e0 e1 = rw (e0, e1) refl

pub shift_at : (leaves left signed : Bool) (count sent : ℤ) (want : Option Ty) (t : Ty) (d e a n : ℕ) (w : Listed) (rest : List DraftEntry) → want ≡ Some t → d ≡ e → sent ≡ count → signed ≡ is_signed t → n ≡ shift_count sent → w ≡ word_of orr (d ∷ 31 ∷ n ∷ a ∷ shift_kind left signed ∷ [])
    → Put w ∷ word_code (settle_word leaves t d) rest ≡ at_type want (λ t. shift_code leaves left count t e a rest) rest
shift_at leaves left signed count sent want t d e a n w rest e0 e1 same e2 e3 e4 = rw (e4, e2, e3, same, e0, e1) refl

pub cast_at : (low : Bool) (from : Option Ty) (s t : Ty) (d e a : ℕ) (rest : List DraftEntry) → from ≡ Some s → d ≡ e → word_code (convert_word low s t d a) rest ≡ at_type from (λ s. word_code (convert_word low s t e a) rest) rest
cast_at low from s t d e a rest e0 e1 = rw (e0, e1) refl

pub load_none : (want : Option Ty) (d p r : ℕ) (rest : List DraftEntry) → want ≡ None → rest ≡ load_code want d p r rest
load_none want d p r rest e = rw e refl

pub load_some : (want : Option Ty) (t : Ty) (word : Listed) (d e p r : ℕ) (rest : List DraftEntry) → want ≡ Some t → word ≡ load t d p r → d ≡ e → Put word ∷ rest ≡ load_code want e p r rest
load_some want t word d e p r rest e0 e1 e2 = rw (e0, e1, e2) refl

pub load_plain : (t : Ty) (word : Listed) (d p r : ℕ) → word ≡ load t d p r → is_plain word ≡ true
load_plain t word d p r e = ap is_plain e ∙ plain t
  where
    plain : (t : Ty) → is_plain (load t d p r) ≡ true
    plain ty.I8 = refl
    plain ty.U8 = refl
    plain ty.I16 = refl
    plain ty.U16 = refl
    plain ty.I32 = refl
    plain ty.U32 = refl
    plain ty.I64 = refl
    plain ty.U64 = refl

-- ---- casts

pub copied_cast : (low : Bool) (s t : Ty) (d a : ℕ) (rest : List DraftEntry) → low ≡ true → word_code (copy_word d a) rest ≡ word_code (convert_word low s t d a) rest
copied_cast low s t d a rest e = rw e refl

pub copied_fit : (low : Bool) (s t : Ty) (d a : ℕ) (rest : List DraftEntry) → fits s t ≡ true → word_code (copy_word d a) rest ≡ word_code (convert_word low s t d a) rest
copied_fit true s t d a rest e = refl
copied_fit false s t d a rest e = rw e refl

pub copied_wide : (low : Bool) (s t : Ty) (d a : ℕ) (rest : List DraftEntry) → is_narrow t ≡ false → word_code (copy_word d a) rest ≡ word_code (convert_word low s t d a) rest
copied_wide true s t d a rest e = refl
copied_wide false s t d a rest e = wide (fits s t)
  where
    wide : (b : Bool) → word_code (copy_word d a) rest ≡ word_code (if b then copy_word d a else extend_word t d a) rest
    wide true = refl
    wide false = ap (λ n. word_code (if n then Some (extending t d a) else copy_word d a) rest) (sym e)

pub extended_cast : (low : Bool) (s t : Ty) (d a : ℕ) (w : Listed) (rest : List DraftEntry) → low ≡ false → fits s t ≡ false → is_narrow t ≡ true → w ≡ extending t d a → Put w ∷ rest ≡ word_code (convert_word low s t d a) rest
extended_cast low s t d a w rest e0 e1 e2 e3 = rw (e3, e0, e1, e2) refl

pub extending_plain : (t : Ty) (d a : ℕ) (w : Listed) → w ≡ extending t d a → is_plain w ≡ true
extending_plain t d a w e = ap is_plain e ∙ plain (is_signed t)
  where
    plain : (signed : Bool) → is_plain (if signed then word_of sbfm (d ∷ a ∷ (bits_of t - 1) ∷ 0 ∷ []) else word_of ubfm (d ∷ a ∷ (bits_of t - 1) ∷ 0 ∷ [])) ≡ true
    plain true = refl
    plain false = refl

-- ---- branches

pub tested : (op : CompareOp) (sense signed is : Bool) (number : Option ℕ) (a c to : ℕ) (k : Kind) (rest : List DraftEntry) → zero_test op number ≡ Some is → k ≡ zero_kind (same_sense sense is) a
    → Branch k to ∷ rest ≡ branch_code op sense signed number a c to rest
tested op sense signed is number a c to k rest e0 e1 = rw (e1, e0) refl

pub compared : (op : CompareOp) (sense signed : Bool) (want : Option Ty) (number : Option ℕ) (a c to k : ℕ) (w : Listed) (rest : List DraftEntry) → zero_test op number ≡ None → signed ≡ signed_side want → w ≡ compare_word number a c → k ≡ turned sense (condition op signed)
    → Put w ∷ Branch (If k) to ∷ rest ≡ branch_code op sense (signed_side want) number a c to rest
compared op sense signed want number a c to k w rest e0 e1 e2 e3 = rw (e2, e3, e1, e0) refl

-- ---- choices

pub chosen_word : (op : CompareOp) (signed : Bool) (want : Option Ty) (d e a b k : ℕ) (w : Listed) (rest : List DraftEntry) → w ≡ word_of csel (d ∷ a ∷ k ∷ b ∷ []) → d ≡ e → k ≡ condition op signed → signed ≡ signed_side want
    → Put w ∷ rest ≡ Put (word_of csel (e ∷ a ∷ condition op (signed_side want) ∷ b ∷ [])) ∷ rest
chosen_word op signed want d e a b k w rest e0 e1 e2 e3 = rw (e0, e1, e2, e3) refl

pub placed_here : (wanted : Bool) (n : ℕ) (rest : List DraftEntry) → wanted ≡ true → Place n ∷ rest ≡ placed_code wanted n rest
placed_here wanted n rest e = rw e refl

pub placed_not : (wanted : Bool) (n : ℕ) (rest : List DraftEntry) → wanted ≡ false → rest ≡ placed_code wanted n rest
placed_not wanted n rest e = rw e refl

-- ---- operators, by what their word takes as its right side

pub by_register : (side : Side) (leaves signed : Bool) (op : BinaryOp) (t : Ty) (d a c : ℕ) (rest : List DraftEntry) → side ≡ Register c → signed ≡ is_signed t
    → operation_code op signed d a c (word_code (settle_word leaves t d) rest) ≡ operator_code side leaves op t d a rest
by_register side leaves signed op t d a c rest e0 e1 = rw (e0, e1) refl

pub by_sum : (side : Side) (leaves : Bool) (op : BinaryOp) (t : Ty) (d a v : ℕ) (w : Listed) (rest : List DraftEntry) → side ≡ Number v → w ≡ sum_word op v d a
    → Put w ∷ word_code (settle_word leaves t d) rest ≡ operator_code side leaves op t d a rest
by_sum side leaves op t d a v w rest e0 e1 = rw (e0, e1) refl

pub by_product : (side : Side) (leaves : Bool) (op : BinaryOp) (t : Ty) (d a p q : ℕ) (w : Listed) (rest : List DraftEntry) → side ≡ Product p q → w ≡ product_word op d a p q
    → Put w ∷ word_code (settle_word leaves t d) rest ≡ operator_code side leaves op t d a rest
by_product side leaves op t d a p q w rest e0 e1 = rw (e0, e1) refl

pub by_moved : (side : Side) (leaves : Bool) (op : BinaryOp) (t : Ty) (d a kind n r : ℕ) (w : Listed) (rest : List DraftEntry) → side ≡ Moved kind n r → w ≡ shift_word op d a kind n r
    → Put w ∷ word_code (settle_word leaves t d) rest ≡ operator_code side leaves op t d a rest
by_moved side leaves op t d a kind n r w rest e0 e1 = rw (e0, e1) refl

pub at_side : (side : Side) (leaves : Bool) (op : BinaryOp) (want : Option Ty) (t : Ty) (d a : ℕ) (rest : List DraftEntry) → want ≡ Some t
    → operator_code side leaves op t d a rest ≡ at_type want (λ t. operator_code side leaves op t d a rest) rest
at_side side leaves op want t d a rest e = rw e refl

-- ---- indexes

pub no_offset : (o : Option Listed) (rest : List DraftEntry) → o ≡ None → rest ≡ word_code o rest
no_offset o rest e = rw e refl

pub index_stands : (o : Option Listed) (n : ℕ) → o ≡ None → n ≡ 9 → n ≡ index_register o
index_stands o n e f = rw (e, f) refl

pub offset_put : (o : Option Listed) (w : Listed) (rest : List DraftEntry) → o ≡ Some w → Put w ∷ rest ≡ word_code o rest
offset_put o w rest e = rw e refl

pub offset_stands : (o : Option Listed) (w : Listed) (n : ℕ) → o ≡ Some w → n ≡ 26 → n ≡ index_register o
offset_stands o w n e f = rw (e, f) refl

pub offset_plain : (o : Option Listed) (w : Listed) → o ≡ Some w → IsPlainIf o → is_plain w ≡ true
offset_plain o w e h = subst IsPlainIf e h

-- ---- labels

pub still_below : (to n m : ℕ) → to < n → m ≡ n → to < m
still_below to n m h e = subst (λ k. to < k) (sym e) h

pub next_given : (end n m : ℕ) → end < n → m ≡ n → end < m
next_given end n m h e = subst (λ k. end < k) (sym e) h

pub first_place : (other end n m k : ℕ) → end ≡ other + 1 → end < n → m ≡ n → k ≡ m → other < k
first_place other end n m k e h f g = omega arith

pub second_place : (end n m k p q : ℕ) → end < n → m ≡ n → k ≡ m → p ≡ k → q ≡ p → end < q
second_place end n m k p q h e f g i = omega arith

pub picked : (d e a b other end : ℕ) (rest : List DraftEntry) → d ≡ e → end ≡ other + 1 → word_code (copy_word d a) (Branch Always end ∷ Place other ∷ word_code (copy_word d b) (Place end ∷ rest)) ≡ pick_code e a b other rest
picked d e a b other end rest e0 e1 = rw (e0, e1) refl

pub no_not : (b v : Bool) → v ≡ not b → v ≡ true → b ≡ false
no_not true v e f = absurd cc
no_not false v e f = refl

pub not_not : (b v : Bool) → v ≡ not b → v ≡ false → b ≡ true
not_not true v e f = refl
not_not false v e f = absurd cc

-- ---- what calls emit, one after another

pub pick_emits : (d d1 d2 d3 d4 d5 : Drafted) (r e a b other end : ℕ) → r ≡ e → end ≡ other + 1 → Emits d d1 d.labels (word_code (copy_word r a)) → Emits d1 d2 d1.labels (λ rest. Branch Always end ∷ rest) → Emits d2 d3 d2.labels (λ rest. Place other ∷ rest) → Emits d3 d4 d3.labels (word_code (copy_word r b)) → Emits d4 d5 d4.labels (λ rest. Place end ∷ rest)
    → Emits d d5 d.labels (pick_code e a b other)
pick_emits d d1 d2 d3 d4 d5 r e a b other end f g p q s t u = record {
  labels = u.labels ∙ t.labels ∙ s.labels ∙ q.labels ∙ p.labels;
  code = λ rest. u.code rest ∙ t.code _ ∙ s.code _ ∙ q.code _ ∙ p.code _ ∙ ap (λ l. d.entries ++ l) (picked r e a b other end rest f g);
}

pub compared_emits : (d d1 d2 : Drafted) (op : CompareOp) (sense signed : Bool) (want : Option Ty) (number : Option ℕ) (a c to k : ℕ) (w : Listed) → zero_test op number ≡ None → signed ≡ signed_side want → w ≡ compare_word number a c → k ≡ turned sense (condition op signed)
    → Emits d d1 d.labels (λ rest. Put w ∷ rest) → Emits d1 d2 d1.labels (λ rest. Branch (If k) to ∷ rest) → Emits d d2 d.labels (branch_code op sense (signed_side want) number a c to)
compared_emits d d1 d2 op sense signed want number a c to k w e0 e1 e2 e3 p q = record {
  labels = q.labels ∙ p.labels;
  code = λ rest. q.code rest ∙ p.code _ ∙ ap (λ l. d.entries ++ l) (compared op sense signed want number a c to k w rest e0 e1 e2 e3);
}
