-- What the calls for the parts of an expression emit, one after another, is the code of the expression.
use Rattle.std.proofs.Common.{◌≡◌, ℕ, ◌+◌, ◌++◌, Bool, true, false, List, Option, Some, None, refl, sym, ap, ◌∙◌}
use Rattle.std.specs.Prelude.{ℤ, not, if◌then◌else◌, [], ◌∷◌, option_map, option_and_then, IfOk}
use Rattle.std.specs.declared.result.Result.{Result}
use Rattle.machine_model.specs.InstructionTable.{Listed}
use Rattle.a64_code.specs.Table.{csel}
use Rattle.kernel_tree.specs.declared.ops.Ty.{Ty}
use Rattle.kernel_tree.specs.declared.ops.UnaryOp.{UnaryOp}
use Rattle.kernel_tree.specs.declared.ops.BinaryOp.{BinaryOp}
use Rattle.kernel_tree.specs.declared.ops.CompareOp.{CompareOp}
use Rattle.kernel_tree.specs.Plain.{Term, Element, Unary, Operation, Shift, Conversion, Choice, Comparison, Both, Either}
use Rattle.kernel_tree.specs.Items.{term_size, index_items, stream_offset}
use Rattle.kernel_tree.specs.Typing.{Scope, own, side_type, lookup, element_type, index_type}
use Rattle.label_fix.specs.Draft.{Drafted}
use Rattle.label_fix.specs.Emits.{Emits}
use Rattle.label_fix.specs.DraftRun.{Put, ins}
use Rattle.scalar_words.specs.Layout.{Layout, Homes, reg_of, register_at}
use Rattle.scalar_words.specs.Words.{word_code, at_type, condition}
use Rattle.value_code.specs.declared.extent.Extent.{Extent}
use Rattle.value_code.specs.declared.extent.Extent.TheVariants.{Whole}
use Rattle.value_code.specs.Extents.{within_type, converted_extent}
use Rattle.value_code.specs.Leaving.{unary_asks, unary_settles, binary_asks, binary_settles, shift_asks, shift_settles}
use Rattle.value_code.specs.ValueRegisters.{home}
use Rattle.value_code.specs.ItemWords.{Side, unary_code, shift_code, convert_word, operator_code, branch_code, placed_code, compare_word, pick_code, load_code, index_word}
use Rattle.value_code.specs.Code.{labels, signed_side, compared_number, added_number, is_fused, is_led, taken_side, other_home, right_code, side_code, loose_code, parts_code, jump_code, one_of_code, sides_code, flag_condition, place_of, index_labels, index_code, index_home}
use Rattle.value_code.proofs.TermCode.{unary_is, shift_is, cast_is, choice_is, choice_labels, both_is, either_is, joined_labels, compare_is, compared_labels, parts_binary, operation_labels, parts_shift, parts_cast, chosen_is, chosen_labels, two_more, compared_size, placed_is, placed_labels, computed_is, offset_code, offset_labels, computed_labels}
use Rattle.value_code.proofs.IndexCode.{index_is}
use Rattle.scalar_values.proofs.TermKinds.{picked_is, picked_labels}
use Rattle.scalar_values.proofs.OperatorCode.{two_is, led_sides, straight_sides}
use Rattle.scalar_values.proofs.TermCalls.{two_labels}

-- ---- values

pub unary_emits : (L : Layout) (hs : Homes) (s : Scope) (w asked : Extent) (want : Option Ty) (b item : ℕ) (d d1 d2 : Drafted) (op : UnaryOp) (e whole : Term) (leaves : Bool) (a : ℕ) → whole ≡ Unary op e → asked ≡ unary_asks s want op e w → leaves ≡ unary_settles s want op e w → item ≡ b + term_size s.index e → a ≡ home L hs s.index b e
    → Emits d d1 (d.labels + labels s.index e) (loose_code L hs s asked want b d.labels e) → Emits d1 d2 d1.labels (λ rest. at_type want (λ t. unary_code leaves op t (reg_of L item) a rest) rest) → Emits d d2 (d.labels + labels s.index whole) (loose_code L hs s w want b d.labels whole)
unary_emits L hs s w asked want b item d d1 d2 op e whole leaves a is f g i h p q = record {
  labels = q.labels ∙ p.labels ∙ ap (λ t. d.labels + labels s.index t) (sym is);
  code = λ rest. q.code rest ∙ p.code _ ∙ ap (λ l. d.entries ++ l) (unary_is L hs s w asked want b d.labels op e whole leaves (reg_of L item) a rest is f g (ap (reg_of L) i) h);
}

pub shift_emits : (L : Layout) (hs : Homes) (s : Scope) (w asked : Extent) (want : Option Ty) (b item : ℕ) (d d1 d2 : Drafted) (left : Bool) (e whole : Term) (count sent : ℤ) (leaves : Bool) (a : ℕ) → whole ≡ Shift left e count → sent ≡ count → asked ≡ shift_asks s want left e sent w → leaves ≡ shift_settles s want left e sent w → item ≡ b + term_size s.index e → a ≡ home L hs s.index b e
    → Emits d d1 (d.labels + labels s.index e) (loose_code L hs s asked want b d.labels e) → Emits d1 d2 d1.labels (λ rest. at_type want (λ t. shift_code leaves left sent t (reg_of L item) a rest) rest) → Emits d d2 (d.labels + labels s.index whole) (loose_code L hs s w want b d.labels whole)
shift_emits L hs s w asked want b item d d1 d2 left e whole count sent leaves a is same f g i h p q = record {
  labels = q.labels ∙ p.labels ∙ ap (λ t. d.labels + labels s.index t) (sym is);
  code = λ rest. q.code rest ∙ p.code _ ∙ ap (λ l. d.entries ++ l) (shift_is L hs s w asked want b d.labels left e whole count sent leaves (reg_of L item) a rest is same f g (ap (reg_of L) i) h);
}

pub cast_emits : (L : Layout) (hs : Homes) (s : Scope) (w asked : Extent) (from want : Option Ty) (b item : ℕ) (d d1 d2 : Drafted) (e whole : Term) (t : Ty) (low : Bool) (a : ℕ) → whole ≡ Conversion e t → from ≡ own s e → asked ≡ converted_extent w from t → low ≡ within_type w t → item ≡ b + term_size s.index e → a ≡ home L hs s.index b e
    → Emits d d1 (d.labels + labels s.index e) (loose_code L hs s asked from b d.labels e) → Emits d1 d2 d1.labels (λ rest. at_type from (λ u. word_code (convert_word low u t (reg_of L item) a) rest) rest) → Emits d d2 (d.labels + labels s.index whole) (loose_code L hs s w want b d.labels whole)
cast_emits L hs s w asked from want b item d d1 d2 e whole t low a is f g k i h p q = record {
  labels = q.labels ∙ p.labels ∙ ap (λ t. d.labels + labels s.index t) (sym is);
  code = λ rest. q.code rest ∙ p.code _ ∙ ap (λ l. d.entries ++ l) (cast_is L hs s w asked from want b d.labels e whole t low (reg_of L item) a rest is f g k (ap (reg_of L) i) h);
}

pub choice_emits : (L : Layout) (hs : Homes) (s : Scope) (w : Extent) (want : Option Ty) (b item item2 : ℕ) (d d1 d2 d3 : Drafted) (c x y whole : Term) (p q : ℕ) → whole ≡ Choice c x y → p ≡ home L hs s.index b x → q ≡ home L hs s.index item y → item ≡ b + term_size s.index x → item2 ≡ item + term_size s.index y
    → Emits d d1 (d.labels + labels s.index x) (loose_code L hs s w want b d.labels x) → Emits d1 d2 (d1.labels + labels s.index y) (loose_code L hs s w want item d1.labels y) → Emits d2 d3 (d2.labels + (2 + labels s.index c)) (one_of_code L hs s item2 d2.labels c p q)
    → Emits d d3 (d.labels + labels s.index whole) (loose_code L hs s w want b d.labels whole)
choice_emits L hs s w want b item item2 d d1 d2 d3 c x y whole p q is hp hq i j e f g = record {
  labels = choice_labels s.index d.labels d1.labels d2.labels d3.labels c x y whole is e.labels f.labels g.labels;
  code = λ rest. g.code rest ∙ f.code _ ∙ e.code _ ∙ ap (λ l. d.entries ++ l) (choice_is L hs s w want b d.labels item d1.labels item2 d2.labels c x y whole p q rest is hp hq j f.labels i e.labels);
}

pub two_emits : (L : Layout) (hs : Homes) (s : Scope) (w asked : Extent) (want : Option Ty) (b item : ℕ) (d d1 d2 : Drafted) (op : BinaryOp) (x y : Term) (side : Side) (leaves : Bool) (r a : ℕ) → asked ≡ binary_asks s want op x y w → side ≡ taken_side L hs s op asked want b x y → leaves ≡ binary_settles s want op x y w → r ≡ reg_of L item → item ≡ b + term_size s.index x + term_size s.index y → a ≡ other_home L hs s op asked want b x y
    → Emits d d1 (d.labels + labels s.index (Operation op x y)) (sides_code L hs s asked want b d.labels op x y) → Emits d1 d2 d1.labels (λ rest. at_type want (λ t. operator_code side leaves op t r a rest) rest) → Emits d d2 (d.labels + labels s.index (Operation op x y)) (loose_code L hs s w want b d.labels (Operation op x y))
two_emits L hs s w asked want b item d d1 d2 op x y side leaves r a f g k h i j p q = record {
  labels = q.labels ∙ p.labels;
  code = λ rest. q.code rest ∙ p.code _ ∙ ap (λ l. d.entries ++ l) (two_is L hs s w asked want b d.labels op x y side leaves r a rest f g k (h ∙ ap (reg_of L) i) j);
}

pub led_emits : (L : Layout) (hs : Homes) (s : Scope) (w : Extent) (want : Option Ty) (b item : ℕ) (d d1 d2 : Drafted) (op : BinaryOp) (x y : Term) → is_led L hs s op w want b x y ≡ true → item ≡ b + term_size s.index x
    → Emits d d1 (d.labels + labels s.index x) (parts_code L hs s w want b d.labels x) → Emits d1 d2 (d1.labels + labels s.index y) (loose_code L hs s w want item d1.labels y) → Emits d d2 (d.labels + labels s.index (Operation op x y)) (sides_code L hs s w want b d.labels op x y)
led_emits L hs s w want b item d d1 d2 op x y led i p q = record {
  labels = two_labels d.labels (labels s.index x) (labels s.index y) d1.labels d2.labels p.labels q.labels;
  code = λ rest. q.code rest ∙ p.code _ ∙ ap (λ l. d.entries ++ l) (led_sides L hs s w want b d.labels item d1.labels op x y rest led i p.labels);
}

pub straight_emits : (L : Layout) (hs : Homes) (s : Scope) (w : Extent) (want : Option Ty) (b item : ℕ) (d d1 d2 : Drafted) (op : BinaryOp) (x y : Term) → is_led L hs s op w want b x y ≡ false → item ≡ b + term_size s.index x
    → Emits d d1 (d.labels + labels s.index x) (loose_code L hs s w want b d.labels x) → Emits d1 d2 (d1.labels + labels s.index y) (side_code (added_number op want y) (is_fused s op w want y) (loose_code L hs s w want item d1.labels y) (parts_code L hs s w want item d1.labels y)) → Emits d d2 (d.labels + labels s.index (Operation op x y)) (sides_code L hs s w want b d.labels op x y)
straight_emits L hs s w want b item d d1 d2 op x y led i p q = record {
  labels = two_labels d.labels (labels s.index x) (labels s.index y) d1.labels d2.labels p.labels q.labels;
  code = λ rest. q.code rest ∙ p.code _ ∙ ap (λ l. d.entries ++ l) (straight_sides L hs s w want b d.labels item d1.labels op x y rest led i p.labels);
}

-- ---- values that stand in the word of their user

pub binary_parts : (L : Layout) (hs : Homes) (s : Scope) (w asked : Extent) (want : Option Ty) (b item : ℕ) (d d1 d2 : Drafted) (op : BinaryOp) (x y whole : Term) → whole ≡ Operation op x y → asked ≡ binary_asks s want op x y w → item ≡ b + term_size s.index x
    → Emits d d1 (d.labels + labels s.index x) (loose_code L hs s asked want b d.labels x) → Emits d1 d2 (d1.labels + labels s.index y) (loose_code L hs s asked want item d1.labels y) → Emits d d2 (d.labels + labels s.index whole) (parts_code L hs s w want b d.labels whole)
binary_parts L hs s w asked want b item d d1 d2 op x y whole is f i p q = record {
  labels = operation_labels s.index d.labels d1.labels d2.labels op x y whole is p.labels q.labels;
  code = λ rest. q.code rest ∙ p.code _ ∙ ap (λ l. d.entries ++ l) (parts_binary L hs s w asked want b d.labels item d1.labels op x y whole rest is f i p.labels);
}

pub shift_parts : (L : Layout) (hs : Homes) (s : Scope) (w asked : Extent) (want : Option Ty) (b : ℕ) (d d1 : Drafted) (left : Bool) (e whole : Term) (count sent : ℤ) → whole ≡ Shift left e count → sent ≡ count → asked ≡ shift_asks s want left e sent w
    → Emits d d1 (d.labels + labels s.index e) (loose_code L hs s asked want b d.labels e) → Emits d d1 (d.labels + labels s.index whole) (parts_code L hs s w want b d.labels whole)
shift_parts L hs s w asked want b d d1 left e whole count sent is same f p = record {
  labels = p.labels ∙ ap (λ t. d.labels + labels s.index t) (sym is);
  code = λ rest. p.code rest ∙ ap (λ l. d.entries ++ l) (parts_shift L hs s w asked want b d.labels left e whole count sent rest is same f);
}

pub cast_parts : (L : Layout) (hs : Homes) (s : Scope) (w asked : Extent) (from want : Option Ty) (b : ℕ) (d d1 : Drafted) (e whole : Term) (t : Ty) → whole ≡ Conversion e t → from ≡ own s e → asked ≡ converted_extent w from t
    → Emits d d1 (d.labels + labels s.index e) (loose_code L hs s asked from b d.labels e) → Emits d d1 (d.labels + labels s.index whole) (parts_code L hs s w want b d.labels whole)
cast_parts L hs s w asked from want b d d1 e whole t is f g p = record {
  labels = p.labels ∙ ap (λ t. d.labels + labels s.index t) (sym is);
  code = λ rest. p.code rest ∙ ap (λ l. d.entries ++ l) (parts_cast L hs s w asked from want b d.labels e whole t rest is f g);
}

-- ---- conditions

pub compare_emits : (L : Layout) (hs : Homes) (s : Scope) (sense : Bool) (to : ℕ) (want : Option Ty) (b : ℕ) (d d1 d2 : Drafted) (op : CompareOp) (x y whole : Term) (number : Option ℕ) (a c : ℕ) → whole ≡ Comparison op x y → want ≡ side_type s x y → number ≡ compared_number want y → a ≡ home L hs s.index b x → c ≡ home L hs s.index (b + term_size s.index x) y
    → Emits d d1 (d.labels + labels s.index x + labels s.index y) (λ rest. loose_code L hs s Whole want b d.labels x (right_code number (loose_code L hs s Whole want (b + term_size s.index x) (d.labels + labels s.index x) y) rest)) → Emits d1 d2 d1.labels (branch_code op sense (signed_side want) number a c to)
    → Emits d d2 (d.labels + labels s.index whole) (jump_code L hs s sense to b d.labels whole)
compare_emits L hs s sense to want b d d1 d2 op x y whole number a c is f g h k p q = record {
  labels = compared_labels s.index d.labels d2.labels op x y whole is (q.labels ∙ p.labels);
  code = λ rest. q.code rest ∙ p.code _ ∙ ap (λ l. d.entries ++ l) (compare_is L hs s sense to want b d.labels op x y whole number a c rest is f g h k);
}

pub both_emits : (L : Layout) (hs : Homes) (s : Scope) (sense : Bool) (to over first b item : ℕ) (d d1 d2 d3 d4 : Drafted) (x y : Term) → first ≡ (if sense then over else to) → over ≡ d.labels → d1.labels ≡ d.labels + 1 → d1.entries ≡ d.entries → item ≡ b + term_size s.index x
    → Emits d1 d2 (d1.labels + labels s.index x) (jump_code L hs s false first b d1.labels x) → Emits d2 d3 (d2.labels + labels s.index y) (jump_code L hs s sense to item d2.labels y) → Emits d3 d4 d3.labels (placed_code sense over) → Emits d d4 (d.labels + labels s.index (Both x y)) (jump_code L hs s sense to b d.labels (Both x y))
both_emits L hs s sense to over first b item d d1 d2 d3 d4 x y e1 e2 e3 e4 e5 p q r = record {
  labels = joined_labels d.labels d1.labels d2.labels d3.labels d4.labels (labels s.index x) (labels s.index y) e3 p.labels q.labels r.labels;
  code = λ rest. r.code rest ∙ q.code _ ∙ p.code _
      ∙ ap (λ l. d1.entries ++ l) (both_is L hs s sense to over first b d.labels item d1.labels d2.labels x y rest e1 e2 e3 e5 p.labels)
      ∙ ap (λ l. l ++ jump_code L hs s sense to b d.labels (Both x y) rest) e4;
}

pub either_emits : (L : Layout) (hs : Homes) (s : Scope) (sense : Bool) (to over first b item : ℕ) (d d1 d2 d3 d4 : Drafted) (x y : Term) → first ≡ (if sense then to else over) → over ≡ d.labels → d1.labels ≡ d.labels + 1 → d1.entries ≡ d.entries → item ≡ b + term_size s.index x
    → Emits d1 d2 (d1.labels + labels s.index x) (jump_code L hs s true first b d1.labels x) → Emits d2 d3 (d2.labels + labels s.index y) (jump_code L hs s sense to (item + 1) d2.labels y) → Emits d3 d4 d3.labels (placed_code (not sense) over) → Emits d d4 (d.labels + labels s.index (Either x y)) (jump_code L hs s sense to b d.labels (Either x y))
either_emits L hs s sense to over first b item d d1 d2 d3 d4 x y e1 e2 e3 e4 e5 p q r = record {
  labels = joined_labels d.labels d1.labels d2.labels d3.labels d4.labels (labels s.index x) (labels s.index y) e3 p.labels q.labels r.labels;
  code = λ rest. r.code rest ∙ q.code _ ∙ p.code _
      ∙ ap (λ l. d1.entries ++ l) (either_is L hs s sense to over first b d.labels item d1.labels d2.labels x y rest e1 e2 e3 e5 p.labels)
      ∙ ap (λ l. l ++ jump_code L hs s sense to b d.labels (Either x y) rest) e4;
}

-- ---- one of two registers

pub chosen_emits : (L : Layout) (hs : Homes) (s : Scope) (want : Option Ty) (b item : ℕ) (d d1 d2 d3 d4 d5 : Drafted) (op : CompareOp) (x y whole : Term) (number : Option ℕ) (word : Listed) (a c p q : ℕ) → whole ≡ Comparison op x y → want ≡ side_type s x y → number ≡ compared_number want y → word ≡ compare_word number a c → a ≡ home L hs s.index b x → c ≡ home L hs s.index (b + term_size s.index x) y → item ≡ b + term_size s.index x + term_size s.index y
    → d1.labels ≡ d.labels + 1 → d1.entries ≡ d.entries → d2.labels ≡ d1.labels + 1 → d2.entries ≡ d1.entries
    → Emits d2 d3 (d2.labels + labels s.index x + labels s.index y) (λ rest. loose_code L hs s Whole want b d2.labels x (right_code number (loose_code L hs s Whole want (b + term_size s.index x) (d2.labels + labels s.index x) y) rest)) → Emits d3 d4 d3.labels (λ rest. Put word ∷ rest) → Emits d4 d5 d4.labels (λ rest. ins csel (reg_of L (item + 1) ∷ p ∷ condition op (signed_side want) ∷ q ∷ []) ∷ rest)
    → Emits d d5 (d.labels + (2 + labels s.index whole)) (one_of_code L hs s b d.labels whole p q)
chosen_emits L hs s want b item d d1 d2 d3 d4 d5 op x y whole number word a c p q is e1 e2 e3 e4 e5 i n1 k1 n2 k2 f g h = record {
  labels = chosen_labels s.index d.labels d1.labels d2.labels d3.labels d4.labels d5.labels op x y whole is n1 n2 f.labels g.labels h.labels;
  code = λ rest. h.code rest ∙ g.code _ ∙ f.code _
      ∙ ap (λ l. d2.entries ++ l) (chosen_is L hs s want b d.labels d2.labels op x y whole number word a c (reg_of L (item + 1)) p q rest is e1 e2 e3 e4 e5 (two_more d.labels d1.labels d2.labels n1 n2) (ap (reg_of L) (compared_size s.index b item op x y whole is i)))
      ∙ ap (λ l. l ++ one_of_code L hs s b d.labels whole p q rest) (k2 ∙ k1);
}

pub picked_emits : (L : Layout) (hs : Homes) (s : Scope) (b item other : ℕ) (d d1 d2 d3 d4 : Drafted) (c : Term) (p q : ℕ) → flag_condition s c ≡ None → other ≡ d.labels → item ≡ b + term_size s.index c → d1.labels ≡ d.labels + 1 → d1.entries ≡ d.entries → d2.labels ≡ d1.labels + 1 → d2.entries ≡ d1.entries
    → Emits d2 d3 (d2.labels + labels s.index c) (jump_code L hs s false other b d2.labels c) → Emits d3 d4 d3.labels (pick_code (reg_of L item) p q other) → Emits d d4 (d.labels + (2 + labels s.index c)) (one_of_code L hs s b d.labels c p q)
picked_emits L hs s b item other d d1 d2 d3 d4 c p q none o i n1 k1 n2 k2 f g = record {
  labels = picked_labels d.labels (labels s.index c) d1.labels d2.labels d3.labels d4.labels n1 n2 f.labels g.labels;
  code = λ rest. g.code rest ∙ f.code _
      ∙ ap (λ l. d2.entries ++ l) (picked_is L hs s b d.labels d2.labels item other c p q rest none o (two_more d.labels d1.labels d2.labels n1 n2) i)
      ∙ ap (λ l. l ++ one_of_code L hs s b d.labels c p q rest) (k2 ∙ k1);
}

-- ---- elements and their indexes

pub placed_emits : (L : Layout) (hs : Homes) (s : Scope) (w : Extent) (want : Option Ty) (b : ℕ) (d d1 : Drafted) (a : List ℕ) (e : Term) (t : Option Ty) (p r : ℕ) → t ≡ option_and_then element_type (lookup s a) → place_of L (register_at hs a) (option_and_then element_type (lookup s a)) (stream_offset s.index e) ≡ Some p → r ≡ 9
    → Emits d d1 d.labels (load_code t (reg_of L b) p r) → Emits d d1 (d.labels + labels s.index (Element a e)) (loose_code L hs s w want b d.labels (Element a e))
placed_emits L hs s w want b d d1 a e t p r f g h k = record {
  labels = k.labels ∙ placed_labels L hs s d.labels a e p g;
  code = λ rest. k.code rest ∙ ap (λ l. d.entries ++ l) (placed_is L hs s w want b d.labels a e t (reg_of L b) p r rest f g refl h);
}

pub element_emits : (L : Layout) (hs : Homes) (s : Scope) (w : Extent) (want : Option Ty) (b item : ℕ) (d d1 d2 : Drafted) (a : List ℕ) (e : Term) (t : Option Ty) (q x : ℕ) → t ≡ option_and_then element_type (lookup s a) → place_of L (register_at hs a) (option_and_then element_type (lookup s a)) (stream_offset s.index e) ≡ None → item ≡ b + index_items s.index e → q ≡ register_at hs a → x ≡ index_home L hs s b e
    → Emits d d1 (d.labels + index_labels s.index e) (index_code L hs s b d.labels e) → Emits d1 d2 d1.labels (load_code t (reg_of L item) q x) → Emits d d2 (d.labels + labels s.index (Element a e)) (loose_code L hs s w want b d.labels (Element a e))
element_emits L hs s w want b item d d1 d2 a e t q x f g i h k m n = record {
  labels = n.labels ∙ m.labels;
  code = λ rest. n.code rest ∙ m.code _ ∙ ap (λ l. d.entries ++ l) (computed_is L hs s w want b d.labels a e t (reg_of L item) q x rest f g (ap (reg_of L) i) h k);
}

pub offset_emits : (L : Layout) (hs : Homes) (s : Scope) (b : ℕ) (d d1 : Drafted) (e : Term) (word : Option Listed) → Some word ≡ option_map index_word (stream_offset s.index e) → Emits d d1 d.labels (word_code word) → Emits d d1 (d.labels + index_labels s.index e) (index_code L hs s b d.labels e)
offset_emits L hs s b d d1 e word f p = record {
  labels = p.labels ∙ offset_labels (stream_offset s.index e) word d.labels (labels s.index e) f;
  code = λ rest. p.code rest ∙ ap (λ l. d.entries ++ l) (offset_code (stream_offset s.index e) word (loose_code L hs s Whole (index_type s e) b d.labels e) rest f);
}

pub index_emits : (L : Layout) (hs : Homes) (s : Scope) (b : ℕ) (d d1 : Drafted) (e : Term) (want : Option Ty) → option_map index_word (stream_offset s.index e) ≡ None → want ≡ index_type s e → Emits d d1 (d.labels + labels s.index e) (loose_code L hs s Whole want b d.labels e) → Emits d d1 (d.labels + index_labels s.index e) (index_code L hs s b d.labels e)
index_emits L hs s b d d1 e want none f p = record {
  labels = p.labels ∙ computed_labels (stream_offset s.index e) d.labels (labels s.index e) none;
  code = λ rest. p.code rest ∙ ap (λ l. d.entries ++ l) (index_is L hs s b d.labels e want rest none f);
}

-- ---- the items of an expression that has been taken apart

pub item_as : (i : Option (List ℕ)) (b last : ℕ) (whole e : Term) → whole ≡ e → last ≡ b + term_size i e → last ≡ b + term_size i whole
item_as i b last whole e is h = h ∙ ap (λ t. b + term_size i t) (sym is)

pub home_as : {T E : Type 0} (L : Layout) (hs : Homes) (i : Option (List ℕ)) (b : ℕ) (whole e : Term) (number : T → ℕ) (r : Result T E) → whole ≡ e → IfOk r (λ v. number v ≡ home L hs i b e) → IfOk r (λ v. number v ≡ home L hs i b whole)
home_as L hs i b whole e number r is h = rw is h
