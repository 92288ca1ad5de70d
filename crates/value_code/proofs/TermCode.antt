-- The code of expressions and conditions, put together from that of their parts.
use Rattle.std.proofs.Common.{◌≡◌, ℕ, ◌+◌, Bool, true, false, List, Option, Some, None, refl, ap, ◌∙◌, add-zero, arith}
use Rattle.std.specs.Prelude.{ℤ, not, if◌then◌else◌, [], ◌∷◌, option_map, option_and_then, unwrap_or, OnOk}
use Rattle.std.specs.Result.{result_and}
use Rattle.std.specs.declared.result.Result.{Result}
use Rattle.std.specs.declared.result.Result.TheVariants.{Ok, Err}
use Rattle.machine_model.specs.InstructionTable.{Listed}
use Rattle.kernel_tree.specs.declared.ops.Ty.{Ty}
use Rattle.kernel_tree.specs.declared.ops.UnaryOp.{UnaryOp}
use Rattle.kernel_tree.specs.declared.ops.BinaryOp.{BinaryOp}
use Rattle.kernel_tree.specs.declared.ops.CompareOp.{CompareOp}
use Rattle.kernel_tree.specs.Plain.{Term, Literal, Element, Unary, Operation, Shift, Conversion, Comparison, Both, Either, Choice}
use Rattle.kernel_tree.specs.Items.{literal_value, term_size, index_items, stream_offset}
use Rattle.kernel_tree.specs.Typing.{Scope, lookup, own, element_type, index_type, side_type}
use Rattle.label_fix.specs.DraftRun.{DraftEntry, Put, ins}
use Rattle.scalar_words.specs.Layout.{Layout, Homes, reg_of, register_at}
use Rattle.scalar_words.specs.Words.{word_code, at_type, condition}
use Rattle.a64_code.specs.Table.{csel}
use Rattle.value_code.specs.declared.extent.Extent.{Extent}
use Rattle.value_code.specs.Extents.{Whole, within_type, converted_extent}
use Rattle.value_code.specs.Leaving.{unary_asks, binary_asks, shift_asks, unary_settles, shift_settles}
use Rattle.value_code.specs.ValueRegisters.{home}
use Rattle.value_code.specs.ItemWords.{convert_word, unary_code, shift_code, load_code, index_word, compare_word, branch_code, placed_code}
use Rattle.value_code.specs.Code.{labels, signed_side, compared_number, IsLiteral, place_of, placed_index, number_register, side_code, right_code, loose_code, parts_code, jump_code, one_of_code, inner_labels, number_code, index_code, index_home}
use Rattle.value_code.proofs.NearOffsets.{no_items}

pub unary_is : (L : Layout) (hs : Homes) (s : Scope) (w asked : Extent) (want : Option Ty) (b n : ℕ) (op : UnaryOp) (e whole : Term) (leaves : Bool) (d a : ℕ) (rest : List DraftEntry) → whole ≡ Unary op e → asked ≡ unary_asks s want op e w → leaves ≡ unary_settles s want op e w → d ≡ reg_of L (b + term_size s.index e) → a ≡ home L hs s.index b e
    → loose_code L hs s asked want b n e (at_type want (λ t. unary_code leaves op t d a rest) rest) ≡ loose_code L hs s w want b n whole rest
unary_is L hs s w asked want b n op e whole leaves d a rest e0 e1 e2 e3 e4 = rw (e0, e2, e3, e4, e1) refl

-- the count of a shift comes to its functions as `sent`
pub shift_is : (L : Layout) (hs : Homes) (s : Scope) (w asked : Extent) (want : Option Ty) (b n : ℕ) (left : Bool) (e whole : Term) (count sent : ℤ) (leaves : Bool) (d a : ℕ) (rest : List DraftEntry) → whole ≡ Shift left e count → sent ≡ count → asked ≡ shift_asks s want left e sent w → leaves ≡ shift_settles s want left e sent w → d ≡ reg_of L (b + term_size s.index e) → a ≡ home L hs s.index b e
    → loose_code L hs s asked want b n e (at_type want (λ t. shift_code leaves left sent t d a rest) rest) ≡ loose_code L hs s w want b n whole rest
shift_is L hs s w asked want b n left e whole count sent leaves d a rest e0 same e1 e2 e3 e4 = rw (e0, e2, e3, e4, e1, same) refl

pub cast_is : (L : Layout) (hs : Homes) (s : Scope) (w asked : Extent) (from want : Option Ty) (b n : ℕ) (e whole : Term) (t : Ty) (low : Bool) (d a : ℕ) (rest : List DraftEntry) → whole ≡ Conversion e t → from ≡ own s e → asked ≡ converted_extent w from t → low ≡ within_type w t → d ≡ reg_of L (b + term_size s.index e) → a ≡ home L hs s.index b e
    → loose_code L hs s asked from b n e (at_type from (λ u. word_code (convert_word low u t d a) rest) rest) ≡ loose_code L hs s w want b n whole rest
cast_is L hs s w asked from want b n e whole t low d a rest e0 e1 e2 e3 e4 e5 = rw (e0, e2, e3, e4, e5, e1) refl

pub compare_is : (L : Layout) (hs : Homes) (s : Scope) (sense : Bool) (to : ℕ) (want : Option Ty) (b n : ℕ) (op : CompareOp) (x y whole : Term) (number : Option ℕ) (a c : ℕ) (rest : List DraftEntry) → whole ≡ Comparison op x y → want ≡ side_type s x y → number ≡ compared_number want y → a ≡ home L hs s.index b x → c ≡ home L hs s.index (b + term_size s.index x) y
    → loose_code L hs s Whole want b n x (right_code number (loose_code L hs s Whole want (b + term_size s.index x) (n + labels s.index x) y) (branch_code op sense (signed_side want) number a c to rest)) ≡ jump_code L hs s sense to b n whole rest
compare_is L hs s sense to want b n op x y whole number a c rest e0 e1 e2 e3 e4 = rw (e0, e2, e3, e4, e1) refl

-- the labels of two values that are compared
pub compared_labels : (i : Option (List ℕ)) (n given : ℕ) (op : CompareOp) (x y whole : Term) → whole ≡ Comparison op x y → given ≡ n + labels i x + labels i y → given ≡ n + labels i whole
compared_labels i n given op x y whole e0 e1 = rw e0 (omega arith)

pub both_is : (L : Layout) (hs : Homes) (s : Scope) (sense : Bool) (to over first b n item next given : ℕ) (x y : Term) (rest : List DraftEntry) → first ≡ (if sense then over else to) → over ≡ n → next ≡ n + 1 → item ≡ b + term_size s.index x → given ≡ next + labels s.index x
    → jump_code L hs s false first b next x (jump_code L hs s sense to item given y (placed_code sense over rest)) ≡ jump_code L hs s sense to b n (Both x y) rest
both_is L hs s sense to over first b n item next given x y rest e1 e2 e3 e4 e5 = rw (e1, e2, e4, e5, e3) refl

pub either_is : (L : Layout) (hs : Homes) (s : Scope) (sense : Bool) (to over first b n item next given : ℕ) (x y : Term) (rest : List DraftEntry) → first ≡ (if sense then to else over) → over ≡ n → next ≡ n + 1 → item ≡ b + term_size s.index x → given ≡ next + labels s.index x
    → jump_code L hs s true first b next x (jump_code L hs s sense to (item + 1) given y (placed_code (not sense) over rest)) ≡ jump_code L hs s sense to b n (Either x y) rest
either_is L hs s sense to over first b n item next given x y rest e1 e2 e3 e4 e5 = rw (e1, e2, e4, e5, e3) refl

-- the labels of two conditions and of the place after them
pub joined_labels : (n next given given2 given3 p q : ℕ) → next ≡ n + 1 → given ≡ next + p → given2 ≡ given + q → given3 ≡ given2 → given3 ≡ n + (1 + p + q)
joined_labels n next given given2 given3 p q e f g h = omega arith

pub choice_is : (L : Layout) (hs : Homes) (s : Scope) (w : Extent) (want : Option Ty) (b n item given item2 given2 : ℕ) (c x y whole : Term) (p q : ℕ) (rest : List DraftEntry) → whole ≡ Choice c x y → p ≡ home L hs s.index b x → q ≡ home L hs s.index item y → item2 ≡ item + term_size s.index y → given2 ≡ given + labels s.index y → item ≡ b + term_size s.index x → given ≡ n + labels s.index x
    → loose_code L hs s w want b n x (loose_code L hs s w want item given y (one_of_code L hs s item2 given2 c p q rest)) ≡ loose_code L hs s w want b n whole rest
choice_is L hs s w want b n item given item2 given2 c x y whole p q rest e0 e1 e2 e3 e4 e5 e6 = rw (e0, e1, e2, e3, e4, e5, e6) refl

pub choice_labels : (i : Option (List ℕ)) (n given given2 given3 : ℕ) (c x y whole : Term) → whole ≡ Choice c x y → given ≡ n + labels i x → given2 ≡ given + labels i y → given3 ≡ given2 + (2 + labels i c) → given3 ≡ n + labels i whole
choice_labels i n given given2 given3 c x y whole e0 e f g = rw e0 (omega arith)

pub on_ok : {T E : Type 0} (r : Result T E) {P Q : Type 0} → OnOk r P → (P → Q) → OnOk r Q
on_ok (Ok v) p f = f p
on_ok (Err v) p f = p

pub on_and : {T U E : Type 0} (r : Result T E) {q : Result U E} (v : U) {P Q : Type 0} → q ≡ result_and r (Ok v) → OnOk r P → (P → Q) → OnOk q Q
on_and (Ok u) v e p f = rw e (f p)
on_and (Err u) v e p f = rw e p

pub chosen_is : (L : Layout) (hs : Homes) (s : Scope) (want : Option Ty) (b n given : ℕ) (op : CompareOp) (x y whole : Term) (number : Option ℕ) (word : Listed) (a c d p q : ℕ) (rest : List DraftEntry) → whole ≡ Comparison op x y → want ≡ side_type s x y → number ≡ compared_number want y → word ≡ compare_word number a c → a ≡ home L hs s.index b x → c ≡ home L hs s.index (b + term_size s.index x) y → given ≡ n + 2 → d ≡ reg_of L (b + term_size s.index whole)
    → loose_code L hs s Whole want b given x (right_code number (loose_code L hs s Whole want (b + term_size s.index x) (given + labels s.index x) y) (Put word ∷ ins csel (d ∷ p ∷ condition op (signed_side want) ∷ q ∷ []) ∷ rest)) ≡ one_of_code L hs s b n whole p q rest
chosen_is L hs s want b n given op x y whole number word a c d p q rest e0 e1 e2 e3 e4 e5 e6 e7 = rw (e7, e0, e3, e2, e4, e5, e6, e1) refl

pub chosen_labels : (i : Option (List ℕ)) (n given given2 given3 given4 given5 : ℕ) (op : CompareOp) (x y whole : Term) → whole ≡ Comparison op x y → given ≡ n + 1 → given2 ≡ given + 1 → given3 ≡ given2 + labels i x + labels i y → given4 ≡ given3 → given5 ≡ given4 → given5 ≡ n + (2 + labels i whole)
chosen_labels i n given given2 given3 given4 given5 op x y whole e0 e f g h k = rw e0 (omega arith)

pub two_more : (n given given2 : ℕ) → given ≡ n + 1 → given2 ≡ given + 1 → given2 ≡ n + 2
two_more n given given2 e f = omega arith

-- an index that is an offset from the loop variable
pub offset_code : (o : Option ℤ) (word : Option Listed) (inner : List DraftEntry → List DraftEntry) (rest : List DraftEntry) → Some word ≡ option_map index_word o → word_code word rest ≡ number_code o inner rest
offset_code None word inner rest e = absurd cc
offset_code (Some z) word inner rest e = let p : word ≡ index_word z = cc in rw p refl

pub offset_labels : (o : Option ℤ) (word : Option Listed) (n p : ℕ) → Some word ≡ option_map index_word o → n ≡ n + inner_labels o p
offset_labels None word n p e = absurd cc
offset_labels (Some z) word n p e = omega arith

-- and one that is computed
pub computed_labels : (o : Option ℤ) (n p : ℕ) → option_map index_word o ≡ None → n + p ≡ n + inner_labels o p
computed_labels None n p e = refl
computed_labels (Some z) n p e = absurd cc

-- the items of two values that are compared
pub compared_size : (i : Option (List ℕ)) (b item : ℕ) (op : CompareOp) (x y whole : Term) → whole ≡ Comparison op x y → item ≡ b + term_size i x + term_size i y → item + 1 ≡ b + term_size i whole
compared_size i b item op x y whole e0 e1 = rw e0 (omega arith)

-- ---- right sides

-- a literal takes one item
pub literal_item : (i : Option (List ℕ)) (b k item : ℕ) (e : Term) → IsLiteral (literal_value e) → item ≡ b + k → item + 1 ≡ b + k + term_size i e
literal_item i b k item (Literal z) h g = omega arith
literal_item i b k item other h g = absurd h

-- and no label
pub literal_labels : (i : Option (List ℕ)) (n : ℕ) (e : Term) → IsLiteral (literal_value e) → n ≡ n + labels i e
literal_labels i n (Literal z) h = omega arith
literal_labels i n other h = absurd h

-- no code for a right side that its word holds
pub held_code : (number : Option ℕ) (v : ℕ) (inner : List DraftEntry → List DraftEntry) (rest : List DraftEntry) → number ≡ Some v → rest ≡ right_code number inner rest
held_code number v inner rest e = rw e refl

-- a right side that its word holds as a number, one whose parts the word takes, and any other
pub side_number : (number : Option ℕ) (v : ℕ) (fused : Bool) (whole parts : List DraftEntry → List DraftEntry) (rest : List DraftEntry) → number ≡ Some v → rest ≡ side_code number fused whole parts rest
side_number number v fused whole parts rest e = rw e refl

pub side_parts : (number : Option ℕ) (fused : Bool) (whole parts : List DraftEntry → List DraftEntry) (rest : List DraftEntry) → number ≡ None → fused ≡ true → parts rest ≡ side_code number fused whole parts rest
side_parts number fused whole parts rest e f = rw (e, f) refl

pub side_whole : (number : Option ℕ) (fused : Bool) (whole parts : List DraftEntry → List DraftEntry) (rest : List DraftEntry) → number ≡ None → fused ≡ false → whole rest ≡ side_code number fused whole parts rest
side_whole number fused whole parts rest e f = rw (e, f) refl

-- ---- values that stand in the word of their user

pub parts_binary : (L : Layout) (hs : Homes) (s : Scope) (w asked : Extent) (want : Option Ty) (b n item given : ℕ) (op : BinaryOp) (p q whole : Term) (rest : List DraftEntry) → whole ≡ Operation op p q → asked ≡ binary_asks s want op p q w → item ≡ b + term_size s.index p → given ≡ n + labels s.index p
    → loose_code L hs s asked want b n p (loose_code L hs s asked want item given q rest) ≡ parts_code L hs s w want b n whole rest
parts_binary L hs s w asked want b n item given op p q whole rest e0 e1 e2 e3 = rw (e0, e2, e3, e1) refl

-- the labels of two operands
pub operation_labels : (i : Option (List ℕ)) (n given given2 : ℕ) (op : BinaryOp) (x y whole : Term) → whole ≡ Operation op x y → given ≡ n + labels i x → given2 ≡ given + labels i y → given2 ≡ n + labels i whole
operation_labels i n given given2 op x y whole e0 e1 e2 = rw e0 (omega arith)

pub parts_shift : (L : Layout) (hs : Homes) (s : Scope) (w asked : Extent) (want : Option Ty) (b n : ℕ) (left : Bool) (e whole : Term) (count sent : ℤ) (rest : List DraftEntry) → whole ≡ Shift left e count → sent ≡ count → asked ≡ shift_asks s want left e sent w
    → loose_code L hs s asked want b n e rest ≡ parts_code L hs s w want b n whole rest
parts_shift L hs s w asked want b n left e whole count sent rest e0 same e1 = rw (e0, e1, same) refl

pub parts_cast : (L : Layout) (hs : Homes) (s : Scope) (w asked : Extent) (from want : Option Ty) (b n : ℕ) (e whole : Term) (t : Ty) (rest : List DraftEntry) → whole ≡ Conversion e t → from ≡ own s e → asked ≡ converted_extent w from t
    → loose_code L hs s asked from b n e rest ≡ parts_code L hs s w want b n whole rest
parts_cast L hs s w asked from want b n e whole t rest e0 e1 e2 = rw (e0, e2, e1) refl

-- ---- elements

-- an index with a place takes no label
no_labels : (L : Layout) (q r : ℕ) (t : Option Ty) (o : Option ℤ) (n : ℕ) → place_of L q t o ≡ Some r → inner_labels o n ≡ 0
no_labels L q r t (Some c) n e = refl
no_labels L q r None None n e = absurd cc
no_labels L q r (Some t) None n e = absurd cc

placed_by : (L : Layout) (q b size : ℕ) (t : Option Ty) (place : Option ℕ) (inner : List DraftEntry → List DraftEntry) (x d p r : ℕ) (rest : List DraftEntry) → place ≡ Some p → size ≡ 0 → d ≡ reg_of L b → r ≡ 9 → load_code t d p r rest ≡ right_code place inner (load_code t (reg_of L (b + size)) (unwrap_or place q) (placed_index place x) rest)
placed_by L q b size t place inner x d p r rest e f g h = rw (e, f, g, h, add-zero) refl

-- an element whose address a register holds
pub placed_is : (L : Layout) (hs : Homes) (s : Scope) (w : Extent) (want : Option Ty) (b n : ℕ) (a : List ℕ) (e : Term) (t : Option Ty) (d p r : ℕ) (rest : List DraftEntry) → t ≡ option_and_then element_type (lookup s a) → place_of L (register_at hs a) (option_and_then element_type (lookup s a)) (stream_offset s.index e) ≡ Some p → d ≡ reg_of L b → r ≡ 9
    → load_code t d p r rest ≡ loose_code L hs s w want b n (Element a e) rest
placed_is L hs s w want b n a e t d p r rest e1 e2 e3 e4 =
    let ty = option_and_then element_type (lookup s a) in
    let o = stream_offset s.index e in
    let q = register_at hs a in
    ap (λ (t : Option Ty). load_code t d p r rest) e1
    ∙ placed_by L q b (index_items s.index e) ty (place_of L q ty o) (number_code o (loose_code L hs s Whole (index_type s e) b n e)) (number_register o (home L hs s.index b e)) d p r rest e2 (no_items L q p ty o (term_size s.index e) e2) e3 e4

pub placed_labels : (L : Layout) (hs : Homes) (s : Scope) (n : ℕ) (a : List ℕ) (e : Term) (p : ℕ) → place_of L (register_at hs a) (option_and_then element_type (lookup s a)) (stream_offset s.index e) ≡ Some p → n ≡ n + labels s.index (Element a e)
placed_labels L hs s n a e p e2 = omega (arith, no_labels L (register_at hs a) p (option_and_then element_type (lookup s a)) (stream_offset s.index e) (labels s.index e) e2)

computed_by : (t : Option Ty) (place : Option ℕ) (inner : List DraftEntry → List DraftEntry) (d q x : ℕ) (rest : List DraftEntry) → place ≡ None → inner (load_code t d q x rest) ≡ right_code place inner (load_code t d (unwrap_or place q) (placed_index place x) rest)
computed_by t place inner d q x rest e = rw e refl

-- and one whose index is computed, or an offset that no register has
pub computed_is : (L : Layout) (hs : Homes) (s : Scope) (w : Extent) (want : Option Ty) (b n : ℕ) (a : List ℕ) (e : Term) (t : Option Ty) (d q x : ℕ) (rest : List DraftEntry) → t ≡ option_and_then element_type (lookup s a) → place_of L (register_at hs a) (option_and_then element_type (lookup s a)) (stream_offset s.index e) ≡ None → d ≡ reg_of L (b + index_items s.index e) → q ≡ register_at hs a → x ≡ index_home L hs s b e
    → index_code L hs s b n e (load_code t d q x rest) ≡ loose_code L hs s w want b n (Element a e) rest
computed_is L hs s w want b n a e t d q x rest e1 e2 e3 e4 e5 =
    let ty = option_and_then element_type (lookup s a) in
    let o = stream_offset s.index e in
    rw (e1, e3, e4, e5) (computed_by ty (place_of L (register_at hs a) ty o) (number_code o (loose_code L hs s Whole (index_type s e) b n e)) (reg_of L (b + index_items s.index e)) (register_at hs a) (number_register o (home L hs s.index b e)) rest e2)
