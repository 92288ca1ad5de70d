-- The code of expressions writes registers of items, and X26.
use Rattle.std.proofs.Common.{◌≡◌, ℕ, zero, suc, ◌+◌, ◌-◌, ◌%◌, ◌&&◌, Bool, true, false, List, [], ◌∷◌, Option, Some, None, refl}
use Rattle.std.specs.Prelude.{ℤ, pos, negsuc, not, nat_lt, option_and_then, if◌then◌else◌}
use Rattle.a64_code.specs.Table.{add_imm, sub_imm}
use Rattle.kernel_tree.specs.declared.ops.Ty.{Ty}
use Rattle.kernel_tree.specs.declared.ops.UnaryOp.{UnaryOp}
use Rattle.kernel_tree.specs.declared.ops.BinaryOp.{BinaryOp}
use Rattle.kernel_tree.specs.Plain.{Term, Literal, Element, Unary, Operation, Shift, Conversion, Choice, Comparison, Both, Either, Not}
use Rattle.kernel_tree.specs.Items.{term_size, index_items, stream_offset}
use Rattle.kernel_tree.specs.Wrap.{is_signed}
use Rattle.kernel_tree.specs.Typing.{Scope, lookup, own, element_type, index_type, side_type}
use Rattle.kernel_meaning.specs.Operators.{word, wrapped}
use Rattle.kernel_meaning.specs.TypeValues.{fits}
use Rattle.label_fix.specs.DraftRun.{If, DraftEntry, Branch, Place, word_of}
use Rattle.scalar_words.specs.Layout.{OfNumber, Layout, Homes, reg_of, constant_at, register_at}
use Rattle.scalar_words.specs.Words.{const_code, copy_word, extend_word, settle_word, word_code, condition, at_type}
use Rattle.value_code.specs.declared.extent.Extent.{Extent}
use Rattle.value_code.specs.declared.extent.Extent.TheVariants.{Whole}
use Rattle.value_code.specs.Extents.{within_type, converted_extent}
use Rattle.value_code.specs.Leaving.{unary_asks, binary_asks, shift_asks, unary_settles, binary_settles, shift_settles}
use Rattle.value_code.specs.ItemWords.{Side, Number, Register, Product, Moved, cast_word, convert_word, index_word, load, load_code, add_word, sub_word, sum_word, product_word, shift_word, operator_code, unary_code, abs_code, shift_code, compare_word, turned, zero_test, tested_code, pick_code, placed_code}
use Rattle.value_code.specs.ValueRegisters.{home}
use Rattle.value_code.specs.Code.{number_code, place_of, signed_side, compared_number, added_number, is_fused, is_led, taken_side, side_code, parts_code, right_code, flag_condition, choice_code, loose_code, flags_code, jump_code}
use Rattle.reserved_registers.specs.Alone.{AreAlone, StaysAlone}
use Rattle.reserved_registers.proofs.Entries.{goes_on, put_alone}
use Rattle.reserved_registers.proofs.FreeRegisters.{Free}
use Rattle.reserved_registers.proofs.ScalarWords.{written, free_is_not_reserved, LeavesIf, one_alone, const_alone, copy_leaves, extend_leaves, settle_leaves, operation_alone}
use Rattle.kernel_tree.specs.declared.ops.Ty.TheVariants as ty
use Rattle.kernel_tree.specs.declared.ops.UnaryOp.TheVariants as unary
use Rattle.kernel_tree.specs.declared.ops.BinaryOp.TheVariants as binary

-- ---- words

cast_leaves : (s t : Ty) (d a : ℕ) → Free d → LeavesIf (cast_word s t d a)
cast_leaves s t d a f = by (fits s t)
  where
    by : (b : Bool) → LeavesIf (if b then copy_word d a else extend_word t d a)
    by true = copy_leaves d a f.kept
    by false = extend_leaves t d a f.kept

convert_leaves : (low : Bool) (s t : Ty) (d a : ℕ) → Free d → LeavesIf (convert_word low s t d a)
convert_leaves true s t d a f = copy_leaves d a f.kept
convert_leaves false s t d a f = cast_leaves s t d a f

pub index_leaves : (c : ℤ) → LeavesIf (index_word c)
index_leaves (pos zero) = tt
index_leaves (pos (suc c)) = refl
index_leaves (negsuc c) = refl

load_leaves : (t : Ty) (d p r : ℕ) → Free d → goes_on (load t d p r) ≡ true
load_leaves ty.I8 d p r f = written f.kept
load_leaves other d p r f = written f.kept

pub add_leaves : (v d a : ℕ) → Free d → goes_on (add_word v d a) ≡ true
add_leaves v d a f = by (nat_lt v 4096)
  where
    by : (b : Bool) → goes_on (if b then word_of add_imm (d ∷ a ∷ v % 4096 ∷ 0 ∷ []) else word_of sub_imm (d ∷ a ∷ (4096 - v % 4096) % 4096 ∷ 0 ∷ [])) ≡ true
    by true = free_is_not_reserved f
    by false = free_is_not_reserved f

sub_leaves : (v d a : ℕ) → Free d → goes_on (sub_word v d a) ≡ true
sub_leaves v d a f = by (nat_lt v 4096)
  where
    by : (b : Bool) → goes_on (if b then word_of sub_imm (d ∷ a ∷ v % 4096 ∷ 0 ∷ []) else word_of add_imm (d ∷ a ∷ (4096 - v % 4096) % 4096 ∷ 0 ∷ [])) ≡ true
    by true = free_is_not_reserved f
    by false = free_is_not_reserved f

sum_leaves : (op : BinaryOp) (v d a : ℕ) → Free d → goes_on (sum_word op v d a) ≡ true
sum_leaves binary.Sub v d a f = sub_leaves v d a f
sum_leaves other v d a f = add_leaves v d a f

product_leaves : (op : BinaryOp) (d a p q : ℕ) → Free d → goes_on (product_word op d a p q) ≡ true
product_leaves binary.Sub d a p q f = written f.kept
product_leaves other d a p q f = written f.kept

shifted_leaves : (op : BinaryOp) (d a kind n r : ℕ) → Free d → goes_on (shift_word op d a kind n r) ≡ true
shifted_leaves binary.Sub d a kind n r f = written f.kept
shifted_leaves other d a kind n r f = written f.kept

compare_leaves : (number : Option ℕ) (a c : ℕ) → goes_on (compare_word number a c) ≡ true
compare_leaves (Some v) a c = refl
compare_leaves None a c = refl

-- ---- the code of one item

pub operator_alone : (exits : ℕ) (side : Side) (leaves : Bool) (want : Option Ty) (op : BinaryOp) (d a : ℕ) (rest : List DraftEntry) → Free d → AreAlone exits rest → AreAlone exits (at_type want (λ t. operator_code side leaves op t d a rest) rest)
operator_alone exits side leaves None op d a rest f h = h
operator_alone exits (Number v) leaves (Some t) op d a rest f h = put_alone exits (sum_word op v d a) (word_code (settle_word leaves t d) rest) (sum_leaves op v d a f) (one_alone exits (settle_word leaves t d) rest (settle_leaves leaves t d f.kept) h)
operator_alone exits (Register c) leaves (Some t) op d a rest f h = operation_alone exits op (is_signed t) d a c _ f.kept (one_alone exits (settle_word leaves t d) rest (settle_leaves leaves t d f.kept) h)
operator_alone exits (Product p q) leaves (Some t) op d a rest f h = put_alone exits (product_word op d a p q) (word_code (settle_word leaves t d) rest) (product_leaves op d a p q f) (one_alone exits (settle_word leaves t d) rest (settle_leaves leaves t d f.kept) h)
operator_alone exits (Moved kind n r) leaves (Some t) op d a rest f h = put_alone exits (shift_word op d a kind n r) (word_code (settle_word leaves t d) rest) (shifted_leaves op d a kind n r f) (one_alone exits (settle_word leaves t d) rest (settle_leaves leaves t d f.kept) h)

pub side_alone : (exits : ℕ) (number : Option ℕ) (fused : Bool) (whole parts : List DraftEntry → List DraftEntry) (rest : List DraftEntry) → AreAlone exits rest → (AreAlone exits rest → AreAlone exits (whole rest)) → (AreAlone exits rest → AreAlone exits (parts rest)) → AreAlone exits (side_code number fused whole parts rest)
side_alone exits (Some v) fused whole parts rest h f g = h
side_alone exits None true whole parts rest h f g = g h
side_alone exits None false whole parts rest h f g = f h

right_alone : (exits : ℕ) (number : Option ℕ) (inner : List DraftEntry → List DraftEntry) (rest : List DraftEntry) → AreAlone exits rest → (AreAlone exits rest → AreAlone exits (inner rest)) → AreAlone exits (right_code number inner rest)
right_alone exits (Some v) inner rest h f = h
right_alone exits None inner rest h f = f h

tested_alone : (exits : ℕ) (o : Option Bool) (sense : Bool) (number : Option ℕ) (a c k to : ℕ) (rest : List DraftEntry) → AreAlone exits rest → AreAlone exits (tested_code o sense number a c k to rest)
tested_alone exits (Some is) sense number a c k to rest h = h
tested_alone exits None sense number a c k to rest h = put_alone exits (compare_word number a c) (Branch (If (turned sense k)) to ∷ rest) (compare_leaves number a c) h

placed_alone : (exits : ℕ) (wanted : Bool) (n : ℕ) (rest : List DraftEntry) → AreAlone exits rest → AreAlone exits (placed_code wanted n rest)
placed_alone exits true n rest h = h
placed_alone exits false n rest h = h

pick_alone : (exits : ℕ) (d p q n : ℕ) (rest : List DraftEntry) → Free d → AreAlone exits rest → AreAlone exits (pick_code d p q n rest)
pick_alone exits d p q n rest f h = one_alone exits (copy_word d p) _ (copy_leaves d p f.kept) (one_alone exits (copy_word d q) (Place (n + 1) ∷ rest) (copy_leaves d q f.kept) h)

choice_alone : (exits : ℕ) (o : Option ℕ) (flags jump : List DraftEntry → List DraftEntry) (d p q n : ℕ) (rest : List DraftEntry) → Free d → AreAlone exits rest → StaysAlone flags → StaysAlone jump → AreAlone exits (choice_code o flags jump d p q n rest)
choice_alone exits (Some c) flags jump d p q n rest r h f g = f exits _ (written r.kept, h)
choice_alone exits None flags jump d p q n rest r h f g = g exits _ (pick_alone exits d p q n rest r h)

abs_alone : (exits : ℕ) (leaves b : Bool) (t : Ty) (d a : ℕ) (rest : List DraftEntry) → Free d → AreAlone exits rest → AreAlone exits (abs_code leaves b t d a rest)
abs_alone exits leaves true t d a rest f h = (refl, (written f.kept, one_alone exits (settle_word leaves t d) rest (settle_leaves leaves t d f.kept) h))
abs_alone exits leaves false t d a rest f h = one_alone exits (copy_word d a) rest (copy_leaves d a f.kept) h

cast_alone : (exits : ℕ) (low : Bool) (from : Option Ty) (t : Ty) (d a : ℕ) (rest : List DraftEntry) → Free d → AreAlone exits rest → AreAlone exits (at_type from (λ u. word_code (convert_word low u t d a) rest) rest)
cast_alone exits low None t d a rest f h = h
cast_alone exits low (Some u) t d a rest f h = one_alone exits (convert_word low u t d a) rest (convert_leaves low u t d a f) h

unary_alone : (exits : ℕ) (leaves : Bool) (want : Option Ty) (op : UnaryOp) (d a : ℕ) (rest : List DraftEntry) → Free d → AreAlone exits rest → AreAlone exits (at_type want (λ t. unary_code leaves op t d a rest) rest)
unary_alone exits leaves None op d a rest f h = h
unary_alone exits leaves (Some t) unary.Neg d a rest f h = (written f.kept, one_alone exits (settle_word leaves t d) rest (settle_leaves leaves t d f.kept) h)
unary_alone exits leaves (Some t) unary.Flip d a rest f h = (written f.kept, one_alone exits (settle_word leaves t d) rest (settle_leaves leaves t d f.kept) h)
unary_alone exits leaves (Some t) unary.Abs d a rest f h = abs_alone exits leaves (is_signed t) t d a rest f h

shift_alone : (exits : ℕ) (leaves : Bool) (want : Option Ty) (left : Bool) (n : ℤ) (d a : ℕ) (rest : List DraftEntry) → Free d → AreAlone exits rest → AreAlone exits (at_type want (λ t. shift_code leaves left n t d a rest) rest)
shift_alone exits leaves None left n d a rest f h = h
shift_alone exits leaves (Some t) left n d a rest f h = (written f.kept, one_alone exits (settle_word leaves t d) rest (settle_leaves leaves t d f.kept) h)

load_alone : (exits : ℕ) (o : Option Ty) (d p r : ℕ) (rest : List DraftEntry) → Free d → AreAlone exits rest → AreAlone exits (load_code o d p r rest)
load_alone exits None d p r rest f h = h
load_alone exits (Some t) d p r rest f h = put_alone exits (load t d p r) rest (load_leaves t d p r f) h

number_alone : (exits : ℕ) (o : Option ℤ) (inner : List DraftEntry → List DraftEntry) (rest : List DraftEntry) → AreAlone exits rest → (AreAlone exits rest → AreAlone exits (inner rest)) → AreAlone exits (number_code o inner rest)
number_alone exits (Some c) inner rest h f = one_alone exits (index_word c) rest (index_leaves c) h
number_alone exits None inner rest h f = f h

-- ---- expressions

module _ (L : Layout) (free : (p : ℕ) → Free (reg_of L p)) (hs : Homes) where
  mutual
    pub loose_alone : (exits : ℕ) (e : Term) (s : Scope) (w : Extent) (want : Option Ty) (b n : ℕ) (rest : List DraftEntry) → AreAlone exits rest → AreAlone exits (loose_code L hs s w want b n e rest)
    loose_alone exits (Literal z) s w want b n rest h = right_alone exits (constant_at L (OfNumber z)) (const_code (reg_of L b) (word (wrapped want z))) rest h (λ g. const_alone exits (reg_of L b) (word (wrapped want z)) rest (free b).kept g)
    loose_alone exits (Element a j) s w want b n rest h =
        right_alone exits (place_of L (register_at hs a) (option_and_then element_type (lookup s a)) (stream_offset s.index j)) _ _ (load_alone exits (option_and_then element_type (lookup s a)) _ _ _ rest (free (b + index_items s.index j)) h) (λ u. number_alone exits (stream_offset s.index j) _ _ u (λ g. loose_alone exits j s Whole (index_type s j) b n _ g))
    loose_alone exits (Unary op x) s w want b n rest h = loose_alone exits x s (unary_asks s want op x w) want b n _ (unary_alone exits (unary_settles s want op x w) want op _ _ rest (free (b + term_size s.index x)) h)
    loose_alone exits (Operation op x y) s w want b n rest h =
        let j = binary_asks s want op x y w in
        let side = taken_side L hs s op j want b x y in
        side_alone exits None (is_led L hs s op j want b x y) _ _ _
        (side_alone exits (added_number op want y) (not (is_led L hs s op j want b x y) && is_fused s op j want y) _ _ _ (operator_alone exits side (binary_settles s want op x y w) want op _ _ rest (free (b + term_size s.index x + term_size s.index y)) h) (λ g. loose_alone exits y s j want _ _ _ g) (λ g. parts_alone exits y s j want _ _ _ g))
        (λ g. loose_alone exits x s j want b n _ g) (λ g. parts_alone exits x s j want b n _ g)
    loose_alone exits (Shift left x z) s w want b n rest h = loose_alone exits x s (shift_asks s want left x z w) want b n _ (shift_alone exits (shift_settles s want left x z w) want left z _ _ rest (free (b + term_size s.index x)) h)
    loose_alone exits (Conversion x t) s w want b n rest h = loose_alone exits x s (converted_extent w (own s x) t) (own s x) b n _ (cast_alone exits (within_type w t) (own s x) t _ _ rest (free (b + term_size s.index x)) h)
    loose_alone exits (Choice c x y) s w want b n rest h =
        loose_alone exits x s w want b n _ (loose_alone exits y s w want _ _ _ (choice_alone exits (flag_condition s c) _ _ _ _ _ _ rest (free (b + term_size s.index x + term_size s.index y + term_size s.index c)) h (λ e r g. flags_alone e c s _ _ r g) (λ e r g. jump_alone e c s false _ _ _ r g)))
    loose_alone exits other s w want b n rest h = h

    pub parts_alone : (exits : ℕ) (e : Term) (s : Scope) (w : Extent) (want : Option Ty) (b n : ℕ) (rest : List DraftEntry) → AreAlone exits rest → AreAlone exits (parts_code L hs s w want b n e rest)
    parts_alone exits (Operation op x y) s w want b n rest h = loose_alone exits x s (binary_asks s want op x y w) want b n _ (loose_alone exits y s (binary_asks s want op x y w) want _ _ _ h)
    parts_alone exits (Shift left x z) s w want b n rest h = loose_alone exits x s (shift_asks s want left x z w) want b n _ h
    parts_alone exits (Conversion e t) s w want b n rest h = loose_alone exits e s (converted_extent w (own s e) t) (own s e) b n _ h
    parts_alone exits other s w want b n rest h = h

    pub flags_alone : (exits : ℕ) (e : Term) (s : Scope) (b n : ℕ) (rest : List DraftEntry) → AreAlone exits rest → AreAlone exits (flags_code L hs s b n e rest)
    flags_alone exits (Comparison op x y) s b n rest h =
        let number = compared_number (side_type s x y) y in
        loose_alone exits x s Whole (side_type s x y) b n _ (right_alone exits number _ _ (put_alone exits (compare_word number (home L hs s.index b x) (home L hs s.index (b + term_size s.index x) y)) rest (compare_leaves number _ _) h) (λ g. loose_alone exits y s Whole (side_type s x y) _ _ _ g))
    flags_alone exits other s b n rest h = h

    pub jump_alone : (exits : ℕ) (e : Term) (s : Scope) (sense : Bool) (to b n : ℕ) (rest : List DraftEntry) → AreAlone exits rest → AreAlone exits (jump_code L hs s sense to b n e rest)
    jump_alone exits (Comparison op x y) s sense to b n rest h =
        let number = compared_number (side_type s x y) y in
        loose_alone exits x s Whole (side_type s x y) b n _ (right_alone exits number _ _ (tested_alone exits (zero_test op number) sense number _ _ (condition op (signed_side (side_type s x y))) to rest h) (λ g. loose_alone exits y s Whole (side_type s x y) _ _ _ g))
    jump_alone exits (Both x y) s sense to b n rest h = jump_alone exits x s false _ b _ _ (jump_alone exits y s sense to _ _ _ (placed_alone exits sense n rest h))
    jump_alone exits (Either x y) s sense to b n rest h = jump_alone exits x s true _ b _ _ (jump_alone exits y s sense to _ _ _ (placed_alone exits (not sense) n rest h))
    jump_alone exits (Not x) s sense to b n rest h = jump_alone exits x s (not sense) to b n rest h
    jump_alone exits other s sense to b n rest h = h
