-- How many words an expression has: at most four for each item.
use Rattle.std.proofs.Common.{ℕ, ◌+◌, ◌*◌, ◌≤◌, ◌&&◌, Bool, true, false, List, ◌∷◌, Option, Some, None, arith}
use Rattle.std.specs.Prelude.{ℤ, not, option_and_then}
use Rattle.kernel_tree.specs.declared.ops.Ty.{Ty}
use Rattle.kernel_tree.specs.declared.ops.UnaryOp.{UnaryOp}
use Rattle.kernel_tree.specs.declared.ops.BinaryOp.{BinaryOp}
use Rattle.kernel_tree.specs.Plain.{Term, Literal, Variable, Element, Unary, Operation, Shift, Conversion, Choice, Comparison, Both, Either, Not}
use Rattle.kernel_tree.specs.Items.{index_size, term_size, stream_offset}
use Rattle.kernel_tree.specs.Wrap.{is_signed}
use Rattle.kernel_tree.specs.Typing.{Scope, lookup, own, element_type, index_type, side_type, left}
use Rattle.kernel_meaning.specs.Operators.{word, wrapped}
use Rattle.value_code.specs.declared.extent.Extent.{Extent}
use Rattle.value_code.specs.Extents.{Whole, within_type, converted_extent}
use Rattle.value_code.specs.Leaving.{unary_asks, binary_asks, shift_asks, unary_settles, binary_settles, shift_settles}
use Rattle.label_fix.specs.DraftRun.{DraftEntry, Place}
use Rattle.label_fix.specs.Finished.{size}
use Rattle.scalar_words.specs.Layout.{OfNumber, Layout, Homes, reg_of, constant_at, register_at}
use Rattle.scalar_words.specs.Words.{copy_word, settle_word, word_code, condition, at_type}
use Rattle.value_code.specs.ItemWords.{Side, Number, Register, Product, Moved, convert_word, index_word, load_code, operator_code, unary_code, abs_code, shift_code, zero_test, tested_code, pick_code, placed_code}
use Rattle.value_code.specs.Code.{number_code, place_of, signed_side, compared_number, added_number, is_fused, is_led, taken_side, side_code, parts_code, right_code, flag_condition, choice_code, loose_code, flags_code, jump_code}
use Rattle.scalar_words.proofs.WordCounts.{le_of_le_of_le, one_word, operation_words, const_words}
use Rattle.kernel_tree.specs.declared.ops.UnaryOp.TheVariants as unary

-- by what its word takes as its right side
pub operator_code_words : (side : Side) (leaves : Bool) (want : Option Ty) (op : BinaryOp) (d a : ℕ) (rest : List DraftEntry) (k : ℕ) → size rest ≤ k → size (at_type want (λ t. operator_code side leaves op t d a rest) rest) ≤ 3 + k
operator_code_words side leaves None op d a rest k h = omega (arith, h)
operator_code_words (Number v) leaves (Some t) op d a rest k h = let w = one_word (settle_word leaves t d) rest k h in omega (arith, w)
operator_code_words (Register c) leaves (Some t) op d a rest k h = le_of_le_of_le (omega arith) (operation_words op (is_signed t) d a c _ (1 + k) (one_word (settle_word leaves t d) rest k h))
operator_code_words (Product p q) leaves (Some t) op d a rest k h = let w = one_word (settle_word leaves t d) rest k h in omega (arith, w)
operator_code_words (Moved kind n r) leaves (Some t) op d a rest k h = let w = one_word (settle_word leaves t d) rest k h in omega (arith, w)

pub side_words : (number : Option ℕ) (fused : Bool) (m : ℕ) (whole parts : List DraftEntry → List DraftEntry) (rest : List DraftEntry) (k : ℕ) → size rest ≤ k → (size rest ≤ k → size (whole rest) ≤ m + k) → (size rest ≤ k → size (parts rest) ≤ m + k) → size (side_code number fused whole parts rest) ≤ m + k
side_words (Some v) fused m whole parts rest k h f g = omega (arith, h)
side_words None true m whole parts rest k h f g = g h
side_words None false m whole parts rest k h f g = f h

right_words : (number : Option ℕ) (m : ℕ) (inner : List DraftEntry → List DraftEntry) (rest : List DraftEntry) (k : ℕ) → size rest ≤ k → (size rest ≤ k → size (inner rest) ≤ m + k) → size (right_code number inner rest) ≤ m + k
right_words (Some v) m inner rest k h f = omega (arith, h)
right_words None m inner rest k h f = f h

tested_words : (o : Option Bool) (sense : Bool) (number : Option ℕ) (a c c2 to : ℕ) (rest : List DraftEntry) (k : ℕ) → size rest ≤ k → size (tested_code o sense number a c c2 to rest) ≤ 2 + k
tested_words (Some is) sense number a c c2 to rest k h = omega (arith, h)
tested_words None sense number a c c2 to rest k h = omega (arith, h)

placed_words : (wanted : Bool) (n : ℕ) (rest : List DraftEntry) (k : ℕ) → size rest ≤ k → size (placed_code wanted n rest) ≤ k
placed_words true n rest k h = h
placed_words false n rest k h = h

pick_words : (d p q n : ℕ) (rest : List DraftEntry) (k : ℕ) → size rest ≤ k → size (pick_code d p q n rest) ≤ 3 + k
pick_words d p q n rest k h =
    let w = one_word (copy_word d q) (Place (n + 1) ∷ rest) k h in
    le_of_le_of_le (omega arith) (one_word (copy_word d p) _ (2 + k) (omega (arith, w)))

choice_words : (o : Option ℕ) (m : ℕ) (flags jump : List DraftEntry → List DraftEntry) (d p q n : ℕ) (rest : List DraftEntry) (k : ℕ) → size rest ≤ k → ((rest : List DraftEntry) (k : ℕ) → size rest ≤ k → size (flags rest) ≤ m + k) → ((rest : List DraftEntry) (k : ℕ) → size rest ≤ k → size (jump rest) ≤ m + k) → size (choice_code o flags jump d p q n rest) ≤ m + 3 + k
choice_words (Some c) m flags jump d p q n rest k h f g = le_of_le_of_le (omega arith) (f _ (1 + k) (omega (arith, h)))
choice_words None m flags jump d p q n rest k h f g = le_of_le_of_le (omega arith) (g _ (3 + k) (pick_words d p q n rest k h))

abs_words : (leaves b : Bool) (t : Ty) (d a : ℕ) (rest : List DraftEntry) (k : ℕ) → size rest ≤ k → size (abs_code leaves b t d a rest) ≤ 3 + k
abs_words leaves true t d a rest k h = let w = one_word (settle_word leaves t d) rest k h in omega (arith, w)
abs_words leaves false t d a rest k h = let w = one_word (copy_word d a) rest k h in omega (arith, w)

cast_words : (low : Bool) (from : Option Ty) (t : Ty) (d a : ℕ) (rest : List DraftEntry) (k : ℕ) → size rest ≤ k → size (at_type from (λ u. word_code (convert_word low u t d a) rest) rest) ≤ 1 + k
cast_words low None t d a rest k h = omega (arith, h)
cast_words low (Some u) t d a rest k h = one_word (convert_word low u t d a) rest k h

unary_words : (leaves : Bool) (want : Option Ty) (op : UnaryOp) (d a : ℕ) (rest : List DraftEntry) (k : ℕ) → size rest ≤ k → size (at_type want (λ t. unary_code leaves op t d a rest) rest) ≤ 3 + k
unary_words leaves None op d a rest k h = omega (arith, h)
unary_words leaves (Some t) unary.Neg d a rest k h = let w = one_word (settle_word leaves t d) rest k h in omega (arith, w)
unary_words leaves (Some t) unary.Flip d a rest k h = let w = one_word (settle_word leaves t d) rest k h in omega (arith, w)
unary_words leaves (Some t) unary.Abs d a rest k h = abs_words leaves (is_signed t) t d a rest k h

shift_words : (leaves : Bool) (want : Option Ty) (left : Bool) (n : ℤ) (d a : ℕ) (rest : List DraftEntry) (k : ℕ) → size rest ≤ k → size (at_type want (λ t. shift_code leaves left n t d a rest) rest) ≤ 2 + k
shift_words leaves None left n d a rest k h = omega (arith, h)
shift_words leaves (Some t) left n d a rest k h = let w = one_word (settle_word leaves t d) rest k h in omega (arith, w)

load_words : (o : Option Ty) (d p r : ℕ) (rest : List DraftEntry) (k : ℕ) → size rest ≤ k → size (load_code o d p r rest) ≤ 1 + k
load_words None d p r rest k h = omega (arith, h)
load_words (Some t) d p r rest k h = omega (arith, h)

number_words : (o : Option ℤ) (m : ℕ) (inner : List DraftEntry → List DraftEntry) (rest : List DraftEntry) (k : ℕ) → size rest ≤ k → (size rest ≤ k → size (inner rest) ≤ 4 * m + k) → size (number_code o inner rest) ≤ 4 * index_size o m + 1 + k
number_words (Some c) m inner rest k h f = one_word (index_word c) rest k h
number_words None m inner rest k h f = let g = f h in omega (arith, g)

-- ---- expressions

module _ (L : Layout) (hs : Homes) where
  mutual
    pub loose_words : (e : Term) (s : Scope) (w : Extent) (want : Option Ty) (b n : ℕ) (rest : List DraftEntry) (k : ℕ) → size rest ≤ k → size (loose_code L hs s w want b n e rest) ≤ 4 * term_size s.index e + k
    loose_words (Literal z) s w want b n rest k h = le_of_le_of_le (omega arith) (right_words (constant_at L (OfNumber z)) 4 _ rest k h (λ g. const_words (reg_of L b) (word (wrapped want z)) rest k g))
    loose_words (Variable x) s w want b n rest k h = omega (arith, h)
    loose_words (Element a j) s w want b n rest k h =
        le_of_le_of_le (omega arith) (right_words (place_of L (register_at hs a) (option_and_then element_type (lookup s a)) (stream_offset s.index j)) (4 * index_size (stream_offset s.index j) (term_size s.index j) + 1) _ _ (1 + k) (load_words (option_and_then element_type (lookup s a)) _ _ _ rest k h) (λ u. number_words (stream_offset s.index j) (term_size s.index j) _ _ _ u (λ g. loose_words j s Whole (index_type s j) b n _ _ g)))
    loose_words (Unary op x) s w want b n rest k h = le_of_le_of_le (omega arith) (loose_words x s (unary_asks s want op x w) want b n _ _ (unary_words (unary_settles s want op x w) want op _ _ rest k h))
    loose_words (Operation op x y) s w want b n rest k h =
        let j = binary_asks s want op x y w in
        let side = taken_side L hs s op j want b x y in
        le_of_le_of_le (omega arith) (side_words None (is_led L hs s op j want b x y) (4 * term_size s.index x) _ _ _ _
        (side_words (added_number op want y) (not (is_led L hs s op j want b x y) && is_fused s op j want y) (4 * term_size s.index y) _ _ _ _ (operator_code_words side (binary_settles s want op x y w) want op _ _ rest k h) (λ g. loose_words y s j want _ _ _ _ g) (λ g. parts_words y s j want _ _ _ _ g))
        (λ g. loose_words x s j want b n _ _ g) (λ g. parts_words x s j want b n _ _ g))
    loose_words (Shift left x z) s w want b n rest k h = le_of_le_of_le (omega arith) (loose_words x s (shift_asks s want left x z w) want b n _ _ (shift_words (shift_settles s want left x z w) want left z _ _ rest k h))
    loose_words (Conversion x t) s w want b n rest k h = le_of_le_of_le (omega arith) (loose_words x s (converted_extent w (own s x) t) (own s x) b n _ _ (cast_words (within_type w t) (own s x) t _ _ rest k h))
    loose_words (Choice c x y) s w want b n rest k h =
        le_of_le_of_le (omega arith) (loose_words x s w want b n _ _ (loose_words y s w want _ _ _ _ (choice_words (flag_condition s c) (4 * term_size s.index c) _ _ _ _ _ _ rest k h (λ r j g. flags_words c s _ _ r j g) (λ r j g. jump_words c s false _ _ _ r j g))))
    loose_words (Comparison op x y) s w want b n rest k h = omega (arith, h)
    loose_words (Both x y) s w want b n rest k h = omega (arith, h)
    loose_words (Either x y) s w want b n rest k h = omega (arith, h)
    loose_words (Not x) s w want b n rest k h = omega (arith, h)

    pub parts_words : (e : Term) (s : Scope) (w : Extent) (want : Option Ty) (b n : ℕ) (rest : List DraftEntry) (k : ℕ) → size rest ≤ k → size (parts_code L hs s w want b n e rest) ≤ 4 * term_size s.index e + k
    parts_words (Operation op x y) s w want b n rest k h = le_of_le_of_le (omega arith) (loose_words x s (binary_asks s want op x y w) want b n _ _ (loose_words y s (binary_asks s want op x y w) want _ _ _ _ h))
    parts_words (Shift left x z) s w want b n rest k h = le_of_le_of_le (omega arith) (loose_words x s (shift_asks s want left x z w) want b n _ _ h)
    parts_words (Literal z) s w want b n rest k h = omega (arith, h)
    parts_words (Variable x) s w want b n rest k h = omega (arith, h)
    parts_words (Element a i) s w want b n rest k h = omega (arith, h)
    parts_words (Unary op e) s w want b n rest k h = omega (arith, h)
    parts_words (Conversion e t) s w want b n rest k h = le_of_le_of_le (omega arith) (loose_words e s (converted_extent w (own s e) t) (own s e) b n _ _ h)
    parts_words (Choice c x y) s w want b n rest k h = omega (arith, h)
    parts_words (Comparison op x y) s w want b n rest k h = omega (arith, h)
    parts_words (Both x y) s w want b n rest k h = omega (arith, h)
    parts_words (Either x y) s w want b n rest k h = omega (arith, h)
    parts_words (Not e) s w want b n rest k h = omega (arith, h)

    flags_words : (e : Term) (s : Scope) (b n : ℕ) (rest : List DraftEntry) (k : ℕ) → size rest ≤ k → size (flags_code L hs s b n e rest) ≤ 4 * term_size s.index e + k
    flags_words (Comparison op x y) s b n rest k h =
        le_of_le_of_le (omega arith) (loose_words x s Whole (side_type s x y) b n _ _ (right_words (compared_number (side_type s x y) y) (4 * term_size s.index y) _ _ (1 + k) (omega (arith, h)) (λ g. loose_words y s Whole (side_type s x y) _ _ _ _ g)))
    flags_words (Literal z) s b n rest k h = omega (arith, h)
    flags_words (Variable x) s b n rest k h = omega (arith, h)
    flags_words (Element a i) s b n rest k h = omega (arith, h)
    flags_words (Unary op e) s b n rest k h = omega (arith, h)
    flags_words (Operation op x y) s b n rest k h = omega (arith, h)
    flags_words (Shift left e z) s b n rest k h = omega (arith, h)
    flags_words (Conversion e t) s b n rest k h = omega (arith, h)
    flags_words (Choice c x y) s b n rest k h = omega (arith, h)
    flags_words (Both x y) s b n rest k h = omega (arith, h)
    flags_words (Either x y) s b n rest k h = omega (arith, h)
    flags_words (Not e) s b n rest k h = omega (arith, h)

    pub jump_words : (e : Term) (s : Scope) (sense : Bool) (to b n : ℕ) (rest : List DraftEntry) (k : ℕ) → size rest ≤ k → size (jump_code L hs s sense to b n e rest) ≤ 4 * term_size s.index e + k
    jump_words (Comparison op x y) s sense to b n rest k h =
        let number = compared_number (side_type s x y) y in
        le_of_le_of_le (omega arith) (loose_words x s Whole (side_type s x y) b n _ _ (right_words number (4 * term_size s.index y) _ _ _ (tested_words (zero_test op number) sense number _ _ (condition op (signed_side (side_type s x y))) to rest k h) (λ g. loose_words y s Whole (side_type s x y) _ _ _ _ g)))
    jump_words (Both x y) s sense to b n rest k h = le_of_le_of_le (omega arith) (jump_words x s false _ b _ _ _ (jump_words y s sense to _ _ _ _ (placed_words sense n rest k h)))
    jump_words (Either x y) s sense to b n rest k h = le_of_le_of_le (omega arith) (jump_words x s true _ b _ _ _ (jump_words y s sense to _ _ _ _ (placed_words (not sense) n rest k h)))
    jump_words (Not x) s sense to b n rest k h = le_of_le_of_le (omega arith) (jump_words x s (not sense) to b n rest k h)
    jump_words (Literal z) s sense to b n rest k h = omega (arith, h)
    jump_words (Variable x) s sense to b n rest k h = omega (arith, h)
    jump_words (Element a i) s sense to b n rest k h = omega (arith, h)
    jump_words (Unary op e) s sense to b n rest k h = omega (arith, h)
    jump_words (Operation op x y) s sense to b n rest k h = omega (arith, h)
    jump_words (Shift left e z) s sense to b n rest k h = omega (arith, h)
    jump_words (Conversion e t) s sense to b n rest k h = omega (arith, h)
    jump_words (Choice c x y) s sense to b n rest k h = omega (arith, h)
