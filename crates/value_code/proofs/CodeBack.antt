-- The labels after the code of an expression lead where they did.
use Rattle.std.proofs.Common.{◌≡◌, ℕ, ◌+◌, Bool, true, false, List, ◌∷◌, Option, Some, None}
use Rattle.std.specs.Prelude.{ℤ, option_and_then, not, ◌&&◌}
use Rattle.kernel_tree.specs.declared.ops.Ty.{Ty}
use Rattle.kernel_tree.specs.declared.ops.BinaryOp.{BinaryOp}
use Rattle.kernel_tree.specs.declared.ops.UnaryOp.{UnaryOp}
use Rattle.kernel_tree.specs.Plain.{Term, Literal, Variable, Element, Unary, Operation, Shift, Conversion, Choice, Comparison, Both, Either, Not}
use Rattle.kernel_tree.specs.Items.{term_size, stream_offset}
use Rattle.kernel_tree.specs.Wrap.{is_signed}
use Rattle.kernel_tree.specs.Typing.{Scope, lookup, own, element_type, index_type, side_type}
use Rattle.kernel_meaning.specs.Operators.{word, wrapped}
use Rattle.label_fix.specs.DraftRun.{DraftEntry, Put, Place, Laid, following}
use Rattle.label_fix.proofs.StretchSteps.{Resolves}
use Rattle.scalar_words.specs.Layout.{OfNumber, Layout, Homes, reg_of, constant_at, register_at}
use Rattle.scalar_words.specs.Words.{operation_code, word_code, copy_word, settle_word, condition, at_type}
use Rattle.scalar_words.proofs.LayoutStates.{Assigned}
use Rattle.scalar_words.proofs.Constants.{word_back, const_back}
use Rattle.value_code.specs.ValueRegisters.{home}
use Rattle.value_code.specs.ItemWords.{Side, Number, Register, Product, Moved, load_code, operator_code, unary_code, abs_code, shift_code, index_word, convert_word, compare_word, zero_test, tested_code, pick_code, placed_code}
use Rattle.value_code.specs.Code.{number_code, place_of, signed_side, compared_number, added_number, is_fused, side_code, is_led, taken_side, parts_code, right_code, flag_condition, choice_code, loose_code, value_code, flags_code, jump_code}
use Rattle.value_code.specs.declared.extent.Extent.{Extent}
use Rattle.value_code.specs.Extents.{Whole, within_type, converted_extent}
use Rattle.value_code.specs.Leaving.{unary_asks, binary_asks, shift_asks, unary_settles, binary_settles, shift_settles}
use Rattle.kernel_tree.specs.declared.ops.BinaryOp.TheVariants as binary
use Rattle.kernel_tree.specs.declared.ops.UnaryOp.TheVariants as unary

module _ (D : Laid) (L : Layout) (fit : Assigned L) where
  number_back : (o : Option ℤ) (inner : List DraftEntry → List DraftEntry) (rest : List DraftEntry) → (Resolves D (inner rest) → Resolves D rest) → Resolves D (number_code o inner rest) → Resolves D rest
  number_back (Some c) inner rest f h = word_back D (index_word c) rest h
  number_back None inner rest f h = f h

  load_back : (o : Option Ty) (d p r : ℕ) (rest : List DraftEntry) → Resolves D (load_code o d p r rest) → Resolves D rest
  load_back None d p r rest h = h
  load_back (Some t) d p r rest h = h

  operation_back : (op : BinaryOp) (signed : Bool) (d a c : ℕ) (rest : List DraftEntry) → Resolves D (operation_code op signed d a c rest) → Resolves D rest
  operation_back binary.Add signed d a c rest h = h
  operation_back binary.Sub signed d a c rest h = h
  operation_back binary.Mul signed d a c rest h = h
  operation_back binary.And signed d a c rest h = h
  operation_back binary.Or signed d a c rest h = h
  operation_back binary.Xor signed d a c rest h = h
  operation_back binary.Min signed d a c rest h = h
  operation_back binary.Max signed d a c rest h = h

  pub operator_back : (side : Side) (leaves : Bool) (want : Option Ty) (op : BinaryOp) (d a : ℕ) (rest : List DraftEntry) → Resolves D (at_type want (λ t. operator_code side leaves op t d a rest) rest) → Resolves D rest
  operator_back side leaves None op d a rest h = h
  operator_back (Number v) leaves (Some t) op d a rest h = word_back D (settle_word leaves t d) rest h
  operator_back (Register c) leaves (Some t) op d a rest h = word_back D (settle_word leaves t d) rest (operation_back op (is_signed t) d a c _ h)
  operator_back (Product p q) leaves (Some t) op d a rest h = word_back D (settle_word leaves t d) rest h
  operator_back (Moved kind n r) leaves (Some t) op d a rest h = word_back D (settle_word leaves t d) rest h

  pub side_back : (number : Option ℕ) (fused : Bool) (whole parts : List DraftEntry → List DraftEntry) (rest : List DraftEntry) → (Resolves D (whole rest) → Resolves D rest) → (Resolves D (parts rest) → Resolves D rest) → Resolves D (side_code number fused whole parts rest) → Resolves D rest
  side_back (Some v) fused whole parts rest f g h = h
  side_back None true whole parts rest f g h = g h
  side_back None false whole parts rest f g h = f h

  pub right_back : (number : Option ℕ) (inner : List DraftEntry → List DraftEntry) (rest : List DraftEntry) → (Resolves D (inner rest) → Resolves D rest) → Resolves D (right_code number inner rest) → Resolves D rest
  right_back (Some v) inner rest f h = h
  right_back None inner rest f h = f h

  tested_back : (o : Option Bool) (sense : Bool) (number : Option ℕ) (a c k to : ℕ) (rest : List DraftEntry) → Resolves D (tested_code o sense number a c k to rest) → Resolves D rest
  tested_back (Some is) sense number a c k to rest h = h
  tested_back None sense number a c k to rest h = h

  placed_back : (wanted : Bool) (n : ℕ) (rest : List DraftEntry) → Resolves D (placed_code wanted n rest) → Resolves D rest
  placed_back true n rest h = h.1
  placed_back false n rest h = h

  pub pick_back : (d p q n : ℕ) (rest : List DraftEntry) → Resolves D (pick_code d p q n rest) → (following D n ≡ word_code (copy_word d q) (Place (n + 1) ∷ rest)) × ((following D (n + 1) ≡ rest) × Resolves D rest)
  pick_back d p q n rest h =
      let k = word_back D (copy_word d p) _ h in
      (k.0, word_back D (copy_word d q) _ k.1)

  choice_back : (o : Option ℕ) (flags jump : List DraftEntry → List DraftEntry) (d p q n : ℕ) (rest : List DraftEntry) → ((rest : List DraftEntry) → Resolves D (flags rest) → Resolves D rest) → ((rest : List DraftEntry) → Resolves D (jump rest) → Resolves D rest) → Resolves D (choice_code o flags jump d p q n rest) → Resolves D rest
  choice_back (Some k) flags jump d p q n rest f g h = f _ h
  choice_back None flags jump d p q n rest f g h = (pick_back d p q n rest (g _ h)).1.1

  abs_back : (leaves b : Bool) (t : Ty) (d a : ℕ) (rest : List DraftEntry) → Resolves D (abs_code leaves b t d a rest) → Resolves D rest
  abs_back leaves true t d a rest h = word_back D (settle_word leaves t d) rest h
  abs_back leaves false t d a rest h = word_back D (copy_word d a) rest h

  cast_back : (low : Bool) (from : Option Ty) (t : Ty) (d a : ℕ) (rest : List DraftEntry) → Resolves D (at_type from (λ u. word_code (convert_word low u t d a) rest) rest) → Resolves D rest
  cast_back low None t d a rest h = h
  cast_back low (Some u) t d a rest h = word_back D (convert_word low u t d a) rest h

  unary_back : (leaves : Bool) (want : Option Ty) (op : UnaryOp) (d a : ℕ) (rest : List DraftEntry) → Resolves D (at_type want (λ t. unary_code leaves op t d a rest) rest) → Resolves D rest
  unary_back leaves None op d a rest h = h
  unary_back leaves (Some t) unary.Neg d a rest h = word_back D (settle_word leaves t d) rest h
  unary_back leaves (Some t) unary.Flip d a rest h = word_back D (settle_word leaves t d) rest h
  unary_back leaves (Some t) unary.Abs d a rest h = abs_back leaves (is_signed t) t d a rest h

  shift_back : (leaves : Bool) (want : Option Ty) (left : Bool) (n : ℤ) (d a : ℕ) (rest : List DraftEntry) → Resolves D (at_type want (λ t. shift_code leaves left n t d a rest) rest) → Resolves D rest
  shift_back leaves None left n d a rest h = h
  shift_back leaves (Some t) left n d a rest h = word_back D (settle_word leaves t d) rest h

  mutual
    pub loose_back : (e : Term) (hs : Homes) (s : Scope) (w : Extent) (want : Option Ty) (b n : ℕ) (rest : List DraftEntry) → Resolves D (loose_code L hs s w want b n e rest) → Resolves D rest
    loose_back (Literal z) hs s w want b n rest h = right_back (constant_at L (OfNumber z)) _ rest (const_back D (reg_of L b) (word (wrapped want z)) rest) h
    loose_back (Variable x) hs s w want b n rest h = h
    loose_back (Element a i) hs s w want b n rest h = load_back _ _ _ _ rest (right_back (place_of L (register_at hs a) (option_and_then element_type (lookup s a)) (stream_offset s.index i)) _ _ (number_back (stream_offset s.index i) _ _ (loose_back i hs s Whole (index_type s i) b n _)) h)
    loose_back (Unary op e) hs s w want b n rest h = unary_back (unary_settles s want op e w) want op _ _ rest (loose_back e hs s (unary_asks s want op e w) want b n _ h)
    loose_back (Operation op x y) hs s w want b n rest h =
        let k = binary_asks s want op x y w in
        operator_back (taken_side L hs s op k want b x y) (binary_settles s want op x y w) want op _ _ rest
        (side_back (added_number op want y) (not (is_led L hs s op k want b x y) && is_fused s op k want y) _ _ _ (loose_back y hs s k want _ _ _) (parts_back y hs s k want _ _ _)
        (side_back None (is_led L hs s op k want b x y) _ _ _ (loose_back x hs s k want b n _) (parts_back x hs s k want b n _) h))
    loose_back (Shift left e z) hs s w want b n rest h = shift_back (shift_settles s want left e z w) want left z _ _ rest (loose_back e hs s (shift_asks s want left e z w) want b n _ h)
    loose_back (Conversion e t) hs s w want b n rest h = cast_back (within_type w t) (own s e) t _ _ rest (loose_back e hs s (converted_extent w (own s e) t) (own s e) b n _ h)
    loose_back (Choice c x y) hs s w want b n rest h = choice_back (flag_condition s c) _ _ _ _ _ _ rest (λ r. flags_back c hs s _ _ r) (λ r. jump_back c hs s false _ _ _ r) (loose_back y hs s w want _ _ _ (loose_back x hs s w want b n _ h))
    loose_back (Comparison op x y) hs s w want b n rest h = h
    loose_back (Both x y) hs s w want b n rest h = h
    loose_back (Either x y) hs s w want b n rest h = h
    loose_back (Not e) hs s w want b n rest h = h

    pub parts_back : (e : Term) (hs : Homes) (s : Scope) (w : Extent) (want : Option Ty) (b n : ℕ) (rest : List DraftEntry) → Resolves D (parts_code L hs s w want b n e rest) → Resolves D rest
    parts_back (Operation op x y) hs s w want b n rest h = loose_back y hs s (binary_asks s want op x y w) want _ _ rest (loose_back x hs s (binary_asks s want op x y w) want b n _ h)
    parts_back (Shift left e z) hs s w want b n rest h = loose_back e hs s (shift_asks s want left e z w) want b n rest h
    parts_back (Literal z) hs s w want b n rest h = h
    parts_back (Variable x) hs s w want b n rest h = h
    parts_back (Element a i) hs s w want b n rest h = h
    parts_back (Unary op e) hs s w want b n rest h = h
    parts_back (Conversion e t) hs s w want b n rest h = loose_back e hs s (converted_extent w (own s e) t) (own s e) b n rest h
    parts_back (Choice c x y) hs s w want b n rest h = h
    parts_back (Comparison op x y) hs s w want b n rest h = h
    parts_back (Both x y) hs s w want b n rest h = h
    parts_back (Either x y) hs s w want b n rest h = h
    parts_back (Not e) hs s w want b n rest h = h

    flags_back : (e : Term) (hs : Homes) (s : Scope) (b n : ℕ) (rest : List DraftEntry) → Resolves D (flags_code L hs s b n e rest) → Resolves D rest
    flags_back (Comparison op x y) hs s b n rest h = right_back (compared_number (side_type s x y) y) _ (Put (compare_word (compared_number (side_type s x y) y) (home L hs s.index b x) (home L hs s.index (b + term_size s.index x) y)) ∷ rest) (loose_back y hs s Whole (side_type s x y) _ _ _) (loose_back x hs s Whole (side_type s x y) b n _ h)
    flags_back (Literal z) hs s b n rest h = h
    flags_back (Variable x) hs s b n rest h = h
    flags_back (Element a i) hs s b n rest h = h
    flags_back (Unary op e) hs s b n rest h = h
    flags_back (Operation op x y) hs s b n rest h = h
    flags_back (Shift left e z) hs s b n rest h = h
    flags_back (Conversion e t) hs s b n rest h = h
    flags_back (Choice c x y) hs s b n rest h = h
    flags_back (Both x y) hs s b n rest h = h
    flags_back (Either x y) hs s b n rest h = h
    flags_back (Not e) hs s b n rest h = h

    pub jump_back : (e : Term) (hs : Homes) (s : Scope) (sense : Bool) (to b n : ℕ) (rest : List DraftEntry) → Resolves D (jump_code L hs s sense to b n e rest) → Resolves D rest
    jump_back (Comparison op x y) hs s sense to b n rest h =
        tested_back (zero_test op (compared_number (side_type s x y) y)) sense (compared_number (side_type s x y) y) _ _ (condition op (signed_side (side_type s x y))) to rest
        (right_back (compared_number (side_type s x y) y) _ _ (loose_back y hs s Whole (side_type s x y) _ _ _) (loose_back x hs s Whole (side_type s x y) b n _ h))
    jump_back (Both x y) hs s sense to b n rest h = placed_back sense n rest (jump_back y hs s sense to _ _ _ (jump_back x hs s false _ b _ _ h))
    jump_back (Either x y) hs s sense to b n rest h = placed_back (not sense) n rest (jump_back y hs s sense to _ _ _ (jump_back x hs s true _ b _ _ h))
    jump_back (Not e) hs s sense to b n rest h = jump_back e hs s (not sense) to b n rest h
    jump_back (Literal z) hs s sense to b n rest h = h
    jump_back (Variable x) hs s sense to b n rest h = h
    jump_back (Element a i) hs s sense to b n rest h = h
    jump_back (Unary op e) hs s sense to b n rest h = h
    jump_back (Operation op x y) hs s sense to b n rest h = h
    jump_back (Shift left e z) hs s sense to b n rest h = h
    jump_back (Conversion e t) hs s sense to b n rest h = h
    jump_back (Choice c x y) hs s sense to b n rest h = h

  pub value_back : (e : Term) (hs : Homes) (s : Scope) (want : Option Ty) (b n : ℕ) (rest : List DraftEntry) → Resolves D (value_code L hs s want b n e rest) → Resolves D rest
  value_back e hs s want b n rest h = loose_back e hs s Whole want b n rest h
