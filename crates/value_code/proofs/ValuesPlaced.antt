-- Each label of an expression is placed once.
use Rattle.std.proofs.Common.{◌≢◌, ℕ, ◌+◌, ◌<◌, ◌≤◌, ◌&&◌, Bool, true, false, List, ◌∷◌, Option, Some, None, arith}
use Rattle.std.specs.Prelude.{ℤ, not, option_and_then}
use Rattle.kernel_tree.specs.declared.ops.Ty.{Ty}
use Rattle.kernel_tree.specs.declared.ops.UnaryOp.{UnaryOp}
use Rattle.kernel_tree.specs.declared.ops.BinaryOp.{BinaryOp}
use Rattle.kernel_tree.specs.Plain.{Term, Literal, Variable, Element, Unary, Operation, Shift, Conversion, Choice, Comparison, Both, Either, Not}
use Rattle.kernel_tree.specs.Items.{term_size, stream_offset}
use Rattle.kernel_tree.specs.Wrap.{is_signed}
use Rattle.kernel_tree.specs.Typing.{Scope, lookup, own, element_type, index_type, side_type, left}
use Rattle.kernel_meaning.specs.Operators.{word, wrapped}
use Rattle.machine_model.specs.InstructionTable.{Listed}
use Rattle.value_code.specs.declared.extent.Extent.{Extent}
use Rattle.value_code.specs.Extents.{Whole, within_type, converted_extent}
use Rattle.value_code.specs.Leaving.{unary_asks, binary_asks, shift_asks, unary_settles, binary_settles, shift_settles}
use Rattle.label_fix.specs.DraftRun.{DraftEntry, Put, Place}
use Rattle.label_fix.proofs.LabelsOnce.{Unplaced, Once}
use Rattle.scalar_words.specs.Layout.{OfNumber, Layout, Homes, reg_of, constant_at, register_at}
use Rattle.value_code.specs.ValueRegisters.{home}
use Rattle.scalar_words.specs.Words.{condition, copy_word, settle_word, word_code, at_type}
use Rattle.value_code.specs.ItemWords.{Side, Number, Register, Product, Moved, zero_test, tested_code, pick_code, placed_code, operator_code, convert_word, index_word, load_code, unary_code, abs_code, shift_code}
use Rattle.value_code.specs.Code.{inner_labels, labels, number_code, place_of, signed_side, compared_number, added_number, is_fused, is_led, taken_side, side_code, parts_code, right_code, flag_condition, choice_code, loose_code, flags_code, jump_code}
use Rattle.scalar_words.proofs.Pieces.{word_put, operation_put, const_put, unplaced_put, once_put}
use Rattle.kernel_tree.specs.declared.ops.UnaryOp.TheVariants as unary

-- no label from lo on and below hi is placed
abbrev pub Fresh : ℕ → ℕ → List DraftEntry → Type 0
Fresh lo hi es = (l : ℕ) → lo ≤ l → l < hi → Unplaced l es

module _ (P : List DraftEntry → Type 0) (put : (i : Listed) (rest : List DraftEntry) → P rest → P (Put i ∷ rest)) where
  pub operator_put : (side : Side) (leaves : Bool) (want : Option Ty) (op : BinaryOp) (d a : ℕ) (rest : List DraftEntry) → P rest → P (at_type want (λ t. operator_code side leaves op t d a rest) rest)
  operator_put side leaves None op d a rest h = h
  operator_put (Number v) leaves (Some t) op d a rest h = put _ _ (word_put P put (settle_word leaves t d) rest h)
  operator_put (Register c) leaves (Some t) op d a rest h = operation_put P put op (is_signed t) d a c _ (word_put P put (settle_word leaves t d) rest h)
  operator_put (Product p q) leaves (Some t) op d a rest h = put _ _ (word_put P put (settle_word leaves t d) rest h)
  operator_put (Moved kind n r) leaves (Some t) op d a rest h = put _ _ (word_put P put (settle_word leaves t d) rest h)

  abs_put : (leaves b : Bool) (t : Ty) (d a : ℕ) (rest : List DraftEntry) → P rest → P (abs_code leaves b t d a rest)
  abs_put leaves true t d a rest h = put _ _ (put _ _ (word_put P put (settle_word leaves t d) rest h))
  abs_put leaves false t d a rest h = word_put P put (copy_word d a) rest h

  cast_put : (low : Bool) (from : Option Ty) (t : Ty) (d a : ℕ) (rest : List DraftEntry) → P rest → P (at_type from (λ u. word_code (convert_word low u t d a) rest) rest)
  cast_put low None t d a rest h = h
  cast_put low (Some u) t d a rest h = word_put P put (convert_word low u t d a) rest h

  unary_put : (leaves : Bool) (want : Option Ty) (op : UnaryOp) (d a : ℕ) (rest : List DraftEntry) → P rest → P (at_type want (λ t. unary_code leaves op t d a rest) rest)
  unary_put leaves None op d a rest h = h
  unary_put leaves (Some t) unary.Neg d a rest h = put _ _ (word_put P put (settle_word leaves t d) rest h)
  unary_put leaves (Some t) unary.Flip d a rest h = put _ _ (word_put P put (settle_word leaves t d) rest h)
  unary_put leaves (Some t) unary.Abs d a rest h = abs_put leaves (is_signed t) t d a rest h

  shift_put : (leaves : Bool) (want : Option Ty) (left : Bool) (n : ℤ) (d a : ℕ) (rest : List DraftEntry) → P rest → P (at_type want (λ t. shift_code leaves left n t d a rest) rest)
  shift_put leaves None left n d a rest h = h
  shift_put leaves (Some t) left n d a rest h = put _ _ (word_put P put (settle_word leaves t d) rest h)

  load_put : (o : Option Ty) (d p r : ℕ) (rest : List DraftEntry) → P rest → P (load_code o d p r rest)
  load_put None d p r rest h = h
  load_put (Some t) d p r rest h = put _ _ h

number_unplaced : (l : ℕ) (o : Option ℤ) (n m : ℕ) (inner : List DraftEntry → List DraftEntry) (rest : List DraftEntry) → (n ≤ l → n + inner_labels o m ≤ l) → ((n ≤ l → n + m ≤ l) → (rest : List DraftEntry) → Unplaced l rest → Unplaced l (inner rest)) → Unplaced l rest → Unplaced l (number_code o inner rest)
number_unplaced l (Some c) n m inner rest h f u = word_put (Unplaced l) (unplaced_put l) (index_word c) rest u
number_unplaced l None n m inner rest h f u = f h rest u

-- pieces of choices and conditions
pub side_unplaced : (l : ℕ) (number : Option ℕ) (fused : Bool) (whole parts : List DraftEntry → List DraftEntry) (rest : List DraftEntry) → Unplaced l (whole rest) → Unplaced l (parts rest) → Unplaced l rest → Unplaced l (side_code number fused whole parts rest)
side_unplaced l (Some v) fused whole parts rest f g u = u
side_unplaced l None true whole parts rest f g u = g
side_unplaced l None false whole parts rest f g u = f

right_unplaced : (l : ℕ) (number : Option ℕ) (inner : List DraftEntry → List DraftEntry) (rest : List DraftEntry) → Unplaced l (inner rest) → Unplaced l rest → Unplaced l (right_code number inner rest)
right_unplaced l (Some v) inner rest f u = u
right_unplaced l None inner rest f u = f

tested_unplaced : (l : ℕ) (o : Option Bool) (sense : Bool) (number : Option ℕ) (a c k to : ℕ) (rest : List DraftEntry) → Unplaced l rest → Unplaced l (tested_code o sense number a c k to rest)
tested_unplaced l (Some is) sense number a c k to rest u = u
tested_unplaced l None sense number a c k to rest u = u

placed_unplaced : (l : ℕ) (wanted : Bool) (n : ℕ) (rest : List DraftEntry) → n ≢ l → Unplaced l rest → Unplaced l (placed_code wanted n rest)
placed_unplaced l true n rest ne u = (ne, u)
placed_unplaced l false n rest ne u = u

pick_unplaced : (l d p q n : ℕ) (rest : List DraftEntry) → n ≢ l → n + 1 ≢ l → Unplaced l rest → Unplaced l (pick_code d p q n rest)
pick_unplaced l d p q n rest ne nf u = word_put (Unplaced l) (unplaced_put l) (copy_word d p) _ (ne, word_put (Unplaced l) (unplaced_put l) (copy_word d q) (Place (n + 1) ∷ rest) (nf, u))

choice_unplaced : (l : ℕ) (o : Option ℕ) (flags jump : List DraftEntry → List DraftEntry) (d p q n : ℕ) (rest : List DraftEntry) → n ≢ l → n + 1 ≢ l → ((rest : List DraftEntry) → Unplaced l rest → Unplaced l (flags rest)) → ((rest : List DraftEntry) → Unplaced l rest → Unplaced l (jump rest)) → Unplaced l rest → Unplaced l (choice_code o flags jump d p q n rest)
choice_unplaced l (Some k) flags jump d p q n rest ne nf f g u = f _ u
choice_unplaced l None flags jump d p q n rest ne nf f g u = g _ (pick_unplaced l d p q n rest ne nf u)

module _ (L : Layout) (hs : Homes) where
  mutual
    pub loose_unplaced : (e : Term) (s : Scope) (w : Extent) (want : Option Ty) (l b n : ℕ) (rest : List DraftEntry) → (n ≤ l → n + labels s.index e ≤ l) → Unplaced l rest → Unplaced l (loose_code L hs s w want b n e rest)
    loose_unplaced (Literal z) s w want l b n rest h u = right_unplaced l (constant_at L (OfNumber z)) _ rest (const_put (Unplaced l) (unplaced_put l) (reg_of L b) (word (wrapped want z)) rest u) u
    loose_unplaced (Variable x) s w want l b n rest h u = u
    loose_unplaced (Element a j) s w want l b n rest h u =
        let loaded = load_put (Unplaced l) (unplaced_put l) _ _ _ _ rest u in
        right_unplaced l (place_of L (register_at hs a) (option_and_then element_type (lookup s a)) (stream_offset s.index j)) _ _ (number_unplaced l (stream_offset s.index j) n (labels s.index j) _ _ h (λ k r v. loose_unplaced j s Whole (index_type s j) l b n r k v) loaded) loaded
    loose_unplaced (Unary op x) s w want l b n rest h u = loose_unplaced x s (unary_asks s want op x w) want l b n _ h (unary_put (Unplaced l) (unplaced_put l) (unary_settles s want op x w) want op _ _ rest u)
    loose_unplaced (Operation op x y) s w want l b n rest h u =
        let k1 = binary_asks s want op x y w in
        let v = operator_put (Unplaced l) (unplaced_put l) (taken_side L hs s op k1 want b x y) (binary_settles s want op x y w) want op _ _ rest u in
        let after = side_unplaced l (added_number op want y) (not (is_led L hs s op k1 want b x y) && is_fused s op k1 want y) _ _ _ (loose_unplaced y s k1 want l _ _ _ (λ k. omega arith) v) (parts_unplaced y s k1 want l _ _ _ (λ k. omega arith) v) v in
        side_unplaced l None (is_led L hs s op k1 want b x y) _ _ _ (loose_unplaced x s k1 want l b n _ (λ k. omega arith) after) (parts_unplaced x s k1 want l b n _ (λ k. omega arith) after) after
    loose_unplaced (Shift left x z) s w want l b n rest h u = loose_unplaced x s (shift_asks s want left x z w) want l b n _ h (shift_put (Unplaced l) (unplaced_put l) (shift_settles s want left x z w) want left z _ _ rest u)
    loose_unplaced (Conversion x t) s w want l b n rest h u = loose_unplaced x s (converted_extent w (own s x) t) (own s x) l b n _ h (cast_put (Unplaced l) (unplaced_put l) (within_type w t) (own s x) t _ _ rest u)
    loose_unplaced (Choice c x y) s w want l b n rest h u =
        loose_unplaced x s w want l b n _ (λ k. omega arith) (loose_unplaced y s w want l _ _ _ (λ k. omega arith)
        (choice_unplaced l (flag_condition s c) _ _ _ _ _ (n + labels s.index x + labels s.index y) rest (λ e. absurd (omega arith)) (λ e. absurd (omega arith)) (λ r v. flags_unplaced c s l _ _ r (λ k. omega arith) v) (λ r v. jump_unplaced c s false _ l _ _ r (λ k. omega arith) v) u))
    loose_unplaced (Comparison op x y) s w want l b n rest h u = u
    loose_unplaced (Both x y) s w want l b n rest h u = u
    loose_unplaced (Either x y) s w want l b n rest h u = u
    loose_unplaced (Not x) s w want l b n rest h u = u

    pub parts_unplaced : (e : Term) (s : Scope) (w : Extent) (want : Option Ty) (l b n : ℕ) (rest : List DraftEntry) → (n ≤ l → n + labels s.index e ≤ l) → Unplaced l rest → Unplaced l (parts_code L hs s w want b n e rest)
    parts_unplaced (Operation op x y) s w want l b n rest h u = loose_unplaced x s (binary_asks s want op x y w) want l b n _ (λ k. omega arith) (loose_unplaced y s (binary_asks s want op x y w) want l _ _ rest (λ k. omega arith) u)
    parts_unplaced (Shift left x z) s w want l b n rest h u = loose_unplaced x s (shift_asks s want left x z w) want l b n rest h u
    parts_unplaced (Literal z) s w want l b n rest h u = u
    parts_unplaced (Variable x) s w want l b n rest h u = u
    parts_unplaced (Element a i) s w want l b n rest h u = u
    parts_unplaced (Unary op e) s w want l b n rest h u = u
    parts_unplaced (Conversion e t) s w want l b n rest h u = loose_unplaced e s (converted_extent w (own s e) t) (own s e) l b n rest h u
    parts_unplaced (Choice c x y) s w want l b n rest h u = u
    parts_unplaced (Comparison op x y) s w want l b n rest h u = u
    parts_unplaced (Both x y) s w want l b n rest h u = u
    parts_unplaced (Either x y) s w want l b n rest h u = u
    parts_unplaced (Not e) s w want l b n rest h u = u

    flags_unplaced : (e : Term) (s : Scope) (l b n : ℕ) (rest : List DraftEntry) → (n ≤ l → n + labels s.index e ≤ l) → Unplaced l rest → Unplaced l (flags_code L hs s b n e rest)
    flags_unplaced (Comparison op x y) s l b n rest h u =
        loose_unplaced x s Whole (side_type s x y) l b n _ (λ k. omega arith) (right_unplaced l (compared_number (side_type s x y) y) _ _ (loose_unplaced y s Whole (side_type s x y) l _ _ _ (λ k. omega arith) u) u)
    flags_unplaced (Literal z) s l b n rest h u = u
    flags_unplaced (Variable x) s l b n rest h u = u
    flags_unplaced (Element a i) s l b n rest h u = u
    flags_unplaced (Unary op e) s l b n rest h u = u
    flags_unplaced (Operation op x y) s l b n rest h u = u
    flags_unplaced (Shift left e z) s l b n rest h u = u
    flags_unplaced (Conversion e t) s l b n rest h u = u
    flags_unplaced (Choice c x y) s l b n rest h u = u
    flags_unplaced (Both x y) s l b n rest h u = u
    flags_unplaced (Either x y) s l b n rest h u = u
    flags_unplaced (Not e) s l b n rest h u = u

    pub jump_unplaced : (e : Term) (s : Scope) (sense : Bool) (to l b n : ℕ) (rest : List DraftEntry) → (n ≤ l → n + labels s.index e ≤ l) → Unplaced l rest → Unplaced l (jump_code L hs s sense to b n e rest)
    jump_unplaced (Comparison op x y) s sense to l b n rest h u =
        let number = compared_number (side_type s x y) y in
        let v = tested_unplaced l (zero_test op number) sense number (home L hs s.index b x) (home L hs s.index (b + term_size s.index x) y) (condition op (signed_side (side_type s x y))) to rest u in
        loose_unplaced x s Whole (side_type s x y) l b n _ (λ k. omega arith) (right_unplaced l number _ _ (loose_unplaced y s Whole (side_type s x y) l _ _ _ (λ k. omega arith) v) v)
    jump_unplaced (Both x y) s sense to l b n rest h u = jump_unplaced x s false _ l b (n + 1) _ (λ k. omega arith) (jump_unplaced y s sense to l _ _ _ (λ k. omega arith) (placed_unplaced l sense n rest (λ e. absurd (omega arith)) u))
    jump_unplaced (Either x y) s sense to l b n rest h u = jump_unplaced x s true _ l b (n + 1) _ (λ k. omega arith) (jump_unplaced y s sense to l _ _ _ (λ k. omega arith) (placed_unplaced l (not sense) n rest (λ e. absurd (omega arith)) u))
    jump_unplaced (Not x) s sense to l b n rest h u = jump_unplaced x s (not sense) to l b n rest h u
    jump_unplaced (Literal z) s sense to l b n rest h u = u
    jump_unplaced (Variable x) s sense to l b n rest h u = u
    jump_unplaced (Element a i) s sense to l b n rest h u = u
    jump_unplaced (Unary op e) s sense to l b n rest h u = u
    jump_unplaced (Operation op x y) s sense to l b n rest h u = u
    jump_unplaced (Shift left e z) s sense to l b n rest h u = u
    jump_unplaced (Conversion e t) s sense to l b n rest h u = u
    jump_unplaced (Choice c x y) s sense to l b n rest h u = u

  -- one of two registers
  one_of_unplaced : (c : Term) (s : Scope) (l b n d p q : ℕ) (rest : List DraftEntry) → (n ≤ l → n + (2 + labels s.index c) ≤ l) → Unplaced l rest → Unplaced l (choice_code (flag_condition s c) (flags_code L hs s b (n + 2) c) (jump_code L hs s false n b (n + 2) c) d p q n rest)
  one_of_unplaced c s l b n d p q rest h u =
      choice_unplaced l (flag_condition s c) (flags_code L hs s b (n + 2) c) (jump_code L hs s false n b (n + 2) c) d p q n rest (λ e. absurd (omega arith)) (λ e. absurd (omega arith)) (λ r v. flags_unplaced c s l b (n + 2) r (λ k. omega arith) v) (λ r v. jump_unplaced c s false n l b (n + 2) r (λ k. omega arith) v) u

number_once : (o : Option ℤ) (n m : ℕ) (inner : List DraftEntry → List DraftEntry) (rest : List DraftEntry) → Fresh n (n + inner_labels o m) rest → (Fresh n (n + m) rest → Once (inner rest)) → Once rest → Once (number_code o inner rest)
number_once (Some c) n m inner rest f k h = word_put Once once_put (index_word c) rest h
number_once None n m inner rest f k h = k f

pub side_once : (number : Option ℕ) (fused : Bool) (whole parts : List DraftEntry → List DraftEntry) (rest : List DraftEntry) → Once (whole rest) → Once (parts rest) → Once rest → Once (side_code number fused whole parts rest)
side_once (Some v) fused whole parts rest f g h = h
side_once None true whole parts rest f g h = g
side_once None false whole parts rest f g h = f

-- the code of a left side
led_once : (led : Bool) (whole parts : List DraftEntry → List DraftEntry) (rest : List DraftEntry) (lo hi : ℕ) → Fresh lo hi rest → Once rest → (Fresh lo hi rest → Once rest → Once (whole rest)) → (Fresh lo hi rest → Once rest → Once (parts rest)) → Once (side_code None led whole parts rest)
led_once true whole parts rest lo hi f h w p = p f h
led_once false whole parts rest lo hi f h w p = w f h

right_once : (number : Option ℕ) (inner : List DraftEntry → List DraftEntry) (rest : List DraftEntry) → Once (inner rest) → Once rest → Once (right_code number inner rest)
right_once (Some v) inner rest f h = h
right_once None inner rest f h = f

tested_once : (o : Option Bool) (sense : Bool) (number : Option ℕ) (a c k to : ℕ) (rest : List DraftEntry) → Once rest → Once (tested_code o sense number a c k to rest)
tested_once (Some is) sense number a c k to rest h = h
tested_once None sense number a c k to rest h = h

placed_once : (wanted : Bool) (n : ℕ) (rest : List DraftEntry) → Unplaced n rest → Once rest → Once (placed_code wanted n rest)
placed_once true n rest u h = (u, h)
placed_once false n rest u h = h

-- the labels of a choice are those from n on
choice_once : (o : Option ℕ) (flags jump : List DraftEntry → List DraftEntry) (d p q n m : ℕ) (rest : List DraftEntry) → Fresh n (n + (2 + m)) rest → ((rest : List DraftEntry) → Fresh (n + 2) (n + 2 + m) rest → Once rest → Once (flags rest)) → ((rest : List DraftEntry) → Fresh (n + 2) (n + 2 + m) rest → Once rest → Once (jump rest)) → Once rest → Once (choice_code o flags jump d p q n rest)
choice_once (Some k) flags jump d p q n m rest f g j h = g _ (λ l lo hi. f l (omega arith) (omega arith)) h
choice_once None flags jump d p q n m rest f g j h =
    j _ (λ l lo hi. pick_unplaced l d p q n rest (λ e. absurd (omega arith)) (λ e. absurd (omega arith)) (f l (omega arith) (omega arith)))
    (word_put Once once_put (copy_word d p) _ (
      word_put (Unplaced n) (unplaced_put n) (copy_word d q) (Place (n + 1) ∷ rest) ((λ e. absurd (omega arith)), f n (omega arith) (omega arith)),
      word_put Once once_put (copy_word d q) (Place (n + 1) ∷ rest) (f (n + 1) (omega arith) (omega arith), h),
    ))

module _ (L : Layout) (hs : Homes) where
  mutual
    pub loose_once : (e : Term) (s : Scope) (w : Extent) (want : Option Ty) (b n : ℕ) (rest : List DraftEntry) → Fresh n (n + labels s.index e) rest → Once rest → Once (loose_code L hs s w want b n e rest)
    loose_once (Literal z) s w want b n rest f h = right_once (constant_at L (OfNumber z)) _ rest (const_put Once once_put (reg_of L b) (word (wrapped want z)) rest h) h
    loose_once (Variable x) s w want b n rest f h = h
    loose_once (Element a j) s w want b n rest f h =
        let loaded = load_put Once once_put _ _ _ _ rest h in
        right_once (place_of L (register_at hs a) (option_and_then element_type (lookup s a)) (stream_offset s.index j)) _ _ (number_once (stream_offset s.index j) n (labels s.index j) _ _ (λ l lo hi. load_put (Unplaced l) (unplaced_put l) _ _ _ _ rest (f l lo hi)) (λ g. loose_once j s Whole (index_type s j) b n _ g loaded) loaded) loaded
    loose_once (Unary op x) s w want b n rest f h = loose_once x s (unary_asks s want op x w) want b n _ (λ l lo hi. unary_put (Unplaced l) (unplaced_put l) (unary_settles s want op x w) want op _ _ rest (f l lo hi)) (unary_put Once once_put (unary_settles s want op x w) want op _ _ rest h)
    loose_once (Operation op x y) s w want b n rest f h =
        let number = added_number op want y in
        let ends = binary_settles s want op x y w in
        let k1 = binary_asks s want op x y w in
        let fused = not (is_led L hs s op k1 want b x y) && is_fused s op k1 want y in
        let side = taken_side L hs s op k1 want b x y in
        let once = operator_put Once once_put side ends want op _ _ rest h in
        led_once (is_led L hs s op k1 want b x y) _ _ _ n (n + labels s.index x)
        (λ l lo hi. let v = operator_put (Unplaced l) (unplaced_put l) side ends want op _ _ rest (f l lo (omega arith)) in side_unplaced l number fused _ _ _ (loose_unplaced L hs y s k1 want l _ _ _ (λ k. omega arith) v) (parts_unplaced L hs y s k1 want l _ _ _ (λ k. omega arith) v) v)
        (side_once number fused _ _ _ (loose_once y s k1 want _ _ _ (λ l lo hi. operator_put (Unplaced l) (unplaced_put l) side ends want op _ _ rest (f l (omega arith) (omega arith))) once)
        (parts_once y s k1 want _ _ _ (λ l lo hi. operator_put (Unplaced l) (unplaced_put l) side ends want op _ _ rest (f l (omega arith) (omega arith))) once) once)
        (λ g o. loose_once x s k1 want b n _ g o) (λ g o. parts_once x s k1 want b n _ g o)
    loose_once (Shift left x z) s w want b n rest f h = loose_once x s (shift_asks s want left x z w) want b n _ (λ l lo hi. shift_put (Unplaced l) (unplaced_put l) (shift_settles s want left x z w) want left z _ _ rest (f l lo hi)) (shift_put Once once_put (shift_settles s want left x z w) want left z _ _ rest h)
    loose_once (Conversion x t) s w want b n rest f h = loose_once x s (converted_extent w (own s x) t) (own s x) b n _ (λ l lo hi. cast_put (Unplaced l) (unplaced_put l) (within_type w t) (own s x) t _ _ rest (f l lo hi)) (cast_put Once once_put (within_type w t) (own s x) t _ _ rest h)
    loose_once (Choice c x y) s w want b n rest f h =
        let n3 = n + labels s.index x + labels s.index y in
        loose_once x s w want b n _ (λ l lo hi. loose_unplaced L hs y s w want l _ _ _ (λ k. omega arith) (one_of_unplaced L hs c s l _ n3 _ _ _ rest (λ k. omega arith) (f l lo (omega arith))))
        (loose_once y s w want _ _ _ (λ l lo hi. one_of_unplaced L hs c s l _ n3 _ _ _ rest (λ k. omega arith) (f l (omega arith) (omega arith)))
        (choice_once (flag_condition s c) _ _ _ _ _ n3 (labels s.index c) rest (λ l lo hi. f l (omega arith) (omega arith)) (λ r g o. flags_once c s _ _ r g o) (λ r g o. jump_once c s false _ _ _ r g o) h))
    loose_once (Comparison op x y) s w want b n rest f h = h
    loose_once (Both x y) s w want b n rest f h = h
    loose_once (Either x y) s w want b n rest f h = h
    loose_once (Not x) s w want b n rest f h = h

    pub parts_once : (e : Term) (s : Scope) (w : Extent) (want : Option Ty) (b n : ℕ) (rest : List DraftEntry) → Fresh n (n + labels s.index e) rest → Once rest → Once (parts_code L hs s w want b n e rest)
    parts_once (Operation op x y) s w want b n rest f h =
        let k1 = binary_asks s want op x y w in
        loose_once x s k1 want b n _ (λ l lo hi. loose_unplaced L hs y s k1 want l _ _ rest (λ k. omega arith) (f l lo (omega arith))) (loose_once y s k1 want _ _ rest (λ l lo hi. f l (omega arith) (omega arith)) h)
    parts_once (Shift left x z) s w want b n rest f h = loose_once x s (shift_asks s want left x z w) want b n rest f h
    parts_once (Literal z) s w want b n rest f h = h
    parts_once (Variable x) s w want b n rest f h = h
    parts_once (Element a i) s w want b n rest f h = h
    parts_once (Unary op e) s w want b n rest f h = h
    parts_once (Conversion e t) s w want b n rest f h = loose_once e s (converted_extent w (own s e) t) (own s e) b n rest f h
    parts_once (Choice c x y) s w want b n rest f h = h
    parts_once (Comparison op x y) s w want b n rest f h = h
    parts_once (Both x y) s w want b n rest f h = h
    parts_once (Either x y) s w want b n rest f h = h
    parts_once (Not e) s w want b n rest f h = h

    flags_once : (e : Term) (s : Scope) (b n : ℕ) (rest : List DraftEntry) → Fresh n (n + labels s.index e) rest → Once rest → Once (flags_code L hs s b n e rest)
    flags_once (Comparison op x y) s b n rest f h =
        let number = compared_number (side_type s x y) y in
        loose_once x s Whole (side_type s x y) b n _ (λ l lo hi. let u = f l lo (omega arith) in right_unplaced l number _ _ (loose_unplaced L hs y s Whole (side_type s x y) l _ _ _ (λ k. omega arith) u) u)
        (right_once number _ _ (loose_once y s Whole (side_type s x y) _ _ _ (λ l lo hi. f l (omega arith) (omega arith)) h) h)
    flags_once (Literal z) s b n rest f h = h
    flags_once (Variable x) s b n rest f h = h
    flags_once (Element a i) s b n rest f h = h
    flags_once (Unary op e) s b n rest f h = h
    flags_once (Operation op x y) s b n rest f h = h
    flags_once (Shift left e z) s b n rest f h = h
    flags_once (Conversion e t) s b n rest f h = h
    flags_once (Choice c x y) s b n rest f h = h
    flags_once (Both x y) s b n rest f h = h
    flags_once (Either x y) s b n rest f h = h
    flags_once (Not e) s b n rest f h = h

    pub jump_once : (e : Term) (s : Scope) (sense : Bool) (to b n : ℕ) (rest : List DraftEntry) → Fresh n (n + labels s.index e) rest → Once rest → Once (jump_code L hs s sense to b n e rest)
    jump_once (Comparison op x y) s sense to b n rest f h =
        let number = compared_number (side_type s x y) y in
        let k = condition op (signed_side (side_type s x y)) in
        let p = home L hs s.index b x in
        let q = home L hs s.index (b + term_size s.index x) y in
        let once = tested_once (zero_test op number) sense number p q k to rest h in
        loose_once x s Whole (side_type s x y) b n _ (λ l lo hi. let u = tested_unplaced l (zero_test op number) sense number p q k to rest (f l lo (omega arith)) in right_unplaced l number _ _ (loose_unplaced L hs y s Whole (side_type s x y) l _ _ _ (λ k. omega arith) u) u)
        (right_once number _ _ (loose_once y s Whole (side_type s x y) _ _ _ (λ l lo hi. tested_unplaced l (zero_test op number) sense number p q k to rest (f l (omega arith) (omega arith))) once) once)
    jump_once (Both x y) s sense to b n rest f h =
        jump_once x s false _ b (n + 1) _ (λ l lo hi. jump_unplaced L hs y s sense to l _ _ _ (λ k. omega arith) (placed_unplaced l sense n rest (λ e. absurd (omega arith)) (f l (omega arith) (omega arith))))
        (jump_once y s sense to _ _ _ (λ l lo hi. placed_unplaced l sense n rest (λ e. absurd (omega arith)) (f l (omega arith) (omega arith))) (placed_once sense n rest (f n (omega arith) (omega arith)) h))
    jump_once (Either x y) s sense to b n rest f h =
        jump_once x s true _ b (n + 1) _ (λ l lo hi. jump_unplaced L hs y s sense to l _ _ _ (λ k. omega arith) (placed_unplaced l (not sense) n rest (λ e. absurd (omega arith)) (f l (omega arith) (omega arith))))
        (jump_once y s sense to _ _ _ (λ l lo hi. placed_unplaced l (not sense) n rest (λ e. absurd (omega arith)) (f l (omega arith) (omega arith))) (placed_once (not sense) n rest (f n (omega arith) (omega arith)) h))
    jump_once (Not x) s sense to b n rest f h = jump_once x s (not sense) to b n rest f h
    jump_once (Literal z) s sense to b n rest f h = h
    jump_once (Variable x) s sense to b n rest f h = h
    jump_once (Element a i) s sense to b n rest f h = h
    jump_once (Unary op e) s sense to b n rest f h = h
    jump_once (Operation op x y) s sense to b n rest f h = h
    jump_once (Shift left e z) s sense to b n rest f h = h
    jump_once (Conversion e t) s sense to b n rest f h = h
    jump_once (Choice c x y) s sense to b n rest f h = h
