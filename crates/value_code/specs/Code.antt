-- The code of expressions, before the entries that follow it. b is the first item, n the next label.
use Rattle.std.specs.Prelude.{ℕ, zero, suc, ◌+◌, ℤ, pos, ◌*ℤ◌, unsigned_abs, Bool, true, false, not, ◌&&◌, ◌||◌, List, [], ◌∷◌, Option, Some, None, is_none, option_and_then, nat_eq, nat_lt, unwrap_or, if◌then◌else◌}
use Rattle.kernel_tree.specs.declared.ops.Ty.{Ty}
use Rattle.kernel_tree.specs.declared.ops.BinaryOp.{BinaryOp}
use Rattle.kernel_tree.specs.declared.ops.BinaryOp.TheVariants as binary
use Rattle.a64_code.specs.Table.{csel}
use Rattle.kernel_tree.specs.Plain.{Term, Literal, Variable, Element, Unary, Operation, Shift, Conversion, Choice, Comparison, Both, Either, Not}
use Rattle.kernel_tree.specs.Items.{literal_value, term_size, index_items, stream_offset}
use Rattle.kernel_tree.specs.Wrap.{is_signed, byte_count}
use Rattle.kernel_tree.specs.Typing.{Scope, lookup, own, element_type, index_type, side_type}
use Rattle.kernel_meaning.specs.Operators.{word, wrapped, shift_count}
use Rattle.label_fix.specs.DraftRun.{DraftEntry, Put, ins}
use Rattle.label_fix.specs.Registers.{iteration, xzr}
use Rattle.scalar_words.specs.Layout.{Key, OfNumber, OfAddress, Layout, Homes, reg_of, last_use_at, constant_at, register_at}
use Rattle.value_code.specs.ValueRegisters.{home}
use Rattle.value_code.specs.declared.extent.Extent.{Extent}
use Rattle.value_code.specs.Extents.{Whole, within_type, fits_at, converted_extent}
use Rattle.value_code.specs.Leaving.{unary_asks, binary_asks, shift_asks, unary_settles, binary_settles, shift_settles}
use Rattle.scalar_words.specs.Words.{const_code, word_code, condition, is_narrow, at_type}
use Rattle.value_code.specs.ItemWords.{Side, Number, Register, Product, Moved, shift_kind, convert_word, index_word, index_register, load_code, unary_code, shift_code, immediate, held_addend, operator_code, compare_word, branch_code, pick_code, placed_code}

-- the labels that code uses up
abbrev pub inner_labels : Option ℤ → ℕ → ℕ
inner_labels (Some c) n = 0
inner_labels None n = n

abbrev pub labels : Option (List ℕ) → Term → ℕ
labels i (Literal n) = 0
labels i (Variable x) = 0
labels i (Element a e) = inner_labels (stream_offset i e) (labels i e)
labels i (Unary op e) = labels i e
labels i (Operation op a b) = labels i a + labels i b
labels i (Shift left e n) = labels i e
labels i (Conversion e t) = labels i e
labels i (Choice c a b) = labels i a + labels i b + (2 + labels i c)
labels i (Comparison op a b) = labels i a + labels i b
labels i (Both a b) = 1 + labels i a + labels i b
labels i (Either a b) = 1 + labels i a + labels i b
labels i (Not e) = labels i e

-- the code of an index, which is an offset from the loop variable or a computed number, and the register that holds it
abbrev pub number_code : Option ℤ → (List DraftEntry → List DraftEntry) → List DraftEntry → List DraftEntry
number_code (Some c) inner rest = word_code (index_word c) rest
number_code None inner rest = inner rest

abbrev pub number_register : Option ℤ → ℕ → ℕ
number_register (Some c) a = index_register (index_word c)
number_register None a = a

abbrev pub signed_side : Option Ty → Bool
signed_side None = false
signed_side (Some t) = is_signed t

-- ---- right sides that a word holds as a number

-- of a comparison
abbrev pub compared_number : Option Ty → Term → Option ℕ
compared_number want e = option_and_then (λ z. immediate (word (wrapped want z))) (literal_value e)

-- of an operator
abbrev pub added_number : BinaryOp → Option Ty → Term → Option ℕ
added_number op want e = option_and_then (λ z. held_addend op (word (wrapped want z))) (literal_value e)

-- a number stands for a literal
abbrev pub IsLiteral : Option ℤ → Type 0
IsLiteral None = ⊥
IsLiteral (Some z) = Unit {0}

abbrev pub IsHeld : Option ℕ → Term → Type 0
IsHeld None e = Unit {0}
IsHeld (Some v) e = IsLiteral (literal_value e)

-- ---- products and shifts that stand in the word of an operator

abbrev pub takes_product : BinaryOp → Bool
takes_product binary.Add = true
takes_product binary.Sub = true
takes_product _ = false

abbrev pub takes_shift : BinaryOp → Bool
takes_shift binary.Add = true
takes_shift binary.Sub = true
takes_shift binary.And = true
takes_shift binary.Or = true
takes_shift binary.Xor = true
takes_shift _ = false

abbrev pub is_product : BinaryOp → Bool
is_product binary.Mul = true
is_product _ = false

-- a result is not extended, by whether it would be at types that are narrower than 64 bits
abbrev pub stays : (ends : Bool) → Option Ty → Bool
stays ends None = false
stays ends (Some t) = not (ends && is_narrow t)

-- the right side of an operator, of which so much is asked for, stands in its word: a product or a shift, or the operand of a cast that
-- is no word, as no more is asked of it than its type has or its type has each value of the operand's
abbrev pub is_fused : Scope → BinaryOp → Extent → Option Ty → Term → Bool
is_fused s op w want (Operation o p q) = takes_product op && (is_product o && stays (binary_settles s want o p q w) want)
is_fused s op w want (Shift left e z) = takes_shift op && stays (shift_settles s want left e z w) want
is_fused s op w want (Conversion e t) = within_type w t || fits_at (own s e) t
is_fused s op w want _ = false

abbrev pub HasParts : Bool → Term → Type 0
HasParts true (Operation o p q) = Unit {0}
HasParts true (Shift left e z) = Unit {0}
HasParts true (Conversion e t) = Unit {0}
HasParts true _ = ⊥
HasParts false e = Unit {0}

-- and what the word takes of it
abbrev pub part_side : Layout → Homes → Option (List ℕ) → Option Ty → (b : ℕ) → Term → Side
part_side L homes i want b (Operation o p q) = Product (home L homes i b p) (home L homes i (b + term_size i p) q)
part_side L homes i want b (Shift left e z) = Moved (shift_kind left (signed_side want)) (shift_count z) (home L homes i b e)
part_side L homes i want b (Conversion e t) = Register (home L homes i b e)
part_side L homes i want b _ = Register xzr

abbrev pub side_by : Option ℕ → (fused : Bool) → (r : ℕ) → Side → Side
side_by (Some v) fused r part = Number v
side_by None true r part = part
side_by None false r part = Register r

abbrev pub right_side : Layout → Homes → Scope → BinaryOp → Extent → Option Ty → (b : ℕ) → Term → Side
right_side L homes s op w want b y = side_by (added_number op want y) (is_fused s op w want y) (home L homes s.index b y) (part_side L homes s.index want b y)

-- the code of a right side: none where the word holds it as a number, that of its parts where it stands in the word, and else
-- its own
abbrev pub side_code : Option ℕ → (fused : Bool) → (whole parts : List DraftEntry → List DraftEntry) → List DraftEntry → List DraftEntry
side_code (Some v) fused whole parts rest = rest
side_code None true whole parts rest = parts rest
side_code None false whole parts rest = whole rest

-- ---- left sides that stand in the word of an operator

-- the sides may change places
abbrev pub is_commutative : BinaryOp → Bool
is_commutative binary.Sub = false
is_commutative _ = true

-- a right side that makes way for a left one: a cast, and of two casts the one that is of no name
abbrev pub is_cast : Term → Bool
is_cast (Conversion e t) = true
is_cast _ = false

abbrev pub is_name : Term → Bool
is_name (Variable x) = true
is_name _ = false

abbrev pub makes_way : (x y : Term) → Bool
makes_way x (Conversion e t) = not (is_cast x && is_name e)
makes_way x _ = false

-- nothing of a right side need stand in the word
abbrev pub stands_alone : Scope → BinaryOp → Extent → Option Ty → (x y : Term) → Bool
stands_alone s op w want x y = is_none (added_number op want y) && (makes_way x y || not (is_fused s op w want y))

-- no item of n from b on is made in register r
abbrev pub is_spared : Layout → (b n r : ℕ) → Bool
is_spared L b zero r = true
is_spared L b (suc n) r = not (nat_lt b (last_use_at L b) && nat_eq (reg_of L b) r) && is_spared L (b + 1) n r

-- nor in one that a word takes
abbrev pub side_lasts : Layout → (b n : ℕ) → Side → Bool
side_lasts L b n (Number v) = true
side_lasts L b n (Register r) = is_spared L b n r
side_lasts L b n (Product p q) = is_spared L b n p && is_spared L b n q
side_lasts L b n (Moved kind k r) = is_spared L b n r

-- the left side stands in the word: the right side does not, and its code leaves alone what the word takes
unfoldable pub is_led : Layout → Homes → Scope → BinaryOp → Extent → Option Ty → (b : ℕ) → Term → Term → Bool
is_led L homes s op w want b x y = (is_commutative op && is_fused s op w want x) && (stands_alone s op w want x y && side_lasts L (b + term_size s.index x) (term_size s.index y) (part_side L homes s.index want b x))

-- what the word takes of one side, and the register of the other
abbrev pub taken_side : Layout → Homes → Scope → BinaryOp → Extent → Option Ty → (b : ℕ) → Term → Term → Side
taken_side L homes s op w want b x y = if is_led L homes s op w want b x y then part_side L homes s.index want b x else right_side L homes s op w want (b + term_size s.index x) y

abbrev pub other_home : Layout → Homes → Scope → BinaryOp → Extent → Option Ty → (b : ℕ) → Term → Term → ℕ
other_home L homes s op w want b x y = if is_led L homes s op w want b x y then home L homes s.index (b + term_size s.index x) y else home L homes s.index b x

-- no code for a right side that a word holds, and none for a literal whose number a register holds
abbrev pub right_code : Option ℕ → (List DraftEntry → List DraftEntry) → List DraftEntry → List DraftEntry
right_code (Some v) inner rest = rest
right_code None inner rest = inner rest

abbrev pub literal_code : Layout → Option Ty → (b : ℕ) → ℤ → List DraftEntry → List DraftEntry
literal_code L want b z rest = right_code (constant_at L (OfNumber z)) (const_code (reg_of L b) (word (wrapped want z))) rest

-- a small offset
abbrev pub near_one : ℤ → Option ℤ
near_one c = if nat_lt (unsigned_abs c) 512 then Some c else None

abbrev pub near : Option ℤ → Option ℤ
near o = option_and_then near_one o

-- what would hold the address of an element at an offset from the loop variable, less the bytes up to the variable's own
abbrev pub key_at : (array : ℕ) → Option Ty → Option ℤ → Option Key
key_at q None o = None
key_at q (Some t) None = None
key_at q (Some t) (Some c) = Some (OfAddress q (pos (byte_count t) *ℤ c))

abbrev pub moved_key : (array : ℕ) → Option Ty → Option ℤ → Option Key
moved_key q t o = key_at q t (near o)

-- the register that holds it
abbrev pub place_of : Layout → (array : ℕ) → Option Ty → Option ℤ → Option ℕ
place_of L q t o = option_and_then (constant_at L) (moved_key q t o)

-- then the loop variable is the index
abbrev pub placed_index : Option ℕ → ℕ → ℕ
placed_index (Some r) x = iteration
placed_index None x = x

-- ---- conditions

-- the condition of the flags with which a comparison holds; None for any other term
abbrev pub flag_condition : Scope → Term → Option ℕ
flag_condition s (Comparison op x y) = Some (condition op (signed_side (side_type s x y)))
flag_condition s _ = None

-- p or q into d: by the flags after a comparison, and else by a jump to label n
abbrev pub choice_code : Option ℕ → (flags jump : List DraftEntry → List DraftEntry) → (d p q n : ℕ) → List DraftEntry → List DraftEntry
choice_code (Some k) flags jump d p q n rest = flags (ins csel (d ∷ p ∷ k ∷ q ∷ []) ∷ rest)
choice_code None flags jump d p q n rest = jump (pick_code d p q n rest)

abbrev mutual
  -- a value into its register, of which so much is asked for
  pub loose_code : Layout → Homes → Scope → Extent → Option Ty → (b n : ℕ) → Term → List DraftEntry → List DraftEntry
  loose_code L homes scope w want b n (Literal z) rest = literal_code L want b z rest
  loose_code L homes scope w want b n (Variable x) rest = rest
  loose_code L homes scope w want b n (Element a e) rest =
      right_code (place_of L (register_at homes a) (option_and_then element_type (lookup scope a)) (stream_offset scope.index e)) (number_code (stream_offset scope.index e) (loose_code L homes scope Whole (index_type scope e) b n e))
      (load_code (option_and_then element_type (lookup scope a)) (reg_of L (b + index_items scope.index e)) (unwrap_or (place_of L (register_at homes a) (option_and_then element_type (lookup scope a)) (stream_offset scope.index e)) (register_at homes a))
      (placed_index (place_of L (register_at homes a) (option_and_then element_type (lookup scope a)) (stream_offset scope.index e)) (number_register (stream_offset scope.index e) (home L homes scope.index b e))) rest)
  loose_code L homes scope w want b n (Unary op e) rest =
      loose_code L homes scope (unary_asks scope want op e w) want b n e (at_type want (λ t. unary_code (unary_settles scope want op e w) op t (reg_of L (b + term_size scope.index e)) (home L homes scope.index b e) rest) rest)
  loose_code L homes scope w want b n (Operation op x y) rest =
      side_code None (is_led L homes scope op (binary_asks scope want op x y w) want b x y)
      (loose_code L homes scope (binary_asks scope want op x y w) want b n x)
      (parts_code L homes scope (binary_asks scope want op x y w) want b n x)
      (side_code (added_number op want y) (not (is_led L homes scope op (binary_asks scope want op x y w) want b x y) && is_fused scope op (binary_asks scope want op x y w) want y)
      (loose_code L homes scope (binary_asks scope want op x y w) want (b + term_size scope.index x) (n + labels scope.index x) y)
      (parts_code L homes scope (binary_asks scope want op x y w) want (b + term_size scope.index x) (n + labels scope.index x) y)
      (at_type want (λ t. operator_code (taken_side L homes scope op (binary_asks scope want op x y w) want b x y) (binary_settles scope want op x y w) op t (reg_of L (b + term_size scope.index x + term_size scope.index y)) (other_home L homes scope op (binary_asks scope want op x y w) want b x y) rest) rest))
  loose_code L homes scope w want b n (Shift left e k) rest =
      loose_code L homes scope (shift_asks scope want left e k w) want b n e (at_type want (λ t. shift_code (shift_settles scope want left e k w) left k t (reg_of L (b + term_size scope.index e)) (home L homes scope.index b e) rest) rest)
  loose_code L homes scope w want b n (Conversion e t) rest =
      loose_code L homes scope (converted_extent w (own scope e) t) (own scope e) b n e (at_type (own scope e) (λ s. word_code (convert_word (within_type w t) s t (reg_of L (b + term_size scope.index e)) (home L homes scope.index b e)) rest) rest)
  loose_code L homes scope w want b n (Choice c x y) rest =
      loose_code L homes scope w want b n x (loose_code L homes scope w want (b + term_size scope.index x) (n + labels scope.index x) y
      (choice_code (flag_condition scope c)
      (flags_code L homes scope (b + term_size scope.index x + term_size scope.index y) (n + labels scope.index x + labels scope.index y + 2) c)
      (jump_code L homes scope false (n + labels scope.index x + labels scope.index y) (b + term_size scope.index x + term_size scope.index y) (n + labels scope.index x + labels scope.index y + 2) c)
      (reg_of L (b + term_size scope.index x + term_size scope.index y + term_size scope.index c)) (home L homes scope.index b x) (home L homes scope.index (b + term_size scope.index x) y)
      (n + labels scope.index x + labels scope.index y) rest))
  loose_code L homes scope w want b n (Comparison op x y) rest = rest
  loose_code L homes scope w want b n (Both x y) rest = rest
  loose_code L homes scope w want b n (Either x y) rest = rest
  loose_code L homes scope w want b n (Not e) rest = rest

  -- the operands of a value of which so much is asked for, where it stands in the word of its user
  pub parts_code : Layout → Homes → Scope → Extent → Option Ty → (b n : ℕ) → Term → List DraftEntry → List DraftEntry
  parts_code L homes scope w want b n (Operation op p q) rest =
      loose_code L homes scope (binary_asks scope want op p q w) want b n p (loose_code L homes scope (binary_asks scope want op p q w) want (b + term_size scope.index p) (n + labels scope.index p) q rest)
  parts_code L homes scope w want b n (Shift left e z) rest = loose_code L homes scope (shift_asks scope want left e z w) want b n e rest
  parts_code L homes scope w want b n (Conversion e t) rest = loose_code L homes scope (converted_extent w (own scope e) t) (own scope e) b n e rest
  parts_code L homes scope w want b n _ rest = rest

  -- a comparison, whose truth is in the flags
  pub flags_code : Layout → Homes → Scope → (b n : ℕ) → Term → List DraftEntry → List DraftEntry
  flags_code L homes scope b n (Comparison op x y) rest =
      loose_code L homes scope Whole (side_type scope x y) b n x (right_code (compared_number (side_type scope x y) y) (loose_code L homes scope Whole (side_type scope x y) (b + term_size scope.index x) (n + labels scope.index x) y)
      (Put (compare_word (compared_number (side_type scope x y) y) (home L homes scope.index b x) (home L homes scope.index (b + term_size scope.index x) y)) ∷ rest))
  flags_code L homes scope b n _ rest = rest

  -- to the label `to` where the truth of a condition is `sense`, and else on
  pub jump_code : Layout → Homes → Scope → (sense : Bool) → (to b n : ℕ) → Term → List DraftEntry → List DraftEntry
  jump_code L homes scope sense to b n (Comparison op x y) rest =
      loose_code L homes scope Whole (side_type scope x y) b n x (right_code (compared_number (side_type scope x y) y) (loose_code L homes scope Whole (side_type scope x y) (b + term_size scope.index x) (n + labels scope.index x) y)
      (branch_code op sense (signed_side (side_type scope x y)) (compared_number (side_type scope x y) y) (home L homes scope.index b x) (home L homes scope.index (b + term_size scope.index x) y) to rest))
  jump_code L homes scope sense to b n (Both x y) rest =
      jump_code L homes scope false (if sense then n else to) b (n + 1) x (jump_code L homes scope sense to (b + term_size scope.index x) (n + 1 + labels scope.index x) y (placed_code sense n rest))
  jump_code L homes scope sense to b n (Either x y) rest =
      jump_code L homes scope true (if sense then to else n) b (n + 1) x (jump_code L homes scope sense to (b + term_size scope.index x + 1) (n + 1 + labels scope.index x) y (placed_code (not sense) n rest))
  jump_code L homes scope sense to b n (Not e) rest = jump_code L homes scope (not sense) to b n e rest
  jump_code L homes scope sense to b n _ rest = rest

-- a value itself into its register
abbrev pub value_code : Layout → Homes → Scope → Option Ty → (b n : ℕ) → Term → List DraftEntry → List DraftEntry
value_code L homes scope want b n e rest = loose_code L homes scope Whole want b n e rest

-- one of two registers, by a condition whose items begin at b
abbrev pub one_of_code : Layout → Homes → Scope → (b n : ℕ) → Term → (p q : ℕ) → List DraftEntry → List DraftEntry
one_of_code L homes scope b n c p q rest =
    choice_code (flag_condition scope c) (flags_code L homes scope b (n + 2) c) (jump_code L homes scope false n b (n + 2) c) (reg_of L (b + term_size scope.index c)) p q n rest

-- both sides of an operator, of which so much is asked for
abbrev pub sides_code : Layout → Homes → Scope → Extent → Option Ty → (b n : ℕ) → BinaryOp → (x y : Term) → List DraftEntry → List DraftEntry
sides_code L homes scope w want b n op x y rest =
    side_code None (is_led L homes scope op w want b x y) (loose_code L homes scope w want b n x) (parts_code L homes scope w want b n x)
    (side_code (added_number op want y) (not (is_led L homes scope op w want b x y) && is_fused scope op w want y) (loose_code L homes scope w want (b + term_size scope.index x) (n + labels scope.index x) y) (parts_code L homes scope w want (b + term_size scope.index x) (n + labels scope.index x) y) rest)

-- an index, as a part of a read
abbrev pub index_labels : Option (List ℕ) → Term → ℕ
index_labels i e = inner_labels (stream_offset i e) (labels i e)

abbrev pub index_code : Layout → Homes → Scope → (b n : ℕ) → Term → List DraftEntry → List DraftEntry
index_code L homes scope b n e rest = number_code (stream_offset scope.index e) (loose_code L homes scope Whole (index_type scope e) b n e) rest

abbrev pub index_home : Layout → Homes → Scope → (b : ℕ) → Term → ℕ
index_home L homes scope b e = number_register (stream_offset scope.index e) (home L homes scope.index b e)
