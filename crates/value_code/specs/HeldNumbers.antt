-- What is held in registers of its own while iterations last: literals that take words where they stand, and the addresses of
-- elements at an offset from the loop variable, in the order of the items, while there are registers for them. These are X8,
-- and X7 down to X4 where no parameter stands.
use Rattle.std.specs.Prelude.{◌≡◌, ℕ, ◌+◌, ◌-◌, ◌<◌, ◌≤◌, ℤ, pos, Bool, true, false, not, ◌&&◌, List, [], ◌∷◌, ◌++◌, length, Option, Some, None, nat_lt, nat_le, option_and_then}
use Rattle.kernel_tree.specs.declared.ops.BinaryOp.{BinaryOp}
use Rattle.kernel_tree.specs.Plain.{Term, Literal, Variable, Element, Unary, Operation, Shift, Conversion, Choice, Comparison, Both, Either, Not}
use Rattle.kernel_tree.specs.Items.{literal_value, stream_offset}
use Rattle.kernel_tree.specs.Typing.{Scope, lookup, element_type}
use Rattle.kernel_meaning.specs.Operators.{word}
use Rattle.loop_form.specs.Needs.{same_number}
use Rattle.label_fix.specs.Registers.{highest_held}
use Rattle.scalar_words.specs.Layout.{Key, OfNumber, OfAddress, Constant, constant_in, Homes, register_at}
use Rattle.value_code.specs.ItemWords.{immediate, addend, held_addend}
use Rattle.value_code.specs.Code.{moved_key}

-- an address that one word makes, of one of so many arguments
abbrev pub IsReached : ℕ → Key → Type 0
IsReached p (OfNumber z) = Unit {0}
IsReached p (OfAddress q c) = (q < p) × (addend (word c) ≡ Some (word c))

-- The registers are the next ones after n others, and none is that of one of so many parameters.
abbrev pub AreNext : (p n : ℕ) → List Constant → Type 0
AreNext p n [] = Unit {0}
AreNext p n (c ∷ cs) = (c.register + n ≡ highest_held) × (p ≤ c.register) × IsReached p c.key × AreNext p (n + 1) cs

-- whether one more has a register, after so many parameters
abbrev pub has_room : ℕ → List Constant → Bool
has_room p cs = nat_lt (length cs) 5 && nat_le (p + length cs) highest_held

abbrev pub add_key : Bool → Key → List Constant → List Constant
add_key true z cs = cs ++ record { key = z; register = highest_held - length cs } ∷ []
add_key false z cs = cs

abbrev pub new_key : Option ℕ → ℕ → Key → List Constant → List Constant
new_key (Some r) p z cs = cs
new_key None p z cs = add_key (has_room p cs) z cs

-- one more, where no register holds it
abbrev pub hold_key : ℕ → Key → List Constant → List Constant
hold_key p z cs = new_key (constant_in cs z) p z cs

-- ---- addresses

abbrev pub is_some : Option ℕ → Bool
is_some None = false
is_some (Some v) = true

-- whether an address is worth a register, and may be held
abbrev pub is_reached : ℕ → Key → Bool
is_reached p (OfNumber z) = true
is_reached p (OfAddress q c) = nat_lt q p && (is_some (addend (word c)) && not (same_number c (pos 0)))

abbrev pub hold_if : Bool → ℕ → Key → List Constant → List Constant
hold_if true p z cs = hold_key p z cs
hold_if false p z cs = cs

abbrev pub hold_moved : ℕ → Option Key → List Constant → List Constant
hold_moved p None cs = cs
hold_moved p (Some z) cs = hold_if (is_reached p z) p z cs

-- an element, by its array and the offset of its index
abbrev pub hold_element : ℕ → Homes → Scope → List ℕ → Option ℤ → List Constant → List Constant
hold_element p hs s a o cs = hold_moved p (moved_key (register_at hs a) (option_and_then element_type (lookup s a)) o) cs

-- ---- expressions

-- right sides that a word holds as a number take no register
abbrev pub addend_of : BinaryOp → Term → Option ℕ
addend_of op e = option_and_then (λ z. held_addend op (word z)) (literal_value e)

abbrev pub immediate_of : Term → Option ℕ
immediate_of e = option_and_then (λ z. immediate (word z)) (literal_value e)

abbrev pub hold_side : Option ℕ → (List Constant → List Constant) → List Constant → List Constant
hold_side (Some v) more cs = cs
hold_side None more cs = more cs

-- an index that is an offset from the loop variable has no items
abbrev pub hold_index : Option ℤ → (List Constant → List Constant) → List Constant → List Constant
hold_index (Some c) more cs = cs
hold_index None more cs = more cs

-- what is held after an expression, by the names before the loop
abbrev pub hold_term : ℕ → Homes → Scope → Term → List Constant → List Constant
hold_term p hs s (Literal z) cs = hold_key p (OfNumber z) cs
hold_term p hs s (Variable x) cs = cs
hold_term p hs s (Element a e) cs = hold_element p hs s a (stream_offset s.index e) (hold_index (stream_offset s.index e) (hold_term p hs s e) cs)
hold_term p hs s (Unary op e) cs = hold_term p hs s e cs
hold_term p hs s (Operation op x y) cs = hold_side (addend_of op y) (hold_term p hs s y) (hold_term p hs s x cs)
hold_term p hs s (Shift left e n) cs = hold_term p hs s e cs
hold_term p hs s (Conversion e t) cs = hold_term p hs s e cs
hold_term p hs s (Choice c x y) cs = hold_term p hs s c (hold_term p hs s y (hold_term p hs s x cs))
hold_term p hs s (Comparison op x y) cs = hold_side (immediate_of y) (hold_term p hs s y) (hold_term p hs s x cs)
hold_term p hs s (Both x y) cs = hold_term p hs s y (hold_term p hs s x cs)
hold_term p hs s (Either x y) cs = hold_term p hs s y (hold_term p hs s x cs)
hold_term p hs s (Not e) cs = hold_term p hs s e cs

-- ---- words

-- at most so many words load them
abbrev pub key_words : Key → ℕ
key_words (OfNumber z) = 4
key_words (OfAddress q c) = 1

abbrev pub loading_words : List Constant → ℕ
loading_words [] = 0
loading_words (c ∷ cs) = key_words c.key + loading_words cs

-- and an expression takes at most so many where it stands
abbrev pub literal_words : Option ℕ → ℕ
literal_words None = 4
literal_words (Some r) = 0

abbrev pub element_words : Option ℤ → ℕ → ℕ
element_words (Some c) n = 2
element_words None n = n + 4

abbrev pub coded_words : List Constant → Option (List ℕ) → Term → ℕ
coded_words cs i (Literal n) = literal_words (constant_in cs (OfNumber n))
coded_words cs i (Variable x) = 4
coded_words cs i (Element a e) = element_words (stream_offset i e) (coded_words cs i e)
coded_words cs i (Unary op e) = coded_words cs i e + 4
coded_words cs i (Operation op a b) = coded_words cs i a + coded_words cs i b + 4
coded_words cs i (Shift left e n) = coded_words cs i e + 4
coded_words cs i (Conversion e t) = coded_words cs i e + 4
coded_words cs i (Choice c a b) = coded_words cs i a + coded_words cs i b + coded_words cs i c + 4
coded_words cs i (Comparison op a b) = coded_words cs i a + coded_words cs i b + 4
coded_words cs i (Both a b) = coded_words cs i a + coded_words cs i b + 4
coded_words cs i (Either a b) = coded_words cs i a + 4 + coded_words cs i b + 4
coded_words cs i (Not e) = coded_words cs i e + 4
