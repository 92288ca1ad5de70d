-- The short stretches of code of one item. X26 belongs to the stretch at hand. A word that writes an item's register is the
-- last that reads an operand, so that both may be one register.
use Rattle.std.specs.Prelude.{◌≡◌, ℕ, zero, suc, ◌+◌, ◌-◌, ◌%◌, ℤ, pos, negsuc, Bool, true, false, ◌||◌, List, [], ◌∷◌, Option, Some, None, nat_lt, not, if◌then◌else◌}
use Rattle.a64_code.specs.Table.{add_imm, sub_imm, subs_imm, add, sub, subs, land, orr, eor, orn, madd, msub, csel, ldrb_register, ldrsb_register, strb_register, ldrh_register, ldr_w_register, ldr_x_register, ldrsh_register, ldrsw_register, strh_register, str_w_register, str_x_register}
use Rattle.machine_model.specs.InstructionTable.{Listed}
use Rattle.kernel_tree.specs.declared.ops.Ty.{Ty}
use Rattle.kernel_tree.specs.declared.ops.UnaryOp.{UnaryOp}
use Rattle.kernel_tree.specs.declared.ops.BinaryOp.{BinaryOp}
use Rattle.kernel_tree.specs.declared.ops.CompareOp.{CompareOp}
use Rattle.kernel_tree.specs.Wrap.{is_signed}
use Rattle.kernel_meaning.specs.Operators.{shift_count}
use Rattle.kernel_meaning.specs.TypeValues.{fits}
use Rattle.label_fix.specs.DraftRun.{Kind, Always, If, Zero, NotZero, DraftEntry, Put, Branch, Place, word_of, ins}
use Rattle.label_fix.specs.Finished.{is_plain}
use Rattle.label_fix.specs.Registers.{iteration, scratch, xzr}
use Rattle.label_fix.specs.Conditions as conditions
use Rattle.scalar_words.specs.Words.{word_code, copy_word, extend_word, settle_word, condition, operation_code, contrary}
use Rattle.kernel_tree.specs.declared.ops.Ty.TheVariants as ty
use Rattle.kernel_tree.specs.declared.ops.UnaryOp.TheVariants as unary
use Rattle.kernel_tree.specs.declared.ops.BinaryOp.TheVariants as binary
use Rattle.kernel_tree.specs.declared.ops.CompareOp.TheVariants as compare

-- a value of type s as one of type t: a copy where t has each value of s
abbrev pub cast_word : (s t : Ty) → ℕ → ℕ → Option Listed
cast_word s t d a = if fits s t then copy_word d a else extend_word t d a

-- the same, of which no more than the low bits of type t may be asked for
abbrev pub convert_word : (low : Bool) → (s t : Ty) → ℕ → ℕ → Option Listed
convert_word true s t d a = copy_word d a
convert_word false s t d a = cast_word s t d a

-- ---- indexes

-- the word that adds an offset, below 4,096 to either side, to the loop variable: none for 0
abbrev pub index_word : ℤ → Option Listed
index_word (pos zero) = None
index_word (pos (suc c)) = Some (word_of add_imm (scratch ∷ iteration ∷ suc c % 4096 ∷ 0 ∷ []))
index_word (negsuc c) = Some (word_of sub_imm (scratch ∷ iteration ∷ suc c % 4096 ∷ 0 ∷ []))

-- a word, if any, that a draft takes
abbrev pub IsPlainIf : Option Listed → Type 0
IsPlainIf None = Unit {0}
IsPlainIf (Some i) = is_plain i ≡ true

abbrev pub ArePlain : Option (Option Listed) → Type 0
ArePlain None = Unit {0}
ArePlain (Some w) = IsPlainIf w

-- the register in which the sum stands
abbrev pub index_register : Option Listed → ℕ
index_register None = iteration
index_register (Some i) = scratch

-- the element of the array at p whose number is in r
abbrev pub load : Ty → (d p r : ℕ) → Listed
load ty.I8 d p r = word_of ldrsb_register (d ∷ p ∷ r ∷ [])
load ty.U8 d p r = word_of ldrb_register (d ∷ p ∷ r ∷ [])
load ty.I16 d p r = word_of ldrsh_register (d ∷ p ∷ 1 ∷ r ∷ [])
load ty.U16 d p r = word_of ldrh_register (d ∷ p ∷ 1 ∷ r ∷ [])
load ty.I32 d p r = word_of ldrsw_register (d ∷ p ∷ 1 ∷ r ∷ [])
load ty.U32 d p r = word_of ldr_w_register (d ∷ p ∷ 1 ∷ r ∷ [])
load ty.I64 d p r = word_of ldr_x_register (d ∷ p ∷ 1 ∷ r ∷ [])
load ty.U64 d p r = word_of ldr_x_register (d ∷ p ∷ 1 ∷ r ∷ [])

abbrev pub store : Ty → (d p r : ℕ) → Listed
store ty.I8 d p r = word_of strb_register (d ∷ p ∷ r ∷ [])
store ty.U8 d p r = word_of strb_register (d ∷ p ∷ r ∷ [])
store ty.I16 d p r = word_of strh_register (d ∷ p ∷ 1 ∷ r ∷ [])
store ty.U16 d p r = word_of strh_register (d ∷ p ∷ 1 ∷ r ∷ [])
store ty.I32 d p r = word_of str_w_register (d ∷ p ∷ 1 ∷ r ∷ [])
store ty.U32 d p r = word_of str_w_register (d ∷ p ∷ 1 ∷ r ∷ [])
store ty.I64 d p r = word_of str_x_register (d ∷ p ∷ 1 ∷ r ∷ [])
store ty.U64 d p r = word_of str_x_register (d ∷ p ∷ 1 ∷ r ∷ [])

abbrev pub load_code : Option Ty → (d p r : ℕ) → List DraftEntry → List DraftEntry
load_code None d p r rest = rest
load_code (Some t) d p r rest = Put (load t d p r) ∷ rest

abbrev pub store_code : Option Ty → (d p r : ℕ) → List DraftEntry → List DraftEntry
store_code None d p r rest = rest
store_code (Some t) d p r rest = Put (store t d p r) ∷ rest

-- the absolute value, by whether the type is signed
abbrev pub abs_code : (leaves signed : Bool) → Ty → ℕ → ℕ → List DraftEntry → List DraftEntry
abs_code leaves true t d a rest = ins subs (scratch ∷ xzr ∷ 0 ∷ a ∷ 0 ∷ []) ∷ ins csel (d ∷ scratch ∷ conditions.ge ∷ a ∷ []) ∷ word_code (settle_word leaves t d) rest
abs_code leaves false t d a rest = word_code (copy_word d a) rest

abbrev pub unary_code : (leaves : Bool) → UnaryOp → Ty → ℕ → ℕ → List DraftEntry → List DraftEntry
unary_code leaves unary.Neg t d a rest = ins sub (d ∷ xzr ∷ 0 ∷ a ∷ 0 ∷ []) ∷ word_code (settle_word leaves t d) rest
unary_code leaves unary.Flip t d a rest = ins orn (d ∷ xzr ∷ 0 ∷ a ∷ 0 ∷ []) ∷ word_code (settle_word leaves t d) rest
unary_code leaves unary.Abs t d a rest = abs_code leaves (is_signed t) t d a rest

abbrev pub shift_kind : Bool → Bool → ℕ
shift_kind true signed = 0
shift_kind false true = 2
shift_kind false false = 1

abbrev pub shift_code : (leaves left : Bool) → ℤ → Ty → ℕ → ℕ → List DraftEntry → List DraftEntry
shift_code leaves left n t d a rest = ins orr (d ∷ xzr ∷ shift_count n ∷ a ∷ shift_kind left (is_signed t) ∷ []) ∷ word_code (settle_word leaves t d) rest

-- ---- numbers that a word holds

-- a number below 4,096
abbrev pub immediate : ℕ → Option ℕ
immediate v = if nat_lt v 4096 then Some v else None

-- a number that a word adds: below 4,096, or above 2^64 - 4,096
abbrev pub addend : ℕ → Option ℕ
addend v = if nat_lt v 4096 || nat_lt 18446744073709547520 v then Some v else None

-- the number that the word of an operator holds as its right side
abbrev pub held_addend : BinaryOp → ℕ → Option ℕ
held_addend binary.Add v = addend v
held_addend binary.Sub v = addend v
held_addend _ v = None

-- d = a + v, and d = a - v
abbrev pub add_word : ℕ → (d a : ℕ) → Listed
add_word v d a = if nat_lt v 4096 then word_of add_imm (d ∷ a ∷ v % 4096 ∷ 0 ∷ []) else word_of sub_imm (d ∷ a ∷ (4096 - v % 4096) % 4096 ∷ 0 ∷ [])

abbrev pub sub_word : ℕ → (d a : ℕ) → Listed
sub_word v d a = if nat_lt v 4096 then word_of sub_imm (d ∷ a ∷ v % 4096 ∷ 0 ∷ []) else word_of add_imm (d ∷ a ∷ (4096 - v % 4096) % 4096 ∷ 0 ∷ [])

abbrev pub sum_word : BinaryOp → ℕ → (d a : ℕ) → Listed
sum_word binary.Sub v d a = sub_word v d a
sum_word _ v d a = add_word v d a

-- ---- right sides of operators

-- what a word takes as its right side: a number that it holds, a register, the product of two, or a register shifted
pub data Side : Type 0 where
  Number : ℕ → Side
  Register : ℕ → Side
  Product : (p q : ℕ) → Side
  Moved : (kind n r : ℕ) → Side

-- d = a and a product more, or less
abbrev pub product_word : BinaryOp → (d a p q : ℕ) → Listed
product_word binary.Sub d a p q = word_of msub (d ∷ p ∷ a ∷ q ∷ [])
product_word _ d a p q = word_of madd (d ∷ p ∷ a ∷ q ∷ [])

-- an operator whose right side is a register shifted by n
abbrev pub shift_word : BinaryOp → (d a kind n r : ℕ) → Listed
shift_word binary.Sub d a kind n r = word_of sub (d ∷ a ∷ n ∷ r ∷ kind ∷ [])
shift_word binary.And d a kind n r = word_of land (d ∷ a ∷ n ∷ r ∷ kind ∷ [])
shift_word binary.Or d a kind n r = word_of orr (d ∷ a ∷ n ∷ r ∷ kind ∷ [])
shift_word binary.Xor d a kind n r = word_of eor (d ∷ a ∷ n ∷ r ∷ kind ∷ [])
shift_word _ d a kind n r = word_of add (d ∷ a ∷ n ∷ r ∷ kind ∷ [])

-- an operator of a and its right side
abbrev pub operator_code : Side → (leaves : Bool) → BinaryOp → Ty → (d a : ℕ) → List DraftEntry → List DraftEntry
operator_code (Number v) leaves op t d a rest = Put (sum_word op v d a) ∷ word_code (settle_word leaves t d) rest
operator_code (Register c) leaves op t d a rest = operation_code op (is_signed t) d a c (word_code (settle_word leaves t d) rest)
operator_code (Product p q) leaves op t d a rest = Put (product_word op d a p q) ∷ word_code (settle_word leaves t d) rest
operator_code (Moved kind n r) leaves op t d a rest = Put (shift_word op d a kind n r) ∷ word_code (settle_word leaves t d) rest

-- ---- comparisons

-- a compared with a number that the word holds, or else with c
abbrev pub compare_word : Option ℕ → (a c : ℕ) → Listed
compare_word (Some v) a c = word_of subs_imm (xzr ∷ a ∷ v % 4096 ∷ 0 ∷ [])
compare_word None a c = word_of subs (xzr ∷ a ∷ 0 ∷ c ∷ 0 ∷ [])

-- where a register is zero, and where it is not
abbrev pub zero_kind : Bool → ℕ → Kind
zero_kind true r = Zero r
zero_kind false r = NotZero r

-- the condition with which a branch is taken where a truth is `sense`
abbrev pub turned : Bool → ℕ → ℕ
turned true k = k
turned false k = contrary k

-- whether a truth is `sense`
abbrev pub same_sense : (sense v : Bool) → Bool
same_sense true v = v
same_sense false v = not v

-- whether a comparison asks for zero (Some true) or for anything else (Some false)
abbrev pub zero_test : CompareOp → Option ℕ → Option Bool
zero_test compare.Eq (Some zero) = Some true
zero_test compare.Ne (Some zero) = Some false
zero_test _ _ = None

-- to a label where the truth of a comparison is `sense`
abbrev pub tested_code : Option Bool → (sense : Bool) → Option ℕ → (a c k to : ℕ) → List DraftEntry → List DraftEntry
tested_code (Some is) sense number a c k to rest = Branch (zero_kind (same_sense sense is) a) to ∷ rest
tested_code None sense number a c k to rest = Put (compare_word number a c) ∷ Branch (If (turned sense k)) to ∷ rest

abbrev pub branch_code : CompareOp → (sense signed : Bool) → Option ℕ → (a c to : ℕ) → List DraftEntry → List DraftEntry
branch_code op sense signed number a c to rest = tested_code (zero_test op number) sense number a c (condition op signed) to rest

-- ---- choices

-- p into d where the code before goes on, and q where it goes to label n
abbrev pub pick_code : (d p q n : ℕ) → List DraftEntry → List DraftEntry
pick_code d p q n rest = word_code (copy_word d p) (Branch Always (n + 1) ∷ Place n ∷ word_code (copy_word d q) (Place (n + 1) ∷ rest))

-- the place of a label, where it is wanted
abbrev pub placed_code : Bool → ℕ → List DraftEntry → List DraftEntry
placed_code true n rest = Place n ∷ rest
placed_code false n rest = rest
