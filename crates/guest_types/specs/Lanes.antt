-- What the lane operations give, element by element (Arm DDI 0584, the instructions of the same names). m is the
-- number of values of an element, 2 to its width; an element is a number below m, signed ones in two's complement.
use Rattle.std.specs.Prelude.{ℕ, zero, suc, ◌+◌, ◌-◌, ◌*◌, ◌/◌, ◌%◌, ◌^◌, ◌<◌, ◌≤◌, List, Bool, true, false, not, ◌&&◌, ◌||◌, max, min, nat_eq, nat_lt, nat_le, cond, bit_and, bit_or, bit_xor}
use Rattle.guest_types.specs.declared.length.Width.{Width}
use Rattle.guest_types.specs.declared.operation.LaneOp.{LaneOp}
use Rattle.guest_types.specs.declared.operation.LaneOp.TheVariants.{Add, Sub, Mul, And, Or, Xor, Bic, SMin, SMax, UMin, UMax}
use Rattle.guest_types.specs.declared.operation.LaneUnary.{LaneUnary}
use Rattle.guest_types.specs.declared.operation.LaneUnary.TheVariants.{Abs, Neg, Not, SxtB, UxtB, SxtH, UxtH, SxtW, UxtW}
use Rattle.guest_types.specs.declared.operation.ShiftOp.{ShiftOp}
use Rattle.guest_types.specs.declared.operation.ShiftOp.TheVariants.{Lsl, Lsr, Asr}
use Rattle.guest_types.specs.declared.operation.PredOp.{PredOp}
use Rattle.guest_types.specs.declared.operation.PredOp.TheVariants.{And as PredAnd, Bic as PredBic, Eor, Orr}
use Rattle.guest_types.specs.declared.operation.ReduceOp.{ReduceOp}
use Rattle.guest_types.specs.declared.operation.ReduceOp.TheVariants.{UAdd, SMax as ReduceSMax, UMax as ReduceUMax, SMin as ReduceSMin, UMin as ReduceUMin, Or as ReduceOr, Xor as ReduceXor, And as ReduceAnd}
use Rattle.guest_types.specs.declared.operation.LaneCompare.{LaneCompare}
use Rattle.guest_types.specs.declared.operation.LaneCompare.TheVariants.{Hs, Hi, Ge, Gt, Eq, Ne}
use Rattle.guest_types.specs.Length.{width_bytes, width_bits, modulus, all_lanes}
use Rattle.guest_types.specs.Elements.{at, active, bit, register, predicate}

-- ---- one element

-- the place of a number in the signed order
abbrev pub biased : ℕ → ℕ → ℕ
biased m a = (a + m / 2) % m

-- a is below b as a signed number
abbrev pub signed_lt : ℕ → ℕ → ℕ → Bool
signed_lt m a b = nat_lt (biased m a) (biased m b)

-- a binary operation of two elements
abbrev pub lane : LaneOp → ℕ → ℕ → ℕ → ℕ
lane Add m a b = (a + b) % m
lane Sub m a b = (a + (m - b)) % m
lane Mul m a b = a * b % m
lane And m a b = bit_and a b
lane Or m a b = bit_or a b
lane Xor m a b = bit_xor a b
lane Bic m a b = bit_and a (m - 1 - b)
lane SMin m a b = cond (signed_lt m a b) a b
lane SMax m a b = cond (signed_lt m a b) b a
lane UMin m a b = min a b
lane UMax m a b = max a b

-- the lowest bits of a number as a signed number of m values, where there are s values of those bits
abbrev pub sign_extended : ℕ → ℕ → ℕ → ℕ
sign_extended s m a = cond (nat_lt (a % s) (s / 2)) (a % s) (a % s + (m - s))

-- an operation of one element
abbrev pub unary : LaneUnary → ℕ → ℕ → ℕ
unary Abs m a = cond (nat_lt a (m / 2)) a ((m - a) % m)
unary Neg m a = (m - a) % m
unary Not m a = m - 1 - a
unary SxtB m a = sign_extended (2 ^ 8) m a
unary UxtB m a = a % 2 ^ 8
unary SxtH m a = sign_extended (2 ^ 16) m a
unary UxtH m a = a % 2 ^ 16
unary SxtW m a = sign_extended (2 ^ 32) m a
unary UxtW m a = a % 2 ^ 32

-- how many bits an extension reads, and 0 for the others
abbrev pub source_bits : LaneUnary → ℕ
source_bits Abs = 0
source_bits Neg = 0
source_bits Not = 0
source_bits SxtB = 8
source_bits UxtB = 8
source_bits SxtH = 16
source_bits UxtH = 16
source_bits SxtW = 32
source_bits UxtW = 32

-- a shift of an element by a fixed count; Asr fills with the top bit
abbrev pub shifted : ShiftOp → ℕ → ℕ → ℕ → ℕ
shifted Lsl m a count = a * 2 ^ count % m
shifted Lsr m a count = a / 2 ^ count
shifted Asr m a count = a / 2 ^ count + cond (nat_lt a (m / 2)) 0 (m - m / 2 ^ count)

-- the counts that a shift has in its instruction
abbrev pub ShiftFits : ShiftOp → Width → ℕ → Type 0
ShiftFits Lsl w count = count < width_bits w
ShiftFits Lsr w count = (1 ≤ count) × (count ≤ width_bits w)
ShiftFits Asr w count = (1 ≤ count) × (count ≤ width_bits w)

-- a comparison of two elements: Hs and Hi unsigned, Ge and Gt signed
abbrev pub is_true : LaneCompare → ℕ → ℕ → ℕ → Bool
is_true Hs m a b = nat_le b a
is_true Hi m a b = nat_lt b a
is_true Ge m a b = nat_le (biased m b) (biased m a)
is_true Gt m a b = nat_lt (biased m b) (biased m a)
is_true Eq m a b = nat_eq a b
is_true Ne m a b = not (nat_eq a b)

-- an operation of two predicate bits
abbrev pub pred_bit : PredOp → Bool → Bool → Bool
pred_bit PredAnd l r = l && r
pred_bit PredBic l r = l && not r
pred_bit Eor l r = cond l (not r) r
pred_bit Orr l r = l || r

-- what a reduction starts from, which joins with no effect
abbrev pub identity : ReduceOp → ℕ → ℕ
identity UAdd m = 0
identity ReduceSMax m = m / 2
identity ReduceUMax m = 0
identity ReduceSMin m = m / 2 - 1
identity ReduceUMin m = m - 1
identity ReduceOr m = 0
identity ReduceXor m = 0
identity ReduceAnd m = m - 1

-- a reduction's fold so far with one more element; UADDV keeps its sum in 64 bits
abbrev pub joined : ReduceOp → ℕ → ℕ → ℕ → ℕ
joined UAdd m a b = (a + b) % 2 ^ 64
joined ReduceSMax m a b = lane SMax m a b
joined ReduceUMax m a b = lane UMax m a b
joined ReduceSMin m a b = lane SMin m a b
joined ReduceUMin m a b = lane UMin m a b
joined ReduceOr m a b = lane Or m a b
joined ReduceXor m a b = lane Xor m a b
joined ReduceAnd m a b = lane And m a b

-- below how much the fold of a reduction stays
abbrev pub fold_limit : ReduceOp → ℕ → ℕ
fold_limit UAdd m = 2 ^ 64
fold_limit ReduceSMax m = m
fold_limit ReduceUMax m = m
fold_limit ReduceSMin m = m
fold_limit ReduceUMin m = m
fold_limit ReduceOr m = m
fold_limit ReduceXor m = m
fold_limit ReduceAnd m = m

-- ---- registers of elements; n is the number of elements in the vector length

-- DUP: every element is the number
abbrev pub dup_at : ℕ → ℕ → ℕ
dup_at value e = value

abbrev pub dup_of : Width → ℕ → ℕ → List ℕ
dup_of w n value = register (width_bytes w) (dup_at value) n

-- INDEX: from and by are numbers of 64 bits, by in two's complement
abbrev pub index_at : ℕ → ℕ → ℕ → ℕ
index_at from by e = from + e * by

abbrev pub index_of : Width → ℕ → ℕ → ℕ → List ℕ
index_of w n from by = register (width_bytes w) (index_at from by) n

-- SEL
abbrev pub select_at : Width → List ℕ → List ℕ → List ℕ → ℕ → ℕ
select_at w pg chosen other e = cond (active w pg e) (at w chosen e) (at w other e)

abbrev pub select_of : Width → List ℕ → List ℕ → List ℕ → List ℕ
select_of w pg chosen other = register (width_bytes w) (select_at w pg chosen other) (all_lanes w)

abbrev pub binary_at : LaneOp → Width → List ℕ → List ℕ → ℕ → ℕ
binary_at op w l r e = lane op (modulus w) (at w l e) (at w r e)

abbrev pub binary_of : LaneOp → Width → List ℕ → List ℕ → List ℕ
binary_of op w l r = register (width_bytes w) (binary_at op w l r) (all_lanes w)

abbrev pub shift_at : ShiftOp → Width → List ℕ → ℕ → ℕ → ℕ
shift_at op w z count e = shifted op (modulus w) (at w z e) count

abbrev pub shift_of : ShiftOp → Width → List ℕ → ℕ → List ℕ
shift_of op w z count = register (width_bytes w) (shift_at op w z count) (all_lanes w)

-- a merging operation: an element that is not active stays
abbrev pub merge_at : LaneOp → Width → List ℕ → List ℕ → List ℕ → ℕ → ℕ
merge_at op w pg l r e = cond (active w pg e) (binary_at op w l r e) (at w l e)

abbrev pub merge_of : LaneOp → Width → List ℕ → List ℕ → List ℕ → List ℕ
merge_of op w pg l r = register (width_bytes w) (merge_at op w pg l r) (all_lanes w)

-- the same of one operand, into a register with its own old elements
abbrev pub merge_one_at : LaneUnary → Width → List ℕ → List ℕ → List ℕ → ℕ → ℕ
merge_one_at op w pg old z e = cond (active w pg e) (unary op (modulus w) (at w z e)) (at w old e)

abbrev pub merge_one_of : LaneUnary → Width → List ℕ → List ℕ → List ℕ → List ℕ
merge_one_of op w pg old z = register (width_bytes w) (merge_one_at op w pg old z) (all_lanes w)

-- the fold of the first n elements
unfoldable pub folded : (ℕ → ℕ → ℕ) → ℕ → (ℕ → ℕ) → ℕ → ℕ
folded step start f zero = start
folded step start f (suc n) = step (folded step start f n) (f n)

-- a reduction: an element that is not active counts as the identity
abbrev pub reduce_at : ReduceOp → Width → List ℕ → List ℕ → ℕ → ℕ
reduce_at op w pg z e = cond (active w pg e) (at w z e) (identity op (modulus w))

abbrev pub reduce_of : ReduceOp → Width → ℕ → List ℕ → List ℕ → ℕ
reduce_of op w n pg z = folded (joined op (modulus w)) (identity op (modulus w)) (reduce_at op w pg z) n

-- ---- predicates

abbrev pub compare_at : LaneCompare → Width → List ℕ → List ℕ → List ℕ → ℕ → Bool
compare_at op w pg l r e = active w pg e && is_true op (modulus w) (at w l e) (at w r e)

abbrev pub compare_of : LaneCompare → Width → ℕ → List ℕ → List ℕ → List ℕ → List ℕ
compare_of op w n pg l r = predicate (width_bytes w) (compare_at op w pg l r) n

-- PTRUE
abbrev pub all_at : ℕ → Bool
all_at e = true

abbrev pub all_true_of : Width → ℕ → List ℕ
all_true_of w n = predicate (width_bytes w) all_at n

-- WHILELO: true from element 0 up, while from + e is below to
abbrev pub while_at : ℕ → ℕ → ℕ → Bool
while_at from to e = nat_lt (from + e) to

abbrev pub while_of : Width → ℕ → ℕ → ℕ → List ℕ
while_of w n from to = predicate (width_bytes w) (while_at from to) n

-- AND, BIC, EOR and ORR, bit by bit
abbrev pub logic_at : PredOp → List ℕ → List ℕ → List ℕ → ℕ → Bool
logic_at op pg l r j = bit pg j && pred_bit op (bit l j) (bit r j)

abbrev pub logic_of : PredOp → List ℕ → List ℕ → List ℕ → List ℕ
logic_of op pg l r = predicate 1 (logic_at op pg l r) 256

-- whether some active bit of p below j is set
unfoldable pub broken : List ℕ → List ℕ → ℕ → Bool
broken pg p zero = false
broken pg p (suc j) = broken pg p j || (bit pg j && bit p j)

-- BRKA (after) and BRKB: true up to the first active true bit of p, with it for BRKA
abbrev pub brk_at : Bool → List ℕ → List ℕ → ℕ → Bool
brk_at after pg p j = bit pg j && not (broken pg p (cond after j (j + 1)))

abbrev pub brk_of : Bool → List ℕ → List ℕ → List ℕ
brk_of after pg p = predicate 1 (brk_at after pg p) 256

-- CNTP: the number of elements that are true in both
abbrev pub count_at : Width → List ℕ → List ℕ → ℕ → ℕ
count_at w pg p e = cond (active w pg e && active w p e) 1 0

abbrev pub plus : ℕ → ℕ → ℕ
plus a b = a + b

abbrev pub count_of : Width → ℕ → List ℕ → List ℕ → ℕ
count_of w n pg p = folded plus 0 (count_at w pg p) n
