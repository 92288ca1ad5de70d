-- The definitions at values worked out by hand.
use Rattle.std.proofs.Common.{List, ◌+◌, ◌≡◌, ℕ, ◌-◌, ◌^◌, Bool, true, false, [], ◌∷◌, replicate, Some, None, Ok, Err, refl}
use Rattle.std.specs.Prelude.{nat_lt}
use Rattle.guest_types.specs.declared.length.Width.TheVariants.{B, H, S, D}
use Rattle.guest_types.specs.declared.memory.AccessFault.{AccessFault}
use Rattle.guest_types.specs.declared.memory.Perm.{Perm}
use Rattle.guest_types.specs.declared.memory.Perm.TheVariants.{Read, ReadWrite, ReadExec}
use Rattle.guest_types.specs.declared.operation.LaneOp.TheVariants.{Sub, Mul, Bic, SMin, SMax, UMax}
use Rattle.guest_types.specs.declared.operation.LaneUnary.TheVariants.{Abs, Neg, Not, SxtB, SxtH, UxtW}
use Rattle.guest_types.specs.declared.operation.ShiftOp.TheVariants.{Lsl, Lsr, Asr}
use Rattle.guest_types.specs.declared.operation.ReduceOp.TheVariants.{UAdd, SMax as ReduceSMax, SMin as ReduceSMin, UMin as ReduceUMin, And as ReduceAnd}
use Rattle.guest_types.specs.declared.operation.LaneCompare.TheVariants.{Hi, Ge, Gt}
use Rattle.guest_types.specs.Length.{modulus}
use Rattle.guest_types.specs.Memory.{Page, Memory, byte_at, number_at, put_number, loaded, stored, fetched, merged, next_address}
use Rattle.guest_types.specs.Elements.{elements, at, active, bits_of, pred_test, nzcv}
use Rattle.guest_types.specs.Spans.{has_span, has_span_mut, span_of, with_span}
use Rattle.guest_types.specs.LaneMemory.{load_form, load_form_of, lane_address, plain_load, store_lanes, StoreFault}
use Rattle.guest_types.specs.EarlyLoads.{never, first_fault_early, non_fault_early}
use Rattle.guest_types.specs.Lanes.{lane, unary, shifted, is_true, identity, joined, all_at, while_at, while_of, brk_of, broken}

-- ---- memory

page_of : ℕ → Perm → ℕ → Page
page_of n perm b = record { page = n; perm = perm; bytes = replicate 4096 b }

memory : Memory
memory = page_of 0 ReadWrite 0x11 ∷ page_of 1 ReadWrite 0x22 ∷ page_of 2 Read 0x33 ∷ page_of 3 ReadExec 0x44 ∷ []

refused : ℕ → Bool → AccessFault
refused address write = record { address = address; write = write }

-- a read across a page edge, little-endian
reads_across : loaded memory 4094 4 ≡ Ok 0x22221111
unfolding memory page_of
reads_across = refl

reads_eight : loaded memory 8191 8 ≡ Ok 0x3333333333333322
unfolding memory page_of
reads_eight = refl

-- a write across a page edge, and its bytes
writes_across : number_at (put_number memory 4094 4 0xAABBCCDD) 4093 6 ≡ 0x22AABBCCDD11
unfolding memory page_of
writes_across = refl

written_byte : byte_at (put_number memory 4094 4 0xAABBCCDD) 4096 ≡ Some 0xBB
unfolding memory page_of
written_byte = refl

-- a write into a page that is not writable is refused at its first byte there
refuses_read_only : stored memory 8190 4 7 ≡ Err (refused 8192 true)
unfolding memory page_of refused
refuses_read_only = refl

refuses_code : stored memory 12288 1 7 ≡ Err (refused 12288 true)
unfolding memory page_of refused
refuses_code = refl

-- an unmapped byte refuses reads and writes
refuses_unmapped : loaded memory 16383 2 ≡ Err (refused 16384 false)
unfolding memory page_of refused
refuses_unmapped = refl

-- the last address is unmapped, and comes before address 0
refuses_last : loaded memory (2 ^ 64 - 1) 2 ≡ Err (refused (2 ^ 64 - 1) false)
unfolding memory page_of refused
refuses_last = refl

after_last : next_address (2 ^ 64 - 1) ≡ 0
after_last = refl

-- reading goes on at address 0
wraps : number_at (page_of 0 Read 0x11 ∷ page_of (2 ^ 52 - 1) Read 0x55 ∷ []) (2 ^ 64 - 2) 4 ≡ 0x11115555
unfolding page_of
wraps = refl

-- only words of executable pages are fetched
fetches : fetched memory 12292 ≡ Some 0x44444444
unfolding memory page_of
fetches = refl

fetches_whole_words : fetched memory 12290 ≡ None
unfolding memory page_of
fetches_whole_words = refl

fetches_code : fetched memory 4096 ≡ None
unfolding memory page_of
fetches_code = refl

merges : merged (page_of 1 Read 1 ∷ page_of 4 Read 1 ∷ []) (page_of 0 Read 2 ∷ page_of 3 Read 2 ∷ page_of 9 Read 2 ∷ []) ≡ page_of 0 Read 2 ∷ page_of 1 Read 1 ∷ page_of 3 Read 2 ∷ page_of 4 Read 1 ∷ page_of 9 Read 2 ∷ []
unfolding page_of
merges = refl

-- ---- elements

halfword : at H (1 ∷ 2 ∷ 3 ∷ 4 ∷ 5 ∷ 6 ∷ 7 ∷ 8 ∷ []) 1 ≡ 0x0403
halfword = refl

doubleword : at D (1 ∷ 2 ∷ 3 ∷ 4 ∷ 5 ∷ 6 ∷ 7 ∷ 8 ∷ []) 0 ≡ 0x0807060504030201
doubleword = refl

-- element 2 of words has bit 8
word_active : active S (0 ∷ 1 ∷ []) 2 ≡ true
word_active = refl

-- a predicate of four words has bits 0, 4, 8 and 12
four_words : while_of S 4 7 100 ≡ 0x11 ∷ 0x11 ∷ replicate 30 0
unfolding bits_of
four_words = refl

three_of_four : while_of S 4 97 100 ≡ 0x11 ∷ 0x01 ∷ replicate 30 0
unfolding bits_of
three_of_four = refl

-- a sum above 2^64 does not wrap
no_wrap : while_at (2 ^ 64 - 1) 5 2 ≡ false
no_wrap = refl

-- BRKB stops before the first active true bit, BRKA with it
break_before : brk_of false (0xFF ∷ replicate 31 0) (0x28 ∷ replicate 31 0) ≡ 0x07 ∷ replicate 31 0
unfolding bits_of broken
break_before = refl

break_after : brk_of true (0xFF ∷ replicate 31 0) (0x28 ∷ replicate 31 0) ≡ 0x0F ∷ replicate 31 0
unfolding bits_of broken
break_after = refl

-- ---- flags

below_two : ℕ → Bool
below_two e = nat_lt e 2

none_at : ℕ → Bool
none_at e = false

some_true : nzcv (pred_test all_at below_two 4) ≡ 10
unfolding below_two
some_true = refl

all_true : nzcv (pred_test all_at all_at 4) ≡ 8
all_true = refl

none_true : nzcv (pred_test all_at none_at 4) ≡ 6
unfolding none_at
none_true = refl

none_active : nzcv (pred_test none_at all_at 4) ≡ 6
unfolding none_at
none_active = refl

-- ---- operations

differences : (lane Sub (modulus B) 0 1 ≡ 0xFF) × (lane Mul (modulus H) 0x100 0x101 ≡ 0x100) × (lane Bic (modulus B) 0xFF 0x0F ≡ 0xF0)
differences = (refl, refl, refl)

orders : (lane SMax (modulus B) 0x80 0x7F ≡ 0x7F) × (lane SMin (modulus B) 0x80 0x7F ≡ 0x80) × (lane UMax (modulus B) 0x80 0x7F ≡ 0x80)
orders = (refl, refl, refl)

signs : (unary Abs (modulus B) 0x80 ≡ 0x80) × (unary Abs (modulus B) 0xFF ≡ 1) × (unary Neg (modulus H) 1 ≡ 0xFFFF) × (unary Not (modulus B) 0x0F ≡ 0xF0)
signs = (refl, refl, refl, refl)

extensions : (unary SxtB (modulus H) 0x1280 ≡ 0xFF80) × (unary SxtH (modulus D) 0x7FFF ≡ 0x7FFF) × (unary UxtW (modulus D) 0x123456789 ≡ 0x23456789)
extensions = (refl, refl, refl)

shifts : (shifted Asr (modulus B) 0x80 8 ≡ 0xFF) × (shifted Asr (modulus B) 0x7F 3 ≡ 0x0F) × (shifted Lsr (modulus B) 0x80 8 ≡ 0) × (shifted Lsl (modulus B) 0x81 7 ≡ 0x80)
shifts = (refl, refl, refl, refl)

comparisons : (is_true Hi (modulus B) 0x80 0x7F ≡ true) × (is_true Ge (modulus B) 0x80 0x7F ≡ false) × (is_true Gt (modulus B) 0x00 0xFF ≡ true)
comparisons = (refl, refl, refl)

identities : (identity ReduceSMax (modulus B) ≡ 0x80) × (identity ReduceSMin (modulus B) ≡ 0x7F) × (identity ReduceUMin (modulus H) ≡ 0xFFFF) × (identity ReduceAnd (modulus S) ≡ 0xFFFFFFFF)
identities = (refl, refl, refl, refl)

-- UADDV keeps 64 bits at each width
wide_sum : joined UAdd (modulus B) 0xFF 0xFF ≡ 0x1FE
wide_sum = refl

-- ---- lanes in memory

signed_forms : (load_form 4 ≡ load_form_of S D true) × (load_form 8 ≡ load_form_of H D true) × (load_form 14 ≡ load_form_of B H true) × (load_form 15 ≡ load_form_of D D false)
signed_forms = (refl, refl, refl, refl)

address_of : ℕ → ℕ → ℕ
address_of base e = lane_address base 0 1 e

all_set : List ℕ
all_set = replicate 32 255

-- LD1B of two halfwords across a page edge
loads_across : plain_load (load_form 1) memory all_at (address_of 4095) 2 all_set ≡ Ok (record { z = 0x11 ∷ 0 ∷ 0x22 ∷ replicate 253 0; ffr = all_set })
unfolding memory page_of address_of all_set elements
loads_across = refl

-- its second element is unmapped
load_refused : plain_load (load_form 1) memory all_at (address_of 16383) 2 all_set ≡ Err (refused 16384 false)
unfolding memory page_of refused address_of all_set elements
load_refused = refl

first_only : ℕ → Bool
first_only e = nat_lt e 1

-- and is not looked at where it is not active
load_inactive : plain_load (load_form 1) memory first_only (address_of 16383) 2 all_set ≡ Ok (record { z = 0x44 ∷ replicate 255 0; ffr = all_set })
unfolding memory page_of address_of all_set elements first_only
load_inactive = refl

-- LDFF1B stops before it and clears FFR from its bit on
first_fault_stops : first_fault_early (load_form 0) memory never all_at (address_of 16382) 4 all_set ≡ Ok (record { loaded = record { z = 0x44 ∷ 0x44 ∷ replicate 254 0; ffr = 0x03 ∷ replicate 31 0 }; stops = never; cut = false })
unfolding memory page_of address_of all_set elements bits_of
first_fault_stops = refl

-- but faults at its first active element
first_fault_refused : first_fault_early (load_form 0) memory never all_at (address_of 16384) 4 all_set ≡ Err (refused 16384 false)
unfolding memory page_of refused address_of all_set elements bits_of
first_fault_refused = refl

-- where LDNF1B gives zeros
non_fault_stops : non_fault_early (load_form 0) memory never all_at (address_of 16384) 4 all_set ≡ record { loaded = record { z = replicate 256 0; ffr = replicate 32 0 }; stops = never; cut = false }
unfolding memory page_of address_of all_set elements bits_of
non_fault_stops = refl

counted : ℕ → ℕ
counted e = e + 7

-- ST1B writes the elements below the first that faults
store_stops : store_lanes all_at (address_of 8190) counted 1 4 0 memory ≡ StoreFault (refused 8192 true) (put_number memory 8190 2 0x0807)
unfolding memory page_of refused address_of counted
store_stops = refl

lends : (has_span memory 4095 1 ≡ true) × (has_span memory 4095 2 ≡ false) × (has_span memory 0 0 ≡ false) × (has_span memory 8192 4096 ≡ true) × (has_span_mut memory 8192 4096 ≡ false)
unfolding memory page_of
lends = (refl, refl, refl, refl, refl)

spans : (span_of memory 12286 2 ≡ 0x33 ∷ 0x33 ∷ []) × (with_span memory 4096 (1 ∷ 2 ∷ []) ≡ put_number memory 4096 2 0x0201)
unfolding memory page_of
spans = (refl, refl)
