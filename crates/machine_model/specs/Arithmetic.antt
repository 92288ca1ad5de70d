-- Numbers of 64 bits as the A64 instructions compute with them (Arm DDI 0487, "Shared Pseudocode Functions").
use Rattle.std.specs.Prelude.{ℕ, zero, suc, ◌+◌, ◌-◌, ◌*◌, ◌/◌, ◌%◌, ◌^◌, Bool, true, false, not, ◌&&◌, nat_eq, nat_lt, nat_le, if◌then◌else◌}
use Rattle.std.specs.Int.{w64, cast_signed, cast_unsigned, int_shr, rotate_right}
use Rattle.guest_types.specs.Elements.{Flags}

-- ---- arithmetic of 64 bits

abbrev pub sum : ℕ → ℕ → ℕ
sum a b = (a + b) % 2 ^ 64

abbrev pub difference : ℕ → ℕ → ℕ
difference a b = (a + (2 ^ 64 - b)) % 2 ^ 64

abbrev pub inverted : ℕ → ℕ
inverted a = 2 ^ 64 - 1 - a

abbrev pub is_negative : ℕ → Bool
is_negative a = nat_le (2 ^ 63) a

abbrev pub differ : Bool → Bool → Bool
differ true q = not q
differ false q = q

-- the flags of a - b; carry says that nothing was borrowed, and overflow that the signed difference does not fit
abbrev pub flags_of : ℕ → ℕ → Flags
flags_of a b = record {
  n = is_negative (difference a b);
  z = nat_eq (difference a b) 0;
  c = nat_le b a;
  v = differ (is_negative a) (is_negative b) && differ (is_negative a) (is_negative (difference a b));
}

-- shifts by less than 64: LSL, LSR, ASR, ROR
abbrev pub shifted_word : ℕ → ℕ → ℕ → ℕ
shifted_word zero v k = v * 2 ^ k % 2 ^ 64
shifted_word (suc zero) v k = v / 2 ^ k
shifted_word (suc (suc zero)) v k = cast_unsigned w64 (int_shr (cast_signed w64 v) k)
shifted_word (suc (suc (suc kind))) v k = rotate_right w64 v k

-- v with the 16 bits from bit k on replaced
abbrev pub replaced : ℕ → ℕ → ℕ → ℕ
replaced v k imm = v / 2 ^ (k + 16) * 2 ^ (k + 16) + imm * 2 ^ k + v % 2 ^ k

-- ---- bit fields: where immr <= imms, bits imms down to immr go to the low end; else bits imms down to 0 go to bit 64 - immr

abbrev pub field_width : ℕ → ℕ → ℕ
field_width immr imms = if nat_le immr imms then imms + 1 - immr else imms + 1

abbrev pub field_taken : ℕ → ℕ → ℕ → ℕ
field_taken v immr imms = if nat_le immr imms then v / 2 ^ immr % 2 ^ (imms + 1 - immr) else v % 2 ^ (imms + 1)

abbrev pub field_place : ℕ → ℕ → ℕ
field_place immr imms = if nat_le immr imms then 0 else 64 - immr

-- a number of so many bits as 64 bits, with copies of its top bit above it
abbrev pub extended_word : ℕ → ℕ → ℕ
extended_word width v = if nat_lt v (2 ^ (width - 1)) then v else v + (2 ^ 64 - 2 ^ width)

abbrev pub unsigned_field : ℕ → ℕ → ℕ → ℕ
unsigned_field v immr imms = field_taken v immr imms * 2 ^ field_place immr imms

abbrev pub signed_field : ℕ → ℕ → ℕ → ℕ
signed_field v immr imms =
    extended_word (field_width immr imms) (field_taken v immr imms) * 2 ^ field_place immr imms % 2 ^ 64

-- ---- conditions, as the manual's ConditionHolds: bits 3 to 1 choose, and bit 0 turns it

abbrev pub chosen_condition : ℕ → Flags → Bool
chosen_condition zero f = f.z
chosen_condition (suc zero) f = f.c
chosen_condition (suc (suc zero)) f = f.n
chosen_condition (suc (suc (suc zero))) f = f.v
chosen_condition (suc (suc (suc (suc zero)))) f = f.c && not f.z
chosen_condition (suc (suc (suc (suc (suc zero))))) f = not (differ f.n f.v)
chosen_condition (suc (suc (suc (suc (suc (suc zero)))))) f = not (differ f.n f.v) && not f.z
chosen_condition (suc (suc (suc (suc (suc (suc (suc more))))))) f = true

abbrev pub holds : ℕ → Flags → Bool
holds condition f = if nat_eq (condition % 2) 1 then not (chosen_condition (condition / 2) f) else chosen_condition (condition / 2) f

-- ---- places in code: a signed number of words, from a field of so many bits, counted from the branch

abbrev pub target : ℕ → ℕ → ℕ → ℕ
target pc width imm =
    if nat_lt imm (2 ^ (width - 1)) then (pc + 4 * imm) % 2 ^ 64 else (pc + (2 ^ 64 - 4 * (2 ^ width - imm))) % 2 ^ 64
