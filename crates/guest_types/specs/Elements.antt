-- Elements of vector and predicate registers (Arm DDI 0584). A vector register is the list of its 256 bytes and a
-- predicate register the list of the 32 bytes that hold its 256 bits, the lowest first in both. What lies past the
-- vector length is zero.
use Rattle.std.specs.Prelude.{ℕ, zero, suc, ◌+◌, ◌-◌, ◌*◌, ◌/◌, ◌%◌, ◌^◌, List, [], ◌∷◌, ◌++◌, take, drop, Bool, true, false, not, ◌&&◌, map, nat_eq, nat_lt, cond, slice_index, slice_set, bit_or, Option, Some, None, is_none, if◌then◌else◌}
use Rattle.std.specs.List.{range_with_len}
use lib.ListN.{replicate}
use lib.Lanes.{number_l, digits_l, chunk, mask_l}
use Rattle.guest_types.specs.declared.length.Width.{Width}
use Rattle.guest_types.specs.Length.{width_bytes}

-- the number that bytes spell, the lowest first
abbrev pub number_of_bytes : List ℕ → ℕ
number_of_bytes bs = number_l 256 bs

-- the lowest k bytes of a number, the lowest first
abbrev pub bytes_of : ℕ → ℕ → List ℕ
bytes_of k x = digits_l 256 k x

-- element e of k bytes
abbrev pub element : ℕ → List ℕ → ℕ → ℕ
element k z e = number_of_bytes (chunk (k * e) k z)

-- n elements of k bytes, where element e is f e
unfoldable pub elements : ℕ → (ℕ → ℕ) → ℕ → List ℕ
elements k f zero = []
elements k f (suc n) = elements k f n ++ bytes_of k (f n)

-- a register with n elements of k bytes, and zeros above them
abbrev pub register : ℕ → (ℕ → ℕ) → ℕ → List ℕ
register k f n = elements k f n ++ replicate (256 - k * n) 0

-- z with element e of k bytes replaced
abbrev pub with_element : ℕ → List ℕ → ℕ → ℕ → List ℕ
with_element k z e x = take (k * e) z ++ (bytes_of k x ++ drop k (drop (k * e) z))

-- element e of a register at a width
abbrev pub at : Width → List ℕ → ℕ → ℕ
at w z e = element (width_bytes w) z e

-- bit j of a predicate register
abbrev pub bit : List ℕ → ℕ → Bool
bit bs j = nat_eq (slice_index bs (j / 8) / 2 ^ (j % 8) % 2) 1

-- the predicate bit of element e at a width
abbrev pub active : Width → List ℕ → ℕ → Bool
active w p e = bit p (width_bytes w * e)

-- byte i of the bits h
abbrev pub byte_of_bits : (ℕ → Bool) → ℕ → ℕ
byte_of_bits h i = mask_l (map (λ t. h (8 * i + t)) (range_with_len 0 8))

-- the first n bytes of the bits h
unfoldable pub bits_of : (ℕ → Bool) → ℕ → List ℕ
bits_of h zero = []
bits_of h (suc n) = bits_of h n ++ byte_of_bits h n ∷ []

-- bit j of a predicate whose element e, of n elements of k bytes, is h e; the other bits of each group are zero
abbrev pub element_bit : ℕ → (ℕ → Bool) → ℕ → ℕ → Bool
element_bit k h n j = nat_eq (j % k) 0 && nat_lt j (k * n) && h (j / k)

-- that predicate register
abbrev pub predicate : ℕ → (ℕ → Bool) → ℕ → List ℕ
predicate k h n = bits_of (element_bit k h n) 32

-- the bits with bit j set where the value is true
abbrev pub put_bit : List ℕ → ℕ → Bool → List ℕ
put_bit bs j true = slice_set bs (j / 8) (bit_or (slice_index bs (j / 8)) (2 ^ (j % 8)))
put_bit bs j false = bs

-- the first of `left` elements from e on at which a test is true
abbrev pub first_true : (ℕ → Bool) → (left e : ℕ) → Option ℕ
first_true test zero e = None
first_true test (suc n) e = if test e then Some e else first_true test n (e + 1)

-- the last of the elements below n at which a test is true
abbrev pub last_true : (ℕ → Bool) → ℕ → Option ℕ
last_true test zero = None
last_true test (suc n) = if test n then Some n else last_true test n

-- whether the result is true at that element, where there is one
abbrev pub true_at : (ℕ → Bool) → Option ℕ → Bool
true_at result None = false
true_at result (Some e) = result e

-- whether the result is true at an active element
abbrev pub both : (ℕ → Bool) → (ℕ → Bool) → ℕ → Bool
both mask result e = mask e && result e

-- the condition flags
pub record Flags : Type 0 where
  pub n : Bool
  pub z : Bool
  pub c : Bool
  pub v : Bool

-- the flags that a predicate of n elements sets (Arm DDI 0487, PredTest): N where the first active element is true,
-- Z where no active element is, C where the last active one is not
abbrev pub pred_test : (mask result : ℕ → Bool) → ℕ → Flags
pred_test mask result n = record {
  n = true_at result (first_true mask n 0);
  z = is_none (first_true (both mask result) n 0);
  c = not (true_at result (last_true mask n));
  v = false;
}

-- the flags as the lowest four bits of a number, V the lowest
abbrev pub nzcv : Flags → ℕ
nzcv flags = cond flags.n 8 0 + cond flags.z 4 0 + cond flags.c 2 0 + cond flags.v 1 0
