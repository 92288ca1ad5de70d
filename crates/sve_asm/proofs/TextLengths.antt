-- How long the parts of an instruction's text are, and the texts of each form, where no number of a field has more than 32 bits.
use Rattle.std.proofs.Common.{◌≡◌, ℕ, zero, suc, ◌+◌, ◌*◌, ◌-◌, ◌^◌, ◌<◌, ◌≤◌, true, List, [], ◌∷◌, ◌++◌, length, subst, arith, length-append, refl, cond}
use Rattle.std.specs.Prelude.{◌==◌, ◌&&◌, codes, decimal, nat_lt, nat_le, slice_index, slice_index_or}
use Rattle.std.specs.List.{list_all}
use Rattle.std.proofs.lemmas.Bool.{and_parts, cond_both, leb-true, ltb-true, ltb-false}
use Rattle.std.proofs.lemmas.Fmt.{length-decimal-le}
use Rattle.std.proofs.lemmas.Nat.{mul-le}
use Rattle.sve_code.specs.Numbers.{element_width, shift_size, left_amount, right_amount, memory_size, element_size, is_signed}
use Rattle.list_text.specs.Parts.{general_register, x_register, w_register, x_or_sp, w_or_sp, comma, constant, signed_multiple, signed_constant, lsl_by, shift_name, shifted_by, at_offset, at_register, cond_names, cond_name, size_letter, dotted, z_register, at_vector, p_register, access_letter}
use Rattle.list_text.specs.A64Text.{add_sub_immediate, shifted_register, move_wide, multiply_add, shift_variable, bitfield, conditional_select, compare_branch, exception, load_store_immediate, load_store_byte_register, load_store_register}
use Rattle.list_text.specs.SveText.{predicate_logical, break_at, element_count, vectors, bitwise, shift_value, shift_immediate, binary_predicated, unary_predicated, extend_word, reduction, compare_vectors, access_name, loaded, load, gather}
use Rattle.sve_asm.proofs.Words.{below, below-at, by_test}

-- ---- lengths
-- the text has at most so many bytes
pub record Fits (most : ℕ) (text : List ℕ) : Type 0 where
  pub bound : length text ≤ most

pub fits_its_length : (x : List ℕ) → Fits (length x) x
fits_its_length x = record { bound = omega arith }

pub fits_append : {a b : ℕ} {x y : List ℕ} → Fits a x → Fits b y → Fits (a + b) (x ++ y)
fits_append {a = a} {b = b} {x = x} {y = y} p q = record { bound = let h = p.bound in let k = q.bound in omega (arith, h, k, length-append x y) }

-- a text of known length
pub of_length : (n : ℕ) (x : List ℕ) → nat_le (length x) n ≡ true → Fits n x
of_length n x h = record { bound = leb-true (length x) n h }

-- a length that is known to be enough
pub fits_of_le : {a : ℕ} {x : List ℕ} (n : ℕ) → Fits a x → nat_le a n ≡ true → Fits n x
fits_of_le {a = a} {x = x} n p h = record { bound = let k = p.bound in omega (arith, k, leb-true a n h) }

-- the longest of some texts
entry : (n : ℕ) (texts : List (List ℕ)) (k : ℕ) → list_all (λ x. nat_le (length x) n) texts ≡ true → Fits n (slice_index_or texts k [])
entry n [] k h = record { bound = omega arith }
entry n (text ∷ texts) zero h = of_length n text (and_parts (nat_le (length text) n) (list_all (λ x. nat_le (length x) n) texts) h).0
entry n (text ∷ texts) (suc k) h = entry n texts k (and_parts (nat_le (length text) n) (list_all (λ x. nat_le (length x) n) texts) h).1

-- ---- numbers
-- each number of an instruction has at most 32 bits
pub record AreSmall (numbers : List ℕ) : Type 0 where
  pub at : (k : ℕ) → slice_index numbers k < 2 ^ 32

digits : (n : ℕ) → n < 2 ^ 32 → Fits 10 (decimal n)
digits n h = record { bound = length-decimal-le 10 n (omega arith) (omega (arith, h)) (omega (arith, h)) }

constant_digits : (n : ℕ) → n < 2 ^ 38 → Fits 12 (decimal n)
constant_digits n h = record { bound = length-decimal-le 12 n (omega arith) (omega (arith, h)) (omega (arith, h)) }

pub constant_length : (n : ℕ) → n < 2 ^ 38 → Fits 13 (constant n)
constant_length n h = fits_append (fits_its_length (codes "#")) (constant_digits n h)

pub signed_length : (unit half n : ℕ) → unit * n < 2 ^ 38 → unit * (2 * half - n) < 2 ^ 38 → Fits 14 (signed_multiple unit half n)
signed_length unit half n h k =
    cond_both (nat_lt n half) (codes "#" ++ decimal (unit * n)) (codes "#-" ++ decimal (unit * (2 * half - n))) (λ t. Fits 14 t)
    (λ e. fits_of_le 14 (fits_append (fits_its_length (codes "#")) (constant_digits (unit * n) h)) refl)
    (λ e. fits_of_le 14 (fits_append (fits_its_length (codes "#-")) (constant_digits (unit * (2 * half - n)) k)) refl)

pub lsl_length : (n : ℕ) → n < 2 ^ 38 → Fits 19 (lsl_by n)
lsl_length n h =
    cond_both (n == 0) [] (codes ", lsl " ++ constant n) (λ t. Fits 19 t)
    (λ e. of_length 19 [] refl) (λ e. fits_append (fits_its_length (codes ", lsl ")) (constant_length n h))

shift_name_length : (shift : ℕ) → Fits 6 (shift_name shift)
shift_name_length shift =
    cond_both (shift == 0) (codes ", lsl ") (cond (shift == 1) (codes ", lsr ") (cond (shift == 2) (codes ", asr ") (codes ", ror "))) (λ t. Fits 6 t)
    (λ e. fits_its_length (codes ", lsl "))
    (λ e. cond_both (shift == 1) (codes ", lsr ") (cond (shift == 2) (codes ", asr ") (codes ", ror ")) (λ t. Fits 6 t)
    (λ e. fits_its_length (codes ", lsr "))
    (λ e. cond_both (shift == 2) (codes ", asr ") (codes ", ror ") (λ t. Fits 6 t) (λ e. fits_its_length (codes ", asr ")) (λ e. fits_its_length (codes ", ror "))))

shifted_length : (shift n : ℕ) → n < 2 ^ 38 → Fits 19 (shifted_by shift n)
shifted_length shift n h =
    cond_both ((shift == 0) && (n == 0)) [] (shift_name shift ++ constant n) (λ t. Fits 19 t)
    (λ e. of_length 19 [] refl) (λ e. fits_append (shift_name_length shift) (constant_length n h))

-- ---- registers
register_length : (letter last : List ℕ) (n : ℕ) → nat_le (length letter) 1 ≡ true → nat_le (length last) 11 ≡ true → n < 2 ^ 32 → Fits 11 (general_register letter last n)
register_length letter last n a b h =
    cond_both (n == 31) last (letter ++ decimal n) (λ t. Fits 11 t)
    (λ e. of_length 11 last b) (λ e. fits_append (of_length 1 letter a) (digits n h))

pub x_length : (n : ℕ) → n < 2 ^ 32 → Fits 11 (x_register n)
x_length n h = register_length (codes "x") (codes "xzr") n refl refl h

pub w_length : (n : ℕ) → n < 2 ^ 32 → Fits 11 (w_register n)
w_length n h = register_length (codes "w") (codes "wzr") n refl refl h

pub x_or_sp_length : (n : ℕ) → n < 2 ^ 32 → Fits 11 (x_or_sp n)
x_or_sp_length n h = register_length (codes "x") (codes "sp") n refl refl h

pub w_or_sp_length : (n : ℕ) → n < 2 ^ 32 → Fits 11 (w_or_sp n)
w_or_sp_length n h = register_length (codes "w") (codes "wsp") n refl refl h

pub condition_length : (n : ℕ) → Fits 2 (cond_name n)
condition_length n = entry 2 cond_names n refl

pub size_length : (size : ℕ) → Fits 1 (size_letter size)
size_length size = entry 1 (codes "b" ∷ codes "h" ∷ codes "s" ∷ codes "d" ∷ []) size refl

pub access_length : (size : ℕ) → Fits 1 (access_letter size)
access_length size = entry 1 (codes "b" ∷ codes "h" ∷ codes "w" ∷ codes "d" ∷ []) size refl

pub dotted_length : (size : ℕ) → Fits 2 (dotted size)
dotted_length size = fits_append (fits_its_length (codes ".")) (size_length size)

pub z_length : (size n : ℕ) → n < 2 ^ 32 → Fits 13 (z_register size n)
z_length size n h = fits_append (fits_append (fits_its_length (codes "z")) (digits n h)) (dotted_length size)

pub p_length : (n : ℕ) → n < 2 ^ 32 → Fits 11 (p_register n)
p_length n h = fits_append (fits_its_length (codes "p")) (digits n h)

-- a vector register seen as a scalar, or an element of one
pub number_length : (n : ℕ) → n < 2 ^ 32 → Fits 10 (decimal n)
number_length n h = digits n h

-- ---- addresses
pub offset_length : (rn bytes : ℕ) → rn < 2 ^ 32 → bytes < 2 ^ 38 → Fits 30 (at_offset rn bytes)
offset_length rn bytes h k =
    fits_append (fits_append (fits_append (fits_its_length (codes ", [")) (x_or_sp_length rn h))
    (cond_both (bytes == 0) [] (comma ++ constant bytes) (λ t. Fits 15 t) (λ e. of_length 15 [] refl) (λ e. fits_append (fits_its_length comma) (constant_length bytes k))))
    (fits_its_length (codes "]"))

pub index_length : (rn rm shift : ℕ) → rn < 2 ^ 32 → rm < 2 ^ 32 → shift < 2 ^ 38 → Fits 47 (at_register rn rm shift)
index_length rn rm shift h k l =
    fits_append (fits_append (fits_append (fits_append (fits_append (fits_its_length (codes ", [")) (x_or_sp_length rn h)) (fits_its_length comma)) (x_length rm k)) (lsl_length shift l)) (fits_its_length (codes "]"))

vector_length : (rn zm : ℕ) → rn < 2 ^ 32 → zm < 2 ^ 32 → Fits 30 (at_vector rn zm)
vector_length rn zm h k =
    fits_append (fits_append (fits_append (fits_append (fits_its_length (codes ", [")) (x_or_sp_length rn h)) (fits_its_length comma)) (z_length 3 zm k)) (fits_its_length (codes "]"))

-- a number of a field, times a small one
scaled : (size n : ℕ) → nat_le size 8 ≡ true → n < 2 ^ 32 → size * n < 2 ^ 38
scaled size n h l =
    let product : size * n ≤ 8 * 4294967295 = mul-le size n 8 4294967295 (leb-true size 8 h) (omega (arith, l)) in
    omega (arith, product)

-- the offset of a branch, of 19 bits or of 26
pub near_branch_length : (ns : List ℕ) → AreSmall ns → (k : ℕ) → Fits 14 (signed_constant 4 19 (slice_index ns k))
near_branch_length ns small k = let s = small.at k in signed_length 4 262144 (slice_index ns k) (omega (arith, s)) (omega (arith, s))

pub far_branch_length : (ns : List ℕ) → AreSmall ns → (k : ℕ) → Fits 14 (signed_constant 4 26 (slice_index ns k))
far_branch_length ns small k = let s = small.at k in signed_length 4 33554432 (slice_index ns k) (omega (arith, s)) (omega (arith, s))

-- ---- forms of A64 instructions, with a mnemonic of at most 8 bytes
module _ (mnemonic : List ℕ) (ns : List ℕ) (short : nat_le (length mnemonic) 8 ≡ true) (small : AreSmall ns) where
  name : Fits 8 mnemonic
  name = of_length 8 mnemonic short

  x : (k : ℕ) → Fits 11 (x_register (slice_index ns k))
  x k = x_length (slice_index ns k) (small.at k)

  value : (k : ℕ) → Fits 13 (constant (slice_index ns k))
  value k = constant_length (slice_index ns k) (let s = small.at k in omega (arith, s))

  pub add_sub_length : (R : ℕ → List ℕ) → ((n : ℕ) → n < 2 ^ 32 → Fits 11 (R n)) → Fits 100 (add_sub_immediate mnemonic R ns)
  add_sub_length R r =
      fits_of_le 100 (fits_append (fits_append (fits_append (fits_append (fits_append (fits_append name (r (slice_index ns 0) (small.at 0))) (fits_its_length comma)) (x_or_sp_length (slice_index ns 1) (small.at 1))) (fits_its_length comma)) (value 2))
      (lsl_length (12 * slice_index ns 3) (let s = small.at 3 in omega (arith, s)))) refl

  pub shifted_register_length : Fits 100 (shifted_register mnemonic ns)
  shifted_register_length =
      fits_of_le 100 (fits_append (fits_append (fits_append (fits_append (fits_append (fits_append name (x 0)) (fits_its_length comma)) (x 1)) (fits_its_length comma)) (x 3))
      (shifted_length (slice_index ns 4) (slice_index ns 2) (let s = small.at 2 in omega (arith, s)))) refl

  pub move_wide_length : Fits 100 (move_wide mnemonic ns)
  move_wide_length = fits_of_le 100 (fits_append (fits_append (fits_append (fits_append name (x 0)) (fits_its_length comma)) (value 1)) (lsl_length (16 * slice_index ns 2) (let s = small.at 2 in omega (arith, s)))) refl

  pub multiply_add_length : Fits 100 (multiply_add mnemonic ns)
  multiply_add_length = fits_of_le 100 (fits_append (fits_append (fits_append (fits_append (fits_append (fits_append (fits_append name (x 0)) (fits_its_length comma)) (x 1)) (fits_its_length comma)) (x 3)) (fits_its_length comma)) (x 2)) refl

  pub shift_variable_length : Fits 100 (shift_variable mnemonic ns)
  shift_variable_length = fits_of_le 100 (fits_append (fits_append (fits_append (fits_append (fits_append name (x 0)) (fits_its_length comma)) (x 1)) (fits_its_length comma)) (x 2)) refl

  pub bitfield_length : Fits 100 (bitfield mnemonic ns)
  bitfield_length = fits_of_le 100 (fits_append (fits_append (fits_append (fits_append (fits_append (fits_append (fits_append name (x 0)) (fits_its_length comma)) (x 1)) (fits_its_length comma)) (value 3)) (fits_its_length comma)) (value 2)) refl

  pub conditional_select_length : Fits 100 (conditional_select mnemonic ns)
  conditional_select_length =
      fits_of_le 100 (fits_append (fits_append (fits_append (fits_append (fits_append (fits_append (fits_append name (x 0)) (fits_its_length comma)) (x 1)) (fits_its_length comma)) (x 3)) (fits_its_length comma)) (condition_length (slice_index ns 2))) refl

  pub compare_branch_length : Fits 100 (compare_branch mnemonic ns)
  compare_branch_length = fits_of_le 100 (fits_append (fits_append (fits_append name (x 0)) (fits_its_length comma)) (near_branch_length ns small 1)) refl

  pub exception_length : Fits 100 (exception mnemonic ns)
  exception_length = fits_of_le 100 (fits_append name (value 0)) refl

  pub immediate_length : (R : ℕ → List ℕ) (size : ℕ) → ((n : ℕ) → n < 2 ^ 32 → Fits 11 (R n)) → nat_le size 8 ≡ true → Fits 100 (load_store_immediate mnemonic R size ns)
  immediate_length R size r h =
      fits_of_le 100 (fits_append (fits_append name (r (slice_index ns 0) (small.at 0)))
      (offset_length (slice_index ns 1) (size * slice_index ns 2) (small.at 1) (scaled size (slice_index ns 2) h (small.at 2)))) refl

  pub byte_register_length : (R : ℕ → List ℕ) → ((n : ℕ) → n < 2 ^ 32 → Fits 11 (R n)) → Fits 100 (load_store_byte_register mnemonic R ns)
  byte_register_length R r =
      fits_of_le 100 (fits_append (fits_append name (r (slice_index ns 0) (small.at 0))) (index_length (slice_index ns 1) (slice_index ns 2) 0 (small.at 1) (small.at 2) (omega arith))) refl

  pub at_register_length : (R : ℕ → List ℕ) (log : ℕ) → ((n : ℕ) → n < 2 ^ 32 → Fits 11 (R n)) → nat_le log 8 ≡ true → Fits 100 (load_store_register mnemonic R log ns)
  at_register_length R log r h =
      fits_of_le 100 (fits_append (fits_append name (r (slice_index ns 0) (small.at 0)))
      (index_length (slice_index ns 1) (slice_index ns 3) (log * slice_index ns 2) (small.at 1) (small.at 3) (scaled log (slice_index ns 2) h (small.at 2)))) refl

-- ---- what SVE instructions are made of
width_small : (value : ℕ) → element_width (shift_size value) ≤ 64
width_small value = cond_both (nat_lt value 16) 0 (cond (nat_lt value 32) 1 (cond (nat_lt value 64) 2 3)) (λ size. element_width size ≤ 64)
    (λ e. omega arith)
    (λ e. cond_both (nat_lt value 32) 1 (cond (nat_lt value 64) 2 3) (λ size. element_width size ≤ 64) (λ e. omega arith)
    (λ e. cond_both (nat_lt value 64) 2 3 (λ size. element_width size ≤ 64) (λ e. omega arith) (λ e. omega arith)))

pub left_small : (value : ℕ) → value < 2 ^ 38 → left_amount value < 2 ^ 38
left_small value h = omega (arith, h)

pub right_small : (value : ℕ) → value < 2 ^ 38 → right_amount value < 2 ^ 38
right_small value h = let w = width_small value in omega (arith, w)

access_name_length : (dtype : ℕ) → Fits 2 (access_name dtype)
access_name_length dtype =
    fits_append (cond_both (is_signed dtype) (codes "s") [] (λ t. Fits 1 t) (λ e. fits_its_length (codes "s")) (λ e. of_length 1 [] refl)) (access_length (memory_size dtype))

loaded_length : (size zt pg : ℕ) → zt < 2 ^ 32 → pg < 2 ^ 32 → Fits 31 (loaded size zt pg)
loaded_length size zt pg h k = fits_of_le 31 (fits_append (fits_append (fits_append (fits_append (fits_its_length (codes " {")) (z_length size zt h)) (fits_its_length (codes "}, "))) (p_length pg k)) (fits_its_length (codes "/z"))) refl

-- the logarithm of the bytes that a load reads of each number, by its dtype
memory_listed : below 16 (λ dtype. nat_le (memory_size dtype) 3) ≡ true
unfolding below
memory_listed = refl

-- past the last dtype
memory_past : (n dtype : ℕ) → suc (suc (suc (suc (suc (suc (suc (suc (suc (suc (suc (suc (suc (suc (suc (suc n))))))))))))))) ≡ dtype → memory_size dtype ≡ 0
memory_past n dtype e = subst (λ k. memory_size k ≡ 0) e refl

memory_small : (dtype : ℕ) → memory_size dtype < 2 ^ 38
memory_small dtype =
    by_test (nat_lt dtype 16)
    (λ e. let three = leb-true (memory_size dtype) 3 (below-at 16 (λ n. nat_le (memory_size n) 3) memory_listed dtype (ltb-true dtype 16 e)) in omega (arith, three))
    (λ e. let past = memory_past (dtype - 16) dtype (omega (arith, ltb-false dtype 16 e)) in omega (arith, past))

-- ---- forms of SVE instructions, with a mnemonic of at most 8 bytes
module _ (mnemonic : List ℕ) (ns : List ℕ) (short : nat_le (length mnemonic) 8 ≡ true) (small : AreSmall ns) where
  sve_name : Fits 8 mnemonic
  sve_name = of_length 8 mnemonic short

  q : (k : ℕ) → Fits 11 (p_register (slice_index ns k))
  q k = p_length (slice_index ns k) (small.at k)

  z : (size k : ℕ) → Fits 13 (z_register size (slice_index ns k))
  z size k = z_length size (slice_index ns k) (small.at k)

  pub predicate_logical_length : Fits 100 (predicate_logical mnemonic ns)
  predicate_logical_length =
      fits_of_le 100 (fits_append (fits_append (fits_append (fits_append (fits_append (fits_append (fits_append (fits_append sve_name (q 0)) (fits_its_length (codes ".b, "))) (q 2)) (fits_its_length (codes "/z, "))) (q 1)) (fits_its_length (codes ".b, "))) (q 3)) (fits_its_length (codes ".b"))) refl

  pub break_at_length : Fits 100 (break_at mnemonic ns)
  break_at_length = fits_of_le 100 (fits_append (fits_append (fits_append (fits_append (fits_append (fits_append sve_name (q 0)) (fits_its_length (codes ".b, "))) (q 2)) (fits_its_length (codes "/z, "))) (q 1)) (fits_its_length (codes ".b"))) refl

  pub element_count_length : Fits 100 (element_count mnemonic ns)
  element_count_length = fits_of_le 100 (fits_append sve_name (x_length (slice_index ns 0) (small.at 0))) refl

  pub vectors_length : Fits 100 (vectors mnemonic ns)
  vectors_length = let size = slice_index ns 3 in fits_of_le 100 (fits_append (fits_append (fits_append (fits_append (fits_append sve_name (z size 0)) (fits_its_length comma)) (z size 1)) (fits_its_length comma)) (z size 2)) refl

  pub bitwise_length : Fits 100 (bitwise mnemonic ns)
  bitwise_length = fits_of_le 100 (fits_append (fits_append (fits_append (fits_append (fits_append sve_name (z 3 0)) (fits_its_length comma)) (z 3 1)) (fits_its_length comma)) (z 3 2)) refl

  shift_value_small : shift_value ns < 2 ^ 38
  shift_value_small = let a = small.at 2 in let b = small.at 3 in let c = small.at 4 in omega (arith, a, b, c)

  pub shift_immediate_length : (amount : ℕ → ℕ) → ((value : ℕ) → value < 2 ^ 38 → amount value < 2 ^ 38) → Fits 100 (shift_immediate mnemonic amount ns)
  shift_immediate_length amount f =
      let size = shift_size (shift_value ns) in
      fits_of_le 100 (fits_append (fits_append (fits_append (fits_append (fits_append sve_name (z size 0)) (fits_its_length comma)) (z size 1)) (fits_its_length comma)) (constant_length (amount (shift_value ns)) (f (shift_value ns) shift_value_small))) refl

  pub binary_length : Fits 100 (binary_predicated mnemonic ns)
  binary_length =
      let size = slice_index ns 3 in
      fits_of_le 100 (fits_append (fits_append (fits_append (fits_append (fits_append (fits_append (fits_append sve_name (z size 0)) (fits_its_length comma)) (q 2)) (fits_its_length (codes "/m, "))) (z size 0)) (fits_its_length comma)) (z size 1)) refl

  pub unary_length : Fits 100 (unary_predicated mnemonic ns)
  unary_length = let size = slice_index ns 3 in fits_of_le 100 (fits_append (fits_append (fits_append (fits_append (fits_append sve_name (z size 0)) (fits_its_length comma)) (q 2)) (fits_its_length (codes "/m, "))) (z size 1)) refl

  pub extend_length : Fits 100 (extend_word mnemonic ns)
  extend_length = fits_of_le 100 (fits_append (fits_append (fits_append (fits_append (fits_append sve_name (z 3 0)) (fits_its_length comma)) (q 2)) (fits_its_length (codes "/m, "))) (z 3 1)) refl

  pub reduction_length : (letter : List ℕ) → Fits 1 letter → Fits 100 (reduction mnemonic letter ns)
  reduction_length letter one =
      fits_of_le 100 (fits_append (fits_append (fits_append (fits_append (fits_append (fits_append sve_name one) (number_length (slice_index ns 0) (small.at 0))) (fits_its_length comma)) (q 2)) (fits_its_length comma)) (z (slice_index ns 3) 1)) refl

  pub compare_length : Fits 100 (compare_vectors mnemonic ns)
  compare_length =
      let size = slice_index ns 4 in
      fits_of_le 100 (fits_append (fits_append (fits_append (fits_append (fits_append (fits_append (fits_append (fits_append sve_name (q 0)) (dotted_length size)) (fits_its_length comma)) (q 2)) (fits_its_length (codes "/z, "))) (z size 1)) (fits_its_length comma)) (z size 3)) refl

  pub load_length : Fits 100 (load mnemonic ns)
  load_length =
      let dtype = slice_index ns 4 in
      fits_of_le 100 (fits_append (fits_append (fits_append sve_name (access_name_length dtype)) (loaded_length (element_size dtype) (slice_index ns 0) (slice_index ns 2) (small.at 0) (small.at 2)))
      (index_length (slice_index ns 1) (slice_index ns 3) (memory_size dtype) (small.at 1) (small.at 3) (memory_small dtype))) refl

  pub load_first_length : Fits 100 (mnemonic ++ access_name (slice_index ns 3) ++ loaded (element_size (slice_index ns 3)) (slice_index ns 0) (slice_index ns 2) ++ at_offset (slice_index ns 1) 0)
  load_first_length =
      let dtype = slice_index ns 3 in
      fits_of_le 100 (fits_append (fits_append (fits_append sve_name (access_name_length dtype)) (loaded_length (element_size dtype) (slice_index ns 0) (slice_index ns 2) (small.at 0) (small.at 2)))
      (offset_length (slice_index ns 1) 0 (small.at 1) (omega arith))) refl

  pub gather_length : Fits 100 (gather mnemonic ns)
  gather_length =
      fits_of_le 100 (fits_append (fits_append sve_name (loaded_length 3 (slice_index ns 0) (slice_index ns 2) (small.at 0) (small.at 2)))
      (vector_length (slice_index ns 1) (slice_index ns 3) (small.at 1) (small.at 3))) refl
