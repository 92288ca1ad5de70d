-- Apart and the bound on steps of worked kernels.
use Rattle.std.proofs.Common.{◌≡◌, ℕ, ◌+◌, ◌-◌, ◌*◌, pos, ◌^◌, List, [], ◌∷◌, Some, None, true, false, refl}
use Rattle.kernel_tree.specs.declared.ops.Ty.TheVariants as ty
use Rattle.kernel_tree.specs.declared.ops.BinaryOp.TheVariants as binary
use Rattle.kernel_tree.specs.declared.ast.Shape.TheVariants as shape
use Rattle.kernel_tree.specs.Plain.{Literal, Variable, Element, Operation, Put, Done, Then, Program}
use Rattle.loop_form.specs.Entries.{item_type}
use Rattle.loop_form.specs.Lanes.{widest}
use Rattle.loop_form.proofs.Kernels.{look, near}
use Rattle.dependence.specs.Classes.{before_break, computed_index, carried}
use Rattle.dependence.specs.Apart.{least_of, greatest_of, most_reach, used_from}
use Rattle.dependence.specs.Bound.{is_apart, bound, slow_bound, free_bound}

abbrev a : List ℕ
a = 97 ∷ []

abbrev i : List ℕ
i = 105 ∷ []

abbrev n : List ℕ
n = 110 ∷ []

abbrev v : List ℕ
v = 118 ∷ []

abbrev x : List ℕ
x = 120 ∷ []

abbrev y : List ℕ
y = 121 ∷ []

-- kernel fill(a: [u8], v: u8, n: u64) { for i in 0..n { a[i] = v; } }
abbrev fill : Program
fill = record {
  name = a;
  params = record { name = a; shape = shape.Array ty.U8 } ∷ record { name = v; shape = shape.Scalar ty.U8 } ∷ record { name = n; shape = shape.Scalar ty.U64 } ∷ [];
  vars = [];
  for_loop = Some (record { index = i; bound = n; body = (Then (Put a (Variable i) (Variable v)) Done) });
  answer = None;
}

-- kernel inc(y: [u8], x: [u8], n: u64) { for i in 0..n { y[i] = x[i] + 1; } }
abbrev inc : Program
inc = record {
  name = a;
  params = record { name = y; shape = shape.Array ty.U8 } ∷ record { name = x; shape = shape.Array ty.U8 } ∷ record { name = n; shape = shape.Scalar ty.U64 } ∷ [];
  vars = [];
  for_loop = Some (record { index = i; bound = n; body = (Then (Put y (Variable i) (Operation binary.Add (Element x (Variable i)) (Literal (pos 1)))) Done) });
  answer = None;
}

-- 3,907 chunks of 256 bytes: 1,600 + 80 * 3,909
fill-bound : bound fill (0x100000 ∷ 7 ∷ 1000000 ∷ []) 2048 1000000 ≡ 314320
unfolding item_type widest before_break computed_index carried least_of greatest_of most_reach used_from
fill-bound = refl

-- at 128 bits, 62,500 chunks of 16 bytes
fill-bound_short : bound fill (0x100000 ∷ 7 ∷ 1000000 ∷ []) 128 1000000 ≡ 5001760
unfolding item_type widest before_break computed_index carried least_of greatest_of most_reach used_from
fill-bound_short = refl

-- one byte an iteration
fill-slow : slow_bound fill 1000000 ≡ 80001760
fill-slow = refl

fill-free : free_bound fill (0x100000 ∷ 7 ∷ 1000000 ∷ []) 2048 1000000 3 ≡ 315280
unfolding item_type widest before_break computed_index carried least_of greatest_of most_reach used_from
fill-free = refl

-- arrays that overlap by four bytes, that only touch, and that lie apart
inc-near : is_apart inc (0x10001 ∷ 0x10000 ∷ 5 ∷ []) ≡ false
unfolding item_type widest before_break computed_index carried least_of greatest_of most_reach used_from
inc-near = refl

inc-touching : is_apart inc (0x10005 ∷ 0x10000 ∷ 5 ∷ []) ≡ true
unfolding item_type widest before_break computed_index carried least_of greatest_of most_reach used_from
inc-touching = refl

inc-apart : is_apart inc (0x11000 ∷ 0x10000 ∷ 5 ∷ []) ≡ true
unfolding item_type widest before_break computed_index carried least_of greatest_of most_reach used_from
inc-apart = refl

-- no iteration: the intervals are empty
inc-none : is_apart inc (0x10000 ∷ 0x10000 ∷ 0 ∷ []) ≡ true
unfolding item_type widest before_break computed_index carried least_of greatest_of most_reach used_from
inc-none = refl

-- a bound of 2^40, and a base below 2^16
inc-long : is_apart inc (0x1000000000000 ∷ 0x10000 ∷ 2 ^ 40 ∷ []) ≡ false
unfolding item_type widest before_break computed_index carried least_of greatest_of most_reach used_from
inc-long = refl

inc-low : is_apart inc (0xFFFF ∷ 0x20000 ∷ 5 ∷ []) ≡ false
unfolding item_type widest before_break computed_index carried least_of greatest_of most_reach used_from
inc-low = refl

-- a table of 256 bytes beside the elements that are stored, over them, and ending where they begin
look-apart : is_apart look (0x10000 ∷ 0x20000 ∷ 0x30000 ∷ 2 ∷ []) ≡ true
unfolding item_type widest before_break computed_index carried least_of greatest_of most_reach used_from
look-apart = refl

look-over : is_apart look (0x30000 ∷ 0x20000 ∷ 0x30000 ∷ 2 ∷ []) ≡ false
unfolding item_type widest before_break computed_index carried least_of greatest_of most_reach used_from
look-over = refl

look-touching : is_apart look (0x2FF00 ∷ 0x20000 ∷ 0x30000 ∷ 2 ∷ []) ≡ true
unfolding item_type widest before_break computed_index carried least_of greatest_of most_reach used_from
look-touching = refl

look-last_byte : is_apart look (0x2FF01 ∷ 0x20000 ∷ 0x30000 ∷ 2 ∷ []) ≡ false
unfolding item_type widest before_break computed_index carried least_of greatest_of most_reach used_from
look-last_byte = refl

-- at no iteration nothing is stored
look-none : is_apart look (0x30000 ∷ 0x20000 ∷ 0x30008 ∷ 0 ∷ []) ≡ true
unfolding item_type widest before_break computed_index carried least_of greatest_of most_reach used_from
look-none = refl

-- a parameter with both: its elements are those from the lesser beginning up to the greater end
near-by_bound : is_apart near (0x10000 ∷ 0x20000 ∷ (0x10000 + 8 * 1001) ∷ 1000 ∷ []) ≡ true
unfolding item_type widest before_break computed_index carried least_of greatest_of most_reach used_from
near-by_bound = refl

near-in_bound : is_apart near (0x10000 ∷ 0x20000 ∷ (0x10000 + 8 * 1001 - 1) ∷ 1000 ∷ []) ≡ false
unfolding item_type widest before_break computed_index carried least_of greatest_of most_reach used_from
near-in_bound = refl

near-by_reach : is_apart near (0x10000 ∷ 0x20000 ∷ (0x10000 + 8 * 256) ∷ 10 ∷ []) ≡ true
unfolding item_type widest before_break computed_index carried least_of greatest_of most_reach used_from
near-by_reach = refl

near-in_reach : is_apart near (0x10000 ∷ 0x20000 ∷ (0x10000 + 8 * 256 - 1) ∷ 10 ∷ []) ≡ false
unfolding item_type widest before_break computed_index carried least_of greatest_of most_reach used_from
near-in_reach = refl

near-first : is_apart near (0x10400 ∷ 0x20000 ∷ (0x10400 - 80) ∷ 10 ∷ []) ≡ true
unfolding item_type widest before_break computed_index carried least_of greatest_of most_reach used_from
near-first = refl
