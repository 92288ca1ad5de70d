-- What the calls for the parts of an expression ask for: a part below the whole, of its kind, whose items are numbered.
use Rattle.std.proofs.Common.{◌≡◌, ℕ, ◌+◌, ◌*◌, ◌<◌, ◌^◌, Bool, List, Option, ap, subst, arith}
use Rattle.std.specs.Prelude.{ℤ, max}
use Rattle.kernel_tree.specs.declared.ops.Ty.{Ty}
use Rattle.kernel_tree.specs.declared.ops.UnaryOp.{UnaryOp}
use Rattle.kernel_tree.specs.declared.ops.BinaryOp.{BinaryOp}
use Rattle.kernel_tree.specs.declared.ops.CompareOp.{CompareOp}
use Rattle.kernel_tree.specs.Plain.{Term, Element, Unary, Operation, Shift, Conversion, Choice, Comparison, Both, Either, Not}
use Rattle.kernel_tree.specs.Items.{term_size}
use Rattle.kernel_tree.specs.Limits.{term_depth}
use Rattle.kernel_tree.specs.Kinds.{IsValue, IsTruth}

-- ---- by the depth and the items of the whole

four_one_operand_below : (t D d : ℕ) → 4 * D + 1 ≡ t → D ≡ d + 1 → 4 * d + 1 < t
four_one_operand_below t D d h e = omega arith

one_room : (b size k : ℕ) → size ≡ k + 1 → b + size < 2 ^ 32 → b + k < 2 ^ 32
one_room b size k e h = omega arith

item_after_one_operand : (b size k item : ℕ) → size ≡ k + 1 → item ≡ b + k → b + size < 2 ^ 32 → item < 2 ^ 32
item_after_one_operand b size k item e f h = omega arith

two_below : (t D m : ℕ) → 4 * D + 1 ≡ t → D ≡ m + 1 → 4 * m + 4 < t
two_below t D m h e = omega arith

read_below : (t D d : ℕ) → 4 * D + 1 ≡ t → D ≡ d + 1 → 4 * d + 3 < t
read_below t D d h e = omega arith

four_first_operand_below : (t D d e : ℕ) → 4 * D + 1 ≡ t → D ≡ max d e + 1 → 4 * d + 1 < t
four_first_operand_below t D d e h f = omega arith

four_second_operand_below : (t D d e : ℕ) → 4 * D + 1 ≡ t → D ≡ max d e + 1 → 4 * e + 1 < t
four_second_operand_below t D d e h f = omega arith

first_room : (b size x y : ℕ) → size ≡ x + y + 1 → b + size < 2 ^ 32 → b + x < 2 ^ 32
first_room b size x y e h = omega arith

second_room : (b size x y item : ℕ) → size ≡ x + y + 1 → b + size < 2 ^ 32 → item ≡ b + x → item + y < 2 ^ 32
second_room b size x y item e h f = omega arith

yes_below : (t D c d e : ℕ) → 4 * D + 1 ≡ t → D ≡ max c (max d e) + 1 → 4 * d + 1 < t
yes_below t D c d e h f = omega arith

no_below : (t D c d e : ℕ) → 4 * D + 1 ≡ t → D ≡ max c (max d e) + 1 → 4 * e + 1 < t
no_below t D c d e h f = omega arith

choice_below : (t D c d e : ℕ) → 4 * D + 1 ≡ t → D ≡ max c (max d e) + 1 → 4 * c + 2 < t
choice_below t D c d e h f = omega arith

yes_room : (b size x y k : ℕ) → size ≡ x + y + k + 1 → b + size < 2 ^ 32 → b + x < 2 ^ 32
yes_room b size x y k e h = omega arith

no_room : (b size x y k item : ℕ) → size ≡ x + y + k + 1 → b + size < 2 ^ 32 → item ≡ b + x → item + y < 2 ^ 32
no_room b size x y k item e h f = omega arith

choice_room : (b size x y k item item2 : ℕ) → size ≡ x + y + k + 1 → b + size < 2 ^ 32 → item ≡ b + x → item2 ≡ item + y → item2 + (k + 1) < 2 ^ 32
choice_room b size x y k item item2 e h f g = omega arith

truths_below : (t D m : ℕ) → 4 * D ≡ t → D ≡ m + 1 → 4 * m + 2 < t
truths_below t D m h e = omega arith

not_below : (t D d : ℕ) → 4 * D ≡ t → D ≡ d + 1 → 4 * d < t
not_below t D d h e = omega arith

chosen_below : (t D m : ℕ) → 4 * D + 2 ≡ t → D ≡ m + 1 → 4 * m + 2 < t
chosen_below t D m h e = omega arith

both_room : (b size x y : ℕ) → size ≡ x + y + 1 → b + size < 2 ^ 32 → b + x + y < 2 ^ 32
both_room b size x y e h = omega arith

more_room : (b size x y : ℕ) → size ≡ x + y + 1 → b + (size + 1) < 2 ^ 32 → b + x + y < 2 ^ 32
more_room b size x y e h = omega arith

-- ---- the calls for a value

pub unary_call : (i : Option (List ℕ)) (t b : ℕ) (op : UnaryOp) (whole e : Term) → whole ≡ Unary op e → 4 * term_depth whole + 1 ≡ t → IsValue whole → b + term_size i whole < 2 ^ 32 → 4 * term_depth e + 1 < t × (IsValue e × b + term_size i e < 2 ^ 32)
unary_call i t b op whole e is h kind fits = (four_one_operand_below t (term_depth whole) (term_depth e) h (ap term_depth is), (subst IsValue is kind, one_room b (term_size i whole) (term_size i e) (ap (term_size i) is) fits))

pub unary_room : (i : Option (List ℕ)) (b item : ℕ) (op : UnaryOp) (whole e : Term) → whole ≡ Unary op e → item ≡ b + term_size i e → b + term_size i whole < 2 ^ 32 → item < 2 ^ 32
unary_room i b item op whole e is f fits = item_after_one_operand b (term_size i whole) (term_size i e) item (ap (term_size i) is) f fits

pub shift_call : (i : Option (List ℕ)) (t b : ℕ) (left : Bool) (count : ℤ) (whole e : Term) → whole ≡ Shift left e count → 4 * term_depth whole + 1 ≡ t → IsValue whole → b + term_size i whole < 2 ^ 32 → 4 * term_depth e + 1 < t × (IsValue e × b + term_size i e < 2 ^ 32)
shift_call i t b left count whole e is h kind fits = (four_one_operand_below t (term_depth whole) (term_depth e) h (ap term_depth is), (subst IsValue is kind, one_room b (term_size i whole) (term_size i e) (ap (term_size i) is) fits))

pub shift_room : (i : Option (List ℕ)) (b item : ℕ) (left : Bool) (count : ℤ) (whole e : Term) → whole ≡ Shift left e count → item ≡ b + term_size i e → b + term_size i whole < 2 ^ 32 → item < 2 ^ 32
shift_room i b item left count whole e is f fits = item_after_one_operand b (term_size i whole) (term_size i e) item (ap (term_size i) is) f fits

pub cast_call : (i : Option (List ℕ)) (t b : ℕ) (ty : Ty) (whole e : Term) → whole ≡ Conversion e ty → 4 * term_depth whole + 1 ≡ t → IsValue whole → b + term_size i whole < 2 ^ 32 → 4 * term_depth e + 1 < t × (IsValue e × b + term_size i e < 2 ^ 32)
cast_call i t b ty whole e is h kind fits = (four_one_operand_below t (term_depth whole) (term_depth e) h (ap term_depth is), (subst IsValue is kind, one_room b (term_size i whole) (term_size i e) (ap (term_size i) is) fits))

pub cast_room : (i : Option (List ℕ)) (b item : ℕ) (ty : Ty) (whole e : Term) → whole ≡ Conversion e ty → item ≡ b + term_size i e → b + term_size i whole < 2 ^ 32 → item < 2 ^ 32
cast_room i b item ty whole e is f fits = item_after_one_operand b (term_size i whole) (term_size i e) item (ap (term_size i) is) f fits

pub two_call : (i : Option (List ℕ)) (t b : ℕ) (op : BinaryOp) (whole x y : Term) → whole ≡ Operation op x y → 4 * term_depth whole + 1 ≡ t → IsValue whole → b + term_size i whole < 2 ^ 32 → 4 * max (term_depth x) (term_depth y) + 4 < t × (IsValue x × (IsValue y × b + term_size i (Operation op x y) < 2 ^ 32))
two_call i t b op whole x y is h kind fits =
    let both = subst IsValue is kind in
    (two_below t (term_depth whole) (max (term_depth x) (term_depth y)) h (ap term_depth is), (both.0, (both.1, subst (λ e. b + term_size i e < 2 ^ 32) is fits)))

pub read_call : (i : Option (List ℕ)) (t b : ℕ) (a : List ℕ) (whole e : Term) → whole ≡ Element a e → 4 * term_depth whole + 1 ≡ t → IsValue whole → b + term_size i whole < 2 ^ 32 → 4 * term_depth e + 3 < t × (IsValue e × b + term_size i (Element a e) < 2 ^ 32)
read_call i t b a whole e is h kind fits = (read_below t (term_depth whole) (term_depth e) h (ap term_depth is), (subst IsValue is kind, subst (λ e. b + term_size i e < 2 ^ 32) is fits))

pub yes_call : (i : Option (List ℕ)) (t b : ℕ) (whole k x y : Term) → whole ≡ Choice k x y → 4 * term_depth whole + 1 ≡ t → IsValue whole → b + term_size i whole < 2 ^ 32 → 4 * term_depth x + 1 < t × (IsValue x × b + term_size i x < 2 ^ 32)
yes_call i t b whole k x y is h kind fits = (yes_below t (term_depth whole) (term_depth k) (term_depth x) (term_depth y) h (ap term_depth is), ((subst IsValue is kind).0, yes_room b (term_size i whole) (term_size i x) (term_size i y) (term_size i k) (ap (term_size i) is) fits))

pub no_call : (i : Option (List ℕ)) (t b item : ℕ) (whole k x y : Term) → whole ≡ Choice k x y → 4 * term_depth whole + 1 ≡ t → IsValue whole → b + term_size i whole < 2 ^ 32 → item ≡ b + term_size i x → 4 * term_depth y + 1 < t × (IsValue y × item + term_size i y < 2 ^ 32)
no_call i t b item whole k x y is h kind fits f = (no_below t (term_depth whole) (term_depth k) (term_depth x) (term_depth y) h (ap term_depth is), ((subst IsValue is kind).1, no_room b (term_size i whole) (term_size i x) (term_size i y) (term_size i k) item (ap (term_size i) is) fits f))

pub one_of_call : (i : Option (List ℕ)) (t b item item2 : ℕ) (whole k x y : Term) → whole ≡ Choice k x y → 4 * term_depth whole + 1 ≡ t → IsValue whole → b + term_size i whole < 2 ^ 32 → item ≡ b + term_size i x → item2 ≡ item + term_size i y → 4 * term_depth k + 2 < t × (IsTruth k × item2 + (term_size i k + 1) < 2 ^ 32)
one_of_call i t b item item2 whole k x y is h kind fits f g = (choice_below t (term_depth whole) (term_depth k) (term_depth x) (term_depth y) h (ap term_depth is), ((subst IsValue is kind).2, choice_room b (term_size i whole) (term_size i x) (term_size i y) (term_size i k) item item2 (ap (term_size i) is) fits f g))

-- for the operands of a value that stands in the word of its user
pub left_call : (i : Option (List ℕ)) (t b : ℕ) (op : BinaryOp) (whole x y : Term) → whole ≡ Operation op x y → 4 * term_depth whole + 1 ≡ t → IsValue whole → b + term_size i whole < 2 ^ 32 → 4 * term_depth x + 1 < t × (IsValue x × b + term_size i x < 2 ^ 32)
left_call i t b op whole x y is h kind fits = (four_first_operand_below t (term_depth whole) (term_depth x) (term_depth y) h (ap term_depth is), ((subst IsValue is kind).0, first_room b (term_size i whole) (term_size i x) (term_size i y) (ap (term_size i) is) fits))

pub right_call : (i : Option (List ℕ)) (t b item : ℕ) (op : BinaryOp) (whole x y : Term) → whole ≡ Operation op x y → 4 * term_depth whole + 1 ≡ t → IsValue whole → b + term_size i whole < 2 ^ 32 → item ≡ b + term_size i x → 4 * term_depth y + 1 < t × (IsValue y × item + term_size i y < 2 ^ 32)
right_call i t b item op whole x y is h kind fits f = (four_second_operand_below t (term_depth whole) (term_depth x) (term_depth y) h (ap term_depth is), ((subst IsValue is kind).1, second_room b (term_size i whole) (term_size i x) (term_size i y) item (ap (term_size i) is) fits f))

-- ---- the calls for a condition

pub compare_call : (i : Option (List ℕ)) (t b : ℕ) (op : CompareOp) (whole x y : Term) {Held : Type 0} → whole ≡ Comparison op x y → 4 * term_depth whole ≡ t → IsTruth whole → Held → b + term_size i whole < 2 ^ 32 → 4 * max (term_depth x) (term_depth y) + 2 < t × (IsValue x × (IsValue y × (Held × b + term_size i x + term_size i y < 2 ^ 32)))
compare_call i t b op whole x y is h kind held fits =
    let both = subst IsTruth is kind in
    (truths_below t (term_depth whole) (max (term_depth x) (term_depth y)) h (ap term_depth is), (both.0, (both.1, (held, both_room b (term_size i whole) (term_size i x) (term_size i y) (ap (term_size i) is) fits))))

pub chosen_call : (i : Option (List ℕ)) (t b : ℕ) (op : CompareOp) (whole x y : Term) {Held : Type 0} → whole ≡ Comparison op x y → 4 * term_depth whole + 2 ≡ t → IsTruth whole → Held → b + (term_size i whole + 1) < 2 ^ 32 → 4 * max (term_depth x) (term_depth y) + 2 < t × (IsValue x × (IsValue y × (Held × b + term_size i x + term_size i y < 2 ^ 32)))
chosen_call i t b op whole x y is h kind held fits =
    let both = subst IsTruth is kind in
    (chosen_below t (term_depth whole) (max (term_depth x) (term_depth y)) h (ap term_depth is), (both.0, (both.1, (held, more_room b (term_size i whole) (term_size i x) (term_size i y) (ap (term_size i) is) fits))))

pub both_call : (i : Option (List ℕ)) (t b : ℕ) (whole x y : Term) {Given : Type 0} → whole ≡ Both x y → 4 * term_depth whole ≡ t → Given → IsTruth whole → b + term_size i whole < 2 ^ 32 → 4 * max (term_depth x) (term_depth y) + 2 < t × (Given × (IsTruth x × (IsTruth y × b + term_size i (Both x y) < 2 ^ 32)))
both_call i t b whole x y is h given kind fits =
    let both = subst IsTruth is kind in
    (truths_below t (term_depth whole) (max (term_depth x) (term_depth y)) h (ap term_depth is), (given, (both.0, (both.1, subst (λ e. b + term_size i e < 2 ^ 32) is fits))))

pub either_call : (i : Option (List ℕ)) (t b : ℕ) (whole x y : Term) {Given : Type 0} → whole ≡ Either x y → 4 * term_depth whole ≡ t → Given → IsTruth whole → b + term_size i whole < 2 ^ 32 → 4 * max (term_depth x) (term_depth y) + 2 < t × (Given × (IsTruth x × (IsTruth y × b + term_size i (Either x y) < 2 ^ 32)))
either_call i t b whole x y is h given kind fits =
    let both = subst IsTruth is kind in
    (truths_below t (term_depth whole) (max (term_depth x) (term_depth y)) h (ap term_depth is), (given, (both.0, (both.1, subst (λ e. b + term_size i e < 2 ^ 32) is fits))))

pub not_call : (i : Option (List ℕ)) (t b : ℕ) (whole e : Term) {Given : Type 0} → whole ≡ Not e → 4 * term_depth whole ≡ t → Given → IsTruth whole → b + term_size i whole < 2 ^ 32 → 4 * term_depth e < t × (Given × (IsTruth e × b + term_size i e < 2 ^ 32))
not_call i t b whole e is h given kind fits = (not_below t (term_depth whole) (term_depth e) h (ap term_depth is), (given, (subst IsTruth is kind, one_room b (term_size i whole) (term_size i e) (ap (term_size i) is) fits)))

-- ---- the calls of an operator and of a comparison

pub sides_below : (t m : ℕ) → 4 * m + 4 ≡ t → 4 * m + 3 < t
sides_below t m h = omega arith

pub left_side_below : (t d e : ℕ) → 4 * max d e + 3 ≡ t → 4 * d + 1 < t
left_side_below t d e h = omega arith

pub right_side_below : (t d e : ℕ) → 4 * max d e + 3 ≡ t → 4 * e + 1 < t
right_side_below t d e h = omega arith

pub left_compared_room : (b x y : ℕ) → b + x + y < 2 ^ 32 → b + x < 2 ^ 32
left_compared_room b x y h = omega arith

pub two_labels : (n x y given given2 : ℕ) → given ≡ n + x → given2 ≡ given + y → given2 ≡ n + (x + y)
two_labels n x y given given2 e f = omega arith
