-- Where the value of an expression is kept.
use Rattle.std.specs.Prelude.{ℕ, ◌+◌, ℤ, List, Option, unwrap_or}
use Rattle.kernel_tree.specs.Plain.{Term, Literal, Variable, Element, Unary, Operation, Shift, Conversion, Choice, Comparison, Both, Either, Not}
use Rattle.kernel_tree.specs.Items.{term_size, index_items}
use Rattle.label_fix.specs.Registers.{xzr}
use Rattle.scalar_words.specs.Layout.{OfNumber, Layout, reg_of, constant_at, Homes, register_at}

-- the last item of an expression whose items begin at b
abbrev pub last_item : Option (List ℕ) → ℕ → Term → ℕ
last_item i b (Literal n) = b
last_item i b (Variable x) = b
last_item i b (Element a e) = b + index_items i e
last_item i b (Unary op e) = b + term_size i e
last_item i b (Operation op x y) = b + term_size i x + term_size i y
last_item i b (Shift left e n) = b + term_size i e
last_item i b (Conversion e t) = b + term_size i e
last_item i b (Choice c x y) = b + term_size i x + term_size i y + term_size i c
last_item i b (Comparison op x y) = b + term_size i x + term_size i y
last_item i b (Both x y) = b + term_size i x + term_size i y
last_item i b (Either x y) = b + term_size i x + 1 + term_size i y
last_item i b (Not e) = b + term_size i e

-- a literal stands in the register that holds its number, or else in that of its item
abbrev pub literal_home : Layout → (b : ℕ) → ℤ → ℕ
literal_home L b z = unwrap_or (constant_at L (OfNumber z)) (reg_of L b)

-- the register of a value
abbrev pub home : Layout → Homes → Option (List ℕ) → ℕ → Term → ℕ
home L homes i b (Variable x) = register_at homes x
home L homes i b (Literal n) = literal_home L b n
home L homes i b (Element a e) = reg_of L (last_item i b (Element a e))
home L homes i b (Unary op e) = reg_of L (last_item i b (Unary op e))
home L homes i b (Operation op x y) = reg_of L (last_item i b (Operation op x y))
home L homes i b (Shift left e n) = reg_of L (last_item i b (Shift left e n))
home L homes i b (Conversion e t) = reg_of L (last_item i b (Conversion e t))
home L homes i b (Choice c x y) = reg_of L (last_item i b (Choice c x y))
home L homes i b (Comparison op x y) = xzr
home L homes i b (Both x y) = xzr
home L homes i b (Either x y) = xzr
home L homes i b (Not e) = xzr
