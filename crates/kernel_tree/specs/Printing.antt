-- The canonical tokens and the canonical text of a kernel. Each part is printed in front of other tokens.
use Rattle.std.specs.Prelude.{ℕ, suc, ℤ, pos, negsuc, List, [], ◌∷◌, ◌++◌, Option, Some, None, Bool, true, false, codes, decimal}
use Rattle.kernel_tree.specs.declared.ops.Ty.{Ty}
use Rattle.kernel_tree.specs.declared.ops.Ty.TheVariants as ty
use Rattle.kernel_tree.specs.declared.ops.UnaryOp.{UnaryOp}
use Rattle.kernel_tree.specs.declared.ops.UnaryOp.TheVariants as unary
use Rattle.kernel_tree.specs.declared.ops.BinaryOp.{BinaryOp}
use Rattle.kernel_tree.specs.declared.ops.BinaryOp.TheVariants as binary
use Rattle.kernel_tree.specs.declared.ops.CompareOp.{CompareOp}
use Rattle.kernel_tree.specs.declared.ops.CompareOp.TheVariants as compare
use Rattle.kernel_tree.specs.declared.ops.UpdateOp.{UpdateOp}
use Rattle.kernel_tree.specs.declared.ops.UpdateOp.TheVariants as update
use Rattle.kernel_tree.specs.declared.ast.Shape.{Shape}
use Rattle.kernel_tree.specs.declared.ast.Shape.TheVariants as shape
use Rattle.kernel_tree.specs.declared.mark.Mark.{Mark}
use Rattle.kernel_tree.specs.declared.mark.Mark.TheVariants as mark
use Rattle.kernel_tree.specs.declared.place.Place.{Place}
use Rattle.kernel_tree.specs.declared.place.Place.TheVariants as site
use Rattle.kernel_tree.specs.TextToken.{TextToken, IsName, IsNumber, IsType, IsCompare, IsUpdate, IsMark}
use Rattle.kernel_tree.specs.Plain.{Term, Literal, Variable, Element, Unary, Operation, Shift, Conversion, Choice, Comparison, Both, Either, Not, Action, Define, Put, Update, Choose, Leave, Block, Done, Then, Otherwise, Nothing, Else, Parameter, Accumulator, PlainLoop, Returned, Program}

-- ---- expressions

-- parentheses open where an operator or a negative literal is an operand, and close after it
unfoldable pub opened : Place → List TextToken → List TextToken
opened site.Alone rest = rest
opened site.Operand rest = IsMark mark.OpenParen ∷ rest
opened site.Negated rest = IsMark mark.OpenParen ∷ rest

unfoldable pub closed : Place → List TextToken → List TextToken
closed site.Alone rest = rest
closed site.Operand rest = IsMark mark.CloseParen ∷ rest
closed site.Negated rest = IsMark mark.CloseParen ∷ rest

-- a literal that is not negative stands in parentheses after a minus alone
unfoldable pub number_opened : Place → List TextToken → List TextToken
number_opened site.Alone rest = rest
number_opened site.Operand rest = rest
number_opened site.Negated rest = IsMark mark.OpenParen ∷ rest

unfoldable pub number_closed : Place → List TextToken → List TextToken
number_closed site.Alone rest = rest
number_closed site.Operand rest = rest
number_closed site.Negated rest = IsMark mark.CloseParen ∷ rest

abbrev pub print_literal : ℤ → Place → List TextToken → List TextToken
print_literal (pos n) place rest = number_opened place (IsNumber n ∷ number_closed place rest)
print_literal (negsuc n) place rest = opened place (IsMark mark.Minus ∷ IsNumber (suc n) ∷ closed place rest)

-- the count of a shift
abbrev pub print_count : ℤ → List TextToken → List TextToken
print_count (pos n) rest = IsNumber n ∷ rest
print_count (negsuc n) rest = IsMark mark.Minus ∷ IsNumber (suc n) ∷ rest

-- the mark between the operands of an operator; the other two are calls
abbrev pub mark_of_binary : BinaryOp → Option Mark
mark_of_binary binary.Add = Some mark.Plus
mark_of_binary binary.Sub = Some mark.Minus
mark_of_binary binary.Mul = Some mark.Star
mark_of_binary binary.And = Some mark.Ampersand
mark_of_binary binary.Or = Some mark.Bar
mark_of_binary binary.Xor = Some mark.Caret
mark_of_binary binary.Min = None
mark_of_binary binary.Max = None

abbrev pub mark_of_call : BinaryOp → Mark
mark_of_call binary.Max = mark.Max
mark_of_call _ = mark.Min

abbrev pub mark_of_shift : Bool → Mark
mark_of_shift true = mark.ShiftLeft
mark_of_shift false = mark.ShiftRight

-- an operator and its operands, in parentheses where it is an operand itself
abbrev pub print_between : (Place → List TextToken → List TextToken) → TextToken → (Place → List TextToken → List TextToken) → Place → List TextToken → List TextToken
print_between a w b place rest = opened place (a site.Operand (w ∷ b site.Operand (closed place rest)))

abbrev pub print_call : Mark → (Place → List TextToken → List TextToken) → (Place → List TextToken → List TextToken) → List TextToken → List TextToken
print_call m a b rest = IsMark m ∷ IsMark mark.OpenParen ∷ a site.Alone (IsMark mark.Comma ∷ b site.Alone (IsMark mark.CloseParen ∷ rest))

abbrev pub print_binary : Option Mark → BinaryOp → (Place → List TextToken → List TextToken) → (Place → List TextToken → List TextToken) → Place → List TextToken → List TextToken
print_binary (Some m) op a b place rest = print_between a (IsMark m) b place rest
print_binary None op a b place rest = print_call (mark_of_call op) a b rest

abbrev pub print_unary : UnaryOp → (Place → List TextToken → List TextToken) → Place → List TextToken → List TextToken
print_unary unary.Neg e place rest = opened place (IsMark mark.Minus ∷ e site.Negated (closed place rest))
print_unary unary.Flip e place rest = opened place (IsMark mark.Tilde ∷ e site.Operand (closed place rest))
print_unary unary.Abs e place rest = IsMark mark.Abs ∷ IsMark mark.OpenParen ∷ e site.Alone (IsMark mark.CloseParen ∷ rest)

abbrev pub print_term : Term → Place → List TextToken → List TextToken
print_term (Literal n) place rest = print_literal n place rest
print_term (Variable x) place rest = IsName x ∷ rest
print_term (Element a i) place rest = IsName a ∷ IsMark mark.OpenBracket ∷ print_term i site.Alone (IsMark mark.CloseBracket ∷ rest)
print_term (Unary op e) place rest = print_unary op (print_term e) place rest
print_term (Operation op a b) place rest = print_binary (mark_of_binary op) op (print_term a) (print_term b) place rest
print_term (Shift left e n) place rest = opened place (print_term e site.Operand (IsMark (mark_of_shift left) ∷ print_count n (closed place rest)))
print_term (Conversion e t) place rest = opened place (print_term e site.Operand (IsMark mark.As ∷ IsType t ∷ closed place rest))
print_term (Choice c a b) place rest = IsMark mark.Select ∷ IsMark mark.OpenParen ∷ print_term c site.Alone (IsMark mark.Comma ∷ print_term a site.Alone (IsMark mark.Comma ∷ print_term b site.Alone (IsMark mark.CloseParen ∷ rest)))
print_term (Comparison op a b) place rest = print_between (print_term a) (IsCompare op) (print_term b) place rest
print_term (Both a b) place rest = print_between (print_term a) (IsMark mark.AndAnd) (print_term b) place rest
print_term (Either a b) place rest = print_between (print_term a) (IsMark mark.OrOr) (print_term b) place rest
print_term (Not e) place rest = opened place (IsMark mark.Bang ∷ print_term e site.Operand (closed place rest))

-- ---- statements

abbrev pub print_type : Option Ty → List TextToken → List TextToken
print_type None rest = rest
print_type (Some t) rest = IsMark mark.Colon ∷ IsType t ∷ rest

-- a statement, and statements with the brace after them
abbrev mutual
  pub print_action : Action → List TextToken → List TextToken
  print_action (Define x t e) rest = IsMark mark.Let ∷ IsName x ∷ print_type t (IsMark mark.Equals ∷ print_term e site.Alone (IsMark mark.Semicolon ∷ rest))
  print_action (Put a i e) rest = IsName a ∷ IsMark mark.OpenBracket ∷ print_term i site.Alone (IsMark mark.CloseBracket ∷ IsMark mark.Equals ∷ print_term e site.Alone (IsMark mark.Semicolon ∷ rest))
  print_action (Update x op e) rest = IsName x ∷ IsUpdate op ∷ print_term e site.Alone (IsMark mark.Semicolon ∷ rest)
  print_action (Choose c b d) rest = IsMark mark.If ∷ print_term c site.Alone (IsMark mark.OpenBrace ∷ print_block b (print_otherwise d rest))
  print_action (Leave c) rest = IsMark mark.Break ∷ IsMark mark.If ∷ print_term c site.Alone (IsMark mark.Semicolon ∷ rest)

  pub print_block : Block → List TextToken → List TextToken
  print_block Done rest = IsMark mark.CloseBrace ∷ rest
  print_block (Then s b) rest = print_action s (print_block b rest)

  pub print_otherwise : Otherwise → List TextToken → List TextToken
  print_otherwise Nothing rest = rest
  print_otherwise (Else b) rest = IsMark mark.Else ∷ IsMark mark.OpenBrace ∷ print_block b rest

-- ---- kernels

abbrev pub print_shape : Shape → List TextToken → List TextToken
print_shape (shape.Scalar t) rest = IsType t ∷ rest
print_shape (shape.Array t) rest = IsMark mark.OpenBracket ∷ IsType t ∷ IsMark mark.CloseBracket ∷ rest

abbrev pub print_param : Parameter → List TextToken → List TextToken
print_param p rest = IsName p.name ∷ IsMark mark.Colon ∷ print_shape p.shape rest

-- parameters after a first one
abbrev pub print_others : List Parameter → List TextToken → List TextToken
print_others [] rest = rest
print_others (p ∷ ps) rest = IsMark mark.Comma ∷ print_param p (print_others ps rest)

abbrev pub print_params : List Parameter → List TextToken → List TextToken
print_params [] rest = rest
print_params (p ∷ ps) rest = print_param p (print_others ps rest)

abbrev pub print_vars : List Accumulator → List TextToken → List TextToken
print_vars [] rest = rest
print_vars (v ∷ vs) rest = IsMark mark.Var ∷ IsName v.name ∷ IsMark mark.Colon ∷ IsType v.type ∷ IsMark mark.Equals ∷ print_term v.init site.Alone (IsMark mark.Semicolon ∷ print_vars vs rest)

abbrev pub print_for_loop : Option PlainLoop → List TextToken → List TextToken
print_for_loop None rest = rest
print_for_loop (Some l) rest = IsMark mark.For ∷ IsName l.index ∷ IsMark mark.In ∷ IsNumber 0 ∷ IsMark mark.Range ∷ IsName l.bound ∷ IsMark mark.OpenBrace ∷ print_block l.body rest

-- the type that is returned, and the returned expression
abbrev pub print_arrow : Option Returned → List TextToken → List TextToken
print_arrow None rest = rest
print_arrow (Some a) rest = IsMark mark.Arrow ∷ IsType a.type ∷ rest

abbrev pub print_answer : Option Returned → List TextToken → List TextToken
print_answer None rest = rest
print_answer (Some a) rest = IsMark mark.Return ∷ print_term a.value site.Alone (IsMark mark.Semicolon ∷ rest)

-- the canonical tokens of a kernel after its first one, which is `kernel`
abbrev pub kernel_words : Program → List TextToken
kernel_words k = IsName k.name ∷ IsMark mark.OpenParen ∷ print_params k.params (IsMark mark.CloseParen ∷ print_arrow k.answer (IsMark mark.OpenBrace ∷ print_vars k.vars (print_for_loop k.for_loop (print_answer k.answer (IsMark mark.CloseBrace ∷ [])))))

-- the canonical tokens of a kernel
abbrev pub canonical_words : Program → List TextToken
canonical_words k = IsMark mark.Kernel ∷ kernel_words k

-- ---- texts

abbrev pub type_text : Ty → List ℕ
type_text ty.I8 = codes "i8"
type_text ty.I16 = codes "i16"
type_text ty.I32 = codes "i32"
type_text ty.I64 = codes "i64"
type_text ty.U8 = codes "u8"
type_text ty.U16 = codes "u16"
type_text ty.U32 = codes "u32"
type_text ty.U64 = codes "u64"

abbrev pub compare_text : CompareOp → List ℕ
compare_text compare.Eq = codes "=="
compare_text compare.Ne = codes "!="
compare_text compare.Lt = codes "<"
compare_text compare.Le = codes "<="
compare_text compare.Gt = codes ">"
compare_text compare.Ge = codes ">="

abbrev pub update_text : UpdateOp → List ℕ
update_text update.Add = codes "+="
update_text update.And = codes "&="
update_text update.Or = codes "|="
update_text update.Xor = codes "^="
update_text update.Min = codes "min="
update_text update.Max = codes "max="

-- a reserved word that is no type, and nothing for a symbol
abbrev pub reserved_text : Mark → List ℕ
reserved_text mark.Kernel = codes "kernel"
reserved_text mark.Var = codes "var"
reserved_text mark.For = codes "for"
reserved_text mark.In = codes "in"
reserved_text mark.Let = codes "let"
reserved_text mark.If = codes "if"
reserved_text mark.Else = codes "else"
reserved_text mark.Break = codes "break"
reserved_text mark.Return = codes "return"
reserved_text mark.Select = codes "select"
reserved_text mark.Min = codes "min"
reserved_text mark.Max = codes "max"
reserved_text mark.Abs = codes "abs"
reserved_text mark.As = codes "as"
reserved_text _ = []

abbrev pub mark_text : Mark → List ℕ
mark_text mark.OpenParen = codes "("
mark_text mark.CloseParen = codes ")"
mark_text mark.OpenBracket = codes "["
mark_text mark.CloseBracket = codes "]"
mark_text mark.OpenBrace = codes "{"
mark_text mark.CloseBrace = codes "}"
mark_text mark.Comma = codes ","
mark_text mark.Semicolon = codes ";"
mark_text mark.Colon = codes ":"
mark_text mark.Arrow = codes "->"
mark_text mark.Range = codes ".."
mark_text mark.Equals = codes "="
mark_text mark.Plus = codes "+"
mark_text mark.Minus = codes "-"
mark_text mark.Star = codes "*"
mark_text mark.ShiftLeft = codes "<<"
mark_text mark.ShiftRight = codes ">>"
mark_text mark.Ampersand = codes "&"
mark_text mark.Caret = codes "^"
mark_text mark.Bar = codes "|"
mark_text mark.AndAnd = codes "&&"
mark_text mark.OrOr = codes "||"
mark_text mark.Tilde = codes "~"
mark_text mark.Bang = codes "!"
mark_text m = reserved_text m

-- the text of a token, a number in decimal
abbrev pub word_text : TextToken → List ℕ
word_text (IsName x) = x
word_text (IsNumber n) = decimal n
word_text (IsType t) = type_text t
word_text (IsCompare op) = compare_text op
word_text (IsUpdate op) = update_text op
word_text (IsMark m) = mark_text m

-- tokens with a space before each
unfoldable pub spaced : List TextToken → List ℕ
spaced [] = []
spaced (w ∷ ws) = 32 ∷ word_text w ++ spaced ws

-- tokens joined by single spaces
abbrev pub joined_text : List TextToken → List ℕ
joined_text [] = []
joined_text (w ∷ ws) = word_text w ++ spaced ws

-- the canonical text of a kernel
abbrev pub canonical_text : Program → List ℕ
canonical_text k = joined_text (canonical_words k)
