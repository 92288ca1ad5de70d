-- What is printed is spelled so.
use Rattle.std.proofs.Common.{◌≡◌, ℕ, zero, suc, List, ◌∷◌, Bool, true, false, Some, None, refl, subst}
use Rattle.std.specs.Prelude.{ℤ, pos, negsuc}
use Rattle.kernel_tree.specs.declared.ops.UnaryOp.{UnaryOp}
use Rattle.kernel_tree.specs.declared.ops.UnaryOp.TheVariants as unary
use Rattle.kernel_tree.specs.declared.ops.BinaryOp.{BinaryOp}
use Rattle.kernel_tree.specs.declared.ops.BinaryOp.TheVariants as binary
use Rattle.kernel_tree.specs.declared.ops.CompareOp.{CompareOp}
use Rattle.kernel_tree.specs.declared.place.Place.{Place}
use Rattle.kernel_tree.specs.declared.place.Place.TheVariants as site
use Rattle.kernel_tree.specs.declared.mark.Mark.{Mark}
use Rattle.kernel_tree.specs.declared.mark.Mark.TheVariants as mark
use Rattle.kernel_tree.specs.declared.mark.Joint.{Joint}
use Rattle.kernel_tree.specs.declared.mark.Joint.TheVariants as joint
use Rattle.kernel_tree.specs.declared.mark.Operator.TheVariants as operator
use Rattle.kernel_tree.specs.declared.mark.Opening.TheVariants as opening
use Rattle.kernel_tree.specs.declared.mark.Sign.TheVariants as sign
use Rattle.kernel_tree.specs.TextToken.{TextToken, IsNumber, IsType, IsCompare, IsMark}
use Rattle.kernel_tree.specs.Plain.{Term, Literal, Variable, Element, Unary, Operation, Shift, Conversion, Choice, Comparison, Both, Either, Not}
use Rattle.kernel_tree.specs.Grammar.{Spells, number, name, element, group, pair, absolute, choice, negative, prefix, up, conversion, shift, operation, comparison, operator_of, level_of, opening_of_mark, joined, number_at}
use Rattle.kernel_tree.proofs.Well.{Well, IsCount}
use Rattle.kernel_tree.specs.Printing.{opened, closed, number_opened, number_closed, print_literal, print_count, mark_of_binary, mark_of_shift, print_between, print_call, print_binary, print_unary, print_term}

-- the level that a place asks for
abbrev level_at : Place → ℕ
level_at site.Alone = 10
level_at site.Operand = 0
level_at site.Negated = 0

-- a tighter level is any looser one
abbrev raised : ℕ → ℕ → ℕ
raised zero level = level
raised (suc k) level = suc (raised k level)

raise : (k : ℕ) {level : ℕ} {words : List TextToken} {e : Term} {rest : List TextToken} → Spells level words e rest → Spells (raised k level) words e rest
raise zero d = d
raise (suc k) d = up (raise k d)

-- an operator, in parentheses where its place asks for them
wrapped : (place : Place) (words : List TextToken → List TextToken) (e : Term) (rest : List TextToken) → ((r : List TextToken) → Spells 10 (words r) e r) → Spells (level_at place) (opened place (words (closed place rest))) e rest
unfolding opened closed
wrapped site.Alone words e rest d = d rest
wrapped site.Operand words e rest d = group (d (IsMark mark.CloseParen ∷ rest))
wrapped site.Negated words e rest d = group (d (IsMark mark.CloseParen ∷ rest))

-- what stands as tightly as any place asks
at_place : (place : Place) {words : List TextToken} {e : Term} {rest : List TextToken} → Spells 0 words e rest → Spells (level_at place) words e rest
at_place site.Alone d = raise 10 d
at_place site.Operand d = d
at_place site.Negated d = d

literal_spells : (place : Place) (n : ℤ) (rest : List TextToken) → Spells (level_at place) (print_literal n place rest) (Literal n) rest
unfolding number_opened number_closed
literal_spells site.Alone (pos n) rest = raise 10 number
literal_spells site.Operand (pos n) rest = number
literal_spells site.Negated (pos n) rest = group (raise 10 number)
literal_spells place (negsuc n) rest = wrapped place (λ r. IsMark mark.Minus ∷ IsNumber (suc n) ∷ r) (Literal (negsuc n)) rest (λ r. raise 10 negative)

-- what stands after a minus begins with no number
no_number : (e : Term) (r : List TextToken) → number_at (print_term e site.Negated r) ≡ None
unfolding opened number_opened
no_number (Literal (pos n)) r = refl
no_number (Unary unary.Neg e) r = refl
no_number (Operation binary.Add a b) r = refl
no_number other r = refl

abbrev Printed : Term → (Place → List TextToken → List TextToken) → Type 0
Printed e print = (place : Place) (rest : List TextToken) → Spells (level_at place) (print place rest) e rest

-- an operator of some level between two operands
between : (level above : ℕ) (j : Joint) (w : TextToken) (a b : Term) (f g : Place → List TextToken → List TextToken) → raised above (suc level) ≡ 10 → raised level 0 ≡ level → operator_of w ≡ Some (operator.Joined j) → level_of (operator.Joined j) ≡ suc level → Printed a f → Printed b g → Printed (joined j a b) (λ place rest. print_between f w g place rest)
between level above j w a b f g top deep o l p q place rest =
    wrapped place (λ r. f site.Operand (w ∷ g site.Operand r)) (joined j a b) rest (λ r.
    let left : Spells level (f site.Operand (w ∷ g site.Operand r)) a (w ∷ g site.Operand r) = subst (λ (n : ℕ). Spells n (f site.Operand (w ∷ g site.Operand r)) a (w ∷ g site.Operand r)) deep (raise level (p site.Operand (w ∷ g site.Operand r))) in
    let right : Spells level (g site.Operand r) b r = subst (λ (n : ℕ). Spells n (g site.Operand r) b r) deep (raise level (q site.Operand r)) in
    subst (λ (n : ℕ). Spells n (f site.Operand (w ∷ g site.Operand r)) (joined j a b) r) top (raise above (operation (up left) o l right)))

call_spells : (op : BinaryOp) (m : Mark) (a b : Term) (f g : Place → List TextToken → List TextToken) → opening_of_mark m ≡ Some (opening.Pair op) → Printed a f → Printed b g → Printed (Operation op a b) (λ place rest. print_call m f g rest)
call_spells op m a b f g o p q place rest = at_place place (pair o (p site.Alone (IsMark mark.Comma ∷ g site.Alone (IsMark mark.CloseParen ∷ rest))) (q site.Alone (IsMark mark.CloseParen ∷ rest)))

binary_spells : (op : BinaryOp) (a b : Term) (f g : Place → List TextToken → List TextToken) → Printed a f → Printed b g → Printed (Operation op a b) (λ place rest. print_binary (mark_of_binary op) op f g place rest)
binary_spells binary.Mul a b f g p q = between 1 8 (joint.Dual binary.Mul) (IsMark mark.Star) a b f g refl refl refl refl p q
binary_spells binary.Add a b f g p q = between 2 7 (joint.Dual binary.Add) (IsMark mark.Plus) a b f g refl refl refl refl p q
binary_spells binary.Sub a b f g p q = between 2 7 (joint.Dual binary.Sub) (IsMark mark.Minus) a b f g refl refl refl refl p q
binary_spells binary.And a b f g p q = between 4 5 (joint.Dual binary.And) (IsMark mark.Ampersand) a b f g refl refl refl refl p q
binary_spells binary.Xor a b f g p q = between 5 4 (joint.Dual binary.Xor) (IsMark mark.Caret) a b f g refl refl refl refl p q
binary_spells binary.Or a b f g p q = between 6 3 (joint.Dual binary.Or) (IsMark mark.Bar) a b f g refl refl refl refl p q
binary_spells binary.Min a b f g p q = call_spells binary.Min mark.Min a b f g refl p q
binary_spells binary.Max a b f g p q = call_spells binary.Max mark.Max a b f g refl p q

compared_spells : (op : CompareOp) (a b : Term) (f g : Place → List TextToken → List TextToken) → Printed a f → Printed b g → Printed (Comparison op a b) (λ place rest. print_between f (IsCompare op) g place rest)
compared_spells op a b f g p q place rest =
    wrapped place (λ r. f site.Operand (IsCompare op ∷ g site.Operand r)) (Comparison op a b) rest (λ r.
    raise 2 (comparison (raise 7 (p site.Operand (IsCompare op ∷ g site.Operand r))) refl refl (raise 7 (q site.Operand r))))

unary_spells : (op : UnaryOp) (e : Term) (f : Place → List TextToken → List TextToken) → ((r : List TextToken) → number_at (f site.Negated r) ≡ None) → Printed e f → Printed (Unary op e) (λ place rest. print_unary op f place rest)
unary_spells unary.Neg e f n p place rest = wrapped place (λ r. IsMark mark.Minus ∷ f site.Negated r) (Unary unary.Neg e) rest (λ r. raise 10 (prefix {s = sign.Minus} refl (n r) (p site.Negated r)))
unary_spells unary.Flip e f n p place rest = wrapped place (λ r. IsMark mark.Tilde ∷ f site.Operand r) (Unary unary.Flip e) rest (λ r. raise 10 (prefix {s = sign.Flip} refl refl (p site.Operand r)))
unary_spells unary.Abs e f n p place rest = at_place place (absolute (p site.Alone (IsMark mark.CloseParen ∷ rest)))

shift_spells : (left : Bool) (n : ℤ) (e : Term) (f : Place → List TextToken → List TextToken) → IsCount n → Printed e f → Printed (Shift left e n) (λ place rest. opened place (f site.Operand (IsMark (mark_of_shift left) ∷ print_count n (closed place rest))))
shift_spells true (pos n) e f c p place rest = wrapped place (λ r. f site.Operand (IsMark mark.ShiftLeft ∷ IsNumber n ∷ r)) (Shift true e (pos n)) rest (λ r. raise 6 (shift (raise 4 (p site.Operand (IsMark mark.ShiftLeft ∷ IsNumber n ∷ r))) refl refl))
shift_spells false (pos n) e f c p place rest = wrapped place (λ r. f site.Operand (IsMark mark.ShiftRight ∷ IsNumber n ∷ r)) (Shift false e (pos n)) rest (λ r. raise 6 (shift (raise 4 (p site.Operand (IsMark mark.ShiftRight ∷ IsNumber n ∷ r))) refl refl))
shift_spells left (negsuc n) e f c p place rest = absurd c

pub printed : (e : Term) → Well e → Printed e (print_term e)
printed (Literal n) h place rest = literal_spells place n rest
printed (Variable x) h place rest = at_place place name
printed (Element a i) h place rest = at_place place (element (printed i h.1 site.Alone (IsMark mark.CloseBracket ∷ rest)))
printed (Unary op e) h place rest = unary_spells op e (print_term e) (no_number e) (printed e h) place rest
printed (Operation op a b) h place rest = binary_spells op a b (print_term a) (print_term b) (printed a h.0) (printed b h.1) place rest
printed (Shift left e n) h place rest = shift_spells left n e (print_term e) h.1 (printed e h.0) place rest
printed (Conversion e t) h place rest = wrapped place (λ r. print_term e site.Operand (IsMark mark.As ∷ IsType t ∷ r)) (Conversion e t) rest (λ r. raise 9 (conversion (up (printed e h site.Operand (IsMark mark.As ∷ IsType t ∷ r))) refl refl))
printed (Choice c a b) h place rest = at_place place (choice (printed c h.0 site.Alone _) (printed a h.1.0 site.Alone _) (printed b h.1.1 site.Alone _))
printed (Comparison op a b) h place rest = compared_spells op a b (print_term a) (print_term b) (printed a h.0) (printed b h.1) place rest
printed (Both a b) h place rest = between 8 1 joint.Both (IsMark mark.AndAnd) a b (print_term a) (print_term b) refl refl refl refl (printed a h.0) (printed b h.1) place rest
printed (Either a b) h place rest = between 9 0 joint.Either (IsMark mark.OrOr) a b (print_term a) (print_term b) refl refl refl refl (printed a h.0) (printed b h.1) place rest
printed (Not e) h place rest = wrapped place (λ r. IsMark mark.Bang ∷ print_term e site.Operand r) (Not e) rest (λ r. raise 10 (prefix {s = sign.Not} refl refl (printed e h site.Operand r)))
