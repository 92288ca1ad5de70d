-- Expressions by their kind, from what a `match` found, and which of them stand in the word of an operator.
use Rattle.std.proofs.Common.{◌≡◌, ℕ, ◌+◌, ◌<◌, ◌≤◌, ◌^◌, ◌&&◌, ◌||◌, Bool, true, false, List, Option, Some, None, Box, Global, refl, sym, subst, ap, ap₂, ◌∙◌, arith}
use Rattle.std.specs.Prelude.{ℤ, not, unwrap_or, is_none, is_some}
use mir.Syntax.{w64}
use mir.Val.{Fits}
use Rattle.kernel_tree.specs.declared.name.Name.{Name}
use Rattle.kernel_tree.specs.declared.ops.Ty.{Ty}
use Rattle.kernel_tree.specs.declared.ops.UnaryOp.{UnaryOp}
use Rattle.kernel_tree.specs.declared.ops.BinaryOp.{BinaryOp}
use Rattle.kernel_tree.specs.declared.ops.CompareOp.{CompareOp}
use Rattle.kernel_tree.specs.declared.ast.Expr.{Expr}
use Rattle.kernel_tree.specs.declared.ast.Expr.TheVariants as expr
use Rattle.kernel_tree.specs.declared.ast.Expr as whole
use Rattle.kernel_tree.specs.Plain.{Term, Literal, Variable, Element, Unary, Operation, Shift, Conversion, Choice, Comparison, Both, Either, Not, name_of, term_of}
use Rattle.kernel_tree.specs.Items.{term_size}
use Rattle.kernel_tree.specs.Typing.{Scope, own}
use Rattle.kernel_meaning.specs.Operators.{word, wrapped, shift_count}
use Rattle.label_fix.specs.DraftRun.{DraftEntry}
use Rattle.scalar_words.specs.Layout.{OfNumber, Layout, Homes, reg_of, constant_at}
use Rattle.scalar_words.specs.Words.{const_code}
use Rattle.value_code.specs.declared.extent.Extent.{Extent}
use Rattle.value_code.specs.Extents.{within_type, fits_at}
use Rattle.value_code.specs.Leaving.{binary_settles, shift_settles}
use Rattle.value_code.specs.ValueRegisters.{literal_home, home}
use Rattle.value_code.specs.ItemWords.{Side, Register, Product, Moved, shift_kind}
use Rattle.value_code.specs.Code.{signed_side, takes_product, takes_shift, is_product, stays, is_fused, HasParts, part_side, is_commutative, makes_way, stands_alone, added_number, side_lasts, is_led, right_code, literal_code}

-- ---- expressions by their kind

pub unary_of : (e : Expr) (op : UnaryOp) (a : Box Expr Global) (x : Expr) → e ≡ whole.Unary op a → x ≡ a.value → term_of e ≡ Unary op (term_of x)
unary_of e op a x is f = rw (is, f) refl

pub shift_of : (e : Expr) (left : Bool) (a : Box Expr Global) (n : ℤ) (x : Expr) → e ≡ whole.Shift left a n → x ≡ a.value → term_of e ≡ Shift left (term_of x) n
shift_of e left a n x is f = rw (is, f) refl

pub cast_of : (e : Expr) (a : Box Expr Global) (t : Ty) (x : Expr) → e ≡ whole.Cast a t → x ≡ a.value → term_of e ≡ Conversion (term_of x) t
cast_of e a t x is f = rw (is, f) refl

pub read_of : (e : Expr) (n : Name) (a : Box Expr Global) (x : Expr) → e ≡ whole.Read n a → x ≡ a.value → term_of e ≡ Element (name_of n) (term_of x)
read_of e n a x is f = rw (is, f) refl

pub binary_of : (e : Expr) (op : BinaryOp) (l r : Box Expr Global) (x y : Expr) → e ≡ whole.Binary op l r → x ≡ l.value → y ≡ r.value → term_of e ≡ Operation op (term_of x) (term_of y)
binary_of e op l r x y is f g = rw (is, f, g) refl

pub compare_of : (e : Expr) (op : CompareOp) (l r : Box Expr Global) (x y : Expr) → e ≡ whole.Compare op l r → x ≡ l.value → y ≡ r.value → term_of e ≡ Comparison op (term_of x) (term_of y)
compare_of e op l r x y is f g = rw (is, f, g) refl

pub and_of : (e : Expr) (l r : Box Expr Global) (x y : Expr) → e ≡ whole.And l r → x ≡ l.value → y ≡ r.value → term_of e ≡ Both (term_of x) (term_of y)
and_of e l r x y is f g = rw (is, f, g) refl

pub or_of : (e : Expr) (l r : Box Expr Global) (x y : Expr) → e ≡ whole.Or l r → x ≡ l.value → y ≡ r.value → term_of e ≡ Either (term_of x) (term_of y)
or_of e l r x y is f g = rw (is, f, g) refl

pub not_of : (e : Expr) (a : Box Expr Global) (x : Expr) → e ≡ whole.Not a → x ≡ a.value → term_of e ≡ Not (term_of x)
not_of e a x is f = rw (is, f) refl

pub select_of : (e : Expr) (k l r : Box Expr Global) (c x y : Expr) → e ≡ whole.Select k l r → c ≡ k.value → x ≡ l.value → y ≡ r.value → term_of e ≡ Choice (term_of c) (term_of x) (term_of y)
select_of e k l r c x y is f g h = rw (is, f, g, h) refl

-- ---- tests one after another

and_first : (b c r : Bool) → r ≡ b → r ≡ false → r ≡ (b && c)
and_first true c r e f = absurd cc
and_first false c r e f = f

and_rest : (b c q r : Bool) → q ≡ b → q ≡ true → r ≡ c → r ≡ (b && c)
and_rest true c q r e f g = g
and_rest false c q r e f g = absurd cc

or_first : (b c r : Bool) → r ≡ b → r ≡ true → r ≡ (b || c)
or_first true c r e f = f
or_first false c r e f = absurd cc

or_rest : (b c q r : Bool) → q ≡ b → q ≡ false → r ≡ c → r ≡ (b || c)
or_rest true c q r e f g = absurd cc
or_rest false c q r e f g = g

-- ---- what stands in the word of an operator

pub product_fused : (s : Scope) (op : BinaryOp) (w : Extent) (want : Option Ty) (o : BinaryOp) (x y all : Term) (p q r : Bool) → all ≡ Operation o x y → p ≡ takes_product op → p ≡ true → q ≡ is_product o → q ≡ true → r ≡ stays (binary_settles s want o x y w) want → r ≡ is_fused s op w want all
product_fused s op w want o x y all p q r is e f g h i =
    and_rest (takes_product op) (is_product o && stays (binary_settles s want o x y w) want) p r e f (and_rest (is_product o) (stays (binary_settles s want o x y w) want) q r g h i) ∙ ap (is_fused s op w want) (sym is)

pub no_product_fused : (s : Scope) (op : BinaryOp) (w : Extent) (want : Option Ty) (o : BinaryOp) (x y all : Term) (p q : Bool) → all ≡ Operation o x y → p ≡ takes_product op → p ≡ true → q ≡ is_product o → q ≡ false → q ≡ is_fused s op w want all
no_product_fused s op w want o x y all p q is e f g h =
    and_rest (takes_product op) (is_product o && stays (binary_settles s want o x y w) want) p q e f (and_first (is_product o) (stays (binary_settles s want o x y w) want) q g h) ∙ ap (is_fused s op w want) (sym is)

pub product_not_taken : (s : Scope) (op : BinaryOp) (w : Extent) (want : Option Ty) (o : BinaryOp) (x y all : Term) (p : Bool) → all ≡ Operation o x y → p ≡ takes_product op → p ≡ false → p ≡ is_fused s op w want all
product_not_taken s op w want o x y all p is e f = and_first (takes_product op) (is_product o && stays (binary_settles s want o x y w) want) p e f ∙ ap (is_fused s op w want) (sym is)

pub shift_fused : (s : Scope) (op : BinaryOp) (w : Extent) (want : Option Ty) (left : Bool) (x all : Term) (n sent : ℤ) (p r : Bool) → all ≡ Shift left x n → sent ≡ n → p ≡ takes_shift op → p ≡ true → r ≡ stays (shift_settles s want left x sent w) want → r ≡ is_fused s op w want all
shift_fused s op w want left x all n sent p r is same e f g =
    and_rest (takes_shift op) (stays (shift_settles s want left x n w) want) p r e f (g ∙ ap (λ z. stays (shift_settles s want left x z w) want) same) ∙ ap (is_fused s op w want) (sym is)

pub shift_not_taken : (s : Scope) (op : BinaryOp) (w : Extent) (want : Option Ty) (left : Bool) (x all : Term) (n : ℤ) (p : Bool) → all ≡ Shift left x n → p ≡ takes_shift op → p ≡ false → p ≡ is_fused s op w want all
shift_not_taken s op w want left x all n p is e f = and_first (takes_shift op) (stays (shift_settles s want left x n w) want) p e f ∙ ap (is_fused s op w want) (sym is)

pub cast_within : (s : Scope) (op : BinaryOp) (w : Extent) (want : Option Ty) (x all : Term) (t : Ty) (p : Bool) → all ≡ Conversion x t → p ≡ within_type w t → p ≡ true → p ≡ is_fused s op w want all
cast_within s op w want x all t p is e f = or_first (within_type w t) (fits_at (own s x) t) p e f ∙ ap (is_fused s op w want) (sym is)

pub cast_fits : (s : Scope) (op : BinaryOp) (w : Extent) (want : Option Ty) (x all : Term) (t : Ty) (from : Option Ty) (p r : Bool) → all ≡ Conversion x t → p ≡ within_type w t → p ≡ false → r ≡ fits_at from t → from ≡ own s x → r ≡ is_fused s op w want all
cast_fits s op w want x all t from p r is e f g h = or_rest (within_type w t) (fits_at (own s x) t) p r e f (g ∙ ap (λ o. fits_at o t) h) ∙ ap (is_fused s op w want) (sym is)

pub operation_parts : (r : Bool) (o : BinaryOp) (x y all : Term) → all ≡ Operation o x y → HasParts r all
operation_parts true o x y all is = subst (HasParts true) (sym is) tt
operation_parts false o x y all is = tt

pub shift_parts : (r left : Bool) (x all : Term) (n : ℤ) → all ≡ Shift left x n → HasParts r all
shift_parts true left x all n is = subst (HasParts true) (sym is) tt
shift_parts false left x all n is = tt

pub cast_parts : (r : Bool) (x all : Term) (t : Ty) → all ≡ Conversion x t → HasParts r all
cast_parts true x all t is = subst (HasParts true) (sym is) tt
cast_parts false x all t is = tt

pub not_fused : (s : Scope) (o : BinaryOp) (w : Extent) (want : Option Ty) (e : Expr) → ((op : BinaryOp) (x y : Box Expr Global) → e ≡ whole.Binary op x y → ⊥) → ((left : Bool) (x : Box Expr Global) (n : ℤ) → e ≡ whole.Shift left x n → ⊥) → ((x : Box Expr Global) (t : Ty) → e ≡ whole.Cast x t → ⊥) → false ≡ is_fused s o w want (term_of e)
not_fused s o w want (expr.Binary' op p x q y) b f c = absurd (b op (record { ptr = p.ptr; alloc = p.alloc; value = x }) (record { ptr = q.ptr; alloc = q.alloc; value = y }) refl)
not_fused s o w want (expr.Shift' left p x m) b f c = absurd (f left (record { ptr = p.ptr; alloc = p.alloc; value = x }) m refl)
not_fused s o w want (expr.Cast' p x t) b f c = absurd (c (record { ptr = p.ptr; alloc = p.alloc; value = x }) t refl)
not_fused s o w want e b f c = refl

-- ---- what the word takes of it

pub product_side : (L : Layout) (hs : Homes) (i : Option (List ℕ)) (want : Option Ty) (b size : ℕ) (o : BinaryOp) (x y all : Term) (p q : ℕ) → all ≡ Operation o x y → size ≡ term_size i x → p ≡ home L hs i b x → q ≡ home L hs i (b + size) y → Product p q ≡ part_side L hs i want b all
product_side L hs i want b size o x y all p q is e f g = rw (f, g, e, is) refl

pub shift_side : (L : Layout) (hs : Homes) (i : Option (List ℕ)) (want : Option Ty) (b : ℕ) (left signed : Bool) (x all : Term) (z sent : ℤ) (n p : ℕ) → all ≡ Shift left x z → sent ≡ z → signed ≡ signed_side want → n ≡ shift_count sent → p ≡ home L hs i b x → Moved (shift_kind left signed) n p ≡ part_side L hs i want b all
shift_side L hs i want b left signed x all z sent n p is same e f g = rw (e, f, g, same, is) refl

pub cast_side : (L : Layout) (hs : Homes) (i : Option (List ℕ)) (want : Option Ty) (b : ℕ) (x all : Term) (t : Ty) (p : ℕ) → all ≡ Conversion x t → p ≡ home L hs i b x → Register p ≡ part_side L hs i want b all
cast_side L hs i want b x all t p is e = rw (e, is) refl

pub no_side : (L : Layout) (hs : Homes) (i : Option (List ℕ)) (want : Option Ty) (b : ℕ) (e : Expr) (z : ℕ) → z ≡ 31 → ((op : BinaryOp) (x y : Box Expr Global) → e ≡ whole.Binary op x y → ⊥) → ((left : Bool) (x : Box Expr Global) (n : ℤ) → e ≡ whole.Shift left x n → ⊥) → ((x : Box Expr Global) (t : Ty) → e ≡ whole.Cast x t → ⊥) → Register z ≡ part_side L hs i want b (term_of e)
no_side L hs i want b (expr.Binary' op p x q y) z k g f c = absurd (g op (record { ptr = p.ptr; alloc = p.alloc; value = x }) (record { ptr = q.ptr; alloc = q.alloc; value = y }) refl)
no_side L hs i want b (expr.Shift' left p x m) z k g f c = absurd (f left (record { ptr = p.ptr; alloc = p.alloc; value = x }) m refl)
no_side L hs i want b (expr.Cast' p x t) z k g f c = absurd (c (record { ptr = p.ptr; alloc = p.alloc; value = x }) t refl)
no_side L hs i want b e z k g f c = ap Register k

-- the items of its operands
pub left_size : (i : Option (List ℕ)) (b : ℕ) (o : BinaryOp) (x y all : Term) → all ≡ Operation o x y → b + term_size i all < 2 ^ 32 → term_size i x < 2 ^ 32
left_size i b o x y all is h = let e = ap (term_size i) is in omega arith

pub left_fits : (i : Option (List ℕ)) (b r : ℕ) (o : BinaryOp) (x y all : Term) → all ≡ Operation o x y → r ≡ term_size i x → b + term_size i all < 2 ^ 32 → Fits w64 (b + r)
left_fits i b r o x y all is f h = let e = ap (term_size i) is in omega arith

pub left_room_of : (i : Option (List ℕ)) (b : ℕ) (o : BinaryOp) (x y all : Term) → all ≡ Operation o x y → b + term_size i all < 2 ^ 32 → b + term_size i x < 2 ^ 32
left_room_of i b o x y all is h = let e = ap (term_size i) is in omega arith

pub right_room_of : (i : Option (List ℕ)) (b r : ℕ) (o : BinaryOp) (x y all : Term) → all ≡ Operation o x y → r ≡ term_size i x → b + term_size i all < 2 ^ 32 → b + r + term_size i y < 2 ^ 32
right_room_of i b r o x y all is f h = let e = ap (term_size i) is in omega arith

pub shift_room_of : (i : Option (List ℕ)) (b : ℕ) (left : Bool) (n : ℤ) (x all : Term) → all ≡ Shift left x n → b + term_size i all < 2 ^ 32 → b + term_size i x < 2 ^ 32
shift_room_of i b left n x all is h = let e = ap (term_size i) is in omega arith

pub cast_room_of : (i : Option (List ℕ)) (b : ℕ) (t : Ty) (x all : Term) → all ≡ Conversion x t → b + term_size i all < 2 ^ 32 → b + term_size i x < 2 ^ 32
cast_room_of i b t x all is h = let e = ap (term_size i) is in omega arith

-- ---- the sides of an operator

pub first_size : (b x y : ℕ) → b + (x + y + 1) < 2 ^ 32 → x < 2 ^ 32
first_size b x y h = omega arith

pub second_size : (b x y : ℕ) → b + (x + y + 1) < 2 ^ 32 → y < 2 ^ 32
second_size b x y h = omega arith

pub after_fits : (b x y r : ℕ) → b + (x + y + 1) < 2 ^ 32 → r ≡ x → Fits w64 (b + r)
after_fits b x y r h e = omega arith

pub sides_room : (b x y r q : ℕ) → b + (x + y + 1) < 2 ^ 32 → r ≡ x → q ≡ y → b + r + q < 2 ^ 32
sides_room b x y r q h e f = omega arith

none_is : (o : Option ℕ) (r : Bool) → is_some o ≡ not r → r ≡ is_none o
none_is None true e = refl
none_is None false e = absurd cc
none_is (Some v) true e = absurd cc
none_is (Some v) false e = refl

pub alone_by_way : (s : Scope) (op : BinaryOp) (w : Extent) (want : Option Ty) (x y : Term) (o : Option ℕ) (q r : Bool) → o ≡ added_number op want y → is_some o ≡ not q → q ≡ true → r ≡ makes_way x y → r ≡ true → r ≡ stands_alone s op w want x y
alone_by_way s op w want x y o q r e f g h i =
    and_rest (is_none (added_number op want y)) (makes_way x y || not (is_fused s op w want y)) q r (none_is o q f ∙ ap is_none e) g (or_first (makes_way x y) (not (is_fused s op w want y)) r h i)

pub alone_unfused : (s : Scope) (op : BinaryOp) (w : Extent) (want : Option Ty) (x y : Term) (o : Option ℕ) (q r t : Bool) → o ≡ added_number op want y → is_some o ≡ not q → q ≡ true → r ≡ makes_way x y → r ≡ false → t ≡ is_fused s op w want y → not t ≡ stands_alone s op w want x y
alone_unfused s op w want x y o q r t e f g h i j =
    and_rest (is_none (added_number op want y)) (makes_way x y || not (is_fused s op w want y)) q (not t) (none_is o q f ∙ ap is_none e) g (or_rest (makes_way x y) (not (is_fused s op w want y)) r (not t) h i (ap not j))

pub not_alone : (s : Scope) (op : BinaryOp) (w : Extent) (want : Option Ty) (x y : Term) (o : Option ℕ) (q : Bool) → o ≡ added_number op want y → is_some o ≡ not q → q ≡ false → q ≡ stands_alone s op w want x y
not_alone s op w want x y o q e f g = and_first (is_none (added_number op want y)) (makes_way x y || not (is_fused s op w want y)) q (none_is o q f ∙ ap is_none e) g

-- whether a left side may stand in the word
pub turned_fused : (b c q r t : Bool) → q ≡ b → q ≡ true → r ≡ c → t ≡ r → t ≡ (b && c)
turned_fused b c q r t e f g h = and_rest b c q t e f (h ∙ g)

pub not_turned : (b c q t : Bool) → q ≡ b → q ≡ false → t ≡ false → t ≡ (b && c)
not_turned b c q t e f h = h ∙ sym f ∙ and_first b c q e f

pub led_by : (L : Layout) (hs : Homes) (s : Scope) (op : BinaryOp) (w : Extent) (want : Option Ty) (b after n : ℕ) (x y : Term) (side : Side) (t q r : Bool) → t ≡ (is_commutative op && is_fused s op w want x) → t ≡ true → q ≡ stands_alone s op w want x y → q ≡ true → side ≡ part_side L hs s.index want b x → after ≡ b + term_size s.index x → n ≡ term_size s.index y → r ≡ side_lasts L after n side → r ≡ is_led L hs s op w want b x y
unfolding is_led
led_by L hs s op w want b after n x y side t q r e f g h i j k l =
    and_rest (is_commutative op && is_fused s op w want x) (stands_alone s op w want x y && side_lasts L (b + term_size s.index x) (term_size s.index y) (part_side L hs s.index want b x)) t r e f
    (and_rest (stands_alone s op w want x y) (side_lasts L (b + term_size s.index x) (term_size s.index y) (part_side L hs s.index want b x)) q r g h (rw (← i, ← j, ← k) l))

pub unled_fused : (L : Layout) (hs : Homes) (s : Scope) (op : BinaryOp) (w : Extent) (want : Option Ty) (b : ℕ) (x y : Term) (t : Bool) → t ≡ (is_commutative op && is_fused s op w want x) → t ≡ false → false ≡ is_led L hs s op w want b x y
unfolding is_led
unled_fused L hs s op w want b x y t e f = sym f ∙ and_first (is_commutative op && is_fused s op w want x) (stands_alone s op w want x y && side_lasts L (b + term_size s.index x) (term_size s.index y) (part_side L hs s.index want b x)) t e f

pub unled_alone : (L : Layout) (hs : Homes) (s : Scope) (op : BinaryOp) (w : Extent) (want : Option Ty) (b : ℕ) (x y : Term) (t q : Bool) → t ≡ (is_commutative op && is_fused s op w want x) → t ≡ true → q ≡ stands_alone s op w want x y → q ≡ false → false ≡ is_led L hs s op w want b x y
unfolding is_led
unled_alone L hs s op w want b x y t q e f g h =
    sym h ∙ and_rest (is_commutative op && is_fused s op w want x) (stands_alone s op w want x y && side_lasts L (b + term_size s.index x) (term_size s.index y) (part_side L hs s.index want b x)) t q e f
    (and_first (stands_alone s op w want x y) (side_lasts L (b + term_size s.index x) (term_size s.index y) (part_side L hs s.index want b x)) q g h)

pub still_parts : (r t : Bool) (e : Term) → t ≡ true → HasParts t e → HasParts r e
still_parts true t e f h = subst (λ b. HasParts b e) f h
still_parts false t e f h = tt

-- ---- literals

pub held_home : (L : Layout) (b r : ℕ) (z sent : ℤ) → sent ≡ z → constant_at L (OfNumber sent) ≡ Some r → r ≡ literal_home L b z
held_home L b r z sent same e = sym (ap (λ o. unwrap_or o (reg_of L b)) e) ∙ ap (literal_home L b) same

pub own_home : (L : Layout) (b r : ℕ) (z sent : ℤ) → sent ≡ z → constant_at L (OfNumber sent) ≡ None → r ≡ reg_of L b → r ≡ literal_home L b z
own_home L b r z sent same e f = f ∙ sym (ap (λ o. unwrap_or o (reg_of L b)) e) ∙ ap (literal_home L b) same

pub held_literal : (L : Layout) (want : Option Ty) (b r : ℕ) (z sent : ℤ) (rest : List DraftEntry) → sent ≡ z → constant_at L (OfNumber sent) ≡ Some r → rest ≡ literal_code L want b z rest
held_literal L want b r z sent rest same e = held r (constant_at L (OfNumber sent)) e ∙ ap (λ z. literal_code L want b z rest) same
  where
    held : (r : ℕ) (o : Option ℕ) → o ≡ Some r → rest ≡ right_code o (const_code (reg_of L b) (word (wrapped want sent))) rest
    held r o e = rw e refl

pub put_literal : (L : Layout) (want : Option Ty) (b d v : ℕ) (z sent : ℤ) (rest : List DraftEntry) → sent ≡ z → constant_at L (OfNumber sent) ≡ None → d ≡ reg_of L b → v ≡ word (wrapped want sent) → const_code d v rest ≡ literal_code L want b z rest
put_literal L want b d v z sent rest same e f g = ap₂ (λ d v. const_code d v rest) f g ∙ put (constant_at L (OfNumber sent)) e ∙ ap (λ z. literal_code L want b z rest) same
  where
    put : (o : Option ℕ) → o ≡ None → const_code (reg_of L b) (word (wrapped want sent)) rest ≡ right_code o (const_code (reg_of L b) (word (wrapped want sent))) rest
    put o e = rw e refl

-- ---- registers of values

pub size_below : (b k : ℕ) → b + k < 2 ^ 32 → k < 2 ^ 32
size_below b k h = omega arith

pub end_fits : (b k r : ℕ) → b + k < 2 ^ 32 → r ≡ k → Fits w64 (b + r)
end_fits b k r h e = omega arith

some_items : (i : Option (List ℕ)) (e : Term) → 1 ≤ term_size i e
some_items i (Literal z) = omega arith
some_items i (Variable x) = omega arith
some_items i (Element a e) = omega arith
some_items i (Unary op e) = omega arith
some_items i (Operation op x y) = omega arith
some_items i (Shift left e n) = omega arith
some_items i (Conversion e t) = omega arith
some_items i (Choice c x y) = omega arith
some_items i (Comparison op x y) = omega arith
some_items i (Both x y) = omega arith
some_items i (Either x y) = omega arith
some_items i (Not e) = omega arith

pub end_after : (i : Option (List ℕ)) (b r : ℕ) (e : Term) → r ≡ term_size i e → 1 ≤ b + r
end_after i b r e f = let h = some_items i e in omega arith
