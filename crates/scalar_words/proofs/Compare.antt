-- The flags of a comparison tell the order of two values.
use Rattle.std.proofs.Common.{◌≡◌, ℕ, ◌-◌, ◌%◌, ◌^◌, ◌<◌, Bool, true, false, refl, sym, ap, ap₂, ◌∙◌, arith, ⊎_elim}
use Rattle.std.specs.Prelude.{ℤ, pos, negsuc, not, ◌&&◌, int_lt, int_le, nat_le}
use Rattle.std.proofs.lemmas.Bool.{cases_order, lt-ltb, le-ltb, le-leb, lt-leb, eq-eqb, ne_eqb}
use Rattle.guest_types.specs.Elements.{Flags}
use Rattle.machine_model.specs.Arithmetic.{flags_of, difference, differ, holds}
use Rattle.kernel_tree.specs.declared.ops.CompareOp.{CompareOp}
use Rattle.kernel_meaning.specs.Operators.{word, compare_on}
use Rattle.scalar_words.specs.Words.{condition, contrary}
use Rattle.scalar_words.proofs.Words.{InRange}
use Rattle.kernel_tree.specs.declared.ops.CompareOp.TheVariants as compare

-- what the flags say of "less"
abbrev less : Bool → Flags → Bool
less true f = differ f.n f.v
less false f = not f.c

record Order (sg : Bool) (x y : ℤ) : Type 0 where
  lt : Bool
  eq : Bool
  below : int_lt x y ≡ lt
  upto : int_le x y ≡ not (not lt && not eq)
  above : int_lt y x ≡ (not lt && not eq)
  from : int_le y x ≡ not lt
  same : (int_le x y && int_le y x) ≡ eq
  zero : (flags_of (word x) (word y)).z ≡ eq
  lesser : less sg (flags_of (word x) (word y)) ≡ lt

signed_less : (a b : ℕ) (na nb nd lt : Bool) → nat_le (2 ^ 63) a ≡ na → nat_le (2 ^ 63) b ≡ nb → nat_le (2 ^ 63) (difference a b) ≡ nd → differ nd (differ na nb && differ na nd) ≡ lt → less true (flags_of a b) ≡ lt
signed_less a b na nb nd lt ea eb ed h = rw (ea, eb, ed) h

differ_self : (b : Bool) → differ b b ≡ false
differ_self true = refl
differ_self false = refl

differ_not : (b : Bool) → differ b (not b) ≡ true
differ_not true = refl
differ_not false = refl

unsigned_order : (m n : ℕ) → m < 2 ^ 64 → n < 2 ^ 64 → Order false (pos m) (pos n)
unsigned_order m n hm hn =
    ⊎_elim
    (λ (e : m ≡ n). record {
      lt = false;
      eq = true;
      below = le-ltb m n (omega (arith, e));
      upto = le-leb m n (omega (arith, e));
      above = le-ltb n m (omega (arith, e));
      from = le-leb n m (omega (arith, e));
      same = ap₂ (λ a b. a && b) (le-leb m n (omega (arith, e))) (le-leb n m (omega (arith, e)));
      zero = eq-eqb _ 0 (omega (arith, e));
      lesser = ap not (le-leb (n % 2 ^ 64) (m % 2 ^ 64) (omega (arith, e)));
    })
    (λ h. ⊎_elim
    (λ (lt : m < n). record {
      lt = true;
      eq = false;
      below = lt-ltb m n lt;
      upto = le-leb m n (omega (arith, lt));
      above = le-ltb n m (omega (arith, lt));
      from = lt-leb n m lt;
      same = ap₂ (λ a b. a && b) (le-leb m n (omega (arith, lt))) (lt-leb n m lt);
      zero = ne_eqb _ 0 (λ e. absurd (omega (arith, lt)));
      lesser = ap not (lt-leb (n % 2 ^ 64) (m % 2 ^ 64) (omega (arith, lt)));
    })
    (λ (gt : n < m). record {
      lt = false;
      eq = false;
      below = le-ltb m n (omega (arith, gt));
      upto = lt-leb m n gt;
      above = lt-ltb n m gt;
      from = le-leb n m (omega (arith, gt));
      same = ap₂ (λ a b. a && b) (lt-leb m n gt) (le-leb n m (omega (arith, gt)));
      zero = ne_eqb _ 0 (λ e. absurd (omega (arith, gt)));
      lesser = ap not (le-leb (n % 2 ^ 64) (m % 2 ^ 64) (omega (arith, gt)));
    })
    h)
    (cases_order m n)

plus_order : (m n : ℕ) → m < 2 ^ 63 → n < 2 ^ 63 → Order true (pos m) (pos n)
plus_order m n hm hn =
    let ea : nat_le (2 ^ 63) (m % 2 ^ 64) ≡ false = lt-leb _ _ (omega arith) in
    let eb : nat_le (2 ^ 63) (n % 2 ^ 64) ≡ false = lt-leb _ _ (omega arith) in
    ⊎_elim
    (λ (e : m ≡ n). record {
      lt = false;
      eq = true;
      below = le-ltb m n (omega (arith, e));
      upto = le-leb m n (omega (arith, e));
      above = le-ltb n m (omega (arith, e));
      from = le-leb n m (omega (arith, e));
      same = ap₂ (λ a b. a && b) (le-leb m n (omega (arith, e))) (le-leb n m (omega (arith, e)));
      zero = eq-eqb _ 0 (omega (arith, e));
      lesser = signed_less _ _ false false false false ea eb (lt-leb _ _ (omega (arith, e))) refl;
    })
    (λ h. ⊎_elim
    (λ (lt : m < n). record {
      lt = true;
      eq = false;
      below = lt-ltb m n lt;
      upto = le-leb m n (omega (arith, lt));
      above = le-ltb n m (omega (arith, lt));
      from = lt-leb n m lt;
      same = ap₂ (λ a b. a && b) (le-leb m n (omega (arith, lt))) (lt-leb n m lt);
      zero = ne_eqb _ 0 (λ e. absurd (omega (arith, lt)));
      lesser = signed_less _ _ false false true true ea eb (le-leb _ _ (omega (arith, lt))) refl;
    })
    (λ (gt : n < m). record {
      lt = false;
      eq = false;
      below = le-ltb m n (omega (arith, gt));
      upto = lt-leb m n gt;
      above = lt-ltb n m gt;
      from = le-leb n m (omega (arith, gt));
      same = ap₂ (λ a b. a && b) (lt-leb m n gt) (le-leb n m (omega (arith, gt)));
      zero = ne_eqb _ 0 (λ e. absurd (omega (arith, gt)));
      lesser = signed_less _ _ false false false false ea eb (lt-leb _ _ (omega (arith, gt))) refl;
    })
    h)
    (cases_order m n)

minus_order : (m n : ℕ) → m < 2 ^ 63 → n < 2 ^ 63 → Order true (negsuc m) (negsuc n)
minus_order m n hm hn =
    let ea : nat_le (2 ^ 63) (2 ^ 64 - 1 - m % 2 ^ 64) ≡ true = le-leb _ _ (omega arith) in
    let eb : nat_le (2 ^ 63) (2 ^ 64 - 1 - n % 2 ^ 64) ≡ true = le-leb _ _ (omega arith) in
    ⊎_elim
    (λ (e : m ≡ n). record {
      lt = false;
      eq = true;
      below = le-ltb n m (omega (arith, e));
      upto = le-leb n m (omega (arith, e));
      above = le-ltb m n (omega (arith, e));
      from = le-leb m n (omega (arith, e));
      same = ap₂ (λ a b. a && b) (le-leb n m (omega (arith, e))) (le-leb m n (omega (arith, e)));
      zero = eq-eqb _ 0 (omega (arith, e));
      lesser = signed_less _ _ true true false false ea eb (lt-leb _ _ (omega (arith, e))) refl;
    })
    (λ h. ⊎_elim
    (λ (gt : m < n). record {
      lt = false;
      eq = false;
      below = le-ltb n m (omega (arith, gt));
      upto = lt-leb n m gt;
      above = lt-ltb m n gt;
      from = le-leb m n (omega (arith, gt));
      same = ap₂ (λ a b. a && b) (lt-leb n m gt) (le-leb m n (omega (arith, gt)));
      zero = ne_eqb _ 0 (λ e. absurd (omega (arith, gt)));
      lesser = signed_less _ _ true true false false ea eb (lt-leb _ _ (omega (arith, gt))) refl;
    })
    (λ (lt : n < m). record {
      lt = true;
      eq = false;
      below = lt-ltb n m lt;
      upto = le-leb n m (omega (arith, lt));
      above = le-ltb m n (omega (arith, lt));
      from = lt-leb m n lt;
      same = ap₂ (λ a b. a && b) (le-leb n m (omega (arith, lt))) (lt-leb m n lt);
      zero = ne_eqb _ 0 (λ e. absurd (omega (arith, lt)));
      lesser = signed_less _ _ true true true true ea eb (le-leb _ _ (omega (arith, lt))) refl;
    })
    h)
    (cases_order m n)

order : (sg : Bool) (x y : ℤ) → InRange sg x → InRange sg y → Order sg x y
order false (pos m) (pos n) h k = unsigned_order m n h k
order false (pos m) (negsuc n) h k = absurd k
order false (negsuc m) y h k = absurd h
order true (pos m) (pos n) h k = plus_order m n h k
order true (negsuc m) (negsuc n) h k = minus_order m n h k
order true (pos m) (negsuc n) h k =
    let ea : nat_le (2 ^ 63) (m % 2 ^ 64) ≡ false = lt-leb _ _ (omega arith) in
    let eb : nat_le (2 ^ 63) (2 ^ 64 - 1 - n % 2 ^ 64) ≡ true = le-leb _ _ (omega arith) in
    record {
      lt = false;
      eq = false;
      below = refl;
      upto = refl;
      above = refl;
      from = refl;
      same = refl;
      zero = ne_eqb _ 0 (λ e. absurd (omega arith));
      lesser = signed_less _ _ false true (nat_le (2 ^ 63) (difference (m % 2 ^ 64) (2 ^ 64 - 1 - n % 2 ^ 64))) false ea eb refl (differ_self (nat_le (2 ^ 63) (difference (m % 2 ^ 64) (2 ^ 64 - 1 - n % 2 ^ 64))));
    }
order true (negsuc m) (pos n) h k =
    let ea : nat_le (2 ^ 63) (2 ^ 64 - 1 - m % 2 ^ 64) ≡ true = le-leb _ _ (omega arith) in
    let eb : nat_le (2 ^ 63) (n % 2 ^ 64) ≡ false = lt-leb _ _ (omega arith) in
    record {
      lt = true;
      eq = false;
      below = refl;
      upto = refl;
      above = refl;
      from = refl;
      same = refl;
      zero = ne_eqb _ 0 (λ e. absurd (omega arith));
      lesser = signed_less _ _ true false (nat_le (2 ^ 63) (difference (2 ^ 64 - 1 - m % 2 ^ 64) (n % 2 ^ 64))) true ea eb refl (differ_not (nat_le (2 ^ 63) (difference (2 ^ 64 - 1 - m % 2 ^ 64) (n % 2 ^ 64))));
    }

not_not : (b : Bool) → not (not b) ≡ b
not_not true = refl
not_not false = refl

abbrev by_order : CompareOp → Bool → Bool → Bool
by_order compare.Eq lt eq = eq
by_order compare.Ne lt eq = not eq
by_order compare.Lt lt eq = lt
by_order compare.Le lt eq = not (not lt && not eq)
by_order compare.Gt lt eq = not lt && not eq
by_order compare.Ge lt eq = not lt

flags_tell : (op : CompareOp) (sg : Bool) (f : Flags) (lt eq : Bool) → f.z ≡ eq → less sg f ≡ lt → holds (condition op sg) f ≡ by_order op lt eq
flags_tell compare.Eq sg f lt eq z l = z
flags_tell compare.Ne sg f lt eq z l = ap not z
flags_tell compare.Lt true f lt eq z l = not_not _ ∙ l
flags_tell compare.Lt false f lt eq z l = l
flags_tell compare.Le true f lt eq z l = ap₂ (λ d e. not (not d && not e)) l z
flags_tell compare.Le false f lt eq z l = ap (λ c. not (c && not f.z)) (sym (not_not f.c)) ∙ ap₂ (λ d e. not (not d && not e)) l z
flags_tell compare.Gt true f lt eq z l = ap₂ (λ d e. not d && not e) l z
flags_tell compare.Gt false f lt eq z l = ap (λ c. c && not f.z) (sym (not_not f.c)) ∙ ap₂ (λ d e. not d && not e) l z
flags_tell compare.Ge true f lt eq z l = ap not l
flags_tell compare.Ge false f lt eq z l = sym (not_not f.c) ∙ ap not l

contrary_holds : (op : CompareOp) (sg : Bool) (f : Flags) → holds (contrary (condition op sg)) f ≡ not (holds (condition op sg) f)
contrary_holds compare.Eq sg f = refl
contrary_holds compare.Ne sg f = sym (not_not f.z)
contrary_holds compare.Lt true f = sym (not_not _)
contrary_holds compare.Lt false f = sym (not_not _)
contrary_holds compare.Le true f = sym (not_not _)
contrary_holds compare.Le false f = sym (not_not _)
contrary_holds compare.Gt true f = refl
contrary_holds compare.Gt false f = refl
contrary_holds compare.Ge true f = refl
contrary_holds compare.Ge false f = refl

order_tells : (op : CompareOp) (sg : Bool) (x y : ℤ) (o : Order sg x y) → compare_on op x y ≡ by_order op o.lt o.eq
order_tells compare.Eq sg x y o = o.same
order_tells compare.Ne sg x y o = ap not o.same
order_tells compare.Lt sg x y o = o.below
order_tells compare.Le sg x y o = o.upto
order_tells compare.Gt sg x y o = o.above
order_tells compare.Ge sg x y o = o.from

-- a condition holds of the flags of a comparison where the comparison holds
pub compared : (op : CompareOp) (sg : Bool) (x y : ℤ) → InRange sg x → InRange sg y → holds (condition op sg) (flags_of (word x) (word y)) ≡ compare_on op x y
compared op sg x y h k = let o = order sg x y h k in flags_tell op sg (flags_of (word x) (word y)) o.lt o.eq o.zero o.lesser ∙ sym (order_tells op sg x y o)

pub not_compared : (op : CompareOp) (sg : Bool) (x y : ℤ) → InRange sg x → InRange sg y → holds (contrary (condition op sg)) (flags_of (word x) (word y)) ≡ not (compare_on op x y)
not_compared op sg x y h k = contrary_holds op sg (flags_of (word x) (word y)) ∙ ap not (compared op sg x y h k)
