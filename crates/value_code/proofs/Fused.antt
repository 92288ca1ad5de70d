-- Products and shifts in the word of an operator: the sides that it takes.
use Rattle.std.proofs.Common.{◌≡◌, ◌≢◌, ℕ, zero, suc, ◌+◌, ◌*◌, ◌%◌, ◌^◌, ◌<◌, ◌≤◌, ◌&&◌, ◌||◌, Bool, true, false, List, length, Option, Some, None, ⊎_elim, refl, sym, ap, ap₂, ◌∙◌, subst, arith}
use Rattle.std.specs.Prelude.{ℤ, pos, is_none, not, nat_eq, nat_lt}
use Rattle.std.proofs.lemmas.Bool.{cases_lt, lt-ltb, eq-eqb, and_parts}
use Rattle.std.proofs.lemmas.Int.{ints, clamps}
use Rattle.std.proofs.lemmas.Nat.{and_comm, or_comm, xor_comm}
use Rattle.std.proofs.Math.IntN.{+ℤ_comm, *ℤ_comm}
use Rattle.guest_types.specs.Memory.{Memory}
use Rattle.machine_model.specs.Machine.{State, x_at}
use Rattle.machine_model.specs.declared.outcome.StopKind.TheVariants.{Read}
use Rattle.machine_model.specs.Arithmetic.{shifted_word}
use Rattle.kernel_tree.specs.declared.ops.Ty.{Ty}
use Rattle.kernel_tree.specs.declared.ops.BinaryOp.{BinaryOp}
use Rattle.kernel_tree.specs.Plain.{Term, Literal, Variable, Element, Unary, Operation, Shift, Conversion}
use Rattle.kernel_tree.specs.Items.{term_size}
use Rattle.kernel_tree.specs.Typing.{Scope}
use Rattle.kernel_tree.specs.Wrap.{wrap, is_signed}
use Rattle.kernel_meaning.specs.Operators.{word, binary_on, shift_on, shift_count}
use Rattle.kernel_meaning.specs.TypeValues.{IsOf, binary_leaves}
use Rattle.kernel_meaning.specs.Eval.{on_both}
use Rattle.kernel_meaning.proofs.Residues.{word-shl}
use Rattle.kernel_meaning.proofs.ExtendedForm.{shift-kept}
use Rattle.label_fix.specs.DraftRun.{DraftEntry, Laid}
use Rattle.label_fix.proofs.StretchSteps.{Goes, Stops, chain, stop_after, stop_more}
use Rattle.scalar_words.specs.Layout.{Layout, Homes, reg_of, last_use_at, IsMade}
use Rattle.scalar_words.specs.Words.{is_narrow}
use Rattle.scalar_words.specs.Operands.{binary_joins}
use Rattle.scalar_words.proofs.LayoutStates.{Assigned, Kept, kept_on}
use Rattle.scalar_words.proofs.Words.{in_range}
use Rattle.scalar_words.proofs.WordsRuns.{Sets, wide_wrap}
use Rattle.value_code.specs.declared.extent.Extent.{Extent}
use Rattle.value_code.specs.Extents.{Whole, within_type, operand_extent, asked_extent, settles}
use Rattle.value_code.specs.Leaving.{binary_settles, shift_settles}
use Rattle.value_code.specs.ItemWords.{Side, Number, Register, Product, Moved, shift_kind, operator_code}
use Rattle.value_code.specs.Code.{added_number, takes_product, takes_shift, is_product, stays, is_fused, part_side, side_by, right_side, side_code, is_commutative, makes_way, stands_alone, is_spared, side_lasts, is_led}
use Rattle.value_code.proofs.Loads.{Gives, no_value, a_value}
use Rattle.value_code.proofs.Loose.{settled, loose_binary, loose_shift}
use Rattle.value_code.proofs.Numbers.{IsSum, added_sum}
use Rattle.value_code.proofs.Operators.{IsOperand, IsTaken, shifted-word, set_as, operation_runs}
use Rattle.kernel_tree.specs.declared.ops.BinaryOp.TheVariants as binary

-- a right side, or a fault of a read
pub data Sided (D : Laid) (L : Layout) (c : List DraftEntry) (s : State) (rest : List DraftEntry) (b e : ℕ) (Q : State → ℤ → Type 0) (m : Memory) (most : ℕ) : Option ℤ → Type 0 where
  no_side : Stops D c s Read m most → Sided D L c s rest b e Q m most None
  a_side : {y : ℤ} (end : State) → Goes D c s rest end most → Kept L s end b e → Q end y → Sided D L c s rest b e Q m most (Some y)

-- a value in a register and a right side, or a fault of a read
pub data Pairs (D : Laid) (L : Layout) (c : List DraftEntry) (s : State) (rest : List DraftEntry) (b e hx : ℕ) (Q : State → ℤ → Type 0) (m : Memory) (most : ℕ) : Option ℤ → Option ℤ → Type 0 where
  no_left : {o : Option ℤ} → Stops D c s Read m most → Pairs D L c s rest b e hx Q m most None o
  no_right : {x : ℤ} → Stops D c s Read m most → Pairs D L c s rest b e hx Q m most (Some x) None
  pair : {x y : ℤ} (end : State) → Goes D c s rest end most → Kept L s end b e → x_at end hx ≡ word x → Q end y → Pairs D L c s rest b e hx Q m most (Some x) (Some y)

-- ---- products and shifts in the word of an operator

pub and_false-never : (a : Bool) → (a && false) ≡ true → ⊥
and_false-never true h = absurd cc
and_false-never false h = absurd cc

-- the word of a result that is not extended
settled_by : (l leaves : Bool) (w : Extent) (T : Ty) (z : ℤ) → stays (settles l true leaves) (Some T) ≡ true → (operand_extent l true leaves w (Some T) ≡ Whole → leaves ≡ false → word (wrap T z) ≡ word z) → word (settled l true (Some T) z) ≡ word z
settled_by true leaves w T z h kept = refl
settled_by false false w T z h kept = kept refl refl
settled_by false true w T z h kept = wide_wrap T z (wide (is_narrow T) h)
  where
    wide : (b : Bool) → not b ≡ true → b ≡ false
    wide true h = absurd cc
    wide false h = refl

pub settled_same : (leaves : Bool) (w : Extent) (T : Ty) (z : ℤ) → stays (settles (within_type w T) true leaves) (Some T) ≡ true → (asked_extent true leaves w (Some T) ≡ Whole → leaves ≡ false → word (wrap T z) ≡ word z) → word (settled (within_type w T) true (Some T) z) ≡ word z
settled_same leaves w T z h kept = settled_by (within_type w T) leaves w T z h kept

right_extent : (l : Bool) (w : Extent) (T : Ty) → operand_extent l false false w (Some T) ≡ Whole
right_extent true w T = refl
right_extent false w T = refl

right_settled : (l : Bool) (T : Ty) (z : ℤ) → settled l false (Some T) z ≡ wrap T z
right_settled true T z = refl
right_settled false T z = refl

pub moved_same : (left leaves : Bool) (z : ℤ) (w : Extent) (T : Ty) (x : ℤ) → (leaves ≡ true → left ≡ true) → stays (settles (within_type w T) left leaves) (Some T) ≡ true → (asked_extent left leaves w (Some T) ≡ Whole → IsOf T x) → (asked_extent left leaves w (Some T) ≡ Whole → leaves ≡ false → word (wrap T (shift_on left (shift_count z) x)) ≡ word (shift_on left (shift_count z) x)) → shifted_word (shift_kind left (is_signed T)) (word x) (shift_count z) ≡ word (loose_shift left z w (Some T) x)
moved_same true leaves z w T x only still range kept = word-shl x (shift_count z) ∙ sym (settled_same leaves w T (shift_on true (shift_count z) x) still kept)
moved_same false true z w T x only still range kept = absurd (let e = only refl in cc)
moved_same false false z w T x only still range kept =
    let rx = range (right_extent (within_type w T) w T) in
    shifted-word false (is_signed T) (shift_count z) x (in_range T x rx) ∙ sym (shift-kept false (shift_count z) T x rx refl) ∙ sym (ap word (right_settled (within_type w T) T (shift_on false (shift_count z) x)))

-- an operator's word takes its right side
taken_by : (op : BinaryOp) (number : Option ℕ) (fused : Bool) (r : ℕ) (part : Side) → ((v : ℕ) → number ≡ Some v → IsSum op v) → (fused ≡ true → IsTaken op part) → IsTaken op (side_by number fused r part)
taken_by op (Some v) fused r part sums takes = sums v refl
taken_by op None true r part sums takes = takes refl
taken_by op None false r part sums takes = tt

pub part_taken : (op : BinaryOp) (L : Layout) (hs : Homes) (s : Scope) (w : Extent) (T : Ty) (b : ℕ) (e : Term) → is_fused s op w (Some T) e ≡ true → IsTaken op (part_side L hs s.index (Some T) b e)
part_taken op L hs s w T b (Operation o x y) f = (and_parts (takes_product op) (is_product o && stays (binary_settles s (Some T) o x y w) (Some T)) f).0
part_taken op L hs s w T b (Shift left e z) f = (and_parts (takes_shift op) (stays (shift_settles s (Some T) left e z w) (Some T)) f).0
part_taken op L hs s w T b (Literal z) f = absurd cc
part_taken op L hs s w T b (Variable x) f = absurd cc
part_taken op L hs s w T b (Element a e) f = absurd cc
part_taken op L hs s w T b (Unary o e) f = absurd cc
part_taken op L hs s w T b (Conversion e t) f = tt
part_taken op L hs s w T b other f = absurd cc

pub right_taken : (op : BinaryOp) (L : Layout) (hs : Homes) (s : Scope) (w : Extent) (T : Ty) (b : ℕ) (e : Term) → IsTaken op (right_side L hs s op w (Some T) b e)
right_taken op L hs s w T b e = taken_by op (added_number op (Some T) e) (is_fused s op w (Some T) e) _ _ (added_sum op (Some T) e) (part_taken op L hs s w T b e)

-- ---- left sides

-- by whether the left side of an operator stands in its word
pub by_led : (P : Bool → Type 0) (led : Bool) → (led ≡ true → P true) → (led ≡ false → P false) → P led
by_led P true f g = f refl
by_led P false f g = g refl

-- what is known of a left side that does
pub record Led (L : Layout) (s : Scope) (op : BinaryOp) (w : Extent) (want : Option Ty) (b2 n : ℕ) (x y : Term) (part : Side) : Type 0 where
  pub turns : is_commutative op ≡ true
  pub fused : is_fused s op w want x ≡ true
  pub alone : stands_alone s op w want x y ≡ true
  pub lasts : side_lasts L b2 n part ≡ true

pub led_is : (L : Layout) (hs : Homes) (s : Scope) (op : BinaryOp) (w : Extent) (want : Option Ty) (b : ℕ) (x y : Term) → is_led L hs s op w want b x y ≡ true → Led L s op w want (b + term_size s.index x) (term_size s.index y) x y (part_side L hs s.index want b x)
unfolding is_led
led_is L hs s op w want b x y h =
    let p = (and_parts (is_commutative op && is_fused s op w want x) _ h).0 in
    let q = (and_parts (is_commutative op && is_fused s op w want x) _ h).1 in
    record {
      turns = (and_parts (is_commutative op) (is_fused s op w want x) p).0;
      fused = (and_parts (is_commutative op) (is_fused s op w want x) p).1;
      alone = (and_parts (stands_alone s op w want x y) _ q).0;
      lasts = (and_parts (stands_alone s op w want x y) _ q).1;
    }

-- the code of a right side of which nothing stands in the word
alone_by : (number : Option ℕ) (more : Bool) (whole parts : List DraftEntry → List DraftEntry) (rest : List DraftEntry) → (is_none number && more) ≡ true → side_code number false whole parts rest ≡ whole rest
alone_by (Some v) more whole parts rest h = absurd cc
alone_by None more whole parts rest h = refl

pub alone_code : (s : Scope) (op : BinaryOp) (w : Extent) (want : Option Ty) (x y : Term) (whole parts : List DraftEntry → List DraftEntry) (rest : List DraftEntry) → stands_alone s op w want x y ≡ true → side_code (added_number op want y) false whole parts rest ≡ whole rest
alone_code s op w want x y whole parts rest h = alone_by (added_number op want y) (makes_way x y || not (is_fused s op w want y)) whole parts rest h

-- sides that change places
pub binary_on-turned : (op : BinaryOp) (x y : ℤ) → is_commutative op ≡ true → binary_on op y x ≡ binary_on op x y
binary_on-turned binary.Add x y h = +ℤ_comm y x
binary_on-turned binary.Sub x y h = absurd cc
binary_on-turned binary.Mul x y h = *ℤ_comm y x
binary_on-turned binary.And x y h = ap pos (and_comm (word y) (word x))
binary_on-turned binary.Or x y h = ap pos (or_comm (word y) (word x))
binary_on-turned binary.Xor x y h = ap pos (xor_comm (word y) (word x))
binary_on-turned binary.Min x y h = omega (arith, ints, clamps)
binary_on-turned binary.Max x y h = omega (arith, ints, clamps)

pub on_both-turned : (f : ℤ → ℤ → ℤ) (o q : Option ℤ) → on_both (λ y x. f x y) q o ≡ on_both f o q
on_both-turned f None None = refl
on_both-turned f None (Some y) = refl
on_both-turned f (Some x) None = refl
on_both-turned f (Some x) (Some y) = refl

-- ---- registers that are left alone

not_and : (a b : Bool) → not (a && b) ≡ true → a ≡ true → b ≡ true → ⊥
not_and true true h p q = absurd cc
not_and true false h p q = absurd cc
not_and false b h p q = absurd cc

pub spared_apart : (L : Layout) (b n r : ℕ) → is_spared L b n r ≡ true → (p : ℕ) → b ≤ p → p < b + n → IsMade L p → reg_of L p ≢ r
spared_apart L b zero r h p lo up made = absurd (omega (arith, lo, up))
spared_apart L b (suc n) r h p lo up made =
    let here = not (nat_lt b (last_use_at L b) && nat_eq (reg_of L b) r) in
    ⊎_elim (λ (lt : b < p). spared_apart L (b + 1) n r (and_parts here (is_spared L (b + 1) n r) h).1 p (omega arith) (omega (arith, up)) made)
    (λ (ge : p ≤ b). let e : p ≡ b = omega (arith, lo, ge) in
    λ same. not_and (nat_lt b (last_use_at L b)) (nat_eq (reg_of L b) r) (and_parts here (is_spared L (b + 1) n r) h).0 (lt-ltb b (last_use_at L b) (subst (IsMade L) e made)) (eq-eqb (reg_of L b) r (ap (reg_of L) (sym e) ∙ same)))
    (cases_lt b p)

-- registers that stretches of items may write
abbrev pub IsHigh : Side → Type 0
IsHigh (Number v) = Unit {0}
IsHigh (Register r) = r ≤ 25
IsHigh (Product p q) = (p ≤ 25) × (q ≤ 25)
IsHigh (Moved kind n r) = r ≤ 25

-- what a word takes stays over code that leaves it alone
pub operand_kept : (L : Layout) (side : Side) (b n e : ℕ) {s t : State} (x : ℤ) → e ≡ b + n → IsHigh side → side_lasts L b n side ≡ true → Kept L s t b e → IsOperand side s x → IsOperand side t x
operand_kept L (Number v) b n e x is hi lasts k h = h
operand_kept L (Register r) b n e x is hi lasts k h = k.others r hi (λ p lo up made. spared_apart L b n r lasts p lo (omega (arith, is, up)) made) ∙ h
operand_kept L (Product p q) b n e x is hi lasts k h =
    ap₂ (λ u v. u * v % 2 ^ 64) (k.others p hi.0 (λ j lo up made. spared_apart L b n p (and_parts (is_spared L b n p) (is_spared L b n q) lasts).0 j lo (omega (arith, is, up)) made)) (k.others q hi.1 (λ j lo up made. spared_apart L b n q (and_parts (is_spared L b n p) (is_spared L b n q) lasts).1 j lo (omega (arith, is, up)) made)) ∙ h
operand_kept L (Moved kind c r) b n e x is hi lasts k h = ap (λ u. shifted_word kind u c) (k.others r hi (λ p lo up made. spared_apart L b n r lasts p lo (omega (arith, is, up)) made)) ∙ h

module _ (D : Laid) (L : Layout) (fit : Assigned L) where
  -- a left side that the word takes, and then a value in a register
  pub led_pairs : {c c2 d : List DraftEntry} {s : State} {m : Memory} {b b1 e hy m1 m2 : ℕ} {o1 o2 : Option ℤ} (side : Side) (n most : ℕ) → m1 + m2 ≤ most → b ≤ b1 → e ≡ b1 + n → IsHigh side → side_lasts L b1 n side ≡ true
      → Sided D L c s c2 b b1 (IsOperand side) m m1 o1 → ((t : State) → Kept L s t b b1 → Gives D L c2 t d b1 e hy m m2 o2) → Pairs D L c s d b e hy (IsOperand side) m most o2 o1
  led_pairs {c = c} {d = d} {s = s} {m = m} {b = b} {e = e} {hy = hy} {o2 = o2} side n most le l1 is hi lasts (no_side k) right = stopped o2
    where
      stopped : (o : Option ℤ) → Pairs D L c s d b e hy (IsOperand side) m most o None
      stopped None = no_left (stop_more most (omega arith) k)
      stopped (Some y) = no_right (stop_more most (omega arith) k)
  led_pairs {c = c} {c2 = c2} {d = d} {s = s} {m = m} {b = b} {b1 = b1} {e = e} {hy = hy} {m1 = m1} {m2 = m2} side n most le l1 is hi lasts (a_side {y = x} end goes kept held) right = second (right end kept)
    where
      second : {o : Option ℤ} → Gives D L c2 end d b1 e hy m m2 o → Pairs D L c s d b e hy (IsOperand side) m most o (Some x)
      second (no_value k) = no_left (stop_after most le goes k)
      second (a_value g) = pair g.end (chain most le goes g.goes) (kept_on L b e (omega arith) (omega arith) (omega arith) (omega arith) kept g.kept) g.value (operand_kept L side b1 n e x is hi lasts g.kept held)

  -- an operator whose word takes its left side
  pub turned_runs : {rest : List DraftEntry} {s : State} (side : Side) (op : BinaryOp) (leaves : Bool) (w : Extent) (t : Ty) (x y : ℤ) (a d : ℕ) → is_commutative op ≡ true → length s.x ≡ 31 → a ≤ 25 → d ≤ 25 → (leaves ≡ true → binary_leaves op ≡ true)
      → (asked_extent (binary_joins op) leaves w (Some t) ≡ Whole → IsOf t x × IsOf t y) → (asked_extent (binary_joins op) leaves w (Some t) ≡ Whole → leaves ≡ false → word (wrap t (binary_on op x y)) ≡ word (binary_on op x y))
      → IsTaken op side → IsOperand side s x → x_at s a ≡ word y
      → Sets D (operator_code side (settles (within_type w t) (binary_joins op) leaves) op t d a rest) s rest d (loose_binary op w (Some t) x y) 4
  turned_runs side op leaves w t x y a d turns sized la hi only range kept takes ex ey =
      let e = binary_on-turned op x y turns in
      set_as D L fit (ap (λ z. word (settled (within_type w t) (binary_joins op) (Some t) z)) e)
      (operation_runs D L fit side op leaves w t y x a d sized la hi only (λ q. let r = range q in (r.1, r.0)) (λ q out. ap (λ z. word (wrap t z)) e ∙ kept q out ∙ ap word (sym e)) takes ey ex)
