-- Where the items of an expression stand, for its parts one after another: sums of their counts, written as facts on
-- numbers.
use Rattle.std.proofs.Common.{◌≡◌, ℕ, ◌+◌, ◌<◌, ◌^◌, ◌++◌, Bool, true, false, List, Option, Some, None, refl, sym, ap, ap₂, ◌∙◌, arith}
use Rattle.std.specs.Prelude.{ℤ, if◌then◌else◌, option_map, IfOk}
use Rattle.std.specs.Result.{result_and}
use Rattle.std.specs.declared.result.Result.{Result}
use Rattle.std.specs.declared.result.Result.TheVariants.{Ok, Err}
use mir.Syntax.{w64}
use mir.Val.{Fits}
use Rattle.machine_model.specs.InstructionTable.{Listed}
use Rattle.kernel_tree.specs.declared.ops.Ty.{Ty}
use Rattle.kernel_tree.specs.Plain.{Term, Literal, Variable}
use Rattle.kernel_tree.specs.Items.{literal_value, term_size, index_size}
use Rattle.kernel_tree.specs.Typing.{Scope}
use Rattle.label_fix.specs.Draft.{Drafted}
use Rattle.label_fix.specs.Emits.{Emits}
use Rattle.label_fix.specs.DraftRun.{DraftEntry}
use Rattle.scalar_words.specs.Layout.{Layout, Homes}
use Rattle.value_code.specs.declared.extent.Extent.{Extent}
use Rattle.value_code.specs.declared.extent.Extent.TheVariants.{Whole}
use Rattle.value_code.specs.ItemWords.{Side, Number, Register, index_word, index_register}
use Rattle.value_code.specs.Code.{labels, IsLiteral, side_by, number_register, right_code, literal_code, loose_code, jump_code}

-- a value that is put in place of another call's
pub with_value : {T U E : Type 0} (r : Result T E) {q : Result U E} (v : U) (P : U → Type 0) → q ≡ result_and r (Ok v) → P v → IfOk q P
with_value (Ok u) v P e p = rw e p
with_value (Err u) v P e p = rw e tt

pub then_is : {A : Type 0} (t : Bool) (p q : A) → t ≡ true → p ≡ (if t then p else q)
then_is t p q e = rw e refl

pub else_is : {A : Type 0} (t : Bool) (p q : A) → t ≡ false → q ≡ (if t then p else q)
else_is t p q e = rw e refl

-- ---- room for items

pub own_room : (b k : ℕ) → b + k < 2 ^ 32 → b < 2 ^ 32
own_room b k h = omega arith

pub next_fits : (b k : ℕ) → b + k < 2 ^ 32 → Fits w64 (b + 1)
next_fits b k h = omega arith

pub whole_fits : (b k item : ℕ) → b + k < 2 ^ 32 → item + 1 ≡ b + k → Fits w64 (item + 1)
whole_fits b k item h e = omega arith

pub after_room : (b k item : ℕ) → b + (k + 1) < 2 ^ 32 → item ≡ b + k → item < 2 ^ 32
after_room b k item h e = omega arith

-- of two operands
pub left_room : (b x y : ℕ) → b + (x + y + 1) < 2 ^ 32 → b + x < 2 ^ 32
left_room b x y h = omega arith

pub right_room : (b x y item : ℕ) → b + (x + y + 1) < 2 ^ 32 → item ≡ b + x → item + y < 2 ^ 32
right_room b x y item h e = omega arith

pub led_fits : (b x y item : ℕ) → b + (x + y + 1) < 2 ^ 32 → item + 1 ≡ b + x → Fits w64 (item + 1)
led_fits b x y item h e = omega arith

pub last_fits : (b x y item item2 : ℕ) → b + (x + y + 1) < 2 ^ 32 → item ≡ b + x → item2 ≡ item + y → Fits w64 (item2 + 1)
last_fits b x y item item2 h e f = omega arith

pub last_room : (b x y item : ℕ) → b + (x + y + 1) < 2 ^ 32 → item ≡ b + x + y → item < 2 ^ 32
last_room b x y item h e = omega arith

-- of two conditions with a mark between them
pub either_left_room : (b x y : ℕ) → b + (x + 1 + y + 1) < 2 ^ 32 → b + x < 2 ^ 32
either_left_room b x y h = omega arith

pub either_mark_fits : (b x y item : ℕ) → b + (x + 1 + y + 1) < 2 ^ 32 → item ≡ b + x → Fits w64 (item + 1)
either_mark_fits b x y item h e = omega arith

pub either_right_room : (b x y item : ℕ) → b + (x + 1 + y + 1) < 2 ^ 32 → item ≡ b + x → item + 1 + y < 2 ^ 32
either_right_room b x y item h e = omega arith

pub either_last_fits : (b x y item item2 : ℕ) → b + (x + 1 + y + 1) < 2 ^ 32 → item ≡ b + x → item2 ≡ item + 1 + y → Fits w64 (item2 + 1)
either_last_fits b x y item item2 h e f = omega arith

-- of two values that are compared
pub compared_room : (b x y item : ℕ) → b + x + y < 2 ^ 32 → item ≡ b + x → item + y < 2 ^ 32
compared_room b x y item h e = omega arith

pub compared_fits : (b x y item : ℕ) → b + x + y < 2 ^ 32 → item ≡ b + x → Fits w64 (item + 1)
compared_fits b x y item h e = omega arith

pub truth_fits : (b x y size item : ℕ) → size ≡ x + y + 1 → b + size < 2 ^ 32 → item ≡ b + x + y → Fits w64 (item + 1)
truth_fits b x y size item is h e = omega arith

pub not_fits : (b x size item : ℕ) → size ≡ x + 1 → b + size < 2 ^ 32 → item ≡ b + x → Fits w64 (item + 1)
not_fits b x size item is h e = omega arith

-- of a choice by a comparison
pub chosen_fits : (b x y size item : ℕ) → size ≡ x + y + 1 → b + (size + 1) < 2 ^ 32 → item ≡ b + x + y → Fits w64 (item + 1)
chosen_fits b x y size item is h e = omega arith

pub chosen_room : (b x y size item : ℕ) → size ≡ x + y + 1 → b + (size + 1) < 2 ^ 32 → item ≡ b + x + y → item + 1 < 2 ^ 32
chosen_room b x y size item is h e = omega arith

-- ---- labels that are given

pub given_past_label : (to n a b p : ℕ) → to < n → a ≡ n + 1 → b ≡ a + p → to < b
given_past_label to n a b p h e f = omega arith

pub given_past_two_parts : (over n a b c p q : ℕ) → over ≡ n → a ≡ n + 1 → b ≡ a + p → c ≡ b + q → over < c
given_past_two_parts over n a b c p q e f g h = omega arith

pub both_given : (sense : Bool) (first over to n a : ℕ) → first ≡ (if sense then over else to) → over ≡ n → a ≡ n + 1 → to < n → first < a
both_given true first over to n a e f g h = omega arith
both_given false first over to n a e f g h = omega arith

pub either_given : (sense : Bool) (first over to n a : ℕ) → first ≡ (if sense then to else over) → over ≡ n → a ≡ n + 1 → to < n → first < a
either_given true first over to n a e f g h = omega arith
either_given false first over to n a e f g h = omega arith

pub compared_given : (to n a p q : ℕ) → to < n → a ≡ n + p + q → to < a
compared_given to n a p q h e = omega arith

pub other_given : (other n a b : ℕ) → other ≡ n → a ≡ n + 1 → b ≡ a + 1 → other < b
other_given other n a b e f g = omega arith

pub end_given : (end a b c p : ℕ) → end ≡ a → b ≡ a + 1 → c ≡ b + p → end < c
end_given end a b c p e f g = omega arith

pub end_next : (end other n a : ℕ) → end ≡ a → a ≡ n + 1 → other ≡ n → end ≡ other + 1
end_next end other n a e f g = omega arith

-- ---- the items of a whole from those of its parts

pub one_item : (b size x item last : ℕ) → size ≡ x + 1 → item ≡ b + x → last ≡ item + 1 → last ≡ b + size
one_item b size x item last is e f = omega arith

pub one_part : (b size x item : ℕ) → size ≡ x + 1 → item ≡ b + x → item + 1 ≡ b + size
one_part b size x item is e = omega arith

pub two_parts : (b size x y item last : ℕ) → size ≡ x + y + 1 → item ≡ b + x → last ≡ item + y → last + 1 ≡ b + size
two_parts b size x y item last is e f = omega arith

pub two_items : (b x y item last : ℕ) → item ≡ b + x + y → last ≡ item + 1 → last ≡ b + (x + y + 1)
two_items b x y item last e f = omega arith

pub both_items : (b x y item item2 : ℕ) → item ≡ b + x → item2 ≡ item + y → item2 + 1 ≡ b + (x + y + 1)
both_items b x y item item2 e f = omega arith

pub either_items : (b x y item item2 : ℕ) → item ≡ b + x → item2 ≡ item + 1 + y → item2 + 1 ≡ b + (x + 1 + y + 1)
either_items b x y item item2 e f = omega arith

pub choice_items : (b size x y c item item2 last : ℕ) → size ≡ x + y + c + 1 → item ≡ b + x → item2 ≡ item + y → last ≡ item2 + c + 1 → last ≡ b + size
choice_items b size x y c item item2 last is e f g = omega arith

pub indexed_items : (b k item last : ℕ) → item ≡ b + k → last ≡ item + 1 → last ≡ b + (k + 1)
indexed_items b k item last e f = omega arith

-- an index with a place has no items
pub placed_item : (b k : ℕ) → k ≡ 0 → b ≡ b + k
placed_item b k e = omega arith

pub placed_items : (b k last : ℕ) → k ≡ 0 → last ≡ b + 1 → last ≡ b + (k + 1)
placed_items b k last e f = omega arith

pub literal_size : (i : Option (List ℕ)) (b : ℕ) (e : Term) → IsLiteral (literal_value e) → b + 1 ≡ b + term_size i e
literal_size i b (Literal z) h = refl
literal_size i b other h = absurd h

-- ---- indexes

-- one that is computed
pub computed_items : (o : Option ℤ) (k : ℕ) → option_map index_word o ≡ None → k ≡ index_size o k
computed_items None k h = refl
computed_items (Some c) k h = absurd cc

pub computed_home : (o : Option ℤ) (h : ℕ) → option_map index_word o ≡ None → h ≡ number_register o h
computed_home None h e = refl
computed_home (Some c) h e = absurd cc

-- and one that is an offset from the loop variable
pub offset_items : (o : Option ℤ) (word : Option Listed) (b k : ℕ) → Some word ≡ option_map index_word o → b ≡ b + index_size o k
offset_items None word b k e = absurd cc
offset_items (Some c) word b k e = omega arith

pub offset_home : (o : Option ℤ) (word : Option Listed) (h : ℕ) → Some word ≡ option_map index_word o → index_register word ≡ number_register o h
offset_home None word h e = absurd cc
offset_home (Some c) word h e = let p : word ≡ index_word c = cc in ap index_register p

-- ---- what the word of an operator takes as its right side

pub by_number : (o : Option ℕ) (v : ℕ) (fused : Bool) (r : ℕ) (part : Side) → o ≡ Some v → Number v ≡ side_by o fused r part
by_number o v fused r part e = rw e refl

pub by_part : (o : Option ℕ) (fused : Bool) (r : ℕ) (part : Side) → o ≡ None → fused ≡ true → part ≡ side_by o fused r part
by_part o fused r part e f = rw (e, f) refl

pub by_register : (o : Option ℕ) (fused : Bool) (r : ℕ) (part : Side) → o ≡ None → fused ≡ false → Register r ≡ side_by o fused r part
by_register o fused r part e f = rw (e, f) refl

-- ---- the code of an expression that has been taken apart

pub loose_as : (L : Layout) (hs : Homes) (s : Scope) (w : Extent) (want : Option Ty) (b : ℕ) (d d2 : Drafted) (whole e : Term) → whole ≡ e → Emits d d2 (d.labels + labels s.index e) (loose_code L hs s w want b d.labels e) → Emits d d2 (d.labels + labels s.index whole) (loose_code L hs s w want b d.labels whole)
loose_as L hs s w want b d d2 whole e is p = rw is p

pub jump_as : (L : Layout) (hs : Homes) (s : Scope) (sense : Bool) (to b : ℕ) (d d2 : Drafted) (whole e : Term) → whole ≡ e → Emits d d2 (d.labels + labels s.index e) (jump_code L hs s sense to b d.labels e) → Emits d d2 (d.labels + labels s.index whole) (jump_code L hs s sense to b d.labels whole)
jump_as L hs s sense to b d d2 whole e is p = rw is p

no_labels : (m n : ℕ) → m ≡ n → m ≡ n + 0
no_labels m n e = omega arith

pub loose_literal : (L : Layout) (hs : Homes) (s : Scope) (w : Extent) (want : Option Ty) (b : ℕ) (d d2 : Drafted) (whole : Term) (v sent : ℤ) → whole ≡ Literal v → sent ≡ v → Emits d d2 d.labels (literal_code L want b sent) → Emits d d2 (d.labels + labels s.index whole) (loose_code L hs s w want b d.labels whole)
loose_literal L hs s w want b d d2 whole v sent is same p =
    loose_as L hs s w want b d d2 whole (Literal v) is (record {
      labels = no_labels d2.labels d.labels p.labels;
      code = λ rest. p.code rest ∙ ap (λ z. d.entries ++ literal_code L want b z rest) same;
    })

pub loose_variable : (L : Layout) (hs : Homes) (s : Scope) (w : Extent) (want : Option Ty) (b : ℕ) (d : Drafted) (whole : Term) (x : List ℕ) → whole ≡ Variable x → Emits d d (d.labels + labels s.index whole) (loose_code L hs s w want b d.labels whole)
loose_variable L hs s w want b d whole x is =
    loose_as L hs s w want b d d whole (Variable x) is (record {
      labels = no_labels d.labels d.labels refl;
      code = λ rest. refl;
    })

-- both sides of a comparison that have code
pub compared_both : (L : Layout) (hs : Homes) (s : Scope) (want : Option Ty) (b n item given : ℕ) (x y : Term) (number : Option ℕ) (rest : List DraftEntry) → number ≡ None → item ≡ b + term_size s.index x → given ≡ n + labels s.index x
    → loose_code L hs s Whole want b n x (loose_code L hs s Whole want item given y rest) ≡ loose_code L hs s Whole want b n x (right_code number (loose_code L hs s Whole want (b + term_size s.index x) (n + labels s.index x) y) rest)
compared_both L hs s want b n item given x y number rest e f g =
    ap₂ (λ i k. loose_code L hs s Whole want b n x (loose_code L hs s Whole want i k y rest)) f g
    ∙ ap (λ o. loose_code L hs s Whole want b n x (right_code o (loose_code L hs s Whole want (b + term_size s.index x) (n + labels s.index x) y) rest)) (sym e)
