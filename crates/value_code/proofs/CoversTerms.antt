-- Whether an expression asks no more of a name than stands in its register, put together from what its parts ask.
use Rattle.std.proofs.Common.{◌≡◌, ◌⊎◌, ⊎_elim, Box, Global, ℕ, Bool, true, false, ◌&&◌, List, Option, Some, None, refl, sym, ap, ap₂, ◌∙◌}
use Rattle.std.specs.Prelude.{ℤ, option_map, is_none}
use Rattle.machine_model.specs.InstructionTable.{Listed}
use Rattle.kernel_tree.specs.declared.name.Name.{Name}
use Rattle.kernel_tree.specs.declared.ast.Expr.{Expr}
use Rattle.kernel_tree.specs.declared.ast.Expr.TheVariants as expr
use Rattle.kernel_tree.specs.declared.ast.Expr as kind
use Rattle.kernel_tree.specs.declared.ops.Ty.{Ty}
use Rattle.kernel_tree.specs.declared.ops.UnaryOp.{UnaryOp}
use Rattle.kernel_tree.specs.declared.ops.BinaryOp.{BinaryOp}
use Rattle.kernel_tree.specs.declared.ops.CompareOp.{CompareOp}
use Rattle.kernel_tree.specs.Plain.{Term, Variable, Unary, Operation, Shift, Conversion, Choice, Comparison, term_of}
use Rattle.kernel_tree.specs.Typing.{Scope, own, side_type}
use Rattle.scalar_words.specs.Layout.{Form, Loose, loose_in}
use Rattle.value_code.specs.declared.extent.Extent.{Extent}
use Rattle.value_code.specs.Extents.{Whole, converted_extent}
use Rattle.value_code.specs.Leaving.{unary_asks, binary_asks, shift_asks}
use Rattle.value_code.specs.ItemWords.{index_word}
use Rattle.value_code.specs.Covers.{is_enough, index_form, stands_together, index_covers, covers, covers_truth}
use Rattle.value_code.proofs.IndexCode.{covers_stream, covers_computed}

-- ---- two answers, the second of which is asked for where the first is yes

pub and_then : (a b p q : Bool) → a ≡ true → a ≡ p → b ≡ q → b ≡ (p && q)
and_then a b p q is e f = f ∙ ap (λ c. c && q) (sym is ∙ e)

pub and_else : (a p q : Bool) → a ≡ false → a ≡ p → a ≡ (p && q)
and_else a p q is e = is ∙ ap (λ c. c && q) (sym is ∙ e)

-- ---- expressions

module _ (ls : List Loose) (s : Scope) (w : Extent) (want : Option Ty) (whole : Term) (r : Bool) where
  pub named : (x : List ℕ) (o : Option Form) → whole ≡ Variable x → o ≡ loose_in ls x → r ≡ is_enough o w → r ≡ covers ls s w want whole
  named x o is e f = f ∙ ap (λ (o : Option Form). is_enough o w) e ∙ ap (covers ls s w want) (sym is)

  pub unary_covers : (op : UnaryOp) (a x y : Expr) (asked : Extent) → whole ≡ Unary op (term_of a) → x ≡ a → y ≡ a → asked ≡ unary_asks s want op (term_of x) w → r ≡ covers ls s asked want (term_of y) → r ≡ covers ls s w want whole
  unary_covers op a x y asked is ex ey e f =
      f ∙ ap₂ (λ (k : Extent) (e : Expr). covers ls s k want (term_of e)) (e ∙ ap (λ (e : Expr). unary_asks s want op (term_of e) w) ex) ey ∙ ap (covers ls s w want) (sym is)

  pub shift_covers : (left : Bool) (n m : ℤ) (a x y : Expr) (asked : Extent) → whole ≡ Shift left (term_of a) n → m ≡ n → x ≡ a → y ≡ a → asked ≡ shift_asks s want left (term_of x) m w → r ≡ covers ls s asked want (term_of y) → r ≡ covers ls s w want whole
  shift_covers left n m a x y asked is em ex ey e f =
      f ∙ ap₂ (λ (k : Extent) (e : Expr). covers ls s k want (term_of e)) (e ∙ ap₂ (λ (e : Expr) (n : ℤ). shift_asks s want left (term_of e) n w) ex em) ey ∙ ap (covers ls s w want) (sym is)

  pub cast_covers : (t : Ty) (a x y : Expr) (from : Option Ty) (asked : Extent) → whole ≡ Conversion (term_of a) t → x ≡ a → y ≡ a → from ≡ own s (term_of x) → asked ≡ converted_extent w from t → r ≡ covers ls s asked from (term_of y) → r ≡ covers ls s w want whole
  cast_covers t a x y from asked is ex ey ef e f =
      f
      ∙ ap (λ (k : Extent). covers ls s k from (term_of y)) e
      ∙ ap₂ (λ (o : Option Ty) (e : Expr). covers ls s (converted_extent w o t) o (term_of e)) (ef ∙ ap (λ (e : Expr). own s (term_of e)) ex) ey
      ∙ ap (covers ls s w want) (sym is)

  module _ (op : BinaryOp) (a b x y x2 : Expr) (asked : Extent) (first : Bool) (is : whole ≡ Operation op (term_of a) (term_of b)) (ex : x ≡ a) (ey : y ≡ b) (e : asked ≡ binary_asks s want op (term_of x) (term_of y) w) (ex2 : x2 ≡ a) (f : first ≡ covers ls s asked want (term_of x2)) where
    asks : asked ≡ binary_asks s want op (term_of a) (term_of b) w
    asks = e ∙ ap₂ (λ (x y : Expr). binary_asks s want op (term_of x) (term_of y) w) ex ey

    left_covers : first ≡ covers ls s (binary_asks s want op (term_of a) (term_of b) w) want (term_of a)
    left_covers = f ∙ ap₂ (λ (k : Extent) (e : Expr). covers ls s k want (term_of e)) asks ex2

    pub binary_then : (y2 : Expr) → y2 ≡ b → first ≡ true → r ≡ covers ls s asked want (term_of y2) → r ≡ covers ls s w want whole
    binary_then y2 ey2 so g =
        and_then first r (covers ls s (binary_asks s want op (term_of a) (term_of b) w) want (term_of a)) (covers ls s (binary_asks s want op (term_of a) (term_of b) w) want (term_of b)) so left_covers (g ∙ ap₂ (λ (k : Extent) (e : Expr). covers ls s k want (term_of e)) asks ey2)
        ∙ ap (covers ls s w want) (sym is)

    pub binary_else : first ≡ false → first ≡ covers ls s w want whole
    binary_else not_so =
        and_else first (covers ls s (binary_asks s want op (term_of a) (term_of b) w) want (term_of a)) (covers ls s (binary_asks s want op (term_of a) (term_of b) w) want (term_of b)) not_so left_covers ∙ ap (covers ls s w want) (sym is)

  module _ (k a b x : Expr) (first : Bool) (is : whole ≡ Choice (term_of k) (term_of a) (term_of b)) (ex : x ≡ a) (f : first ≡ covers ls s w want (term_of x)) where
    pub choice_else : first ≡ false → first ≡ covers ls s w want whole
    choice_else not_so =
        and_else first (covers ls s w want (term_of a)) (covers ls s w want (term_of b) && covers_truth ls s (term_of k)) not_so (f ∙ ap (λ (e : Expr). covers ls s w want (term_of e)) ex) ∙ ap (covers ls s w want) (sym is)

    module _ (y : Expr) (second : Bool) (so : first ≡ true) (ey : y ≡ b) (g : second ≡ covers ls s w want (term_of y)) where
      pub choice_then : (z : Expr) → z ≡ k → second ≡ true → r ≡ covers_truth ls s (term_of z) → r ≡ covers ls s w want whole
      choice_then z ez yes2 h =
          and_then first r (covers ls s w want (term_of a)) (covers ls s w want (term_of b) && covers_truth ls s (term_of k)) so (f ∙ ap (λ (e : Expr). covers ls s w want (term_of e)) ex)
          (and_then second r (covers ls s w want (term_of b)) (covers_truth ls s (term_of k)) yes2 (g ∙ ap (λ (e : Expr). covers ls s w want (term_of e)) ey) (h ∙ ap (λ (e : Expr). covers_truth ls s (term_of e)) ez))
          ∙ ap (covers ls s w want) (sym is)

      pub choice_second : second ≡ false → second ≡ covers ls s w want whole
      choice_second not_so =
          and_then first second (covers ls s w want (term_of a)) (covers ls s w want (term_of b) && covers_truth ls s (term_of k)) so (f ∙ ap (λ (e : Expr). covers ls s w want (term_of e)) ex)
          (and_else second (covers ls s w want (term_of b)) (covers_truth ls s (term_of k)) not_so (g ∙ ap (λ (e : Expr). covers ls s w want (term_of e)) ey))
          ∙ ap (covers ls s w want) (sym is)

-- of any other expression nothing is asked
pub others_covers : (ls : List Loose) (s : Scope) (w : Extent) (want : Option Ty) (e : Expr)
    → ((x : Name) → e ≡ kind.Var x → ⊥) → ((x : Name) (i : Box Expr Global) → e ≡ kind.Read x i → ⊥) → ((op : UnaryOp) (a : Box Expr Global) → e ≡ kind.Unary op a → ⊥) → ((op : BinaryOp) (a b : Box Expr Global) → e ≡ kind.Binary op a b → ⊥)
    → ((left : Bool) (a : Box Expr Global) (n : ℤ) → e ≡ kind.Shift left a n → ⊥) → ((a : Box Expr Global) (t : Ty) → e ≡ kind.Cast a t → ⊥) → ((c a b : Box Expr Global) → e ≡ kind.Select c a b → ⊥) → true ≡ covers ls s w want (term_of e)
others_covers ls s w want (expr.Lit n) v r u b h c d = refl
others_covers ls s w want (expr.Var x) v r u b h c d = absurd (v x refl)
others_covers ls s w want (expr.Read' x p i) v r u b h c d = absurd (r x (record { ptr = p.ptr; alloc = p.alloc; value = i }) refl)
others_covers ls s w want (expr.Unary' op p a) v r u b h c d = absurd (u op (record { ptr = p.ptr; alloc = p.alloc; value = a }) refl)
others_covers ls s w want (expr.Binary' op p x q y) v r u b h c d = absurd (b op (record { ptr = p.ptr; alloc = p.alloc; value = x }) (record { ptr = q.ptr; alloc = q.alloc; value = y }) refl)
others_covers ls s w want (expr.Shift' left p a n) v r u b h c d = absurd (h left (record { ptr = p.ptr; alloc = p.alloc; value = a }) n refl)
others_covers ls s w want (expr.Cast' p a t) v r u b h c d = absurd (c (record { ptr = p.ptr; alloc = p.alloc; value = a }) t refl)
others_covers ls s w want (expr.Select' p k q x o y) v r u b h c d = absurd (d (record { ptr = p.ptr; alloc = p.alloc; value = k }) (record { ptr = q.ptr; alloc = q.alloc; value = x }) (record { ptr = o.ptr; alloc = o.alloc; value = y }) refl)
others_covers ls s w want (expr.Compare' op p x q y) v r u b h c d = refl
others_covers ls s w want (expr.And' p x q y) v r u b h c d = refl
others_covers ls s w want (expr.Or' p x q y) v r u b h c d = refl
others_covers ls s w want (expr.Not' p x) v r u b h c d = refl

-- ---- conditions

module _ (ls : List Loose) (s : Scope) where
  module _ (whole : Term) (op : CompareOp) (a b x y x2 : Expr) (want : Option Ty) (first : Bool) (is : whole ≡ Comparison op (term_of a) (term_of b)) (ex : x ≡ a) (ey : y ≡ b) (e : want ≡ side_type s (term_of x) (term_of y)) (ex2 : x2 ≡ a) (f : first ≡ covers ls s Whole want (term_of x2)) where
    sides : want ≡ side_type s (term_of a) (term_of b)
    sides = e ∙ ap₂ (λ (x y : Expr). side_type s (term_of x) (term_of y)) ex ey

    left_side : first ≡ covers ls s Whole (side_type s (term_of a) (term_of b)) (term_of a)
    left_side = f ∙ ap₂ (λ (o : Option Ty) (e : Expr). covers ls s Whole o (term_of e)) sides ex2

    pub compare_then : (y2 : Expr) (r : Bool) → y2 ≡ b → first ≡ true → r ≡ covers ls s Whole want (term_of y2) → r ≡ covers_truth ls s whole
    compare_then y2 r ey2 so g =
        and_then first r (covers ls s Whole (side_type s (term_of a) (term_of b)) (term_of a)) (covers ls s Whole (side_type s (term_of a) (term_of b)) (term_of b)) so left_side (g ∙ ap₂ (λ (o : Option Ty) (e : Expr). covers ls s Whole o (term_of e)) sides ey2)
        ∙ ap (covers_truth ls s) (sym is)

    pub compare_else : first ≡ false → first ≡ covers_truth ls s whole
    compare_else not_so = and_else first (covers ls s Whole (side_type s (term_of a) (term_of b)) (term_of a)) (covers ls s Whole (side_type s (term_of a) (term_of b)) (term_of b)) not_so left_side ∙ ap (covers_truth ls s) (sym is)

  -- two conditions
  module _ (e : Expr) (a b : Box Expr Global) (x : Expr) (first : Bool) (is : (e ≡ kind.And a b) ⊎ (e ≡ kind.Or a b)) (ex : x ≡ a.value) (f : first ≡ covers_truth ls s (term_of x)) where
    covers_both_sides : covers_truth ls s (term_of e) ≡ (covers_truth ls s (term_of a.value) && covers_truth ls s (term_of b.value))
    covers_both_sides = ⊎_elim (λ is. ap (λ (e : Expr). covers_truth ls s (term_of e)) is) (λ is. ap (λ (e : Expr). covers_truth ls s (term_of e)) is) is

    pub truths_then : (y : Expr) (r : Bool) → y ≡ b.value → first ≡ true → r ≡ covers_truth ls s (term_of y) → r ≡ covers_truth ls s (term_of e)
    truths_then y r ey so g =
        and_then first r (covers_truth ls s (term_of a.value)) (covers_truth ls s (term_of b.value)) so (f ∙ ap (λ (e : Expr). covers_truth ls s (term_of e)) ex) (g ∙ ap (λ (e : Expr). covers_truth ls s (term_of e)) ey) ∙ sym covers_both_sides

    pub truths_else : first ≡ false → first ≡ covers_truth ls s (term_of e)
    truths_else not_so = and_else first (covers_truth ls s (term_of a.value)) (covers_truth ls s (term_of b.value)) not_so (f ∙ ap (λ (e : Expr). covers_truth ls s (term_of e)) ex) ∙ sym covers_both_sides

-- of any other condition nothing is asked
pub others_truth : (ls : List Loose) (s : Scope) (e : Expr)
    → ((op : CompareOp) (a b : Box Expr Global) → e ≡ kind.Compare op a b → ⊥) → ((a b : Box Expr Global) → e ≡ kind.And a b → ⊥) → ((a b : Box Expr Global) → e ≡ kind.Or a b → ⊥) → ((a : Box Expr Global) → e ≡ kind.Not a → ⊥) → true ≡ covers_truth ls s (term_of e)
others_truth ls s (expr.Compare' op p x q y) m a o n = absurd (m op (record { ptr = p.ptr; alloc = p.alloc; value = x }) (record { ptr = q.ptr; alloc = q.alloc; value = y }) refl)
others_truth ls s (expr.And' p x q y) m a o n = absurd (a (record { ptr = p.ptr; alloc = p.alloc; value = x }) (record { ptr = q.ptr; alloc = q.alloc; value = y }) refl)
others_truth ls s (expr.Or' p x q y) m a o n = absurd (o (record { ptr = p.ptr; alloc = p.alloc; value = x }) (record { ptr = q.ptr; alloc = q.alloc; value = y }) refl)
others_truth ls s (expr.Not' p x) m a o n = absurd (n (record { ptr = p.ptr; alloc = p.alloc; value = x }) refl)
others_truth ls s (expr.Lit z) m a o n = refl
others_truth ls s (expr.Var x) m a o n = refl
others_truth ls s (expr.Read' x p i) m a o n = refl
others_truth ls s (expr.Unary' op p x) m a o n = refl
others_truth ls s (expr.Binary' op p x q y) m a o n = refl
others_truth ls s (expr.Shift' left p x z) m a o n = refl
others_truth ls s (expr.Cast' p x t) m a o n = refl
others_truth ls s (expr.Select' p k q x u y) m a o n = refl

-- ---- indexes

module _ (ls : List Loose) (i : Option (List ℕ)) (array : Option Form) (want : Option Ty) (o : Option ℤ) (computed : Bool) where
  pub stream_covers : (r : Bool) (a j : Option Form) (t : Option Ty) (v : Option Listed) → Some v ≡ option_map index_word o → a ≡ array → j ≡ index_form ls i → t ≡ want → r ≡ stands_together a j t → r ≡ index_covers ls i array want o computed
  stream_covers r a j t v is ea ej et f =
      f ∙ ap₂ (λ (a j : Option Form). stands_together a j t) ea ej ∙ ap (stands_together array (index_form ls i)) et ∙ covers_stream ls i array want o v computed (sym is)

  pub computed_then : (r first : Bool) → None ≡ option_map index_word o → first ≡ true → first ≡ is_none array → r ≡ computed → r ≡ index_covers ls i array want o computed
  computed_then r first is so e f = and_then first r (is_none array) computed so e f ∙ covers_computed ls i array want o computed (sym is)

  pub computed_else : (first : Bool) → None ≡ option_map index_word o → first ≡ false → first ≡ is_none array → first ≡ index_covers ls i array want o computed
  computed_else first is not_so e = and_else first (is_none array) computed not_so e ∙ covers_computed ls i array want o computed (sym is)
