-- Expressions of no other kind: what a `match` on one has left over.
use Rattle.std.proofs.Common.{◌≡◌, ℕ, ◌+◌, Bool, true, false, List, Option, None, Box, Global, refl, arith}
use Rattle.std.specs.Prelude.{ℤ}
use Rattle.kernel_tree.specs.declared.name.Name.{Name}
use Rattle.kernel_tree.specs.declared.ops.Ty.{Ty}
use Rattle.kernel_tree.specs.declared.ops.UnaryOp.{UnaryOp}
use Rattle.kernel_tree.specs.declared.ops.BinaryOp.{BinaryOp}
use Rattle.kernel_tree.specs.declared.ops.CompareOp.{CompareOp}
use Rattle.kernel_tree.specs.declared.ast.Expr.{Expr}
use Rattle.kernel_tree.specs.declared.ast.Expr.TheVariants as expr
use Rattle.kernel_tree.specs.declared.ast.Expr as whole
use Rattle.kernel_tree.specs.Plain.{Term, term_of}
use Rattle.kernel_tree.specs.Items.{term_size}
use Rattle.kernel_tree.specs.Kinds.{IsValue, IsTruth}
use Rattle.kernel_tree.specs.Typing.{Scope}
use Rattle.label_fix.specs.DraftRun.{DraftEntry}
use Rattle.scalar_words.specs.Layout.{Layout, Homes, reg_of}
use Rattle.value_code.specs.ItemWords.{pick_code}
use Rattle.value_code.specs.Code.{HasParts, flag_condition, choice_code, flags_code, jump_code, one_of_code}

-- no condition but a comparison, `&&`, `||` and `!`
pub no_truth : (e : Expr) → IsTruth (term_of e) → ((op : CompareOp) (x y : Box Expr Global) → e ≡ whole.Compare op x y → ⊥) → ((x y : Box Expr Global) → e ≡ whole.And x y → ⊥) → ((x y : Box Expr Global) → e ≡ whole.Or x y → ⊥) → ((x : Box Expr Global) → e ≡ whole.Not x → ⊥) → ⊥
no_truth (expr.Compare' op p a q b) k f g h i = f op (record { ptr = p.ptr; alloc = p.alloc; value = a }) (record { ptr = q.ptr; alloc = q.alloc; value = b }) refl
no_truth (expr.And' p a q b) k f g h i = g (record { ptr = p.ptr; alloc = p.alloc; value = a }) (record { ptr = q.ptr; alloc = q.alloc; value = b }) refl
no_truth (expr.Or' p a q b) k f g h i = h (record { ptr = p.ptr; alloc = p.alloc; value = a }) (record { ptr = q.ptr; alloc = q.alloc; value = b }) refl
no_truth (expr.Not' p a) k f g h i = i (record { ptr = p.ptr; alloc = p.alloc; value = a }) refl
no_truth e k f g h i = k

-- no value but those of a word
pub no_value : (e : Expr) → IsValue (term_of e) → ((v : ℤ) → e ≡ whole.Lit v → ⊥) → ((x : Name) → e ≡ whole.Var x → ⊥) → ((a : Name) (x : Box Expr Global) → e ≡ whole.Read a x → ⊥) → ((op : UnaryOp) (x : Box Expr Global) → e ≡ whole.Unary op x → ⊥) → ((op : BinaryOp) (x y : Box Expr Global) → e ≡ whole.Binary op x y → ⊥) → ((left : Bool) (x : Box Expr Global) (n : ℤ) → e ≡ whole.Shift left x n → ⊥) → ((x : Box Expr Global) (t : Ty) → e ≡ whole.Cast x t → ⊥) → ((c x y : Box Expr Global) → e ≡ whole.Select c x y → ⊥) → ⊥
no_value (expr.Lit v) k l n r u b s c w = l v refl
no_value (expr.Var x) k l n r u b s c w = n x refl
no_value (expr.Read' a p x) k l n r u b s c w = r a (record { ptr = p.ptr; alloc = p.alloc; value = x }) refl
no_value (expr.Unary' op p x) k l n r u b s c w = u op (record { ptr = p.ptr; alloc = p.alloc; value = x }) refl
no_value (expr.Binary' op p x q y) k l n r u b s c w = b op (record { ptr = p.ptr; alloc = p.alloc; value = x }) (record { ptr = q.ptr; alloc = q.alloc; value = y }) refl
no_value (expr.Shift' left p x m) k l n r u b s c w = s left (record { ptr = p.ptr; alloc = p.alloc; value = x }) m refl
no_value (expr.Cast' p x t) k l n r u b s c w = c (record { ptr = p.ptr; alloc = p.alloc; value = x }) t refl
no_value (expr.Select' p x q y o z) k l n r u b s c w = w (record { ptr = p.ptr; alloc = p.alloc; value = x }) (record { ptr = q.ptr; alloc = q.alloc; value = y }) (record { ptr = o.ptr; alloc = o.alloc; value = z }) refl
no_value e k l n r u b s c w = k

-- no value that stands in the word of its user but operations, shifts and casts
pub no_parts : (e : Expr) → HasParts true (term_of e) → ((op : BinaryOp) (x y : Box Expr Global) → e ≡ whole.Binary op x y → ⊥) → ((left : Bool) (x : Box Expr Global) (n : ℤ) → e ≡ whole.Shift left x n → ⊥) → ((x : Box Expr Global) (t : Ty) → e ≡ whole.Cast x t → ⊥) → ⊥
no_parts (expr.Binary' op p x q y) k b s c = b op (record { ptr = p.ptr; alloc = p.alloc; value = x }) (record { ptr = q.ptr; alloc = q.alloc; value = y }) refl
no_parts (expr.Shift' left p x m) k b s c = s left (record { ptr = p.ptr; alloc = p.alloc; value = x }) m refl
no_parts (expr.Cast' p x t) k b s c = c (record { ptr = p.ptr; alloc = p.alloc; value = x }) t refl
no_parts e k b s c = k

-- ---- a choice by a condition that is no comparison

pub no_flags : (s : Scope) (e : Expr) → ((op : CompareOp) (x y : Box Expr Global) → e ≡ whole.Compare op x y → ⊥) → flag_condition s (term_of e) ≡ None
no_flags s (expr.Compare' op p a q b) other = absurd (other op (record { ptr = p.ptr; alloc = p.alloc; value = a }) (record { ptr = q.ptr; alloc = q.alloc; value = b }) refl)
no_flags s e other = refl

picked_by : (o : Option ℕ) (flags jump : List DraftEntry → List DraftEntry) (d p q n : ℕ) (rest : List DraftEntry) → o ≡ None → jump (pick_code d p q n rest) ≡ choice_code o flags jump d p q n rest
picked_by o flags jump d p q n rest e = rw e refl

pub picked_is : (L : Layout) (hs : Homes) (s : Scope) (b n given item other : ℕ) (c : Term) (p q : ℕ) (rest : List DraftEntry) → flag_condition s c ≡ None → other ≡ n → given ≡ n + 2 → item ≡ b + term_size s.index c
    → jump_code L hs s false other b given c (pick_code (reg_of L item) p q other rest) ≡ one_of_code L hs s b n c p q rest
picked_is L hs s b n given item other c p q rest none e f g = rw (e, f, g) (picked_by (flag_condition s c) (flags_code L hs s b (n + 2) c) (jump_code L hs s false n b (n + 2) c) (reg_of L (b + term_size s.index c)) p q n rest none)

pub picked_labels : (n k given given2 given3 given4 : ℕ) → given ≡ n + 1 → given2 ≡ given + 1 → given3 ≡ given2 + k → given4 ≡ given3 → given4 ≡ n + (2 + k)
picked_labels n k given given2 given3 given4 e f g h = omega arith
