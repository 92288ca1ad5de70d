-- A walk over an expression by its kind, and over its operands: each is less deep, and what is resolved is the whole.
use Rattle.std.proofs.Common.{◌≡◌, ℕ, ◌+◌, ◌*◌, ◌<◌, ℤ, List, Option, None, Some, refl, sym, ap, subst, arith}
use Rattle.std.specs.Prelude.{max, Result, IfOk, option_map}
use Rattle.kernel_tree.specs.declared.ops.Ty.{Ty}
use Rattle.kernel_tree.specs.declared.ops.Ty.TheVariants as ty
use Rattle.kernel_tree.specs.Plain.{Term}
use Rattle.kernel_tree.specs.Wrap.{wrap}
use Rattle.kernel_tree.specs.Limits.{term_depth}
use Rattle.kernel_tree.specs.Typing.{Scope, array_type}
use Rattle.kernel_plan.specs.declared.node.Node.{Node}
use Rattle.kernel_plan.specs.Trees.{Tree, Element, tree_of}
use Rattle.kernel_plan.specs.Resolve.{slot_of, stream_tree, read_tree, resolved}

-- ---- an expression of a kind

module _ (t : ℕ) (whole : Term) (falls : 4 * term_depth whole ≡ t) where
  pub four_3_called : (e : Term) (n : ℕ) → whole ≡ e → term_depth e ≡ n + 1 → 4 * n + 3 < t
  four_3_called e n is d = let deep = ap term_depth is in omega (arith, falls, deep, d)

  pub operand_called : (e : Term) (n : ℕ) → whole ≡ e → term_depth e ≡ n + 1 → 4 * n + 1 < t
  operand_called e n is d = let deep = ap term_depth is in omega (arith, falls, deep, d)

pub as_whole : {E : Type 0} (r : Result Node E) (s : Scope) (want : Option Ty) (e whole : Term) → whole ≡ e → IfOk r (λ n. tree_of n ≡ resolved s want e) → IfOk r (λ n. tree_of n ≡ resolved s want whole)
as_whole r s want e whole is h = subst (λ (x : Term). IfOk r (λ n. tree_of n ≡ resolved s want x)) (sym is) h

-- ---- operands

pub four_3_to_first_1 : (t f d e : ℕ) → 4 * max f (max d e) + 3 ≡ t → 4 * f + 1 < t
four_3_to_first_1 t f d e h = omega arith

pub four_3_to_others_2 : (t f d e : ℕ) → 4 * max f (max d e) + 3 ≡ t → 4 * max d e + 2 < t
four_3_to_others_2 t f d e h = omega arith

-- ---- an element

pub stream_read : (s : Scope) (a : List ℕ) (o : Option ℤ) (c : ℤ) (i : Tree) → Some c ≡ option_map (wrap ty.U64) o → stream_tree s a c ≡ read_tree s a o i
stream_read s a None c i h = absurd cc
stream_read s a (Some d) c i h = let same : c ≡ wrap ty.U64 d = cc in ap (stream_tree s a) same

pub computed_read : (s : Scope) (a : List ℕ) (o : Option ℤ) (i : Tree) → None ≡ option_map (wrap ty.U64) o → Element (slot_of s a) (array_type s a) i ≡ read_tree s a o i
computed_read s a None i h = refl
computed_read s a (Some d) i h = absurd cc
