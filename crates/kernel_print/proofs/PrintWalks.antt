-- A walk over an expression by its kind, and over its operands: each is less deep, and what is appended is the whole.
use Rattle.std.proofs.Common.{◌≡◌, ℕ, ◌+◌, ◌*◌, ◌<◌, List, ◌++◌, sym, ap, subst, arith}
use Rattle.std.specs.Prelude.{max, Result, IfOk}
use Rattle.kernel_tree.specs.declared.place.Place.{Place}
use Rattle.kernel_tree.specs.TextToken.{TextToken}
use Rattle.kernel_tree.specs.Plain.{Term, Action}
use Rattle.kernel_tree.specs.Limits.{term_depth}
use Rattle.kernel_tree.specs.Printing.{spaced, print_term, print_action}

-- ---- an expression or a statement of a kind

module _ (t : ℕ) (whole : Term) (falls : 4 * term_depth whole ≡ t) where
  pub four_2_called : (e : Term) (n : ℕ) → whole ≡ e → term_depth e ≡ n + 1 → 4 * n + 2 < t
  four_2_called e n is d = let deep = ap term_depth is in omega (arith, falls, deep, d)

  pub operator_called : (e : Term) (n : ℕ) → whole ≡ e → term_depth e ≡ n + 1 → 4 * n + 3 < t
  operator_called e n is d = let deep = ap term_depth is in omega (arith, falls, deep, d)

pub as_whole : {T E : Type 0} (r : Result T E) (old new : List ℕ) (place : Place) (e whole : Term) → whole ≡ e → IfOk r (λ _. (rest : List TextToken) → new ++ spaced rest ≡ old ++ spaced (print_term e place rest)) → IfOk r (λ _. (rest : List TextToken) → new ++ spaced rest ≡ old ++ spaced (print_term whole place rest))
as_whole r old new place e whole is h = subst (λ (x : Term). IfOk r (λ _. (rest : List TextToken) → new ++ spaced rest ≡ old ++ spaced (print_term x place rest))) (sym is) h

pub as_statement : {T E : Type 0} (r : Result T E) (old new : List ℕ) (a whole : Action) → whole ≡ a → IfOk r (λ _. (rest : List TextToken) → new ++ spaced rest ≡ old ++ spaced (print_action a rest)) → IfOk r (λ _. (rest : List TextToken) → new ++ spaced rest ≡ old ++ spaced (print_action whole rest))
as_statement r old new a whole is h = subst (λ (x : Action). IfOk r (λ _. (rest : List TextToken) → new ++ spaced rest ≡ old ++ spaced (print_action x rest))) (sym is) h

-- ---- operands

pub four_2_to_first_1 : (t f d e : ℕ) → 4 * max f (max d e) + 2 ≡ t → 4 * f + 1 < t
four_2_to_first_1 t f d e h = omega arith

pub four_2_to_second_1 : (t f d e : ℕ) → 4 * max f (max d e) + 2 ≡ t → 4 * d + 1 < t
four_2_to_second_1 t f d e h = omega arith

pub four_2_to_third_1 : (t f d e : ℕ) → 4 * max f (max d e) + 2 ≡ t → 4 * e + 1 < t
four_2_to_third_1 t f d e h = omega arith
