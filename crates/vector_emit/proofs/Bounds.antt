-- The loop's bound is a parameter, and so it stays while the loop runs.
use Rattle.std.proofs.Common.{◌≡◌, ℕ, Bool, true, false, List, [], ◌∷◌, Some, None, refl, sym, ap, ◌∙◌}
use Rattle.std.specs.Prelude.{pos, bytes_eq, slice_get, find, option_map, unwrap_or, if◌then◌else◌}
use Rattle.kernel_tree.specs.declared.ops.Ty.TheVariants.{U64}
use Rattle.kernel_tree.specs.declared.ast.Shape.TheVariants.{Scalar}
use Rattle.kernel_tree.specs.Plain.{Parameter, PlainLoop, Program}
use Rattle.kernel_tree.specs.Typing.{check_fault}
use Rattle.kernel_tree.proofs.Names.{bytes_eq-told, param_alone}
use Rattle.kernel_meaning.specs.Operators.{word}
use Rattle.kernel_meaning.specs.Eval.{Names, is_named, value_of, value_at}
use Rattle.kernel_meaning.specs.ScalarRun.{bound_of}
use Rattle.vector_order.specs.Order.{is_accumulator, Steady}
use Rattle.vector_order.proofs.LoopHead.{no_names}

-- ---- a parameter is no accumulator

pub not_accumulator : (k : Program) (r : ℕ) (q : Parameter) → check_fault k ≡ None → slice_get k.params r ≡ Some q → is_accumulator k q.name ≡ false
not_accumulator k r q checked at = no_names q.name k.vars (param_alone k r q checked at)

-- ---- its value stays

value_steady : (k : Program) (x : List ℕ) (ms ns : Names) → is_accumulator k x ≡ false → Steady k ms ns → value_at ns x ≡ value_at ms x
value_steady k x [] [] no' h = refl
value_steady k x [] (n ∷ ns) no' h = elim h [ ]
value_steady k x (m ∷ ms) [] no' h = elim h [ ]
value_steady k x (m ∷ ms) (n ∷ ns) no' h =
    ap (λ y. unwrap_or (option_map value_of (if bytes_eq y x then Some n else find (is_named x) ns)) (pos 0)) (sym h.0) ∙ by_name (bytes_eq m.name x) refl (value_steady k x ms ns no' h.2)
  where
    by_name : (b : Bool) → bytes_eq m.name x ≡ b → value_at ns x ≡ value_at ms x → unwrap_or (option_map value_of (if b then Some n else find (is_named x) ns)) (pos 0) ≡ unwrap_or (option_map value_of (if b then Some m else find (is_named x) ms)) (pos 0)
    by_name true e more = h.1 (ap (is_accumulator k) (bytes_eq-told m.name x e) ∙ no')
    by_name false e more = more

pub bound_steady : (k : Program) (l : PlainLoop) (r : ℕ) (ms ns : Names) → check_fault k ≡ None → slice_get k.params r ≡ Some (record { name = l.bound; shape = Scalar U64 }) → Steady k ms ns → bound_of l ns ≡ bound_of l ms
bound_steady k l r ms ns checked at h = ap word (value_steady k l.bound ms ns (not_accumulator k r _ checked at) h)
