-- Masks of worked items: of `a == 0 || b == 0 && c == 0`, whose items begin at 10, and of an `if` with two blocks.
use Rattle.std.proofs.Common.{◌≡◌, ℕ, pos, List, [], ◌∷◌, Some, None, true, false, refl}
use Rattle.kernel_tree.specs.declared.ops.CompareOp.TheVariants as compare
use Rattle.kernel_tree.specs.Plain.{Term, Literal, Variable, Comparison, Both, Either, Define, Choose, Done, Then, Else}
use Rattle.predicate_plan.specs.Masks.{part, term_masks, action_masks}

abbrev i : List ℕ
i = 105 ∷ []

abbrev a : List ℕ
a = 97 ∷ []

abbrev zero_at : List ℕ → Term
zero_at x = Comparison compare.Eq (Variable x) (Literal (pos 0))

-- 10, 11, 12 the first comparison, 13 the mark, 14 to 16 the second, 17 to 19 the third, 20 `&&`, 21 `||`
masks_of_either : term_masks (Some i) 10 [] (Either (zero_at a) (Both (zero_at a) (zero_at a)))
    ≡ [] ∷ [] ∷ [] ∷ [] ∷ (part 12 false ∷ []) ∷ (part 12 false ∷ []) ∷ (part 12 false ∷ []) ∷ (part 12 false ∷ part 16 true ∷ []) ∷ (part 12 false ∷ part 16 true ∷ []) ∷ (part 12 false ∷ part 16 true ∷ []) ∷ (part 12 false ∷ []) ∷ [] ∷ []
masks_of_either = refl

-- 10 to 12 the condition, 13 `then`, 14 and 15 a `let`, 16 `else`, 17 and 18 another, 19 `end`
choice : action_masks (Some i) 10 [] (Choose (zero_at a) (Then (Define a None (Variable i)) Done) (Else (Then (Define a None (Variable i)) Done)))
    ≡ [] ∷ [] ∷ [] ∷ [] ∷ (part 12 true ∷ []) ∷ (part 12 true ∷ []) ∷ [] ∷ (part 12 false ∷ []) ∷ (part 12 false ∷ []) ∷ [] ∷ []
choice = refl
