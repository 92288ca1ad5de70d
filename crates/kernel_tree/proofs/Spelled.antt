-- What is known of a kernel that some text spells: at most eight parameters, and each `break` in the loop's own block.
use Rattle.std.proofs.Common.{◌≡◌, ◌≤◌, true, false, length, Some, refl, subst}
use Rattle.std.proofs.Math.Logic.{∥∥₁_elim}
use Rattle.std.proofs.Math.Bridge.{le_prop}
use Rattle.std.proofs.Math.Bool.{Bool-set}
use Rattle.std.proofs.lemmas.Bool.{and_from}
use Rattle.kernel_tree.specs.Plain.{Action, Choose, Leave, Block, Done, Then, Otherwise, Nothing, Else, PlainLoop, Program}
use Rattle.kernel_tree.specs.Grammar.{IsTree}
use Rattle.kernel_tree.specs.Loops.{is_whole, is_whole_block, is_whole_otherwise, is_outer, has_outer_breaks}
use Rattle.kernel_tree.proofs.Well.{tokens_from, WellAction, WellBlock, WellOtherwise, WellForLoop, WellProgram, well_tree}

well_kernel : (k : Program) → IsTree k → WellProgram k
well_kernel k t = well_tree t.tree (tokens_from t.words t.tokens)

pub few_params : (k : Program) → ∥ IsTree k ∥₁ → length k.params ≤ 8
few_params k tree = ∥∥₁_elim tree le_prop (λ t. (well_kernel k t).few)

-- ---- breaks

mutual
  whole_action : (s : Action) → WellAction false s → is_whole s ≡ true
  whole_action (Choose c b d) w = and_from (is_whole_block b) (is_whole_otherwise d) (whole_block b w.1.0) (whole_otherwise d w.1.1)
  whole_action (Leave c) w = let never = w.0 in absurd cc
  whole_action other w = refl

  whole_block : (b : Block) → WellBlock false b → is_whole_block b ≡ true
  whole_block Done w = refl
  whole_block (Then s b) w = and_from (is_whole s) (is_whole_block b) (whole_action s w.0) (whole_block b w.1)

  whole_otherwise : (d : Otherwise) → WellOtherwise d → is_whole_otherwise d ≡ true
  whole_otherwise Nothing w = refl
  whole_otherwise (Else b) w = whole_block b w

outer_action : (s : Action) → WellAction true s → is_outer s ≡ true
outer_action (Choose c b d) w = and_from (is_whole_block b) (is_whole_otherwise d) (whole_block b w.1.0) (whole_otherwise d w.1.1)
outer_action other w = refl

outer_block : (b : Block) → WellBlock true b → has_outer_breaks b ≡ true
outer_block Done w = refl
outer_block (Then s b) w = and_from (is_outer s) (has_outer_breaks b) (outer_action s w.0) (outer_block b w.1)

outer_loop : (k : Program) (l : PlainLoop) → k.for_loop ≡ Some l → WellProgram k → has_outer_breaks l.body ≡ true
outer_loop k l for_loop w = let body : WellForLoop (Some l) = subst WellForLoop for_loop w.for_loop in outer_block l.body body.1.1

pub outer_breaks : (k : Program) (l : PlainLoop) → ∥ IsTree k ∥₁ → k.for_loop ≡ Some l → has_outer_breaks l.body ≡ true
outer_breaks k l tree for_loop = ∥∥₁_elim tree (Bool-set _ _) (λ t. outer_loop k l for_loop (well_kernel k t))
