-- What the parts of a walk over statements are called with, and what is known where no statement is left.
use Rattle.std.proofs.Common.{◌≡◌, Bool, true, false, ℕ, ◌+◌, ◌*◌, ◌<◌, ◌≤◌, List, Bor, refl, sym, ap, ◌∙◌, arith}
use Rattle.std.specs.Prelude.{◌&&◌}
use Rattle.std.proofs.Math.Bool.{and_assoc}
use Rattle.kernel_tree.specs.declared.ast.Expr.{Expr}
use Rattle.kernel_tree.specs.declared.ast.Stmt.{Stmt}
use Rattle.kernel_tree.specs.declared.name.Name.{Name}
use Rattle.kernel_tree.specs.declared.ops.UpdateOp.{UpdateOp}
use Rattle.kernel_tree.specs.declared.part.Part.{Part}
use Rattle.kernel_tree.specs.declared.part.Part.TheVariants as part
use Rattle.kernel_tree.specs.Parts.{part_action}
use Rattle.kernel_tree.specs.Plain.{Term, Action, Choose, Block, Then, Nothing, Else}
use Rattle.kernel_tree.specs.Limits.{action_depth, block_depth}
use Rattle.kernel_tree.specs.Typing.{Scope, after_action}
use Rattle.scalar_words.specs.Layout.{Loose}
use Rattle.loop_code.specs.Loosening.{loosen_action, covers_action, covers_block}

-- ---- statements and blocks call one another

pub two_statement_below : (t : ℕ) (whole x more : Block) (a : Action) → 2 * block_depth whole + 1 ≡ t → block_depth x ≤ block_depth whole → x ≡ Then a more → 2 * action_depth a < t
two_statement_below t whole x more a h le e = omega (arith, ap block_depth e)

pub less_deep : (x more : Block) (a : Action) (d : ℕ) → x ≡ Then a more → block_depth x ≤ d → block_depth more ≤ d
less_deep x more a d e h = omega (arith, ap block_depth e)

pub two_only_block_below : (t : ℕ) (a : Action) (c : Term) (b : Block) → 2 * action_depth a ≡ t → a ≡ Choose c b Nothing → 2 * block_depth b + 1 < t
two_only_block_below t a c b h e = omega (arith, ap action_depth e)

pub two_first_block_below : (t : ℕ) (a : Action) (c : Term) (b d : Block) → 2 * action_depth a ≡ t → a ≡ Choose c b (Else d) → 2 * block_depth b + 1 < t
two_first_block_below t a c b d h e = omega (arith, ap action_depth e)

pub two_second_block_below : (t : ℕ) (a : Action) (c : Term) (b d : Block) → 2 * action_depth a ≡ t → a ≡ Choose c b (Else d) → 2 * block_depth d + 1 < t
two_second_block_below t a c b d h e = omega (arith, ap action_depth e)

-- ---- with blocks in a scope of their own between them

pub three_only_block_below : (t : ℕ) (a : Action) (c : Term) (b : Block) → 3 * action_depth a ≡ t → a ≡ Choose c b Nothing → 3 * block_depth b + 2 < t
three_only_block_below t a c b h e = omega (arith, ap action_depth e)

pub three_first_block_below : (t : ℕ) (a : Action) (c : Term) (b d : Block) → 3 * action_depth a ≡ t → a ≡ Choose c b (Else d) → 3 * block_depth b + 2 < t
three_first_block_below t a c b d h e = omega (arith, ap action_depth e)

pub three_second_block_below : (t : ℕ) (a : Action) (c : Term) (b d : Block) → 3 * action_depth a ≡ t → a ≡ Choose c b (Else d) → 3 * block_depth d + 2 < t
three_second_block_below t a c b d h e = omega (arith, ap action_depth e)

-- ---- what is left by the kinds that do nothing

-- a statement that holds no block and is no update
pub loosen_other : (s : Scope) (all : Block) (p : Part) (ls : List Loose) → ((x : Bor Name) (op : UpdateOp) (e : Bor Expr) → p ≡ part.Update x op e → ⊥) → ((c : Bor Expr) (b : Bor (List Stmt)) → p ≡ part.If c b → ⊥) → ((c : Bor Expr) (b d : Bor (List Stmt)) → p ≡ part.IfElse c b d → ⊥) → ls ≡ loosen_action s all (part_action p) ls
loosen_other s all (part.Let x t e) ls f g h = refl
loosen_other s all (part.Store a i e) ls f g h = refl
loosen_other s all (part.Update x op e) ls f g h = absurd (f x op e refl)
loosen_other s all (part.If c b) ls f g h = absurd (g c b refl)
loosen_other s all (part.IfElse c b d) ls f g h = absurd (h c b d refl)
loosen_other s all (part.Break c) ls f g h = refl

pub and_true : (b : Bool) → b ≡ (b && true)
and_true true = refl
and_true false = refl

-- after a statement the rest of the block is asked
pub covers_on : (ls : List Loose) (s t : Scope) (a : Action) (more x : Block) (before here now : Bool) → x ≡ Then a more → t ≡ after_action s a → here ≡ covers_action ls s a → now ≡ (before && here) → (now && covers_block ls t more) ≡ (before && covers_block ls s x)
covers_on ls s t a more x before here now e f g h =
    ap (λ b. b && covers_block ls t more) (h ∙ ap (λ b. before && b) g)
    ∙ ap (λ (u : Scope). (before && covers_action ls s a) && covers_block ls u more) f
    ∙ and_assoc before (covers_action ls s a) (covers_block ls (after_action s a) more)
    ∙ ap (λ (b : Block). before && covers_block ls s b) (sym e)

-- ---- what is known of a statement is known by its parts

pub after_as : (s t : Scope) (a b : Action) → a ≡ b → t ≡ after_action s b → t ≡ after_action s a
after_as s t a b e f = f ∙ ap (after_action s) (sym e)

pub covers_as : (ls : List Loose) (s : Scope) (a b : Action) (v : Bool) → a ≡ b → v ≡ covers_action ls s b → v ≡ covers_action ls s a
covers_as ls s a b v e f = f ∙ ap (covers_action ls s) (sym e)

pub loosen_as : (s : Scope) (all : Block) (a b : Action) (ls ms : List Loose) → a ≡ b → ms ≡ loosen_action s all b ls → ms ≡ loosen_action s all a ls
loosen_as s all a b ls ms e f = f ∙ ap (λ (x : Action). loosen_action s all x ls) (sym e)

pub same_depth : (n : ℕ) → n ≤ n
same_depth n = omega arith
