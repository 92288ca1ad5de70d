-- A row of statements as a list.
use Rattle.std.proofs.Common.{◌≡◌, Option, None, Some, Vec, Global, refl, ap, ◌∙◌}
use Rattle.kernel_tree.specs.declared.ast.Stmt.{Stmt, Row_of-Stmt, end_of-Stmt, more_of-Stmt, items-the_row-Stmt, items_hidden-the_row-Stmt-0}
use Rattle.kernel_tree.specs.declared.ast.Stmt.TheBlock.{hidden-the_row-Stmt-0}
use Rattle.kernel_tree.specs.declared.ast.Stmt.TheVariants as stmt
use Rattle.kernel_tree.specs.declared.ast.Expr.{Expr}
use Rattle.kernel_tree.specs.Plain.{Block, Otherwise, Then, Choose, Nothing, Else, term_of, action_of, row_of, block_of}

pub rows : (m : _) (k : Row_of-Stmt m) → row_of k ≡ block_of (items-the_row-Stmt m k)
rows m end_of-Stmt = refl
rows m (more_of-Stmt s rest) = ap (λ (b : Block). Then (action_of s) b) (rows _ rest)

-- the statements of a vector inside a statement are those of the vector
pub held_rows : (v : Vec Stmt Global) → row_of (hidden-the_row-Stmt-0 v) ≡ block_of v.items
held_rows v = rows _ (hidden-the_row-Stmt-0 v) ∙ ap block_of (items_hidden-the_row-Stmt-0 v)

pub choose-is : (c : Expr) (v : Vec Stmt Global) → action_of (stmt.If c v None) ≡ Choose (term_of c) (block_of v.items) Nothing
choose-is c v = ap (λ (b : Block). Choose (term_of c) b Nothing) (held_rows v)

pub choose_else-is : (c : Expr) (v w : Vec Stmt Global) → action_of (stmt.If c v (Some w)) ≡ Choose (term_of c) (block_of v.items) (Else (block_of w.items))
choose_else-is c v w = ap (λ (b : Block). Choose (term_of c) b (Else (row_of (hidden-the_row-Stmt-0 w)))) (held_rows v) ∙ ap (λ (b : Block). Choose (term_of c) (block_of v.items) (Else b)) (held_rows w)

abbrev pub otherwise_of : Option (Vec Stmt Global) → Otherwise
otherwise_of None = Nothing
otherwise_of (Some v) = Else (block_of v.items)

-- a choice, whether it has a second block or not
pub if-is : (c : Expr) (v : Vec Stmt Global) (o : Option (Vec Stmt Global)) → action_of (stmt.If c v o) ≡ Choose (term_of c) (block_of v.items) (otherwise_of o)
if-is c v None = choose-is c v
if-is c v (Some w) = choose_else-is c v w
