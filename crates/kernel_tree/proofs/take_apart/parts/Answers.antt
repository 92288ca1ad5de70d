use Rattle.std.proofs.Common.{List, Option, Vec, Global, sym, ap, ap₂, ◌∙◌}
use Rattle.kernel_tree.specs.declared.ast.Stmt.{Stmt}
use Rattle.kernel_tree.specs.Plain.{Choose, Nothing, Else, term_of, action_of, block_of}
use Rattle.kernel_tree.proofs.StatementLists.{if-is, otherwise_of}
use Rattle.kernel_tree.proofs.take_apart.parts.Goals as goal

pub returns-in-None : goal.returns-in-None
returns-in-None c =
    let i = c.in-If in
    ap (λ (s : List Stmt). Choose (term_of i.cond) (block_of s) Nothing) c.deref.ensures.value ∙ sym (ap action_of i.is ∙ if-is i.cond i.then_part i.else_part ∙ ap (λ (o : Option (Vec Stmt Global)). Choose (term_of i.cond) (block_of i.then_part.items) (otherwise_of o)) c.in-None.is)

pub returns-in-Some : goal.returns-in-Some
returns-in-Some c =
    let i = c.in-If in
    ap₂ (λ (s r : List Stmt). Choose (term_of i.cond) (block_of s) (Else (block_of r))) c.deref-in-Some.ensures.value c.deref-in-Some-2.ensures.value ∙ sym (ap action_of i.is ∙ if-is i.cond i.then_part i.else_part ∙ ap (λ (o : Option (Vec Stmt Global)). Choose (term_of i.cond) (block_of i.then_part.items) (otherwise_of o)) c.in-Some.is)
