use Rattle.std.proofs.Common.{◌+◌, ◌++◌, List, Option, Vec, Global, refl, sym, ap, ap₂, ◌∙◌, arith, drop}
use Rattle.std.specs.Prelude.{string_bytes}
use Rattle.std.proofs.lemmas.Result.{IfOk-weaker, IfOk-from_err}
use Rattle.kernel_tree.specs.declared.ast.Stmt.{Stmt}
use Rattle.kernel_tree.specs.Plain.{Action, Define, Put, Update, Choose, Leave, Block, Nothing, Else, name_of, term_of, action_of, block_of}
use Rattle.kernel_tree.specs.Limits.{action_depth, block_depth}
use Rattle.kernel_tree.specs.Printing.{spaced, print_action, print_block}
use Rattle.kernel_tree.proofs.StatementLists.{if-is, otherwise_of}
use Rattle.kernel_tree.proofs.Walks.{next_statement, no_statement-sym}
use Rattle.kernel_tree.proofs.Measures.{three_2_to_1, three_statement_below}
use Rattle.kernel_print.proofs.PrintWalks.{as_statement}
use Rattle.kernel_print.proofs.BlockWalks.{less_deep}
use Rattle.kernel_print.proofs.stmt.+statements.Goals as goal

pub print_stmt-print_then-requires : goal.print_stmt-print_then-requires
print_stmt-print_then-requires t c =
    let i = c.in-If in
    let z = ap action_depth (ap action_of i.is ∙ if-is i.cond i.then_part i.else_part) in
    let b = ap (λ (s : List Stmt). block_depth (block_of s)) c.deref.ensures.value in
    (omega (arith, z, b), tt)

pub print_stmt-print_else-requires : goal.print_stmt-print_else-requires
print_stmt-print_else-requires t c =
    let i = c.in-If in
    let z = ap action_depth (ap action_of i.is ∙ if-is i.cond i.then_part i.else_part ∙ ap (λ (o : Option (Vec Stmt Global)). Choose (term_of i.cond) (block_of i.then_part.items) (otherwise_of o)) c.in-Some.is) in
    let b = ap (λ (s : List Stmt). block_depth (block_of s)) c.deref-in-Some.ensures.value in
    (omega (arith, z, b), tt)

pub print_stmt-returns-in-None : goal.print_stmt-returns-in-None
print_stmt-returns-in-None t c rest =
    let i = c.in-If in
    let z = ap action_of i.is ∙ if-is i.cond i.then_part i.else_part ∙ ap (λ (o : Option (Vec Stmt Global)). Choose (term_of i.cond) (block_of i.then_part.items) (otherwise_of o)) c.in-None.is in
    let b = ap (λ (s : List Stmt). Choose (term_of i.cond) (block_of s) Nothing) c.deref.ensures.value in
    c.in_ok-print_then-in-If.ensures rest ∙ ap (λ (s : Action). string_bytes c.args.out.now ++ spaced (print_action s rest)) (b ∙ sym z)

pub print_stmt-returns-in-Some : goal.print_stmt-returns-in-Some
print_stmt-returns-in-Some t c =
    let i = c.in-If in
    let z = ap action_of i.is ∙ if-is i.cond i.then_part i.else_part ∙ ap (λ (o : Option (Vec Stmt Global)). Choose (term_of i.cond) (block_of i.then_part.items) (otherwise_of o)) c.in-Some.is in
    let b = ap₂ (λ (s r : List Stmt). Choose (term_of i.cond) (block_of s) (Else (block_of r))) c.deref.ensures.value c.deref-in-Some.ensures.value in
    IfOk-weaker c.print_else.result _ _ (λ _ h rest. h rest ∙ c.in_ok-print_then-in-If.ensures _ ∙ ap (λ (s : Action). string_bytes c.args.out.now ++ spaced (print_action s rest)) (b ∙ sym z)) c.print_else.ensures

-- ---- a statement by its kind

pub print_stmt-returns-in-Let : goal.print_stmt-returns-in-Let
print_stmt-returns-in-Let t c = as_statement c.print_let.result (string_bytes c.args.out.now) (string_bytes c.print_let.new.out) (Define (name_of c.in-Let.name) c.in-Let.ty (term_of c.in-Let.value)) (action_of c.args.stmt.now) (ap action_of c.in-Let.is) c.print_let.ensures

pub print_stmt-returns-in-Store : goal.print_stmt-returns-in-Store
print_stmt-returns-in-Store t c = as_statement c.print_store.result (string_bytes c.args.out.now) (string_bytes c.print_store.new.out) (Put (name_of c.in-Store.array) (term_of c.in-Store.index) (term_of c.in-Store.value)) (action_of c.args.stmt.now) (ap action_of c.in-Store.is) c.print_store.ensures

pub print_stmt-returns-in-Update : goal.print_stmt-returns-in-Update
print_stmt-returns-in-Update t c = as_statement c.print_update.result (string_bytes c.args.out.now) (string_bytes c.print_update.new.out) (Update (name_of c.in-Update.name) c.in-Update.op (term_of c.in-Update.value)) (action_of c.args.stmt.now) (ap action_of c.in-Update.is) c.print_update.ensures

pub print_stmt-returns-in-Break : goal.print_stmt-returns-in-Break
print_stmt-returns-in-Break t c = as_statement c.print_break.result (string_bytes c.args.out.now) (string_bytes c.print_break.new.out) (Leave (term_of c.in-Break.cond)) (action_of c.args.stmt.now) (ap action_of c.in-Break.is) c.print_break.ensures

-- ---- a call that failed owes nothing

pub print_stmt-returns-in_err-print_then-in-If : goal.print_stmt-returns-in_err-print_then-in-If
print_stmt-returns-in_err-print_then-in-If t c = IfOk-from_err _ _ c.from_residual.ensures.0

pub print_then-returns-in_err-put_mark : goal.print_then-returns-in_err-put_mark
print_then-returns-in_err-put_mark t c = IfOk-from_err _ _ c.from_residual.ensures.0

pub print_then-returns-in_err-print_before : goal.print_then-returns-in_err-print_before
print_then-returns-in_err-print_before t c = IfOk-from_err _ _ c.from_residual-in_err-print_before.ensures.0

pub print_else-returns-in_err-put_mark : goal.print_else-returns-in_err-put_mark
print_else-returns-in_err-put_mark t c = IfOk-from_err _ _ c.from_residual.ensures.0

pub print_else-returns-in_err-put_mark-2 : goal.print_else-returns-in_err-put_mark-2
print_else-returns-in_err-put_mark-2 t c = IfOk-from_err _ _ c.from_residual-in_err-put_mark-2.ensures.0

pub print_statements-returns-in_err-print_stmt : goal.print_statements-returns-in_err-print_stmt
print_statements-returns-in_err-print_stmt t c = IfOk-from_err _ _ c.from_residual.ensures.0

-- ---- blocks

pub print_then-print_statements-requires : goal.print_then-print_statements-requires
print_then-print_statements-requires t c = (three_2_to_1 t (block_depth (block_of c.args.block.now)) c.decreases, tt)

pub print_else-print_statements-requires : goal.print_else-print_statements-requires
print_else-print_statements-requires t c = (three_2_to_1 t (block_depth (block_of c.args.block.now)) c.decreases, tt)

pub print_then-returns : goal.print_then-returns
print_then-returns t c = IfOk-weaker c.print_statements.result _ _ (λ _ h rest. h rest ∙ c.in_ok-print_before.ensures _ ∙ c.in_ok-put_mark.ensures _) c.print_statements.ensures

pub print_else-returns : goal.print_else-returns
print_else-returns t c = IfOk-weaker c.print_statements.result _ _ (λ _ h rest. h rest ∙ c.in_ok-put_mark-2.ensures _ ∙ c.in_ok-put_mark.ensures _) c.print_statements.ensures

pub print_statements-loop-stmt-init : goal.print_statements-loop-stmt-init
print_statements-loop-stmt-init t c = record { depth = omega arith; text = λ rest. refl }

pub print_statements-print_stmt-requires : goal.print_statements-print_stmt-requires
print_statements-print_stmt-requires t c =
    let l = c.loop-stmt in
    let x = block_of (drop l.stmt-index c.args.block.now) in
    let more = block_of (drop (l.stmt-index + 1) c.args.block.now) in
    let a = action_of c.stmt-item.result in
    let e = next_statement c.args.block.now l.stmt-index c.stmt-item.result c.loop-stmt-test.true c.stmt-item.is in
    (three_statement_below t (block_of c.args.block.now) x more a c.decreases l.invariant.depth e, tt)

pub print_statements-loop-stmt-preserved : goal.print_statements-loop-stmt-preserved
print_statements-loop-stmt-preserved t c =
    let l = c.loop-stmt in
    let x = block_of (drop l.stmt-index c.args.block.now) in
    let more = block_of (drop (l.stmt-index + 1) c.args.block.now) in
    let a = action_of c.stmt-item.result in
    let e = next_statement c.args.block.now l.stmt-index c.stmt-item.result c.loop-stmt-test.true c.stmt-item.is in
    record {
      depth = less_deep (block_of c.args.block.now) x more a l.invariant.depth e;
      text = λ rest. c.in_ok-print_stmt.ensures _ ∙ sym (ap (λ (b : Block). string_bytes l.out ++ spaced (print_block b rest)) e) ∙ l.invariant.text rest;
    }

pub print_statements-returns : goal.print_statements-returns
print_statements-returns t c =
    let l = c.loop-stmt in
    let end = no_statement-sym c.args.block.now l.stmt-index c.loop-stmt-test.false in
    IfOk-weaker c.put_mark.result _ _ (λ _ h rest. h rest ∙ ap (λ (b : Block). string_bytes l.out ++ spaced (print_block b rest)) end ∙ l.invariant.text rest) c.put_mark.ensures
