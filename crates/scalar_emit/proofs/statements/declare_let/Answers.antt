use Rattle.std.proofs.Common.{sym, ap, ◌∙◌}
use Rattle.std.proofs.lemmas.List.{map-append}
use Rattle.kernel_tree.specs.Plain.{name_of}
use Rattle.scalar_words.specs.View.{homes_of, home_of}
use Rattle.loop_code.specs.Statements.{defined_homes}
use Rattle.guest_types.proofs.Errors.{on_error}
use Rattle.scalar_emit.proofs.StatementCode.{let_pushed}
use Rattle.scalar_emit.proofs.statements.declare_let.Goals as goal

pub returns-in_err-push-in-Some : goal.returns-in_err-push-in-Some
returns-in_err-push-in-Some c = on_error _ _ c.from_residual.ensures.0

pub returns-in-None : goal.returns-in-None
returns-in-None c = ap (defined_homes c.args.layout.now c.args.item (homes_of c.args.homes.now.items) (name_of c.args.name.now)) (sym c.in-None.is)

pub returns-in_ok-push-in-Some : goal.returns-in_ok-push-in-Some
returns-in_ok-push-in-Some c =
    let hs = homes_of c.args.homes.now.items in
    let x = name_of c.args.name.now in
    ap homes_of c.in_ok-push-in-Some.ensures.items
    ∙ map-append home_of c.args.homes.now.items _
    ∙ let_pushed c.args.layout.now hs c.args.item x c.text.result.now c.reg.result.number c.last_use.result c.text.ensures c.reg.ensures c.last_use.ensures
    ∙ ap (defined_homes c.args.layout.now c.args.item hs x) (sym c.in-Some.is)
