use Rattle.std.proofs.Common.{Bool, [], ◌∷◌, ◌++◌, sym, ap, ◌∙◌, append-nil}
use Rattle.std.specs.Prelude.{if◌then◌else◌}
use Rattle.std.proofs.lemmas.List.{map-append}
use Rattle.std.proofs.lemmas.Result.{IfOk-from_err}
use Rattle.loop_form.specs.HeldView.{view_of, view}
use Rattle.loop_lists.proofs.held_throughout.push_where.Goals as goal

pub returns-in_err-push : goal.returns-in_err-push
returns-in_err-push c = IfOk-from_err c.from_residual.result _ c.from_residual.ensures.0

pub returns-in_ok-push : goal.returns-in_ok-push
returns-in_ok-push c =
    let old = c.args.held.now.items in
    ap view c.in_ok-push.ensures.items ∙ map-append view_of old (c.args.one ∷ []) ∙ ap (λ (b : Bool). view old ++ (if b then view_of c.args.one ∷ [] else [])) (sym c.if-is_held.true)

pub returns-else-is_held : goal.returns-else-is_held
returns-else-is_held c =
    let old = view c.args.held.now.items in
    sym (ap (λ (b : Bool). old ++ (if b then view_of c.args.one ∷ [] else [])) c.if-is_held.false ∙ append-nil old)
