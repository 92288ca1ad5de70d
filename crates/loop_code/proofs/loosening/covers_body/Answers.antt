use Rattle.std.proofs.Common.{refl, ap, ◌∙◌}
use Rattle.kernel_tree.specs.Plain.{block_of}
use Rattle.kernel_tree.specs.Typing.{Scope}
use Rattle.kernel_scope.specs.Scopes.{scope_of, closed, in_body}
use Rattle.loop_code.proofs.Emission.{restored}
use Rattle.loop_code.proofs.loosening.covers_body.Goals as goal

pub returns-clause-scope : goal.returns-clause-scope
returns-clause-scope c =
    let s = scope_of c.args.scope.now in
    let n = c.visible_count-visible.result in
    let m = c.declared_count-taken.result in
    ap (λ (t : Scope). record t { inside = s.inside }) (c.close.ensures ∙ ap (closed n m) c.in_ok-covered.ensures.scope)
    ∙ restored s (in_body s) n m (block_of c.args.body.now) refl refl refl c.visible_count-visible.ensures c.declared_count-taken.ensures
