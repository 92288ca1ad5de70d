use Rattle.std.proofs.Common.{ℕ, List, map, ap, ◌∙◌}
use Rattle.kernel_tree.specs.Typing.{insert_name}
use Rattle.kernel_scope.specs.Scopes.{scope_of, lent_text}
use Rattle.kernel_scope.proofs.Views.{insert-text}
use Rattle.kernel_scope.proofs.names.reserve.Goals as goal

pub returns : goal.returns
returns c =
    let scope = c.args.scope.now in
    let names = scope.declared.keys in
    ap (λ (ns : List (List ℕ)). record (scope_of scope) { taken = ns })
    (ap (map lent_text) c.in_ok-insert.ensures.keys ∙ insert-text names c.text.result ∙ ap (insert_name (map lent_text names)) c.text.ensures)
