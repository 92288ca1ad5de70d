use Rattle.std.proofs.Common.{ℕ, List, [], ◌∷◌, ◌++◌, map, ap, ap₂, ◌∙◌}
use Rattle.std.proofs.lemmas.List.{map_push}
use Rattle.kernel_tree.specs.Typing.{Local, local, insert_name}
use Rattle.kernel_scope.specs.Scopes.{scope_of, local_of, lent_text}
use Rattle.kernel_scope.proofs.Views.{insert-text}
use Rattle.kernel_scope.proofs.names.declare.Goals as goal

pub returns : goal.returns
returns c =
    let scope = c.args.scope.now in
    let names = scope.declared.keys in
    let shown = scope.visible.items in
    ap₂ (λ (ls : List Local) (ns : List (List ℕ)). record (scope_of scope) { visible = ls; taken = ns })
    (ap (map local_of) c.in_ok-push.ensures.items ∙ map_push local_of shown _ ∙ ap (λ (x : List ℕ). map local_of shown ++ local x c.args.binding ∷ []) c.text-name.ensures)
    (ap (map lent_text) c.in_ok-insert.ensures.keys ∙ insert-text names c.text-name.result ∙ ap (insert_name (map lent_text names)) c.text-name.ensures)
