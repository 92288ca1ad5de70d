use Rattle.std.proofs.Common.{ℕ, List, false, map, sym, ap, ap₂, ◌∙◌}
use Rattle.kernel_tree.specs.Typing as typing
use Rattle.kernel_scope.specs.Scopes.{scope_of, local_of, lent_text}
use Rattle.kernel_scope.proofs.Views.{take_locals, take_texts}
use Rattle.kernel_scope.proofs.names.close.Goals as goal

pub returns : goal.returns
returns c =
    let scope = c.args.scope.now in
    ap₂ (λ (ls : List typing.Local) (ts : List (List ℕ)). record (scope_of scope) { visible = ls; taken = ts; inside = false })
    (ap (map local_of) c.truncate.ensures.items ∙ sym (take_locals c.args.visible scope.visible.items))
    (ap (map lent_text) c.truncate-2.ensures.keys ∙ sym (take_texts c.args.taken scope.declared.keys))
