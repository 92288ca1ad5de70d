use Rattle.std.proofs.Common.{List, map, sym, ap, ◌∙◌}
use Rattle.kernel_tree.specs.Typing as typing
use Rattle.kernel_scope.specs.Scopes.{scope_of, local_of}
use Rattle.kernel_scope.proofs.Views.{take_locals}
use Rattle.kernel_scope.proofs.names.leave.Goals as goal

pub returns : goal.returns
returns c =
    let scope = c.args.scope.now in
    ap (λ (ls : List typing.Local). record (scope_of scope) { visible = ls }) (ap (map local_of) c.truncate.ensures.items ∙ sym (take_locals c.args.count scope.visible.items))
