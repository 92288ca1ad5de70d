use Rattle.std.proofs.Common.{sym, ap₂, ◌∙◌}
use Rattle.kernel_tree.specs.Plain.{name_of}
use Rattle.kernel_scope.specs.Scopes.{binding_among}
use Rattle.kernel_scope.proofs.Views.{binding-among}
use Rattle.kernel_scope.proofs.names.lookup.Goals as goal

pub returns : goal.returns
returns c = c.binding_among.ensures ∙ ap₂ binding_among c.deref.ensures.value c.text.ensures ∙ sym (binding-among c.args.scope.now.visible.items (name_of c.args.name.now))
