use Rattle.std.proofs.Common.{List, ℕ, sym, ap, ◌∙◌}
use Rattle.std.specs.List.{list_any}
use Rattle.kernel_tree.specs.Plain.{name_of}
use Rattle.kernel_scope.proofs.Views.{is_text, is-among}
use Rattle.kernel_scope.proofs.names.is_taken.Goals as goal

pub returns : goal.returns
returns c =
    let names = c.args.scope.now.declared.keys in
    c.contains.ensures ∙ ap (λ (x : List ℕ). list_any (is_text x) names) c.text.ensures ∙ sym (is-among names (name_of c.args.name.now))
