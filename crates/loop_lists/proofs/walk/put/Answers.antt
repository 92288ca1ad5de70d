use Rattle.std.proofs.Common.{◌∷◌, [], ◌++◌, ap, ◌∙◌}
use Rattle.std.specs.Prelude.{Option}
use Rattle.std.proofs.lemmas.List.{map-append}
use Rattle.kernel_tree.specs.declared.ops.Ty.{Ty}
use Rattle.loop_form.specs.Entries.{Entry, item_type}
use Rattle.loop_form.specs.View.{program, content_of, entry_of, entries_view}
use Rattle.loop_lists.proofs.walk.put.Goals as goal

pub returns-clause-items : goal.returns-clause-items
unfolding item_type program
returns-clause-items c =
    let old = c.args.entries.now.items in
    let one : Option Ty → Entry = λ t. record { item = c.args.item; content = content_of c.args.content; type = t; last_use = c.args.last_use } in
    ap entries_view c.push.ensures.items ∙ map-append entry_of old _ ∙ ap (λ t. entries_view old ++ one t ∷ []) c.ty-ty.ensures
