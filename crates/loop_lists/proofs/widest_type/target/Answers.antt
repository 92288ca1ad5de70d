use Rattle.std.proofs.Common.{sym, ap, ◌∙◌}
use Rattle.loop_form.specs.declared.entry.Content.{Content}
use Rattle.loop_form.specs.Lanes.{type_of_array, var_type, target_type}
use Rattle.loop_form.specs.View.{program, content_of}
use Rattle.loop_lists.proofs.Trees.{params_listed, vars_listed}
use Rattle.loop_lists.proofs.widest_type.target.Goals as goal

pub returns-in-Store : goal.returns-in-Store
returns-in-Store c =
    c.array_element.ensures ∙ ap (type_of_array c.in-Store.array.now) (params_listed c.args.kernel.now c.kernel.result.now c.kernel.ensures c.deref.result.now c.deref.ensures.value)
    ∙ sym (ap (λ (x : Content). target_type (program c.args.kernel.now) (content_of x)) c.in-Store.is)

pub returns-in-Update : goal.returns-in-Update
returns-in-Update c =
    c.var_type.ensures ∙ ap (var_type c.in-Update.name.now) (vars_listed c.args.kernel.now c.kernel-in-Update.result.now c.kernel-in-Update.ensures c.deref-in-Update.result.now c.deref-in-Update.ensures.value)
    ∙ sym (ap (λ (x : Content). target_type (program c.args.kernel.now) (content_of x)) c.in-Update.is)
