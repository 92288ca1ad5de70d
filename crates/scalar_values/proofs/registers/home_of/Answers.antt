use mir.Syntax.{w128}
use mir.Val.{SFits}
use Rattle.std.proofs.lemmas.Int.{to_z-of_z}
use Rattle.std.proofs.Common.{sym, ap, ◌∙◌, rules}
use Rattle.kernel_tree.specs.Plain.{term_of}
use Rattle.kernel_tree.specs.Items.{term_size}
use Rattle.kernel_scope.specs.Scopes.{scope_of}
use Rattle.scalar_words.specs.View.{homes_of}
use Rattle.value_code.specs.ValueRegisters.{home, literal_home}
use Rattle.scalar_values.proofs.PartKinds.{size_below, end_fits, end_after}
use Rattle.scalar_values.proofs.registers.home_of.Goals as goal

pub expr_size-requires : goal.expr_size-requires
expr_size-requires c = size_below c.args.item (term_size (scope_of c.args.site.now.scope).index (term_of c.args.expr.now)) c.requires

pub overflow_add-item : goal.overflow_add-item
overflow_add-item c = end_fits c.args.item (term_size (scope_of c.args.site.now.scope).index (term_of c.args.expr.now)) c.expr_size.result c.requires c.expr_size.ensures

pub overflow_sub-item : goal.overflow_sub-item
overflow_sub-item c = end_after (scope_of c.args.site.now.scope).index c.args.item c.expr_size.result (term_of c.args.expr.now) c.expr_size.ensures

pub returns-in-Lit : goal.returns-in-Lit
returns-in-Lit c =
    let in_range : SFits w128 c.in-Lit.value = search rules in
    c.number_home.ensures ∙ ap (literal_home c.args.site.now.layout c.args.item) (to_z-of_z w128 c.in-Lit.value in_range) ∙ ap (home c.args.site.now.layout (homes_of c.args.site.now.homes.items) (scope_of c.args.site.now.scope).index c.args.item) (sym (ap term_of c.in-Lit.is))

pub returns-in-Var : goal.returns-in-Var
returns-in-Var c = c.register.ensures ∙ ap (home c.args.site.now.layout (homes_of c.args.site.now.homes.items) (scope_of c.args.site.now.scope).index c.args.item) (sym (ap term_of c.in-Var.is))
