use Rattle.std.proofs.Common.{[], ◌∷◌, ◌++◌, None, ap, ◌∙◌}
use Rattle.std.proofs.lemmas.Result.{on_ok_weaker}
use Rattle.kernel_tree.specs.Plain.{name_of}
use Rattle.scalar_words.specs.Layout.{Home}
use Rattle.scalar_words.specs.View.{homes_of}
use Rattle.scalar_words.proofs.names.declare_var.Goals as goal

pub counted_register-register-requires : goal.counted_register-register-requires
counted_register-register-requires c = record { assigned = c.requires.assigned; within = c.requires.within }

pub returns : goal.returns
returns c = record {
  scope = c.declare_held.ensures.scope;
  homes = on_ok_weaker c.declare_held.result
      (λ p. p ∙ ap (λ n. homes_of c.args.homes.now.items ++ (let h : Home = record { name = name_of c.args.var.now.name; register = n; last_use = None } in h) ∷ []) c.counted_register-register.ensures)
      c.declare_held.ensures.homes;
}
