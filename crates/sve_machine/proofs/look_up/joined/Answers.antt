use Rattle.std.proofs.Common.{◌≡◌, None, Some, refl, sym, ◌∙◌}
use Rattle.sve_machine.proofs.look_up.joined.Goals as goal

pub returns-in_default : goal.returns-in_default
returns-in_default c = record { same = λ s. refl; branch = λ b is. let none : None ≡ Some b = sym c.requires ∙ is in absurd cc }

pub returns-in-Some-with_branch : goal.returns-in-Some-with_branch
returns-in-Some-with_branch c = record {
  same = c.in-Some-with_branch.ensures.first;
  branch = λ b is. c.in-Some.is ∙ sym c.in-Some-with_branch.ensures.branch ∙ is;
}

pub returns-in-None : goal.returns-in-None
returns-in-None c = record { same = λ s. refl; branch = λ b is. let none : None ≡ Some b = sym c.requires ∙ is in absurd cc }
