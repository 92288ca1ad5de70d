use Rattle.std.proofs.Common.{◌≡◌, Some, sym, subst}
use Rattle.std.specs.Prelude.{IfSome}
use Rattle.a64_machine.specs.Prepared.{branch_after}
use Rattle.a64_machine.proofs.preparing.with_branch.Goals as goal

pub returns-in-JumpWhere : goal.returns-in-JumpWhere
returns-in-JumpWhere c = record {
  first = c.before_jump.ensures.first;
  branch = subst (λ b. IfSome c.before_jump.result (λ both. branch_after both ≡ Some b)) (sym c.in-JumpWhere.is) c.before_jump.ensures.branch;
}
