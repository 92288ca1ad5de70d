use Rattle.kernel_tree.specs.Plain.{name_of}
use Rattle.guest_types.proofs.Errors.{on_error}
use Rattle.kernel_tree.proofs.Calls.{on_any}
use Rattle.scalar_words.proofs.NameSteps.{home_pushed}
use Rattle.scalar_words.proofs.names.declare_held.Goals as goal

pub returns-in_err-push : goal.returns-in_err-push
returns-in_err-push c =
    let failed = c.from_residual.ensures.0 in
    record { scope = on_error _ _ failed; homes = on_error _ _ failed }

pub returns : goal.returns
returns c = record {
  scope = c.declare.ensures;
  homes = on_any c.declare.result (home_pushed c.args.homes.now.items _ _ (name_of c.args.name.now) c.in_ok-push.ensures.items c.text.ensures);
}
