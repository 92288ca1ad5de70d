use Rattle.std.proofs.Common.{◌∙◌, ◌≡◌, ap, codes, Bool}
use Rattle.clap.specs.Words.{app_of, App, Text}
use Rattle.command_line.specs.Taken.{with_option, with_run_options}
use Rattle.command_line.specs.declared.place.Allowed.{Allowed}
use Rattle.command_line.proofs.taken.with_run_options.Goals as goal

-- three steps, each of the value before it: over any steps, since with the steps of a command in their place the check would unfold
-- each, with the value before it many times over
in_turn : {A : Type 0} (f : Bool → Text → A → A) (v t u : Bool) (vn tn un : Text) (a b c d : A) → b ≡ f v vn a → c ≡ f t tn b → d ≡ f u un c → d ≡ f u un (f t tn (f v vn a))
in_turn f v t u vn tn un a b c d p q r = r ∙ ap (f u un) (q ∙ ap (f t tn) p)

options_in_turn : (v : Allowed) (a b c d : App) → b ≡ with_option v.vl (codes "vl") a → c ≡ with_option v.steps (codes "steps") b → d ≡ with_option v.map (codes "map") c
    → d ≡ with_run_options v a
options_in_turn v a b c d = in_turn with_option v.vl v.steps v.map (codes "vl") (codes "steps") (codes "map") a b c d

pub returns : goal.returns
returns c =
    options_in_turn c.args.allowed (app_of c.args.command) (app_of c.in_ok-command.command) (app_of c.in_ok-command-2.command) (app_of c.in_ok-command-3.command)
    c.in_ok-command.ensures c.in_ok-command-2.ensures c.in_ok-command-3.ensures
