use Rattle.std.proofs.Common.{◌∙◌, ◌≡◌, ap, ap₂, codes, Bool}
use Rattle.std.proofs.lemmas.Result.{IfOk-weaker}
use Rattle.clap.specs.Words.{with_rule, app_of, rule_of, App, Rule, Text}
use Rattle.command_line.specs.Taken.{with_option, with_run_options, bare, words_rule, command_taking}
use Rattle.command_line.specs.declared.place.Allowed.{Allowed}
use Rattle.command_line.proofs.taken.command_taking.Goals as goal

-- the steps, each of the value before it, over any steps (as in `with_run_options`)
in_turn : {A : Type 0} (f : Bool → Text → A → A) (g : A → A) (w : A → Rule → A) (x y : Bool) (xn yn : Text) (start a b d e m : A) (r s : Rule)
    → a ≡ start → b ≡ g a → d ≡ f x xn b → e ≡ f y yn d → r ≡ s → m ≡ w e r → m ≡ w (f y yn (f x xn (g start))) s
in_turn f g w x y xn yn start a b d e m r s p0 p1 p2 p3 q p4 = p4 ∙ ap₂ w (p3 ∙ ap (f y yn) (p2 ∙ ap (f x xn) (p1 ∙ ap g p0))) q

options_in_turn : (name : Text) (v : Allowed) (a b d e m : App) (r : Rule)
    → a ≡ bare name → b ≡ with_run_options v a → d ≡ with_option v.dump (codes "dump") b → e ≡ with_option v.suppress (codes "suppress") d
    → r ≡ words_rule → m ≡ with_rule e r → m ≡ command_taking name v
options_in_turn name v a b d e m r =
    in_turn with_option (with_run_options v) with_rule v.dump v.suppress (codes "dump") (codes "suppress") (bare name) a b d e m r words_rule

pub returns : goal.returns
returns c =
    IfOk-weaker c.arg.result _ _ (λ m h.
    options_in_turn c.args.name.now c.args.allowed (app_of c.bare-command.result) (app_of c.in_ok-command.command) (app_of c.in_ok-command-2.command)
    (app_of c.in_ok-command-3.command) (app_of m) (rule_of c.positional_words.result)
    c.bare-command.ensures c.in_ok-command.ensures c.in_ok-command-2.ensures c.in_ok-command-3.ensures
    c.positional_words.ensures.rule (h.shape c.positional_words.ensures.local)) c.arg.ensures
