use Rattle.std.proofs.Common.{◌≡◌, Option, Some, None, Err, refl, ap, sym, ◌∙◌, subst}
use Rattle.std.specs.Prelude.{IsTrue, option_map}
use Rattle.command_line.specs.Line.{Line, line_of}
use Rattle.command_line.specs.View.{texts, command_view}
use Rattle.refusals.specs.declared.refusal.Refusal.TheVariants.{Usage, Memory}
use Rattle.sve_top.specs.Commands.{InTime}
use Rattle.sve_top.specs.Leaves.{seen}
use Rattle.sve_top.proofs.Leaves.{by_name, short, not_asked}
use Rattle.sve_top.proofs.top.do_words.Goals as goal

pub do_command-requires : goal.do_command-requires
do_command-requires g c i s may =
    c.requires i s
    (subst (λ (l : Option Line). InTime l (g.F.Files.held c.args.files.now) (g.I.Source.left c.args.input.now) (g.I.Source.left i) (g.S.Sink.taken c.args.out.now) (g.S.Sink.taken s))
    (sym (sym c.in_ok-command.ensures ∙ ap (option_map command_view) c.in-Some.is)) may)

pub returns-in_err-command : goal.returns-in_err-command
returns-in_err-command g c =
    short (line_of (texts c.args.words.now)) (seen (g.F.Files.held c.args.files.now) (g.F.Files.faults c.args.files.now) (g.F.Files.requests c.args.files.now) (g.S.Sink.taken c.args.out.now) (g.S.Sink.faults c.args.out.now) (g.I.Source.left c.args.input.now) (g.I.Source.faults c.args.input.now)) (IsTrue (g.F.Files.steady c.args.files.now)) (c.args.out.now ≡ c.args.out.now) (c.args.input.now ≡ c.args.input.now) c.from_residual.result c.from_residual.ensures.1 refl refl

pub returns-in_default : goal.returns-in_default
returns-in_default g c =
    let before = (seen (g.F.Files.held c.args.files.now) (g.F.Files.faults c.args.files.now) (g.F.Files.requests c.args.files.now) (g.S.Sink.taken c.args.out.now) (g.S.Sink.faults c.args.out.now) (g.I.Source.left c.args.input.now) (g.I.Source.faults c.args.input.now)) in
    by_name None (line_of (texts c.args.words.now)) before before (IsTrue (g.F.Files.steady c.args.files.now)) (c.args.out.now ≡ c.args.out.now) (c.args.input.now ≡ c.args.input.now) (Err Usage) (sym c.in_ok-command.ensures ∙ ap (option_map command_view) c.in_default.is) (not_asked before (IsTrue (g.F.Files.steady c.args.files.now)) (c.args.out.now ≡ c.args.out.now) (c.args.input.now ≡ c.args.input.now) refl refl)

pub returns : goal.returns
returns g c =
    let before = (seen (g.F.Files.held c.args.files.now) (g.F.Files.faults c.args.files.now) (g.F.Files.requests c.args.files.now) (g.S.Sink.taken c.args.out.now) (g.S.Sink.faults c.args.out.now) (g.I.Source.left c.args.input.now) (g.I.Source.faults c.args.input.now)) in
    let after = (seen (g.F.Files.held c.do_command.new.files) (g.F.Files.faults c.do_command.new.files) (g.F.Files.requests c.do_command.new.files) (g.S.Sink.taken c.do_command.new.out) (g.S.Sink.faults c.do_command.new.out) (g.I.Source.left c.do_command.new.input) (g.I.Source.faults c.do_command.new.input)) in
    let line : Option Line = Some (command_view c.in-Some.command) in
    by_name line (line_of (texts c.args.words.now)) before after (IsTrue (g.F.Files.steady c.args.files.now)) (c.do_command.new.out ≡ c.args.out.now) (c.do_command.new.input ≡ c.args.input.now) c.do_command.result (sym c.in_ok-command.ensures ∙ ap (option_map command_view) c.in-Some.is)
    c.do_command.ensures
