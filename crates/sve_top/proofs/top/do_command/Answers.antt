use Rattle.std.proofs.Common.{◌≡◌, ◌⊎◌, Some, refl, ap, sym, ◌∙◌, subst}
use Rattle.io_edges.specs.Files.{Rose}
use Rattle.std.specs.Prelude.{IfSome, IsTrue, string_bytes}
use Rattle.command_line.specs.Line.{Line, CompileLine, CheckLine, EvalLine, ListLine, RunLine, DebugLine, SweepLine, AsmLine, ObjectLine, PipeLine}
use Rattle.command_line.specs.View.{command_view, task_view}
use Rattle.command_answers.specs.Answer.{answer_of, expected_text, IsAnswer}
use Rattle.program_commands.specs.Commands.{expected_of_list, expected_of_run, expected_of_debug, expected_of_asm, stops_of, IsOfAsm}
use Rattle.command_answers.specs.Outputs.{Prints}
use Rattle.sve_top.specs.Commands.{InTime}
use Rattle.sve_top.proofs.Lines.{of_told}
use Rattle.sve_top.specs.Leaves.{seen}
use Rattle.sve_top.proofs.Leaves.{by_name, reader, not_wanted, no_output}
use Rattle.sve_top.specs.Requested.{AsksOf}
use Rattle.compile_command.proofs.Expectations.{prints_silent}
use Rattle.compile_command.specs.Compiles.{ExpectsCompile, IsOfCompile}
use Rattle.pipe_command.specs.Pipes.{expected_of_pipe}
use Rattle.command_answers.proofs.Reading.{of_one, with_output}
use Rattle.command_answers.proofs.Held.{whatever_held}
use Rattle.program_commands.proofs.Assemblies.{asm_prints}
use Rattle.sve_top.proofs.top.do_command.Goals as goal

pub returns-in-Compile : goal.returns-in-Compile
returns-in-Compile g c =
    let line : Line = CompileLine c.as_str.result.now c.as_str-in-Compile.result.now in
    let before = (seen (g.F.Files.held c.args.files.now) (g.F.Files.faults c.args.files.now) (g.F.Files.requests c.args.files.now) (g.S.Sink.taken c.args.out.now) (g.S.Sink.faults c.args.out.now) (g.I.Source.left c.args.input.now) (g.I.Source.faults c.args.input.now)) in
    let after = (seen (g.F.Files.held c.compile.new.files) (g.F.Files.faults c.compile.new.files) (g.F.Files.requests c.compile.new.files) (g.S.Sink.taken c.args.out.now) (g.S.Sink.faults c.args.out.now) (g.I.Source.left c.args.input.now) (g.I.Source.faults c.args.input.now)) in
    by_name (Some line) (Some (command_view c.args.command.now)) before after (IsTrue (g.F.Files.steady c.args.files.now)) (c.args.out.now ≡ c.args.out.now) (c.args.input.now ≡ c.args.input.now) c.compile.result
    (ap (λ l. Some l) (ap command_view c.in-Compile.is ∙ ap (λ a. CompileLine a (string_bytes c.in-Compile.to)) (sym c.as_str.ensures.value) ∙ ap (λ b. CompileLine c.as_str.result.now b) (sym c.as_str-in-Compile.ensures.value)))
    (record {
      answer = λ input taken. with_output _ _ _ (g.F.Files.held c.args.files.now) (λ h. ExpectsCompile h c.as_str.result.now) c.compile.result c.compile.ensures.answer;
      listed = c.compile.ensures.of_compile;
      file = c.compile.ensures.file;
      others = c.compile.ensures.others;
      swept = tt;
      kept = c.compile.ensures.kept;
      reads = λ r. absurd r;
      failed = c.compile.ensures.failed;
      output = no_output IsOfCompile _ c.compile.result (λ o. o) c.compile.ensures.of_compile;
      steady = c.compile.ensures.steady;
      requested = whatever_held (g.F.Files.held c.args.files.now) (λ h. AsksOf (Some line) h (g.F.Files.requests c.args.files.now) (g.F.Files.requests c.compile.new.files) c.compile.result) (λ h. c.compile.ensures.asked);
      as_it_comes = tt;
      printed = λ input taken. prints_silent (g.F.Files.held c.args.files.now) c.as_str.result.now (g.S.Sink.taken c.args.out.now) c.compile.result;
      quiet = λ q. refl;
      unwritten = λ input taken. c.compile.ensures.unwritten;
      silent = λ s. refl;
      unread = λ u. refl;
    })

pub returns-in-Check : goal.returns-in-Check
returns-in-Check g c =
    let line : Line = CheckLine c.as_str-in-Check.result.now in
    let before = (seen (g.F.Files.held c.args.files.now) (g.F.Files.faults c.args.files.now) (g.F.Files.requests c.args.files.now) (g.S.Sink.taken c.args.out.now) (g.S.Sink.faults c.args.out.now) (g.I.Source.left c.args.input.now) (g.I.Source.faults c.args.input.now)) in
    let after = (seen (g.F.Files.held c.check.new.files) (g.F.Files.faults c.check.new.files) (g.F.Files.requests c.check.new.files) (g.S.Sink.taken c.check.new.out) (g.S.Sink.faults c.check.new.out) (g.I.Source.left c.args.input.now) (g.I.Source.faults c.args.input.now)) in
    by_name (Some line) (Some (command_view c.args.command.now)) before after (IsTrue (g.F.Files.steady c.args.files.now)) (c.check.new.out ≡ c.args.out.now) (c.args.input.now ≡ c.args.input.now) c.check.result
    (ap (λ l. Some l) (ap command_view c.in-Check.is ∙ ap CheckLine (sym c.as_str-in-Check.ensures.value)))
    (reader line before after (IsTrue (g.F.Files.steady c.args.files.now)) (c.check.new.out ≡ c.args.out.now) (c.args.input.now ≡ c.args.input.now) c.check.result tt (λ s. s) c.check.ensures.held
    (λ input taken. c.check.ensures.answer)
    (λ input taken. c.check.ensures.printed)
    c.check.ensures.of_check c.check.ensures.failed c.check.ensures.output c.check.ensures.steady
    (whatever_held (g.F.Files.held c.args.files.now) (λ h. AsksOf (Some line) h (g.F.Files.requests c.args.files.now) (g.F.Files.requests c.check.new.files) c.check.result) (λ h. c.check.ensures.asked))
    c.check.ensures.quiet tt (λ u. refl))

pub returns-in-Eval : goal.returns-in-Eval
returns-in-Eval g c =
    let line : Line = EvalLine (task_view c.in-Eval.task) in
    let before = (seen (g.F.Files.held c.args.files.now) (g.F.Files.faults c.args.files.now) (g.F.Files.requests c.args.files.now) (g.S.Sink.taken c.args.out.now) (g.S.Sink.faults c.args.out.now) (g.I.Source.left c.args.input.now) (g.I.Source.faults c.args.input.now)) in
    let after = (seen (g.F.Files.held c.eval.new.files) (g.F.Files.faults c.eval.new.files) (g.F.Files.requests c.eval.new.files) (g.S.Sink.taken c.eval.new.out) (g.S.Sink.faults c.eval.new.out) (g.I.Source.left c.args.input.now) (g.I.Source.faults c.args.input.now)) in
    by_name (Some line) (Some (command_view c.args.command.now)) before after (IsTrue (g.F.Files.steady c.args.files.now)) (c.eval.new.out ≡ c.args.out.now) (c.args.input.now ≡ c.args.input.now) c.eval.result
    (ap (λ l. Some l) (ap command_view c.in-Eval.is))
    (reader line before after (IsTrue (g.F.Files.steady c.args.files.now)) (c.eval.new.out ≡ c.args.out.now) (c.args.input.now ≡ c.args.input.now) c.eval.result tt (λ s. s) c.eval.ensures.held
    (λ input taken. c.eval.ensures.answer)
    (λ input taken. c.eval.ensures.printed)
    c.eval.ensures.of_eval c.eval.ensures.failed c.eval.ensures.output c.eval.ensures.steady
    (whatever_held (g.F.Files.held c.args.files.now) (λ h. AsksOf (Some line) h (g.F.Files.requests c.args.files.now) (g.F.Files.requests c.eval.new.files) c.eval.result) (λ h. c.eval.ensures.asked))
    c.eval.ensures.quiet tt (λ u. refl))

pub returns-in-List : goal.returns-in-List
returns-in-List g c =
    let line : Line = ListLine c.as_str-in-List.result.now in
    let before = (seen (g.F.Files.held c.args.files.now) (g.F.Files.faults c.args.files.now) (g.F.Files.requests c.args.files.now) (g.S.Sink.taken c.args.out.now) (g.S.Sink.faults c.args.out.now) (g.I.Source.left c.args.input.now) (g.I.Source.faults c.args.input.now)) in
    let after = (seen (g.F.Files.held c.list.new.files) (g.F.Files.faults c.list.new.files) (g.F.Files.requests c.list.new.files) (g.S.Sink.taken c.list.new.out) (g.S.Sink.faults c.list.new.out) (g.I.Source.left c.args.input.now) (g.I.Source.faults c.args.input.now)) in
    by_name (Some line) (Some (command_view c.args.command.now)) before after (IsTrue (g.F.Files.steady c.args.files.now)) (c.list.new.out ≡ c.args.out.now) (c.args.input.now ≡ c.args.input.now) c.list.result
    (ap (λ l. Some l) (ap command_view c.in-List.is ∙ ap ListLine (sym c.as_str-in-List.ensures.value)))
    (reader line before after (IsTrue (g.F.Files.steady c.args.files.now)) (c.list.new.out ≡ c.args.out.now) (c.args.input.now ≡ c.args.input.now) c.list.result tt (λ s. s) c.list.ensures.held
    (λ input taken. of_one (g.F.Files.held c.args.files.now) (λ h. expected_of_list h c.as_str-in-List.result.now) _ c.list.ensures.answer)
    (λ input taken. of_one (g.F.Files.held c.args.files.now) (λ h. expected_of_list h c.as_str-in-List.result.now) _ c.list.ensures.printed)
    c.list.ensures.of_list c.list.ensures.failed c.list.ensures.output c.list.ensures.steady
    (whatever_held (g.F.Files.held c.args.files.now) (λ h. AsksOf (Some line) h (g.F.Files.requests c.args.files.now) (g.F.Files.requests c.list.new.files) c.list.result) (λ h. c.list.ensures.asked))
    c.list.ensures.quiet tt (λ u. refl))

pub returns-in-Run : goal.returns-in-Run
returns-in-Run g c =
    let line : Line = RunLine c.in-Run.vl c.in-Run.suppress (task_view c.in-Run.task) in
    let before = (seen (g.F.Files.held c.args.files.now) (g.F.Files.faults c.args.files.now) (g.F.Files.requests c.args.files.now) (g.S.Sink.taken c.args.out.now) (g.S.Sink.faults c.args.out.now) (g.I.Source.left c.args.input.now) (g.I.Source.faults c.args.input.now)) in
    let after = (seen (g.F.Files.held c.run.new.files) (g.F.Files.faults c.run.new.files) (g.F.Files.requests c.run.new.files) (g.S.Sink.taken c.run.new.out) (g.S.Sink.faults c.run.new.out) (g.I.Source.left c.args.input.now) (g.I.Source.faults c.args.input.now)) in
    by_name (Some line) (Some (command_view c.args.command.now)) before after (IsTrue (g.F.Files.steady c.args.files.now)) (c.run.new.out ≡ c.args.out.now) (c.args.input.now ≡ c.args.input.now) c.run.result
    (ap (λ l. Some l) (ap command_view c.in-Run.is))
    (reader line before after (IsTrue (g.F.Files.steady c.args.files.now)) (c.run.new.out ≡ c.args.out.now) (c.args.input.now ≡ c.args.input.now) c.run.result tt (λ s. s) c.run.ensures.held
    (λ input taken. of_one (g.F.Files.held c.args.files.now) (λ h. expected_of_run h c.in-Run.vl (stops_of c.in-Run.suppress) (task_view c.in-Run.task)) _ c.run.ensures.answer)
    (λ input taken. of_one (g.F.Files.held c.args.files.now) (λ h. expected_of_run h c.in-Run.vl (stops_of c.in-Run.suppress) (task_view c.in-Run.task)) _ c.run.ensures.printed)
    c.run.ensures.of_run c.run.ensures.failed c.run.ensures.output c.run.ensures.steady
    (whatever_held (g.F.Files.held c.args.files.now) (λ h. AsksOf (Some line) h (g.F.Files.requests c.args.files.now) (g.F.Files.requests c.run.new.files) c.run.result) (λ h. c.run.ensures.asked))
    c.run.ensures.quiet tt (λ u. refl))

pub debug-requires : goal.debug-requires
debug-requires g c i s may =
    c.requires i s
    (subst (λ (l : Line). InTime (Some l) (g.F.Files.held c.args.files.now) (g.I.Source.left c.args.input.now) (g.I.Source.left i) (g.S.Sink.taken c.args.out.now) (g.S.Sink.taken s))
    (sym (ap command_view c.in-Debug.is)) may)

pub returns-in-Debug : goal.returns-in-Debug
returns-in-Debug g c =
    let line : Line = DebugLine c.in-Debug.vl (task_view c.in-Debug.task) in
    let before = (seen (g.F.Files.held c.args.files.now) (g.F.Files.faults c.args.files.now) (g.F.Files.requests c.args.files.now) (g.S.Sink.taken c.args.out.now) (g.S.Sink.faults c.args.out.now) (g.I.Source.left c.args.input.now) (g.I.Source.faults c.args.input.now)) in
    let after = (seen (g.F.Files.held c.debug.new.files) (g.F.Files.faults c.debug.new.files) (g.F.Files.requests c.debug.new.files) (g.S.Sink.taken c.debug.new.out) (g.S.Sink.faults c.debug.new.out) (g.I.Source.left c.debug.new.input) (g.I.Source.faults c.debug.new.input)) in
    by_name (Some line) (Some (command_view c.args.command.now)) before after (IsTrue (g.F.Files.steady c.args.files.now)) (c.debug.new.out ≡ c.args.out.now) (c.debug.new.input ≡ c.args.input.now) c.debug.result
    (ap (λ l. Some l) (ap command_view c.in-Debug.is))
    (reader line before after (IsTrue (g.F.Files.steady c.args.files.now)) (c.debug.new.out ≡ c.args.out.now) (c.debug.new.input ≡ c.args.input.now) c.debug.result tt (λ s. s) c.debug.ensures.held
    (λ input taken. of_one (g.F.Files.held c.args.files.now) (λ h. expected_of_debug h input c.in-Debug.vl (task_view c.in-Debug.task)) _
    (of_told (g.I.Source.left c.args.input.now) input (λ bytes. IfSome (g.F.Files.held c.args.files.now) (λ h. IsAnswer (g.F.Files.faults c.args.files.now) (g.F.Files.faults c.debug.new.files) (Rose (g.S.Sink.faults c.args.out.now) (g.S.Sink.faults c.debug.new.out) ⊎ Rose (g.I.Source.faults c.args.input.now) (g.I.Source.faults c.debug.new.input)) (answer_of (expected_of_debug h bytes c.in-Debug.vl (task_view c.in-Debug.task))) c.debug.result)) taken c.debug.ensures.answer))
    (λ input taken. of_one (g.F.Files.held c.args.files.now) (λ h. expected_of_debug h input c.in-Debug.vl (task_view c.in-Debug.task)) _
    (of_told (g.I.Source.left c.args.input.now) input (λ bytes. IfSome (g.F.Files.held c.args.files.now) (λ h. Prints (g.S.Sink.taken c.args.out.now) (g.S.Sink.taken c.debug.new.out) (expected_text (expected_of_debug h bytes c.in-Debug.vl (task_view c.in-Debug.task))) c.debug.result)) taken c.debug.ensures.printed))
    c.debug.ensures.of_debug c.debug.ensures.failed c.debug.ensures.output c.debug.ensures.steady
    (whatever_held (g.F.Files.held c.args.files.now) (λ h. AsksOf (Some line) h (g.F.Files.requests c.args.files.now) (g.F.Files.requests c.debug.new.files) c.debug.result) (λ h. c.debug.ensures.asked))
    c.debug.ensures.quiet c.debug.ensures.as_it_comes (λ u. absurd u))

pub returns-in-Sweep : goal.returns-in-Sweep
returns-in-Sweep g c =
    let line : Line = SweepLine c.in-Sweep.number c.as_str-in-Sweep.result.now in
    let before = (seen (g.F.Files.held c.args.files.now) (g.F.Files.faults c.args.files.now) (g.F.Files.requests c.args.files.now) (g.S.Sink.taken c.args.out.now) (g.S.Sink.faults c.args.out.now) (g.I.Source.left c.args.input.now) (g.I.Source.faults c.args.input.now)) in
    let after = (seen (g.F.Files.held c.sweep.new.files) (g.F.Files.faults c.sweep.new.files) (g.F.Files.requests c.sweep.new.files) (g.S.Sink.taken c.sweep.new.out) (g.S.Sink.faults c.sweep.new.out) (g.I.Source.left c.args.input.now) (g.I.Source.faults c.args.input.now)) in
    by_name (Some line) (Some (command_view c.args.command.now)) before after (IsTrue (g.F.Files.steady c.args.files.now)) (c.sweep.new.out ≡ c.args.out.now) (c.args.input.now ≡ c.args.input.now) c.sweep.result
    (ap (λ l. Some l) (ap command_view c.in-Sweep.is ∙ ap (SweepLine c.in-Sweep.number) (sym c.as_str-in-Sweep.ensures.value)))
    (record {
      answer = not_wanted (g.F.Files.held c.args.files.now) (g.I.Source.left c.args.input.now) c.in-Sweep.number c.as_str-in-Sweep.result.now _;
      listed = c.sweep.ensures.of_sweep;
      file = c.sweep.ensures.file;
      others = c.sweep.ensures.others;
      swept = c.sweep.ensures.swept;
      kept = c.sweep.ensures.kept;
      reads = λ r. absurd r;
      failed = c.sweep.ensures.failed;
      output = c.sweep.ensures.output;
      steady = λ s. whatever_held (g.F.Files.held c.args.files.now) _ (λ h held. c.sweep.ensures.steady s);
      requested = whatever_held (g.F.Files.held c.args.files.now) (λ h. AsksOf (Some line) h (g.F.Files.requests c.args.files.now) (g.F.Files.requests c.sweep.new.files) c.sweep.result) (λ h. c.sweep.ensures.asked);
      as_it_comes = tt;
      printed = not_wanted (g.F.Files.held c.args.files.now) (g.I.Source.left c.args.input.now) c.in-Sweep.number c.as_str-in-Sweep.result.now _;
      quiet = c.sweep.ensures.quiet;
      unwritten = not_wanted (g.F.Files.held c.args.files.now) (g.I.Source.left c.args.input.now) c.in-Sweep.number c.as_str-in-Sweep.result.now _;
      silent = λ s. absurd s;
      unread = λ u. refl;
    })

pub returns-in-Asm : goal.returns-in-Asm
returns-in-Asm g c =
    let line : Line = AsmLine c.as_str-in-Asm.result.now c.as_str-in-Asm-2.result.now in
    let before = (seen (g.F.Files.held c.args.files.now) (g.F.Files.faults c.args.files.now) (g.F.Files.requests c.args.files.now) (g.S.Sink.taken c.args.out.now) (g.S.Sink.faults c.args.out.now) (g.I.Source.left c.args.input.now) (g.I.Source.faults c.args.input.now)) in
    let after = (seen (g.F.Files.held c.asm.new.files) (g.F.Files.faults c.asm.new.files) (g.F.Files.requests c.asm.new.files) (g.S.Sink.taken c.args.out.now) (g.S.Sink.faults c.args.out.now) (g.I.Source.left c.args.input.now) (g.I.Source.faults c.args.input.now)) in
    by_name (Some line) (Some (command_view c.args.command.now)) before after (IsTrue (g.F.Files.steady c.args.files.now)) (c.args.out.now ≡ c.args.out.now) (c.args.input.now ≡ c.args.input.now) c.asm.result
    (ap (λ l. Some l) (ap command_view c.in-Asm.is ∙ ap (λ a. AsmLine a (string_bytes c.in-Asm.to)) (sym c.as_str-in-Asm.ensures.value) ∙ ap (λ b. AsmLine c.as_str-in-Asm.result.now b) (sym c.as_str-in-Asm-2.ensures.value)))
    (record {
      answer = λ input taken. with_output _ _ _ (g.F.Files.held c.args.files.now) (λ h work. work ≡ expected_of_asm h c.as_str-in-Asm.result.now) c.asm.result (of_one (g.F.Files.held c.args.files.now) (λ h. expected_of_asm h c.as_str-in-Asm.result.now) _ c.asm.ensures.answer);
      listed = c.asm.ensures.of_asm;
      file = c.asm.ensures.file;
      others = c.asm.ensures.others;
      swept = tt;
      kept = c.asm.ensures.kept;
      reads = λ r. absurd r;
      failed = c.asm.ensures.failed;
      output = no_output IsOfAsm _ c.asm.result (λ o. o) c.asm.ensures.of_asm;
      steady = c.asm.ensures.steady;
      requested = whatever_held (g.F.Files.held c.args.files.now) (λ h. AsksOf (Some line) h (g.F.Files.requests c.args.files.now) (g.F.Files.requests c.asm.new.files) c.asm.result) (λ h. c.asm.ensures.asked);
      as_it_comes = tt;
      printed = λ input taken. of_one (g.F.Files.held c.args.files.now) (λ h. expected_of_asm h c.as_str-in-Asm.result.now) _ (asm_prints (g.F.Files.held c.args.files.now) c.as_str-in-Asm.result.now (g.S.Sink.taken c.args.out.now) c.asm.result);
      quiet = λ q. refl;
      unwritten = λ input taken. of_one (g.F.Files.held c.args.files.now) (λ h. expected_of_asm h c.as_str-in-Asm.result.now) _ c.asm.ensures.unwritten;
      silent = λ s. refl;
      unread = λ u. refl;
    })

pub returns-in-Object : goal.returns-in-Object
returns-in-Object g c =
    let line : Line = ObjectLine c.as_str-in-Object.result.now c.as_str-in-Object-2.result.now in
    let before = (seen (g.F.Files.held c.args.files.now) (g.F.Files.faults c.args.files.now) (g.F.Files.requests c.args.files.now) (g.S.Sink.taken c.args.out.now) (g.S.Sink.faults c.args.out.now) (g.I.Source.left c.args.input.now) (g.I.Source.faults c.args.input.now)) in
    let after = (seen (g.F.Files.held c.object.new.files) (g.F.Files.faults c.object.new.files) (g.F.Files.requests c.object.new.files) (g.S.Sink.taken c.args.out.now) (g.S.Sink.faults c.args.out.now) (g.I.Source.left c.args.input.now) (g.I.Source.faults c.args.input.now)) in
    by_name (Some line) (Some (command_view c.args.command.now)) before after (IsTrue (g.F.Files.steady c.args.files.now)) (c.args.out.now ≡ c.args.out.now) (c.args.input.now ≡ c.args.input.now) c.object.result
    (ap (λ l. Some l) (ap command_view c.in-Object.is ∙ ap (λ a. ObjectLine a (string_bytes c.in-Object.to)) (sym c.as_str-in-Object.ensures.value) ∙ ap (λ b. ObjectLine c.as_str-in-Object.result.now b) (sym c.as_str-in-Object-2.ensures.value)))
    (record {
      answer = λ input taken. with_output _ _ _ (g.F.Files.held c.args.files.now) (λ h. ExpectsCompile h c.as_str-in-Object.result.now) c.object.result c.object.ensures.answer;
      listed = c.object.ensures.of_compile;
      file = c.object.ensures.file;
      others = c.object.ensures.others;
      swept = tt;
      kept = c.object.ensures.kept;
      reads = λ r. absurd r;
      failed = c.object.ensures.failed;
      output = no_output IsOfCompile _ c.object.result (λ o. o) c.object.ensures.of_compile;
      steady = c.object.ensures.steady;
      requested = whatever_held (g.F.Files.held c.args.files.now) (λ h. AsksOf (Some line) h (g.F.Files.requests c.args.files.now) (g.F.Files.requests c.object.new.files) c.object.result) (λ h. c.object.ensures.asked);
      as_it_comes = tt;
      printed = λ input taken. prints_silent (g.F.Files.held c.args.files.now) c.as_str-in-Object.result.now (g.S.Sink.taken c.args.out.now) c.object.result;
      quiet = λ q. refl;
      unwritten = λ input taken. c.object.ensures.unwritten;
      silent = λ s. refl;
      unread = λ u. refl;
    })

pub returns-in-Pipe : goal.returns-in-Pipe
returns-in-Pipe g c =
    let line : Line = PipeLine c.in-Pipe.vl (task_view c.in-Pipe.task) in
    let before = (seen (g.F.Files.held c.args.files.now) (g.F.Files.faults c.args.files.now) (g.F.Files.requests c.args.files.now) (g.S.Sink.taken c.args.out.now) (g.S.Sink.faults c.args.out.now) (g.I.Source.left c.args.input.now) (g.I.Source.faults c.args.input.now)) in
    let after = (seen (g.F.Files.held c.pipe.new.files) (g.F.Files.faults c.pipe.new.files) (g.F.Files.requests c.pipe.new.files) (g.S.Sink.taken c.pipe.new.out) (g.S.Sink.faults c.pipe.new.out) (g.I.Source.left c.args.input.now) (g.I.Source.faults c.args.input.now)) in
    by_name (Some line) (Some (command_view c.args.command.now)) before after (IsTrue (g.F.Files.steady c.args.files.now)) (c.pipe.new.out ≡ c.args.out.now) (c.args.input.now ≡ c.args.input.now) c.pipe.result
    (ap (λ l. Some l) (ap command_view c.in-Pipe.is))
    (reader line before after (IsTrue (g.F.Files.steady c.args.files.now)) (c.pipe.new.out ≡ c.args.out.now) (c.args.input.now ≡ c.args.input.now) c.pipe.result tt (λ s. s) c.pipe.ensures.held
    (λ input taken. of_one (g.F.Files.held c.args.files.now) (λ h. expected_of_pipe h c.in-Pipe.vl (task_view c.in-Pipe.task)) _ c.pipe.ensures.answer)
    (λ input taken. of_one (g.F.Files.held c.args.files.now) (λ h. expected_of_pipe h c.in-Pipe.vl (task_view c.in-Pipe.task)) _ c.pipe.ensures.printed)
    c.pipe.ensures.of_pipe c.pipe.ensures.failed c.pipe.ensures.output c.pipe.ensures.steady
    c.pipe.ensures.asked
    c.pipe.ensures.quiet tt (λ u. refl))
