use Rattle.std.proofs.Common.{◌∙◌, sym, ap}
use Rattle.std.specs.Prelude.{string_bytes}
use Rattle.command_line.specs.Line.{line_of}
use Rattle.command_line.proofs.Outcomes.{ok_is, no_elements}
use Rattle.command_line.proofs.FirstWords.{first_and_rest, no_line, other_line, compile_line, check_line, eval_line, list_line, run_line, debug_line, sweep_line, asm_line, object_line, pipe_line}
use Rattle.command_line.proofs.read.read_line.Goals as goal

pub returns-in_default : goal.returns-in_default
returns-in_default c = sym (ap line_of (no_elements string_bytes c.args.words.now c.in_default.len_below) ∙ no_line)

pub returns-in-compile : goal.returns-in-compile
returns-in-compile c =
    ok_is _ _ _ _ c.compile.ensures
    (sym (ap line_of (first_and_rest c.args.words.now c.name-item.result c.as_str.result.now c.in-len1-up.len_at_least c.name-item.is c.as_str.ensures.value) ∙ compile_line c.as_str.result.now _ c.in-compile.is))

pub returns-in-check : goal.returns-in-check
returns-in-check c =
    ok_is _ _ _ _ c.check.ensures
    (sym (ap line_of (first_and_rest c.args.words.now c.name-item.result c.as_str.result.now c.in-len1-up.len_at_least c.name-item.is c.as_str.ensures.value) ∙ check_line c.as_str.result.now _ c.in-check.is))

pub returns-in-eval : goal.returns-in-eval
returns-in-eval c =
    ok_is _ _ _ _ c.eval.ensures
    (sym (ap line_of (first_and_rest c.args.words.now c.name-item.result c.as_str.result.now c.in-len1-up.len_at_least c.name-item.is c.as_str.ensures.value) ∙ eval_line c.as_str.result.now _ c.in-eval.is))

pub returns-in-list : goal.returns-in-list
returns-in-list c =
    ok_is _ _ _ _ c.list.ensures
    (sym (ap line_of (first_and_rest c.args.words.now c.name-item.result c.as_str.result.now c.in-len1-up.len_at_least c.name-item.is c.as_str.ensures.value) ∙ list_line c.as_str.result.now _ c.in-list.is))

pub returns-in-run : goal.returns-in-run
returns-in-run c =
    ok_is _ _ _ _ c.run.ensures
    (sym (ap line_of (first_and_rest c.args.words.now c.name-item.result c.as_str.result.now c.in-len1-up.len_at_least c.name-item.is c.as_str.ensures.value) ∙ run_line c.as_str.result.now _ c.in-run.is))

pub returns-in-debug : goal.returns-in-debug
returns-in-debug c =
    ok_is _ _ _ _ c.debug.ensures
    (sym (ap line_of (first_and_rest c.args.words.now c.name-item.result c.as_str.result.now c.in-len1-up.len_at_least c.name-item.is c.as_str.ensures.value) ∙ debug_line c.as_str.result.now _ c.in-debug.is))

pub returns-in-sweep : goal.returns-in-sweep
returns-in-sweep c =
    ok_is _ _ _ _ c.sweep.ensures
    (sym (ap line_of (first_and_rest c.args.words.now c.name-item.result c.as_str.result.now c.in-len1-up.len_at_least c.name-item.is c.as_str.ensures.value) ∙ sweep_line c.as_str.result.now _ c.in-sweep.is))

pub returns-in-asm : goal.returns-in-asm
returns-in-asm c =
    ok_is _ _ _ _ c.asm.ensures
    (sym (ap line_of (first_and_rest c.args.words.now c.name-item.result c.as_str.result.now c.in-len1-up.len_at_least c.name-item.is c.as_str.ensures.value) ∙ asm_line c.as_str.result.now _ c.in-asm.is))

pub returns-in-object : goal.returns-in-object
returns-in-object c =
    ok_is _ _ _ _ c.object.ensures
    (sym (ap line_of (first_and_rest c.args.words.now c.name-item.result c.as_str.result.now c.in-len1-up.len_at_least c.name-item.is c.as_str.ensures.value) ∙ object_line c.as_str.result.now _ c.in-object.is))

pub returns-in-pipe : goal.returns-in-pipe
returns-in-pipe c =
    ok_is _ _ _ _ c.pipe.ensures
    (sym (ap line_of (first_and_rest c.args.words.now c.name-item.result c.as_str.result.now c.in-len1-up.len_at_least c.name-item.is c.as_str.ensures.value) ∙ pipe_line c.as_str.result.now _ c.in-pipe.is))

pub returns-in_default-as_str : goal.returns-in_default-as_str
returns-in_default-as_str c =
    let d = c.in_default-as_str in
    sym (ap line_of (first_and_rest c.args.words.now c.name-item.result c.as_str.result.now c.in-len1-up.len_at_least c.name-item.is c.as_str.ensures.value)
    ∙ other_line c.as_str.result.now _ d.not-compile d.not-check d.not-eval d.not-list d.not-run d.not-debug d.not-sweep d.not-asm d.not-object d.not-pipe)
