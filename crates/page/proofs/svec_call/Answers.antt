use Rattle.std.proofs.Common.{ap, ◌∙◌}
use Rattle.std.specs.Prelude.{string_bytes, Err}
use Rattle.io_edges.specs.Files.{content}
use Rattle.io_edges.specs.NamedFile.{entries}
use Rattle.command_line.specs.View.{texts}
use Rattle.page.specs.Answer.{answer_bytes}
use Rattle.page.proofs.svec_call.Goals as goal

pub returns-in-Ok-put_answer-clause-tells : goal.returns-in-Ok-put_answer-clause-tells
returns-in-Ok-put_answer-clause-tells c long =
    let request = c.in-Ok.request in
    let done = c.in-Ok-call.done in
    record {
      words = texts request.words.items;
      files = entries request.files.items;
      input = request.input.items;
      wanted = string_bytes request.wanted;
      status = done.status;
      held = done.files.held;
      printed = done.out.taken;
      errors = done.err.taken;
      file_faults = done.files.calls.faults;
      output_faults = done.out.calls.faults;
      error_faults = done.err.calls.faults;
      input_faults = done.input.calls.faults;
      read = c.in-Ok.ensures.read;
      different = c.in-Ok.ensures.different;
      told = c.in-Ok-put_answer.ensures.told
          ∙ ap (λ it. answer_bytes done.status done.out.taken done.err.taken (content done.files.held (string_bytes it))) c.in-Ok-call.ensures.wanted;
      does = c.in-Ok-call.ensures.does;
      complete = c.in-Ok-call.ensures.complete;
      file = c.in-Ok-call.ensures.file;
      others = c.in-Ok-call.ensures.others;
    }

pub returns-in-Err-Room-clause-room : goal.returns-in-Err-Room-clause-room
returns-in-Err-Room-clause-room c none =
    let request = c.in-Ok.request in
    let done = c.in-Ok-call.done in (
      answer_bytes done.status done.out.taken done.err.taken (content done.files.held (string_bytes done.wanted)),
      record {
        words = texts request.words.items;
        files = entries request.files.items;
        input = request.input.items;
        wanted = string_bytes request.wanted;
        status = done.status;
        held = done.files.held;
        printed = done.out.taken;
        errors = done.err.taken;
        file_faults = done.files.calls.faults;
        output_faults = done.out.calls.faults;
        error_faults = done.err.calls.faults;
        input_faults = done.input.calls.faults;
        read = c.in-Ok.ensures.read;
        different = c.in-Ok.ensures.different;
        told = ap (λ it. answer_bytes done.status done.out.taken done.err.taken (content done.files.held (string_bytes it))) c.in-Ok-call.ensures.wanted;
        does = c.in-Ok-call.ensures.does;
        complete = c.in-Ok-call.ensures.complete;
        file = c.in-Ok-call.ensures.file;
        others = c.in-Ok-call.ensures.others;
      },
      c.in-Err-Room.ensures.room (ap Err c.in-Err-Room.field-0-is),
    )
