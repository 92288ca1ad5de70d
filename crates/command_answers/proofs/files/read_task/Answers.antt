use Rattle.std.proofs.Common.{◌≡◌, Ok, refl, ap, ap₂, sym, ◌∙◌, subst}
use Rattle.std.specs.Prelude.{IfSome, option_map, string_bytes}
use Rattle.command_answers.specs.Answer.{IsFileAnswer}
use Rattle.command_answers.specs.Reads.{and_then, file_of, map_of, bytes_in, files_in}
use Rattle.command_answers.proofs.Reading.{stops_there, is_err}
use Rattle.std.specs.Prelude.{[], ◌∷◌}
use Rattle.command_answers.specs.Requests.{Asks, IsOk, Read, map_wants}
use Rattle.command_answers.proofs.Asks.{stops_asks, then_asks, fails_asks, ends_asks}
use Rattle.command_answers.proofs.files.read_task.Goals as goal

pub returns-in_err-file-clause-answer : goal.returns-in_err-file-clause-answer
returns-in_err-file-clause-answer g c =
    let name = string_bytes c.args.task.now.file in
    stops_there (g.F.Files.faults c.args.files.now) (g.F.Files.faults c.read_file.new.files) (g.F.Files.held c.args.files.now) (λ h. file_of h name) (bytes_in c.read_file.result)
    (λ h file. and_then (map_of h (option_map string_bytes c.args.task.now.map)) (λ map. Ok (file, map))) c.in_err-file.field-0.0 (files_in c.from_residual.result)
    (ap bytes_in c.in_err-file.was) (ap files_in (is_err c.in_err-file.field-0.0 c.from_residual.result c.from_residual.ensures.1))
    (subst (λ n. IfSome (g.F.Files.held c.args.files.now) (λ h. IsFileAnswer (g.F.Files.faults c.args.files.now) (g.F.Files.faults c.read_file.new.files) (file_of h n) (bytes_in c.read_file.result))) c.as_str.ensures.value c.read_file.ensures.answer)

pub returns-in_err-file-clause-asked : goal.returns-in_err-file-clause-asked
returns-in_err-file-clause-asked g c =
    stops_asks IsOk (g.F.Files.requests c.args.files.now) (g.F.Files.requests c.read_file.new.files) (Read (string_bytes c.args.task.now.file) ∷ []) (map_wants (option_map string_bytes c.args.task.now.map)) c.in_err-file.field-0.0 c.read_file.result c.from_residual.result
    c.in_err-file.was (is_err c.in_err-file.field-0.0 c.from_residual.result c.from_residual.ensures.1)
    (subst (λ n. Asks IsOk (g.F.Files.requests c.args.files.now) (g.F.Files.requests c.read_file.new.files) (Read n ∷ []) c.read_file.result) c.as_str.ensures.value c.read_file.ensures.asked)

pub returns-in_err-map-clause-asked : goal.returns-in_err-map-clause-asked
returns-in_err-map-clause-asked g c =
    then_asks IsOk IsOk (g.F.Files.requests c.args.files.now) (g.F.Files.requests c.read_file.new.files) (g.F.Files.requests c.read_map_file.new.files) (Read (string_bytes c.args.task.now.file) ∷ []) (map_wants (option_map string_bytes c.args.task.now.map)) c.in_ok-file.file c.read_file.result c.from_residual-in_err-map.result
    c.in_ok-file.was (subst (λ n. Asks IsOk (g.F.Files.requests c.args.files.now) (g.F.Files.requests c.read_file.new.files) (Read n ∷ []) c.read_file.result) c.as_str.ensures.value c.read_file.ensures.asked)
    (fails_asks IsOk (g.F.Files.requests c.read_file.new.files) (g.F.Files.requests c.read_map_file.new.files) (map_wants (option_map string_bytes c.args.task.now.map)) c.in_err-map.field-0.0 c.read_map_file.result c.from_residual-in_err-map.result
    c.in_err-map.was (is_err c.in_err-map.field-0.0 c.from_residual-in_err-map.result c.from_residual-in_err-map.ensures.1) c.read_map_file.ensures.asked)

pub returns-clause-asked : goal.returns-clause-asked
returns-clause-asked g c =
    then_asks IsOk IsOk (g.F.Files.requests c.args.files.now) (g.F.Files.requests c.read_file.new.files) (g.F.Files.requests c.read_map_file.new.files) (Read (string_bytes c.args.task.now.file) ∷ []) (map_wants (option_map string_bytes c.args.task.now.map)) c.in_ok-file.file c.read_file.result _
    c.in_ok-file.was (subst (λ n. Asks IsOk (g.F.Files.requests c.args.files.now) (g.F.Files.requests c.read_file.new.files) (Read n ∷ []) c.read_file.result) c.as_str.ensures.value c.read_file.ensures.asked)
    (ends_asks IsOk IsOk (g.F.Files.requests c.read_file.new.files) (g.F.Files.requests c.read_map_file.new.files) (map_wants (option_map string_bytes c.args.task.now.map)) c.in_ok-map.map c.read_map_file.result _ c.in_ok-map.was tt c.read_map_file.ensures.asked)
