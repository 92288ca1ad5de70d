use Rattle.std.proofs.Common.{[], None, Ok, sym, ap, subst}
use Rattle.std.specs.Prelude.{option_map, string_bytes}
use Rattle.command_answers.specs.Requests.{IsOk, Asks, Asked, all_went, map_wants}
use Rattle.command_answers.proofs.Asks.{none_asked}
use Rattle.command_answers.proofs.files.read_map_file.Goals as goal

pub returns-in-None-clause-asked : goal.returns-in-None-clause-asked
returns-in-None-clause-asked g c =
    subst (λ w. Asks IsOk (g.F.Files.requests c.args.files.now) (g.F.Files.requests c.args.files.now) w (Ok c.new.result)) (sym (ap (λ o. map_wants (option_map string_bytes o)) c.in-None.is))
    (none_asked (g.F.Files.requests c.args.files.now) (λ a. Asked IsOk [] a (Ok c.new.result)) (all_went tt))
