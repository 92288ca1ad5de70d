-- What holds of some works that are wanted holds of one of them.
use Rattle.std.proofs.Common.{◌≡◌, ℕ, List, Option, Some, None, ap, subst}
use Rattle.std.specs.Prelude.{IfSome}
use Rattle.command_line.specs.Line.{Line}
use Rattle.command_answers.specs.Answer.{HeldFiles, Expected, Answer, answer_of, expected_text, status_of, IsAnswer, IsRefusal, Unwritten}
use Rattle.sve_top.specs.Commands.{Expects, IsSettled, IsInput, WhereTold}
use Rattle.command_answers.specs.Works.{SomeExpected}
use Rattle.sve_top.specs.Does.{Outside, StreamsRose, Does}
use Rattle.command_answers.specs.Outputs.{Prints, Gains, error_line, error_line_by}
use Rattle.sve_top.proofs.SomeExpectedLaws.{some_expected, one_expected}
use Rattle.command_answers.proofs.Statuses.{status_is, prints_by}

pub does_of : (held : Option HeldFiles) (left : Option (List ℕ)) (line : Option Line) (before after : Outside) (s : ℕ) (result : Answer) → s ≡ status_of result
    → WhereTold held left line (λ work. IsAnswer before.file_faults after.file_faults (StreamsRose line before after) (answer_of work) result)
    → WhereTold held left line (λ work. Prints before.printed after.printed (expected_text work) result)
    → WhereTold held left line (λ work. Unwritten work before.held after.held)
    → ((work : Expected) → IsAnswer before.file_faults after.file_faults (StreamsRose line before after) (answer_of work) result → Gains before.errors after.errors before.error_faults after.error_faults (error_line_by (error_line (answer_of work)) s))
    → (input : List ℕ) → IsInput line left input → IsSettled line → IfSome held (λ h. SomeExpected (Expects h input line) (λ work. Does line work before after s))
does_of None left line before after s result is answer printed unwritten error_line input taken settled = tt
does_of (Some h) left line before after s result is answer printed unwritten error_line input taken settled =
    let w = some_expected h input line settled in
    let a = answer input taken w.0 w.1 in
    let p = printed input taken w.0 w.1 in
    let u = unwritten input taken w.0 w.1 in
    let text : expected_text p.0 ≡ expected_text a.0 = ap expected_text (one_expected h input line p.0 a.0 settled p.1 a.1) in (
      a.0,
      a.1,
      record {
        status = status_is _ _ s (StreamsRose line before after) (answer_of a.0) result is a.2;
        prints = prints_by before.printed after.printed (expected_text a.0) s result is (subst (λ t. Prints before.printed after.printed t result) text p.2);
        tells = error_line a.0 a.2;
        unwritten = λ r. u.2 (subst IsRefusal (one_expected h input line a.0 u.0 settled a.1 u.1) r);
      },
    )
