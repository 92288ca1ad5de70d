-- What is put on outputs.
use Rattle.std.proofs.Common.{◌≡◌, ℕ, List, [], ◌++◌, Option, Some, None, Ok, Err, sym, ap, append-nil}
use Rattle.std.specs.Prelude.{IfSome}
use Rattle.io_edges.specs.Sink.{GainsPart}
use Rattle.refusals.specs.declared.refusal.Refusal.{Refusal}
use Rattle.refusals.specs.declared.refusal.Done.{Done}
use Rattle.command_answers.specs.Answer.{Answer}
use Rattle.command_answers.specs.Outputs.{Prints}
use Rattle.io_edges.proofs.Puts.{part_none}

-- nothing was put on an output, and the command was refused
pub prints_nothing : (old : Option (List ℕ)) (text : List ℕ) (refusal : Refusal) → Prints old old text (Err refusal)
prints_nothing None text refusal = tt
prints_nothing (Some bytes) text refusal = (tt, part_none bytes text)

-- nothing was put on the output, where there is nothing to put
pub prints_none : (old : Option (List ℕ)) (answer : Answer) → Prints old old [] answer
prints_none None answer = tt
prints_none (Some bytes) (Ok how) = (ap Some (sym (append-nil bytes)), part_none bytes [])
prints_none (Some bytes) (Err refusal) = (tt, part_none bytes [])

-- a part of a text was put on the output, and then it failed
pub prints_part : (old new : Option (List ℕ)) (text : List ℕ) (refusal : Refusal) → IfSome old (λ bytes. GainsPart bytes new text) → Prints old new text (Err refusal)
prints_part None new text refusal h = tt
prints_part (Some bytes) new text refusal h = (tt, h)

-- all of it was put
pub prints_all : (old new : Option (List ℕ)) (text : List ℕ) (how : Done) → IfSome old (λ bytes. new ≡ Some (bytes ++ text)) → IfSome old (λ bytes. GainsPart bytes new text) → Prints old new text (Ok how)
prints_all None new text how a h = tt
prints_all (Some bytes) new text how a h = (a, h)
