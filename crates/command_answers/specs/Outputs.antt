-- What is put on the output and on the error output.
use Rattle.std.specs.Prelude.{◌≡◌, ℕ, ◌⊎◌, Bool, ◌||◌, List, [], ◌++◌, Option, Some, IfSome, IsTrue, OnOk, Ok, Err, nat_eq, if◌then◌else◌}
use Rattle.io_edges.specs.Files.{Rose}
use Rattle.io_edges.specs.Sink.{GainsPart}
use Rattle.refusals.specs.declared.refusal.Refusal.TheVariants.{Usage, Memory, File, Output}
use Rattle.command_answers.specs.Answer.{Answer}
use Rattle.refusals.specs.Lines.{line_of_refusal}

-- Where it tells what it has taken: the text was appended where the command is done, and a part of it otherwise.
abbrev pub Prints : Option (List ℕ) → Option (List ℕ) → List ℕ → Answer → Type 0
Prints old new text result = IfSome old (λ bytes. OnOk result (new ≡ Some (bytes ++ text)) × GainsPart bytes new text)

-- the command is done
abbrev pub is_done : ℕ → Bool
is_done status = nat_eq status 0 || (nat_eq status 5 || nat_eq status 6)

-- the same by the status
abbrev pub PrintsBy : Option (List ℕ) → Option (List ℕ) → List ℕ → ℕ → Type 0
PrintsBy old new text status =
    IfSome old (λ bytes. (IsTrue (is_done status) → new ≡ Some (bytes ++ text)) × GainsPart bytes new text)

-- ---- the error output

-- what is put on the error output: nothing where the command is done
abbrev pub error_line : Answer → List ℕ
error_line (Ok how) = []
error_line (Err refusal) = line_of_refusal refusal

-- the same by the status, where `own` is the line of a kernel or a file that is refused
abbrev pub error_line_by : List ℕ → ℕ → List ℕ
error_line_by own status =
    if is_done status then [] else if nat_eq status 2 then line_of_refusal Usage else if nat_eq status 3 || nat_eq status 4 then own
    else if nat_eq status 7 then line_of_refusal Memory
    else if nat_eq status 8 then line_of_refusal File else line_of_refusal Output

-- Where it tells what it has taken: the text was appended, or a part of it from the front where the count of faults rose.
abbrev pub Gains : Option (List ℕ) → Option (List ℕ) → (before now : ℕ) → List ℕ → Type 0
Gains old new before now text =
    IfSome old (λ bytes. (new ≡ Some (bytes ++ text)) ⊎ (GainsPart bytes new text × Rose before now))
