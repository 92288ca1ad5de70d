-- The listing of a file that `compile` wrote, and the file that `asm` makes of it.
use Rattle.std.proofs.Common.{◌≡◌, ℕ, List, [], Some, refl, ap, ◌∙◌, arith}
use Rattle.io_edges.specs.Files.{content}
use Rattle.command_answers.specs.Answer.{HeldFiles, Expected}
use Rattle.command_answers.specs.Reads.{and_then}
use Rattle.command_answers.specs.Works.{ended, loaded}
use Rattle.program_commands.specs.Commands.{list_program, expected_of_list, expected_of_asm, IsAssembled}
use Rattle.program_commands.specs.Listing.{listing_of}
use Rattle.program_commands.specs.ReadBack.{IsListed}
use Rattle.program_commands.proofs.ReadBack.{listing_assembled, file_again}
use Rattle.compile_command.specs.Compiles.{CompilesTo, IsCompiled}
use Rattle.run_laws.specs.CompiledListings.{IsCompiledAndListed}
use Rattle.run_laws.specs.EvaluatedRuns.{HasEnded}
use Rattle.run_laws.proofs.CompiledRuns.{left_of, read_whole}

-- ---- the file is listed

done_with : (work : Expected) (text : List ℕ) → work ≡ ended text → HasEnded work
done_with work text e = rw e refl

program_listed : (text file : List ℕ) → CompilesTo text file → HasEnded (list_program file)
unfolding list_program
program_listed text file c =
    done_with _ (listing_of c.faithful.image) (ap (λ l. and_then (loaded l) (λ image. ended (listing_of image))) c.faithful.loaded)

pub compiled_listed : (old new : HeldFiles) (from to text : List ℕ) → content old from ≡ Some text → IsCompiled old new from to → HasEnded (expected_of_list new to)
compiled_listed old new from to text stood compiled =
    let c = left_of old new from to text stood compiled in
    let read = read_whole text c.0 new to c.2 c.1 in
    rw read (program_listed text c.0 c.2)

-- ---- the listing is assembled

-- the words of the file that was listed
are_listed : (old new later : HeldFiles) (from to listing : List ℕ) → IsCompiledAndListed old new later from to listing → (words : List ℕ) × IsListed words new later to listing
are_listed old new later from to listing x =
    let c = left_of old new from to x.text x.stood x.compiled in
    let code = c.2.code in
    let few = code.few in
    let small = c.2.small in
    (code.words, record { few = omega (arith, few, small); file = c.1 ∙ ap (λ file. Some file) code.file_is; text = x.listed })

pub compiled_accepted : (old new later : HeldFiles) (from to listing : List ℕ) → IsCompiledAndListed old new later from to listing → expected_of_asm later listing ≡ ended []
compiled_accepted old new later from to listing x =
    let words = are_listed old new later from to listing x in
    listing_assembled words.0 new later to listing words.1

pub compiled_again : (old new later last : HeldFiles) (from to listing again : List ℕ) → IsCompiledAndListed old new later from to listing → IsAssembled later last listing again → content last again ≡ content new to
compiled_again old new later last from to listing again x assembled =
    let words = are_listed old new later from to listing x in
    file_again words.0 new later last to listing again words.1 assembled
