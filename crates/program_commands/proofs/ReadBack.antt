-- The listing of a written file, and the file of that listing.
use Rattle.std.proofs.Common.{◌≡◌, ℕ, suc, ◌+◌, ◌-◌, ◌*◌, ◌/◌, ◌%◌, ◌^◌, ◌<◌, ◌≤◌, Bool, true, false, List, [], ◌∷◌, ◌++◌, length, Option, Some, None, Result, Ok, refl, sym, ap, ap₂, ◌∙◌, subst, arith}
use Rattle.std.specs.Prelude.{IfSome, map, slice_get, nat_eq, nat_lt, option_and_then, if◌then◌else◌}
use Rattle.std.specs.Int.{to_le_bytes, byte_at as byte_of_number, w32}
use Rattle.std.specs.List.{AllByRecursion}
use Rattle.std.proofs.lemmas.Bool.{lt-ltb, le-ltb, cond-false, ne_eqb}
use Rattle.std.proofs.lemmas.List.Elements.{All-from_recursion, recursion_from_All}
use Rattle.std.proofs.lemmas.Option.{same_Some}
use Rattle.io_edges.specs.Files.{content}
use Rattle.io_edges.specs.declared.files.TheConstants.{MAX_FILE}
use Rattle.guest_types.specs.Memory.{Page, Memory, page_at, number_at, fetched, is_executable}
use Rattle.guest_types.proofs.Merges.{merged-nil_right}
use Rattle.list_text.specs.Text.{list_text}
use Rattle.machine_model.specs.Load.{code_end_of}
use Rattle.machine_model.specs.Written.{file_of as file_of_words, word_bytes, code_base, whole, image_of_words}
use Rattle.machine_model.proofs.WrittenLoads.{length-file_of, load-file_of}
use Rattle.machine_model.proofs.WrittenFetch.{fetch_beside}
use Rattle.sve_asm.specs.declared.fault.AsmFault.{AsmFault}
use Rattle.sve_asm.specs.Lines.{words_of}
use Rattle.sve_asm.proofs.ListingLengths.{short_listing}
use Rattle.sve_asm.proofs.Listings.{read-listing}
use Rattle.command_answers.specs.Answer.{HeldFiles, expected_text}
use Rattle.command_answers.specs.Reads.{and_then, bytes_of, file_of}
use Rattle.command_answers.specs.Works.{ended, loaded}
use Rattle.program_commands.specs.Commands.{list_program, expected_of_list, assembled_by, assemble_text, expected_of_asm, AssemblesTo, IsAssembled}
use Rattle.program_commands.specs.Listing.{words_from, lines_from, word_count, listing_of}
use Rattle.program_commands.specs.ReadBack.{IsProgram, IsListed}
use Rattle.program_commands.proofs.Programs.{nothing_does_not_meet}

-- ---- the words of an image

-- what is fetched is the number that stands there
in_page : (number w : ℕ) (page : Option Page) → option_and_then (λ p. if is_executable p.perm then Some number else None) page ≡ Some w → number ≡ w
in_page number w None e = cc
in_page number w (Some page) e = by (is_executable page.perm) e
  where
    by : (b : Bool) → (if b then Some number else None) ≡ Some w → number ≡ w
    by true e = same_Some number w e
    by false e = cc

fetched_number : (memory : Memory) (pc w : ℕ) → fetched memory pc ≡ Some w → number_at memory pc 4 ≡ w
fetched_number memory pc w e = by (nat_eq (pc % 4) 0) e
  where
    by : (b : Bool) → (if b then option_and_then (λ p. if is_executable p.perm then Some (number_at memory pc 4) else None) (page_at memory (pc / 4096)) else None) ≡ Some w → number_at memory pc 4 ≡ w
    by true e = in_page (number_at memory pc 4) w (page_at memory (pc / 4096)) e
    by false e = cc

-- words that stand one after another from an address on
words_there : (memory : Memory) (address : ℕ) (words : List ℕ) → ((k w : ℕ) → slice_get words k ≡ Some w → number_at memory (address + 4 * k) 4 ≡ w) → words_from memory address (length words) ≡ words
unfolding words_from
words_there memory address [] at = refl
words_there memory address (word ∷ words) at =
    let here : address + 4 * 0 ≡ address = omega arith in
    let first : number_at memory address 4 ≡ word = subst (λ a. number_at memory a 4 ≡ word) here (at 0 word refl) in
    let rest : words_from memory (address + 4) (length words) ≡ words = words_there memory (address + 4) words (λ k w e.
    let there : address + 4 * suc k ≡ address + 4 + 4 * k = omega arith in
    subst (λ a. number_at memory a 4 ≡ w) there (at (suc k) w e)) in
    ap (λ n. n ∷ words_from memory (address + 4) (length words)) first ∙ ap (λ ws. word ∷ ws) rest

word_there : (words : List ℕ) → IsProgram words → (k w : ℕ) → slice_get words k ≡ Some w → number_at (image_of_words words).pages (code_base + 4 * k) 4 ≡ w
word_there words is k w at =
    let own = (image_of_words words).pages in
    let fetch = fetch_beside words [] k w is.few is.small (nothing_does_not_meet own [] refl) at in
    fetched_number own (code_base + 4 * k) w (subst (λ m. fetched m (code_base + 4 * k) ≡ Some w) (merged-nil_right own) fetch)

-- ---- the listing of an image

code_end_is : (words : List ℕ) → 0 < length words → code_end_of code_base (whole (120 + 4 * length words) ∷ []) ≡ 0x400000 + (120 + 4 * length words)
code_end_is words some =
    let high : nat_lt code_base (0x400000 + (120 + 4 * length words)) ≡ true = lt-ltb _ _ (omega (arith, some)) in
    rw high refl

code_from_is : (words : List ℕ) → 0 < length words → (image_of_words words).code_from ≡ code_base
code_from_is words some =
    cond-false _ _ _ (ap (λ end. nat_eq end 0) (code_end_is words some) ∙ ne_eqb (0x400000 + (120 + 4 * length words)) 0 (λ z. omega (arith, z)))

word_count_of_image : (words : List ℕ) → 0 < length words → word_count (image_of_words words) ≡ length words
word_count_of_image words some =
    let whole_words : (0x400000 + (120 + 4 * length words) - code_base) / 4 ≡ length words = omega arith in
    ap (λ end. (end - (image_of_words words).code_from) / 4) (code_end_is words some)
    ∙ ap (λ from. (0x400000 + (120 + 4 * length words) - from) / 4) (code_from_is words some)
    ∙ whole_words

-- the words of a file, from the first one to the end
pub image_listed : (words : List ℕ) → IsProgram words → listing_of (image_of_words words) ≡ list_text code_base words
unfolding listing_of lines_from words_from list_text
image_listed [] is = refl
image_listed (word ∷ words) is =
    let all = word ∷ words in
    let pages = (image_of_words all).pages in
    ap (λ from. list_text from (words_from pages from (word_count (image_of_words all)))) (code_from_is all (omega arith))
    ∙ ap (λ count. list_text code_base (words_from pages code_base count)) (word_count_of_image all (omega arith))
    ∙ ap (list_text code_base) (words_there pages code_base all (word_there all is))

-- ---- what the commands come to

program_listed : (words : List ℕ) → IsProgram words → list_program (file_of_words words) ≡ ended (list_text code_base words)
unfolding list_program
program_listed words is =
    ap (λ l. and_then (loaded l) (λ image. ended (listing_of image))) (load-file_of words is.few)
    ∙ ap ended (image_listed words is)

-- a file that is not too long is read
file_read : (held : HeldFiles) (name bytes : List ℕ) → content held name ≡ Some bytes → length bytes ≤ MAX_FILE → file_of held name ≡ Ok bytes
file_read held name bytes there short = ap bytes_of there ∙ cond-false _ _ _ (le-ltb MAX_FILE (length bytes) short)

pub file_listed : (words : List ℕ) (held : HeldFiles) (name : List ℕ) → IsProgram words → content held name ≡ Some (file_of_words words) → expected_of_list held name ≡ ended (list_text code_base words)
file_listed words held name is there =
    let few = is.few in
    let short : length (file_of_words words) ≤ MAX_FILE = omega (arith, few, length-file_of words) in
    ap (λ bytes. and_then bytes list_program) (file_read held name (file_of_words words) there short)
    ∙ program_listed words is

short_text : (words : List ℕ) → IsProgram words → length (list_text code_base words) ≤ 8388608
short_text words is = short_listing code_base words (recursion_from_All (λ w. w < 2 ^ 32) words is.small) is.few

pub words_again : (words : List ℕ) → IsProgram words → words_of (list_text code_base words) ≡ Ok words
words_again words is = read-listing code_base words (recursion_from_All (λ w. w < 2 ^ 32) words is.small) is.few

text_assembled : (words : List ℕ) → IsProgram words → assemble_text (list_text code_base words) ≡ ended []
unfolding assemble_text
text_assembled words is = ap assembled_by (words_again words is)

-- ---- numbers of more than 32 bits: the file has the lowest 32 of each

lowest : List ℕ → List ℕ
lowest words = map (λ word. word % 2 ^ 32) words

length_lowest : (words : List ℕ) → length (lowest words) ≡ length words
unfolding lowest
length_lowest [] = refl
length_lowest (word ∷ words) = ap suc (length_lowest words)

small_lowest : (words : List ℕ) → AllByRecursion (λ word. word < 2 ^ 32) (lowest words)
unfolding lowest
small_lowest [] = tt
small_lowest (word ∷ words) = (omega arith, small_lowest words)

bytes_of_word : (word : ℕ) → to_le_bytes w32 (word % 2 ^ 32) ≡ to_le_bytes w32 word
bytes_of_word word =
    let b0 : byte_of_number 0 (word % 2 ^ 32) ≡ byte_of_number 0 word = omega arith in
    let b1 : byte_of_number 1 (word % 2 ^ 32) ≡ byte_of_number 1 word = omega arith in
    let b2 : byte_of_number 2 (word % 2 ^ 32) ≡ byte_of_number 2 word = omega arith in
    let b3 : byte_of_number 3 (word % 2 ^ 32) ≡ byte_of_number 3 word = omega arith in
    rw (b0, b1, b2, b3) refl

bytes_lowest : (words : List ℕ) → word_bytes (lowest words) ≡ word_bytes words
unfolding lowest
bytes_lowest [] = refl
bytes_lowest (word ∷ words) = ap₂ (λ (front back : List ℕ). front ++ back) (bytes_of_word word) (bytes_lowest words)

file_lowest : (words : List ℕ) → file_of_words words ≡ file_of_words (lowest words)
file_lowest words = rw (length_lowest words, bytes_lowest words) refl

lowest_program : (words : List ℕ) → length words ≤ 65536 → IsProgram (lowest words)
lowest_program words few = record {
  few = let same = length_lowest words in omega (arith, same, few);
  small = All-from_recursion (λ word. word < 2 ^ 32) (lowest words) (small_lowest words);
}

-- the text of a program that is listed
text_is : (words : List ℕ) (first later : HeldFiles) (program listing : List ℕ) → IsListed words first later program listing → content later listing ≡ Some (list_text code_base (lowest words))
text_is words first later program listing is =
    is.text
    ∙ ap (λ wanted. Some (expected_text wanted))
    (file_listed (lowest words) first program (lowest_program words is.few) (is.file ∙ ap (λ file. Some file) (file_lowest words)))

-- ---- the file that is made of a listing

pub listing_assembled : (words : List ℕ) (first later : HeldFiles) (program listing : List ℕ) → IsListed words first later program listing → expected_of_asm later listing ≡ ended []
listing_assembled words first later program listing is =
    let program_is = lowest_program words is.few in
    let text = short_text (lowest words) program_is in
    let short : length (list_text code_base (lowest words)) ≤ MAX_FILE = omega (arith, text) in
    ap (λ bytes. and_then bytes assemble_text) (file_read later listing (list_text code_base (lowest words)) (text_is words first later program listing is) short)
    ∙ text_assembled (lowest words) program_is

same_words : (read : Result (List ℕ) AsmFault) (a b : List ℕ) → read ≡ Ok a → read ≡ Ok b → a ≡ b
same_words read a b e f = cc

only_file : (words : List ℕ) → IsProgram words → (file : List ℕ) → AssemblesTo (list_text code_base words) file → file ≡ file_of_words words
only_file words is file a = a.is_file ∙ ap file_of_words (same_words (words_of (list_text code_base words)) a.words words a.spelled (words_again words is))

pub file_again : (words : List ℕ) (first second third : HeldFiles) (program listing again : List ℕ) → IsListed words first second program listing → IsAssembled second third listing again → content third again ≡ content first program
file_again words first second third program listing again is assembled =
    let made : IfSome (Some (list_text code_base (lowest words))) (λ text. (file : List ℕ) × (content third again ≡ Some file) × AssemblesTo text file) =
    subst (λ found. IfSome found (λ text. (file : List ℕ) × (content third again ≡ Some file) × AssemblesTo text file)) (text_is words first second program listing is) assembled in
    made.1
    ∙ ap (λ file. Some file) (only_file (lowest words) (lowest_program words is.few) made.0 made.2 ∙ sym (file_lowest words))
    ∙ sym is.file
