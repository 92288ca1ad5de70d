-- Programs that are loaded have few pages, and what is wanted where a program or its map is refused.
use Rattle.std.proofs.Common.{◌≡◌, ℕ, ◌+◌, ◌≤◌, Bool, true, false, cond, List, [], ◌∷◌, length, flat_map, Option, Some, None, Result, Ok, Err, refl, sym, ap, ◌∙◌, subst, arith, length-append}
use Rattle.std.specs.Prelude.{nat_lt, nat_eq, sum_by, filter, ◌*◌, ◌&&◌, ◌||◌, not, IfErr, IsErrAnd, if◌then◌else◌}
use Rattle.std.proofs.lemmas.Bool.{ltb-false}
use Rattle.std.proofs.lemmas.List.Sums.{sum_by-cons}
use Rattle.guest_types.specs.Memory.{Memory}
use Rattle.guest_types.proofs.Errors.{ok_unique}
use Rattle.machine_model.specs.declared.elf_fault.ElfFault.{ElfFault}
use Rattle.machine_model.specs.declared.elf_fault.ElfFault.TheVariants.{Short, NotElf, NotAarch64, NotStatic, BadSegment, SegmentsClash, TooManyPages, Memory as NoMemory}
use Rattle.machine_model.specs.Load.{Image, Segment, load, load_segments, segments_from, le_at, image_of, is_loaded, first_bad, any_segment, is_dynamic, has_ident, pages_from, pages_of, page_count, first_page, put_in_order, in_order, clash}
use Rattle.elf_image.specs.Loaded.{Refuses}
use Rattle.elf_image.proofs.Memories.{length-pages_from}
use Rattle.map_text.specs.declared.fault.MapFault.{MapFault}
use Rattle.map_text.specs.declared.fault.MapFault.TheVariants as maps
use Rattle.map_text.specs.View.{Refuses as RefusesMap}
use Rattle.refusals.specs.declared.refusal.Refusal.{Refusal}
use Rattle.refusals.specs.declared.refusal.Refusal.TheVariants.{Elf, Map}
use Rattle.refusals.specs.Statuses.{of_elf, of_map}
use Rattle.command_answers.specs.Answer.{Expected}
use Rattle.command_answers.specs.Works.{RefusesProgram}

-- ---- an image has few pages

length-pages : (bytes : List ℕ) (xs : List Segment) → length (flat_map (pages_of bytes) xs) ≡ sum_by page_count xs
unfolding pages_of
length-pages bytes [] = refl
length-pages bytes (s ∷ xs) =
    length-append (pages_from bytes s (first_page s) (page_count s)) (flat_map (pages_of bytes) xs)
    ∙ ap (λ n. n + length (flat_map (pages_of bytes) xs)) (length-pages_from bytes s (first_page s) (page_count s))
    ∙ ap (λ n. page_count s + n) (length-pages bytes xs)
    ∙ sym (sum_by-cons page_count s xs)

-- order does not change a sum
sum-put : (f : Segment → ℕ) (s : Segment) (xs : List Segment) → sum_by f (put_in_order s xs) ≡ f s + sum_by f xs
sum-put f s [] = sum_by-cons f s []
sum-put f s (o ∷ os) = branch (nat_lt (first_page s) (first_page o)) (sum-put f s os)
  where
    branch : (t : Bool) → sum_by f (put_in_order s os) ≡ f s + sum_by f os → sum_by f (cond t (s ∷ o ∷ os) (o ∷ put_in_order s os)) ≡ f s + sum_by f (o ∷ os)
    branch true h = sum_by-cons f s (o ∷ os)
    branch false h =
        let more = sum_by-cons f o (put_in_order s os) in
        let less = sum_by-cons f o os in
        omega (arith, h, more, less)

sum-in_order : (f : Segment → ℕ) (xs : List Segment) → sum_by f (in_order xs) ≡ sum_by f xs
sum-in_order f [] = refl
sum-in_order f (s ∷ xs) =
    sum-put f s (in_order xs) ∙ ap (λ n. f s + n) (sum-in_order f xs) ∙ sym (sum_by-cons f s xs)

ok_past_fault : (t : Bool) (fault : ElfFault) (rest : Result Image ElfFault) (image : Image) → cond t (Err fault) rest ≡ Ok image → rest ≡ Ok image
ok_past_fault true fault rest image e = absurd cc
ok_past_fault false fault rest image e = e

few_loaded : (bytes : List ℕ) (entry : ℕ) (loaded : List Segment) (image : Image) (t : Bool) → nat_lt 16384 (sum_by page_count loaded) ≡ t → cond t (Err TooManyPages) (cond (clash loaded) (Err SegmentsClash) (Ok (image_of bytes entry loaded))) ≡ Ok image → length image.pages ≤ 16384
few_loaded bytes entry loaded image true e h = absurd cc
few_loaded bytes entry loaded image false e h =
    let is : image_of bytes entry loaded ≡ image = ok_unique _ _ (Ok (image_of bytes entry loaded)) refl (ok_past_fault (clash loaded) SegmentsClash _ image h) in
    let sum : length (flat_map (pages_of bytes) (in_order loaded)) ≡ sum_by page_count loaded = length-pages bytes (in_order loaded) ∙ sum-in_order page_count loaded in
    let count : length image.pages ≡ length (flat_map (pages_of bytes) (in_order loaded)) = sym (ap (λ i. length i.pages) is) in
    let most : sum_by page_count loaded ≤ 16384 = ltb-false 16384 (sum_by page_count loaded) e in
    omega arith

few_segments : (bytes : List ℕ) (entry : ℕ) (segments : List Segment) (image : Image) (bad : Option ℕ) → ◌≡◌ {A = Result Image ElfFault} (elim bad [ Some index ↦ Err (BadSegment index) | None ↦ cond (nat_lt 16384 (sum_by page_count (filter is_loaded segments))) (Err TooManyPages) (cond (clash (filter is_loaded segments)) (Err SegmentsClash) (Ok (image_of bytes entry (filter is_loaded segments)))) ]) (Ok image) → length image.pages ≤ 16384
few_segments bytes entry segments image (Some index) h = absurd cc
few_segments bytes entry segments image None h =
    few_loaded bytes entry (filter is_loaded segments) image _ refl h

-- what is answered from each check on
abbrev headers : List ℕ → List Segment
headers bytes = segments_from bytes (le_at bytes 32 8) (le_at bytes 56 2)

abbrev from_segments : List ℕ → Result Image ElfFault
from_segments bytes = load_segments bytes (le_at bytes 24 8) (headers bytes)

abbrev from_table : List ℕ → Result Image ElfFault
from_table bytes =
    if not (nat_eq (le_at bytes 56 2) 0) && nat_lt (length bytes) (le_at bytes 32 8 + 56 * le_at bytes 56 2) then Err (Short (le_at bytes 32 8 + 56 * le_at bytes 56 2) (length bytes))
    else from_segments bytes

abbrev from_type : List ℕ → Result Image ElfFault
from_type bytes = if not (nat_eq (le_at bytes 16 2) 2) then Err NotStatic else from_table bytes

abbrev from_machine : List ℕ → Result Image ElfFault
from_machine bytes = if not (nat_eq (le_at bytes 18 2) 183) then Err NotAarch64 else from_type bytes

abbrev from_ident : List ℕ → Result Image ElfFault
from_ident bytes =
    if not (has_ident bytes) || (not (nat_eq (le_at bytes 56 2) 0) && not (nat_eq (le_at bytes 54 2) 56)) then Err NotElf else from_machine bytes

to_segments : (bytes : List ℕ) (image : Image) → load bytes ≡ Ok image → from_segments bytes ≡ Ok image
to_segments bytes image h =
    let ident = ok_past_fault (nat_lt (length bytes) 64) (Short 64 (length bytes)) (from_ident bytes) image h in
    let machine = ok_past_fault (not (has_ident bytes) || (not (nat_eq (le_at bytes 56 2) 0) && not (nat_eq (le_at bytes 54 2) 56))) NotElf (from_machine bytes) image ident in
    let type = ok_past_fault (not (nat_eq (le_at bytes 18 2) 183)) NotAarch64 (from_type bytes) image machine in
    let table = ok_past_fault (not (nat_eq (le_at bytes 16 2) 2)) NotStatic (from_table bytes) image type in
    ok_past_fault (not (nat_eq (le_at bytes 56 2) 0) && nat_lt (length bytes) (le_at bytes 32 8 + 56 * le_at bytes 56 2)) (Short (le_at bytes 32 8 + 56 * le_at bytes 56 2) (length bytes)) (from_segments bytes) image table

-- an image that was loaded has few pages
pub few_pages : (bytes : List ℕ) (image : Image) → load bytes ≡ Ok image → length image.pages ≤ 16384
few_pages bytes image h =
    few_segments bytes (le_at bytes 24 8) (headers bytes) image (first_bad (length bytes) 0 (headers bytes))
    (ok_past_fault (any_segment is_dynamic (headers bytes)) NotStatic _ image (to_segments bytes image h))

-- ---- programs that are refused

-- a refusal of the loader is that of the command, where the command wants it
pub program_refused : (image : Result Image ElfFault) (wanted : Expected) (fault : ElfFault) (refusal : Refusal) → ((fault : ElfFault) → image ≡ Err fault → wanted ≡ Err (Elf fault)) → refusal ≡ of_elf fault → Refuses image fault → RefusesProgram wanted refusal
program_refused image wanted fault refusal all is h = subst (RefusesProgram wanted) (sym is) (by fault h)
  where
    by : (fault : ElfFault) → Refuses image fault → RefusesProgram wanted (of_elf fault)
    by (Short need have) h = all (Short need have) h
    by NotElf h = all NotElf h
    by NotAarch64 h = all NotAarch64 h
    by NotStatic h = all NotStatic h
    by (BadSegment index) h = all (BadSegment index) h
    by SegmentsClash h = all SegmentsClash h
    by TooManyPages h = all TooManyPages h
    by NoMemory h = tt

pub error_refused : {T : Type 0} (image : Result Image ElfFault) (wanted : Expected) (fault : ElfFault) (result : Result T Refusal) → ((fault : ElfFault) → image ≡ Err fault → wanted ≡ Err (Elf fault)) → IsErrAnd result (λ refusal. refusal ≡ of_elf fault) → Refuses image fault → IfErr result (λ refusal. RefusesProgram wanted refusal)
error_refused image wanted fault (Ok value) all is h = tt
error_refused image wanted fault (Err refusal) all is h = program_refused image wanted fault refusal all is h

-- the same of a map's refusal
pub map_refused : (pages : Result Memory MapFault) (wanted : Expected) (fault : MapFault) (refusal : Refusal) → ((fault : MapFault) → pages ≡ Err fault → wanted ≡ Err (Map fault)) → refusal ≡ of_map fault → RefusesMap pages fault → RefusesProgram wanted refusal
map_refused pages wanted fault refusal all is h = subst (RefusesProgram wanted) (sym is) (by fault h)
  where
    by : (fault : MapFault) → RefusesMap pages fault → RefusesProgram wanted (of_map fault)
    by (maps.BadLine line) h = all (maps.BadLine line) h
    by (maps.Clash line) h = all (maps.Clash line) h
    by (maps.Unmapped line) h = all (maps.Unmapped line) h
    by maps.TooManyPages h = all maps.TooManyPages h
    by maps.Memory h = tt

pub map_error_refused : {T : Type 0} (pages : Result Memory MapFault) (wanted : Expected) (fault : MapFault) (result : Result T Refusal) → ((fault : MapFault) → pages ≡ Err fault → wanted ≡ Err (Map fault)) → IsErrAnd result (λ refusal. refusal ≡ of_map fault) → RefusesMap pages fault → IfErr result (λ refusal. RefusesProgram wanted refusal)
map_error_refused pages wanted fault (Ok value) all is h = tt
map_error_refused pages wanted fault (Err refusal) all is h = map_refused pages wanted fault refusal all is h
