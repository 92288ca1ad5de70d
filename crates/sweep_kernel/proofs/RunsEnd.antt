-- The runs of a sweep's file end.
use Rattle.std.proofs.Common.{◌≡◌, ◌≢◌, ℕ, zero, suc, ◌+◌, ◌*◌, ◌/◌, ◌-◌, ◌%◌, ◌<◌, ◌≤◌, ◌^◌, List, [], ◌∷◌, length, Some, None, Ok, refl, sym, ap, subst, ◌∙◌, arith, append-nil}
use Rattle.std.specs.List.{All}
use Rattle.std.proofs.lemmas.Nat.{mod_below}
use Rattle.std.proofs.lemmas.List.Elements.{All-nil, All-cons, All-weaker}
use Rattle.guest_types.specs.EarlyLoads.{never}
use Rattle.guest_types.specs.Length.{IsLength}
use Rattle.guest_types.specs.Memory.{Page, Memory, DoNotMeet, page_at, merged}
use Rattle.guest_types.proofs.Merges.{page_at-absent}
use Rattle.guest_types.proofs.Errors.{ok_unique}
use Rattle.machine_model.specs.Load.{Image, Segment, load, pages_from, pages_of as segment_pages}
use Rattle.machine_model.specs.Run.{End, machine_run}
use Rattle.machine_model.specs.Written.{file_of, whole, image_of_words}
use Rattle.machine_model.proofs.WrittenLoads.{load-file_of}
use Rattle.kernel_tree.specs.Plain.{Program}
use Rattle.kernel_tree.specs.Items.{size_of}
use Rattle.kernel_meaning.specs.ScalarRun as scalar
use Rattle.kernel_meaning.specs.ScalarRun.{begun, scalar_run}
use Rattle.dependence.specs.Bound.{slow_bound}
use Rattle.promises.specs.Faithful.{IsStart, Follows, SlowFaithful}
use Rattle.promises.proofs.Promises.{without_stops}
use Rattle.sweep_kernel.specs.Numbers.{next, state_at, random, initial_of, offset_of, level_of, factor_of, count_of, arguments_of}
use Rattle.sweep_kernel.specs.Tree.{kernel_with, kernel_of}
use Rattle.sweep_kernel.specs.Pages.{pages_of}
use Rattle.sweep_kernel.specs.Runs.{most_steps, RunEnds, AllRunsEnd}
use Rattle.sweep_kernel.proofs.PagesMemory.{are_memory, are_high}
use Rattle.sweep_kernel.proofs.Ends.{all_end}

-- ---- the program's pages lie below those of the seed

abbrev IsLow : Page → Type 0
IsLow page = page.page < 4096

low_from : (bytes : List ℕ) (s : Segment) (n count : ℕ) → n + count ≤ 4096 → All IsLow (pages_from bytes s n count)
low_from bytes s n zero h = All-nil IsLow
low_from bytes s n (suc count) h = All-cons IsLow _ (pages_from bytes s (n + 1) count) (omega arith) (low_from bytes s (n + 1) count (omega arith))

low_pages : (words : List ℕ) → length words ≤ 65536 → All IsLow (image_of_words words).pages
unfolding segment_pages
low_pages words few =
    let n = 120 + 4 * length words in
    subst (All IsLow) (sym (append-nil (pages_from (file_of words) (whole n) 1024 ((0x400000 + n - 1) / 4096 + 1 - 1024))))
    (low_from (file_of words) (whole n) 1024 ((0x400000 + n - 1) / 4096 + 1 - 1024) (omega arith))

other_page : (n : ℕ) (q : Page) → n < 4096 → 4096 ≤ q.page → q.page ≢ n
other_page n q low high e = omega arith

apart_pages : (words : List ℕ) (seed : ℕ) → length words ≤ 65536 → DoNotMeet (image_of_words words).pages (pages_of seed)
apart_pages words seed few =
    All-weaker IsLow (λ page. page_at (pages_of seed) page.page ≡ None)
    (λ page low. page_at-absent (pages_of seed) page.page (All-weaker (λ q. 4096 ≤ q.page) (λ q. q.page ≢ page.page) (λ q high. other_page page.page q low high) (pages_of seed) (are_high seed)))
    (image_of_words words).pages (low_pages words few)

-- ---- what a run starts with

drawn_small : (v : ℕ) → v % 2 ^ 64 / 2 ^ 48 < 2 ^ 64
drawn_small v = omega arith

factor_small : (seed : ℕ) → factor_of seed < 2 ^ 64
unfolding state_at next
factor_small seed = drawn_small _

count_small : (seed : ℕ) → count_of seed < 101000
count_small seed = omega (arith, mod_below (random seed 5) 1000 (omega arith))

abbrev IsWord : ℕ → Type 0
IsWord arg = arg < 2 ^ 64

words_of : (factor count : ℕ) → factor < 2 ^ 64 → count < 2 ^ 64 → All IsWord (0x1000000 ∷ 0x2000000 ∷ 0x3000000 ∷ factor ∷ count ∷ [])
words_of factor count f c =
    All-cons IsWord 0x1000000 (0x2000000 ∷ 0x3000000 ∷ factor ∷ count ∷ []) (omega arith)
    (All-cons IsWord 0x2000000 (0x3000000 ∷ factor ∷ count ∷ []) (omega arith)
    (All-cons IsWord 0x3000000 (factor ∷ count ∷ []) (omega arith)
    (All-cons IsWord factor (count ∷ []) f
    (All-cons IsWord count [] c (All-nil IsWord)))))

-- ---- steps

size-is : (initial offset level : ℕ) → size_of (kernel_with initial offset level) ≡ 41
unfolding kernel_with
size-is initial offset level = refl

within_steps : (size iteration_count : ℕ) → size ≡ 41 → iteration_count < 101000 → 1000 + 100 * size + (32 + 8 * size) * (iteration_count + 2) ≤ 100000000
within_steps size iteration_count e l = subst (λ z. 1000 + 100 * z + (32 + 8 * z) * (iteration_count + 2) ≤ 100000000) (sym e) (omega (arith, l))

slow_bound_is_enough : (initial offset level iteration_count : ℕ) → iteration_count < 101000 → slow_bound (kernel_with initial offset level) iteration_count ≤ most_steps
slow_bound_is_enough initial offset level iteration_count l = within_steps (size_of (kernel_with initial offset level)) iteration_count (size-is initial offset level) l

-- ---- runs

sweep_file_ends_at : (k : Program) (file args : List ℕ) (pages : Memory) (vl steps iteration_count : ℕ) (image : Image) (memory : Memory) (result : ℕ) → SlowFaithful k file → load file ≡ Ok image → IsStart image args pages vl → scalar_run k args (merged image.pages pages) ≡ scalar.End memory result iteration_count → slow_bound k iteration_count ≤ steps → (taken : ℕ) × (machine_run file args pages vl steps ≡ Some (End memory result taken))
sweep_file_ends_at k file args pages vl steps iteration_count image memory result f loaded begins ends le =
    let i : image ≡ f.image = ok_unique image f.image (load file) loaded f.loaded in
    let here : scalar_run k args (merged f.image.pages pages) ≡ scalar.End memory result iteration_count = subst (λ (j : Image). scalar_run k args (merged j.pages pages) ≡ scalar.End memory result iteration_count) i ends in
    let bound : slow_bound k (begun (scalar_run k args (merged f.image.pages pages))) ≤ steps = subst (λ (r : scalar.Run). slow_bound k (begun r) ≤ steps) (sym here) le in
    let r = f.runs args pages vl never steps (subst (λ (j : Image). IsStart j args pages vl) i begins) refl bound in
    let g : Follows k args vl (scalar.End memory result iteration_count) r.0 = subst (λ (r' : scalar.Run). Follows k args vl r' r.0) here r.2 in
    (g.0, sym (without_stops file args pages vl steps) ∙ r.1 ∙ ap Some g.1)

sweep_run_ends : (words : List ℕ) (seed vl : ℕ) → length words ≤ 65536 → SlowFaithful (kernel_of seed) (file_of words) → IsLength vl → RunEnds words seed vl
sweep_run_ends words seed vl few f length =
    let apart = apart_pages words seed few in
    let e = all_end (image_of_words words).pages seed apart in
    let begins : IsStart (image_of_words words) (arguments_of seed) (pages_of seed) vl = record {
      few = omega arith;
      words = words_of (factor_of seed) (count_of seed) (factor_small seed) (omega (arith, count_small seed));
      memory = are_memory seed;
      apart = apart;
      length = length;
    } in
    let r = sweep_file_ends_at (kernel_of seed) (file_of words) (arguments_of seed) (pages_of seed) vl most_steps (count_of seed) (image_of_words words) e.memory e.result f (load-file_of words few) begins e.ends (slow_bound_is_enough (initial_of seed) (offset_of seed) (level_of seed) (count_of seed) (count_small seed)) in
    record { memory = e.memory; result = e.result; steps = r.0; machine = r.1; kernel = e.ends }

pub faithful_ends : (words : List ℕ) (seed : ℕ) → length words ≤ 65536 → SlowFaithful (kernel_of seed) (file_of words) → AllRunsEnd words seed
faithful_ends words seed few f = record { apart = apart_pages words seed few; ends = λ vl length. sweep_run_ends words seed vl few f length }
