-- A state in which a function of some words may be called: the words stand in executable pages, and SP at the end of a page that may be
-- written. So what is asked of a call is met, for each function.
use Rattle.std.proofs.Common.{◌≡◌, ◌≢◌, ℕ, zero, suc, ◌+◌, ◌*◌, ◌/◌, ◌-◌, ◌%◌, ◌<◌, ◌≤◌, ◌^◌, true, List, [], ◌∷◌, length, None, refl, sym, ap, ap₂, subst, ◌∙◌, arith, append-nil}
use Rattle.std.specs.Prelude.{All, replicate}
use Rattle.std.proofs.lemmas.List.Elements.{All-nil, All-cons, All-weaker, All-replicate}
use Rattle.guest_types.specs.declared.memory.Perm.TheVariants.{ReadWrite}
use Rattle.guest_types.specs.Memory.{Page, Memory, IsPage, IsMemory, DoNotMeet, can_write, fetched, may_write, page_at, merged}
use Rattle.guest_types.proofs.Merges.{page_at-absent, page_at-merged_right}
use Rattle.machine_model.specs.Load.{Segment, pages_from, pages_of as segment_pages}
use Rattle.machine_model.specs.Machine.{State}
use Rattle.machine_model.specs.Run.{start, start_of}
use Rattle.machine_model.specs.States.{IsState}
use Rattle.machine_model.specs.Written.{file_of, whole, image_of_words, code_base}
use Rattle.machine_model.proofs.StateSteps.{plain_start_is}
use Rattle.promises.specs.Saved.{Saved, doublewords, frame_size}
use Rattle.kernel_compile.proofs.FileStart.{image_memory, words_stand}
use Rattle.promises.specs.Function.{InFrame, IsCall}

-- ---- the pages

abbrev IsLow : Page → Type 0
IsLow page = page.page < 4096

low_from : (bytes : List ℕ) (s : Segment) (n count : ℕ) → n + count ≤ 4096 → All IsLow (pages_from bytes s n count)
low_from bytes s n zero h = All-nil IsLow
low_from bytes s n (suc count) h = All-cons IsLow _ (pages_from bytes s (n + 1) count) (omega arith) (low_from bytes s (n + 1) count (omega arith))

low_pages : (words : List ℕ) → length words ≤ 65536 → All IsLow (image_of_words words).pages
unfolding segment_pages
low_pages words few =
    let n = 120 + 4 * length words in
    subst (All IsLow) (sym (append-nil (pages_from (file_of words) (whole n) 1024 ((0x400000 + n - 1) / 4096 + 1 - 1024))))
    (low_from (file_of words) (whole n) 1024 ((0x400000 + n - 1) / 4096 + 1 - 1024) (omega arith))

-- the page below SP
abbrev stack : Memory
stack = record { page = 4096; perm = ReadWrite; bytes = replicate 4096 0 } ∷ []

not_stack : (page : Page) → IsLow page → page_at stack page.page ≡ None
not_stack page low = page_at-absent stack page.page (All-cons (λ q. q.page ≢ page.page) _ [] (λ e. let same = e in absurd (omega (arith, low, same))) (All-nil (λ q. q.page ≢ page.page)))

apart : (words : List ℕ) → length words ≤ 65536 → DoNotMeet (image_of_words words).pages stack
apart words few = All-weaker IsLow (λ page. page_at stack page.page ≡ None) not_stack (image_of_words words).pages (low_pages words few)

stack_memory : IsMemory stack
stack_memory = record {
  ascending = λ k h. let few = h in absurd (omega (arith, few));
  pages = All-cons IsPage _ [] (record { below = omega arith; whole = refl; small = All-replicate (λ b. b < 256) 4096 0 (omega arith) }) (All-nil IsPage);
}

-- ---- the state

module _ (words : List ℕ) (few : length words ≤ 65536) (small : All (λ w. w < 2 ^ 32) words) where
  abbrev s0 : State
  s0 = start (image_of_words words) [] stack 128

  is_s0 : IsState s0
  is_s0 = plain_start_is (image_of_words words) [] stack 128 (record {
    sized = (refl, omega arith, omega arith);
    few = omega arith;
    small = All-nil (λ v. v < 2 ^ 64);
    loaded = image_memory words few;
    mapped = stack_memory;
    apart = apart words few;
    place = let low : code_base < 2 ^ 64 = omega arith in low;
  })

  abbrev top : State
  top = record s0 { sp = 0x1001000 }

  is_top : IsState top
  is_top = record {
    sized = is_s0.sized;
    mapped = is_s0.mapped;
    place = is_s0.place;
    x_count = is_s0.x_count;
    x_small = is_s0.x_small;
    sp_small = omega arith;
    z_count = is_s0.z_count;
    z_each = is_s0.z_each;
    p_count = is_s0.p_count;
    p_each = is_s0.p_each;
    ffr_is = is_s0.ffr_is;
  }

  same_memory : s0.memory ≡ merged (image_of_words words).pages stack
  unfolding start start_of
  same_memory = refl

  same_place : s0.pc ≡ code_base
  unfolding start start_of
  same_place = refl

  free : (x : ℕ) → x / 4096 ≡ 4096 → can_write top.memory x ≡ true
  free x here =
      ap (λ m. can_write m x) same_memory
      ∙ ap (λ n. may_write (page_at (merged (image_of_words words).pages stack) n)) here
      ∙ ap may_write (page_at-merged_right (image_of_words words).pages stack 4096 _ (apart words few) refl)

  pub call_exists : (v : Saved) → frame_size v ≤ 144 → 8 * doublewords v ≤ frame_size v → (s : State) × IsCall v words s
  call_exists v low fits = (
    top,
    record {
      state = is_top;
      code = λ k w at. ap₂ (λ m pc. fetched m ((pc + 4 * k) % 2 ^ 64)) same_memory same_place ∙ words_stand words stack few small (apart words few) k w at;
      room = omega (arith, low);
      free = λ x h. let from = h.0 in let until = h.1 in free x (omega (arith, low, fits, from, until));
    },
  )
