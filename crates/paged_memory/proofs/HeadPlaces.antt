-- What the pages of a memory give, by the places of their heads.
use Rattle.std.proofs.Common.{◌≡◌, ◌≢◌, ℕ, ◌+◌, ◌-◌, ◌/◌, ◌%◌, ◌^◌, ◌<◌, ◌≤◌, Bool, true, false, List, ◌++◌, length, get_or, take, drop, Option, Some, None, Ok, refl, sym, ap, ap₂, ◌∙◌, subst, arith}
use Rattle.std.specs.Prelude.{nat_eq, option_map, option_and_then, slice_index, if◌then◌else◌}
use Rattle.std.specs.List.{All}
use Rattle.std.specs.List.Sorted.{IsStrictlyIncreasing}
use Rattle.std.proofs.lemmas.Bool.{cond-true, cond-false, eq-eqb, ne_eqb}
use Rattle.std.proofs.lemmas.List.{get_or_read, get_or-take, get_or-drop, drop-take, take-take, drop-drop}
use Rattle.guest_types.specs.Memory.{Page, Memory, page_at, byte_at, byte_of, can_write, may_write, is_writable, is_executable, number_at, loaded, stored, fetched, put_byte, put_number}
use Rattle.guest_types.proofs.Writes.{put_byte-unmapped}
use Rattle.paged_memory.specs.declared.head.Head.{Head}
use Rattle.paged_memory.specs.Layout.{memory_of, head_numbers, IsLaidOut, StandsAt}
use Rattle.paged_memory.specs.Numbers.{number_in, with_number}
use Rattle.paged_memory.proofs.Places.{no_head, page_of, start_at, within, page_at-stands, page_at-no_head, length-page_of, length-memory_of, number_in-page_of}
use Rattle.paged_memory.proofs.OnePage.{number-within, loaded-within}
use Rattle.paged_memory.proofs.PageLaws.{place_in-stands, place_in-here}
use Rattle.paged_memory.proofs.Parts.{put_at}
use Rattle.paged_memory.specs.Loans.{place_in, IsPlaceOf}
use Rattle.guest_types.specs.Spans.{span_of, with_span, bytes_or_none}
use borrow.Rule.Slice.PartMut.{put_mid}
use Rattle.paged_memory.proofs.Puts.{put_number-stands, laid-with_number, stored-stands, with_span-stands}

-- ---- heads that were read

pub rising : (heads read : List Head) (bs : List ℕ) → read ≡ heads → IsLaidOut heads bs → IsStrictlyIncreasing (head_numbers read)
rising heads read bs same laid = subst (λ (l : List Head). IsStrictlyIncreasing (head_numbers l)) (sym same) laid.ascending

pub stands : (heads read : List Head) (n i : ℕ) → read ≡ heads → StandsAt read n i → StandsAt heads n i
stands heads read n i same here = subst (λ (l : List Head). StandsAt l n i) same here

pub page_of_standing_head : (heads : List Head) (bs : List ℕ) (m : Memory) (n i : ℕ) → memory_of heads bs ≡ m → IsLaidOut heads bs → StandsAt heads n i → page_at m n ≡ Some (page_of heads bs i)
page_of_standing_head heads bs m n i is laid here = ap (λ m. page_at m n) (sym is) ∙ page_at-stands heads bs n i laid here

pub no_page_of_no_head : (heads read : List Head) (bs : List ℕ) (m : Memory) (n : ℕ) → memory_of heads bs ≡ m → read ≡ heads → All (λ here. here ≢ n) (head_numbers read) → page_at m n ≡ None
no_page_of_no_head heads read bs m n is same each =
    ap (λ m. page_at m n) (sym is) ∙ page_at-no_head heads bs n (subst (λ (l : List Head). All (λ here. here ≢ n) (head_numbers l)) same each)

pub head-read : (heads : List Head) (i : ℕ) (h : Head) → i < length heads → h ≡ get_or heads i h → h.perm ≡ (get_or heads i no_head).perm
head-read heads i h l e = ap (λ (h : Head). h.perm) (get_or_read heads i h l e no_head)

-- where the bytes of a page that was found stand
pub start-read : (heads : List Head) (i : ℕ) (h : Head) → i < length heads → h ≡ get_or heads i h → h.start ≡ start_at heads i
start-read heads i h l e = ap (λ (h : Head). h.start) (get_or_read heads i h l e no_head)

-- ---- bytes

pub byte-none : (m : Memory) (a : ℕ) → page_at m (a / 4096) ≡ None → None ≡ byte_at m a
byte-none m a none = sym (ap (λ o. option_map (λ page. byte_of page a) o) none)

pub byte-found : (heads : List Head) (bs : List ℕ) (m : Memory) (a i x : ℕ) → memory_of heads bs ≡ m → IsLaidOut heads bs → StandsAt heads (a / 4096) i → x ≡ get_or bs (start_at heads i + a % 4096) x → Some x ≡ byte_at m a
byte-found heads bs m a i x is laid here e =
    let rest = drop (start_at heads i) bs in
    let byte : slice_index (page_of heads bs i).bytes (a % 4096) ≡ slice_index bs (start_at heads i + a % 4096) =
    get_or-take 4096 rest (a % 4096) 0 (omega arith) ∙ get_or-drop (start_at heads i) bs (a % 4096) 0 in
    ap Some (get_or_read bs (start_at heads i + a % 4096) x (omega (arith, (within heads bs i laid here.below))) e 0 ∙ sym byte)
    ∙ sym (ap (λ o. option_map (λ page. byte_of page a) o) (page_of_standing_head heads bs m (a / 4096) i is laid here))

-- ---- permissions

pub write-none : (m : Memory) (a : ℕ) → page_at m (a / 4096) ≡ None → false ≡ can_write m a
write-none m a none = sym (ap may_write none)

pub write-found : (m : Memory) (a : ℕ) (p : Page) → page_at m (a / 4096) ≡ Some p → is_writable p.perm ≡ can_write m a
write-found m a p here = sym (ap may_write here)

-- ---- loads

pub load-found : (heads : List Head) (bs : List ℕ) (m : Memory) (a s i n : ℕ) → memory_of heads bs ≡ m → IsLaidOut heads bs → StandsAt heads (a / 4096) i → a < 2 ^ 64 → a % 4096 + s ≤ 4096 → n ≡ number_in bs (start_at heads i + a % 4096) s → Ok n ≡ loaded m a s
load-found heads bs m a s i n is laid here low fits e =
    sym (
    loaded-within m a s (page_of heads bs i) low (page_of_standing_head heads bs m (a / 4096) i is laid here) (length-page_of heads bs i laid here.below) fits
    ∙ ap Ok (number_in-page_of heads bs i (a % 4096) s fits ∙ sym e)
    )

-- ---- fetching

abbrev word_of : Memory → ℕ → Option Page → Option ℕ
word_of m a o = if nat_eq (a % 4) 0 then option_and_then (λ page. if is_executable page.perm then Some (number_at m a 4) else None) o else None

no_word : (t : Bool) (m : Memory) (a : ℕ) → nat_eq (a % 4) 0 ≡ t → word_of m a None ≡ None
no_word true m a e = cond-true _ _ _ e
no_word false m a e = cond-false _ _ _ e

pub fetch-none : (m : Memory) (a : ℕ) → page_at m (a / 4096) ≡ None → None ≡ fetched m a
fetch-none m a none = sym (ap (word_of m a) none ∙ no_word (nat_eq (a % 4) 0) m a refl)

unaligned : (m : Memory) (a : ℕ) (o : Option Page) → a % 4 ≢ 0 → word_of m a o ≡ None
unaligned m a o ne = cond-false _ _ _ (ne_eqb (a % 4) 0 ne)

pub fetch-unaligned : (m : Memory) (a : ℕ) → a % 4 ≢ 0 → None ≡ fetched m a
fetch-unaligned m a ne = sym (unaligned m a (page_at m (a / 4096)) ne)

pub fetch-refused : (m : Memory) (a : ℕ) (p : Page) → page_at m (a / 4096) ≡ Some p → a % 4 ≡ 0 → is_executable p.perm ≡ false → None ≡ fetched m a
fetch-refused m a p here whole not = sym (ap (word_of m a) here ∙ cond-true _ _ _ (eq-eqb (a % 4) 0 whole) ∙ cond-false _ _ _ not)

pub fetch-found : (heads : List Head) (bs : List ℕ) (m : Memory) (a i w : ℕ) → memory_of heads bs ≡ m → IsLaidOut heads bs → StandsAt heads (a / 4096) i → a < 2 ^ 64 → a % 4 ≡ 0 → is_executable (get_or heads i no_head).perm ≡ true → w ≡ number_in bs (start_at heads i + a % 4096) 4 → Some w ≡ fetched m a
fetch-found heads bs m a i w is laid here low whole runs e =
    let page = page_of_standing_head heads bs m (a / 4096) i is laid here in
    let fits : a % 4096 + 4 ≤ 4096 = omega arith in
    let number : number_at m a 4 ≡ w = number-within m a 4 (page_of heads bs i) low page (length-page_of heads bs i laid here.below) fits ∙ number_in-page_of heads bs i (a % 4096) 4 fits ∙ sym e in
    sym (ap (word_of m a) page ∙ cond-true _ _ _ (eq-eqb (a % 4) 0 whole) ∙ cond-true _ _ _ runs ∙ ap Some number)

-- ---- writes

pub laid-written : (heads : List Head) (bs new : List ℕ) (a s v i : ℕ) → IsLaidOut heads bs → StandsAt heads (a / 4096) i → a % 4096 + s ≤ 4096 → new ≡ with_number bs (start_at heads i + a % 4096) s v → IsLaidOut heads new
laid-written heads bs new a s v i laid here fits e =
    subst (IsLaidOut heads) (sym e) (laid-with_number heads bs a s v i laid here fits)

pub number-written : (heads : List Head) (bs new : List ℕ) (m : Memory) (a s v i : ℕ) → memory_of heads bs ≡ m → IsLaidOut heads bs → StandsAt heads (a / 4096) i → a < 2 ^ 64 → a % 4096 + s ≤ 4096 → new ≡ with_number bs (start_at heads i + a % 4096) s v → memory_of heads new ≡ put_number m a s v
number-written heads bs new m a s v i is laid here low fits e =
    ap (memory_of heads) e ∙ sym (put_number-stands heads bs a s v i laid here low fits) ∙ ap (λ m. put_number m a s v) is

pub byte-written : (m : Memory) (a v : ℕ) → v < 256 → put_number m a 1 v ≡ put_byte m a v
byte-written m a v small = ap (put_byte m a) (let e : v % 256 ≡ v = omega arith in e)

pub byte-unmapped : (m : Memory) (a b : ℕ) → page_at m (a / 4096) ≡ None → m ≡ put_byte m a b
byte-unmapped m a b none = sym (put_byte-unmapped m a b none)

pub store-found : (heads : List Head) (bs new : List ℕ) (m : Memory) (a s v i : ℕ) → memory_of heads bs ≡ m → IsLaidOut heads bs → StandsAt heads (a / 4096) i → is_writable (get_or heads i no_head).perm ≡ true → a < 2 ^ 64 → a % 4096 + s ≤ 4096 → new ≡ with_number bs (start_at heads i + a % 4096) s v → stored m a s v ≡ Ok (memory_of heads new)
store-found heads bs new m a s v i is laid here writable low fits e =
    ap (λ m. stored m a s v) (sym is) ∙ stored-stands heads bs a s v i laid here writable low fits ∙ ap (λ l. Ok (memory_of heads l)) (sym e)

-- ---- parts of pages

pub length-pages : (heads : List Head) (bs : List ℕ) (m : Memory) → memory_of heads bs ≡ m → length m ≡ length heads
length-pages heads bs m is = sym (ap length is) ∙ length-memory_of heads bs

-- a part of a page by the place where its head stands
pub place-of : (heads : List Head) (bs : List ℕ) (m : Memory) (a len i : ℕ) → memory_of heads bs ≡ m → IsLaidOut heads bs → StandsAt heads (a / 4096) i → a % 4096 + len ≤ 4096 → IsPlaceOf m a len i
place-of heads bs m a len i is laid here fits = record {
  here = sym (place_in-stands heads bs m (a / 4096) i is laid here);
  below = omega (arith, here.below, length-pages heads bs m is);
  inside = fits;
}

pub stands-place : (heads : List Head) (bs : List ℕ) (m : Memory) (a len i : ℕ) → memory_of heads bs ≡ m → IsPlaceOf m a len i → StandsAt heads (a / 4096) i
stands-place heads bs m a len i is place =
    let below : i < length heads = omega (arith, place.below, length-pages heads bs m is) in
    record { below = below; here = place_in-here heads bs (a / 4096) i (ap (λ m. place_in m (a / 4096)) is ∙ place.here) below }

-- the bytes of a part of a page among those of all
pub part-span : (heads : List Head) (bs : List ℕ) (m : Memory) (a len i at n : ℕ) → memory_of heads bs ≡ m → IsLaidOut heads bs → StandsAt heads (a / 4096) i → a % 4096 + len ≤ 4096 → at ≡ start_at heads i + a % 4096 → n ≡ len → take n (drop at bs) ≡ span_of m a len
part-span heads bs m a len i at n is laid here fits e size =
    let o = a % 4096 in
    let rest = drop (start_at heads i) bs in
    let whole : o + (4096 - o) ≡ 4096 = omega arith in
    ap₂ (λ n k. take n (drop k bs)) size e
    ∙ sym (
    ap (λ p. take len (drop o (bytes_or_none p))) (page_of_standing_head heads bs m (a / 4096) i is laid here)
    ∙ ap (λ n. take len (drop o (take n rest))) (sym whole)
    ∙ ap (take len) (drop-take o (4096 - o) rest)
    ∙ take-take len (4096 - o) (drop o rest) (omega arith)
    ∙ ap (take len) (drop-drop o (start_at heads i) bs)
    )

-- others in place of some bytes, as a slice writes them
pub put-mid : (bs l new : List ℕ) (at n : ℕ) → l ≡ bs → n ≡ length new → put_mid at n l new ≡ put_at at new bs
put-mid bs l new at n same size = ap₂ (λ n l. take at l ++ (new ++ drop n (drop at l))) size same

-- a part of a page written
pub span-written : (heads : List Head) (bs new : List ℕ) (m : Memory) (a len i : ℕ) (w : List ℕ) → memory_of heads bs ≡ m → IsLaidOut heads bs → StandsAt heads (a / 4096) i → a % 4096 + len ≤ 4096 → length w ≡ len → new ≡ put_at (start_at heads i + a % 4096) w bs → memory_of heads new ≡ with_span m a w
span-written heads bs new m a len i w is laid here fits long e =
    ap (memory_of heads) e ∙ sym (with_span-stands heads bs a i w laid here (omega (arith, fits, long))) ∙ ap (λ m. with_span m a w) is
