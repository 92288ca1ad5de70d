-- Pages that come beside others, and pages that go.
use Rattle.std.proofs.Common.{◌≡◌, ℕ, suc, ◌+◌, ◌*◌, ◌^◌, ◌<◌, ◌≤◌, inl, inr, Bool, true, false, cond, List, [], ◌∷◌, ◌++◌, length, take, get_or, refl, sym, ap, ap₂, ◌∙◌, subst, arith, length-append}
use Rattle.std.specs.Prelude.{is_none, filter, AllPairs}
use Rattle.std.specs.List.{All}
use Rattle.std.specs.List.Sorted.{IsStrictlyIncreasing}
use Rattle.std.proofs.lemmas.Grind.{take_at_read}
use Rattle.std.proofs.lemmas.List.{append_assoc, append-nil, length-take, length-take-le}
use Rattle.std.proofs.lemmas.List.Elements.{All-cons, All-head, All-tail, All-nil, All-weaker, All-filter}
use Rattle.std.proofs.lemmas.List.Kept.{AllPairs-cons, AllPairs-filter, IsStrictlyIncreasing-filter}
use Rattle.guest_types.specs.Memory.{Page, Memory, IsPage, IsMemory, DoNotMeet, page_at, merged}
use Rattle.guest_types.proofs.Merges.{IsMemory-merged}
use Rattle.paged_memory.specs.declared.head.Head.{Head}
use Rattle.paged_memory.specs.Layout.{page_in, memory_of, head_numbers, IsWithin, AreApart, IsLaidOut, all_bytes, heads_from, joined, without}
use Rattle.paged_memory.proofs.Parts.{part-more, part-cut, part-last}
use Rattle.paged_memory.proofs.Places.{laid-from_memory}
use Rattle.paged_memory.proofs.Merging.{All-joined, AllPairs-joined, length-joined, memory_of-joined}

-- ---- heads and bytes of pages one after another

take_more : (pages : Memory) (i : ℕ) (p : Page) → i < length pages → p ≡ get_or pages i p → take (i + 1) pages ≡ take i pages ++ p ∷ []
take_more pages i p l e = (take_at_read pages i p l).1 ∙ ap (λ q. take i pages ++ q ∷ []) (sym e)

pub heads_from-push : (start : ℕ) (pages : Memory) (p : Page) → heads_from start (pages ++ p ∷ []) ≡ heads_from start pages ++ record { number = p.page; perm = p.perm; start = start + 4096 * length pages } ∷ []
heads_from-push start [] p = ap (λ n. record { number = p.page; perm = p.perm; start = n } ∷ []) (let e : start ≡ start + 4096 * 0 = omega arith in e)
heads_from-push start (q ∷ qs) p =
    ap (λ (l : List Head). record { number = q.page; perm = q.perm; start = start } ∷ l)
    (heads_from-push (start + 4096) qs p ∙ ap (λ n. heads_from (start + 4096) qs ++ record { number = p.page; perm = p.perm; start = n } ∷ []) (let e : start + 4096 + 4096 * length qs ≡ start + 4096 * suc (length qs) = omega arith in e))

pub all_bytes-push : (pages : Memory) (p : Page) → all_bytes (pages ++ p ∷ []) ≡ all_bytes pages ++ p.bytes
all_bytes-push [] p = append-nil p.bytes
all_bytes-push (q ∷ qs) p = ap (λ l. q.bytes ++ l) (all_bytes-push qs p) ∙ sym (append_assoc q.bytes (all_bytes qs) p.bytes)

-- with one page more
pub heads-next : (start : ℕ) (pages : Memory) (i next : ℕ) (p : Page) (heads new : List Head) (h : Head) → heads ≡ heads_from start (take i pages) → next ≡ start + 4096 * i → i < length pages → p ≡ get_or pages i p → h ≡ record { number = p.page; perm = p.perm; start = next } → new ≡ heads ++ h ∷ [] → new ≡ heads_from start (take (i + 1) pages)
heads-next start pages i next p heads new h is at l e head push =
    let long : length (take i pages) ≡ i = length-take-le i pages (omega arith) in
    push
    ∙ ap₂ (λ hs h. hs ++ h ∷ []) is (head ∙ ap (λ n. record { number = p.page; perm = p.perm; start = n }) (at ∙ ap (λ n. start + 4096 * n) (sym long)))
    ∙ sym (ap (heads_from start) (take_more pages i p l e) ∙ heads_from-push start (take i pages) p)

pub bytes-next : (pages : Memory) (i : ℕ) (p : Page) (front bytes new page : List ℕ) → bytes ≡ front ++ all_bytes (take i pages) → i < length pages → p ≡ get_or pages i p → page ≡ p.bytes → new ≡ bytes ++ page → new ≡ front ++ all_bytes (take (i + 1) pages)
bytes-next pages i p front bytes new page is l e same push =
    push ∙ ap₂ (λ b q. b ++ q) is same
    ∙ append_assoc front (all_bytes (take i pages)) p.bytes
    ∙ ap (λ b. front ++ b) (sym (ap all_bytes (take_more pages i p l e) ∙ all_bytes-push (take i pages) p))

pub length-heads_from : (start : ℕ) (pages : Memory) → length (heads_from start pages) ≡ length pages
length-heads_from start [] = refl
length-heads_from start (p ∷ ps) = ap suc (length-heads_from (start + 4096) ps)

pub length-all_bytes : (pages : Memory) → All IsPage pages → length (all_bytes pages) ≡ 4096 * length pages
length-all_bytes [] each = refl
length-all_bytes (p ∷ ps) each =
    let page = All-head IsPage p ps each in
    length-append p.bytes (all_bytes ps) ∙ omega (arith, page.whole, length-all_bytes ps (All-tail IsPage p ps each))

-- the pages are there
memory_of-heads_from : (front : List ℕ) (pages : Memory) → All IsPage pages → memory_of (heads_from (length front) pages) (front ++ all_bytes pages) ≡ pages
memory_of-heads_from front [] each = refl
memory_of-heads_from front (p ∷ ps) each =
    let page = All-head IsPage p ps each in
    let next : length (front ++ p.bytes) ≡ length front + 4096 = length-append front p.bytes ∙ omega (arith, page.whole) in
    ap₂ (λ bytes (rest : Memory). record { page = p.page; perm = p.perm; bytes = bytes } ∷ rest)
    (part-last 4096 front p.bytes (all_bytes ps) page.whole)
    (ap₂ (λ n bs. memory_of (heads_from n ps) bs) (sym next) (sym (append_assoc front p.bytes (all_bytes ps)))
    ∙ memory_of-heads_from (front ++ p.bytes) ps (All-tail IsPage p ps each))

-- each from its own place on, none of which is before the first
from_start : (start : ℕ) (pages : Memory) → All (λ (head : Head). start ≤ head.start) (heads_from start pages)
from_start start [] = All-nil (λ (head : Head). start ≤ head.start)
from_start start (p ∷ ps) =
    All-cons (λ (head : Head). start ≤ head.start) (record { number = p.page; perm = p.perm; start = start }) (heads_from (start + 4096) ps) (omega arith)
    (All-weaker (λ (head : Head). start + 4096 ≤ head.start) (λ (head : Head). start ≤ head.start) (λ head h. omega (arith, h)) (heads_from (start + 4096) ps) (from_start (start + 4096) ps))

apart_from : (start : ℕ) (pages : Memory) → AllPairs AreApart (heads_from start pages)
apart_from start [] = λ i j d less l. absurd (omega arith)
apart_from start (p ∷ ps) =
    AllPairs-cons AreApart (record { number = p.page; perm = p.perm; start = start }) (heads_from (start + 4096) ps)
    (All-weaker (λ (head : Head). start + 4096 ≤ head.start) (AreApart (record { number = p.page; perm = p.perm; start = start })) (λ head h. inl h) (heads_from (start + 4096) ps) (from_start (start + 4096) ps))
    (apart_from (start + 4096) ps)

within_from : (start size : ℕ) (pages : Memory) → start + 4096 * length pages ≤ size → All (IsWithin size) (heads_from start pages)
within_from start size [] inside = All-nil (IsWithin size)
within_from start size (p ∷ ps) inside =
    All-cons (IsWithin size) (record { number = p.page; perm = p.perm; start = start }) (heads_from (start + 4096) ps) (omega (arith, inside)) (within_from (start + 4096) size ps (omega (arith, inside)))

-- ---- more bytes behind those of all pages

memory_of-more : (heads : List Head) (bs more : List ℕ) → All (IsWithin (length bs)) heads → memory_of heads (bs ++ more) ≡ memory_of heads bs
memory_of-more [] bs more each = refl
memory_of-more (head ∷ heads) bs more each =
    ap₂ (λ bytes (rest : Memory). record { page = head.number; perm = head.perm; bytes = bytes } ∷ rest)
    (part-more 4096 head.start bs more (All-head (IsWithin (length bs)) head heads each))
    (memory_of-more heads bs more (All-tail (IsWithin (length bs)) head heads each))

within-wider : (heads : List Head) (size wide : ℕ) → size ≤ wide → All (IsWithin size) heads → All (IsWithin wide) heads
within-wider heads size wide l each =
    All-weaker (IsWithin size) (IsWithin wide) (λ head h. omega (arith, l, h)) heads each

pub turned : (here there : Head) → AreApart here there → AreApart there here
turned here there (inl below) = inr below
turned here there (inr above) = inl above

-- ---- pages that come

pub memory-mapped : (heads : List Head) (bs : List ℕ) (pages : Memory) → IsLaidOut heads bs → IsMemory pages → memory_of (joined (heads_from (length bs) pages) heads) (bs ++ all_bytes pages) ≡ merged pages (memory_of heads bs)
memory-mapped heads bs pages laid is =
    memory_of-joined (bs ++ all_bytes pages) (heads_from (length bs) pages) heads
    ∙ ap₂ merged (memory_of-heads_from bs pages is.pages) (memory_of-more heads bs (all_bytes pages) laid.within)

pub laid-mapped : (heads : List Head) (bs : List ℕ) (pages : Memory) → IsLaidOut heads bs → IsMemory pages → IsMemory (memory_of heads bs) → DoNotMeet pages (memory_of heads bs) → length pages + length heads ≤ 16384 → IsLaidOut (joined (heads_from (length bs) pages) heads) (bs ++ all_bytes pages)
laid-mapped heads bs pages laid is memory apart few =
    let more = heads_from (length bs) pages in
    let wide : length (bs ++ all_bytes pages) ≡ length bs + 4096 * length pages = length-append bs (all_bytes pages) ∙ ap (λ n. length bs + n) (length-all_bytes pages is.pages) in
    let size = length (bs ++ all_bytes pages) in
    laid-from_memory (joined more heads) (bs ++ all_bytes pages)
    (subst IsMemory (sym (memory-mapped heads bs pages laid is)) (IsMemory-merged pages (memory_of heads bs) is memory apart))
    (All-joined (IsWithin size) more heads (within_from (length bs) size pages (omega (arith, wide))) (within-wider heads (length bs) size (omega (arith, wide)) laid.within))
    (AllPairs-joined AreApart turned more heads (apart_from (length bs) pages) laid.apart
    (All-weaker (λ (head : Head). length bs ≤ head.start) (λ (head : Head). All (AreApart head) heads)
    (λ head h. All-weaker (IsWithin (length bs)) (AreApart head) (λ there p. inr (omega (arith, h, p))) heads laid.within)
    more (from_start (length bs) pages)))
    (omega (arith, length-joined more heads, length-heads_from (length bs) pages, few))

-- ---- pages that go

abbrev pub kept_by : Memory → ℕ → Bool
kept_by others n = is_none (page_at others n)

pub memory_of-filter : (keep : ℕ → Bool) (heads : List Head) (bs : List ℕ) → memory_of (filter (λ head. keep head.number) heads) bs ≡ filter (λ page. keep page.page) (memory_of heads bs)
memory_of-filter keep [] bs = refl
memory_of-filter keep (head ∷ heads) bs = go (keep head.number) (memory_of-filter keep heads bs)
  where
    go : (t : Bool) → memory_of (filter (λ head. keep head.number) heads) bs ≡ filter (λ page. keep page.page) (memory_of heads bs) → memory_of (cond t (head ∷ filter (λ head. keep head.number) heads) (filter (λ head. keep head.number) heads)) bs ≡ cond t (page_in bs head ∷ filter (λ page. keep page.page) (memory_of heads bs)) (filter (λ page. keep page.page) (memory_of heads bs))
    go true more = ap (λ (m : Memory). page_in bs head ∷ m) more
    go false more = more

length-kept : (test : Head → Bool) (heads : List Head) → length (filter test heads) ≤ length heads
length-kept test [] = omega arith
length-kept test (head ∷ heads) = go (test head) (length-kept test heads)
  where
    go : (t : Bool) → length (filter test heads) ≤ length heads → length (cond t (head ∷ filter test heads) (filter test heads)) ≤ suc (length heads)
    go true l = omega (arith, l)
    go false l = omega (arith, l)

numbers-filter : (keep : ℕ → Bool) (heads : List Head) → head_numbers (filter (λ head. keep head.number) heads) ≡ filter keep (head_numbers heads)
numbers-filter keep [] = refl
numbers-filter keep (head ∷ heads) = go (keep head.number) (numbers-filter keep heads)
  where
    go : (t : Bool) → head_numbers (filter (λ head. keep head.number) heads) ≡ filter keep (head_numbers heads) → head_numbers (cond t (head ∷ filter (λ head. keep head.number) heads) (filter (λ head. keep head.number) heads)) ≡ cond t (head.number ∷ filter keep (head_numbers heads)) (filter keep (head_numbers heads))
    go true more = ap (λ l. head.number ∷ l) more
    go false more = more

memory_of-cut : (heads : List Head) (bs : List ℕ) (end : ℕ) → All (IsWithin (length bs)) heads → All (λ (head : Head). head.start + 4096 ≤ end) heads → memory_of heads (take end bs) ≡ memory_of heads bs
memory_of-cut [] bs end each below = refl
memory_of-cut (head ∷ heads) bs end each below =
    ap₂ (λ bytes (rest : Memory). record { page = head.number; perm = head.perm; bytes = bytes } ∷ rest)
    (part-cut 4096 head.start end bs (All-head (IsWithin (length bs)) head heads each) (All-head (λ (head : Head). head.start + 4096 ≤ end) head heads below))
    (memory_of-cut heads bs end (All-tail (IsWithin (length bs)) head heads each) (All-tail (λ (head : Head). head.start + 4096 ≤ end) head heads below))

within-cut : (heads : List Head) (bs : List ℕ) (end : ℕ) → All (IsWithin (length bs)) heads → All (λ (head : Head). head.start + 4096 ≤ end) heads → All (IsWithin (length (take end bs))) heads
within-cut heads bs end each below k d l =
    let h : (get_or heads k d).start + 4096 ≤ length bs = each k d l in
    let b : (get_or heads k d).start + 4096 ≤ end = below k d l in
    omega (arith, h, b, length-take end bs)

pub kept-within : (heads kept : List Head) (bs : List ℕ) (others : Memory) (most : ℕ) → IsLaidOut heads bs → kept ≡ filter (λ head. kept_by others head.number) heads → length bs ≤ most → All (λ (head : Head). head.start + 4096 ≤ most) kept
kept-within heads kept bs others most laid same l =
    All-weaker (IsWithin (length bs)) (λ (head : Head). head.start + 4096 ≤ most) (λ head h. omega (arith, h, l)) kept
    (subst (All (IsWithin (length bs))) (sym same) (All-filter (λ (head : Head). kept_by others head.number) (IsWithin (length bs)) heads laid.within))

pub unmapped : (heads kept : List Head) (bs : List ℕ) (others m : Memory) (end : ℕ) → memory_of heads bs ≡ m → IsLaidOut heads bs → kept ≡ filter (λ head. kept_by others head.number) heads → All (λ (head : Head). head.start + 4096 ≤ end) kept → memory_of kept (take end bs) ≡ without others m
unmapped heads kept bs others m end is laid same below =
    memory_of-cut kept bs end (subst (All (IsWithin (length bs))) (sym same) (All-filter (λ (head : Head). kept_by others head.number) (IsWithin (length bs)) heads laid.within)) below
    ∙ ap (λ l. memory_of l bs) same ∙ memory_of-filter (kept_by others) heads bs ∙ ap (without others) is

pub laid-unmapped : (heads kept : List Head) (bs : List ℕ) (others : Memory) (end : ℕ) → IsLaidOut heads bs → kept ≡ filter (λ head. kept_by others head.number) heads → All (λ (head : Head). head.start + 4096 ≤ end) kept → IsLaidOut kept (take end bs)
laid-unmapped heads kept bs others end laid same below =
    let test : Head → Bool = λ head. kept_by others head.number in
    let within = subst (All (IsWithin (length bs))) (sym same) (All-filter test (IsWithin (length bs)) heads laid.within) in
    let numbers = ap head_numbers same ∙ numbers-filter (kept_by others) heads in
    record {
      ascending = subst IsStrictlyIncreasing (sym numbers) (IsStrictlyIncreasing-filter (kept_by others) (head_numbers heads) laid.ascending);
      below = subst (All (λ number. number < 2 ^ 36)) (sym numbers) (All-filter (kept_by others) (λ number. number < 2 ^ 36) (head_numbers heads) laid.below);
      within = within-cut kept bs end within below;
      apart = subst (AllPairs AreApart) (sym same) (AllPairs-filter AreApart test heads laid.apart);
      few = omega (arith, ap length same, length-kept test heads, laid.few);
    }
