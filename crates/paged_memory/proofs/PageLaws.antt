-- Whole pages of a memory, by their places.
use Rattle.std.proofs.Common.{◌≡◌, ◌≢◌, ℕ, zero, suc, ◌+◌, ◌/◌, ◌%◌, ◌^◌, ◌<◌, ◌≤◌, ◌⊎◌, inl, inr, Bool, true, false, List, [], ◌∷◌, ◌++◌, length, get_or, drop, refl, sym, ap, ap₂, ◌∙◌, subst, cond, arith, length-set}
use Rattle.std.specs.Prelude.{nat_eq, slice_index, slice_set, AllPairs}
use Rattle.std.specs.List.{All}
use Rattle.std.proofs.lemmas.Bool.{cond-true, cond-false, eq-eqb, ne_eqb, eqb-true}
use Rattle.std.proofs.lemmas.List.{append-nil, nil_from_length, length-drop, length-map}
use Rattle.std.proofs.lemmas.List.Elements.{All-head, All-tail}
use Rattle.guest_types.specs.Memory.{Memory, Page, page_numbers, put_byte, put_number, next_address}
use Rattle.guest_types.specs.Spans.{with_span}
use Rattle.guest_types.proofs.Writes.{page_numbers-put_byte}
use Rattle.paged_memory.specs.declared.head.Head.{Head}
use Rattle.paged_memory.specs.Layout.{page_in, memory_of, head_numbers, IsWithin, AreApart, IsLaidOut, StandsAt}
use Rattle.paged_memory.specs.Loans.{place_in}
use Rattle.paged_memory.specs.Numbers.{with_number}
use Rattle.paged_memory.specs.Epochs.{bytes_at, with_page}
use Rattle.paged_memory.proofs.Bytes.{with_number-zero, with_number-suc}
use Rattle.paged_memory.proofs.Parts.{put_at, part-here, part-other}
use Rattle.paged_memory.proofs.Places.{IsFirst, first-stands, no_head, page_of, start_at, length-page_of}
use Rattle.paged_memory.proofs.Mapped.{turned}

-- ---- other bytes in a page

pub with_page-same : (p : ℕ) (m : Memory) → with_page p (bytes_at m p) m ≡ m
with_page-same p [] = refl
with_page-same zero (page ∷ pages) = refl
with_page-same (suc p) (page ∷ pages) = ap (λ (rest : Memory). page ∷ rest) (with_page-same p pages)

pub with_page-twice : (p : ℕ) (x y : List ℕ) (m : Memory) → with_page p x (with_page p y m) ≡ with_page p x m
with_page-twice p x y [] = refl
with_page-twice zero x y (page ∷ pages) = refl
with_page-twice (suc p) x y (page ∷ pages) = ap (λ (rest : Memory). page ∷ rest) (with_page-twice p x y pages)

pub with_page-swap : (p q : ℕ) (x y : List ℕ) (m : Memory) → p ≢ q → with_page p x (with_page q y m) ≡ with_page q y (with_page p x m)
with_page-swap p q x y [] ne = refl
with_page-swap zero zero x y (page ∷ pages) ne = absurd (ne refl)
with_page-swap zero (suc q) x y (page ∷ pages) ne = refl
with_page-swap (suc p) zero x y (page ∷ pages) ne = refl
with_page-swap (suc p) (suc q) x y (page ∷ pages) ne = ap (λ (rest : Memory). page ∷ rest) (with_page-swap p q x y pages (λ e. ne (ap suc e)))

pub with_page-none : (p : ℕ) (x : List ℕ) (m : Memory) → length m ≤ p → with_page p x m ≡ m
with_page-none p x [] above = refl
with_page-none zero x (page ∷ pages) above = absurd (omega (arith, above))
with_page-none (suc p) x (page ∷ pages) above = ap (λ (rest : Memory). page ∷ rest) (with_page-none p x pages (omega (arith, above)))

pub numbers-with_page : (p : ℕ) (x : List ℕ) (m : Memory) → page_numbers (with_page p x m) ≡ page_numbers m
numbers-with_page p x [] = refl
numbers-with_page zero x (page ∷ pages) = refl
numbers-with_page (suc p) x (page ∷ pages) = ap (λ rest. page.page ∷ rest) (numbers-with_page p x pages)

pub bytes_at-with_page : (p : ℕ) (x : List ℕ) (m : Memory) → p < length m → bytes_at (with_page p x m) p ≡ x
bytes_at-with_page p x [] l = absurd (omega arith)
bytes_at-with_page zero x (page ∷ pages) l = refl
bytes_at-with_page (suc p) x (page ∷ pages) l = bytes_at-with_page p x pages (omega arith)

-- ---- as heads and bytes

-- a part of the page at a place is replaced: those of other heads stay
page-other : (head there : Head) (bs : List ℕ) (o : ℕ) (w : List ℕ) → IsWithin (length bs) head → AreApart head there → o + length w ≤ 4096 → page_in (put_at (there.start + o) w bs) head ≡ page_in bs head
page-other head there bs o w within apart fits =
    ap (λ bytes. record { page = head.number; perm = head.perm; bytes = bytes }) (part-other 4096 head.start (there.start + o) w bs within (go apart))
  where
    go : AreApart head there → (head.start + 4096 ≤ there.start + o) ⊎ (there.start + o + length w ≤ head.start)
    go (inl below) = inl (omega (arith, below))
    go (inr above) = inr (omega (arith, above, fits))

pages-other : (heads : List Head) (there : Head) (bs : List ℕ) (o : ℕ) (w : List ℕ) → All (IsWithin (length bs)) heads → All (AreApart there) heads → o + length w ≤ 4096 → memory_of heads (put_at (there.start + o) w bs) ≡ memory_of heads bs
pages-other [] there bs o w each apart fits = refl
pages-other (head ∷ heads) there bs o w each apart fits =
    ap₂ (λ (page : Page) (rest : Memory). page ∷ rest)
    (page-other head there bs o w (All-head (IsWithin (length bs)) head heads each) (turned there head (All-head (AreApart there) head heads apart)) fits)
    (pages-other heads there bs o w (All-tail (IsWithin (length bs)) head heads each) (All-tail (AreApart there) head heads apart) fits)

with_page-put : (heads : List Head) (bs : List ℕ) (i o : ℕ) (w : List ℕ) → All (IsWithin (length bs)) heads → AllPairs AreApart heads → i < length heads → o + length w ≤ 4096 → memory_of heads (put_at (start_at heads i + o) w bs) ≡ with_page i (put_at o w (page_of heads bs i).bytes) (memory_of heads bs)
with_page-put [] bs i o w each apart l fits = absurd (omega arith)
with_page-put (head ∷ heads) bs zero o w each apart l fits =
    ap₂ (λ bytes (rest : Memory). record { page = head.number; perm = head.perm; bytes = bytes } ∷ rest)
    (part-here 4096 head.start o w bs (All-head (IsWithin (length bs)) head heads each) fits)
    (pages-other heads head bs o w (All-tail (IsWithin (length bs)) head heads each) (λ k d l. apart 0 (suc k) d (omega arith) (omega arith)) fits)
with_page-put (head ∷ heads) bs (suc i) o w each apart l fits =
    let others = All-tail (IsWithin (length bs)) head heads each in
    ap₂ (λ (page : Page) (rest : Memory). page ∷ rest)
    (page-other head (get_or heads i no_head) bs o w (All-head (IsWithin (length bs)) head heads each) (apart 0 (suc i) no_head (omega arith) l) fits)
    (with_page-put heads bs i o w others (λ j k d less m. apart (suc j) (suc k) d (omega arith) (omega arith)) (omega arith) fits)

-- a part of the page at a place is replaced
pub with_page-stands : (heads : List Head) (bs : List ℕ) (i o : ℕ) (w : List ℕ) → IsLaidOut heads bs → i < length heads → o + length w ≤ 4096 → memory_of heads (put_at (start_at heads i + o) w bs) ≡ with_page i (put_at o w (page_of heads bs i).bytes) (memory_of heads bs)
with_page-stands heads bs i o w laid l fits = with_page-put heads bs i o w laid.within laid.apart l fits

-- the whole page at a place is
pub with_page-whole : (heads : List Head) (bs : List ℕ) (i : ℕ) (x : List ℕ) → IsLaidOut heads bs → i < length heads → length x ≡ 4096 → memory_of heads (put_at (start_at heads i) x bs) ≡ with_page i x (memory_of heads bs)
with_page-whole heads bs i x laid l whole =
    let e : start_at heads i ≡ start_at heads i + 0 = omega arith in
    let old = (page_of heads bs i).bytes in
    let none : drop (length x) old ≡ [] = nil_from_length (drop (length x) old) (omega (arith, length-drop (length x) old, length-page_of heads bs i laid l, whole)) in
    ap (λ n. memory_of heads (put_at n x bs)) e
    ∙ with_page-stands heads bs i 0 x laid l (omega (arith, whole))
    ∙ ap (λ bytes. with_page i bytes (memory_of heads bs)) (ap (λ rest. x ++ rest) none ∙ append-nil x)

pub bytes_at-memory_of : (heads : List Head) (bs : List ℕ) (p : ℕ) → p < length heads → bytes_at (memory_of heads bs) p ≡ (page_of heads bs p).bytes
bytes_at-memory_of [] bs p l = absurd (omega arith)
bytes_at-memory_of (head ∷ heads) bs zero l = refl
bytes_at-memory_of (head ∷ heads) bs (suc p) l = bytes_at-memory_of heads bs p (omega arith)

-- heads stay laid out beside other bytes of the same number
pub laid-same : (heads : List Head) (bs new : List ℕ) → IsLaidOut heads bs → length new ≡ length bs → IsLaidOut heads new
laid-same heads bs new laid same = record {
  ascending = laid.ascending;
  below = laid.below;
  within = subst (λ n. All (IsWithin n) heads) (sym same) laid.within;
  apart = laid.apart;
  few = laid.few;
}

-- ---- the places of numbers

place_in-first : (heads : List Head) (bs : List ℕ) (n i : ℕ) → i < length heads → slice_index (head_numbers heads) i ≡ n → IsFirst heads n i → place_in (memory_of heads bs) n ≡ i
place_in-first [] bs n i l here first = absurd (omega arith)
place_in-first (head ∷ heads) bs n zero l here first = cond-true _ _ _ (eq-eqb head.number n here)
place_in-first (head ∷ heads) bs n (suc i) l here first =
    cond-false _ _ _ (ne_eqb head.number n (first 0 (omega arith)))
    ∙ ap suc (place_in-first heads bs n i (omega arith) here (λ k l. first (suc k) (omega arith)))

pub place_in-stands : (heads : List Head) (bs : List ℕ) (m : Memory) (n i : ℕ) → memory_of heads bs ≡ m → IsLaidOut heads bs → StandsAt heads n i → i ≡ place_in m n
place_in-stands heads bs m n i is laid here =
    sym (place_in-first heads bs n i here.below here.here (first-stands heads bs n i laid here)) ∙ ap (λ m. place_in m n) is

place_in-step : (head : Head) (heads : List Head) (bs : List ℕ) (n : ℕ) → (head.number ≡ n × (place_in (memory_of (head ∷ heads) bs) n ≡ 0)) ⊎ (place_in (memory_of (head ∷ heads) bs) n ≡ suc (place_in (memory_of heads bs) n))
place_in-step head heads bs n = go (nat_eq head.number n) refl
  where
    go : (t : Bool) → nat_eq head.number n ≡ t → (head.number ≡ n × (cond (nat_eq head.number n) 0 (suc (place_in (memory_of heads bs) n)) ≡ 0)) ⊎ (cond (nat_eq head.number n) 0 (suc (place_in (memory_of heads bs) n)) ≡ suc (place_in (memory_of heads bs) n))
    go true e = inl (eqb-true head.number n e, cond-true _ _ _ e)
    go false e = inr (cond-false _ _ _ e)

-- the number of the head at its place
pub place_in-here : (heads : List Head) (bs : List ℕ) (n i : ℕ) → place_in (memory_of heads bs) n ≡ i → i < length heads → slice_index (head_numbers heads) i ≡ n
place_in-here [] bs n i place l = absurd (omega arith)
place_in-here (head ∷ heads) bs n zero place l = go (place_in-step head heads bs n)
  where
    go : (head.number ≡ n × (place_in (memory_of (head ∷ heads) bs) n ≡ 0)) ⊎ (place_in (memory_of (head ∷ heads) bs) n ≡ suc (place_in (memory_of heads bs) n)) → head.number ≡ n
    go (inl h) = h.0
    go (inr e) = absurd (omega (arith, place, e))
place_in-here (head ∷ heads) bs n (suc i) place l = go (place_in-step head heads bs n) (place_in-here heads bs n i)
  where
    go : (head.number ≡ n × (place_in (memory_of (head ∷ heads) bs) n ≡ 0)) ⊎ (place_in (memory_of (head ∷ heads) bs) n ≡ suc (place_in (memory_of heads bs) n)) → (place_in (memory_of heads bs) n ≡ i → i < length heads → slice_index (head_numbers heads) i ≡ n) → slice_index (head_numbers heads) i ≡ n
    go (inl h) more = absurd (omega (arith, place, h.1))
    go (inr e) more = more (omega (arith, place, e)) (omega arith)

place_in-absent : (heads : List Head) (bs : List ℕ) (n : ℕ) → All (λ here. here ≢ n) (head_numbers heads) → place_in (memory_of heads bs) n ≡ length (memory_of heads bs)
place_in-absent [] bs n each = refl
place_in-absent (head ∷ heads) bs n each =
    cond-false _ _ _ (ne_eqb head.number n (All-head (λ here. here ≢ n) head.number (head_numbers heads) each))
    ∙ ap suc (place_in-absent heads bs n (All-tail (λ here. here ≢ n) head.number (head_numbers heads) each))

pub place_in-none : (heads read : List Head) (bs : List ℕ) (m : Memory) (n : ℕ) → memory_of heads bs ≡ m → read ≡ heads → All (λ here. here ≢ n) (head_numbers read) → place_in m n ≡ length m
place_in-none heads read bs m n is same each =
    ap (λ m. place_in m n) (sym is)
    ∙ place_in-absent heads bs n (subst (λ (l : List Head). All (λ here. here ≢ n) (head_numbers l)) same each)
    ∙ ap length is

-- it is by the numbers alone
pub place_in-numbers : (m new : Memory) (n : ℕ) → page_numbers new ≡ page_numbers m → place_in new n ≡ place_in m n
place_in-numbers m new n same = by new ∙ ap (λ ns. place ns) same ∙ sym (by m)
  where
    place : List ℕ → ℕ
    place [] = 0
    place (here ∷ ns) = cond (nat_eq here n) 0 (suc (place ns))

    by : (m : Memory) → place_in m n ≡ place (page_numbers m)
    by [] = refl
    by (page ∷ pages) = ap (λ k. cond (nat_eq page.page n) 0 (suc k)) (by pages)

pub length-numbers : (m new : Memory) → page_numbers new ≡ page_numbers m → length new ≡ length m
length-numbers m new same = sym (length-map new (λ (page : Page). page.page)) ∙ ap length same ∙ length-map m (λ (page : Page). page.page)

-- ---- writes, without the bytes of their page

pub put_byte-page : (m : Memory) (a b : ℕ) → with_page (place_in m (a / 4096)) [] (put_byte m a b) ≡ with_page (place_in m (a / 4096)) [] m
put_byte-page [] a b = refl
put_byte-page (page ∷ pages) a b = go (put_byte-page pages a b) (nat_eq page.page (a / 4096)) refl
  where
    go : with_page (place_in pages (a / 4096)) [] (put_byte pages a b) ≡ with_page (place_in pages (a / 4096)) [] pages → (t : Bool) → nat_eq page.page (a / 4096) ≡ t → with_page (place_in (page ∷ pages) (a / 4096)) [] (put_byte (page ∷ pages) a b) ≡ with_page (place_in (page ∷ pages) (a / 4096)) [] (page ∷ pages)
    go more true e = ap₂ (λ p m. with_page p [] m) (cond-true _ _ _ e) (cond-true _ _ _ e) ∙ sym (ap (λ p. with_page p [] (page ∷ pages)) (cond-true _ _ _ e))
    go more false e =
        ap₂ (λ p m. with_page p [] m) (cond-false _ _ _ e) (cond-false _ _ _ e)
        ∙ ap (λ (rest : Memory). page ∷ rest) more
        ∙ sym (ap (λ p. with_page p [] (page ∷ pages)) (cond-false _ _ _ e))

pub with_span-page : (m : Memory) (a : ℕ) (w : List ℕ) → with_page (place_in m (a / 4096)) [] (with_span m a w) ≡ with_page (place_in m (a / 4096)) [] m
with_span-page [] a w = refl
with_span-page (page ∷ pages) a w = go (with_span-page pages a w) (nat_eq page.page (a / 4096)) refl
  where
    go : with_page (place_in pages (a / 4096)) [] (with_span pages a w) ≡ with_page (place_in pages (a / 4096)) [] pages → (t : Bool) → nat_eq page.page (a / 4096) ≡ t → with_page (place_in (page ∷ pages) (a / 4096)) [] (with_span (page ∷ pages) a w) ≡ with_page (place_in (page ∷ pages) (a / 4096)) [] (page ∷ pages)
    go more true e = ap₂ (λ p m. with_page p [] m) (cond-true _ _ _ e) (cond-true _ _ _ e) ∙ sym (ap (λ p. with_page p [] (page ∷ pages)) (cond-true _ _ _ e))
    go more false e =
        ap₂ (λ p m. with_page p [] m) (cond-false _ _ _ e) (cond-false _ _ _ e)
        ∙ ap (λ (rest : Memory). page ∷ rest) more
        ∙ sym (ap (λ p. with_page p [] (page ∷ pages)) (cond-false _ _ _ e))

-- ---- writes, by the bytes of their page

pub with_span-place : (m : Memory) (a : ℕ) (w : List ℕ) → place_in m (a / 4096) < length m → with_span m a w ≡ with_page (place_in m (a / 4096)) (put_at (a % 4096) w (bytes_at m (place_in m (a / 4096)))) m
with_span-place [] a w l = absurd (omega arith)
with_span-place (page ∷ pages) a w l = go (nat_eq page.page (a / 4096)) refl (with_span-place pages a w)
  where
    written : ℕ → Memory
    written p = with_page p (put_at (a % 4096) w (bytes_at (page ∷ pages) p)) (page ∷ pages)

    go : (t : Bool) → nat_eq page.page (a / 4096) ≡ t → (place_in pages (a / 4096) < length pages → with_span pages a w ≡ with_page (place_in pages (a / 4096)) (put_at (a % 4096) w (bytes_at pages (place_in pages (a / 4096)))) pages) → with_span (page ∷ pages) a w ≡ written (place_in (page ∷ pages) (a / 4096))
    go true e more = cond-true _ _ _ e ∙ sym (ap written (cond-true _ _ _ e))
    go false e more =
        let up : place_in (page ∷ pages) (a / 4096) ≡ suc (place_in pages (a / 4096)) = cond-false _ _ _ e in
        cond-false _ _ _ e ∙ ap (λ (rest : Memory). page ∷ rest) (more (omega (arith, l, up))) ∙ sym (ap written up)

put_byte-place : (m : Memory) (a b : ℕ) → place_in m (a / 4096) < length m → put_byte m a b ≡ with_page (place_in m (a / 4096)) (slice_set (bytes_at m (place_in m (a / 4096))) (a % 4096) b) m
put_byte-place [] a b l = absurd (omega arith)
put_byte-place (page ∷ pages) a b l = go (nat_eq page.page (a / 4096)) refl (put_byte-place pages a b)
  where
    written : ℕ → Memory
    written p = with_page p (slice_set (bytes_at (page ∷ pages) p) (a % 4096) b) (page ∷ pages)

    go : (t : Bool) → nat_eq page.page (a / 4096) ≡ t → (place_in pages (a / 4096) < length pages → put_byte pages a b ≡ with_page (place_in pages (a / 4096)) (slice_set (bytes_at pages (place_in pages (a / 4096))) (a % 4096) b) pages) → put_byte (page ∷ pages) a b ≡ written (place_in (page ∷ pages) (a / 4096))
    go true e more = cond-true _ _ _ e ∙ sym (ap written (cond-true _ _ _ e))
    go false e more =
        let up : place_in (page ∷ pages) (a / 4096) ≡ suc (place_in pages (a / 4096)) = cond-false _ _ _ e in
        cond-false _ _ _ e ∙ ap (λ (rest : Memory). page ∷ rest) (more (omega (arith, l, up))) ∙ sym (ap written up)

pub numbers-put_number : (m : Memory) (a s v : ℕ) → page_numbers (put_number m a s v) ≡ page_numbers m
numbers-put_number m a zero v = refl
numbers-put_number m a (suc s) v = numbers-put_number (put_byte m a (v % 256)) (next_address a) s (v / 256) ∙ page_numbers-put_byte m a (v % 256)

pub numbers-with_span : (m : Memory) (a : ℕ) (w : List ℕ) → page_numbers (with_span m a w) ≡ page_numbers m
numbers-with_span m a w = sym (numbers-with_page (place_in m (a / 4096)) [] (with_span m a w)) ∙ ap page_numbers (with_span-page m a w) ∙ numbers-with_page (place_in m (a / 4096)) [] m

-- a number within a page
put_number-at : (m : Memory) (a s v p : ℕ) → place_in m (a / 4096) ≡ p → p < length m → length (bytes_at m p) ≡ 4096 → a < 2 ^ 64 → a % 4096 + s ≤ 4096 → put_number m a s v ≡ with_page p (with_number (bytes_at m p) (a % 4096) s v) m
put_number-at m a zero v p here l whole low fits = sym (ap (λ bs. with_page p bs m) (with_number-zero (bytes_at m p) (a % 4096) v) ∙ with_page-same p m)
put_number-at m a (suc zero) v p here l whole low fits =
    put_byte-place m a (v % 256) (omega (arith, here, l))
    ∙ ap (λ p. with_page p (slice_set (bytes_at m p) (a % 4096) (v % 256)) m) here
    ∙ ap (λ bs. with_page p bs m) (sym (with_number-zero (slice_set (bytes_at m p) (a % 4096) (v % 256)) (a % 4096 + 1) (v / 256)) ∙ sym (with_number-suc (bytes_at m p) (a % 4096) 0 v (omega (arith, whole))))
put_number-at m a (suc (suc s)) v p here l whole low fits =
    let b = v % 256 in
    let o = a % 4096 in
    let old = bytes_at m p in
    let page = slice_set old o b in
    let one : put_byte m a b ≡ with_page p page m = put_byte-place m a b (omega (arith, here, l)) ∙ ap (λ p. with_page p (slice_set (bytes_at m p) o b) m) here in
    let same : next_address a / 4096 ≡ a / 4096 = omega arith in
    let up : next_address a % 4096 ≡ o + 1 = omega arith in
    let numbers = numbers-with_page p page m in
    let now = bytes_at-with_page p page m l in
    ap (λ m. put_number m (next_address a) (suc s) (v / 256)) one
    ∙ put_number-at (with_page p page m) (next_address a) (suc s) (v / 256) p
    (place_in-numbers m (with_page p page m) (next_address a / 4096) numbers ∙ ap (place_in m) same ∙ here)
    (omega (arith, l, length-numbers m (with_page p page m) numbers))
    (ap length now ∙ length-set old o b ∙ whole)
    (omega arith) (omega arith)
    ∙ with_page-twice p (with_number (bytes_at (with_page p page m) p) (next_address a % 4096) (suc s) (v / 256)) page m
    ∙ ap (λ bs. with_page p bs m) (ap₂ (λ bs k. with_number bs k (suc s) (v / 256)) now up ∙ sym (with_number-suc old o (suc s) v (omega (arith, whole))))

pub put_number-place : (m : Memory) (a s v : ℕ) → place_in m (a / 4096) < length m → length (bytes_at m (place_in m (a / 4096))) ≡ 4096 → a < 2 ^ 64 → a % 4096 + s ≤ 4096 → put_number m a s v ≡ with_page (place_in m (a / 4096)) (with_number (bytes_at m (place_in m (a / 4096))) (a % 4096) s v) m
put_number-place m a s v l whole low fits = put_number-at m a s v (place_in m (a / 4096)) refl l whole low fits
