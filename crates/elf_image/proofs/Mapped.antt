-- What a loaded file has in memory, address by address.
use Rattle.std.proofs.Common.{◌≡◌, ℕ, zero, suc, ◌+◌, ◌-◌, ◌*◌, ◌/◌, ◌<◌, ◌≤◌, ◌⊎◌, inl, inr, Bool, true, false, cond, List, [], ◌∷◌, ◌++◌, length, flat_map, Option, Some, None, Result, Ok, Err, refl, sym, ap, ◌∙◌, subst, arith, ⊎_elim}
use Rattle.std.specs.Prelude.{All, Contains, ◌&&◌, ◌||◌, not, nat_eq, nat_lt, sum_by, option_map, slice_index, slice_index_or}
use Rattle.std.proofs.lemmas.Bool.{cond-false, lt-ltb, ne_eqb, and_from, or_parts}
use Rattle.std.proofs.lemmas.List.Elements.{All-head, All-tail, Contains-get_or}
use Rattle.guest_types.specs.Memory.{Memory, page_at, byte_at, byte_of}
use Rattle.machine_model.specs.declared.elf_fault.ElfFault.{ElfFault}
use Rattle.machine_model.specs.declared.elf_fault.ElfFault.TheVariants.{Short, NotElf, NotAarch64, NotStatic, BadSegment, SegmentsClash, TooManyPages}
use Rattle.machine_model.specs.Load.{Segment, Image, le_at, segments_from, has_ident, is_dynamic, any_segment, first_bad, first_page, page_count, have_common_page, clash, put_in_order, in_order, perm_of, segment_byte, pages_from, pages_of, image_of, load}
use Rattle.machine_model.proofs.WrittenFetch.{page_of, page_at_from, byte_in_page}
use Rattle.elf_image.specs.Loadable.{IsLoadable, AllLoadable}
use Rattle.elf_image.specs.Mapped.{IsInPages, perm_at, segments_of}
use Rattle.elf_image.proofs.Laid.{byte_below, byte_past, byte_inside}
use Rattle.elf_image.proofs.Ordering.{all-in_order, clash-in_order}
use Rattle.elf_image.proofs.Tables.{loadable_from_none}

-- ---- what a load that succeeds tells

record Loads (bytes : List ℕ) (image : Image) : Type 0 where
  pub pages : image.pages ≡ flat_map (pages_of bytes) (in_order (segments_of bytes))
  pub apart : clash (segments_of bytes) ≡ false
  pub fit : AllLoadable (length bytes) (segments_of bytes)

ok_of_no_fault : (b : Bool) (fault : ElfFault) (r : Result Image ElfFault) (image : Image) → cond b (Err fault) r ≡ Ok image → (b ≡ false) × (r ≡ Ok image)
ok_of_no_fault true fault r image e = absurd cc
ok_of_no_fault false fault r image e = (refl, e)

not_bad : (o : Option ℕ) (r : Result Image ElfFault) (image : Image) → elim o as (λ o. Result Image ElfFault) [ Some index ↦ Err (BadSegment index) | None ↦ r ] ≡ Ok image → (o ≡ None) × (r ≡ Ok image)
not_bad (Some index) r image e = absurd cc
not_bad None r image e = (refl, e)

same_image : (r : Result Image ElfFault) (i j : Image) → r ≡ Ok i → r ≡ Ok j → i ≡ j
same_image r i j e f = cc

loads : (bytes : List ℕ) (image : Image) → load bytes ≡ Ok image → Loads bytes image
loads bytes image e =
    let size = length bytes in
    let phoff = le_at bytes 32 8 in
    let phnum = le_at bytes 56 2 in
    let segments = segments_from bytes phoff phnum in
    let long = (ok_of_no_fault (nat_lt size 64) (Short 64 size) _ image e).1 in
    let elf = (ok_of_no_fault (not (has_ident bytes) || (not (nat_eq phnum 0) && not (nat_eq (le_at bytes 54 2) 56))) NotElf _ image long).1 in
    let arm = (ok_of_no_fault (not (nat_eq (le_at bytes 18 2) 183)) NotAarch64 _ image elf).1 in
    let fixed = (ok_of_no_fault (not (nat_eq (le_at bytes 16 2) 2)) NotStatic _ image arm).1 in
    let whole = (ok_of_no_fault (not (nat_eq phnum 0) && nat_lt size (phoff + 56 * phnum)) (Short (phoff + 56 * phnum) size) _ image fixed).1 in
    let plain = (ok_of_no_fault (any_segment is_dynamic segments) NotStatic _ image whole).1 in
    let good = not_bad (first_bad size 0 segments) _ image plain in
    let few = (ok_of_no_fault (nat_lt 16384 (sum_by page_count (segments_of bytes))) TooManyPages _ image good.1).1 in
    let apart = ok_of_no_fault (clash (segments_of bytes)) SegmentsClash _ image few in
    let is : image_of bytes (le_at bytes 24 8) (segments_of bytes) ≡ image = same_image _ _ image refl apart.1 in
    record { pages = ap (λ i. i.pages) (sym is); apart = apart.0; fit = loadable_from_none size 0 segments good.0 }

-- ---- segments in order are the same ones

first : (s : Segment) (xs : List Segment) → Contains (s ∷ xs) s
first s xs = (0, omega arith, refl)

contains_of_cons : (o s : Segment) (xs : List Segment) → Contains xs s → Contains (o ∷ xs) s
contains_of_cons o s xs h = (suc h.0, omega (arith, h.1), h.2)

cases : (o s : Segment) (xs : List Segment) → Contains (o ∷ xs) s → (o ≡ s) ⊎ Contains xs s
cases o s xs h = go h.0 h.1 h.2
  where
    go : (k : ℕ) → k < length (o ∷ xs) → slice_index_or (o ∷ xs) k s ≡ s → (o ≡ s) ⊎ Contains xs s
    go zero lt e = inl e
    go (suc k) lt e = inr (k, omega arith, e)

put_first : (s : Segment) (xs : List Segment) → Contains (put_in_order s xs) s
put_first s [] = first s []
put_first s (o ∷ os) = branch (nat_lt (first_page s) (first_page o)) (put_first s os)
  where
    branch : (t : Bool) → Contains (put_in_order s os) s → Contains (cond t (s ∷ o ∷ os) (o ∷ put_in_order s os)) s
    branch true h = first s (o ∷ os)
    branch false h = contains_of_cons o s (put_in_order s os) h

put_later : (p s : Segment) (xs : List Segment) → Contains xs s → Contains (put_in_order p xs) s
put_later p s [] h = absurd (omega (arith, h.1))
put_later p s (o ∷ os) h = branch (nat_lt (first_page p) (first_page o)) (put_later p s os)
  where
    branch : (t : Bool) → (Contains os s → Contains (put_in_order p os) s) → Contains (cond t (p ∷ o ∷ os) (o ∷ put_in_order p os)) s
    branch true more = contains_of_cons p s (o ∷ os) h
    branch false more =
        ⊎_elim (λ (e : o ≡ s). subst (λ x. Contains (o ∷ put_in_order p os) x) e (first o (put_in_order p os)))
        (λ (r : Contains os s). contains_of_cons o s (put_in_order p os) (more r)) (cases o s os h)

contains-in_order : (s : Segment) (xs : List Segment) → Contains xs s → Contains (in_order xs) s
contains-in_order s [] h = h
contains-in_order s (o ∷ os) h =
    ⊎_elim (λ (e : o ≡ s). subst (λ x. Contains (put_in_order o (in_order os)) x) e (put_first o (in_order os)))
    (λ (r : Contains os s). put_later o s (in_order os) (contains-in_order s os r)) (cases o s os h)

-- ---- the page of a number

abbrev IsOutside : Segment → ℕ → Type 0
IsOutside s n = first_page s ≤ n → n < first_page s + page_count s → ⊥

page_past_segment : (bytes : List ℕ) (s : Segment) (count m n : ℕ) (more : Memory) → (m ≤ n → n < m + count → ⊥) → page_at (pages_from bytes s m count ++ more) n ≡ page_at more n
page_past_segment bytes s zero m n more out = refl
page_past_segment bytes s (suc count) m n more out =
    cond-false _ _ _ (ne_eqb m n (λ e. out (omega (arith, e)) (omega (arith, e))))
    ∙ page_past_segment bytes s count (m + 1) n more (λ low high. out (omega (arith, low)) (omega (arith, high)))

-- segments without a common page
apart_from : (o s : Segment) (n : ℕ) → have_common_page o s ≡ false → first_page s ≤ n → n < first_page s + page_count s → IsOutside o n
apart_from o s n none low high from until =
    let a : nat_lt (first_page o) (first_page s + page_count s) ≡ true = lt-ltb _ _ (omega (arith, low, high, from, until)) in
    let b : nat_lt (first_page s) (first_page o + page_count o) ≡ true = lt-ltb _ _ (omega (arith, low, high, from, until)) in
    let both = and_from _ _ a b in
    absurd cc

no_segment_passes : (p : Segment → Bool) (s : Segment) (xs : List Segment) → any_segment p xs ≡ false → Contains xs s → p s ≡ false
no_segment_passes p s [] e h = absurd (omega (arith, h.1))
no_segment_passes p s (o ∷ os) e h =
    let parts = or_parts (p o) (any_segment p os) e in
    ⊎_elim (λ (same : o ≡ s). subst (λ x. p x ≡ false) same parts.0) (λ (r : Contains os s). no_segment_passes p s os parts.1 r) (cases o s os h)

page_there : (bytes : List ℕ) (s : Segment) (n : ℕ) (xs : List Segment) → clash xs ≡ false → Contains xs s → first_page s ≤ n → n < first_page s + page_count s → page_at (flat_map (pages_of bytes) xs) n ≡ Some (page_of bytes s n)
unfolding pages_of
page_there bytes s n [] c h low high = absurd (omega (arith, h.1))
page_there bytes s n (o ∷ os) c h low high =
    let parts = or_parts (any_segment (have_common_page o) os) (clash os) c in
    let rest = flat_map (pages_of bytes) os in
    ⊎_elim
    (λ (e : o ≡ s). ap (λ x. page_at (pages_of bytes x ++ rest) n) e ∙ page_at_from bytes s (page_count s) (first_page s) n rest low high)
    (λ (r : Contains os s).
    page_past_segment bytes o (page_count o) (first_page o) n rest (apart_from o s n (no_segment_passes (have_common_page o) s os parts.0 r) low high)
    ∙ page_there bytes s n os parts.1 r low high)
    (cases o s os h)

lacks_page : (bytes : List ℕ) (n : ℕ) (xs : List Segment) → All (λ s. IsOutside s n) xs → page_at (flat_map (pages_of bytes) xs) n ≡ None
unfolding pages_of
lacks_page bytes n [] out = refl
lacks_page bytes n (o ∷ os) out =
    page_past_segment bytes o (page_count o) (first_page o) n (flat_map (pages_of bytes) os) (All-head (λ s. IsOutside s n) o os out)
    ∙ lacks_page bytes n os (All-tail (λ s. IsOutside s n) o os out)

-- ---- the law

-- the page of an address of a segment
mapped : (bytes : List ℕ) (image : Image) (s : Segment) (a : ℕ) → load bytes ≡ Ok image → Contains (segments_of bytes) s → IsInPages s a → page_at image.pages (a / 4096) ≡ Some (page_of bytes s (a / 4096))
mapped bytes image s a e h at =
    let l = loads bytes image e in
    let fit : IsLoadable (length bytes) s = subst (IsLoadable (length bytes)) h.2 (l.fit h.0 s h.1) in
    let c = clash-in_order (segments_of bytes) ∙ l.apart in
    ap (λ m. page_at m (a / 4096)) l.pages
    ∙ page_there bytes s (a / 4096) (in_order (segments_of bytes)) c (contains-in_order s (segments_of bytes) h) at.0 (omega (arith, at.0, at.1, fit.some))

byte_there : (bytes : List ℕ) (image : Image) (s : Segment) (a : ℕ) → load bytes ≡ Ok image → Contains (segments_of bytes) s → IsInPages s a → byte_at image.pages a ≡ Some (segment_byte bytes s a)
byte_there bytes image s a e h at =
    ap (option_map (λ page. byte_of page a)) (mapped bytes image s a e h at) ∙ ap Some (byte_in_page bytes s a)

-- the file bytes of a segment stand in its pages
in_pages : (s : Segment) (size a : ℕ) → IsLoadable size s → s.vaddr ≤ a → a < s.vaddr + s.filesz → IsInPages s a
in_pages s size a fit low high = (omega (arith, low), omega (arith, high, fit.part))

pub file_byte : (bytes : List ℕ) (image : Image) (s : Segment) (a : ℕ) → load bytes ≡ Ok image → Contains (segments_of bytes) s → s.vaddr ≤ a → a < s.vaddr + s.filesz → byte_at image.pages a ≡ Some (slice_index bytes (s.offset + (a - s.vaddr)))
file_byte bytes image s a e h low high =
    let fit : IsLoadable (length bytes) s = subst (IsLoadable (length bytes)) h.2 ((loads bytes image e).fit h.0 s h.1) in
    byte_there bytes image s a e h (in_pages s (length bytes) a fit low high) ∙ ap Some (byte_inside bytes s a low high)

pub zero_byte : (bytes : List ℕ) (image : Image) (s : Segment) (a : ℕ) → load bytes ≡ Ok image → Contains (segments_of bytes) s → IsInPages s a → (a < s.vaddr) ⊎ (s.vaddr + s.filesz ≤ a) → byte_at image.pages a ≡ Some 0
zero_byte bytes image s a e h at out =
    byte_there bytes image s a e h at ∙ ap Some (⊎_elim (byte_below bytes s a) (byte_past bytes s a) out)

pub perm_there : (bytes : List ℕ) (image : Image) (s : Segment) (a : ℕ) → load bytes ≡ Ok image → Contains (segments_of bytes) s → IsInPages s a → perm_at image.pages a ≡ Some (perm_of s)
unfolding page_of
perm_there bytes image s a e h at = ap (option_map (λ page. page.perm)) (mapped bytes image s a e h at)

-- an address outside the pages of all segments
outside : (bytes : List ℕ) (size a : ℕ) (xs : List Segment) → AllLoadable size xs → ((s : Segment) → Contains xs s → IsInPages s a → ⊥) → All (λ s. IsOutside s (a / 4096)) xs
outside bytes size a xs fit out k d lt =
    let s = slice_index_or xs k d in
    let one : IsLoadable size s = fit k d lt in
    λ low high. out s (Contains-get_or xs k d lt) (low, omega (arith, low, high, one.some))

pub no_byte : (bytes : List ℕ) (image : Image) (a : ℕ) → load bytes ≡ Ok image → ((s : Segment) → Contains (segments_of bytes) s → IsInPages s a → ⊥) → byte_at image.pages a ≡ None
no_byte bytes image a e out =
    let l = loads bytes image e in
    let all = all-in_order (λ s. IsOutside s (a / 4096)) (segments_of bytes) (outside bytes (length bytes) a (segments_of bytes) l.fit out) in
    ap (λ m. byte_at m a) l.pages ∙ ap (option_map (λ page. byte_of page a)) (lacks_page bytes (a / 4096) (in_order (segments_of bytes)) all)
