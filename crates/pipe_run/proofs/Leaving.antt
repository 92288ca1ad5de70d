-- The pages of a map, when those of an image that came beside them have gone again.
use Rattle.std.proofs.Common.{◌≡◌, ℕ, zero, suc, ◌/◌, ◌%◌, List, [], ◌∷◌, get_or, filter, Bool, true, false, cond, Some, refl, sym, ap, ◌∙◌, subst}
use Rattle.std.specs.Prelude.{is_none, nat_eq, nat_lt}
use Rattle.std.specs.List.{All}
use Rattle.std.proofs.lemmas.List.Elements.{All-head, All-tail, All-filter}
use Rattle.guest_types.specs.declared.memory.Perm.{Perm}
use Rattle.guest_types.specs.Memory.{Page, Memory, IsMemory, DoNotMeet, page_at, with_byte, put_byte, put_number, next_address, merged, merged_before}
use Rattle.guest_types.specs.AfterStores.{AfterStores, Unchanged, Stored}
use Rattle.guest_types.proofs.AfterStores.{IsMemory-after}
use Rattle.guest_types.proofs.Merges.{IsMemory-merged, DoNotMeet-sym, page_at-place}
use Rattle.guest_types.proofs.Stores.{stored-Ok}
use Rattle.machine_model.specs.Load.{Image}
use Rattle.machine_model.specs.Run.{memory_left, start, start_of, image_run}
use Rattle.machine_model.proofs.MemoryStays.{run_stores}
use Rattle.paged_memory.specs.Layout.{without}
use Rattle.pipe_run.specs.PipeRun.{bytes_or, page_left, map_left}

-- ---- memories whose pages differ in their bytes alone

Alike : Memory → Memory → Type 0
Alike [] [] = Unit {0}
Alike [] (q ∷ qs) = ⊥
Alike (p ∷ ps) [] = ⊥
Alike (p ∷ ps) (q ∷ qs) = (p.page ≡ q.page) × (p.perm ≡ q.perm) × Alike ps qs

alike_refl : (m : Memory) → Alike m m
unfolding Alike
alike_refl [] = tt
alike_refl (p ∷ ps) = (refl, refl, alike_refl ps)

alike-next : (l m n : Memory) → Alike l m → Alike m n → Alike l n
unfolding Alike
alike-next [] [] [] a b = tt
alike-next [] [] (q ∷ qs) a b = absurd b
alike-next [] (p ∷ ps) n a b = absurd a
alike-next (o ∷ os) [] n a b = absurd a
alike-next (o ∷ os) (p ∷ ps) [] a b = absurd b
alike-next (o ∷ os) (p ∷ ps) (q ∷ qs) a b = (a.0 ∙ b.0, a.1 ∙ b.1, alike-next os ps qs a.2 b.2)

alike-put_byte : (m : Memory) (a b : ℕ) → Alike (put_byte m a b) m
unfolding Alike
alike-put_byte [] a b = tt
alike-put_byte (p ∷ ps) a b = go (nat_eq p.page (a / 4096)) (alike-put_byte ps a b)
  where
    go : (t : Bool) → Alike (put_byte ps a b) ps → Alike (cond t (with_byte p a b ∷ ps) (p ∷ put_byte ps a b)) (p ∷ ps)
    go true more = (refl, refl, alike_refl ps)
    go false more = (refl, refl, more)

alike-put_number : (m : Memory) (a s v : ℕ) → Alike (put_number m a s v) m
alike-put_number m a zero v = alike_refl m
alike-put_number m a (suc s) v =
    alike-next (put_number m a (suc s) v) (put_byte m a (v % 256)) m
    (alike-put_number (put_byte m a (v % 256)) (next_address a) s (v / 256)) (alike-put_byte m a (v % 256))

alike-after : {m n : Memory} → AfterStores m n → Alike n m
alike-after (Unchanged m) = alike_refl m
alike-after (Stored before between after address size v is more) =
    alike-next after between before (alike-after more) (subst (λ m. Alike m before) (sym (stored-Ok before between address size v is).1) (alike-put_number before address size v))

-- ---- some of their pages

alike-filter : (keep : ℕ → Bool) (m n : Memory) → Alike m n → Alike (filter (λ page. keep page.page) m) (filter (λ page. keep page.page) n)
unfolding Alike
alike-filter keep [] [] a = tt
alike-filter keep [] (q ∷ qs) a = absurd a
alike-filter keep (p ∷ ps) [] a = absurd a
alike-filter keep (p ∷ ps) (q ∷ qs) a =
    subst (λ n. Alike (cond (keep p.page) (p ∷ filter (λ page. keep page.page) ps) (filter (λ page. keep page.page) ps)) (cond (keep n) (q ∷ filter (λ page. keep page.page) qs) (filter (λ page. keep page.page) qs))) a.0
    (go (keep p.page) (alike-filter keep ps qs a.2))
  where
    go : (t : Bool) → Alike (filter (λ page. keep page.page) ps) (filter (λ page. keep page.page) qs) → Alike (cond t (p ∷ filter (λ page. keep page.page) ps) (filter (λ page. keep page.page) ps)) (cond t (q ∷ filter (λ page. keep page.page) qs) (filter (λ page. keep page.page) qs))
    go true more = (a.0, a.1, more)
    go false more = more

-- of a merge stay all pages of the one and none of the other
kept_before : (keep : ℕ → Bool) (p : Page) (rest : Memory → Memory) (others : Memory) → keep p.page ≡ false → ((o : Memory) → All (λ page. keep page.page ≡ true) o → filter (λ page. keep page.page) (rest o) ≡ o) → All (λ page. keep page.page ≡ true) others → filter (λ page. keep page.page) (merged_before p rest others) ≡ others
kept_before keep p rest [] gone h each = ap (λ t. cond t (p ∷ filter (λ page. keep page.page) (rest [])) (filter (λ page. keep page.page) (rest []))) gone ∙ h [] each
kept_before keep p rest (q ∷ qs) gone h each = go (nat_lt q.page p.page) (kept_before keep p rest qs gone h (All-tail (λ (page : Page). keep page.page ≡ true) q qs each))
  where
    here : keep q.page ≡ true
    here = All-head (λ (page : Page). keep page.page ≡ true) q qs each

    go : (t : Bool) → filter (λ page. keep page.page) (merged_before p rest qs) ≡ qs → filter (λ page. keep page.page) (cond t (q ∷ merged_before p rest qs) (p ∷ rest (q ∷ qs))) ≡ q ∷ qs
    go true more =
        ap (λ t. cond t (q ∷ filter (λ page. keep page.page) (merged_before p rest qs)) (filter (λ page. keep page.page) (merged_before p rest qs))) here
        ∙ ap (λ (m : Memory). q ∷ m) more
    go false more = ap (λ t. cond t (p ∷ filter (λ page. keep page.page) (rest (q ∷ qs))) (filter (λ page. keep page.page) (rest (q ∷ qs)))) gone ∙ h (q ∷ qs) each

kept-merged : (keep : ℕ → Bool) (image pages : Memory) → All (λ page. keep page.page ≡ false) image → All (λ page. keep page.page ≡ true) pages → filter (λ page. keep page.page) (merged image pages) ≡ pages
kept-merged keep [] [] gone each = refl
kept-merged keep [] (q ∷ qs) gone each =
    ap (λ t. cond t (q ∷ filter (λ page. keep page.page) qs) (filter (λ page. keep page.page) qs)) (All-head (λ (page : Page). keep page.page ≡ true) q qs each)
    ∙ ap (λ (m : Memory). q ∷ m) (kept-merged keep [] qs gone (All-tail (λ (page : Page). keep page.page ≡ true) q qs each))
kept-merged keep (p ∷ ps) pages gone each =
    kept_before keep p (merged ps) pages (All-head (λ (page : Page). keep page.page ≡ false) p ps gone)
    (λ o. kept-merged keep ps o (All-tail (λ (page : Page). keep page.page ≡ false) p ps gone)) each

pub without-merged : (image pages : Memory) → IsMemory image → DoNotMeet image pages → without image (merged image pages) ≡ pages
without-merged image pages is apart =
    kept-merged (λ n. is_none (page_at image n)) image pages
    (λ k d l. ap is_none (page_at-place image k (get_or image k d).page d is l refl))
    (λ k d l. ap is_none (DoNotMeet-sym image pages apart k d l))

-- ---- the pages of a map by what a memory has

-- each page of a memory is the one that is found by its number
found_all : (m : Memory) → IsMemory m → All (λ page. page_at m page.page ≡ Some page) m
found_all m is k d l = page_at-place m k (get_or m k d).page d is l refl

left-alike : (m now pages : Memory) → Alike now pages → All (λ page. page_at m page.page ≡ Some page) now → now ≡ map_left m pages
unfolding Alike
left-alike m [] [] a each = refl
left-alike m [] (q ∷ qs) a each = absurd a
left-alike m (p ∷ ps) [] a each = absurd a
left-alike m (p ∷ ps) (q ∷ qs) a each =
    let here = All-head (λ (page : Page). page_at m page.page ≡ Some page) p ps each in
    let bytes : p.bytes ≡ bytes_or q (page_at m q.page) = sym (ap (bytes_or q) (ap (page_at m) (sym a.0) ∙ here)) in
    ap (λ n. record { page = n; perm = p.perm; bytes = p.bytes } ∷ ps) a.0
    ∙ ap (λ (x : Perm). record { page = q.page; perm = x; bytes = p.bytes } ∷ ps) a.1
    ∙ ap (λ bytes. record { page = q.page; perm = q.perm; bytes = bytes } ∷ ps) bytes
    ∙ ap (λ (rest : Memory). page_left m q ∷ rest) (left-alike m ps qs a.2 (All-tail (λ (page : Page). page_at m page.page ≡ Some page) p ps each))

pub start_has : (image : Image) (args : List ℕ) (pages : Memory) (vl : ℕ) → (start image args pages vl).memory ≡ merged image.pages pages
unfolding start start_of
start_has image args pages vl = refl

-- what a run left of the map's pages stays where the image's go
pub left_pages : (image : Image) (args : List ℕ) (pages m : Memory) (vl steps : ℕ) → IsMemory image.pages → IsMemory pages → DoNotMeet image.pages pages → m ≡ memory_left (image_run image args pages vl steps) → without image.pages m ≡ map_left m pages
left_pages image args pages m vl steps i p apart is =
    let first = merged image.pages pages in
    let stores = subst (λ (f : Memory). AfterStores f m) (start_has image args pages vl) (subst (AfterStores (start image args pages vl).memory) (sym is) (run_stores steps 0 (start image args pages vl))) in
    let keep : ℕ → Bool = λ n. is_none (page_at image.pages n) in
    let memory = IsMemory-after stores (IsMemory-merged image.pages pages i p apart) in
    left-alike m (without image.pages m) pages
    (subst (Alike (without image.pages m)) (without-merged image.pages pages i apart) (alike-filter keep m first (alike-after stores)))
    (All-filter (λ (page : Page). keep page.page) (λ page. page_at m page.page ≡ Some page) m (found_all m memory))
