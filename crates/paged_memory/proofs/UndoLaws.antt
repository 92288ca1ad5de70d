-- What epochs undo.
use Rattle.std.proofs.Common.{◌≡◌, ◌≢◌, ℕ, zero, suc, ◌+◌, ◌-◌, ◌*◌, ◌/◌, ◌%◌, ◌^◌, ◌<◌, ◌≤◌, ◌⊎◌, inl, inr, Bool, true, false, List, [], ◌∷◌, ◌++◌, length, take, drop, get_or, refl, sym, ap, ap₂, ◌∙◌, subst, arith, length-append}
use Rattle.std.specs.Prelude.{nat_eq, ◌||◌, Result, Ok, Err, OnOk, OnErr}
use Rattle.std.proofs.Math.Nat.{mul-suc, mul-zero}
use Rattle.std.proofs.lemmas.Bool.{eq-eqb, eqb-true, cases_lt}
use Rattle.std.proofs.lemmas.List.{take_all, length-drop, nil_from_length, take-append-le, drop-append-le, drop-drop, get_or-take, get_or_push}
use mathlib.Core.Bool.{or-true}
use Rattle.guest_types.specs.declared.memory.AccessFault.{AccessFault}
use Rattle.guest_types.specs.Memory.{Memory, page_numbers, put_byte, put_number, next_address, stored}
use Rattle.guest_types.specs.Spans.{with_span}
use Rattle.guest_types.proofs.Stores.{stored-Ok}
use Rattle.paged_memory.specs.Loans.{place_in}
use Rattle.guest_types.specs.Kept.{kept_more}
use Rattle.guest_types.proofs.Writes.{page_numbers-put_byte}
use Rattle.paged_memory.specs.Epochs.{Saved, with_page, put_back, undone, has_place, past_of, undone_first, cleared_first, IsSavedAt, IsSaved, Epochs, IsKept}
use Rattle.paged_memory.proofs.PageLaws.{with_page-twice, with_page-swap, with_page-none, numbers-with_page, place_in-numbers, length-numbers, put_byte-page, with_span-page, numbers-put_number}

-- ---- places

pub has_place-push : (p : ℕ) (ps : List ℕ) → has_place p (ps ++ p ∷ []) ≡ true
has_place-push p [] = ap (λ b. b || false) (eq-eqb p p refl)
has_place-push p (q ∷ ps) = ap (λ b. nat_eq q p || b) (has_place-push p ps) ∙ or-true (nat_eq q p)

pub has_place-more : (p : ℕ) (ps more : List ℕ) → has_place p ps ≡ true → has_place p (ps ++ more) ≡ true
has_place-more p [] more has = absurd cc
has_place-more p (q ∷ ps) more has = go (has_place-more p ps more) (nat_eq q p) refl has
  where
    go : (has_place p ps ≡ true → has_place p (ps ++ more) ≡ true) → (t : Bool) → nat_eq q p ≡ t → (nat_eq q p || has_place p ps) ≡ true → (nat_eq q p || has_place p (ps ++ more)) ≡ true
    go rest true e h = ap (λ b. b || has_place p (ps ++ more)) e
    go rest false e h = ap (λ b. b || has_place p (ps ++ more)) e ∙ rest (sym (ap (λ b. b || has_place p ps) e) ∙ h)

-- ---- images put back

-- what stood in a page that is then overwritten is nothing to the rest
put_back-over : (p : ℕ) (ps ims x y : List ℕ) (m : Memory) → with_page p x (put_back ps ims (with_page p y m)) ≡ with_page p x (put_back ps ims m)
put_back-over p [] ims x y m = with_page-twice p x y m
put_back-over p (q ∷ ps) ims x y m = go (λ z. put_back-over p ps (drop 4096 ims) z y m) (nat_eq q p) refl
  where
    im : List ℕ
    im = take 4096 ims

    go : ((z : List ℕ) → with_page p z (put_back ps (drop 4096 ims) (with_page p y m)) ≡ with_page p z (put_back ps (drop 4096 ims) m)) → (t : Bool) → nat_eq q p ≡ t → with_page p x (with_page q im (put_back ps (drop 4096 ims) (with_page p y m))) ≡ with_page p x (with_page q im (put_back ps (drop 4096 ims) m))
    go rest true e =
        let same = eqb-true q p e in
        ap (λ r. with_page p x (with_page r im (put_back ps (drop 4096 ims) (with_page p y m)))) same
        ∙ with_page-twice p x im (put_back ps (drop 4096 ims) (with_page p y m))
        ∙ rest x
        ∙ sym (with_page-twice p x im (put_back ps (drop 4096 ims) m))
        ∙ sym (ap (λ r. with_page p x (with_page r im (put_back ps (drop 4096 ims) m))) same)
    go rest false e =
        let apart : p ≢ q = λ s. let same = eq-eqb q p (sym s) in absurd cc in
        with_page-swap p q x im (put_back ps (drop 4096 ims) (with_page p y m)) apart
        ∙ ap (with_page q im) (rest x)
        ∙ sym (with_page-swap p q x im (put_back ps (drop 4096 ims) m) apart)

-- what stands in a page that is saved is nothing to what is put back
pub put_back-saved : (p : ℕ) (ps ims y : List ℕ) (m : Memory) → has_place p ps ≡ true → put_back ps ims (with_page p y m) ≡ put_back ps ims m
put_back-saved p [] ims y m has = absurd cc
put_back-saved p (q ∷ ps) ims y m has = go (put_back-saved p ps (drop 4096 ims) y m) (nat_eq q p) refl has
  where
    im : List ℕ
    im = take 4096 ims

    go : (has_place p ps ≡ true → put_back ps (drop 4096 ims) (with_page p y m) ≡ put_back ps (drop 4096 ims) m) → (t : Bool) → nat_eq q p ≡ t → (nat_eq q p || has_place p ps) ≡ true → with_page q im (put_back ps (drop 4096 ims) (with_page p y m)) ≡ with_page q im (put_back ps (drop 4096 ims) m)
    go rest true e h =
        let same = eqb-true q p e in
        ap (λ r. with_page r im (put_back ps (drop 4096 ims) (with_page p y m))) same
        ∙ put_back-over p ps (drop 4096 ims) im y m
        ∙ sym (ap (λ r. with_page r im (put_back ps (drop 4096 ims) m)) same)
    go rest false e h = ap (with_page q im) (rest (sym (ap (λ b. b || has_place p ps) e) ∙ h))

-- one image more is put back first
pub put_back-push : (p : ℕ) (ps ims im : List ℕ) (m : Memory) → length ims ≡ 4096 * length ps → length im ≡ 4096 → put_back (ps ++ p ∷ []) (ims ++ im) m ≡ put_back ps ims (with_page p im m)
put_back-push p [] ims im m long whole =
    ap (λ l. with_page p (take 4096 (l ++ im)) m) (nil_from_length ims (omega (arith, mul-zero 4096)))
    ∙ ap (λ l. with_page p l m) (take_all 4096 im (omega (arith, whole)))
put_back-push p (q ∷ ps) ims im m long whole =
    let wide : length ims ≡ 4096 + 4096 * length ps = omega (arith, mul-suc 4096 (length ps)) in
    ap₂ (λ front rest. with_page q front (put_back (ps ++ p ∷ []) rest m)) (take-append-le 4096 ims im (omega arith)) (drop-append-le 4096 ims im (omega arith))
    ∙ ap (with_page q (take 4096 ims)) (put_back-push p ps (drop 4096 ims) im m (omega (arith, length-drop 4096 ims)) whole)

-- the last of some
pub put_back-last : (ps ims : List ℕ) (k : ℕ) (m : Memory) → k < length ps → put_back (take (suc k) ps) ims m ≡ put_back (take k ps) ims (with_page (get_or ps k 0) (take 4096 (drop (4096 * k) ims)) m)
put_back-last [] ims k m l = absurd (omega arith)
put_back-last (p ∷ ps) ims zero m l = refl
put_back-last (p ∷ ps) ims (suc k) m l =
    let e : 4096 + 4096 * k ≡ 4096 * suc k = omega (arith, mul-suc 4096 k) in
    ap (with_page p (take 4096 ims)) (put_back-last ps (drop 4096 ims) k m (omega arith) ∙ ap (λ i. put_back (take k ps) (drop 4096 ims) (with_page (get_or ps k 0) (take 4096 i) m)) (drop-drop (4096 * k) 4096 ims ∙ ap (λ n. drop n ims) e))

pub numbers-put_back : (ps ims : List ℕ) (m : Memory) → page_numbers (put_back ps ims m) ≡ page_numbers m
numbers-put_back [] ims m = refl
numbers-put_back (p ∷ ps) ims m = numbers-with_page p (take 4096 ims) (put_back ps (drop 4096 ims) m) ∙ numbers-put_back ps (drop 4096 ims) m

-- ---- the past

pub length-past_of : (es : List Saved) (m : Memory) → length (past_of es m) ≡ length es
length-past_of [] m = refl
length-past_of (e ∷ es) m =
    length-append (past_of es (undone e m)) (undone e m ∷ []) ∙ omega (arith, length-past_of es (undone e m))

-- the last so many of them
pub past_of-take : (k : ℕ) (es : List Saved) (m : Memory) → past_of (take k es) m ≡ drop (length es - k) (past_of es m)
past_of-take zero es m = sym (nil_from_length (drop (length es - 0) (past_of es m)) (omega (arith, length-drop (length es - 0) (past_of es m), length-past_of es m)))
past_of-take (suc k) [] m = sym (nil_from_length (drop (0 - suc k) (past_of [] m)) (omega (arith, length-drop (0 - suc k) (past_of [] m))))
past_of-take (suc k) (e ∷ es) m =
    ap (λ l. l ++ undone e m ∷ []) (past_of-take k es (undone e m))
    ∙ sym (drop-append-le (length es - k) (past_of es (undone e m)) (undone e m ∷ []) (omega (arith, length-past_of es (undone e m))))
    ∙ ap (λ n. drop n (past_of es (undone e m) ++ undone e m ∷ [])) (let same : length es - k ≡ suc (length es) - suc k = omega arith in same)

-- a memory is kept
pub past_of-note : (es : List Saved) (e : Saved) (m : Memory) → e.places ≡ [] → length es ≤ 8 → past_of (e ∷ take 7 es) m ≡ kept_more m (past_of es m)
past_of-note es e m none few =
    let before : undone e m ≡ m = ap (λ ps. put_back ps e.images m) none in
    let long = length-past_of es m in
    let count : length es - 7 ≡ length (past_of es m) + 1 - 8 = omega (arith, long) in
    ap (λ b. past_of (take 7 es) b ++ b ∷ []) before
    ∙ ap (λ l. l ++ m ∷ []) (past_of-take 7 es m)
    ∙ sym (drop-append-le (length es - 7) (past_of es m) (m ∷ []) (omega (arith, long)))
    ∙ ap (λ n. drop n (past_of es m ++ m ∷ [])) count

-- ---- writes to pages that are saved

pub saved-numbers : (es : List Saved) (m new : Memory) (n : ℕ) → page_numbers new ≡ page_numbers m → IsSaved es m n → IsSaved es new n
saved-numbers es m new n same saved below =
    let place = place_in-numbers m new n same in
    let long = length-numbers m new same in
    subst (λ p. IsSavedAt p es) (sym place) (saved (omega (arith, below, place, long)))

-- one page of a memory differs, which is saved
pub past_of-page : (es : List Saved) (m new : Memory) (n : ℕ) → IsSaved es m n → with_page (place_in m n) [] new ≡ with_page (place_in m n) [] m → past_of es new ≡ past_of es m
past_of-page [] m new n saved same = refl
past_of-page (e ∷ es) m new n saved same = ap (λ b. past_of es b ++ b ∷ []) (go (cases_lt (place_in m n) (length m)))
  where
    long : length new ≡ length m
    long = length-numbers m new (sym (numbers-with_page (place_in m n) [] new) ∙ ap page_numbers same ∙ numbers-with_page (place_in m n) [] m)

    go : (place_in m n < length m) ⊎ (length m ≤ place_in m n) → undone e new ≡ undone e m
    go (inl below) =
        sym (put_back-saved (place_in m n) e.places e.images [] new (saved below))
        ∙ ap (undone e) same
        ∙ put_back-saved (place_in m n) e.places e.images [] m (saved below)
    go (inr above) =
        ap (undone e) (sym (with_page-none (place_in m n) [] new (omega (arith, above, long))) ∙ same ∙ with_page-none (place_in m n) [] m above)

pub past_of-put_byte : (es : List Saved) (m : Memory) (a b : ℕ) → IsSaved es m (a / 4096) → past_of es (put_byte m a b) ≡ past_of es m
past_of-put_byte es m a b saved = past_of-page es m (put_byte m a b) (a / 4096) saved (put_byte-page m a b)

pub past_of-with_span : (es : List Saved) (m : Memory) (a : ℕ) (w : List ℕ) → IsSaved es m (a / 4096) → past_of es (with_span m a w) ≡ past_of es m
past_of-with_span es m a w saved = past_of-page es m (with_span m a w) (a / 4096) saved (with_span-page m a w)

-- the pages of so many bytes from an address on are saved
abbrev pub AreSaved : List Saved → Memory → (a s : ℕ) → Type 0
AreSaved es m a s = (k : ℕ) → k < s → IsSaved es m ((a + k) % 2 ^ 64 / 4096)

pub past_of-put_number : (es : List Saved) (m : Memory) (a s v : ℕ) → a < 2 ^ 64 → AreSaved es m a s → past_of es (put_number m a s v) ≡ past_of es m
past_of-put_number es m a zero v low saved = refl
past_of-put_number es m a (suc s) v low saved =
    let first : (a + 0) % 2 ^ 64 / 4096 ≡ a / 4096 = omega arith in
    past_of-put_number es (put_byte m a (v % 256)) (next_address a) s (v / 256) (omega arith) (λ k l.
    let next : (a + suc k) % 2 ^ 64 / 4096 ≡ (next_address a + k) % 2 ^ 64 / 4096 = omega arith in
    saved-numbers es m (put_byte m a (v % 256)) ((next_address a + k) % 2 ^ 64 / 4096) (page_numbers-put_byte m a (v % 256)) (subst (IsSaved es m) next (saved (suc k) (omega arith))))
    ∙ past_of-put_byte es m a (v % 256) (subst (IsSaved es m) first (saved 0 (omega arith)))

-- bytes of one page
pub saved-within : (es : List Saved) (m : Memory) (a s : ℕ) → a < 2 ^ 64 → a % 4096 + s ≤ 4096 → IsSaved es m (a / 4096) → AreSaved es m a s
saved-within es m a s low fits saved k l =
    let e : a / 4096 ≡ (a + k) % 2 ^ 64 / 4096 = omega arith in
    subst (IsSaved es m) e saved

-- at most eight bytes are of the page of the first and that of the last
pub saved-ends : (es : List Saved) (m : Memory) (a s : ℕ) → a < 2 ^ 64 → 1 ≤ s → s ≤ 8 → IsSaved es m (a / 4096) → IsSaved es m ((a + (s - 1)) % 2 ^ 64 / 4096) → AreSaved es m a s
saved-ends es m a s low some few first last k l = go (cases_lt (a % 4096 + k) 4096)
  where
    go : (a % 4096 + k < 4096) ⊎ (4096 ≤ a % 4096 + k) → IsSaved es m ((a + k) % 2 ^ 64 / 4096)
    go (inl here) = subst (IsSaved es m) (let e : a / 4096 ≡ (a + k) % 2 ^ 64 / 4096 = omega arith in e) first
    go (inr next) = subst (IsSaved es m) (let e : (a + (s - 1)) % 2 ^ 64 / 4096 ≡ (a + k) % 2 ^ 64 / 4096 = omega arith in e) last

-- ---- what a call leaves

pub kept-numbers : (m new : Memory) (log : Epochs) (opened : ℕ) → page_numbers new ≡ page_numbers m → IsKept m log opened → IsKept new log opened
kept-numbers m new log opened same kept = record {
  pages = kept.pages ∙ sym (length-numbers m new same);
  saved = λ low. saved-numbers log.epochs m new opened same (kept.saved low);
}

pub kept-opened : (m new : Memory) (log : Epochs) (opened number : ℕ) → log.pages ≡ length m → IsSaved log.epochs m number → opened ≡ number → page_numbers new ≡ page_numbers m → IsKept new log opened
kept-opened m new log opened number pages saved is same =
    kept-numbers m new log opened same (record { pages = pages; saved = λ low. subst (IsSaved log.epochs m) (sym is) saved })

pub numbers-stored : {T : Type 0} (m new : Memory) (a s v : ℕ) (r : Result T AccessFault) → OnOk r (stored m a s v ≡ Ok new) → OnErr r (new ≡ m) → page_numbers new ≡ page_numbers m
numbers-stored m new a s v (Ok t) done unchanged = ap page_numbers (stored-Ok m new a s v done).1 ∙ numbers-put_number m a s v
numbers-stored m new a s v (Err f) done unchanged = ap page_numbers unchanged

pub past_of-stored : {T : Type 0} (es : List Saved) (m new : Memory) (a s v : ℕ) (r : Result T AccessFault) → OnOk r (stored m a s v ≡ Ok new) → OnErr r (new ≡ m) → a < 2 ^ 64 → AreSaved es m a s → past_of es new ≡ past_of es m
past_of-stored es m new a s v (Ok t) done unchanged low saved = ap (past_of es) (stored-Ok m new a s v done).1 ∙ past_of-put_number es m a s v low saved
past_of-stored es m new a s v (Err f) done unchanged low saved = ap (past_of es) unchanged

-- ---- the way back

pub back-step : (es : List Saved) (m : Memory) (n : ℕ) → n + 1 < length es → take (n + 1) (past_of (drop 1 (cleared_first es)) (undone_first es m)) ≡ take (n + 1) (past_of es m)
back-step [] m n l = absurd (omega (arith, l))
back-step (e ∷ es) m n l = sym (take-append-le (n + 1) (past_of es (undone e m)) (undone e m ∷ []) (omega (arith, l, length-past_of es (undone e m))))

pub back-last : (es : List Saved) (m : Memory) (n : ℕ) → length es ≡ n + 1 → past_of (cleared_first es) (undone_first es m) ≡ take (n + 1) (past_of es m)
back-last [] m n l = absurd (omega (arith, l))
back-last (e ∷ es) m n l = sym (take_all (n + 1) (past_of (e ∷ es) m) (omega (arith, l, length-past_of (e ∷ es) m)))

pub back-memory : (es : List Saved) (m : Memory) (n : ℕ) (all : List Memory) (d : Memory) → length es ≡ n + 1 → take (n + 1) (past_of es m) ≡ take (n + 1) all → get_or all n d ≡ undone_first es m
back-memory [] m n all d l same = absurd (omega (arith, l))
back-memory (e ∷ es) m n all d l same =
    sym (get_or-take (n + 1) all n d (omega arith))
    ∙ ap (λ k. get_or k n d) (sym same ∙ take_all (n + 1) (past_of (e ∷ es) m) (omega (arith, l, length-past_of (e ∷ es) m)))
    ∙ get_or_push (past_of es (undone e m)) (undone e m) d n (omega (arith, l, length-past_of es (undone e m)))

pub length-undone_first : (es : List Saved) (m : Memory) → length (undone_first es m) ≡ length m
length-undone_first [] m = refl
length-undone_first (e ∷ es) m = length-numbers m (undone e m) (numbers-put_back e.places e.images m)

pub length-cleared : (es : List Saved) → length (cleared_first es) ≡ length es
length-cleared [] = refl
length-cleared (e ∷ es) = refl
