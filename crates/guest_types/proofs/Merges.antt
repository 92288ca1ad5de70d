-- Memories in order, and their merges.
use Rattle.std.proofs.Common.{◌≡◌, ◌≢◌, ℕ, zero, suc, ◌+◌, ◌<◌, ◌≤◌, Bool, true, false, cond, List, [], ◌∷◌, ◌++◌, length, get_or, Option, Some, None, refl, sym, ap, ◌∙◌, subst, arith}
use Rattle.std.specs.Prelude.{nat_eq, nat_lt, slice_index}
use Rattle.std.specs.List.{All}
use Rattle.std.specs.List.Sorted.{IsStrictlyIncreasing}
use Rattle.std.specs.Option.{option_or}
use Rattle.std.proofs.lemmas.Bool.{cond-true, cond-false, eq-eqb, ne_eqb, ltb-true, ltb-false}
use Rattle.std.proofs.lemmas.List.Elements.{All-nil, All-head, All-tail, All-cons, All-weaker}
use Rattle.std.proofs.lemmas.List.Folds.{find-append}
use Rattle.guest_types.specs.Memory.{Page, Memory, IsPage, IsMemory, page_numbers, page_at, merged, merged_before, DoNotMeet}
use Rattle.guest_types.proofs.Writes.{All-page_at, page_at-number}

-- ---- order, page by page

-- pages whose numbers ascend from `low` on
abbrev pub Ordered : ℕ → Memory → Type 0
Ordered low [] = Unit {0}
Ordered low (p ∷ ps) = (low ≤ p.page) × IsPage p × Ordered (suc p.page) ps

-- the first of the numbers, where there is one, is at least `low`
abbrev StartsFrom : ℕ → List ℕ → Type 0
StartsFrom low [] = Unit {0}
StartsFrom low (x ∷ xs) = low ≤ x

rises_tail : (x : ℕ) (xs : List ℕ) → IsStrictlyIncreasing (x ∷ xs) → IsStrictlyIncreasing xs
rises_tail x xs h k l =
    let e : suc k + 1 ≡ suc (k + 1) = omega arith in
    subst (λ j. slice_index xs k < slice_index (x ∷ xs) j) e (h (suc k) (omega arith))

rises_start : (x : ℕ) (xs : List ℕ) → IsStrictlyIncreasing (x ∷ xs) → StartsFrom (suc x) xs
rises_start x [] h = tt
rises_start x (y ∷ xs) h = let up : x < y = h 0 (omega arith) in up

rises_cons : (x : ℕ) (xs : List ℕ) → StartsFrom (suc x) xs → IsStrictlyIncreasing xs → IsStrictlyIncreasing (x ∷ xs)
rises_cons x [] start h k l = absurd (omega arith)
rises_cons x (y ∷ xs) start h zero l = start
rises_cons x (y ∷ xs) start h (suc k) l =
    let e : suc (k + 1) ≡ suc k + 1 = omega arith in
    subst (λ j. slice_index (y ∷ xs) k < slice_index (x ∷ y ∷ xs) j) e (h k (omega arith))

ordered_from : (low : ℕ) (memory : Memory) → IsStrictlyIncreasing (page_numbers memory) → All IsPage memory → StartsFrom low (page_numbers memory) → Ordered low memory
ordered_from low [] rises each start = tt
ordered_from low (p ∷ ps) rises each start =
    (start, All-head IsPage p ps each, ordered_from (suc p.page) ps (rises_tail p.page (page_numbers ps) rises) (All-tail IsPage p ps each) (rises_start p.page (page_numbers ps) rises))

page_numbers_start_from_0 : (memory : Memory) → StartsFrom 0 (page_numbers memory)
page_numbers_start_from_0 [] = tt
page_numbers_start_from_0 (p ∷ ps) = omega arith

pub Ordered-from_IsMemory : (memory : Memory) → IsMemory memory → Ordered 0 memory
Ordered-from_IsMemory memory is = ordered_from 0 memory is.ascending is.pages (page_numbers_start_from_0 memory)

ordered_start : (low : ℕ) (memory : Memory) → Ordered low memory → StartsFrom low (page_numbers memory)
ordered_start low [] h = tt
ordered_start low (p ∷ ps) h = h.0

ordered_rises : (low : ℕ) (memory : Memory) → Ordered low memory → IsStrictlyIncreasing (page_numbers memory)
ordered_rises low [] h = λ k l. absurd (omega arith)
ordered_rises low (p ∷ ps) h = rises_cons p.page (page_numbers ps) (ordered_start (suc p.page) ps h.2) (ordered_rises (suc p.page) ps h.2)

ordered_pages : (low : ℕ) (memory : Memory) → Ordered low memory → All IsPage memory
ordered_pages low [] h = All-nil IsPage
ordered_pages low (p ∷ ps) h = All-cons IsPage p ps h.1 (ordered_pages (suc p.page) ps h.2)

pub IsMemory-from_Ordered : (low : ℕ) (memory : Memory) → Ordered low memory → IsMemory memory
IsMemory-from_Ordered low memory h = record { ascending = ordered_rises low memory h; pages = ordered_pages low memory h }

-- ---- memories made page by page

pub empty_memory : IsMemory []
empty_memory = IsMemory-from_Ordered 0 [] tt

ordered_push : (low : ℕ) (memory : Memory) (p : Page) → Ordered low memory → low ≤ p.page → IsPage p → All (λ q. q.page < p.page) memory → Ordered low (memory ++ p ∷ [])
ordered_push low [] p h least is below = (least, is, tt)
ordered_push low (q ∷ qs) p h least is below =
    (h.0, h.1, ordered_push (suc q.page) qs p h.2 (All-head (λ (q : Page). q.page < p.page) q qs below) is (All-tail (λ (q : Page). q.page < p.page) q qs below))

-- a page above all others comes last
pub IsMemory-push : (memory : Memory) (p : Page) → IsMemory memory → IsPage p → All (λ q. q.page < p.page) memory → IsMemory (memory ++ p ∷ [])
IsMemory-push memory p is page below = IsMemory-from_Ordered 0 (memory ++ p ∷ []) (ordered_push 0 memory p (Ordered-from_IsMemory memory is) (omega arith) page below)

pub IsMemory-tail : (p : Page) (ps : Memory) → IsMemory (p ∷ ps) → IsMemory ps
IsMemory-tail p ps is = IsMemory-from_Ordered (suc p.page) ps (Ordered-from_IsMemory (p ∷ ps) is).2

pub page_at-append : (memory more : Memory) (n : ℕ) → page_at (memory ++ more) n ≡ option_or (page_at memory n) (page_at more n)
page_at-append memory more n = find-append (λ (page : Page). nat_eq page.page n) memory more

-- ---- look-ups by place

ordered_low : (low : ℕ) (memory : Memory) (i : ℕ) (d : Page) → Ordered low memory → i < length memory → low ≤ (get_or memory i d).page
ordered_low low [] i d h l = absurd (omega arith)
ordered_low low (p ∷ ps) zero d h l = h.0
ordered_low low (p ∷ ps) (suc i) d h l = let next = ordered_low (suc p.page) ps i d h.2 (omega arith) in omega (arith, next, h.0)

ordered_place : (low : ℕ) (memory : Memory) (i : ℕ) (d : Page) → Ordered low memory → i < length memory → page_at memory (get_or memory i d).page ≡ Some (get_or memory i d)
ordered_place low [] i d h l = absurd (omega arith)
ordered_place low (p ∷ ps) zero d h l = cond-true _ _ _ (eq-eqb p.page p.page refl)
ordered_place low (p ∷ ps) (suc i) d h l =
    let next = ordered_low (suc p.page) ps i d h.2 (omega arith) in
    cond-false _ _ _ (ne_eqb p.page (get_or ps i d).page (λ e. omega (arith, next, e))) ∙ ordered_place (suc p.page) ps i d h.2 (omega arith)

-- the page at a place is found by its number
pub page_at-place : (memory : Memory) (i n : ℕ) (d : Page) → IsMemory memory → i < length memory → (get_or memory i d).page ≡ n → page_at memory n ≡ Some (get_or memory i d)
page_at-place memory i n d is l e = ap (page_at memory) (sym e) ∙ ordered_place 0 memory i d (Ordered-from_IsMemory memory is) l

-- a number that no page has is not found
pub page_at-absent : (memory : Memory) (n : ℕ) → All (λ page. page.page ≢ n) memory → page_at memory n ≡ None
page_at-absent [] n each = refl
page_at-absent (p ∷ ps) n each =
    cond-false _ _ _ (ne_eqb p.page n (All-head (λ (page : Page). page.page ≢ n) p ps each)) ∙ page_at-absent ps n (All-tail (λ (page : Page). page.page ≢ n) p ps each)

-- numbers below the page at a place stand before it
pub page_numbers-ascend : (memory : Memory) (i j : ℕ) (d : Page) → IsMemory memory → i < j → j < length memory → (get_or memory i d).page < (get_or memory j d).page
page_numbers-ascend memory i j d is l h = go 0 memory i j d (Ordered-from_IsMemory memory is) l h
  where
    go : (low : ℕ) (memory : Memory) (i j : ℕ) (d : Page) → Ordered low memory → i < j → j < length memory → (get_or memory i d).page < (get_or memory j d).page
    go low [] i j d o l h = absurd (omega arith)
    go low (p ∷ ps) i zero d o l h = absurd (omega arith)
    go low (p ∷ ps) zero (suc j) d o l h = ordered_low (suc p.page) ps j d o.2 (omega arith)
    go low (p ∷ ps) (suc i) (suc j) d o l h = go (suc p.page) ps i j d o.2 (omega arith) (omega arith)

-- ---- memories that do not meet

absent_head : (q : Page) (qs : Memory) (n : ℕ) → page_at (q ∷ qs) n ≡ None → q.page ≢ n
absent_head q qs n h e = let found : Some q ≡ None = sym (cond-true _ _ _ (eq-eqb q.page n e)) ∙ h in cc

absent_tail : (q : Page) (qs : Memory) (n : ℕ) → page_at (q ∷ qs) n ≡ None → page_at qs n ≡ None
absent_tail q qs n h = sym (cond-false _ _ _ (ne_eqb q.page n (absent_head q qs n h))) ∙ h

pub DoNotMeet-left_tail : (p : Page) (ps other : Memory) → DoNotMeet (p ∷ ps) other → DoNotMeet ps other
DoNotMeet-left_tail p ps other apart = All-tail (λ (page : Page). page_at other page.page ≡ None) p ps apart

pub DoNotMeet-right_tail : (memory : Memory) (q : Page) (qs : Memory) → DoNotMeet memory (q ∷ qs) → DoNotMeet memory qs
DoNotMeet-right_tail memory q qs apart =
    All-weaker (λ (page : Page). page_at (q ∷ qs) page.page ≡ None) (λ (page : Page). page_at qs page.page ≡ None) (λ page. absent_tail q qs page.page) memory apart

heads_apart : (p q : Page) (ps qs : Memory) → DoNotMeet (p ∷ ps) (q ∷ qs) → q.page ≢ p.page
heads_apart p q ps qs apart = absent_head q qs p.page (All-head (λ (page : Page). page_at (q ∷ qs) page.page ≡ None) p ps apart)

-- a number in the one is not in the other
pub page_at-apart : (memory other : Memory) (n : ℕ) (q : Page) → DoNotMeet memory other → page_at other n ≡ Some q → page_at memory n ≡ None
page_at-apart memory other n q apart found = go (page_at memory n) refl
  where
    go : (o : Option Page) → page_at memory n ≡ o → page_at memory n ≡ None
    go None e = e
    go (Some p) e =
        let absent : page_at other p.page ≡ None = All-page_at (λ (page : Page). page_at other page.page ≡ None) memory n p apart e in
        let clash : Some q ≡ None = sym found ∙ ap (page_at other) (sym (page_at-number memory n p e)) ∙ absent in cc

pub DoNotMeet-sym : (memory other : Memory) → DoNotMeet memory other → DoNotMeet other memory
DoNotMeet-sym memory [] apart = All-nil (λ (page : Page). page_at memory page.page ≡ None)
DoNotMeet-sym memory (q ∷ qs) apart =
    All-cons (λ (page : Page). page_at memory page.page ≡ None) q qs (page_at-apart memory (q ∷ qs) q.page q apart (cond-true _ _ _ (eq-eqb q.page q.page refl)))
    (DoNotMeet-sym memory qs (DoNotMeet-right_tail memory q qs apart))

-- ---- merges

pub merged-nil_left : (other : Memory) → merged [] other ≡ other
merged-nil_left other = refl

pub merged-nil_right : (memory : Memory) → merged memory [] ≡ memory
merged-nil_right [] = refl
merged-nil_right (p ∷ ps) = ap (λ l. p ∷ l) (merged-nil_right ps)

-- the two ways in which a merge goes on, and what each keeps of a fact
merge_step : (P : Memory → Type 0) (p q : Page) (rest : Memory → Memory) (qs : Memory) → (q.page < p.page → P (q ∷ merged_before p rest qs)) → (p.page ≤ q.page → P (p ∷ rest (q ∷ qs))) → P (merged_before p rest (q ∷ qs))
merge_step P p q rest qs below above = go (nat_lt q.page p.page) refl
  where
    go : (t : Bool) → nat_lt q.page p.page ≡ t → P (cond (nat_lt q.page p.page) (q ∷ merged_before p rest qs) (p ∷ rest (q ∷ qs)))
    go true e = subst P (sym (cond-true _ _ _ e)) (below (ltb-true q.page p.page e))
    go false e = subst P (sym (cond-false _ _ _ e)) (above (ltb-false q.page p.page e))

length_before : (p : Page) (rest : Memory → Memory) (n : ℕ) (other : Memory) → ((o : Memory) → length (rest o) ≡ n + length o) → length (merged_before p rest other) ≡ suc n + length other
length_before p rest n [] h = omega (arith, h [])
length_before p rest n (q ∷ qs) h =
    let more = length_before p rest n qs h in
    merge_step (λ m. length m ≡ suc n + length (q ∷ qs)) p q rest qs (λ l. omega (arith, more)) (λ l. omega (arith, h (q ∷ qs)))

pub length-merged : (memory other : Memory) → length (merged memory other) ≡ length memory + length other
length-merged [] other = omega arith
length-merged (p ∷ ps) other = length_before p (merged ps) (length ps) other (length-merged ps)

ordered_before : (low : ℕ) (p : Page) (ps other : Memory) → low ≤ p.page → IsPage p → ((o : Memory) → Ordered (suc p.page) o → DoNotMeet ps o → Ordered (suc p.page) (merged ps o)) → Ordered low other → DoNotMeet (p ∷ ps) other → Ordered low (merged_before p (merged ps) other)
ordered_before low p ps [] least is rest o apart = (least, is, rest [] tt (DoNotMeet-left_tail p ps [] apart))
ordered_before low p ps (q ∷ qs) least is rest o apart =
    let more : q.page < p.page → Ordered (suc q.page) (merged_before p (merged ps) qs) = λ l. ordered_before (suc q.page) p ps qs l is rest o.2 (DoNotMeet-right_tail (p ∷ ps) q qs apart) in
    let ne = heads_apart p q ps qs apart in
    merge_step (Ordered low) p q (merged ps) qs (λ l. (o.0, o.1, more l))
    (λ g. (least, is, rest (q ∷ qs) (let up : suc p.page ≤ q.page = omega arith in up, o.1, o.2) (DoNotMeet-left_tail p ps (q ∷ qs) apart)))

ordered_merged : (low : ℕ) (memory other : Memory) → Ordered low memory → Ordered low other → DoNotMeet memory other → Ordered low (merged memory other)
ordered_merged low [] other m o apart = o
ordered_merged low (p ∷ ps) other m o apart = ordered_before low p ps other m.0 m.1 (λ o' h. ordered_merged (suc p.page) ps o' m.2 h) o apart

-- the merge of two memories that do not meet is a memory
pub IsMemory-merged : (memory other : Memory) → IsMemory memory → IsMemory other → DoNotMeet memory other → IsMemory (merged memory other)
IsMemory-merged memory other m o apart =
    IsMemory-from_Ordered 0 (merged memory other) (ordered_merged 0 memory other (Ordered-from_IsMemory memory m) (Ordered-from_IsMemory other o) apart)

or_more : (t : Bool) (p : Page) (left right whole : Option Page) → whole ≡ option_or left right → cond t (Some p) whole ≡ option_or (cond t (Some p) left) right
or_more true p left right whole h = refl
or_more false p left right whole h = h

or_other : (t : Bool) (q : Page) (left right whole : Option Page) → (t ≡ true → left ≡ None) → whole ≡ option_or left right → cond t (Some q) whole ≡ option_or left (cond t (Some q) right)
or_other true q left right whole absent h = ap (λ o. option_or o (Some q)) (sym (absent refl))
or_other false q left right whole absent h = h

at_before : (n : ℕ) (p : Page) (ps other : Memory) → ((o : Memory) → DoNotMeet ps o → page_at (merged ps o) n ≡ option_or (page_at ps n) (page_at o n)) → DoNotMeet (p ∷ ps) other → page_at (merged_before p (merged ps) other) n ≡ option_or (page_at (p ∷ ps) n) (page_at other n)
at_before n p ps [] rest apart = or_more (nat_eq p.page n) p (page_at ps n) None (page_at (merged ps []) n) (rest [] (DoNotMeet-left_tail p ps [] apart))
at_before n p ps (q ∷ qs) rest apart =
    let more = at_before n p ps qs rest (DoNotMeet-right_tail (p ∷ ps) q qs apart) in
    let whole = merged_before p (merged ps) qs in
    merge_step (λ m. page_at m n ≡ option_or (page_at (p ∷ ps) n) (page_at (q ∷ qs) n)) p q (merged ps) qs
    (λ l. or_other (nat_eq q.page n) q (page_at (p ∷ ps) n) (page_at qs n) (page_at whole n) (λ e. page_at-apart (p ∷ ps) (q ∷ qs) n q apart (cond-true _ _ _ e)) more)
    (λ g. or_more (nat_eq p.page n) p (page_at ps n) (page_at (q ∷ qs) n) (page_at (merged ps (q ∷ qs)) n) (rest (q ∷ qs) (DoNotMeet-left_tail p ps (q ∷ qs) apart)))

-- a look-up in a merge finds the page in the memory that has it
pub page_at-merged : (memory other : Memory) (n : ℕ) → DoNotMeet memory other → page_at (merged memory other) n ≡ option_or (page_at memory n) (page_at other n)
page_at-merged [] other n apart = refl
page_at-merged (p ∷ ps) other n apart = at_before n p ps other (λ o. page_at-merged ps o n) apart

pub page_at-merged_left : (memory other : Memory) (n : ℕ) (p : Page) → DoNotMeet memory other → page_at memory n ≡ Some p → page_at (merged memory other) n ≡ Some p
page_at-merged_left memory other n p apart found = page_at-merged memory other n apart ∙ ap (λ o. option_or o (page_at other n)) found

pub page_at-merged_right : (memory other : Memory) (n : ℕ) (q : Page) → DoNotMeet memory other → page_at other n ≡ Some q → page_at (merged memory other) n ≡ Some q
page_at-merged_right memory other n q apart found =
    page_at-merged memory other n apart ∙ ap (λ o. option_or o (page_at other n)) (page_at-apart memory other n q apart found) ∙ found
