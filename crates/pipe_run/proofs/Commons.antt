-- Pages in common.
use Rattle.std.proofs.Common.{◌≡◌, ℕ, zero, suc, ◌+◌, ◌<◌, ◌≤◌, [], ◌∷◌, length, drop, get_or, false, None, refl, sym, ap, ap₂, ◌∙◌, subst, arith}
use Rattle.std.specs.Prelude.{nat_eq, ◌||◌}
use Rattle.std.specs.List.{AllByRecursion}
use Rattle.std.proofs.lemmas.Bool.{ne_eqb, or_parts}
use Rattle.std.proofs.lemmas.List.{drop_more}
use Rattle.std.proofs.lemmas.List.Elements.{All-from_recursion}
use Rattle.guest_types.specs.Memory.{Page, Memory, IsMemory, DoNotMeet, page_at}
use Rattle.guest_types.proofs.Merges.{Ordered, Ordered-from_IsMemory}
use Rattle.pipe_run.specs.PipeRun.{has_page, have_common}

no_page_of_no_number : (pages : Memory) (n : ℕ) → has_page pages n ≡ false → page_at pages n ≡ None
no_page_of_no_number [] n h = refl
no_page_of_no_number (page ∷ pages) n h = let p = or_parts (nat_eq page.page n) (has_page pages n) h in rw p.0 (no_page_of_no_number pages n p.1)

none_common : (image pages : Memory) → have_common image pages ≡ false → AllByRecursion (λ page. page_at pages page.page ≡ None) image
none_common [] pages h = tt
none_common (page ∷ image) pages h =
    let p = or_parts (has_page pages page.page) (have_common image pages) h in (no_page_of_no_number pages page.page p.0, none_common image pages p.1)

pub do_not_meet_of_no_common : (image pages : Memory) → have_common image pages ≡ false → DoNotMeet image pages
do_not_meet_of_no_common image pages h = All-from_recursion (λ page. page_at pages page.page ≡ None) image (none_common image pages h)

-- ---- two lists in the order of their numbers

-- pages from some number on have no lower one
absent_below : (low : ℕ) (pages : Memory) (n : ℕ) → Ordered low pages → n < low → has_page pages n ≡ false
absent_below low [] n h l = refl
absent_below low (page ∷ pages) n h l =
    let least = h.0 in
    ap (λ b. b || has_page pages n) (ne_eqb page.page n (λ e. omega (arith, least, e, l))) ∙ absent_below (suc page.page) pages n h.2 (omega (arith, least, l))

-- the first page of an image is below all that are left of a map
pub past_image : (page : Page) (image : Memory) (low : ℕ) (pages : Memory) → Ordered low pages → page.page < low → have_common (page ∷ image) pages ≡ have_common image pages
past_image page image low pages h l = ap (λ b. b || have_common image pages) (absent_below low pages page.page h l)

-- the first page of a map is below all that are left of an image
pub past_map : (low : ℕ) (image : Memory) (page : Page) (pages : Memory) → Ordered low image → page.page < low → have_common image (page ∷ pages) ≡ have_common image pages
past_map low [] page pages h l = refl
past_map low (first ∷ image) page pages h l =
    let least = h.0 in
    ap (λ b. (b || has_page pages first.page) || have_common image (page ∷ pages)) (ne_eqb page.page first.page (λ e. omega (arith, least, e, l)))
    ∙ ap (λ b. has_page pages first.page || b) (past_map (suc first.page) image page pages h.2 (omega (arith, least, l)))

-- no page is left of a map
pub no_pages : (image : Memory) → have_common image [] ≡ false
no_pages [] = refl
no_pages (page ∷ image) = no_pages image

-- what is left of both lists has a page in common where the whole lists have
pub record Met (image pages : Memory) (i j : ℕ) : Type 0 where
  pub low : ℕ
  pub image_left : Ordered low (drop i image)
  pub least : ℕ
  pub pages_left : Ordered least (drop j pages)
  pub same : have_common (drop i image) (drop j pages) ≡ have_common image pages

pub met_first : (image pages : Memory) → IsMemory image → IsMemory pages → Met image pages 0 0
met_first image pages h k = record { low = 0; image_left = Ordered-from_IsMemory image h; least = 0; pages_left = Ordered-from_IsMemory pages k; same = refl }

next_is : (pages : Memory) (i : ℕ) (page : Page) → i < length pages → page ≡ get_or pages i page → drop i pages ≡ page ∷ drop (i + 1) pages
next_is pages i page h e = drop_more pages i page h ∙ ap (λ p. p ∷ drop (i + 1) pages) (sym e)

module _ (image pages : Memory) (i j : ℕ) (x y : Page) (met : Met image pages i j) (below : i < length image) (under : j < length pages) (here : x ≡ get_or image i x) (there : y ≡ get_or pages j y) where
  xs : Ordered met.low (x ∷ drop (i + 1) image)
  xs = subst (Ordered met.low) (next_is image i x below here) met.image_left

  ys : Ordered met.least (y ∷ drop (j + 1) pages)
  ys = subst (Ordered met.least) (next_is pages j y under there) met.pages_left

  have_common_of_drops : have_common (x ∷ drop (i + 1) image) (y ∷ drop (j + 1) pages) ≡ have_common image pages
  have_common_of_drops = sym (ap₂ have_common (next_is image i x below here) (next_is pages j y under there)) ∙ met.same

  pub met_image : x.page < y.page → Met image pages (i + 1) j
  met_image l = record {
    low = suc x.page;
    image_left = xs.2;
    least = met.least;
    pages_left = met.pages_left;
    same =
        ap (have_common (drop (i + 1) image)) (next_is pages j y under there)
        ∙ sym (past_image x (drop (i + 1) image) y.page (y ∷ drop (j + 1) pages) (omega arith, ys.1, ys.2) l) ∙ have_common_of_drops;
  }

  pub met_pages : y.page < x.page → Met image pages i (j + 1)
  met_pages l = record {
    low = met.low;
    image_left = met.image_left;
    least = suc y.page;
    pages_left = ys.2;
    same =
        ap (λ m. have_common m (drop (j + 1) pages)) (next_is image i x below here)
        ∙ sym (past_map x.page (x ∷ drop (i + 1) image) y (drop (j + 1) pages) (omega arith, xs.1, xs.2) l) ∙ have_common_of_drops;
  }

drop_pages_past_end : (pages : Memory) (i : ℕ) → length pages ≤ i → drop i pages ≡ []
drop_pages_past_end [] zero h = refl
drop_pages_past_end [] (suc i) h = refl
drop_pages_past_end (page ∷ pages) zero h = absurd (omega arith)
drop_pages_past_end (page ∷ pages) (suc i) h = drop_pages_past_end pages i (omega arith)

pub met_pages_over : (image pages : Memory) (i j : ℕ) → Met image pages i j → length pages ≤ j → have_common image pages ≡ false
met_pages_over image pages i j met h = sym met.same ∙ ap (have_common (drop i image)) (drop_pages_past_end pages j h) ∙ no_pages (drop i image)
