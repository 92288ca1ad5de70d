-- Marks of pages.
use Rattle.std.proofs.Common.{◌≡◌, ℕ, zero, suc, ◌+◌, ◌*◌, ◌<◌, ◌≤◌, ◌⊎◌, inl, inr, Bool, true, false, List, [], ◌∷◌, ◌++◌, length, set, get_or, replicate, refl, sym, ap, ap₂, ◌∙◌, arith, length-set, length-append}
use Rattle.std.specs.Prelude.{◌||◌}
use Rattle.std.proofs.lemmas.Bool.{cases_eq, ne_eqb}
use Rattle.std.proofs.lemmas.List.{get_or-set_other, length-replicate}
use Rattle.paged_memory.specs.Epochs.{Saved, marked, unmarked, has_place, IsEpoch}
use Rattle.paged_memory.proofs.UndoLaws.{has_place-push, has_place-more}

pub marked-none : (n : ℕ) → marked (replicate n false) ≡ 0
marked-none zero = refl
marked-none (suc n) = marked-none n

pub marked-set : (marks : List Bool) (p : ℕ) → p < length marks → get_or marks p false ≡ false → marked (set marks p true) ≡ marked marks + 1
marked-set [] p l not = absurd (omega arith)
marked-set (true ∷ marks) zero l not = absurd cc
marked-set (false ∷ marks) zero l not = omega arith
marked-set (true ∷ marks) (suc p) l not = omega (arith, marked-set marks p (omega arith) not)
marked-set (false ∷ marks) (suc p) l not = marked-set marks p (omega arith) not

marked-most : (marks : List Bool) → marked marks ≤ length marks
marked-most [] = omega arith
marked-most (true ∷ marks) = omega (arith, marked-most marks)
marked-most (false ∷ marks) = omega (arith, marked-most marks)

-- one that is not marked leaves room
pub marked-room : (marks : List Bool) (p : ℕ) → p < length marks → get_or marks p false ≡ false → marked marks < length marks
marked-room [] p l not = absurd (omega arith)
marked-room (true ∷ marks) zero l not = absurd cc
marked-room (false ∷ marks) zero l not = omega (arith, marked-most marks)
marked-room (true ∷ marks) (suc p) l not = omega (arith, marked-room marks p (omega arith) not)
marked-room (false ∷ marks) (suc p) l not = omega (arith, marked-room marks p (omega arith) not)

never_marked : (n p : ℕ) → get_or (replicate n false) p false ≡ false
never_marked zero p = refl
never_marked (suc n) zero = refl
never_marked (suc n) (suc p) = never_marked n p

-- ---- marks that are taken away

pub length-unmarked : (places : List ℕ) (marks : List Bool) → length (unmarked places marks) ≡ length marks
length-unmarked [] marks = refl
length-unmarked (p ∷ places) marks = length-unmarked places (set marks p false) ∙ length-set marks p false

set_there : (marks : List Bool) (p : ℕ) → get_or (set marks p false) p false ≡ false
set_there [] p = refl
set_there (m ∷ marks) zero = refl
set_there (m ∷ marks) (suc p) = set_there marks p

-- where each mark is at one of the places, none is left
unmarked_place_is_off : (places : List ℕ) (marks : List Bool) (q : ℕ) → (get_or marks q false ≡ true → has_place q places ≡ true) → get_or (unmarked places marks) q false ≡ false
unmarked_place_is_off [] marks q h = go (get_or marks q false) h
  where
    go : (b : Bool) → (b ≡ true → false ≡ true) → b ≡ false
    go true h = sym (h refl)
    go false h = refl
unmarked_place_is_off (p ∷ places) marks q h = unmarked_place_is_off places (set marks p false) q (λ stands. go (cases_eq q p) stands)
  where
    go : (q ≡ p) ⊎ (q ≡ p → ⊥) → get_or (set marks p false) q false ≡ true → has_place q places ≡ true
    go (inl same) stands = let not : get_or (set marks p false) q false ≡ false = ap (λ j. get_or (set marks p false) j false) same ∙ set_there marks p in let never = sym not ∙ stands in absurd cc
    go (inr other) stands =
        let here = h (sym (get_or-set_other marks p q false false other) ∙ stands) in
        sym (ap (λ b. b || has_place q places) (ne_eqb p q (λ e. other (sym e)))) ∙ here

all_false : (marks : List Bool) → ((q : ℕ) → get_or marks q false ≡ false) → marks ≡ replicate (length marks) false
all_false [] h = refl
all_false (m ∷ marks) h = ap₂ (λ b bs. b ∷ bs) (h zero) (all_false marks (λ q. h (suc q)))

pub unmarked-all : (places : List ℕ) (marks : List Bool) → ((q : ℕ) → get_or marks q false ≡ true → has_place q places ≡ true) → unmarked places marks ≡ replicate (length marks) false
unmarked-all places marks saved = all_false (unmarked places marks) (λ q. unmarked_place_is_off places marks q (saved q)) ∙ ap (λ n. replicate n false) (length-unmarked places marks)

-- none is saved
pub none_saved : (pages n : ℕ) (places images : List ℕ) → pages ≡ n → places ≡ [] → images ≡ [] → ◌≡◌ {A = Saved} (record { pages = pages; places = places; images = images }) (record { pages = n; places = []; images = [] })
none_saved pages n places images p e i =
    ap (λ k. record { pages = k; places = places; images = images }) p
    ∙ ap (λ k. record { pages = n; places = k; images = images }) e
    ∙ ap (λ k. record { pages = n; places = []; images = k }) i

-- ---- epochs as they stand

pub epoch-empty : (marks : List Bool) (places images : List ℕ) (room wide n : ℕ) → marks ≡ replicate n false → places ≡ [] → images ≡ [] → n ≤ 16384 → n ≤ room → 4096 * n ≤ wide → IsEpoch marks places images room wide
epoch-empty marks places images room wide n none no_place no_image few fits fits_images =
    let long : length marks ≡ n = ap length none ∙ length-replicate n false in
    let no_places = ap length no_place in
    let no_images = ap length no_image in
    record {
      few = omega (arith, long);
      whole = omega (arith, no_places, no_images);
      counted = ap marked none ∙ marked-none n ∙ sym no_places;
      saved = λ p h. let not = sym (ap (λ l. get_or l p false) none) ∙ h in let never = never_marked n p in absurd cc;
      fits = omega (arith, long);
      fits_images = omega (arith, long);
    }

saved-set : (marks : List Bool) (places : List ℕ) (p : ℕ) → ((q : ℕ) → get_or marks q false ≡ true → has_place q places ≡ true) → (q : ℕ) → get_or (set marks p true) q false ≡ true → has_place q (places ++ p ∷ []) ≡ true
saved-set marks places p saved q h = go (cases_eq q p)
  where
    go : (q ≡ p) ⊎ (q ≡ p → ⊥) → has_place q (places ++ p ∷ []) ≡ true
    go (inl same) = ap (λ k. has_place k (places ++ p ∷ [])) same ∙ has_place-push p places
    go (inr other) = has_place-more q places (p ∷ []) (saved q (sym (get_or-set_other marks p q true false other) ∙ h))

-- one page more is saved
pub epoch-push : (marks : List Bool) (places images : List ℕ) (room wide p : ℕ) (page new_places new_images : List ℕ) (room2 wide2 : ℕ) → IsEpoch marks places images room wide → p < length marks → get_or marks p false ≡ false → length page ≡ 4096 → new_places ≡ places ++ p ∷ [] → new_images ≡ images ++ page → room ≤ room2 → wide ≤ wide2 → IsEpoch (set marks p true) new_places new_images room2 wide2
epoch-push marks places images room wide p page new_places new_images room2 wide2 is below not whole more more_images wider wider_images =
    let long = length-set marks p true in
    let count = ap length more ∙ length-append places (p ∷ []) in
    let images_long = ap length more_images ∙ length-append images page in
    record {
      few = omega (arith, long, is.few);
      whole = omega (arith, count, images_long, is.whole, whole);
      counted = omega (arith, marked-set marks p below not, is.counted, count);
      saved = λ q h. ap (has_place q) more ∙ saved-set marks places p is.saved q h;
      fits = omega (arith, long, is.fits);
      fits_images = omega (arith, long, is.fits_images);
    }
