-- The places that one pass collects are those of the labels.
use Rattle.std.proofs.Common.{◌≡◌, ◌≢◌, ℕ, suc, ◌+◌, ◌<◌, ◌≤◌, true, false, List, [], ◌∷◌, length, refl, sym, ap, ◌∙◌, arith, get_or-set_other, get_or-set_same, length-set, ⊎_elim}
use Rattle.std.proofs.lemmas.Bool.Decides.{eqb_tells}
use Rattle.std.proofs.lemmas.List.{get_or-replicate, length-replicate}
use Rattle.std.specs.Prelude.{min, nat_eq, replicate, slice_index, slice_set, if◌then◌else◌}
use Rattle.label_fix.specs.DraftRun.{DraftEntry, Put, Branch, Place, place_of}
use Rattle.label_fix.specs.Finished.{size}
use Rattle.label_fix.specs.Places.{placed_from}

pub place_within : (es : List DraftEntry) (l : ℕ) → place_of es l ≤ size es
place_within [] l = omega arith
place_within (Put i ∷ rest) l = omega (arith, place_within rest l)
place_within (Branch k m ∷ rest) l = omega (arith, place_within rest l)
place_within (Place m ∷ rest) l = elim (nat_eq m l) as (λ c. (if c then 0 else place_of rest l) ≤ size rest) [ true ↦ omega arith | false ↦ place_within rest l ]

placed_length : (es : List DraftEntry) (places : List ℕ) (n : ℕ) → length (placed_from places n es) ≡ length places
placed_length [] places n = refl
placed_length (Put i ∷ rest) places n = placed_length rest places (n + 1)
placed_length (Branch k m ∷ rest) places n = placed_length rest places (n + 1)
placed_length (Place m ∷ rest) places n = placed_length rest _ n ∙ length-set places m _

-- the least of what was known and of the place among the entries that follow
placed_from_min : (es : List DraftEntry) (places : List ℕ) (n l : ℕ) → l < length places → slice_index places l ≤ n + size es → slice_index (placed_from places n es) l ≡ min (slice_index places l) (n + place_of es l)
placed_from_min [] places n l lt le = omega arith
placed_from_min (Put i ∷ rest) places n l lt le =
    let e : n + 1 + place_of rest l ≡ n + suc (place_of rest l) = omega arith in
    placed_from_min rest places (n + 1) l lt (omega (arith, le)) ∙ ap (min (slice_index places l)) e
placed_from_min (Branch k m ∷ rest) places n l lt le =
    let e : n + 1 + place_of rest l ≡ n + suc (place_of rest l) = omega arith in
    placed_from_min rest places (n + 1) l lt (omega (arith, le)) ∙ ap (min (slice_index places l)) e
placed_from_min (Place m ∷ rest) places n l lt le =
    let low = min (slice_index places m) n in
    let sized : l < length (slice_set places m low) = omega (arith, length-set places m low) in
    ⊎_elim
    (λ (t : (nat_eq m l ≡ true) × (m ≡ l)).
    let here : slice_index (slice_set places m low) l ≡ min (slice_index places l) n = ap (λ j. slice_index (slice_set places j (min (slice_index places j) n)) l) t.1 ∙ get_or-set_same places l (min (slice_index places l) n) 0 lt in
    let ih = placed_from_min rest (slice_set places m low) n l sized (omega (arith, here)) in
    let c : n + (if nat_eq m l then 0 else place_of rest l) ≡ n + 0 = ap (λ b. n + (if b then 0 else place_of rest l)) t.0 in
    omega (arith, ih, here, c))
    (λ (f : (nat_eq m l ≡ false) × (m ≢ l)).
    let there : slice_index (slice_set places m low) l ≡ slice_index places l = get_or-set_other places m l low 0 (λ e. f.1 (sym e)) in
    let ih = placed_from_min rest (slice_set places m low) n l sized (omega (arith, there, le)) in
    let c : n + (if nat_eq m l then 0 else place_of rest l) ≡ n + place_of rest l = ap (λ b. n + (if b then 0 else place_of rest l)) f.0 in
    omega (arith, ih, there, c))
    (eqb_tells m l)

-- what the pass gives, begun with the number of all words
pub places_found : (labels : ℕ) (es : List DraftEntry) (places : List ℕ) → places ≡ placed_from (replicate labels (size es)) 0 es → (l : ℕ) → l < length places → slice_index places l ≡ place_of es l
places_found labels es places e l lt =
    let many : length places ≡ labels = ap length e ∙ placed_length es (replicate labels (size es)) 0 ∙ length-replicate labels (size es) in
    let begun : slice_index (replicate labels (size es)) l ≡ size es = get_or-replicate labels l (size es) 0 (omega (arith, many, lt)) in
    let f = placed_from_min es (replicate labels (size es)) 0 l (omega (arith, length-replicate {A = ℕ} labels (size es), many, lt)) (omega (arith, begun)) in
    let small = place_within es l in
    ap (λ ps. slice_index ps l) e ∙ omega (arith, f, begun, small)

pub places_sized : (labels : ℕ) (es : List DraftEntry) (places : List ℕ) → places ≡ placed_from (replicate labels (size es)) 0 es → length places ≡ labels
places_sized labels es places e = ap length e ∙ placed_length es (replicate labels (size es)) 0 ∙ length-replicate labels (size es)
