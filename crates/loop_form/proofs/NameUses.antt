-- The user of a name item is at most the last use of the name.
use Rattle.std.proofs.Common.{◌≡◌, ℕ, ◌≤◌, Bool, true, false, List, [], ◌∷◌, ◌++◌, ap, arith}
use Rattle.std.specs.Prelude.{max, if◌then◌else◌}
use Rattle.std.proofs.Math.Nat.{le-max_left, le-max_right}
use Rattle.loop_form.specs.Entries.{Entry}
use Rattle.loop_form.specs.Listing.{names, last_use_from}

-- the user of a name item is at most the last use of the name, whatever that began with
abbrev pub IsUseCounted : List Entry → Entry → Type 0
IsUseCounted all e = (x : List ℕ) (last : ℕ) → names x e ≡ true → e.last_use ≤ last_use_from x last all

abbrev pub AreUsesCounted : List Entry → List Entry → Type 0
AreUsesCounted all [] = Unit {0}
AreUsesCounted all (e ∷ es) = IsUseCounted all e × AreUsesCounted all es

pub counted_left : (all xs ys : List Entry) → AreUsesCounted all (xs ++ ys) → AreUsesCounted all xs
counted_left all [] ys h = tt
counted_left all (x ∷ xs) ys h = (h.0, counted_left all xs ys h.1)

pub counted_right : (all xs ys : List Entry) → AreUsesCounted all (xs ++ ys) → AreUsesCounted all ys
counted_right all [] ys h = h
counted_right all (x ∷ xs) ys h = counted_right all xs ys h.1

last_step : (last last_use : ℕ) (b : Bool) (x : List ℕ) (es : List Entry) → last ≤ last_use_from x last es → max last last_use ≤ last_use_from x (max last last_use) es → last ≤ last_use_from x (if b then max last last_use else last) es
last_step last last_use true x es h k = let q = le-max_left last last_use in omega (arith, k, q)
last_step last last_use false x es h k = h

pub last_from : (x : List ℕ) (last : ℕ) (es : List Entry) → last ≤ last_use_from x last es
unfolding last_use_from
last_from x last [] = omega arith
last_from x last (e ∷ es) = last_step last e.last_use (names x e) x es (last_from x last es) (last_from x (max last e.last_use) es)

first_counted : (e : Entry) (es : List Entry) → IsUseCounted (e ∷ es) e
unfolding last_use_from
first_counted e es x last is =
    let p = last_from x (max last e.last_use) es in
    let q = le-max_right last e.last_use in
    let r : last_use_from x last (e ∷ es) ≡ last_use_from x (max last e.last_use) es = ap (λ b. last_use_from x (if b then max last e.last_use else last) es) is in
    omega (arith, p, q, r)

more_counted : (e : Entry) (all es : List Entry) → AreUsesCounted all es → AreUsesCounted (e ∷ all) es
unfolding last_use_from
more_counted e all [] h = tt
more_counted e all (f ∷ es) h = ((λ x last is. h.0 x (if names x e then max last e.last_use else last) is), more_counted e all es h.1)

pub all_counted : (all : List Entry) → AreUsesCounted all all
all_counted [] = tt
all_counted (e ∷ es) = (first_counted e es, more_counted e es es (all_counted es))
