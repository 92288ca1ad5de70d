-- Laws of overlaps.
use Rattle.std.proofs.Common.{◌≡◌, ℕ, ◌+◌, ◌<◌, ◌≤◌, Bool, true, false, cond, List, [], ◌∷◌, ◌++◌, refl, ap, ◌∙◌, arith, ⊎_elim, inl, inr, ◌⊎◌}
use Rattle.std.specs.Prelude.{◌&&◌, max, nat_le, nat_lt, fold}
use Rattle.std.proofs.Math.Nat.{le-max_left, le-max_right, max-le}
use Rattle.std.proofs.lemmas.Bool.{cases_lt, lt-ltb, le-leb, leb-true, ltb-true, and_parts}
use Rattle.std.proofs.lemmas.List.Sums.{sum_by-cons, sum_by-append, sum_by_push, fold-append}
use Rattle.reg_assign.specs.declared.interval.Interval.{Interval}
use Rattle.reg_assign.specs.Intervals.{is_live, overlap, greater_overlap, need_of}

-- ---- live intervals

-- a truth counts one
abbrev pub one : Bool → ℕ
one b = cond b 1 0

pub live-from : (p : ℕ) (i : Interval) → is_live p i ≡ true → i.from ≤ p
live-from p i e = leb-true i.from p (and_parts (nat_le i.from p) (nat_lt p i.last_use) e).0

pub live-last_use : (p : ℕ) (i : Interval) → is_live p i ≡ true → p < i.last_use
live-last_use p i e = ltb-true p i.last_use (and_parts (nat_le i.from p) (nat_lt p i.last_use) e).1

pub live : (p : ℕ) (i : Interval) → i.from ≤ p → p < i.last_use → is_live p i ≡ true
live p i f u = let a = le-leb i.from p f in let b = lt-ltb p i.last_use u in rw (a, b) refl

pub not_begun : (p : ℕ) (i : Interval) → p < i.from → is_live p i ≡ false
not_begun p i f = ap (λ b. b && nat_lt p i.last_use) (lt-leb-false i.from p f)
  where
    lt-leb-false : (a b : ℕ) → b < a → nat_le a b ≡ false
    lt-leb-false a b h = by (nat_le a b) refl
      where
        by : (c : Bool) → nat_le a b ≡ c → c ≡ false
        by true e = let l = leb-true a b e in absurd (omega arith)
        by false e = refl

pub is_live_of_begun : (p : ℕ) (i : Interval) → i.from ≤ p → is_live p i ≡ nat_lt p i.last_use
is_live_of_begun p i f = ap (λ b. b && nat_lt p i.last_use) (le-leb i.from p f)

-- ---- the greatest overlap

fold-start : (all xs : List Interval) (a : ℕ) → a ≤ fold (greater_overlap all) a xs
fold-start all [] a = omega arith
fold-start all (x ∷ xs) a = let h = fold-start all xs (max a (overlap all x.from)) in let l = le-max_left a (overlap all x.from) in omega (arith, h, l)

pub need-at : (all before : List Interval) (x : Interval) (rest : List Interval) → all ≡ before ++ x ∷ rest → overlap all x.from ≤ need_of all
need-at all before x rest e =
    let p : fold (greater_overlap all) 0 all ≡ fold (greater_overlap all) (fold (greater_overlap all) 0 before) (x ∷ rest) = ap (fold (greater_overlap all) 0) e ∙ fold-append (greater_overlap all) 0 before (x ∷ rest) in
    let h = fold-start all rest (max (fold (greater_overlap all) 0 before) (overlap all x.from)) in
    let r = le-max_right (fold (greater_overlap all) 0 before) (overlap all x.from) in
    omega (arith, p, h, r)

fold-most : (all xs : List Interval) (n a : ℕ) → a ≤ n → ((p : ℕ) → overlap all p ≤ n) → fold (greater_overlap all) a xs ≤ n
fold-most all [] n a h f = h
fold-most all (x ∷ xs) n a h f = fold-most all xs n (max a (overlap all x.from)) (max-le h (f x.from)) f

-- what bounds each overlap bounds the need
pub need-most : (all : List Interval) (n : ℕ) → ((p : ℕ) → overlap all p ≤ n) → need_of all ≤ n
need-most all n f = fold-most all all n 0 (omega arith) f

-- ---- no point has more

pub overlap-cons : (x : Interval) (xs : List Interval) (p : ℕ) → overlap (x ∷ xs) p ≡ cond (is_live p x) 1 0 + overlap xs p
overlap-cons x xs p = sum_by-cons (λ i. cond (is_live p i) 1 0) x xs

pub overlap-push : (xs : List Interval) (x : Interval) (p : ℕ) → overlap (xs ++ x ∷ []) p ≡ overlap xs p + cond (is_live p x) 1 0
overlap-push xs x p = sum_by_push (λ i. cond (is_live p i) 1 0) xs x

pub overlap-append : (xs ys : List Interval) (p : ℕ) → overlap (xs ++ ys) p ≡ overlap xs p + overlap ys p
overlap-append xs ys p = sum_by-append (λ i. cond (is_live p i) 1 0) xs ys

counts : (p : ℕ) (i : Interval) (b : Bool) → is_live p i ≡ b → one (is_live p i) ≡ one b
counts p i b e = ap one e

-- no interval is live at a point, or one of those that are is the last to begin: from there on no fewer are live
record Last (xs : List Interval) (p : ℕ) : Type 0 where
  before : List Interval
  x : Interval
  rest : List Interval
  is : xs ≡ before ++ x ∷ rest
  by : x.from ≤ p
  more : (q : ℕ) → x.from ≤ q → q ≤ p → overlap xs p ≤ overlap xs q

last_alone : (y : Interval) (xs : List Interval) (p : ℕ) (b : Bool) → is_live p y ≡ b → overlap xs p ≡ 0 → (overlap (y ∷ xs) p ≡ 0) ⊎ Last (y ∷ xs) p
last_alone y xs p true e none = inr record {
  before = [];
  x = y;
  rest = xs;
  is = refl;
  by = live-from p y e;
  more = λ q f le.
      let u = live-last_use p y e in
      let a = overlap-cons y xs p in
      let b = counts p y true e in
      let c = overlap-cons y xs q in
      let d = counts q y true (live q y f (omega (arith, u))) in
      omega (arith, a, b, c, d, none);
}
last_alone y xs p false e none = inl (let a = overlap-cons y xs p in let b = counts p y false e in omega (arith, a, b, none))

last_more : (y : Interval) (xs : List Interval) (p : ℕ) (b : Bool) → is_live p y ≡ b → Last xs p → Last (y ∷ xs) p
last_more y xs p false e l = record {
  before = y ∷ l.before;
  x = l.x;
  rest = l.rest;
  is = ap (λ t. y ∷ t) l.is;
  by = l.by;
  more = λ q f le.
      let a = overlap-cons y xs p in
      let b = counts p y false e in
      let c = overlap-cons y xs q in
      let m = l.more q f le in
      omega (arith, a, b, c, m);
}
last_more y xs p true e l = ⊎_elim
    (λ (h : y.from < l.x.from). record {
      before = y ∷ l.before;
      x = l.x;
      rest = l.rest;
      is = ap (λ t. y ∷ t) l.is;
      by = l.by;
      more = λ q f le. kept q (omega (arith, f, h)) f le;
    })
    (λ (h : l.x.from ≤ y.from). record {
      before = [];
      x = y;
      rest = xs;
      is = refl;
      by = live-from p y e;
      more = λ q f le. kept q f (omega (arith, f, h)) le;
    })
    (cases_lt y.from l.x.from)
  where
    kept : (q : ℕ) → y.from ≤ q → l.x.from ≤ q → q ≤ p → overlap (y ∷ xs) p ≤ overlap (y ∷ xs) q
    kept q f g le =
        let u = live-last_use p y e in
        let a = overlap-cons y xs p in
        let b = counts p y true e in
        let c = overlap-cons y xs q in
        let d = counts q y true (live q y f (omega (arith, u, le))) in
        let m = l.more q g le in
        omega (arith, a, b, c, d, m)

last : (xs : List Interval) (p : ℕ) → (overlap xs p ≡ 0) ⊎ Last xs p
last [] p = inl refl
last (y ∷ xs) p = ⊎_elim (λ (none : overlap xs p ≡ 0). last_alone y xs p (is_live p y) refl none) (λ (l : Last xs p). inr (last_more y xs p (is_live p y) refl l)) (last xs p)

-- no point has more live intervals than are needed
pub overlap-need : (xs : List Interval) (p : ℕ) → overlap xs p ≤ need_of xs
overlap-need xs p = ⊎_elim
    (λ (none : overlap xs p ≡ 0). omega (arith, none))
    (λ (l : Last xs p). let m = l.more l.x.from (omega arith) l.by in let n = need-at xs l.before l.x l.rest l.is in omega (arith, m, n))
    (last xs p)
