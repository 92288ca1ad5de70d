-- Texts that are put one after another, and those of ranges and lists.
use Rattle.std.proofs.Common.{◌≡◌, ℕ, zero, suc, ◌+◌, ◌-◌, ◌<◌, ◌≤◌, List, [], ◌∷◌, ◌++◌, take, drop, length, get_or, flat_map, Option, Result, Ok, Err, refl, sym, ap, ◌∙◌, subst, arith}
use Rattle.std.proofs.lemmas.Grind.{flat_map-append}
use Rattle.std.proofs.lemmas.List.{flat_map_more, take_more, take-append-drop}
use Rattle.std.specs.Prelude.{IsErr}
use Rattle.std.specs.List.{range_with_len}
use Rattle.io_edges.specs.declared.sink.Failed.{Failed}
use Rattle.io_edges.specs.Sink.{PutsText}
use Rattle.io_edges.proofs.Puts.{puts_then, puts_cut, put_as}

-- a text, and then another
pub puts_next : (old mid new : Option (List ℕ)) (a b c : ℕ) (x y whole : List ℕ) (result : Result (Unit {0}) Failed) → x ++ y ≡ whole → PutsText {T = Unit {0}} old mid a b x (Ok tt) → PutsText mid new b c y result → PutsText old new a c whole result
puts_next old mid new a b c x y whole result is p q = put_as old new a c (x ++ y) whole result is (puts_then old mid new a b c x y (Ok tt) result refl p q)

-- the output failed among the first texts
pub puts_front : (old new : Option (List ℕ)) (a c : ℕ) (front rest whole : List ℕ) (first result : Result (Unit {0}) Failed) (failed : Failed) → first ≡ Err failed → IsErr result → front ++ rest ≡ whole → PutsText old new a c front first → PutsText old new a c whole result
puts_front old new a c front rest whole first (Ok done) failed is err e p = absurd cc
puts_front old new a c front rest whole first (Err other) failed is err e p =
    let cut : PutsText {T = Unit {0}} old new a c (front ++ rest) (Err failed) = puts_cut old new a c front rest first failed is p in
    let all : PutsText {T = Unit {0}} old new a c whole (Err failed) = subst (λ t. PutsText {T = Unit {0}} old new a c t (Err failed)) e cut in
    record { all = tt; part = all.part; untold = all.untold; cause = record { later = all.cause.later; failed = all.cause.failed } }

-- ---- ranges and lists

range_parts : (a k r n : ℕ) → n ≡ k + r → range_with_len a k ++ range_with_len (a + k) r ≡ range_with_len a n
range_parts a zero r n e =
    let from : a + 0 ≡ a = omega arith in
    let count : r ≡ n = omega (arith, e) in
    ap (λ i. range_with_len i r) from ∙ ap (range_with_len a) count
range_parts a (suc k) r zero e = absurd (omega (arith, e))
range_parts a (suc k) r (suc n) e =
    let from : a + suc k ≡ a + 1 + k = omega arith in
    ap (λ t. a ∷ t) (ap (λ i. range_with_len (a + 1) k ++ range_with_len i r) from ∙ range_parts (a + 1) k r n (omega (arith, e)))

-- the texts of the first numbers of a range, and of the others
pub range_texts : (f : ℕ → List ℕ) (k n : ℕ) → k ≤ n → flat_map f (range_with_len 0 k) ++ flat_map f (range_with_len k (n - k)) ≡ flat_map f (range_with_len 0 n)
range_texts f k n h =
    let from : 0 + k ≡ k = omega arith in
    sym (flat_map-append f (range_with_len 0 k) (range_with_len k (n - k)))
    ∙ ap (flat_map f) (ap (λ i. range_with_len 0 k ++ range_with_len i (n - k)) (sym from) ∙ range_parts 0 k (n - k) n (omega (arith, h)))

-- the texts of the first of a list, and of one more
pub list_more : (f : ℕ → List ℕ) (xs : List ℕ) (j : ℕ) → j < length xs → flat_map f (take j xs) ++ f (get_or xs j 0) ≡ flat_map f (take (j + 1) xs)
list_more f xs j h = flat_map_more f [] (take j xs) (get_or xs j 0) ∙ ap (flat_map f) (sym (take_more xs j 0 h))

-- the texts of the first of a list, and of the others
pub list_texts : (f : ℕ → List ℕ) (xs : List ℕ) (j : ℕ) → flat_map f (take j xs) ++ flat_map f (drop j xs) ≡ flat_map f xs
list_texts f xs j = sym (flat_map-append f (take j xs) (drop j xs)) ∙ ap (flat_map f) (take-append-drop j xs)
