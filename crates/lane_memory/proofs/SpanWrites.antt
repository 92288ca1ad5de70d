-- Elements written one after another within one page.
use Rattle.std.proofs.Common.{◌≡◌, ℕ, zero, suc, ◌+◌, ◌*◌, ◌/◌, ◌%◌, ◌^◌, ◌<◌, ◌≤◌, Bool, true, false, cond, List, [], ◌∷◌, ◌++◌, length, take, drop, Option, Some, None, Result, Ok, Err, ◌&&◌, refl, sym, ap, ap₂, ◌∙◌, subst, arith, append_assoc}
use Rattle.std.specs.Prelude.{nat_eq, option_map}
use Rattle.std.specs.List.{All}
use Rattle.std.proofs.lemmas.Bool.{cond-true, cond-false, le-leb}
use Rattle.std.proofs.lemmas.List.{drop-drop, drop-take, take-take, take-append-drop, take_at, append-nil, nil_from_length, length-take-le, length-drop, length-append}
use Rattle.std.proofs.lemmas.List.Elements.{All-head, All-tail}
use Rattle.std.proofs.Math.Seq.{take-append-add, drop-append-add}
use Rattle.std.proofs.Math.Nat.{mul-suc}
use lib.Lanes.{chunk}
use Rattle.guest_types.specs.declared.memory.AccessFault.{AccessFault}
use Rattle.guest_types.specs.Memory.{Page, Memory, IsPage, IsMemory, page_at, can_write, may_write, stored}
use Rattle.guest_types.specs.Elements.{bytes_of}
use Rattle.guest_types.specs.Spans.{has_span_mut, bytes_or_none, span_of, with_bytes, with_span}
use Rattle.guest_types.specs.LaneMemory.{StoredLanes, AllStored, StoreFault, store_on, store_lanes}
use Rattle.guest_types.proofs.SpanLaws.{with_span-nil, stored-span}
use Rattle.guest_types.proofs.Stores.{IsMemory-stored, can_write-stored}
use Rattle.guest_types.proofs.Writes.{All-page_at}
use Rattle.guest_types.proofs.Numbers.{length-bytes_of}

-- ---- bytes of a page replaced, and more after them

abbrev put : ℕ → List ℕ → List ℕ → List ℕ
put o xs b = take o b ++ (xs ++ drop (length xs) (drop o b))

put-front : (o : ℕ) (xs b : List ℕ) → o ≤ length b → take (o + length xs) (put o xs b) ≡ take o b ++ xs
put-front o xs b l =
    let tail = drop (length xs) (drop o b) in
    ap (λ n. take (n + length xs) (put o xs b)) (sym (length-take-le o b l))
    ∙ take-append-add (take o b) (xs ++ tail) (length xs) ∙ ap (λ l. take o b ++ l) (take_at xs tail (length xs) refl)

put-back : (o d : ℕ) (xs b : List ℕ) → o ≤ length b → drop (o + (length xs + d)) (put o xs b) ≡ drop d (drop (length xs) (drop o b))
put-back o d xs b l =
    let tail = drop (length xs) (drop o b) in
    ap (λ n. drop (n + (length xs + d)) (put o xs b)) (sym (length-take-le o b l))
    ∙ drop-append-add (take o b) (xs ++ tail) (length xs + d) ∙ drop-append-add xs tail d

put-put : (o : ℕ) (xs ys b : List ℕ) → o ≤ length b → put (o + length xs) ys (put o xs b) ≡ put o (xs ++ ys) b
put-put o xs ys b l =
    let tail = drop (length xs) (drop o b) in
    let back : drop (o + length xs) (put o xs b) ≡ tail = ap (λ n. drop (o + n) (put o xs b)) (let q : length xs ≡ length xs + 0 = omega arith in q) ∙ put-back o 0 xs b l in
    ap₂ (λ f t. f ++ (ys ++ drop (length ys) t)) (put-front o xs b l) back
    ∙ append_assoc (take o b) xs (ys ++ drop (length ys) tail)
    ∙ ap (λ r. take o b ++ r) (sym (append_assoc xs ys (drop (length ys) tail)))
    ∙ ap (λ r. take o b ++ ((xs ++ ys) ++ r)) (drop-drop (length ys) (length xs) (drop o b) ∙ ap (λ n. drop n (drop o b)) (sym (length-append xs ys)))

-- bytes written, and more after them in the same page
pub with_span-append : (memory : Memory) (a k : ℕ) (xs ys : List ℕ) → All IsPage memory → length xs ≡ k → (a + k) / 4096 ≡ a / 4096 → (a + k) % 4096 ≡ a % 4096 + k → with_span (with_span memory a xs) (a + k) ys ≡ with_span memory a (xs ++ ys)
with_span-append [] a k xs ys each size same place = refl
with_span-append (p ∷ ps) a k xs ys each size same place = go (nat_eq p.page (a / 4096)) refl (with_span-append ps a k xs ys (All-tail IsPage p ps each) size same place)
  where
    go : (t : Bool) → nat_eq p.page (a / 4096) ≡ t → with_span (with_span ps a xs) (a + k) ys ≡ with_span ps a (xs ++ ys) → with_span (cond t (with_bytes p (a % 4096) xs ∷ ps) (p ∷ with_span ps a xs)) (a + k) ys ≡ cond t (with_bytes p (a % 4096) (xs ++ ys) ∷ ps) (p ∷ with_span ps a (xs ++ ys))
    go true e rest =
        let whole = (All-head IsPage p ps each).whole in
        cond-true _ _ _ (ap (nat_eq p.page) same ∙ e)
        ∙ ap (λ i. with_bytes (with_bytes p (a % 4096) xs) i ys ∷ ps) (place ∙ ap (λ n. a % 4096 + n) (sym size))
        ∙ ap (λ l. record { page = p.page; perm = p.perm; bytes = l } ∷ ps) (put-put (a % 4096) xs ys p.bytes (omega arith))
    go false e rest = cond-false _ _ _ (ap (nat_eq p.page) same ∙ e) ∙ ap (λ l. p ∷ l) rest

page_at-with_span : (memory : Memory) (a : ℕ) (xs : List ℕ) → page_at (with_span memory a xs) (a / 4096) ≡ option_map (λ (p : Page). with_bytes p (a % 4096) xs) (page_at memory (a / 4096))
page_at-with_span [] a xs = refl
page_at-with_span (p ∷ ps) a xs = go (nat_eq p.page (a / 4096)) refl (page_at-with_span ps a xs)
  where
    go : (t : Bool) → nat_eq p.page (a / 4096) ≡ t → page_at (with_span ps a xs) (a / 4096) ≡ option_map (λ (p : Page). with_bytes p (a % 4096) xs) (page_at ps (a / 4096)) → page_at (cond t (with_bytes p (a % 4096) xs ∷ ps) (p ∷ with_span ps a xs)) (a / 4096) ≡ option_map (λ (p : Page). with_bytes p (a % 4096) xs) (cond t (Some p) (page_at ps (a / 4096)))
    go true e rest = cond-true _ _ _ e
    go false e rest = cond-false _ _ _ e ∙ rest

-- what stands after bytes that were written
pub span_of-following : (memory : Memory) (a k len : ℕ) (xs : List ℕ) → IsMemory memory → can_write memory a ≡ true → length xs ≡ k → (a + k) / 4096 ≡ a / 4096 → (a + k) % 4096 ≡ a % 4096 + k → span_of (with_span memory a xs) (a + k) len ≡ drop k (span_of memory a (k + len))
span_of-following memory a k len xs is writable size same place = go (page_at memory (a / 4096)) refl
  where
    go : (o : Option Page) → page_at memory (a / 4096) ≡ o → span_of (with_span memory a xs) (a + k) len ≡ drop k (span_of memory a (k + len))
    go None none = let clash : false ≡ true = sym (ap may_write none) ∙ writable in cc
    go (Some p) found =
        let whole = (All-page_at IsPage memory (a / 4096) p is.pages found).whole in
        let o = a % 4096 in
        ap₂ (λ n i. take len (drop i (bytes_or_none (page_at (with_span memory a xs) n)))) same (place ∙ (let q : o + k ≡ o + (length xs + 0) = omega arith in q))
        ∙ ap (λ q. take len (drop (o + (length xs + 0)) (bytes_or_none q))) (page_at-with_span memory a xs ∙ ap (option_map (λ (p : Page). with_bytes p o xs)) found)
        ∙ ap (take len) (put-back o 0 xs p.bytes (omega arith) ∙ ap (λ n. drop n (drop o p.bytes)) size)
        ∙ sym (ap (λ q. drop k (take (k + len) (drop o (bytes_or_none q)))) found ∙ drop-take k len (drop o p.bytes))

same_bytes : (o k : ℕ) (b : List ℕ) → put o (take k (drop o b)) b ≡ b
same_bytes o k b =
    let l = drop o b in
    ap (λ r. take o b ++ r) (cut k l) ∙ take-append-drop o b
  where
    cut : (k : ℕ) (l : List ℕ) → take k l ++ drop (length (take k l)) l ≡ l
    cut zero l = refl
    cut (suc k) [] = refl
    cut (suc k) (x ∷ l) = ap (λ r. x ∷ r) (cut k l)

-- bytes that stand there already change nothing
pub with_span-own : (memory : Memory) (a k : ℕ) → with_span memory a (take k (drop (a % 4096) (bytes_or_none (page_at memory (a / 4096))))) ≡ memory
with_span-own [] a k = refl
with_span-own (p ∷ ps) a k = go (nat_eq p.page (a / 4096)) refl (with_span-own ps a k)
  where
    go : (t : Bool) → nat_eq p.page (a / 4096) ≡ t → with_span ps a (take k (drop (a % 4096) (bytes_or_none (page_at ps (a / 4096))))) ≡ ps
        → let xs = take k (drop (a % 4096) (bytes_or_none (cond t (Some p) (page_at ps (a / 4096))))) in cond t (with_bytes p (a % 4096) xs ∷ ps) (p ∷ with_span ps a xs) ≡ p ∷ ps
    go true e rest = ap (λ l. record { page = p.page; perm = p.perm; bytes = l } ∷ ps) (same_bytes (a % 4096) k p.bytes)
    go false e rest = ap (λ l. p ∷ l) rest

-- ---- elements one after another

-- bytes in which the active of n elements are replaced
abbrev pub merged : (ℕ → Bool) → (ℕ → ℕ) → (k n e : ℕ) → List ℕ → List ℕ
merged on v k zero e old = []
merged on v k (suc n) e old = cond (on e) (bytes_of k (v e)) (take k old) ++ merged on v k n (e + 1) (drop k old)

pub merged-is : (on : ℕ → Bool) (v : ℕ → ℕ) (k n e : ℕ) (old new : List ℕ) → length new ≡ k * n → ((i : ℕ) → i < n → chunk (k * i) k new ≡ cond (on (e + i)) (bytes_of k (v (e + i))) (chunk (k * i) k old)) → new ≡ merged on v k n e old
merged-is on v k zero e old new long each = nil_from_length new (omega arith)
merged-is on v k (suc n) e old new long each =
    let here : take k new ≡ cond (on e) (bytes_of k (v e)) (take k old) =
    ap (λ j. take k (drop j new)) (let q : 0 ≡ k * 0 = omega arith in q) ∙ each 0 (omega arith)
    ∙ ap₂ (λ j i. cond (on i) (bytes_of k (v i)) (take k (drop j old))) (let q : k * 0 ≡ 0 = omega arith in q) (let q : e + 0 ≡ e = omega arith in q) in
    let up : (i : ℕ) (l : List ℕ) → chunk (k * i) k (drop k l) ≡ chunk (k * suc i) k l = λ i l.
    ap (take k) (drop-drop (k * i) k l ∙ ap (λ j. drop j l) (let q : k + k * i ≡ k * suc i = omega (arith, mul-suc k i) in q)) in
    sym (take-append-drop k new)
    ∙ ap₂ ◌++◌ here
    (merged-is on v k n (e + 1) (drop k old) (drop k new) (omega (arith, length-drop k new, mul-suc k n)) (λ i l.
    up i new ∙ each (suc i) (omega arith)
    ∙ ap₂ (λ j c. cond (on j) (bytes_of k (v j)) c) (let q : e + suc i ≡ e + 1 + i = omega arith in q) (sym (up i old))))

-- what stands in the page of an address that may be written
here_of : Memory → ℕ → ℕ → List ℕ
here_of memory a k = take k (drop (a % 4096) (bytes_or_none (page_at memory (a / 4096))))

length-here : (memory : Memory) (a k : ℕ) → IsMemory memory → can_write memory a ≡ true → a % 4096 + k ≤ 4096 → length (here_of memory a k) ≡ k
unfolding here_of
length-here memory a k is writable fits = go (page_at memory (a / 4096)) refl
  where
    go : (o : Option Page) → page_at memory (a / 4096) ≡ o → length (take k (drop (a % 4096) (bytes_or_none (page_at memory (a / 4096))))) ≡ k
    go None none = let clash : false ≡ true = sym (ap may_write none) ∙ writable in cc
    go (Some p) found =
        let whole = (All-page_at IsPage memory (a / 4096) p is.pages found).whole in
        ap (λ o. length (take k (drop (a % 4096) (bytes_or_none o)))) found
        ∙ length-take-le k (drop (a % 4096) p.bytes) (omega (arith, length-drop (a % 4096) p.bytes))

-- a span has its length
pub length-span : (memory : Memory) (a k : ℕ) → IsMemory memory → can_write memory a ≡ true → a % 4096 + k ≤ 4096 → length (span_of memory a k) ≡ k
unfolding here_of
length-span memory a k is writable fits = length-here memory a k is writable fits

-- one element
record One (on : ℕ → Bool) (f v : ℕ → ℕ) (k left e a : ℕ) (memory : Memory) (xs : List ℕ) : Type 0 where
  step : store_lanes on f v k (suc left) e memory ≡ store_lanes on f v k left (e + 1) (with_span memory a xs)
  is : IsMemory (with_span memory a xs)
  writable : (c : ℕ) → can_write (with_span memory a xs) c ≡ can_write memory c
  long : length xs ≡ k

one-stored : (on : ℕ → Bool) (f v : ℕ → ℕ) (k left e a : ℕ) (memory : Memory) (xs : List ℕ) → IsMemory memory → a < 2 ^ 64 → can_write memory a ≡ true → a % 4096 + k ≤ 4096 → 0 < k → f e ≡ a → xs ≡ cond (on e) (bytes_of k (v e)) (here_of memory a k) → One on f v k left e a memory xs
unfolding here_of
one-stored on f v k left e a memory xs is low writable fits some here bytes = go (on e) refl
  where
    has : has_span_mut memory a k ≡ true
    has = ap₂ (λ a b. a && b) (ap₂ (λ a b. a && b) (le-leb 1 k some) (le-leb (a % 4096 + k) 4096 fits)) writable

    go : (t : Bool) → on e ≡ t → One on f v k left e a memory xs
    go true h =
        let is_bytes : xs ≡ bytes_of k (v e) = bytes ∙ cond-true _ _ _ h in
        let write : stored memory (f e) k (v e) ≡ Ok (with_span memory a xs) = ap (λ a. stored memory a k (v e)) here ∙ stored-span memory a k (v e) is low has ∙ ap (λ l. Ok (with_span memory a l)) (sym is_bytes) in
        record {
          step = cond-true _ _ _ h ∙ ap (λ r. store_on r memory (store_lanes on f v k left (e + 1))) write;
          is = IsMemory-stored memory (with_span memory a xs) (f e) k (v e) write is;
          writable = λ c. can_write-stored memory (with_span memory a xs) (f e) k (v e) c write;
          long = ap length is_bytes ∙ length-bytes_of k (v e);
        }
    go false h =
        let is_bytes : xs ≡ here_of memory a k = bytes ∙ cond-false _ _ _ h in
        let same : with_span memory a xs ≡ memory = ap (with_span memory a) is_bytes ∙ own in
        record {
          step = cond-false _ _ _ h ∙ ap (store_lanes on f v k left (e + 1)) (sym same);
          is = subst IsMemory (sym same) is;
          writable = λ c. ap (λ m. can_write m c) same;
          long = ap length is_bytes ∙ length-here memory a k is writable fits;
        }
      where
        own : with_span memory a (here_of memory a k) ≡ memory
        own = with_span-own memory a k

-- the elements are written one by one as their bytes at once
pub stored-merged : (on : ℕ → Bool) (f v : ℕ → ℕ) (k n left e a : ℕ) (memory : Memory) → IsMemory memory → a < 2 ^ 64 → can_write memory a ≡ true → a % 4096 + k * n ≤ 4096 → 0 < k → ((i : ℕ) → i < n → f (e + i) ≡ a + k * i)
    → store_lanes on f v k (n + left) e memory ≡ store_lanes on f v k left (e + n) (with_span memory a (merged on v k n e (span_of memory a (k * n))))
unfolding here_of
stored-merged on f v k zero left e a memory is low writable fits some places =
    ap₂ (λ n i. store_lanes on f v k n i memory) (let q : zero + left ≡ left = omega arith in q) (let q : e ≡ e + zero = omega arith in q)
    ∙ ap (store_lanes on f v k left (e + zero)) (sym (with_span-nil memory a))
stored-merged on f v k (suc zero) left e a memory is low writable fits some places =
    let old = span_of memory a (k * 1) in
    let xs = cond (on e) (bytes_of k (v e)) (take k old) in
    let front : take k old ≡ here_of memory a k = take-take k (k * 1) (drop (a % 4096) (bytes_or_none (page_at memory (a / 4096)))) (omega arith) in
    let here : f e ≡ a = ap f (let q : e ≡ e + 0 = omega arith in q) ∙ places 0 (omega arith) ∙ (let q : a + k * 0 ≡ a = omega arith in q) in
    let one = one-stored on f v k left e a memory xs is low writable (omega arith) some here (ap (cond (on e) (bytes_of k (v e))) front) in
    ap (λ m. store_lanes on f v k m e memory) (let q : suc zero + left ≡ suc left = omega arith in q)
    ∙ one.step ∙ ap (λ l. store_lanes on f v k left (e + 1) (with_span memory a l)) (sym (append-nil xs))
stored-merged on f v k (suc (suc n)) left e a memory is low writable fits some places =
    let rest = suc n in
    let old = span_of memory a (k * suc rest) in
    let xs = cond (on e) (bytes_of k (v e)) (take k old) in
    let m1 = with_span memory a xs in
    let long : k * suc rest ≡ k + k * rest = mul-suc k rest ∙ (let q : k * rest + k ≡ k + k * rest = omega arith in q) in
    let more : k * rest ≡ k * n + k = mul-suc k n in
    let front : take k old ≡ here_of memory a k = take-take k (k * suc rest) (drop (a % 4096) (bytes_or_none (page_at memory (a / 4096)))) (omega arith) in
    let here : f e ≡ a = ap f (let q : e ≡ e + 0 = omega arith in q) ∙ places 0 (omega arith) ∙ (let q : a + k * 0 ≡ a = omega arith in q) in
    let one = one-stored on f v k (rest + left) e a memory xs is low writable (omega arith) some here (ap (cond (on e) (bytes_of k (v e))) front) in
    let page : (a + k) / 4096 ≡ a / 4096 = omega arith in
    let place : (a + k) % 4096 ≡ a % 4096 + k = omega arith in
    let after : can_write m1 (a + k) ≡ true = one.writable (a + k) ∙ ap (λ n. may_write (page_at memory n)) page ∙ writable in
    let following : span_of m1 (a + k) (k * rest) ≡ drop k old = span_of-following memory a k (k * rest) xs is writable one.long page place ∙ ap (λ n. drop k (span_of memory a n)) (sym long) in
    let ys = merged on v k rest (e + 1) (drop k old) in
    ap (λ m. store_lanes on f v k m e memory) (let q : suc (suc n) + left ≡ suc (rest + left) = omega arith in q)
    ∙ one.step
    ∙ stored-merged on f v k (suc n) left (e + 1) (a + k) m1 one.is (omega arith) after (omega arith) some
    (λ i l. ap f (let q : e + 1 + i ≡ e + suc i = omega arith in q) ∙ places (suc i) (omega arith) ∙ (let q : a + k * suc i ≡ a + k + k * i = omega (arith, mul-suc k i) in q))
    ∙ ap₂ (λ i l. store_lanes on f v k left i (with_span m1 (a + k) (merged on v k rest (e + 1) l))) (let q : e + 1 + rest ≡ e + suc rest = omega arith in q) following
    ∙ ap (store_lanes on f v k left (e + suc rest)) (with_span-append memory a k xs ys is.pages one.long page place)

-- ---- elements that are not active

pub store-skip : (on : ℕ → Bool) (f v : ℕ → ℕ) (k d n e : ℕ) (memory : Memory) → ((j : ℕ) → e ≤ j → j < e + d → on j ≡ false) → store_lanes on f v k (d + n) e memory ≡ store_lanes on f v k n (e + d) memory
store-skip on f v k zero n e memory off = ap₂ (λ n e. store_lanes on f v k n e memory) (let q : zero + n ≡ n = omega arith in q) (let q : e ≡ e + zero = omega arith in q)
store-skip on f v k (suc d) n e memory off =
    ap (λ m. store_lanes on f v k m e memory) (let q : suc d + n ≡ suc (d + n) = omega arith in q)
    ∙ cond-false _ _ _ (off e (omega arith) (omega arith))
    ∙ store-skip on f v k d n (e + 1) memory (λ j l u. off j (omega arith) (omega arith))
    ∙ ap (λ e. store_lanes on f v k n e memory) (let q : e + 1 + d ≡ e + suc d = omega arith in q)

same_rest : (r : Result Memory AccessFault) (memory : Memory) (g h : Memory → StoredLanes) → ((m : Memory) → g m ≡ h m) → store_on r memory g ≡ store_on r memory h
same_rest (Ok m) memory g h same = same m
same_rest (Err fault) memory g h same = refl

pub store-tail : (on : ℕ → Bool) (f v : ℕ → ℕ) (k n d e : ℕ) (memory : Memory) → ((j : ℕ) → e + n ≤ j → j < e + n + d → on j ≡ false) → store_lanes on f v k (n + d) e memory ≡ store_lanes on f v k n e memory
store-tail on f v k zero d e memory off =
    ap (λ m. store_lanes on f v k m e memory) (let q : zero + d ≡ d + 0 = omega arith in q)
    ∙ store-skip on f v k d 0 e memory (λ j l u. off j (omega arith) (omega arith))
store-tail on f v k (suc n) d e memory off =
    let rest : (m : Memory) → store_lanes on f v k (n + d) (e + 1) m ≡ store_lanes on f v k n (e + 1) m = λ m. store-tail on f v k n d (e + 1) m (λ j l u. off j (omega arith) (omega arith)) in
    ap (λ m. store_lanes on f v k m e memory) (let q : suc n + d ≡ suc (n + d) = omega arith in q)
    ∙ ap₂ (cond (on e)) (same_rest (stored memory (f e) k (v e)) memory (store_lanes on f v k (n + d) (e + 1)) (store_lanes on f v k n (e + 1)) rest) (rest memory)

-- ---- one element, and those after it

pub store-one_done : (on : ℕ → Bool) (f v : ℕ → ℕ) (k left e : ℕ) (memory m : Memory) → store_lanes on f v k 1 e memory ≡ AllStored m → store_lanes on f v k (suc left) e memory ≡ store_lanes on f v k left (e + 1) m
store-one_done on f v k left e memory m h = go (on e) (stored memory (f e) k (v e)) h
  where
    go : (t : Bool) (r : Result Memory AccessFault) → cond t (store_on r memory (λ m. AllStored m)) (AllStored memory) ≡ AllStored m → cond t (store_on r memory (store_lanes on f v k left (e + 1))) (store_lanes on f v k left (e + 1) memory) ≡ store_lanes on f v k left (e + 1) m
    go true (Ok n) h = ap (store_lanes on f v k left (e + 1)) (let q : n ≡ m = cc in q)
    go true (Err fault) h = cc
    go false r h = ap (store_lanes on f v k left (e + 1)) (let q : memory ≡ m = cc in q)

pub store-one_stop : (on : ℕ → Bool) (f v : ℕ → ℕ) (k left e : ℕ) (memory m : Memory) (fault : AccessFault) → store_lanes on f v k 1 e memory ≡ StoreFault fault m → store_lanes on f v k (suc left) e memory ≡ StoreFault fault m
store-one_stop on f v k left e memory m fault h = go (on e) (stored memory (f e) k (v e)) h
  where
    go : (t : Bool) (r : Result Memory AccessFault) → cond t (store_on r memory (λ m. AllStored m)) (AllStored memory) ≡ StoreFault fault m → cond t (store_on r memory (store_lanes on f v k left (e + 1))) (store_lanes on f v k left (e + 1) memory) ≡ StoreFault fault m
    go true (Ok n) h = cc
    go true (Err other) h = h
    go false r h = cc
