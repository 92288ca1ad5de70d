-- Loads and stores within one page, by the bytes that stand there.
use Rattle.std.proofs.Common.{◌≡◌, ℕ, zero, suc, ◌+◌, ◌*◌, ◌/◌, ◌%◌, ◌^◌, ◌<◌, ◌≤◌, Bool, true, false, cond, List, [], ◌∷◌, ◌++◌, take, drop, length, get_or, set, Option, Some, None, Ok, refl, sym, ap, ap₂, ◌∙◌, arith, append_assoc}
use Rattle.std.specs.Prelude.{nat_eq, nat_le, is_some, option_map, unwrap_or}
use Rattle.std.specs.List.{All}
use Rattle.std.proofs.lemmas.Bool.{cond-true, cond-false, leb-true, and_parts}
use Rattle.std.proofs.lemmas.List.{take_more_set, drop-set-lt, drop-drop, drop_more, take-append-drop}
use Rattle.std.proofs.lemmas.List.Elements.{All-head, All-tail}
use Rattle.guest_types.specs.Memory.{Page, Memory, IsPage, IsMemory, page_at, byte_of, byte_or_zero, number_at, next_address, first_fault, can_read, can_write, may_write, put_byte, put_number, with_byte, stored}
use Rattle.guest_types.specs.Elements.{number_of_bytes, bytes_of}
use Rattle.guest_types.specs.Spans.{in_one_page, has_span, has_span_mut, bytes_or_none, span_of, with_bytes, with_span}
use Rattle.guest_types.proofs.Writes.{All-page_at, IsMemory-put_byte}
use Rattle.guest_types.proofs.Stores.{stored-done}

-- ---- one page, or the next

pub in_one_page-fits : (a n : ℕ) → in_one_page a n ≡ true → (1 ≤ n) × (a % 4096 + n ≤ 4096)
in_one_page-fits a n e =
    let parts = and_parts (nat_le 1 n) (nat_le (a % 4096 + n) 4096) e in
    (leb-true 1 n parts.0, leb-true (a % 4096 + n) 4096 parts.1)

-- a test that looks at the page alone
faults_none : (g : ℕ → Bool) (a n : ℕ) → a < 2 ^ 64 → a % 4096 + n ≤ 4096 → g (a / 4096) ≡ true → first_fault (λ x. g (x / 4096)) a n ≡ None
faults_none g a zero low fits here = refl
faults_none g a (suc zero) low fits here = cond-true _ _ _ here
faults_none g a (suc (suc n)) low fits here =
    let same : next_address a / 4096 ≡ a / 4096 = omega arith in
    cond-true _ _ _ here ∙ faults_none g (next_address a) (suc n) (omega arith) (omega arith) (ap g same ∙ here)

readable : Memory → ℕ → Bool
readable memory n = is_some (page_at memory n)

writable : Memory → ℕ → Bool
writable memory n = may_write (page_at memory n)

pub read_faults-span : (memory : Memory) (a n : ℕ) → a < 2 ^ 64 → has_span memory a n ≡ true → first_fault (can_read memory) a n ≡ None
unfolding readable
read_faults-span memory a n low has =
    let parts = and_parts (in_one_page a n) (can_read memory a) has in
    faults_none (readable memory) a n low (in_one_page-fits a n parts.0).1 parts.1

pub write_faults-span : (memory : Memory) (a n : ℕ) → a < 2 ^ 64 → has_span_mut memory a n ≡ true → first_fault (can_write memory) a n ≡ None
unfolding writable
write_faults-span memory a n low has =
    let parts = and_parts (in_one_page a n) (can_write memory a) has in
    faults_none (writable memory) a n low (in_one_page-fits a n parts.0).1 parts.1

-- ---- reads

first_byte : (memory : Memory) (a : ℕ) (p : Page) → page_at memory (a / 4096) ≡ Some p → byte_or_zero memory a ≡ get_or p.bytes (a % 4096) 0
first_byte memory a p found = ap (λ o. unwrap_or (option_map (λ page. byte_of page a) o) 0) found

number_in_page : (memory : Memory) (a n : ℕ) (p : Page) → a < 2 ^ 64 → a % 4096 + n ≤ 4096 → page_at memory (a / 4096) ≡ Some p → length p.bytes ≡ 4096 → number_at memory a n ≡ number_of_bytes (take n (drop (a % 4096) p.bytes))
number_in_page memory a zero p low fits found whole = refl
number_in_page memory a (suc zero) p low fits found whole =
    ap (λ x. x + 256 * 0) (first_byte memory a p found) ∙ ap (λ l. number_of_bytes (take 1 l)) (sym (drop_more p.bytes (a % 4096) 0 (omega arith)))
number_in_page memory a (suc (suc n)) p low fits found whole =
    let next : next_address a / 4096 ≡ a / 4096 = omega arith in
    let place : next_address a % 4096 ≡ a % 4096 + 1 = omega arith in
    let rest = number_in_page memory (next_address a) (suc n) p (omega arith) (omega arith) (ap (page_at memory) next ∙ found) whole in
    ap₂ (λ x y. x + 256 * y) (first_byte memory a p found) (rest ∙ ap (λ i. number_of_bytes (take (suc n) (drop i p.bytes))) place)
    ∙ ap (λ l. number_of_bytes (take (suc (suc n)) l)) (sym (drop_more p.bytes (a % 4096) 0 (omega arith)))

-- a number in one page is spelled by its bytes
pub number_at-span : (memory : Memory) (a n : ℕ) → IsMemory memory → a < 2 ^ 64 → has_span memory a n ≡ true → number_at memory a n ≡ number_of_bytes (span_of memory a n)
number_at-span memory a n is low has = go (page_at memory (a / 4096)) refl
  where
    go : (o : Option Page) → page_at memory (a / 4096) ≡ o → number_at memory a n ≡ number_of_bytes (span_of memory a n)
    go None found =
        let parts = and_parts (in_one_page a n) (can_read memory a) has in
        let clash : false ≡ true = sym (ap is_some found) ∙ parts.1 in cc
    go (Some p) found =
        let parts = and_parts (in_one_page a n) (can_read memory a) has in
        number_in_page memory a n p low (in_one_page-fits a n parts.0).1 found (All-page_at IsPage memory (a / 4096) p is.pages found).whole
        ∙ ap (λ o. number_of_bytes (take n (drop (a % 4096) (bytes_or_none o)))) (sym found)

-- ---- writes

pub with_span-nil : (memory : Memory) (a : ℕ) → with_span memory a [] ≡ memory
with_span-nil [] a = refl
with_span-nil (p ∷ ps) a = go (nat_eq p.page (a / 4096)) (with_span-nil ps a)
  where
    go : (t : Bool) → with_span ps a [] ≡ ps → cond t (with_bytes p (a % 4096) [] ∷ ps) (p ∷ with_span ps a []) ≡ p ∷ ps
    go true rest = ap (λ l. record { page = p.page; perm = p.perm; bytes = l } ∷ ps) (take-append-drop (a % 4096) p.bytes)
    go false rest = ap (λ l. p ∷ l) rest

bytes_next : (bytes : List ℕ) (i b : ℕ) (ws : List ℕ) → i < length bytes → take (i + 1) (set bytes i b) ++ (ws ++ drop (length ws) (drop (i + 1) (set bytes i b))) ≡ take i bytes ++ ((b ∷ ws) ++ drop (length (b ∷ ws)) (drop i bytes))
bytes_next bytes i b ws inside =
    ap₂ (λ l r. l ++ (ws ++ drop (length ws) r)) (take_more_set bytes i b inside) (drop-set-lt (i + 1) bytes i b (omega arith))
    ∙ append_assoc (take i bytes) (b ∷ []) (ws ++ drop (length ws) (drop (i + 1) bytes))
    ∙ ap (λ r. take i bytes ++ (b ∷ (ws ++ r))) (drop-drop (length ws) (i + 1) bytes ∙ ap (λ j. drop j bytes) (let e : i + 1 + length ws ≡ i + suc (length ws) = omega arith in e) ∙ sym (drop-drop (suc (length ws)) i bytes))

span_next : (memory : Memory) (a b : ℕ) (ws : List ℕ) → All IsPage memory → next_address a / 4096 ≡ a / 4096 → next_address a % 4096 ≡ a % 4096 + 1 → with_span (put_byte memory a b) (next_address a) ws ≡ with_span memory a (b ∷ ws)
span_next [] a b ws each same place = refl
span_next (p ∷ ps) a b ws each same place = go (nat_eq p.page (a / 4096)) refl (span_next ps a b ws (All-tail IsPage p ps each) same place)
  where
    go : (t : Bool) → nat_eq p.page (a / 4096) ≡ t → with_span (put_byte ps a b) (next_address a) ws ≡ with_span ps a (b ∷ ws) → with_span (cond t (with_byte p a b ∷ ps) (p ∷ put_byte ps a b)) (next_address a) ws ≡ cond t (with_bytes p (a % 4096) (b ∷ ws) ∷ ps) (p ∷ with_span ps a (b ∷ ws))
    go true e rest =
        let whole = (All-head IsPage p ps each).whole in
        cond-true _ _ _ (ap (nat_eq p.page) same ∙ e)
        ∙ ap (λ i. with_bytes (with_byte p a b) i ws ∷ ps) place
        ∙ ap (λ l. record { page = p.page; perm = p.perm; bytes = l } ∷ ps) (bytes_next p.bytes (a % 4096) b ws (omega arith))
    go false e rest = cond-false _ _ _ (ap (nat_eq p.page) same ∙ e) ∙ ap (λ l. p ∷ l) rest

byte_next : (bytes : List ℕ) (i b : ℕ) → i < length bytes → set bytes i b ≡ take i bytes ++ ((b ∷ []) ++ drop 1 (drop i bytes))
byte_next bytes i b inside =
    sym (take-append-drop (i + 1) (set bytes i b))
    ∙ ap₂ ◌++◌ (take_more_set bytes i b inside) (drop-set-lt (i + 1) bytes i b (omega arith))
    ∙ append_assoc (take i bytes) (b ∷ []) (drop (i + 1) bytes)
    ∙ ap (λ r. take i bytes ++ (b ∷ r)) (sym (drop-drop 1 i bytes))

-- a byte written is a span of one
pub put_byte-span : (memory : Memory) (a b : ℕ) → All IsPage memory → put_byte memory a b ≡ with_span memory a (b ∷ [])
put_byte-span [] a b each = refl
put_byte-span (p ∷ ps) a b each = go (nat_eq p.page (a / 4096)) (put_byte-span ps a b (All-tail IsPage p ps each))
  where
    go : (t : Bool) → put_byte ps a b ≡ with_span ps a (b ∷ []) → cond t (with_byte p a b ∷ ps) (p ∷ put_byte ps a b) ≡ cond t (with_bytes p (a % 4096) (b ∷ []) ∷ ps) (p ∷ with_span ps a (b ∷ []))
    go true rest =
        let whole = (All-head IsPage p ps each).whole in
        ap (λ l. record { page = p.page; perm = p.perm; bytes = l } ∷ ps) (byte_next p.bytes (a % 4096) b (omega arith))
    go false rest = ap (λ l. p ∷ l) rest

-- a number written in one page replaces its bytes there
pub put_number-span : (memory : Memory) (a n v : ℕ) → IsMemory memory → a < 2 ^ 64 → a % 4096 + n ≤ 4096 → put_number memory a n v ≡ with_span memory a (bytes_of n v)
put_number-span memory a zero v is low fits = sym (with_span-nil memory a)
put_number-span memory a (suc zero) v is low fits = put_byte-span memory a (v % 256) is.pages
put_number-span memory a (suc (suc n)) v is low fits =
    put_number-span (put_byte memory a (v % 256)) (next_address a) (suc n) (v / 256) (IsMemory-put_byte memory a (v % 256) is (omega arith)) (omega arith) (omega arith)
    ∙ span_next memory a (v % 256) (bytes_of (suc n) (v / 256)) is.pages (omega arith) (omega arith)

pub stored-span : (memory : Memory) (a n v : ℕ) → IsMemory memory → a < 2 ^ 64 → has_span_mut memory a n ≡ true → stored memory a n v ≡ Ok (with_span memory a (bytes_of n v))
stored-span memory a n v is low has =
    let parts = and_parts (in_one_page a n) (can_write memory a) has in
    stored-done memory a n v (write_faults-span memory a n low has) ∙ ap Ok (put_number-span memory a n v is low (in_one_page-fits a n parts.0).1)
