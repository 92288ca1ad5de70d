-- The words of a loaded file are fetched from its image.
use Rattle.std.proofs.Common.{◌≡◌, ℕ, zero, suc, ◌+◌, ◌-◌, ◌*◌, ◌/◌, ◌%◌, ◌^◌, ◌<◌, ◌≤◌, Bool, true, false, List, [], ◌∷◌, ◌++◌, length, get_or, Some, None, refl, sym, ap, ◌∙◌, subst, arith, get_or-drop, ⊎_elim}
use Rattle.std.specs.Prelude.{slice_get, nat_eq, nat_lt, nat_le, option_map, option_and_then, unwrap_or, if◌then◌else◌, All}
use Rattle.std.specs.Int.{to_le_bytes, byte_at as byte_of_number, w32}
use Rattle.std.proofs.lemmas.Nat.{from_le_bytes-to_le_bytes_4}
use Rattle.std.proofs.lemmas.Bool.{lt-ltb, le-leb, cond-true, cond-false, ne_eqb, eq-eqb, eqb-true, and_from, cases_eq}
use Rattle.std.proofs.lemmas.List.FromFn.{get_or-map-range_with_len}
use Rattle.std.proofs.Math.Nat.{mod-eq_of_lt}
use Rattle.guest_types.specs.Memory.{Page, Memory, page_at, byte_at, byte_of, number_at, byte_or_zero, next_address, fetched, is_executable, merged, DoNotMeet}
use Rattle.std.proofs.lemmas.Option.{slice_get_within, get_or_from_slice_get}
use Rattle.guest_types.proofs.Merges.{page_at-merged_left}
use Rattle.machine_model.specs.Written.{file_of, word_bytes, whole, code_base, image_of_words}
use Rattle.machine_model.specs.Load.{Segment, page_bytes, pages_from, pages_of, first_page, page_count, perm_of, segment_byte}

-- ---- the bytes of words

first_word : (w : ℕ) (rest : List ℕ) (j : ℕ) → j < 4 → get_or (to_le_bytes w32 w ++ rest) j 0 ≡ byte_of_number j w
first_word w rest zero k = refl
first_word w rest (suc zero) k = refl
first_word w rest (suc (suc zero)) k = refl
first_word w rest (suc (suc (suc zero))) k = refl
first_word w rest (suc (suc (suc (suc j)))) k = absurd (omega arith)

get_or_words : (words : List ℕ) (i j : ℕ) → i < length words → j < 4 → get_or (word_bytes words) (4 * i + j) 0 ≡ byte_of_number j (get_or words i 0)
get_or_words [] i j h k = absurd (omega arith)
get_or_words (w ∷ words) zero j h k =
    let e : 4 * 0 + j ≡ j = omega arith in
    ap (λ n. get_or (word_bytes (w ∷ words)) n 0) e ∙ first_word w (word_bytes words) j k
get_or_words (w ∷ words) (suc i) j h k =
    let e : 4 * suc i + j ≡ suc (suc (suc (suc (4 * i + j)))) = omega arith in
    ap (λ n. get_or (word_bytes (w ∷ words)) n 0) e ∙ get_or_words words i j (omega arith) k

file_byte : (words : List ℕ) (i j : ℕ) → i < length words → j < 4 → get_or (file_of words) (120 + (4 * i + j)) 0 ≡ byte_of_number j (get_or words i 0)
file_byte words i j h k = sym (get_or-drop 120 (file_of words) (4 * i + j) 0) ∙ get_or_words words i j h k

-- ---- the pages of a segment

unfoldable pub page_of : List ℕ → Segment → ℕ → Page
page_of bytes segment n = record { page = n; perm = perm_of segment; bytes = page_bytes bytes segment n }

pub page_at_from : (bytes : List ℕ) (segment : Segment) (count m n : ℕ) (more : Memory) → m ≤ n → n < m + count → page_at (pages_from bytes segment m count ++ more) n ≡ Some (page_of bytes segment n)
unfolding page_of
page_at_from bytes segment zero m n more a b = absurd (omega arith)
page_at_from bytes segment (suc count) m n more a b =
    ⊎_elim
    (λ (e : m ≡ n). cond-true _ _ _ (eq-eqb m n e) ∙ ap (λ k. Some (page_of bytes segment k)) e)
    (λ (ne : m ≡ n → ⊥). cond-false _ _ _ (ne_eqb m n ne) ∙ page_at_from bytes segment count (m + 1) n more (omega arith) (omega arith))
    (cases_eq m n)

pub byte_in_page : (bytes : List ℕ) (segment : Segment) (a : ℕ) → byte_of (page_of bytes segment (a / 4096)) a ≡ segment_byte bytes segment a
unfolding page_of page_bytes
byte_in_page bytes segment a =
    get_or-map-range_with_len (λ k. segment_byte bytes segment k) (4096 * (a / 4096)) 4096 (a % 4096) a 0 (omega arith) (omega arith)

byte_at_of : (bytes : List ℕ) (segment : Segment) (a : ℕ) (more : Memory) → first_page segment ≤ a / 4096 → a / 4096 < first_page segment + page_count segment → byte_at (pages_of bytes segment ++ more) a ≡ Some (segment_byte bytes segment a)
unfolding pages_of
byte_at_of bytes segment a more h k =
    ap (option_map (λ page. byte_of page a)) (page_at_from bytes segment (page_count segment) (first_page segment) (a / 4096) more h k)
    ∙ ap Some (byte_in_page bytes segment a)

-- ---- four bytes as a word

number_one : (memory : Memory) (a size b : ℕ) → a + 1 < 2 ^ 64 → byte_at memory a ≡ Some b → number_at memory a (suc size) ≡ b + 256 * number_at memory (a + 1) size
number_one memory a size b h e =
    let m : next_address a ≡ a + 1 = mod-eq_of_lt h in
    ap (λ n. byte_or_zero memory a + 256 * number_at memory n size) m
    ∙ ap (λ o. unwrap_or o 0 + 256 * number_at memory (a + 1) size) e

pub word_at : (memory : Memory) (a w : ℕ) → a + 4 < 2 ^ 64 → w < 2 ^ 32 → ((j : ℕ) → j < 4 → byte_at memory (a + j) ≡ Some (byte_of_number j w)) → number_at memory a 4 ≡ w
word_at memory a w h lt at =
    let e0 : a + 0 ≡ a = omega arith in
    let e1 : a + 2 ≡ a + 1 + 1 = omega arith in
    let e2 : a + 3 ≡ a + 1 + 1 + 1 = omega arith in
    let n0 = number_one memory a 3 (byte_of_number 0 w) (omega arith) (subst (λ x. byte_at memory x ≡ Some (byte_of_number 0 w)) e0 (at 0 (omega arith))) in
    let n1 = number_one memory (a + 1) 2 (byte_of_number 1 w) (omega arith) (at 1 (omega arith)) in
    let n2 = number_one memory (a + 1 + 1) 1 (byte_of_number 2 w) (omega arith) (subst (λ x. byte_at memory x ≡ Some (byte_of_number 2 w)) e1 (at 2 (omega arith))) in
    let n3 = number_one memory (a + 1 + 1 + 1) 0 (byte_of_number 3 w) (omega arith) (subst (λ x. byte_at memory x ≡ Some (byte_of_number 3 w)) e2 (at 3 (omega arith))) in
    let back = from_le_bytes-to_le_bytes_4 w lt in
    omega (arith, n0, n1, n2, n3, back)

-- ---- the fetch

module _ (words : List ℕ) (i : ℕ) (more : Memory) (h : i < length words) (few : length words ≤ 65536) (small : All (λ w. w < 2 ^ 32) words) where
  in_segment : (j : ℕ) → j < 4 → segment_byte (file_of words) (whole (120 + 4 * length words)) (code_base + 4 * i + j) ≡ byte_of_number j (get_or words i 0)
  in_segment j k =
      let a = code_base + 4 * i + j in
      let low : nat_le 0x400000 a ≡ true = le-leb _ _ (omega arith) in
      let high : nat_lt a (0x400000 + (120 + 4 * length words)) ≡ true = lt-ltb _ _ (omega arith) in
      let e : 0 + (a - 0x400000) ≡ 120 + (4 * i + j) = omega arith in
      cond-true _ _ _ (and_from _ _ low high) ∙ ap (λ n. get_or (file_of words) n 0) e ∙ file_byte words i j h k

  byte_at_word : (j : ℕ) → j < 4 → byte_at (pages_of (file_of words) (whole (120 + 4 * length words)) ++ more) (code_base + 4 * i + j) ≡ Some (byte_of_number j (get_or words i 0))
  byte_at_word j k =
      byte_at_of (file_of words) (whole (120 + 4 * length words)) (code_base + 4 * i + j) more (omega arith) (omega arith)
      ∙ ap Some (in_segment j k)

  pub word_page : page_at (pages_of (file_of words) (whole (120 + 4 * length words)) ++ more) ((code_base + 4 * i) / 4096) ≡ Some (page_of (file_of words) (whole (120 + 4 * length words)) ((code_base + 4 * i) / 4096))
  unfolding pages_of
  word_page = page_at_from (file_of words) (whole (120 + 4 * length words)) (page_count (whole (120 + 4 * length words))) 1024 ((code_base + 4 * i) / 4096) more (omega arith) (omega arith)

  pub fetch_word : fetched (pages_of (file_of words) (whole (120 + 4 * length words)) ++ more) (code_base + 4 * i) ≡ Some (get_or words i 0)
  unfolding pages_of page_of
  fetch_word =
      let a = code_base + 4 * i in
      let memory = pages_of (file_of words) (whole (120 + 4 * length words)) ++ more in
      let page = page_at_from (file_of words) (whole (120 + 4 * length words)) (page_count (whole (120 + 4 * length words))) 1024 (a / 4096) more (omega arith) (omega arith) in
      let aligned : nat_eq (a % 4) 0 ≡ true = eq-eqb _ _ (omega arith) in
      let number = word_at memory a (get_or words i 0) (omega arith) (small i 0 h) byte_at_word in
      let f = λ (p : Page). if is_executable p.perm then Some (number_at memory a 4) else None in
      cond-true _ _ _ aligned
      ∙ ap (option_and_then f) page
      ∙ ap Some number

-- ---- the fetch beside other pages

byte_same : (m n : Memory) (a : ℕ) → page_at n (a / 4096) ≡ page_at m (a / 4096) → byte_or_zero n a ≡ byte_or_zero m a
byte_same m n a e = ap (λ o. unwrap_or (option_map (λ page. byte_of page a) o) 0) e

-- numbers that lie in one page are the same where that page is
number_same : (m n : Memory) (page a size : ℕ) → a + size < 2 ^ 64 → page_at n page ≡ page_at m page → ((j : ℕ) → j < size → (a + j) / 4096 ≡ page) → number_at n a size ≡ number_at m a size
number_same m n page a zero h e at = refl
number_same m n page a (suc size) h e at =
    let e0 : a + 0 ≡ a = omega arith in
    let here : a / 4096 ≡ page = subst (λ k. k / 4096 ≡ page) e0 (at 0 (omega arith)) in
    let next : next_address a ≡ a + 1 = mod-eq_of_lt (omega arith) in
    let byte = byte_same m n a (ap (page_at n) here ∙ e ∙ ap (page_at m) (sym here)) in
    let rest = number_same m n page (a + 1) size (omega arith) e (λ j lt. let e1 : a + suc j ≡ a + 1 + j = omega arith in subst (λ k. k / 4096 ≡ page) e1 (at (suc j) (omega arith))) in
    ap (λ b. b + 256 * number_at n (next_address a) size) byte
    ∙ ap (λ k. byte_or_zero m a + 256 * number_at n k size) next
    ∙ ap (λ k. byte_or_zero m a + 256 * k) rest
    ∙ ap (λ k. byte_or_zero m a + 256 * number_at m k size) (sym next)

fetch_in_page : (m n : Memory) (pc : ℕ) (page : Page) → pc + 4 < 2 ^ 64 → page_at m (pc / 4096) ≡ Some page → page_at n (pc / 4096) ≡ Some page → (aligned : Bool) → nat_eq (pc % 4) 0 ≡ aligned → fetched n pc ≡ fetched m pc
fetch_in_page m n pc page h em en true e =
    let four : pc % 4 ≡ 0 = eqb-true _ _ e in
    let same = number_same m n (pc / 4096) pc 4 h (en ∙ sym em) (λ j lt. omega (arith, four)) in
    let f = λ (k : ℕ) (p : Page). if is_executable p.perm then Some k else None in
    cond-true _ _ _ e
    ∙ ap (option_and_then (f (number_at n pc 4))) en
    ∙ ap (λ k. f k page) same
    ∙ sym (ap (option_and_then (f (number_at m pc 4))) em)
    ∙ sym (cond-true _ _ _ e)
fetch_in_page m n pc page h em en false e = cond-false _ _ _ e ∙ sym (cond-false _ _ _ e)

-- a word that is fetched from a page is fetched where that page is
pub fetched_same : (m n : Memory) (pc : ℕ) (page : Page) → pc + 4 < 2 ^ 64 → page_at m (pc / 4096) ≡ Some page → page_at n (pc / 4096) ≡ Some page → fetched n pc ≡ fetched m pc
fetched_same m n pc page h em en = fetch_in_page m n pc page h em en (nat_eq (pc % 4) 0) refl

-- each word of a written file, beside pages that do not meet its own
pub fetch_beside : (words : List ℕ) (pages : Memory) (k w : ℕ) → length words ≤ 65536 → All (λ word. word < 2 ^ 32) words → DoNotMeet (image_of_words words).pages pages → slice_get words k ≡ Some w → fetched (merged (image_of_words words).pages pages) (code_base + 4 * k) ≡ Some w
fetch_beside words pages k w few small apart at =
    let h = slice_get_within words k w at in
    let own = (image_of_words words).pages in
    let page = word_page words k [] h few small in
    let other = page_at-merged_left own pages ((code_base + 4 * k) / 4096) _ apart page in
    fetched_same own (merged own pages) (code_base + 4 * k) _ (omega arith) page other
    ∙ fetch_word words k [] h few small
    ∙ ap Some (get_or_from_slice_get words k w 0 at)
