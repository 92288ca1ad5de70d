-- What is kept, by its place in the list.
use Rattle.std.proofs.Common.{◌≡◌, ℕ, ◌+◌, ◌-◌, ◌<◌, ◌≤◌, true, false, List, [], ◌∷◌, length, take, drop, get_or, sym, ap, ◌∙◌, arith}
use Rattle.std.specs.Prelude.{nat_le}
use Rattle.std.specs.List.{prefix_len}
use Rattle.std.proofs.lemmas.Bool.{le-leb, lt-leb}
use Rattle.std.proofs.lemmas.List.{length-map, length-take-le, get_or-map, get_or-take}
use Rattle.std.proofs.lemmas.List.Sums.{prefix_len-drop_no, prefix_len-drop_yes, prefix_len-le-length}
use Rattle.machine_model.specs.Debugged.{Past}
use Rattle.debug_history.specs.Kept.{IsLast, counts_of, first_of, last_of, is_reached}

-- the count at a place
pub count_at : (kept : List Past) (n steps : ℕ) (v : Past) → n < length kept → (get_or kept n v).steps ≡ steps → steps ≡ get_or (counts_of kept) n 0
count_at kept n steps v inside is = sym (get_or-map (λ (v : Past). v.steps) kept n v 0 inside ∙ is)

pub last_count : (kept : List Past) (size steps : ℕ) (v : Past) → size ≡ length kept → 1 ≤ length kept → (get_or kept (size - 1) v).steps ≡ steps → steps ≡ last_of (counts_of kept)
last_count kept size steps v all some is =
    count_at kept (size - 1) steps v (omega (arith, all, some)) is
    ∙ ap (λ k. get_or (counts_of kept) (k - 1) 0) (all ∙ sym (length-map kept (λ (v : Past). v.steps)))

-- a search goes on past one that is reached, and ends at one that is not
pub reached_count_of_cons : (target n steps : ℕ) (kept : List Past) (v : Past) → n < length kept → (get_or kept n v).steps ≡ steps → steps ≤ target → n + prefix_len (is_reached target) (drop n kept) ≡ prefix_len (is_reached target) kept → n + 1 + prefix_len (is_reached target) (drop (n + 1) kept) ≡ prefix_len (is_reached target) kept
reached_count_of_cons target n steps kept v inside count few so_far =
    let yes : is_reached target (get_or kept n v) ≡ true = ap (λ k. nat_le k target) count ∙ le-leb steps target few in
    let more = prefix_len-drop_yes (is_reached target) kept n v inside yes in
    omega (arith, more, so_far)

pub reached_count_ends : (target n steps : ℕ) (kept : List Past) (v : Past) → n < length kept → (get_or kept n v).steps ≡ steps → target < steps → n + prefix_len (is_reached target) (drop n kept) ≡ prefix_len (is_reached target) kept → n ≡ prefix_len (is_reached target) kept
reached_count_ends target n steps kept v inside count past so_far =
    let not : is_reached target (get_or kept n v) ≡ false = ap (λ k. nat_le k target) count ∙ lt-leb steps target past in
    let none = prefix_len-drop_no (is_reached target) kept n v inside not in
    omega (arith, none, so_far)

-- ---- back

pub some_reached : (target : ℕ) (kept : List Past) → 1 ≤ length kept → first_of (counts_of kept) ≤ target → 1 ≤ prefix_len (is_reached target) kept
some_reached target [] some below = absurd (omega (arith, some))
some_reached target (v ∷ vs) some below =
    let first : is_reached target v ≡ true = le-leb v.steps target below in
    let more = prefix_len-drop_yes (is_reached target) (v ∷ vs) 0 v (omega arith) first in
    omega (arith, more)

pub reached_bounds : (kept : List Past) (target first n : ℕ) → 1 ≤ length kept → first ≡ first_of (counts_of kept) → first ≤ target → n ≡ prefix_len (is_reached target) kept → (1 ≤ n) × (n ≤ length kept)
reached_bounds kept target first n some start below reached =
    let more = some_reached target kept some (omega (arith, start, below)) in
    let few = prefix_len-le-length (is_reached target) kept in
    (omega (arith, more, reached), omega (arith, few, reached))

-- of those up to a place, the one at that place is the last of them
pub last_left : (kept left : List Past) (n : ℕ) (v : Past) → 1 ≤ n → n ≤ length kept → left ≡ take (n - 1 + 1) kept → ((d : Past) → get_or kept (n - 1) d ≡ v) → IsLast v left
last_left kept left n v some few is at =
    let size : length left ≡ n = ap length is ∙ length-take-le (n - 1 + 1) kept (omega (arith, some, few)) ∙ (let all : n - 1 + 1 ≡ n = omega (arith, some) in all) in (
      omega (arith, size, some),
      λ d.
          ap (λ k. get_or left (k - 1) d) size
          ∙ ap (λ l. get_or l (n - 1) d) is
          ∙ get_or-take (n - 1 + 1) kept (n - 1) d (omega arith)
          ∙ at d,
    )
