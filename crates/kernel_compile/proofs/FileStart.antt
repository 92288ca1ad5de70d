-- A file of words at the start of a run: the words stand in memory, the pages are a memory, and the arguments are in X0 on.
use Rattle.std.proofs.Common.{◌≡◌, ℕ, zero, suc, ◌+◌, ◌-◌, ◌*◌, ◌/◌, ◌%◌, ◌^◌, ◌<◌, ◌≤◌, Bool, true, List, [], ◌∷◌, ◌++◌, length, get_or, replicate, refl, ap, ◌∙◌, arith, length-append}
use Rattle.std.specs.Prelude.{All, ◌&&◌, nat_lt, slice_index}
use Rattle.std.specs.Int.{to_le_bytes, w32, w64}
use Rattle.std.proofs.Math.Nat.{mod-eq_of_lt}
use Rattle.std.proofs.lemmas.Bool.{lt-ltb, ltb-true, and_from, and_parts}
use Rattle.std.proofs.lemmas.List.{length-replicate}
use Rattle.std.proofs.lemmas.List.Elements.{All-nil, All-cons}
use Rattle.std.proofs.lemmas.Option.{slice_get_within}
use Rattle.guest_types.specs.EarlyLoads.{StopList}
use Rattle.guest_types.specs.Memory.{Memory, IsMemory, DoNotMeet, merged, fetched}
use Rattle.guest_types.proofs.Merges.{IsMemory-merged}
use Rattle.machine_model.specs.Machine.{State, x_at}
use Rattle.machine_model.specs.Run.{start_of, free_start}
use Rattle.machine_model.specs.Written.{file_of, word_bytes, code_base, whole, image_of_words}
use Rattle.machine_model.proofs.WrittenFetch.{fetch_beside}
use Rattle.elf_image.specs.Loadable.{IsLoadable}
use Rattle.elf_image.proofs.Memories.{is_memory}
use Rattle.label_fix.specs.Finished.{StandAt}

-- ---- bytes

abbrev are_bytes : List ℕ → Bool
are_bytes [] = true
are_bytes (b ∷ bs) = nat_lt b 256 && are_bytes bs

byte_below : (bs : List ℕ) (i : ℕ) → are_bytes bs ≡ true → slice_index bs i < 256
byte_below [] i h = omega arith
byte_below (b ∷ bs) zero h = ltb-true b 256 (and_parts _ _ h).0
byte_below (b ∷ bs) (suc i) h = byte_below bs i (and_parts _ _ h).1

bytes-append : (bs cs : List ℕ) → are_bytes bs ≡ true → are_bytes cs ≡ true → are_bytes (bs ++ cs) ≡ true
bytes-append [] cs h k = k
bytes-append (b ∷ bs) cs h k = let p = and_parts _ _ h in and_from _ _ p.0 (bytes-append bs cs p.1 k)

is_byte : (n : ℕ) → nat_lt (n % 256) 256 ≡ true
is_byte n = lt-ltb (n % 256) 256 (omega arith)

bytes_32 : (n : ℕ) → are_bytes (to_le_bytes w32 n) ≡ true
bytes_32 n = and_from _ _ (is_byte n) (and_from _ _ (is_byte (n / 256)) (and_from _ _ (is_byte (n / 65536)) (and_from _ _ (is_byte (n / 16777216)) refl)))

bytes_64 : (n : ℕ) → are_bytes (to_le_bytes w64 n) ≡ true
bytes_64 n =
    and_from _ _ (is_byte n) (and_from _ _ (is_byte (n / 256)) (and_from _ _ (is_byte (n / 65536)) (and_from _ _ (is_byte (n / 16777216))
    (and_from _ _ (is_byte (n / 4294967296)) (and_from _ _ (is_byte (n / 1099511627776)) (and_from _ _ (is_byte (n / 281474976710656)) (and_from _ _ (is_byte (n / 72057594037927936)) refl)))))))

word_bytes_below : (words : List ℕ) → are_bytes (word_bytes words) ≡ true
word_bytes_below [] = refl
word_bytes_below (w ∷ words) = bytes-append (to_le_bytes w32 w) (word_bytes words) (bytes_32 w) (word_bytes_below words)

file_bytes : (words : List ℕ) → are_bytes (file_of words) ≡ true
file_bytes words =
    let n = 120 + 4 * length words in
    let tail : are_bytes (0 ∷ 16 ∷ 0 ∷ 0 ∷ 0 ∷ 0 ∷ 0 ∷ 0 ∷ word_bytes words) ≡ true = word_bytes_below words in
    bytes-append (to_le_bytes w64 n) (to_le_bytes w64 n ++ (0 ∷ 16 ∷ 0 ∷ 0 ∷ 0 ∷ 0 ∷ 0 ∷ 0 ∷ word_bytes words)) (bytes_64 n)
    (bytes-append (to_le_bytes w64 n) (0 ∷ 16 ∷ 0 ∷ 0 ∷ 0 ∷ 0 ∷ 0 ∷ 0 ∷ word_bytes words) (bytes_64 n) tail)

-- ---- memory

pub image_memory : (words : List ℕ) → length words ≤ 65536 → IsMemory (image_of_words words).pages
image_memory words few =
    let n = 120 + 4 * length words in
    let loadable : IsLoadable n (whole n) = record { part = omega arith; in_file = omega arith; in_space = omega arith; some = omega arith } in
    is_memory n (file_of words) (whole n ∷ []) (image_of_words words).pages (λ i. byte_below (file_of words) i (file_bytes words)) (All-cons (IsLoadable n) (whole n) [] loadable (All-nil (IsLoadable n))) refl refl

pub start_memory : (words : List ℕ) (pages : Memory) → length words ≤ 65536 → IsMemory pages → DoNotMeet (image_of_words words).pages pages → IsMemory (merged (image_of_words words).pages pages)
start_memory words pages few is apart = IsMemory-merged (image_of_words words).pages pages (image_memory words few) is apart

-- each word stands in its place
pub words_stand : (words : List ℕ) (pages : Memory) → length words ≤ 65536 → All (λ w. w < 2 ^ 32) words → DoNotMeet (image_of_words words).pages pages → StandAt (merged (image_of_words words).pages pages) code_base words
words_stand words pages few small apart k w at =
    let near = slice_get_within words k w at in
    ap (fetched (merged (image_of_words words).pages pages)) (mod-eq_of_lt (let lt : code_base + 4 * k < 2 ^ 64 = omega arith in lt)) ∙ fetch_beside words pages k w few small apart at

-- ---- registers

zeros_at : (n i : ℕ) → ◌≡◌ {A = ℕ} (get_or (replicate n 0) i 0) 0
zeros_at zero i = refl
zeros_at (suc n) zero = refl
zeros_at (suc n) (suc i) = zeros_at n i

padded_at : (args : List ℕ) (n i : ℕ) → get_or (args ++ replicate n 0) i 0 ≡ get_or args i 0
padded_at [] n i = zeros_at n i
padded_at (x ∷ args) n zero = refl
padded_at (x ∷ args) n (suc i) = padded_at args n i

-- the state before the first step
pub record Starts (words : List ℕ) (args : List ℕ) (pages : Memory) (s : State) : Type 0 where
  pub memory : s.memory ≡ merged (image_of_words words).pages pages
  pub pc : s.pc ≡ code_base
  pub sized : length s.x ≡ 31
  pub given : (r : ℕ) → x_at s r ≡ slice_index args r

pub file_starts : (words args : List ℕ) (pages : Memory) (vl : ℕ) (stops : StopList) → length args ≤ 8 → Starts words args pages (free_start (image_of_words words) args pages vl stops)
unfolding free_start start_of
file_starts words args pages vl stops few =
    let zeros : length (replicate (31 - length args) zero) ≡ 31 - length args = length-replicate (31 - length args) zero in
    record {
      memory = refl;
      pc = refl;
      sized = omega (arith, length-append args (replicate (31 - length args) 0), zeros);
      given = padded_at args (31 - length args);
    }
