-- The object of some words is read as an object of a function with these words.
use Rattle.std.proofs.Common.{◌≡◌, ◌≢◌, ℕ, zero, suc, ◌+◌, ◌*◌, ◌^◌, ◌<◌, ◌≤◌, true, List, [], ◌∷◌, ◌++◌, length, take, drop, refl, sym, ap, ◌∙◌, subst, arith, length-append}
use Rattle.std.specs.Int.{to_le_bytes, w32, w64}
use Rattle.std.proofs.lemmas.Nat.{from_le_bytes-to_le_bytes_8}
use Rattle.std.proofs.lemmas.List.{take_at, drop_at, drop-drop, take_all}
use Rattle.std.proofs.lemmas.Bool.{eqb-false}
use Rattle.machine_model.specs.Load.{le_at}
use Rattle.machine_model.specs.Written.{word_bytes}
use Rattle.object_file.specs.Object.{Section, Symbol, section_from, section_at, symbol_from, bytes_at, IsString, IsInFile, IsObject, e_shoff, e_shnum}
use Rattle.object_file.specs.Written.{object_of}

le8 : (n : ℕ) → n < 2 ^ 64 → le_at (to_le_bytes w64 n) 0 8 ≡ n
le8 n h = let e = from_le_bytes-to_le_bytes_8 n h in omega (arith, e)

length_bytes : (words : List ℕ) → length (word_bytes words) ≡ 4 * length words
length_bytes [] = refl
length_bytes (w ∷ words) = omega (arith, length-append (to_le_bytes w32 w) (word_bytes words), length_bytes words)

-- a fact on each of six numbers
each : (P : ℕ → Type 0) → P 0 → P 1 → P 2 → P 3 → P 4 → P 5 → (i : ℕ) → i < 6 → P i
each P a b c d e f zero lt = a
each P a b c d e f (suc zero) lt = b
each P a b c d e f (suc (suc zero)) lt = c
each P a b c d e f (suc (suc (suc zero))) lt = d
each P a b c d e f (suc (suc (suc (suc zero)))) lt = e
each P a b c d e f (suc (suc (suc (suc (suc zero))))) lt = f
each P a b c d e f (suc (suc (suc (suc (suc (suc i)))))) lt = absurd (omega (arith, lt))

module _ (name words : List ℕ) (few : length words ≤ 70000) (short : length name < 2 ^ 63) where
  abbrev file : List ℕ
  file = object_of name words

  abbrev names : List ℕ
  names = 0 ∷ 0x24 ∷ 0x78 ∷ 0 ∷ (name ++ 0 ∷ [])

  text_size : le_at file 160 8 ≡ 4 * length words
  text_size = le8 (4 * length words) (omega (arith, few))

  strings_place : le_at file 280 8 ≡ 572 + 4 * length words
  strings_place = le8 (572 + 4 * length words) (omega (arith, few))

  strings_size : le_at file 288 8 ≡ 5 + length name
  strings_size = le8 (5 + length name) (omega (arith, short))

  function_size : le_at file 512 8 ≡ 4 * length words
  function_size = le8 (4 * length words) (omega (arith, few))

  long : length file ≡ 577 + 4 * length words + length name
  long =
      let a = length-append (word_bytes words) names in
      let b = length-append name (0 ∷ []) in
      let c = length_bytes words in
      omega (arith, a, b, c)

  behind : drop 572 file ≡ word_bytes words ++ names
  behind = refl

  text_there : bytes_at file 572 (le_at file 160 8) ≡ word_bytes words
  text_there = ap (λ n. bytes_at file 572 n) text_size ∙ take_at (word_bytes words) names (4 * length words) (length_bytes words)

  -- ---- the names of symbols, behind the words

  at_strings : (j : ℕ) → drop (572 + 4 * length words + j) file ≡ drop j names
  at_strings j =
      let n = 4 * length words in
      let e : 572 + n + j ≡ 572 + (n + j) = omega arith in
      ap (λ k. drop k file) e
      ∙ sym (drop-drop (n + j) 572 file)
      ∙ sym (drop-drop j n (word_bytes words ++ names))
      ∙ ap (drop j) (drop_at (word_bytes words) names n (length_bytes words))

  string_at : (j k : ℕ) → bytes_at file (le_at file 280 8 + j) k ≡ take k (drop j names)
  string_at j k = ap (λ a. take k (drop (a + j) file)) strings_place ∙ ap (take k) (at_strings j)

  mapping_string : IsString file (section_at file 3) 1 (0x24 ∷ 0x78 ∷ [])
  mapping_string = (refl, let e = strings_size in omega (arith, e), string_at 1 3)

  function_string : IsString file (section_at file 3) 4 name
  function_string =
      let whole = length-append name (0 ∷ []) in
      (refl, let e = strings_size in omega (arith, e), string_at 4 (length name + 1) ∙ take_all (length name + 1) (name ++ 0 ∷ []) (omega (arith, whole)))

  -- ---- the whole

  text_inside : IsInFile file (section_at file 1)
  text_inside = let a = text_size in let b = long in omega (arith, a, b)

  strings_inside : IsInFile file (section_at file 3)
  strings_inside = let a = strings_place in let b = strings_size in let c = long in omega (arith, a, b, c)

  fixed_inside : (a b : ℕ) → a + b ≤ 572 → a + b ≤ length file
  fixed_inside a b le = let c = long in omega (arith, c, le)

  abbrev IsUnmoved : ℕ → Type 0
  IsUnmoved i = ((section_at file i).kind ≢ 4) × ((section_at file i).kind ≢ 9)

  pub object_reads : IsObject name words file
  object_reads = record {
    ident = refl;
    type = refl;
    machine = refl;
    version = refl;
    header = refl;
    headers = refl;
    room = let c = long in omega (arith, c);
    in_file = each (λ i. IsInFile file (section_at file i)) (fixed_inside 0 0 (omega arith)) text_inside (fixed_inside 448 72 (omega arith)) strings_inside (fixed_inside 520 49 (omega arith)) (fixed_inside 572 0 (omega arith));
    unmoved = each IsUnmoved (eqb-false 0 4 refl, eqb-false 0 9 refl) (eqb-false 1 4 refl, eqb-false 1 9 refl) (eqb-false 2 4 refl, eqb-false 2 9 refl) (eqb-false 3 4 refl, eqb-false 3 9 refl) (eqb-false 3 4 refl, eqb-false 3 9 refl) (eqb-false 1 4 refl, eqb-false 1 9 refl);
    text = 1;
    text_in = omega arith;
    text_kind = refl;
    text_flags = refl;
    text_align = refl;
    text_bytes = text_there;
    table = 2;
    table_in = omega arith;
    table_kind = refl;
    table_entries = refl;
    table_size = refl;
    table_locals = refl;
    strings_in = omega arith;
    none = refl;
    mapping = 1;
    mapping_is = refl;
    mapping_name = mapping_string;
    function = 4;
    function_is = ap (λ n. record { name = 4; info = 0x12; other = 0; section = 1; value = 0; size = n }) function_size;
    function_name = function_string;
    stack = 5;
    stack_in = omega arith;
    stack_is = (refl, refl);
    names_in = omega arith;
    stack_name = (refl, omega arith, refl);
  }
