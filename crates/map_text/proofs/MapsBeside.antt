-- The pages that a map's text gives may stand beside those of the image.
use Rattle.std.proofs.Common.{◌≡◌, ℕ, ◌+◌, ◌-◌, ◌*◌, ◌/◌, ◌%◌, ◌^◌, ◌<◌, ◌≤◌, Bool, true, false, List, [], ◌∷◌, length, Option, Some, None, Result, Ok, Err, All, refl, subst, arith}
use Rattle.std.specs.Prelude.{◌&&◌, ◌||◌, nat_eq, nat_le, nat_lt, bytes_eq, codes, option_and_then, IfSome, IfOk, if◌then◌else◌}
use Rattle.std.proofs.lemmas.Bool.{ltb-false}
use Rattle.std.proofs.lemmas.Bool.Decides.{nat_tests}
use Rattle.std.proofs.lemmas.List.Elements.{All-cons, All-nil, All-head, All-tail}
use Rattle.hex.specs.Hex.{digit_or_error, value_at, pair_value, decode_pairs, decode_of, ◌>>=◌}
use Rattle.hex.specs.declared.error.FromHexError.{FromHexError}
use Rattle.hex.specs.declared.error.FromHexError.TheVariants.{OddLength}
use Rattle.number_text.specs.Numbers.{number_of}
use Rattle.text_parts.specs.Parts.{words_of, lines_of}
use Rattle.guest_types.specs.declared.memory.Perm.{Perm}
use Rattle.guest_types.specs.Memory.{Memory, can_read, put_byte, next_address, merged}
use Rattle.map_text.specs.declared.fault.MapFault.{MapFault}
use Rattle.map_text.specs.declared.fault.MapFault.TheVariants.{Clash, TooManyPages}
use Rattle.map_text.specs.Lines.{MapLine, Blank, Maps, Sets, are_pages, maps_pages, maps_of, perm_of, decoded, are_bytes, sets_bytes, sets_of, line_of_words, map_line_of}
use Rattle.map_text.specs.Mapping.{put_bytes, zero_pages, has_any, with_pages, put_or_fault, after_map_line, after_read, after_line, and_then, after_lines, map_of}
use Rattle.map_text.specs.View.{IsBeside}
use Rattle.map_text.proofs.Puts.{beside-put_byte, beside-nothing}
use Rattle.map_text.proofs.Zeros.{beside-more}

-- ---- what a line says

abbrev AreSmall : List ℕ → Type 0
AreSmall bytes = All (λ b. b < 256) bytes

small_digit : (c i : ℕ) → IfOk (value_at c i) (λ v. v < 16)
small_digit c i = by (nat_le 65 c && nat_le c 70) (nat_le 97 c && nat_le c 102) (nat_le 48 c && nat_le c 57) refl refl refl
  where
    by : (p q r : Bool) → (nat_le 65 c && nat_le c 70) ≡ p → (nat_le 97 c && nat_le c 102) ≡ q → (nat_le 48 c && nat_le c 57) ≡ r
        → IfOk (digit_or_error c i (if p then Some (c - 55) else if q then Some (c - 87) else if r then Some (c - 48) else None)) (λ v. v < 16)
    by true q r e f h = grind (arith, nat_tests, e)
    by false true r e f h = grind (arith, nat_tests, f)
    by false false true e f h = grind (arith, nat_tests, h)
    by false false false e f h = tt

small_pair : (high low i : ℕ) → IfOk (pair_value high low i) (λ b. b < 256)
small_pair high low i = by (value_at high i) (value_at low (i + 1)) (small_digit high i) (small_digit low (i + 1))
  where
    by : (h l : Result ℕ FromHexError) → IfOk h (λ v. v < 16) → IfOk l (λ v. v < 16) → IfOk (h >>= (λ h. l >>= (λ l. Ok (h * 16 + l)))) (λ b. b < 256)
    by (Ok h) (Ok l) a b = omega (arith, a, b)
    by (Ok h) (Err e) a b = tt
    by (Err e) l a b = tt

small_pairs : (i : ℕ) (digits : List ℕ) → IfOk (decode_pairs i digits) AreSmall
unfolding decode_pairs
small_pairs i [] = All-nil (λ b. b < 256)
small_pairs i (digit ∷ []) = tt
small_pairs i (high ∷ low ∷ rest) = by (pair_value high low i) (decode_pairs (i + 2) rest) (small_pair high low i) (small_pairs (i + 2) rest)
  where
    by : (b : Result ℕ FromHexError) (bs : Result (List ℕ) FromHexError) → IfOk b (λ b. b < 256) → IfOk bs AreSmall → IfOk (b >>= (λ b. bs >>= (λ bs. Ok (b ∷ bs)))) AreSmall
    by (Ok b) (Ok bs) a h = All-cons (λ b. b < 256) b bs a h
    by (Ok b) (Err e) a h = tt
    by (Err e) bs a h = tt

small_decoded : (digits : List ℕ) → IfOk (decode_of digits) AreSmall
small_decoded digits = by (nat_eq (length digits % 2) 1)
  where
    by : (odd : Bool) → IfOk (if odd then Err OddLength else decode_pairs 0 digits) AreSmall
    by true = tt
    by false = small_pairs 0 digits

-- whole pages below 2^48, or bytes
abbrev IsGood : MapLine → Type 0
IsGood Blank = Unit {0}
IsGood (Maps address count perm) = are_pages address count ≡ true
IsGood (Sets address bytes) = AreSmall bytes

after_option : {A : Type 0} (o : Option A) (f : A → Option MapLine) → ((a : A) → IfSome (f a) IsGood) → IfSome (option_and_then f o) IsGood
after_option (Some a) f h = h a
after_option None f h = tt

good_pages : (address count : ℕ) (perm : Perm) → IfSome (maps_pages address count perm) IsGood
good_pages address count perm = by (are_pages address count) refl
  where
    by : (b : Bool) → are_pages address count ≡ b → IfSome (if b then Some (Maps address count perm) else None) IsGood
    by true e = e
    by false e = tt

good_maps : (address count perm : List ℕ) → IfSome (maps_of address count perm) IsGood
unfolding maps_of
good_maps address count perm =
    after_option (number_of address) _ (λ a. after_option (number_of count) _ (λ n. after_option (perm_of perm) _ (λ p. good_pages a n p)))

good_bytes : (address : ℕ) (bytes : List ℕ) → AreSmall bytes → IfSome (sets_bytes address bytes) IsGood
good_bytes address bytes small = by (are_bytes address (length bytes))
  where
    by : (b : Bool) → IfSome (if b then Some (Sets address bytes) else None) IsGood
    by true = small
    by false = tt

good_decoded : (address : ℕ) (r : Result (List ℕ) FromHexError) → IfOk r AreSmall → IfSome (option_and_then (sets_bytes address) (decoded r)) IsGood
good_decoded address (Ok bytes) small = good_bytes address bytes small
good_decoded address (Err e) small = tt

good_sets : (address digits : List ℕ) → IfSome (sets_of address digits) IsGood
unfolding sets_of
good_sets address digits = after_option (number_of address) _ (λ a. good_decoded a (decode_of digits) (small_decoded digits))

if_some : (b : Bool) (o : Option MapLine) → IfSome o IsGood → IfSome (if b then o else None) IsGood
if_some true o h = h
if_some false o h = tt

good_words : (words : List (List ℕ)) → IfSome (line_of_words words) IsGood
unfolding line_of_words
good_words [] = tt
good_words (a ∷ []) = tt
good_words (a ∷ b ∷ []) = tt
good_words (name ∷ address ∷ digits ∷ []) = if_some (bytes_eq name (codes "set")) (sets_of address digits) (good_sets address digits)
good_words (name ∷ address ∷ count ∷ perm ∷ []) = if_some (bytes_eq name (codes "map")) (maps_of address count perm) (good_maps address count perm)
good_words (a ∷ b ∷ c ∷ d ∷ e ∷ more) = tt

good_line : (line : List ℕ) → IfSome (map_line_of line) IsGood
unfolding map_line_of
good_line [] = tt
good_line (b ∷ line) = by (nat_eq b 35)
  where
    by : (c : Bool) → IfSome (if c then Some Blank else line_of_words (words_of (b ∷ line))) IsGood
    by true = tt
    by false = good_words (words_of (b ∷ line))

-- ---- the pages after it

module _ (image : Memory) where
  beside_bytes : (pages : Memory) (address : ℕ) (bytes : List ℕ) → AreSmall bytes → IsBeside image pages → IfSome (put_bytes pages address bytes) (IsBeside image)
  unfolding put_bytes
  beside_bytes pages address [] small is = is
  beside_bytes pages address (b ∷ bytes) small is =
      by (can_read pages address) (beside_bytes (put_byte pages address b) (next_address address) bytes (All-tail (λ b. b < 256) b bytes small) (beside-put_byte image pages address b (All-head (λ b. b < 256) b bytes small) is))
    where
      by : (c : Bool) → IfSome (put_bytes (put_byte pages address b) (next_address address) bytes) (IsBeside image) → IfSome (if c then put_bytes (put_byte pages address b) (next_address address) bytes else None) (IsBeside image)
      by true h = h
      by false h = tt

  beside_pages : (pages : Memory) (line : ℕ) (perm : Perm) (first count : ℕ) → first + count ≤ 2 ^ 36 → IsBeside image pages → IfOk (with_pages image line perm first count pages) (IsBeside image)
  unfolding with_pages
  beside_pages pages line perm first count range is = by (has_any pages first count) (has_any image first count) (nat_lt 16384 (length image + length pages + count)) refl refl refl
    where
      by : (p q many : Bool) → has_any pages first count ≡ p → has_any image first count ≡ q → nat_lt 16384 (length image + length pages + count) ≡ many
          → IfOk (if p || q then Err (Clash line) else if many then Err TooManyPages else Ok (merged pages (zero_pages perm first count))) (IsBeside image)
      by true q many e f h = tt
      by false true many e f h = tt
      by false false true e f h = tt
      by false false false e f h = beside-more image pages perm first count range is e f (ltb-false 16384 (length image + length pages + count) h)

  beside_put : (line : ℕ) (o : Option Memory) → IfSome o (IsBeside image) → IfOk (put_or_fault line o) (IsBeside image)
  beside_put line (Some pages) h = h
  beside_put line None h = tt

  in_range : (address count : ℕ) → are_pages address count ≡ true → address / 4096 + count ≤ 2 ^ 36
  in_range address count e = grind (arith, nat_tests, e)

  beside_form : (pages : Memory) (line : ℕ) (form : MapLine) → IsGood form → IsBeside image pages → IfOk (after_map_line image line form pages) (IsBeside image)
  beside_form pages line Blank good is = is
  beside_form pages line (Maps address count perm) good is = beside_pages pages line perm (address / 4096) count (in_range address count good) is
  beside_form pages line (Sets address bytes) good is = beside_put line (put_bytes pages address bytes) (beside_bytes pages address bytes good is)

  beside_read : (pages : Memory) (line : ℕ) (o : Option MapLine) → IfSome o IsGood → IsBeside image pages → IfOk (after_read image line o pages) (IsBeside image)
  beside_read pages line (Some form) good is = beside_form pages line form good is
  beside_read pages line None good is = tt

  beside_line : (pages : Memory) (line : ℕ) (text : List ℕ) → IsBeside image pages → IfOk (after_line image line text pages) (IsBeside image)
  unfolding after_line
  beside_line pages line text is = beside_read pages line (map_line_of text) (good_line text) is

  beside_lines : (line : ℕ) (texts : List (List ℕ)) (pages : Memory) → IsBeside image pages → IfOk (after_lines image line texts pages) (IsBeside image)
  unfolding after_lines
  beside_lines line [] pages is = is
  beside_lines line (text ∷ texts) pages is = by (after_line image line text pages) (λ pages is. beside_lines (line + 1) texts pages is) (beside_line pages line text is)
    where
      by : (r : Result Memory MapFault) → ((pages : Memory) → IsBeside image pages → IfOk (after_lines image (line + 1) texts pages) (IsBeside image)) → IfOk r (IsBeside image) → IfOk (and_then r (after_lines image (line + 1) texts)) (IsBeside image)
      by (Ok pages) more h = more pages h
      by (Err fault) more h = tt

  beside_text : (text : List ℕ) → length image ≤ 16384 → IfOk (map_of text image) (IsBeside image)
  unfolding map_of
  beside_text text few = beside_lines 1 (lines_of text) [] (beside-nothing image few)

pub map_beside : (text : List ℕ) (image pages : Memory) → length image ≤ 16384 → map_of text image ≡ Ok pages → IsBeside image pages
map_beside text image pages few is = subst (λ r. IfOk r (IsBeside image)) is (beside_text image text few)
