-- Runs of bytes at the front of a text.
use Rattle.std.proofs.Common.{◌≡◌, ℕ, suc, ◌+◌, ◌-◌, ◌<◌, ◌≤◌, Bool, true, false, List, [], ◌∷◌, take, drop, length, get_or, refl, sym, ap, ◌∙◌, arith, add-one}
use Rattle.std.specs.Prelude.{IsTrue, All}
use Rattle.std.specs.List.{prefix_len, list_all}
use Rattle.std.specs.Str.{IsAscii}
use Rattle.std.proofs.lemmas.Bool.{cond-false, and_from, and_parts}
use Rattle.std.proofs.lemmas.Bool.Decides.{nat_tests}
use Rattle.std.proofs.lemmas.Str.Ascii.{IsAscii-from_all}
use Rattle.std.proofs.lemmas.List.Sums.{prefix_len-le-length}
use Rattle.std.proofs.lemmas.List.Folds.{length-prefix_len}
use Rattle.std.proofs.lemmas.List.Elements.{All-nil, All-cons}
use Rattle.kernel_tree.specs.Tokens.{is_letter, is_name_byte, is_run, run_piece, begins_hex, literal, number_piece, decimal_from, hex_from}
use Rattle.number_text.specs.Numbers.{is_digit, is_hex_digit, value_of}
use Rattle.kernel_tokens.specs.Fronts.{at_front, at_letter, run_front_of}

pub run_within : {X : Type 0} (p : X → Bool) (xs : List X) → prefix_len p xs ≤ length xs
run_within p xs = prefix_len-le-length p xs

name_byte_low : (b : ℕ) → is_name_byte b ≡ true → b < 128
name_byte_low b h = grind (arith, nat_tests)

letter_low : (b : ℕ) → is_letter b ≡ true → b < 128
letter_low b h = grind (arith, nat_tests)

all_low : (w : List ℕ) → list_all is_name_byte w ≡ true → All (λ b. b < 128) w
all_low [] h = All-nil (λ b. b < 128)
all_low (b ∷ w) h = let p = and_parts (is_name_byte b) (list_all is_name_byte w) h in All-cons (λ b. b < 128) b w (name_byte_low b p.0) (all_low w p.1)

run_low : (w : List ℕ) → is_run w ≡ true → All (λ b. b < 128) w
run_low [] h = All-nil (λ b. b < 128)
run_low (b ∷ w) h = let p = and_parts (is_letter b) (list_all is_name_byte w) h in All-cons (λ b. b < 128) b w (letter_low b p.0) (all_low w p.1)

-- name bytes are ASCII
pub run_ascii : (w : List ℕ) → IsTrue (is_run w) → IsAscii w
run_ascii w h = IsAscii-from_all w (run_low w h)

take-front : (n x : ℕ) (xs : List ℕ) → take (1 + n) (x ∷ xs) ≡ x ∷ take n xs
take-front n x xs = let p : 1 + n ≡ suc n = omega arith in ap (λ k. take k (x ∷ xs)) p

drop-front : (n x : ℕ) (xs : List ℕ) → drop (1 + n) (x ∷ xs) ≡ drop n xs
drop-front n x xs = let p : 1 + n ≡ suc n = omega arith in ap (λ k. drop k (x ∷ xs)) p

front_by : (p : ℕ → Bool) (x : ℕ) (xs : List ℕ) (t : Bool) → p x ≡ t → list_all p (take (prefix_len p xs) xs) ≡ true → list_all p (take (prefix_len p (x ∷ xs)) (x ∷ xs)) ≡ true
front_by p x xs true e h =
    let a : take (prefix_len p (x ∷ xs)) (x ∷ xs) ≡ x ∷ take (prefix_len p xs) xs = rw e (take-front (prefix_len p xs) x xs) in
    let b : list_all p (x ∷ take (prefix_len p xs) xs) ≡ true = rw e h in
    ap (list_all p) a ∙ b
front_by p x xs false e h = rw e refl

pub front_all : (p : ℕ → Bool) (xs : List ℕ) → list_all p (take (prefix_len p xs) xs) ≡ true
front_all p [] = refl
front_all p (x ∷ xs) = front_by p x xs (p x) refl (front_all p xs)

-- the run at the front of a text that begins with a letter
pub run_is : (text : List ℕ) → IsTrue (at_letter text) → IsTrue (is_run (take (1 + prefix_len is_name_byte (drop 1 text)) text))
run_is [] h = absurd cc
run_is (b ∷ rest) h = ap is_run (take-front (prefix_len is_name_byte rest) b rest) ∙ and_from (is_letter b) (list_all is_name_byte (take (prefix_len is_name_byte rest) rest)) h (front_all is_name_byte rest)

pub run_at : (text : List ℕ) → 0 < length text → run_piece (take (1 + prefix_len is_name_byte (drop 1 text)) text) (drop (1 + prefix_len is_name_byte (drop 1 text)) text) (length (take (1 + prefix_len is_name_byte (drop 1 text)) text) - 1) ≡ at_front run_front_of text
run_at [] h = absurd (omega arith)
run_at (b ∷ rest) h =
    let k = prefix_len is_name_byte rest in
    let e : suc (length (take k rest)) - 1 ≡ k = omega (arith, length-prefix_len is_name_byte rest) in
    rw (take-front k b rest, drop-front k b rest, e) refl

-- the decimal number at the front of a text
pub decimal_at : (text : List ℕ) (k : ℕ) → 0 < length text → begins_hex (get_or text 0 0) (drop 1 text) ≡ false → k ≡ prefix_len is_digit (drop 1 text) → literal (value_of 10 (take (k + 1) text)) k ≡ at_front number_piece text
decimal_at [] k h f e = absurd (omega arith)
decimal_at (b ∷ rest) k h f e =
    let t : take (k + 1) (b ∷ rest) ≡ b ∷ take k rest = rw add-one refl in
    ap (λ (l : List ℕ). literal (value_of 10 l) k) t ∙ ap (decimal_from b rest) e ∙ sym (cond-false (begins_hex b rest) (hex_from (drop 1 rest) (prefix_len is_hex_digit (drop 1 rest))) (decimal_from b rest (prefix_len is_digit rest)) f)
