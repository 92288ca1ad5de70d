-- The tokens that a text gives are tokens that some text has: names that are no reserved words, and numbers below 2^127.
use Rattle.std.proofs.Common.{◌≡◌, ℕ, zero, suc, ◌+◌, ◌^◌, Bool, true, false, cond, List, [], ◌∷◌, take, drop, Option, Some, None, Result, Ok, Err, refl, subst}
use Rattle.std.specs.Prelude.{◌&&◌, ◌==◌, IsTrue, nat_lt, codes, bytes_eq}
use Rattle.std.specs.List.{prefix_len, list_all}
use Rattle.std.proofs.lemmas.Bool.{and_from}
use Rattle.kernel_tree.specs.declared.ops.Ty.{Ty}
use Rattle.kernel_tree.specs.declared.ops.CompareOp.TheVariants as compare
use Rattle.kernel_tree.specs.declared.ops.UpdateOp.TheVariants as update
use Rattle.kernel_tree.specs.declared.mark.Mark.{Mark}
use Rattle.kernel_tree.specs.declared.mark.Mark.TheVariants as mark
use Rattle.kernel_tree.specs.TextToken.{TextToken, IsNumber, IsCompare, IsUpdate, IsMark}
use Rattle.kernel_tree.specs.Tokens.{Piece, Gap, Token, NoToken, piece, before, by_piece, scan, tokens_of, begins, begins_hex, by_reserved, reserved_type, reserved_mark, run_word, is_run, is_token, are_tokens, is_blank, is_letter, is_name_byte, is_in_line, literal, hex_from, decimal_from, number_piece, pair, single, symbol_of, symbol_piece, run_piece, run_from}
use Rattle.number_text.specs.Numbers.{is_digit, is_hex_digit, value_of}
use Rattle.kernel_tree.proofs.Calls.{same_Ok}
use Rattle.kernel_tokens.proofs.Runs.{front_all}

-- what stands at the front of a text is no token, or one that some text has
abbrev IsSpelled : Piece → Type 0
IsSpelled (Gap k) = Unit {0}
IsSpelled (Token w k) = IsTrue (is_token w)
IsSpelled NoToken = Unit {0}

record Spelled (p : Piece) : Type 0 where
  is : IsSpelled p

spelled_of_either : (t : Bool) (p q : Piece) → Spelled p → Spelled q → Spelled (cond t p q)
spelled_of_either true p q h k = h
spelled_of_either false p q h k = k

token : (w : TextToken) (k : ℕ) → IsTrue (is_token w) → Spelled (Token w k)
token w k h = record { is = h }

gap : (k : ℕ) → Spelled (Gap k)
gap k = record { is = tt }

-- ---- names and reserved words

run_by : (w : List ℕ) (t : Option Ty) (m : Option Mark) → is_run w ≡ true → reserved_type w ≡ t → reserved_mark w ≡ m → IsTrue (is_token (by_reserved t m w))
run_by w (Some t) m r e f = refl
run_by w None (Some m) r e f = refl
run_by w None None r e f = rw (r, e, f) refl

run_spelled : (w after : List ℕ) (k : ℕ) → is_run w ≡ true → Spelled (run_piece w after k)
run_spelled w after k r =
    let last = Token (run_word w) k in
    spelled_of_either (begins 61 after && bytes_eq w (codes "min")) (Token (IsUpdate update.Min) (k + 1)) (cond (begins 61 after && bytes_eq w (codes "max")) (Token (IsUpdate update.Max) (k + 1)) last)
    (token (IsUpdate update.Min) (k + 1) refl)
    (spelled_of_either (begins 61 after && bytes_eq w (codes "max")) (Token (IsUpdate update.Max) (k + 1)) last
    (token (IsUpdate update.Max) (k + 1) refl)
    (token (run_word w) k (run_by w (reserved_type w) (reserved_mark w) r refl refl)))

letter_spelled : (b : ℕ) (rest : List ℕ) (t : Bool) (q : Piece) → is_letter b ≡ t → Spelled q → Spelled (cond t (run_from b rest (prefix_len is_name_byte rest)) q)
letter_spelled b rest true q e h =
    run_spelled (b ∷ take (prefix_len is_name_byte rest) rest) (drop (prefix_len is_name_byte rest) rest) (prefix_len is_name_byte rest)
    (and_from (is_letter b) (list_all is_name_byte (take (prefix_len is_name_byte rest) rest)) e (front_all is_name_byte rest))
letter_spelled b rest false q e h = h

-- ---- numbers

literal_by : (n k : ℕ) (t : Bool) → nat_lt n (2 ^ 127) ≡ t → Spelled (cond t (Token (IsNumber n) k) NoToken)
literal_by n k true e = record { is = e }
literal_by n k false e = record { is = tt }

literal_spelled : (n k : ℕ) → Spelled (literal n k)
literal_spelled n k = literal_by n k (nat_lt n (2 ^ 127)) refl

number_spelled : (b : ℕ) (rest : List ℕ) → Spelled (number_piece b rest)
number_spelled b rest =
    spelled_of_either (begins_hex b rest) (hex_from (drop 1 rest) (prefix_len is_hex_digit (drop 1 rest))) (decimal_from b rest (prefix_len is_digit rest))
    (literal_spelled (value_of 16 (take (prefix_len is_hex_digit (drop 1 rest)) (drop 1 rest))) (prefix_len is_hex_digit (drop 1 rest) + 1))
    (literal_spelled (value_of 10 (b ∷ take (prefix_len is_digit rest) rest)) (prefix_len is_digit rest))

-- ---- symbols

abbrev IsSymbol : Option TextToken → Type 0
IsSymbol (Some w) = IsTrue (is_token w)
IsSymbol None = Unit {0}

record Symbol (o : Option TextToken) : Type 0 where
  is : IsSymbol o

symbol : (t : Bool) (w : TextToken) (o : Option TextToken) → IsTrue (is_token w) → Symbol o → Symbol (cond t (Some w) o)
symbol true w o h k = record { is = h }
symbol false w o h k = k

no_symbol : Symbol None
no_symbol = record { is = tt }

pair_spelled : (b c : ℕ) → Symbol (pair b c)
pair_spelled b c =
    symbol ((b == 45) && (c == 62)) (IsMark mark.Arrow) _ refl
    (symbol ((b == 46) && (c == 46)) (IsMark mark.Range) _ refl
    (symbol ((b == 61) && (c == 61)) (IsCompare compare.Eq) _ refl
    (symbol ((b == 33) && (c == 61)) (IsCompare compare.Ne) _ refl
    (symbol ((b == 60) && (c == 61)) (IsCompare compare.Le) _ refl
    (symbol ((b == 62) && (c == 61)) (IsCompare compare.Ge) _ refl
    (symbol ((b == 60) && (c == 60)) (IsMark mark.ShiftLeft) _ refl
    (symbol ((b == 62) && (c == 62)) (IsMark mark.ShiftRight) _ refl
    (symbol ((b == 38) && (c == 38)) (IsMark mark.AndAnd) _ refl
    (symbol ((b == 124) && (c == 124)) (IsMark mark.OrOr) _ refl
    (symbol ((b == 43) && (c == 61)) (IsUpdate update.Add) _ refl
    (symbol ((b == 38) && (c == 61)) (IsUpdate update.And) _ refl
    (symbol ((b == 124) && (c == 61)) (IsUpdate update.Or) _ refl
    (symbol ((b == 94) && (c == 61)) (IsUpdate update.Xor) _ refl no_symbol)))))))))))))

single_spelled : (b : ℕ) → Symbol (single b)
single_spelled b =
    symbol (b == 40) (IsMark mark.OpenParen) _ refl
    (symbol (b == 41) (IsMark mark.CloseParen) _ refl
    (symbol (b == 91) (IsMark mark.OpenBracket) _ refl
    (symbol (b == 93) (IsMark mark.CloseBracket) _ refl
    (symbol (b == 123) (IsMark mark.OpenBrace) _ refl
    (symbol (b == 125) (IsMark mark.CloseBrace) _ refl
    (symbol (b == 44) (IsMark mark.Comma) _ refl
    (symbol (b == 59) (IsMark mark.Semicolon) _ refl
    (symbol (b == 58) (IsMark mark.Colon) _ refl
    (symbol (b == 61) (IsMark mark.Equals) _ refl
    (symbol (b == 60) (IsCompare compare.Lt) _ refl
    (symbol (b == 62) (IsCompare compare.Gt) _ refl
    (symbol (b == 43) (IsMark mark.Plus) _ refl
    (symbol (b == 45) (IsMark mark.Minus) _ refl
    (symbol (b == 42) (IsMark mark.Star) _ refl
    (symbol (b == 38) (IsMark mark.Ampersand) _ refl
    (symbol (b == 94) (IsMark mark.Caret) _ refl
    (symbol (b == 124) (IsMark mark.Bar) _ refl
    (symbol (b == 126) (IsMark mark.Tilde) _ refl
    (symbol (b == 33) (IsMark mark.Bang) _ refl no_symbol)))))))))))))))))))

symbols_spelled : (o p : Option TextToken) → Symbol o → Symbol p → Spelled (symbol_of o p)
symbols_spelled (Some w) p h k = token w 1 h.is
symbols_spelled None (Some w) h k = token w 0 k.is
symbols_spelled None None h k = record { is = tt }

symbol_spelled : (b : ℕ) (rest : List ℕ) → Spelled (symbol_piece b rest)
symbol_spelled b [] = symbols_spelled None (single b) no_symbol (single_spelled b)
symbol_spelled b (c ∷ rest) = symbols_spelled (pair b c) (single b) (pair_spelled b c) (single_spelled b)

-- ---- the whole text

piece_spelled : (b : ℕ) (rest : List ℕ) → Spelled (piece b rest)
piece_spelled b rest =
    let last = cond (is_digit b) (number_piece b rest) (symbol_piece b rest) in
    let third = cond (is_letter b) (run_from b rest (prefix_len is_name_byte rest)) last in
    let second = cond ((b == 47) && begins 47 rest) (Gap (prefix_len is_in_line rest)) third in
    spelled_of_either (is_blank b) (Gap 0) second (gap 0)
    (spelled_of_either ((b == 47) && begins 47 rest) (Gap (prefix_len is_in_line rest)) third (gap (prefix_len is_in_line rest))
    (letter_spelled b rest (is_letter b) last refl
    (spelled_of_either (is_digit b) (number_piece b rest) (symbol_piece b rest) (number_spelled b rest) (symbol_spelled b rest))))

no_words : (at : ℕ) (v : List TextToken) → ◌≡◌ {A = Result (List TextToken) ℕ} (Err at) (Ok v) → ⊥
no_words at v e = cc

before_spelled : (w : TextToken) (r : Result (List TextToken) ℕ) (words : List TextToken) → IsTrue (is_token w) → ((vs : List TextToken) → r ≡ Ok vs → IsTrue (are_tokens vs)) → before w r ≡ Ok words → IsTrue (are_tokens words)
before_spelled w (Ok vs) words h all e =
    subst (λ (l : List TextToken). IsTrue (are_tokens l)) (same_Ok (w ∷ vs) words e) (and_from (is_token w) (are_tokens vs) h (all vs refl))
before_spelled w (Err at) words h all e = absurd (no_words at words e)

by_piece_spelled : (p : Piece) (next : ℕ → Result (List TextToken) ℕ) (at : ℕ) (words : List TextToken) → IsSpelled p → ((k : ℕ) (vs : List TextToken) → next k ≡ Ok vs → IsTrue (are_tokens vs)) → by_piece p next at ≡ Ok words → IsTrue (are_tokens words)
by_piece_spelled (Gap k) next at words h all e = all k words e
by_piece_spelled (Token w k) next at words h all e = before_spelled w (next k) words h (all k) e
by_piece_spelled NoToken next at words h all e = absurd (no_words at words e)

scan_spelled : (skip at : ℕ) (bytes : List ℕ) (words : List TextToken) → scan skip at bytes ≡ Ok words → IsTrue (are_tokens words)
unfolding scan
scan_spelled skip at [] words e = subst (λ (l : List TextToken). IsTrue (are_tokens l)) (same_Ok [] words e) refl
scan_spelled zero at (b ∷ rest) words e = by_piece_spelled (piece b rest) (λ k. scan k (at + 1) rest) at words (piece_spelled b rest).is (λ k vs h. scan_spelled k (at + 1) rest vs h) e
scan_spelled (suc skip) at (b ∷ rest) words e = scan_spelled skip (at + 1) rest words e

pub tokens_spelled : (text : List ℕ) (words : List TextToken) → tokens_of text ≡ Ok words → IsTrue (are_tokens words)
tokens_spelled text words e = scan_spelled 0 0 text words e
