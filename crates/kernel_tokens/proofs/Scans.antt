-- Scanning piece by piece.
use Rattle.std.proofs.Common.{◌≡◌, ℕ, zero, suc, ◌+◌, ◌-◌, ◌<◌, ◌≤◌, Bool, true, false, cond, List, [], ◌∷◌, ◌++◌, take, drop, length, Option, Some, None, Result, Ok, Err, refl, sym, ap, subst, ◌∙◌, arith, add-one, append_assoc, length-drop}
use Rattle.std.specs.Prelude.{◌&&◌, ◌==◌, ◌^◌, nat_lt, codes, bytes_eq}
use Rattle.std.specs.List.{prefix_len}
use Rattle.std.proofs.lemmas.List.Sums.{prefix_len-le-length}
use Rattle.std.proofs.lemmas.List.{take_all, drop-drop, drop_all, append-nil}
use Rattle.kernel_tree.specs.TextToken.{TextToken, IsNumber, IsUpdate}
use Rattle.kernel_tree.specs.declared.ops.UpdateOp.TheVariants as update
use Rattle.kernel_tree.specs.Tokens.{Piece, Gap, Token, NoToken, piece, before, by_piece, scan, tokens_of, begins, begins_hex, is_blank, is_letter, run_word, hex_from, decimal_from, pair, is_in_line, is_name_byte, run_piece, run_from, number_piece, literal, symbol_of, symbol_piece, single}
use Rattle.number_text.specs.Numbers.{value_of, is_digit, is_hex_digit}
use Rattle.kernel_tokens.specs.Fronts.{at_front, following_of}

-- ---- a piece ends within its text

record Within (n : ℕ) (p : Piece) : Type 0 where
  fits : following_of p ≤ n

either_within : (t : Bool) (p q : Piece) (n : ℕ) → Within n p → Within n q → Within n (cond t p q)
either_within true p q n h k = h
either_within false p q n h k = k

token_within : (w : TextToken) (k n : ℕ) → k ≤ n → Within n (Token w k)
token_within w k n h = record { fits = h }

bad_within : (n : ℕ) → Within n NoToken
bad_within n = record { fits = omega arith }

gap_within : (k n : ℕ) → k ≤ n → Within n (Gap k)
gap_within k n h = record { fits = h }

run_within : (w after : List ℕ) (k n : ℕ) → k + length after ≤ n → Within n (run_piece w after k)
run_within w [] k n h = token_within _ k n (omega arith)
run_within w (c ∷ r) k n h =
    let t = begins 61 (c ∷ r) in
    let last = Token (run_word w) k in
    either_within (t && bytes_eq w (codes "min")) (Token (IsUpdate update.Min) (k + 1)) (cond (t && bytes_eq w (codes "max")) (Token (IsUpdate update.Max) (k + 1)) last) n
    (token_within (IsUpdate update.Min) (k + 1) n (omega arith))
    (either_within (t && bytes_eq w (codes "max")) (Token (IsUpdate update.Max) (k + 1)) last n (token_within (IsUpdate update.Max) (k + 1) n (omega arith)) (token_within (run_word w) k n (omega arith)))

literal_within : (v k n : ℕ) → k ≤ n → Within n (literal v k)
literal_within v k n h = either_within (nat_lt v (2 ^ 127)) (Token (IsNumber v) k) NoToken n (token_within (IsNumber v) k n h) (bad_within n)

number_within : (b : ℕ) (rest : List ℕ) → Within (length rest) (number_piece b rest)
number_within b [] = literal_within (value_of 10 (b ∷ [])) 0 0 (omega arith)
number_within b (x ∷ []) = literal_within (value_of 10 (b ∷ take (prefix_len is_digit (x ∷ [])) (x ∷ []))) (prefix_len is_digit (x ∷ [])) 1 (prefix_len-le-length is_digit (x ∷ []))
number_within b (x ∷ d ∷ r) =
    let j = prefix_len is_hex_digit (d ∷ r) in
    let k = prefix_len is_digit (x ∷ d ∷ r) in
    let n = length (x ∷ d ∷ r) in
    either_within (begins_hex b (x ∷ d ∷ r)) (hex_from (d ∷ r) j) (decimal_from b (x ∷ d ∷ r) k) n
    (literal_within (value_of 16 (take j (d ∷ r))) (j + 1) n (omega (arith, prefix_len-le-length is_hex_digit (d ∷ r))))
    (literal_within (value_of 10 (b ∷ take k (x ∷ d ∷ r))) k n (prefix_len-le-length is_digit (x ∷ d ∷ r)))

none_within : (o : Option TextToken) (n : ℕ) → Within n (symbol_of None o)
none_within None n = bad_within n
none_within (Some w) n = token_within w 0 n (omega arith)

some_within : (p o : Option TextToken) (n : ℕ) → Within (suc n) (symbol_of p o)
some_within None o n = none_within o (suc n)
some_within (Some w) o n = token_within w 1 (suc n) (omega arith)

symbol_within : (b : ℕ) (rest : List ℕ) → Within (length rest) (symbol_piece b rest)
symbol_within b [] = none_within (single b) 0
symbol_within b (c ∷ rest) = some_within (pair b c) (single b) (length rest)

piece_within : (b : ℕ) (rest : List ℕ) → Within (length rest) (piece b rest)
piece_within b rest =
    let k = prefix_len is_name_byte rest in
    let r : k + length (drop k rest) ≤ length rest = omega (arith, length-drop k rest, prefix_len-le-length is_name_byte rest) in
    let n = length rest in
    let last = cond (is_digit b) (number_piece b rest) (symbol_piece b rest) in
    let third = cond (is_letter b) (run_from b rest k) last in
    let second = cond ((b == 47) && begins 47 rest) (Gap (prefix_len is_in_line rest)) third in
    either_within (is_blank b) (Gap 0) second n (gap_within 0 n (omega arith))
    (either_within ((b == 47) && begins 47 rest) (Gap (prefix_len is_in_line rest)) third n (gap_within (prefix_len is_in_line rest) n (prefix_len-le-length is_in_line rest))
    (either_within (is_letter b) (run_from b rest k) last n (run_within (b ∷ take k rest) (drop k rest) k n r)
    (either_within (is_digit b) (number_piece b rest) (symbol_piece b rest) n (number_within b rest) (symbol_within b rest))))

pub piece_ends_within : (text : List ℕ) → 0 < length text → following_of (at_front piece text) < length text
piece_ends_within [] h = absurd (omega arith)
piece_ends_within (b ∷ rest) h = omega (arith, (piece_within b rest).fits)

-- the rest of a text as a part of it
pub tail_is : (text : List ℕ) (at : ℕ) → take (length text - at) (drop at text) ≡ drop at text
tail_is text at = take_all (length text - at) (drop at text) (omega (arith, length-drop at text))

-- ---- the whole text

-- tokens in front of what a scan gives
abbrev pub following_words : List TextToken → Result (List TextToken) ℕ → Result (List TextToken) ℕ
following_words ws (Ok vs) = Ok (ws ++ vs)
following_words ws (Err at) = Err at

-- bytes that are passed over
scan-past : (k at to : ℕ) (bytes : List ℕ) → to ≡ at + k → k ≤ length bytes → scan k at bytes ≡ scan 0 to (drop k bytes)
unfolding scan
scan-past zero at to bytes e h = let p : at ≡ to = omega arith in ap (λ n. scan 0 n bytes) p
scan-past (suc k) at to [] e h = absurd (omega arith)
scan-past (suc k) at to (b ∷ rest) e h = scan-past k (at + 1) to rest (omega arith) (omega arith)

-- the tokens of a text are some tokens and then those from a place on
pub record Scanned (text : List ℕ) (at : ℕ) (ws : List TextToken) : Type 0 where
  pub inside : at ≤ length text
  pub same : following_words ws (scan 0 at (drop at text)) ≡ tokens_of text

pub scanned_first : (text : List ℕ) → Scanned text 0 []
scanned_first text = record { inside = omega arith; same = go (scan 0 0 text) }
  where
    go : (r : Result (List TextToken) ℕ) → following_words [] r ≡ r
    go (Ok vs) = refl
    go (Err at) = refl

before_words : (ws : List TextToken) (w : TextToken) (r : Result (List TextToken) ℕ) → following_words ws (before w r) ≡ following_words (ws ++ w ∷ []) r
before_words ws w (Ok vs) = ap (λ (l : List TextToken). Ok l) (sym (append_assoc ws (w ∷ []) vs))
before_words ws w (Err at) = refl

drop-end : (k b : ℕ) (rest : List ℕ) → drop (k + 1) (b ∷ rest) ≡ drop k rest
drop-end k b rest = rw add-one refl

piece_inside : (b : ℕ) (rest : List ℕ) (p : Piece) → piece b rest ≡ p → following_of p ≤ length rest
piece_inside b rest p e = subst (λ q. following_of q ≤ length rest) e (piece_within b rest).fits

-- the bytes after the first one of a piece are passed over
skip : (b : ℕ) (rest : List ℕ) (at to k : ℕ) → k ≤ length rest → to ≡ at + (k + 1) → scan k (at + 1) rest ≡ scan 0 to (drop (k + 1) (b ∷ rest))
skip b rest at to k h t = scan-past k (at + 1) to rest (omega arith) h ∙ ap (λ (l : List ℕ). scan 0 to l) (sym (drop-end k b rest))

gap_step : (bytes : List ℕ) (at to k : ℕ) → at_front piece bytes ≡ Gap k → 0 < length bytes → to ≡ at + (k + 1) → scan 0 at bytes ≡ scan 0 to (drop (k + 1) bytes)
unfolding scan
gap_step [] at to k e h t = absurd (omega arith)
gap_step (b ∷ rest) at to k e h t = ap (λ q. by_piece q (λ k. scan k (at + 1) rest) at) e ∙ skip b rest at to k (piece_inside b rest (Gap k) e) t

token_step : (bytes : List ℕ) (at to k : ℕ) (w : TextToken) → at_front piece bytes ≡ Token w k → 0 < length bytes → to ≡ at + (k + 1) → scan 0 at bytes ≡ before w (scan 0 to (drop (k + 1) bytes))
unfolding scan
token_step [] at to k w e h t = absurd (omega arith)
token_step (b ∷ rest) at to k w e h t = ap (λ q. by_piece q (λ k. scan k (at + 1) rest) at) e ∙ ap (before w) (skip b rest at to k (piece_inside b rest (Token w k) e) t)

bad_step : (bytes : List ℕ) (at : ℕ) → at_front piece bytes ≡ NoToken → 0 < length bytes → scan 0 at bytes ≡ Err at
unfolding scan
bad_step [] at e h = absurd (omega arith)
bad_step (b ∷ rest) at e h = ap (λ q. by_piece q (λ k. scan k (at + 1) rest) at) e

left_over : (text : List ℕ) (at : ℕ) → at < length text → 0 < length (drop at text)
left_over text at h = omega (arith, length-drop at text)

piece_ends : (text : List ℕ) (at to k : ℕ) (p : Piece) → at < length text → at_front piece (drop at text) ≡ p → following_of p ≡ k → to ≡ at + (k + 1) → to ≤ length text
piece_ends text at to k p h e l t =
    let w : following_of p < length (drop at text) = subst (λ q. following_of q < length (drop at text)) e (piece_ends_within (drop at text) (left_over text at h)) in
    omega (arith, w, length-drop at text)

-- a piece and its place fit in the text
pub gap_fits : (text : List ℕ) (at k : ℕ) → at < length text → at_front piece (drop at text) ≡ Gap k → at + (k + 1) ≤ length text
gap_fits text at k h e = piece_ends text at (at + (k + 1)) k (Gap k) h e refl refl

pub token_fits : (text : List ℕ) (at k : ℕ) (w : TextToken) → at < length text → at_front piece (drop at text) ≡ Token w k → at + (k + 1) ≤ length text
token_fits text at k w h e = piece_ends text at (at + (k + 1)) k (Token w k) h e refl refl

dropped : (text : List ℕ) (at to k : ℕ) → to ≡ at + (k + 1) → drop (k + 1) (drop at text) ≡ drop to text
dropped text at to k t = rw t (drop-drop (k + 1) at text)

pub scanned_gap : (text : List ℕ) (at k to : ℕ) (ws : List TextToken) → Scanned text at ws → at < length text → at_front piece (drop at text) ≡ Gap k → to ≡ at + (k + 1) → Scanned text to ws
scanned_gap text at k to ws s h e t = record {
  inside = piece_ends text at to k (Gap k) h e refl t;
  same = ap (λ (l : List ℕ). following_words ws (scan 0 to l)) (sym (dropped text at to k t)) ∙ ap (following_words ws) (sym (gap_step (drop at text) at to k e (left_over text at h) t)) ∙ s.same;
}

pub scanned_token : (text : List ℕ) (at k to : ℕ) (ws : List TextToken) (w : TextToken) → Scanned text at ws → at < length text → at_front piece (drop at text) ≡ Token w k → to ≡ at + (k + 1) → Scanned text to (ws ++ w ∷ [])
scanned_token text at k to ws w s h e t = record {
  inside = piece_ends text at to k (Token w k) h e refl t;
  same = ap (λ (l : List ℕ). following_words (ws ++ w ∷ []) (scan 0 to l)) (sym (dropped text at to k t)) ∙ sym (before_words ws w (scan 0 to (drop (k + 1) (drop at text)))) ∙ ap (following_words ws) (sym (token_step (drop at text) at to k w e (left_over text at h) t)) ∙ s.same;
}

pub scanned_bad : (text : List ℕ) (at : ℕ) (ws : List TextToken) → Scanned text at ws → at < length text → at_front piece (drop at text) ≡ NoToken → tokens_of text ≡ Err at
scanned_bad text at ws s h e = sym s.same ∙ ap (following_words ws) (bad_step (drop at text) at e (left_over text at h))

pub scanned_all : (text : List ℕ) (at : ℕ) (ws : List TextToken) → Scanned text at ws → length text ≤ at → tokens_of text ≡ Ok ws
unfolding scan
scanned_all text at ws s h = sym s.same ∙ ap (λ (l : List ℕ). following_words ws (scan 0 at l)) (drop_all at text h) ∙ ap (λ (l : List TextToken). Ok l) (append-nil ws)
