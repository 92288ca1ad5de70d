-- The tokens of tokens joined by single spaces are these tokens.
use Rattle.std.proofs.Common.{◌≡◌, ℕ, zero, suc, ◌+◌, ◌-◌, ◌≤◌, ◌<◌, ◌^◌, List, [], ◌∷◌, ◌++◌, length, Bool, true, false, Option, Some, None, Ok, refl, sym, ap, ap₂, ◌∙◌, arith, eqb, ltb}
use Rattle.std.specs.Prelude.{IsTrue, ◌&&◌, is_none, decimal}
use Rattle.std.specs.List.{prefix_len, list_all}
use Rattle.std.specs.Str.Parse.{AllDigits}
use Rattle.std.proofs.lemmas.Bool.{ltb-true, and_parts}
use Rattle.std.proofs.lemmas.Bool.Decides.{nat_tests}
use Rattle.std.proofs.lemmas.Fmt.{decimal_is_IsNumeral_wide}
use Rattle.std.proofs.Math.Seq.{take-append_seam, drop-append_seam}
use Rattle.kernel_tree.specs.declared.ops.Ty.{Ty}
use Rattle.kernel_tree.specs.declared.ops.Ty.TheVariants as ty
use Rattle.kernel_tree.specs.declared.ops.CompareOp.{CompareOp}
use Rattle.kernel_tree.specs.declared.ops.CompareOp.TheVariants as compare
use Rattle.kernel_tree.specs.declared.ops.UpdateOp.{UpdateOp}
use Rattle.kernel_tree.specs.declared.ops.UpdateOp.TheVariants as update
use Rattle.kernel_tree.specs.declared.mark.Mark.{Mark}
use Rattle.kernel_tree.specs.declared.mark.Mark.TheVariants as mark
use Rattle.kernel_tree.specs.TextToken.{TextToken, IsName, IsNumber, IsType, IsCompare, IsUpdate, IsMark}
use Rattle.kernel_tree.specs.Tokens.{is_letter, is_name_byte, is_blank, is_run, is_name, reserved_type, reserved_mark, by_reserved, begins_hex, Piece, Token, piece, run_from, run_piece, literal, decimal_from, number_piece, before, by_piece, scan, tokens_of, is_token}
use Rattle.number_text.specs.Numbers.{is_digit, is_hex_digit, value_of}
use Rattle.number_text.proofs.DecimalDigits.{all_digits, digits_value-is}
use Rattle.kernel_tree.specs.Printing.{type_text, compare_text, update_text, mark_text, word_text, spaced, joined_text}
use Rattle.kernel_tree.proofs.Well.{Tokens}

-- ---- places

-- a place so many bytes on
abbrev pub moved : ℕ → ℕ → ℕ
moved zero at = at
moved (suc k) at = moved k (at + 1)

-- what stands after a token: nothing, or a space and more
abbrev tail_of : Option (List ℕ) → List ℕ
tail_of None = []
tail_of (Some t) = 32 ∷ t

pub scan-skip : (t : List ℕ) (at : ℕ) (s : List ℕ) → scan (length t) at (t ++ s) ≡ scan 0 (moved (length t) at) s
unfolding scan
scan-skip [] at s = refl
scan-skip (b ∷ t) at s = scan-skip t (at + 1) s

pub scan-token : (b : ℕ) (rest : List ℕ) (at : ℕ) (w : TextToken) (k : ℕ) → piece b rest ≡ Token w k → scan 0 at (b ∷ rest) ≡ before w (scan k (at + 1) rest)
unfolding scan
scan-token b rest at w k e = ap (λ (p : Piece). by_piece p (λ k. scan k (at + 1) rest) at) e

-- a text whose token is known, and what follows it
abbrev Scans : TextToken → List ℕ → Type 0
Scans w text = (at : ℕ) (o : Option (List ℕ)) → scan 0 at (text ++ tail_of o) ≡ before w (scan 0 (moved (length text) at) (tail_of o))

scans-from : (w : TextToken) (b : ℕ) (t : List ℕ) → ((o : Option (List ℕ)) → piece b (t ++ tail_of o) ≡ Token w (length t)) → Scans w (b ∷ t)
scans-from w b t e at o = scan-token b (t ++ tail_of o) at w (length t) (e o) ∙ ap (before w) (scan-skip t (at + 1) (tail_of o))

-- ---- reserved words and symbols

type_scans : (t : Ty) → Scans (IsType t) (type_text t)
unfolding scan
type_scans ty.I8 at None = refl
type_scans _ at None = refl
type_scans ty.I8 at (Some s) = refl
type_scans _ at (Some s) = refl

compare_scans : (op : CompareOp) → Scans (IsCompare op) (compare_text op)
unfolding scan
compare_scans compare.Eq at None = refl
compare_scans _ at None = refl
compare_scans compare.Eq at (Some s) = refl
compare_scans _ at (Some s) = refl

update_scans : (op : UpdateOp) → Scans (IsUpdate op) (update_text op)
unfolding scan
update_scans update.Add at None = refl
update_scans _ at None = refl
update_scans update.Add at (Some s) = refl
update_scans _ at (Some s) = refl

mark_scans : (m : Mark) → Scans (IsMark m) (mark_text m)
unfolding scan
mark_scans mark.Kernel at None = refl
mark_scans _ at None = refl
mark_scans mark.Kernel at (Some s) = refl
mark_scans _ at (Some s) = refl

-- ---- runs of bytes of one kind

pub prefix_len-all : (p : ℕ → Bool) (xs : List ℕ) (s : List ℕ) → list_all p xs ≡ true → prefix_len p s ≡ 0 → prefix_len p (xs ++ s) ≡ length xs
prefix_len-all p [] s h e = e
prefix_len-all p (x ∷ xs) s h e =
    let q = and_parts (p x) (list_all p xs) h in
    let i = prefix_len-all p xs s q.1 e in
    rw q.0 (omega arith)

-- ---- names

letter_above : (b : ℕ) → is_letter b ≡ true → 65 ≤ b
letter_above b h = grind (arith, nat_tests, h)

pub not_blank : (b : ℕ) → 48 ≤ b → is_blank b ≡ false
not_blank b h = grind (arith, nat_tests)

pub not_slash : (b : ℕ) → 48 ≤ b → eqb b 47 ≡ false
not_slash b h = grind (arith, nat_tests)

letter_piece : (b : ℕ) (rest : List ℕ) → is_letter b ≡ true → piece b rest ≡ run_from b rest (prefix_len is_name_byte rest)
letter_piece b rest h =
    let a = letter_above b h in
    rw (not_blank b (omega arith), not_slash b (omega arith), h) refl

none_is : {A : Type 0} (o : Option A) → is_none o ≡ true → o ≡ None
none_is None h = refl
none_is (Some x) h = absurd cc

run_piece_of_name : (x : List ℕ) (o : Option (List ℕ)) (k : ℕ) → is_none (reserved_type x) ≡ true → is_none (reserved_mark x) ≡ true → run_piece x (tail_of o) k ≡ Token (IsName x) k
run_piece_of_name x None k p q = ap₂ (λ (t : Option Ty) (m : Option Mark). Token (by_reserved t m x) k) (none_is (reserved_type x) p) (none_is (reserved_mark x) q)
run_piece_of_name x (Some s) k p q = ap₂ (λ (t : Option Ty) (m : Option Mark). Token (by_reserved t m x) k) (none_is (reserved_type x) p) (none_is (reserved_mark x) q)

name_stops : (o : Option (List ℕ)) → prefix_len is_name_byte (tail_of o) ≡ 0
name_stops None = refl
name_stops (Some s) = refl

name_piece : (b : ℕ) (t : List ℕ) (o : Option (List ℕ)) → is_name (b ∷ t) ≡ true → piece b (t ++ tail_of o) ≡ Token (IsName (b ∷ t)) (length t)
name_piece b t o h =
    let e = and_parts (is_run (b ∷ t)) (is_none (reserved_type (b ∷ t)) && is_none (reserved_mark (b ∷ t))) h in
    let r = and_parts (is_letter b) (list_all is_name_byte t) e.0 in
    let n = and_parts (is_none (reserved_type (b ∷ t))) (is_none (reserved_mark (b ∷ t))) e.1 in
    letter_piece b (t ++ tail_of o) r.0
    ∙ ap (run_from b (t ++ tail_of o)) (prefix_len-all is_name_byte t (tail_of o) r.1 (name_stops o))
    ∙ ap₂ (λ (x s : List ℕ). run_piece (b ∷ x) s (length t)) (take-append_seam t (tail_of o)) (drop-append_seam t (tail_of o))
    ∙ run_piece_of_name (b ∷ t) o (length t) n.0 n.1

name_scans : (x : List ℕ) → IsTrue (is_name x) → Scans (IsName x) x
name_scans [] h at o = absurd cc
name_scans (b ∷ t) h at o = scans-from (IsName (b ∷ t)) b t (λ o. name_piece b t o h) at o

-- ---- numbers

pub digit_least : (d : ℕ) → is_digit d ≡ true → 48 ≤ d
digit_least d h = grind (arith, nat_tests, h)

pub digit_most : (d : ℕ) → is_digit d ≡ true → d ≤ 57
digit_most d h = grind (arith, nat_tests, h)

pub no_letter : (d : ℕ) → d ≤ 57 → is_letter d ≡ false
no_letter d h = grind (arith, nat_tests)

pub no_x : (d : ℕ) → d ≤ 57 → eqb d 120 ≡ false
no_x d h = grind (arith, nat_tests)

digit_stops : (o : Option (List ℕ)) → prefix_len is_digit (tail_of o) ≡ 0
digit_stops None = refl
digit_stops (Some s) = refl

pub digit_piece : (b : ℕ) (rest : List ℕ) → is_digit b ≡ true → piece b rest ≡ number_piece b rest
digit_piece b rest h = rw (not_blank b (digit_least b h), not_slash b (digit_least b h), no_letter b (digit_most b h), h) refl

pub never : (a z : Bool) → ((a && false) && z) ≡ false
never true z = refl
never false z = refl

pub no_hex : (b x : ℕ) (rest : List ℕ) → eqb x 120 ≡ false → begins_hex b (x ∷ rest) ≡ false
no_hex b x [] h = refl
no_hex b x (d ∷ rest) h = rw h (never (eqb b 48) (is_hex_digit d))

decimal_begins : (b : ℕ) (t : List ℕ) (o : Option (List ℕ)) → list_all is_digit t ≡ true → begins_hex b (t ++ tail_of o) ≡ false
decimal_begins b [] None h = refl
decimal_begins b [] (Some s) h = no_hex b 32 s refl
decimal_begins b (d ∷ t) o h = no_hex b d (t ++ tail_of o) (no_x d (digit_most d (and_parts (is_digit d) (list_all is_digit t) h).0))

number_piece-is : (n b : ℕ) (t : List ℕ) (o : Option (List ℕ)) → is_digit b ≡ true → list_all is_digit t ≡ true → value_of 10 (b ∷ t) ≡ n → IsTrue (ltb n (2 ^ 127)) → piece b (t ++ tail_of o) ≡ Token (IsNumber n) (length t)
number_piece-is n b t o p q v small =
    digit_piece b (t ++ tail_of o) p
    ∙ rw (decimal_begins b t o q) refl
    ∙ ap (decimal_from b (t ++ tail_of o)) (prefix_len-all is_digit t (tail_of o) q (digit_stops o))
    ∙ ap (λ (x : List ℕ). literal (value_of 10 (b ∷ x)) (length t)) (take-append_seam t (tail_of o))
    ∙ ap (λ m. literal m (length t)) v
    ∙ rw small refl

digits_scan : (n : ℕ) (ds : List ℕ) → 0 < length ds → AllDigits 10 ds → value_of 10 ds ≡ n → IsTrue (ltb n (2 ^ 127)) → Scans (IsNumber n) ds
digits_scan n [] l h v s at o = absurd (omega arith)
digits_scan n (d ∷ ds) l h v s at o =
    let a = and_parts (is_digit d) (list_all is_digit ds) (all_digits (d ∷ ds) h) in
    scans-from (IsNumber n) d ds (λ o. number_piece-is n d ds o a.0 a.1 v s) at o

number_scans : (n : ℕ) → IsTrue (ltb n (2 ^ 127)) → Scans (IsNumber n) (decimal n)
number_scans n h =
    let b : n < 10 ^ 64 = omega (arith, ltb-true n (2 ^ 127) h) in
    let d = decimal_is_IsNumeral_wide n b in
    digits_scan n (decimal n) d.0.0 d.0.1 (digits_value-is 0 (decimal n) d.0.1 ∙ d.1) h

-- ---- lists

word_scans : (w : TextToken) → IsTrue (is_token w) → Scans w (word_text w)
word_scans (IsName x) h = name_scans x h
word_scans (IsNumber n) h = number_scans n h
word_scans (IsType t) h = type_scans t
word_scans (IsCompare op) h = compare_scans op
word_scans (IsUpdate op) h = update_scans op
word_scans (IsMark m) h = mark_scans m

-- what stands after a token of a list
abbrev following : List TextToken → Option (List ℕ)
following [] = None
following (w ∷ ws) = Some (word_text w ++ spaced ws)

spaced-is : (ws : List TextToken) → spaced ws ≡ tail_of (following ws)
unfolding spaced
spaced-is [] = refl
spaced-is (w ∷ ws) = refl

mutual_scan : (w : TextToken) (ws : List TextToken) (at : ℕ) → IsTrue (is_token w) → ((at : ℕ) → scan 0 at (spaced ws) ≡ Ok ws) → scan 0 at (word_text w ++ spaced ws) ≡ Ok (w ∷ ws)
mutual_scan w ws at h again =
    ap (λ (s : List ℕ). scan 0 at (word_text w ++ s)) (spaced-is ws)
    ∙ word_scans w h at (following ws)
    ∙ ap (λ (s : List ℕ). before w (scan 0 (moved (length (word_text w)) at) s)) (sym (spaced-is ws))
    ∙ ap (before w) (again (moved (length (word_text w)) at))

spaced_scan : (ws : List TextToken) → Tokens ws → (at : ℕ) → scan 0 at (spaced ws) ≡ Ok ws
unfolding scan spaced
spaced_scan [] t at = refl
spaced_scan (w ∷ ws) t at = mutual_scan w ws (at + 1) t.0 (spaced_scan ws t.1)

pub tokens_of-joined_text : (ws : List TextToken) → Tokens ws → tokens_of (joined_text ws) ≡ Ok ws
unfolding scan
tokens_of-joined_text [] t = refl
tokens_of-joined_text (w ∷ ws) t = mutual_scan w ws 0 t.0 (spaced_scan ws t.1)
