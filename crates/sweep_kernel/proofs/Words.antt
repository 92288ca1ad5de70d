-- The tokens of a sweep's text.
use Rattle.std.proofs.Common.{◌≡◌, ℕ, ◌+◌, ◌<◌, ◌^◌, List, [], ◌∷◌, ◌++◌, Result, Ok, refl, ap}
use Rattle.std.specs.Prelude.{codes}
use Rattle.kernel_tree.specs.declared.ops.Ty.TheVariants as ty
use Rattle.kernel_tree.specs.declared.ops.CompareOp.TheVariants as compare
use Rattle.kernel_tree.specs.declared.ops.UpdateOp.TheVariants as update
use Rattle.kernel_tree.specs.declared.mark.Mark.TheVariants as mark
use Rattle.kernel_tree.specs.TextToken.{TextToken, IsName, IsNumber, IsType, IsCompare, IsUpdate, IsMark}
use Rattle.kernel_tree.specs.Tokens.{before, scan, tokens_of}
use Rattle.sweep_kernel.specs.KernelText.{first_part, second_part, third_part, last_part, text_with}
use Rattle.sweep_kernel.specs.Tree.{a, b, y, k, n, s, m, i, t}
use Rattle.sweep_kernel.proofs.Digits.{Stops, number_scan}
use Rattle.kernel_tree.proofs.Lexed.{moved}

-- b[i] == 7 { y[i] = t; s += t as i64; } else { m max= t; } } return s + m as i64; }
abbrev pub last_words : List TextToken
last_words =
    IsMark mark.OrOr ∷ IsName b ∷ IsMark mark.OpenBracket ∷ IsName i ∷ IsMark mark.CloseBracket ∷ IsCompare compare.Eq ∷ IsNumber 7 ∷ IsMark mark.OpenBrace
    ∷ IsName y ∷ IsMark mark.OpenBracket ∷ IsName i ∷ IsMark mark.CloseBracket ∷ IsMark mark.Equals ∷ IsName t ∷ IsMark mark.Semicolon
    ∷ IsName s ∷ IsUpdate update.Add ∷ IsName t ∷ IsMark mark.As ∷ IsType ty.I64 ∷ IsMark mark.Semicolon ∷ IsMark mark.CloseBrace
    ∷ IsMark mark.Else ∷ IsMark mark.OpenBrace ∷ IsName m ∷ IsUpdate update.Max ∷ IsName t ∷ IsMark mark.Semicolon ∷ IsMark mark.CloseBrace ∷ IsMark mark.CloseBrace
    ∷ IsMark mark.Return ∷ IsName s ∷ IsMark mark.Plus ∷ IsName m ∷ IsMark mark.As ∷ IsType ty.I64 ∷ IsMark mark.Semicolon ∷ IsMark mark.CloseBrace ∷ []

-- ] as i32; if t >
abbrev pub third_words : List TextToken
third_words =
    IsMark mark.CloseBracket ∷ IsMark mark.As ∷ IsType ty.I32 ∷ IsMark mark.Semicolon ∷ IsMark mark.If ∷ IsName t ∷ IsCompare compare.Gt ∷ []

-- ; for i in 0..n { let t = a[i] as i32 * k + b[i +
abbrev pub second_words : List TextToken
second_words =
    IsMark mark.Semicolon ∷ IsMark mark.For ∷ IsName i ∷ IsMark mark.In ∷ IsNumber 0 ∷ IsMark mark.Range ∷ IsName n ∷ IsMark mark.OpenBrace
    ∷ IsMark mark.Let ∷ IsName t ∷ IsMark mark.Equals ∷ IsName a ∷ IsMark mark.OpenBracket ∷ IsName i ∷ IsMark mark.CloseBracket ∷ IsMark mark.As ∷ IsType ty.I32
    ∷ IsMark mark.Star ∷ IsName k ∷ IsMark mark.Plus ∷ IsName b ∷ IsMark mark.OpenBracket ∷ IsName i ∷ IsMark mark.Plus ∷ []

-- kernel sweep(a: [i16], b: [u8], y: [i32], k: i32, n: u64) -> i64 { var s: i64 = 0; var m: i32 =
abbrev pub first_words : List TextToken
first_words =
    IsMark mark.Kernel ∷ IsName (codes "sweep") ∷ IsMark mark.OpenParen
    ∷ IsName a ∷ IsMark mark.Colon ∷ IsMark mark.OpenBracket ∷ IsType ty.I16 ∷ IsMark mark.CloseBracket ∷ IsMark mark.Comma
    ∷ IsName b ∷ IsMark mark.Colon ∷ IsMark mark.OpenBracket ∷ IsType ty.U8 ∷ IsMark mark.CloseBracket ∷ IsMark mark.Comma
    ∷ IsName y ∷ IsMark mark.Colon ∷ IsMark mark.OpenBracket ∷ IsType ty.I32 ∷ IsMark mark.CloseBracket ∷ IsMark mark.Comma
    ∷ IsName k ∷ IsMark mark.Colon ∷ IsType ty.I32 ∷ IsMark mark.Comma ∷ IsName n ∷ IsMark mark.Colon ∷ IsType ty.U64 ∷ IsMark mark.CloseParen
    ∷ IsMark mark.Arrow ∷ IsType ty.I64 ∷ IsMark mark.OpenBrace
    ∷ IsMark mark.Var ∷ IsName s ∷ IsMark mark.Colon ∷ IsType ty.I64 ∷ IsMark mark.Equals ∷ IsNumber 0 ∷ IsMark mark.Semicolon
    ∷ IsMark mark.Var ∷ IsName m ∷ IsMark mark.Colon ∷ IsType ty.I32 ∷ IsMark mark.Equals ∷ []

abbrev pub words_with : (initial offset level : ℕ) → List TextToken
words_with initial offset level = first_words ++ IsNumber initial ∷ second_words ++ IsNumber offset ∷ third_words ++ IsNumber level ∷ last_words

-- ---- scans

-- a text that is scanned as these tokens from every place
abbrev Scans : List ℕ → List TextToken → Type 0
Scans text ws = (at : ℕ) → scan 0 at text ≡ Ok ws

last_scans : Scans last_part last_words
unfolding scan
last_scans at = refl

abbrev all_before : List TextToken → Result (List TextToken) ℕ → Result (List TextToken) ℕ
all_before [] r = r
all_before (w ∷ ws) r = before w (all_before ws r)

third_scans : (text : List ℕ) (ws : List TextToken) → Scans text ws → Scans (third_part ++ text) (third_words ++ ws)
unfolding scan
third_scans text ws h at = ap (all_before third_words) (h (moved 17 at))

second_scans : (text : List ℕ) (ws : List TextToken) → Scans text ws → Scans (second_part ++ text) (second_words ++ ws)
unfolding scan
second_scans text ws h at = ap (all_before second_words) (h (moved 50 at))

first_scans : (text : List ℕ) (ws : List TextToken) → Scans text ws → Scans (first_part ++ text) (first_words ++ ws)
unfolding scan
first_scans text ws h at = ap (all_before first_words) (h (moved 96 at))

-- a blank, a bracket and a semicolon end a number
blank : Stops 32
blank = record { digit = refl; cross = refl }

bracket : Stops 93
bracket = record { digit = refl; cross = refl }

semicolon : Stops 59
semicolon = record { digit = refl; cross = refl }

-- the tokens of the text, whatever its numbers
pub tokens_with : (initial offset level : ℕ) → initial < 2 ^ 64 → offset < 2 ^ 64 → level < 2 ^ 64 → tokens_of (text_with initial offset level) ≡ Ok (words_with initial offset level)
unfolding text_with
tokens_with initial offset level hi ho hl =
    first_scans _ _ (number_scan initial 59 _ _ hi semicolon
    (second_scans _ _ (number_scan offset 93 _ _ ho bracket
    (third_scans _ _ (number_scan level 32 _ _ hl blank last_scans))))) 0
