-- How deep the tokens of a text nest.
use Rattle.std.specs.Prelude.{ℕ, ◌+◌, ◌-◌, List, [], ◌∷◌, Option, Some, None, nat_lt, ◌||◌, if◌then◌else◌}
use Rattle.kernel_tree.specs.declared.mark.Mark.{Mark}
use Rattle.kernel_tree.specs.declared.mark.Mark.TheVariants as mark
use Rattle.kernel_tree.specs.TextToken.{TextToken, IsName, IsNumber, IsType, IsCompare, IsUpdate, IsMark}
use Rattle.kernel_tree.specs.Limits.{most_open}

-- what a token does to the brackets that are open: a closing one of any kind closes one, where there is one
abbrev pub open_by_mark : ℕ → Mark → ℕ
open_by_mark n mark.OpenParen = n + 1
open_by_mark n mark.OpenBracket = n + 1
open_by_mark n mark.OpenBrace = n + 1
open_by_mark n mark.CloseParen = n - 1
open_by_mark n mark.CloseBracket = n - 1
open_by_mark n mark.CloseBrace = n - 1
open_by_mark n _ = n

-- the signs in a row up to a token
abbrev pub signs_by_mark : ℕ → Mark → ℕ
signs_by_mark n mark.Minus = n + 1
signs_by_mark n mark.Tilde = n + 1
signs_by_mark n mark.Bang = n + 1
signs_by_mark n _ = 0

abbrev pub open_by : ℕ → TextToken → ℕ
open_by n (IsMark m) = open_by_mark n m
open_by n (IsName x) = n
open_by n (IsNumber v) = n
open_by n (IsType t) = n
open_by n (IsCompare op) = n
open_by n (IsUpdate op) = n

abbrev pub signs_by : ℕ → TextToken → ℕ
signs_by n (IsMark m) = signs_by_mark n m
signs_by n (IsName x) = 0
signs_by n (IsNumber v) = 0
signs_by n (IsType t) = 0
signs_by n (IsCompare op) = 0
signs_by n (IsUpdate op) = 0

-- the place of the first token at which too many brackets are open or too many signs stand in a row,
-- from a place on, after so many open brackets and so many signs in a row
unfoldable pub deep_from : ℕ → ℕ → ℕ → List TextToken → Option ℕ
deep_from open_count signs at [] = None
deep_from open_count signs at (w ∷ rest) =
    if nat_lt most_open (open_by open_count w) || nat_lt most_open (signs_by signs w) then Some at else
    deep_from (open_by open_count w) (signs_by signs w) (at + 1) rest

abbrev pub deep_place : List TextToken → Option ℕ
deep_place words = deep_from 0 0 0 words
