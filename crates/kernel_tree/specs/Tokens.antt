-- The tokens of a text: at each place the longest token is taken. Spaces, tabs, line feeds, carriage returns
-- and comments from `//` up to the next line feed stand between tokens.
use Rattle.std.specs.Prelude.{ℕ, zero, suc, ◌+◌, ◌^◌, ◌==◌, ◌&&◌, ◌||◌, not, List, [], ◌∷◌, take, drop, Option, Some, None, is_none, Result, Ok, Err, Bool, true, false, nat_lt, nat_le, if◌then◌else◌, codes, bytes_eq}
use Rattle.std.specs.List.{prefix_len, list_all}
use Rattle.number_text.specs.Numbers.{is_digit, is_hex_digit, value_of}
use Rattle.kernel_tree.specs.declared.ops.Ty.{Ty}
use Rattle.kernel_tree.specs.declared.ops.Ty.TheVariants as ty
use Rattle.kernel_tree.specs.declared.ops.CompareOp.TheVariants as compare
use Rattle.kernel_tree.specs.declared.ops.UpdateOp.TheVariants as update
use Rattle.kernel_tree.specs.declared.mark.Mark.{Mark}
use Rattle.kernel_tree.specs.declared.mark.Mark.TheVariants as mark
use Rattle.kernel_tree.specs.TextToken.{TextToken, IsName, IsNumber, IsType, IsCompare, IsUpdate, IsMark}

-- ---- bytes

-- an ASCII letter or `_`
abbrev pub is_letter : ℕ → Bool
is_letter b = (nat_le 65 b && nat_le b 90) || (nat_le 97 b && nat_le b 122) || (b == 95)

abbrev pub is_name_byte : ℕ → Bool
is_name_byte b = is_letter b || is_digit b

-- a space, a tab, a line feed or a carriage return
abbrev pub is_blank : ℕ → Bool
is_blank b = (b == 32) || (b == 9) || (b == 10) || (b == 13)

-- a byte that does not end a comment
abbrev pub is_in_line : ℕ → Bool
is_in_line b = not (b == 10)

-- ---- reserved words and names

-- the unsigned types
abbrev pub unsigned_type : List ℕ → Option Ty
unsigned_type w =
    if bytes_eq w (codes "u8") then Some ty.U8 else
    if bytes_eq w (codes "u16") then Some ty.U16 else
    if bytes_eq w (codes "u32") then Some ty.U32 else
    if bytes_eq w (codes "u64") then Some ty.U64 else None

abbrev pub reserved_type : List ℕ → Option Ty
reserved_type w =
    if bytes_eq w (codes "i8") then Some ty.I8 else
    if bytes_eq w (codes "i16") then Some ty.I16 else
    if bytes_eq w (codes "i32") then Some ty.I32 else
    if bytes_eq w (codes "i64") then Some ty.I64 else unsigned_type w

-- what stands within expressions
abbrev pub operation_mark : List ℕ → Option Mark
operation_mark w =
    if bytes_eq w (codes "select") then Some mark.Select else
    if bytes_eq w (codes "min") then Some mark.Min else
    if bytes_eq w (codes "max") then Some mark.Max else
    if bytes_eq w (codes "abs") then Some mark.Abs else
    if bytes_eq w (codes "as") then Some mark.As else None

-- where a kernel goes on, and what stands within expressions
abbrev pub flow_mark : List ℕ → Option Mark
flow_mark w =
    if bytes_eq w (codes "if") then Some mark.If else
    if bytes_eq w (codes "else") then Some mark.Else else
    if bytes_eq w (codes "break") then Some mark.Break else
    if bytes_eq w (codes "return") then Some mark.Return else operation_mark w

abbrev pub reserved_mark : List ℕ → Option Mark
reserved_mark w =
    if bytes_eq w (codes "kernel") then Some mark.Kernel else
    if bytes_eq w (codes "var") then Some mark.Var else
    if bytes_eq w (codes "for") then Some mark.For else
    if bytes_eq w (codes "in") then Some mark.In else
    if bytes_eq w (codes "let") then Some mark.Let else flow_mark w

-- what a run of letters, digits and `_` spells
abbrev pub by_reserved : Option Ty → Option Mark → List ℕ → TextToken
by_reserved (Some t) m w = IsType t
by_reserved None (Some m) w = IsMark m
by_reserved None None w = IsName w

abbrev pub run_word : List ℕ → TextToken
run_word w = by_reserved (reserved_type w) (reserved_mark w) w

-- a letter or `_`, and then letters, digits and `_`
abbrev pub is_run : List ℕ → Bool
is_run [] = false
is_run (b ∷ rest) = is_letter b && list_all is_name_byte rest

-- such a run that is no reserved word
abbrev pub is_name : List ℕ → Bool
is_name w = is_run w && (is_none (reserved_type w) && is_none (reserved_mark w))

-- ---- numbers

-- `0x` and a hexadecimal digit
abbrev pub begins_hex : ℕ → List ℕ → Bool
begins_hex b [] = false
begins_hex b (x ∷ []) = false
begins_hex b (x ∷ d ∷ rest) = (b == 48) && (x == 120) && is_hex_digit d

-- ---- symbols

abbrev pub pair : ℕ → ℕ → Option TextToken
pair b c =
    if (b == 45) && (c == 62) then Some (IsMark mark.Arrow) else
    if (b == 46) && (c == 46) then Some (IsMark mark.Range) else
    if (b == 61) && (c == 61) then Some (IsCompare compare.Eq) else
    if (b == 33) && (c == 61) then Some (IsCompare compare.Ne) else
    if (b == 60) && (c == 61) then Some (IsCompare compare.Le) else
    if (b == 62) && (c == 61) then Some (IsCompare compare.Ge) else
    if (b == 60) && (c == 60) then Some (IsMark mark.ShiftLeft) else
    if (b == 62) && (c == 62) then Some (IsMark mark.ShiftRight) else
    if (b == 38) && (c == 38) then Some (IsMark mark.AndAnd) else
    if (b == 124) && (c == 124) then Some (IsMark mark.OrOr) else
    if (b == 43) && (c == 61) then Some (IsUpdate update.Add) else
    if (b == 38) && (c == 61) then Some (IsUpdate update.And) else
    if (b == 124) && (c == 61) then Some (IsUpdate update.Or) else
    if (b == 94) && (c == 61) then Some (IsUpdate update.Xor) else None

abbrev pub single : ℕ → Option TextToken
single b =
    if b == 40 then Some (IsMark mark.OpenParen) else
    if b == 41 then Some (IsMark mark.CloseParen) else
    if b == 91 then Some (IsMark mark.OpenBracket) else
    if b == 93 then Some (IsMark mark.CloseBracket) else
    if b == 123 then Some (IsMark mark.OpenBrace) else
    if b == 125 then Some (IsMark mark.CloseBrace) else
    if b == 44 then Some (IsMark mark.Comma) else
    if b == 59 then Some (IsMark mark.Semicolon) else
    if b == 58 then Some (IsMark mark.Colon) else
    if b == 61 then Some (IsMark mark.Equals) else
    if b == 60 then Some (IsCompare compare.Lt) else
    if b == 62 then Some (IsCompare compare.Gt) else
    if b == 43 then Some (IsMark mark.Plus) else
    if b == 45 then Some (IsMark mark.Minus) else
    if b == 42 then Some (IsMark mark.Star) else
    if b == 38 then Some (IsMark mark.Ampersand) else
    if b == 94 then Some (IsMark mark.Caret) else
    if b == 124 then Some (IsMark mark.Bar) else
    if b == 126 then Some (IsMark mark.Tilde) else
    if b == 33 then Some (IsMark mark.Bang) else None

-- ---- what stands at the front of some bytes

-- a gap between tokens, or a token, each with the number of its bytes after the first one
pub data Piece : Type 0 where
  Gap : ℕ → Piece
  Token : TextToken → ℕ → Piece
  -- the first byte begins no token, or a number of 2^127 or more
  NoToken : Piece

abbrev pub begins : ℕ → List ℕ → Bool
begins b [] = false
begins b (c ∷ rest) = c == b

-- a run of k bytes after its first one, and the bytes after it: `min=` and `max=` are tokens
abbrev pub run_piece : List ℕ → List ℕ → ℕ → Piece
run_piece w after k =
    if begins 61 after && bytes_eq w (codes "min") then Token (IsUpdate update.Min) (k + 1) else
    if begins 61 after && bytes_eq w (codes "max") then Token (IsUpdate update.Max) (k + 1) else
    Token (run_word w) k

abbrev pub run_from : ℕ → List ℕ → ℕ → Piece
run_from b rest k = run_piece (b ∷ take k rest) (drop k rest) k

abbrev pub literal : ℕ → ℕ → Piece
literal n k = if nat_lt n (2 ^ 127) then Token (IsNumber n) k else NoToken

abbrev pub decimal_from : ℕ → List ℕ → ℕ → Piece
decimal_from b rest k = literal (value_of 10 (b ∷ take k rest)) k

abbrev pub hex_from : List ℕ → ℕ → Piece
hex_from digits k = literal (value_of 16 (take k digits)) (k + 1)

abbrev pub number_piece : ℕ → List ℕ → Piece
number_piece b rest =
    if begins_hex b rest then hex_from (drop 1 rest) (prefix_len is_hex_digit (drop 1 rest)) else
    decimal_from b rest (prefix_len is_digit rest)

abbrev pub symbol_of : Option TextToken → Option TextToken → Piece
symbol_of (Some w) o = Token w 1
symbol_of None (Some w) = Token w 0
symbol_of None None = NoToken

abbrev pub symbol_piece : ℕ → List ℕ → Piece
symbol_piece b [] = symbol_of None (single b)
symbol_piece b (c ∷ rest) = symbol_of (pair b c) (single b)

-- what stands at the front of a byte and the bytes after it
abbrev pub piece : ℕ → List ℕ → Piece
piece b rest =
    if is_blank b then Gap 0 else
    if (b == 47) && begins 47 rest then Gap (prefix_len is_in_line rest) else
    if is_letter b then run_from b rest (prefix_len is_name_byte rest) else
    if is_digit b then number_piece b rest else symbol_piece b rest

-- ---- the whole text

abbrev pub before : TextToken → Result (List TextToken) ℕ → Result (List TextToken) ℕ
before w (Ok ws) = Ok (w ∷ ws)
before w (Err at) = Err at

-- what follows a piece: the rest of the text past the given number of bytes
abbrev pub by_piece : Piece → (ℕ → Result (List TextToken) ℕ) → ℕ → Result (List TextToken) ℕ
by_piece (Gap k) next at = next k
by_piece (Token w k) next at = before w (next k)
by_piece NoToken next at = Err at

-- the tokens of the bytes from a place on, past some bytes that belong to what came before
unfoldable pub scan : ℕ → ℕ → List ℕ → Result (List TextToken) ℕ
scan skip at [] = Ok []
scan zero at (b ∷ rest) = by_piece (piece b rest) (λ k. scan k (at + 1) rest) at
scan (suc skip) at (b ∷ rest) = scan skip (at + 1) rest

-- the tokens of a text, or the place of its first bad byte
abbrev pub tokens_of : List ℕ → Result (List TextToken) ℕ
tokens_of text = scan 0 0 text

-- ---- lists of tokens

-- whether some text has this token
abbrev pub is_token : TextToken → Bool
is_token (IsName x) = is_name x
is_token (IsNumber n) = nat_lt n (2 ^ 127)
is_token (IsType t) = true
is_token (IsCompare op) = true
is_token (IsUpdate op) = true
is_token (IsMark m) = true

abbrev pub are_tokens : List TextToken → Bool
are_tokens ws = list_all is_token ws
