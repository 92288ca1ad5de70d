-- The parts of an instruction's text: registers, numbers, addresses, and what stands between them, as in the assembler
-- symbols of Arm DDI 0487. Numbers are decimal.
use Rattle.std.specs.Prelude.{ℕ, ◌*◌, ◌-◌, ◌^◌, ◌==◌, ◌&&◌, nat_lt, if◌then◌else◌, List, [], ◌∷◌, ◌++◌, codes, decimal, slice_index_or}

-- ---- registers, by their numbers
abbrev pub general_register : (letter last : List ℕ) → ℕ → List ℕ
general_register letter last n = if n == 31 then last else (letter ++ decimal n)

abbrev pub x_register : ℕ → List ℕ
x_register n = general_register (codes "x") (codes "xzr") n

abbrev pub w_register : ℕ → List ℕ
w_register n = general_register (codes "w") (codes "wzr") n

-- where 31 is SP
abbrev pub x_or_sp : ℕ → List ℕ
x_or_sp n = general_register (codes "x") (codes "sp") n

abbrev pub w_or_sp : ℕ → List ℕ
w_or_sp n = general_register (codes "w") (codes "wsp") n

abbrev pub comma : List ℕ
comma = codes ", "

-- ---- numbers
abbrev pub constant : ℕ → List ℕ
constant n = codes "#" ++ decimal n

-- a number times `unit`, where those from `half` on are the negative ones, twice `half` less
abbrev pub signed_multiple : (unit half : ℕ) → ℕ → List ℕ
signed_multiple unit half n =
    if nat_lt n half then (codes "#" ++ decimal (unit * n)) else (codes "#-" ++ decimal (unit * (2 * half - n)))

-- a signed number of `width` bits in two's complement, times `unit`
abbrev pub signed_constant : ℕ → ℕ → ℕ → List ℕ
signed_constant unit width n = signed_multiple unit (2 ^ (width - 1)) n

-- a shift to the left, which is left out where it is by 0
abbrev pub lsl_by : ℕ → List ℕ
lsl_by amount = if amount == 0 then [] else (codes ", lsl " ++ constant amount)

-- a shift by its number, which is left out where it is LSL by 0
abbrev pub shift_name : ℕ → List ℕ
shift_name shift = if shift == 0 then codes ", lsl " else (if shift == 1 then codes ", lsr " else (if shift == 2 then codes ", asr " else codes ", ror "))

abbrev pub shifted_by : ℕ → ℕ → List ℕ
shifted_by shift amount = if (shift == 0) && (amount == 0) then [] else (shift_name shift ++ constant amount)

-- ---- addresses: a base register, with an offset in bytes or with a register of offsets
abbrev pub at_offset : ℕ → ℕ → List ℕ
at_offset rn bytes = codes ", [" ++ x_or_sp rn ++ (if bytes == 0 then [] else (comma ++ constant bytes)) ++ codes "]"

abbrev pub at_register : ℕ → ℕ → ℕ → List ℕ
at_register rn rm shift = codes ", [" ++ x_or_sp rn ++ comma ++ x_register rm ++ lsl_by shift ++ codes "]"

-- ---- conditions
abbrev pub cond_names : List (List ℕ)
cond_names =
    codes "eq" ∷ codes "ne" ∷ codes "hs" ∷ codes "lo" ∷ codes "mi" ∷ codes "pl" ∷ codes "vs" ∷ codes "vc"
    ∷ codes "hi" ∷ codes "ls" ∷ codes "ge" ∷ codes "lt" ∷ codes "gt" ∷ codes "le" ∷ codes "al" ∷ []

abbrev pub cond_name : ℕ → List ℕ
cond_name n = slice_index_or cond_names n []

-- ---- SVE: elements and predicates
abbrev pub size_letter : ℕ → List ℕ
size_letter size = slice_index_or (codes "b" ∷ codes "h" ∷ codes "s" ∷ codes "d" ∷ []) size []

-- the arrangement after a register
abbrev pub dotted : ℕ → List ℕ
dotted size = codes "." ++ size_letter size

abbrev pub z_register : ℕ → ℕ → List ℕ
z_register size n = codes "z" ++ decimal n ++ dotted size

-- an address with a vector of offsets
abbrev pub at_vector : ℕ → ℕ → List ℕ
at_vector rn zm = codes ", [" ++ x_or_sp rn ++ comma ++ z_register 3 zm ++ codes "]"

abbrev pub p_register : ℕ → List ℕ
p_register n = codes "p" ++ decimal n

-- what a load or a store accesses: a byte, a halfword, a word or a doubleword
abbrev pub access_letter : ℕ → List ℕ
access_letter size = slice_index_or (codes "b" ∷ codes "h" ∷ codes "w" ∷ codes "d" ∷ []) size []
