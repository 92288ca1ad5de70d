-- The registers that all compiled code uses, by what they hold.
use Rattle.std.specs.Prelude.{ℕ}

-- ---- general registers

-- X9: the iteration; in vector code that of the first lane
abbrev pub iteration : ℕ
iteration = 9

-- X8, in vector code: the last iteration from which a whole turn of passes is left
abbrev pub turn_limit : ℕ
turn_limit = 8

-- X8, in scalar code: the first of the registers of what a loop holds throughout; the others are below it
abbrev pub highest_held : ℕ
highest_held = 8

-- X8, at SVC: the number of the call
abbrev pub call_number : ℕ
call_number = 8

-- X26 and X27, which hold nothing from one item to the next
abbrev pub scratch : ℕ
scratch = 26

abbrev pub second_scratch : ℕ
second_scratch = 27

-- the zero register
abbrev pub xzr : ℕ
xzr = 31

-- ---- predicate registers

-- P0: the lanes that are left
abbrev pub lanes_left : ℕ
lanes_left = 0

-- P1, which is all true
abbrev pub all_true : ℕ
all_true = 1

-- P2: the first of those that hold conditions
abbrev pub first_condition_register : ℕ
first_condition_register = 2

-- ---- vector registers

-- Z31, which holds nothing from one item to the next
abbrev pub scratch_vector : ℕ
scratch_vector = 31
