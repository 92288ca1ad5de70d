-- The numbers that a sweep draws, by the linear congruential generator of Knuth's MMIX.
use Rattle.std.specs.Prelude.{ℕ, zero, suc, ◌+◌, ◌*◌, ◌/◌, ◌%◌, ◌^◌, List, [], ◌∷◌}

-- the state of the generator after a state
unfoldable pub next : ℕ → ℕ
next x = (6364136223846793005 * x + 1442695040888963407) % 2 ^ 64

-- the state after j steps
unfoldable pub state_at : ℕ → ℕ → ℕ
state_at seed zero = seed
state_at seed (suc j) = next (state_at seed j)

-- the number that a state gives: its top 16 bits
abbrev pub drawn : ℕ → ℕ
drawn x = x / 2 ^ 48

-- the j-th number of a seed
abbrev pub random : ℕ → ℕ → ℕ
random seed j = drawn (state_at seed j)

-- the offset of the second array, below 9
abbrev pub offset_of : ℕ → ℕ
offset_of seed = random seed 1 % 9

-- the number that values are compared with, below 1,000
abbrev pub level_of : ℕ → ℕ
level_of seed = random seed 2 % 1000

-- what the greatest value begins with, below 100
abbrev pub initial_of : ℕ → ℕ
initial_of seed = random seed 3 % 100

-- the factor of the first array
abbrev pub factor_of : ℕ → ℕ
factor_of seed = random seed 4

-- the number of iterations
abbrev pub count_of : ℕ → ℕ
count_of seed = 100000 + random seed 5 % 1000

-- the addresses of the three arrays, the factor and the number of iterations
abbrev pub arguments_of : ℕ → List ℕ
arguments_of seed = 0x1000000 ∷ 0x2000000 ∷ 0x3000000 ∷ factor_of seed ∷ count_of seed ∷ []
