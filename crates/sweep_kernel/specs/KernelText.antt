-- The text of the kernel that a sweep compiles.
use Rattle.std.specs.Prelude.{ℕ, List, ◌++◌, codes, decimal}
use Rattle.sweep_kernel.specs.Numbers.{offset_of, level_of, initial_of}

-- up to the initial value of the greatest value
abbrev pub first_part : List ℕ
first_part = codes "kernel sweep(a: [i16], b: [u8], y: [i32], k: i32, n: u64) -> i64 { var s: i64 = 0; var m: i32 = "

-- up to the offset
abbrev pub second_part : List ℕ
second_part = codes "; for i in 0..n { let t = a[i] as i32 * k + b[i + "

-- up to the level
abbrev pub third_part : List ℕ
third_part = codes "] as i32; if t > "

abbrev pub last_part : List ℕ
last_part = codes " || b[i] == 7 { y[i] = t; s += t as i64; } else { m max= t; } } return s + m as i64; }"

-- the text with an initial value, an offset and a level
unfoldable pub text_with : (initial offset level : ℕ) → List ℕ
text_with initial offset level =
    first_part ++ (decimal initial ++ (second_part ++ (decimal offset ++ (third_part ++ (decimal level ++ last_part)))))

-- the text of a seed
abbrev pub kernel_text : ℕ → List ℕ
kernel_text seed = text_with (initial_of seed) (offset_of seed) (level_of seed)
