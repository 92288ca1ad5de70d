-- What a sweep prints of its run at one vector length.
use Rattle.std.specs.Prelude.{ℕ, ◌+◌, ◌*◌, List, ◌++◌, codes, decimal}
use Rattle.machine_model.specs.OutcomeText.{line_feed}
use Rattle.number_text.specs.Hexadecimal.{hex_text}

-- the length in bits, the result, the steps and the sum of the bytes that were written
abbrev pub length_line : (vl result steps sum : ℕ) → List ℕ
length_line vl result steps sum =
    codes "vl " ++ (decimal vl ++ (codes " result " ++ (hex_text result ++ (codes " steps " ++ (decimal steps ++ (codes " sum " ++ (decimal sum ++ line_feed)))))))

-- the sixteen lengths in order, from 0
abbrev pub length_at : ℕ → ℕ
length_at place = 128 * (place + 1)
