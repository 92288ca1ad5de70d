-- Fields of a file, read from the rest of it.
use Rattle.std.proofs.Common.{◌≡◌, ℕ, zero, suc, ◌+◌, List, drop, get_or, refl, ap, ◌∙◌, sym, arith}
use Rattle.std.proofs.lemmas.List.{get_or-drop}
use Rattle.byteorder.specs.Endian.{little_from, little_number}
use Rattle.machine_model.specs.Load.{le_at}

field_from : (n i at place : ℕ) (bytes : List ℕ) → place ≡ at + i → little_from i n (drop at bytes) ≡ le_at bytes place n
field_from zero i at place bytes e = refl
field_from (suc n) i at place bytes e =
    let head : get_or (drop at bytes) i 0 ≡ get_or bytes place 0 = get_or-drop at bytes i 0 ∙ ap (λ p. get_or bytes p 0) (sym e) in
    let tail = field_from n (suc i) at (place + 1) bytes (omega arith) in
    omega arith

pub field_is : (n at : ℕ) (bytes : List ℕ) → little_number n (drop at bytes) ≡ le_at bytes at n
field_is n at bytes = field_from n 0 at at bytes (omega arith)
