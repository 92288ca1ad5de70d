-- Tables of program headers.
use Rattle.std.proofs.Common.{◌≡◌, ℕ, zero, suc, ◌+◌, ◌*◌, Bool, true, false, cond, List, [], ◌∷◌, ◌++◌, length, filter, Option, Some, None, refl, ap, ◌∙◌, arith}
use Rattle.std.specs.Prelude.{◌&&◌}
use Rattle.std.proofs.lemmas.List.Elements.{All-nil, All-cons}
use Rattle.std.proofs.lemmas.Bool.Decides.{nat_tests}
use Rattle.machine_model.specs.Load.{Segment, segment_at, segments_from, first_bad, is_loaded, is_bad}
use Rattle.elf_image.specs.Loadable.{IsLoadable, AllLoadable}

-- one program header more
pub segments_from_more : (bytes : List ℕ) (at n : ℕ) → segments_from bytes at (n + 1) ≡ segments_from bytes at n ++ segment_at bytes (at + 56 * n) ∷ []
segments_from_more bytes at zero =
    let place : at ≡ at + 56 * 0 = omega arith in
    ap (λ p. segment_at bytes p ∷ []) place
segments_from_more bytes at (suc n) =
    let place : at + 56 + 56 * n ≡ at + 56 * suc n = omega arith in
    let count : suc n + 1 ≡ suc (n + 1) = omega arith in
    ap (segments_from bytes at) count
    ∙ ap (λ rest. segment_at bytes at ∷ rest) (segments_from_more bytes (at + 56) n
    ∙ ap (λ p. segments_from bytes (at + 56) n ++ segment_at bytes p ∷ []) place)

pub length_segments : (bytes : List ℕ) (at n : ℕ) → length (segments_from bytes at n) ≡ n
length_segments bytes at zero = refl
length_segments bytes at (suc n) = ap suc (length_segments bytes (at + 56) n)

-- a segment that is loaded and not bad
loadable : (size : ℕ) (s : Segment) → is_loaded s ≡ true → is_bad size s ≡ false → IsLoadable size s
loadable size s l b = record {
  part = grind (arith, nat_tests);
  in_file = grind (arith, nat_tests);
  in_space = grind (arith, nat_tests);
  some = grind (arith, nat_tests);
}

no_bad : (test : Bool) (index : ℕ) (rest : Option ℕ) → cond test (Some index) rest ≡ None → (test ≡ false) × (rest ≡ None)
no_bad true index rest e = absurd cc
no_bad false index rest e = (refl, e)

kept : (size : ℕ) (s : Segment) (rest : List Segment) (l : Bool) → is_loaded s ≡ l → (l && is_bad size s) ≡ false → AllLoadable size rest → AllLoadable size (cond l (s ∷ rest) rest)
kept size s rest true e b all = All-cons (IsLoadable size) s rest (loadable size s e b) all
kept size s rest false e b all = all

-- where no segment is bad, those that are loaded can be
pub loadable_from_none : (size index : ℕ) (segments : List Segment) → first_bad size index segments ≡ None → AllLoadable size (filter is_loaded segments)
loadable_from_none size index [] e = All-nil (IsLoadable size)
loadable_from_none size index (s ∷ segments) e =
    let h = no_bad (is_loaded s && is_bad size s) index (first_bad size (index + 1) segments) e in
    kept size s (filter is_loaded segments) (is_loaded s) refl h.0 (loadable_from_none size (index + 1) segments h.1)
