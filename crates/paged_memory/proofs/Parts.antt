-- Parts of a list replaced by others of the same length.
use Rattle.std.proofs.Common.{◌≡◌, ℕ, ◌+◌, ◌-◌, ◌≤◌, ◌⊎◌, inl, inr, List, ◌++◌, length, take, drop, refl, sym, ap, ap₂, ◌∙◌, arith, append_assoc, length-append}
use Rattle.std.proofs.lemmas.List.{length-take-le, length-take, length-drop, take-append-drop, take-append-le, drop-append-le, drop-drop, drop-take, take-take, take_at, drop_at}
use Rattle.std.proofs.Math.Seq.{take-append-add, drop-append-add}

-- a list with others in place of as many from a place on
abbrev pub put_at : ℕ → List ℕ → List ℕ → List ℕ
put_at start bytes all = take start all ++ (bytes ++ drop (length bytes) (drop start all))

pub length-put_at : (at : ℕ) (w bs : List ℕ) → at + length w ≤ length bs → length (put_at at w bs) ≡ length bs
length-put_at at w bs fits =
    length-append (take at bs) (w ++ drop (length w) (drop at bs))
    ∙ omega (arith, length-append w (drop (length w) (drop at bs)), length-take-le at bs (omega arith), length-drop (length w) (drop at bs), length-drop at bs)

-- within the first n of a list
put_at-take : (n at : ℕ) (w bs : List ℕ) → at + length w ≤ n → n ≤ length bs → put_at at w (take n bs) ≡ take n (put_at at w bs)
put_at-take n at w bs fits inside =
    let rest : n ≡ at + (length w + (n - at - length w)) = omega arith in
    let front : take at (take n bs) ≡ take at bs = take-take at n bs (omega arith) in
    let back : drop (length w) (drop at (take n bs)) ≡ take (n - at - length w) (drop (length w) (drop at bs)) =
    ap (λ m. drop (length w) (drop at (take m bs))) rest
    ∙ ap (drop (length w)) (drop-take at (length w + (n - at - length w)) bs)
    ∙ drop-take (length w) (n - at - length w) (drop at bs) in
    ap₂ (λ l r. l ++ (w ++ r)) front back ∙ sym (
    ap (λ m. take m (take at bs ++ (w ++ drop (length w) (drop at bs)))) (rest ∙ ap (λ k. k + (length w + (n - at - length w))) (sym (length-take-le at bs (omega arith))))
    ∙ take-append-add (take at bs) (w ++ drop (length w) (drop at bs)) (length w + (n - at - length w))
    ∙ ap (λ l. take at bs ++ l) (take-append-add w (drop (length w) (drop at bs)) (n - at - length w))
    )

-- what stands after the first n
put_at-drop : (n at : ℕ) (w bs : List ℕ) → at + length w ≤ n → n ≤ length bs → drop n bs ≡ drop n (put_at at w bs)
put_at-drop n at w bs fits inside =
    let rest : n ≡ at + (length w + (n - at - length w)) = omega arith in
    sym (
    ap (λ m. drop m (take at bs ++ (w ++ drop (length w) (drop at bs)))) (rest ∙ ap (λ k. k + (length w + (n - at - length w))) (sym (length-take-le at bs (omega arith))))
    ∙ drop-append-add (take at bs) (w ++ drop (length w) (drop at bs)) (length w + (n - at - length w))
    ∙ drop-append-add w (drop (length w) (drop at bs)) (n - at - length w)
    ∙ drop-drop (n - at - length w) (length w) (drop at bs) ∙ drop-drop (length w + (n - at - length w)) at bs ∙ ap (λ m. drop m bs) (sym rest)
    )

-- and after the first n, counted from there
put_at-up : (n at : ℕ) (w bs : List ℕ) → n ≤ length bs → (take n bs ≡ take n (put_at (n + at) w bs)) × (put_at at w (drop n bs) ≡ drop n (put_at (n + at) w bs))
put_at-up n at w bs inside =
    let whole = take-append-drop n bs in
    let long = length-take-le n bs inside in
    let same : put_at (n + at) w bs ≡ take n bs ++ put_at at w (drop n bs) =
    ap₂ (λ l r. l ++ (w ++ drop (length w) r))
    (ap (take (n + at)) (sym whole) ∙ ap (λ k. take (k + at) (take n bs ++ drop n bs)) (sym long) ∙ take-append-add (take n bs) (drop n bs) at)
    (sym (drop-drop at n bs))
    ∙ append_assoc (take n bs) (take at (drop n bs)) (w ++ drop (length w) (drop at (drop n bs))) in (
      sym (ap (take n) same ∙ take_at (take n bs) (put_at at w (drop n bs)) n long),
      sym (ap (drop n) same ∙ drop_at (take n bs) (put_at at w (drop n bs)) n long),
    )

-- the n bytes from a place on, of which some are replaced
pub part-here : (n start o : ℕ) (w bs : List ℕ) → start + n ≤ length bs → o + length w ≤ n → take n (drop start (put_at (start + o) w bs)) ≡ put_at o w (take n (drop start bs))
part-here n start o w bs inside fits =
    ap (take n) (sym (put_at-up start o w bs (omega arith)).1)
    ∙ sym (put_at-take n o w (drop start bs) fits (omega (arith, length-drop start bs)))

-- and of which none is
pub part-other : (n start at : ℕ) (w bs : List ℕ) → start + n ≤ length bs → (start + n ≤ at) ⊎ (at + length w ≤ start) → take n (drop start (put_at at w bs)) ≡ take n (drop start bs)
part-other n start at w bs inside (inl before) =
    let e : at ≡ start + (n + (at - start - n)) = omega arith in
    ap (λ k. take n (drop start (put_at k w bs))) e
    ∙ ap (take n) (sym (put_at-up start (n + (at - start - n)) w bs (omega arith)).1)
    ∙ sym (put_at-up n (at - start - n) w (drop start bs) (omega (arith, length-drop start bs))).0
part-other n start at w bs inside (inr after) = ap (take n) (sym (put_at-drop start at w bs after (omega arith)))

-- with more behind
pub part-more : (n start : ℕ) (bs more : List ℕ) → start + n ≤ length bs → take n (drop start (bs ++ more)) ≡ take n (drop start bs)
part-more n start bs more inside =
    ap (take n) (drop-append-le start bs more (omega arith)) ∙ take-append-le n (drop start bs) more (omega (arith, length-drop start bs))

-- and with nothing behind
pub part-cut : (n start end : ℕ) (bs : List ℕ) → start + n ≤ length bs → start + n ≤ end → take n (drop start (take end bs)) ≡ take n (drop start bs)
part-cut n start end bs inside fits =
    sym (part-more n start (take end bs) (drop end bs) (omega (arith, inside, fits, length-take end bs))) ∙ ap (λ l. take n (drop start l)) (take-append-drop end bs)

-- what was put after others
pub part-last : (n : ℕ) (bs page more : List ℕ) → length page ≡ n → take n (drop (length bs) (bs ++ (page ++ more))) ≡ page
part-last n bs page more long = ap (take n) (drop_at bs (page ++ more) (length bs) refl) ∙ take_at page more n long
