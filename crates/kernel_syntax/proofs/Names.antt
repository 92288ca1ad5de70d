-- A name and the mark after it, read at once.
use Rattle.std.proofs.Common.{◌≡◌, List, ℕ, Result, Ok, Err, refl, ap, ◌∙◌}
use Rattle.kernel_tree.specs.declared.mark.Mark.{Mark}
use Rattle.kernel_tree.specs.TextToken.{TextToken}
use Rattle.expression_syntax.specs.declared.stop.Stop.{Stop}
use Rattle.expression_syntax.specs.declared.stop.Stop.TheVariants as stop
use Rattle.expression_syntax.specs.Reading.{◌>>=◌, Fails, Misses, name_at, past, name_before}

abbrev both : List ℕ → List TextToken → List ℕ × List TextToken
both x rest = (x, rest)

abbrev with_name : List ℕ → List TextToken → Result (List ℕ × List TextToken) ℕ
with_name x rest = Ok (both x rest)

-- the name, the tokens after it, and the mark at their front
pub record Named (m : Mark) (words : List TextToken) (name : List ℕ) (rest : List TextToken) : Type 0 where
  pub next : List TextToken
  pub read : name_at words ≡ Ok (name, next)
  pub marked : past m next ≡ Ok rest

pub names : (m : Mark) (words : List TextToken) (name : List ℕ) (rest : List TextToken) → name_before m words ≡ Ok (name, rest) → Named m words name rest
unfolding name_before
names m words name rest e = go (name_at words) refl e
  where
    marks : (x : List ℕ × List TextToken) (r : Result (List TextToken) ℕ) → name_at words ≡ Ok x → past m x.1 ≡ r → (r >>= with_name x.0) ≡ Ok (name, rest) → Named m words name rest
    marks x (Ok to) p q e =
        let same : both x.0 to ≡ both name rest = cc in
        let is : x.0 ≡ name = ap (λ (y : List ℕ × List TextToken). y.0) same in
        let end : to ≡ rest = ap (λ (y : List ℕ × List TextToken). y.1) same in
        record { next = x.1; read = rw (← is) p; marked = rw (← end) q }
    marks x (Err n) p q e = absurd cc

    go : (r : Result (List ℕ × List TextToken) ℕ) → name_at words ≡ r → (r >>= (λ x. past m x.1 >>= with_name x.0)) ≡ Ok (name, rest) → Named m words name rest
    go (Ok x) p e = marks x (past m x.1) p refl e
    go (Err n) p e = absurd cc

pub fails_name : {B : Type 0} (e : Stop) (m : Mark) (words : List TextToken) (f : List ℕ × List TextToken → List TextToken → Result B ℕ) (whole : Result B ℕ) → whole ≡ (name_at words >>= (λ x. past m x.1 >>= f x)) → Misses e (name_before m words) → Fails e whole
unfolding name_before
fails_name stop.Memory m words f whole w h = tt
fails_name (stop.Syntax left) m words f whole w h = w ∙ go (name_at words) h
  where
    marks : (x : List ℕ × List TextToken) (r : Result (List TextToken) ℕ) → (r >>= with_name x.0) ≡ Err left → (r >>= f x) ≡ Err left
    marks x (Ok to) e = absurd cc
    marks x (Err n) e = let same : n ≡ left = cc in ap Err same

    go : (r : Result (List ℕ × List TextToken) ℕ) → (r >>= (λ x. past m x.1 >>= with_name x.0)) ≡ Err left → (r >>= (λ x. past m x.1 >>= f x)) ≡ Err left
    go (Ok x) e = marks x (past m x.1) e
    go (Err n) e = let same : n ≡ left = cc in ap Err same
