-- The words of a constant, half by half.
use Rattle.std.proofs.Common.{◌≡◌, ◌≢◌, ℕ, zero, suc, ◌+◌, ◌<◌, ◌≤◌, ◌∙◌, Bool, true, false, List, [], ◌∷◌, drop, length, get_or, refl, sym, ap, arith, add-one, drop-cons}
use Rattle.std.specs.Prelude.{nat_eq, if◌then◌else◌, Some, None}
use Rattle.std.proofs.lemmas.List.{drop_all}
use Rattle.std.proofs.lemmas.Bool.{ne_eqb, eq-eqb, cond-true, cond-false}
use Rattle.a64_code.specs.Table.{movk}
use Rattle.label_fix.specs.DraftRun.{DraftEntry, ins, word_of}
use Rattle.scalar_words.specs.Words.{filler, start_code, half_word, word_code, filled_code, halves_code}

-- a half that is not the filler; the first of them makes the other halves the filler
abbrev pub half_code : (o begun : Bool) → (d h p : ℕ) → List DraftEntry → List DraftEntry
half_code o begun d h p rest = if begun then ins movk (d ∷ h ∷ p ∷ []) ∷ rest else start_code o d h p rest

-- halves from place p on; where all are the filler, the first one is put
unfoldable pub more_code : (o begun : Bool) → (d first p : ℕ) → List ℕ → List DraftEntry → List DraftEntry
more_code o begun d first p [] rest = if begun then rest else start_code o d first 0 rest
more_code o begun d first p (h ∷ hs) rest = if nat_eq h (filler o) then more_code o begun d first (p + 1) hs rest else half_code o begun d h p (more_code o true d first (p + 1) hs rest)

further : (o : Bool) (d first p h : ℕ) (hs : List ℕ) (rest : List DraftEntry) → more_code o true d first p (h ∷ hs) rest ≡ word_code (half_word d (filler o) h p) (more_code o true d first (p + 1) hs rest)
unfolding more_code
further o d first p h hs rest = by (nat_eq h (filler o)) (more_code o true d first (p + 1) hs rest)
  where
    by : (e : Bool) (more : List DraftEntry) → (if e then more else ins movk (d ∷ h ∷ p ∷ []) ∷ more) ≡ word_code (if e then None else Some (word_of movk (d ∷ h ∷ p ∷ []))) more
    by true more = refl
    by false more = refl

pub halves_are : (o : Bool) (d h0 h1 h2 h3 : ℕ) (rest : List DraftEntry) → more_code o false d h0 0 (h0 ∷ h1 ∷ h2 ∷ h3 ∷ []) rest ≡ halves_code o d h0 h1 h2 h3 rest
unfolding more_code
halves_are o d h0 h1 h2 h3 rest = by (nat_eq h0 (filler o)) (nat_eq h1 (filler o)) (nat_eq h2 (filler o)) (nat_eq h3 (filler o))
  where
    last : more_code o true d h0 3 (h3 ∷ []) rest ≡ word_code (half_word d (filler o) h3 3) rest
    last = further o d h0 3 h3 [] rest

    last_two : more_code o true d h0 2 (h2 ∷ h3 ∷ []) rest ≡ word_code (half_word d (filler o) h2 2) (word_code (half_word d (filler o) h3 3) rest)
    last_two = further o d h0 2 h2 (h3 ∷ []) rest ∙ ap (word_code (half_word d (filler o) h2 2)) last

    by : (e0 e1 e2 e3 : Bool)
        → (if e0 then (if e1 then (if e2 then (if e3 then start_code o d h0 0 rest else start_code o d h3 3 rest) else start_code o d h2 2 (more_code o true d h0 3 (h3 ∷ []) rest))
        else start_code o d h1 1 (more_code o true d h0 2 (h2 ∷ h3 ∷ []) rest)) else start_code o d h0 0 (more_code o true d h0 1 (h1 ∷ h2 ∷ h3 ∷ []) rest))
        ≡ filled_code e0 e1 e2 e3 o d h0 h1 h2 h3 rest
    by false e1 e2 e3 = ap (start_code o d h0 0) (further o d h0 1 h1 (h2 ∷ h3 ∷ []) rest ∙ ap (word_code (half_word d (filler o) h1 1)) last_two)
    by true false e2 e3 = ap (start_code o d h1 1) last_two
    by true true false e3 = ap (start_code o d h2 2) last
    by true true true false = refl
    by true true true true = refl

-- a step of the loop over the halves
module _ (o begun : Bool) (d first p : ℕ) (hs : List ℕ) (i : ℕ) (rest : List DraftEntry) where
  more_at : i < length hs → more_code o begun d first p (drop i hs) rest ≡ more_code o begun d first p (get_or hs i 0 ∷ drop (i + 1) hs) rest
  more_at lt = ap (λ l. more_code o begun d first p l rest) (drop-cons hs i 0 lt ∙ ap (λ n. get_or hs i 0 ∷ drop n hs) (sym (add-one i)))

  pub put_half : i < length hs → get_or hs i 0 ≢ filler o → half_code o begun d (get_or hs i 0) p (more_code o true d first (p + 1) (drop (i + 1) hs) rest) ≡ more_code o begun d first p (drop i hs) rest
  unfolding more_code
  put_half lt ne = sym (more_at lt ∙ cond-false _ _ _ (ne_eqb (get_or hs i 0) (filler o) ne))

  pub pass_half : i < length hs → get_or hs i 0 ≡ filler o → more_code o begun d first (p + 1) (drop (i + 1) hs) rest ≡ more_code o begun d first p (drop i hs) rest
  unfolding more_code
  pass_half lt e = sym (more_at lt ∙ cond-true _ _ _ (eq-eqb (get_or hs i 0) (filler o) e))

  pub after_halves : length hs ≤ i → more_code o begun d first p (drop i hs) rest ≡ (if begun then rest else start_code o d first 0 rest)
  unfolding more_code
  after_halves le = ap (λ l. more_code o begun d first p l rest) (drop_all i hs le)

pub half_below : (n h0 h1 h2 h3 i : ℕ) → h0 < n → h1 < n → h2 < n → h3 < n → get_or (h0 ∷ h1 ∷ h2 ∷ h3 ∷ []) i 0 < n
half_below n h0 h1 h2 h3 zero a b c d = a
half_below n h0 h1 h2 h3 (suc zero) a b c d = b
half_below n h0 h1 h2 h3 (suc (suc zero)) a b c d = c
half_below n h0 h1 h2 h3 (suc (suc (suc zero))) a b c d = d
half_below n h0 h1 h2 h3 (suc (suc (suc (suc i)))) a b c d = omega (arith, a)

-- the first of four halves
pub zero_below_4 : 0 < 4
zero_below_4 = omega arith
