-- A row of signs, as far as a loop has read it.
use Rattle.std.proofs.Common.{◌≡◌, ℕ, zero, suc, ◌-◌, ◌<◌, List, [], ◌∷◌, ◌++◌, length, Option, Some, None, Ok, Err, refl, sym, ap, ◌∙◌, arith}
use Rattle.std.proofs.lemmas.Option.{none-some, same_Some}
use Rattle.kernel_tree.specs.declared.mark.Mark.{Mark}
use Rattle.kernel_tree.specs.declared.mark.Sign.{Sign}
use Rattle.kernel_tree.specs.declared.mark.Sign.TheVariants as sign
use Rattle.kernel_tree.specs.declared.mark.Opening.{Opening}
use Rattle.kernel_tree.specs.declared.mark.Opening.TheVariants as opening
use Rattle.kernel_tree.specs.TextToken.{TextToken, IsMark}
use Rattle.kernel_tree.specs.Plain.{Term}
use Rattle.kernel_tree.specs.Grammar.{opening_of_mark, signed, number_following}
use Rattle.expression_syntax.specs.declared.stop.Stop.{Stop}
use Rattle.expression_syntax.specs.Reading.{◌>>=◌, Fails, Outcome, mark_at, sign_of, sign_front, signed_by, opened_by, chain_at, unary_at}
use Rattle.expression_syntax.specs.Signs.{all_signed}
use Rattle.expression_syntax.proofs.Chain.{fails_on}
use Rattle.expression_syntax.proofs.Sound.{given_is, mark-is}

pub all_signed-push : (ss : List Sign) (s : Sign) (e : Term) → all_signed (ss ++ s ∷ []) e ≡ all_signed ss (signed s e)
all_signed-push [] s e = refl
all_signed-push (x ∷ ss) s e = ap (signed x) (all_signed-push ss s e)

abbrev following_row : List Sign → Term × List TextToken → Outcome
following_row ss e = Ok (all_signed ss e.0, e.1)

-- the whole is what is read now, after some signs
pub record Wraps (whole : Outcome) (ss : List Sign) (now : Outcome) : Type 0 where
  pub same : (now >>= following_row ss) ≡ whole

pub wraps_none : (whole : Outcome) → Wraps whole [] whole
wraps_none whole = record { same = go whole }
  where
    go : (r : Outcome) → (r >>= following_row []) ≡ r
    go (Ok e) = refl
    go (Err n) = refl

no_number : (s : Sign) (m : Mark) (rest : List TextToken) → number_following s (IsMark m ∷ rest) ≡ None
no_number sign.Minus m rest = refl
no_number other m rest = refl

sign_of-is : (o : Option Opening) (rest : List TextToken) (y : Sign × List TextToken) → sign_of o rest ≡ Some y → (o ≡ Some (opening.Signed y.0)) × (rest ≡ y.1)
sign_of-is None rest y e = absurd cc
sign_of-is (Some opening.Group) rest y e = absurd cc
sign_of-is (Some (opening.Pair op)) rest y e = absurd cc
sign_of-is (Some opening.Absolute) rest y e = absurd cc
sign_of-is (Some opening.Choice) rest y e = absurd cc
sign_of-is (Some (opening.Signed s)) rest y e = let p = same_Some (s, rest) y e in (ap (λ (z : Sign × List TextToken). Some (opening.Signed z.0)) p, ap (λ (z : Sign × List TextToken). z.1) p)

record Front (words : List TextToken) (y : Sign × List TextToken) : Type 0 where
  m : Mark
  front : words ≡ IsMark m ∷ y.1
  opens : opening_of_mark m ≡ Some (opening.Signed y.0)

sign-is : (words : List TextToken) (y : Sign × List TextToken) → sign_front words ≡ Some y → Front words y
unfolding sign_front
sign-is words y e =
    let g = given_is (mark_at words) (λ x. sign_of (opening_of_mark x.0) x.1) None (Some y) (none-some y) e in
    let h = sign_of-is (opening_of_mark g.0.0) g.0.1 y g.2 in
    record { m = g.0.0; front = mark-is words g.0 g.1 ∙ ap (λ (z : List TextToken). IsMark g.0.0 ∷ z) h.1; opens = h.0 }

by_opening : (room : ℕ) (s : Sign) (m : Mark) (rest : List TextToken) → signed_by (unary_at (suc room)) s (IsMark m ∷ rest) ≡ (opened_by (chain_at (unary_at room) 10) (unary_at room) (opening_of_mark m) rest >>= (λ e. Ok (signed s e.0, e.1)))
unfolding signed_by unary_at
by_opening room s m rest = rw (no_number s m rest) refl

-- after a sign stands another
two_signs : (room : ℕ) (s : Sign) (m : Mark) (t : Sign) (rest : List TextToken) → opening_of_mark m ≡ Some (opening.Signed t) → signed_by (unary_at (suc room)) s (IsMark m ∷ rest) ≡ (signed_by (unary_at room) t rest >>= (λ e. Ok (signed s e.0, e.1)))
two_signs room s m t rest o = by_opening room s m rest ∙ ap (λ (p : Option Opening). opened_by (chain_at (unary_at room) 10) (unary_at room) p rest >>= (λ e. Ok (signed s e.0, e.1))) o

no_room : (s : Sign) (m : Mark) (rest : List TextToken) → signed_by (unary_at 0) s (IsMark m ∷ rest) ≡ Err (suc (length rest))
unfolding signed_by unary_at
no_room s m rest = rw (no_number s m rest) refl

again : (room : ℕ) (s : Sign) (words : List TextToken) (t : Sign) (rest : List TextToken) → 0 < room → Some (t, rest) ≡ sign_front words → signed_by (unary_at room) s words ≡ (signed_by (unary_at (room - 1)) t rest >>= (λ e. Ok (signed s e.0, e.1)))
again zero s words t rest h e = absurd (omega arith)
again (suc room) s words t rest h e =
    let f = sign-is words (t, rest) (sym e) in
    let p : suc room - 1 ≡ room = omega arith in
    rw p (ap (signed_by (unary_at (suc room)) s) f.front ∙ two_signs room s f.m t rest f.opens)

pub wraps_more : (whole : Outcome) (ss : List Sign) (room : ℕ) (s : Sign) (words : List TextToken) (t : Sign) (rest : List TextToken) → Wraps whole ss (signed_by (unary_at room) s words) → 0 < room → Some (t, rest) ≡ sign_front words → Wraps whole (ss ++ s ∷ []) (signed_by (unary_at (room - 1)) t rest)
wraps_more whole ss room s words t rest w h e = record { same = go (signed_by (unary_at (room - 1)) t rest) ∙ ap (λ r. r >>= following_row ss) (sym (again room s words t rest h e)) ∙ w.same }
  where
    go : (r : Outcome) → (r >>= following_row (ss ++ s ∷ [])) ≡ ((r >>= (λ e. Ok (signed s e.0, e.1))) >>= following_row ss)
    go (Ok e) = ap (λ z. Ok (z, e.1)) (all_signed-push ss s e.0)
    go (Err n) = refl

pub wraps_stops : (whole : Outcome) (ss : List Sign) (room : ℕ) (s : Sign) (words : List TextToken) (t : Sign) (rest : List TextToken) → Wraps whole ss (signed_by (unary_at room) s words) → room ≡ 0 → Some (t, rest) ≡ sign_front words → whole ≡ Err (length words)
wraps_stops whole ss room s words t rest w z e =
    let f = sign-is words (t, rest) (sym e) in
    let none : signed_by (unary_at room) s words ≡ Err (length words) = rw (z, f.front) (no_room s f.m rest) in
    sym w.same ∙ ap (λ r. r >>= following_row ss) none

pub wraps_fails : (whole : Outcome) (ss : List Sign) (now : Outcome) (e : Stop) → Wraps whole ss now → Fails e now → Fails e whole
wraps_fails whole ss now e w h = fails_on e now (following_row ss) whole (sym w.same) h

pub wraps_all : (whole : Outcome) (ss : List Sign) (now : Outcome) (e : Term) (rest : List TextToken) → Wraps whole ss now → now ≡ Ok (e, rest) → whole ≡ Ok (all_signed ss e, rest)
wraps_all whole ss now e rest w h = sym w.same ∙ ap (λ r. r >>= following_row ss) h
