-- Parameters and accumulators, as far as loops have read them.
use Rattle.std.proofs.Common.{◌≡◌, ℕ, zero, suc, ◌-◌, ◌<◌, List, [], ◌∷◌, ◌++◌, length, Option, Some, None, Ok, Err, refl, sym, ap, ◌∙◌, arith, append_assoc}
use Rattle.std.proofs.lemmas.List.{append-nil}
use Rattle.kernel_tree.specs.declared.mark.Mark.TheVariants as mark
use Rattle.kernel_tree.specs.TextToken.{TextToken}
use Rattle.kernel_tree.specs.Plain.{Parameter, Accumulator}
use Rattle.expression_syntax.specs.declared.stop.Stop.{Stop}
use Rattle.expression_syntax.specs.Reading.{◌>>=◌, Fails, Misses, given, following, past}
use Rattle.kernel_syntax.specs.Headers.{Read, param_at, some_at, params_at, var_at, vars_by, vars_at}
use Rattle.expression_syntax.proofs.Chain.{fails_on, missed_on}
use Rattle.kernel_syntax.proofs.Blocks.{bind_assoc}

-- what was read in front of more
abbrev pub in_list : {A : Type 0} → List A → List A × List TextToken → Read (List A)
in_list xs r = Ok (xs ++ r.0, r.1)

in_list_of_push : {A : Type 0} (xs : List A) (x : A) (r : Read (List A)) → (r >>= (λ b. in_list xs (x ∷ b.0, b.1))) ≡ (r >>= in_list (xs ++ x ∷ []))
in_list_of_push xs x (Ok b) = ap (λ l. Ok (l, b.1)) (sym (append_assoc xs (x ∷ []) b.0))
in_list_of_push xs x (Err e) = refl

nothing_before : {A : Type 0} (r : Read (List A)) → (r >>= in_list []) ≡ r
nothing_before (Ok b) = refl
nothing_before (Err e) = refl

-- ---- parameters

abbrev others_next : ℕ → Parameter × List TextToken → Read (List Parameter)
others_next zero p = Err (length p.1)
others_next (suc others) p = past mark.Comma p.1 >>= (λ next. some_at others next >>= (λ ps. Ok (p.0 ∷ ps.0, ps.1)))

abbrev by_param : ℕ → Parameter × List TextToken → Read (List Parameter)
by_param others p = given (following mark.CloseParen p.1) (λ rest. Ok (p.0 ∷ [], rest)) (others_next others p)

some-is : (others : ℕ) (words : List TextToken) → some_at others words ≡ (param_at words >>= by_param others)
unfolding some_at
some-is zero words = refl
some-is (suc others) words = refl

-- parameters are read from some tokens as the rest of them is from what is left
pub record ParamsFollow (whole : Read (List Parameter)) (others : ℕ) (ps : List Parameter) (rest : List TextToken) : Type 0 where
  pub same : (some_at others rest >>= in_list ps) ≡ whole

pub params_start : (words : List TextToken) → None ≡ following mark.CloseParen words → ParamsFollow (params_at words) 7 [] words
unfolding params_at
params_start words e = record { same = nothing_before (some_at 7 words) ∙ ap (λ o. given o (λ rest. Ok ([], rest)) (some_at 7 words)) e }

module _ (whole : Read (List Parameter)) (others : ℕ) (ps : List Parameter) (rest : List TextToken) (f : ParamsFollow whole others ps rest) where
  first : whole ≡ (param_at rest >>= (λ p. by_param others p >>= in_list ps))
  first = sym f.same ∙ ap (λ r. r >>= in_list ps) (some-is others rest) ∙ bind_assoc (param_at rest) (by_param others) (in_list ps)

  pub fails_param : (e : Stop) → Fails e (param_at rest) → Fails e whole
  fails_param e h = fails_on e (param_at rest) (λ p. by_param others p >>= in_list ps) whole first h

  params_go_by_one : (p : Parameter) (next : List TextToken) (o : Option (List TextToken)) → param_at rest ≡ Ok (p, next) → o ≡ following mark.CloseParen next → whole ≡ (given o (λ r. Ok (p ∷ [], r)) (others_next others (p, next)) >>= in_list ps)
  params_go_by_one p next o h e = first ∙ ap (λ r. r >>= (λ p. by_param others p >>= in_list ps)) h ∙ ap (λ o. given o (λ r. Ok (p ∷ [], r)) (others_next others (p, next)) >>= in_list ps) (sym e)

  pub ends_params : (p : Parameter) (next end : List TextToken) → param_at rest ≡ Ok (p, next) → Some end ≡ following mark.CloseParen next → whole ≡ Ok (ps ++ p ∷ [], end)
  ends_params p next end h e = params_go_by_one p next (Some end) h e

  pub full_params : (p : Parameter) (next : List TextToken) → others ≡ 0 → param_at rest ≡ Ok (p, next) → None ≡ following mark.CloseParen next → whole ≡ Err (length next)
  full_params p next z h e = params_go_by_one p next None h e ∙ ap (λ k. others_next k (p, next) >>= in_list ps) z

  comma : (p : Parameter) (next : List TextToken) (k : ℕ) → others ≡ suc k → param_at rest ≡ Ok (p, next) → None ≡ following mark.CloseParen next → whole ≡ (past mark.Comma next >>= (λ to. (some_at k to >>= (λ ps. Ok (p ∷ ps.0, ps.1))) >>= in_list ps))
  comma p next k z h e = params_go_by_one p next None h e ∙ ap (λ k. others_next k (p, next) >>= in_list ps) z ∙ bind_assoc (past mark.Comma next) (λ to. some_at k to >>= (λ ps. Ok (p ∷ ps.0, ps.1))) (in_list ps)

  pub fails_comma : (p : Parameter) (next : List TextToken) (e : Stop) → 0 < others → param_at rest ≡ Ok (p, next) → None ≡ following mark.CloseParen next → Misses e (past mark.Comma next) → Fails e whole
  fails_comma p next e z h n q =
      let k : others ≡ suc (others - 1) = omega arith in
      missed_on e (past mark.Comma next) (λ to. (some_at (others - 1) to >>= (λ ps. Ok (p ∷ ps.0, ps.1))) >>= in_list ps) whole (comma p next (others - 1) k h n) q

  pub takes_param : (p : Parameter) (next to : List TextToken) → 0 < others → param_at rest ≡ Ok (p, next) → None ≡ following mark.CloseParen next → past mark.Comma next ≡ Ok to → ParamsFollow whole (others - 1) (ps ++ p ∷ []) to
  takes_param p next to z h n q =
      let k : others ≡ suc (others - 1) = omega arith in
      let went = comma p next (others - 1) k h n ∙ ap (λ r. r >>= (λ to. (some_at (others - 1) to >>= (λ ps. Ok (p ∷ ps.0, ps.1))) >>= in_list ps)) q in
      record { same = sym (went ∙ bind_assoc (some_at (others - 1) to) (λ ps. Ok (p ∷ ps.0, ps.1)) (in_list ps) ∙ in_list_of_push ps p (some_at (others - 1) to)) }

-- ---- accumulators

pub record VarsFollow (whole : Read (List Accumulator)) (vs : List Accumulator) (rest : List TextToken) : Type 0 where
  pub room : ℕ
  pub enough : length rest < suc room
  pub same : (vars_by (suc room) rest >>= in_list vs) ≡ whole

pub vars_start : (words : List TextToken) → VarsFollow (vars_at words) [] words
unfolding vars_at
vars_start words = record { room = length words; enough = omega arith; same = nothing_before (vars_by (suc (length words)) words) }

module _ (whole : Read (List Accumulator)) (vs : List Accumulator) (rest : List TextToken) (f : VarsFollow whole vs rest) where
  vars_follow_on : (o : Option (List TextToken)) → o ≡ following mark.Var rest → whole ≡ (given o (λ rest. var_at rest >>= (λ v. vars_by f.room v.1 >>= (λ vs. Ok (v.0 ∷ vs.0, vs.1)))) (Ok ([], rest)) >>= in_list vs)
  unfolding vars_by
  vars_follow_on o e = sym f.same ∙ ap (λ o. given o (λ rest. var_at rest >>= (λ v. vars_by f.room v.1 >>= (λ vs. Ok (v.0 ∷ vs.0, vs.1)))) (Ok ([], rest)) >>= in_list vs) (sym e)

  pub ends_accumulators : None ≡ following mark.Var rest → whole ≡ Ok (vs, rest)
  ends_accumulators e = vars_follow_on None e ∙ ap (λ l. Ok (l, rest)) (append-nil vs)

  vars_follow_mark : (from : List TextToken) → Some from ≡ following mark.Var rest → whole ≡ (var_at from >>= (λ v. (vars_by f.room v.1 >>= (λ vs. Ok (v.0 ∷ vs.0, vs.1))) >>= in_list vs))
  vars_follow_mark from e = vars_follow_on (Some from) e ∙ bind_assoc (var_at from) (λ v. vars_by f.room v.1 >>= (λ vs. Ok (v.0 ∷ vs.0, vs.1))) (in_list vs)

  pub fails_accumulator : (from : List TextToken) (e : Stop) → Some from ≡ following mark.Var rest → Fails e (var_at from) → Fails e whole
  fails_accumulator from e n h = fails_on e (var_at from) (λ v. (vars_by f.room v.1 >>= (λ vs. Ok (v.0 ∷ vs.0, vs.1))) >>= in_list vs) whole (vars_follow_mark from n) h

  pub takes_accumulator : (from : List TextToken) (v : Accumulator) (next : List TextToken) → Some from ≡ following mark.Var rest → var_at from ≡ Ok (v, next) → length next < length rest → VarsFollow whole (vs ++ v ∷ []) next
  takes_accumulator from v next n h lt =
      let went = vars_follow_mark from n ∙ ap (λ r. r >>= (λ v. (vars_by f.room v.1 >>= (λ vs. Ok (v.0 ∷ vs.0, vs.1))) >>= in_list vs)) h ∙ bind_assoc (vars_by f.room next) (λ vs. Ok (v ∷ vs.0, vs.1)) (in_list vs) ∙ in_list_of_push vs v (vars_by f.room next) in
      let positive : f.room ≡ suc (f.room - 1) = omega (arith, f.enough) in
      record { room = f.room - 1; enough = omega (arith, f.enough); same = rw (← positive) (sym went) }
