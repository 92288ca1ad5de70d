-- A chain of operators of one level, as far as a loop has read it.
use Rattle.std.proofs.Common.{◌≡◌, ℕ, zero, suc, ◌-◌, ◌<◌, Bool, true, false, List, length, Some, None, Result, Ok, Err, refl, sym, ap, subst, ◌∙◌, arith}
use Rattle.std.specs.Prelude.{pos}
use Rattle.kernel_tree.specs.declared.ops.Ty.{Ty}
use Rattle.kernel_tree.specs.declared.ops.CompareOp.{CompareOp}
use Rattle.kernel_tree.specs.declared.mark.Joint.{Joint}
use Rattle.kernel_tree.specs.declared.mark.Operator.{Operator}
use Rattle.kernel_tree.specs.declared.mark.Operator.TheVariants.{Joined, Compared, Shifted, As}
use Rattle.kernel_tree.specs.TextToken.{TextToken}
use Rattle.kernel_tree.specs.Plain.{Term, Comparison, Conversion, Shift}
use Rattle.kernel_tree.specs.Grammar.{joined}
use Rattle.expression_syntax.specs.declared.stop.Stop.{Stop}
use Rattle.expression_syntax.specs.declared.stop.Stop.TheVariants as stop
use Rattle.expression_syntax.specs.Operands.{joined_by, compared_by, shifted_by, converted_by, extended_by, is_comparison}
use Rattle.expression_syntax.specs.Reading.{◌>>=◌, Fails, Misses, given, Outcome, by_operator, operator_at, type_at, count_at, more, chain_at}

pub chain-zero : (unary : List TextToken → Outcome) (level : ℕ) (words : List TextToken) → level ≡ 0 → chain_at unary level words ≡ unary words
unfolding chain_at
chain-zero unary level words e = rw e refl

pub chain-above : (unary : List TextToken → Outcome) (level : ℕ) (words : List TextToken) → 0 < level → chain_at unary level words ≡ (chain_at unary (level - 1) words >>= (λ x. more (chain_at unary (level - 1)) level (suc (length x.1)) x.0 x.1))
unfolding chain_at
chain-above unary zero words h = absurd (omega arith)
chain-above unary (suc level) words h = let e : suc level - 1 ≡ level = omega arith in rw e refl

pub fails_on : {A B : Type 0} (e : Stop) (read : Result A ℕ) (f : A → Result B ℕ) (whole : Result B ℕ) → whole ≡ (read >>= f) → Fails e read → Fails e whole
fails_on stop.Memory read f whole w h = tt
fails_on (stop.Syntax left) read f whole w h = w ∙ ap (λ r. r >>= f) h

pub missed : {A : Type 0} (e : Stop) (read : Result A ℕ) → Misses e read → Fails e read
missed stop.Memory read h = tt
missed (stop.Syntax left) read h = h

-- the same after a reader that takes no memory
pub missed_on : {A B : Type 0} (e : Stop) (read : Result A ℕ) (f : A → Result B ℕ) (whole : Result B ℕ) → whole ≡ (read >>= f) → Misses e read → Fails e whole
missed_on e read f whole w h = fails_on e read f whole w (missed e read h)

-- what is read is made into an expression, with which the chain goes on
ok_made : {A : Type 0} (read : Result A ℕ) (made : A → Term × List TextToken) (again : Term → List TextToken → Outcome) (new : Term) (next : List TextToken) → (read >>= (λ r. Ok (made r))) ≡ Ok (new, next) → (read >>= (λ r. again (made r).0 (made r).1)) ≡ again new next
ok_made (Ok r) made again new next e = let same : made r ≡ (new, next) = cc in ap (λ (x : Term × List TextToken). again x.0 x.1) same
ok_made (Err n) made again new next e = absurd cc

fails_made : {A : Type 0} (f : Stop) (read : Result A ℕ) (made : A → Term × List TextToken) (again : Term → List TextToken → Outcome) → Fails f (read >>= (λ r. Ok (made r))) → Fails f (read >>= (λ r. again (made r).0 (made r).1))
fails_made stop.Memory read made again h = tt
fails_made (stop.Syntax left) (Ok r) made again h = absurd cc
fails_made (stop.Syntax left) (Err n) made again h = h

-- the chain from some tokens goes on as it does from what was read of it
pub record Goes (unary : List TextToken → Outcome) (level : ℕ) (words : List TextToken) (left : Term) (rest : List TextToken) : Type 0 where
  pub room : ℕ
  pub enough : length rest < suc room
  pub same : more (chain_at unary (level - 1)) level (suc room) left rest ≡ chain_at unary level words

pub chain_begins_below : (unary : List TextToken → Outcome) (level : ℕ) (words : List TextToken) (left : Term) (rest : List TextToken) → 0 < level → chain_at unary (level - 1) words ≡ Ok (left, rest) → Goes unary level words left rest
chain_begins_below unary level words left rest h e = record {
  room = length rest;
  enough = omega arith;
  same = sym (chain-above unary level words h ∙ ap (λ r. r >>= (λ x. more (chain_at unary (level - 1)) level (suc (length x.1)) x.0 x.1)) e);
}

module _ (unary : List TextToken → Outcome) (level : ℕ) (words : List TextToken) (left : Term) (rest : List TextToken) (goes : Goes unary level words left rest) where
  pub chain_goes_by_operator : (o : Operator) (after : List TextToken) → Some (o, after) ≡ operator_at level rest → chain_at unary level words ≡ by_operator (chain_at unary (level - 1)) (more (chain_at unary (level - 1)) level goes.room) left o after
  unfolding more
  chain_goes_by_operator o after e = sym goes.same ∙ ap (λ x. given x (λ o. by_operator (chain_at unary (level - 1)) (more (chain_at unary (level - 1)) level goes.room) left o.0 o.1) (Ok (left, rest))) (sym e)

  pub chain_without_operator : None ≡ operator_at level rest → chain_at unary level words ≡ Ok (left, rest)
  unfolding more
  chain_without_operator e = sym goes.same ∙ ap (λ x. given x (λ o. by_operator (chain_at unary (level - 1)) (more (chain_at unary (level - 1)) level goes.room) left o.0 o.1) (Ok (left, rest))) (sym e)

  -- after an operator and what it takes
  go_on : (new : Term) (next : List TextToken) → chain_at unary level words ≡ more (chain_at unary (level - 1)) level goes.room new next → length next < length rest → Goes unary level words new next
  go_on new next whole lt =
      let n = goes.room in
      let positive : n ≡ suc (n - 1) = omega (arith, goes.enough) in
      record { room = n - 1; enough = omega (arith, goes.enough); same = rw (← positive) (sym whole) }

  pub goes_joined : (j : Joint) (after : List TextToken) (right : Term) (next : List TextToken) → Some (Joined j, after) ≡ operator_at level rest → chain_at unary (level - 1) after ≡ Ok (right, next) → length next < length rest → Goes unary level words (joined j left right) next
  goes_joined j after right next e r lt = go_on (joined j left right) next (chain_goes_by_operator (Joined j) after e ∙ ap (λ x. x >>= (λ r. more (chain_at unary (level - 1)) level goes.room (joined j left r.0) r.1)) r) lt

  pub goes_shifted : (to_left : Bool) (after : List TextToken) (n : ℕ) (next : List TextToken) → Some (Shifted to_left, after) ≡ operator_at level rest → count_at after ≡ Ok (n, next) → length next < length rest → Goes unary level words (Shift to_left left (pos n)) next
  goes_shifted to_left after n next e r lt = go_on (Shift to_left left (pos n)) next (chain_goes_by_operator (Shifted to_left) after e ∙ ap (λ x. x >>= (λ n. more (chain_at unary (level - 1)) level goes.room (Shift to_left left (pos n.0)) n.1)) r) lt

  pub goes_as : (after : List TextToken) (t : Ty) (next : List TextToken) → Some (As, after) ≡ operator_at level rest → type_at after ≡ Ok (t, next) → length next < length rest → Goes unary level words (Conversion left t) next
  goes_as after t next e r lt = go_on (Conversion left t) next (chain_goes_by_operator As after e ∙ ap (λ x. x >>= (λ t. more (chain_at unary (level - 1)) level goes.room (Conversion left t.0) t.1)) r) lt

  pub ends_compared : (op : CompareOp) (after : List TextToken) (right : Term) (next : List TextToken) → Some (Compared op, after) ≡ operator_at level rest → chain_at unary (level - 1) after ≡ Ok (right, next) → chain_at unary level words ≡ Ok (Comparison op left right, next)
  ends_compared op after right next e r = chain_goes_by_operator (Compared op) after e ∙ ap (λ x. x >>= (λ r. Ok (Comparison op left r.0, r.1))) r

  -- by what is read after an operator
  pub takes_joined : (j : Joint) (after : List TextToken) (new : Term) (next : List TextToken) → Some (Joined j, after) ≡ operator_at level rest → joined_by (chain_at unary (level - 1)) j left after ≡ Ok (new, next) → length next < length rest → Goes unary level words new next
  unfolding joined_by
  takes_joined j after new next e r lt = go_on new next (chain_goes_by_operator (Joined j) after e ∙ ok_made (chain_at unary (level - 1) after) (λ r. (joined j left r.0, r.1)) (more (chain_at unary (level - 1)) level goes.room) new next r) lt

  pub takes_shifted : (to_left : Bool) (after : List TextToken) (new : Term) (next : List TextToken) → Some (Shifted to_left, after) ≡ operator_at level rest → shifted_by to_left left after ≡ Ok (new, next) → length next < length rest → Goes unary level words new next
  unfolding shifted_by
  takes_shifted to_left after new next e r lt = go_on new next (chain_goes_by_operator (Shifted to_left) after e ∙ ok_made (count_at after) (λ n. (Shift to_left left (pos n.0), n.1)) (more (chain_at unary (level - 1)) level goes.room) new next r) lt

  pub takes_as : (after : List TextToken) (new : Term) (next : List TextToken) → Some (As, after) ≡ operator_at level rest → converted_by left after ≡ Ok (new, next) → length next < length rest → Goes unary level words new next
  unfolding converted_by
  takes_as after new next e r lt = go_on new next (chain_goes_by_operator As after e ∙ ok_made (type_at after) (λ t. (Conversion left t.0, t.1)) (more (chain_at unary (level - 1)) level goes.room) new next r) lt

  pub compared_is : (op : CompareOp) (after : List TextToken) → Some (Compared op, after) ≡ operator_at level rest → chain_at unary level words ≡ compared_by (chain_at unary (level - 1)) op left after
  unfolding compared_by
  compared_is op after e = chain_goes_by_operator (Compared op) after e

  pub refuses_joined : (j : Joint) (after : List TextToken) (f : Stop) → Some (Joined j, after) ≡ operator_at level rest → Fails f (joined_by (chain_at unary (level - 1)) j left after) → Fails f (chain_at unary level words)
  unfolding joined_by
  refuses_joined j after f e h = subst (Fails f) (sym (chain_goes_by_operator (Joined j) after e)) (fails_made f (chain_at unary (level - 1) after) (λ r. (joined j left r.0, r.1)) (more (chain_at unary (level - 1)) level goes.room) h)

  pub refuses_shifted : (to_left : Bool) (after : List TextToken) (f : Stop) → Some (Shifted to_left, after) ≡ operator_at level rest → Fails f (shifted_by to_left left after) → Fails f (chain_at unary level words)
  unfolding shifted_by
  refuses_shifted to_left after f e h = subst (Fails f) (sym (chain_goes_by_operator (Shifted to_left) after e)) (fails_made f (count_at after) (λ n. (Shift to_left left (pos n.0), n.1)) (more (chain_at unary (level - 1)) level goes.room) h)

  pub refuses_as : (after : List TextToken) (f : Stop) → Some (As, after) ≡ operator_at level rest → Fails f (converted_by left after) → Fails f (chain_at unary level words)
  unfolding converted_by
  refuses_as after f e h = subst (Fails f) (sym (chain_goes_by_operator As after e)) (fails_made f (type_at after) (λ t. (Conversion left t.0, t.1)) (more (chain_at unary (level - 1)) level goes.room) h)

  -- by what any operator makes
  pub takes : (o : Operator) (after : List TextToken) (new : Term) (next : List TextToken) → Some (o, after) ≡ operator_at level rest → extended_by (chain_at unary (level - 1)) o left after ≡ Ok (new, next) → is_comparison o ≡ false → length next < length rest → Goes unary level words new next
  takes (Joined j) after new next e r c lt = takes_joined j after new next e r lt
  takes (Compared op) after new next e r c lt = absurd cc
  takes (Shifted to_left) after new next e r c lt = takes_shifted to_left after new next e r lt
  takes As after new next e r c lt = takes_as after new next e r lt

  pub chain_ends_at_fault : (o : Operator) (after : List TextToken) (new : Term) (next : List TextToken) → Some (o, after) ≡ operator_at level rest → extended_by (chain_at unary (level - 1)) o left after ≡ Ok (new, next) → is_comparison o ≡ true → chain_at unary level words ≡ Ok (new, next)
  chain_ends_at_fault (Joined j) after new next e r c = absurd cc
  chain_ends_at_fault (Compared op) after new next e r c = compared_is op after e ∙ r
  chain_ends_at_fault (Shifted to_left) after new next e r c = absurd cc
  chain_ends_at_fault As after new next e r c = absurd cc

  pub refuses : (o : Operator) (after : List TextToken) (f : Stop) → Some (o, after) ≡ operator_at level rest → Fails f (extended_by (chain_at unary (level - 1)) o left after) → Fails f (chain_at unary level words)
  refuses (Joined j) after f e h = refuses_joined j after f e h
  refuses (Compared op) after f e h = subst (Fails f) (sym (compared_is op after e)) h
  refuses (Shifted to_left) after f e h = refuses_shifted to_left after f e h
  refuses As after f e h = refuses_as after f e h
