-- The statements of a block, as far as a loop has read them.
use Rattle.std.proofs.Common.{◌≡◌, ℕ, zero, suc, ◌-◌, ◌<◌, Bool, false, List, [], ◌∷◌, ◌++◌, length, Option, Some, None, Result, Ok, Err, refl, sym, ap, ◌∙◌, arith}
use Rattle.kernel_tree.specs.declared.ast.Stmt.{Stmt}
use Rattle.kernel_tree.specs.declared.mark.Mark.{Mark}
use Rattle.kernel_tree.specs.declared.mark.Mark.TheVariants as mark
use Rattle.kernel_tree.specs.declared.mark.Beginning.{Beginning}
use Rattle.kernel_tree.specs.Grammar.{beginning_of_mark}
use Rattle.kernel_tree.specs.TextToken.{TextToken}
use Rattle.kernel_tree.specs.Plain.{Block, Done, Then, action_of, block_of}
use Rattle.expression_syntax.specs.declared.stop.Stop.{Stop}
use Rattle.expression_syntax.specs.Reading.{◌>>=◌, Fails, given, following, mark_at}
use Rattle.kernel_syntax.specs.Statements.{Statement, Statements, block_by, begun_by, statement_by, block_at}
use Rattle.expression_syntax.proofs.Chain.{fails_on}
use Rattle.expression_syntax.proofs.Sound.{mark-is}

-- statements in front of a block
abbrev pub before : List Stmt → Block → Block
before [] b = b
before (s ∷ rest) b = Then (action_of s) (before rest b)

before-done : (ss : List Stmt) → before ss Done ≡ block_of ss
before-done [] = refl
before-done (s ∷ rest) = ap (Then (action_of s)) (before-done rest)

before-push : (ss : List Stmt) (s : Stmt) (b : Block) → before (ss ++ s ∷ []) b ≡ before ss (Then (action_of s) b)
before-push [] s b = refl
before-push (x ∷ rest) s b = ap (Then (action_of x)) (before-push rest s b)

abbrev pub in_front : List Stmt → Block × List TextToken → Statements
in_front ss b = Ok (before ss b.0, b.1)

-- a block is read from some tokens as its rest is from what is left, after the statements that were read
pub record Follows (statement : List TextToken → Statement) (whole : Statements) (ss : List Stmt) (rest : List TextToken) : Type 0 where
  pub room : ℕ
  pub enough : length rest < suc room
  pub same : (block_by statement (suc room) rest >>= in_front ss) ≡ whole

bind_ok_id : (r : Statements) → (r >>= in_front []) ≡ r
bind_ok_id (Ok x) = refl
bind_ok_id (Err e) = refl

pub block_follows : (statement : List TextToken → Statement) (words : List TextToken) → Follows statement (block_by statement (suc (length words)) words) [] words
block_follows statement words = record { room = length words; enough = omega arith; same = bind_ok_id (block_by statement (suc (length words)) words) }

pub bind_assoc : {A B C : Type 0} (r : Result A ℕ) (f : A → Result B ℕ) (g : B → Result C ℕ) → ((r >>= f) >>= g) ≡ (r >>= (λ x. f x >>= g))
bind_assoc (Ok x) f g = refl
bind_assoc (Err e) f g = refl

module _ (statement : List TextToken → Statement) (whole : Statements) (ss : List Stmt) (rest : List TextToken) (f : Follows statement whole ss rest) where
  pub closes : (next : List TextToken) → Some next ≡ following mark.CloseBrace rest → whole ≡ Ok (block_of ss, next)
  unfolding block_by
  closes next e = sym f.same ∙ ap (λ o. given o (λ rest. Ok (Done, rest)) (statement rest >>= (λ s. block_by statement f.room s.1 >>= (λ b. Ok (Then s.0 b.0, b.1)))) >>= in_front ss) (sym e) ∙ ap (λ b. Ok (b, next)) (before-done ss)

  goes : None ≡ following mark.CloseBrace rest → whole ≡ (statement rest >>= (λ s. (block_by statement f.room s.1 >>= (λ b. Ok (Then s.0 b.0, b.1))) >>= in_front ss))
  unfolding block_by
  goes e = sym f.same ∙ ap (λ o. given o (λ rest. Ok (Done, rest)) (statement rest >>= (λ s. block_by statement f.room s.1 >>= (λ b. Ok (Then s.0 b.0, b.1)))) >>= in_front ss) (sym e) ∙ bind_assoc (statement rest) (λ s. block_by statement f.room s.1 >>= (λ b. Ok (Then s.0 b.0, b.1))) (in_front ss)

  pub fails_inside : (e : Stop) → None ≡ following mark.CloseBrace rest → Fails e (statement rest) → Fails e whole
  fails_inside e n h = fails_on e (statement rest) (λ s. (block_by statement f.room s.1 >>= (λ b. Ok (Then s.0 b.0, b.1))) >>= in_front ss) whole (goes n) h

  pub takes : (s : Stmt) (next : List TextToken) → None ≡ following mark.CloseBrace rest → statement rest ≡ Ok (action_of s, next) → length next < length rest → Follows statement whole (ss ++ s ∷ []) next
  takes s next n h lt =
      let first = goes n ∙ ap (λ r. r >>= (λ s. (block_by statement f.room s.1 >>= (λ b. Ok (Then s.0 b.0, b.1))) >>= in_front ss)) h in
      let pushed : (block_by statement f.room next >>= (λ b. in_front ss (Then (action_of s) b.0, b.1))) ≡ (block_by statement f.room next >>= in_front (ss ++ s ∷ [])) = by_cases (block_by statement f.room next) in
      let positive : f.room ≡ suc (f.room - 1) = omega (arith, f.enough) in
      record { room = f.room - 1; enough = omega (arith, f.enough); same = rw (← positive) (sym (first ∙ bind_assoc (block_by statement f.room next) (λ b. Ok (Then (action_of s) b.0, b.1)) (in_front ss) ∙ pushed)) }
    where
      by_cases : (r : Statements) → (r >>= (λ b. in_front ss (Then (action_of s) b.0, b.1))) ≡ (r >>= in_front (ss ++ s ∷ []))
      by_cases (Ok b) = ap (λ x. Ok (x, b.1)) (sym (before-push ss s b.0))
      by_cases (Err e) = refl

pub block-none : (whole : Bool) (room : ℕ) (words : List TextToken) (n : ℕ) → room ≡ 0 → length words ≡ n → block_at whole room words ≡ Err n
unfolding block_at
block-none whole room words n e l = rw (e, l) refl

pub block-some : (whole : Bool) (room : ℕ) (words : List TextToken) → 0 < room → block_at whole room words ≡ block_by (statement_by whole (block_at false (room - 1))) (suc (length words)) words
unfolding block_at
block-some whole zero words h = absurd (omega arith)
block-some whole (suc room) words h = let e : suc room - 1 ≡ room = omega arith in rw e refl

-- ---- what a mark begins

pub block_begins_with_mark : (whole : Bool) (block : List TextToken → Statements) (words : List TextToken) (m : Mark) (rest : List TextToken) (o : Option Beginning) → mark_at words ≡ Some (m, rest) → beginning_of_mark m ≡ o → statement_by whole block words ≡ begun_by whole block o rest
unfolding statement_by
block_begins_with_mark whole block words m rest o e k = rw (mark-is words (m, rest) e, k) refl

pub unbegun : (whole : Bool) (block : List TextToken → Statements) (words : List TextToken) (m : Mark) (rest : List TextToken) → mark_at words ≡ Some (m, rest) → beginning_of_mark m ≡ None → statement_by whole block words ≡ Err (length words)
unfolding statement_by
unbegun whole block words m rest e k = rw (mark-is words (m, rest) e, k) refl
