-- Reading a statement goes on at least to the end of each front of one.
use Rattle.std.proofs.Common.{◌≡◌, ℕ, zero, suc, ◌<◌, ◌≤◌, Bool, true, false, List, ◌∷◌, length, Option, Some, None, Result, Ok, Err, refl, ap, subst, ◌∙◌, arith}
use Rattle.kernel_tree.specs.declared.ops.Ty.{Ty}
use Rattle.kernel_tree.specs.declared.ops.UpdateOp.{UpdateOp}
use Rattle.kernel_tree.specs.declared.mark.Mark.{Mark}
use Rattle.kernel_tree.specs.declared.mark.Mark.TheVariants as mark
use Rattle.kernel_tree.specs.TextToken.{TextToken, IsName, IsUpdate, IsMark}
use Rattle.kernel_tree.specs.Plain.{Term, Action, Define, Put, Update, Choose, Leave, Block, Done, Then, Nothing, Else}
use Rattle.kernel_tree.specs.Grammar.{Spells, SpellsType, untyped, typed, SpellsAction, define, put, update, choose, choose_else, leave, SpellsBlock}
use Rattle.kernel_tree.specs.Front.{Fronts, TypeFronts, no_type, at_type_word, ActionFronts, no_action, define_name, define_type, define_equals, define_value, define_end, at_target, put_index, put_bracket, put_equals, put_value, put_end, update_value, update_end, choose_condition, choose_brace, choose_block, else_brace, else_block, leave_if, leave_condition, leave_end, whole_action, BlockFronts, in_action, next_action, whole_block}
use Rattle.kernel_tree.proofs.OneTerm.{shorter}
use Rattle.expression_syntax.specs.Reading.{◌>>=◌, given, following, past, name_at, type_at}
use Rattle.kernel_syntax.specs.Statements.{Statement, Statements, term_at, type_part, define_at, put_at, update_at, target_at, leave_at, choose_by, statement_by, block_by, block_at}
use Rattle.expression_syntax.proofs.Sound.{following-is}
use Rattle.kernel_syntax.proofs.KernelComplete.{semicolon_reads, bracket_reads, brace_reads, action_closes, type_reads, action_shorter, block_shorter, block_from, action_reads, block_goes}
use Rattle.expression_syntax.proofs.Within.{Passes, passes_bind, passes_one, passes_is, passes_same, after_passes, type_passes}
use Rattle.kernel_syntax.proofs.WithinKernel.{term_goes, type_part_goes, define_passes, define_goes, put_passes, target_goes, else_passes, block_passes, choose_passes, statement_goes, block_by_goes, block_at_goes}
use Rattle.kernel_syntax.proofs.Reach.{spelled_reaches, front_reaches}

pub passes_more : {A : Type 0} (r : Result (A × List TextToken) ℕ) (n k : ℕ) → n ≤ k → Passes r n → Passes r k
passes_more (Ok x) n k h p = omega (arith, h, p)
passes_more (Err left) n k h p = omega (arith, h, p)

-- ---- an expression and the mark after it

pub term_spelled : {words : List TextToken} {e : Term} {rest : List TextToken} → Spells 10 words e rest → (m : Mark) → Passes (term_at m words) (length rest)
unfolding term_at
term_spelled d m = spelled_reaches d m

pub term_front : {words bad : List TextToken} → Fronts 10 words bad → (m : Mark) → Passes (term_at m words) (length bad)
unfolding term_at
term_front f m = front_reaches f m

pub term_exact : (m : Mark) (words : List TextToken) (e : Term) (rest : List TextToken) → term_at m words ≡ Ok (e, rest) → Passes (term_at m words) (length rest)
term_exact m words e rest q = passes_is (term_at m words) (e, rest) (length rest) q (omega arith)

-- ---- one statement

type_front_reaches : {words bad : List TextToken} → TypeFronts words bad → Passes (type_part words) (length bad)
unfolding type_part following
type_front_reaches (no_type {bad = bad}) = type_part_goes bad (length bad) (omega arith)
type_front_reaches (at_type_word {bad = bad}) = passes_bind (type_at bad) (λ t. Ok (Some t.0, t.1)) (length bad) (type_passes bad (length bad) (omega arith)) (λ t k. k)

type_spelled_reaches : {words : List TextToken} {t : Option Ty} {rest : List TextToken} → SpellsType words t rest → Passes (type_part words) (length rest)
unfolding type_part following type_at
type_spelled_reaches (untyped {rest = rest}) = type_part_goes rest (length rest) (omega arith)
type_spelled_reaches (typed {rest = rest}) = omega arith

type_is : (words : List TextToken) (t : Option Ty) (next : List TextToken) → SpellsType words t (IsMark mark.Equals ∷ next) → type_part words ≡ Ok (t, IsMark mark.Equals ∷ next)
unfolding following
type_is words t next d = type_reads words t (IsMark mark.Equals ∷ next) d refl

module _ (whole : Bool) (room : ℕ) (n : ℕ) where
  define_from : (x : List ℕ) (from : List TextToken) → Passes (type_part from) n → Passes (statement_by whole (block_at false room) (IsMark mark.Let ∷ IsName x ∷ from)) n
  unfolding statement_by define_at name_at
  define_from x from p = passes_bind (type_part from) (λ t. past mark.Equals t.1 >>= (λ from. term_at mark.Semicolon from >>= (λ e. Ok (Define x t.0 e.0, e.1)))) n p (define_passes x n)

  define_let : (words : List TextToken) → length words ≤ n → Passes (statement_by whole (block_at false room) (IsMark mark.Let ∷ words)) n
  unfolding statement_by
  define_let words h = define_goes words n h

  define_on : (x : List ℕ) (from : List TextToken) (t : Option Ty) (next : List TextToken) → type_part from ≡ Ok (t, IsMark mark.Equals ∷ next) → Passes (term_at mark.Semicolon next) n → Passes (statement_by whole (block_at false room) (IsMark mark.Let ∷ IsName x ∷ from)) n
  unfolding statement_by define_at name_at past following
  define_on x from t next q p =
      passes_same _ _ n (ap (λ r. r >>= (λ t. past mark.Equals t.1 >>= (λ from. term_at mark.Semicolon from >>= (λ e. Ok (Define x t.0 e.0, e.1))))) q)
      (passes_bind (term_at mark.Semicolon next) (λ e. Ok (Define x t e.0, e.1)) n p (λ e k. k))

  at_name : (x : List ℕ) (words : List TextToken) → length words ≤ n → Passes (statement_by whole (block_at false room) (IsName x ∷ words)) n
  unfolding statement_by
  at_name x words h = target_goes x words n h

  put_from : (x : List ℕ) (from : List TextToken) → Passes (term_at mark.CloseBracket from) n → Passes (statement_by whole (block_at false room) (IsName x ∷ IsMark mark.OpenBracket ∷ from)) n
  unfolding statement_by target_at put_at following
  put_from x from p = passes_bind (term_at mark.CloseBracket from) (λ i. past mark.Equals i.1 >>= (λ next. term_at mark.Semicolon next >>= (λ e. Ok (Put x i.0 e.0, e.1)))) n p (put_passes x n)

  put_following : (x : List ℕ) (from : List TextToken) (i : Term) (next : List TextToken) → term_at mark.CloseBracket from ≡ Ok (i, next) → Passes (past mark.Equals next >>= (λ next. term_at mark.Semicolon next >>= (λ e. Ok (Put x i e.0, e.1)))) n → Passes (statement_by whole (block_at false room) (IsName x ∷ IsMark mark.OpenBracket ∷ from)) n
  unfolding statement_by target_at put_at following
  put_following x from i next q p = passes_same _ _ n (ap (λ r. r >>= (λ i. past mark.Equals i.1 >>= (λ next. term_at mark.Semicolon next >>= (λ e. Ok (Put x i.0 e.0, e.1))))) q) p

  put_valued : (x : List ℕ) (i : Term) (next : List TextToken) → Passes (term_at mark.Semicolon next) n → Passes (past mark.Equals (IsMark mark.Equals ∷ next) >>= (λ next. term_at mark.Semicolon next >>= (λ e. Ok (Put x i e.0, e.1)))) n
  unfolding past following
  put_valued x i next p = passes_bind (term_at mark.Semicolon next) (λ e. Ok (Put x i e.0, e.1)) n p (λ e k. k)

  put_on : (x : List ℕ) (from : List TextToken) (i : Term) (next : List TextToken) → Spells 10 from i (IsMark mark.CloseBracket ∷ IsMark mark.Equals ∷ next) → Passes (term_at mark.Semicolon next) n → Passes (statement_by whole (block_at false room) (IsName x ∷ IsMark mark.OpenBracket ∷ from)) n
  put_on x from i next d p = put_following x from i (IsMark mark.Equals ∷ next) (bracket_reads from i (IsMark mark.Equals ∷ next) d) (put_valued x i next p)

  update_on : (x : List ℕ) (op : UpdateOp) (from : List TextToken) → Passes (term_at mark.Semicolon from) n → Passes (statement_by whole (block_at false room) (IsName x ∷ IsUpdate op ∷ from)) n
  unfolding statement_by target_at update_at following
  update_on x op from p = passes_bind (term_at mark.Semicolon from) (λ e. Ok (Update x op e.0, e.1)) n p (λ e k. k)

  choose_on : (from : List TextToken) → Passes (term_at mark.OpenBrace from) n → Passes (statement_by whole (block_at false room) (IsMark mark.If ∷ from)) n
  unfolding statement_by
  choose_on from p = choose_passes (block_at false room) (block_at_goes false room) from n p

  -- after the condition of a choice
  condition_on : (from : List TextToken) (c : Term) (next : List TextToken) → Spells 10 from c (IsMark mark.OpenBrace ∷ next) → Passes (block_at false room next >>= (λ b. given {B = Statement} (following mark.Else b.1) (λ rest. past mark.OpenBrace rest >>= (λ from. block_at false room from >>= (λ d. Ok (Choose c b.0 (Else d.0), d.1)))) (Ok (Choose c b.0 Nothing, b.1)))) n → Passes (statement_by whole (block_at false room) (IsMark mark.If ∷ from)) n
  unfolding statement_by choose_by
  condition_on from c next d p = passes_same _ _ n (ap (λ r. r >>= (λ c. block_at false room c.1 >>= (λ b. given {B = Statement} (following mark.Else b.1) (λ rest. past mark.OpenBrace rest >>= (λ from. block_at false room from >>= (λ d. Ok (Choose c.0 b.0 (Else d.0), d.1)))) (Ok (Choose c.0 b.0 Nothing, b.1))))) (brace_reads from c next d)) p

  block_on : (from : List TextToken) (c : Term) (next : List TextToken) → Spells 10 from c (IsMark mark.OpenBrace ∷ next) → Passes (block_at false room next) n → Passes (statement_by whole (block_at false room) (IsMark mark.If ∷ from)) n
  block_on from c next d p = condition_on from c next d (block_passes (block_at false room) (block_at_goes false room) n c next p)

  -- after the first block of a choice
  then_on : (from : List TextToken) (c : Term) (next : List TextToken) (b : Block) (rest : List TextToken) → Spells 10 from c (IsMark mark.OpenBrace ∷ next) → block_at false room next ≡ Ok (b, rest) → Passes (given {B = Statement} (following mark.Else rest) (λ rest. past mark.OpenBrace rest >>= (λ from. block_at false room from >>= (λ d. Ok (Choose c b (Else d.0), d.1)))) (Ok (Choose c b Nothing, rest))) n → Passes (statement_by whole (block_at false room) (IsMark mark.If ∷ from)) n
  then_on from c next b rest d q p = condition_on from c next d (passes_same _ _ n (ap (λ r. r >>= (λ b. given {B = Statement} (following mark.Else b.1) (λ rest. past mark.OpenBrace rest >>= (λ from. block_at false room from >>= (λ d. Ok (Choose c b.0 (Else d.0), d.1)))) (Ok (Choose c b.0 Nothing, b.1)))) q) p)

  else_on : (c : Term) (b : Block) (rest : List TextToken) → length rest ≤ n → Passes (given {B = Statement} (following mark.Else (IsMark mark.Else ∷ rest)) (λ rest. past mark.OpenBrace rest >>= (λ from. block_at false room from >>= (λ d. Ok (Choose c b (Else d.0), d.1)))) (Ok (Choose c b Nothing, IsMark mark.Else ∷ rest))) n
  unfolding following
  else_on c b rest h = passes_one (past mark.OpenBrace rest) (λ from. block_at false room from >>= (λ d. Ok (Choose c b (Else d.0), d.1))) n (after_passes mark.OpenBrace rest n h)
      (λ from k. passes_bind (block_at false room from) (λ d. Ok (Choose c b (Else d.0), d.1)) n (block_at_goes false room from n k) (λ d i. i))

  other_on : (c : Term) (b : Block) (from : List TextToken) → Passes (block_at false room from) n → Passes (given {B = Statement} (following mark.Else (IsMark mark.Else ∷ IsMark mark.OpenBrace ∷ from)) (λ rest. past mark.OpenBrace rest >>= (λ from. block_at false room from >>= (λ d. Ok (Choose c b (Else d.0), d.1)))) (Ok (Choose c b Nothing, IsMark mark.Else ∷ IsMark mark.OpenBrace ∷ from))) n
  unfolding following past
  other_on c b from p = passes_bind (block_at false room from) (λ d. Ok (Choose c b (Else d.0), d.1)) n p (λ d i. i)

leave_on : (room n : ℕ) (words : List TextToken) → length words ≤ n → Passes (statement_by true (block_at false room) (IsMark mark.Break ∷ words)) n
unfolding statement_by leave_at
leave_on room n words h = passes_one (past mark.If words) (λ from. term_at mark.Semicolon from >>= (λ c. Ok (Leave c.0, c.1))) n (after_passes mark.If words n h)
    (λ from l. passes_bind (term_at mark.Semicolon from) (λ c. Ok (Leave c.0, c.1)) n (term_goes mark.Semicolon from n l) (λ c k. k))

leave_by : (room n : ℕ) (from : List TextToken) → Passes (term_at mark.Semicolon from) n → Passes (statement_by true (block_at false room) (IsMark mark.Break ∷ IsMark mark.If ∷ from)) n
unfolding statement_by leave_at past following
leave_by room n from p = passes_bind (term_at mark.Semicolon from) (λ c. Ok (Leave c.0, c.1)) n p (λ c k. k)

-- a block is read where its end stands
block_is : (room : ℕ) {next : List TextToken} {b : Block} {rest : List TextToken} → SpellsBlock false next b rest → length next ≤ room → block_at false room next ≡ Ok (b, rest)
block_is room {next = next} {b = b} {rest = rest} d h = block_from false next b rest (block_shorter d) (block_goes d) room h

action_whole : {whole : Bool} {words : List TextToken} {s : Action} {rest : List TextToken} → SpellsAction whole words s rest → (room : ℕ) → length words ≤ suc room → Passes (statement_by whole (block_at false room) words) (length rest)
action_whole {whole = whole} (define {x = x} {t = t} {e = e} {from = from} {next = next} {rest = rest} p d) room h = define_on whole room (length rest) x from t next (type_is from t next p) (term_exact mark.Semicolon next e rest (semicolon_reads next e rest d))
action_whole {whole = whole} (put {x = x} {i = i} {e = e} {from = from} {next = next} {rest = rest} d1 d2) room h = put_on whole room (length rest) x from i next d1 (term_exact mark.Semicolon next e rest (semicolon_reads next e rest d2))
action_whole {whole = whole} (update {x = x} {op = op} {e = e} {from = from} {rest = rest} d) room h = update_on whole room (length rest) x op from (term_exact mark.Semicolon from e rest (semicolon_reads from e rest d))
action_whole {whole = whole} (choose {c = c} {b = b} {from = from} {next = next} {rest = rest} d1 d2) room h = then_on whole room (length rest) from c next b rest d1 (block_is room d2 (omega (arith, shorter d1))) (else_passes (block_at false room) (block_at_goes false room) c (length rest) (b, rest) (omega arith))
action_whole {whole = whole} (choose_else {c = c} {b = b} {d = d} {from = from} {next = next} {more = further} {rest = rest} d1 d2 d3) room h =
    then_on whole room (length rest) from c next b (IsMark mark.Else ∷ IsMark mark.OpenBrace ∷ further) d1 (block_is room d2 (omega (arith, shorter d1)))
    (other_on whole room (length rest) c b further (passes_is (block_at false room further) (d, rest) (length rest) (block_is room d3 (omega (arith, shorter d1, block_shorter d2))) (omega arith)))
action_whole (leave {c = c} {from = from} {rest = rest} d) room h = leave_by room (length rest) from (term_exact mark.Semicolon from c rest (semicolon_reads from c rest d))

-- ---- blocks

no_statement : (whole : Bool) (block : List TextToken → Statements) (m : Mark) (rest : List TextToken) (n : ℕ) → statement_by whole block (IsMark m ∷ rest) ≡ Err (suc (length rest)) → Passes (statement_by whole block (IsMark m ∷ rest)) n → suc (length rest) ≤ n
no_statement whole block m rest n q p = subst (λ (z : Statement). Passes z n) q p

at_close : (whole : Bool) (block : List TextToken → Statements) (rest : List TextToken) → statement_by whole block (IsMark mark.CloseBrace ∷ rest) ≡ Err (suc (length rest))
unfolding statement_by
at_close whole block rest = refl

at_else : (whole : Bool) (block : List TextToken → Statements) (rest : List TextToken) → statement_by whole block (IsMark mark.Else ∷ rest) ≡ Err (suc (length rest))
unfolding statement_by
at_else whole block rest = refl

module _ (whole : Bool) (room : ℕ) where
  first_by : (k : ℕ) (words : List TextToken) (n : ℕ) → Passes (statement_by whole (block_at false room) words) n → (o : Option (List TextToken)) → following mark.CloseBrace words ≡ o → Passes (given {B = Statements} o (λ rest. Ok (Done, rest)) (statement_by whole (block_at false room) words >>= (λ s. block_by (statement_by whole (block_at false room)) k s.1 >>= (λ b. Ok (Then s.0 b.0, b.1))))) n
  first_by k words n p None e = passes_bind (statement_by whole (block_at false room) words) (λ s. block_by (statement_by whole (block_at false room)) k s.1 >>= (λ b. Ok (Then s.0 b.0, b.1))) n p
      (λ s l. passes_bind (block_by (statement_by whole (block_at false room)) k s.1) (λ b. Ok (Then s.0 b.0, b.1)) n (block_by_goes (statement_by whole (block_at false room)) (statement_goes (block_at false room) (block_at_goes false room) whole) k s.1 n l) (λ b i. i))
  first_by k words n p (Some rest) e =
      let at : Passes (statement_by whole (block_at false room) (IsMark mark.CloseBrace ∷ rest)) n = subst (λ (z : List TextToken). Passes (statement_by whole (block_at false room) z) n) (following-is mark.CloseBrace words rest e) p in
      omega (arith, no_statement whole (block_at false room) mark.CloseBrace rest n (at_close whole (block_at false room) rest) at)

  first_reaches : (k : ℕ) (words : List TextToken) (n : ℕ) → Passes (statement_by whole (block_at false room) words) n → Passes (block_by (statement_by whole (block_at false room)) (suc k) words) n
  unfolding block_by
  first_reaches k words n p = first_by k words n p (following mark.CloseBrace words) refl

  -- nothing is read of a block at an else
  else_stands : (k : ℕ) (rest : List TextToken) (n : ℕ) → Passes (block_by (statement_by whole (block_at false room)) (suc k) (IsMark mark.Else ∷ rest)) n → suc (length rest) ≤ n
  unfolding block_by following
  else_stands k rest n p = subst (λ (z : Statement). Passes (z >>= (λ s. block_by (statement_by whole (block_at false room)) k s.1 >>= (λ b. Ok (Then s.0 b.0, b.1)))) n) (at_else whole (block_at false room) rest) p

  next_is : (k : ℕ) (words : List TextToken) (s : Action) (next : List TextToken) (n : ℕ) → following mark.CloseBrace words ≡ None → statement_by whole (block_at false room) words ≡ Ok (s, next) → Passes (block_by (statement_by whole (block_at false room)) k next) n → Passes (block_by (statement_by whole (block_at false room)) (suc k) words) n
  unfolding block_by
  next_is k words s next n c q p =
      passes_same _ _ n (ap (λ o. given {B = Statements} o (λ rest. Ok (Done, rest)) (statement_by whole (block_at false room) words >>= (λ s. block_by (statement_by whole (block_at false room)) k s.1 >>= (λ b. Ok (Then s.0 b.0, b.1))))) c ∙ ap (λ r. r >>= (λ s. block_by (statement_by whole (block_at false room)) k s.1 >>= (λ b. Ok (Then s.0 b.0, b.1)))) q)
      (passes_bind (block_by (statement_by whole (block_at false room)) k next) (λ b. Ok (Then s b.0, b.1)) n p (λ b i. i))

  next_by : (k : ℕ) (words : List TextToken) (s : Action) (next : List TextToken) (n : ℕ) → SpellsAction whole words s next → length words ≤ suc room → length next < k → Passes (block_by (statement_by whole (block_at false room)) k next) n → (o : Option (List TextToken)) → following mark.Else next ≡ o → Passes (block_by (statement_by whole (block_at false room)) (suc k) words) n
  next_by k words s next n d h l p None e = next_is k words s next n (action_closes whole s words next d) (action_reads d room h e) p
  next_by zero words s next n d h l p (Some rest) e = absurd (omega (arith, l))
  next_by (suc k) words s next n d h l p (Some rest) e =
      let there = following-is mark.Else next rest e in
      let left = else_stands k rest n (subst (λ (z : List TextToken). Passes (block_by (statement_by whole (block_at false room)) (suc k) z) n) there p) in
      first_reaches (suc k) words n (passes_more (statement_by whole (block_at false room) words) (length next) n (omega (arith, ap length there, left)) (action_whole d room h))

block_at_reaches : (whole : Bool) (words : List TextToken) (n : ℕ) → ((r : ℕ) → length words ≤ suc r → (k : ℕ) → length words < k → Passes (block_by (statement_by whole (block_at false r)) k words) n) → (room : ℕ) → length words ≤ room → Passes (block_at whole room words) n
unfolding block_at
block_at_reaches whole words n goes zero h = omega (arith, h)
block_at_reaches whole words n goes (suc room) h = goes room h (suc (length words)) (omega arith)

mutual
  action_reaches : {whole : Bool} {words bad : List TextToken} → ActionFronts whole words bad → (room : ℕ) → length words ≤ suc room → Passes (statement_by whole (block_at false room) words) (length bad)
  action_reaches (no_action {whole = whole} {bad = bad}) room h = statement_goes (block_at false room) (block_at_goes false room) whole bad (length bad) (omega arith)
  action_reaches (define_name {whole = whole} {bad = bad}) room h = define_let whole room (length bad) bad (omega arith)
  action_reaches (define_type {whole = whole} {x = x} {from = from} {bad = bad} f) room h = define_from whole room (length bad) x from (type_front_reaches f)
  action_reaches (define_equals {whole = whole} {x = x} {from = from} {bad = bad} d) room h = define_from whole room (length bad) x from (type_spelled_reaches d)
  action_reaches (define_value {whole = whole} {x = x} {t = t} {from = from} {next = next} {bad = bad} d f) room h = define_on whole room (length bad) x from t next (type_is from t next d) (term_front f mark.Semicolon)
  action_reaches (define_end {whole = whole} {x = x} {t = t} {from = from} {next = next} {bad = bad} d f) room h = define_on whole room (length bad) x from t next (type_is from t next d) (term_spelled f mark.Semicolon)
  action_reaches (at_target {whole = whole} {x = x} {bad = bad}) room h = at_name whole room (length bad) x bad (omega arith)
  action_reaches (put_index {whole = whole} {x = x} {from = from} {bad = bad} f) room h = put_from whole room (length bad) x from (term_front f mark.CloseBracket)
  action_reaches (put_bracket {whole = whole} {x = x} {from = from} {bad = bad} d) room h = put_from whole room (length bad) x from (term_spelled d mark.CloseBracket)
  action_reaches (put_equals {whole = whole} {x = x} {i = i} {from = from} {bad = bad} d) room h = put_following whole room (length bad) x from i bad (bracket_reads from i bad d) (put_passes x (length bad) (i, bad) (omega arith))
  action_reaches (put_value {whole = whole} {x = x} {i = i} {from = from} {next = next} {bad = bad} d f) room h = put_on whole room (length bad) x from i next d (term_front f mark.Semicolon)
  action_reaches (put_end {whole = whole} {x = x} {i = i} {from = from} {next = next} {bad = bad} d f) room h = put_on whole room (length bad) x from i next d (term_spelled f mark.Semicolon)
  action_reaches (update_value {whole = whole} {x = x} {op = op} {from = from} {bad = bad} f) room h = update_on whole room (length bad) x op from (term_front f mark.Semicolon)
  action_reaches (update_end {whole = whole} {x = x} {op = op} {from = from} {bad = bad} d) room h = update_on whole room (length bad) x op from (term_spelled d mark.Semicolon)
  action_reaches (choose_condition {whole = whole} {from = from} {bad = bad} f) room h = choose_on whole room (length bad) from (term_front f mark.OpenBrace)
  action_reaches (choose_brace {whole = whole} {from = from} {bad = bad} d) room h = choose_on whole room (length bad) from (term_spelled d mark.OpenBrace)
  action_reaches (choose_block {whole = whole} {c = c} {from = from} {next = next} {bad = bad} d f) room h = block_on whole room (length bad) from c next d (block_at_reaches false next (length bad) (block_reaches f) room (omega (arith, shorter d)))
  action_reaches (else_brace {whole = whole} {c = c} {b = b} {from = from} {next = next} {bad = bad} d e) room h = then_on whole room (length bad) from c next b (IsMark mark.Else ∷ bad) d (block_is room e (omega (arith, shorter d))) (else_on whole room (length bad) c b bad (omega arith))
  action_reaches (else_block {whole = whole} {c = c} {b = b} {from = from} {next = next} {more = further} {bad = bad} d e f) room h = then_on whole room (length bad) from c next b (IsMark mark.Else ∷ IsMark mark.OpenBrace ∷ further) d (block_is room e (omega (arith, shorter d))) (other_on whole room (length bad) c b further (block_at_reaches false further (length bad) (block_reaches f) room (omega (arith, shorter d, block_shorter e))))
  action_reaches (leave_if {bad = bad}) room h = leave_on room (length bad) bad (omega arith)
  action_reaches (leave_condition {from = from} {bad = bad} f) room h = leave_by room (length bad) from (term_front f mark.Semicolon)
  action_reaches (leave_end {from = from} {bad = bad} d) room h = leave_by room (length bad) from (term_spelled d mark.Semicolon)
  action_reaches (whole_action d) room h = action_whole d room h

  pub block_reaches : {whole : Bool} {words bad : List TextToken} → BlockFronts whole words bad → (room : ℕ) → length words ≤ suc room → (k : ℕ) → length words < k → Passes (block_by (statement_by whole (block_at false room)) k words) (length bad)
  block_reaches (in_action f) room h zero l = absurd (omega arith)
  block_reaches (in_action {whole = whole} {from = from} {bad = bad} f) room h (suc k) l = first_reaches whole room k from (length bad) (action_reaches f room h)
  block_reaches (next_action d f) room h zero l = absurd (omega arith)
  block_reaches (next_action {whole = whole} {s = s} {from = from} {next = next} {bad = bad} d f) room h (suc k) l = next_by whole room k from s next (length bad) d h (omega (arith, action_shorter d)) (block_reaches f room (omega (arith, action_shorter d)) k (omega (arith, action_shorter d))) (following mark.Else next) refl
  block_reaches (whole_block {whole = whole} {b = b} {from = from} {bad = bad} d) room h k l = passes_is (block_by (statement_by whole (block_at false room)) k from) (b, bad) (length bad) (block_goes d room h k l) (omega arith)

pub block_front_reaches : {whole : Bool} {words bad : List TextToken} → BlockFronts whole words bad → (room : ℕ) → length words ≤ room → Passes (block_at whole room words) (length bad)
block_front_reaches {whole = whole} {words = words} {bad = bad} f room h = block_at_reaches whole words (length bad) (block_reaches f) room h
