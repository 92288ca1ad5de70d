-- Where reading a statement stops, what was read is a front of one.
use Rattle.std.proofs.Common.{◌≡◌, ℕ, zero, suc, Bool, true, false, List, [], ◌∷◌, length, Option, Some, None, Result, Ok, Err, refl, ap, subst}
use Rattle.kernel_tree.specs.declared.ops.Ty.{Ty}
use Rattle.kernel_tree.specs.declared.ops.UpdateOp.{UpdateOp}
use Rattle.kernel_tree.specs.declared.mark.Mark.{Mark}
use Rattle.kernel_tree.specs.declared.mark.Mark.TheVariants as mark
use Rattle.kernel_tree.specs.TextToken.{TextToken, IsName, IsNumber, IsType, IsCompare, IsUpdate, IsMark}
use Rattle.kernel_tree.specs.Plain.{Term, Define, Put, Update, Choose, Leave, Block, Done, Then, Nothing, Else}
use Rattle.kernel_tree.specs.Grammar.{Spells, SpellsType, SpellsBlock, beginning_of_mark}
use Rattle.kernel_tree.specs.Front.{Fronts, TypeFronts, at_type_word, ActionFronts, no_action, define_name, define_type, define_equals, define_value, at_target, put_index, put_equals, put_value, update_value, choose_condition, choose_block, else_brace, else_block, leave_if, leave_condition, BlockFronts, in_action, next_action}
use Rattle.expression_syntax.specs.Reading.{◌>>=◌, given, following, past, name_at, type_at, update_front, unary_at, chain_at}
use Rattle.kernel_syntax.specs.Statements.{Statement, Statements, term_at, type_part, define_at, put_at, update_at, target_at, leave_at, choose_by, begun_by, statement_by, block_by, block_at}
use Rattle.expression_syntax.proofs.Sound.{after-is, following-is, name-is, type-is, update-is, reads_spells}
use Rattle.kernel_syntax.proofs.ActionSound.{term_spells, type_part_spells, SoundBlock, statement_spells, block_spells}
use Rattle.expression_syntax.proofs.Stuck.{Stuck, err_is, ok_not_err, stuck_bind, stuck_from, after-stops, name-stops, type-stops, before_stops, reads_stops}

-- what was read stands in front
pub past_mark : (Front : List TextToken → List TextToken → Type 0) (before : List TextToken → List TextToken) (m : Mark) (words from : List TextToken) (n : ℕ) → past m words ≡ Ok from → Stuck Front (before (IsMark m ∷ from)) n → Stuck Front (before words) n
past_mark Front before m words from n p h = stuck_from Front _ _ n (ap before (after-is m words from p)) h

pub past_following : (Front : List TextToken → List TextToken → Type 0) (before : List TextToken → List TextToken) (m : Mark) (words from : List TextToken) (n : ℕ) → following m words ≡ Some from → Stuck Front (before (IsMark m ∷ from)) n → Stuck Front (before words) n
past_following Front before m words from n p h = stuck_from Front _ _ n (ap before (following-is m words from p)) h

pub past_name : (Front : List TextToken → List TextToken → Type 0) (before : List TextToken → List TextToken) (words : List TextToken) (x : List ℕ × List TextToken) (n : ℕ) → name_at words ≡ Ok x → Stuck Front (before (IsName x.0 ∷ x.1)) n → Stuck Front (before words) n
past_name Front before words x n p h = stuck_from Front _ _ n (ap before (name-is words x p)) h

pub past_type : (Front : List TextToken → List TextToken → Type 0) (before : List TextToken → List TextToken) (words : List TextToken) (t : Ty × List TextToken) (n : ℕ) → type_at words ≡ Ok t → Stuck Front (before (IsType t.0 ∷ t.1)) n → Stuck Front (before words) n
past_type Front before words t n p h = stuck_from Front _ _ n (ap before (type-is words t p)) h

-- an expression and the mark after it
pub term_stops : (m : Mark) (words : List TextToken) (n : ℕ) → term_at m words ≡ Err n → Stuck (Fronts 10) words n
unfolding term_at
term_stops m words n q = before_stops (chain_at (unary_at (length words)) 10) (reads_spells (length words) 10) (reads_stops (length words) 10) m words n q

type_stops : (words : List TextToken) (n : ℕ) (o : Option (List TextToken)) → following mark.Colon words ≡ o → given {B = Result (Option Ty × List TextToken) ℕ} o (λ rest. type_at rest >>= (λ t. Ok (Some t.0, t.1))) (Ok (None, words)) ≡ Err n → Stuck TypeFronts words n
type_stops words n None p q = absurd (ok_not_err (None, words) n q)
type_stops words n (Some from) p q =
    past_following TypeFronts (λ z. z) mark.Colon words from n p
    (stuck_bind (type_at from) (λ t. Ok (Some t.0, t.1)) n q
    (λ f. record { bad = from; front = at_type_word; place = type-stops from n f })
    (λ t r f. absurd (ok_not_err (Some t.0, t.1) n f)))

type_part_stops : (words : List TextToken) (n : ℕ) → type_part words ≡ Err n → Stuck TypeFronts words n
unfolding type_part
type_part_stops words n q = type_stops words n (following mark.Colon words) refl q

define_stops : (whole : Bool) (words : List TextToken) (n : ℕ) → define_at words ≡ Err n → Stuck (ActionFronts whole) (IsMark mark.Let ∷ words) n
unfolding define_at
define_stops whole words n q =
    stuck_bind (name_at words) (λ x. type_part x.1 >>= (λ t. past mark.Equals t.1 >>= (λ from. term_at mark.Semicolon from >>= (λ e. Ok (Define x.0 t.0 e.0, e.1))))) n q
    (λ f. record { bad = words; front = define_name; place = name-stops words n f })
    (λ x r f. past_name (ActionFronts whole) (λ z. IsMark mark.Let ∷ z) words x n r
    (stuck_bind (type_part x.1) (λ t. past mark.Equals t.1 >>= (λ from. term_at mark.Semicolon from >>= (λ e. Ok (Define x.0 t.0 e.0, e.1)))) n f
    (λ g. let s = type_part_stops x.1 n g in record { bad = s.bad; front = define_type s.front; place = s.place })
    (λ t u g. let ty = type_part_spells x.1 t u in
    stuck_bind (past mark.Equals t.1) (λ from. term_at mark.Semicolon from >>= (λ e. Ok (Define x.0 t.0 e.0, e.1))) n g
    (λ h. record { bad = t.1; front = define_equals ty; place = after-stops mark.Equals t.1 n h })
    (λ from v h. stuck_bind (term_at mark.Semicolon from) (λ e. Ok (Define x.0 t.0 e.0, e.1)) n h
    (λ i. let s = term_stops mark.Semicolon from n i in record { bad = s.bad; front = define_value (subst (λ (z : List TextToken). SpellsType x.1 t.0 z) (after-is mark.Equals t.1 from v) ty) s.front; place = s.place })
    (λ e w i. absurd (ok_not_err (Define x.0 t.0 e.0, e.1) n i))))))

put_stops : (whole : Bool) (x : List ℕ) (words : List TextToken) (n : ℕ) → put_at x words ≡ Err n → Stuck (ActionFronts whole) (IsName x ∷ IsMark mark.OpenBracket ∷ words) n
unfolding put_at
put_stops whole x words n q =
    stuck_bind (term_at mark.CloseBracket words) (λ i. past mark.Equals i.1 >>= (λ next. term_at mark.Semicolon next >>= (λ e. Ok (Put x i.0 e.0, e.1)))) n q
    (λ f. let s = term_stops mark.CloseBracket words n f in record { bad = s.bad; front = put_index s.front; place = s.place })
    (λ i r f. let index = term_spells mark.CloseBracket words i r in
    stuck_bind (past mark.Equals i.1) (λ next. term_at mark.Semicolon next >>= (λ e. Ok (Put x i.0 e.0, e.1))) n f
    (λ g. record { bad = i.1; front = put_equals index; place = after-stops mark.Equals i.1 n g })
    (λ next t g. stuck_bind (term_at mark.Semicolon next) (λ e. Ok (Put x i.0 e.0, e.1)) n g
    (λ h. let s = term_stops mark.Semicolon next n h in record { bad = s.bad; front = put_value (subst (λ (z : List TextToken). Spells 10 words i.0 (IsMark mark.CloseBracket ∷ z)) (after-is mark.Equals i.1 next t) index) s.front; place = s.place })
    (λ e u h. absurd (ok_not_err (Put x i.0 e.0, e.1) n h))))

update_stops : (whole : Bool) (x : List ℕ) (op : UpdateOp) (words : List TextToken) (n : ℕ) → update_at x op words ≡ Err n → Stuck (ActionFronts whole) (IsName x ∷ IsUpdate op ∷ words) n
unfolding update_at
update_stops whole x op words n q =
    stuck_bind (term_at mark.Semicolon words) (λ e. Ok (Update x op e.0, e.1)) n q
    (λ f. let s = term_stops mark.Semicolon words n f in record { bad = s.bad; front = update_value s.front; place = s.place })
    (λ e r f. absurd (ok_not_err (Update x op e.0, e.1) n f))

by_update : (whole : Bool) (x : List ℕ) (words : List TextToken) (n : ℕ) (o : Option (UpdateOp × List TextToken)) → update_front words ≡ o → given {B = Statement} o (λ u. update_at x u.0 u.1) (Err (length words)) ≡ Err n → Stuck (ActionFronts whole) (IsName x ∷ words) n
by_update whole x words n None p q = record { bad = words; front = at_target; place = err_is (length words) n q }
by_update whole x words n (Some u) p q = stuck_from (ActionFronts whole) _ _ n (ap (λ (z : List TextToken). IsName x ∷ z) (update-is words u p)) (update_stops whole x u.0 u.1 n q)

by_target : (whole : Bool) (x : List ℕ) (words : List TextToken) (n : ℕ) (o : Option (List TextToken)) → following mark.OpenBracket words ≡ o → given {B = Statement} o (λ from. put_at x from) (given (update_front words) (λ u. update_at x u.0 u.1) (Err (length words))) ≡ Err n → Stuck (ActionFronts whole) (IsName x ∷ words) n
by_target whole x words n None p q = by_update whole x words n (update_front words) refl q
by_target whole x words n (Some from) p q = past_following (ActionFronts whole) (λ z. IsName x ∷ z) mark.OpenBracket words from n p (put_stops whole x from n q)

target_stops : (whole : Bool) (x : List ℕ) (words : List TextToken) (n : ℕ) → target_at x words ≡ Err n → Stuck (ActionFronts whole) (IsName x ∷ words) n
unfolding target_at
target_stops whole x words n q = by_target whole x words n (following mark.OpenBracket words) refl q

nowhere : (whole : Bool) (w : TextToken) (words : List TextToken) (n : ℕ) → ◌≡◌ {A = Statement} (Err (suc (length words))) (Err n) → Stuck (ActionFronts whole) (w ∷ words) n
nowhere whole w words n q = record { bad = w ∷ words; front = no_action; place = err_is (suc (length words)) n q }

leave_stops : (whole : Bool) (words : List TextToken) (n : ℕ) → leave_at whole words ≡ Err n → Stuck (ActionFronts whole) (IsMark mark.Break ∷ words) n
unfolding leave_at
leave_stops false words n q = nowhere false (IsMark mark.Break) words n q
leave_stops true words n q =
    stuck_bind (past mark.If words) (λ from. term_at mark.Semicolon from >>= (λ c. Ok (Leave c.0, c.1))) n q
    (λ f. record { bad = words; front = leave_if; place = after-stops mark.If words n f })
    (λ from r f. past_mark (ActionFronts true) (λ z. IsMark mark.Break ∷ z) mark.If words from n r
    (stuck_bind (term_at mark.Semicolon from) (λ c. Ok (Leave c.0, c.1)) n f
    (λ g. let s = term_stops mark.Semicolon from n g in record { bad = s.bad; front = leave_condition s.front; place = s.place })
    (λ c t g. absurd (ok_not_err (Leave c.0, c.1) n g))))

abbrev StopsBlock : Bool → (List TextToken → Statements) → Type 0
StopsBlock whole block = (words : List TextToken) (n : ℕ) → block words ≡ Err n → Stuck (BlockFronts whole) words n

module _ (block : List TextToken → Statements) (sound : SoundBlock false block) (stops : StopsBlock false block) (whole : Bool) where
  else_stops : (words from : List TextToken) (c : Term) (b : Block) (next : List TextToken) (n : ℕ) → Spells 10 words c (IsMark mark.OpenBrace ∷ from) → SpellsBlock false from b next → (o : Option (List TextToken)) → following mark.Else next ≡ o → given {B = Statement} o (λ rest. past mark.OpenBrace rest >>= (λ from. block from >>= (λ d. Ok (Choose c b (Else d.0), d.1)))) (Ok (Choose c b Nothing, next)) ≡ Err n → Stuck (ActionFronts whole) (IsMark mark.If ∷ words) n
  else_stops words from c b next n hc hb None p q = absurd (ok_not_err (Choose c b Nothing, next) n q)
  else_stops words start c b next n hc hb (Some rest) p q =
      let then_part : SpellsBlock false start b (IsMark mark.Else ∷ rest) = subst (λ (z : List TextToken). SpellsBlock false start b z) (following-is mark.Else next rest p) hb in
      stuck_bind (past mark.OpenBrace rest) (λ from. block from >>= (λ d. Ok (Choose c b (Else d.0), d.1))) n q
      (λ f. record { bad = rest; front = else_brace hc then_part; place = after-stops mark.OpenBrace rest n f })
      (λ from r f. stuck_bind (block from) (λ d. Ok (Choose c b (Else d.0), d.1)) n f
      (λ g. let s = stops from n g in record { bad = s.bad; front = else_block hc (subst (λ (z : List TextToken). SpellsBlock false start b (IsMark mark.Else ∷ z)) (after-is mark.OpenBrace rest from r) then_part) s.front; place = s.place })
      (λ d t g. absurd (ok_not_err (Choose c b (Else d.0), d.1) n g)))

  choose_stops : (words : List TextToken) (n : ℕ) → choose_by block words ≡ Err n → Stuck (ActionFronts whole) (IsMark mark.If ∷ words) n
  unfolding choose_by
  choose_stops words n q =
      stuck_bind (term_at mark.OpenBrace words) (λ c. block c.1 >>= (λ b. given {B = Statement} (following mark.Else b.1) (λ rest. past mark.OpenBrace rest >>= (λ from. block from >>= (λ d. Ok (Choose c.0 b.0 (Else d.0), d.1)))) (Ok (Choose c.0 b.0 Nothing, b.1)))) n q
      (λ f. let s = term_stops mark.OpenBrace words n f in record { bad = s.bad; front = choose_condition s.front; place = s.place })
      (λ c r f. let cond = term_spells mark.OpenBrace words c r in
      stuck_bind (block c.1) (λ b. given {B = Statement} (following mark.Else b.1) (λ rest. past mark.OpenBrace rest >>= (λ from. block from >>= (λ d. Ok (Choose c.0 b.0 (Else d.0), d.1)))) (Ok (Choose c.0 b.0 Nothing, b.1))) n f
      (λ g. let s = stops c.1 n g in record { bad = s.bad; front = choose_block cond s.front; place = s.place })
      (λ b t g. else_stops words c.1 c.0 b.0 b.1 n cond (sound c.1 b t) (following mark.Else b.1) refl g))

  begun_stops : (m : Mark) (words : List TextToken) (n : ℕ) → begun_by whole block (beginning_of_mark m) words ≡ Err n → Stuck (ActionFronts whole) (IsMark m ∷ words) n
  begun_stops mark.Let words n q = define_stops whole words n q
  begun_stops mark.If words n q = choose_stops words n q
  begun_stops mark.Break words n q = leave_stops whole words n q
  begun_stops m words n q = nowhere whole (IsMark m) words n q

  statement_stops : (words : List TextToken) (n : ℕ) → statement_by whole block words ≡ Err n → Stuck (ActionFronts whole) words n
  unfolding statement_by
  statement_stops [] n q = record { bad = []; front = no_action; place = err_is 0 n q }
  statement_stops (IsName x ∷ words) n q = target_stops whole x words n q
  statement_stops (IsMark m ∷ words) n q = begun_stops m words n q
  statement_stops (IsNumber k ∷ words) n q = nowhere whole (IsNumber k) words n q
  statement_stops (IsType t ∷ words) n q = nowhere whole (IsType t) words n q
  statement_stops (IsCompare op ∷ words) n q = nowhere whole (IsCompare op) words n q
  statement_stops (IsUpdate op ∷ words) n q = nowhere whole (IsUpdate op) words n q

  given_stops : (k : ℕ) (words : List TextToken) (n : ℕ) → ((next : List TextToken) → block_by (statement_by whole block) k next ≡ Err n → Stuck (BlockFronts whole) next n) → (o : Option (List TextToken)) → following mark.CloseBrace words ≡ o → given {B = Statements} o (λ rest. Ok (Done, rest)) (statement_by whole block words >>= (λ s. block_by (statement_by whole block) k s.1 >>= (λ b. Ok (Then s.0 b.0, b.1)))) ≡ Err n → Stuck (BlockFronts whole) words n
  given_stops k words n again (Some next) p q = absurd (ok_not_err (Done, next) n q)
  given_stops k words n again None p q =
      stuck_bind (statement_by whole block words) (λ s. block_by (statement_by whole block) k s.1 >>= (λ b. Ok (Then s.0 b.0, b.1))) n q
      (λ f. let s = statement_stops words n f in record { bad = s.bad; front = in_action s.front; place = s.place })
      (λ s r f. stuck_bind (block_by (statement_by whole block) k s.1) (λ b. Ok (Then s.0 b.0, b.1)) n f
      (λ g. let t = again s.1 g in record { bad = t.bad; front = next_action (statement_spells block sound whole words s r) t.front; place = t.place })
      (λ b t g. absurd (ok_not_err (Then s.0 b.0, b.1) n g)))

  block_by_stops : (k : ℕ) (words : List TextToken) (n : ℕ) → block_by (statement_by whole block) k words ≡ Err n → Stuck (BlockFronts whole) words n
  unfolding block_by
  block_by_stops zero words n q = record { bad = words; front = in_action no_action; place = err_is (length words) n q }
  block_by_stops (suc k) words n q = given_stops k words n (λ next. block_by_stops k next n) (following mark.CloseBrace words) refl q

pub block_stops : (room : ℕ) (whole : Bool) → StopsBlock whole (block_at whole room)
unfolding block_at
block_stops zero whole words n q = record { bad = words; front = in_action no_action; place = err_is (length words) n q }
block_stops (suc room) whole words n q = block_by_stops (block_at false room) (block_spells room false) (block_stops room false) whole (suc (length words)) words n q
