-- Statements: what is read is spelled so.
use Rattle.std.proofs.Common.{◌≡◌, ℕ, zero, suc, Bool, true, false, List, [], ◌∷◌, length, Option, Some, None, Result, Ok, Err, refl, sym, ap, subst, ◌∙◌}
use Rattle.kernel_tree.specs.declared.ops.Ty.{Ty}
use Rattle.kernel_tree.specs.declared.ops.UpdateOp.{UpdateOp}
use Rattle.kernel_tree.specs.declared.mark.Mark.{Mark}
use Rattle.kernel_tree.specs.declared.mark.Mark.TheVariants as mark
use Rattle.kernel_tree.specs.TextToken.{TextToken, IsName, IsNumber, IsType, IsCompare, IsUpdate, IsMark}
use Rattle.kernel_tree.specs.Plain.{Term, Action, Define, Put, Update, Choose, Leave, Block, Done, Then, Nothing, Else}
use Rattle.kernel_tree.specs.Grammar.{Spells, SpellsType, untyped, typed, SpellsAction, define, put, update, choose, choose_else, leave, SpellsBlock, done, then, beginning_of_mark}
use Rattle.expression_syntax.specs.Reading.{◌>>=◌, given, following, past, name_at, type_at, update_front, unary_at, chain_at}
use Rattle.kernel_syntax.specs.Statements.{Statement, Statements, term_at, type_part, define_at, put_at, update_at, target_at, leave_at, choose_by, begun_by, statement_by, block_by, block_at}
use Rattle.expression_syntax.proofs.Sound.{bind_ok, ok_is, not_err, after-is, following-is, name-is, type-is, update-is, reads_spells, before_spells}

-- an expression and the mark after it
pub term_spells : (m : Mark) (words : List TextToken) (x : Term × List TextToken) → term_at m words ≡ Ok x → Spells 10 words x.0 (IsMark m ∷ x.1)
unfolding term_at
term_spells m words x q = before_spells (chain_at (unary_at (length words)) 10) (reads_spells (length words) 10) m words x q

type_spells : (words : List TextToken) (x : Option Ty × List TextToken) (o : Option (List TextToken)) → following mark.Colon words ≡ o → given {B = Result (Option Ty × List TextToken) ℕ} o (λ rest. type_at rest >>= (λ t. Ok (Some t.0, t.1))) (Ok (None, words)) ≡ Ok x → SpellsType words x.0 x.1
type_spells words x None p q = subst (λ (x : Option Ty × List TextToken). SpellsType words x.0 x.1) (ok_is (None, words) x q) untyped
type_spells words x (Some from) p q =
    let b = bind_ok (type_at from) (λ t. Ok (Some t.0, t.1)) x q in
    let there : words ≡ IsMark mark.Colon ∷ IsType b.0.0 ∷ b.0.1 = following-is mark.Colon words from p ∙ ap (λ (z : List TextToken). IsMark mark.Colon ∷ z) (type-is from b.0 b.1) in
    subst (λ (x : Option Ty × List TextToken). SpellsType words x.0 x.1) (ok_is (Some b.0.0, b.0.1) x b.2) (subst (λ (z : List TextToken). SpellsType z (Some b.0.0) b.0.1) (sym there) typed)

pub type_part_spells : (words : List TextToken) (x : Option Ty × List TextToken) → type_part words ≡ Ok x → SpellsType words x.0 x.1
unfolding type_part
type_part_spells words x q = type_spells words x (following mark.Colon words) refl q

at_action : (whole : Bool) (words : List TextToken) (x y : Action × List TextToken) → x ≡ y → SpellsAction whole words x.0 x.1 → SpellsAction whole words y.0 y.1
at_action whole words x y p h = subst (λ (x : Action × List TextToken). SpellsAction whole words x.0 x.1) p h

from_action : (whole : Bool) (to from : List TextToken) (y : Action × List TextToken) → to ≡ from → SpellsAction whole from y.0 y.1 → SpellsAction whole to y.0 y.1
from_action whole to from y p h = subst (λ (z : List TextToken). SpellsAction whole z y.0 y.1) (sym p) h

define_spells : (whole : Bool) (words : List TextToken) (y : Action × List TextToken) → define_at words ≡ Ok y → SpellsAction whole (IsMark mark.Let ∷ words) y.0 y.1
unfolding define_at
define_spells whole words y q =
    let x = bind_ok (name_at words) (λ x. type_part x.1 >>= (λ t. past mark.Equals t.1 >>= (λ from. term_at mark.Semicolon from >>= (λ e. Ok (Define x.0 t.0 e.0, e.1))))) y q in
    let t = bind_ok (type_part x.0.1) (λ t. past mark.Equals t.1 >>= (λ from. term_at mark.Semicolon from >>= (λ e. Ok (Define x.0.0 t.0 e.0, e.1)))) y x.2 in
    let from = bind_ok (past mark.Equals t.0.1) (λ from. term_at mark.Semicolon from >>= (λ e. Ok (Define x.0.0 t.0.0 e.0, e.1))) y t.2 in
    let e = bind_ok (term_at mark.Semicolon from.0) (λ e. Ok (Define x.0.0 t.0.0 e.0, e.1)) y from.2 in
    let ty : SpellsType x.0.1 t.0.0 (IsMark mark.Equals ∷ from.0) = subst (λ (z : List TextToken). SpellsType x.0.1 t.0.0 z) (after-is mark.Equals t.0.1 from.0 from.1) (type_part_spells x.0.1 t.0 t.1) in
    let w : IsMark mark.Let ∷ words ≡ IsMark mark.Let ∷ IsName x.0.0 ∷ x.0.1 = ap (λ (z : List TextToken). IsMark mark.Let ∷ z) (name-is words x.0 x.1) in
    from_action whole _ _ y w (at_action whole _ (Define x.0.0 t.0.0 e.0.0, e.0.1) y (ok_is (Define x.0.0 t.0.0 e.0.0, e.0.1) y e.2) (define ty (term_spells mark.Semicolon from.0 e.0 e.1)))

put_spells : (whole : Bool) (x : List ℕ) (words : List TextToken) (y : Action × List TextToken) → put_at x words ≡ Ok y → SpellsAction whole (IsName x ∷ IsMark mark.OpenBracket ∷ words) y.0 y.1
unfolding put_at
put_spells whole x words y q =
    let i = bind_ok (term_at mark.CloseBracket words) (λ i. past mark.Equals i.1 >>= (λ next. term_at mark.Semicolon next >>= (λ e. Ok (Put x i.0 e.0, e.1)))) y q in
    let next = bind_ok (past mark.Equals i.0.1) (λ next. term_at mark.Semicolon next >>= (λ e. Ok (Put x i.0.0 e.0, e.1))) y i.2 in
    let e = bind_ok (term_at mark.Semicolon next.0) (λ e. Ok (Put x i.0.0 e.0, e.1)) y next.2 in
    let index : Spells 10 words i.0.0 (IsMark mark.CloseBracket ∷ IsMark mark.Equals ∷ next.0) = subst (λ (z : List TextToken). Spells 10 words i.0.0 (IsMark mark.CloseBracket ∷ z)) (after-is mark.Equals i.0.1 next.0 next.1) (term_spells mark.CloseBracket words i.0 i.1) in
    at_action whole _ (Put x i.0.0 e.0.0, e.0.1) y (ok_is (Put x i.0.0 e.0.0, e.0.1) y e.2) (put index (term_spells mark.Semicolon next.0 e.0 e.1))

update_spells : (whole : Bool) (x : List ℕ) (op : UpdateOp) (words : List TextToken) (y : Action × List TextToken) → update_at x op words ≡ Ok y → SpellsAction whole (IsName x ∷ IsUpdate op ∷ words) y.0 y.1
unfolding update_at
update_spells whole x op words y q =
    let e = bind_ok (term_at mark.Semicolon words) (λ e. Ok (Update x op e.0, e.1)) y q in
    at_action whole _ (Update x op e.0.0, e.0.1) y (ok_is (Update x op e.0.0, e.0.1) y e.2) (update (term_spells mark.Semicolon words e.0 e.1))

by_update : (whole : Bool) (x : List ℕ) (words : List TextToken) (y : Action × List TextToken) (o : Option (UpdateOp × List TextToken)) → update_front words ≡ o → given {B = Statement} o (λ u. update_at x u.0 u.1) (Err (length words)) ≡ Ok y → SpellsAction whole (IsName x ∷ words) y.0 y.1
by_update whole x words y None p q = absurd (not_err (length words) y q)
by_update whole x words y (Some u) p q = from_action whole _ _ y (ap (λ (z : List TextToken). IsName x ∷ z) (update-is words u p)) (update_spells whole x u.0 u.1 y q)

by_target : (whole : Bool) (x : List ℕ) (words : List TextToken) (y : Action × List TextToken) (o : Option (List TextToken)) → following mark.OpenBracket words ≡ o → given {B = Statement} o (λ from. put_at x from) (given (update_front words) (λ u. update_at x u.0 u.1) (Err (length words))) ≡ Ok y → SpellsAction whole (IsName x ∷ words) y.0 y.1
by_target whole x words y None p q = by_update whole x words y (update_front words) refl q
by_target whole x words y (Some from) p q = from_action whole _ _ y (ap (λ (z : List TextToken). IsName x ∷ z) (following-is mark.OpenBracket words from p)) (put_spells whole x from y q)

target_spells : (whole : Bool) (x : List ℕ) (words : List TextToken) (y : Action × List TextToken) → target_at x words ≡ Ok y → SpellsAction whole (IsName x ∷ words) y.0 y.1
unfolding target_at
target_spells whole x words y q = by_target whole x words y (following mark.OpenBracket words) refl q

leave_spells : (whole : Bool) (words : List TextToken) (y : Action × List TextToken) → leave_at whole words ≡ Ok y → SpellsAction whole (IsMark mark.Break ∷ words) y.0 y.1
unfolding leave_at
leave_spells false words y q = absurd (not_err (suc (length words)) y q)
leave_spells true words y q =
    let from = bind_ok (past mark.If words) (λ from. term_at mark.Semicolon from >>= (λ c. Ok (Leave c.0, c.1))) y q in
    let c = bind_ok (term_at mark.Semicolon from.0) (λ c. Ok (Leave c.0, c.1)) y from.2 in
    let w : IsMark mark.Break ∷ words ≡ IsMark mark.Break ∷ IsMark mark.If ∷ from.0 = ap (λ (z : List TextToken). IsMark mark.Break ∷ z) (after-is mark.If words from.0 from.1) in
    from_action true _ _ y w (at_action true _ (Leave c.0.0, c.0.1) y (ok_is (Leave c.0.0, c.0.1) y c.2) (leave (term_spells mark.Semicolon from.0 c.0 c.1)))

abbrev pub SoundBlock : Bool → (List TextToken → Statements) → Type 0
SoundBlock whole block = (words : List TextToken) (x : Block × List TextToken) → block words ≡ Ok x → SpellsBlock whole words x.0 x.1

module _ (block : List TextToken → Statements) (sound : SoundBlock false block) (whole : Bool) where
  else_spells : (words from : List TextToken) (c : Term) (b : Block) (next : List TextToken) (y : Action × List TextToken) → Spells 10 words c (IsMark mark.OpenBrace ∷ from) → SpellsBlock false from b next → (o : Option (List TextToken)) → following mark.Else next ≡ o → given {B = Statement} o (λ rest. past mark.OpenBrace rest >>= (λ from. block from >>= (λ d. Ok (Choose c b (Else d.0), d.1)))) (Ok (Choose c b Nothing, next)) ≡ Ok y → SpellsAction whole (IsMark mark.If ∷ words) y.0 y.1
  else_spells words from c b next y hc hb None p q = at_action whole _ (Choose c b Nothing, next) y (ok_is (Choose c b Nothing, next) y q) (choose hc hb)
  else_spells words start c b next y hc hb (Some more) p q =
      let from = bind_ok (past mark.OpenBrace more) (λ from. block from >>= (λ d. Ok (Choose c b (Else d.0), d.1))) y q in
      let d = bind_ok (block from.0) (λ d. Ok (Choose c b (Else d.0), d.1)) y from.2 in
      let there : next ≡ IsMark mark.Else ∷ IsMark mark.OpenBrace ∷ from.0 = following-is mark.Else next more p ∙ ap (λ (z : List TextToken). IsMark mark.Else ∷ z) (after-is mark.OpenBrace more from.0 from.1) in
      at_action whole _ (Choose c b (Else d.0.0), d.0.1) y (ok_is (Choose c b (Else d.0.0), d.0.1) y d.2) (choose_else hc (subst (λ (z : List TextToken). SpellsBlock false start b z) there hb) (sound from.0 d.0 d.1))

  choose_spells : (words : List TextToken) (y : Action × List TextToken) → choose_by block words ≡ Ok y → SpellsAction whole (IsMark mark.If ∷ words) y.0 y.1
  unfolding choose_by
  choose_spells words y q =
      let c = bind_ok (term_at mark.OpenBrace words) (λ c. block c.1 >>= (λ b. given {B = Statement} (following mark.Else b.1) (λ rest. past mark.OpenBrace rest >>= (λ from. block from >>= (λ d. Ok (Choose c.0 b.0 (Else d.0), d.1)))) (Ok (Choose c.0 b.0 Nothing, b.1)))) y q in
      let b = bind_ok (block c.0.1) (λ b. given {B = Statement} (following mark.Else b.1) (λ rest. past mark.OpenBrace rest >>= (λ from. block from >>= (λ d. Ok (Choose c.0.0 b.0 (Else d.0), d.1)))) (Ok (Choose c.0.0 b.0 Nothing, b.1))) y c.2 in
      else_spells words c.0.1 c.0.0 b.0.0 b.0.1 y (term_spells mark.OpenBrace words c.0 c.1) (sound c.0.1 b.0 b.1) (following mark.Else b.0.1) refl b.2

  begun_spells : (m : Mark) (words : List TextToken) (y : Action × List TextToken) → begun_by whole block (beginning_of_mark m) words ≡ Ok y → SpellsAction whole (IsMark m ∷ words) y.0 y.1
  begun_spells mark.Let words y q = define_spells whole words y q
  begun_spells mark.If words y q = choose_spells words y q
  begun_spells mark.Break words y q = leave_spells whole words y q
  begun_spells _ words y q = absurd (not_err (suc (length words)) y q)

  pub statement_spells : (words : List TextToken) (y : Action × List TextToken) → statement_by whole block words ≡ Ok y → SpellsAction whole words y.0 y.1
  unfolding statement_by
  statement_spells [] y q = absurd (not_err 0 y q)
  statement_spells (IsName x ∷ words) y q = target_spells whole x words y q
  statement_spells (IsMark m ∷ words) y q = begun_spells m words y q
  statement_spells (IsNumber n ∷ words) y q = absurd (not_err (suc (length words)) y q)
  statement_spells (IsType t ∷ words) y q = absurd (not_err (suc (length words)) y q)
  statement_spells (IsCompare op ∷ words) y q = absurd (not_err (suc (length words)) y q)
  statement_spells (IsUpdate op ∷ words) y q = absurd (not_err (suc (length words)) y q)

  given_block : (k : ℕ) (words : List TextToken) (y : Block × List TextToken) → ((next : List TextToken) (z : Block × List TextToken) → block_by (statement_by whole block) k next ≡ Ok z → SpellsBlock whole next z.0 z.1) → (o : Option (List TextToken)) → following mark.CloseBrace words ≡ o → given {B = Statements} o (λ rest. Ok (Done, rest)) (statement_by whole block words >>= (λ s. block_by (statement_by whole block) k s.1 >>= (λ b. Ok (Then s.0 b.0, b.1)))) ≡ Ok y → SpellsBlock whole words y.0 y.1
  given_block k words y again (Some next) p q = subst (λ (x : Block × List TextToken). SpellsBlock whole words x.0 x.1) (ok_is (Done, next) y q) (subst (λ (z : List TextToken). SpellsBlock whole z Done next) (sym (following-is mark.CloseBrace words next p)) done)
  given_block k words y again None p q =
      let s = bind_ok (statement_by whole block words) (λ s. block_by (statement_by whole block) k s.1 >>= (λ b. Ok (Then s.0 b.0, b.1))) y q in
      let c = bind_ok (block_by (statement_by whole block) k s.0.1) (λ b. Ok (Then s.0.0 b.0, b.1)) y s.2 in
      subst (λ (x : Block × List TextToken). SpellsBlock whole words x.0 x.1) (ok_is (Then s.0.0 c.0.0, c.0.1) y c.2) (then (statement_spells words s.0 s.1) (again s.0.1 c.0 c.1))

  block_by_spells : (k : ℕ) (words : List TextToken) (y : Block × List TextToken) → block_by (statement_by whole block) k words ≡ Ok y → SpellsBlock whole words y.0 y.1
  unfolding block_by
  block_by_spells zero words y q = absurd (not_err (length words) y q)
  block_by_spells (suc k) words y q = given_block k words y (block_by_spells k) (following mark.CloseBrace words) refl q

pub block_spells : (room : ℕ) (whole : Bool) → SoundBlock whole (block_at whole room)
unfolding block_at
block_spells zero whole words y q = absurd (not_err (length words) y q)
block_spells (suc room) whole words y q = block_by_spells (block_at false room) (block_spells room false) whole (suc (length words)) words y q
