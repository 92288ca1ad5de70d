-- What a tree of tokens holds: names that are names, numbers in range, breaks in the loop's own block alone.
use Rattle.std.proofs.Common.{ℕ, zero, suc, ◌≤◌, List, [], ◌∷◌, length, Bool, true, false, Option, Some, None, refl, arith}
use Rattle.std.specs.Prelude.{ℤ, pos, negsuc, neg_ℤ, IsTrue, ◌^◌, nat_lt, unsigned_abs}
use Rattle.std.proofs.lemmas.Bool.{and_parts}
use Rattle.kernel_tree.specs.declared.mark.Joint.{Joint}
use Rattle.kernel_tree.specs.declared.mark.Joint.TheVariants as joint
use Rattle.kernel_tree.specs.declared.mark.Sign.{Sign}
use Rattle.kernel_tree.specs.declared.mark.Sign.TheVariants as sign
use Rattle.kernel_tree.specs.TextToken.{TextToken}
use Rattle.kernel_tree.specs.Tokens.{is_name, is_token, are_tokens}
use Rattle.kernel_tree.specs.Plain.{Term, Literal, Variable, Element, Unary, Operation, Shift, Conversion, Choice, Comparison, Both, Either, Not, Action, Define, Put, Update, Choose, Leave, Block, Done, Then, Otherwise, Nothing, Else, Parameter, Accumulator, PlainLoop, Returned, Program}
use Rattle.kernel_tree.specs.Grammar.{Spells, number, name, element, group, pair, absolute, choice, negative, prefix, up, conversion, shift, operation, comparison, joined, signed, SpellsType, untyped, typed, SpellsAction, define, put, update, choose, choose_else, leave, SpellsBlock, done, then, SpellsParam, scalar, array, SpellsSome, last, more, SpellsParams, none, some, SpellsVars, no_var, var, SpellsLoop, no_loop, loop, Tree, procedure, function}

-- each token is one that some text has
abbrev pub Tokens : List TextToken → Type 0
Tokens [] = Unit {0}
Tokens (w ∷ ws) = IsTrue (is_token w) × Tokens ws

pub tokens_from : (ws : List TextToken) → IsTrue (are_tokens ws) → Tokens ws
tokens_from [] h = tt
tokens_from (w ∷ ws) h = let e = and_parts (is_token w) (are_tokens ws) h in (e.0, tokens_from ws e.1)

-- ---- expressions

abbrev pub IsCount : ℤ → Type 0
IsCount (pos n) = IsTrue (nat_lt n (2 ^ 127))
IsCount (negsuc n) = ⊥

abbrev pub Well : Term → Type 0
Well (Literal n) = IsTrue (nat_lt (unsigned_abs n) (2 ^ 127))
Well (Variable x) = IsTrue (is_name x)
Well (Element a i) = IsTrue (is_name a) × Well i
Well (Unary op e) = Well e
Well (Operation op a b) = Well a × Well b
Well (Shift left e n) = Well e × IsCount n
Well (Conversion e t) = Well e
Well (Choice c a b) = Well c × (Well a × Well b)
Well (Comparison op a b) = Well a × Well b
Well (Both a b) = Well a × Well b
Well (Either a b) = Well a × Well b
Well (Not e) = Well e

well_joined : (j : Joint) (a b : Term) → Well a → Well b → Well (joined j a b)
well_joined (joint.Dual op) a b p q = (p, q)
well_joined other a b p q = (p, q)

well_signed : (s : Sign) (e : Term) → Well e → Well (signed s e)
well_signed sign.Minus e p = p
well_signed other e p = p

well_negative : (n : ℕ) → IsTrue (nat_lt n (2 ^ 127)) → Well (Literal (neg_ℤ (pos n)))
well_negative zero p = p
well_negative (suc n) p = p

pub well : {level : ℕ} {words : List TextToken} {e : Term} {rest : List TextToken} → Spells level words e rest → Tokens words → Well e × Tokens rest
well number t = (t.0, t.1)
well name t = (t.0, t.1)
well (element d) t = let r = well d t.1.1 in ((t.0, r.0), r.1.1)
well (group d) t = let r = well d t.1 in (r.0, r.1.1)
well (pair q d f) t = let r = well d t.1.1 in let s = well f r.1.1 in ((r.0, s.0), s.1.1)
well (absolute d) t = let r = well d t.1.1 in (r.0, r.1.1)
well (choice d f g) t = let r = well d t.1.1 in let s = well f r.1.1 in let u = well g s.1.1 in ((r.0, (s.0, u.0)), u.1.1)
well (negative {n = n}) t = (well_negative n t.1.0, t.1.1)
well (prefix {s = s} {e = e} q g d) t = let r = well d t.1 in (well_signed s e r.0, r.1)
well (up d) t = well d t
well (conversion d p q) t = let r = well d t in (r.0, r.1.1.1)
well (shift d p q) t = let r = well d t in ((r.0, r.1.1.0), r.1.1.1)
well (operation {j = j} {a = a} {b = b} d p q f) t = let r = well d t in let s = well f r.1.1 in (well_joined j a b r.0 s.0, s.1)
well (comparison d p q f) t = let r = well d t in let s = well f r.1.1 in ((r.0, s.0), s.1)

-- ---- statements

abbrev mutual
  pub WellAction : Bool → Action → Type 0
  WellAction whole (Define x t e) = IsTrue (is_name x) × Well e
  WellAction whole (Put a i e) = IsTrue (is_name a) × (Well i × Well e)
  WellAction whole (Update x op e) = IsTrue (is_name x) × Well e
  WellAction whole (Choose c b d) = Well c × (WellBlock false b × WellOtherwise d)
  WellAction whole (Leave c) = IsTrue whole × Well c

  pub WellBlock : Bool → Block → Type 0
  WellBlock whole Done = Unit {0}
  WellBlock whole (Then s b) = WellAction whole s × WellBlock whole b

  pub WellOtherwise : Otherwise → Type 0
  WellOtherwise Nothing = Unit {0}
  WellOtherwise (Else b) = WellBlock false b

well_type : {words : List TextToken} {t : _} {rest : List TextToken} → SpellsType words t rest → Tokens words → Tokens rest
well_type untyped t = t
well_type typed t = t.1.1

mutual
  well_action : {whole : Bool} {words : List TextToken} {s : Action} {rest : List TextToken} → SpellsAction whole words s rest → Tokens words → WellAction whole s × Tokens rest
  well_action (define d f) t = let s = well f (well_type d t.1.1).1 in ((t.1.0, s.0), s.1.1)
  well_action (put d f) t = let r = well d t.1.1 in let s = well f r.1.1.1 in ((t.0, (r.0, s.0)), s.1.1)
  well_action (update d) t = let r = well d t.1.1 in ((t.0, r.0), r.1.1)
  well_action (choose d f) t = let r = well d t.1 in let s = well_block f r.1.1 in ((r.0, (s.0, tt)), s.1)
  well_action (choose_else d f g) t = let r = well d t.1 in let s = well_block f r.1.1 in let u = well_block g s.1.1.1 in ((r.0, (s.0, u.0)), u.1)
  well_action (leave d) t = let r = well d t.1.1 in ((refl, r.0), r.1.1)

  pub well_block : {whole : Bool} {words : List TextToken} {b : Block} {rest : List TextToken} → SpellsBlock whole words b rest → Tokens words → WellBlock whole b × Tokens rest
  well_block done t = (tt, t.1)
  well_block (then d f) t = let r = well_action d t in let s = well_block f r.1 in ((r.0, s.0), s.1)

-- ---- kernels

abbrev pub WellParams : List Parameter → Type 0
WellParams [] = Unit {0}
WellParams (p ∷ ps) = IsTrue (is_name p.name) × WellParams ps

abbrev pub WellVars : List Accumulator → Type 0
WellVars [] = Unit {0}
WellVars (v ∷ vs) = IsTrue (is_name v.name) × (Well v.init × WellVars vs)

abbrev pub WellForLoop : Option PlainLoop → Type 0
WellForLoop None = Unit {0}
WellForLoop (Some l) = IsTrue (is_name l.index) × (IsTrue (is_name l.bound) × WellBlock true l.body)

abbrev pub WellAnswer : Option Returned → Type 0
WellAnswer None = Unit {0}
WellAnswer (Some a) = Well a.value

pub record WellProgram (k : Program) : Type 0 where
  pub name : IsTrue (is_name k.name)
  pub few : length k.params ≤ 8
  pub params : WellParams k.params
  pub vars : WellVars k.vars
  pub for_loop : WellForLoop k.for_loop
  pub answer : WellAnswer k.answer

well_param : {words : List TextToken} {p : Parameter} {rest : List TextToken} → SpellsParam words p rest → Tokens words → IsTrue (is_name p.name) × Tokens rest
well_param scalar t = (t.0, t.1.1.1)
well_param array t = (t.0, t.1.1.1.1.1)

well_some : {others : ℕ} {words : List TextToken} {ps : List Parameter} {rest : List TextToken} → SpellsSome others words ps rest → Tokens words → (length ps ≤ suc others) × (WellParams ps × Tokens rest)
well_some (last {others = others} d) t = let r = well_param d t in (omega arith, ((r.0, tt), r.1.1))
well_some (more {others = others} {ps = ps} d f) t = let r = well_param d t in let s = well_some f r.1.1 in (omega arith, ((r.0, s.1.0), s.1.1))

well_params : {words : List TextToken} {ps : List Parameter} {rest : List TextToken} → SpellsParams words ps rest → Tokens words → (length ps ≤ 8) × (WellParams ps × Tokens rest)
well_params none t = (omega arith, (tt, t.1))
well_params (some d) t = let r = well_some d t in (omega arith, r.1)

well_vars : {words : List TextToken} {vs : List Accumulator} {rest : List TextToken} → SpellsVars words vs rest → Tokens words → WellVars vs × Tokens rest
well_vars no_var t = (tt, t)
well_vars (var d f) t = let r = well d t.1.1.1.1.1 in let s = well_vars f r.1.1 in ((t.1.0, (r.0, s.0)), s.1)

well_loop : {words : List TextToken} {l : Option PlainLoop} {rest : List TextToken} → SpellsLoop words l rest → Tokens words → WellForLoop l × Tokens rest
well_loop no_loop t = (tt, t)
well_loop (loop d) t = let r = well_block d t.1.1.1.1.1.1.1 in ((t.1.0, (t.1.1.1.1.1.0, r.0)), r.1)

pub well_tree : {words : List TextToken} {k : Program} → Tree words k → Tokens words → WellProgram k
well_tree (procedure d f g) t =
    let p = well_params d t.1.1.1 in
    let v = well_vars f p.1.1.1 in
    let l = well_loop g v.1 in
    record { name = t.1.0; few = p.0; params = p.1.0; vars = v.0; for_loop = l.0; answer = tt }
well_tree (function d f g h) t =
    let p = well_params d t.1.1.1 in
    let v = well_vars f p.1.1.1.1.1 in
    let l = well_loop g v.1 in
    let a = well h l.1.1 in
    record { name = t.1.0; few = p.0; params = p.1.0; vars = v.0; for_loop = l.0; answer = a.0 }
