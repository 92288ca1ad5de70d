-- In a kernel that meets the rules the offsets of all stream indexes are in range.
use Rattle.std.proofs.Common.{◌≡◌, ℕ, ◌+◌, ◌≤◌, ℤ, List, [], ◌∷◌, ◌++◌, Option, Some, None, subst, ◌∙◌}
use Rattle.std.proofs.lemmas.Bool.{leb-true}
use Rattle.std.specs.Prelude.{unsigned_abs, nat_le}
use Rattle.kernel_tree.specs.declared.ops.Ty.{Ty}
use Rattle.kernel_tree.specs.declared.ops.Ty.TheVariants as ty
use Rattle.kernel_tree.specs.declared.fault.Found.{Found}
use Rattle.kernel_tree.specs.Plain.{Term, Literal, Variable, Element, Unary, Operation, Shift, Conversion, Choice, Comparison, Both, Either, Not, Action, Define, Put, Update, Choose, Leave, Block, Done, Then, Otherwise, Nothing, Else, PlainLoop, Program}
use Rattle.kernel_tree.specs.Items.{stream_offset, loop_index, index_items, loop_start}
use Rattle.kernel_tree.specs.Limits.{most_offset}
use Rattle.kernel_tree.specs.Typing.{Scope, Role, Value, lookup, as_value, read_faults, wanted, first, own, faults, inner_faults, index_faults, stream_faults, offset_faults, action_faults, block_faults, otherwise_faults, after_action, after_block, left, in_loop, var_scope, for_loop_faults, check_fault}
use Rattle.kernel_tree.proofs.Faultless.{nil-left, nil-right, loop_faultless}
use Rattle.kernel_tree.proofs.NoFault.{is_empty}
use Rattle.kernel_tree.proofs.Scopes.{index_after, scope_index}
use Rattle.loop_form.specs.Entries.{Entry, inner_entries, term_entries, action_entries, block_entries, otherwise_entries, for_loop_entries, loop_entries}
use Rattle.loop_form.specs.Near.{IsNear, AreNear, NearInner, NearTerm, NearAction, NearBlock, NearOtherwise, NearForLoop}

near-append : (i : Option (List ℕ)) (xs ys : List Entry) → AreNear i xs → AreNear i ys → AreNear i (xs ++ ys)
near-append i [] ys p q = q
near-append i (x ∷ xs) ys (h, p) q = (h, near-append i xs ys p q)

offset-near : (item : ℕ) (c : ℤ) → offset_faults item c ≡ [] → unsigned_abs c ≤ most_offset
offset-near item c e = leb-true (unsigned_abs c) most_offset (is_empty (nat_le (unsigned_abs c) most_offset) _ _ e)

index-near : (item : ℕ) (o : Option ℤ) (t : Option Ty) → index_faults item o t ≡ [] → IsNear o
index-near item None t e = tt
index-near item (Some c) t e = offset-near item c e

stream-near : (item : ℕ) (o : Option ℤ) → stream_faults item o ≡ [] → IsNear o
stream-near item None e = absurd cc
stream-near item (Some c) e = offset-near item c e

inner-near : (i : Option (List ℕ)) (o : Option ℤ) (es : List Entry) (fs : List Found) → (fs ≡ [] → AreNear i es) → inner_faults o fs ≡ [] → AreNear i (inner_entries o es)
inner-near i None es fs f e = f e
inner-near i (Some c) es fs f e = tt

pub term-near : (k : Program) (t : Term) (s : Scope) (from : ℕ) (role : Role) (f u : ℕ) → s.index ≡ loop_index k → faults s from role t ≡ [] → AreNear (loop_index k) (term_entries k f u t)
term-near k (Literal n) s from role f u q h = (tt, tt)
term-near k (Variable x) s from role f u q h = (tt, tt)
term-near k (Element a i) s from role f u q h =
    let item : ℕ = from + index_items s.index i in
    let inner : inner_faults (stream_offset s.index i) (faults s from (Value (first (own s i) (Some ty.U64))) i) ≡ [] = nil-left _ _ h in
    let outer : as_value item role ++ (read_faults item s.inside (wanted role) (lookup s a) ++ index_faults item (stream_offset s.index i) (own s i)) ≡ [] = nil-right (inner_faults (stream_offset s.index i) (faults s from (Value (first (own s i) (Some ty.U64))) i)) _ h in
    let rest : index_faults item (stream_offset s.index i) (own s i) ≡ [] = nil-right (read_faults item s.inside (wanted role) (lookup s a)) _ (nil-right (as_value item role) _ outer) in
    near-append (loop_index k) _ _
    (inner-near (loop_index k) (stream_offset (loop_index k) i) (term_entries k f (f + index_items (loop_index k) i) i) (faults s from (Value (first (own s i) (Some ty.U64))) i) (term-near k i s from (Value (first (own s i) (Some ty.U64))) f (f + index_items (loop_index k) i) q) (subst (λ (j : Option (List ℕ)). inner_faults (stream_offset j i) (faults s from (Value (first (own s i) (Some ty.U64))) i) ≡ []) q inner))
    (subst (λ (j : Option (List ℕ)). IsNear (stream_offset j i)) q (index-near item (stream_offset s.index i) (own s i) rest), tt)
term-near k (Unary op e) s from role f u q h = near-append (loop_index k) _ _ (term-near k e s from (Value (wanted role)) f _ q (nil-left _ _ h)) (tt, tt)
term-near k (Operation op a b) s from role f u q h = near-append (loop_index k) _ _ (term-near k a s _ _ f _ q (nil-left _ _ h)) (near-append (loop_index k) _ _ (term-near k b s _ _ _ _ q (nil-left _ _ (nil-right _ _ h))) (tt, tt))
term-near k (Shift l e n) s from role f u q h = near-append (loop_index k) _ _ (term-near k e s _ _ f _ q (nil-left _ _ h)) (tt, tt)
term-near k (Conversion e t) s from role f u q h = near-append (loop_index k) _ _ (term-near k e s _ _ f _ q (nil-left _ _ h)) (tt, tt)
term-near k (Choice c a b) s from role f u q h = near-append (loop_index k) _ _ (term-near k a s _ _ f _ q (nil-left _ _ h)) (near-append (loop_index k) _ _ (term-near k b s _ _ _ _ q (nil-left _ _ (nil-right _ _ h))) (near-append (loop_index k) _ _ (term-near k c s _ _ _ _ q (nil-left _ _ (nil-right _ _ (nil-right _ _ h)))) (tt, tt)))
term-near k (Comparison op a b) s from role f u q h = near-append (loop_index k) _ _ (term-near k a s _ _ f _ q (nil-left _ _ h)) (near-append (loop_index k) _ _ (term-near k b s _ _ _ _ q (nil-left _ _ (nil-right _ _ h))) (tt, tt))
term-near k (Both a b) s from role f u q h = near-append (loop_index k) _ _ (term-near k a s _ _ f _ q (nil-left _ _ h)) (near-append (loop_index k) _ _ (term-near k b s _ _ _ _ q (nil-left _ _ (nil-right _ _ h))) (tt, tt))
term-near k (Either a b) s from role f u q h = near-append (loop_index k) _ _ (term-near k a s _ _ f _ q (nil-left _ _ h)) (tt, near-append (loop_index k) _ _ (term-near k b s _ _ _ _ q (nil-left _ _ (nil-right _ _ h))) (tt, tt))
term-near k (Not e) s from role f u q h = near-append (loop_index k) _ _ (term-near k e s _ _ f _ q (nil-left _ _ h)) (tt, tt)

mutual
  pub action-near : (k : Program) (a : Action) (s : Scope) (from f : ℕ) → s.index ≡ loop_index k → action_faults s from a ≡ [] → AreNear (loop_index k) (action_entries k f a)
  action-near k (Define x t e) s from f q h = near-append (loop_index k) _ _ (term-near k e s _ _ f _ q (nil-left _ _ h)) (tt, tt)
  action-near k (Put a i e) s from f q h =
      let near : IsNear (stream_offset s.index i) = stream-near _ (stream_offset s.index i) (nil-right _ _ (nil-right _ _ h)) in
      near-append (loop_index k) _ _ (term-near k e s _ _ f _ q (nil-left _ _ h)) (subst (λ (j : Option (List ℕ)). IsNear (stream_offset j i)) q near, tt)
  action-near k (Update x op e) s from f q h = near-append (loop_index k) _ _ (term-near k e s _ _ f _ q (nil-left _ _ h)) (tt, tt)
  action-near k (Choose c b d) s from f q h = near-append (loop_index k) _ _ (term-near k c s _ _ f _ q (nil-left _ _ h)) (tt, near-append (loop_index k) _ _ (block-near k b s _ _ q (nil-left _ _ (nil-right _ _ h))) (near-append (loop_index k) _ _ (otherwise-near k d (left s (after_block s b)) _ _ _ q (nil-right _ _ (nil-right _ _ h))) (tt, tt)))
  action-near k (Leave c) s from f q h = near-append (loop_index k) _ _ (term-near k c s _ _ f _ q h) (tt, tt)

  pub block-near : (k : Program) (b : Block) (s : Scope) (from f : ℕ) → s.index ≡ loop_index k → block_faults s from b ≡ [] → AreNear (loop_index k) (block_entries k f b)
  block-near k Done s from f q h = tt
  block-near k (Then a b) s from f q h = near-append (loop_index k) _ _ (action-near k a s from f q (nil-left _ _ h)) (block-near k b (after_action s a) _ _ (index_after s a ∙ q) (nil-right _ _ h))

  pub otherwise-near : (k : Program) (d : Otherwise) (s : Scope) (from f end : ℕ) → s.index ≡ loop_index k → otherwise_faults s from d ≡ [] → AreNear (loop_index k) (otherwise_entries k f end d)
  otherwise-near k Nothing s from f end q h = tt
  otherwise-near k (Else b) s from f end q h = (tt, block-near k b s _ _ q h)

for_loop-near : (k : Program) (s : Scope) (from f : ℕ) (o : Option PlainLoop) → s.index ≡ loop_index k → for_loop_faults s from o ≡ [] → AreNear (loop_index k) (for_loop_entries k f o)
for_loop-near k s from f None q h = tt
for_loop-near k s from f (Some l) q h = (tt, block-near k l.body (in_loop s l) _ _ q (nil-right _ _ (nil-right _ _ h)))

pub loop-near : (k : Program) → check_fault k ≡ None → AreNear (loop_index k) (loop_entries k)
loop-near k e =
    for_loop-near k (var_scope k) _ (loop_start k) k.for_loop (scope_index k) (loop_faultless k e)

-- ---- the same, of the tree

near-left : (i : Option (List ℕ)) (xs ys : List Entry) → AreNear i (xs ++ ys) → AreNear i xs
near-left i [] ys h = tt
near-left i (x ∷ xs) ys h = (h.0, near-left i xs ys h.1)

near-right : (i : Option (List ℕ)) (xs ys : List Entry) → AreNear i (xs ++ ys) → AreNear i ys
near-right i [] ys h = h
near-right i (x ∷ xs) ys h = near-right i xs ys h.1

near-two : (i : Option (List ℕ)) (xs ys zs : List Entry) → AreNear i (xs ++ (ys ++ zs)) → AreNear i xs × AreNear i ys
near-two i xs ys zs h = (near-left i xs (ys ++ zs) h, near-left i ys zs (near-right i xs (ys ++ zs) h))

near-three : (i : Option (List ℕ)) (xs ys zs ws : List Entry) → AreNear i (xs ++ (ys ++ (zs ++ ws))) → AreNear i xs × (AreNear i ys × AreNear i zs)
near-three i xs ys zs ws h = (near-left i xs (ys ++ (zs ++ ws)) h, near-two i ys zs ws (near-right i xs (ys ++ (zs ++ ws)) h))

-- with an item after the first
near-marked : (i : Option (List ℕ)) (xs : List Entry) (e : Entry) (ys zs ws : List Entry) → AreNear i (xs ++ e ∷ (ys ++ (zs ++ ws))) → AreNear i xs × (AreNear i ys × AreNear i zs)
near-marked i xs e ys zs ws h = (near-left i xs (e ∷ (ys ++ (zs ++ ws))) h, near-two i ys zs ws (near-right i xs (e ∷ (ys ++ (zs ++ ws))) h).1)

near-mark : (i : Option (List ℕ)) (xs : List Entry) (e : Entry) (ys zs : List Entry) → AreNear i (xs ++ e ∷ (ys ++ zs)) → AreNear i xs × AreNear i ys
near-mark i xs e ys zs h = (near-left i xs (e ∷ (ys ++ zs)) h, near-left i ys zs (near-right i xs (e ∷ (ys ++ zs)) h).1)

near-inner : {N : Type 0} (i : Option (List ℕ)) (o : Option ℤ) (es : List Entry) → (AreNear i es → N) → AreNear i (inner_entries o es) → NearInner o N
near-inner i None es f h = f h
near-inner i (Some c) es f h = tt

term-tree : (k : Program) (t : Term) (f u : ℕ) → AreNear (loop_index k) (term_entries k f u t) → NearTerm (loop_index k) t
term-tree k (Literal n) f u h = tt
term-tree k (Variable x) f u h = tt
term-tree k (Element a e) f u h =
    let inner : List Entry = inner_entries (stream_offset (loop_index k) e) (term_entries k f (f + index_items (loop_index k) e) e) in
    ((near-right (loop_index k) inner _ h).0, near-inner (loop_index k) (stream_offset (loop_index k) e) (term_entries k f (f + index_items (loop_index k) e) e) (λ near. term-tree k e f (f + index_items (loop_index k) e) near) (near-left (loop_index k) inner _ h))
term-tree k (Unary op e) f u h = term-tree k e f _ (near-left (loop_index k) _ _ h)
term-tree k (Operation op a b) f u h = let p = near-two (loop_index k) _ _ _ h in (term-tree k a f _ p.0, term-tree k b _ _ p.1)
term-tree k (Shift l e n) f u h = term-tree k e f _ (near-left (loop_index k) _ _ h)
term-tree k (Conversion e t) f u h = term-tree k e f _ (near-left (loop_index k) _ _ h)
term-tree k (Choice c a b) f u h = let p = near-three (loop_index k) _ _ _ _ h in (term-tree k a f _ p.0, (term-tree k b _ _ p.1.0, term-tree k c _ _ p.1.1))
term-tree k (Comparison op a b) f u h = let p = near-two (loop_index k) _ _ _ h in (term-tree k a f _ p.0, term-tree k b _ _ p.1)
term-tree k (Both a b) f u h = let p = near-two (loop_index k) _ _ _ h in (term-tree k a f _ p.0, term-tree k b _ _ p.1)
term-tree k (Either a b) f u h = let p = near-mark (loop_index k) _ _ _ _ h in (term-tree k a f _ p.0, term-tree k b _ _ p.1)
term-tree k (Not e) f u h = term-tree k e f _ (near-left (loop_index k) _ _ h)

mutual
  action-tree : (k : Program) (s : Action) (f : ℕ) → AreNear (loop_index k) (action_entries k f s) → NearAction (loop_index k) s
  action-tree k (Define x t e) f h = term-tree k e f _ (near-left (loop_index k) _ _ h)
  action-tree k (Put a i e) f h = ((near-right (loop_index k) (term_entries k f _ e) _ h).0, term-tree k e f _ (near-left (loop_index k) _ _ h))
  action-tree k (Update x op e) f h = term-tree k e f _ (near-left (loop_index k) _ _ h)
  action-tree k (Choose c b d) f h = let p = near-marked (loop_index k) _ _ _ _ _ h in (term-tree k c f _ p.0, (block-tree k b _ p.1.0, otherwise-tree k d _ _ p.1.1))
  action-tree k (Leave c) f h = term-tree k c f _ (near-left (loop_index k) _ _ h)

  block-tree : (k : Program) (b : Block) (f : ℕ) → AreNear (loop_index k) (block_entries k f b) → NearBlock (loop_index k) b
  block-tree k Done f h = tt
  block-tree k (Then s b) f h = (action-tree k s f (near-left (loop_index k) _ _ h), block-tree k b _ (near-right (loop_index k) (action_entries k f s) _ h))

  otherwise-tree : (k : Program) (d : Otherwise) (f end : ℕ) → AreNear (loop_index k) (otherwise_entries k f end d) → NearOtherwise (loop_index k) d
  otherwise-tree k Nothing f end h = tt
  otherwise-tree k (Else b) f end h = block-tree k b _ h.1

for_loop-tree : (k : Program) (f : ℕ) (o : Option PlainLoop) → AreNear (loop_index k) (for_loop_entries k f o) → NearForLoop (loop_index k) o
for_loop-tree k f None h = tt
for_loop-tree k f (Some l) h = block-tree k l.body _ h.1

pub statements-near : (k : Program) → check_fault k ≡ None → NearForLoop (loop_index k) k.for_loop
statements-near k e = for_loop-tree k (loop_start k) k.for_loop (loop-near k e)
