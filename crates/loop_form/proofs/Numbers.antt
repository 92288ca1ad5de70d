-- The items of a kernel are numbered from 0, are as many as its size says, and are used no earlier than they stand.
use Rattle.std.proofs.Common.{◌≡◌, ℕ, zero, suc, ◌+◌, ◌≤◌, ℤ, List, [], ◌∷◌, ◌++◌, length, Option, Some, None, refl, sym, ap, subst, arith, length-append}
use Rattle.std.specs.Prelude.{option_map, slice_get}
use Rattle.kernel_tree.specs.Plain.{Term, Literal, Variable, Element, Unary, Operation, Shift, Conversion, Choice, Comparison, Both, Either, Not, Action, Define, Put, Update, Choose, Leave, Block, Done, Then, Otherwise, Nothing, Else, Parameter, Accumulator, PlainLoop, Returned, Program}
use Rattle.kernel_tree.specs.Items.{stream_offset, index_size, index_items, term_size, action_size, block_size, otherwise_size, vars_size, for_loop_size, answer_size, loop_index, index_of, size_of, loop_start}
use Rattle.loop_form.specs.Entries.{Entry, inner_entries, term_entries, action_entries, block_entries, otherwise_entries, params_entries, vars_entries, for_loop_entries, answer_entries, entries_of, loop_entries}
use Rattle.loop_form.specs.Numbers.{Numbered}

-- no item is used before it stands
abbrev pub AreUsed : List Entry → Type 0
AreUsed [] = Unit {0}
AreUsed (e ∷ es) = (e.item ≤ e.last_use) × AreUsed es

-- n items from number b on
pub record Listed (b n : ℕ) (es : List Entry) : Type 0 where
  pub numbered : Numbered b es
  pub used : AreUsed es
  pub count : length es ≡ n

numbered-append : (b : ℕ) (xs ys : List Entry) → Numbered b xs → Numbered (b + length xs) ys → Numbered b (xs ++ ys)
numbered-append b [] ys h g = let e : b + 0 ≡ b = omega arith in subst (λ c. Numbered c ys) e g
numbered-append b (x ∷ xs) ys h g = let e : b + length (x ∷ xs) ≡ suc b + length xs = omega arith in (h.0, numbered-append (suc b) xs ys h.1 (subst (λ c. Numbered c ys) e g))

used-append : (xs ys : List Entry) → AreUsed xs → AreUsed ys → AreUsed (xs ++ ys)
used-append [] ys h g = g
used-append (x ∷ xs) ys h g = (h.0, used-append xs ys h.1 g)

listed_append : (b m n : ℕ) (xs ys : List Entry) → Listed b m xs → Listed (b + m) n ys → Listed b (m + n) (xs ++ ys)
listed_append b m n xs ys h g = record {
  numbered = numbered-append b xs ys h.numbered (subst (λ c. Numbered (b + c) ys) (sym h.count) g.numbered);
  used = used-append xs ys h.used g.used;
  count = let c = h.count in let d = g.count in let e = length-append xs ys in omega (arith, c, d, e);
}

-- the same number of items, said otherwise
sized : (b m n : ℕ) (es : List Entry) → m ≡ n → Listed b m es → Listed b n es
sized b m n es e h = subst (λ c. Listed b c es) e h

listed_none : (b : ℕ) → Listed b 0 []
listed_none b = record { numbered = tt; used = tt; count = refl }

listed_one : (e : Entry) → e.item ≤ e.last_use → Listed e.item 1 (e ∷ [])
listed_one e u = record { numbered = (refl, tt); used = (u, tt); count = refl }

listed_cons : (e : Entry) (n : ℕ) (es : List Entry) → e.item ≤ e.last_use → Listed (e.item + 1) n es → Listed e.item (1 + n) (e ∷ es)
listed_cons e n es u h = record {
  numbered = (refl, let q : e.item + 1 ≡ suc e.item = omega arith in subst (λ c. Numbered c es) q h.numbered);
  used = (u, h.used);
  count = let c = h.count in omega (arith, c);
}

-- the items of an index where it is computed
listed_inner : (k : Program) (from n : ℕ) (t : Term) (o : Option ℤ) → Listed from n (term_entries k from (from + n) t) → Listed from (index_size o n) (inner_entries o (term_entries k from (from + index_size o n) t))
listed_inner k from n t None h = h
listed_inner k from n t (Some c) h = listed_none from

pub term-listed : (k : Program) (from last_use : ℕ) (t : Term) → from + term_size (loop_index k) t ≤ last_use → Listed from (term_size (loop_index k) t) (term_entries k from last_use t)
term-listed k from last_use (Literal n) h = listed_one _ (omega arith)
term-listed k from last_use (Variable x) h = listed_one _ (omega arith)
term-listed k from last_use (Element a i) h =
    listed_append from (index_items (loop_index k) i) 1 _ _ (listed_inner k from (term_size (loop_index k) i) i (stream_offset (loop_index k) i) (term-listed k from (from + term_size (loop_index k) i) i (omega arith))) (listed_one _ (omega arith))
term-listed k from last_use (Unary op e) h = listed_append from (term_size (loop_index k) e) 1 _ _ (term-listed k from _ e (omega arith)) (listed_one _ (omega arith))
term-listed k from last_use (Operation op a b) h =
    let m : ℕ = term_size (loop_index k) a in
    let n : ℕ = term_size (loop_index k) b in
    sized from (m + (n + 1)) (m + n + 1) _ (omega arith) (listed_append from m (n + 1) _ _ (term-listed k from (from + m + n) a (omega arith)) (listed_append (from + m) n 1 _ _ (term-listed k (from + m) (from + m + n) b (omega arith)) (listed_one _ (omega arith))))
term-listed k from last_use (Shift left e n) h = listed_append from (term_size (loop_index k) e) 1 _ _ (term-listed k from _ e (omega arith)) (listed_one _ (omega arith))
term-listed k from last_use (Conversion e t) h = listed_append from (term_size (loop_index k) e) 1 _ _ (term-listed k from _ e (omega arith)) (listed_one _ (omega arith))
term-listed k from last_use (Choice c a b) h =
    let m : ℕ = term_size (loop_index k) a in
    let n : ℕ = term_size (loop_index k) b in
    let p : ℕ = term_size (loop_index k) c in
    sized from (m + (n + (p + 1))) (m + n + p + 1) _ (omega arith)
    (listed_append from m (n + (p + 1)) _ _ (term-listed k from (from + m + n + p) a (omega arith))
    (listed_append (from + m) n (p + 1) _ _ (term-listed k (from + m) (from + m + n + p) b (omega arith))
    (listed_append (from + m + n) p 1 _ _ (term-listed k (from + m + n) (from + m + n + p) c (omega arith)) (listed_one _ (omega arith)))))
term-listed k from last_use (Comparison op a b) h =
    let m : ℕ = term_size (loop_index k) a in
    let n : ℕ = term_size (loop_index k) b in
    sized from (m + (n + 1)) (m + n + 1) _ (omega arith) (listed_append from m (n + 1) _ _ (term-listed k from (from + m + n) a (omega arith)) (listed_append (from + m) n 1 _ _ (term-listed k (from + m) (from + m + n) b (omega arith)) (listed_one _ (omega arith))))
term-listed k from last_use (Both a b) h =
    let m : ℕ = term_size (loop_index k) a in
    let n : ℕ = term_size (loop_index k) b in
    sized from (m + (n + 1)) (m + n + 1) _ (omega arith) (listed_append from m (n + 1) _ _ (term-listed k from (from + m + n) a (omega arith)) (listed_append (from + m) n 1 _ _ (term-listed k (from + m) (from + m + n) b (omega arith)) (listed_one _ (omega arith))))
term-listed k from last_use (Either a b) h =
    let m : ℕ = term_size (loop_index k) a in
    let n : ℕ = term_size (loop_index k) b in
    sized from (m + (1 + (n + 1))) (m + 1 + n + 1) _ (omega arith)
    (listed_append from m (1 + (n + 1)) _ _ (term-listed k from (from + m + 1 + n) a (omega arith))
    (listed_cons _ (n + 1) _ (omega arith)
    (listed_append (from + m + 1) n 1 _ _ (term-listed k (from + m + 1) (from + m + 1 + n) b (omega arith)) (listed_one _ (omega arith)))))
term-listed k from last_use (Not e) h = listed_append from (term_size (loop_index k) e) 1 _ _ (term-listed k from _ e (omega arith)) (listed_one _ (omega arith))

mutual
  pub action-listed : (k : Program) (from : ℕ) (s : Action) → Listed from (action_size (loop_index k) s) (action_entries k from s)
  action-listed k from (Define x t e) = listed_append from (term_size (loop_index k) e) 1 _ _ (term-listed k from _ e (omega arith)) (listed_one _ (omega arith))
  action-listed k from (Put a i e) = listed_append from (term_size (loop_index k) e) 1 _ _ (term-listed k from _ e (omega arith)) (listed_one _ (omega arith))
  action-listed k from (Update x op e) = listed_append from (term_size (loop_index k) e) 1 _ _ (term-listed k from _ e (omega arith)) (listed_one _ (omega arith))
  action-listed k from (Choose c b d) =
      let m : ℕ = term_size (loop_index k) c in
      let n : ℕ = block_size (loop_index k) b in
      let p : ℕ = otherwise_size (loop_index k) d in
      sized from (m + (1 + (n + (p + 1)))) (m + 1 + n + p + 1) _ (omega arith)
      (listed_append from m (1 + (n + (p + 1))) _ _ (term-listed k from (from + m + 1 + n) c (omega arith))
      (listed_cons _ (n + (p + 1)) _ (omega arith)
      (listed_append (from + m + 1) n (p + 1) _ _ (block-listed k (from + m + 1) b)
      (listed_append (from + m + 1 + n) p 1 _ _ (otherwise-listed k (from + m + 1 + n) (from + m + 1 + n + p) d (omega arith)) (listed_one _ (omega arith))))))
  action-listed k from (Leave c) = listed_append from (term_size (loop_index k) c) 1 _ _ (term-listed k from _ c (omega arith)) (listed_one _ (omega arith))

  pub block-listed : (k : Program) (from : ℕ) (b : Block) → Listed from (block_size (loop_index k) b) (block_entries k from b)
  block-listed k from Done = listed_none from
  block-listed k from (Then s b) = listed_append from (action_size (loop_index k) s) (block_size (loop_index k) b) _ _ (action-listed k from s) (block-listed k (from + action_size (loop_index k) s) b)

  pub otherwise-listed : (k : Program) (from end : ℕ) (d : Otherwise) → from ≤ end → Listed from (otherwise_size (loop_index k) d) (otherwise_entries k from end d)
  otherwise-listed k from end Nothing h = listed_none from
  otherwise-listed k from end (Else b) h = listed_cons _ (block_size (loop_index k) b) _ h (block-listed k (from + 1) b)

pub params-listed : (k : Program) (from : ℕ) (ps : List Parameter) → Listed from (length ps) (params_entries k from ps)
params-listed k from [] = listed_none from
params-listed k from (p ∷ ps) = sized from (1 + length ps) (length (p ∷ ps)) _ (omega arith) (listed_cons _ (length ps) _ (omega arith) (params-listed k (from + 1) ps))

pub vars-listed : (k : Program) (from : ℕ) (vs : List Accumulator) → Listed from (vars_size (loop_index k) vs) (vars_entries k from vs)
vars-listed k from [] = listed_none from
vars-listed k from (v ∷ vs) =
    let m : ℕ = term_size (loop_index k) v.init in
    let n : ℕ = vars_size (loop_index k) vs in
    sized from (m + (1 + n)) (m + 1 + n) _ (omega arith) (listed_append from m (1 + n) _ _ (term-listed k from (from + m) v.init (omega arith)) (listed_cons _ n _ (omega arith) (vars-listed k (from + m + 1) vs)))

for_loop-listed : (k : Program) (from : ℕ) (o : Option PlainLoop) → loop_index k ≡ option_map index_of o → Listed from (for_loop_size o) (for_loop_entries k from o)
for_loop-listed k from None q = listed_none from
for_loop-listed k from (Some l) q = sized from (1 + block_size (loop_index k) l.body) (1 + block_size (Some l.index) l.body) _ (ap (λ i. 1 + block_size i l.body) q) (listed_cons _ (block_size (loop_index k) l.body) _ (omega arith) (block-listed k (from + 1) l.body))

answer-listed : (k : Program) (from : ℕ) (o : Option Returned) → Listed from (answer_size (loop_index k) o) (answer_entries k from o)
answer-listed k from None = listed_none from
answer-listed k from (Some a) = listed_append from (term_size (loop_index k) a.value) 1 _ _ (term-listed k from _ a.value (omega arith)) (listed_one _ (omega arith))

-- the items of the loop
pub loop-listed : (k : Program) → Listed (loop_start k) (for_loop_size k.for_loop) (loop_entries k)
loop-listed k = for_loop-listed k (loop_start k) k.for_loop refl

-- the items of a kernel
pub all-listed : (k : Program) → Listed 0 (size_of k) (entries_of k)
all-listed k =
    let m : ℕ = length k.params in
    let n : ℕ = vars_size (loop_index k) k.vars in
    let p : ℕ = for_loop_size k.for_loop in
    let q : ℕ = answer_size (loop_index k) k.answer in
    sized 0 (m + (n + (p + q))) (m + n + p + q) (entries_of k) (omega arith)
    (listed_append 0 m (n + (p + q)) _ _ (params-listed k 0 k.params)
    (at m (0 + m) _ _ (omega arith)
    (listed_append m n (p + q) _ _ (vars-listed k m k.vars)
    (listed_append (m + n) p q _ _ (for_loop-listed k (m + n) k.for_loop refl) (answer-listed k (m + n + p) k.answer)))))
  where
    at : (b c n : ℕ) (es : List Entry) → b ≡ c → Listed b n es → Listed c n es
    at b c n es e h = subst (λ d. Listed d n es) e h

-- item n has number n
pub item-at : (b n : ℕ) (es : List Entry) (e : Entry) → Numbered b es → slice_get es n ≡ Some e → e.item ≡ b + n
item-at b n [] e h s = absurd cc
item-at b zero (x ∷ es) e h s = let same : x ≡ e = some-same s in let a = ap (λ (y : Entry). y.item) same in let f = h.0 in omega (arith, a, f)
  where
    some-same : {x e : Entry} → Some x ≡ Some e → x ≡ e
    some-same s = cc
item-at b (suc n) (x ∷ es) e h s = let a = item-at (suc b) n es e h.1 s in omega (arith, a)
