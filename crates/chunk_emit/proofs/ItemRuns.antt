-- The code of items does what they do one after another over the lanes of a chunk.
use Rattle.std.proofs.Common.{◌≡◌, ℕ, ◌+◌, ◌≤◌, ℤ, Bool, true, false, not, ◌&&◌, ◌||◌, List, [], ◌∷◌, ◌++◌, length, Option, Some, None, inl, inr, refl, sym, ap, subst, arith}
use Rattle.std.specs.Prelude.{if◌then◌else◌, nat_eq}
use Rattle.std.proofs.lemmas.List.{length-append}
use Rattle.std.proofs.lemmas.Bool.{eqb-true}
use Rattle.kernel_tree.specs.declared.ops.Ty.{Ty}
use Rattle.kernel_meaning.specs.Operators.{unary_value, binary_value, shift_value, compare_on}
use Rattle.kernel_meaning.specs.Eval.{choose_value}
use Rattle.kernel_tree.specs.Wrap.{wrap}
use Rattle.machine_model.specs.declared.outcome.StopKind.{StopKind}
use Rattle.machine_model.specs.InstructionTable.{Listed}
use Rattle.machine_model.specs.Machine.{State}
use Rattle.label_fix.specs.DraftRun.{DraftEntry, Put, Laid}
use Rattle.label_fix.proofs.StretchSteps.{stay, chain}
use Rattle.vector_order.specs.Orders.{Lanes, Out, go_on, column, by_item}
use Rattle.loop_form.specs.declared.loop_item.Operand.{Operand}
use Rattle.loop_form.specs.declared.loop_item.Operand.TheVariants.{Constant, Outer, LoopIndex, Made}
use Rattle.loop_form.specs.LoopItems.{Op, Item}
use Rattle.loop_form.specs.LoopItems as ops
use Rattle.vector_order.specs.Operands.{operand_value, on_mask}
use Rattle.vector_order.specs.Items.{item_act, acts_of}
use Rattle.vector_order.proofs.Interchange.{go_twice}
use Rattle.lane_emit.specs.ItemCode.{mask_register}
use Rattle.chunk_emit.specs.Registers.{Layout}
use Rattle.chunk_emit.specs.ChunkCode.{past_cast, op_words, item_words, either_words, items_words, puts}
use Rattle.chunk_emit.specs.Chunk.{Setting, Holds}
use Rattle.chunk_emit.specs.Fits.{Assigned, FitsMask, FitsOp, NoneBetween, following_items}
use Rattle.chunk_emit.specs.StopPlaces.{ChunkComesTo, SomeComesTo}
use Rattle.chunk_emit.specs.ItemsRun.{Does, does_fine, does_fail, ItemsRun}
use Rattle.chunk_emit.proofs.ChunkStates.{holds_later, operand_right, truth_right}
use Rattle.chunk_emit.proofs.PureItems.{value_runs, truth_runs}
use Rattle.chunk_emit.proofs.StopsAt.{stop_at_more, stop_at_after, stop_at_near}
use Rattle.chunk_emit.proofs.Loads.{load_runs}
use Rattle.chunk_emit.proofs.Gathers.{gather_runs}
use Rattle.chunk_emit.proofs.StoreRuns.{store_runs}
use Rattle.chunk_emit.proofs.Updates.{update_runs}
use Rattle.chunk_emit.proofs.CastStores.{pair_runs}

module _ (l : Layout) (fit : Assigned l) (f : Setting) (d : Laid) (rest : List DraftEntry) {p : ℕ} {t : Lanes} {s : State} (h : Holds l f p t s) (mask : Option ℕ) (fm : FitsMask l p mask) where
  abbrev m : ℕ
  m = mask_register l.registers mask

  abbrev OpDoes : Op → Type 0
  OpDoes op = Does l f d (puts (op_words f.w l p m op) rest) s rest (p + 1) (length (op_words f.w l p m op)) (ChunkComesTo f op) (column (item_act f.names (record { item = p; mask = mask; op = op })) f.n f.i t)

  pub op_runs : (op : Op) → FitsOp l f p op → OpDoes op
  op_runs (ops.Load a (Outer x) (Some ty) c) k = load_runs l fit f d rest p t mask fm a x ty c k.0.0 k.0.1 k.2 k.4 k.3 h k.1
  op_runs (ops.Load a (Constant u z) (Some ty) c) k = absurd k.0
  op_runs (ops.Load a LoopIndex (Some ty) c) k = absurd k.0
  op_runs (ops.Load a (Made q) (Some ty) c) k = absurd k.0
  op_runs (ops.Load a base None c) k = absurd k
  op_runs (ops.Gather a (Outer x) (Some ty) r (Some u) y) k = gather_runs l fit f d rest p t mask fm a x ty r u y k.0.0 k.0.1 k.1 k.5 k.4 k.2 k.3 h
  op_runs (ops.Gather a (Constant v z) (Some ty) r (Some u) y) k = absurd k.0
  op_runs (ops.Gather a LoopIndex (Some ty) r (Some u) y) k = absurd k.0
  op_runs (ops.Gather a (Made q) (Some ty) r (Some u) y) k = absurd k.0
  op_runs (ops.Gather a base (Some ty) r None y) k = absurd k
  op_runs (ops.Gather a base None r u y) k = absurd k
  op_runs (ops.Unary op (Some ty) x) k =
      value_runs l fit f d rest h mask fm (ops.Unary op (Some ty) x) (λ j a. unary_value op (Some ty) (operand_value f.names j a x)) ty refl refl k.1 (operand_right h fit ty x k.0) (λ j mem a. refl) refl
  op_runs (ops.Unary op None x) k = absurd k
  op_runs (ops.Binary op (Some ty) x y) k =
      value_runs l fit f d rest h mask fm (ops.Binary op (Some ty) x y) (λ j a. binary_value op (Some ty) (operand_value f.names j a x) (operand_value f.names j a y)) ty refl refl k.2
      (operand_right h fit ty x k.0, operand_right h fit ty y k.1) (λ j mem a. refl) refl
  op_runs (ops.Binary op None x y) k = absurd k
  op_runs (ops.Shift left n (Some ty) x) k =
      value_runs l fit f d rest h mask fm (ops.Shift left n (Some ty) x) (λ j a. shift_value left n (Some ty) (operand_value f.names j a x)) ty refl refl k.2 (operand_right h fit ty x k.0, k.1) (λ j mem a. refl) refl
  op_runs (ops.Shift left n None x) k = absurd k
  op_runs (ops.Cast (Some own) ty x) k =
      value_runs l fit f d rest h mask fm (ops.Cast (Some own) ty x) (λ j a. wrap ty (operand_value f.names j a x)) ty refl refl k.2 (operand_right h fit own x k.0, k.1) (λ j mem a. refl) refl
  op_runs (ops.Cast None ty x) k = absurd k
  op_runs (ops.Let (Some ty) x) k = value_runs l fit f d rest h mask fm (ops.Let (Some ty) x) (λ j a. operand_value f.names j a x) ty refl refl k.1 (operand_right h fit ty x k.0) (λ j mem a. refl) refl
  op_runs (ops.Let None x) k = absurd k
  op_runs (ops.Select (Some ty) c x y) k =
      value_runs l fit f d rest h mask fm (ops.Select (Some ty) c x y) (λ j a. choose_value (a.truth c) (operand_value f.names j a x) (operand_value f.names j a y)) ty refl refl k.3
      (truth_right h c k.0, operand_right h fit ty x k.1, operand_right h fit ty y k.2) (λ j mem a. refl) refl
  op_runs (ops.Select None c x y) k = absurd k
  op_runs (ops.Store a (Outer x) (Some ty) c v) k = store_runs l fit f d rest p t mask fm a x ty c v k.0.0 k.0.1 k.2 k.3 h k.1
  op_runs (ops.Store a (Constant u z) (Some ty) c v) k = absurd k.0
  op_runs (ops.Store a LoopIndex (Some ty) c v) k = absurd k.0
  op_runs (ops.Store a (Made q) (Some ty) c v) k = absurd k.0
  op_runs (ops.Store a base None c v) k = absurd k
  op_runs (ops.Update x op (Some ty) v) k = update_runs l fit f d rest h mask fm x op ty v k.0 k.1 k.2 k.3 k.4
  op_runs (ops.Update x op None v) k = absurd k
  op_runs (ops.Compare op (Some ty) x y) k =
      truth_runs l fit f d rest h mask fm (ops.Compare op (Some ty) x y) (λ j a. on_mask mask a && compare_on op (operand_value f.names j a x) (operand_value f.names j a y)) refl k.2
      (operand_right h fit ty x k.0, operand_right h fit ty y k.1) (λ j mem a. refl) refl
  op_runs (ops.Compare op None x y) k = absurd k
  op_runs (ops.Not c) k = truth_runs l fit f d rest h mask fm (ops.Not c) (λ j a. on_mask mask a && not (a.truth c)) refl k.1 (truth_right h c k.0) (λ j mem a. refl) refl
  op_runs (ops.And c) k = truth_runs l fit f d rest h mask fm (ops.And c) (λ j a. on_mask mask a && a.truth c) refl k.1 (truth_right h c k.0) (λ j mem a. refl) refl
  op_runs (ops.Or b c) k = truth_runs l fit f d rest h mask fm (ops.Or b c) (λ j a. on_mask mask a && (a.truth b || a.truth c)) refl k.2 (truth_right h b k.0, truth_right h c k.1) (λ j mem a. refl) refl
  op_runs (ops.Break c) k = absurd k

-- ---- a list of items

pub puts-append : (is js : List Listed) (rest : List DraftEntry) → puts (is ++ js) rest ≡ puts is (puts js rest)
puts-append [] js rest = refl
puts-append (i ∷ is) js rest = ap (λ es. Put i ∷ es) (puts-append is js rest)

then_does : {l : Layout} {f : Setting} {d : Laid} {c e rest : List DraftEntry} {s : State} {p q m n : ℕ} {near : StopKind → ℕ → Type 0} {out : Out} (most : ℕ) (next : Lanes → Out) → most ≡ m + n → Does l f d c s e p m near out → ((t : Lanes) (u : State) → Holds l f p t u → Does l f d e u rest q n near (next t)) → Does l f d c s rest q most near (go_on out next)
then_does {l = l} {f = f} {d = d} {c = c} {e = e} {rest = rest} {s = s} {q = q} {n = n} {near = near} most next total (does_fine {t = t} end goes holds) more = after (more t end holds)
  where
    after : {out : Out} → Does l f d e end rest q n near out → Does l f d c s rest q most near out
    after (does_fine last on held) = does_fine last (chain most (omega (arith, total)) goes on) held
    after (does_fail kind access stops) = does_fail kind access (stop_at_after most (omega (arith, total)) goes stops)
then_does most next total (does_fail kind access stops) more = does_fail kind access (stop_at_more most (omega (arith, total)) stops)

does_near : {l : Layout} {f : Setting} {d : Laid} {c rest : List DraftEntry} {s : State} {p most : ℕ} {near other : StopKind → ℕ → Type 0} {out : Out} → ((kind : StopKind) (at : ℕ) → near kind at → other kind at) → Does l f d c s rest p most near out → Does l f d c s rest p most other out
does_near more (does_fine end goes holds) = does_fine end goes holds
does_near more (does_fail kind access stops) = does_fail kind access (stop_at_near (more kind) stops)

-- by the first of some items, or by a later one
by_first : (f : Setting) (it : Item) (items : List Item) (kind : StopKind) (at : ℕ) → ChunkComesTo f it.op kind at → SomeComesTo f.names (it ∷ items) f.i f.n kind at
by_first f it items kind at h = (h.0, h.1, h.2, inl h.3)

by_later : (f : Setting) (it : Item) (items : List Item) (kind : StopKind) (at : ℕ) → SomeComesTo f.names items f.i f.n kind at → SomeComesTo f.names (it ∷ items) f.i f.n kind at
by_later f it items kind at h = (h.0, h.1, h.2, inr h.3)

-- what a store after a cast is
pub record Taken (q : ℕ) (op next joined : Op) : Type 0 where
  pub own : Option Ty
  pub cast : Ty
  pub x : Operand
  pub a : List ℕ
  pub base : Operand
  pub ty : Option Ty
  pub c : ℤ
  pub op_is : op ≡ ops.Cast own cast x
  pub next_is : next ≡ ops.Store a base ty c (Made q)
  pub joined_is : joined ≡ ops.Store a base ty c x

made_taken : (q r : ℕ) (own : Option Ty) (cast : Ty) (x : Operand) (a : List ℕ) (base : Operand) (ty : Option Ty) (c : ℤ) (joined : Op) (b : Bool) → nat_eq q r ≡ b → (if b then Some (ops.Store a base ty c x) else None) ≡ Some joined → Taken q (ops.Cast own cast x) (ops.Store a base ty c (Made r)) joined
made_taken q r own cast x a base ty c joined true e h = record {
  own = own;
  cast = cast;
  x = x;
  a = a;
  base = base;
  ty = ty;
  c = c;
  op_is = refl;
  next_is = ap (λ k. ops.Store a base ty c (Made k)) (sym (eqb-true q r e));
  joined_is = let same : ops.Store a base ty c x ≡ joined = cc in sym same;
}
made_taken q r own cast x a base ty c joined false e h = absurd cc

pub cast_is_taken : (q : ℕ) (op next joined : Op) → past_cast q op next ≡ Some joined → Taken q op next joined
cast_is_taken q (ops.Cast s t x) (ops.Store a base ty c (Made r)) joined h = made_taken q r s t x a base ty c joined (nat_eq q r) refl h
cast_is_taken q (ops.Cast s t x) (ops.Store a base ty c (Constant u z)) joined h = absurd cc
cast_is_taken q (ops.Cast s t x) (ops.Store a base ty c (Outer p)) joined h = absurd cc
cast_is_taken q (ops.Cast s t x) (ops.Store a base ty c LoopIndex) joined h = absurd cc
cast_is_taken q (ops.Cast s t x) (ops.Load a base ty c) joined h = absurd cc
cast_is_taken q (ops.Cast s t x) (ops.Gather a base ty r u y) joined h = absurd cc
cast_is_taken q (ops.Cast s t x) (ops.Unary op ty y) joined h = absurd cc
cast_is_taken q (ops.Cast s t x) (ops.Binary op ty y z) joined h = absurd cc
cast_is_taken q (ops.Cast s t x) (ops.Shift left n ty y) joined h = absurd cc
cast_is_taken q (ops.Cast s t x) (ops.Cast own ty y) joined h = absurd cc
cast_is_taken q (ops.Cast s t x) (ops.Let ty y) joined h = absurd cc
cast_is_taken q (ops.Cast s t x) (ops.Select ty c y z) joined h = absurd cc
cast_is_taken q (ops.Cast s t x) (ops.Update v op ty y) joined h = absurd cc
cast_is_taken q (ops.Cast s t x) (ops.Compare op ty y z) joined h = absurd cc
cast_is_taken q (ops.Cast s t x) (ops.Not c) joined h = absurd cc
cast_is_taken q (ops.Cast s t x) (ops.And c) joined h = absurd cc
cast_is_taken q (ops.Cast s t x) (ops.Or c d) joined h = absurd cc
cast_is_taken q (ops.Cast s t x) (ops.Break c) joined h = absurd cc
cast_is_taken q (ops.Load a base ty c) next joined h = absurd cc
cast_is_taken q (ops.Gather a base ty r u y) next joined h = absurd cc
cast_is_taken q (ops.Unary op ty y) next joined h = absurd cc
cast_is_taken q (ops.Binary op ty y z) next joined h = absurd cc
cast_is_taken q (ops.Shift left n ty y) next joined h = absurd cc
cast_is_taken q (ops.Let ty y) next joined h = absurd cc
cast_is_taken q (ops.Select ty c y z) next joined h = absurd cc
cast_is_taken q (ops.Store a base ty c v) next joined h = absurd cc
cast_is_taken q (ops.Update v op ty y) next joined h = absurd cc
cast_is_taken q (ops.Compare op ty y z) next joined h = absurd cc
cast_is_taken q (ops.Not c) next joined h = absurd cc
cast_is_taken q (ops.And c) next joined h = absurd cc
cast_is_taken q (ops.Or c d) next joined h = absurd cc
cast_is_taken q (ops.Break c) next joined h = absurd cc

-- both items as one step
module _ (l : Layout) (fit : Assigned l) (f : Setting) (d : Laid) (rest : List DraftEntry) {q p : ℕ} {t : Lanes} {s : State} (h : Holds l f q t s) (first second : Option ℕ) (mask : FitsMask l q first) (following_mask : FitsMask l p second) (lt : q + 1 ≤ p) (between : NoneBetween l (q + 1) p) (last : l.z_last_use q ≤ p) where
  abbrev PairDoes : (op next joined : Op) → Type 0
  PairDoes op next joined =
      Does l f d (puts (op_words f.w l p (mask_register l.registers second) joined) rest) s rest (p + 1) (length (op_words f.w l p (mask_register l.registers second) joined)) (ChunkComesTo f next)
      (go_on (column (item_act f.names (record { item = q; mask = first; op = op })) f.n f.i t) (column (item_act f.names (record { item = p; mask = second; op = next })) f.n f.i))

  cast_store : (own : Option Ty) (cast : Ty) (x : Operand) (a : List ℕ) (base : Operand) (ty : Option Ty) (c : ℤ) → FitsOp l f q (ops.Cast own cast x) → FitsOp l f p (ops.Store a base ty c (Made q)) → PairDoes (ops.Cast own cast x) (ops.Store a base ty c (Made q)) (ops.Store a base ty c x)
  cast_store (Some own) cast x a (Outer place) (Some ty) c k j =
      pair_runs l fit f d rest q p first second own cast x a place ty c mask following_mask k.0 k.2 j.0.0 j.0.1 j.1 j.2.0.1 j.2.1 j.3 (omega (arith, lt)) between last t s h
  cast_store (Some own) cast x a (Constant u z) (Some ty) c k j = absurd j.0
  cast_store (Some own) cast x a LoopIndex (Some ty) c k j = absurd j.0
  cast_store (Some own) cast x a (Made r) (Some ty) c k j = absurd j.0
  cast_store (Some own) cast x a base None c k j = absurd j
  cast_store None cast x a base ty c k j = absurd k

  pair_does : (op next joined : Op) → Taken q op next joined → FitsOp l f q op → FitsOp l f p next → PairDoes op next joined
  pair_does op next joined is k j =
      subst (λ o. PairDoes o next joined) (sym is.op_is)
      (subst (λ o. PairDoes (ops.Cast is.own is.cast is.x) o joined) (sym is.next_is)
      (subst (λ o. PairDoes (ops.Cast is.own is.cast is.x) (ops.Store is.a is.base is.ty is.c (Made q)) o) (sym is.joined_is)
      (cast_store is.own is.cast is.x is.a is.base is.ty is.c (subst (FitsOp l f q) is.op_is k) (subst (FitsOp l f p) is.next_is j))))

pub items_run : ItemsRun
items_run l f d rest [] p t s fit k h = does_fine s (stay 0) h
items_run l f d rest (it ∷ []) p t s fit k h =
    let here = does_near (by_first f it []) (op_runs l fit f d rest (holds_later h it.item k.0 k.1) it.mask k.2 it.op k.3) in
    then_does (length (item_words f.w l it)) (by_item [] f.n f.i) (omega arith) here (λ u v held. does_fine v (stay 0) held)
items_run l f d rest (it ∷ next ∷ items) p t s fit k h =
    step (past_cast it.item it.op next.op) refl (λ u v held. does_near (by_later f it (next ∷ items)) (items_run l f d rest (next ∷ items) (it.item + 1) u v fit k.5 held))
    (λ u v held. does_near (λ kind at here. by_later f it (next ∷ items) kind at (by_later f next items kind at here)) (items_run l f d rest items (next.item + 1) u v fit k.5.5 held))
  where
    step : (o : Option Op) → past_cast it.item it.op next.op ≡ o
        → ((u : Lanes) (v : State) → Holds l f (it.item + 1) u v → Does l f d (puts (items_words f.w l (next ∷ items)) rest) v rest (following_items p (it ∷ next ∷ items)) (length (items_words f.w l (next ∷ items))) (SomeComesTo f.names (it ∷ next ∷ items) f.i f.n) (by_item (acts_of f.names (next ∷ items)) f.n f.i u))
        → ((u : Lanes) (v : State) → Holds l f (next.item + 1) u v → Does l f d (puts (items_words f.w l items) rest) v rest (following_items p (it ∷ next ∷ items)) (length (items_words f.w l items)) (SomeComesTo f.names (it ∷ next ∷ items) f.i f.n) (by_item (acts_of f.names items) f.n f.i u))
        → Does l f d (puts (either_words f.w l next o (item_words f.w l it ++ items_words f.w l (next ∷ items)) (items_words f.w l items)) rest) s rest (following_items p (it ∷ next ∷ items))
        (length (either_words f.w l next o (item_words f.w l it ++ items_words f.w l (next ∷ items)) (items_words f.w l items))) (SomeComesTo f.names (it ∷ next ∷ items) f.i f.n) (by_item (acts_of f.names (it ∷ next ∷ items)) f.n f.i t)
    step None e more last =
        let words = item_words f.w l it in
        let here = does_near (by_first f it (next ∷ items)) (op_runs l fit f d (puts (items_words f.w l (next ∷ items)) rest) (holds_later h it.item k.0 k.1) it.mask k.2 it.op k.3) in
        subst (λ es. Does l f d es s rest (following_items p (it ∷ next ∷ items)) (length (words ++ items_words f.w l (next ∷ items))) (SomeComesTo f.names (it ∷ next ∷ items) f.i f.n) (by_item (acts_of f.names (it ∷ next ∷ items)) f.n f.i t)) (sym (puts-append words (items_words f.w l (next ∷ items)) rest))
        (then_does (length (words ++ items_words f.w l (next ∷ items))) (by_item (acts_of f.names (next ∷ items)) f.n f.i) (length-append words (items_words f.w l (next ∷ items))) here more)
    step (Some joined) e more last =
        let words = item_words f.w l (record next { op = joined }) in
        let here = does_near (λ kind at one. by_later f it (next ∷ items) kind at (by_first f next items kind at one)) (pair_does l fit f d (puts (items_words f.w l items) rest) (holds_later h it.item k.0 k.1) it.mask next.mask k.2 k.5.2 k.5.0 k.5.1 (k.4 joined e) it.op next.op joined (cast_is_taken it.item it.op next.op joined e) k.3 k.5.3) in
        subst (λ es. Does l f d es s rest (following_items p (it ∷ next ∷ items)) (length (words ++ items_words f.w l items)) (SomeComesTo f.names (it ∷ next ∷ items) f.i f.n) (by_item (acts_of f.names (it ∷ next ∷ items)) f.n f.i t)) (sym (puts-append words (items_words f.w l items) rest))
        (subst (λ o. Does l f d (puts words (puts (items_words f.w l items) rest)) s rest (following_items p (it ∷ next ∷ items)) (length (words ++ items_words f.w l items)) (SomeComesTo f.names (it ∷ next ∷ items) f.i f.n) o) (go_twice (column (item_act f.names it) f.n f.i t) (column (item_act f.names next) f.n f.i) (by_item (acts_of f.names items) f.n f.i))
        (then_does (length (words ++ items_words f.w l items)) (by_item (acts_of f.names items) f.n f.i) (length-append words (items_words f.w l items)) here last))
