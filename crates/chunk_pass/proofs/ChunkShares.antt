-- A name to which lanes give nothing keeps its value.
use Rattle.std.proofs.Common.{◌≡◌, ℕ, zero, suc, ◌+◌, ◌<◌, ◌≤◌, ℤ, pos, Bool, true, false, ◌&&◌, ◌||◌, List, [], ◌∷◌, Option, Some, None, Result, Ok, Err, refl, sym, ap, ap₂, ◌∙◌, subst, arith, ⊎_elim}
use Rattle.std.specs.Prelude.{bytes_eq, find, option_map, unwrap_or, if◌then◌else◌}
use Rattle.std.specs.List.{list_any}
use Rattle.std.proofs.lemmas.Bool.Decides.{eqb_tells}
use Rattle.std.proofs.lemmas.List.Folds.{list_any-append}
use Rattle.std.proofs.lemmas.Bool.{or_parts}
use Rattle.guest_types.specs.declared.memory.AccessFault.{AccessFault}
use Rattle.guest_types.specs.Memory.{Memory, stored}
use Rattle.kernel_tree.specs.declared.ops.Ty.{Ty}
use Rattle.kernel_tree.specs.Plain.{Program}
use Rattle.kernel_tree.proofs.Names.{bytes_eq-told}
use Rattle.kernel_meaning.specs.Operators.{binary_value}
use Rattle.kernel_meaning.specs.Eval.{Named, Names, value_of, is_named, value_at}
use Rattle.kernel_meaning.specs.Iterate.{named, assigned}
use Rattle.loop_form.specs.LoopItems.{Op, Item}
use Rattle.loop_form.specs.LoopItems as ops
use Rattle.vector_order.specs.Orders.{Share, Lane, Lanes, Effect, Halts, Keeps, Writes, Act, Out, Fine, Fail, with_lane, wrote, done, act_does, go_on, column, by_item}
use Rattle.vector_order.specs.Operands.{on_mask, with_value, load_effect, store_effect}
use Rattle.vector_order.proofs.Interchange.{lane_same, lane_other}
use Rattle.vector_order.specs.Items.{op_effect, item_act, acts_of, with_share}
use Rattle.vector_order.specs.Shares.{apply_shares, apply_lanes}
use Rattle.vector_order.specs.Order.{is_accumulator, Steady}
use Rattle.chunk_pass.proofs.ChunkUpdates.{adds, is_add}

module _ (x : List ℕ) where
  abbrev pub is_for : Share → Bool
  is_for s = bytes_eq s.name x

  abbrev pub GaveNothing : Lane → Type 0
  GaveNothing l = list_any is_for l.shares ≡ false

  -- ---- lanes

  abbrev NothingIn : Effect → Type 0
  NothingIn Halts = Unit {0}
  NothingIn (Keeps l) = GaveNothing l
  NothingIn (Writes a k v) = Unit {0}

  load_nothing : (l : Lane) (q : ℕ) (on : Bool) (o : Option ℤ) → GaveNothing l → NothingIn (if on then load_effect l q o else Keeps (with_value l q (pos 0)))
  load_nothing l q true None h = tt
  load_nothing l q true (Some v) h = h
  load_nothing l q false o h = h

  store_nothing : (l : Lane) (on : Bool) (t : Option Ty) (base at v : ℤ) → GaveNothing l → NothingIn (if on then store_effect l t base at v else Keeps l)
  store_nothing l true None base at v h = tt
  store_nothing l true (Some t) base at v h = tt
  store_nothing l false t base at v h = h

  add_nothing : (l : Lane) (on : Bool) (s : Share) → bytes_eq s.name x ≡ false → GaveNothing l → GaveNothing (if on then with_share l s else l)
  add_nothing l true s e h = list_any-append is_for l.shares (s ∷ []) ∙ ap₂ (λ a b. a || (b || false)) h e
  add_nothing l false s e h = h

  break_nothing : (l : Lane) (b : Bool) → GaveNothing l → NothingIn (if b then Halts else Keeps l)
  break_nothing l true h = tt
  break_nothing l false h = h

  op_nothing : (op : Op) (names : Names) (q i : ℕ) (on : Bool) (m : Memory) (l : Lane) → adds x op ≡ false → GaveNothing l → NothingIn (op_effect op names q i on m l)
  op_nothing (ops.Load a base t c) names q i on m l e h = load_nothing l q on _ h
  op_nothing (ops.Gather a base t r u y) names q i on m l e h = load_nothing l q on _ h
  op_nothing (ops.Unary op t y) names q i on m l e h = h
  op_nothing (ops.Binary op t y z) names q i on m l e h = h
  op_nothing (ops.Shift left n t y) names q i on m l e h = h
  op_nothing (ops.Cast s t y) names q i on m l e h = h
  op_nothing (ops.Let t y) names q i on m l e h = h
  op_nothing (ops.Select t c y z) names q i on m l e h = h
  op_nothing (ops.Store a base t c v) names q i on m l e h = store_nothing l on t _ _ _ h
  op_nothing (ops.Update y op t v) names q i on m l e h = add_nothing l on _ e h
  op_nothing (ops.Compare op t y z) names q i on m l e h = h
  op_nothing (ops.Not c) names q i on m l e h = h
  op_nothing (ops.And c) names q i on m l e h = h
  op_nothing (ops.Or c d) names q i on m l e h = h
  op_nothing (ops.Break c) names q i on m l e h = break_nothing l (on && l.truth c) h

  done_nothing : (e : Effect) (i j : ℕ) (s t : Lanes) → (GaveNothing (s.lane i) → NothingIn e) → done e i s ≡ Fine t → GaveNothing (s.lane j) → GaveNothing (t.lane j)
  done_nothing Halts i j s t h d g = absurd cc
  done_nothing (Keeps l) i j s t h d g =
      let same : record { memory = s.memory; lane = with_lane s.lane i l } ≡ t = cc in
      subst (λ (t : Lanes). GaveNothing (t.lane j)) same
      (⊎_elim
      (λ e. subst (λ j. GaveNothing (s.lane j) → GaveNothing (with_lane s.lane i l j)) e.1 (λ g. subst GaveNothing (sym (lane_same s.lane i l)) (h g)) g)
      (λ n. subst GaveNothing (sym (lane_other s.lane i j l n.1)) g)
      (eqb_tells i j))
  done_nothing (Writes a k v) i j s t h d g = by_result (stored s.memory a k v) d
    where
      by_result : (r : Result Memory AccessFault) → wrote r s ≡ Fine t → GaveNothing (t.lane j)
      by_result (Ok after) d =
          let same : record { memory = after; lane = s.lane } ≡ t = cc in
          subst (λ (t : Lanes). GaveNothing (t.lane j)) same g
      by_result (Err f) d = absurd cc

  column_nothing : (p : Act) (n i j : ℕ) (s t : Lanes) → ((i : ℕ) (m : Memory) (l : Lane) → GaveNothing l → NothingIn (p i m l)) → column p n i s ≡ Fine t → GaveNothing (s.lane j) → GaveNothing (t.lane j)
  column_nothing p zero i j s t h d g = let same : s ≡ t = cc in subst (λ (t : Lanes). GaveNothing (t.lane j)) same g
  column_nothing p (suc n) i j s t h d g = by (act_does p i s) refl d (λ u f. column_nothing p n (i + 1) j u t h f)
    where
      by : (o : Out) → act_does p i s ≡ o → go_on o (column p n (i + 1)) ≡ Fine t → ((u : Lanes) → column p n (i + 1) u ≡ Fine t → GaveNothing (u.lane j) → GaveNothing (t.lane j)) → GaveNothing (t.lane j)
      by (Fine u) e d more = more u d (done_nothing (p i s.memory (s.lane i)) i j s u (h i s.memory (s.lane i)) e g)
      by (Fail m) e d more = absurd cc

  -- items that do not update it give nothing to it
  pub items_nothing : (names : Names) (items : List Item) (n i j : ℕ) (s t : Lanes) → list_any (is_add x) items ≡ false → by_item (acts_of names items) n i s ≡ Fine t → GaveNothing (s.lane j) → GaveNothing (t.lane j)
  items_nothing names [] n i j s t h d g = let same : s ≡ t = cc in subst (λ (t : Lanes). GaveNothing (t.lane j)) same g
  items_nothing names (it ∷ items) n i j s t h d g =
      let parts = or_parts (is_add x it) (list_any (is_add x) items) h in
      by (column (item_act names it) n i s) refl d parts.0 (λ u f. items_nothing names items n i j u t parts.1 f)
    where
      by : (o : Out) → column (item_act names it) n i s ≡ o → go_on o (by_item (acts_of names items) n i) ≡ Fine t → is_add x it ≡ false → ((u : Lanes) → by_item (acts_of names items) n i u ≡ Fine t → GaveNothing (u.lane j) → GaveNothing (t.lane j)) → GaveNothing (t.lane j)
      by (Fine u) e d other more = more u d (column_nothing (item_act names it) n i j s u (λ i m l k. op_nothing it.op names it.item i (on_mask it.mask l) m l other k) e g)
      by (Fail m) e d other more = absurd cc

  -- ---- names

  abbrev found : Bool → Named → Names → ℤ
  found b n ns = unwrap_or (option_map value_of (if b then Some n else find (is_named x) ns)) (pos 0)

  value_other : (y : List ℕ) (v : ℤ) (ns : Names) → bytes_eq y x ≡ false → value_at (assigned y v ns) x ≡ value_at ns x
  value_other y v [] e = refl
  value_other y v (n ∷ ns) e = by (bytes_eq n.name y) refl (value_other y v ns e)
    where
      there : (b : Bool) → value_at (assigned y v ns) x ≡ value_at ns x → found b n (assigned y v ns) ≡ found b n ns
      there true h = refl
      there false h = h

      by : (b : Bool) → bytes_eq n.name y ≡ b → value_at (assigned y v ns) x ≡ value_at ns x → value_at (if b then named n.name v ∷ ns else n ∷ assigned y v ns) x ≡ value_at (n ∷ ns) x
      by true f h =
          let other : bytes_eq n.name x ≡ false = ap (λ z. bytes_eq z x) (bytes_eq-told n.name y f) ∙ e in
          ap (λ b. found b (named n.name v) ns) other ∙ sym (ap (λ b. found b n ns) other)
      by false f h = there (bytes_eq n.name x) h

  shares_still : (shares : List Share) (ns : Names) → list_any is_for shares ≡ false → value_at (apply_shares shares ns) x ≡ value_at ns x
  shares_still [] ns h = refl
  shares_still (s ∷ shares) ns h =
      let parts = or_parts (bytes_eq s.name x) (list_any is_for shares) h in
      shares_still shares (assigned s.name (binary_value s.op s.type (value_at ns s.name) s.value) ns) parts.1 ∙ value_other s.name (binary_value s.op s.type (value_at ns s.name) s.value) ns parts.0

  pub lanes_still : (n i : ℕ) (lane : ℕ → Lane) (ns : Names) → ((j : ℕ) → i ≤ j → j < i + n → GaveNothing (lane j)) → value_at (apply_lanes n i lane ns) x ≡ value_at ns x
  lanes_still zero i lane ns h = refl
  lanes_still (suc n) i lane ns h = lanes_still n (i + 1) lane (apply_shares (lane i).shares ns) (λ j lo hi. h j (omega (arith, lo)) (omega (arith, hi))) ∙ shares_still (lane i).shares ns (h i (omega arith) (omega arith))

  -- a name that is no accumulator's has one value throughout
  pub steady_value : (k : Program) (ms ns : Names) → Steady k ms ns → is_accumulator k x ≡ false → value_at ns x ≡ value_at ms x
  steady_value k [] [] s h = refl
  steady_value k [] (n ∷ ns) s h = elim s [ ]
  steady_value k (m ∷ ms) [] s h = elim s [ ]
  steady_value k (m ∷ ms) (n ∷ ns) s h = by (bytes_eq m.name x) refl (steady_value k ms ns s.2 h)
    where
      same : bytes_eq n.name x ≡ bytes_eq m.name x
      same = ap (λ y. bytes_eq y x) (sym s.0)

      by : (b : Bool) → bytes_eq m.name x ≡ b → value_at ns x ≡ value_at ms x → value_at (n ∷ ns) x ≡ value_at (m ∷ ms) x
      by true e more = ap (λ b. found b n ns) (same ∙ e) ∙ s.1 (ap (is_accumulator k) (bytes_eq-told m.name x e) ∙ h) ∙ sym (ap (λ b. found b m ms) e)
      by false e more = ap (λ b. found b n ns) (same ∙ e) ∙ more ∙ sym (ap (λ b. found b m ms) e)
