-- A cast and the store after it as one step, without a word for the cast.
use Rattle.std.proofs.Common.{◌≡◌, ◌≢◌, ℕ, ◌+◌, ◌<◌, ◌≤◌, ℤ, Bool, true, false, List, length, Option, Some, None, refl, sym, ap, ◌∙◌, subst, arith}
use Rattle.std.specs.Prelude.{nat_eq, slice_index, if◌then◌else◌}
use Rattle.std.proofs.lemmas.Bool.{ne_eqb, eq-eqb}
use Rattle.guest_types.specs.declared.length.Width.{Width}
use Rattle.guest_types.specs.declared.length.Width.TheVariants.{B, H, S, D}
use Rattle.guest_types.specs.Length.{width_bits}
use Rattle.guest_types.specs.Memory.{Memory, stored}
use Rattle.kernel_tree.specs.declared.ops.Ty.{Ty}
use Rattle.kernel_tree.specs.declared.ops.Ty.TheVariants as ty
use Rattle.kernel_tree.specs.Wrap.{wrap, bits_of, byte_count}
use Rattle.kernel_meaning.specs.Operators.{word}
use Rattle.machine_model.specs.InstructionTable.{Listed}
use Rattle.machine_model.specs.declared.outcome.StopKind.{StopKind}
use Rattle.machine_model.specs.Machine.{State}
use Rattle.label_fix.specs.DraftRun.{DraftEntry, Laid}
use Rattle.vector_order.specs.Orders.{Lane, Lanes, Act, Out, go_on, column}
use Rattle.loop_form.specs.declared.loop_item.Operand.{Operand}
use Rattle.loop_form.specs.declared.loop_item.Operand.TheVariants.{Outer, Made}
use Rattle.vector_order.specs.Operands.{nth_value, operand_value, with_value}
use Rattle.vector_order.proofs.LaneValues.{value_same, value_other}
use Rattle.loop_form.specs.LoopItems.{Op}
use Rattle.loop_form.specs.LoopItems as ops
use Rattle.vector_order.specs.Items.{item_act}
use Rattle.lane_emit.specs.ItemCode.{operand, mask_register}
use Rattle.lane_emit.proofs.Residues.{held}
use Rattle.lane_emit.proofs.ExtendedLanes.{held-wrap}
use Rattle.chunk_emit.specs.Registers.{Layout}
use Rattle.chunk_emit.specs.ChunkCode.{op_words, puts}
use Rattle.chunk_emit.specs.Chunk.{Setting, chunk_of, Holds}
use Rattle.chunk_emit.specs.Fits.{Assigned, FitsMask, FitsOperand, MakesValue, MakesNothing, NoneBetween, IsNear}
use Rattle.chunk_emit.specs.StopPlaces.{ChunkComesTo}
use Rattle.chunk_emit.specs.ItemsRun.{Does, does_fine, does_fail}
use Rattle.chunk_emit.proofs.ItemLanes.{OwnColumn, own_fine}
use Rattle.chunk_emit.proofs.ChunkStates.{holds_on, holds_later, operand_right}
use Rattle.chunk_emit.proofs.PureItems.{unused_moves, pure_column}
use Rattle.chunk_emit.proofs.StoreRuns.{store_from}
use Rattle.chunk_emit.proofs.StoredBits.{stored-held}

-- ---- what is stored

-- the width of a type's own size
abbrev own_width : Ty → Width
own_width ty.I8 = B
own_width ty.U8 = B
own_width ty.I16 = H
own_width ty.U16 = H
own_width ty.I32 = S
own_width ty.U32 = S
own_width ty.I64 = D
own_width ty.U64 = D

own_bits : (t : Ty) → bits_of t ≡ width_bits (own_width t)
own_bits ty.I8 = refl
own_bits other = refl

-- the low bytes of a value are those of the value at the type
stored-wrap : (t : Ty) (w : Width) (m : Memory) (a : ℕ) (z : ℤ) → bits_of t ≤ width_bits w → stored m a (byte_count t) (word (wrap t z)) ≡ stored m a (byte_count t) (held w z)
stored-wrap t w m a z le =
    let own = own_width t in
    let fits : bits_of t ≤ width_bits own = omega (arith, own_bits t) in
    stored-held t own m a (wrap t z) fits ∙ ap (stored m a (byte_count t)) (held-wrap own t z (own_bits t)) ∙ sym (stored-held t own m a z fits) ∙ stored-held t w m a z le

-- ---- a layout in which nothing needs the value of an item

abbrev last_use_from : Layout → (q r : ℕ) → ℕ
last_use_from l q r = if nat_eq r q then 0 else l.z_last_use r

abbrev without : Layout → ℕ → Layout
without l q = record l { z_last_use = last_use_from l q }

module _ (l : Layout) (q : ℕ) where
  used_before : (r p : ℕ) → p < last_use_from l q r → p < l.z_last_use r
  used_before r p lt = by (nat_eq r q) lt
    where
      by : (b : Bool) → p < (if b then 0 else l.z_last_use r) → p < l.z_last_use r
      by true lt = absurd (omega (arith, lt))
      by false lt = lt

  other_use : (r : ℕ) → r ≢ q → last_use_from l q r ≡ l.z_last_use r
  other_use r ne = ap (λ b. if b then 0 else l.z_last_use r) (ne_eqb r q ne)

  own_use : last_use_from l q q ≤ q
  own_use = subst (λ u. u ≤ q) (sym (ap (λ b. if b then 0 else l.z_last_use q) (eq-eqb q q refl))) (omega arith)

  no_use : (r : ℕ) → l.z_last_use r ≤ r → last_use_from l q r ≤ r
  no_use r le = by (nat_eq r q)
    where
      by : (b : Bool) → (if b then 0 else l.z_last_use r) ≤ r
      by true = omega arith
      by false = le

  assigned_without : Assigned l → Assigned (without l q)
  assigned_without a = record {
    made = a.made;
    z_small = a.z_small;
    p_small = a.p_small;
    p_low = a.p_low;
    held_small = a.held_small;
    sum_small = a.sum_small;
    z_apart = λ p r lt later used. a.z_apart p r lt (used_before r p later) (used_before p p used);
    p_apart = a.p_apart;
    held_apart = λ x r is used. a.held_apart x r is (used_before r r used);
    sum_apart = λ x r is used. a.sum_apart x r is (used_before r r used);
    sum_made = λ x p r is lt later. a.sum_made x p r is lt (used_before r p later);
    sum_held = a.sum_held;
    sums_apart = a.sums_apart;
  }

  -- before the item, and after the last use of its value
  module _ {f : Setting} {t : Lanes} {s : State} {p : ℕ} where
    holds_without : p ≤ q → Holds l f p t s → Holds (without l q) f p t s
    holds_without le h = record {
      is = h.is;
      few = h.few;
      vl = h.vl;
      stops = h.stops;
      memory = h.memory;
      x = h.x;
      index = h.index;
      active = h.active;
      top = h.top;
      all = h.all;
      held = λ x is. let old = h.held x is in record { right = old.right; typed = old.typed };
      values = λ r lt last. let old = h.values r lt (subst (λ u. p ≤ u) (other_use r (λ e. absurd (omega (arith, lt, le, e)))) last) in record { right = old.right; typed = old.typed };
      truths = h.truths;
      sums = λ x is. let old = h.sums x is in record { before = old.before; alike = old.alike; typed = old.typed; holds = old.holds };
    }

    holds_again : q < p → l.z_last_use q < p → Holds (without l q) f p t s → Holds l f p t s
    holds_again lt dead h = record {
      is = h.is;
      few = h.few;
      vl = h.vl;
      stops = h.stops;
      memory = h.memory;
      x = h.x;
      index = h.index;
      active = h.active;
      top = h.top;
      all = h.all;
      held = λ x is. let old = h.held x is in record { right = old.right; typed = old.typed };
      values = λ r below last.
          let old = h.values r below (subst (λ u. p ≤ u) (sym (other_use r (λ e. absurd (let same = ap l.z_last_use e in omega (arith, last, dead, same))))) last) in
          record { right = old.right; typed = old.typed };
      truths = h.truths;
      sums = λ x is. let old = h.sums x is in record { before = old.before; alike = old.alike; typed = old.typed; holds = old.holds };
    }

does_again : {l : Layout} {q : ℕ} {f : Setting} {d : Laid} {c rest : List DraftEntry} {s : State} {p most : ℕ} {near : StopKind → ℕ → Type 0} {out : Out} → q < p → l.z_last_use q < p → Does (without l q) f d c s rest p most near out → Does l f d c s rest p most near out
does_again {l = l} {q = q} lt dead (does_fine end goes holds) = does_fine end goes (holds_again l q lt dead holds)
does_again lt dead (does_fail kind access stops) = does_fail kind access stops

-- ---- the two items

module _ (l : Layout) (fit : Assigned l) (f : Setting) (d : Laid) (rest : List DraftEntry) (q p : ℕ) (first second : Option ℕ) (own cast : Ty) (x : Operand) (a : List ℕ) (place : ℕ) (t : Ty) (c : ℤ) where
  abbrev cast_act : Act
  cast_act = item_act f.names (record { item = q; mask = first; op = ops.Cast (Some own) cast x })

  abbrev store_op : Op
  store_op = ops.Store a (Outer place) (Some t) c (Made q)

  abbrev store_act : Act
  store_act = item_act f.names (record { item = p; mask = second; op = store_op })

  abbrev words : List Listed
  words = op_words f.w l p (mask_register l.registers second) (ops.Store a (Outer place) (Some t) c x)

  module _ (mask : FitsMask l q first) (following_mask : FitsMask l p second) (operand_fits : FitsOperand l f.w q own x) (makes : MakesValue l q cast) (low : place < 8) (based : slice_index f.x place ≡ word (nth_value f.names place)) (near : IsNear c) (type_is : l.type (Made q) ≡ t) (wide : bits_of t ≤ width_bits f.w) (none : MakesNothing l p) (lt : q < p) (between : NoneBetween l (q + 1) p) (last : l.z_last_use q ≤ p) where
    abbrev new : ℕ → Lane → Lane
    new j k = with_value k q (wrap cast (operand_value f.names j k x))

    store_part : (lanes u : Lanes) (s : State) → Holds l f q lanes s → u.memory ≡ lanes.memory → ((e : ℕ) → e < f.n → u.lane (f.i + e) ≡ with_value (lanes.lane (f.i + e)) q (wrap cast (operand_value f.names (f.i + e) (lanes.lane (f.i + e)) x))) → Does l f d (puts words rest) s rest (p + 1) (length words) (ChunkComesTo f store_op) (column store_act f.n f.i u)
    store_part lanes u s h mem here =
        let value_of : (e : ℕ) → ℤ = λ e. wrap cast (operand (chunk_of f lanes) x e) in
        let unused : MakesNothing (without l q) q = (own_use l q, makes.0) in
        let before = holds_without l q (omega arith) h in
        let after_cast = holds_on before (unused_moves before u unused mem
        (λ r e below el. ap (λ (k : Lane). k.value r) (here e el) ∙ value_other (lanes.lane (f.i + e)) q r (value_of e) (λ eq. absurd (omega (arith, below, eq))))
        (λ r e below el. ap (λ (k : Lane). k.truth r) (here e el)) (λ e el. ap (λ (k : Lane). k.shares) (here e el))) in
        let at_store = holds_later after_cast p (omega (arith, lt)) (λ r le below. let k = between r le below in (no_use l q r k.0, k.1)) in
        let same : cast ≡ t = sym makes.1 ∙ type_is in
        does_again (omega (arith, lt)) (omega (arith, last))
        (store_from (without l q) (assigned_without l q fit) f d rest p u second (without_mask second following_mask) a place t c (Made q) low based (without_nothing none) (l.registers.source x) (operand (chunk_of f lanes) x) at_store near
        (λ e el m z. ap (λ v. stored m z (byte_count t) (word v)) (ap (λ (k : Lane). k.value q) (here e el) ∙ value_same (lanes.lane (f.i + e)) q (value_of e) ∙ ap (λ k. wrap k (operand (chunk_of f lanes) x e)) same) ∙ stored-wrap t f.w m z (operand (chunk_of f lanes) x e) wide)
        (operand_right h fit own x operand_fits).right)
      where
        without_mask : (mask : Option ℕ) → FitsMask l p mask → FitsMask (without l q) p mask
        without_mask None k = k
        without_mask (Some r) k = k

        without_nothing : MakesNothing l p → MakesNothing (without l q) p
        without_nothing k = (no_use l q p k.0, k.1)

    cast_store_parts : (lanes : Lanes) (s : State) {out : Out} → Holds l f q lanes s → OwnColumn new f.n f.i lanes None out → Does l f d (puts words rest) s rest (p + 1) (length words) (ChunkComesTo f store_op) (go_on out (column store_act f.n f.i))
    cast_store_parts lanes s h (own_fine u mem here before past) = store_part lanes u s h mem here

    pub pair_runs : (lanes : Lanes) (s : State) → Holds l f q lanes s → Does l f d (puts words rest) s rest (p + 1) (length words) (ChunkComesTo f store_op) (go_on (column cast_act f.n f.i lanes) (column store_act f.n f.i))
    pair_runs lanes s h = cast_store_parts lanes s h (pure_column l fit f d rest h first mask (ops.Cast (Some own) cast x) new (λ j m k. refl))
