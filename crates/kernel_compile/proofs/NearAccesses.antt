-- A chunk that stops does so at a byte that an iteration near the scalar loop's fault comes to.
use Rattle.std.proofs.Common.{◌≡◌, ℕ, suc, ◌+◌, ◌-◌, ◌*◌, ◌%◌, ◌^◌, ◌<◌, List, [], ◌∷◌, Option, Some, None, refl, sym, ap, ◌∙◌, subst, arith, inl, inr}
use Rattle.std.specs.Prelude.{ℤ, pos, negsuc, ◌+ℤ◌, ◌*ℤ◌, Contains, slice_index}
use Rattle.std.proofs.Math.Nat.{mod-lt}
use Rattle.guest_types.specs.Memory.{Memory}
use Rattle.machine_model.specs.declared.outcome.StopKind.{StopKind}
use Rattle.kernel_tree.specs.declared.ops.Ty.{Ty}
use Rattle.kernel_tree.specs.declared.ops.Ty.TheVariants as ty
use Rattle.kernel_tree.specs.Items.{loop_start}
use Rattle.kernel_tree.specs.Typing.{var_scope, in_loop}
use Rattle.kernel_tree.specs.Wrap.{byte_count}
use Rattle.kernel_meaning.specs.Eval.{address}
use Rattle.kernel_meaning.proofs.Residues.{word-add}
use Rattle.loop_form.specs.declared.loop_item.Operand.TheVariants.{Constant, Outer, LoopIndex, Made}
use Rattle.loop_form.specs.LoopItems.{Op, Item, loop_env, for_loop_items}
use Rattle.loop_form.specs.LoopItems as ops
use Rattle.loop_form.specs.Reaches.{reach_of_type}
use Rattle.loop_form.specs.Streams.{type_of_place}
use Rattle.loop_form.proofs.ArrayNames.{head_fits}
use Rattle.dependence.specs.Apart.{bound_place}
use Rattle.vector_order.specs.Operands.{nth_value, index_value}
use Rattle.vector_order.proofs.ArrayParameters.{started_bases}
use Rattle.vector_order.proofs.ElementTouches.{Sited}
use Rattle.vector_order.proofs.Sites.{block_sited}
use Rattle.vector_order.proofs.Touches.{SitedOp, AllSited}
use Rattle.vector_emit.specs.VectorRuns.{Near}
use Rattle.vector_emit.proofs.FromBelow.{Ground, IsGround, most_lanes, limit, IsReach, IsByteOf, ComesTo, OneComesTo, items_of}
use Rattle.promises.specs.Faithful.{IsElementByte, IsWithinReach, Accesses, IsNearAccess}
use Rattle.kernel_compile.proofs.ApartBoth.{base_given}
use Rattle.kernel_compile.proofs.NearFaults.{wrapped_twice}

-- ---- one byte

byte_is : (t : Ty) (base : ℕ) (e v : ℤ) (at : ℕ) → v ≡ pos base → IsByteOf t (address t v e) at → IsElementByte t base e at
byte_is t base e v at same b = (b.0, b.1, b.2 ∙ ap (λ w. (address t w e + b.0) % 2 ^ 64) same ∙ sym (word-add (pos base +ℤ pos (byte_count t) *ℤ e) (pos b.0) ∙ wrapped_twice (address t (pos base) e) b.0))

positive_reach : (n : ℕ) → IsReach (Some n) → 0 < n
positive_reach n h = by h.0 h.1
  where
    by : (o : Option Ty) → Some n ≡ reach_of_type o → 0 < n
    by None e = absurd cc
    by (Some ty.U8) e = let same : 256 ≡ n = cc in omega (arith, same)
    by (Some ty.U16) e = let same : 65536 ≡ n = cc in omega (arith, same)
    by (Some ty.I8) e = absurd cc
    by (Some ty.I16) e = absurd cc
    by (Some ty.I32) e = absurd cc
    by (Some ty.U32) e = absurd cc
    by (Some ty.I64) e = absurd cc
    by (Some ty.U64) e = absurd cc

below_reach : (n m : ℕ) → 0 < n → n - 1 - m < n
below_reach n m some = omega (arith, some)

within_reach : (r : Option ℕ) → IsReach r → (z : ℤ) → IsWithinReach r (index_value r z)
within_reach None h z = tt
within_reach (Some n) h (pos z) = (z % n, mod-lt z (positive_reach n h), refl)
within_reach (Some n) h (negsuc z) = (n - 1 - z % n, below_reach n (z % n) (positive_reach n h), refl)

same_outer_place : (p q : ℕ) → Outer p ≡ Outer q → p ≡ q
same_outer_place p q e = cc

-- ---- the operations of a loop

module _ (g : Ground) (is : IsGround g) where
  base_held : (a : List ℕ) (p : ℕ) (t : Ty) → Sited g.kernel.params a (Outer p) (Some t) → nth_value g.names p ≡ pos (slice_index g.args p)
  base_held a p t s =
      let at = s t refl in
      let typed : type_of_place g.kernel.params p ≡ Some t = ap (type_of_place g.kernel.params) (same_outer_place p at.0 at.1) ∙ at.3 in
      started_bases g.kernel g.args g.start g.names is.begins p t typed ∙ base_given g.kernel.params g.args p t typed

  accesses : (op : Op) (kind : StopKind) (j at : ℕ) → SitedOp g.kernel.params op → ComesTo g.names op kind j at → Accesses g.args op kind j at
  accesses (ops.Load a (Outer p) (Some t) c) kind j at s h = (h.0, byte_is t (slice_index g.args p) (pos j +ℤ c) (nth_value g.names p) at (base_held a p t s) h.1)
  accesses (ops.Load a (Outer p) None c) kind j at s h = absurd h
  accesses (ops.Load a (Constant w z) None c) kind j at s h = absurd h
  accesses (ops.Load a (Constant w z) (Some t) c) kind j at s h = absurd h
  accesses (ops.Load a LoopIndex None c) kind j at s h = absurd h
  accesses (ops.Load a LoopIndex (Some t) c) kind j at s h = absurd h
  accesses (ops.Load a (Made q) None c) kind j at s h = absurd h
  accesses (ops.Load a (Made q) (Some t) c) kind j at s h = absurd h
  accesses (ops.Store a (Outer p) (Some t) c v) kind j at s h = (h.0, byte_is t (slice_index g.args p) (pos j +ℤ c) (nth_value g.names p) at (base_held a p t s) h.1)
  accesses (ops.Store a (Outer p) None c v) kind j at s h = absurd h
  accesses (ops.Store a (Constant w z) None c v) kind j at s h = absurd h
  accesses (ops.Store a (Constant w z) (Some t) c v) kind j at s h = absurd h
  accesses (ops.Store a LoopIndex None c v) kind j at s h = absurd h
  accesses (ops.Store a LoopIndex (Some t) c v) kind j at s h = absurd h
  accesses (ops.Store a (Made q) None c v) kind j at s h = absurd h
  accesses (ops.Store a (Made q) (Some t) c v) kind j at s h = absurd h
  accesses (ops.Gather a (Outer p) (Some t) r u y) kind j at s h = (h.0, index_value r h.2, within_reach r h.1 h.2, byte_is t (slice_index g.args p) (index_value r h.2) (nth_value g.names p) at (base_held a p t s) h.3)
  accesses (ops.Gather a (Outer p) None r u y) kind j at s h = absurd h
  accesses (ops.Gather a (Constant w z) None r u y) kind j at s h = absurd h
  accesses (ops.Gather a (Constant w z) (Some t) r u y) kind j at s h = absurd h
  accesses (ops.Gather a LoopIndex None r u y) kind j at s h = absurd h
  accesses (ops.Gather a LoopIndex (Some t) r u y) kind j at s h = absurd h
  accesses (ops.Gather a (Made q) None r u y) kind j at s h = absurd h
  accesses (ops.Gather a (Made q) (Some t) r u y) kind j at s h = absurd h
  accesses (ops.Unary op t x) kind j at s h = absurd h
  accesses (ops.Binary op t x y) kind j at s h = absurd h
  accesses (ops.Shift left n t x) kind j at s h = absurd h
  accesses (ops.Cast own t x) kind j at s h = absurd h
  accesses (ops.Let t x) kind j at s h = absurd h
  accesses (ops.Select t c x y) kind j at s h = absurd h
  accesses (ops.Update x op t v) kind j at s h = absurd h
  accesses (ops.Compare op t x y) kind j at s h = absurd h
  accesses (ops.Not c) kind j at s h = absurd h
  accesses (ops.And c) kind j at s h = absurd h
  accesses (ops.Or c d) kind j at s h = absurd h
  accesses (ops.Break c) kind j at s h = absurd h

  one_accesses : (items : List Item) (kind : StopKind) (j at : ℕ) → AllSited g.kernel.params items → OneComesTo g.names items kind j at → (it : Item) × Contains items it × Accesses g.args it.op kind j at
  one_accesses [] kind j at s h = absurd h
  one_accesses (it ∷ items) kind j at s (inl h) = (it, (0, omega arith, refl), accesses it.op kind j at s.0 h)
  one_accesses (it ∷ items) kind j at s (inr h) =
      let r = one_accesses items kind j at s.1 h in
      let c = r.1 in
      (r.0, (suc c.0, (let l = c.1 in omega (arith, l)), c.2), r.2)

  sited : AllSited g.kernel.params (items_of g)
  sited = block_sited g.kernel.params g.for_loop.body (in_loop (var_scope g.kernel) g.for_loop) None (loop_start g.kernel + 1) (loop_env (var_scope g.kernel) g.for_loop.index) [] (head_fits g.kernel g.for_loop) tt

  -- a chunk of at most as many lanes as are done at once, among whose iterations the last one of bg is
  pub near_access : {bg at : ℕ} {kind : StopKind} {left faulted : Memory} → limit g ≡ slice_index g.args (bound_place g.kernel) → Near g bg kind at left faulted → IsNearAccess g.kernel g.args (most_lanes g) bg kind at
  near_access {bg = bg} {at = at} {kind = kind} bound near =
      let c = near.comes in
      let r = one_accesses (items_of g) kind c.0 at sited c.3 in
      let few = near.few in
      let within = near.within in
      let from = near.from in
      let until = near.until in
      let low = c.1 in
      let high = c.2 in
      record {
        item = r.0;
        listed = subst (λ o. Contains (for_loop_items g.kernel o) r.0) (sym is.loops) r.1;
        i = c.0;
        from = omega (arith, until, few, low);
        until = omega (arith, from, few, high);
        within = omega (arith, high, within, bound);
        accesses = r.2;
      }
