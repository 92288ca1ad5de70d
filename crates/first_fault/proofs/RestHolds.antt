-- What the region leaves for the rest of the body.
use Rattle.std.proofs.Common.{◌≡◌, ℕ, ◌+◌, ◌<◌, ◌≤◌, ℤ, Bool, true, false, ◌&&◌, ltb, List, [], ◌∷◌, Option, Some, None, refl, sym, ap, ◌∙◌, subst, arith}
use Rattle.std.specs.Prelude.{if◌then◌else◌, nat_lt}
use Rattle.std.proofs.lemmas.Bool.{ltb-true}
use mathlib.Core.Bool.{and-true}
use Rattle.guest_types.specs.Memory.{Memory}
use Rattle.guest_types.specs.Elements.{at, active}
use Rattle.kernel_meaning.specs.Eval.{Names}
use Rattle.machine_model.specs.Machine.{State, z_at}
use Rattle.vector_order.specs.Orders.{Share, Lane, Lanes, Effect, Halts, Keeps, Writes}
use Rattle.vector_order.specs.Regions.{run_lane}
use Rattle.loop_form.specs.declared.loop_item.Operand.TheVariants.{Made}
use Rattle.lane_emit.specs.Right.{IsOf}
use Rattle.guest_types.specs.Length.{width_bits}
use Rattle.kernel_tree.specs.Wrap.{residue}
use Rattle.loop_form.specs.LoopItems.{Op, Item}
use Rattle.loop_form.specs.LoopItems as ops
use Rattle.vector_order.specs.Operands.{on_mask, load_effect}
use Rattle.vector_order.specs.Items.{op_effect, item_act, acts_of}
use Rattle.lane_emit.specs.Folds.{after_all, AreOf, given_to, ShareAlike}
use Rattle.lane_emit.specs.AccumulatorLanes as accumulators
use Rattle.chunk_emit.specs.Registers.{Layout}
use Rattle.chunk_emit.specs.Chunk.{Setting, sum_at, SumRight, Holds}
use Rattle.chunk_emit.specs.Fits.{Assigned}
use Rattle.first_fault.specs.Region.{Way, On, halted, way_of, way_on, region_way, lane_left}
use Rattle.first_fault.specs.RegionCode.{Mode}
use Rattle.first_fault.specs.Fits.{FitsStep, FitsRegion}
use Rattle.first_fault.specs.Prefix.{lanes_of, Inside}
use Rattle.first_fault.specs.Rest.{WayIsRun, come_through, NoTruthLive, RestHolds}
use Rattle.first_fault.proofs.PrefixSteps.{few_all, top_is}
use Rattle.first_fault.proofs.RegionItems.{region_items, halted_goes}

-- ---- the way and the items

halted_left : (op : Op) (f : Lane → Way) → lane_left (way_on (halted op) f) ≡ None
halted_left (ops.Load a b t c) f = refl
halted_left other f = refl

pub way_is_run : WayIsRun
way_is_run names [] j m l = refl
way_is_run names (it ∷ items) j m l = by (item_act names it j m l) (way_is_run names items j m)
  where
    by : (e : Effect) → ((k : Lane) → lane_left (region_way names items j m k) ≡ run_lane (acts_of names items) j m k)
        → lane_left (way_on (way_of (halted it.op) e) (region_way names items j m)) ≡ Rattle.vector_order.specs.Regions.lane_on e (run_lane (acts_of names items) j m)
    by Halts ih = halted_left it.op (region_way names items j m)
    by (Keeps k) ih = ih k
    by (Writes a k v) ih = refl

-- ---- the region gives nothing to accumulators

-- an effect leaves what the lane gave
abbrev Shares : List Share → Effect → Type 0
Shares shares (Keeps l) = l.shares ≡ shares
Shares shares Halts = Unit {0}
Shares shares (Writes a k v) = Unit {0}

load_shares : (l : Lane) (q : ℕ) (b : Bool) (o : Option ℤ) (other : Effect) → Shares l.shares other → Shares l.shares (if b then load_effect l q o else other)
load_shares l q true None other h = tt
load_shares l q true (Some v) other h = refl
load_shares l q false o other h = h

break_shares : (l : Lane) (b : Bool) → Shares l.shares (if b then Halts else Keeps l)
break_shares l true = tt
break_shares l false = refl

op_shares : (lay : Layout) (f : Setting) (names : Names) (q j : ℕ) (mask : Option ℕ) (m : Memory) (l : Lane) (op : Op) → FitsStep lay f q mask op → Shares l.shares (op_effect op names q j (on_mask mask l) m l)
op_shares lay f names q j mask m l (ops.Load a b t c) k = load_shares l q (on_mask mask l) _ _ refl
op_shares lay f names q j mask m l (ops.Gather a b t r u x) k = absurd k
op_shares lay f names q j mask m l (ops.Unary op t x) k = refl
op_shares lay f names q j mask m l (ops.Binary op t x y) k = refl
op_shares lay f names q j mask m l (ops.Shift left n t x) k = refl
op_shares lay f names q j mask m l (ops.Cast from to x) k = refl
op_shares lay f names q j mask m l (ops.Let t x) k = refl
op_shares lay f names q j mask m l (ops.Select t c x y) k = refl
op_shares lay f names q j mask m l (ops.Store a b t c v) k = absurd k
op_shares lay f names q j mask m l (ops.Update x op t v) k = absurd k
op_shares lay f names q j mask m l (ops.Compare op t x y) k = refl
op_shares lay f names q j mask m l (ops.Not c) k = refl
op_shares lay f names q j mask m l (ops.And c) k = refl
op_shares lay f names q j mask m l (ops.Or c d) k = refl
op_shares lay f names q j mask m l (ops.Break c) k = break_shares l (on_mask mask l && l.truth c)

pub same_shares : (lay : Layout) (f : Setting) (names : Names) (items : List Item) (p j : ℕ) (m : Memory) (l new : Lane) → FitsRegion lay f p items → region_way names items j m l ≡ On new → new.shares ≡ l.shares
same_shares lay f names [] p j m l new k e = let same : l ≡ new = cc in ap (λ (x : Lane). x.shares) (sym same)
same_shares lay f names (it ∷ items) p j m l new k e =
    by (item_act names it j m l) (op_shares lay f names it.item j it.mask m l it.op k.3) e (λ x g. same_shares lay f names items (it.item + 1) j m x new k.4 g)
  where
    by : (o : Effect) → Shares l.shares o → way_on (way_of (halted it.op) o) (region_way names items j m) ≡ On new → ((x : Lane) → region_way names items j m x ≡ On new → new.shares ≡ x.shares) → new.shares ≡ l.shares
    by (Keeps x) h g ih = ih x g ∙ h
    by Halts h g ih = absurd (halted_goes it.op (region_way names items j m) new g)
    by (Writes a k v) h g ih = absurd cc

-- ---- the rest

module _ {l : Layout} {f : Setting} {p k : ℕ} {t : Lanes} {s : State} (end : State) (new : ℕ → Lane) (h : Holds l f p t s) (le : k ≤ f.n) (fresh : (e : ℕ) → e < f.n → (t.lane (f.i + e)).shares ≡ []) (same : (e : ℕ) → e < k → (new (f.i + e)).shares ≡ (t.lane (f.i + e)).shares) where
  -- an accumulator's element has taken in what it had
  sum_is : (x : List ℕ) (e : ℕ) → sum_at l f t x e ≡ sum_at l (come_through f k end.stops) (lanes_of t.memory new) x e
  sum_is x e = before (nat_lt e f.n) refl ∙ sym (following (nat_lt e k) refl)
    where
      before : (b : Bool) → nat_lt e f.n ≡ b → (if b then after_all (l.update x) (l.sum_type x) (f.sum x e) (given_to x (t.lane (f.i + e)).shares) else f.sum x e) ≡ f.sum x e
      before true is = ap (λ vs. after_all (l.update x) (l.sum_type x) (f.sum x e) (given_to x vs)) (fresh e (ltb-true e f.n is))
      before false is = refl

      following : (b : Bool) → nat_lt e k ≡ b → (if b then after_all (l.update x) (l.sum_type x) (f.sum x e) (given_to x (new (f.i + e)).shares) else f.sum x e) ≡ f.sum x e
      following true is =
          let ek = ltb-true e k is in
          ap (λ vs. after_all (l.update x) (l.sum_type x) (f.sum x e) (given_to x vs)) (same e ek ∙ fresh e (omega (arith, ek, le)))
      following false is = refl

  sums_right : (x : List ℕ) → l.updated x ≡ true → z_at end (l.sum x) ≡ z_at s (l.sum x) → SumRight l (come_through f k end.stops) (lanes_of t.memory new) x (z_at end (l.sum x))
  sums_right x is kept =
      let old = h.sums x is in
      record {
        before = old.before;
        alike = λ e lt. subst (ShareAlike x (l.update x) (l.sum_type x)) (sym (same e lt)) (old.alike e (omega (arith, lt, le)));
        typed = λ e lt. subst (λ vs. AreOf (l.sum_type x) (given_to x vs)) (sym (same e lt)) (old.typed e (omega (arith, lt, le)));
        holds = λ e lt. subst (λ z. accumulators.Holds (l.update x) (l.sum_type x) f.w (at f.w z e) (sum_at l (come_through f k end.stops) (lanes_of t.memory new) x e)) (sym kept)
            (subst (accumulators.Holds (l.update x) (l.sum_type x) f.w (at f.w (z_at s (l.sum x)) e)) (sum_is x e) (old.holds e lt));
      }

-- lanes by another name
renamed : {mode : Mode} {l : Layout} {f : Setting} {a : State} {k q : ℕ} {new other : ℕ → Lane} {s : State} → ((e : ℕ) → e < k → other (f.i + e) ≡ new (f.i + e)) → Inside mode l f a k q new s → Inside mode l f a k q other s
renamed {l = l} {f = f} same h = record {
  is = h.is;
  few = h.few;
  alone = h.alone;
  same = h.same;
  top = h.top;
  ffr = h.ffr;
  values = λ r lt last_use. let old = h.values r lt last_use in
      record {
        right = λ e el. old.right e el ∙ ap (λ (b : Lane). residue (width_bits f.w) (b.value r)) (sym (same e el));
        typed = λ e el. subst (λ (b : Lane). IsOf (l.type (Made r)) (b.value r)) (sym (same e el)) (old.typed e el);
      };
  truths = λ r lt last_use e el. h.truths r lt last_use e el ∙ ap (λ (b : Lane). b.truth r) (sym (same e el));
}

held_following : (mode : Mode) (l : Layout) (f : Setting) (p k q : ℕ) (t u : Lanes) (s end : State) → Assigned l → Holds l f p t s → ((e : ℕ) → e < f.n → (t.lane (f.i + e)).shares ≡ []) → ((e : ℕ) → e < k → (u.lane (f.i + e)).shares ≡ (t.lane (f.i + e)).shares) → u.memory ≡ t.memory
    → Inside mode l f s k q u.lane end → NoTruthLive l q → Holds l (come_through f k end.stops) q u end
held_following mode l f p k q t u s end fit h fresh shares mem inside none = record {
  is = inside.is;
  few = few_all fit h inside;
  vl = inside.same.vl ∙ h.vl;
  stops = refl;
  memory = inside.same.memory ∙ h.memory ∙ sym mem;
  x = λ r ne. inside.same.x r ne ∙ h.x r ne;
  index = h.index;
  active = λ e lt. top_is fit h inside e lt ∙ sym (and-true (ltb e k));
  top = inside.top;
  all = λ e lt. ap (λ b. active f.w b e) inside.same.all ∙ h.all e lt;
  held = λ x is. let old = h.held x is in
      record {
        right = λ a e lt. ap (λ z. at f.w z e) (inside.same.held x is) ∙ old.right a e lt;
        typed = λ a e lt. old.typed a e (omega (arith, lt, inside.few));
      };
  values = λ r lt last_use. let old = inside.values r lt last_use in record { right = old.right; typed = old.typed };
  truths = λ r lt last_use. absurd (omega (arith, none r lt, last_use));
  sums = λ x is. let r = sums_right end u.lane h inside.few fresh shares x is (inside.same.sums x is) in record { before = r.before; alike = r.alike; typed = r.typed; holds = r.holds };
}

pub rest_holds : RestHolds
rest_holds mode l f items p k q t s end new fit fits h fresh come inside none =
    let done = region_items l f f.names items p f.i k t new fits come in
    let shares : (e : ℕ) → e < k → (done.lanes.lane (f.i + e)).shares ≡ (t.lane (f.i + e)).shares =
    λ e lt. ap (λ (b : Lane). b.shares) (done.here e lt) ∙ same_shares l f f.names items p (f.i + e) t.memory (t.lane (f.i + e)) (new (f.i + e)) fits (come e lt) in
    record {
      lanes = done.lanes;
      done = done.by;
      memory = done.memory;
      holds = held_following mode l f p k q t done.lanes s end fit h fresh shares done.memory (renamed done.here inside) none;
    }
