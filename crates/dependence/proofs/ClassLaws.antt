-- What class Vector says of a kernel: none of the reasons against it applies.
use Rattle.std.proofs.Common.{◌≡◌, ℕ, Bool, true, false, cond, List, [], ◌∷◌, ◌++◌, Option, Some, None, refl, sym, ap, ◌∙◌}
use Rattle.std.specs.Prelude.{is_none, ◌&&◌}
use Rattle.std.specs.List.{list_any}
use Rattle.std.proofs.lemmas.Bool.{or_parts}
use Rattle.guest_types.specs.declared.length.Width.{Width}
use Rattle.guest_types.specs.declared.length.Width.TheVariants.{D}
use Rattle.kernel_tree.specs.Plain.{Term, Program}
use Rattle.kernel_tree.specs.Items.{stream_offset, loop_index}
use Rattle.loop_form.specs.Entries.{IsRead, Entry, loop_entries}
use Rattle.loop_form.specs.Reaches.{reach_of}
use Rattle.loop_form.specs.Lanes.{lane_width_of}
use Rattle.loop_form.specs.Streams.{streams_of}
use Rattle.dependence.specs.declared.reason.Class.{Class}
use Rattle.dependence.specs.declared.reason.Class.TheVariants.{Vector, Scalar}
use Rattle.dependence.specs.declared.reason.Why.{Why}
use Rattle.dependence.specs.Classes.{accumulator_read, mixed_update, before_break, is_break, is_storing, stores_to, is_narrow, is_barred_read, barred_content, is_barred, computed_index, carried, reason, class_by, class_of}
use Rattle.dependence.specs.declared.reason.Why.TheVariants as why

no_reason : {A : Type 0} (b : Bool) (x : A) (o : Option A) → cond b (Some x) o ≡ None → (b ≡ false) × (o ≡ None)
no_reason true x o e = absurd cc
no_reason false x o e = (refl, e)

vector_by : (o : Option Why) → class_by o ≡ Vector → o ≡ None
vector_by None e = refl
vector_by (Some w) e = absurd cc

vector_loop : (b : Bool) (c : Class) → cond b (Scalar why.NoLoop) c ≡ Vector → c ≡ Vector
vector_loop true c e = absurd cc
vector_loop false c e = e

last_reason : (b : Bool) → cond b (Some why.Carried) None ≡ None → b ≡ false
last_reason true e = absurd cc
last_reason false e = refl

pub record ClassFacts (k : Program) : Type 0 where
  pub unread : accumulator_read (loop_entries k) k.vars ≡ false
  pub unmixed : mixed_update (loop_entries k) ≡ false
  pub unbroken : before_break (loop_entries k) ≡ false
  pub gathered : computed_index k (loop_entries k) (loop_entries k) ≡ false
  pub loose : carried (lane_width_of k) (streams_of k) ≡ false

pub class_facts : (k : Program) → class_of k ≡ Vector → ClassFacts k
class_facts k e =
    let all : reason k (loop_entries k) ≡ None = vector_by (reason k (loop_entries k)) (vector_loop (is_none k.for_loop) (class_by (reason k (loop_entries k))) e) in
    let a = no_reason (accumulator_read (loop_entries k) k.vars) why.AccumulatorRead _ all in
    let b = no_reason (mixed_update (loop_entries k)) why.MixedUpdate _ a.1 in
    let c = no_reason (before_break (loop_entries k)) why.BeforeBreak _ b.1 in
    let d = no_reason (computed_index k (loop_entries k) (loop_entries k)) why.ComputedIndex _ c.1 in
    record { unread = a.0; unmixed = b.0; unbroken = c.0; gathered = d.0; loose = last_reason (carried (lane_width_of k) (streams_of k)) d.1 }

-- ---- reads at computed indexes

-- what class Vector says of a read of an array at a computed index, with the items after it
pub record GatherFacts (k : Program) (all following : List Entry) (a : List ℕ) (e : Entry) : Type 0 where
  pub wide : lane_width_of k ≡ D
  pub unbroken : list_any is_break following ≡ false
  pub unstored : list_any (stores_to a) all ≡ false
  pub reached : list_any is_storing all ≡ true → is_none (reach_of k e) ≡ false

widest_lane : (w : Width) → is_narrow w ≡ false → w ≡ D
widest_lane D e = refl
widest_lane other e = absurd cc

implied : (b c : Bool) → (b && c) ≡ false → b ≡ true → c ≡ false
implied true c e h = e
implied false c e h = absurd cc

unbarred : (k : Program) (all following : List Entry) (a : List ℕ) (e : Entry) → is_barred_read k all following a e ≡ false → GatherFacts k all following a e
unbarred k all following a e h =
    let h2 = (or_parts (is_narrow (lane_width_of k)) _ h).1 in
    let h3 = (or_parts (list_any is_break following) _ h2).1 in
    let h4 = (or_parts (list_any (stores_to a) all) _ h3).1 in
    record {
      wide = widest_lane (lane_width_of k) (or_parts (is_narrow (lane_width_of k)) _ h).0;
      unbroken = (or_parts (list_any is_break following) _ h2).0;
      unstored = (or_parts (list_any (stores_to a) all) _ h3).0;
      reached = implied (list_any is_storing all) (is_none (reach_of k e)) h4;
    }

barred_here : (k : Program) (all following : List Entry) (e : Entry) (a : List ℕ) (i : Term) → e.content ≡ IsRead a i → is_none (stream_offset (loop_index k) i) ≡ true → is_barred k all following e ≡ false → is_barred_read k all following a e ≡ false
barred_here k all following e a i is computed h = ap (λ b. b && is_barred_read k all following a e) (sym computed) ∙ (ap (λ c. barred_content k all following e c) (sym is) ∙ h)

-- a read at a computed index among the items that are left
pub gather_facts : (k : Program) (all before following : List Entry) (e : Entry) (a : List ℕ) (i : Term) → e.content ≡ IsRead a i → is_none (stream_offset (loop_index k) i) ≡ true → computed_index k all (before ++ e ∷ following) ≡ false → GatherFacts k all following a e
unfolding computed_index
gather_facts k all [] following e a i is computed h = unbarred k all following a e (barred_here k all following e a i is computed (or_parts (is_barred k all following e) (computed_index k all following) h).0)
gather_facts k all (f ∷ before) following e a i is computed h = gather_facts k all before following e a i is computed (or_parts (is_barred k all (before ++ e ∷ following) f) (computed_index k all (before ++ e ∷ following)) h).1
