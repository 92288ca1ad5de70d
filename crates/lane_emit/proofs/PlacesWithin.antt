-- The places of intervals are among those of the registers.
use Rattle.std.proofs.Common.{◌≡◌, ℕ, suc, ◌+◌, ◌-◌, ◌≤◌, Bool, true, false, cond, List, [], ◌∷◌, length, Option, Some, None, refl, ap, arith}
use Rattle.std.specs.Prelude.{slice_get}
use Rattle.std.proofs.lemmas.Option.{slice_get_within}
use Rattle.kernel_tree.specs.Plain.{Program}
use Rattle.kernel_tree.specs.Items.{loop_start}
use Rattle.reg_assign.specs.declared.interval.RegClass.{RegClass}
use Rattle.reg_assign.specs.declared.interval.RegClass.TheVariants.{Z}
use Rattle.reg_assign.specs.Registers.{Assignment}
use Rattle.loop_form.specs.Needs.{Throughout, throughout, intervals}
use Rattle.loop_form.specs.Places.{value_places, first_counted, IsValueOf}
use Rattle.loop_form.specs.Registers.{FitsKernel}
use Rattle.loop_form.proofs.PlaceLaws.{place-value}
use Rattle.loop_form.proofs.IntervalRegisters.{held_few}
use Rattle.lane_emit.specs.LoopRegisters.{IsWithin, flat, item_place, is_same, next_place, place_in}

pub item_within : (k : Program) (class : RegClass) (a : Assignment) (q : ℕ) → FitsKernel k class a → IsWithin (length a.registers) (item_place k class q)
item_within k class a q f = by (slice_get (value_places k class) (q - loop_start k)) refl
  where
    by : (o : Option (Option ℕ)) → slice_get (value_places k class) (q - loop_start k) ≡ o → IsWithin (length a.registers) (flat o)
    by None g = tt
    by (Some None) g = tt
    by (Some (Some m)) g =
        let v : IsValueOf (first_counted k class + (q - loop_start k)) (slice_get (intervals k class) m) = place-value k class (q - loop_start k) m g in
        let within = slice_get_within (intervals k class) m _ v.1 in
        let each = f.assigned.each in
        let same = ap length f.intervals in
        omega (arith, within, each, same)

place_within : (t : Throughout) (ts : List Throughout) → IsWithin (length ts) (place_in t ts)
place_within t [] = tt
place_within t (u ∷ us) = by (is_same u t) (place_in t us) (place_within t us)
  where
    by : (b : Bool) (o : Option ℕ) → IsWithin (length us) o → IsWithin (suc (length us)) (cond b (Some 0) (next_place o))
    by true o h = omega arith
    by false None h = tt
    by false (Some m) h = omega (arith, h)

within_more_places : (m n : ℕ) (o : Option ℕ) → m ≤ n → IsWithin m o → IsWithin n o
within_more_places m n None le h = tt
within_more_places m n (Some i) le h = omega (arith, le, h)

pub held_within : (k : Program) (a : Assignment) (t : Throughout) → FitsKernel k Z a → IsWithin (length a.registers) (place_in t (throughout k Z))
held_within k a t f = within_more_places (length (throughout k Z)) (length a.registers) (place_in t (throughout k Z)) (held_few k Z a f) (place_within t (throughout k Z))
