-- What it says of a load that it suppresses its free element of a lane: the element is free, its access does not fault, and the stop
-- list names it.
use Rattle.std.proofs.Common.{◌≡◌, ℕ, Bool, true, false, ◌||◌, List, Option, Some, None, refl, sym, ap, ◌∙◌, subst}
use Rattle.std.proofs.lemmas.Bool.{and_parts, not-true}
use Rattle.guest_types.specs.declared.length.Width.{Width}
use Rattle.guest_types.specs.declared.memory.AccessFault.{AccessFault}
use Rattle.guest_types.specs.Length.{lanes}
use Rattle.guest_types.specs.Elements.{first_true}
use Rattle.guest_types.specs.LaneMemory.{load_form, lane_faults, fault_at}
use Rattle.guest_types.specs.EarlyLoads.{EarlyLoad, early_load, unless_fault, stop_at, rank, suppressed_at, is_cut, later_than}
use Rattle.word_rows.specs.Field.{rm}
use Rattle.sve_code.specs.Table.{dtype, ld1, ldff1, ldnf1}
use Rattle.machine_model.specs.Machine.{State, x_at}
use Rattle.machine_model.specs.VectorEffects.{field_of, load_mask, lane_places, is_early_cut}
use Rattle.lane_emit.specs.Stretch.{word}
use Rattle.first_fault.specs.SuppressedLanes.{Suppresses}
use Rattle.first_fault.proofs.PrefixBits.{First, missing, found, first_is}

record Named (free faults stopped : ℕ → Bool) (e : ℕ) : Type 0 where
  active : free e ≡ true
  read : faults e ≡ false
  listed : stopped (rank free e) ≡ true

test_at : (test : ℕ → Bool) (n e lane : ℕ) {o : Option ℕ} → First test n e o → o ≡ Some lane → test lane ≡ true
test_at test n e lane (missing none) eq = absurd cc
test_at test n e lane (found v lo hi yes' none) eq = let same : v ≡ lane = cc in subst (λ j. test j ≡ true) same yes'

or_second : (a b : Bool) → (a || b) ≡ true → a ≡ false → b ≡ true
or_second true b h no' = absurd cc
or_second false b h no' = h

named : (free faults stopped : ℕ → Bool) (n lane : ℕ) → first_true (suppressed_at free faults stopped) n 0 ≡ Some lane → is_cut faults (first_true (suppressed_at free faults stopped) n 0) ≡ true → Named free faults stopped lane
named free faults stopped n lane first cut =
    let parts = and_parts (free lane) (faults lane || stopped (rank free lane)) (test_at (suppressed_at free faults stopped) n 0 lane (first_is (suppressed_at free faults stopped) n 0) first) in
    let good = not-true (faults lane) (ap (is_cut faults) (sym first) ∙ cut) in
    record { active = parts.0; read = good; listed = or_second (faults lane) (stopped (rank free lane)) parts.1 good }

-- LDNF1, of which all active elements are free
non_fault_named : (w : Width) (numbers : List ℕ) (s : State) (lane : ℕ) → Suppresses w (word ldnf1 numbers) s lane
    → let f = field_of ldnf1 numbers in let form = load_form (f dtype) in Named (load_mask form f s) (lane_faults form s.memory (lane_places form f 0 s)) (stop_at s.stops) lane
non_fault_named w numbers s lane h =
    let f = field_of ldnf1 numbers in
    let form = load_form (f dtype) in
    named (load_mask form f s) (lane_faults form s.memory (lane_places form f 0 s)) (stop_at s.stops) (lanes s.vl form.element) lane h.first h.free

-- LDFF1, of which the active elements after the first one are free, and that one is read
early_cut : (o : Option AccessFault) (load : EarlyLoad) → is_early_cut (unless_fault o load) ≡ true → (o ≡ None) × (load.cut ≡ true)
early_cut None load h = (refl, h)
early_cut (Some fault) load h = absurd cc

first_fault_named : (w : Width) (numbers : List ℕ) (s : State) (lane : ℕ) → Suppresses w (word ldff1 numbers) s lane
    → let f = field_of ldff1 numbers in
    let form = load_form (f dtype) in
    let places = lane_places form f (x_at s (f rm)) s in
    let first = first_true (load_mask form f s) (lanes s.vl form.element) 0 in
    Named (later_than first (load_mask form f s)) (lane_faults form s.memory places) (stop_at s.stops) lane × (fault_at form s.memory places first ≡ None)
first_fault_named w numbers s lane h =
    let f = field_of ldff1 numbers in
    let form = load_form (f dtype) in
    let on = load_mask form f s in
    let places = lane_places form f (x_at s (f rm)) s in
    let first = first_true on (lanes s.vl form.element) 0 in
    let cut = early_cut (fault_at form s.memory places first) (early_load form s.memory s.stops on (later_than first on) places (lanes s.vl form.element) s.ffr) h.free in
    (named (later_than first on) (lane_faults form s.memory places) (stop_at s.stops) (lanes s.vl form.element) lane h.first cut.1, cut.0)

-- a plain load suppresses no element
plain_never : (w : Width) (numbers : List ℕ) (s : State) (lane : ℕ) → Suppresses w (word ld1 numbers) s lane → ⊥
plain_never w numbers s lane h = let no' : false ≡ true = h.free in absurd cc
