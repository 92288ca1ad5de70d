-- Of which lane a free element is suppressed.
use Rattle.std.specs.Prelude.{◌≡◌, ℕ, ◌+◌, ◌<◌, Bool, true, List, ◌∷◌, Option, Some, None}
use Rattle.guest_types.specs.declared.length.Width.{Width}
use Rattle.guest_types.specs.Length.{lanes}
use Rattle.guest_types.specs.Elements.{first_true}
use Rattle.guest_types.specs.LaneMemory.{LoadForm, load_form, lane_faults}
use Rattle.guest_types.specs.EarlyLoads.{stop_at, suppressed_at, later_than}
use Rattle.word_rows.specs.Field.{Field, rm}
use Rattle.sve_code.specs.Table.{Name, dtype, ldff1, ldnf1}
use Rattle.machine_model.specs.InstructionTable.{Vector}
use Rattle.machine_model.specs.Machine.{State, x_at}
use Rattle.machine_model.specs.OneStep.{cuts_in}
use Rattle.machine_model.specs.VectorEffects.{field_of, load_mask, lane_places}
use Rattle.label_fix.specs.DraftRun.{DraftEntry, Put, Laid, draft_run}
use Rattle.label_fix.specs.Stretches.{Leads}
use Rattle.lane_emit.specs.Stretch.{VectorInstruction}

-- The first element that a load of this form suppresses; `free` are the elements that are free where they do not fault, and
-- `places` has the address of each.
abbrev pub first_suppressed : LoadForm → (free : ℕ → Bool) → (places : ℕ → ℕ) → State → Option ℕ
first_suppressed form free places s =
    first_true (suppressed_at free (lane_faults form s.memory places) (stop_at s.stops)) (lanes s.vl form.element) 0

-- The first element that an instruction suppresses; `f` gives the number of a field. Of LDFF1 the active elements after the first
-- one are free, of LDNF1 all active ones; no other instruction suppresses an element.
abbrev pub suppressed_element : Name → (f : Field → ℕ) → State → Option ℕ
suppressed_element ldff1 f s =
    let form = load_form (f dtype) in
    let on = load_mask form f s in
    first_suppressed form (later_than (first_true on (lanes s.vl form.element) 0) on) (lane_places form f (x_at s (f rm)) s) s
suppressed_element ldnf1 f s = let form = load_form (f dtype) in first_suppressed form (load_mask form f s) (lane_places form f 0 s) s
suppressed_element _ f s = None

-- how wide the elements of a load are
abbrev pub element_width : VectorInstruction → Width
element_width i = (load_form (field_of i.name i.numbers dtype)).element

-- An instruction suppresses its free element of a lane of this width. That element does not fault, so it is the stop list that
-- names it.
pub record Suppresses (w : Width) (i : VectorInstruction) (s : State) (lane : ℕ) : Type 0 where
  pub width : element_width i ≡ w
  pub free : cuts_in (Vector i) s ≡ true
  pub first : suppressed_element i.name (field_of i.name i.numbers) s ≡ Some lane

-- On the way of a stretch stands a load that suppresses its free element of this lane: `before` words of the stretch lead to it.
pub record SuppressedOn (w : Width) {d : Laid} {c e : List DraftEntry} {s t : State} {most : ℕ} (leads : Leads d c s e t most) (lane : ℕ) : Type 0 where
  pub before : ℕ
  pub within : before < leads.count
  pub load : VectorInstruction
  pub after : List DraftEntry
  pub state : State
  pub by : (k taken : ℕ) → draft_run d (before + k) taken c s ≡ draft_run d k (taken + before) (Put (Vector load) ∷ after) state
  pub suppresses : Suppresses w load state lane
