-- A stretch of vector code: instructions that are done in order, without a branch, and what they leave alone.
use Rattle.std.specs.Prelude.{◌≡◌, ◌≢◌, ℕ, ◌≤◌, ℤ, Bool, List, [], ◌∷◌}
use Rattle.guest_types.specs.declared.length.Width.{Width}
use Rattle.guest_types.specs.Length.{lanes}
use Rattle.guest_types.specs.Lanes.{all_at}
use Rattle.word_rows.specs.Row.{Instruction}
use Rattle.sve_code.specs.Table.{Name}
use Rattle.machine_model.specs.Machine.{State, Step, Went, Ended, Stopped, z_at, p_at}
use Rattle.machine_model.specs.VectorEffects.{do_vector}
use Rattle.machine_model.specs.States.{IsState}
use Rattle.label_fix.specs.Registers.{all_true}
use Rattle.lane_emit.specs.Right.{ZRight, PRight}

abbrev pub VectorInstruction : Type 0
VectorInstruction = Instruction Name

abbrev pub word : Name → List ℕ → VectorInstruction
word name numbers = record { name = name; numbers = numbers }

abbrev pub and_then : Step → (State → Step) → Step
and_then (Went s) f = f s
and_then (Ended result) f = Ended result
and_then (Stopped kind pc at memory) f = Stopped kind pc at memory

-- the instructions in order
abbrev pub do_all : List VectorInstruction → State → Step
do_all [] s = Went s
do_all (v ∷ vs) s = and_then (do_vector v s) (do_all vs)

-- only vector register d and the program counter may differ
pub record OnlyZ (d : ℕ) (s t : State) : Type 0 where
  pub memory : t.memory ≡ s.memory
  pub x : t.x ≡ s.x
  pub sp : t.sp ≡ s.sp
  pub flags : t.flags ≡ s.flags
  pub z : (n : ℕ) → n ≢ d → z_at t n ≡ z_at s n
  pub p : t.p ≡ s.p
  pub ffr : t.ffr ≡ s.ffr
  pub vl : t.vl ≡ s.vl
  pub stops : t.stops ≡ s.stops

-- only predicate register d, the flags and the program counter may differ
pub record OnlyP (d : ℕ) (s t : State) : Type 0 where
  pub memory : t.memory ≡ s.memory
  pub x : t.x ≡ s.x
  pub sp : t.sp ≡ s.sp
  pub z : t.z ≡ s.z
  pub p : (n : ℕ) → n ≢ d → p_at t n ≡ p_at s n
  pub ffr : t.ffr ≡ s.ffr
  pub vl : t.vl ≡ s.vl
  pub stops : t.stops ≡ s.stops

-- a state of a run in which P1 is all true, with n lanes to work on
pub record Ready (w : Width) (n : ℕ) (s : State) : Type 0 where
  pub is : IsState s
  pub few : n ≤ lanes s.vl w
  pub all : PRight w n (p_at s all_true) all_at

-- code that leaves a value in vector register d, right in n lanes, and changes nothing else
pub record MakesZ (c : List VectorInstruction) (s : State) (d : ℕ) (w : Width) (n : ℕ) (value : ℕ → ℤ) : Type 0 where
  pub end : State
  pub runs : do_all c s ≡ Went end
  pub is : IsState end
  pub only : OnlyZ d s end
  pub right : ZRight w n (z_at end d) value

-- the same with a truth in predicate register d, also false in all elements of the vector length after the lanes
pub record MakesP (c : List VectorInstruction) (s : State) (d : ℕ) (w : Width) (truth : ℕ → Bool) : Type 0 where
  pub end : State
  pub runs : do_all c s ≡ Went end
  pub is : IsState end
  pub only : OnlyP d s end
  pub right : PRight w (lanes s.vl w) (p_at end d) truth
