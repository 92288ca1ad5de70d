-- The tables of cases: a state before one step, and what the step comes to.
use Rattle.std.specs.Prelude.{ℕ, List, [], ◌∷◌, ◌++◌, Bool, true, false, replicate, slice_set, take}
use Rattle.guest_types.specs.declared.memory.Perm.{Perm}
use Rattle.guest_types.specs.declared.memory.Perm.TheVariants.{ReadExec}
use Rattle.guest_types.specs.EarlyLoads.{StopList, never}
use Rattle.guest_types.specs.Memory.{Page, Memory}
use Rattle.guest_types.specs.Elements.{Flags}
use Rattle.machine_model.specs.declared.outcome.StopKind.{StopKind}
use Rattle.machine_model.specs.Machine.{State, Step, Went, Stopped, jump}
use Rattle.machine_model.specs.OneStep.{suppresses}
use Rattle.machine_model.specs.Written.{word_bytes}

abbrev pub zeros : ℕ → List ℕ
zeros n = replicate n 0

abbrev pub page : ℕ → Perm → List ℕ → Page
page n perm bytes = record { page = n; perm = perm; bytes = bytes }

abbrev pub flags_from : (n z c v : Bool) → Flags
flags_from n z c v = record { n = n; z = z; c = c; v = v }

-- registers of which some are set, each by its number
abbrev pub put_all : {X : Type 0} → List X → List (ℕ × X) → List X
put_all registers [] = registers
put_all registers (set ∷ rest) = put_all (slice_set registers set.0 set.1) rest

-- a state about to do the first of some words, which stand at 20488, beside more pages; the registers that are not named hold 0
abbrev pub state : (words : List ℕ) (more : Memory) (vl sp : ℕ) → Flags → (x : List (ℕ × ℕ)) (z p : List (ℕ × List ℕ)) (ffr : List ℕ) → State
state words more vl sp flags x z p ffr = record {
  memory = page 5 ReadExec (zeros 8 ++ word_bytes words ++ zeros 4) ∷ more;
  pc = 20488;
  x = put_all (replicate 31 0) x;
  sp = sp;
  flags = flags;
  z = put_all (replicate 32 (zeros 256)) z;
  p = put_all (replicate 16 (zeros 32)) p;
  ffr = ffr;
  vl = vl;
  stops = never;
}

abbrev pub with_stops : State → StopList → State
with_stops s stops = record s { stops = stops }

-- the page of the words, beside these
abbrev pub with_pages : State → Memory → State
with_pages s more = record s { memory = take 1 s.memory ++ more }

-- one case: the state before, what its step comes to, and whether that suppresses a free element
pub record Case : Type 0 where
  pub before : State
  pub after : Step
  pub cut : Bool

-- the step goes on to the next word, with this change
abbrev pub goes : State → (State → State) → Case
goes s change = record { before = s; after = Went (jump (change s) 20492); cut = false }

-- the step stops with a fault at an address, and leaves the memory with this change
abbrev pub faults : StopKind → (at : ℕ) → State → (State → State) → Case
faults kind at s change = record { before = s; after = Stopped kind 20488 at (change s).memory; cut = false }

abbrev pub cutting : Case → Case
cutting c = record c { cut = true }

abbrev pub cuts : Case → Bool
cuts c = suppresses c.before

abbrev pub cut_of : Case → Bool
cut_of c = c.cut
