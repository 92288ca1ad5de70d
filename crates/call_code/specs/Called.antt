-- A call of a function whose code is that of a draft: what the caller gives, and what it finds again.
use Rattle.std.specs.Prelude.{◌≡◌, ◌≢◌, ℕ, ◌+◌, ◌*◌, ◌<◌, ◌≤◌, true, List, ◌∷◌, ◌++◌, length, Some, All}
use Rattle.guest_types.specs.Memory.{Memory, byte_at}
use Rattle.machine_model.specs.CodeInMemory.{words_of as listed_words}
use Rattle.machine_model.specs.InstructionTable.{Listed}
use Rattle.machine_model.specs.Machine.{State, x_at}
use Rattle.machine_model.specs.Run.{Outcome, End, Stop, Spent, IsAccess, run, after_steps, suppressed}
use Rattle.machine_model.specs.States.{IsState}
use Rattle.label_fix.specs.DraftRun.{DraftEntry, Put, draft_run}
use Rattle.label_fix.specs.Finished.{AreFit, size, words_of}
use Rattle.label_fix.specs.Suppressions.{cuts}
use Rattle.promises.specs.Function.{IsCall}
use Rattle.promises.specs.Reserved.{platform_register, frame_pointer, link_register, leaves_reserved}
use Rattle.promises.specs.Saved.{Saved, doublewords, frame_size, kept_x, kept_z, saved_by}
use Rattle.call_code.specs.Frame.{carrier, enter, leave, low_at, kept_words, with_words}
use Rattle.call_code.specs.Returning.{returning}

-- the words of a function with this code, which keeps some registers
abbrev pub words_around : Saved → List ℕ → List ℕ
words_around v words = listed_words (enter v) ++ (returning words ++ listed_words (leave v))

-- it keeps those that its code writes
abbrev pub function_words : List ℕ → List ℕ
function_words words = words_around (saved_by words) words

-- The state in which the code of the draft is entered: the registers are kept in the frame.
pub record Enters (v : Saved) (s t : State) : Type 0 where
  pub state : IsState t
  pub x : (r : ℕ) → r ≢ carrier → x_at t r ≡ x_at s r
  pub sp : t.sp + frame_size v ≡ s.sp
  pub z : t.z ≡ s.z
  pub vl : t.vl ≡ s.vl
  pub memory : t.memory ≡ with_words s.memory t.sp (kept_words v s)

-- the bytes that were stored in the frame are as they were
abbrev pub FrameStays : Saved → (before : Memory) → (sp : ℕ) → (after : Memory) → Type 0
FrameStays v before sp after = (x : ℕ) → sp ≤ x → x < sp + 8 * doublewords v → byte_at after x ≡ byte_at before x

-- so many steps lead back to the caller, with this memory and this result
pub record Returns (s : State) (most : ℕ) (m : Memory) (answer : ℕ) : Type 0 where
  pub count : ℕ
  pub within : count ≤ most
  pub end : State
  pub after : after_steps count s ≡ Some end
  pub back : end.pc ≡ x_at s link_register
  pub memory : end.memory ≡ m
  pub result : x_at end 0 ≡ answer
  pub sp : end.sp ≡ s.sp
  pub x : All (λ r. x_at end r ≡ x_at s r) (platform_register ∷ frame_pointer ∷ link_register ∷ kept_x)
  pub z : All (λ r. low_at end r ≡ low_at s r) kept_z

-- steps before the code of the draft, and before and after it
abbrev pub before : Saved → ℕ
before v = length (enter v)

abbrev pub around : Saved → ℕ
around v = before v + length (leave v)

-- how the call comes out, by the outcome of n steps of the draft's run from t on
abbrev pub Answers : Saved → (s t : State) → ℕ → Outcome → Type 0
Answers v s t n (End m result steps) = FrameStays v t.memory t.sp m → Returns s (n + around v) m result
Answers v s t n (Stop kind pc at m steps) = IsAccess kind → run (before v + n) 0 s ≡ Stop kind pc at m (before v + steps)
Answers v s t n (Spent pc m steps) = Unit {0}

pub record Calls (v : Saved) (entries : List DraftEntry) (s : State) : Type 0 where
  pub inner : State
  pub enters : Enters v s inner
  pub answers : (n : ℕ) → Answers v s inner n (draft_run (record { base = inner.pc; entries = entries }) n 0 entries inner)
  pub tells : (n : ℕ) → cuts (record { base = inner.pc; entries = entries }) n entries inner ≤ suppressed (before v + n) s

-- no instruction of a draft writes X18, X29, X30 or SP
abbrev pub LeavesAlone : List DraftEntry → Type 0
LeavesAlone entries = (i : Listed) (pre rest : List DraftEntry) → entries ≡ pre ++ Put i ∷ rest → leaves_reserved i ≡ true

-- a function of the words of a draft comes back where the draft ends, and stops where the draft does
abbrev pub CallsAsDraft : Type 0
CallsAsDraft =
    (entries : List DraftEntry) (labels : ℕ) (s : State) → AreFit labels entries → size entries ≤ 65536 → LeavesAlone entries
    → IsCall (saved_by (words_of entries)) (function_words (words_of entries)) s → Calls (saved_by (words_of entries)) entries s
