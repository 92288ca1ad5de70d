-- Steps one after another, where code stands in memory.
use Rattle.std.proofs.Common.{◌≡◌, ℕ, zero, suc, ◌+◌, ◌^◌, ◌<◌, List, [], ◌∷◌, Option, Some, None, refl, sym, ap, ◌∙◌, subst, arith}
use Rattle.std.proofs.Math.Nat.{mod-lt}
use Rattle.std.proofs.lemmas.Nat.{pow_pos}
use Rattle.guest_types.specs.Memory.{Memory, can_read, fetched}
use Rattle.machine_model.specs.CodeInMemory.{HasCode, word_after}
use Rattle.machine_model.specs.InstructionTable.{Listed}
use Rattle.machine_model.specs.Machine.{State, Step, Went, Ended, Stopped, memory_after}
use Rattle.machine_model.specs.OneStep.{step}
use Rattle.machine_model.specs.Run.{Outcome, End, Stop, Spent, go_on, run, after_steps, memory_left}
use Rattle.machine_model.proofs.CodeInMemory.{code_stays}
use Rattle.machine_model.proofs.MemoryStays.{run_code, run_access}
use Rattle.machine_model.proofs.Runs.{leads_after}

pub word_after_below : (pc : ℕ) → word_after pc < 2 ^ 64
word_after_below pc = mod-lt (pc + 4) (pow_pos 64)

-- one step, and more
pub first_then : (n : ℕ) (s t u : State) → step s ≡ Went t → after_steps n t ≡ Some u → after_steps (suc n) s ≡ Some u
first_then n s t u e h = ap (λ o. elim o as (λ o. Option State) [ Went v ↦ after_steps n v | Ended result ↦ None | Stopped kind pc at memory ↦ None ]) e ∙ h

step_and_more : (o : Step) (m n : ℕ) (t u : State) → ((v : State) → after_steps m v ≡ Some t → after_steps (m + n) v ≡ Some u) → elim o as (λ o. Option State) [ Went v ↦ after_steps m v | Ended result ↦ None | Stopped kind pc at memory ↦ None ] ≡ Some t → elim o as (λ o. Option State) [ Went v ↦ after_steps (m + n) v | Ended result ↦ None | Stopped kind pc at memory ↦ None ] ≡ Some u
step_and_more (Went v) m n t u more h = more v h
step_and_more (Ended r) m n t u more h = absurd cc
step_and_more (Stopped kind pc at memory) m n t u more h = absurd cc

-- steps, and more
pub after_add : (m n : ℕ) (s t u : State) → after_steps m s ≡ Some t → after_steps n t ≡ Some u → after_steps (m + n) s ≡ Some u
after_add zero n s t u h k =
    let same : s ≡ t = cc in
    let e : 0 + n ≡ n = omega arith in
    ap (λ j. after_steps j s) e ∙ ap (after_steps n) same ∙ k
after_add (suc m) n s t u h k =
    let e : suc m + n ≡ suc (m + n) = omega arith in
    ap (λ j. after_steps j s) e ∙ step_and_more (step s) m n t u (λ v is. after_add m n v t u is k) h

-- code stays over a step
pub code_on : (s t : State) (pc : ℕ) (is : List Listed) → step s ≡ Went t → pc < 2 ^ 64 → HasCode s.memory pc is → HasCode t.memory pc is
code_on s t pc is e low h = subst (λ o. HasCode (memory_after o s) pc is) e (code_stays s pc is low h)

-- ---- steps that go on

pub spent_code : (n : ℕ) (s t : State) (a : ℕ) → after_steps n s ≡ Some t → a < 2 ^ 64 → fetched t.memory a ≡ fetched s.memory a
spent_code n s t a h low =
    let e : n ≡ 0 + n = omega arith in
    let left : run n 0 s ≡ run 0 (0 + n) t = (leads_after n s t h).by n 0 0 e in
    ap (λ o. fetched (memory_left o) a) (sym left) ∙ run_code n 0 s a low

pub spent_read : (n : ℕ) (s t : State) (a : ℕ) → after_steps n s ≡ Some t → can_read t.memory a ≡ can_read s.memory a
spent_read n s t a h =
    let e : n ≡ 0 + n = omega arith in
    let left : run n 0 s ≡ run 0 (0 + n) t = (leads_after n s t h).by n 0 0 e in
    ap (λ o. can_read (memory_left o) a) (sym left) ∙ (run_access n 0 s a).0

code_in : (m w : Memory) (is : List Listed) (pc : ℕ) → ((a : ℕ) → a < 2 ^ 64 → fetched w a ≡ fetched m a) → pc < 2 ^ 64 → HasCode m pc is → HasCode w pc is
code_in m w [] pc same low h = tt
code_in m w (i ∷ is) pc same low h = (same pc low ∙ h.0, h.1, code_in m w is (word_after pc) same (mod-lt (pc + 4) (pow_pos 64)) h.2)

pub code_later : (n : ℕ) (s t : State) (is : List Listed) (pc : ℕ) → after_steps n s ≡ Some t → t.pc ≡ pc → pc < 2 ^ 64 → HasCode s.memory pc is → HasCode t.memory t.pc is
code_later n s t is pc h e low code = subst (λ p. HasCode t.memory p is) (sym e) (code_in s.memory t.memory is pc (λ a lt. spent_code n s t a h lt) low code)

-- ---- runs counted from another number

abbrev pub shifted : ℕ → Outcome → Outcome
shifted k (End m r steps) = End m r (k + steps)
shifted k (Stop kind pc at m steps) = Stop kind pc at m (k + steps)
shifted k (Spent pc m steps) = Spent pc m (k + steps)

shift_on : (o : Step) (s : State) (k taken : ℕ) (f g : State → Outcome) → ((t : State) → f t ≡ shifted k (g t)) → go_on o s (k + taken) f ≡ shifted k (go_on o s taken g)
shift_on (Went t) s k taken f g h = h t
shift_on (Ended r) s k taken f g h = refl
shift_on (Stopped kind pc at m) s k taken f g h = refl

pub run_shifted : (n k taken : ℕ) (s : State) → run n (k + taken) s ≡ shifted k (run n taken s)
run_shifted zero k taken s = refl
run_shifted (suc n) k taken s =
    let e : k + taken + 1 ≡ k + (taken + 1) = omega arith in
    ap (λ c. go_on (step s) s c (run n c)) e ∙ shift_on (step s) s k (taken + 1) (run n (k + (taken + 1))) (run n (taken + 1)) (λ t. run_shifted n k (taken + 1) t)
