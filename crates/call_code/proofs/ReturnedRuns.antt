-- Where the returning words of a draft stand in memory, the machine does what the draft does up to its end, and there goes on
-- behind them.
use Rattle.std.proofs.Common.{◌≡◌, inl, inr, ℕ, zero, suc, ◌+◌, ◌*◌, ◌%◌, ◌^◌, ◌<◌, ◌≤◌, Bool, true, false, List, [], ◌∷◌, ◌++◌, length, Option, Some, None, refl, sym, ap, ◌∙◌, subst, arith}
use Rattle.std.specs.Prelude.{cond, nat_eq, if◌then◌else◌, slice_get}
use Rattle.std.proofs.lemmas.Bool.{eqb-true, eq-eqb, cond-true, cond-false}
use Rattle.guest_types.specs.Memory.{Memory, fetched}
use Rattle.word_rows.specs.Row.{spells}
use Rattle.a64_code.specs.Table as a64
use Rattle.a64_code.proofs.Valid.{is_instruction}
use Rattle.machine_model.specs.declared.outcome.StopKind.TheVariants.{Call, Break}
use Rattle.machine_model.specs.CodeInMemory.{spell, IsListed}
use Rattle.machine_model.specs.InstructionTable.{Listed, Scalar}
use Rattle.machine_model.specs.Machine.{State, Step, Went, Ended, Stopped, x_at, jump, next}
use Rattle.machine_model.specs.OneStep.{step, does, cuts_in, suppresses}
use Rattle.machine_model.specs.Run.{Outcome, End, Stop, Spent, IsAccess, go_on, run, after_steps, suppressed}
use Rattle.machine_model.proofs.ListedWords.{step_does, step_cuts}
use Rattle.label_fix.specs.DraftRun.{Kind, Always, DraftEntry, Put, Branch, Place, Laid, is_taken, following, place_of, address_of, walk, draft_run}
use Rattle.label_fix.specs.Suppressions.{count_on, walk_cuts, cuts}
use Rattle.label_fix.specs.Finished.{size, branch_of, is_plain, AreFit, StandAt, words_from, words_of}
use Rattle.label_fix.proofs.Collected.{place_within}
use Rattle.label_fix.proofs.PlacedRuns.{size-append, address_at, branch_listed}
use Rattle.promises.specs.OneExit.{exit_call, exit_word}
use Rattle.call_code.specs.Returning.{trap_word, returning_word, returning}
use Rattle.call_code.proofs.Draft.{branch_does, target_forward, before, parts, placed, onward, next_place, passes}
use Rattle.call_code.proofs.Exits.{is_end, is_exit, ends_by_exit}

-- ---- the words in memory

-- the words of some entries, the first of which has number n, and the BRK behind the last
abbrev pub Stands : Laid → Memory → ℕ → List DraftEntry → Type 0
Stands d m n [] = fetched m (address_at d n) ≡ Some trap_word
Stands d m n (Put i ∷ rest) = (fetched m (address_at d n) ≡ Some (returning_word (spell i) (size rest))) × IsListed i × (is_plain i ≡ true) × Stands d m (suc n) rest
Stands d m n (Branch k l ∷ rest) = (fetched m (address_at d n) ≡ Some (spells a64.row (branch_of k n (place_of d.entries l)))) × IsListed (Scalar (branch_of k n (place_of d.entries l))) × Stands d m (suc n) rest
Stands d m n (Place l ∷ rest) = Stands d m n rest

low : (d : Laid) (n : ℕ) → address_at d n < 2 ^ 64
low d n = omega arith

stands_keep : (d : Laid) (m w : Memory) (n : ℕ) (rest : List DraftEntry) → ((a : ℕ) → a < 2 ^ 64 → fetched w a ≡ fetched m a) → Stands d m n rest → Stands d w n rest
stands_keep d m w n [] f h = f _ (low d n) ∙ h
stands_keep d m w n (Put i ∷ rest) f h = (f _ (low d n) ∙ h.0, h.1, h.2, stands_keep d m w (suc n) rest f h.3)
stands_keep d m w n (Branch k l ∷ rest) f h = (f _ (low d n) ∙ h.0, h.1, stands_keep d m w (suc n) rest f h.2)
stands_keep d m w n (Place l ∷ rest) f h = stands_keep d m w n rest f h

stands_at : (d : Laid) (m : Memory) (n : ℕ) (pre rest : List DraftEntry) → Stands d m n (pre ++ rest) → Stands d m (n + size pre) rest
stands_at d m n [] rest h = let e : n ≡ n + 0 = omega arith in subst (λ k. Stands d m k rest) e h
stands_at d m n (Put i ∷ pre) rest h = let e : suc n + size pre ≡ n + suc (size pre) = omega arith in subst (λ k. Stands d m k rest) e (stands_at d m (suc n) pre rest h.3)
stands_at d m n (Branch k l ∷ pre) rest h = let e : suc n + size pre ≡ n + suc (size pre) = omega arith in subst (λ k. Stands d m k rest) e (stands_at d m (suc n) pre rest h.2)
stands_at d m n (Place l ∷ pre) rest h = stands_at d m n pre rest h

here : (d : Laid) (pre rest : List DraftEntry) (s : State) → d.entries ≡ pre ++ rest → Stands d s.memory 0 d.entries → Stands d s.memory (size pre) rest
here d pre rest s e h = let z : 0 + size pre ≡ size pre = omega arith in subst (λ k. Stands d s.memory k rest) z (stands_at d s.memory 0 pre rest (subst (λ es. Stands d s.memory 0 es) e h))

-- ---- from the words that stand there

-- some words from number n on
abbrev From : Laid → Memory → ℕ → List ℕ → Type 0
From d m n words = (k w : ℕ) → slice_get words k ≡ Some w → fetched m (address_at d (n + k)) ≡ Some w

from_next : (d : Laid) (m : Memory) (n v : ℕ) (words : List ℕ) → From d m n (v ∷ words) → From d m (suc n) words
from_next d m n v words f k w e = let j : n + suc k ≡ suc n + k = omega arith in ap (λ i. fetched m (address_at d i)) (sym j) ∙ f (suc k) w e

from_here : (d : Laid) (m : Memory) (n v : ℕ) (words : List ℕ) → From d m n (v ∷ words) → fetched m (address_at d n) ≡ Some v
from_here d m n v words f = let j : n ≡ n + 0 = omega arith in ap (λ i. fetched m (address_at d i)) j ∙ f 0 v refl

pub length_returning : (words : List ℕ) → length (returning words) ≡ length words + 1
length_returning [] = refl
length_returning (w ∷ words) = omega (arith, length_returning words)

length_from : (whole rest : List DraftEntry) (n : ℕ) → length (words_from whole n rest) ≡ size rest
length_from whole [] n = refl
length_from whole (Put i ∷ rest) n = ap suc (length_from whole rest (suc n))
length_from whole (Branch k l ∷ rest) n = ap suc (length_from whole rest (suc n))
length_from whole (Place l ∷ rest) n = length_from whole rest n

-- a branch is no exit call
branch_stays : (k : Kind) (from to n : ℕ) → IsListed (Scalar (branch_of k from to)) → is_plain (Scalar (branch_of k from to)) ≡ false → returning_word (spells a64.row (branch_of k from to)) n ≡ spells a64.row (branch_of k from to)
branch_stays k from to n h off = by (nat_eq (spells a64.row (branch_of k from to)) exit_word) refl
  where
    by : (b : Bool) → nat_eq (spells a64.row (branch_of k from to)) exit_word ≡ b → returning_word (spells a64.row (branch_of k from to)) n ≡ spells a64.row (branch_of k from to)
    by false e = cond-false _ _ _ e
    by true e = let same = ap is_plain (is_exit (Scalar (branch_of k from to)) h (eqb-true _ _ e)) in absurd cc

branch_not_plain : (k : Kind) (from to : ℕ) → is_plain (Scalar (branch_of k from to)) ≡ false
branch_not_plain Always from to = refl
branch_not_plain other from to = refl

stands_from : (d : Laid) (m : Memory) (labels n : ℕ) (rest : List DraftEntry) → AreFit labels rest → From d m n (returning (words_from d.entries n rest)) → Stands d m n rest
stands_from d m labels n [] h f = from_here d m n trap_word [] f
stands_from d m labels n (Put i ∷ rest) h f =
    (from_here d m n _ _ f ∙ ap (λ k. Some (returning_word (spell i) k)) (length_from d.entries rest (suc n)), h.0.0, h.0.1, stands_from d m labels (suc n) rest h.1 (from_next d m n _ _ f))
stands_from d m labels n (Branch k l ∷ rest) h f =
    let to = place_of d.entries l in
    let listed = branch_listed k n to h.0 in
    (from_here d m n _ _ f ∙ ap Some (branch_stays k n to (length (words_from d.entries (suc n) rest)) listed (branch_not_plain k n to)), listed, stands_from d m labels (suc n) rest h.2 (from_next d m n _ _ f))
stands_from d m labels n (Place l ∷ rest) h f = stands_from d m labels n rest h.1 f

pub returning_stands : (d : Laid) (labels : ℕ) (m : Memory) → AreFit labels d.entries → StandAt m d.base (returning (words_of d.entries)) → Stands d m 0 d.entries
unfolding words_of
returning_stands d labels m fit at = stands_from d m labels 0 d.entries fit (λ k w e. let z : 0 + k ≡ k = omega arith in ap (λ i. fetched m (address_at d i)) z ∙ at k w e)

-- ---- what the machine does

-- The machine goes on behind the words of a draft that ended with this memory and result after so many steps; K relates the
-- state there to the one at the start.
pub record Returned (K : State → State → Type 0) (d : Laid) (s : State) (taken n : ℕ) (m : Memory) (r steps : ℕ) : Type 0 where
  pub count : ℕ
  pub within : count ≤ n
  pub counted : steps ≡ taken + count
  pub end : State
  pub after : after_steps count s ≡ Some end
  pub memory : end.memory ≡ m
  pub result : x_at end 0 ≡ r
  pub place : end.pc ≡ address_at d (size d.entries + 1)
  pub kept : K s end

-- how the machine answers a draft, by the draft's outcome
abbrev pub Answers : (K : State → State → Type 0) → Laid → State → (taken n : ℕ) → Outcome → Type 0
Answers K d s taken n (End m r steps) = Returned K d s taken n m r steps
Answers K d s taken n (Stop kind pc at m steps) = IsAccess kind → run n taken s ≡ Stop kind pc at m steps
Answers K d s taken n (Spent pc m steps) = Unit {0}

-- what relates a state to a answers_later one
pub record IsKept (K : State → State → Type 0) (d : Laid) : Type 0 where
  pub on : (s t u : State) → K s t → K t u → K s u
  pub jumps : (s : State) (pc : ℕ) → K s (jump s pc)
  pub puts : (i : Listed) (pre rest : List DraftEntry) (s t : State) → d.entries ≡ pre ++ Put i ∷ rest → does i s ≡ Went t → K s t

call_is_none : IsAccess Call → ⊥
call_is_none (inl e) = cc
call_is_none (inr e) = cc

break_is_none : IsAccess Break → ⊥
break_is_none (inl e) = cc
break_is_none (inr e) = cc

module _ (K : State → State → Type 0) (d : Laid) (is : IsKept K d) (few : size d.entries ≤ 65536) where
  answers_later : (s t : State) (taken n : ℕ) (o : Outcome) → step s ≡ Went t → K s t → Answers K d t (taken + 1) n o → Answers K d s taken (suc n) o
  answers_later s t taken n (End m r steps) e k h =
      let c = h.counted in
      let w = h.within in
      record {
        count = suc h.count;
        within = omega (arith, w);
        counted = omega (arith, c);
        end = h.end;
        after = ap (λ o. elim o as (λ o. Option State) [ Went u ↦ after_steps h.count u | Ended result ↦ None | Stopped kind pc at memory ↦ None ]) e ∙ h.after;
        memory = h.memory;
        result = h.result;
        place = h.place;
        kept = is.on s t h.end k h.kept;
      }
  answers_later s t taken n (Stop kind pc at m steps) e k h = λ ok. ap (λ o. go_on o s (taken + 1) (run n (taken + 1))) e ∙ h ok
  answers_later s t taken n (Spent pc m steps) e k h = tt

  -- for n words, from any place
  abbrev Answered : ℕ → Type 0
  Answered n = (taken : ℕ) (pre rest : List DraftEntry) (s : State) → d.entries ≡ pre ++ rest → s.pc ≡ address_at d (size pre) → Stands d s.memory 0 d.entries → Answers K d s taken n (draft_run d n taken rest s)

  module _ (n : ℕ) (ih : Answered n) where
    went_on : (i : Listed) (o : Step) (taken : ℕ) (pre rest : List DraftEntry) (s : State) → does i s ≡ o → step s ≡ o → is_end o ≡ false → is_plain i ≡ true → d.entries ≡ pre ++ Put i ∷ rest → s.pc ≡ address_at d (size pre) → Stands d s.memory 0 d.entries → Answers K d s taken (suc n) (go_on o s (taken + 1) (draft_run d n (taken + 1) rest))
    went_on i (Went t) taken pre rest s e f on plain at p h =
        let k = passes i s t plain e in
        let z : size (pre ++ Put i ∷ []) ≡ size pre + 1 = size-append pre (Put i ∷ []) in
        answers_later s t taken n (draft_run d n (taken + 1) rest t) f (is.puts i pre rest s t at e)
        (ih (taken + 1) (pre ++ Put i ∷ []) rest t (onward d (Put i) pre rest at) (k.pc ∙ next_place d s.pc (size pre) p ∙ ap (address_at d) (sym z)) (stands_keep d s.memory t.memory 0 d.entries k.code h))
    went_on i (Ended r) taken pre rest s e f on plain at p h = absurd cc
    went_on i (Stopped kind pc at m) taken pre rest s e f on plain here p h = λ ok. ap (λ o. go_on o s (taken + 1) (run n (taken + 1))) f

    -- at the exit call the machine branches
    exit_answers : (b : Bool) (taken : ℕ) (pre rest : List DraftEntry) (s t : State) → step s ≡ Went t → t ≡ jump s (address_at d (size d.entries + 1)) → Answers K d s taken (suc n) (go_on (if b then Ended (x_at s 0) else Stopped Call s.pc (x_at s 8) s.memory) s (taken + 1) (draft_run d n (taken + 1) rest))
    exit_answers true taken pre rest s t e f = record {
      count = 1;
      within = omega arith;
      counted = refl;
      end = t;
      after = ap (λ o. elim o as (λ o. Option State) [ Went u ↦ after_steps 0 u | Ended result ↦ None | Stopped kind pc at memory ↦ None ]) e;
      memory = ap (λ (u : State). u.memory) f;
      result = ap (λ (u : State). x_at u 0) f;
      place = ap (λ (u : State). u.pc) f;
      kept = subst (K s) (sym f) (is.jumps s (address_at d (size d.entries + 1)));
    }
    exit_answers false taken pre rest s t e f = λ ok. absurd (call_is_none ok)

    put_answers : (b : Bool) (i : Listed) (taken : ℕ) (pre rest : List DraftEntry) (s : State) → nat_eq (spell i) exit_word ≡ b → fetched s.memory s.pc ≡ Some (returning_word (spell i) (size rest)) → IsListed i → is_plain i ≡ true → d.entries ≡ pre ++ Put i ∷ rest → s.pc ≡ address_at d (size pre) → Stands d s.memory 0 d.entries → Answers K d s taken (suc n) (go_on (does i s) s (taken + 1) (draft_run d n (taken + 1) rest))
    put_answers false i taken pre rest s e at listed plain all p h =
        let word : fetched s.memory s.pc ≡ Some (spell i) = at ∙ ap Some (cond-false _ _ _ e) in
        went_on i (does i s) taken pre rest s refl (step_does s i listed word) (no_end (is_end (does i s)) refl) plain all p h
      where
        no_end : (c : Bool) → is_end (does i s) ≡ c → is_end (does i s) ≡ false
        no_end false f = f
        no_end true f = let same = sym e ∙ eq-eqb _ _ (ends_by_exit i s listed f) in absurd cc
    put_answers true i taken pre rest s e at listed plain all p h =
        let same : i ≡ exit_call = is_exit i listed (eqb-true _ _ e) in
        let over : size rest + 2 ≤ 65538 = let z = ap size all ∙ size-append pre (Put i ∷ rest) in omega (arith, few, z) in
        let jumped : Listed = Scalar (record { name = a64.b; numbers = (size rest + 2) ∷ [] }) in
        let known : IsListed jumped = is_instruction _ (omega (arith, over), tt) refl in
        let word : fetched s.memory s.pc ≡ Some (spell jumped) = at ∙ ap Some (cond-true _ _ _ e) in
        let to = target_forward d.base (size pre) (size rest + 2) s.pc over p in
        let there : size pre + (size rest + 2) ≡ size d.entries + 1 = let z = ap size all ∙ size-append pre (Put i ∷ rest) in omega (arith, z) in
        let t : State = jump s (address_at d (size d.entries + 1)) in
        let steps : step s ≡ Went t = step_does s jumped known word ∙ ap (λ a. Went (jump s a)) (to ∙ ap (λ k. (d.base + 4 * k) % 2 ^ 64) there) in
        subst (λ j. Answers K d s taken (suc n) (go_on (does j s) s (taken + 1) (draft_run d n (taken + 1) rest))) (sym same) (exit_answers (nat_eq (x_at s 8) 93) taken pre rest s t steps refl)

    branched : (c : Bool) (k : Kind) (l taken : ℕ) (pre rest : List DraftEntry) (s : State) → step s ≡ Went (if c then jump s (address_of d l) else next s) → d.entries ≡ pre ++ Branch k l ∷ rest → s.pc ≡ address_at d (size pre) → Stands d s.memory 0 d.entries → Answers K d s taken (suc n) (if c then draft_run d n (taken + 1) (following d l) (jump s (address_of d l)) else draft_run d n (taken + 1) rest (next s))
    branched true k l taken pre rest s f e p h =
        answers_later s (jump s (address_of d l)) taken n (draft_run d n (taken + 1) (following d l) (jump s (address_of d l))) f (is.jumps s (address_of d l))
        (ih (taken + 1) (before d.entries l) (following d l) (jump s (address_of d l)) (parts d.entries l) (ap (address_at d) (placed d.entries l)) h)
    branched false k l taken pre rest s f e p h =
        let z : size (pre ++ Branch k l ∷ []) ≡ size pre + 1 = size-append pre (Branch k l ∷ []) in
        answers_later s (next s) taken n (draft_run d n (taken + 1) rest (next s)) f (is.jumps s ((s.pc + 4) % 2 ^ 64))
        (ih (taken + 1) (pre ++ Branch k l ∷ []) rest (next s) (onward d (Branch k l) pre rest e) (next_place d s.pc (size pre) p ∙ ap (address_at d) (sym z)) h)

    trapped : (taken : ℕ) (s : State) → fetched s.memory s.pc ≡ Some trap_word → Answers K d s taken (suc n) (run (suc n) taken s)
    trapped taken s at =
        let i : Listed = Scalar (record { name = a64.brk; numbers = 0 ∷ [] }) in
        let known : IsListed i = is_instruction _ (omega arith, tt) refl in
        let stops : run (suc n) taken s ≡ Stop Break s.pc 0 s.memory (taken + 1) = ap (λ o. go_on o s (taken + 1) (run n (taken + 1))) (step_does s i known at) in
        subst (λ o. Answers K d s taken (suc n) o) (sym stops) (λ ok. absurd (break_is_none ok))

    answered_walk : (rest pre : List DraftEntry) (taken : ℕ) (s : State) → d.entries ≡ pre ++ rest → s.pc ≡ address_at d (size pre) → Stands d s.memory 0 d.entries → Answers K d s taken (suc n) (walk d (draft_run d n (taken + 1)) (run (suc n) taken) (taken + 1) rest s)
    answered_walk [] pre taken s e p h = trapped taken s (ap (fetched s.memory) p ∙ here d pre [] s e h)
    answered_walk (Put i ∷ rest) pre taken s e p h =
        let at = here d pre _ s e h in
        put_answers (nat_eq (spell i) exit_word) i taken pre rest s refl (ap (fetched s.memory) p ∙ at.0) at.1 at.2 e p h
    answered_walk (Branch k l ∷ rest) pre taken s e p h =
        let at = here d pre _ s e h in
        let z = ap size e ∙ size-append pre (Branch k l ∷ rest) in
        let to = place_within d.entries l in
        branched (is_taken k s) k l taken pre rest s
        (step_does s (Scalar (branch_of k (size pre) (place_of d.entries l))) at.1 (ap (fetched s.memory) p ∙ at.0) ∙ branch_does d k (size pre) (place_of d.entries l) s (omega (arith, few, z)) (omega (arith, few, to)) p)
        e p h
    answered_walk (Place l ∷ rest) pre taken s e p h =
        let z : size (pre ++ Place l ∷ []) ≡ size pre = size-append pre (Place l ∷ []) ∙ omega arith in
        answered_walk rest (pre ++ Place l ∷ []) taken s (onward d (Place l) pre rest e) (p ∙ ap (address_at d) (sym z)) h

  pub answered : (n : ℕ) → Answered n
  answered zero taken pre rest s e p h = tt
  answered (suc n) taken pre rest s e p h = answered_walk n (answered n) rest pre taken s e p h

  -- from the first word on
  pub answered_from_start : (n : ℕ) (s : State) → s.pc ≡ d.base % 2 ^ 64 → Stands d s.memory 0 d.entries → Answers K d s 0 n (draft_run d n 0 d.entries s)
  answered_from_start n s p h = answered n 0 [] d.entries s refl (p ∙ (let e : d.base % 2 ^ 64 ≡ (d.base + 4 * 0) % 2 ^ 64 = omega arith in e)) h

-- ---- the free elements that are suppressed

abbrev counted_by : Step → Bool → ℕ → ℕ
counted_by o cut n = elim o [ Went t ↦ cond cut 1 0 + suppressed n t | Ended result ↦ 0 | Stopped kind pc at memory ↦ 0 ]

-- for n words, from any place
abbrev Fewer : Laid → ℕ → Type 0
Fewer d n = (pre rest : List DraftEntry) (s : State) → d.entries ≡ pre ++ rest → s.pc ≡ address_at d (size pre) → Stands d s.memory 0 d.entries → cuts d n rest s ≤ suppressed n s

step_counts : (s : State) (i : Listed) (n : ℕ) → IsListed i → fetched s.memory s.pc ≡ Some (spell i) → suppressed (suc n) s ≡ counted_by (does i s) (cuts_in i s) n
step_counts s i n h at = ap (λ o. counted_by o (suppresses s) n) (step_does s i h at) ∙ ap (λ cut. counted_by (does i s) cut n) (step_cuts s i h at)

module _ (d : Laid) (few : size d.entries ≤ 65536) (n : ℕ) (ih : Fewer d n) where
  fewer_on : (i : Listed) (o : Step) (cut : Bool) (pre rest : List DraftEntry) (s : State) → does i s ≡ o → is_plain i ≡ true → d.entries ≡ pre ++ Put i ∷ rest → s.pc ≡ address_at d (size pre) → Stands d s.memory 0 d.entries → count_on o cut (cuts d n rest) ≤ counted_by o cut n
  fewer_on i (Went t) cut pre rest s is plain e p h =
      let k = passes i s t plain is in
      let z : size (pre ++ Put i ∷ []) ≡ size pre + 1 = size-append pre (Put i ∷ []) in
      let r = ih (pre ++ Put i ∷ []) rest t (onward d (Put i) pre rest e) (k.pc ∙ next_place d s.pc (size pre) p ∙ ap (address_at d) (sym z)) (stands_keep d s.memory t.memory 0 d.entries k.code h) in
      omega (arith, r)
  fewer_on i (Ended r) cut pre rest s is plain e p h = omega arith
  fewer_on i (Stopped kind pc at m) cut pre rest s is plain e p h = omega arith

  fewer_branch : (c : Bool) (k : Kind) (l : ℕ) (pre rest : List DraftEntry) (s : State) → d.entries ≡ pre ++ Branch k l ∷ rest → s.pc ≡ address_at d (size pre) → Stands d s.memory 0 d.entries → (if c then cuts d n (following d l) (jump s (address_of d l)) else cuts d n rest (next s)) ≤ suppressed n (if c then jump s (address_of d l) else next s)
  fewer_branch true k l pre rest s e p h = ih (before d.entries l) (following d l) (jump s (address_of d l)) (parts d.entries l) (ap (address_at d) (placed d.entries l)) h
  fewer_branch false k l pre rest s e p h =
      let z : size (pre ++ Branch k l ∷ []) ≡ size pre + 1 = size-append pre (Branch k l ∷ []) in
      ih (pre ++ Branch k l ∷ []) rest (next s) (onward d (Branch k l) pre rest e) (next_place d s.pc (size pre) p ∙ ap (address_at d) (sym z)) h

  -- the exit call suppresses nothing
  none_after : (b : Bool) (x y : ℕ) (s : State) (more : State → ℕ) → count_on (if b then Ended x else Stopped Call s.pc y s.memory) false more ≡ 0
  none_after true x y s more = refl
  none_after false x y s more = refl

  fewer_put : (b : Bool) (i : Listed) (pre rest : List DraftEntry) (s : State) → nat_eq (spell i) exit_word ≡ b → fetched s.memory s.pc ≡ Some (returning_word (spell i) (size rest)) → IsListed i → is_plain i ≡ true → d.entries ≡ pre ++ Put i ∷ rest → s.pc ≡ address_at d (size pre) → Stands d s.memory 0 d.entries → count_on (does i s) (cuts_in i s) (cuts d n rest) ≤ suppressed (suc n) s
  fewer_put false i pre rest s b at listed plain e p h =
      let is = step_counts s i n listed (at ∙ ap Some (cond-false _ _ _ b)) in
      let le = fewer_on i (does i s) (cuts_in i s) pre rest s refl plain e p h in
      subst (λ m. count_on (does i s) (cuts_in i s) (cuts d n rest) ≤ m) (sym is) le
  fewer_put true i pre rest s b at listed plain e p h =
      let same : i ≡ exit_call = is_exit i listed (eqb-true _ _ b) in
      let none : count_on (does exit_call s) (cuts_in exit_call s) (cuts d n rest) ≡ 0 = none_after (nat_eq (x_at s 8) 93) (x_at s 0) (x_at s 8) s (cuts d n rest) in
      let all = ap (λ j. count_on (does j s) (cuts_in j s) (cuts d n rest)) same in
      omega (arith, none, all)

  fewer_walk : (rest pre : List DraftEntry) (s : State) → d.entries ≡ pre ++ rest → s.pc ≡ address_at d (size pre) → Stands d s.memory 0 d.entries → walk_cuts d (cuts d n) rest s ≤ suppressed (suc n) s
  fewer_walk [] pre s e p h = omega arith
  fewer_walk (Put i ∷ rest) pre s e p h =
      let at = here d pre _ s e h in
      fewer_put (nat_eq (spell i) exit_word) i pre rest s refl (ap (fetched s.memory) p ∙ at.0) at.1 at.2 e p h
  fewer_walk (Branch k l ∷ rest) pre s e p h =
      let at = here d pre _ s e h in
      let z = ap size e ∙ size-append pre (Branch k l ∷ rest) in
      let to = place_within d.entries l in
      let i = branch_of k (size pre) (place_of d.entries l) in
      let is = step_counts s (Scalar i) n at.1 (ap (fetched s.memory) p ∙ at.0) ∙ ap (λ o. counted_by o false n) (branch_does d k (size pre) (place_of d.entries l) s (omega (arith, few, z)) (omega (arith, few, to)) p) in
      let le = fewer_branch (is_taken k s) k l pre rest s e p h in
      subst (λ m. walk_cuts d (cuts d n) (Branch k l ∷ rest) s ≤ m) (sym is) (omega (arith, le))
  fewer_walk (Place l ∷ rest) pre s e p h =
      let z : size (pre ++ Place l ∷ []) ≡ size pre = size-append pre (Place l ∷ []) ∙ omega arith in
      fewer_walk rest (pre ++ Place l ∷ []) s (onward d (Place l) pre rest e) (p ∙ ap (address_at d) (sym z)) h

fewer : (d : Laid) → size d.entries ≤ 65536 → (n : ℕ) → Fewer d n
fewer d few zero pre rest s e p h = omega arith
fewer d few (suc n) pre rest s e p h = fewer_walk d few n (fewer d few n) rest pre s e p h

-- the free elements that the draft suppresses are among those that the machine does
pub cuts_are_fewer : (d : Laid) → size d.entries ≤ 65536 → (n : ℕ) (s : State) → s.pc ≡ d.base % 2 ^ 64 → Stands d s.memory 0 d.entries → cuts d n d.entries s ≤ suppressed n s
cuts_are_fewer d few n s p h = fewer d few n [] d.entries s refl (p ∙ (let e : d.base % 2 ^ 64 ≡ (d.base + 4 * 0) % 2 ^ 64 = omega arith in e)) h
