-- Where the words of a draft stand in memory, the machine runs as the draft does.
use Rattle.std.proofs.Common.{◌≡◌, ℕ, zero, suc, ◌+◌, ◌-◌, ◌*◌, ◌%◌, ◌^◌, ◌<◌, ◌≤◌, Bool, true, false, List, [], ◌∷◌, ◌++◌, length, Some, refl, sym, ap, ◌∙◌, subst, arith, append_assoc, ⊎_elim}
use Rattle.std.specs.Prelude.{cond, nat_eq, nat_lt, not, if◌then◌else◌, slice_get}
use Rattle.label_fix.specs.RunsAsDraft.{RunsAsDraft, CutsAreSuppressed}
use Rattle.std.proofs.lemmas.Bool.{cases_lt, lt-ltb, le-ltb, ltb-true, cond-true, cond-false}
use Rattle.guest_types.specs.Memory.{Memory, fetched}
use Rattle.word_rows.specs.Row.{IsInstruction, spells}
use Rattle.a64_code.specs.Table.{row, a64_names}
use Rattle.a64_code.proofs.Valid.{is_instruction}
use Rattle.machine_model.specs.Arithmetic.{holds, target}
use Rattle.machine_model.specs.CodeInMemory.{spell, IsListed}
use Rattle.machine_model.specs.Frames.{SameUnless, is_branch}
use Rattle.machine_model.specs.InstructionTable.{Listed, Scalar, Vector}
use Rattle.machine_model.specs.Machine.{State, Step, Went, Ended, Stopped, x_at, jump, next}
use Rattle.machine_model.specs.OneStep.{does, cuts_in, suppresses}
use Rattle.machine_model.specs.Run.{go_on, run, suppressed}
use Rattle.machine_model.specs.VectorEffects.{field_of}
use Rattle.machine_model.proofs.Frames.{went_leaves}
use Rattle.machine_model.proofs.ScalarFrames.{scalar_leaves}
use Rattle.machine_model.proofs.ListedWords.{step_does, step_cuts}
use Rattle.label_fix.specs.DraftRun.{Kind, Always, If, Zero, NotZero, DraftEntry, Put, Branch, Place, Laid, is_taken, after_label, following, place_of, address_of, walk, draft_run}
use Rattle.label_fix.specs.Suppressions.{count_on, walk_cuts, cuts}
use Rattle.label_fix.specs.Finished.{size, offset, branch_of, is_plain, IsBranch, AreFit, words_from, words_of}
use Rattle.label_fix.proofs.Collected.{place_within}

-- ---- branches

target_19 : (base from to pc : ℕ) → from ≤ 65536 → to ≤ 65536 → pc ≡ (base + 4 * from) % 2 ^ 64 → target pc 19 (offset 19 from to) ≡ (base + 4 * to) % 2 ^ 64
target_19 base from to pc hf ht e =
    ⊎_elim
    (λ (lt : to < from). let o : (to + 2 ^ 19 - from) % 2 ^ 19 ≡ 2 ^ 19 - (from - to) = omega arith in
    let t : nat_lt ((to + 2 ^ 19 - from) % 2 ^ 19) (2 ^ 18) ≡ false = le-ltb _ _ (omega (arith, o)) in
    cond-false _ _ _ t ∙ omega (arith, o, e))
    (λ (ge : from ≤ to). let o : (to + 2 ^ 19 - from) % 2 ^ 19 ≡ to - from = omega arith in
    let t : nat_lt ((to + 2 ^ 19 - from) % 2 ^ 19) (2 ^ 18) ≡ true = lt-ltb _ _ (omega (arith, o)) in
    cond-true _ _ _ t ∙ omega (arith, o, e))
    (cases_lt to from)

target_26 : (base from to pc : ℕ) → from ≤ 65536 → to ≤ 65536 → pc ≡ (base + 4 * from) % 2 ^ 64 → target pc 26 (offset 26 from to) ≡ (base + 4 * to) % 2 ^ 64
target_26 base from to pc hf ht e =
    ⊎_elim
    (λ (lt : to < from). let o : (to + 2 ^ 26 - from) % 2 ^ 26 ≡ 2 ^ 26 - (from - to) = omega arith in
    let t : nat_lt ((to + 2 ^ 26 - from) % 2 ^ 26) (2 ^ 25) ≡ false = le-ltb _ _ (omega (arith, o)) in
    cond-false _ _ _ t ∙ omega (arith, o, e))
    (λ (ge : from ≤ to). let o : (to + 2 ^ 26 - from) % 2 ^ 26 ≡ to - from = omega arith in
    let t : nat_lt ((to + 2 ^ 26 - from) % 2 ^ 26) (2 ^ 25) ≡ true = lt-ltb _ _ (omega (arith, o)) in
    cond-true _ _ _ t ∙ omega (arith, o, e))
    (cases_lt to from)

-- ---- places

pub size-append : (x y : List DraftEntry) → size (x ++ y) ≡ size x + size y
size-append [] y = omega arith
size-append (Put i ∷ x) y = omega (arith, size-append x y)
size-append (Branch k l ∷ x) y = omega (arith, size-append x y)
size-append (Place l ∷ x) y = size-append x y

-- code that was appended adds its words
pub words_added : (old new code : List DraftEntry) (most : ℕ) → new ++ [] ≡ old ++ code → size code ≤ most + 0 → size new ≤ size old + most
words_added old new code most e few =
    let same = ap size e in
    let whole = size-append new [] in
    let both = size-append old code in
    omega (arith, same, whole, both, few)

-- the entries up to the place of a label
abbrev before : List DraftEntry → ℕ → List DraftEntry
before [] l = []
before (Put i ∷ rest) l = Put i ∷ before rest l
before (Branch k m ∷ rest) l = Branch k m ∷ before rest l
before (Place m ∷ rest) l = Place m ∷ (if nat_eq m l then [] else before rest l)

entries_around_label : (es : List DraftEntry) (l : ℕ) → es ≡ before es l ++ after_label es l
entries_around_label [] l = refl
entries_around_label (Put i ∷ rest) l = ap (λ es. Put i ∷ es) (entries_around_label rest l)
entries_around_label (Branch k m ∷ rest) l = ap (λ es. Branch k m ∷ es) (entries_around_label rest l)
entries_around_label (Place m ∷ rest) l =
    elim (nat_eq m l) as (λ c. Place m ∷ rest ≡ (Place m ∷ (if c then [] else before rest l)) ++ (if c then rest else after_label rest l)) [ true ↦ refl | false ↦ ap (λ es. Place m ∷ es) (entries_around_label rest l) ]

place_is_size_before : (es : List DraftEntry) (l : ℕ) → place_of es l ≡ size (before es l)
place_is_size_before [] l = refl
place_is_size_before (Put i ∷ rest) l = ap suc (place_is_size_before rest l)
place_is_size_before (Branch k m ∷ rest) l = ap suc (place_is_size_before rest l)
place_is_size_before (Place m ∷ rest) l =
    elim (nat_eq m l) as (λ c. (if c then 0 else place_of rest l) ≡ size (if c then [] else before rest l)) [ true ↦ refl | false ↦ place_is_size_before rest l ]

-- ---- the words of a draft in memory

abbrev pub address_at : Laid → ℕ → ℕ
address_at d n = (d.base + 4 * n) % 2 ^ 64

-- the words of some entries, the first of which has number n, stand at their places
abbrev pub Stands : Laid → Memory → ℕ → List DraftEntry → Type 0
Stands d m n [] = Unit {0}
Stands d m n (Put i ∷ rest) = (fetched m (address_at d n) ≡ Some (spell i)) × IsListed i × (is_plain i ≡ true) × Stands d m (suc n) rest
Stands d m n (Branch k l ∷ rest) = (fetched m (address_at d n) ≡ Some (spells row (branch_of k n (place_of d.entries l)))) × IsInstruction row a64_names (branch_of k n (place_of d.entries l)) × Stands d m (suc n) rest
Stands d m n (Place l ∷ rest) = Stands d m n rest

address_below_2_64 : (d : Laid) (n : ℕ) → address_at d n < 2 ^ 64
address_below_2_64 d n = omega arith

stands_keep : (d : Laid) (m w : Memory) (n : ℕ) (rest : List DraftEntry) → ((a : ℕ) → a < 2 ^ 64 → fetched w a ≡ fetched m a) → Stands d m n rest → Stands d w n rest
stands_keep d m w n [] f h = tt
stands_keep d m w n (Put i ∷ rest) f h = (f _ (address_below_2_64 d n) ∙ h.0, h.1, h.2, stands_keep d m w (suc n) rest f h.3)
stands_keep d m w n (Branch k l ∷ rest) f h = (f _ (address_below_2_64 d n) ∙ h.0, h.1, stands_keep d m w (suc n) rest f h.2)
stands_keep d m w n (Place l ∷ rest) f h = stands_keep d m w n rest f h

stands_at : (d : Laid) (m : Memory) (n : ℕ) (pre rest : List DraftEntry) → Stands d m n (pre ++ rest) → Stands d m (n + size pre) rest
stands_at d m n [] rest h = let e : n ≡ n + 0 = omega arith in subst (λ k. Stands d m k rest) e h
stands_at d m n (Put i ∷ pre) rest h = let e : suc n + size pre ≡ n + suc (size pre) = omega arith in subst (λ k. Stands d m k rest) e (stands_at d m (suc n) pre rest h.3)
stands_at d m n (Branch k l ∷ pre) rest h = let e : suc n + size pre ≡ n + suc (size pre) = omega arith in subst (λ k. Stands d m k rest) e (stands_at d m (suc n) pre rest h.2)
stands_at d m n (Place l ∷ pre) rest h = stands_at d m n pre rest h

-- ---- from an entry to the next

onward : (d : Laid) (x : DraftEntry) (pre rest : List DraftEntry) → d.entries ≡ pre ++ x ∷ rest → d.entries ≡ (pre ++ x ∷ []) ++ rest
onward d x pre rest e = e ∙ sym (append_assoc pre (x ∷ []) rest)

stands_at_rest : (d : Laid) (pre rest : List DraftEntry) (s : State) → d.entries ≡ pre ++ rest → Stands d s.memory 0 d.entries → Stands d s.memory (size pre) rest
stands_at_rest d pre rest s e h = let z : 0 + size pre ≡ size pre = omega arith in subst (λ k. Stands d s.memory k rest) z (stands_at d s.memory 0 pre rest (subst (λ es. Stands d s.memory 0 es) e h))

next_place : (d : Laid) (pc k : ℕ) → pc ≡ address_at d k → (pc + 4) % 2 ^ 64 ≡ address_at d (k + 1)
next_place d pc k e = omega (arith, e)

-- an instruction that is no branch goes on to the next word, and the code stays
record Passes (s t : State) : Type 0 where
  pub pc : t.pc ≡ (s.pc + 4) % 2 ^ 64
  pub code : (a : ℕ) → a < 2 ^ 64 → fetched t.memory a ≡ fetched s.memory a

plain_step_passes : (i : Listed) (s t : State) → is_plain i ≡ true → does i s ≡ Went t → Passes s t
plain_step_passes (Scalar i) s t plain e =
    let k = scalar_leaves i.name i.numbers s t e in
    record { pc = straight (is_branch i.name) plain k.pc; code = k.code }
  where
    straight : (b : Bool) → not b ≡ true → SameUnless b ((s.pc + 4) % 2 ^ 64) t.pc → t.pc ≡ (s.pc + 4) % 2 ^ 64
    straight false h same = same
    straight true h same = absurd cc
plain_step_passes (Vector v) s t plain e =
    let k = went_leaves v.name (field_of v.name v.numbers) s t e in
    record { pc = k.pc; code = k.code }

-- ---- the runs

branch_does : (d : Laid) (k : Kind) (from to : ℕ) (s : State) → from ≤ 65536 → to ≤ 65536 → s.pc ≡ address_at d from → does (Scalar (branch_of k from to)) s ≡ Went (if is_taken k s then jump s (address_at d to) else next s)
branch_does d Always from to s hf ht e = ap (λ p. Went (jump s p)) (target_26 d.base from to s.pc hf ht e)
branch_does d (If c) from to s hf ht e = ap (λ p. Went (if holds c s.flags then jump s p else next s)) (target_19 d.base from to s.pc hf ht e)
branch_does d (Zero r) from to s hf ht e = ap (λ p. Went (if nat_eq (x_at s r) 0 then jump s p else next s)) (target_19 d.base from to s.pc hf ht e)
branch_does d (NotZero r) from to s hf ht e = ap (λ p. Went (if not (nat_eq (x_at s r) 0) then jump s p else next s)) (target_19 d.base from to s.pc hf ht e)

-- for n words, from any place
abbrev Same : Laid → ℕ → Type 0
Same d n = (taken : ℕ) (pre rest : List DraftEntry) (s : State) → d.entries ≡ pre ++ rest → s.pc ≡ address_at d (size pre) → Stands d s.memory 0 d.entries → run n taken s ≡ draft_run d n taken rest s

module _ (d : Laid) (few : size d.entries ≤ 65536) (n : ℕ) (ih : Same d n) where
  laid_step_went_on : (i : Listed) (o : Step) (taken : ℕ) (pre rest : List DraftEntry) (s : State) → does i s ≡ o → is_plain i ≡ true → d.entries ≡ pre ++ Put i ∷ rest → s.pc ≡ address_at d (size pre) → Stands d s.memory 0 d.entries → go_on o s taken (run n taken) ≡ go_on o s taken (draft_run d n taken rest)
  laid_step_went_on i (Went t) taken pre rest s is plain e p h =
      let k = plain_step_passes i s t plain is in
      let z : size (pre ++ Put i ∷ []) ≡ size pre + 1 = size-append pre (Put i ∷ []) in
      ih taken (pre ++ Put i ∷ []) rest t (onward d (Put i) pre rest e) (k.pc ∙ next_place d s.pc (size pre) p ∙ ap (address_at d) (sym z)) (stands_keep d s.memory t.memory 0 d.entries k.code h)
  laid_step_went_on i (Ended r) taken pre rest s is plain e p h = refl
  laid_step_went_on i (Stopped kind pc at m) taken pre rest s is plain e p h = refl

  branched : (c : Bool) (k : Kind) (l taken : ℕ) (pre rest : List DraftEntry) (s : State) → d.entries ≡ pre ++ Branch k l ∷ rest → s.pc ≡ address_at d (size pre) → Stands d s.memory 0 d.entries → run n taken (if c then jump s (address_of d l) else next s) ≡ (if c then draft_run d n taken (following d l) (jump s (address_of d l)) else draft_run d n taken rest (next s))
  branched true k l taken pre rest s e p h = ih taken (before d.entries l) (following d l) (jump s (address_of d l)) (entries_around_label d.entries l) (ap (address_at d) (place_is_size_before d.entries l)) h
  branched false k l taken pre rest s e p h =
      let z : size (pre ++ Branch k l ∷ []) ≡ size pre + 1 = size-append pre (Branch k l ∷ []) in
      ih taken (pre ++ Branch k l ∷ []) rest (next s) (onward d (Branch k l) pre rest e) (next_place d s.pc (size pre) p ∙ ap (address_at d) (sym z)) h

  same_walk : (rest pre : List DraftEntry) (taken : ℕ) (s : State) → d.entries ≡ pre ++ rest → s.pc ≡ address_at d (size pre) → Stands d s.memory 0 d.entries → run (suc n) taken s ≡ walk d (draft_run d n (taken + 1)) (run (suc n) taken) (taken + 1) rest s
  same_walk [] pre taken s e p h = refl
  same_walk (Put i ∷ rest) pre taken s e p h =
      let at = stands_at_rest d pre _ s e h in
      ap (λ o. go_on o s (taken + 1) (run n (taken + 1))) (step_does s i at.1 (ap (fetched s.memory) p ∙ at.0))
      ∙ laid_step_went_on i (does i s) (taken + 1) pre rest s refl at.2 e p h
  same_walk (Branch k l ∷ rest) pre taken s e p h =
      let at = stands_at_rest d pre _ s e h in
      let z = ap size e ∙ size-append pre (Branch k l ∷ rest) in
      let to = place_within d.entries l in
      ap (λ o. go_on o s (taken + 1) (run n (taken + 1))) (step_does s (Scalar (branch_of k (size pre) (place_of d.entries l))) at.1 (ap (fetched s.memory) p ∙ at.0) ∙ branch_does d k (size pre) (place_of d.entries l) s (omega (arith, few, z)) (omega (arith, few, to)) p)
      ∙ branched (is_taken k s) k l (taken + 1) pre rest s e p h
  same_walk (Place l ∷ rest) pre taken s e p h =
      let z : size (pre ++ Place l ∷ []) ≡ size pre = size-append pre (Place l ∷ []) ∙ omega arith in
      same_walk rest (pre ++ Place l ∷ []) taken s (onward d (Place l) pre rest e) (p ∙ ap (address_at d) (sym z)) h

pub same : (d : Laid) → size d.entries ≤ 65536 → (n : ℕ) → Same d n
same d few zero taken pre rest s e p h = refl
same d few (suc n) taken pre rest s e p h = same_walk d few n (same d few n) rest pre taken s e p h

-- where the words stand, from the first of them on, the machine's run is the draft's
pub same_run : (d : Laid) → size d.entries ≤ 65536 → (s : State) → s.pc ≡ d.base % 2 ^ 64 → Stands d s.memory 0 d.entries → (n taken : ℕ) → run n taken s ≡ draft_run d n taken d.entries s
same_run d few s p h n taken = same d few n taken [] d.entries s refl (p ∙ (let e : d.base % 2 ^ 64 ≡ (d.base + 4 * 0) % 2 ^ 64 = omega arith in e)) h

-- ---- from the words that stand in memory

pub branch_listed : (k : Kind) (from to : ℕ) → IsBranch k → IsInstruction row a64_names (branch_of k from to)
branch_listed Always from to h = is_instruction _ (omega arith, tt) refl
branch_listed (If c) from to h = is_instruction _ (omega (arith, ltb-true c 15 h.1), (omega arith, tt)) h.1
branch_listed (Zero r) from to h = is_instruction _ (omega (arith, ltb-true r 32 h.0), (omega arith, tt)) refl
branch_listed (NotZero r) from to h = is_instruction _ (omega (arith, ltb-true r 32 h.0), (omega arith, tt)) refl

-- some words from number n on
abbrev From : Laid → Memory → ℕ → List ℕ → Type 0
From d m n words = (k w : ℕ) → slice_get words k ≡ Some w → fetched m (address_at d (n + k)) ≡ Some w

from_next : (d : Laid) (m : Memory) (n v : ℕ) (words : List ℕ) → From d m n (v ∷ words) → From d m (suc n) words
from_next d m n v words f k w e = let j : n + suc k ≡ suc n + k = omega arith in ap (λ i. fetched m (address_at d i)) (sym j) ∙ f (suc k) w e

from_here : (d : Laid) (m : Memory) (n v : ℕ) (words : List ℕ) → From d m n (v ∷ words) → fetched m (address_at d n) ≡ Some v
from_here d m n v words f = let j : n ≡ n + 0 = omega arith in ap (λ i. fetched m (address_at d i)) j ∙ f 0 v refl

stands_from : (d : Laid) (m : Memory) (labels n : ℕ) (rest : List DraftEntry) → AreFit labels rest → From d m n (words_from d.entries n rest) → Stands d m n rest
stands_from d m labels n [] h f = tt
stands_from d m labels n (Put i ∷ rest) h f = (from_here d m n _ _ f, h.0.0, h.0.1, stands_from d m labels (suc n) rest h.1 (from_next d m n _ _ f))
stands_from d m labels n (Branch k l ∷ rest) h f = (from_here d m n _ _ f, branch_listed k n (place_of d.entries l) h.0, stands_from d m labels (suc n) rest h.2 (from_next d m n _ _ f))
stands_from d m labels n (Place l ∷ rest) h f = stands_from d m labels n rest h.1 f

-- wherever the words of fit entries stand, the machine's run from the first of them on is the draft's
pub runs_as_draft : RunsAsDraft
unfolding words_of
runs_as_draft d labels s fit few at p steps taken = same_run d few s p (stands_from d s.memory labels 0 d.entries fit (λ k w e. let z : 0 + k ≡ k = omega arith in ap (λ i. fetched s.memory (address_at d i)) z ∙ at k w e)) steps taken

length_from : (whole rest : List DraftEntry) (n : ℕ) → length (words_from whole n rest) ≡ size rest
length_from whole [] n = refl
length_from whole (Put i ∷ rest) n = ap suc (length_from whole rest (suc n))
length_from whole (Branch k l ∷ rest) n = ap suc (length_from whole rest (suc n))
length_from whole (Place l ∷ rest) n = length_from whole rest n

pub words_length : (entries : List DraftEntry) → length (words_of entries) ≡ size entries
unfolding words_of
words_length entries = length_from entries entries 0

-- ---- the free elements that are suppressed

abbrev counted_by : Step → Bool → ℕ → ℕ
counted_by o cut n = elim o [ Went t ↦ cond cut 1 0 + suppressed n t | Ended result ↦ 0 | Stopped kind pc at memory ↦ 0 ]

-- for n words, from any place
abbrev Fewer : Laid → ℕ → Type 0
Fewer d n = (pre rest : List DraftEntry) (s : State) → d.entries ≡ pre ++ rest → s.pc ≡ address_at d (size pre) → Stands d s.memory 0 d.entries → cuts d n rest s ≤ suppressed n s

step_counts : (s : State) (i : Listed) (n : ℕ) → IsListed i → fetched s.memory s.pc ≡ Some (spell i) → suppressed (suc n) s ≡ counted_by (does i s) (cuts_in i s) n
step_counts s i n h at = ap (λ o. counted_by o (suppresses s) n) (step_does s i h at) ∙ ap (λ cut. counted_by (does i s) cut n) (step_cuts s i h at)

module _ (d : Laid) (few : size d.entries ≤ 65536) (n : ℕ) (ih : Fewer d n) where
  fewer_on : (i : Listed) (o : Step) (cut : Bool) (pre rest : List DraftEntry) (s : State) → does i s ≡ o → is_plain i ≡ true → d.entries ≡ pre ++ Put i ∷ rest → s.pc ≡ address_at d (size pre) → Stands d s.memory 0 d.entries → count_on o cut (cuts d n rest) ≤ counted_by o cut n
  fewer_on i (Went t) cut pre rest s is plain e p h =
      let k = plain_step_passes i s t plain is in
      let z : size (pre ++ Put i ∷ []) ≡ size pre + 1 = size-append pre (Put i ∷ []) in
      let r = ih (pre ++ Put i ∷ []) rest t (onward d (Put i) pre rest e) (k.pc ∙ next_place d s.pc (size pre) p ∙ ap (address_at d) (sym z)) (stands_keep d s.memory t.memory 0 d.entries k.code h) in
      omega (arith, r)
  fewer_on i (Ended r) cut pre rest s is plain e p h = omega arith
  fewer_on i (Stopped kind pc at m) cut pre rest s is plain e p h = omega arith

  fewer_branch : (c : Bool) (k : Kind) (l : ℕ) (pre rest : List DraftEntry) (s : State) → d.entries ≡ pre ++ Branch k l ∷ rest → s.pc ≡ address_at d (size pre) → Stands d s.memory 0 d.entries → (if c then cuts d n (following d l) (jump s (address_of d l)) else cuts d n rest (next s)) ≤ suppressed n (if c then jump s (address_of d l) else next s)
  fewer_branch true k l pre rest s e p h = ih (before d.entries l) (following d l) (jump s (address_of d l)) (entries_around_label d.entries l) (ap (address_at d) (place_is_size_before d.entries l)) h
  fewer_branch false k l pre rest s e p h =
      let z : size (pre ++ Branch k l ∷ []) ≡ size pre + 1 = size-append pre (Branch k l ∷ []) in
      ih (pre ++ Branch k l ∷ []) rest (next s) (onward d (Branch k l) pre rest e) (next_place d s.pc (size pre) p ∙ ap (address_at d) (sym z)) h

  fewer_walk : (rest pre : List DraftEntry) (s : State) → d.entries ≡ pre ++ rest → s.pc ≡ address_at d (size pre) → Stands d s.memory 0 d.entries → walk_cuts d (cuts d n) rest s ≤ suppressed (suc n) s
  fewer_walk [] pre s e p h = omega arith
  fewer_walk (Put i ∷ rest) pre s e p h =
      let at = stands_at_rest d pre _ s e h in
      let is = step_counts s i n at.1 (ap (fetched s.memory) p ∙ at.0) in
      let le = fewer_on i (does i s) (cuts_in i s) pre rest s refl at.2 e p h in
      subst (λ m. count_on (does i s) (cuts_in i s) (cuts d n rest) ≤ m) (sym is) le
  fewer_walk (Branch k l ∷ rest) pre s e p h =
      let at = stands_at_rest d pre _ s e h in
      let z = ap size e ∙ size-append pre (Branch k l ∷ rest) in
      let to = place_within d.entries l in
      let i = branch_of k (size pre) (place_of d.entries l) in
      let is = step_counts s (Scalar i) n at.1 (ap (fetched s.memory) p ∙ at.0) ∙ ap (λ o. counted_by o false n) (branch_does d k (size pre) (place_of d.entries l) s (omega (arith, few, z)) (omega (arith, few, to)) p) in
      let le = fewer_branch (is_taken k s) k l pre rest s e p h in
      subst (λ m. walk_cuts d (cuts d n) (Branch k l ∷ rest) s ≤ m) (sym is) (omega (arith, le))
  fewer_walk (Place l ∷ rest) pre s e p h =
      let z : size (pre ++ Place l ∷ []) ≡ size pre = size-append pre (Place l ∷ []) ∙ omega arith in
      fewer_walk rest (pre ++ Place l ∷ []) s (onward d (Place l) pre rest e) (p ∙ ap (address_at d) (sym z)) h

fewer : (d : Laid) → size d.entries ≤ 65536 → (n : ℕ) → Fewer d n
fewer d few zero pre rest s e p h = omega arith
fewer d few (suc n) pre rest s e p h = fewer_walk d few n (fewer d few n) rest pre s e p h

-- the free elements that the draft suppresses are among those that the machine does
pub cuts_are_suppressed : CutsAreSuppressed
unfolding words_of
cuts_are_suppressed d labels s fit few at p steps =
    fewer d few steps [] d.entries s refl (p ∙ (let e : d.base % 2 ^ 64 ≡ (d.base + 4 * 0) % 2 ^ 64 = omega arith in e))
    (stands_from d s.memory labels 0 d.entries fit (λ k w e. let z : 0 + k ≡ k = omega arith in ap (λ i. fetched s.memory (address_at d i)) z ∙ at k w e))
