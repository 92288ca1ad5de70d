-- Places in a draft, and what a word that goes on leaves.
use Rattle.std.proofs.Common.{◌≡◌, ℕ, suc, ◌+◌, ◌-◌, ◌*◌, ◌%◌, ◌^◌, ◌<◌, ◌≤◌, Bool, true, false, List, [], ◌∷◌, ◌++◌, refl, sym, ap, ◌∙◌, arith, append_assoc, ⊎_elim}
use Rattle.std.specs.Prelude.{nat_eq, nat_lt, not, if◌then◌else◌}
use Rattle.std.proofs.lemmas.Bool.{cases_lt, lt-ltb, le-ltb, cond-true, cond-false}
use Rattle.guest_types.specs.Memory.{fetched}
use Rattle.machine_model.specs.Arithmetic.{holds, target}
use Rattle.machine_model.specs.Frames.{SameUnless, is_branch}
use Rattle.machine_model.specs.InstructionTable.{Listed, Scalar, Vector}
use Rattle.machine_model.specs.Machine.{State, Went, x_at, jump, next}
use Rattle.machine_model.specs.OneStep.{does}
use Rattle.machine_model.specs.VectorEffects.{field_of}
use Rattle.machine_model.proofs.Frames.{went_leaves}
use Rattle.machine_model.proofs.ScalarFrames.{scalar_leaves}
use Rattle.label_fix.specs.DraftRun.{Kind, Always, If, Zero, NotZero, DraftEntry, Put, Branch, Place, Laid, is_taken, after_label, place_of}
use Rattle.label_fix.specs.Finished.{size, offset, branch_of, is_plain}
use Rattle.label_fix.proofs.PlacedRuns.{size-append, address_at}

target_19 : (base from to pc : ℕ) → from ≤ 65536 → to ≤ 65536 → pc ≡ (base + 4 * from) % 2 ^ 64 → target pc 19 (offset 19 from to) ≡ (base + 4 * to) % 2 ^ 64
target_19 base from to pc hf ht e =
    ⊎_elim
    (λ (lt : to < from). let o : (to + 2 ^ 19 - from) % 2 ^ 19 ≡ 2 ^ 19 - (from - to) = omega arith in
    let t : nat_lt ((to + 2 ^ 19 - from) % 2 ^ 19) (2 ^ 18) ≡ false = le-ltb _ _ (omega (arith, o)) in
    cond-false _ _ _ t ∙ omega (arith, o, e))
    (λ (ge : from ≤ to). let o : (to + 2 ^ 19 - from) % 2 ^ 19 ≡ to - from = omega arith in
    let t : nat_lt ((to + 2 ^ 19 - from) % 2 ^ 19) (2 ^ 18) ≡ true = lt-ltb _ _ (omega (arith, o)) in
    cond-true _ _ _ t ∙ omega (arith, o, e))
    (cases_lt to from)

target_26 : (base from to pc : ℕ) → from ≤ 65536 → to ≤ 65536 → pc ≡ (base + 4 * from) % 2 ^ 64 → target pc 26 (offset 26 from to) ≡ (base + 4 * to) % 2 ^ 64
target_26 base from to pc hf ht e =
    ⊎_elim
    (λ (lt : to < from). let o : (to + 2 ^ 26 - from) % 2 ^ 26 ≡ 2 ^ 26 - (from - to) = omega arith in
    let t : nat_lt ((to + 2 ^ 26 - from) % 2 ^ 26) (2 ^ 25) ≡ false = le-ltb _ _ (omega (arith, o)) in
    cond-false _ _ _ t ∙ omega (arith, o, e))
    (λ (ge : from ≤ to). let o : (to + 2 ^ 26 - from) % 2 ^ 26 ≡ to - from = omega arith in
    let t : nat_lt ((to + 2 ^ 26 - from) % 2 ^ 26) (2 ^ 25) ≡ true = lt-ltb _ _ (omega (arith, o)) in
    cond-true _ _ _ t ∙ omega (arith, o, e))
    (cases_lt to from)

pub branch_does : (d : Laid) (k : Kind) (from to : ℕ) (s : State) → from ≤ 65536 → to ≤ 65536 → s.pc ≡ address_at d from → does (Scalar (branch_of k from to)) s ≡ Went (if is_taken k s then jump s (address_at d to) else next s)
branch_does d Always from to s hf ht e = ap (λ p. Went (jump s p)) (target_26 d.base from to s.pc hf ht e)
branch_does d (If c) from to s hf ht e = ap (λ p. Went (if holds c s.flags then jump s p else next s)) (target_19 d.base from to s.pc hf ht e)
branch_does d (Zero r) from to s hf ht e = ap (λ p. Went (if nat_eq (x_at s r) 0 then jump s p else next s)) (target_19 d.base from to s.pc hf ht e)
branch_does d (NotZero r) from to s hf ht e = ap (λ p. Went (if not (nat_eq (x_at s r) 0) then jump s p else next s)) (target_19 d.base from to s.pc hf ht e)

-- forward by so many words
pub target_forward : (base from by pc : ℕ) → by ≤ 65538 → pc ≡ (base + 4 * from) % 2 ^ 64 → target pc 26 by ≡ (base + 4 * (from + by)) % 2 ^ 64
target_forward base from by pc few e = cond-true _ _ _ (lt-ltb by (2 ^ 25) (omega (arith, few))) ∙ omega (arith, e)

-- the entries up to the place of a label
abbrev pub before : List DraftEntry → ℕ → List DraftEntry
before [] l = []
before (Put i ∷ rest) l = Put i ∷ before rest l
before (Branch k m ∷ rest) l = Branch k m ∷ before rest l
before (Place m ∷ rest) l = Place m ∷ (if nat_eq m l then [] else before rest l)

pub parts : (es : List DraftEntry) (l : ℕ) → es ≡ before es l ++ after_label es l
parts [] l = refl
parts (Put i ∷ rest) l = ap (λ es. Put i ∷ es) (parts rest l)
parts (Branch k m ∷ rest) l = ap (λ es. Branch k m ∷ es) (parts rest l)
parts (Place m ∷ rest) l =
    elim (nat_eq m l) as (λ c. Place m ∷ rest ≡ (Place m ∷ (if c then [] else before rest l)) ++ (if c then rest else after_label rest l)) [ true ↦ refl | false ↦ ap (λ es. Place m ∷ es) (parts rest l) ]

pub placed : (es : List DraftEntry) (l : ℕ) → place_of es l ≡ size (before es l)
placed [] l = refl
placed (Put i ∷ rest) l = ap suc (placed rest l)
placed (Branch k m ∷ rest) l = ap suc (placed rest l)
placed (Place m ∷ rest) l =
    elim (nat_eq m l) as (λ c. (if c then 0 else place_of rest l) ≡ size (if c then [] else before rest l)) [ true ↦ refl | false ↦ placed rest l ]

pub onward : (d : Laid) (x : DraftEntry) (pre rest : List DraftEntry) → d.entries ≡ pre ++ x ∷ rest → d.entries ≡ (pre ++ x ∷ []) ++ rest
onward d x pre rest e = e ∙ sym (append_assoc pre (x ∷ []) rest)

pub next_place : (d : Laid) (pc k : ℕ) → pc ≡ address_at d k → (pc + 4) % 2 ^ 64 ≡ address_at d (k + 1)
next_place d pc k e = omega (arith, e)

-- an instruction that is no branch goes on to the next word, and the code stays
pub record Passes (s t : State) : Type 0 where
  pub pc : t.pc ≡ (s.pc + 4) % 2 ^ 64
  pub code : (a : ℕ) → a < 2 ^ 64 → fetched t.memory a ≡ fetched s.memory a

pub passes : (i : Listed) (s t : State) → is_plain i ≡ true → does i s ≡ Went t → Passes s t
passes (Scalar i) s t plain e =
    let k = scalar_leaves i.name i.numbers s t e in
    record { pc = straight (is_branch i.name) plain k.pc; code = k.code }
  where
    straight : (b : Bool) → not b ≡ true → SameUnless b ((s.pc + 4) % 2 ^ 64) t.pc → t.pc ≡ (s.pc + 4) % 2 ^ 64
    straight false h same = same
    straight true h same = absurd cc
passes (Vector v) s t plain e =
    let k = went_leaves v.name (field_of v.name v.numbers) s t e in
    record { pc = k.pc; code = k.code }
