-- Where each label of a draft is placed once, it leads to what follows its place.
use Rattle.std.proofs.Common.{◌≡◌, ◌≢◌, ℕ, List, [], ◌∷◌, ◌++◌, true, false, sym, ap, ◌∙◌, subst, arith, append_assoc}
use Rattle.std.proofs.lemmas.Bool.Decides.{nat_tests}
use Rattle.std.specs.Prelude.{nat_eq, if◌then◌else◌}
use Rattle.label_fix.specs.DraftRun.{DraftEntry, Put, Branch, Place, Laid, after_label}
use Rattle.label_fix.proofs.StretchSteps.{Resolves}

abbrev pub Unplaced : ℕ → List DraftEntry → Type 0
Unplaced l [] = Unit {0}
Unplaced l (Put i ∷ rest) = Unplaced l rest
Unplaced l (Branch k m ∷ rest) = Unplaced l rest
Unplaced l (Place m ∷ rest) = (m ≢ l) × Unplaced l rest

abbrev pub Once : List DraftEntry → Type 0
Once [] = Unit {0}
Once (Put i ∷ rest) = Once rest
Once (Branch k m ∷ rest) = Once rest
Once (Place m ∷ rest) = Unplaced m rest × Once rest

unplaced_at : (k l : ℕ) (pre rest : List DraftEntry) → Unplaced k (pre ++ Place l ∷ rest) → l ≢ k
unplaced_at k l [] rest h = h.0
unplaced_at k l (Put i ∷ pre) rest h = unplaced_at k l pre rest h
unplaced_at k l (Branch c j ∷ pre) rest h = unplaced_at k l pre rest h
unplaced_at k l (Place j ∷ pre) rest h = unplaced_at k l pre rest h.1

after_here : (l : ℕ) (rest : List DraftEntry) → after_label (Place l ∷ rest) l ≡ rest
after_here l rest = let t : nat_eq l l ≡ true = grind (arith, nat_tests) in ap (λ b. if b then rest else after_label rest l) t

after_on : (k l : ℕ) (rest : List DraftEntry) → l ≢ k → after_label (Place k ∷ rest) l ≡ after_label rest l
after_on k l rest ne = let t : nat_eq k l ≡ false = grind (arith, nat_tests) in ap (λ b. if b then rest else after_label rest l) t

after_pre : (pre rest : List DraftEntry) (l : ℕ) → Once (pre ++ Place l ∷ rest) → after_label (pre ++ Place l ∷ rest) l ≡ rest
after_pre [] rest l h = after_here l rest
after_pre (Put i ∷ pre) rest l h = after_pre pre rest l h
after_pre (Branch c k ∷ pre) rest l h = after_pre pre rest l h
after_pre (Place k ∷ pre) rest l h = after_on k l (pre ++ Place l ∷ rest) (unplaced_at k l pre rest h.0) ∙ after_pre pre rest l h.1

-- a part of the entries after others
pub resolves_in : (d : Laid) (c pre : List DraftEntry) → d.entries ≡ pre ++ c → Once d.entries → Resolves d c
resolves_in d [] pre e h = tt
resolves_in d (Put i ∷ rest) pre e h = resolves_in d rest (pre ++ Put i ∷ []) (e ∙ sym (append_assoc pre (Put i ∷ []) rest)) h
resolves_in d (Branch k l ∷ rest) pre e h = resolves_in d rest (pre ++ Branch k l ∷ []) (e ∙ sym (append_assoc pre (Branch k l ∷ []) rest)) h
resolves_in d (Place l ∷ rest) pre e h =
    (ap (λ es. after_label es l) e ∙ after_pre pre rest l (subst Once e h), resolves_in d rest (pre ++ Place l ∷ []) (e ∙ sym (append_assoc pre (Place l ∷ []) rest)) h)
