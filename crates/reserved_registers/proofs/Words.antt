-- The words of entries that leave the reserved registers alone do, and as many of them are exit calls.
use Rattle.std.proofs.Common.{◌≡◌, ℕ, zero, suc, Bool, true, false, List, [], ◌∷◌, Option, Some, None, refl, sym, ap, ◌∙◌}
use Rattle.std.specs.Prelude.{All, cond, replicate}
use Rattle.std.specs.List.{filter}
use Rattle.std.proofs.lemmas.List.Elements.{All-nil, All-cons}
use Rattle.machine_model.specs.CodeInMemory.{spell, IsListed}
use Rattle.machine_model.specs.InstructionTable.{Listed, Scalar}
use Rattle.machine_model.proofs.ListedWords.{listed_spell}
use Rattle.label_fix.specs.DraftRun.{Kind, Always, If, Zero, NotZero, DraftEntry, Put, Branch, Place, place_of}
use Rattle.label_fix.specs.Finished.{branch_of, AreFit, words_from, words_of}
use Rattle.label_fix.proofs.PlacedRuns.{branch_listed}
use Rattle.promises.specs.OneExit.{exit_call, exit_word, calls_system, is_system_call, HasOneExit}
use Rattle.promises.specs.Reserved.{leaves_reserved, LeavesReserved}
use Rattle.reserved_registers.specs.Alone.{Behind, AreAlone}
use Rattle.reserved_registers.proofs.Entries.{after_put}

-- ---- registers

word_leaves : (i : Listed) → IsListed i → leaves_reserved i ≡ true → LeavesReserved (spell i)
word_leaves i h l = record { instruction = i; is = listed_spell i h; leaves = l }

branch_leaves : (k : Kind) (from to : ℕ) → leaves_reserved (Scalar (branch_of k from to)) ≡ true
branch_leaves Always from to = refl
branch_leaves other from to = refl

words_from_leave : (whole : List DraftEntry) (labels exits n : ℕ) (es : List DraftEntry) → AreFit labels es → AreAlone exits es → All LeavesReserved (words_from whole n es)
words_from_leave whole labels exits n [] fit alone = All-nil LeavesReserved
words_from_leave whole labels exits n (Put i ∷ rest) fit alone =
    let behind = after_put exits i rest alone in
    All-cons LeavesReserved _ _ (word_leaves i fit.0.0 alone.0) (words_from_leave whole labels behind.0 (suc n) rest fit.1 behind.1)
words_from_leave whole labels exits n (Branch k l ∷ rest) fit alone =
    let to = place_of whole l in
    All-cons LeavesReserved _ _ (word_leaves (Scalar (branch_of k n to)) (branch_listed k n to fit.0) (branch_leaves k n to)) (words_from_leave whole labels exits (suc n) rest fit.2 alone)
words_from_leave whole labels exits n (Place l ∷ rest) fit alone = words_from_leave whole labels exits n rest fit.1 alone

pub words_leave : (labels exits : ℕ) (entries : List DraftEntry) → AreFit labels entries → AreAlone exits entries → All LeavesReserved (words_of entries)
unfolding words_of
words_leave labels exits entries fit alone = words_from_leave entries labels exits 0 entries fit alone

-- ---- exit calls

-- a word is an SVC where its instruction is one
word_calls : (i : Listed) → IsListed i → is_system_call (spell i) ≡ calls_system i
word_calls i h = ap (λ o. elim o as (λ o. Bool) [ None ↦ false | Some j ↦ calls_system j ]) (listed_spell i h)

branch_calls : (k : Kind) (from to : ℕ) → calls_system (Scalar (branch_of k from to)) ≡ false
branch_calls Always from to = refl
branch_calls other from to = refl

abbrev exits_in : List ℕ → List ℕ
exits_in words = filter is_system_call words

passed : (w : ℕ) (ws found : List ℕ) (b : Bool) → is_system_call w ≡ b → b ≡ false → exits_in ws ≡ found → exits_in (w ∷ ws) ≡ found
passed w ws found b e f h = ap (λ c. cond c (w ∷ exits_in ws) (exits_in ws)) (e ∙ f) ∙ h

exit_found : (w : ℕ) (ws found : List ℕ) → is_system_call w ≡ true → w ≡ exit_word → exits_in ws ≡ found → exits_in (w ∷ ws) ≡ exit_word ∷ found
exit_found w ws found e is h = ap (λ c. cond c (w ∷ exits_in ws) (exits_in ws)) e ∙ ap (λ v. v ∷ exits_in ws) is ∙ ap (λ vs. exit_word ∷ vs) h

put_exits : (i : Listed) (exits : ℕ) (rest : List DraftEntry) (ws : List ℕ) (b : Bool) → calls_system i ≡ b → is_system_call (spell i) ≡ b → Behind b i exits (λ n. AreAlone n rest) → ((n : ℕ) → AreAlone n rest → exits_in ws ≡ replicate n exit_word) → exits_in (spell i ∷ ws) ≡ replicate exits exit_word
put_exits i exits rest ws false e calls h more = passed (spell i) ws (replicate exits exit_word) false calls refl (more exits h)
put_exits i zero rest ws true e calls h more = absurd h
put_exits i (suc n) rest ws true e calls h more = exit_found (spell i) ws (replicate n exit_word) calls (ap spell h.0) (more n h.1)

words_from_exit : (whole : List DraftEntry) (labels exits n : ℕ) (es : List DraftEntry) → AreFit labels es → AreAlone exits es → exits_in (words_from whole n es) ≡ replicate exits exit_word
words_from_exit whole labels exits n [] fit alone = ap (λ k. replicate k exit_word) (sym alone)
words_from_exit whole labels exits n (Put i ∷ rest) fit alone =
    put_exits i exits rest (words_from whole (suc n) rest) (calls_system i) refl (word_calls i fit.0.0) alone.1 (λ k more. words_from_exit whole labels k (suc n) rest fit.1 more)
words_from_exit whole labels exits n (Branch k l ∷ rest) fit alone =
    let to = place_of whole l in
    passed (spell (Scalar (branch_of k n to))) (words_from whole (suc n) rest) (replicate exits exit_word) (calls_system (Scalar (branch_of k n to))) (word_calls (Scalar (branch_of k n to)) (branch_listed k n to fit.0)) (branch_calls k n to) (words_from_exit whole labels exits (suc n) rest fit.2 alone)
words_from_exit whole labels exits n (Place l ∷ rest) fit alone = words_from_exit whole labels exits n rest fit.1 alone

pub words_exit : (labels : ℕ) (entries : List DraftEntry) → AreFit labels entries → AreAlone 1 entries → HasOneExit (words_of entries)
unfolding words_of
words_exit labels entries fit alone = words_from_exit entries labels 1 0 entries fit alone
