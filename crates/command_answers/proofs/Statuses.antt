-- Statuses, and what is told with them.
use mathlib.Core.Logic.{⊎_elim}
use Rattle.std.proofs.Common.{◌≡◌, ℕ, List, [], ◌++◌, append-nil, Option, Some, None, Result, Ok, Err, inl, inr, refl, sym, ap, ◌∙◌, subst}
use Rattle.std.specs.Prelude.{IsTrue, OnOk}
use Rattle.io_edges.specs.declared.sink.Failed.{Failed}
use Rattle.io_edges.specs.Sink.{PutsText}
use Rattle.refusals.specs.declared.refusal.Refusal.{Refusal}
use Rattle.refusals.specs.declared.refusal.Refusal.TheVariants.{Usage, Memory, File, Output}
use Rattle.refusals.specs.declared.refusal.Done.{Done}
use Rattle.refusals.specs.declared.refusal.Done.TheVariants as done
use Rattle.refusals.specs.Lines.{line_of_refusal}
use Rattle.command_answers.proofs.Exits.{same_refusal}
use Rattle.command_answers.specs.Answer.{Answer, status_of, IsAnswer, IsStatus}
use Rattle.refusals.specs.Statuses.{status_of_done, status_of_refusal}
use Rattle.command_answers.specs.Outputs.{Prints, PrintsBy, is_done, error_line, error_line_by, Gains}

-- the status of an answer that is as wanted, or comes in its place
pub status_is : (x y s : ℕ) (rose : Type 0) (wanted result : Answer) → s ≡ status_of result → IsAnswer x y rose wanted result → IsStatus x y rose wanted s
status_is x y s rose wanted result is h =
    ⊎_elim
    (⊎_elim (λ e. inl (is ∙ ap status_of e)) (⊎_elim (λ e. inr (inl (is ∙ ap status_of e))) (λ p. inr (inr (inl (is ∙ ap status_of p.0, p.1))))))
    (λ p. inr (inr (inr (is ∙ ap status_of p.0, p.1, p.2))))
    h

not_done : (refusal : Refusal) → IsTrue (is_done (status_of_refusal refusal)) → ⊥
not_done Usage h = absurd cc
not_done other h = absurd cc

pub prints_by : (old new : Option (List ℕ)) (text : List ℕ) (s : ℕ) (result : Answer) → s ≡ status_of result → Prints old new text result → PrintsBy old new text s
prints_by None new text s result is h = tt
prints_by (Some bytes) new text s result is h = (λ t. all result h.0 (subst (λ n. IsTrue (is_done n)) is t), h.1)
  where
    all : (r : Answer) → OnOk r (new ≡ Some (bytes ++ text)) → IsTrue (is_done (status_of r)) → new ≡ Some (bytes ++ text)
    all (Ok how) e t = e
    all (Err refusal) e t = absurd (not_done refusal t)

-- nothing is told where the command is done
nothing_told : (own : List ℕ) (how : Done) → error_line_by own (status_of_done how) ≡ []
nothing_told own done.Ended = refl
nothing_told own other = refl

gains_nothing : (old : Option (List ℕ)) (n : ℕ) → Gains old old n n []
gains_nothing None n = tt
gains_nothing (Some bytes) n = inl (ap Some (sym (append-nil bytes)))

pub line_done : (old : Option (List ℕ)) (n s : ℕ) (own : List ℕ) (how : Done) → s ≡ status_of_done how → Gains old old n n (error_line_by own s)
line_done old n s own how is = subst (Gains old old n n) (sym (ap (error_line_by own) is ∙ nothing_told own how)) (gains_nothing old n)

-- the line of a refusal is told
own_line : (refusal : Refusal) → error_line_by (line_of_refusal refusal) (status_of_refusal refusal) ≡ line_of_refusal refusal
own_line Usage = refl
own_line other = refl

line_is : (x y : ℕ) (rose : Type 0) (refusal : Refusal) (wanted : Answer) → IsAnswer x y rose wanted (Err refusal) → error_line_by (error_line wanted) (status_of_refusal refusal) ≡ line_of_refusal refusal
line_is x y rose refusal wanted h =
    ⊎_elim
    (⊎_elim (λ e. ap (λ w. error_line_by (error_line w) (status_of_refusal refusal)) (sym e) ∙ own_line refusal)
    (⊎_elim (λ e. fixed Memory (same_refusal refusal Memory e) refl) (λ p. fixed File (same_refusal refusal File p.0) refl)))
    (λ p. fixed Output (same_refusal refusal Output p.0) refl)
    h
  where
    fixed : (other : Refusal) → refusal ≡ other → error_line_by (error_line wanted) (status_of_refusal other) ≡ line_of_refusal other → error_line_by (error_line wanted) (status_of_refusal refusal) ≡ line_of_refusal refusal
    fixed other e h = subst (λ r. error_line_by (error_line wanted) (status_of_refusal r) ≡ line_of_refusal r) (sym e) h

pub gains_line : (old new : Option (List ℕ)) (x y : ℕ) (text : List ℕ) (result : Result (Unit {0}) Failed) → PutsText old new x y text result → Gains old new x y text
gains_line None new x y text result p = tt
gains_line (Some bytes) new x y text (Ok all) p = inl p.all
gains_line (Some bytes) new x y text (Err failed) p = inr (p.part, p.cause.failed)

pub line_refused : (x y s n k : ℕ) (rose : Type 0) (old new : Option (List ℕ)) (refusal : Refusal) (wanted : Answer) (result : Result (Unit {0}) Failed) → s ≡ status_of_refusal refusal → IsAnswer x y rose wanted (Err refusal) → PutsText old new n k (line_of_refusal refusal) result → Gains old new n k (error_line_by (error_line wanted) s)
line_refused x y s n k rose old new refusal wanted result is h p =
    subst (Gains old new n k) (sym (ap (error_line_by (error_line wanted)) is ∙ line_is x y rose refusal wanted h)) (gains_line old new n k (line_of_refusal refusal) result p)
