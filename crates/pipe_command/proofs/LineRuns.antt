-- Runs of lines, one after another.
use Rattle.std.proofs.Common.{◌≡◌, ◌≢◌, ℕ, suc, ◌+◌, List, [], ◌∷◌, ◌++◌, length, refl, sym, ap, ap₂, ◌∙◌, subst, append_assoc, append-nil, arith}
use Rattle.std.specs.List.{AllByRecursion}
use Rattle.guest_types.specs.Memory.{Memory}
use Rattle.machine_model.specs.Run.{Outcome, End, Stop, Spent, memory_left}
use Rattle.refusals.specs.declared.refusal.Done.{Done}
use Rattle.refusals.specs.declared.refusal.Done.TheVariants as done
use Rattle.pipe_run.specs.PipeRun.{Line, Runs, Fits, runs_of, and_then, map_left}
use Rattle.pipe_run.proofs.Lefts.{DoNotMeet-left}
use Rattle.command_answers.specs.Works.{done_by}
use Rattle.pipe_command.specs.Pipes.{line_run, run_text, runs_text, last_done}
use Rattle.pipe_command.specs.View.{IsFitting}

-- ---- the first line, and those after it

ended_and : (outcome : Outcome) (pages : Memory) (go : Memory → Runs) → done_by outcome ≡ done.Ended → and_then outcome pages go ≡ record { outcomes = outcome ∷ (go pages).outcomes; pages = (go pages).pages }
ended_and (End memory result steps) pages go e = refl
ended_and (Stop kind pc at memory steps) pages go e = absurd cc
ended_and (Spent pc memory steps) pages go e = absurd cc

last_and : (outcome : Outcome) (pages : Memory) (go : Memory → Runs) → done_by outcome ≢ done.Ended → and_then outcome pages go ≡ record { outcomes = outcome ∷ []; pages = pages }
last_and (End memory result steps) pages go e = absurd (e refl)
last_and (Stop kind pc at memory steps) pages go e = refl
last_and (Spent pc memory steps) pages go e = refl

runs_next : (line : Line) (lines : List Line) (pages : Memory) (vl steps : ℕ) → done_by (line_run line pages vl steps) ≡ done.Ended
    → runs_of (line ∷ lines) pages vl steps ≡ record { outcomes = line_run line pages vl steps ∷ (runs_of lines (map_left (memory_left (line_run line pages vl steps)) pages) vl steps).outcomes; pages = (runs_of lines (map_left (memory_left (line_run line pages vl steps)) pages) vl steps).pages }
unfolding runs_of
runs_next line lines pages vl steps e = ended_and (line_run line pages vl steps) (map_left (memory_left (line_run line pages vl steps)) pages) (λ left. runs_of lines left vl steps) e

runs_last : (line : Line) (lines : List Line) (pages : Memory) (vl steps : ℕ) → done_by (line_run line pages vl steps) ≢ done.Ended
    → runs_of (line ∷ lines) pages vl steps ≡ record { outcomes = line_run line pages vl steps ∷ []; pages = map_left (memory_left (line_run line pages vl steps)) pages }
unfolding runs_of
runs_last line lines pages vl steps e = last_and (line_run line pages vl steps) (map_left (memory_left (line_run line pages vl steps)) pages) (λ left. runs_of lines left vl steps) e

-- after a line that ended, the others say how the last one came out
last_of_others : (outcome : Outcome) (outcomes : List Outcome) → done_by outcome ≡ done.Ended → last_done (outcome ∷ outcomes) ≡ last_done outcomes
unfolding last_done
last_of_others outcome [] e = e
last_of_others outcome (other ∷ outcomes) e = refl

-- ---- so many lines have run

-- what has come so far, and the lines that are left, over the pages as they are now, come to what all lines come to
pub record SoFar (text : List ℕ) (number : ℕ) (left : List Line) (now : Memory) (all : List Line) (first : Memory) (vl steps : ℕ) : Type 0 where
  pub told : text ++ runs_text number (runs_of left now vl steps).outcomes ≡ runs_text 1 (runs_of all first vl steps).outcomes
  pub pages : (runs_of left now vl steps).pages ≡ (runs_of all first vl steps).pages
  pub done : last_done (runs_of left now vl steps).outcomes ≡ last_done (runs_of all first vl steps).outcomes

pub line_ran : (text after : List ℕ) (number : ℕ) (line : Line) (left : List Line) (now then : Memory) (all : List Line) (first : Memory) (vl steps : ℕ) → SoFar text number (line ∷ left) now all first vl steps
    → done_by (line_run line now vl steps) ≡ done.Ended → after ≡ text ++ run_text number (line_run line now vl steps) → then ≡ map_left (memory_left (line_run line now vl steps)) now → SoFar after (number + 1) left then all first vl steps
unfolding runs_text
line_ran text after number line left now then all first vl steps so ended more is =
    let outcome = line_run line now vl steps in
    let rest = runs_of left (map_left (memory_left outcome) now) vl steps in
    let first_is = runs_next line left now vl steps ended in
    let same : runs_of left then vl steps ≡ rest = ap (λ p. runs_of left p vl steps) is in
    record {
      told =
          ap₂ (λ t (r : Runs). t ++ runs_text (number + 1) r.outcomes) more same
          ∙ append_assoc text (run_text number outcome) (runs_text (number + 1) rest.outcomes)
          ∙ sym (ap (λ (r : Runs). text ++ runs_text number r.outcomes) first_is)
          ∙ so.told;
      pages = ap (λ (r : Runs). r.pages) same ∙ sym (ap (λ (r : Runs). r.pages) first_is) ∙ so.pages;
      done =
          ap (λ (r : Runs). last_done r.outcomes) same
          ∙ sym (last_of_others outcome rest.outcomes ended)
          ∙ sym (ap (λ (r : Runs). last_done r.outcomes) first_is)
          ∙ so.done;
    }

-- what all lines come to
pub record IsAll (text : List ℕ) (how : Done) (now : Memory) (all : List Line) (first : Memory) (vl steps : ℕ) : Type 0 where
  pub told : text ≡ runs_text 1 (runs_of all first vl steps).outcomes
  pub pages : now ≡ (runs_of all first vl steps).pages
  pub done : how ≡ last_done (runs_of all first vl steps).outcomes

pub all_ran : (text : List ℕ) (number : ℕ) (left : List Line) (now : Memory) (all : List Line) (first : Memory) (vl steps : ℕ) → SoFar text number left now all first vl steps → left ≡ [] → IsAll text done.Ended now all first vl steps
unfolding runs_of runs_text last_done
all_ran text number left now all first vl steps so none =
    let last = subst (λ l. SoFar text number l now all first vl steps) none so in
    record { told = sym (append-nil text) ∙ last.told; pages = last.pages; done = last.done }

pub last_ran : (text after : List ℕ) (number : ℕ) (line : Line) (left : List Line) (now then : Memory) (all : List Line) (first : Memory) (vl steps : ℕ) (how : Done) → SoFar text number (line ∷ left) now all first vl steps
    → how ≡ done_by (line_run line now vl steps) → how ≢ done.Ended → after ≡ text ++ run_text number (line_run line now vl steps) → then ≡ map_left (memory_left (line_run line now vl steps)) now → IsAll after how then all first vl steps
unfolding runs_text last_done
last_ran text after number line left now then all first vl steps how so came not_ended more is =
    let outcome = line_run line now vl steps in
    let first_is = runs_last line left now vl steps (λ e. not_ended (came ∙ e)) in
    record {
      told = more ∙ ap (λ t. text ++ t) (sym (append-nil (run_text number outcome))) ∙ sym (ap (λ (r : Runs). text ++ runs_text number r.outcomes) first_is) ∙ so.told;
      pages = is ∙ sym (ap (λ (r : Runs). r.pages) first_is) ∙ so.pages;
      done = came ∙ sym (ap (λ (r : Runs). last_done r.outcomes) first_is) ∙ so.done;
    }

-- ---- the map fits beside the lines that are left, as they leave it

length-left : (memory pages : Memory) → length (map_left memory pages) ≡ length pages
length-left memory [] = refl
length-left memory (page ∷ pages) = ap suc (length-left memory pages)

fits_left : (image memory pages : Memory) → Fits image pages → Fits image (map_left memory pages)
fits_left image memory pages h =
    let same = length-left memory pages in
    record { apart = DoNotMeet-left image memory pages h.apart; few = omega (arith, same, h.few) }

pub all_fit : (memory pages : Memory) (lines : List Line) → AllByRecursion (IsFitting pages) lines → AllByRecursion (IsFitting (map_left memory pages)) lines
all_fit memory pages [] h = tt
all_fit memory pages (line ∷ lines) h = (fits_left line.image.pages memory pages h.0, all_fit memory pages lines h.1)

-- ---- the text of a run

pub put_together : (text front digits feed shown : List ℕ) → (((text ++ front) ++ digits) ++ feed) ++ shown ≡ text ++ (front ++ (digits ++ (feed ++ shown)))
put_together text front digits feed shown =
    append_assoc ((text ++ front) ++ digits) feed shown ∙ append_assoc (text ++ front) digits (feed ++ shown) ∙ append_assoc text front (digits ++ (feed ++ shown))
