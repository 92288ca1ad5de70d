-- Stretches of a draft's run.
use Rattle.std.proofs.Common.{◌≡◌, ℕ, zero, suc, ◌+◌, ◌*◌, ◌≤◌, Bool, true, false, List, [], ◌∷◌, refl, ap, ◌∙◌, subst, arith}
use Rattle.std.specs.Prelude.{nat_eq, if◌then◌else◌}
use Rattle.std.proofs.Math.Nat.{mod-lt}
use Rattle.std.proofs.lemmas.Nat.{pow_pos}
use Rattle.guest_types.specs.Memory.{Memory}
use Rattle.machine_model.specs.declared.outcome.StopKind.{StopKind}
use Rattle.machine_model.specs.InstructionTable.{Listed, Scalar, Vector}
use Rattle.machine_model.specs.Machine.{State, Step, Went, Ended, Stopped, jump, next}
use Rattle.machine_model.specs.OneStep.{cuts_in}
use Rattle.machine_model.specs.Run.{Outcome, End, Stop, go_on, run}
use Rattle.machine_model.specs.States.{IsState}
use Rattle.machine_model.proofs.StateSteps.{next_is_state, jumped}
use Rattle.machine_model.proofs.ScalarStates.{scalar_keeps}
use Rattle.machine_model.proofs.StateLaws.{vector_keeps}
pub use Rattle.label_fix.specs.Stretches.{Resolves, Goes, Leads, Stops, Ends}
use Rattle.label_fix.specs.DraftRun.{Kind, DraftEntry, Put, Branch, Place, Laid, is_taken, effect, after_label, following, place_of, address_of, walk, draft_run}
use Rattle.label_fix.specs.Finished.{IsWord, AreFit}
use Rattle.label_fix.specs.Suppressions.{count_on, walk_cuts, cuts}

-- ---- the shape of the state

fit_after : (labels : ℕ) (es : List DraftEntry) (l : ℕ) → AreFit labels es → AreFit labels (after_label es l)
fit_after labels [] l h = tt
fit_after labels (Put i ∷ rest) l h = fit_after labels rest l h.1
fit_after labels (Branch k m ∷ rest) l h = fit_after labels rest l h.2
fit_after labels (Place m ∷ rest) l h =
    elim (nat_eq m l) as (λ c. AreFit labels (if c then rest else after_label rest l)) [ true ↦ h.1 | false ↦ fit_after labels rest l h.1 ]

word_keeps : (i : Listed) (s t : State) → IsWord i → IsState s → effect i s ≡ Went t → IsState t
word_keeps (Scalar i) s t w h e = scalar_keeps i.name i.numbers s t w.0.fits h e
word_keeps (Vector v) s t w h e = vector_keeps v s t w.0 h e

-- ---- stretches

pub stay : {d : Laid} {c : List DraftEntry} {s : State} (most : ℕ) → Goes d c s c s most
stay {d = d} {c = c} {s = s} most = record {
  count = 0;
  within = omega arith;
  by = λ k taken. let e : 0 + k ≡ k = omega arith in let f : taken ≡ taken + 0 = omega arith in ap (λ j. draft_run d j taken c s) e ∙ ap (λ n. draft_run d k n c s) f;
  tells = λ k. let e : k ≡ 0 + k = omega arith in subst (λ j. cuts d k c s ≤ cuts d j c s) e (omega arith);
  keeps = λ labels all fit is. (is, fit);
}

-- one word: the run, the free elements that are suppressed, and the shape
no_cut_of_equal_walk : {d : Laid} {c e : List DraftEntry} {s t : State} → ((on : List DraftEntry → State → Outcome) (past : State → Outcome) (taken : ℕ) → walk d on past taken c s ≡ on e t) → ((on : List DraftEntry → State → ℕ) → on e t ≤ walk_cuts d on c s)
    → ((labels : ℕ) → AreFit labels d.entries → AreFit labels c → IsState s → IsState t × AreFit labels e) → Goes d c s e t 1
no_cut_of_equal_walk {d = d} {c = c} {e = e} {s = s} {t = t} h more shape = record {
  count = 1;
  within = omega arith;
  by = λ k taken. let e : 1 + k ≡ suc k = omega arith in ap (λ j. draft_run d j taken c s) e ∙ h (draft_run d k (taken + 1)) (run (suc k) taken) (taken + 1);
  tells = λ k. let f : suc k ≡ 1 + k = omega arith in subst (λ j. cuts d k e t ≤ cuts d j c s) f (more (cuts d k));
  keeps = shape;
}

cuts_le_count_on : (o : Step) (b : Bool) (more : State → ℕ) (t : State) → o ≡ Went t → more t ≤ count_on o b more
cuts_le_count_on o b more t h = rw h (omega arith)

pub put_goes : {d : Laid} {i : Listed} {rest : List DraftEntry} {s t : State} → effect i s ≡ Went t → Goes d (Put i ∷ rest) s rest t 1
put_goes {i = i} {rest = rest} {s = s} {t = t} h =
    no_cut_of_equal_walk (λ on past taken. ap (λ o. go_on o s taken (on rest)) h) (λ on. cuts_le_count_on (effect i s) (cuts_in i s) (on rest) t h) (λ labels all fit is. (word_keeps i s t fit.0 is h, fit.1))

pub put_stops : {d : Laid} {i : Listed} {rest : List DraftEntry} {s : State} {kind : StopKind} {m : Memory} (pc at : ℕ) → effect i s ≡ Stopped kind pc at m → Stops d (Put i ∷ rest) s kind m 1
put_stops {d = d} {i = i} {rest = rest} {s = s} pc at h = record {
  count = 1;
  within = omega arith;
  pc = pc;
  at = at;
  by = λ k taken. let e : 1 + k ≡ suc k = omega arith in ap (λ j. draft_run d j taken (Put i ∷ rest) s) e ∙ ap (λ o. go_on o s (taken + 1) (draft_run d k (taken + 1) rest)) h;
}

pub put_ends : {d : Laid} {i : Listed} {rest : List DraftEntry} {s : State} {result : ℕ} → effect i s ≡ Ended result → Ends d (Put i ∷ rest) s s.memory result 1
put_ends {d = d} {i = i} {rest = rest} {s = s} h = record {
  count = 1;
  within = omega arith;
  by = λ k taken. let e : 1 + k ≡ suc k = omega arith in ap (λ j. draft_run d j taken (Put i ∷ rest) s) e ∙ ap (λ o. go_on o s (taken + 1) (draft_run d k (taken + 1) rest)) h;
}

same_number : {m n : ℕ} → m ≡ n → n ≤ m
same_number h = omega (arith, h)

pub taken_goes : {d : Laid} {k : Kind} {l : ℕ} {rest : List DraftEntry} {s : State} → is_taken k s ≡ true → Goes d (Branch k l ∷ rest) s (following d l) (jump s (address_of d l)) 1
taken_goes {d = d} {l = l} {rest = rest} {s = s} h =
    no_cut_of_equal_walk (λ on past taken. ap (λ b. if b then on (following d l) (jump s (address_of d l)) else on rest (next s)) h)
    (λ on. same_number (ap (λ b. if b then on (following d l) (jump s (address_of d l)) else on rest (next s)) h))
    (λ labels all fit is. (jumped s (address_of d l) is (mod-lt (d.base + 4 * place_of d.entries l) (pow_pos 64)), fit_after labels d.entries l all))

pub passed_goes : {d : Laid} {k : Kind} {l : ℕ} {rest : List DraftEntry} {s : State} → is_taken k s ≡ false → Goes d (Branch k l ∷ rest) s rest (next s) 1
passed_goes {d = d} {l = l} {rest = rest} {s = s} h =
    no_cut_of_equal_walk (λ on past taken. ap (λ b. if b then on (following d l) (jump s (address_of d l)) else on rest (next s)) h)
    (λ on. same_number (ap (λ b. if b then on (following d l) (jump s (address_of d l)) else on rest (next s)) h))
    (λ labels all fit is. (next_is_state s is, fit.2))

pub chain : {d : Laid} {c e g : List DraftEntry} {s t u : State} {m n : ℕ} (most : ℕ) → m + n ≤ most → Goes d c s e t m → Goes d e t g u n → Goes d c s g u most
chain {d = d} {c = c} {g = g} {s = s} {u = u} most le a b = record {
  count = a.count + b.count;
  within = omega (arith, a.within, b.within);
  by = λ k taken.
      let e : a.count + b.count + k ≡ a.count + (b.count + k) = omega arith in
      let f : taken + a.count + b.count ≡ taken + (a.count + b.count) = omega arith in
      ap (λ j. draft_run d j taken c s) e ∙ a.by (b.count + k) taken ∙ b.by k (taken + a.count) ∙ ap (λ n. draft_run d k n g u) f;
  tells = λ k.
      let e : a.count + b.count + k ≡ a.count + (b.count + k) = omega arith in
      let f = ap (λ j. cuts d j c s) e in
      let p = a.tells (b.count + k) in
      let q = b.tells k in
      omega (arith, f, p, q);
  keeps = λ labels all fit is. let h = a.keeps labels all fit is in b.keeps labels all h.1 h.0;
}

pub stop_after : {d : Laid} {c e : List DraftEntry} {s t : State} {m n : ℕ} {kind : StopKind} {memory : Memory} (most : ℕ) → m + n ≤ most → Goes d c s e t m → Stops d e t kind memory n → Stops d c s kind memory most
stop_after {d = d} {c = c} {s = s} {kind = kind} {memory = memory} most le a b = record {
  count = a.count + b.count;
  within = omega (arith, a.within, b.within);
  pc = b.pc;
  at = b.at;
  by = λ k taken.
      let e : a.count + b.count + k ≡ a.count + (b.count + k) = omega arith in
      let f : taken + a.count + b.count ≡ taken + (a.count + b.count) = omega arith in
      ap (λ j. draft_run d j taken c s) e ∙ a.by (b.count + k) taken ∙ b.by k (taken + a.count) ∙ ap (λ n. Stop kind b.pc b.at memory n) f;
}

pub end_after : {d : Laid} {c e : List DraftEntry} {s t : State} {m n : ℕ} {memory : Memory} {result : ℕ} (most : ℕ) → m + n ≤ most → Goes d c s e t m → Ends d e t memory result n → Ends d c s memory result most
end_after {d = d} {c = c} {s = s} {memory = memory} {result = result} most le a b = record {
  count = a.count + b.count;
  within = omega (arith, a.within, b.within);
  by = λ k taken.
      let e : a.count + b.count + k ≡ a.count + (b.count + k) = omega arith in
      let f : taken + a.count + b.count ≡ taken + (a.count + b.count) = omega arith in
      ap (λ j. draft_run d j taken c s) e ∙ a.by (b.count + k) taken ∙ b.by k (taken + a.count) ∙ ap (λ n. End memory result n) f;
}

pub go_more : {d : Laid} {c e : List DraftEntry} {s t : State} {m : ℕ} (most : ℕ) → m ≤ most → Goes d c s e t m → Goes d c s e t most
go_more most le g = record { count = g.count; within = omega (arith, g.within); by = g.by; tells = g.tells; keeps = g.keeps }

pub stop_more : {d : Laid} {c : List DraftEntry} {s : State} {kind : StopKind} {memory : Memory} {m : ℕ} (most : ℕ) → m ≤ most → Stops d c s kind memory m → Stops d c s kind memory most
stop_more most le g = record { count = g.count; within = omega (arith, g.within); pc = g.pc; at = g.at; by = g.by }

pass_at : (d : Laid) (rest : List DraftEntry) (l : ℕ) (s : State) (k taken : ℕ) → draft_run d k taken (Place l ∷ rest) s ≡ draft_run d k taken rest s
pass_at d rest l s zero taken = refl
pass_at d rest l s (suc k) taken = refl

pass_cuts : (d : Laid) (rest : List DraftEntry) (l : ℕ) (s : State) (k : ℕ) → cuts d k (Place l ∷ rest) s ≡ cuts d k rest s
pass_cuts d rest l s zero = refl
pass_cuts d rest l s (suc k) = refl

-- the place of a label takes no word
pub pass : {d : Laid} {rest : List DraftEntry} {l : ℕ} {s : State} → Goes d (Place l ∷ rest) s rest s 0
pass {d = d} {rest = rest} {l = l} {s = s} = record {
  count = 0;
  within = omega arith;
  by = λ k taken.
      let e : 0 + k ≡ k = omega arith in
      let f : taken ≡ taken + 0 = omega arith in
      ap (λ j. draft_run d j taken (Place l ∷ rest) s) e ∙ pass_at d rest l s k taken ∙ ap (λ n. draft_run d k n rest s) f;
  tells = λ k. let e : k ≡ 0 + k = omega arith in subst (λ j. cuts d k rest s ≤ cuts d j (Place l ∷ rest) s) e (same_number (pass_cuts d rest l s k));
  keeps = λ labels all fit is. (is, fit.1);
}

-- a stretch of which nothing is said of free elements
pub leads_of : {d : Laid} {c e : List DraftEntry} {s t : State} {most : ℕ} → Goes d c s e t most → Leads d c s e t most
leads_of {d = d} {c = c} {e = e} {s = s} {t = t} g = record { count = g.count; within = g.within; by = g.by; cut = 0; tells = λ k. let h = g.tells k in omega (arith, h) }
