-- A pace after a stretch, and how many words a pace allows in the bound of steps.
use Rattle.std.proofs.Common.{◌≡◌, ℕ, ◌+◌, ◌-◌, ◌*◌, ◌<◌, ◌≤◌, List, refl, ap, ◌∙◌, subst, arith, ⊎_elim}
use Rattle.std.proofs.lemmas.Bool.{cases_lt}
use Rattle.std.proofs.Math.Nat.{mul-le-mul_left}
use Rattle.guest_types.specs.Memory.{Memory}
use Rattle.machine_model.specs.declared.outcome.StopKind.{StopKind}
use Rattle.machine_model.specs.Machine.{State}
use Rattle.machine_model.specs.Run.{End, Stop}
use Rattle.label_fix.specs.DraftRun.{DraftEntry, Laid, draft_run}
use Rattle.label_fix.specs.Suppressions.{cuts}
use Rattle.label_fix.specs.Stretches.{Goes, Paced, StopsPaced, EndsPaced}

paced_after : {d : Laid} {c e : List DraftEntry} {s t : State} {most : ℕ} (count unit base : ℕ) → (g : Goes d c s e t most) → Paced d e t count unit base → Paced d c s (g.count + count) unit (most + base)
paced_after {d = d} {c = c} {e = e} {s = s} {t = t} {most = most} count unit base g p n lt =
    ⊎_elim
    (λ (before : n < g.count). let a = g.within in omega (arith, before, a))
    (λ (following : g.count ≤ n).
    let j = n - g.count in
    let same : g.count + j ≡ n = omega arith in
    let q = p j (omega (arith, lt)) in
    let told : cuts d j e t ≤ cuts d n c s = subst (λ m. cuts d j e t ≤ cuts d m c s) same (g.tells j) in
    let a = g.within in
    let b = mul-le-mul_left unit told in
    omega (arith, q, a, b, same))
    (cases_lt n g.count)

pub end_paced : {d : Laid} {c e : List DraftEntry} {s t : State} {most : ℕ} {m : Memory} {result unit base : ℕ} → Goes d c s e t most → EndsPaced d e t m result unit base → EndsPaced d c s m result unit (most + base)
end_paced {d = d} {c = c} {s = s} {m = m} {result = result} {unit = unit} {base = base} a b = record {
  count = a.count + b.count;
  by = λ k taken.
      let e : a.count + b.count + k ≡ a.count + (b.count + k) = omega arith in
      let f : taken + a.count + b.count ≡ taken + (a.count + b.count) = omega arith in
      ap (λ j. draft_run d j taken c s) e ∙ a.by (b.count + k) taken ∙ b.by k (taken + a.count) ∙ ap (λ n. End m result n) f;
  paced = paced_after b.count unit base a b.paced;
}

pub stop_paced : {d : Laid} {c e : List DraftEntry} {s t : State} {most : ℕ} {kind : StopKind} {m : Memory} {unit base : ℕ} → Goes d c s e t most → StopsPaced d e t kind m unit base → StopsPaced d c s kind m unit (most + base)
stop_paced {d = d} {c = c} {s = s} {kind = kind} {m = m} {unit = unit} {base = base} a b = record {
  count = a.count + b.count;
  pc = b.pc;
  at = b.at;
  by = λ k taken.
      let e : a.count + b.count + k ≡ a.count + (b.count + k) = omega arith in
      let f : taken + a.count + b.count ≡ taken + (a.count + b.count) = omega arith in
      ap (λ j. draft_run d j taken c s) e ∙ a.by (b.count + k) taken ∙ b.by k (taken + a.count) ∙ ap (λ n. Stop kind b.pc b.at m n) f;
  paced = paced_after b.count unit base a b.paced;
}

pub end_count : {d : Laid} {c e : List DraftEntry} {s t : State} {most : ℕ} {m : Memory} {result unit base : ℕ} (a : Goes d c s e t most) (b : EndsPaced d e t m result unit base) → (end_paced a b).count ≡ a.count + b.count
unfolding end_paced
end_count a b = refl

pub stop_count : {d : Laid} {c e : List DraftEntry} {s t : State} {most : ℕ} {kind : StopKind} {m : Memory} {unit base : ℕ} (a : Goes d c s e t most) (b : StopsPaced d e t kind m unit base) → (stop_paced a b).count ≡ a.count + b.count
unfolding stop_paced
stop_count a b = refl

pub stop_place : {d : Laid} {c e : List DraftEntry} {s t : State} {most : ℕ} {kind : StopKind} {m : Memory} {unit base : ℕ} (a : Goes d c s e t most) (b : StopsPaced d e t kind m unit base) → (stop_paced a b).at ≡ b.at
unfolding stop_paced
stop_place a b = refl

-- ---- the bound

-- a run within a pace that gives no more words has come to its end
pub paced_steps_are_enough : (d : Laid) (c : List DraftEntry) (s : State) (count unit base steps : ℕ) → base + unit * cuts d steps c s ≤ steps → Paced d c s count unit base → count ≤ steps
paced_steps_are_enough d c s count unit base steps few paced =
    ⊎_elim (λ (short : steps < count). (let lt = paced steps short in absurd (omega (arith, lt, few)))) (λ (long : count ≤ steps). long) (cases_lt steps count)
