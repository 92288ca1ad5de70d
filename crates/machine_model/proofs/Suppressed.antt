-- How many free elements a run suppresses: up to a step and from there on; and none without a stop list.
use Rattle.std.proofs.Common.{◌≡◌, ℕ, zero, suc, ◌+◌, ◌≤◌, Bool, true, false, List, Option, Some, None, cond, refl, ap, ◌∙◌, subst, arith}
use Rattle.std.specs.Prelude.{not, ◌&&◌, if◌then◌else◌}
use Rattle.guest_types.specs.declared.memory.AccessFault.{AccessFault}
use Rattle.guest_types.specs.Memory.{Memory, fetched}
use Rattle.guest_types.specs.Elements.{first_true, both}
use Rattle.guest_types.specs.LaneMemory.{LoadForm, lane_faults, fault_at, load_form}
use Rattle.guest_types.specs.Length.{lanes}
use Rattle.guest_types.specs.EarlyLoads.{StopList, never, stop_at, suppressed_at, is_cut, later_than, EarlyLoad, early_load, unless_fault}
use Rattle.guest_types.proofs.EarlyLoads.{suppressed-never}
use Rattle.word_rows.specs.Field.{Field, rm}
use Rattle.sve_code.specs.Table.{Name, ldff1, ldnf1, dtype}
use Rattle.machine_model.specs.InstructionTable.{Listed, Scalar, Vector}
use Rattle.machine_model.specs.Machine.{x_at, State, Step, Went, Ended, Stopped}
use Rattle.machine_model.specs.OneStep.{step, reads_word, cuts_in, word_cuts, suppresses}
use Rattle.machine_model.specs.Run.{run, go_on, after_steps, is_over, suppressed}
use Rattle.machine_model.specs.VectorEffects.{load_mask, lane_places, vector_cut, field_of, is_early_cut}
use Rattle.machine_model.proofs.Quiet.{step_quiet}

-- ---- up to a step, and from there on

abbrev counted_by : Step → Bool → (State → ℕ) → ℕ
counted_by o cut more = elim o [ Went t ↦ cond cut 1 0 + more t | Ended result ↦ 0 | Stopped kind pc at memory ↦ 0 ]

add_on : (o : Step) (cut : Bool) (n k : ℕ) (t : State) → ((u : State) → after_steps n u ≡ Some t → suppressed (n + k) u ≡ suppressed n u + suppressed k t) → elim o as (λ o. Option State) [ Went u ↦ after_steps n u | Ended result ↦ None | Stopped kind pc at memory ↦ None ] ≡ Some t → counted_by o cut (suppressed (n + k)) ≡ counted_by o cut (suppressed n) + suppressed k t
add_on (Went u) cut n k t rest h = let e = rest u h in omega (arith, e)
add_on (Ended r) cut n k t rest h = absurd cc
add_on (Stopped kind pc at m) cut n k t rest h = absurd cc

pub suppressed-add : (n k : ℕ) (s t : State) → after_steps n s ≡ Some t → suppressed (n + k) s ≡ suppressed n s + suppressed k t
suppressed-add zero k s t h =
    let same : s ≡ t = cc in
    let e : 0 + k ≡ k = omega arith in
    let f : suppressed k t ≡ 0 + suppressed k t = omega arith in
    ap (λ j. suppressed j s) e ∙ ap (suppressed k) same ∙ f
suppressed-add (suc n) k s t h =
    let e : suc n + k ≡ suc (n + k) = omega arith in
    ap (λ j. suppressed j s) e ∙ add_on (step s) (suppresses s) n k t (λ u is. suppressed-add n k u t is) h

over_on : (o : Step) (cut : Bool) (n k taken : ℕ) (s : State) → ((u : State) → is_over (run n (taken + 1) u) ≡ true → suppressed (n + k) u ≡ suppressed n u) → is_over (go_on o s (taken + 1) (run n (taken + 1))) ≡ true → counted_by o cut (suppressed (n + k)) ≡ counted_by o cut (suppressed n)
over_on (Went u) cut n k taken s rest h = ap (λ j. cond cut 1 0 + j) (rest u h)
over_on (Ended r) cut n k taken s rest h = refl
over_on (Stopped kind pc at m) cut n k taken s rest h = refl

-- nothing more once the run is over
pub suppressed-over : (n k taken : ℕ) (s : State) → is_over (run n taken s) ≡ true → suppressed (n + k) s ≡ suppressed n s
suppressed-over zero k taken s h = absurd cc
suppressed-over (suc n) k taken s h =
    let e : suc n + k ≡ suc (n + k) = omega arith in
    ap (λ j. suppressed j s) e ∙ over_on (step s) (suppresses s) n k taken s (λ u over. suppressed-over n k (taken + 1) u over) h

more_on : (o : Step) (cut : Bool) (n k : ℕ) → ((u : State) → suppressed n u ≤ suppressed (n + k) u) → counted_by o cut (suppressed n) ≤ counted_by o cut (suppressed (n + k))
more_on (Went u) cut n k rest = let h = rest u in omega (arith, h)
more_on (Ended r) cut n k rest = omega arith
more_on (Stopped kind pc at m) cut n k rest = omega arith

pub suppressed-more : (n k : ℕ) (s : State) → suppressed n s ≤ suppressed (n + k) s
suppressed-more zero k s = omega arith
suppressed-more (suc n) k s =
    let e : suc (n + k) ≡ suc n + k = omega arith in
    subst (λ j. suppressed (suc n) s ≤ suppressed j s) e (more_on (step s) (suppresses s) n k (λ u. suppressed-more n k u))

-- ---- with the empty stop list nothing that is free is suppressed

first_test : (faults : ℕ → Bool) (rest : Option ℕ) (e : ℕ) (f t : Bool) → faults e ≡ t → is_cut faults rest ≡ false → is_cut faults (if f && t then Some e else rest) ≡ false
first_test faults rest e true true is h = ap not is
first_test faults rest e true false is h = h
first_test faults rest e false t is h = h

fault_first : (free faults : ℕ → Bool) (n e : ℕ) → is_cut faults (first_true (both free faults) n e) ≡ false
fault_first free faults zero e = refl
fault_first free faults (suc n) e = first_test faults (first_true (both free faults) n (e + 1)) e (free e) (faults e) refl (fault_first free faults n (e + 1))

not_cut : (form : LoadForm) (memory : Memory) (stops : StopList) (on free : ℕ → Bool) (f : ℕ → ℕ) (n : ℕ) (ffr : List ℕ) → stops ≡ never → (early_load form memory stops on free f n ffr).cut ≡ false
not_cut form memory stops on free f n ffr h =
    let faults = lane_faults form memory f in
    ap (λ l. is_cut faults (first_true (suppressed_at free faults (stop_at l)) n 0)) h
    ∙ ap (is_cut faults) (suppressed-never free faults n 0) ∙ fault_first free faults n 0

first_not_cut : (o : Option AccessFault) (l : EarlyLoad) → l.cut ≡ false → is_early_cut (unless_fault o l) ≡ false
first_not_cut None l h = h
first_not_cut (Some fault) l h = refl

vector_not_cut : (n : Name) (f : Field → ℕ) (s : State) → s.stops ≡ never → vector_cut n f s ≡ false
vector_not_cut ldff1 f s h =
    let form = load_form (f dtype) in
    let on = load_mask form f s in
    let places = lane_places form f (x_at s (f rm)) s in
    let n = lanes s.vl form.element in
    let first = first_true on n 0 in
    first_not_cut (fault_at form s.memory places first) (early_load form s.memory s.stops on (later_than first on) places n s.ffr) (not_cut form s.memory s.stops on (later_than first on) places n s.ffr h)
vector_not_cut ldnf1 f s h =
    let form = load_form (f dtype) in
    not_cut form s.memory s.stops (load_mask form f s) (load_mask form f s) (lane_places form f 0 s) (lanes s.vl form.element) s.ffr h
vector_not_cut _ f s h = refl

does_not_cut : (i : Listed) (s : State) → s.stops ≡ never → cuts_in i s ≡ false
does_not_cut (Scalar i) s h = refl
does_not_cut (Vector v) s h = vector_not_cut v.name (field_of v.name v.numbers) s h

listed_not_cut : (o : Option Listed) (s : State) → s.stops ≡ never → elim o as (λ o. Bool) [ None ↦ false | Some i ↦ cuts_in i s ] ≡ false
listed_not_cut None s h = refl
listed_not_cut (Some i) s h = does_not_cut i s h

word_not_cut : (o : Option ℕ) (s : State) → s.stops ≡ never → word_cuts o s ≡ false
word_not_cut None s h = refl
word_not_cut (Some word) s h = listed_not_cut (reads_word word) s h

none_on : (o : Step) (cut : Bool) (n : ℕ) → ((t : State) → t.stops ≡ never → suppressed n t ≡ 0) → cut ≡ false → ((t : State) → o ≡ Went t → t.stops ≡ never) → counted_by o cut (suppressed n) ≡ 0
none_on (Went t) cut n rest off keeps = let a = rest t (keeps t refl) in let b : ◌≡◌ {A = ℕ} (cond cut 1 0) 0 = ap (λ c. cond c 1 0) off in omega (arith, a, b)
none_on (Ended r) cut n rest off keeps = refl
none_on (Stopped kind pc at m) cut n rest off keeps = refl

pub none_suppressed : (n : ℕ) (s : State) → s.stops ≡ never → suppressed n s ≡ 0
none_suppressed zero s h = refl
none_suppressed (suc n) s h = none_on (step s) (suppresses s) n (none_suppressed n) (word_not_cut (fetched s.memory s.pc) s h) (λ t e. step_quiet s t h e)
