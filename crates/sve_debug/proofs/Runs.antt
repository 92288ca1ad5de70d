-- Steps of a session, and what a debugger holds after them.
use Rattle.std.proofs.Common.{◌≡◌, ℕ, zero, suc, ◌+◌, ◌-◌, ◌<◌, ◌≤◌, Bool, true, false, List, [], ◌∷◌, ◌++◌, drop, length, take, set, Option, Some, None, refl, sym, ap, ap₂, ◌∙◌, subst, arith, add-one, append_assoc, append-nil, drop-drop, length-append, length-drop}
use Rattle.std.proofs.lemmas.Bool.{cond-true, cond-false}
use Rattle.std.proofs.lemmas.List.{drop-append-le, take_more_set}
use Rattle.std.specs.Prelude.{IsTrue, is_some, option_map}
use Rattle.circular_buffer.specs.Buffer.{keep_last}
use Rattle.machine_model.specs.declared.outcome.Ending.{Ending}
use Rattle.machine_model.specs.declared.outcome.Ending.TheVariants as endings
use Rattle.machine_model.specs.declared.outcome.Step.{Step as StepAnswer}
use Rattle.machine_model.specs.declared.outcome.Step.TheVariants as answers
use Rattle.machine_model.specs.Answers.{IsAnswer}
use Rattle.machine_model.specs.Debugged.{View, Past, now, ending_by}
use Rattle.machine_model.specs.Machine.{State}
use Rattle.machine_model.specs.OneStep.{step}
use Rattle.debug_history.specs.Answered.{answer_of}
use Rattle.sve_debug.specs.DebuggerState.{DebuggerState, held_by, Shows, came_out}
use Rattle.sve_debug.specs.Reaches.{Reaches}
use Rattle.sve_debug.specs.Replies.{Session, started, stepped, steps_to, session_at, is_break, left_by, over_by}

-- ---- steps of a session

-- no step after the end or a stop
pub steps_when_over : (stops : List ℕ) (n : ℕ) (d : Session) → is_some d.over ≡ true → steps_to stops n d ≡ d
unfolding steps_to
steps_when_over stops zero d h = refl
steps_when_over stops (suc n) d h = cond-true (is_some d.over) _ _ h

pub at_break : (stops : List ℕ) (n : ℕ) (d : Session) → is_some d.over ≡ false → is_break stops (stepped d).state.pc ≡ true → steps_to stops (suc n) d ≡ stepped d
unfolding steps_to
at_break stops n d h b = cond-false (is_some d.over) _ _ h ∙ cond-true (is_break stops (stepped d).state.pc) _ _ b

pub at_step : (stops : List ℕ) (n : ℕ) (d : Session) → is_some d.over ≡ false → is_break stops (stepped d).state.pc ≡ false → steps_to stops (suc n) d ≡ steps_to stops n (stepped d)
unfolding steps_to
at_step stops n d h b = cond-false (is_some d.over) _ _ h ∙ cond-false (is_break stops (stepped d).state.pc) _ _ b

pub no_steps : (stops : List ℕ) (d : Session) → steps_to stops 0 d ≡ d
unfolding steps_to
no_steps stops d = refl

-- one step more
more_by : (n : ℕ) (d : Session) (b : Bool) → is_some d.over ≡ b → ((e : Session) → is_some (steps_to [] n e).over ≡ false → steps_to [] (suc n) e ≡ stepped (steps_to [] n e)) → is_some (steps_to [] (suc n) d).over ≡ false → steps_to [] (suc (suc n)) d ≡ stepped (steps_to [] (suc n) d)
more_by n d true is rec h =
    let same : is_some d.over ≡ false = ap (λ e. is_some e.over) (sym (steps_when_over [] (suc n) d is)) ∙ h in
    absurd cc
more_by n d false is rec h =
    let first : steps_to [] (suc n) d ≡ steps_to [] n (stepped d) = at_step [] n d is refl in
    at_step [] (suc n) d is refl ∙ rec (stepped d) (ap (λ e. is_some e.over) (sym first) ∙ h) ∙ ap stepped (sym first)

steps_of_suc : (n : ℕ) (d : Session) → is_some (steps_to [] n d).over ≡ false → steps_to [] (suc n) d ≡ stepped (steps_to [] n d)
steps_of_suc zero d h =
    let none = no_steps [] d in
    at_step [] 0 d (ap (λ e. is_some e.over) (sym none) ∙ h) refl ∙ no_steps [] (stepped d) ∙ ap stepped (sym none)
steps_of_suc (suc n) d h = more_by n d (is_some d.over) refl (steps_of_suc n) h

-- ---- the last places

keeps : (n : ℕ) (xs : List ℕ) (y : ℕ) → keep_last n (keep_last n xs ++ y ∷ []) ≡ keep_last n (xs ++ y ∷ [])
keeps n xs y =
    let m = length xs - n in
    let front : drop m xs ++ y ∷ [] ≡ drop m (xs ++ y ∷ []) = sym (drop-append-le m xs (y ∷ []) (omega arith)) in
    let size = length-append (drop m xs) (y ∷ []) in
    let all = length-append xs (y ∷ []) in
    let left = length-drop m xs in
    let count : m + (length (drop m xs ++ y ∷ []) - n) ≡ length (xs ++ y ∷ []) - n = omega (arith, size, all, left) in
    ap (drop (length (drop m xs ++ y ∷ []) - n)) front
    ∙ drop-drop (length (drop m xs ++ y ∷ []) - n) m (xs ++ y ∷ [])
    ∙ ap (λ k. drop k (xs ++ y ∷ [])) count

-- ---- one step

left : (answer : StepAnswer) (s t : State) → IsAnswer (step s) answer s t → t ≡ left_by (step s) s
left answers.Went s t h = sym (ap (λ m. left_by m s) h)
left answers.Ended s t h = h.1 ∙ sym (ap (λ m. left_by m s) h.0)
left (answers.Stopped stop) s t h = h.1 ∙ sym (ap (λ m. left_by m s) h.0)

came : (answer : StepAnswer) (s t : State) (n : ℕ) → IsAnswer (step s) answer s t → over_by (step s) n s ≡ option_map (came_out t n) (ending_by answer)
came answers.Went s t n h = ap (λ m. over_by m n s) h
came answers.Ended s t n h = ap (λ m. over_by m n s) h.0 ∙ ap (λ (u : State). Some (came_out u n endings.Ended)) (sym h.1)
came (answers.Stopped stop) s t n h = ap (λ m. over_by m n s) h.0

not_over : (v : View) (breaks last : List ℕ) (start : State) (d : Session) → v.over ≡ None → Shows (held_by v breaks last) start d → is_some d.over ≡ false
not_over v breaks last start d none h = ap is_some (h.over ∙ ap (option_map (came_out d.state d.steps)) none)

pub is_over : (v : View) (breaks last : List ℕ) (start : State) (d : Session) → is_some v.over ≡ true → Shows (held_by v breaks last) start d → is_some d.over ≡ true
is_over v breaks last start d some h = ap is_some h.over ∙ mapped v.over some
  where
    mapped : (o : Option Ending) → is_some o ≡ true → is_some (option_map (came_out d.state d.steps) o) ≡ true
    mapped None e = e
    mapped (Some ending) e = refl

stood : (v w : View) (answer : StepAnswer) (breaks last : List ℕ) (start : State) (d : Session) → v.over ≡ None → IsAnswer (step v.state) answer v.state w.state → w.steps ≡ v.steps + 1 → w.over ≡ ending_by answer → IsTrue w.quiet → Shows (held_by v breaks last) start d → Shows (held_by w breaks (keep_last 64 (last ++ v.state.pc ∷ []))) start (stepped d)
stood v w answer breaks last start d none is steps over quiet h =
    let none_yet = not_over v breaks last start d none h in
    let state : w.state ≡ left_by (step d.state) d.state = left answer v.state w.state is ∙ ap (λ (s : State). left_by (step s) s) h.state in
    let since = h.since in
    let before = session_at start d.steps in
    let one : session_at start (d.steps + 1) ≡ stepped before =
    ap (session_at start) (add-one d.steps) ∙ steps_of_suc d.steps (started start) (ap is_some since.over_is ∙ none_yet) in
    record {
      state = state;
      steps = steps ∙ ap (λ n. n + 1) h.steps;
      over =
          ap (λ (s : State). over_by (step s) (d.steps + 1) s) (sym h.state)
          ∙ came answer v.state w.state (d.steps + 1) is
          ∙ ap (option_map (came_out w.state (d.steps + 1))) (sym over)
          ∙ ap (λ (s : State). option_map (came_out s (d.steps + 1)) w.over) state;
      quiet = quiet;
      breaks = h.breaks;
      last =
          ap (λ l. keep_last 64 (l ++ v.state.pc ∷ [])) h.last
          ∙ ap (λ (s : State). keep_last 64 (keep_last 64 d.places ++ s.pc ∷ [])) h.state
          ∙ keeps 64 d.places d.state.pc;
      since = record {
        state_is = ap (λ (e : Session). e.state) one ∙ ap (λ (s : State). left_by (step s) s) since.state_is;
        steps_is = ap (λ (e : Session). e.steps) one ∙ ap (λ n. n + 1) since.steps_is;
        over_is = ap (λ (e : Session). e.over) one ∙ ap₂ (λ (s : State) n. over_by (step s) (n + 1) s) since.state_is since.steps_is;
      };
    }

-- what is looked at is the machine as it is now
pub shows_now : (v w : View) (breaks last : List ℕ) (start : State) (d : Session) → now w ≡ now v → Shows (held_by v breaks last) start d → Shows (held_by w breaks last) start d
shows_now v w breaks last start d same h = record {
  state = ap (λ (p : Past). p.state) same ∙ h.state;
  steps = ap (λ (p : Past). p.steps) same ∙ h.steps;
  over = h.over ∙ ap (λ (p : Past). option_map (came_out d.state d.steps) p.over) (sym same);
  quiet = subst (λ (p : Past). IsTrue p.quiet) (sym same) h.quiet;
  breaks = h.breaks;
  last = h.last;
  since = h.since;
}

-- ---- steps that are counted later

-- a machine of which so many steps are counted
abbrev pub counted_by : ℕ → View → View
counted_by k v = record v { steps = v.steps + k }

pub counted_is : (k : ℕ) (w x : View) → x.state ≡ w.state → x.steps ≡ w.steps + k → x.over ≡ w.over → x.quiet ≡ w.quiet → now x ≡ now (counted_by k w)
counted_is k w x state steps over quiet = cc

pub shows_counted : (v : View) (breaks last : List ℕ) (start : State) (d : Session) → Shows (held_by v breaks last) start d → Shows (held_by (counted_by 0 v) breaks last) start d
shows_counted v breaks last start d h = shows_now v (counted_by 0 v) breaks last start d (ap (λ n. record (now v) { steps = n }) (let e : v.steps + 0 ≡ v.steps = omega arith in e)) h

-- the end that a step comes to is the one that it answered
ended_by : (o : Option Ending) → o ≡ ending_by (answer_of o)
ended_by (Some endings.Ended) = refl
ended_by other = refl

-- a step that is counted after others
pub stood_on : (v w : View) (k : ℕ) (breaks : List ℕ) (start : State) → v.over ≡ None → (IsTrue v.quiet → IsAnswer (step v.state) (answer_of w.over) v.state w.state) → w.steps ≡ v.steps → (IsTrue v.quiet → IsTrue w.quiet) → (last : List ℕ) (d : Session) → Shows (held_by (counted_by k v) breaks last) start d → Shows (held_by (counted_by (k + 1) w) breaks (keep_last 64 (last ++ v.state.pc ∷ []))) start (stepped d)
stood_on v w k breaks start none is steps quiet last d h =
    stood (counted_by k v) (counted_by (k + 1) w) (answer_of w.over) breaks last start d none (is h.quiet) (omega (arith, steps)) (ended_by w.over) (quiet h.quiet) h

-- ---- many steps

-- a step from every session that is stood for
abbrev Steps : (v w : View) (breaks last last' : List ℕ) (start : State) → Type 0
Steps v w breaks last last' start = (e : Session) → Shows (held_by v breaks last) start e → Shows (held_by w breaks last') start (stepped e)

-- what is held already is of the last places
pub kept_by : (v : View) (breaks last more : List ℕ) (start : State) (d : Session) → more ≡ [] → Shows (held_by v breaks last) start d → Shows (held_by v breaks (keep_last 64 (last ++ more))) start d
kept_by v breaks last more start d none h =
    let size = length-drop (length d.places - 64) d.places in
    let few : length (keep_last 64 d.places) - 64 ≡ 0 = omega (arith, size) in
    let all : last ++ more ≡ keep_last 64 d.places = ap (λ m. last ++ m) none ∙ append-nil last ∙ h.last in
    subst (λ l. Shows (held_by v breaks l) start d) (sym (ap (keep_last 64) all ∙ ap (λ n. drop n (keep_last 64 d.places)) few ∙ sym h.last)) h

-- a step more, whose place is told following the others
pub told : (v w : View) (breaks last recent : List ℕ) (start : State) (k pc : ℕ) → pc ≡ v.state.pc → k < length recent → ((last : List ℕ) (e : Session) → Shows (held_by v breaks last) start e → Shows (held_by w breaks (keep_last 64 (last ++ v.state.pc ∷ []))) start (stepped e)) → Steps v w breaks (keep_last 64 (last ++ take k recent)) (keep_last 64 (last ++ take (k + 1) (set recent k pc))) start
told v w breaks last recent start k pc is inside next e h =
    let places : keep_last 64 (keep_last 64 (last ++ take k recent) ++ v.state.pc ∷ []) ≡ keep_last 64 (last ++ take (k + 1) (set recent k pc)) =
    ap (λ p. keep_last 64 (keep_last 64 (last ++ take k recent) ++ p ∷ [])) (sym is)
    ∙ keeps 64 (last ++ take k recent) pc
    ∙ ap (keep_last 64) (append_assoc last (take k recent) (pc ∷ []) ∙ ap (λ m. last ++ m) (sym (take_more_set recent k pc inside))) in
    subst (λ l. Shows (held_by w breaks l) start (stepped e)) places (next (keep_last 64 (last ++ take k recent)) e h)

-- where the machine has counted its steps
pub reaches_now : (v w : View) (breaks last : List ℕ) (start : State) (d : Session) (stops : List ℕ) (n left : ℕ) → now w ≡ now v → Reaches (held_by v breaks last) start d stops n left → Reaches (held_by w breaks last) start d stops n left
reaches_now v w breaks last start d stops n left same r = record { session = r.session; stands = shows_now v w breaks last start r.session same r.stands; same = r.same }

pub reaches_first : (held : DebuggerState) (start : State) (d : Session) (stops : List ℕ) (n left : ℕ) → left ≡ n → Shows held start d → Reaches held start d stops n left
reaches_first held start d stops n left all h = record { session = d; stands = h; same = ap (λ k. steps_to stops k d) (sym all) }

pub reaches_end : (held : DebuggerState) (start : State) (d : Session) (stops : List ℕ) (n left : ℕ) → left ≡ 0 → Reaches held start d stops n left → Shows held start (steps_to stops n d)
reaches_end held start d stops n left none r =
    subst (Shows held start) (sym (r.same ∙ ap (λ k. steps_to stops k r.session) none ∙ no_steps stops r.session)) r.stands

-- some steps, and then others
pub reaches_on : (held : DebuggerState) (start : State) (d : Session) (stops : List ℕ) (n left rest : ℕ) (before : DebuggerState) → Reaches before start d stops n left → ((e : Session) → Shows before start e → Reaches held start e stops left rest) → Reaches held start d stops n rest
reaches_on held start d stops n left rest before r next =
    let after = next r.session r.stands in
    record { session = after.session; stands = after.stands; same = r.same ∙ after.same }

pub stands_over : (v : View) (breaks last : List ℕ) (start : State) (d : Session) (stops : List ℕ) (n : ℕ) → is_some v.over ≡ true → Shows (held_by v breaks last) start d → Shows (held_by v breaks last) start (steps_to stops n d)
stands_over v breaks last start d stops n over h =
    subst (Shows (held_by v breaks last) start) (sym (steps_when_over stops n d (is_over v breaks last start d over h))) h

-- another step, and the machine goes on
pub reaches_next : (v w : View) (breaks last last' : List ℕ) (start : State) (d : Session) (stops : List ℕ) (n k : ℕ) → k + 1 ≤ n → v.over ≡ None → is_break stops w.state.pc ≡ false → Steps v w breaks last last' start → Reaches (held_by v breaks last) start d stops n (n - k) → Reaches (held_by w breaks last') start d stops n (n - (k + 1))
reaches_next v w breaks last last' start d stops n k inside none here next r =
    let count : n - k ≡ suc (n - (k + 1)) = omega arith in
    let after = next r.session r.stands in
    let pc : is_break stops (stepped r.session).state.pc ≡ false = ap (λ (s : State). is_break stops s.pc) (sym after.state) ∙ here in
    record {
      session = stepped r.session;
      stands = after;
      same = r.same ∙ ap (λ m. steps_to stops m r.session) count ∙ at_step stops (n - (k + 1)) r.session (not_over v breaks last start r.session none r.stands) pc;
    }

-- the step that comes to a breakpoint
pub reaches_break : (v w : View) (breaks last last' : List ℕ) (start : State) (d : Session) (stops : List ℕ) (n k : ℕ) → k + 1 ≤ n → v.over ≡ None → is_break stops w.state.pc ≡ true → Steps v w breaks last last' start → Reaches (held_by v breaks last) start d stops n (n - k) → Reaches (held_by w breaks last') start d stops n 0
reaches_break v w breaks last last' start d stops n k inside none here next r =
    let count : n - k ≡ suc (n - (k + 1)) = omega arith in
    let after = next r.session r.stands in
    let pc : is_break stops (stepped r.session).state.pc ≡ true = ap (λ (s : State). is_break stops s.pc) (sym after.state) ∙ here in
    record {
      session = stepped r.session;
      stands = after;
      same =
          r.same
          ∙ ap (λ m. steps_to stops m r.session) count
          ∙ at_break stops (n - (k + 1)) r.session (not_over v breaks last start r.session none r.stands) pc
          ∙ sym (no_steps stops (stepped r.session));
    }

steps_at_last : (stops : List ℕ) (n : ℕ) (d : Session) (b : Bool) → is_some d.over ≡ false → is_some (stepped d).over ≡ true → is_break stops (stepped d).state.pc ≡ b → steps_to stops (suc n) d ≡ stepped d
steps_at_last stops n d true h over b = at_break stops n d h b
steps_at_last stops n d false h over b = at_step stops n d h b ∙ steps_when_over stops n (stepped d) over

-- the step that comes to the end or a stop
pub reaches_last : (v w : View) (breaks last last' : List ℕ) (start : State) (d : Session) (stops : List ℕ) (n k : ℕ) → k + 1 ≤ n → v.over ≡ None → is_some w.over ≡ true → Steps v w breaks last last' start → Reaches (held_by v breaks last) start d stops n (n - k) → Reaches (held_by w breaks last') start d stops n 0
reaches_last v w breaks last last' start d stops n k inside none over next r =
    let count : n - k ≡ suc (n - (k + 1)) = omega arith in
    let after = next r.session r.stands in
    record {
      session = stepped r.session;
      stands = after;
      same =
          r.same
          ∙ ap (λ m. steps_to stops m r.session) count
          ∙ steps_at_last stops (n - (k + 1)) r.session _ (not_over v breaks last start r.session none r.stands) (is_over w breaks last' start (stepped r.session) over after) refl
          ∙ sym (no_steps stops (stepped r.session));
    }
