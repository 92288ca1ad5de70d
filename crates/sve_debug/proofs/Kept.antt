-- Steps of a session with the counts that are kept, and steps back.
use Rattle.std.proofs.Common.{◌≡◌, ◌≢◌, ℕ, zero, suc, ◌+◌, ◌-◌, ◌%◌, ◌<◌, ◌≤◌, Bool, true, false, List, [], ◌∷◌, ◌++◌, drop, length, get_or, None, refl, sym, ap, ap₂, ◌∙◌, subst, arith, append_assoc, append-nil, length-append}
use Rattle.std.specs.Prelude.{IsTrue, is_some, option_map, nat_lt, ◌&&◌, ◌||◌}
use Rattle.std.specs.List.{All}
use Rattle.std.proofs.lemmas.Bool.{ne_eqb, cond-false, leb-true, le-ltb, and_parts}
use Rattle.std.proofs.lemmas.List.{get_or-map, length-map, drop-append-le, drop_all}
use Rattle.std.proofs.lemmas.List.Elements.{All-take, All-weaker, All-cons, All-nil}
use Rattle.machine_model.specs.Debugged.{View, Past, now}
use Rattle.machine_model.specs.Machine.{State}
use Rattle.debug_history.specs.Kept.{IsLast, counts_of, counted, noted, is_kept, up_to, can_go_back, first_of, last_of}
use Rattle.debug_history.proofs.Counts.{counts_noted, counts_up_to, noted_all, noted_some, reached_all}
use Rattle.sve_debug.specs.DebuggerState.{DebuggerState, Shows, Stands, IsKept, IsTwin, held_by, came_out}
use Rattle.sve_debug.specs.Reaches.{Reaches, ReachesCounted}
use Rattle.sve_debug.specs.Replies.{Session, started, stepped, steps_to, session_at, is_break, with_counts, counted_over, counted_since, counted_steps, counts_to, back_at, gone_back, after_back, is_too_far}
use Rattle.sve_debug.proofs.Runs.{steps_when_over, at_break, at_step, no_steps, shows_now}

-- ---- what steps leave alone

-- the counts make no difference to steps
pub commute : (stops : List ℕ) (n : ℕ) (counts : List ℕ) (d : Session) → steps_to stops n (with_counts counts d) ≡ with_counts counts (steps_to stops n d)
commute stops zero counts d = no_steps stops (with_counts counts d) ∙ ap (with_counts counts) (sym (no_steps stops d))
commute stops (suc n) counts d = go (commute stops n counts (stepped d)) (is_some d.over) refl (is_break stops (stepped d).state.pc) refl
  where
    go : steps_to stops n (with_counts counts (stepped d)) ≡ with_counts counts (steps_to stops n (stepped d)) → (b : Bool) → is_some d.over ≡ b → (c : Bool) → is_break stops (stepped d).state.pc ≡ c → steps_to stops (suc n) (with_counts counts d) ≡ with_counts counts (steps_to stops (suc n) d)
    go rest true e c f = steps_when_over stops (suc n) (with_counts counts d) e ∙ ap (with_counts counts) (sym (steps_when_over stops (suc n) d e))
    go rest false e true f = at_break stops n (with_counts counts d) e f ∙ ap (with_counts counts) (sym (at_break stops n d e f))
    go rest false e false f = at_step stops n (with_counts counts d) e f ∙ rest ∙ ap (with_counts counts) (sym (at_step stops n d e f))

pub start_stays : (stops : List ℕ) (n : ℕ) (d : Session) → (steps_to stops n d).start ≡ d.start
start_stays stops zero d = ap (λ (e : Session). e.start) (no_steps stops d)
start_stays stops (suc n) d = go (start_stays stops n (stepped d)) (is_some d.over) refl (is_break stops (stepped d).state.pc) refl
  where
    go : (steps_to stops n (stepped d)).start ≡ d.start → (b : Bool) → is_some d.over ≡ b → (c : Bool) → is_break stops (stepped d).state.pc ≡ c → (steps_to stops (suc n) d).start ≡ d.start
    go rest true e c f = ap (λ (e : Session). e.start) (steps_when_over stops (suc n) d e)
    go rest false e true f = ap (λ (e : Session). e.start) (at_break stops n d e f)
    go rest false e false f = ap (λ (e : Session). e.start) (at_step stops n d e f) ∙ rest

pub counts_stay : (stops : List ℕ) (n : ℕ) (d : Session) → (steps_to stops n d).counts ≡ d.counts
counts_stay stops n d = ap (λ (e : Session). e.counts) (commute stops n d.counts d)

-- ---- counts

not_noted : (k : ℕ) (counts : List ℕ) → k % 10000 ≢ 0 → counted k counts ≡ counts
not_noted k counts ne = cond-false (is_kept k counts) _ _ (ap (λ b. b && nat_lt (last_of counts) k) (ne_eqb (k % 10000) 0 ne))

-- no count between is kept
pub counted_once : (k m : ℕ) (counts : List ℕ) → 0 < m → m ≤ 10000 - k % 10000 → counted_over k m counts ≡ counted (k + m) counts
unfolding counted_over
counted_once k zero counts some near = absurd (omega (arith, some))
counted_once k (suc zero) counts some near = refl
counted_once k (suc (suc n)) counts some near =
    let ne : (k + 1) % 10000 ≢ 0 = λ e. absurd (omega (arith, near, e)) in
    let less : suc n ≤ 10000 - (k + 1) % 10000 = omega (arith, near) in
    ap (counted_over (k + 1) (suc n)) (not_noted (k + 1) counts ne)
    ∙ counted_once (k + 1) (suc n) counts (omega arith) less
    ∙ ap (λ j. counted j counts) (let e : (k + 1) + suc n ≡ k + suc (suc n) = omega arith in e)

pub counted_more : (k m n : ℕ) (counts : List ℕ) → counted_over k (m + n) counts ≡ counted_over (k + m) n (counted_over k m counts)
unfolding counted_over
counted_more k zero n counts =
    ap (λ j. counted_over k j counts) (let e : 0 + n ≡ n = omega arith in e)
    ∙ ap (λ j. counted_over j n counts) (let e : k ≡ k + 0 = omega arith in e)
counted_more k (suc m) n counts =
    ap (λ j. counted_over k j counts) (let e : suc m + n ≡ suc (m + n) = omega arith in e)
    ∙ counted_more (k + 1) m n (counted (k + 1) counts)
    ∙ ap (λ j. counted_over j n (counted_over (k + 1) m (counted (k + 1) counts))) (let e : (k + 1) + m ≡ k + suc m = omega arith in e)

pub counted_none : (k n : ℕ) (counts : List ℕ) → n ≡ 0 → counted_over k n counts ≡ counts
unfolding counted_over
counted_none k n counts none = ap (λ j. counted_over k j counts) none

-- ---- many steps

pub counted_first : (held : DebuggerState) (start : State) (d : Session) (stops : List ℕ) (n : ℕ) → Stands held start d → ReachesCounted held start d stops n n
counted_first held start d stops n h = record {
  session = d;
  stands = h;
  same = refl;
  later = omega arith;
  counts = sym (counted_none d.steps (d.steps - d.steps) d.counts (omega arith));
}

pub counted_end : (held : DebuggerState) (start : State) (d : Session) (stops : List ℕ) (n left : ℕ) → left ≡ 0 → ReachesCounted held start d stops n left → Stands held start (counted_steps stops n d)
counted_end held start d stops n left none r =
    let e = steps_to stops n d in
    let is : with_counts r.session.counts e ≡ r.session =
    sym (commute stops n r.session.counts d) ∙ r.same ∙ ap (λ k. steps_to stops k r.session) none ∙ no_steps stops r.session in
    let steps : e.steps ≡ r.session.steps = ap (λ (s : Session). s.steps) is in
    let whole : r.session ≡ counted_since d e =
    sym is ∙ ap (λ c. with_counts c e) (r.counts ∙ ap (λ k. counted_over d.steps (k - d.steps) d.counts) (sym steps)) in
    subst (Stands held start) whole r.stands

pub counted_over_end : (held : DebuggerState) (start : State) (d : Session) (stops : List ℕ) (n : ℕ) → is_some d.over ≡ true → Stands held start d → Stands held start (counted_steps stops n d)
counted_over_end held start d stops n over h =
    let same = steps_when_over stops n d over in
    let none = counted_none d.steps (d.steps - d.steps) d.counts (omega arith) in
    subst (Stands held start) (sym (ap (counted_since d) same ∙ ap (λ c. with_counts c d) none)) h

-- what is shown is kept
pub shown_kept : (v : View) (breaks last : List ℕ) (start : State) (d : Session) → Shows (held_by v breaks last) start d → IsKept start (now v)
shown_kept v breaks last start d h =
    let since = h.since in
    record {
      quiet = h.quiet;
      since = record {
        state_is = ap (λ n. (session_at start n).state) h.steps ∙ since.state_is ∙ sym h.state;
        steps_is = ap (λ n. (session_at start n).steps) h.steps ∙ since.steps_is ∙ sym h.steps;
        over_is =
            ap (λ n. (session_at start n).over) h.steps
            ∙ since.over_is
            ∙ h.over
            ∙ ap₂ (λ (s : State) n. option_map (came_out s n) v.over) (sym h.state) (sym h.steps);
      };
    }

shows_counts : (shown : DebuggerState) (start : State) (d : Session) (counts : List ℕ) → Shows shown start d → Shows shown start (with_counts counts d)
shows_counts shown start d counts h = record {
  state = h.state;
  steps = h.steps;
  over = h.over;
  quiet = h.quiet;
  breaks = h.breaks;
  last = h.last;
  since = h.since;
}

-- some steps more, after which the machine is noted
pub counted_on : (v w x : View) (breaks last last' : List ℕ) (start : State) (d : Session) (stops : List ℕ) (n left rest m : ℕ) → w.past ≡ v.past → now x ≡ now w → x.past ≡ noted (now w) w.past → w.steps ≡ v.steps + m → 0 < m → m ≤ 10000 - v.steps % 10000 → ReachesCounted (held_by v breaks last) start d stops n left → ((e : Session) → Shows (held_by v breaks last) start e → Reaches (held_by w breaks last') start e stops left rest) → ReachesCounted (held_by x breaks last') start d stops n rest
counted_on v w x breaks last last' start d stops n left rest m past same_now kept count some near r next =
    let e = r.session in
    let stands = r.stands in
    let inner = next e stands.shows in
    let f = inner.session in
    let shows = inner.stands in
    let same_start : f.start ≡ e.start =
    sym (start_stays stops rest f) ∙ ap (λ (s : Session). s.start) (sym inner.same) ∙ start_stays stops left e in
    let same_counts : f.counts ≡ e.counts =
    sym (counts_stay stops rest f) ∙ ap (λ (s : Session). s.counts) (sym inner.same) ∙ counts_stay stops left e in
    let before : v.steps ≡ e.steps = stands.shows.steps in
    let after : w.steps ≡ f.steps = shows.steps in
    let later = r.later in
    let apart : f.steps - d.steps ≡ (e.steps - d.steps) + m = omega (arith, count, before, after, later) in
    let to : d.steps + (e.steps - d.steps) ≡ e.steps = omega (arith, later) in
    let close : m ≤ 10000 - e.steps % 10000 = subst (λ k. m ≤ 10000 - k % 10000) before near in
    let counts = counted f.steps f.counts in
    let all : x.past ≡ noted (now w) v.past = kept ∙ ap (noted (now w)) past in
    record {
      session = with_counts counts f;
      stands = record {
        shows = shows_counts _ start f counts (shows_now w x breaks last' start f same_now shows);
        start_is = same_start ∙ stands.start_is;
        counts =
            ap counts_of all
            ∙ counts_noted (now w) v.past
            ∙ ap₂ counted after (stands.counts ∙ sym same_counts);
        each = subst (All (IsKept start)) (sym all) (noted_all (IsKept start) (now w) v.past (shown_kept w breaks last' start f shows) stands.each);
      };
      same =
          commute stops n counts (with_counts e.counts d)
          ∙ ap (with_counts counts) (r.same ∙ inner.same)
          ∙ sym (commute stops rest counts f);
      later = omega (arith, count, before, after, later);
      counts =
          ap (counted f.steps) (same_counts ∙ r.counts)
          ∙ ap (λ k. counted k (counted_over d.steps (e.steps - d.steps) d.counts)) (let at : f.steps ≡ e.steps + m = omega (arith, count, before, after) in at)
          ∙ sym (counted_once e.steps m (counted_over d.steps (e.steps - d.steps) d.counts) some close)
          ∙ ap (λ k. counted_over k m (counted_over d.steps (e.steps - d.steps) d.counts)) (sym to)
          ∙ sym (counted_more d.steps (e.steps - d.steps) m d.counts)
          ∙ ap (λ k. counted_over d.steps k d.counts) (sym apart);
    }

-- ---- what is kept beside a machine that runs

twin_now : (w x : View) → now x ≡ now w → IsTrue w.quiet → IsTwin x (now w)
twin_now w x same quiet =
    let steps = ap (λ (p : Past). p.steps) same in
    record {
      quiet = quiet;
      running = λ none. ap (λ (p : Past). p.over) (sym same) ∙ none;
      before = λ less. absurd (omega (arith, less, steps));
    }

-- before the first step
pub shows_started : (v : View) (breaks last : List ℕ) → v.steps ≡ 0 → v.over ≡ None → IsTrue v.quiet → breaks ≡ [] → last ≡ [] → Shows (held_by v breaks last) v.state (started v.state)
shows_started v breaks last steps over quiet no_breaks no_places = record {
  state = refl;
  steps = steps;
  over = sym (ap (option_map (came_out v.state 0)) over);
  quiet = quiet;
  breaks = no_breaks;
  last = no_places;
  since = record {
    state_is = ap (λ (e : Session). e.state) (no_steps [] (started v.state));
    steps_is = ap (λ (e : Session). e.steps) (no_steps [] (started v.state));
    over_is = ap (λ (e : Session). e.over) (no_steps [] (started v.state));
  };
}

-- where the machine alone is kept
pub twins_alone : (v w : View) → IsTrue v.quiet → now w ≡ now v → w.past ≡ now v ∷ [] → All (IsTwin w) w.past
twins_alone v w quiet same is =
    subst (All (IsTwin w)) (sym is) (All-cons (IsTwin w) (now v) [] (twin_now v w same quiet) (All-nil (IsTwin w)))

pub kept_alone : (v w : View) (breaks last : List ℕ) (start : State) (d : Session) → w.past ≡ now v ∷ [] → Shows (held_by v breaks last) start d → All (IsKept start) w.past
kept_alone v w breaks last start d is h =
    subst (All (IsKept start)) (sym is) (All-cons (IsKept start) (now v) [] (shown_kept v breaks last start d h) (All-nil (IsKept start)))

twins_on : (v x : View) (kept : List Past) → v.over ≡ None → All (IsTwin v) kept → All (IsTwin x) kept
twins_on v x kept none each =
    All-weaker (IsTwin v) (IsTwin x) (λ y t. record { quiet = t.quiet; running = λ _. t.running none; before = λ _. t.running none }) kept each

-- after steps, and a note
pub twins_noted : (v w x : View) → v.over ≡ None → w.past ≡ v.past → now x ≡ now w → x.past ≡ noted (now w) w.past → IsTrue w.quiet → All (IsTwin v) v.past → All (IsTwin x) x.past
twins_noted v w x none past same kept quiet each =
    subst (All (IsTwin x)) (sym (kept ∙ ap (noted (now w)) past)) (noted_all (IsTwin x) (now w) v.past (twin_now w x same quiet) (twins_on v x v.past none each))

pub some_noted : (v w x : View) → w.past ≡ v.past → x.past ≡ noted (now w) w.past → 1 ≤ length v.past → 1 ≤ length x.past
some_noted v w x past kept some =
    subst (λ (l : List Past). 1 ≤ length l) (sym (kept ∙ ap (noted (now w)) past)) (noted_some (now w) v.past some)

-- ---- back

-- the session at a count that is kept, where these are the counts and the breakpoints
abbrev at_count : State → (count : ℕ) → (counts breaks : List ℕ) → Session
at_count s count counts breaks = record (session_at s count) { places = []; breaks = breaks; counts = counts }

-- what holds of all that is kept holds of the last
last_has : (P : Past → Type 0) (v : Past) (kept : List Past) → IsLast v kept → All P kept → P v
last_has P v kept last each = subst P (last.1 v) (each (length kept - 1) v (omega (arith, last.0)))

up_to_all : (P : Past → Type 0) (target : ℕ) (kept : List Past) → All P kept → All P (up_to target kept)
up_to_all P target kept each = All-take P _ kept each

-- what a way back leaves had done no more steps than the target, and had come to no end
pub back_twins : (v x : View) (target : ℕ) (kept : List Past) → target < v.steps → All (IsTwin v) kept → All (IsTwin x) (up_to target kept)
back_twins v x target kept before each k d inside =
    let t = up_to_all (IsTwin v) target kept each k d inside in
    let few = reached_all target kept k d inside in
    let over = t.before (omega (arith, few, before)) in
    record { quiet = t.quiet; running = λ _. over; before = λ _. over }

-- so had the machine that a way back leaves
pub record IsBack (w : Past) (target : ℕ) : Type 0 where
  pub running : w.over ≡ None
  pub quiet : IsTrue w.quiet
  pub before : w.steps ≤ target

pub back_is : (v : View) (w : Past) (target : ℕ) (kept : List Past) → target < v.steps → IsLast w (up_to target kept) → All (IsTwin v) kept → IsBack w target
back_is v w target kept before last each =
    let t = last_has (IsTwin v) w (up_to target kept) last (up_to_all (IsTwin v) target kept each) in
    let few = last_has (λ x. x.steps ≤ target) w (up_to target kept) last (reached_all target kept) in
    record {
      running = t.before (omega (arith, few, before));
      quiet = t.quiet;
      before = few;
    }

last_steps : (w : Past) (kept : List Past) → IsLast w kept → last_of (counts_of kept) ≡ w.steps
last_steps w kept last =
    let some = last.0 in
    ap (λ n. get_or (counts_of kept) (n - 1) 0) (length-map kept (λ (v : Past). v.steps))
    ∙ get_or-map (λ (v : Past). v.steps) kept (length kept - 1) w 0 (omega (arith, some))
    ∙ ap (λ (v : Past). v.steps) (last.1 w)

-- ---- the session at the target, from its start on

-- a session whose places come behind others, with other counts and breakpoints
abbrev behind : (front counts breaks : List ℕ) → Session → Session
behind front counts breaks d = record d { places = front ++ d.places; counts = counts; breaks = breaks }

behind_step : (front counts breaks : List ℕ) (d : Session) → stepped (behind front counts breaks d) ≡ behind front counts breaks (stepped d)
behind_step front counts breaks d =
    ap (λ (p : List ℕ). record (stepped d) { places = p; counts = counts; breaks = breaks }) (append_assoc front d.places (d.state.pc ∷ []))

behind_steps : (front counts breaks : List ℕ) (n : ℕ) (d : Session) → steps_to [] n (behind front counts breaks d) ≡ behind front counts breaks (steps_to [] n d)
behind_steps front counts breaks zero d = no_steps [] (behind front counts breaks d) ∙ ap (behind front counts breaks) (sym (no_steps [] d))
behind_steps front counts breaks (suc n) d = go (behind_steps front counts breaks n (stepped d)) (is_some d.over) refl
  where
    go : steps_to [] n (behind front counts breaks (stepped d)) ≡ behind front counts breaks (steps_to [] n (stepped d)) → (b : Bool) → is_some d.over ≡ b → steps_to [] (suc n) (behind front counts breaks d) ≡ behind front counts breaks (steps_to [] (suc n) d)
    go rest true e = steps_when_over [] (suc n) (behind front counts breaks d) e ∙ ap (behind front counts breaks) (sym (steps_when_over [] (suc n) d e))
    go rest false e =
        at_step [] n (behind front counts breaks d) e refl
        ∙ ap (steps_to [] n) (behind_step front counts breaks d)
        ∙ rest
        ∙ ap (behind front counts breaks) (sym (at_step [] n d e refl))

breaks_stay : (n : ℕ) (d : Session) → (steps_to [] n d).breaks ≡ d.breaks
breaks_stay n d = ap (λ (e : Session). e.breaks) (behind_steps [] d.counts d.breaks n d)

-- steps and then others
in_turn : (m n : ℕ) (d : Session) → steps_to [] (m + n) d ≡ steps_to [] n (steps_to [] m d)
in_turn zero n d = ap (λ k. steps_to [] k d) (let e : 0 + n ≡ n = omega arith in e) ∙ ap (steps_to [] n) (sym (no_steps [] d))
in_turn (suc m) n d = go (in_turn m n (stepped d)) (is_some d.over) refl
  where
    go : steps_to [] (m + n) (stepped d) ≡ steps_to [] n (steps_to [] m (stepped d)) → (b : Bool) → is_some d.over ≡ b → steps_to [] (suc m + n) d ≡ steps_to [] n (steps_to [] (suc m) d)
    go rest true e = steps_when_over [] (suc m + n) d e ∙ sym (steps_when_over [] n d e) ∙ ap (steps_to [] n) (sym (steps_when_over [] (suc m) d e))
    go rest false e =
        ap (λ k. steps_to [] k d) (let more : suc m + n ≡ suc (m + n) = omega arith in more)
        ∙ at_step [] (m + n) d e refl
        ∙ rest
        ∙ ap (steps_to [] n) (sym (at_step [] m d e refl))

-- as many places as steps
places_are : (n : ℕ) (d : Session) → length d.places ≡ d.steps → length (steps_to [] n d).places ≡ (steps_to [] n d).steps
places_are zero d h = ap (λ (e : Session). length e.places) (no_steps [] d) ∙ h ∙ ap (λ (e : Session). e.steps) (sym (no_steps [] d))
places_are (suc n) d h = go (places_are n (stepped d)) (is_some d.over) refl
  where
    more : length (stepped d).places ≡ (stepped d).steps
    more = length-append d.places (d.state.pc ∷ []) ∙ ap (λ k. k + 1) h

    go : (length (stepped d).places ≡ (stepped d).steps → length (steps_to [] n (stepped d)).places ≡ (steps_to [] n (stepped d)).steps) → (b : Bool) → is_some d.over ≡ b → length (steps_to [] (suc n) d).places ≡ (steps_to [] (suc n) d).steps
    go rest true e = ap (λ (s : Session). length s.places) (steps_when_over [] (suc n) d e) ∙ h ∙ ap (λ (s : Session). s.steps) (sym (steps_when_over [] (suc n) d e))
    go rest false e =
        ap (λ (s : Session). length s.places) (at_step [] n d e refl)
        ∙ rest more
        ∙ ap (λ (s : Session). s.steps) (sym (at_step [] n d e refl))

-- so the steps done again from a count lead to the session at the target
pub done_again : (s : State) (count target : ℕ) (counts breaks : List ℕ) → count ≤ target → (session_at s count).steps ≡ count → steps_to [] (target - count) (at_count s count counts breaks) ≡ back_at s count target counts breaks
done_again s count target counts breaks below at =
    let e = session_at s count in
    let m = target - count in
    let base = at_count s count counts breaks in
    let x = steps_to [] m base in
    let size : length e.places ≡ count = places_are count (started s) refl ∙ at in
    let whole : behind e.places e.counts e.breaks base ≡ e = ap (λ (p : List ℕ). record e { places = p }) (append-nil e.places) in
    let all : session_at s target ≡ behind e.places e.counts e.breaks x =
    ap (session_at s) (let sum : target ≡ count + m = omega (arith, below) in sum)
    ∙ in_turn count m (started s)
    ∙ ap (steps_to [] m) (sym whole)
    ∙ behind_steps e.places e.counts e.breaks m base in
    let past : drop count (e.places ++ x.places) ≡ x.places =
    ap (λ k. drop k (e.places ++ x.places)) (sym size)
    ∙ drop-append-le (length e.places) e.places x.places (omega arith)
    ∙ ap (λ p. p ++ x.places) (drop_all (length e.places) e.places (omega arith)) in
    sym (
    ap (λ (f : Session). record f { places = drop count f.places; breaks = breaks; counts = counts }) all
    ∙ ap (λ (p : List ℕ). record x { places = p; breaks = breaks; counts = counts }) past
    ∙ ap (λ (b : List ℕ). record x { breaks = b; counts = counts }) (sym (breaks_stay m base))
    ∙ ap (λ (c : List ℕ). record x { counts = c }) (sym (counts_stay [] m base))
    )

-- the session at the count
pub back_shows : (v w : View) (target : ℕ) (breaks last : List ℕ) (start : State) (d : Session) → IsLast (now w) (up_to target v.past) → Stands (held_by v breaks last) start d → Shows (held_by w breaks []) start (at_count d.start (last_of (counts_to target d.counts)) (counts_to target d.counts) d.breaks)
back_shows v w target breaks last start d is h =
    let kept = up_to target v.past in
    let k : IsKept start (now w) = last_has (IsKept start) (now w) kept is (up_to_all (IsKept start) target v.past h.each) in
    let since = k.since in
    let counts : counts_of kept ≡ counts_to target d.counts = counts_up_to target v.past ∙ ap (counts_to target) h.counts in
    let count : w.steps ≡ last_of (counts_to target d.counts) = sym (last_steps (now w) kept is) ∙ ap last_of counts in
    let at : Shows (held_by w breaks []) start (at_count start w.steps (counts_to target d.counts) d.breaks) =
    record {
      state = sym since.state_is;
      steps = sym since.steps_is;
      over = since.over_is ∙ ap₂ (λ (s : State) n. option_map (came_out s n) w.over) (sym since.state_is) (sym since.steps_is);
      quiet = k.quiet;
      breaks = h.shows.breaks;
      last = refl;
      since = record {
        state_is = ap (λ n. (session_at start n).state) since.steps_is;
        steps_is = ap (λ n. (session_at start n).steps) since.steps_is;
        over_is = ap (λ n. (session_at start n).over) since.steps_is;
      };
    } in
    subst (λ s. Shows (held_by w breaks []) start (at_count s (last_of (counts_to target d.counts)) (counts_to target d.counts) d.breaks)) (sym h.start_is)
    (subst (λ n. Shows (held_by w breaks []) start (at_count start n (counts_to target d.counts) d.breaks)) count at)

-- and the session at the target
pub back_stands : (v w x : View) (target left : ℕ) (breaks last last' : List ℕ) (start : State) (d : Session) → IsLast (now w) (up_to target v.past) → x.past ≡ up_to target v.past → w.steps ≤ target → left ≡ target - w.steps → Stands (held_by v breaks last) start d → ((e : Session) → Shows (held_by w breaks []) start e → Shows (held_by x breaks last') start (steps_to [] left e)) → Stands (held_by x breaks last') start (gone_back target d)
back_stands v w x target left breaks last last' start d is past below rest h next =
    let kept = up_to target v.past in
    let k : IsKept start (now w) = last_has (IsKept start) (now w) kept is (up_to_all (IsKept start) target v.past h.each) in
    let counts : counts_of kept ≡ counts_to target d.counts = counts_up_to target v.past ∙ ap (counts_to target) h.counts in
    let count = last_of (counts_to target d.counts) in
    let is_count : w.steps ≡ count = sym (last_steps (now w) kept is) ∙ ap last_of counts in
    let base = at_count d.start count (counts_to target d.counts) d.breaks in
    let more : left ≡ target - count = rest ∙ ap (λ n. target - n) is_count in
    let at : (session_at d.start count).steps ≡ count =
    ap (λ (s : State). (session_at s count).steps) h.start_is ∙ ap (λ n. (session_at start n).steps) (sym is_count) ∙ k.since.steps_is ∙ is_count in
    let again : Stands (held_by x breaks last') start (steps_to [] (target - count) base) = record {
      shows = subst (λ n. Shows (held_by x breaks last') start (steps_to [] n base)) more (next base (back_shows v w target breaks last start d is h));
      start_is = start_stays [] (target - count) base ∙ start_stays [] count (started d.start) ∙ h.start_is;
      counts = ap counts_of past ∙ counts ∙ sym (counts_stay [] (target - count) base);
      each = subst (All (IsKept start)) (sym past) (up_to_all (IsKept start) target v.past h.each);
    } in
    subst (Stands (held_by x breaks last') start) (done_again d.start count target (counts_to target d.counts) d.breaks (omega (arith, below, is_count)) at) again

-- ---- whether a way back is too far

pub near_enough : (count steps target : ℕ) (kept : List Past) (counts : List ℕ) → count ≤ steps → target ≡ steps - count → can_go_back target steps kept ≡ true → counts_of kept ≡ counts → is_too_far count steps counts ≡ false
near_enough count steps target kept counts few is can same =
    let first : first_of (counts_of kept) ≤ target = leb-true _ target (and_parts _ _ can).0 in
    let start : first_of (counts_of kept) ≡ first_of counts = ap first_of same in
    ap₂ (λ a b. a || b) (le-ltb steps count few) (le-ltb (steps - count) (first_of counts) (omega (arith, first, start, is)))

pub goes_back : (count target : ℕ) (d : Session) (held : DebuggerState) (start : State) → is_too_far count d.steps d.counts ≡ false → target ≡ d.steps - count → Stands held start (gone_back target d) → Stands held start (after_back count d)
goes_back count target d held start near is h =
    subst (Stands held start) (ap (λ n. gone_back n d) is ∙ sym (cond-false (is_too_far count d.steps d.counts) _ _ near)) h
