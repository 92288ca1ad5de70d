-- The passes of a loop without a break: all lanes of a chunk come through, and WHILELO takes those of the next one. While the whole
-- chunks of a turn are left, P0 serves its passes.
use Rattle.std.proofs.Common.{◌≡◌, ◌≢◌, ℕ, zero, suc, ◌+◌, ◌-◌, ◌*◌, ◌^◌, ◌<◌, ◌≤◌, inl, Bool, true, false, List, [], ◌∷◌, length, sym, ap, ◌∙◌, subst, arith, ⊎_elim}
use Rattle.std.specs.Prelude.{ℤ, slice_index}
use Rattle.std.specs.List.{list_any}
use Rattle.std.proofs.lemmas.Bool.{cases_lt}
use Rattle.guest_types.specs.Memory.{Memory}
use Rattle.a64_code.specs.Table.{subs}
use Rattle.machine_model.specs.Arithmetic.{difference}
use Rattle.machine_model.specs.InstructionTable.{Listed}
use Rattle.machine_model.specs.Machine.{State, p_at}
use Rattle.kernel_tree.specs.Typing.{var_scope}
use Rattle.kernel_meaning.specs.Ends.{Going}
use Rattle.kernel_meaning.specs.ScalarRun.{iterations}
use Rattle.kernel_meaning.proofs.RunsFrom.{iterations_on}
use Rattle.kernel_meaning.specs.Eval.{Names}
use Rattle.label_fix.specs.DraftRun.{If, DraftEntry, Put, Branch, Place, Laid, following, ins}
use Rattle.label_fix.specs.Stretches.{Resolves, Leads}
use Rattle.label_fix.proofs.StretchSteps.{Goes, chain, go_more, leads_of, pass}
use Rattle.dependence.specs.Apart.{bound_place}
use Rattle.close_bound.specs.CloseBound.{pass_steps, turning_steps}
use Rattle.chunk_emit.specs.Chunk.{IsTop}
use Rattle.chunk_emit.specs.ChunkCode.{puts}
use Rattle.chunk_emit.specs.Head.{Ground, IsGround, AtHead, layout, width, most_lanes, limit}
use Rattle.first_fault.specs.BreakRegion.{is_loop_break}
use Rattle.first_fault.proofs.Stretches.{rest_at, follow}
use Rattle.chunk_pass.specs.Chunks.{items_of}
use Rattle.chunk_pass.specs.PassCode.{lanes_word, plain_words}
use Rattle.chunk_pass.specs.Passes.{lanes_at, Passes, comes, stops}
use Rattle.chunk_pass.proofs.PassLaws.{plain_law}
use Rattle.vector_emit.specs.VectorCode.{count_word, is_long, turn_passes, turn_shift, times, straight_code}
use Rattle.vector_emit.proofs.PassLoop.{Passing, pays_lanes, pays_two, pays_last, leaves_here, stops_here, passes_on}
use Rattle.vector_emit.proofs.KernelPassLoop.{loop_of, stop_of, has_lanes, head_at, Longer, following_goes}
use Rattle.vector_emit.proofs.PassSizes.{plain_fits}
use Rattle.vector_emit.proofs.While.{Taken, while_ends, while_begins, while_over, while_back}
use Rattle.vector_emit.proofs.Tests.{Tests, limit_small}
use Rattle.vector_emit.proofs.Grounds.{from_x, aside_same, ground_at, same_at, head_from}
use Rattle.vector_emit.proofs.Turns.{few_left, turn_left, turn_back, turn_over}
use Rattle.vector_emit.proofs.Labels.{following_puts}

-- The words lead to entries from which the passes run, as those of a ground that has the registers of that state.
pub record Enters (g : Ground) (b : Bool) (d : Laid) (rest c : List DraftEntry) (s : State) (cur : Names) (m : Memory) : Type 0 where
  pub x : List ℕ
  pub ground : IsGround (from_x g x)
  pub same : (r : ℕ) → r ≤ 25 → r ≢ 9 → r ≢ 8 → slice_index x r ≡ slice_index g.x r
  pub head : List DraftEntry
  pub state : State
  pub goes : Goes d c s head state (2 + turning_steps b)
  pub passing : Passing (loop_of (from_x g x) b d rest) head state 0 cur m

-- a turn has a chunk at least
turn_more : (long : Bool) (L : ℕ) → L ≤ turn_passes long * L
turn_more true L = omega arith
turn_more false L = omega arith

following_times : (d : Laid) (t : ℕ) (is : List Listed) (rest : List DraftEntry) → Resolves d (times t is rest) → Resolves d rest
following_times d zero is rest h = h
following_times d (suc t) is rest h = following_times d t is rest (following_puts d is (times t is rest) h)

module _ (g : Ground) (ground : IsGround g) (breaks_loop : list_any is_loop_break (items_of g) ≡ false) (d : Laid) (n : ℕ) (rest : List DraftEntry) where
  abbrev tail : List DraftEntry
  tail = Place (suc n) ∷ rest

  abbrev after : List DraftEntry
  after = Put (lanes_word (width g) (bound_place g.kernel)) ∷ Branch (If 1) n ∷ tail

  abbrev head : List DraftEntry
  head = puts (plain_words (width g) (layout g) (items_of g)) after

  abbrev most : ℕ
  most = length (plain_words (width g) (layout g) (items_of g))

  abbrev Runs : List DraftEntry → ℕ → Names → Memory → State → Type 0
  Runs c i cur m s = Passing (loop_of g false d rest) c s i cur m

  -- no iteration is left
  ends_here : {sum : List ℕ → ℕ → ℤ} (i : ℕ) (cur : Names) (m : Memory) (s : State) → AtHead g i cur m sum s → limit g ≤ i → Runs rest i cur m s
  ends_here {sum = sum} i cur m s h le =
      let within = h.between.within in
      leaves_here (loop_of g false d rest) (has_lanes g ground) 0 (rest_at 0) (omega arith) (omega arith) (omega arith) within (inl (omega (arith, le, within))) (record { sum = sum; head = h })

  module _ (back : following d n ≡ head) (out : following d (suc n) ≡ rest) where
    abbrev Later : ℕ → Type 0
    Later fuel = (i : ℕ) (cur : Names) (m : Memory) (sum : List ℕ → ℕ → ℤ) (s : State) → limit g < i + fuel → AtHead g i cur m sum s → i < limit g → IsTop (width g) (lanes_at g i) (p_at s 0) → Runs head i cur m s

    by_pass : (fuel i : ℕ) (cur : Names) (m : Memory) (s : State) → limit g < i + suc fuel → i < limit g → Later fuel → Passes (λ iteration_end cut here. ⊥) g (lanes_at g i) i cur m d head s after most → Runs head i cur m s
    by_pass fuel i cur m s less lt ih (stops k j left faulted kind le fails lo hi access kept stop) =
        let f = plain_fits g ground breaks_loop in
        stops_here (loop_of g false d rest) (has_lanes g ground) 1 k j faulted stop.stop (omega (arith, f)) (omega arith) (omega arith) (omega (arith, lt, le)) lo hi fails (stop_of g i k j left faulted kind (omega (arith, le)) (omega (arith, lt, le)) lo hi access kept stop.near)
    by_pass fuel i cur m s less lt ih (comes k now names sum end le goes lead why h top held_index) =
        ⊎_elim more over (cases_lt (i + k) (limit g))
      where
        all : lanes_at g i ≤ k
        all = ⊎_elim (λ part. absurd (why part)) (λ ge. ge) (cases_lt k (lanes_at g i))

        some : 0 < k
        some = let l = has_lanes g ground in let a = all in omega (arith, l, a, lt)

        first : Longer d head s after end most lead.cut
        first = record { leads = lead; more = omega arith }

        fits : most + 2 ≤ pass_steps g.kernel
        fits = plain_fits g ground breaks_loop

        more : i + k < limit g → Runs head i cur m s
        more ahead =
            let x = while_back d end n tail ground h ahead in
            let long = following_goes (most + 2) (omega arith) first (subst (λ es. Goes d after end es x.end 2) back x.goes) in
            let a = all in
            passes_on (loop_of g false d rest) (has_lanes g ground) 1 k long.leads (omega (arith, fits)) goes (pays_lanes (omega (arith, a, ahead))) (ih (i + k) names now sum x.end (let p = some in omega (arith, less, p)) x.head ahead x.top)

        over : limit g ≤ i + k → Runs head i cur m s
        over past =
            let x = while_over d end n tail ground h past in
            let long = following_goes (most + 2) (omega arith) first (chain 2 (omega arith) x.goes pass) in
            let within = x.head.between.within in
            passes_on (loop_of g false d rest) (has_lanes g ground) 1 k long.leads (omega (arith, fits)) goes (pays_last some (inl (omega (arith, past, within)))) (ends_here (i + k) names now x.end x.head past)

    follows : (fuel : ℕ) → Later fuel
    follows zero i cur m sum s less h lt top = absurd (omega (arith, less, lt))
    follows (suc fuel) i cur m sum s less h lt top = by_pass fuel i cur m s less lt (follows fuel) (plain_law g d after i cur m sum s ground breaks_loop h lt top)

  -- ---- turns

  abbrev after_turns : List DraftEntry
  after_turns = Put (lanes_word (width g) (bound_place g.kernel)) ∷ Branch (If 0) (suc n) ∷ Place n ∷ head

  abbrev ending : List DraftEntry
  ending = ins subs (31 ∷ 9 ∷ 0 ∷ 8 ∷ 0 ∷ []) ∷ Branch (If 9) (suc (suc n)) ∷ after_turns

  abbrev words : List Listed
  words = plain_words (width g) (layout g) (items_of g)

  abbrev long : Bool
  long = is_long (items_of g)

  abbrev turn : List DraftEntry
  turn = times (turn_passes long) words ending

  -- the iterations of a turn
  abbrev turn_lanes : ℕ
  turn_lanes = turn_passes long * most_lanes g

  -- a pass over a whole chunk: it stops, or leads before the next one
  data Whole (i : ℕ) (cur : Names) (m : Memory) (s : State) (es : List DraftEntry) : Type 0 where
    whole_comes : (now : Memory) (names : Names) (sum : List ℕ → ℕ → ℤ) (end : State) → iterations (var_scope g.kernel) g.for_loop (most_lanes g) i m cur ≡ Going now names → Leads d (puts words es) s es end most
        → AtHead g (i + most_lanes g) names now sum end → IsTop (width g) (most_lanes g) (p_at end 0) → Whole i cur m s es
    whole_stops : Runs (puts words es) i cur m s → Whole i cur m s es

  whole_of : (i : ℕ) (cur : Names) (m : Memory) (s : State) (es : List DraftEntry) → i + most_lanes g ≤ limit g → Passes (λ iteration_end cut here. ⊥) g (lanes_at g i) i cur m d (puts words es) s es most → Whole i cur m s es
  whole_of i cur m s es room (stops k j left faulted kind le fails lo hi access kept stop) =
      let f = plain_fits g ground breaks_loop in
      whole_stops (stops_here (loop_of g false d rest) (has_lanes g ground) 1 k j faulted stop.stop (omega (arith, f)) (omega arith) (omega arith) (omega (arith, room, le)) lo hi fails (stop_of g i k j left faulted kind (omega (arith, le)) (omega (arith, room, le)) lo hi access kept stop.near))
  whole_of i cur m s es room (comes k now names sum end le goes lead why h top held_index) =
      let e : k ≡ most_lanes g = ⊎_elim (λ part. absurd (why part)) (λ ge. omega (arith, ge, le, room)) (cases_lt k (lanes_at g i)) in
      whole_comes now names sum end (subst (λ k. iterations (var_scope g.kernel) g.for_loop k i m cur ≡ Going now names) e goes) lead (head_at (ap (λ k. i + k) e) h) (subst (λ k. IsTop (width g) k (p_at end 0)) e top)

  whole_pass : (i : ℕ) (cur : Names) (m : Memory) (sum : List ℕ → ℕ → ℤ) (s : State) (es : List DraftEntry) → i + most_lanes g ≤ limit g → AtHead g i cur m sum s → IsTop (width g) (most_lanes g) (p_at s 0) → Whole i cur m s es
  whole_pass i cur m sum s es room h top =
      let some = has_lanes g ground in
      let all : most_lanes g ≡ lanes_at g i = omega (arith, room) in
      whole_of i cur m s es room (plain_law g d es i cur m sum s ground breaks_loop h (omega (arith, room, some)) (subst (λ k. IsTop (width g) k (p_at s 0)) all top))

  -- what the words after the passes of a turn lead to
  record Continues (i : ℕ) (cur : Names) (m : Memory) (s : State) : Type 0 where
    to : List DraftEntry
    end : State
    goes : Goes d ending s to end 4
    passing : Runs to i cur m end

  fits : most + 2 ≤ pass_steps g.kernel
  fits = plain_fits g ground breaks_loop

  lead_on : (i : ℕ) (cur : Names) (m : Memory) (s : State) (es : List DraftEntry) → Whole i cur m s es
      → ((now : Memory) (names : Names) (sum : List ℕ → ℕ → ℤ) (end : State) → AtHead g (i + most_lanes g) names now sum end → IsTop (width g) (most_lanes g) (p_at end 0) → Runs es (i + most_lanes g) names now end) → Runs (puts words es) i cur m s
  lead_on i cur m s es (whole_stops r) on = r
  lead_on i cur m s es (whole_comes now names sum end goes leads h top) on =
      passes_on (loop_of g false d rest) (has_lanes g ground) 1 (most_lanes g) leads (let f = fits in omega (arith, f)) goes (pays_lanes (omega arith)) (on now names sum end h top)

  -- t passes and two more over whole chunks
  whole_passes : (t bottom i : ℕ) (cur : Names) (m : Memory) (sum : List ℕ → ℕ → ℤ) (s : State) → bottom ≤ i → i + (2 + t) * most_lanes g ≤ limit g → AtHead g i cur m sum s → IsTop (width g) (most_lanes g) (p_at s 0)
      → ((i : ℕ) (cur : Names) (m : Memory) (sum : List ℕ → ℕ → ℤ) (s : State) → bottom < i → AtHead g i cur m sum s → IsTop (width g) (most_lanes g) (p_at s 0) → Continues i cur m s) → Runs (times (suc (suc t)) words ending) i cur m s
  whole_passes zero bottom i cur m sum s low room h top go = by_first (whole_pass i cur m sum s (puts words ending) (omega (arith, room)) h top)
    where
      by_first : Whole i cur m s (puts words ending) → Runs (puts words (puts words ending)) i cur m s
      by_first (whole_stops r) = r
      by_first (whole_comes now names sum1 end goes leads h1 top1) = by_second (whole_pass (i + most_lanes g) names now sum1 end ending (omega (arith, room)) h1 top1)
        where
          by_second : Whole (i + most_lanes g) names now end ending → Runs (puts words (puts words ending)) i cur m s
          by_second (whole_stops r) = passes_on (loop_of g false d rest) (has_lanes g ground) 1 (most_lanes g) leads (let f = fits in omega (arith, f)) goes (pays_lanes (omega arith)) r
          by_second (whole_comes now2 names2 sum2 end2 goes2 leads2 h2 top2) =
              let some = has_lanes g ground in
              let c = go (i + most_lanes g + most_lanes g) names2 now2 sum2 end2 (omega (arith, low, some)) h2 top2 in
              let both = follow (most + most) (omega arith) leads leads2 in
              let long = follow (most + most + 4) (omega arith) both (leads_of c.goes) in
              let e : i + most_lanes g + most_lanes g ≡ i + (most_lanes g + most_lanes g) = omega arith in
              passes_on (loop_of g false d rest) some 2 (most_lanes g + most_lanes g) long (let f = fits in omega (arith, f)) (iterations_on (var_scope g.kernel) g.for_loop (most_lanes g) (most_lanes g) i m cur now names goes ∙ goes2) (pays_two (omega arith)) (subst (λ j. Runs c.to j names2 now2 c.end) e c.passing)
  whole_passes (suc t) bottom i cur m sum s low room h top go =
      lead_on i cur m s (times (suc (suc t)) words ending) (whole_pass i cur m sum s (times (suc (suc t)) words ending) (omega (arith, room)) h top)
      (λ now names sum1 end h1 top1. whole_passes t bottom (i + most_lanes g) names now sum1 end (omega (arith, low)) (omega (arith, room)) h1 top1 go)

  -- the passes of a turn
  turn_runs : (l : Bool) (bottom i : ℕ) (cur : Names) (m : Memory) (sum : List ℕ → ℕ → ℤ) (s : State) → bottom ≤ i → i + turn_passes l * most_lanes g ≤ limit g → AtHead g i cur m sum s → IsTop (width g) (most_lanes g) (p_at s 0)
      → ((i : ℕ) (cur : Names) (m : Memory) (sum : List ℕ → ℕ → ℤ) (s : State) → bottom < i → AtHead g i cur m sum s → IsTop (width g) (most_lanes g) (p_at s 0) → Continues i cur m s) → Runs (times (turn_passes l) words ending) i cur m s
  turn_runs true bottom i cur m sum s low room h top go = whole_passes 0 bottom i cur m sum s low room h top go
  turn_runs false bottom i cur m sum s low room h top go = whole_passes 2 bottom i cur m sum s low room h top go

  -- X8 holds the last iteration from which the chunks of a turn are left
  module _ (back : following d n ≡ head) (out : following d (suc n) ≡ rest) (again : following d (suc (suc n)) ≡ turn) (eight : slice_index g.x 8 ≡ difference (limit g) turn_lanes) (all_left : turn_lanes ≤ limit g) where
    eight_is : slice_index g.x 8 ≡ limit g - turn_lanes
    eight_is = eight ∙ less_is turn_lanes (limit_small g) all_left
      where
        less_is : (t : ℕ) → limit g < 2 ^ 64 → t ≤ limit g → difference (limit g) t ≡ limit g - t
        less_is t small le = omega (arith, small, le)

    eight_small : slice_index g.x 8 < 2 ^ 64
    eight_small = let e = eight_is in let small = limit_small g in omega (arith, e, small)

    abbrev Turning : ℕ → Type 0
    Turning fuel = (i : ℕ) (cur : Names) (m : Memory) (sum : List ℕ → ℕ → ℤ) (s : State) → limit g < i + fuel → i + turn_lanes ≤ limit g → AtHead g i cur m sum s → IsTop (width g) (most_lanes g) (p_at s 0) → Runs turn i cur m s

    -- after the passes of a turn
    ends_turn : (fuel i : ℕ) (cur : Names) (m : Memory) (sum : List ℕ → ℕ → ℤ) (s : State) → limit g < i + fuel → Turning fuel → AtHead g i cur m sum s → IsTop (width g) (most_lanes g) (p_at s 0) → Continues i cur m s
    ends_turn fuel i cur m sum s less ih h top = ⊎_elim over more (cases_lt (slice_index g.x 8) i)
      where
        more : i ≤ slice_index g.x 8 → Continues i cur m s
        more le =
            let x = turn_back d s (suc (suc n)) after_turns h eight_small le in
            let e = eight_is in
            record {
              to = turn;
              end = x.end;
              goes = go_more 4 (omega arith) (subst (λ es. Goes d ending s es x.end 2) again x.goes);
              passing = ih i cur m sum x.end less (omega (arith, le, e, all_left)) x.head (subst (IsTop (width g) (most_lanes g)) (sym x.p) top);
            }

        over : slice_index g.x 8 < i → Continues i cur m s
        over lt =
            let x = turn_over d s (suc (suc n)) after_turns h eight_small lt in
            ⊎_elim (some_left x) (none_left x) (cases_lt i (limit g))
          where
            some_left : Tests g i cur m sum d ending s after_turns 2 → i < limit g → Continues i cur m s
            some_left x ahead =
                let y = while_begins d x.end (suc n) (Place n ∷ head) ground x.head ahead in
                record {
                  to = head;
                  end = y.end;
                  goes = chain 4 (omega arith) x.goes (chain 2 (omega arith) y.goes pass);
                  passing = follows back out (suc (limit g)) i cur m sum y.end (omega arith) y.head ahead y.top;
                }

            none_left : Tests g i cur m sum d ending s after_turns 2 → limit g ≤ i → Continues i cur m s
            none_left x past =
                let y = while_ends d x.end (suc n) (Place n ∷ head) ground x.head past in
                record {
                  to = rest;
                  end = y.end;
                  goes = chain 4 (omega arith) x.goes (subst (λ es. Goes d after_turns x.end es y.end 2) out y.goes);
                  passing = ends_here i cur m y.end y.head past;
                }

    turning : (fuel : ℕ) → Turning fuel
    turning zero i cur m sum s less room h top = absurd (omega (arith, less, room))
    turning (suc fuel) i cur m sum s less room h top =
        turn_runs long i i cur m sum s (omega arith) room h top (λ j cur2 m2 sum2 s2 lt h2 top2. ends_turn fuel j cur2 m2 sum2 s2 (omega (arith, less, lt)) (turning fuel) h2 top2)

-- ---- from the first iteration on

module _ (g : Ground) (ground : IsGround g) (breaks_loop : list_any is_loop_break (items_of g) ≡ false) (d : Laid) (n : ℕ) (rest : List DraftEntry) where
  abbrev whole : List DraftEntry
  whole = straight_code g.kernel g.vectors g.predicates (items_of g) n rest

  abbrev first_pass : List DraftEntry
  first_pass = head g ground breaks_loop d n rest

  abbrev by : Bool
  by = is_long (items_of g)

  abbrev turns : List DraftEntry
  turns = Put (count_word (width g)) ∷ ins subs (8 ∷ bound_place g.kernel ∷ turn_shift by ∷ 8 ∷ 0 ∷ []) ∷ Branch (If 3) n ∷ Place (suc (suc n)) ∷ turn g ground breaks_loop d n rest

  module _ (back : following d n ≡ first_pass) (out : following d (suc n) ≡ rest) (again : following d (suc (suc n)) ≡ turn g ground breaks_loop d n rest) {sum : List ℕ → ℕ → ℤ} {cur : Names} {m : Memory} {s : State} (h : AtHead g 0 cur m sum s) where
    enters_with_no_lanes : limit g ≤ 0 → Enters g false d rest whole s cur m
    enters_with_no_lanes le =
        let x = while_ends d s (suc n) turns ground h le in
        let same = aside_same x.end x.head.is in
        let there = ground_at ground x.head same in
        record {
          x = x.end.x;
          ground = there;
          same = same_at x.head same;
          head = rest;
          state = x.end;
          goes = go_more 5 (omega arith) (subst (λ es. Goes d whole s es x.end 2) out x.goes);
          passing = ends_here (from_x g x.end.x) there breaks_loop d n rest 0 cur m x.end (head_from x.head same) le;
        }

    enters_with_some_lanes : 0 < limit g → Enters g false d rest whole s cur m
    enters_with_some_lanes lt =
        let x = while_begins d s (suc n) turns ground h lt in
        ⊎_elim (few x) (many x) (cases_lt (limit g) (turn_passes by * most_lanes g))
      where
        few : Taken g 0 cur m sum d whole s turns 2 → limit g < turn_passes by * most_lanes g → Enters g false d rest whole s cur m
        few x less =
            let y = few_left d x.end by n (Place (suc (suc n)) ∷ turn g ground breaks_loop d n rest) ground x.head less in
            record {
              x = y.x;
              ground = y.ground;
              same = y.same;
              head = first_pass;
              state = y.end;
              goes = chain 5 (omega arith) x.goes (subst (λ es. Goes d turns x.end es y.end 3) back y.goes);
              passing = follows (from_x g y.x) y.ground breaks_loop d n rest back out (suc (limit g)) 0 cur m sum y.end (omega arith) y.head lt (subst (IsTop (width g) (lanes_at g 0)) (sym y.p) x.top);
            }

        many : Taken g 0 cur m sum d whole s turns 2 → turn_passes by * most_lanes g ≤ limit g → Enters g false d rest whole s cur m
        many x le =
            let y = turn_left d x.end by n (Place (suc (suc n)) ∷ turn g ground breaks_loop d n rest) ground x.head le in
            let one = turn_more by (most_lanes g) in
            let all : lanes_at g 0 ≡ most_lanes g = omega (arith, le, one) in
            record {
              x = y.x;
              ground = y.ground;
              same = y.same;
              head = turn g ground breaks_loop d n rest;
              state = y.end;
              goes = chain 5 (omega arith) x.goes (chain 3 (omega arith) y.goes pass);
              passing = turning (from_x g y.x) y.ground breaks_loop d n rest back out again y.eight le (suc (limit g)) 0 cur m sum y.end (omega arith) (omega (arith, le)) y.head
                  (subst (λ k. IsTop (width g) k (p_at y.end 0)) all (subst (IsTop (width g) (lanes_at g 0)) (sym y.p) x.top));
            }

    enter : Enters g false d rest whole s cur m
    enter = ⊎_elim enters_with_some_lanes enters_with_no_lanes (cases_lt 0 (limit g))

  pub straight_runs : {sum : List ℕ → ℕ → ℤ} {cur : Names} {m : Memory} {s : State} → Resolves d whole → AtHead g 0 cur m sum s → Enters g false d rest whole s cur m
  straight_runs res h =
      let turned = following_times d (turn_passes by) (plain_words (width g) (layout g) (items_of g)) _ res.1 in
      let done = following_puts d (plain_words (width g) (layout g) (items_of g)) _ turned.1 in
      enter turned.0 done.0 res.0 h
