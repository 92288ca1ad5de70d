-- The passes of a loop with a break: a chunk, and where no lane came through it and the bound is not reached, one iteration by
-- itself.
use Rattle.std.proofs.Common.{◌≡◌, ℕ, zero, suc, ◌+◌, ◌*◌, ◌<◌, ◌≤◌, inl, inr, true, List, [], ◌∷◌, length, refl, sym, subst, arith, ⊎_elim}
use Rattle.std.specs.Prelude.{ℤ}
use Rattle.std.specs.List.{list_any}
use Rattle.std.proofs.lemmas.Bool.{cases_lt, cases_eq}
use Rattle.guest_types.specs.Memory.{Memory}
use Rattle.a64_code.specs.Table.{subs}
use Rattle.machine_model.specs.Machine.{State}
use Rattle.kernel_tree.specs.Typing.{var_scope}
use Rattle.kernel_meaning.specs.Ends.{Going}
use Rattle.kernel_meaning.specs.Eval.{Names}
use Rattle.kernel_meaning.specs.Iterate.{iterate}
use Rattle.kernel_meaning.specs.ScalarRun.{iterations}
use Rattle.kernel_meaning.proofs.RunsFrom.{none_done}
use Rattle.label_fix.specs.DraftRun.{If, DraftEntry, Put, Branch, Place, Laid, following, ins}
use Rattle.label_fix.specs.Stretches.{Resolves}
use Rattle.label_fix.proofs.StretchSteps.{Goes, chain, pass}
use Rattle.dependence.specs.Apart.{bound_place}
use Rattle.close_bound.specs.CloseBound.{pass_steps}
use Rattle.chunk_emit.specs.ChunkCode.{puts}
use Rattle.chunk_emit.specs.Head.{Ground, IsGround, AtHead, IndexHeld, layout, width, most_lanes, limit}
use Rattle.first_fault.specs.BreakRegion.{is_loop_break}
use Rattle.first_fault.specs.SuppressedLanes.{SuppressedOn}
use Rattle.chunk_emit.proofs.StopsAt.{stop_at_following}
use Rattle.chunk_pass.specs.Halts.{Breaks}
use Rattle.chunk_pass.specs.Chunks.{items_of}
use Rattle.chunk_pass.specs.PassCode.{chunk_words, iteration_words}
use Rattle.chunk_pass.specs.Passes.{lanes_at, LeftOut, breaks, faults, suppressed, Passes, comes, stops}
use Rattle.chunk_pass.proofs.PassLaws.{chunk_law, iteration_law}
use Rattle.vector_emit.specs.VectorCode.{any_lane, breaking_code}
use Rattle.vector_emit.proofs.Iterations.{none_gone}
use Rattle.vector_emit.proofs.PassLoop.{Passing, Pays, pays_lanes, pays_cut, pays_last, pays_one, Stuck, leaves_here, stops_here, passes_on}
use Rattle.vector_emit.proofs.KernelPassLoop.{HeadOf, loop_of, stop_of, has_lanes, head_at, same_place, Longer, following_leads, following_goes}
use Rattle.vector_emit.proofs.PassSizes.{chunk_fits, iteration_fits}
use Rattle.vector_emit.proofs.Tests.{Tests, held_index_kept, lanes_back, lanes_none, bound_reached, bound_ahead}
use Rattle.vector_emit.proofs.Labels.{following_puts}

module _ (g : Ground) (ground : IsGround g) (breaks_loop : list_any is_loop_break (items_of g) ≡ true) (d : Laid) (n : ℕ) (rest : List DraftEntry) where
  abbrev tail : List DraftEntry
  tail = Place (suc n) ∷ rest

  abbrev after_iteration : List DraftEntry
  after_iteration = Put any_lane ∷ Branch (If 1) n ∷ tail

  abbrev alone : List DraftEntry
  alone = puts (iteration_words (width g) (layout g) (items_of g)) after_iteration

  abbrev dry : List DraftEntry
  dry = ins subs (31 ∷ 9 ∷ 0 ∷ bound_place g.kernel ∷ 0 ∷ []) ∷ Branch (If 2) (suc n) ∷ alone

  abbrev after_chunk : List DraftEntry
  after_chunk = Put any_lane ∷ Branch (If 1) n ∷ dry

  abbrev head : List DraftEntry
  head = puts (chunk_words (width g) (layout g) (bound_place g.kernel) (items_of g)) after_chunk

  abbrev chunk_most : ℕ
  chunk_most = length (chunk_words (width g) (layout g) (bound_place g.kernel) (items_of g))

  abbrev iteration_most : ℕ
  iteration_most = length (iteration_words (width g) (layout g) (items_of g))

  module _ (back : following d n ≡ head) (out : following d (suc n) ≡ rest) where
    abbrev Runs : ℕ → Names → Memory → State → Type 0
    Runs i cur m s = Passing (loop_of g true d rest) head s i cur m

    -- where some lanes came through a chunk
    chunk_pays : (i k cut whole : ℕ) (here : Type 0) (now : Memory) (names : Names) → 0 < k → k ≤ lanes_at g i → i ≤ limit g → cut ≤ whole → (k < lanes_at g i → LeftOut (iterate (var_scope g.kernel) g.for_loop (i + k) now names) cut here)
        → Pays (loop_of g true d rest) (has_lanes g ground) k whole (Stuck (loop_of g true d rest) (has_lanes g ground) (i + k) now names) 1
    chunk_pays i k cut whole here now names some le within more why =
        ⊎_elim
        (λ short. by_reason (why short))
        (λ all.
        ⊎_elim
        (λ part. pays_last some (inl (omega (arith, all, le, part, within))))
        (λ full. pays_lanes full)
        (cases_lt k (most_lanes g)))
        (cases_lt k (lanes_at g i))
      where
        by_reason : LeftOut (iterate (var_scope g.kernel) g.for_loop (i + k) now names) cut here → Pays (loop_of g true d rest) (has_lanes g ground) k whole (Stuck (loop_of g true d rest) (has_lanes g ground) (i + k) now names) 1
        by_reason (breaks h) = pays_last some (inr (refl, inl h))
        by_reason (faults h) = pays_last some (inr (refl, inr h))
        by_reason (suppressed lt on) = pays_cut refl some (omega (arith, lt, more))

    -- ---- after a chunk of which no lane came through

    module _ (i : ℕ) (cur : Names) (m : Memory) (s : State) (ih : (sum : List ℕ → ℕ → ℤ) (names : Names) (now : Memory) (t : State) → AtHead g (i + 1) names now sum t → Runs (i + 1) names now t) where
      by_one_iteration : {cut : ℕ} {here : Type 0} {t : State} → i < limit g → Longer d head s alone t (chunk_most + 4) cut → LeftOut (iterate (var_scope g.kernel) g.for_loop i m cur) cut here → Passes (λ iteration_end cut here. Breaks iteration_end) g 1 i cur m d alone t after_iteration iteration_most → Runs i cur m s
      by_one_iteration {cut = cut} lt lead reason (stops k j left faulted kind le fails lo hi access kept stop) =
          let c = chunk_fits g ground breaks_loop in
          let t = iteration_fits g ground breaks_loop in
          let here = stop_at_following (chunk_most + 4 + iteration_most) (omega arith) lead.leads stop in
          stops_here (loop_of g true d rest) (has_lanes g ground) 2 k j faulted here.stop (omega (arith, c, t)) (omega arith) (omega arith) (omega (arith, lt, le)) lo hi fails
          (stop_of g i k j left faulted kind (let l = has_lanes g ground in omega (arith, le, l)) (omega (arith, lt, le)) lo hi access kept here.near)
      by_one_iteration {cut = cut} {here = here} lt lead reason (comes k now names sum end le goes iteration_lead why h top held_index) =
          ⊎_elim (λ none. broke (lanes_none d end k n tail h top none) none) (λ some. goes_on (lanes_back d end k n tail h top (omega (arith, some))) (omega (arith, some, le))) (cases_eq k 0)
        where
          both : Longer d head s after_iteration end (chunk_most + 4 + iteration_most) cut
          both = following_leads (chunk_most + 4 + iteration_most) (omega arith) lead iteration_lead

          fits : chunk_most + 4 + (iteration_most + 2) ≤ pass_steps g.kernel * 2
          fits = let c = chunk_fits g ground breaks_loop in let t = iteration_fits g ground breaks_loop in omega (arith, c, t)

          broke : Tests g (i + k) names now sum d after_iteration end tail 2 → k ≡ 0 → Runs i cur m s
          broke x none =
              let same = none_done (var_scope g.kernel) g.for_loop i m cur now names (subst (λ k. iterations (var_scope g.kernel) g.for_loop k i m cur ≡ Going now names) none goes) in
              let place : i + k ≡ i = omega (arith, none) in
              let all = following_goes (chunk_most + 4 + iteration_most + 2) (omega arith) both (chain 2 (omega arith) x.goes pass) in
              leaves_here (loop_of g true d rest) (has_lanes g ground) 2 all.leads (omega (arith, fits)) (omega arith) (omega arith) (omega (arith, lt)) (inr (refl, same_place (λ i m ns. Breaks (iterate (var_scope g.kernel) g.for_loop i m ns)) place same.0 same.1 (why (omega (arith, none)))))
              (same_place (λ i m ns. HeadOf g i ns m x.end) place same.0 same.1 (record { sum = sum; head = x.head }))

          cut_some : LeftOut (iterate (var_scope g.kernel) g.for_loop i m cur) cut here → k ≡ 1 → 0 < both.leads.cut
          cut_some (breaks h) one = let z = none_gone (var_scope g.kernel) g.for_loop k i m cur now names (inl h) goes in absurd (omega (arith, z, one))
          cut_some (faults h) one = let z = none_gone (var_scope g.kernel) g.for_loop k i m cur now names (inr h) goes in absurd (omega (arith, z, one))
          cut_some (suppressed some on) one = let more = both.more in omega (arith, some, more)

          goes_on : Tests g (i + k) names now sum d after_iteration end (following d n) 2 → k ≡ 1 → Runs i cur m s
          goes_on x one =
              let all = following_goes (chunk_most + 4 + iteration_most + 2) (omega arith) (record { leads = both.leads; more = cut_some reason one }) (subst (λ es. Goes d after_iteration end es x.end 2) back x.goes) in
              let place : i + k ≡ i + 1 = omega (arith, one) in
              passes_on (loop_of g true d rest) (has_lanes g ground) 2 k all.leads (omega (arith, fits)) goes (pays_one refl all.more one)
              (subst (λ j. Runs j names now x.end) (sym place) (ih sum names now x.end (head_at place x.head)))

      after_dry : {cut : ℕ} {here : Type 0} {sum : List ℕ → ℕ → ℤ} {t : State} → Longer d head s dry t (chunk_most + 2) cut → AtHead g i cur m sum t → IndexHeld g i t → (i < limit g → LeftOut (iterate (var_scope g.kernel) g.for_loop i m cur) cut here) → Runs i cur m s
      after_dry {sum = sum} {t = t} lead h held_index why = ⊎_elim ahead reached (cases_lt i (limit g))
        where
          reached : limit g ≤ i → Runs i cur m s
          reached le =
              let x = bound_reached d t (suc n) alone ground h le in
              let all = following_goes (chunk_most + 4) (omega arith) lead (subst (λ es. Goes d dry t es x.end 2) out x.goes) in
              let c = chunk_fits g ground breaks_loop in
              let within = h.between.within in
              leaves_here (loop_of g true d rest) (has_lanes g ground) 2 all.leads (omega (arith, c)) (omega arith) (omega arith) within (inl (omega (arith, le, within))) (record { sum = sum; head = x.head })

          ahead : i < limit g → Runs i cur m s
          ahead lt =
              let x = bound_ahead d t (suc n) alone ground h lt in
              by_one_iteration lt (following_goes (chunk_most + 4) (omega arith) lead x.goes) (why lt) (iteration_law g d after_iteration i cur m sum x.end ground breaks_loop x.head (held_index_kept g i t x.end x.z held_index) lt)

    -- ---- the loop

    abbrev Later : ℕ → Type 0
    Later fuel = (i : ℕ) (cur : Names) (m : Memory) (sum : List ℕ → ℕ → ℤ) (s : State) → limit g < i + fuel → AtHead g i cur m sum s → Runs i cur m s

    by_chunk : (fuel i : ℕ) (cur : Names) (m : Memory) (s : State) → limit g < i + suc fuel → i ≤ limit g → Later fuel → Passes LeftOut g (lanes_at g i) i cur m d head s after_chunk chunk_most → Runs i cur m s
    by_chunk fuel i cur m s less within ih (stops k j left faulted kind le fails lo hi access kept stop) =
        let c = chunk_fits g ground breaks_loop in
        stops_here (loop_of g true d rest) (has_lanes g ground) 1 k j faulted stop.stop (omega (arith, c)) (omega arith) (omega arith) (omega (arith, within, le)) lo hi fails (stop_of g i k j left faulted kind (omega (arith, le)) (omega (arith, within, le)) lo hi access kept stop.near)
    by_chunk fuel i cur m s less within ih (comes k now names sum end le goes lead why h top held_index) =
        ⊎_elim (λ none. dried (lanes_none d end k n dry h top none) none) (λ some. goes_on (lanes_back d end k n dry h top (omega (arith, some))) (omega (arith, some))) (cases_eq k 0)
      where
        first : Longer d head s after_chunk end chunk_most lead.cut
        first = record { leads = lead; more = omega arith }

        fits : chunk_most + 3 ≤ pass_steps g.kernel
        fits = chunk_fits g ground breaks_loop

        goes_on : Tests g (i + k) names now sum d after_chunk end (following d n) 2 → 0 < k → Runs i cur m s
        goes_on x some =
            let all = following_goes (chunk_most + 2) (omega arith) first (subst (λ es. Goes d after_chunk end es x.end 2) back x.goes) in
            passes_on (loop_of g true d rest) (has_lanes g ground) 1 k all.leads (omega (arith, fits)) goes (chunk_pays i k lead.cut all.leads.cut (SuppressedOn (width g) lead k) now names some le within all.more why)
            (ih (i + k) names now sum x.end (omega (arith, less, some)) x.head)

        dried : Tests g (i + k) names now sum d after_chunk end dry 2 → k ≡ 0 → Runs i cur m s
        dried x none =
            let same = none_done (var_scope g.kernel) g.for_loop i m cur now names (subst (λ k. iterations (var_scope g.kernel) g.for_loop k i m cur ≡ Going now names) none goes) in
            let place : i + k ≡ i = omega (arith, none) in
            after_dry i cur m s (λ sum names now t h. ih (i + 1) names now sum t (omega (arith, less)) h) (following_goes (chunk_most + 2) (omega arith) first x.goes)
            (same_place (λ i m ns. AtHead g i ns m sum x.end) place same.0 same.1 x.head) (held_index_kept g i end x.end x.z held_index)
            (λ lt. same_place (λ i m ns. LeftOut (iterate (var_scope g.kernel) g.for_loop i m ns) lead.cut (SuppressedOn (width g) lead k)) place same.0 same.1 (why (let l = has_lanes g ground in omega (arith, none, lt, l))))

    follows : (fuel : ℕ) → Later fuel
    follows zero i cur m sum s less h = let within = h.between.within in absurd (omega (arith, less, within))
    follows (suc fuel) i cur m sum s less h = by_chunk fuel i cur m s less h.between.within (follows fuel) (chunk_law g d after_chunk i cur m sum s ground breaks_loop h)

  pub breaking_runs : {sum : List ℕ → ℕ → ℤ} {cur : Names} {m : Memory} {s : State} → Resolves d (breaking_code g.kernel g.vectors g.predicates (items_of g) n rest) → AtHead g 0 cur m sum s → Passing (loop_of g true d rest) head s 0 cur m
  breaking_runs {sum = sum} {cur = cur} {m = m} {s = s} res h =
      let again = following_puts d (chunk_words (width g) (layout g) (bound_place g.kernel) (items_of g)) after_chunk res.1 in
      let done = following_puts d (iteration_words (width g) (layout g) (items_of g)) after_iteration again in
      follows res.0 done.0 (suc (limit g)) 0 cur m sum s (omega arith) h
