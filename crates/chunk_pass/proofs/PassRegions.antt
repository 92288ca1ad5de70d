-- From the state before the break region to the end of a pass.
use Rattle.std.proofs.Common.{◌≡◌, ℕ, zero, ◌+◌, ◌<◌, ◌≤◌, ℤ, List, [], ◌∷◌, ◌++◌, length, refl, sym, ap, ◌∙◌, subst, arith, inl, inr}
use Rattle.guest_types.specs.EarlyLoads.{StopList}
use Rattle.guest_types.specs.Memory.{Memory, byte_at}
use Rattle.kernel_tree.specs.Typing.{var_scope}
use Rattle.kernel_tree.specs.Items.{loop_start}
use Rattle.kernel_meaning.specs.Ends as ends
use Rattle.kernel_meaning.specs.Ends.{BlockEnd, Next, Faulted, Going, Failed}
use Rattle.kernel_meaning.specs.Eval.{Names}
use Rattle.kernel_meaning.specs.Iterate.{iterate}
use Rattle.kernel_meaning.specs.Ends.{Broke as BrokeOut}
use Rattle.kernel_meaning.specs.ScalarRun.{iterations}
use Rattle.machine_model.specs.declared.outcome.StopKind.{StopKind}
use Rattle.machine_model.specs.declared.outcome.StopKind.TheVariants.{Read}
use Rattle.machine_model.specs.Machine.{State}
use Rattle.label_fix.specs.DraftRun.{DraftEntry, Laid}
use Rattle.label_fix.specs.Stretches.{Leads}
use Rattle.loop_form.specs.LoopItems.{Item}
use Rattle.vector_order.specs.Orders.{Lane, Lanes, Out, Fine, Fail, go_on, column, by_item}
use Rattle.vector_order.specs.Items.{item_act, acts_of}
use Rattle.chunk_emit.specs.ChunkCode.{items_words}
use Rattle.chunk_emit.specs.Chunk.{Setting, Holds}
use Rattle.chunk_emit.specs.Fits.{Assigned}
use Rattle.chunk_emit.specs.Head.{Ground, IsGround, Between, AtHead, layout, width, most_lanes, limit}
use Rattle.chunk_emit.specs.StopPlaces.{OneComesTo, SomeComesTo}
use Rattle.chunk_emit.proofs.StopsAt.{stop_at_following, stop_at_near}
use Rattle.chunk_emit.proofs.ItemRuns.{items_run}
use Rattle.first_fault.specs.Region.{Way, On, Fell, region_way}
use Rattle.first_fault.specs.RegionCode.{Mode}
use Rattle.first_fault.specs.RegionRuns.{Why, RegionOutcome, stops, comes}
use Rattle.first_fault.specs.Rest.{RestStarts}
use Rattle.first_fault.specs.Prefix.{Inside}
use Rattle.first_fault.specs.BreakRegion.{region_of, rest_of}
use Rattle.first_fault.specs.KernelFits.{following_region, LoopFits, KernelFits}
use Rattle.first_fault.proofs.Spelled.{as_spelled}
use Rattle.first_fault.specs.IterationWays.{IsIteration}
use Rattle.first_fault.proofs.RestHolds.{rest_holds}
use Rattle.first_fault.proofs.BreakRegions.{region_splits}
use Rattle.first_fault.specs.SuppressedLanes.{SuppressedOn}
use Rattle.first_fault.proofs.WayIterations.{way_is_iteration}
use Rattle.chunk_pass.specs.Chunks.{items_of, FineIsDone, FailIsFault}
use Rattle.chunk_pass.specs.Passes as pass
use Rattle.chunk_pass.specs.Passes.{Passes}
use Rattle.chunk_pass.proofs.LaneHolds.{setting, blank, blank_lanes, is_chunk, fits_setting}
use Rattle.chunk_pass.proofs.PassLeads.{nearer}
use Rattle.chunk_pass.proofs.PassRests.{rest_words, AreAmong, rest_pass}

-- ---- items in two parts

acts_append : (names : Names) (xs ys : List Item) (n i : ℕ) (t : Lanes) → by_item (acts_of names (xs ++ ys)) n i t ≡ go_on (by_item (acts_of names xs) n i t) (by_item (acts_of names ys) n i)
acts_append names [] ys n i t = refl
acts_append names (x ∷ xs) ys n i t = by (column (item_act names x) n i t) (λ s. acts_append names xs ys n i s)
  where
    by : (o : Out) → ((s : Lanes) → by_item (acts_of names (xs ++ ys)) n i s ≡ go_on (by_item (acts_of names xs) n i s) (by_item (acts_of names ys) n i))
        → go_on o (by_item (acts_of names (xs ++ ys)) n i) ≡ go_on (go_on o (by_item (acts_of names xs) n i)) (by_item (acts_of names ys) n i)
    by (Fine s) ih = ih s
    by (Fail m) ih = refl

-- ---- what an iteration comes to

come_front : (names : Names) (xs ys : List Item) (kind : StopKind) (j at : ℕ) → OneComesTo names xs kind j at → OneComesTo names (xs ++ ys) kind j at
come_front names [] ys kind j at h = absurd h
come_front names (x ∷ xs) ys kind j at (inl h) = inl h
come_front names (x ∷ xs) ys kind j at (inr h) = inr (come_front names xs ys kind j at h)

come_back : (names : Names) (xs ys : List Item) (kind : StopKind) (j at : ℕ) → OneComesTo names ys kind j at → OneComesTo names (xs ++ ys) kind j at
come_back names [] ys kind j at h = h
come_back names (x ∷ xs) ys kind j at h = inr (come_back names xs ys kind j at h)

-- by an item of the region, and by one of the rest
region_comes : (g : Ground) → IsGround g → (i at : ℕ) → OneComesTo g.names (region_of (items_of g)) Read i at → SomeComesTo g.names (items_of g) i 1 Read at
region_comes g ground i at h =
    let split = region_splits g.kernel g.for_loop ground.loops ground.vector in
    (i, omega arith, omega arith, subst (λ items. OneComesTo g.names items Read i at) split.whole (come_front g.names (region_of (items_of g)) (rest_of (items_of g)) Read i at h))

rest_among : (g : Ground) → IsGround g → AreAmong g (rest_of (items_of g))
rest_among g ground kind j at h =
    let split = region_splits g.kernel g.for_loop ground.loops ground.vector in
    subst (λ items. OneComesTo g.names items kind j at) split.whole (come_back g.names (region_of (items_of g)) (rest_of (items_of g)) kind j at h)

-- ---- one iteration of the scalar loop

-- an iteration that faults
fell_fails : (g : Ground) (i : ℕ) (cur : Names) (m : Memory) → IsIteration Fell m (iterate (var_scope g.kernel) g.for_loop i m cur) → iterations (var_scope g.kernel) g.for_loop 1 i m cur ≡ Failed m i
unfolding iterations
fell_fails g i cur m is = by (iterate (var_scope g.kernel) g.for_loop i m cur) is
  where
    by : (iteration_end : BlockEnd Names) → IsIteration Fell m iteration_end → ends.go_on iteration_end i (iterations (var_scope g.kernel) g.for_loop zero (i + 1)) ≡ Failed m i
    by (Next after names) is = absurd is
    by (BrokeOut after names) is = absurd is
    by (Faulted after) is = ap (λ memory. Failed memory i) is

-- how an iteration fares in the region
abbrev pub way_in : Ground → Memory → ℕ → Lane → Way
way_in g m j = region_way g.names (region_of (items_of g)) j m

pub region_iteration : (g : Ground) (i : ℕ) (cur : Names) (m : Memory) {sum : List ℕ → ℕ → ℤ} → IsGround g → Between g i cur sum → (lane : Lane) (way : Way) → way_in g m i lane ≡ way → IsIteration way m (iterate (var_scope g.kernel) g.for_loop i m cur)
region_iteration g i cur m ground h lane way is =
    subst (λ w. IsIteration w m (iterate (var_scope g.kernel) g.for_loop i m cur)) is
    (way_is_iteration g.kernel g.for_loop g.args g.start g.names cur i m lane ground.sound ground.loops ground.vector ground.begins h.steady)

-- a reason of the pass from that of the region, for n lanes from iteration i on
abbrev pub Reasons : Ground → (i n : ℕ) → Names → Memory → (BlockEnd Names → ℕ → Type 0 → Type 0) → Mode → Type 1
Reasons g i n cur m why mode =
    (k : ℕ) → k < n → (d : Laid) (c e : List DraftEntry) (s t : State) (most : ℕ) (leads : Leads d c s e t most) → Why mode (width g) (way_in g m (i + k) blank) leads k → (out : Lanes) (names : Names) → by_item (acts_of g.names (items_of g)) k i (blank_lanes m) ≡ Fine out → iterations (var_scope g.kernel) g.for_loop k i m cur ≡ Going out.memory names → (all : ℕ) (here : Type 0) → leads.cut ≤ all → (SuppressedOn (width g) leads k → here)
    → why (iterate (var_scope g.kernel) g.for_loop (i + k) out.memory names) all here

-- ---- the region, and the rest

-- what stands after the words of the region
abbrev pub following_words : Ground → List DraftEntry → List DraftEntry
following_words g rest = rest_words g (rest_of (items_of g)) rest

module _
    (fine : FineIsDone) (fails : FailIsFault) (fits : KernelFits) (g : Ground) {i : ℕ} {cur : Names} {m : Memory} {sum : List ℕ → ℕ → ℤ} {s : State} (ground : IsGround g) (h : AtHead g i cur m sum s) (assigned : Assigned (layout g)) (d : Laid) (rest : List DraftEntry)
    (n : ℕ) (few : n ≤ most_lanes g) (within : i + n ≤ limit g) where
  abbrev pub begun : Setting
  begun = setting g i n sum s.x s.stops

  pub fits_at : (k : ℕ) (stop : StopList) → LoopFits g.kernel g.for_loop g.vectors g.predicates (setting g i k sum s.x stop)
  fits_at k stop = fits g.kernel g.for_loop g.vectors g.predicates (setting g i k sum s.x stop) ground.sound ground.loops ground.vector ground.few (as_spelled g.kernel g.for_loop ground.spelled ground.loops).outer ground.z_fits ground.p_fits (fits_setting g k stop ground h)

  module _ (why : BlockEnd Names → ℕ → Type 0 → Type 0) (mode : Mode) (reasons : Reasons g i n cur m why mode) (most : ℕ) {code inner : List DraftEntry} {from : State} {a b : ℕ} (before : Leads d code from inner s a)
      (le : a + b + (length (items_words (width g) (layout g) (rest_of (items_of g))) + 1) ≤ most) (holds : Holds (layout g) begun (loop_start g.kernel + 1) (blank_lanes m) s) where
    through : (k : ℕ) (new : ℕ → Lane) (mid : State) → k ≤ n → ((e : ℕ) → e < k → way_in g m (i + e) blank ≡ On (new (i + e))) → (leads : Leads d inner s (following_words g rest) mid b) → (k < n → Why mode (width g) (way_in g m (i + k) blank) leads k) → Inside mode (layout g) begun s k (following_region g.kernel g.for_loop) new mid
        → Passes why g n i cur m d code from rest most
    through k new mid kn come leads left inside =
        let near = nearer (a + b) (omega arith) before leads in
        let start : RestStarts (layout g) begun (region_of (items_of g)) (blank_lanes m) k (following_region g.kernel g.for_loop) mid =
        rest_holds mode (layout g) begun (region_of (items_of g)) (loop_start g.kernel + 1) k (following_region g.kernel g.for_loop) (blank_lanes m) s mid new assigned (fits_at n s.stops).region holds (λ e lt. refl) come inside (fits_at n s.stops).dead in
        let split = region_splits g.kernel g.for_loop ground.loops ground.vector in
        let parts : by_item (acts_of g.names (items_of g)) k i (blank_lanes m) ≡ by_item (acts_of g.names (rest_of (items_of g))) k i start.lanes =
        ap (λ items. by_item (acts_of g.names items) k i (blank_lanes m)) (sym split.whole) ∙ acts_append g.names (region_of (items_of g)) (rest_of (items_of g)) k i (blank_lanes m)
        ∙ ap (λ o. go_on o (by_item (acts_of g.names (rest_of (items_of g))) k i)) start.done in
        rest_pass fine fails g ground h assigned d rest (blank_lanes m) refl (is_chunk g i k m (omega (arith, kn, few)) (omega (arith, kn, within))) (rest_of (items_of g)) (rest_among g ground) why n most kn near.leads le
        (λ lt out names is goes all here more on. reasons k lt d inner (following_words g rest) s mid b leads (left lt) out names is goes all here (omega (arith, more, near.more)) (λ one. on (near.on (width g) k one)))
        parts (λ e lt. (new (i + e), come e lt))
        (items_run (layout g) (setting g i k sum s.x mid.stops) d _ (rest_of (items_of g)) (following_region g.kernel g.for_loop) start.lanes mid assigned (fits_at k mid.stops).rest start.holds)

    pub region_pass : RegionOutcome mode (layout g) begun d s n (following_region g.kernel g.for_loop) b (blank_lanes m).lane inner s (following_words g rest) (way_in g m) (OneComesTo g.names (region_of (items_of g)) Read i) → Passes why g n i cur m d code from rest most
    region_pass (stops some fell stopped) =
        pass.stops 1 i s.memory m Read (omega (arith, some)) (fell_fails g i cur m (region_iteration g i cur m ground h.between blank Fell fell)) (omega arith) (omega arith) (inl refl)
        (λ z lt away. ap (λ memory. byte_at memory z) h.memory) (stop_at_near (region_comes g ground i) (stop_at_following most (omega (arith, le)) before stopped))
    region_pass (comes k new mid kn come leads left inside) = through k new mid kn come leads left inside
