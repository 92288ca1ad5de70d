-- From the state before the items that can be done over all lanes, to the end of a pass.
use Rattle.std.proofs.Common.{◌≡◌, ℕ, ◌+◌, ◌<◌, ◌≤◌, ℤ, List, ◌∷◌, length, sym, ap, ◌∙◌, arith}
use Rattle.guest_types.specs.EarlyLoads.{StopList}
use Rattle.guest_types.specs.Length.{lanes}
use Rattle.guest_types.specs.Memory.{Memory}
use Rattle.kernel_tree.specs.Typing.{var_scope}
use Rattle.kernel_meaning.specs.Ends.{BlockEnd, Going}
use Rattle.kernel_meaning.specs.Eval.{Names}
use Rattle.kernel_meaning.specs.Iterate.{iterate}
use Rattle.kernel_meaning.specs.ScalarRun.{iterations}
use Rattle.machine_model.specs.declared.outcome.StopKind.{StopKind}
use Rattle.machine_model.specs.Machine.{State, p_at}
use Rattle.label_fix.specs.DraftRun.{DraftEntry, Put, Laid}
use Rattle.label_fix.specs.Stretches.{Leads}
use Rattle.label_fix.proofs.StretchSteps.{leads_of}
use Rattle.loop_form.specs.LoopItems.{Item}
use Rattle.vector_order.specs.Orders.{Lanes, Out, Fine, by_item}
use Rattle.vector_order.specs.Items.{acts_of}
use Rattle.chunk_emit.specs.ChunkCode.{items_words, puts}
use Rattle.chunk_emit.specs.Chunk.{sum_at, Holds}
use Rattle.chunk_emit.specs.Fits.{Assigned}
use Rattle.chunk_emit.specs.Head.{Ground, IsGround, AtHead, layout, width, most_lanes}
use Rattle.chunk_emit.specs.StopPlaces.{OneComesTo, SomeComesTo}
use Rattle.chunk_emit.specs.ItemsRun.{Does, does_fine, does_fail}
use Rattle.chunk_emit.proofs.StopsAt.{stop_at_following, stop_at_near}
use Rattle.first_fault.specs.SuppressedLanes.{SuppressedOn}
use Rattle.first_fault.proofs.Stretches.{follow}
use Rattle.chunk_pass.specs.PassCode.{advance_word}
use Rattle.chunk_pass.specs.Chunks.{items_of, IsChunk, Done, FineIsDone, Failing, FailIsFault, AllOn}
use Rattle.chunk_pass.specs.Passes.{Passes, comes, stops}
use Rattle.chunk_pass.proofs.LaneWords.{advance_leads}
use Rattle.chunk_pass.proofs.LaneHolds.{setting, is_setting, top_is}
use Rattle.chunk_pass.proofs.PassLeads.{further}
use Rattle.chunk_pass.proofs.PassEnds.{given_right, head_following, top_following, held_index_following, following}

-- the words from the items on that can be done over all lanes
abbrev pub rest_words : Ground → List Item → List DraftEntry → List DraftEntry
rest_words g items rest = puts (items_words (width g) (layout g) items) (Put (advance_word (width g)) ∷ rest)

-- what iterations come to by these items is what they come to by those of the loop
abbrev pub AreAmong : Ground → List Item → Type 0
AreAmong g items = (kind : StopKind) (j at : ℕ) → OneComesTo g.names items kind j at → OneComesTo g.names (items_of g) kind j at

some_among : (g : Ground) (items : List Item) (i k : ℕ) → AreAmong g items → (kind : StopKind) (at : ℕ) → SomeComesTo g.names items i k kind at → SomeComesTo g.names (items_of g) i k kind at
some_among g items i k among kind at h = (h.0, h.1, h.2, among kind h.0 at h.3)

-- a reason for a lane that is left out after k of n lanes, where so many free elements or more were suppressed, of which `was` tells
abbrev pub Reason : Ground → (i k n : ℕ) → Names → Lanes → (BlockEnd Names → ℕ → Type 0 → Type 0) → (cut : ℕ) (was : Type 0) → Type 1
Reason g i k n cur t why cut was =
    k < n → (out : Lanes) (names : Names) → by_item (acts_of g.names (items_of g)) k i t ≡ Fine out → iterations (var_scope g.kernel) g.for_loop k i t.memory cur ≡ Going out.memory names → (all : ℕ) (here : Type 0) → cut ≤ all → (was → here)
    → why (iterate (var_scope g.kernel) g.for_loop (i + k) out.memory names) all here

module _
    (fine : FineIsDone) (fails : FailIsFault) (g : Ground) {i : ℕ} {cur : Names} {m : Memory} {sum : List ℕ → ℕ → ℤ} {s : State} (ground : IsGround g) (h : AtHead g i cur m sum s) (assigned : Assigned (layout g)) (d : Laid) (rest : List DraftEntry) {k : ℕ} {stop : StopList} (t : Lanes) (now : t.memory ≡ m)
    (chunk : IsChunk g i k t) (items : List Item) (among : AreAmong g items) where
  module _ (why : BlockEnd Names → ℕ → Type 0 → Type 0) (n most : ℕ) (few : k ≤ n) {code : List DraftEntry} {from mid : State} {b : ℕ} (before : Leads d code from (rest_words g items rest) mid b) (le : b + (length (items_words (width g) (layout g) items) + 1) ≤ most) (reason : Reason g i k n cur t why before.cut (SuppressedOn (width g) before k)) where
    fine_pass : {p : ℕ} {out : Lanes} (end : State) → by_item (acts_of g.names (items_of g)) k i t ≡ Fine out → Leads d (rest_words g items rest) mid (Put (advance_word (width g)) ∷ rest) end (length (items_words (width g) (layout g) items)) → Holds (layout g) (setting g i k sum s.x stop) p out end
        → Passes why g n i cur m d code from rest most
    fine_pass {out = out} end is leads holds =
        let done : Done g (setting g i k sum s.x stop) i k cur t.memory out = fine g (setting g i k sum s.x stop) i k cur sum t out ground h.between (is_setting g i k sum s.x stop) chunk is (given_right g ground h chunk.within holds) in
        let top = top_is g ground k (p_at end 0) holds.top in
        let count : lanes end.vl (width g) ≡ most_lanes g = ap (λ v. lanes v (width g)) holds.vl in
        let last = advance_leads (width g) k end (omega (arith, holds.few, count)) (λ e lt. top e (omega (arith, lt, count))) in
        let whole = further most le before (follow (length (items_words (width g) (layout g) items) + 1) (omega arith) leads last) in
        comes k out.memory done.names (sum_at (layout g) (setting g i k sum s.x stop) out) (following g ground h chunk.within holds) few
        (ap (λ memory. iterations (var_scope g.kernel) g.for_loop k i memory cur) (sym now) ∙ done.goes) whole.leads
        (λ left. reason left out done.names is done.goes whole.leads.cut (SuppressedOn (width g) whole.leads k) whole.more (whole.on (width g) k))
        (head_following g ground h chunk.within holds done.between) (top_following g ground h chunk.within holds) (held_index_following g ground h chunk.within holds)

    pub rest_pass : {q : ℕ} {out : Out} → by_item (acts_of g.names (items_of g)) k i t ≡ out → AllOn g i k t → Does (layout g) (setting g i k sum s.x stop) d (rest_words g items rest) mid (Put (advance_word (width g)) ∷ rest) q (length (items_words (width g) (layout g) items)) (SomeComesTo g.names items i k) out → Passes why g n i cur m d code from rest most
    rest_pass is all (does_fine end goes holds) = fine_pass end is (leads_of goes) holds
    rest_pass is all (does_fail {m = left} kind access stopped) =
        let failing : Failing g i k cur t.memory left = fails g i k cur sum t left ground h.between chunk all is in
        stops k failing.j left failing.faulted kind few (ap (λ memory. iterations (var_scope g.kernel) g.for_loop k i memory cur) (sym now) ∙ failing.fails) failing.from failing.until access failing.kept
        (stop_at_near (some_among g items i k among kind) (stop_at_following most (omega (arith, le)) before stopped))
