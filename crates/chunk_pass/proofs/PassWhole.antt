-- What a pass does: a chunk of a loop with a break, one iteration of it, and a chunk of a loop without a break.
use Rattle.std.proofs.Common.{◌≡◌, ℕ, ◌+◌, ◌≤◌, false, List, [], ◌∷◌, ◌++◌, length, refl, sym, ap, ◌∙◌, subst, arith, length-append}
use Rattle.std.specs.List.{list_any}
use Rattle.std.specs.Prelude.{if◌then◌else◌}
use Rattle.guest_types.specs.declared.length.Width.{Width}
use Rattle.guest_types.specs.declared.length.Width.TheVariants.{B}
use Rattle.guest_types.specs.Length.{IsLength, lanes}
use Rattle.machine_model.specs.InstructionTable.{Listed}
use Rattle.label_fix.specs.DraftRun.{DraftEntry, Put}
use Rattle.dependence.specs.Apart.{bound_place}
use Rattle.kernel_tree.specs.Items.{loop_start}
use Rattle.loop_form.specs.LoopItems.{Item}
use Rattle.chunk_emit.specs.ChunkCode.{items_words, puts}
use Rattle.chunk_emit.specs.Fits.{FitsItems, following_items}
use Rattle.chunk_emit.specs.Head.{Ground, layout, width, most_lanes, limit}
use Rattle.chunk_emit.proofs.ItemRuns.{items_run, puts-append}
use Rattle.first_fault.specs.Region.{region_way}
use Rattle.first_fault.specs.RegionCode.{Early, Single, exits_words, single_words}
use Rattle.first_fault.specs.KernelFits.{KernelFits}
use Rattle.first_fault.specs.BreakRegion.{is_loop_break, region_of, rest_of}
use Rattle.first_fault.proofs.RegionRuns.{exits_run, single_runs}
use Rattle.chunk_pass.specs.PassCode.{lanes_word, first_lane_words, index_words, advance_word, chunk_words, iteration_words, plain_words}
use Rattle.chunk_pass.specs.Chunks.{items_of, FineIsDone, FailIsFault, NextHalts}
use Rattle.chunk_pass.specs.Passes.{LeftOut, Passes, lanes_at, ChunkPasses, IterationPasses, PlainPasses}
use Rattle.chunk_pass.specs.Halts.{Breaks}
use Rattle.chunk_pass.proofs.LaneHolds.{setting, blank, blank_lanes, is_chunk, lanes_hold}
use Rattle.chunk_pass.proofs.LaneStarts.{assigned_in, plain_begun, chunk_begun, iteration_begun}
use Rattle.chunk_pass.proofs.PassRests.{rest_words, rest_pass}
use Rattle.chunk_pass.proofs.PassRegions.{fits_at, region_pass}
use Rattle.chunk_pass.proofs.PassReasons.{chunk_reasons, iteration_reasons}

-- ---- the code of a pass, piece by piece

-- the words after the region, as they stand in a pass
abbrev tail_words : Ground → List Item → List Listed
tail_words g items = items_words (width g) (layout g) items ++ advance_word (width g) ∷ []

two_pieces : (g : Ground) (rest : List DraftEntry) (a : List Listed) (items : List Item) → puts (a ++ tail_words g items) rest ≡ puts a (rest_words g items rest)
two_pieces g rest a items = puts-append a (tail_words g items) rest ∙ ap (puts a) (puts-append (items_words (width g) (layout g) items) (advance_word (width g) ∷ []) rest)

three_pieces : (g : Ground) (rest : List DraftEntry) (a b : List Listed) (items : List Item) → puts (a ++ (b ++ tail_words g items)) rest ≡ puts a (puts b (rest_words g items rest))
three_pieces g rest a b items = puts-append a (b ++ tail_words g items) rest ∙ ap (puts a) (two_pieces g rest b items)

two_count : (g : Ground) (a : List Listed) (items : List Item) → length (a ++ tail_words g items) ≡ length a + (length (items_words (width g) (layout g) items) + 1)
two_count g a items = length-append a (tail_words g items) ∙ ap (λ n. length a + n) (length-append (items_words (width g) (layout g) items) (advance_word (width g) ∷ []))

three_count : (g : Ground) (a b : List Listed) (items : List Item) → length (a ++ (b ++ tail_words g items)) ≡ length a + (length b + (length (items_words (width g) (layout g) items) + 1))
three_count g a b items = length-append a (b ++ tail_words g items) ∙ ap (λ n. length a + n) (two_count g b items)

-- ---- without a break

no_region : (items : List Item) → list_any is_loop_break items ≡ false → region_of items ≡ []
no_region [] e = refl
no_region (it ∷ items) e = ap (λ b. if b then it ∷ region_of items else []) e

pub all_rest : (items : List Item) → list_any is_loop_break items ≡ false → rest_of items ≡ items
all_rest [] e = refl
all_rest (it ∷ items) e = ap (λ b. if b then rest_of items else it ∷ items) e

-- ---- the passes

some_lanes : (vl : ℕ) (w : Width) → IsLength vl → 1 ≤ lanes vl w
some_lanes vl B h = omega (arith, h.1)
some_lanes vl other h = omega (arith, h.1)

module _ (fine : FineIsDone) (fails : FailIsFault) (halts : NextHalts) (fits : KernelFits) where
  pub chunk_passes : ChunkPasses
  chunk_passes g d rest i cur m sum s ground breaks_loop h =
      let n = lanes_at g i in
      let items = items_of g in
      let region = exits_words (width g) (layout g) (region_of items) in
      let tail = rest_words g (rest_of items) rest in
      let few : n ≤ most_lanes g = omega arith in
      let within : i + n ≤ limit g = omega (arith, h.between.within) in
      let begun = chunk_begun g ground d (puts region tail) s h in
      let fit = fits_at fine fails fits g ground begun.head (assigned_in g ground) d rest n few within n begun.end.stops in
      let holds = lanes_hold g n ground begun.head begun.held_index few within begun.top in
      let most = length (chunk_words (width g) (layout g) (bound_place g.kernel) items) in
      let count = three_count g (index_words (layout g)) region (rest_of items) in
      let pieces = ap (λ c. Put (lanes_word (width g) (bound_place g.kernel)) ∷ c) (three_pieces g rest (index_words (layout g)) region (rest_of items)) in
      subst (λ c. Passes LeftOut g n i cur m d c s rest most) (sym pieces)
      (region_pass fine fails fits g ground begun.head (assigned_in g ground) d rest n few within LeftOut Early (chunk_reasons halts g i n cur m sum ground h.between few within) most begun.leads (omega (arith, count)) holds
      (exits_run (layout g) (setting g i n sum begun.end.x begun.end.stops) d tail (region_of items) (loop_start g.kernel + 1) (blank_lanes m) begun.end (assigned_in g ground) fit.region holds))

  pub iteration_passes : IterationPasses
  iteration_passes g d rest i cur m sum s ground breaks_loop h held_index lt =
      let items = items_of g in
      let region = single_words (width g) (layout g) (region_of items) in
      let tail = rest_words g (rest_of items) rest in
      let few : 1 ≤ most_lanes g = some_lanes g.vl (width g) ground.sized in
      let within : i + 1 ≤ limit g = omega (arith, lt) in
      let begun = iteration_begun g ground d (puts region tail) s few h held_index in
      let fit = fits_at fine fails fits g ground begun.head (assigned_in g ground) d rest 1 few within 1 begun.end.stops in
      let holds = lanes_hold g 1 ground begun.head begun.held_index few within begun.top in
      let most = length (iteration_words (width g) (layout g) items) in
      let count = three_count g (first_lane_words (width g)) region (rest_of items) in
      subst (λ c. Passes (λ iteration_end cut here. Breaks iteration_end) g 1 i cur m d c s rest most) (sym (three_pieces g rest (first_lane_words (width g)) region (rest_of items)))
      (region_pass fine fails fits g ground begun.head (assigned_in g ground) d rest 1 few within (λ iteration_end cut here. Breaks iteration_end) Single (iteration_reasons g i cur m ground h.between) most begun.leads (omega (arith, count)) holds
      (single_runs (layout g) (setting g i 1 sum begun.end.x begun.end.stops) d tail (region_of items) (loop_start g.kernel + 1) (blank_lanes m) begun.end (assigned_in g ground) fit.region holds (omega arith)))

  pub plain_passes : PlainPasses
  plain_passes g d rest i cur m sum s ground breaks_loop h lt top =
      let n = lanes_at g i in
      let items = items_of g in
      let tail = rest_words g items rest in
      let few : n ≤ most_lanes g = omega arith in
      let within : i + n ≤ limit g = omega (arith, h.between.within) in
      let begun = plain_begun g ground d tail n s h top in
      let fit = fits_at fine fails fits g ground begun.head (assigned_in g ground) d rest n few within n begun.end.stops in
      let holds = lanes_hold g n ground begun.head begun.held_index few within begun.top in
      let most = length (plain_words (width g) (layout g) items) in
      let count = two_count g (index_words (layout g)) items in
      let none = no_region items breaks_loop in
      let all = all_rest items breaks_loop in
      let start : following_items (loop_start g.kernel + 1) (region_of items) ≡ loop_start g.kernel + 1 = ap (following_items (loop_start g.kernel + 1)) none in
      let rest_fits : FitsItems (layout g) (setting g i n sum begun.end.x begun.end.stops) (loop_start g.kernel + 1) items =
      subst (λ q. FitsItems (layout g) (setting g i n sum begun.end.x begun.end.stops) q items) start (subst (FitsItems (layout g) (setting g i n sum begun.end.x begun.end.stops) (following_items (loop_start g.kernel + 1) (region_of items))) all fit.rest) in
      subst (λ c. Passes (λ iteration_end cut here. ⊥) g n i cur m d c s rest most) (sym (two_pieces g rest (index_words (layout g)) items))
      (rest_pass fine fails g ground begun.head (assigned_in g ground) d rest (blank_lanes m) refl (is_chunk g i n m few within) items (λ kind j at one. one) (λ iteration_end cut here. ⊥) n most (omega arith) begun.leads (omega (arith, count)) (λ lt out names is goes cut here more give. absurd (omega (arith, lt)))
      refl (λ e lt. (blank, ap (λ r. region_way g.names r (i + e) m blank) none))
      (items_run (layout g) (setting g i n sum begun.end.x begun.end.stops) d (Put (advance_word (width g)) ∷ rest) items (loop_start g.kernel + 1) (blank_lanes m) begun.end (assigned_in g ground) rest_fits holds))
