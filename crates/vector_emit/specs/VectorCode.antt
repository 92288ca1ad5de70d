-- The vector code of a kernel's loop. Without a break its test stands at the end of a pass, and while four whole chunks are
-- left, four passes are done before a test, or two where a pass is long; with one, a pass may begin with no lane, and where none came through a chunk, one
-- iteration is done by itself.
use Rattle.std.specs.Prelude.{ℕ, zero, suc, ◌+◌, ◌*◌, List, [], ◌∷◌, length, Bool, true, false, nat_lt}
use Rattle.std.specs.List.{list_any}
use Rattle.guest_types.specs.declared.length.Width.{Width}
use Rattle.guest_types.specs.declared.length.Width.TheVariants.{B, H, S, D}
use Rattle.a64_code.specs.Table.{subs}
use Rattle.sve_code.specs.Table.{Name, ptest, cntb, cnth, cntw, cntd}
use Rattle.machine_model.specs.InstructionTable.{Listed, Vector}
use Rattle.kernel_tree.specs.Plain.{Program}
use Rattle.label_fix.specs.DraftRun.{Always, If, DraftEntry, Put, Branch, Place, ins}
use Rattle.label_fix.specs.Registers.{iteration, lanes_left, turn_limit, xzr}
use Rattle.label_fix.specs.Conditions as conditions
use Rattle.reg_assign.specs.Registers.{Assignment}
use Rattle.loop_form.specs.Lanes.{lane_width_of}
use Rattle.loop_form.specs.LoopItems.{Item, loop_items_of}
use Rattle.dependence.specs.Apart.{bound_place}
use Rattle.close_bound.specs.CloseBound.{pass_steps}
use Rattle.lane_emit.specs.Stretch.{word}
use Rattle.chunk_emit.specs.ChunkCode.{puts}
use Rattle.chunk_emit.specs.KernelLayout.{layout_of_loop}
use Rattle.first_fault.specs.BreakRegion.{is_loop_break}
use Rattle.chunk_pass.specs.PassCode.{lanes_word, chunk_words, iteration_words, plain_words}
use Rattle.reductions.specs.EdgeCode.{start_code, fold_code}

-- PTEST P0, P0: Z is clear where a lane came through
abbrev pub any_lane : Listed
any_lane = Vector (word ptest (lanes_left ∷ lanes_left ∷ []))

-- CNTB, CNTH, CNTW, CNTD X8: the lanes of a chunk
abbrev pub count_name : Width → Name
count_name B = cntb
count_name H = cnth
count_name S = cntw
count_name D = cntd

abbrev pub count_word : Width → Listed
count_word w = Vector (word (count_name w) (turn_limit ∷ []))

-- A turn has four passes, or two where the loop has more than 32 items: so the words of a long pass do not stand in a file five times.
abbrev pub is_long : List Item → Bool
is_long items = nat_lt 32 (length items)

abbrev pub turn_passes : (long : Bool) → ℕ
turn_passes true = 2
turn_passes false = 4

-- the logarithm of this
abbrev pub turn_shift : (long : Bool) → ℕ
turn_shift true = 1
turn_shift false = 2

-- so many passes one after another
abbrev pub times : ℕ → List Listed → List DraftEntry → List DraftEntry
times zero is rest = rest
times (suc t) is rest = puts is (times t is rest)

-- with a break; label n stands before a chunk, and the next one after the loop
abbrev pub breaking_code : Program → (a b : Assignment) → List Item → (n : ℕ) → List DraftEntry → List DraftEntry
breaking_code k a b items n rest =
    Place n ∷ puts (chunk_words (lane_width_of k) (layout_of_loop k a b) (bound_place k) items)
    (Put any_lane ∷ Branch (If conditions.ne) n ∷ ins subs (xzr ∷ iteration ∷ 0 ∷ bound_place k ∷ 0 ∷ []) ∷ Branch (If conditions.hs) (suc n)
    ∷ puts (iteration_words (lane_width_of k) (layout_of_loop k a b) items) (Put any_lane ∷ Branch (If conditions.ne) n ∷ Place (suc n) ∷ rest))

-- Without a break, and so with some lanes in P0: X8 = n - t * L for a bound n, turns of t passes and chunks of L lanes, and where so
-- many chunks are there, turns while X9 is no greater; then the lanes that are left. Label n is where they are in P0, the next one
-- after the loop, and the one after it before a turn.
abbrev pub turns_code : Program → (a b : Assignment) → List Item → (n : ℕ) → List DraftEntry → List DraftEntry
turns_code k a b items n rest =
    Put (count_word (lane_width_of k)) ∷ ins subs (turn_limit ∷ bound_place k ∷ turn_shift (is_long items) ∷ turn_limit ∷ 0 ∷ []) ∷ Branch (If conditions.lo) n
    ∷ Place (suc (suc n)) ∷ times (turn_passes (is_long items)) (plain_words (lane_width_of k) (layout_of_loop k a b) items)
    (ins subs (xzr ∷ iteration ∷ 0 ∷ turn_limit ∷ 0 ∷ []) ∷ Branch (If conditions.ls) (suc (suc n)) ∷ Put (lanes_word (lane_width_of k) (bound_place k)) ∷ Branch (If conditions.eq) (suc n) ∷ rest)

-- turns, and then a pass at a time
abbrev pub straight_code : Program → (a b : Assignment) → List Item → (n : ℕ) → List DraftEntry → List DraftEntry
straight_code k a b items n rest =
    Put (lanes_word (lane_width_of k) (bound_place k)) ∷ Branch (If conditions.eq) (suc n)
    ∷ turns_code k a b items n (Place n ∷ puts (plain_words (lane_width_of k) (layout_of_loop k a b) items)
    (Put (lanes_word (lane_width_of k) (bound_place k)) ∷ Branch (If conditions.ne) n ∷ Place (suc n) ∷ rest))

-- how many labels they take
abbrev pub labels_by : (breaks : Bool) → ℕ
labels_by true = 2
labels_by false = 3

abbrev pub passes_by : Bool → Program → (a b : Assignment) → List Item → (n : ℕ) → List DraftEntry → List DraftEntry
passes_by true k a b items n rest = breaking_code k a b items n rest
passes_by false k a b items n rest = straight_code k a b items n rest

abbrev pub passes_labels : Program → ℕ
passes_labels k = labels_by (list_any is_loop_break (loop_items_of k))

-- how many words they have at most, by the steps of a pass
abbrev pub words_by : (breaks : Bool) → (pass : ℕ) → ℕ
words_by true pass = 2 * pass
words_by false pass = 1 + 5 * pass

abbrev pub passes_most : Program → ℕ
passes_most k = words_by (list_any is_loop_break (loop_items_of k)) (pass_steps k)

-- the passes, by whether the loop has a break
abbrev pub passes_code : Program → (a b : Assignment) → (n : ℕ) → List DraftEntry → List DraftEntry
passes_code k a b n rest = passes_by (list_any is_loop_break (loop_items_of k)) k a b (loop_items_of k) n rest

-- the vector code of a loop, from label n on; after it the scalar code goes on at a label of its own
abbrev pub vector_code : (ℕ → ℕ) → Program → (a b : Assignment) → (scalar n : ℕ) → List DraftEntry → List DraftEntry
vector_code R k a b scalar n rest = start_code k a (passes_code k a b n (fold_code R k a (Branch Always scalar ∷ rest)))
