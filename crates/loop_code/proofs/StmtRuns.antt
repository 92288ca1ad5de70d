-- What the code of statements does.
use Rattle.std.proofs.Common.{◌≡◌, ℕ, suc, ◌+◌, ◌/◌, ◌%◌, ◌^◌, ◌<◌, ◌≤◌, Bool, true, false, cond, List, [], ◌∷◌, ◌++◌, length, take, Option, Some, None, Result, Ok, Err, inl, inr, refl, sym, ap, ap₂, ◌∙◌, subst, arith, ⊎_elim}
use Rattle.std.specs.Prelude.{ℤ, pos, ◌+ℤ◌, ◌*ℤ◌, option_and_then, nat_lt, bytes_eq, slice_index, if◌then◌else◌}
use Rattle.std.proofs.lemmas.Bool.{and_parts, cases_lt, lt-ltb, le-ltb}
use Rattle.guest_types.specs.declared.memory.AccessFault.{AccessFault}
use Rattle.guest_types.specs.Memory.{Memory, stored, put_number, put_byte, next_address, first_fault, can_write}
use Rattle.guest_types.proofs.Stores.{IsMemory-stored}
use Rattle.machine_model.specs.declared.outcome.StopKind.{StopKind}
use Rattle.machine_model.specs.declared.outcome.StopKind.TheVariants.{Read, Write}
use Rattle.machine_model.specs.InstructionTable.{Listed}
use Rattle.machine_model.specs.Machine.{State, Step, Went, Stopped, x_at, x_or_sp, jump, next}
use Rattle.machine_model.specs.Arithmetic.{sum}
use Rattle.machine_model.specs.Effects.{store_from}
use Rattle.machine_model.specs.Run.{IsAccess}
use Rattle.machine_model.proofs.StateLaws.{x_or_sp-low}
use Rattle.kernel_tree.specs.declared.ops.Ty.{Ty}
use Rattle.kernel_tree.specs.declared.ops.BinaryOp.{BinaryOp}
use Rattle.kernel_tree.specs.Plain.{Term, Action, Define, Put as PutTo, Update, Choose, Leave, Block, Done, Then, Otherwise, Nothing, Else}
use Rattle.kernel_tree.specs.Items.{term_size, action_size, block_size, otherwise_size, stream_offset}
use Rattle.kernel_tree.specs.Wrap.{wrap, bits_of, byte_count}
use Rattle.kernel_tree.specs.declared.ops.UpdateOp.{UpdateOp}
use Rattle.kernel_tree.specs.Typing.{Scope, Local, lookup, own, first, element_type, accumulator_type, index_type, after_action, after_block, left, defined}
use Rattle.kernel_tree.proofs.Scopes.{index_after}
use Rattle.kernel_meaning.specs.Ends.{BlockEnd, Next, Broke, Faulted}
use Rattle.kernel_meaning.specs.Operators.{word, binary_on, operator_of}
use Rattle.kernel_meaning.specs.Eval.{Named, Names, is_named, value_at, iteration, element_number, address, value}
use Rattle.kernel_meaning.specs.Iterate.{named, with_name, assigned, cut, define, update, write, put, choose, leave, then_do, act, do_block, do_otherwise}
use Rattle.label_fix.specs.DraftRun.{DraftEntry, Put, Branch, Place, Always, Laid, following, address_of, effect}
use Rattle.label_fix.proofs.StretchSteps.{Goes, Stops, Resolves, stay, chain, put_goes, put_stops, stop_after, stop_more, go_more, taken_goes, pass}
use Rattle.scalar_words.specs.Layout.{Form, LowBits, Ahead, Behind, Loose, loose_in, Layout, Home, Homes, is_home, reg_of, last_use_at, register_at, Lasts, NameLasts}
use Rattle.value_code.specs.ValueRegisters.{home}
use Rattle.scalar_words.specs.Words.{copy_word, word_code, at_type}
use Rattle.value_code.specs.ItemWords.{Side, index_word, index_register, store_code, store, operator_code}
use Rattle.value_code.proofs.Places.{place_at, address_moved}
use Rattle.value_code.proofs.WholeNames.{index_is, whole_itself}
use Rattle.value_code.proofs.Together.{together_address}
use Rattle.value_code.specs.Covers.{held_extent, is_enough, is_whole, index_form, stands_together, index_covers, covers, covers_truth}
use Rattle.loop_code.specs.Loosening.{covers_action, covers_block, covers_otherwise}
use Rattle.scalar_words.proofs.Told.{told_more, told_take, told_set, standing, standing_kept}
use Rattle.value_code.specs.Code.{place_of, added_number, loose_code, is_fused, right_side, side_code, parts_code}
pub use Rattle.scalar_words.specs.Safe.{AreSteady, Others, OnlyIf, Only}
use Rattle.value_code.specs.Fits.{Fits, IndexAt}
use Rattle.value_code.specs.HeldNumbers.{coded_words}
use Rattle.loop_code.specs.LoopNumbers.{coded_action, coded_block, coded_otherwise}
use Rattle.loop_code.specs.Statements.{let_home, defined_homes, after_homes, block_homes, let_code, put_code, placed_put, stored_home, update_extent, update_settles, action_code, block_code, otherwise_code, FitsPut, FitsAction, FitsBlock, FitsOtherwise}
use Rattle.loop_code.proofs.StoredRuns.{stored_high, stored_at_want, stored_back}
use Rattle.scalar_words.proofs.LayoutStates.{Assigned, Kept, Changes, AreSafe, IsSafe, AreInRegisters, Fixed, Tells, Told, At, AreRanged, TypeRange, kept_none, kept_more, kept_changes, at_kept, safe_later, lasts_less, name_held, name_found}
use Rattle.value_code.proofs.Loads.{Gives, no_value, a_value, index_runs, scaled, address_is}
use Rattle.scalar_words.proofs.WordsRuns.{more, copied_sets}
use Rattle.scalar_words.proofs.Constants.{word_back}
use Rattle.value_code.proofs.Jumps.{Turns, no_turn, turns}
use Rattle.value_code.proofs.Operators.{IsOperand, IsTaken, operator_runs}
use Rattle.kernel_meaning.specs.TypeValues.{IsOf}
use Rattle.value_code.specs.Extents.{extent_of, extent_at}
use Rattle.value_code.specs.declared.extent.Extent.{Extent}
use Rattle.value_code.specs.declared.extent.Extent.TheVariants.{Whole}
use Rattle.value_code.proofs.Loose.{Agrees, Agreed, whole_same, loose_binary, binary_agrees, named_agrees, loose, agrees}
use Rattle.value_bounds.proofs.InBounds.{AreTyped}
use Rattle.value_code.proofs.Ranges.{fits_types, value-range}
use Rattle.kernel_meaning.proofs.TypeRanges.{wrap-is_of}
use Rattle.kernel_meaning.proofs.NameRanges.{name_range, ranged_more, ranged_assigned, acc_value, ranged_length, ranged_cut}
use Rattle.kernel_meaning.proofs.Extends.{Extends, extends_none, extends_one, extends_on, extends_length, take_less, visible_after, visible_block}
use Rattle.value_code.proofs.ValueRuns.{Runs, Sided, no_side, a_side, some_type, side_runs, right_taken, operator_back, side_back, parts_back, value_back, loose_back, jump_back, value_runs, jump_runs}
use Rattle.kernel_tree.specs.declared.ops.Ty.TheVariants as ty
use Rattle.kernel_tree.specs.declared.fault.Binding.TheVariants as binding

-- what the code of statements does: on to `rest` with the names that are visible there, to the exit with the outer names,
-- or to a fault
pub data Does {M : Layout} (w : Fixed M) (D : Laid) (c : List DraftEntry) (s : State) (exit rest : List DraftEntry) (hs : Homes) (ls : List Local) (p : ℕ) (outer : Homes) (locals : List Local) (last : ℕ) (most : ℕ) : BlockEnd Names → Type 0 where
  goes_on : {m : Memory} {names : Names} (end : State) → Goes D c s rest end most → At w hs ls names m p end → Does w D c s exit rest hs ls p outer locals last most (Next m names)
  breaks : {m : Memory} {names : Names} (end : State) → Goes D c s exit end most → At w outer locals (take (length outer) names) m last end → Does w D c s exit rest hs ls p outer locals last most (Broke m names)
  faults : {m : Memory} (kind : StopKind) → IsAccess kind → Stops D c s kind m most → Does w D c s exit rest hs ls p outer locals last most (Faulted m)

pub does_after : {M : Layout} {w : Fixed M} {D : Laid} {c e exit rest : List DraftEntry} {s t : State} {hs outer : Homes} {ls locals : List Local} {p last m n : ℕ} {iteration_end : BlockEnd Names} (most : ℕ) → m + n ≤ most → Goes D c s e t m → Does w D e t exit rest hs ls p outer locals last n iteration_end → Does w D c s exit rest hs ls p outer locals last most iteration_end
does_after most le g (goes_on end f at) = goes_on end (chain most le g f) at
does_after most le g (breaks end f at) = breaks end (chain most le g f) at
does_after most le g (faults k ok f) = faults k ok (stop_after most le g f)

pub does_more : {M : Layout} {w : Fixed M} {D : Laid} {c exit rest : List DraftEntry} {s : State} {hs outer : Homes} {ls locals : List Local} {p last m : ℕ} {iteration_end : BlockEnd Names} (q most : ℕ) → p ≡ q → m ≤ most → Does w D c s exit rest hs ls p outer locals last m iteration_end → Does w D c s exit rest hs ls q outer locals last most iteration_end
does_more {w = w} {hs = hs} {ls = ls} q most e le (goes_on {m = m} {names = names} end f at) = goes_on end (go_more most le f) (subst (λ p. At w hs ls names m p end) e at)
does_more q most e le (breaks end f at) = breaks end (go_more most le f) at
does_more q most e le (faults k ok f) = faults k ok (stop_more most le f)

-- ---- names that are added

pub held_more : (hs : Homes) (ns : Names) (h : Home) (v : ℤ) (p : ℕ) (s : State) → AreInRegisters hs ns p s → (Lasts h.last_use p → x_at s h.register ≡ word v) → AreInRegisters (hs ++ h ∷ []) (ns ++ named h.name v ∷ []) p s
held_more [] [] h v p s k e = (refl, e, tt)
held_more [] (n ∷ ns) h v p s k e = absurd k
held_more (x ∷ hs) [] h v p s k e = absurd k
held_more (x ∷ hs) (n ∷ ns) h v p s k e = (k.0, k.1, held_more hs ns h v p s k.2 e)

pub safe_more : (L : Layout) (p : ℕ) (hs : Homes) (h : Home) → AreSafe L p hs → IsSafe L p h → AreSafe L p (hs ++ h ∷ [])
safe_more L p [] h k e = (e, tt)
safe_more L p (x ∷ hs) h k e = (k.0, safe_more L p hs h k.1 e)

-- ---- stores of low bits

put_step : (m : Memory) (a n u v : ℕ) → u % 256 ≡ v % 256 → ((m : Memory) (a : ℕ) → put_number m a n (u / 256) ≡ put_number m a n (v / 256)) → put_number m a (suc n) u ≡ put_number m a (suc n) v
put_step m a n u v e f = ap (λ b. put_number (put_byte m a b) (next_address a) n (u / 256)) e ∙ f (put_byte m a (v % 256)) (next_address a)

put_low : (T : Ty) (m : Memory) (a : ℕ) (z v : ℤ) → Agrees (extent_of T) z v → put_number m a (byte_count T) (word z) ≡ put_number m a (byte_count T) (word v)
put_low ty.I8 m a z v e = put_step m a 0 (word z) (word v) e (λ m a. refl)
put_low ty.U8 m a z v e = put_step m a 0 (word z) (word v) e (λ m a. refl)
put_low ty.I16 m a z v e = put_step m a 1 (word z) (word v) (omega (arith, e)) (λ m a. put_step m a 0 (word z / 256) (word v / 256) (omega (arith, e)) (λ m a. refl))
put_low ty.U16 m a z v e = put_step m a 1 (word z) (word v) (omega (arith, e)) (λ m a. put_step m a 0 (word z / 256) (word v / 256) (omega (arith, e)) (λ m a. refl))
put_low ty.I32 m a z v e =
    put_step m a 3 (word z) (word v) (omega (arith, e)) (λ m a. put_step m a 2 (word z / 256) (word v / 256) (omega (arith, e)) (λ m a. put_step m a 1 (word z / 256 / 256) (word v / 256 / 256) (omega (arith, e)) (λ m a. put_step m a 0 (word z / 256 / 256 / 256) (word v / 256 / 256 / 256) (omega (arith, e)) (λ m a. refl))))
put_low ty.U32 m a z v e =
    put_step m a 3 (word z) (word v) (omega (arith, e)) (λ m a. put_step m a 2 (word z / 256) (word v / 256) (omega (arith, e)) (λ m a. put_step m a 1 (word z / 256 / 256) (word v / 256 / 256) (omega (arith, e)) (λ m a. put_step m a 0 (word z / 256 / 256 / 256) (word v / 256 / 256 / 256) (omega (arith, e)) (λ m a. refl))))
put_low ty.I64 m a z v e = ap (λ z. put_number m a 8 (word z)) e
put_low ty.U64 m a z v e = ap (λ z. put_number m a 8 (word z)) e

stored_low : (T : Ty) (m : Memory) (a : ℕ) (z v : ℤ) → Agrees (extent_of T) z v → stored m a (byte_count T) (word z) ≡ stored m a (byte_count T) (word v)
stored_low T m a z v e = ap (λ n. elim (first_fault (can_write m) a (byte_count T)) [ None ↦ Ok n | Some fault ↦ Err (record { address = fault; write = true }) ]) (put_low T m a z v e)

-- what a store leaves tells no more of a value than its low bits
put_alike : (T : Ty) (base : ℤ) (m : Memory) (names : Names) (o q : Option ℤ) (i : Option ℤ) → Agreed (extent_of T) o q → put (Some T) base m names o i ≡ put (Some T) base m names q i
put_alike T base m names None None i p = refl
put_alike T base m names None (Some v) i p = absurd p
put_alike T base m names (Some z) None i p = absurd p
put_alike T base m names (Some z) (Some v) None p = refl
put_alike T base m names (Some z) (Some v) (Some x) p = ap (write m names) (stored_low T m (address T base x) z v p)

-- ---- names that are held loosely

type_tells : (t : Ty) (z v : ℤ) → Agrees (extent_of t) z v → word z % 2 ^ bits_of t ≡ word v % 2 ^ bits_of t
type_tells ty.I8 z v e = e
type_tells ty.U8 z v e = e
type_tells ty.I16 z v e = e
type_tells ty.U16 z v e = e
type_tells ty.I32 z v e = e
type_tells ty.U32 z v e = e
type_tells ty.I64 z v e = ap (λ x. word x % 2 ^ 64) e
type_tells ty.U64 z v e = ap (λ x. word x % 2 ^ 64) e

-- what agrees in as much as a name is held at tells its value
agrees_tells : (c : ℕ) (o : Option Form) (w : Extent) (z v : ℤ) → is_enough o w ≡ true → Agrees (held_extent o) z v → Tells c o z v
agrees_tells c None w z v h e = e
agrees_tells c (Some (LowBits t)) w z v h e = type_tells t z v e
agrees_tells c (Some (Ahead t)) w z v h e = absurd cc
agrees_tells c (Some Behind) w z v h e = absurd cc

told_length : (ls : List Loose) (c : ℕ) (zs ns : Names) → Told ls c zs ns → length zs ≡ length ns
told_length ls c [] [] h = refl
told_length ls c [] (n ∷ ns) h = absurd h
told_length ls c (z ∷ zs) [] h = absurd h
told_length ls c (z ∷ zs) (n ∷ ns) h = ap suc (told_length ls c zs ns h.2)

module _ (D : Laid) (L : Layout) (fit : Assigned L) where
  -- the home of a `let` at item q
  let_safe : (q : ℕ) (x : List ℕ) → IsSafe L (q + 1) (let_home L q x)
  let_safe q x = record { high = λ l. fit.high q (omega (arith, l)); apart = λ r lo l made. fit.apart r q (omega arith) (omega (arith, l)) made }

  at_let : {M : Layout} {w : Fixed M} {hs : Homes} {ls : List Local} {names : Names} {m : Memory} {st end : State} (q : ℕ) (x : List ℕ) (T : Ty) (v : ℤ) → is_whole M.loose x ≡ true → AreSafe L q hs → At w hs ls names m q st → Kept L st end q (q + 1) → IsOf T v → (q < last_use_at L q → x_at end (reg_of L q) ≡ word v) → At w (hs ++ let_home L q x ∷ []) (ls ++ record { name = x; binding = binding.Value T } ∷ []) (with_name x names v) m (q + 1) end
  at_let {M = M} {w = w} {hs = hs} {ls = ls} {names = names} {m = m} {end = end} q x T v whole safe at k range is =
      let on = at_kept L fit q (q + 1) (omega arith) safe at k in
      record {
        sized = on.sized;
        nine = on.nine;
        args = on.args;
        ranged = ranged_more ls names (record { name = x; binding = binding.Value T }) v on.ranged range;
        memory = on.memory;
        good = on.good;
        stand = with_name x on.stand v;
        told = told_more M.loose w.count on.stand names x v (whole_itself (loose_in M.loose x) whole) on.told;
        held = held_more hs on.stand (let_home L q x) v (q + 1) end on.held (λ l. is (omega (arith, l)));
      }

  let_runs : {M : Layout} {w : Fixed M} {c rest exit : List DraftEntry} {st : State} {hs outer : Homes} (s : Scope) {locals : List Local} {names : Names} {m : Memory} {b last most : ℕ} {o : Option ℤ} (x : List ℕ) (want : Option Ty) (T : Ty) (q from : ℕ) → is_whole M.loose x ≡ true → want ≡ Some T → b ≤ q → AreSafe L b hs → At w hs s.visible names m b st → ((v : ℤ) → o ≡ Some v → IsOf T v) → Gives D L c st (let_code L q from rest) b q from m most o → Does w D c st exit rest (defined_homes L q hs x want) (defined s x want).visible (q + 1) outer locals last (most + 4) (define x want m names o)
  let_runs {hs = hs} s x want T q from whole e le safe at range (no_value g) = faults Read (inl refl) (stop_more _ (omega arith) g)
  let_runs {w = w} {c = c} {rest = rest} {exit = exit} {st = st} {hs = hs} {outer = outer} s {locals = locals} {names = names} {m = m} {b = b} {last = last} {most = most} x want T q from whole e le safe at range (a_value {v = v} g) =
      subst (λ u. Does w D c st exit rest (defined_homes L q hs x u) (defined s x u).visible (q + 1) outer locals last (most + 4) (define x u m names (Some v))) (sym e)
      (⊎_elim
      (λ lt. let made : nat_lt q (last_use_at L q) ≡ true = lt-ltb q (last_use_at L q) lt in
      let k = copied_sets D L fit {rest = rest} {s = g.end} (reg_of L q) from v (here.sized) (let hi = fit.high q lt in omega (arith, hi)) g.value in
      let code : let_code L q from rest ≡ word_code (copy_word (reg_of L q) from) rest = ap (λ t. if t then word_code (copy_word (reg_of L q) from) rest else rest) made in
      goes_on k.end (chain (most + 4) (omega arith) (subst (λ es. Goes D c st es g.end most) code g.goes) k.goes)
      (at_let q x T v whole (safe_later L hs b q le safe) here (kept_changes L q q (q + 1) (omega arith) (omega arith) lt k.changes) (range v refl) (λ l. k.value)))
      (λ ge. let made : nat_lt q (last_use_at L q) ≡ false = le-ltb q (last_use_at L q) ge in
      let code : let_code L q from rest ≡ rest = ap (λ t. if t then word_code (copy_word (reg_of L q) from) rest else rest) made in
      goes_on g.end (go_more (most + 4) (omega arith) (subst (λ es. Goes D c st es g.end most) code g.goes))
      (at_let q x T v whole (safe_later L hs b q le safe) here (kept_none L g.end q (q + 1)) (range v refl) (λ l. absurd (omega arith))))
      (cases_lt q (last_use_at L q)))
    where
      here : At w hs s.visible names m q g.end
      here = at_kept L fit b q le safe at g.kept

  -- ---- stores

  store_does : (t : Ty) (d p r : ℕ) (st : State) → effect (store t d p r) st ≡ store_from st d (sum (x_or_sp st p) (scaled t (x_at st r))) (byte_count t)
  store_does ty.I8 d p r st = refl
  store_does ty.U8 d p r st = refl
  store_does ty.I16 d p r st = refl
  store_does ty.U16 d p r st = refl
  store_does ty.I32 d p r st = refl
  store_does ty.U32 d p r st = refl
  store_does ty.I64 d p r st = refl
  store_does ty.U64 d p r st = refl

  -- the state after a store
  abbrev wrote_memory : State → Memory → State
  wrote_memory st m = next (record st { memory = m })

  held_memory : (hs : Homes) (ns : Names) (p : ℕ) (st : State) (m : Memory) → AreInRegisters hs ns p st → AreInRegisters hs ns p (wrote_memory st m)
  held_memory [] [] p st m h = tt
  held_memory [] (n ∷ ns) p st m h = absurd h
  held_memory (x ∷ hs) [] p st m h = absurd h
  held_memory (x ∷ hs) (n ∷ ns) p st m h = (h.0, h.1, held_memory hs ns p st m h.2)

  held_next : (hs : Homes) (ns : Names) (p q : ℕ) (st : State) → p ≤ q → AreInRegisters hs ns p st → AreInRegisters hs ns q st
  held_next [] [] p q st le h = tt
  held_next [] (n ∷ ns) p q st le h = absurd h
  held_next (x ∷ hs) [] p q st le h = absurd h
  held_next (x ∷ hs) (n ∷ ns) p q st le h = (h.0, (λ l. h.1 (lasts_less x.last_use q p le l)), held_next hs ns p q st le h.2)

  store_by : {M : Layout} {w : Fixed M} {rest exit : List DraftEntry} {t : State} {hs outer : Homes} {ls locals : List Local} {names : Names} {m : Memory} {last : ℕ} (i : Listed) (h a size v q : ℕ) (o : Result Memory AccessFault) → At w hs ls names m q t → x_at t h ≡ v → effect i t ≡ store_from t h a size → stored m a size v ≡ o → Does w D (Put i ∷ rest) t exit rest hs ls (q + 1) outer locals last 1 (write m names o)
  store_by {rest = rest} {t = t} {hs = hs} {names = names} {m = m} i h a size v q (Ok after) at e does is =
      let has : stored t.memory a size (x_at t h) ≡ Ok after = ap₂ (λ m v. stored m a size v) at.memory e ∙ is in
      let went : effect i t ≡ Went (wrote_memory t after) = does ∙ ap (λ o. elim o as (λ o. Step) [ Ok memory ↦ Went (next (record t { memory = memory })) | Err fault ↦ Stopped Write t.pc fault.address t.memory ]) has in
      goes_on (wrote_memory t after) (put_goes went) (record {
        sized = at.sized;
        nine = at.nine;
        args = at.args;
        ranged = at.ranged;
        memory = refl;
        good = IsMemory-stored m after a size v is at.good;
        stand = at.stand;
        told = at.told;
        held = held_memory hs at.stand (q + 1) t after (held_next hs at.stand q (q + 1) t (omega arith) at.held);
      })
  store_by {t = t} {m = m} i h a size v q (Err f) at e does is =
      let has : stored t.memory a size (x_at t h) ≡ Err f = ap₂ (λ m v. stored m a size v) at.memory e ∙ is in
      let stop : effect i t ≡ Stopped Write t.pc f.address m = does ∙ ap (λ o. elim o as (λ o. Step) [ Ok memory ↦ Went (next (record t { memory = memory })) | Err fault ↦ Stopped Write t.pc fault.address t.memory ]) has ∙ ap (λ m. Stopped Write t.pc f.address m) at.memory in
      faults Write (inr refl) (put_stops t.pc f.address stop)

  put_runs : {M : Layout} {w : Fixed M} {code rest exit : List DraftEntry} {st : State} {hs outer : Homes} {ls locals : List Local} {names : Names} {m : Memory} {b last most : ℕ} {o : Option ℤ} (a : List ℕ) (i : Option (List ℕ)) (computed : Option ℤ) (oc : Option ℤ) (type : Option Ty) (T : Ty) (q from : ℕ) (covered : Bool) → index_covers M.loose i (loose_in M.loose a) type oc covered ≡ true → type ≡ Some T → from ≤ 25 → b ≤ q → AreSafe L b hs → At w hs ls names m b st → FitsPut oc (IndexAt hs i q) → NameLasts hs a q
      → Gives D L code st (put_code oc type from (register_at hs a) rest) b q from m most o → Does w D code st exit rest hs ls (q + 1) outer locals last (most + 2) (put type (value_at names a) m names o (element_number oc (iteration i names) computed))
  put_runs a i computed None type T q from covered cov e hi le safe at fits lasts g = absurd fits
  put_runs {M = M} {w = w} {code = code} {rest = rest} {exit = exit} {st = st} {hs = hs} {outer = outer} {ls = ls} {locals = locals} {names = names} {m = m} {b = b} {last = last} {most = most} {o = o} a i computed (Some c) type T q from covered cov e hi le safe at fits lasts g =
      subst (λ u. Gives D L code st (put_code (Some c) u from (register_at hs a) rest) b q from m most o → Does w D code st exit rest hs ls (q + 1) outer locals last (most + 2) (put u (value_at names a) m names o (Some (iteration i names +ℤ c)))) (sym e) (typed o) g
    where
      typed : (o : Option ℤ) → Gives D L code st (put_code (Some c) (Some T) from (register_at hs a) rest) b q from m most o → Does w D code st exit rest hs ls (q + 1) outer locals last (most + 2) (put (Some T) (value_at names a) m names o (Some (iteration i names +ℤ c)))
      typed None (no_value g) = faults Read (inl refl) (stop_more _ (omega arith) g)
      typed (Some v) (a_value g) =
          let r = register_at hs a in
          let here = at_kept L fit b q le safe at g.kept in
          let found = name_found L hs a q q (omega arith) (safe_later L hs b q le safe) lasts in
          let z = iteration i here.stand in
          let x = iteration i names +ℤ c in
          let j = index_register (index_word c) in
          let k = index_runs D L fit {rest = Put (store T from r j) ∷ rest} {s = g.end} z c q q here.sized (index_is hs i here.stand q q g.end (omega arith) fits.1 here.sized here.held) fits.0 in
          let there = at_kept L fit q q (omega arith) (safe_later L hs b q le safe) here k.kept in
          let moved = standing_kept L fit q q (omega arith) (safe_later L hs b q le safe) (standing here) k.kept in
          let base = name_held hs here.stand a q k.end moved.sized moved.held lasts in
          let together = together_address M.loose w.count hs i a T here.stand names c q q q g.end (subst (λ t. stands_together (loose_in M.loose a) (index_form M.loose i) t ≡ true) e cov) lasts fits.1 here.held here.told in
          let does = store_does T from r j k.end ∙ ap (λ w. store_from k.end from w (byte_count T)) (ap (λ w. sum w (scaled T (x_at k.end j))) (x_or_sp-low k.end r found.high) ∙ address_is T (value_at here.stand a) (z +ℤ c) (x_at k.end r) (x_at k.end j) base k.value ∙ together) in
          let kept_from : x_at k.end from ≡ word v = k.kept.others from hi (λ p lo up. absurd (omega arith)) ∙ g.value in
          does_after (most + 2) (omega arith) (chain (most + 1) (omega arith) g.goes k.goes)
          (store_by (store T from r j) from (address T (value_at names a) x) (byte_count T) (word v) q (stored m (address T (value_at names a) x) (byte_count T) (word v)) there kept_from does refl)

  -- the same to an address that a register holds
  placed_runs : {w : Fixed L} {code rest exit : List DraftEntry} {st : State} {hs outer : Homes} {ls locals : List Local} {names : Names} {m : Memory} {b last most : ℕ} {o : Option ℤ} (a : List ℕ) (i : Option (List ℕ)) (computed : Option ℤ) (oc : Option ℤ) (type : Option Ty) (T : Ty) (q from r : ℕ) (covered : Bool) → index_covers L.loose i (loose_in L.loose a) type oc covered ≡ true → place_of L (register_at hs a) type oc ≡ Some r → type ≡ Some T → from ≤ 25 → b ≤ q → AreSafe L b hs → At w hs ls names m b st → FitsPut oc (IndexAt hs i q) → NameLasts hs a q
      → Gives D L code st (store_code type from r 9 rest) b q from m most o → Does w D code st exit rest hs ls (q + 1) outer locals last (most + 2) (put type (value_at names a) m names o (element_number oc (iteration i names) computed))
  placed_runs a i computed None type T q from r covered cov place e hi le safe at fits lasts g = absurd fits
  placed_runs {w = w} {code = code} {rest = rest} {exit = exit} {st = st} {hs = hs} {outer = outer} {ls = ls} {locals = locals} {names = names} {m = m} {b = b} {last = last} {most = most} {o = o} a i computed (Some c) type T q from r covered cov place e hi le safe at fits lasts g =
      subst (λ u. place_of L (register_at hs a) u (Some c) ≡ Some r → Gives D L code st (store_code u from r 9 rest) b q from m most o → Does w D code st exit rest hs ls (q + 1) outer locals last (most + 2) (put u (value_at names a) m names o (Some (iteration i names +ℤ c)))) (sym e) (typed o) place g
    where
      typed : (o : Option ℤ) → place_of L (register_at hs a) (Some T) (Some c) ≡ Some r → Gives D L code st (store_code (Some T) from r 9 rest) b q from m most o → Does w D code st exit rest hs ls (q + 1) outer locals last (most + 2) (put (Some T) (value_at names a) m names o (Some (iteration i names +ℤ c)))
      typed None place (no_value g) = faults Read (inl refl) (stop_more _ (omega arith) g)
      typed (Some v) place (a_value g) =
          let here = at_kept L fit b q le safe at g.kept in
          let k = place_at fit a T (Some c) r place lasts (standing here) in
          let x = iteration i here.stand in
          let base = value_at here.stand a in
          let same : k.c ≡ c = (let s = k.offset in cc) in
          let nine : x_at g.end 9 ≡ word x = index_is hs i here.stand q q g.end (omega arith) fits.1 here.sized here.held in
          let number = iteration i names +ℤ c in
          let together = together_address L.loose w.count hs i a T here.stand names c q q q g.end (subst (λ t. stands_together (loose_in L.loose a) (index_form L.loose i) t ≡ true) e cov) lasts fits.1 here.held here.told in
          let does = store_does T from r 9 g.end ∙ ap (λ w. store_from g.end from w (byte_count T)) (ap (λ w. sum w (scaled T (x_at g.end 9))) (x_or_sp-low g.end r k.low) ∙ address_is T (base +ℤ pos (byte_count T) *ℤ k.c) x (x_at g.end r) (x_at g.end 9) k.value nine ∙ address_moved T base k.c x ∙ ap (λ d. address T base (x +ℤ d)) same ∙ together) in
          does_after (most + 2) (omega arith) g.goes
          (store_by (store T from r 9) from (address T (value_at names a) number) (byte_count T) (word v) q (stored m (address T (value_at names a) number) (byte_count T) (word v)) here g.value does refl)

  put_by : {w : Fixed L} {code rest exit : List DraftEntry} {st : State} {hs outer : Homes} {ls locals : List Local} {names : Names} {m : Memory} {b last most : ℕ} {o : Option ℤ} (a : List ℕ) (i : Option (List ℕ)) (computed : Option ℤ) (oc : Option ℤ) (type : Option Ty) (T : Ty) (q from : ℕ) (place : Option ℕ) (covered : Bool) → index_covers L.loose i (loose_in L.loose a) type oc covered ≡ true → place_of L (register_at hs a) type oc ≡ place → type ≡ Some T → from ≤ 25 → b ≤ q → AreSafe L b hs → At w hs ls names m b st → FitsPut oc (IndexAt hs i q) → NameLasts hs a q
      → Gives D L code st (placed_put place (put_code oc type from (register_at hs a)) type from rest) b q from m most o → Does w D code st exit rest hs ls (q + 1) outer locals last (most + 2) (put type (value_at names a) m names o (element_number oc (iteration i names) computed))
  put_by a i computed oc type T q from None covered cov is e hi le safe at fits lasts g = put_runs a i computed oc type T q from covered cov e hi le safe at fits lasts g
  put_by a i computed oc type T q from (Some r) covered cov is e hi le safe at fits lasts g = placed_runs a i computed oc type T q from r covered cov is e hi le safe at fits lasts g

  -- ---- updates

  pub held_others : (hs : Homes) (ns : Names) (r p : ℕ) (s t : State) → AreSafe L p hs → AreInRegisters hs ns p s → Changes s t r → Others hs r p → AreInRegisters hs ns p t
  held_others [] [] r p s t safe h k o = tt
  held_others [] (n ∷ ns) r p s t safe h k o = absurd h
  held_others (x ∷ hs) [] r p s t safe h k o = absurd h
  held_others (x ∷ hs) (n ∷ ns) r p s t safe h k o = (h.0, (λ l. k.others x.register (safe.0.high l) (o.0 l) ∙ h.1 l), held_others hs ns r p s t safe.1 h.2 k o.1)

  assigned_step : (b : Bool) (h : Home) (n : Named) (hs : Homes) (ns : Names) (x : List ℕ) (z : ℤ) (r p : ℕ) (s t : State) → is_home x h ≡ b → IsSafe L p h → AreSafe L p hs → AreInRegisters (h ∷ hs) (n ∷ ns) p s → Changes s t r → x_at t r ≡ word z → OnlyIf b h hs r p (Only hs x r p) → (Only hs x r p → AreInRegisters hs (assigned x z ns) p t) → AreInRegisters (h ∷ hs) (assigned x z (n ∷ ns)) p t
  assigned_step true h n hs ns x z r p s t e one safe held k is only rest =
      let f : is_named x n ≡ true = ap (λ y. bytes_eq y x) held.0 ∙ e in
      subst (λ c. AreInRegisters (h ∷ hs) (cond c (named n.name z ∷ ns) (n ∷ assigned x z ns)) p t) (sym f)
      (held.0, (λ l. ap (x_at t) only.0 ∙ is), held_others hs ns r p s t safe held.2 k only.1)
  assigned_step false h n hs ns x z r p s t e one safe held k is only rest =
      let f : is_named x n ≡ false = ap (λ y. bytes_eq y x) held.0 ∙ e in
      subst (λ c. AreInRegisters (h ∷ hs) (cond c (named n.name z ∷ ns) (n ∷ assigned x z ns)) p t) (sym f)
      (held.0, (λ l. k.others h.register (one.high l) (only.0 l) ∙ held.1 l), rest only.1)

  pub held_assigned : (hs : Homes) (ns : Names) (x : List ℕ) (z : ℤ) (r p : ℕ) (s t : State) → AreSafe L p hs → AreInRegisters hs ns p s → Changes s t r → x_at t r ≡ word z → Only hs x r p → AreInRegisters hs (assigned x z ns) p t
  held_assigned [] [] x z r p s t safe h k is only = tt
  held_assigned [] (n ∷ ns) x z r p s t safe h k is only = absurd h
  held_assigned (h ∷ hs) [] x z r p s t safe held k is only = absurd held
  held_assigned (h ∷ hs) (n ∷ ns) x z r p s t safe held k is only =
      assigned_step (is_home x h) h n hs ns x z r p s t refl safe.0 safe.1 held k is only (λ o. held_assigned hs ns x z r p s t safe.1 held.2 k is o)

  update_runs : {w : Fixed L} {code rest exit : List DraftEntry} {st : State} {hs outer : Homes} (s : Scope) {locals : List Local} {names : Names} {m : Memory} {b last most : ℕ} {o q1 : Option ℤ} (x : List ℕ) (op : UpdateOp) (want : Option Ty) (T : Ty) (q : ℕ) (side : Side) → want ≡ option_and_then accumulator_type (lookup s x) → want ≡ Some T → b ≤ q → AreSafe L b hs → At w hs s.visible names m b st → NameLasts hs x q → 10 ≤ register_at hs x → Only hs x (register_at hs x) (q + 1) → ((v : ℤ) → q1 ≡ Some v → IsOf T v)
      → is_enough (loose_in L.loose x) (update_extent L.loose x (operator_of op) (Some T)) ≡ true → Agreed (update_extent L.loose x (operator_of op) (Some T)) o q1
      → IsTaken (operator_of op) side
      → Sided D L code st (at_type want (λ t. operator_code side (update_settles L.loose x (operator_of op) want) (operator_of op) t (register_at hs x) (register_at hs x) rest) rest) b q (IsOperand side) m most o → Does w D code st exit rest hs s.visible (q + 1) outer locals last (most + 3) (update x op want m names q1)
  update_runs s {q1 = None} x op want T q side e0 e le safe at lasts ne only range enough alike takes (no_side g) = faults Read (inl refl) (stop_more _ (omega arith) g)
  update_runs s {q1 = Some u} x op want T q side e0 e le safe at lasts ne only range enough alike takes (no_side g) = absurd alike
  update_runs s {q1 = None} x op want T q side e0 e le safe at lasts ne only range enough alike takes (a_side end went kept held) = absurd alike
  update_runs {w = w} {code = code} {rest = rest} {exit = exit} {st = st} {hs = hs} {outer = outer} s {locals = locals} {names = names} {m = m} {b = b} {last = last} {most = most} {q1 = Some u} x op want T q side e0 e le safe at lasts ne only range enough alike takes (a_side {y = v} end went kept held) =
      let r = register_at hs x in
      let l = loose_in L.loose x in
      let asked = update_extent L.loose x (operator_of op) (Some T) in
      let safe1 = safe_later L hs b q le safe in
      let safe2 = safe_later L hs b (q + 1) (omega arith) safe in
      let here = at_kept L fit b q le safe at kept in
      let found = name_found L hs x q q (omega arith) safe1 lasts in
      let stands = value_at here.stand x in
      let acc = name_held hs here.stand x q end here.sized here.held lasts in
      let type = acc_value T (lookup s x) (sym e0 ∙ e) in
      let racc = subst (λ o. TypeRange o (value_at names x)) type (name_range s.visible names x here.ranged) in
      let tells : Agrees asked stands (value_at names x) = named_agrees L.loose w.count here.stand names x asked enough here.told in
      let k = operator_runs D L fit {rest = rest} {s = end} side (operator_of op) (held_extent l) T stands v r r here.sized found.high found.high (λ f. (subst (λ z. IsOf T z) (sym (whole_same asked stands (value_at names x) f tells)) racc, subst (λ z. IsOf T z) (sym (whole_same asked v u f alike)) (range u refl))) takes acc held in
      let now = loose_binary (operator_of op) (held_extent l) (Some T) stands v in
      let z = wrap T (binary_on (operator_of op) (value_at names x) u) in
      let is : Tells w.count l now z = agrees_tells w.count l asked now z enough (binary_agrees (operator_of op) (held_extent l) (Some T) stands v (value_at names x) u tells alike) in
      let goes = subst (λ w. Goes D code st (at_type w (λ t. operator_code side (update_settles L.loose x (operator_of op) w) (operator_of op) t r r rest) rest) end most) e went in
      subst (λ t. Does w D code st exit rest hs s.visible (q + 1) outer locals last (most + 3) (update x op t m names (Some u))) (sym e)
      (goes_on k.end (chain (most + 3) (omega arith) goes k.goes) (record {
        sized = k.changes.sized ∙ here.sized;
        nine = k.changes.others 9 (omega arith) (λ e. absurd (omega arith)) ∙ here.nine;
        args = λ r lt. k.changes.others r (omega arith) (λ e. absurd (omega arith)) ∙ here.args r lt;
        ranged = ranged_assigned T s.visible names x z (wrap-is_of T _) here.ranged type;
        memory = k.changes.memory ∙ here.memory;
        good = here.good;
        stand = assigned x now here.stand;
        told = told_set L.loose w.count here.stand names x now z is here.told;
        held = held_assigned hs here.stand x now r (q + 1) end k.end safe2 (held_next hs here.stand q (q + 1) end (omega arith) here.held) k.changes k.value only;
      }))

-- ---- names after a block

take_whole : {A : Type 0} (xs : List A) → take (length xs) xs ≡ xs
take_whole [] = refl
take_whole (x ∷ xs) = ap (λ ys. x ∷ ys) (take_whole xs)

pub held_length : (hs : Homes) (ns : Names) (p : ℕ) (s : State) → AreInRegisters hs ns p s → length ns ≡ length hs
held_length [] [] p s h = refl
held_length [] (n ∷ ns) p s h = absurd h
held_length (x ∷ hs) [] p s h = absurd h
held_length (x ∷ hs) (n ∷ ns) p s h = ap suc (held_length hs ns p s h.2)

pub names_length : {M : Layout} {w : Fixed M} {hs : Homes} {ls : List Local} {names : Names} {m : Memory} {p : ℕ} {s : State} → At w hs ls names m p s → length names ≡ length hs
names_length {M = M} {w = w} {hs = hs} {names = names} {p = p} {s = s} at = sym (told_length M.loose w.count at.stand names at.told) ∙ held_length hs at.stand p s at.held

held_cut : (hs more : Homes) (ns : Names) (p : ℕ) (s : State) → AreInRegisters (hs ++ more) ns p s → AreInRegisters hs (take (length hs) ns) p s
held_cut [] more ns p s h = tt
held_cut (x ∷ hs) more [] p s h = absurd h
held_cut (x ∷ hs) more (n ∷ ns) p s h = (h.0, h.1, held_cut hs more ns p s h.2)

pub held_steady : (hs : Homes) (ns : Names) (p q : ℕ) (s : State) → AreSteady hs → AreInRegisters hs ns p s → AreInRegisters hs ns q s
held_steady [] [] p q s st h = tt
held_steady [] (n ∷ ns) p q s st h = absurd h
held_steady (x ∷ hs) [] p q s st h = absurd h
held_steady (x ∷ hs) (n ∷ ns) p q s st h = (h.0, (λ l. h.1 (subst (λ o. Lasts o p) (sym st.0) tt)), held_steady hs ns p q s st.1 h.2)

pub at_cut : {M : Layout} {w : Fixed M} {hs hs2 : Homes} {ls ls2 : List Local} {names : Names} {m : Memory} {p : ℕ} {s : State} (n : ℕ) → n ≡ length hs → n ≡ length ls → Extends hs hs2 → Extends ls ls2 → At w hs2 ls2 names m p s → At w hs ls (take n names) m p s
at_cut {M = M} {w = w} {hs = hs} {ls = ls} {names = names} {p = p} {s = s} n eh el a b at = record {
  sized = at.sized;
  nine = at.nine;
  args = at.args;
  ranged = subst (λ k. AreRanged ls (take k names)) (sym el) (ranged_cut ls b.more names (subst (λ l. AreRanged l names) b.is at.ranged));
  memory = at.memory;
  good = at.good;
  stand = take n at.stand;
  told = told_take M.loose w.count n at.stand names at.told;
  held = subst (λ k. AreInRegisters hs (take k at.stand) p s) (sym eh) (held_cut hs a.more at.stand p s (subst (λ h. AreInRegisters h at.stand p s) a.is at.held));
}

pub cut_does : {M : Layout} {w : Fixed M} {D : Laid} {c exit rest : List DraftEntry} {s : State} {hs hs2 outer : Homes} {ls ls2 locals : List Local} {p last most : ℕ} {iteration_end : BlockEnd Names} (n : ℕ) → n ≡ length hs → n ≡ length ls → length outer ≤ n → Extends hs hs2 → Extends ls ls2 → Does w D c s exit rest hs2 ls2 p outer locals last most iteration_end → Does w D c s exit rest hs ls p outer locals last most (cut n iteration_end)
cut_does n eh el le a b (goes_on end g at) = goes_on end g (at_cut n eh el a b at)
cut_does {w = w} {outer = outer} {locals = locals} {last = last} n eh el le a b (breaks {m = m} {names = names} end g at) = breaks end g (subst (λ ns. At w outer locals ns m last end) (sym (take_less (length outer) n names le)) at)
cut_does n eh el le a b (faults k ok g) = faults k ok g

-- what statements leave of scopes and homes

homes_defined : (L : Layout) (q : ℕ) (hs : Homes) (x : List ℕ) (t : Option Ty) → Extends hs (defined_homes L q hs x t)
homes_defined L q hs x None = extends_none hs
homes_defined L q hs x (Some t) = extends_one hs _

homes_after : (L : Layout) (hs : Homes) (s : Scope) (b : ℕ) (a : Action) → Extends hs (after_homes L hs s b a)
homes_after L hs s b (Define x t e) = homes_defined L _ hs x (first t (own s e))
homes_after L hs s b other = extends_none hs

pub homes_block : (L : Layout) (hs : Homes) (s : Scope) (b : ℕ) (blk : Block) → Extends hs (block_homes L hs s b blk)
homes_block L hs s b Done = extends_none hs
homes_block L hs s b (Then a more) = extends_on (homes_after L hs s b a) (homes_block L (after_homes L hs s b a) (after_action s a) (b + action_size s.index a) more)

module _ (D : Laid) (L : Layout) (fit : Assigned L) where
  safe_defined : (q p : ℕ) (hs : Homes) (x : List ℕ) (t : Option Ty) → p ≡ q + 1 → AreSafe L p hs → AreSafe L p (defined_homes L q hs x t)
  safe_defined q p hs x None e safe = safe
  safe_defined q p hs x (Some t) e safe = safe_more L p hs (let_home L q x) safe (subst (λ n. IsSafe L n (let_home L q x)) (sym e) (let_safe D L fit q x))

  safe_after : (hs : Homes) (s : Scope) (b : ℕ) (a : Action) → AreSafe L b hs → AreSafe L (b + action_size s.index a) (after_homes L hs s b a)
  safe_after hs s b (Define x t e) safe = safe_defined (b + term_size s.index e) (b + (term_size s.index e + 1)) hs x (first t (own s e)) (omega arith) (safe_later L hs b (b + (term_size s.index e + 1)) (omega arith) safe)
  safe_after hs s b (PutTo a i e) safe = safe_later L hs b (b + (term_size s.index e + 1)) (omega arith) safe
  safe_after hs s b (Update x op e) safe = safe_later L hs b (b + (term_size s.index e + 1)) (omega arith) safe
  safe_after hs s b (Choose c blk d) safe = safe_later L hs b (b + (term_size s.index c + 1 + block_size s.index blk + otherwise_size s.index d + 1)) (omega arith) safe
  safe_after hs s b (Leave c) safe = safe_later L hs b (b + (term_size s.index c + 1)) (omega arith) safe

  -- ---- labels after statements

  let_back : (r from : ℕ) (t : Bool) (rest : List DraftEntry) → Resolves D (if t then word_code (copy_word r from) rest else rest) → Resolves D rest
  let_back r from true rest h = word_back D (copy_word r from) rest h
  let_back r from false rest h = h

  store_back : (o : Option Ty) (d p r : ℕ) (rest : List DraftEntry) → Resolves D (store_code o d p r rest) → Resolves D rest
  store_back None d p r rest h = h
  store_back (Some t) d p r rest h = h

  put_back : (oc : Option ℤ) (t : Option Ty) (from p : ℕ) (rest : List DraftEntry) → Resolves D (put_code oc t from p rest) → Resolves D rest
  put_back None t from p rest h = h
  put_back (Some c) t from p rest h = store_back t from p _ rest (word_back D (index_word c) _ h)

  placed_back : (place : Option ℕ) (inner : List DraftEntry → List DraftEntry) (t : Option Ty) (from : ℕ) (rest : List DraftEntry) → (Resolves D (inner rest) → Resolves D rest) → Resolves D (placed_put place inner t from rest) → Resolves D rest
  placed_back (Some r) inner t from rest f h = store_back t from r 9 rest h
  placed_back None inner t from rest f h = f h

  mutual
    action_back : (a : Action) (hs : Homes) (s : Scope) (exit b n : ℕ) (rest : List DraftEntry) → Resolves D (action_code L hs s exit b n a rest) → Resolves D rest
    action_back (Define x t e) hs s exit b n rest h = let_back (reg_of L (b + term_size s.index e)) (home L hs s.index b e) (nat_lt (b + term_size s.index e) (last_use_at L (b + term_size s.index e))) rest (value_back D L fit e hs s (first t (own s e)) b n _ h)
    action_back (PutTo a i e) hs s exit b n rest h = placed_back (place_of L (register_at hs a) (option_and_then element_type (lookup s a)) (stream_offset s.index i)) _ _ _ rest (put_back (stream_offset s.index i) _ _ _ rest) (stored_back D L fit e hs s _ _ b n _ h)
    action_back (Update x op e) hs s exit b n rest h =
        let want = option_and_then accumulator_type (lookup s x) in
        let k = update_extent L.loose x (operator_of op) want in
        operator_back D L fit (right_side L hs s (operator_of op) k want b e) (update_settles L.loose x (operator_of op) want) want (operator_of op) _ _ rest
        (side_back D L fit (added_number (operator_of op) want e) (is_fused s (operator_of op) k want e) _ _ _ (loose_back D L fit e hs s k want b n _) (parts_back D L fit e hs s k want b n _) h)
    action_back (Choose c blk d) hs s exit b n rest h = otherwise_back d hs (left s (after_block s blk)) exit _ _ _ rest (block_back blk hs s exit _ _ _ (jump_back D L fit c hs s false n b (n + 1) _ h))
    action_back (Leave c) hs s exit b n rest h = jump_back D L fit c hs s true exit b n _ h

    pub block_back : (blk : Block) (hs : Homes) (s : Scope) (exit b n : ℕ) (rest : List DraftEntry) → Resolves D (block_code L hs s exit b n blk rest) → Resolves D rest
    block_back Done hs s exit b n rest h = h
    block_back (Then a more) hs s exit b n rest h = block_back more _ _ exit _ _ rest (action_back a hs s exit b n _ h)

    otherwise_back : (d : Otherwise) (hs : Homes) (s : Scope) (exit other b n : ℕ) (rest : List DraftEntry) → Resolves D (otherwise_code L hs s exit other b n d rest) → Resolves D rest
    otherwise_back Nothing hs s exit other b n rest h = h.1
    otherwise_back (Else blk) hs s exit other b n rest h = (block_back blk hs s exit _ _ _ h.1).1

  -- from the end of the first block to what follows
  record Falls (c : List DraftEntry) (t : State) (rest : List DraftEntry) : Type 0 where
    end : State
    goes : Goes D c t rest end 1
    memory : end.memory ≡ t.memory
    x : end.x ≡ t.x

  falls : (d : Otherwise) (hs : Homes) (s : Scope) (exit other b n : ℕ) (rest : List DraftEntry) (t : State) → Resolves D (otherwise_code L hs s exit other b n d rest) → Falls (otherwise_code L hs s exit other b n d rest) t rest
  falls Nothing hs s exit other b n rest t h = record { end = t; goes = go_more 1 (omega arith) pass; memory = refl; x = refl }
  falls (Else blk) hs s exit other b n rest t h =
      let e = (block_back blk hs s exit _ _ _ h.1).0 in
      record { end = jump t (address_of D n); goes = subst (λ es. Goes D (Branch Always n ∷ (Place other ∷ block_code L hs s exit (b + 1) (n + 1) blk (Place n ∷ rest))) t es (jump t (address_of D n)) 1) e (taken_goes refl); memory = refl; x = refl }

  held_same : (hs : Homes) (ns : Names) (p : ℕ) (s t : State) → t.x ≡ s.x → AreInRegisters hs ns p s → AreInRegisters hs ns p t
  held_same [] [] p s t e h = tt
  held_same [] (n ∷ ns) p s t e h = absurd h
  held_same (x ∷ hs) [] p s t e h = absurd h
  held_same (x ∷ hs) (n ∷ ns) p s t e h = (h.0, (λ l. ap (λ r. slice_index r x.register) e ∙ h.1 l), held_same hs ns p s t e h.2)

  pub at_same : {M : Layout} {w : Fixed M} {hs : Homes} {ls : List Local} {names : Names} {m : Memory} {p : ℕ} {s t : State} (q : ℕ) → p ≤ q → t.x ≡ s.x → t.memory ≡ s.memory → At w hs ls names m p s → At w hs ls names m q t
  at_same {hs = hs} {names = names} {p = p} {s = s} {t = t} q le e f at = record {
    sized = ap length e ∙ at.sized;
    nine = ap (λ r. slice_index r 9) e ∙ at.nine;
    args = λ r lt. ap (λ x. slice_index x r) e ∙ at.args r lt;
    ranged = at.ranged;
    memory = f ∙ at.memory;
    good = at.good;
    stand = at.stand;
    told = at.told;
    held = held_same hs at.stand q s t e (held_next D L fit hs at.stand p q s le at.held);
  }

  does_then : {M : Layout} {w : Fixed M} {c e exit rest : List DraftEntry} {s : State} {hs hs2 outer : Homes} {ls ls2 locals : List Local} {p q last m1 m2 : ℕ} {iteration_end : BlockEnd Names} (most : ℕ) (more : Memory → Names → BlockEnd Names) → m1 + m2 ≤ most → Does w D c s exit e hs ls p outer locals last m1 iteration_end → ((m : Memory) (names : Names) (t : State) → At w hs ls names m p t → Does w D e t exit rest hs2 ls2 q outer locals last m2 (more m names)) → Does w D c s exit rest hs2 ls2 q outer locals last most (then_do iteration_end more)
  does_then most more le (goes_on {m = m} {names = names} end g at) f = does_after most le g (f m names end at)
  does_then most more le (breaks end g at) f = breaks end (go_more most (omega arith) g) at
  does_then most more le (faults k ok g) f = faults k ok (stop_more most (omega arith) g)

  -- the end of a first block
  does_falls : {M : Layout} {w : Fixed M} {c e exit rest : List DraftEntry} {s : State} {hs outer : Homes} {ls locals : List Local} {p last m1 : ℕ} {iteration_end : BlockEnd Names} (q most : ℕ) → p ≤ q → m1 + 1 ≤ most → ((t : State) → Falls e t rest) → Does w D c s exit e hs ls p outer locals last m1 iteration_end → Does w D c s exit rest hs ls q outer locals last most iteration_end
  does_falls q most le1 le2 f (goes_on end g at) = let k = f end in goes_on k.end (chain most le2 g k.goes) (at_same q le1 k.x k.memory at)
  does_falls q most le1 le2 f (breaks end g at) = breaks end (go_more most (omega arith) g) at
  does_falls q most le1 le2 f (faults k ok g) = faults k ok (stop_more most (omega arith) g)

  does_later : {M : Layout} {w : Fixed M} {c exit rest : List DraftEntry} {s : State} {hs outer : Homes} {ls locals : List Local} {p last m1 : ℕ} {iteration_end : BlockEnd Names} (q most : ℕ) → p ≤ q → m1 ≤ most → Does w D c s exit rest hs ls p outer locals last m1 iteration_end → Does w D c s exit rest hs ls q outer locals last most iteration_end
  does_later q most le1 le2 (goes_on end g at) = goes_on end (go_more most le2 g) (at_same q le1 refl refl at)
  does_later q most le1 le2 (breaks end g at) = breaks end (go_more most le2 g) at
  does_later q most le1 le2 (faults k ok g) = faults k ok (stop_more most le2 g)

  -- a condition, and one of two pieces
  choose_runs : {M : Layout} {w : Fixed M} {c then' else' exit rest : List DraftEntry} {s : State} {hs outer : Homes} {ls locals : List Local} {m : Memory} {b e q last m1 m2 m3 : ℕ} {o : Option Bool} {one other : BlockEnd Names} (l most : ℕ) → following D l ≡ else' → m1 + m2 ≤ most → m1 + m3 ≤ most → Turns D L c s l then' b e m m1 false o
      → ((t : State) → Kept L s t b e → Does w D then' t exit rest hs ls q outer locals last m2 one) → ((t : State) → Kept L s t b e → Does w D else' t exit rest hs ls q outer locals last m3 other) → Does w D c s exit rest hs ls q outer locals last most (choose m o one other)
  choose_runs l most at le1 le2 (no_turn g) f k = faults Read (inl refl) (stop_more most (omega arith) g)
  choose_runs l most at le1 le2 (turns {v = true} g) f k = does_after most le1 g.goes (f g.end g.kept)
  choose_runs {c = c} {s = s} {m1 = m1} l most at le1 le2 (turns {v = false} g) f k = does_after most le2 (subst (λ es. Goes D c s es g.end m1) at g.goes) (k g.end g.kept)

  -- a condition that leads out of the loop
  leave_runs : {M : Layout} {w : Fixed M} {c rest : List DraftEntry} {s : State} {hs outer : Homes} {ls locals : List Local} {names : Names} {m : Memory} {b e q last m1 : ℕ} {o : Option Bool} (l most : ℕ) → m1 ≤ most → Turns D L c s l rest b e m m1 true o
      → ((t : State) → Kept L s t b e → At w hs ls names m q t) → ((t : State) → Kept L s t b e → At w outer locals (take (length outer) names) m last t) → Does w D c s (following D l) rest hs ls q outer locals last most (leave m names o)
  leave_runs l most le (no_turn g) f k = faults Read (inl refl) (stop_more most le g)
  leave_runs l most le (turns {v = false} g) f k = goes_on g.end (go_more most le g.goes) (f g.end g.kept)
  leave_runs l most le (turns {v = true} g) f k = breaks g.end (go_more most le g.goes) (k g.end g.kept)

  -- a value where a type is wanted
  value_at_want : {w : Fixed L} (e : Term) (hs : Homes) (s : Scope) (names : Names) (m : Memory) (st : State) (want : Option Ty) (T : Ty) (b user n : ℕ) (rest : List DraftEntry) → want ≡ Some T → b + term_size s.index e ≤ user → covers L.loose s Whole want e ≡ true → AreSafe L b hs → At w hs s.visible names m b st → Runs D L e hs s names m st b user n rest want
  value_at_want e hs s names m st want T b user n rest q le covered safe at =
      subst (λ w. covers L.loose s Whole w e ≡ true → Runs D L e hs s names m st b user n rest w) (sym q) (λ c. value_runs D L fit e s T b user n rest le c safe at) covered

  -- the right side of an update's operator
  abbrev SideRuns : Term → Homes → Scope → (stand names : Names) → Memory → State → List ℕ → BinaryOp → Option Ty → (b user n : ℕ) → List DraftEntry → Type 0
  SideRuns e hs s stand names m st x op want b user n rest =
      covers L.loose s (update_extent L.loose x op want) want e ≡ true → Fits L hs s want b user e → Resolves D (side_code (added_number op want e) (is_fused s op (update_extent L.loose x op want) want e) (loose_code L hs s (update_extent L.loose x op want) want b n e) (parts_code L hs s (update_extent L.loose x op want) want b n e) rest)
      → Sided D L (side_code (added_number op want e) (is_fused s op (update_extent L.loose x op want) want e) (loose_code L hs s (update_extent L.loose x op want) want b n e) (parts_code L hs s (update_extent L.loose x op want) want b n e) rest) st rest b (b + term_size s.index e)
      (IsOperand (right_side L hs s op (update_extent L.loose x op want) want b e)) m (coded_words L.constants s.index e) (loose s (update_extent L.loose x op want) want e m stand names)

  side_at_want : {w : Fixed L} (e : Term) (hs : Homes) (s : Scope) (names : Names) (m : Memory) (st : State) (x : List ℕ) (op : BinaryOp) (want : Option Ty) (T : Ty) (b user n : ℕ) (rest : List DraftEntry) → want ≡ Some T → b + term_size s.index e ≤ user → AreSafe L b hs → (at : At w hs s.visible names m b st) → SideRuns e hs s at.stand names m st x op want b user n rest
  side_at_want e hs s names m st x op want T b user n rest q le safe at =
      subst (λ w. SideRuns e hs s at.stand names m st x op w b user n rest) (sym q) (λ c. side_runs D L fit e s op (update_extent L.loose x op (Some T)) T b user n rest le c safe at)

  range_at_want : (e : Term) (hs : Homes) (s : Scope) (names : Names) (m : Memory) (want : Option Ty) (T : Ty) (b user : ℕ) (v : ℤ) → want ≡ Some T → Fits L hs s want b user e → AreRanged s.visible names → value s want e m names ≡ Some v → IsOf T v
  range_at_want e hs s names m want T b user v q fits r is = value-range L hs s names m e T b user v (subst (λ w. Fits L hs s w b user e) q fits) r (sym (ap (λ w. value s w e m names) q) ∙ is)

module _ (D : Laid) (L : Layout) (fit : Assigned L) (outer : Homes) (locals : List Local) (last : ℕ) (steady : AreSteady outer) where
  -- where statements stand: after the outer names
  pub record Stands (hs : Homes) (ls : List Local) : Type 0 where
    pub homes : Extends outer hs
    pub visible : Extends locals ls
    pub same : length outer ≡ length locals

  stands_on : {hs hs2 : Homes} {ls ls2 : List Local} → Stands hs ls → Extends hs hs2 → Extends ls ls2 → Stands hs2 ls2
  stands_on k a b = record { homes = extends_on k.homes a; visible = extends_on k.visible b; same = k.same }

  at_exit : {M : Layout} {w : Fixed M} {hs : Homes} {ls : List Local} {names : Names} {m : Memory} {p : ℕ} {s : State} → Stands hs ls → At w hs ls names m p s → At w outer locals (take (length outer) names) m last s
  at_exit {names = names} {p = p} {s = s} k at =
      let c = at_cut (length outer) refl k.same k.homes k.visible at in
      record { sized = c.sized; nine = c.nine; args = c.args; ranged = c.ranged; memory = c.memory; good = c.good; stand = c.stand; told = c.told; held = held_steady outer c.stand p last s steady c.held }

  mutual
    pub action_runs : (a : Action) {w : Fixed L} {hs : Homes} (s : Scope) {names : Names} {m : Memory} {st : State} (exit b n : ℕ) (rest : List DraftEntry) → Stands hs s.visible → AreSafe L b hs → At w hs s.visible names m b st → covers_action L.loose s a ≡ true → FitsAction L hs s b a → Resolves D (action_code L hs s exit b n a rest) → Does w D (action_code L hs s exit b n a rest) st (following D exit) rest (after_homes L hs s b a) (after_action s a).visible (b + action_size s.index a) outer locals last (coded_action L.constants s.index a) (act s a m names)
    action_runs (Define x t e) {hs = hs} s {names = names} {m = m} {st = st} exit b n rest stands safe at cov h res =
        let parts = and_parts (is_whole L.loose x) _ cov in
        let q = b + term_size s.index e in
        let want = first t (own s e) in
        let w = some_type D L fit want h.0 in
        does_more (b + (term_size s.index e + 1)) ((coded_words L.constants s.index e + 4)) (omega arith) (omega arith)
        (let_runs D L fit s x want w.0 q (home L hs s.index b e) parts.0 w.1 (omega arith) safe at (λ v is. range_at_want D L fit e hs s names m want w.0 b q v w.1 h.1 at.ranged is)
        (value_at_want D L fit e hs s names m st want w.0 b q n _ w.1 (omega arith) parts.1 safe at h.1 res))
    action_runs (PutTo a i e) {w = w0} {hs = hs} s {names = names} {m = m} {st = st} exit b n rest stands safe at cov h res =
        let q = b + term_size s.index e in
        let want = option_and_then element_type (lookup s a) in
        let w = some_type D L fit want h.0 in
        let number = element_number (stream_offset s.index i) (iteration s.index names) (value s (index_type s i) i m names) in
        let parts = and_parts (index_covers L.loose s.index (loose_in L.loose a) want (stream_offset s.index i) (covers L.loose s Whole (index_type s i) i)) _ cov in
        let covered : covers L.loose s (extent_of w.0) (Some w.0) e ≡ true = subst (λ o. covers L.loose s (extent_at o) o e ≡ true) w.1 parts.1 in
        let alike : put want (value_at names a) m names (loose s (extent_at want) want e m at.stand names) number ≡ put want (value_at names a) m names (value s want e m names) number =
        subst (λ o. put o (value_at names a) m names (loose s (extent_at o) o e m at.stand names) number ≡ put o (value_at names a) m names (value s o e m names) number) (sym w.1)
        (put_alike w.0 (value_at names a) m names _ _ number (agrees s m names at.ranged L.loose w0.count at.stand at.told e (extent_of w.0) (Some w.0) covered (subst (λ o. AreTyped s o e) w.1 (fits_types e L hs s want b q h.1)))) in
        subst (λ iteration_end. Does w0 D (action_code L hs s exit b n (PutTo a i e) rest) st (following D exit) rest hs s.visible (b + (term_size s.index e + 1)) outer locals last ((coded_words L.constants s.index e + 2)) iteration_end) alike
        (does_more (b + (term_size s.index e + 1)) ((coded_words L.constants s.index e + 2)) (omega arith) (omega arith)
        (put_by D L fit a s.index (value s (index_type s i) i m names) (stream_offset s.index i) want w.0 q (stored_home L hs s (extent_at want) b e) (place_of L (register_at hs a) want (stream_offset s.index i)) (covers L.loose s Whole (index_type s i) i) parts.0 refl w.1 (stored_high D L fit e hs s (extent_at want) want b q (omega arith) h.1 safe) (omega arith) safe at h.2 h.3
        (stored_at_want D L fit e hs s names m st (extent_at want) want w.0 b q n _ w.1 (omega arith) parts.1 safe at h.1 res)))
    action_runs (Update x op e) {w = w0} {hs = hs} s {names = names} {m = m} {st = st} exit b n rest stands safe at cov h res =
        let q = b + term_size s.index e in
        let want = option_and_then accumulator_type (lookup s x) in
        let w = some_type D L fit want h.0 in
        let k = update_extent L.loose x (operator_of op) want in
        let parts = and_parts (is_enough (loose_in L.loose x) k) _ cov in
        let enough = subst (λ o. is_enough (loose_in L.loose x) (update_extent L.loose x (operator_of op) o) ≡ true) w.1 parts.0 in
        let alike = subst (λ o. Agreed (update_extent L.loose x (operator_of op) o) (loose s k want e m at.stand names) (value s want e m names)) w.1 (agrees s m names at.ranged L.loose w0.count at.stand at.told e k want parts.1 (fits_types e L hs s want b q h.1)) in
        does_more (b + (term_size s.index e + 1)) ((coded_words L.constants s.index e + 3)) (omega arith) (omega arith)
        (update_runs D L fit s x op want w.0 q (right_side L hs s (operator_of op) k want b e) refl w.1 (omega arith) safe at h.2 h.3 h.4 (λ v is. range_at_want D L fit e hs s names m want w.0 b q v w.1 h.1 at.ranged is) enough alike
        (subst (λ o. IsTaken (operator_of op) (right_side L hs s (operator_of op) (update_extent L.loose x (operator_of op) o) o b e)) (sym w.1) (right_taken (operator_of op) L hs s (update_extent L.loose x (operator_of op) (Some w.0)) w.0 b e))
        (side_at_want D L fit e hs s names m st x (operator_of op) want w.0 b q n _ w.1 (omega arith) safe at parts.1 h.1 res))
    action_runs (Choose c blk d) {hs = hs} s {names = names} {m = m} {st = st} exit b n rest stands safe at cov h res =
        let i = s.index in
        let f = b + term_size i c + 1 in
        let g = f + block_size i blk in
        let end = b + (term_size i c + 1 + block_size i blk + otherwise_size i d + 1) in
        let rb = jump_back D L fit c hs s false n b (n + 1) _ res in
        let ro = block_back D L fit blk hs s exit f _ _ rb in
        let n0 = length names in
        let parts = and_parts (covers_truth L.loose s c) _ cov in
        let inner = and_parts (covers_block L.loose s blk) _ parts.1 in
        let eh = names_length at in
        let el = ranged_length s.visible names at.ranged in
        let short : length outer ≤ n0 = (let x = extends_length stands.homes in omega (arith, x, eh)) in
        let safe1 = safe_later L hs b f (omega arith) safe in
        let safe2 = safe_later L hs b g (omega arith) safe in
        choose_runs D L fit n ((coded_words L.constants i c + 4 + coded_block L.constants i blk + coded_otherwise L.constants i d + 4)) refl (omega arith) (omega arith)
        (jump_runs D L fit c s false n b (n + 1) _ parts.0 safe at h.0 res)
        (λ t k. does_falls D L fit end (coded_block L.constants i blk + 1) (omega arith) (omega arith) (λ t. falls D L fit d hs (left s (after_block s blk)) exit _ _ _ rest t ro)
        (cut_does n0 eh el short (homes_block L hs s f blk) (visible_block s blk)
        (block_runs blk s exit f _ _ stands safe1 (at_kept L fit b f (omega arith) safe at (kept_more L f (omega arith) k)) inner.0 h.1 rb)))
        (λ t k. does_later D L fit end (coded_otherwise L.constants i d) (omega arith) (omega arith) (otherwise_runs d (left s (after_block s blk)) exit n g _ rest n0 eh el short stands safe2 (at_kept L fit b g (omega arith) safe at (kept_more L g (omega arith) k)) inner.1 h.2 ro))
    action_runs (Leave c) {hs = hs} s {names = names} {m = m} {st = st} exit b n rest stands safe at cov h res =
        leave_runs D L fit exit ((coded_words L.constants s.index c + 4)) (omega arith)
        (jump_runs D L fit c s true exit b n _ cov safe at h res)
        (λ t k. at_kept L fit b (b + (term_size s.index c + 1)) (omega arith) safe at (kept_more L _ (omega arith) k))
        (λ t k. at_exit stands (at_kept L fit b (b + term_size s.index c) (omega arith) safe at k))

    pub block_runs : (blk : Block) {w : Fixed L} {hs : Homes} (s : Scope) {names : Names} {m : Memory} {st : State} (exit b n : ℕ) (rest : List DraftEntry) → Stands hs s.visible → AreSafe L b hs → At w hs s.visible names m b st → covers_block L.loose s blk ≡ true → FitsBlock L hs s b blk → Resolves D (block_code L hs s exit b n blk rest) → Does w D (block_code L hs s exit b n blk rest) st (following D exit) rest (block_homes L hs s b blk) (after_block s blk).visible (b + block_size s.index blk) outer locals last (coded_block L.constants s.index blk) (do_block s blk m names)
    block_runs Done {hs = hs} s {st = st} exit b n rest stands safe at cov h res = goes_on st (stay 0) (at_same D L fit (b + 0) (omega arith) refl refl at)
    block_runs (Then a more) {hs = hs} s {names = names} {m = m} {st = st} exit b n rest stands safe at cov h res =
        let parts = and_parts (covers_action L.loose s a) _ cov in
        let b1 = b + action_size s.index a in
        let s1 = after_action s a in
        let hs1 = after_homes L hs s b a in
        let size : block_size s1.index more ≡ block_size s.index more = ap (λ i. block_size i more) (index_after s a) in
        let coded : coded_block L.constants s1.index more ≡ coded_block L.constants s.index more = ap (λ i. coded_block L.constants i more) (index_after s a) in
        let rb = action_back D L fit a hs s exit b n _ res in
        does_then D L fit ((coded_action L.constants s.index a + coded_block L.constants s.index more)) (do_block s1 more) (omega arith)
        (action_runs a s exit b n _ stands safe at parts.0 h.0 res)
        (λ m names t at. does_more (b + (action_size s.index a + block_size s.index more)) (coded_block L.constants s.index more) (omega (arith, size)) (omega (arith, coded)) (block_runs more s1 exit b1 _ rest (stands_on stands (homes_after L hs s b a) (visible_after s a)) (safe_after D L fit hs s b a safe) at parts.1 h.1 rb))

    otherwise_runs : (d : Otherwise) {w : Fixed L} {hs : Homes} (s : Scope) {names : Names} {m : Memory} {st : State} (exit other b n : ℕ) (rest : List DraftEntry) (n0 : ℕ) → length names ≡ length hs → length names ≡ length s.visible → length outer ≤ length names → Stands hs s.visible → AreSafe L b hs → At w hs s.visible names m b st → covers_otherwise L.loose s d ≡ true → FitsOtherwise L hs s b d → Resolves D (otherwise_code L hs s exit other b n d rest) → Does w D (following D other) st (following D exit) rest hs s.visible (b + otherwise_size s.index d) outer locals last (coded_otherwise L.constants s.index d) (cut (length names) (do_otherwise s d m names))
    otherwise_runs Nothing {w = w} {hs = hs} s {names = names} {m = m} {st = st} exit other b n rest n0 eh el short stands safe at cov h res =
        goes_on st (subst (λ es. Goes D es st rest st 0) (sym res.0) (stay 0)) (at_same D L fit (b + 0) (omega arith) refl refl (subst (λ ns. At w hs s.visible ns m b st) (sym (take_whole names)) at))
    otherwise_runs (Else blk) {w = w} {hs = hs} s {names = names} {m = m} {st = st} exit other b n rest n0 eh el short stands safe at cov h res =
        let rb = block_back D L fit blk hs s exit (b + 1) (n + 1) (Place n ∷ rest) res.1 in
        cut_does (length names) eh el short (homes_block L hs s (b + 1) blk) (visible_block s blk)
        (subst (λ es. Does w D es st (following D exit) rest (block_homes L hs s (b + 1) blk) (after_block s blk).visible (b + (1 + block_size s.index blk)) outer locals last (4 + coded_block L.constants s.index blk) (do_block s blk m names)) (sym res.0)
        (does_falls D L fit (b + (1 + block_size s.index blk)) (4 + coded_block L.constants s.index blk) (omega arith) (omega arith) (λ t. record { end = t; goes = go_more 1 (omega arith) pass; memory = refl; x = refl })
        (block_runs blk s exit (b + 1) (n + 1) (Place n ∷ rest) stands (safe_later L hs b (b + 1) (omega arith) safe) (at_same D L fit (b + 1) (omega arith) refl refl at) cov h res.1)))
