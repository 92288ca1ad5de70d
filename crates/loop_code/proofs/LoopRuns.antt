-- What the code of a loop does.
use Rattle.std.proofs.Common.{◌≡◌, ◌≢◌, ℕ, zero, suc, ◌+◌, ◌*◌, ◌^◌, ◌<◌, ◌≤◌, true, false, List, [], ◌∷◌, ◌++◌, length, take, Option, Some, None, inl, inr, refl, sym, ap, ap₂, ◌∙◌, subst, arith}
use Rattle.std.specs.Prelude.{ℤ, pos, ◌-ℤ◌, nat_le, nat_eq, not, bytes_eq, slice_index, option_map}
use Rattle.std.proofs.lemmas.Int.{ints}
use Rattle.std.proofs.lemmas.Bool.{le-leb, lt-leb, cond-true, eq-eqb, ne_eqb}
use Rattle.std.proofs.Math.Nat.{mod-eq_of_lt, mul-suc}
use Rattle.guest_types.specs.Memory.{Memory}
use Rattle.machine_model.specs.declared.outcome.StopKind.TheVariants.{Read}
use Rattle.machine_model.specs.Machine.{State, Ended, x_at, jump, next}
use Rattle.machine_model.specs.Arithmetic.{sum, difference, holds}
use Rattle.a64_code.specs.Table.{movz, svc, add_imm}
use Rattle.kernel_tree.specs.Plain.{PlainLoop, Returned}
use Rattle.kernel_tree.specs.Items.{term_size, block_size, answer_size}
use Rattle.kernel_tree.specs.Typing.{Scope, Local, local, lookup, in_loop, after_for_loop}
use Rattle.kernel_tree.proofs.Names.{bytes_swap}
use Rattle.kernel_meaning.specs.Ends.{BlockEnd, go_on}
use Rattle.kernel_meaning.specs.Operators.{word}
use Rattle.kernel_tree.specs.declared.ops.Ty.TheVariants.{U64}
use Rattle.kernel_meaning.proofs.TypeRanges.{is_of}
use Rattle.kernel_meaning.proofs.Extends.{Extends, extends_one, extends_on, visible_block}
use Rattle.kernel_meaning.proofs.NameRanges.{ranged_more, ranged_length}
use Rattle.kernel_meaning.specs.Eval.{Names, value}
use Rattle.kernel_meaning.specs.Iterate.{with_name, cut}
use Rattle.kernel_meaning.specs.ScalarRun.{iterations, Run, returned, ended, closed, finish}
use Rattle.label_fix.specs.DraftRun.{DraftEntry, Branch, Place, If, NotZero, Laid, following, address_of, effect, ins, word_of}
use Rattle.label_fix.proofs.StretchSteps.{Goes, Ends, Resolves, stay, chain, put_goes, put_ends, stop_after, stop_more, end_after, taken_goes, passed_goes, pass}
use Rattle.scalar_words.specs.Layout.{Form, LowBits, Ahead, Behind, Loose, loose_in, Layout, Homes, register_at, NameLasts, with_constants, with_loose}
use Rattle.value_code.specs.ValueRegisters.{home}
use Rattle.scalar_words.specs.Words.{copy_word, word_code}
use Rattle.value_code.specs.Code.{value_code}
use Rattle.loop_code.specs.Statements.{block_labels}
use Rattle.value_code.specs.HeldNumbers.{loading_words}
use Rattle.loop_code.specs.LoopNumbers.{coded_block}
use Rattle.loop_code.specs.Loosening.{after_loop, covers_answer}
use Rattle.loop_code.specs.Loop.{AreHeldLoosely, index_home, exit_code, answer_code, with_index, leave_code, bound_code, enter_code, settle_code, back_code, again_code, numbers_code, body_code, bare, test_code, loop_code, AreClear, FitsAnswer, FitsLoop}
pub use Rattle.scalar_words.specs.Iterations.{Comes, ends_so, faults_so}
use Rattle.scalar_words.proofs.LayoutStates.{Assigned, AreSafe, IsSafe, IsLoaded, Fixed, AreInRegisters, Kept, Tells, At, name_held, wrote, wrote_same, wrote_sized, changes_own, kept_on, at_kept, safe_later}
use Rattle.scalar_words.proofs.Binary.{word-difference}
use Rattle.scalar_words.proofs.WordsRuns.{copied_sets}
use Rattle.scalar_words.proofs.Truths.{tested, tested_goes, tested_flags, tested_kept}
use Rattle.value_code.proofs.Loads.{Gives, no_value, a_value, word-sum}
use Rattle.value_code.proofs.Jumps.{kept_jump, Turned}
use Rattle.value_code.proofs.ValueRuns.{give_more, value_runs}
use Rattle.value_code.proofs.CodedSizes.{coded_few}
use Rattle.loop_code.proofs.SetupRuns.{numbers_back, numbers_load, held_loaded}
use Rattle.loop_code.proofs.HoldBlocks.{assigned_with, safe_with}
use Rattle.loop_code.proofs.StmtRuns.{Does, does_after, goes_on, breaks, faults, AreSteady, homes_block, held_more, safe_more, held_others, held_steady, names_length, at_cut, block_back, block_runs, Stands}
use Rattle.loop_code.proofs.LooseNames.{AreOnce, once_of, found_more, free_other, look_more, index_looked, loose_other, IsCounted, index_counted, index_after, standing_at, standing_tells, tells_standing, standing_next, told_still, last_held, take_first, all_entering, all_settling, back_words, moving_few}
use Rattle.loop_code.proofs.EnterRuns.{AreUnlike, enter_back, enter_runs}
use Rattle.loop_code.proofs.SettleRuns.{settle_back, settle_runs}
use Rattle.scalar_words.proofs.Told.{told_same, told_none, told_more_by}
use Rattle.kernel_tree.specs.declared.fault.Binding.TheVariants as binding

pub at_steady : {M : Layout} {w : Fixed M} {hs : Homes} {ls : List Local} {names : Names} {m : Memory} {p : ℕ} {s : State} (q : ℕ) → AreSteady hs → At w hs ls names m p s → At w hs ls names m q s
at_steady {hs = hs} {names = names} {p = p} {s = s} q steady at = record { sized = at.sized; nine = at.nine; args = at.args; ranged = at.ranged; memory = at.memory; good = at.good; stand = at.stand; told = at.told; held = held_steady hs at.stand p q s steady at.held }

module _ (D : Laid) (L : Layout) (fit : Assigned L) where
  index_safe : (p : ℕ) (x : List ℕ) → IsSafe L p (index_home x)
  index_safe p x = record { high = λ l. omega arith; apart = λ q lo l made eq. absurd (let k = fit.low q made in omega (arith, k, eq)) }

  -- the loop variable is visible from here on
  at_index : {M : Layout} {w : Fixed M} {hs : Homes} {ls : List Local} {names : Names} {m : Memory} {p : ℕ} {s : State} (i : ℕ) (x : List ℕ) (u : ℤ) → w.index ≡ word u → Tells w.count (loose_in M.loose x) u (pos i) → i < 2 ^ 64 → At w hs ls names m p s → At w (hs ++ index_home x ∷ []) (ls ++ local x binding.Index ∷ []) (with_name x names (pos i)) m p s
  at_index {M = M} {w = w} {hs = hs} {ls = ls} {names = names} {p = p} {s = s} i x u is tells small at = record {
    sized = at.sized;
    nine = at.nine;
    args = at.args;
    ranged = ranged_more ls names (local x binding.Index) (pos i) at.ranged (is_of U64 (pos i) small);
    memory = at.memory;
    good = at.good;
    stand = with_name x at.stand u;
    told = told_more_by M.loose w.count at.stand names x u (pos i) tells at.told;
    held = held_more hs at.stand (index_home x) u p s at.held (λ l. at.nine ∙ is);
  }

  -- the exit call
  exit_runs : {rest : List DraftEntry} {s : State} (r : ℕ) → length s.x ≡ 31 → x_at s 0 ≡ r → Ends D (exit_code rest) s s.memory r 2
  exit_runs {rest = rest} {s = s} r sized is =
      let t = wrote s 8 (93 * 2 ^ (16 * 0)) in
      let e8 : x_at t 8 ≡ 93 = wrote_same s 8 93 (omega (arith, sized)) in
      let e0 : x_at t 0 ≡ r = Rattle.scalar_words.proofs.LayoutStates.wrote_other s 8 93 0 (λ e. absurd (omega arith)) ∙ is in
      let does : effect (word_of svc (0 ∷ [])) t ≡ Ended r = cond-true _ _ _ (eq-eqb (x_at t 8) 93 e8) ∙ ap Ended e0 in
      end_after 2 (omega arith) (put_goes {i = word_of movz (8 ∷ 93 ∷ 0 ∷ [])} {t = t} refl) (put_ends does)

  -- the answer and the end, with n iterations counted as begun
  pub answer_runs : {st : State} {w : Fixed L} {hs : Homes} (s : Scope) {names : Names} {m : Memory} (rest : List DraftEntry) (K i n bg b n2 : ℕ) (answer : Option Returned) → covers_answer L.loose s answer ≡ true → bg ≡ i + n → AreSafe L b hs → At w hs s.visible names m b st → FitsAnswer L hs s b answer → Resolves D (answer_code L hs s b n2 answer rest) → Comes D (answer_code L hs s b n2 answer rest) st K (4 * answer_size s.index answer + 3) i (ended m bg (returned s answer m names))
  answer_runs {st = st} s {m = m} rest K i n bg b n2 None covered e safe at fits res =
      let t = wrote st 0 (0 * 2 ^ (16 * 0)) in
      let z = wrote_sized st 0 (0 * 2 ^ (16 * 0)) in
      let x0 : x_at t 0 ≡ 0 = wrote_same st 0 0 (let k = at.sized in omega (arith, k)) in
      let g = end_after (K * n + (4 * 0 + 3)) (omega arith) (put_goes {i = word_of movz (0 ∷ 0 ∷ 0 ∷ [])} {s = st} {t = t} refl) (exit_runs {rest = rest} {s = t} 0 (z ∙ at.sized) x0) in
      ends_so n e (subst (λ m. Ends D (ins movz (0 ∷ 0 ∷ 0 ∷ []) ∷ exit_code rest) st m 0 (K * n + (4 * 0 + 3))) at.memory g)
  answer_runs {st = st} {w = w} {hs = hs} s {names = names} {m = m} rest K i n bg b n2 (Some a) covered e safe at fits res =
      let F = 4 * (term_size s.index a.value + 1) + 3 in
      value_ends (value s (Some a.type) a.value m names) (give_more D L (4 * term_size s.index a.value) (coded_few a.value L.constants s.index) (value_runs D L fit a.value s a.type b (b + term_size s.index a.value) n2 _ (omega arith) covered safe at fits res))
    where
      value_ends : (o : Option ℤ) → Gives D L (value_code L hs s (Some a.type) b n2 a.value (word_code (copy_word 0 (home L hs s.index b a.value)) (exit_code rest))) st (word_code (copy_word 0 (home L hs s.index b a.value)) (exit_code rest)) b (b + term_size s.index a.value) (home L hs s.index b a.value) m (4 * term_size s.index a.value) o → Comes D (value_code L hs s (Some a.type) b n2 a.value (word_code (copy_word 0 (home L hs s.index b a.value)) (exit_code rest))) st K (4 * (term_size s.index a.value + 1) + 3) i (ended m bg (option_map word o))
      value_ends None (no_value g) = faults_so n Read e (inl refl) (stop_more _ (omega arith) g)
      value_ends (Some v) (a_value g) =
          let k = copied_sets D L fit {rest = exit_code rest} {s = g.end} 0 (home L hs s.index b a.value) v (g.kept.sized ∙ at.sized) (omega arith) g.value in
          let F = K * n + (4 * (term_size s.index a.value + 1) + 3) in
          let h = end_after F (omega arith) (chain (4 * term_size s.index a.value + 1) (omega arith) g.goes k.goes) (exit_runs {rest = rest} {s = k.end} (word v) (k.changes.sized ∙ g.kept.sized ∙ at.sized) k.value) in
          ends_so n e (subst (λ m. Ends D (value_code L hs s (Some a.type) b n2 a.value (word_code (copy_word 0 (home L hs s.index b a.value)) (exit_code rest))) st m (word v) F) (k.changes.memory ∙ g.kept.memory ∙ at.memory) h)

comes_after : {D : Laid} {c e : List DraftEntry} {s t : State} {K F G i a : ℕ} {run : Run} → F + a ≤ G → Goes D c s e t a → Comes D e t K F i run → Comes D c s K G i run
comes_after {K = K} {G = G} le g (ends_so n e h) = ends_so n e (end_after (K * n + G) (omega arith) g h)
comes_after {K = K} {G = G} le g (faults_so n kind e ok h) = faults_so n kind e ok (stop_after (K * n + G) (omega arith) g h)

-- an iteration, and the rest
comes_next : {D : Laid} {c e : List DraftEntry} {s t : State} {K F G i a : ℕ} {run : Run} → a + G ≤ K + F → Goes D c s e t a → Comes D e t K G (i + 1) run → Comes D c s K F i run
comes_next {K = K} {F = F} le g (ends_so n e h) = let k = mul-suc K n in ends_so (suc n) (omega (arith, e)) (end_after (K * suc n + F) (omega (arith, k, le)) g h)
comes_next {K = K} {F = F} le g (faults_so n kind e ok h) = let k = mul-suc K n in faults_so (suc n) kind (omega (arith, e)) ok (stop_after (K * suc n + F) (omega (arith, k, le)) g h)

comes_more : {D : Laid} {c : List DraftEntry} {s : State} {K F i : ℕ} {run : Run} (G : ℕ) → F ≤ G → Comes D c s K F i run → Comes D c s K G i run
comes_more G le q = comes_after {a = 0} (omega arith) (stay 0) q

abbrev pub fixed_at : {L : Layout} (i count : ℕ) (args : List ℕ) → IsLoaded L args → Fixed L
fixed_at i count args h = record { index = i; count = count; args = args; loaded = h }

-- no numbers are held
pub none_loaded : (L : Layout) (args : List ℕ) → IsLoaded (bare L) args
none_loaded L args z r e = absurd cc

-- before the loop nothing is held
abbrev pub plain : Layout → Layout
plain L = with_loose (with_constants L []) []

pub plain_loaded : (L : Layout) (args : List ℕ) → IsLoaded (plain L) args
plain_loaded L args z r e = absurd cc

-- a loop of no iterations leaves arrays where they are
pub at_bare : (L : Layout) {w : Fixed (plain L)} {hs : Homes} {ls : List Local} {names : Names} {m : Memory} {p : ℕ} {s : State} → At w hs ls names m p s → At (fixed_at {L = bare L} w.index 0 w.args (none_loaded L w.args)) hs ls names m p s
at_bare L {w = w} {hs = hs} {names = names} {p = p} {s = s} at = record {
  sized = at.sized;
  nine = at.nine;
  args = at.args;
  ranged = at.ranged;
  memory = at.memory;
  good = at.good;
  stand = names;
  told = told_still (after_loop L.loose) names;
  held = subst (λ ns. AreInRegisters hs ns p s) (told_none w.count at.stand names at.told) at.held;
}

clear_more : (p : ℕ) (hs : Homes) (x : List ℕ) → AreClear p hs → AreClear p (hs ++ index_home x ∷ [])
clear_more p [] x h = (inr (omega arith), tt)
clear_more p (y ∷ hs) x h = (h.0, clear_more p hs x h.1)

steady_more : (hs : Homes) (x : List ℕ) → AreSteady hs → AreSteady (hs ++ index_home x ∷ [])
steady_more [] x h = (refl, tt)
steady_more (y ∷ hs) x h = (h.0, steady_more hs x h.1)

module _ (D : Laid) (L : Layout) (fit : Assigned L) (hs : Homes) (s : Scope) (l : PlainLoop) (b n b2 : ℕ) (answer : Option Returned) (rest : List DraftEntry) (fits : FitsLoop L hs s l b b2 answer) (steady : AreSteady hs) (safe : AreSafe L b hs) (index : s.index ≡ Some l.index) (res : Resolves D (loop_code L hs s l b n b2 answer rest)) where
  abbrev test : List DraftEntry
  test = test_code L hs s l b n b2 answer rest

  abbrev leave : List DraftEntry
  leave = leave_code (bare L) hs s l b2 (n + 4 + block_labels s.index l.body) answer rest

  abbrev top : List DraftEntry
  top = body_code L hs s l b n leave

  abbrev homes : Homes
  homes = with_index hs l

  -- the register of the bound
  abbrev limit : ℕ
  limit = register_at hs l.bound

  -- what stands in X9
  abbrev form : Option Form
  form = loose_in L.loose l.index

  -- after the first test
  abbrev filling : List DraftEntry
  filling = numbers_code L.constants (Place (n + 2) ∷ top)

  abbrev entering : List DraftEntry
  entering = enter_code limit homes L.loose filling

  abbrev again : List DraftEntry
  again = again_code form limit n homes L.loose leave

  -- after the last iteration
  abbrev settling : List DraftEntry
  settling = settle_code limit homes L.loose (Place (n + 1) ∷ leave)

  -- after the loop variable is one more
  abbrev tail : List DraftEntry
  tail = back_code form limit n (Place (n + 3) ∷ settling)

  abbrev per : ℕ
  per = 4 * block_size s.index l.body + 4

  abbrev once : ℕ
  once = 4 * answer_size s.index answer + 3

  -- with the words after the last iteration, for which an iteration pays
  abbrev last : ℕ
  last = once + all_settling L.loose

  back_from : (f : Option Form) (rest : List DraftEntry) → Resolves D (back_code f limit n rest) → Resolves D rest
  back_from None rest h = h
  back_from (Some (LowBits t)) rest h = h
  back_from (Some (Ahead t)) rest h = h
  back_from (Some Behind) rest h = h

  at_top : (following D (n + 2) ≡ top) × Resolves D top
  at_top = numbers_back D L.constants (Place (n + 2) ∷ top) (enter_back D limit homes L.loose filling res.1)

  resolves_settling : (following D (n + 3) ≡ settling) × Resolves D settling
  resolves_settling = back_from form (Place (n + 3) ∷ settling) (block_back D L fit l.body homes (in_loop s l) (n + 3) (b + 1) (n + 4) again at_top.1)

  resolves_leave : (following D (n + 1) ≡ leave) × Resolves D leave
  resolves_leave = settle_back D limit homes L.loose (Place (n + 1) ∷ leave) resolves_settling.1

  homes_safe : (p : ℕ) → b ≤ p → AreSafe L p homes
  homes_safe p le = safe_more L p hs (index_home l.index) (safe_later L hs b p le safe) (index_safe D L fit p l.index)

  -- the bound among the names of an iteration
  limit_found : NameLasts homes l.bound b × (register_at homes l.bound ≡ limit)
  limit_found = found_more hs (index_home l.index ∷ []) l.bound b fits.bound

  all_once : AreOnce L.loose
  all_once = once_of homes (in_loop s l) b L.loose fits.loosely

  bound_alone : bytes_eq l.index l.bound ≡ false
  bound_alone = bytes_swap l.bound l.index (free_other hs l.index l.bound b fits.free fits.bound)

  bound_known : lookup (in_loop s l) l.bound ≡ Some (binding.Scalar U64)
  bound_known = look_more s.visible (local l.index binding.Index ∷ []) l.bound (binding.Scalar U64) fits.bound_known

  unlike_of : (ls : List Loose) → AreHeldLoosely homes (in_loop s l) b ls → AreUnlike l.bound ls
  unlike_of [] h = tt
  unlike_of (x ∷ ls) h = (loose_other (in_loop s l) x.name l.bound l.index x.form index bound_alone bound_known h.0.0, unlike_of ls h.1)

  loop_words_le : all_entering L.loose + all_settling L.loose + back_words form + loading_words L.constants + coded_block L.constants s.index l.body ≤ 4 * block_size s.index l.body + 3
  loop_words_le = let a = moving_few homes (in_loop s l) b l.index L.loose index fits.loosely in let k = fits.few in omega (arith, a, k)

  -- with the loop variable
  leaves_with : {w : Fixed (bare L)} (names : Names) {m : Memory} {st : State} (i0 i k bg : ℕ) → bg ≡ i0 + k → At w homes (after_for_loop s (Some l)).visible (with_name l.index names (pos i)) m b st → Comes D leave st per once i0 (closed s l answer m names i bg)
  leaves_with names i0 i k bg e at =
      answer_runs D (bare L) (assigned_with L 0 [] (after_loop L.loose) tt fit) (after_for_loop s (Some l)) rest per i0 k bg b2 (n + 4 + block_labels s.index l.body) answer fits.answer_covered e (safe_with L [] (after_loop L.loose) b2 homes (homes_safe b2 fits.following))
      (at_steady b2 (steady_more hs l.index steady) at) fits.answered resolves_leave.1

  -- the test of the loop
  test_flag : (st : State) (i bound : ℕ) → x_at st 9 ≡ i → x_at st limit ≡ bound → i < 2 ^ 64 → bound < 2 ^ 64 → holds 2 (tested st 9 limit).flags ≡ nat_le bound i
  test_flag st i bound nine at lt small =
      let e9 : x_at st 9 ≡ word (pos i) = nine ∙ sym (mod-eq_of_lt lt) in
      let en : x_at st limit ≡ word (pos bound) = at ∙ sym (mod-eq_of_lt small) in
      ap (holds 2) (tested_flags st 9 limit (pos i) (pos bound) e9 en) ∙ ap₂ nat_le (mod-eq_of_lt small) (mod-eq_of_lt lt)

  tested_same : (st : State) (pc : ℕ) → Kept L st (jump (tested st 9 limit) pc) b b
  tested_same st pc = kept_on L b b (omega arith) (omega arith) (omega arith) (omega arith) (tested_kept L st 9 limit b b) (kept_jump L (tested st 9 limit) pc b b)

  test_at : {M : Layout} {w : Fixed M} {names : Names} {m : Memory} {st : State} (pc : ℕ) → At w hs s.visible names m b st → At w hs s.visible names m b (jump (tested st 9 limit) pc)
  test_at {st = st} pc at = at_kept L fit b b (omega arith) safe at (tested_same st pc)

  -- the end of an iteration by a comparison
  compare_back : {st : State} (es : List DraftEntry) (i bound : ℕ) → x_at st 9 ≡ i → x_at st limit ≡ bound → bound < 2 ^ 64 → i < bound → Turned D L (bound_code limit (Branch (If 3) (n + 2) ∷ es)) st (following D (n + 2)) b b 2
  compare_back {st = st} es i bound nine at small lt =
      let h : holds 3 (tested st 9 limit).flags ≡ true = ap not (test_flag st i bound nine at (omega (arith, small, lt)) small ∙ lt-leb bound i lt) in
      record { end = jump (tested st 9 limit) (address_of D (n + 2)); goes = chain 2 (omega arith) (tested_goes D _ st 9 limit) (taken_goes h); kept = tested_same st (address_of D (n + 2)) }

  compare_on : {st : State} (es : List DraftEntry) (i bound : ℕ) → x_at st 9 ≡ i → x_at st limit ≡ bound → bound < 2 ^ 64 → i ≡ bound → Turned D L (bound_code limit (Branch (If 3) (n + 2) ∷ es)) st es b b 2
  compare_on {st = st} es i bound nine at small e =
      let h : holds 3 (tested st 9 limit).flags ≡ false = ap not (test_flag st i bound nine at (omega (arith, small, e)) small ∙ le-leb bound i (omega (arith, e))) in
      record { end = next (tested st 9 limit); goes = chain 2 (omega arith) (tested_goes D _ st 9 limit) (passed_goes h); kept = tested_same st (next (tested st 9 limit)).pc }

  whole_index : (st : State) (i bound : ℕ) → x_at st 9 ≡ word (pos i) → i ≤ bound → bound < 2 ^ 64 → x_at st 9 ≡ i
  whole_index st i bound nine le small = nine ∙ mod-eq_of_lt (omega (arith, le, small))

  -- back where the loop variable is below the bound
  goes_back : {st : State} (f : Option Form) (es : List DraftEntry) (i bound : ℕ) → x_at st 9 ≡ word (standing_at f bound i) → x_at st limit ≡ bound → bound < 2 ^ 64 → i < bound → Turned D L (back_code f limit n es) st (following D (n + 2)) b b (back_words f)
  goes_back {st = st} None es i bound nine at small lt = compare_back es i bound (whole_index st i bound nine (omega (arith, lt)) small) at small lt
  goes_back {st = st} (Some (LowBits t)) es i bound nine at small lt = compare_back es i bound (whole_index st i bound nine (omega (arith, lt)) small) at small lt
  goes_back {st = st} (Some (Ahead t)) es i bound nine at small lt = compare_back es i bound (whole_index st i bound nine (omega (arith, lt)) small) at small lt
  goes_back {st = st} (Some Behind) es i bound nine at small lt =
      let less : i < 2 ^ 64 = omega (arith, small, lt) in
      let is : x_at st 9 ≡ difference i bound = nine ∙ word-difference (pos i) (pos bound) ∙ ap₂ difference (mod-eq_of_lt less) (mod-eq_of_lt small) in
      let other : x_at st 9 ≢ 0 = λ e. omega (arith, e, is, small, lt) in
      let h : not (nat_eq (x_at st 9) 0) ≡ true = ap not (ne_eqb (x_at st 9) 0 other) in
      record { end = jump st (address_of D (n + 2)); goes = taken_goes {k = NotZero 9} h; kept = kept_jump L st (address_of D (n + 2)) b b }

  -- and else on
  goes_past : {st : State} (f : Option Form) (es : List DraftEntry) (i bound : ℕ) → x_at st 9 ≡ word (standing_at f bound i) → x_at st limit ≡ bound → bound < 2 ^ 64 → i ≡ bound → Turned D L (back_code f limit n es) st es b b (back_words f)
  goes_past {st = st} None es i bound nine at small e = compare_on es i bound (whole_index st i bound nine (omega (arith, e)) small) at small e
  goes_past {st = st} (Some (LowBits t)) es i bound nine at small e = compare_on es i bound (whole_index st i bound nine (omega (arith, e)) small) at small e
  goes_past {st = st} (Some (Ahead t)) es i bound nine at small e = compare_on es i bound (whole_index st i bound nine (omega (arith, e)) small) at small e
  goes_past {st = st} (Some Behind) es i bound nine at small e =
      let zero_is : pos i -ℤ pos bound ≡ pos 0 = omega (arith, ints, e) in
      let h : not (nat_eq (x_at st 9) 0) ≡ false = ap not (eq-eqb (x_at st 9) 0 (nine ∙ ap word zero_is)) in
      record { end = next st; goes = passed_goes {k = NotZero 9} h; kept = kept_jump L st (next st).pc b b }

  -- with the numbers in their registers
  module _ (args : List ℕ) (loaded : IsLoaded L args) (bound : ℕ) (given : slice_index args limit ≡ bound) (small : bound < 2 ^ 64) (known : lookup (in_loop s l) l.index ≡ Some binding.Index) where
    abbrev now : ℕ → Fixed L
    now i = record { index = word (standing_at form bound i); count = bound; args = args; loaded = loaded }

    counted : IsCounted form
    counted = index_counted homes (in_loop s l) b l.index L.loose known fits.loosely

    with_variable : {names : Names} {m : Memory} {st : State} (i p : ℕ) → i < 2 ^ 64 → At (now i) hs s.visible names m p st → At (now i) homes (in_loop s l).visible (with_name l.index names (pos i)) m p st
    with_variable i p lt at = at_index D L fit i l.index (standing_at form bound i) refl (standing_tells form bound i counted) lt at

    -- x9 is one more
    at_again : {names : Names} {m : Memory} {st : State} (i : ℕ) → At (now i) hs s.visible names m b st → At (now (i + 1)) hs s.visible names m b (wrote st 9 (sum (x_at st 9) (1 * 2 ^ (12 * 0))))
    at_again {names = names} {st = st} i at =
        let v = sum (x_at st 9) (1 * 2 ^ (12 * 0)) in
        let k = changes_own st 9 v in
        let e : v ≡ word (standing_at form bound (i + 1)) = ap (λ x. sum x 1) at.nine ∙ sym (word-sum (standing_at form bound i) (pos 1)) ∙ ap word (sym (standing_next form bound i)) in
        record {
          sized = wrote_sized st 9 v ∙ at.sized;
          nine = wrote_same st 9 v (let z = at.sized in omega (arith, z)) ∙ e;
          args = λ r lt. k.others r (omega arith) (λ e. absurd (omega arith)) ∙ at.args r lt;
          ranged = at.ranged;
          memory = at.memory;
          good = at.good;
          stand = at.stand;
          told = at.told;
          held = held_others D L fit hs at.stand 9 b st (wrote st 9 v) safe at.held k fits.nine;
        }

    lengths : {names : Names} {m : Memory} {st : State} {M : Layout} {w : Fixed M} {p : ℕ} → At w hs s.visible names m p st → (length names ≡ length hs) × (length names ≡ length s.visible)
    lengths {names = names} at = (names_length at, ranged_length s.visible names at.ranged)

    at_limit : {names : Names} {m : Memory} {st : State} (i : ℕ) → At (now i) hs s.visible names m b st → x_at st limit ≡ bound
    at_limit i at = at.args limit fits.bound_low ∙ given

    -- after the last iteration, with n iterations counted as begun
    settles_at : {names : Names} {m : Memory} {st : State} (i0 i k bg : ℕ) → bg ≡ i0 + k → i < 2 ^ 64 → At (now i) hs s.visible names m b st → Comes D settling st per last i0 (closed s l answer m names i bg)
    settles_at {names = names} {m = m} {st = st} i0 i k bg e lt at =
        let a = with_variable i b lt at in
        let all = with_name l.index names (pos i) in
        let f = settle_runs D L fit homes (in_loop s l) b (homes_safe b (omega arith)) l.bound limit bound limit_found.0 limit_found.1 small L.loose [] (Place (n + 1) ∷ leave) a.stand all st a.sized fits.loosely (unlike_of L.loose fits.loosely) all_once (at_limit i at) a.ranged a.told a.held in
        let W : Fixed (bare L) = fixed_at (x_at f.end 9) bound f.end.x (none_loaded L f.end.x) in
        let there : At W homes (after_for_loop s (Some l)).visible all m b f.end = record {
          sized = f.sized ∙ a.sized;
          nine = refl;
          args = λ r less. refl;
          ranged = a.ranged;
          memory = f.memory ∙ a.memory;
          good = a.good;
          stand = f.stand;
          told = f.told;
          held = f.held;
        } in
        comes_after {a = all_settling L.loose} (omega arith) (chain {n = 0} (all_settling L.loose) (omega arith) f.goes pass) (leaves_with {w = W} names i0 i k bg e there)

    -- from the test at the end of an iteration on
    record Further (c : List DraftEntry) (st : State) (i : ℕ) (run : Run) : Type 0 where
      entries : List DraftEntry
      end : State
      goes : Goes D c st entries end (back_words form)
      comes : Comes D entries end per last i run

    iteration_ends : {c : List DraftEntry} {st : State} {iteration_end : BlockEnd Names} {hs2 : Homes} {ls2 : List Local} {most : ℕ} (i count n0 p : ℕ) → all_settling L.loose + back_words form + most ≤ 4 * block_size s.index l.body + 3 → Extends hs hs2 → Extends s.visible ls2 → i < bound → n0 ≡ length hs → n0 ≡ length s.visible
        → ((names : Names) (m : Memory) (st : State) → At (now (i + 1)) hs s.visible names m b st → Further tail st (i + 1) (finish s l answer bound (iterations s l count (i + 1) m names)))
        → Does (now i) D c st (following D (n + 3)) again hs2 ls2 p hs s.visible b most iteration_end → Comes D c st per once i (finish s l answer bound (go_on (cut n0 iteration_end) i (iterations s l count (i + 1))))
    iteration_ends {c = c} {st = st} {most = most} i count n0 p few xh xl lt eh el more (goes_on {m = m} {names = names} end g at) =
        let a1 = at_steady b steady (at_cut n0 eh el xh xl at) in
        let t = wrote end 9 (sum (x_at end 9) (1 * 2 ^ (12 * 0))) in
        let add : Goes D again end tail t 1 = put_goes {i = word_of add_imm (9 ∷ 9 ∷ 1 ∷ 0 ∷ [])} refl in
        let f = more (take n0 names) m t (at_again i a1) in
        comes_next (omega (arith, few)) (chain (most + (1 + back_words form)) (omega arith) g (chain (1 + back_words form) (omega arith) add f.goes)) f.comes
    iteration_ends {c = c} {st = st} {most = most} i count n0 p few xh xl lt eh el more (breaks {m = m} {names = names} end g at) =
        let e : take (length hs) names ≡ take n0 names = ap (λ k. take k names) (sym eh) in
        let q = settles_at (i + 1) i 0 (i + 1) (omega arith) (omega (arith, small, lt)) (subst (λ ns. At (now i) hs s.visible ns m b end) e at) in
        let q1 = subst (λ es. Comes D es end per last (i + 1) (closed s l answer m (take n0 names) i (i + 1))) (sym resolves_settling.0) q in
        comes_next (omega (arith, few)) g q1
    iteration_ends i count n0 p few xh xl lt eh el more (faults kind ok g) = faults_so 1 kind refl ok (stop_more (per * 1 + once) (omega (arith, few)) g)

    -- the loop at an iteration, after words that do not take longer than what is held saves
    top_runs : {c : List DraftEntry} {s0 : State} (count i before : ℕ) (names : Names) (m : Memory) (st : State) → i + suc count ≡ bound → all_settling L.loose + back_words form + before + coded_block L.constants s.index l.body ≤ 4 * block_size s.index l.body + 3 → Goes D c s0 top st before → At (now i) hs s.visible names m b st
        → ((names : Names) (m : Memory) (st : State) → At (now (i + 1)) hs s.visible names m b st → Further tail st (i + 1) (finish s l answer bound (iterations s l count (i + 1) m names)))
        → Comes D c s0 per once i (finish s l answer bound (iterations s l (suc count) i m names))
    unfolding iterations
    top_runs count i before names m st e few goes at more =
        let lt : i < bound = omega (arith, e) in
        let lt64 : i < 2 ^ 64 = omega (arith, small, lt) in
        let a2 = with_variable i (b + 1) lt64 (at_steady (b + 1) steady at) in
        let len = lengths at in
        let stands : Stands D L fit hs s.visible b steady homes (in_loop s l).visible = record { homes = extends_one hs (index_home l.index); visible = extends_one s.visible (local l.index binding.Index); same = sym len.0 ∙ len.1 } in
        let d = block_runs D L fit hs s.visible b steady l.body (in_loop s l) (n + 3) (b + 1) (n + 4) again stands (homes_safe (b + 1) (omega arith)) a2 fits.covered fits.body at_top.1 in
        iteration_ends i count (length names) (b + 1 + block_size s.index l.body) (omega (arith, few)) (extends_on (extends_one hs (index_home l.index)) (homes_block L homes (in_loop s l) (b + 1) l.body)) (extends_on (extends_one s.visible (local l.index binding.Index)) (visible_block (in_loop s l) l.body)) lt len.0 len.1 more
        (does_after (before + coded_block L.constants s.index l.body) (omega arith) goes d)

    -- the loop at the end of an iteration
    tail_runs : (count i : ℕ) (names : Names) (m : Memory) (st : State) → i + count ≡ bound → At (now i) hs s.visible names m b st → Further tail st i (finish s l answer bound (iterations s l count i m names))
    unfolding iterations
    tail_runs zero i names m st e at =
        let lt : i < 2 ^ 64 = omega (arith, small, e) in
        let same : i ≡ bound = omega (arith, e) in
        let k = goes_past form (Place (n + 3) ∷ settling) i bound at.nine (at_limit i at) small same in
        record {
          entries = settling;
          end = k.end;
          goes = chain {n = 0} (back_words form) (omega arith) k.goes pass;
          comes = subst (λ j. Comes D settling k.end per last i (closed s l answer m names j bound)) same (settles_at i i 0 bound (omega (arith, e)) lt (at_kept L fit b b (omega arith) safe at k.kept));
        }
    tail_runs (suc count) i names m st e at =
        let lt : i < bound = omega (arith, e) in
        let k = goes_back form (Place (n + 3) ∷ settling) i bound at.nine (at_limit i at) small lt in
        record {
          entries = top;
          end = k.end;
          goes = subst (λ es. Goes D tail st es k.end (back_words form)) at_top.0 k.goes;
          comes = comes_more last (omega arith) (top_runs count i 0 names m k.end e (let f = loop_words_le in omega (arith, f)) (stay 0) (at_kept L fit b b (omega arith) safe at k.kept) (λ names2 m2 st2 at2. tail_runs count (i + 1) names2 m2 st2 (omega (arith, e)) at2));
        }

  -- what stands in the registers at the first iteration
  record Begun (bound i : ℕ) (names : Names) (m : Memory) (st : State) : Type 0 where
    end : State
    goes : Goes D entering st top end (all_entering L.loose + loading_words L.constants)
    loaded : IsLoaded L end.x
    given : slice_index end.x limit ≡ bound
    known : lookup (in_loop s l) l.index ≡ Some binding.Index
    at : At {L = L} (record { index = word (standing_at form bound i); count = bound; args = end.x; loaded = loaded }) hs s.visible names m b end

  iteration_begins : {w : Fixed (plain L)} {names : Names} {m : Memory} {st : State} (i bound : ℕ) → w.index ≡ i → i < bound → bound < 2 ^ 64 → x_at st limit ≡ bound → At w hs s.visible names m b st → Begun bound i names m st
  iteration_begins {w = w} {names = names} {m = m} {st = st} i bound is lt small limited here =
      let lt64 : i < 2 ^ 64 = omega (arith, small, lt) in
      let x = l.index in
      let all = with_name x names (pos i) in
      let known = index_looked [] w.count hs here.stand names s.visible x b st fits.free here.held here.told here.ranged in
      let a = at_index D L fit i x (pos i) (is ∙ sym (mod-eq_of_lt lt64)) refl lt64 here in
      let held = subst (λ ns. AreInRegisters homes ns b st) (told_none w.count a.stand all a.told) a.held in
      let f = enter_runs D L fit homes (in_loop s l) b (homes_safe b (omega arith)) l.bound limit bound limit_found.0 limit_found.1 small L.loose [] filling all all st a.sized fits.loosely (unlike_of L.loose fits.loosely) all_once limited (told_same [] bound all (λ y. refl)) held in
      let size : length f.end.x ≡ 31 = f.sized ∙ a.sized in
      let k = numbers_load D L fit fits.params 0 L.constants f.end (Place (n + 2) ∷ top) size fits.next in
      let size1 : length k.end.x ≡ 31 = k.sized ∙ size in
      let after = held_loaded homes b f.stand L.constants k (clear_more fits.params hs x fits.clear) f.held in
      let given : slice_index k.end.x limit ≡ bound =
      ap (x_at k.end) (sym limit_found.1) ∙ name_held homes f.stand l.bound b k.end size1 after limit_found.0 ∙ sym (name_held homes f.stand l.bound b f.end size f.held limit_found.0) ∙ ap (x_at f.end) limit_found.1 ∙ f.bound in
      let z = last_held L.loose bound hs (index_home x) f.stand names x (pos i) b k.end (names_length here) tt after f.told in
      let counted = index_counted homes (in_loop s l) b x L.loose known fits.loosely in
      let W : Fixed L = record { index = word (standing_at form bound i); count = bound; args = k.end.x; loaded = k.loaded } in
      let there : At W homes (in_loop s l).visible all m b k.end = record {
        sized = size1;
        nine = z.value ∙ ap word (tells_standing form bound i z.stand counted z.tells);
        args = λ r less. refl;
        ranged = a.ranged;
        memory = k.memory ∙ f.memory ∙ a.memory;
        good = a.good;
        stand = f.stand;
        told = f.told;
        held = after;
      } in
      let short = at_cut (length names) (names_length here) (ranged_length s.visible names here.ranged) (extends_one hs (index_home x)) (extends_one s.visible (local x binding.Index)) there in
      record {
        end = k.end;
        goes = chain {n = 0} (all_entering L.loose + loading_words L.constants) (omega arith) (chain (all_entering L.loose + loading_words L.constants) (omega arith) f.goes k.goes) pass;
        loaded = k.loaded;
        given = given;
        known = known;
        at = subst (λ ns. At W hs s.visible ns m b k.end) (take_first names _) short;
      }

  pub loop_runs : (args : List ℕ) (small : slice_index args (register_at hs l.bound) < 2 ^ 64) (count i : ℕ) (names : Names) (m : Memory) (st : State) → i + count ≡ slice_index args (register_at hs l.bound) → At (fixed_at {L = plain L} i 0 args (plain_loaded L args)) hs s.visible names m b st
      → Comes D test st per (once + 2) i (finish s l answer (slice_index args (register_at hs l.bound)) (iterations s l count i m names))
  unfolding iterations
  loop_runs args small zero i names m st e at =
      let bound = slice_index args limit in
      let lt : i < 2 ^ 64 = omega (arith, small, e) in
      let same : i ≡ bound = omega (arith, e) in
      let t = tested st 9 limit in
      let h : holds 2 t.flags ≡ true = test_flag st i bound at.nine (at.args limit fits.bound_low) lt small ∙ le-leb bound i (omega (arith, e)) in
      let there = test_at (address_of D (n + 1)) at in
      let known = index_looked [] 0 hs at.stand names s.visible l.index b st fits.free at.held at.told at.ranged in
      let none = index_after homes (in_loop s l) b l.index L.loose known fits.loosely in
      let with_it = at_index D L fit i l.index (pos i) (sym (mod-eq_of_lt lt)) (subst (λ o. Tells 0 o (pos i) (pos i)) (sym none) refl) lt (at_bare L there) in
      let left : Comes D leave (jump t (address_of D (n + 1))) per once i (closed s l answer m names bound bound) = subst (λ k. Comes D leave (jump t (address_of D (n + 1))) per once i (closed s l answer m names k bound)) same (leaves_with names i i 0 bound (omega (arith, e)) with_it) in
      comes_after {a = 2} (omega arith) (chain 2 (omega arith) (tested_goes D _ st 9 limit) (taken_goes h))
      (subst (λ es. Comes D es (jump t (address_of D (n + 1))) per once i (closed s l answer m names bound bound)) (sym resolves_leave.0) left)
  loop_runs args small (suc count) i names m st e at =
      let bound = slice_index args limit in
      let lt : i < bound = omega (arith, e) in
      let lt64 : i < 2 ^ 64 = omega (arith, small, lt) in
      let t = tested st 9 limit in
      let h : holds 2 t.flags ≡ false = test_flag st i bound at.nine (at.args limit fits.bound_low) lt64 small ∙ lt-leb bound i lt in
      let here = test_at (next t).pc at in
      let k = iteration_begins i bound refl lt small (here.args limit fits.bound_low) here in
      let run = top_runs k.end.x k.loaded bound k.given small k.known count i (all_entering L.loose + loading_words L.constants) names m k.end e (let f = loop_words_le in omega (arith, f)) k.goes k.at (λ names2 m2 st2 at2. tail_runs k.end.x k.loaded bound k.given small k.known count (i + 1) names2 m2 st2 (omega (arith, e)) at2) in
      comes_after {a = 2} (omega arith) (chain 2 (omega arith) (tested_goes D _ st 9 limit) (passed_goes h)) run
