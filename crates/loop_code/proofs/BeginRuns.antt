-- What the code before the loop does.
use Rattle.std.proofs.Common.{◌≡◌, ℕ, zero, suc, ◌+◌, ◌*◌, ◌^◌, ◌<◌, ◌≤◌, Bool, true, false, List, [], ◌∷◌, ◌++◌, length, Option, Some, None, refl, sym, ap, ap₂, ◌∙◌, subst, arith, ⊎_elim, append-nil, append_assoc}
use Rattle.std.specs.Prelude.{ℤ, pos, drop, slice_index, option_map, option_and_then, All, if◌then◌else◌}
use Rattle.std.proofs.lemmas.Bool.{cases_lt}
use Rattle.std.proofs.lemmas.List.{get_or_past}
use Rattle.std.proofs.lemmas.List.Elements.{All-get_or}
use Rattle.std.proofs.Math.Nat.{mod-eq_of_lt}
use Rattle.guest_types.specs.Memory.{Memory}
use Rattle.machine_model.specs.Machine.{State, x_at}
use Rattle.a64_code.specs.Table.{movz}
use Rattle.kernel_tree.specs.declared.ast.Shape.{Shape}
use Rattle.kernel_tree.specs.Plain.{Parameter, Accumulator, Program}
use Rattle.kernel_tree.specs.Items.{term_size, vars_size, loop_index, loop_start}
use Rattle.kernel_tree.specs.Typing.{Scope, Local, local, empty, after_vars, param_scope, var_scope, check_fault}
use Rattle.kernel_tree.proofs.Scopes.{param_index}
use Rattle.kernel_meaning.specs.Operators.{word}
use Rattle.kernel_meaning.specs.Eval.{Names, value}
use Rattle.kernel_meaning.specs.Iterate.{with_name}
use Rattle.kernel_meaning.specs.ScalarRun.{argument, argument_names, initial, started}
use Rattle.label_fix.specs.DraftRun.{DraftEntry, Laid, word_of}
use Rattle.label_fix.proofs.StretchSteps.{Goes, Resolves, stay, chain, put_goes, go_more}
use Rattle.scalar_words.specs.Layout.{loose_in, Layout, Homes, Lasts}
use Rattle.value_code.specs.ValueRegisters.{home}
use Rattle.scalar_words.specs.Words.{copy_word, word_code, settle_word, is_narrow, extending}
use Rattle.value_code.specs.Code.{labels}
use Rattle.scalar_words.specs.Safe.{Others, AreSteady}
use Rattle.scalar_words.specs.KernelRegisters.{counted_x, layout_of_kernel, param_homes, var_home, var_homes, kernel_homes}
use Rattle.kernel_scope.specs.Scopes.{after_var}
use Rattle.loop_code.specs.Kernel.{argument_code, arguments_code, vars_code, zero_index, FitsVars}
use Rattle.scalar_words.proofs.Words.{extended, extended-wrap}
use Rattle.loop_code.specs.KernelFits.{AreSafeVars, KernelFits}
use Rattle.scalar_words.specs.Iterations.{AreHeld}
use Rattle.loop_code.specs.Runs.{Begins, begin_steps, BeginRuns}
use Rattle.scalar_words.proofs.AssignedOf.{counted-low}
use Rattle.scalar_words.proofs.LayoutStates.{Assigned, Changes, AreSafe, AreInRegisters, Fixed, Told, At, frame_of, wrote, wrote_same, wrote_other, wrote_sized, changes_own, kept_none, at_kept, safe_later}
use Rattle.value_code.proofs.Loads.{Gives, a_value}
use Rattle.scalar_words.proofs.WordsRuns.{extension_is, wide_wrap, copied_sets}
use Rattle.kernel_meaning.specs.TypeValues.{IsOf}
use Rattle.value_code.proofs.Ranges.{value-range}
use Rattle.scalar_words.proofs.Constants.{word_back}
use Rattle.scalar_words.proofs.Told.{tells_itself, told_same, told_more, told_none}
use Rattle.value_code.specs.Covers.{covers}
use Rattle.value_code.specs.declared.extent.Extent.TheVariants.{Whole}
use Rattle.value_code.proofs.CoversNone.{covers_none}
use Rattle.value_code.proofs.ValueRuns.{give_more, value_runs, value_back}
use Rattle.value_code.proofs.CodedSizes.{coded_few}
use Rattle.kernel_meaning.proofs.NameRanges.{ranged_more}
use Rattle.kernel_meaning.proofs.StartRanges.{given_ranged}
use Rattle.scalar_words.proofs.KernelNames.{others-append, params_nine, vars_nine}
use Rattle.loop_code.proofs.StmtRuns.{held_more, held_others}
use Rattle.loop_code.proofs.LoopRuns.{fixed_at}
use Rattle.loop_code.proofs.Initial.{all_start}
use Rattle.kernel_tree.specs.declared.ast.Shape.TheVariants as shape
use Rattle.kernel_tree.specs.declared.fault.Binding.TheVariants as binding

-- ---- arguments

-- the arguments as they are given, in the registers from n on
abbrev pub AreGiven : ℕ → List Parameter → List ℕ → State → Type 0
AreGiven n [] args s = Unit {0}
AreGiven n (p ∷ ps) args s = (x_at s n ≡ slice_index args 0) × (slice_index args 0 < 2 ^ 64) × AreGiven (n + 1) ps (drop 1 args) s

-- and wrapped to the types of their parameters
abbrev pub AreWrapped : ℕ → List Parameter → List ℕ → State → Type 0
AreWrapped n [] args s = Unit {0}
AreWrapped n (p ∷ ps) args s = (x_at s n ≡ word (argument p.shape (slice_index args 0))) × AreWrapped (n + 1) ps (drop 1 args) s

given_on : (m n : ℕ) (ps : List Parameter) (args : List ℕ) (s t : State) → m ≤ n → ((r : ℕ) → m ≤ r → x_at t r ≡ x_at s r) → AreGiven n ps args s → AreGiven n ps args t
given_on m n [] args s t le f h = tt
given_on m n (p ∷ ps) args s t le f h = (f n le ∙ h.0, h.1, given_on m (n + 1) ps (drop 1 args) s t (omega arith) f h.2)

-- the words of the arguments, of which those from n on change
pub record Arguments (D : Laid) (c : List DraftEntry) (s : State) (rest : List DraftEntry) (n : ℕ) (ps : List Parameter) (args : List ℕ) : Type 0 where
  pub end : State
  pub goes : Goes D c s rest end (length ps)
  pub memory : end.memory ≡ s.memory
  pub sized : length end.x ≡ length s.x
  pub frame : frame_of end ≡ frame_of s
  pub low : (r : ℕ) → r < n → x_at end r ≡ x_at s r
  pub high : (r : ℕ) → n + length ps ≤ r → x_at end r ≡ x_at s r
  pub wrapped : AreWrapped n ps args end

pub small_word : (a : ℕ) → a < 2 ^ 64 → word (pos a) ≡ a
small_word a h = mod-eq_of_lt h

module _ (D : Laid) where
  arguments_step : (x : Shape) (p : Parameter) (ps : List Parameter) (n a : ℕ) (args : List ℕ) (s : State) (rest : List DraftEntry) → p.shape ≡ x → n < length s.x → x_at s n ≡ a → slice_index args 0 ≡ a → a < 2 ^ 64 → AreGiven (n + 1) ps (drop 1 args) s
      → ((t : State) → length t.x ≡ length s.x → AreGiven (n + 1) ps (drop 1 args) t → Arguments D (arguments_code (n + 1) ps rest) t rest (n + 1) ps (drop 1 args)) → Arguments D (argument_code x n (arguments_code (n + 1) ps rest)) s rest n (p ∷ ps) args
  arguments_step (shape.Array t) p ps n a args s rest e lt at is small more on =
      let k = on s refl more in
      record {
        end = k.end;
        goes = go_more (suc (length ps)) (omega arith) k.goes;
        memory = k.memory;
        sized = k.sized;
        frame = k.frame;
        low = λ r h. k.low r (omega arith);
        high = λ r h. k.high r (omega arith);
        wrapped = (k.low n (omega arith) ∙ at ∙ sym (ap₂ (λ y b. word (argument y b)) e is ∙ small_word a small), k.wrapped);
      }
  arguments_step (shape.Scalar t) p ps n a args s rest e lt at is small more on = by (is_narrow t) refl
    where
      by : (b : Bool) → is_narrow t ≡ b → Arguments D (word_code (if b then Some (extending t n n) else None) (arguments_code (n + 1) ps rest)) s rest n (p ∷ ps) args
      by true q =
          let v = extended t (x_at s n) in
          let s1 = wrote s n v in
          let k = on s1 (wrote_sized s n v) (given_on (n + 1) (n + 1) ps (drop 1 args) s s1 (omega arith) (λ r h. wrote_other s n v r (λ q. absurd (omega arith))) more) in
          let w : v ≡ word (argument p.shape (slice_index args 0)) = ap (extended t) (at ∙ sym (small_word a small)) ∙ extended-wrap t (pos a) ∙ sym (ap₂ (λ y b. word (argument y b)) e is) in
          record {
            end = k.end;
            goes = chain (suc (length ps)) (omega arith) (extension_is t n n s D (arguments_code (n + 1) ps rest)) k.goes;
            memory = k.memory;
            sized = k.sized ∙ wrote_sized s n v;
            frame = k.frame;
            low = λ r h. k.low r (omega arith) ∙ wrote_other s n v r (λ q. absurd (omega arith));
            high = λ r h. k.high r (omega arith) ∙ wrote_other s n v r (λ q. absurd (omega arith));
            wrapped = (k.low n (omega arith) ∙ wrote_same s n v lt ∙ w, k.wrapped);
          }
      by false q =
          let k = on s refl more in
          record {
            end = k.end;
            goes = go_more (suc (length ps)) (omega arith) k.goes;
            memory = k.memory;
            sized = k.sized;
            frame = k.frame;
            low = λ r h. k.low r (omega arith);
            high = λ r h. k.high r (omega arith);
            wrapped = (k.low n (omega arith) ∙ at ∙ sym (small_word a small) ∙ sym (wide_wrap t (pos a) q) ∙ sym (ap₂ (λ y b. word (argument y b)) e is), k.wrapped);
          }

  pub arguments_runs : (ps : List Parameter) (n : ℕ) (args : List ℕ) (s : State) (rest : List DraftEntry) → n + length ps ≤ length s.x → AreGiven n ps args s → Arguments D (arguments_code n ps rest) s rest n ps args
  arguments_runs [] n args s rest lt h = record { end = s; goes = stay 0; memory = refl; sized = refl; frame = refl; low = λ r h. refl; high = λ r h. refl; wrapped = tt }
  arguments_runs (p ∷ ps) n args s rest lt h =
      arguments_step p.shape p ps n (slice_index args 0) args s rest refl (omega arith) h.0 refl h.1 h.2
      (λ t z k. arguments_runs ps (n + 1) (drop 1 args) t rest (omega (arith, lt, z)) k)

-- ---- names of parameters

held_given : (n : ℕ) (ps : List Parameter) (args : List ℕ) (p : ℕ) (s : State) → AreWrapped n ps args s → AreInRegisters (param_homes n ps) (argument_names ps args) p s
held_given n [] args p s h = tt
held_given n (x ∷ ps) args p s h = (refl, (λ l. h.0), held_given (n + 1) ps (drop 1 args) p s h.1)

-- ---- accumulators

-- the registers of accumulators are in range
abbrev pub HighVars : (ℕ → ℕ) → ℕ → List Accumulator → Type 0
HighVars R j [] = Unit {0}
HighVars R j (v ∷ vs) = (counted_x (R j) ≤ 25) × HighVars R (j + 1) vs

-- the initial values: with the names of the accumulators, or stopped by a fault
pub data Starts (D : Laid) {M : Layout} (w : Fixed M) (c : List DraftEntry) (s : State) (rest : List DraftEntry) (hs : Homes) (ls : List Local) (p : ℕ) (m : Memory) (most : ℕ) : Option Names → Type 0 where
  cannot : Starts D w c s rest hs ls p m most None
  starts : {names : Names} (end : State) → Goes D c s rest end most → At w hs ls names m p end → frame_of end ≡ frame_of s → Starts D w c s rest hs ls p m most (Some names)

starts_after : {D : Laid} {M : Layout} {w : Fixed M} {c e rest : List DraftEntry} {s t : State} {hs : Homes} {ls : List Local} {p a b : ℕ} {m : Memory} {o : Option Names} (most : ℕ) → a + b ≤ most → Goes D c s e t a → frame_of t ≡ frame_of s → Starts D w e t rest hs ls p m b o → Starts D w c s rest hs ls p m most o
starts_after most le g f cannot = cannot
starts_after most le g f (starts end k at h) = starts end (chain most le g k) at (h ∙ f)

starts_at : {D : Laid} {M : Layout} {w : Fixed M} {c rest : List DraftEntry} {s : State} {hs : Homes} {ls : List Local} {p most : ℕ} {m : Memory} {o : Option Names} (q : ℕ) → p ≡ q → Starts D w c s rest hs ls p m most o → Starts D w c s rest hs ls q m most o
starts_at q e cannot = cannot
starts_at {w = w} {hs = hs} {ls = ls} {m = m} q e (starts {names = names} end k at h) = starts end k (subst (λ p. At w hs ls names m p end) e at) h

module _ (D : Laid) (L : Layout) (fit : Assigned L) (R : ℕ → ℕ) where
  -- one more accumulator has its value
  at_var : {w : Fixed L} {hs : Homes} (s : Scope) {names : Names} {m : Memory} {st end : State} (j q : ℕ) (v : Accumulator) (x : ℤ) → L.loose ≡ [] → AreSafe L q hs → Others hs (counted_x (R j)) (q + 1) → IsOf v.type x
      → At w hs s.visible names m q st → Changes st end (counted_x (R j)) → x_at end (counted_x (R j)) ≡ word x → At w (hs ++ var_home R j v ∷ []) (after_var s v).visible (with_name v.name names x) m (q + 1) end
  at_var {w = w} {hs = hs} s {names = names} {m = m} {st = st} {end = end} j q v x none safe others range at k is =
      let d = counted_x (R j) in
      let up = counted-low (R j) in
      let next = at_kept L fit q (q + 1) (omega arith) safe at (kept_none L st q (q + 1)) in
      record {
        sized = k.sized ∙ next.sized;
        nine = k.others 9 (omega arith) (λ e. absurd (omega (arith, up, e))) ∙ next.nine;
        args = λ r lt. k.others r (omega arith) (λ e. absurd (omega (arith, up, e, lt))) ∙ next.args r lt;
        ranged = ranged_more s.visible names (local v.name (binding.Accumulator v.type)) x next.ranged range;
        memory = k.memory ∙ next.memory;
        good = next.good;
        stand = with_name v.name next.stand x;
        told = told_more L.loose w.count next.stand names v.name x (ap (λ ls. tells_itself (loose_in ls v.name)) none) next.told;
        held = held_more hs next.stand (var_home R j v) x (q + 1) end (held_others D L fit hs next.stand d (q + 1) st end (safe_later L hs q (q + 1) (omega arith) safe) next.held k others) (λ l. is);
      }

  -- an initial value into its register, and then the other accumulators
  vars_step : (o : Option ℤ) (v : Accumulator) (vs : List Accumulator) {w : Fixed L} {hs : Homes} (s : Scope) {names : Names} {m : Memory} {st : State} (j b n : ℕ) (rest : List DraftEntry) → L.loose ≡ [] → AreSafeVars L R hs s j b (v ∷ vs) → counted_x (R j) ≤ 25 → FitsVars L R hs s j b (v ∷ vs) → At w hs s.visible names m b st
      → value s (Some v.type) v.init m names ≡ o
      → Gives D L (vars_code L R hs s j b n (v ∷ vs) rest) st (word_code (copy_word (counted_x (R j)) (home L hs s.index b v.init)) (vars_code L R (hs ++ var_home R j v ∷ []) (after_var s v) (j + 1) (b + term_size s.index v.init + 1) (n + labels s.index v.init) vs rest)) b (b + term_size s.index v.init) (home L hs s.index b v.init) m (4 * term_size s.index v.init) o
      → ((x : ℤ) (st : State) → At w (hs ++ var_home R j v ∷ []) (after_var s v).visible (with_name v.name names x) m (b + term_size s.index v.init + 1) st
      → Starts D w (vars_code L R (hs ++ var_home R j v ∷ []) (after_var s v) (j + 1) (b + term_size s.index v.init + 1) (n + labels s.index v.init) vs rest) st rest ((hs ++ var_home R j v ∷ []) ++ var_homes R (j + 1) vs) (after_vars (after_var s v) vs).visible (b + term_size s.index v.init + 1 + vars_size s.index vs) m (4 * vars_size s.index vs) (initial (after_var s v) vs m (with_name v.name names x)))
      → Starts D w (vars_code L R hs s j b n (v ∷ vs) rest) st rest (hs ++ var_homes R j (v ∷ vs)) (after_vars (after_var s v) vs).visible (b + (term_size s.index v.init + 1 + vars_size s.index vs)) m (4 * (term_size s.index v.init + 1 + vars_size s.index vs)) (option_and_then (initial (after_var s v) vs m) (option_map (with_name v.name names) o))
  vars_step None v vs s j b n rest none safe hi fits at e g on = cannot
  vars_step (Some x) v vs {w = w} {hs = hs} s {names = names} {m = m} j b n rest none safe hi fits at e (a_value g) on =
      let q = b + term_size s.index v.init in
      let following = vars_code L R (hs ++ var_home R j v ∷ []) (after_var s v) (j + 1) (b + term_size s.index v.init + 1) (n + labels s.index v.init) vs rest in
      let k = copied_sets D L fit {rest = following} {s = g.end} (counted_x (R j)) (home L hs s.index b v.init) x (g.kept.sized ∙ at.sized) (omega (arith, hi)) g.value in
      let here = at_kept L fit b q (omega arith) safe.0 at g.kept in
      let range = value-range L hs s names m v.init v.type b q x fits.0 at.ranged e in
      let at1 = at_var s j q v x none (safe_later L hs b q (omega arith) safe.0) safe.1 range here k.changes k.value in
      let r = on x k.end at1 in
      starts_after (4 * (term_size s.index v.init + 1 + vars_size s.index vs)) (omega arith) (chain (4 * term_size s.index v.init + 1) (omega arith) g.goes k.goes) (k.changes.frame ∙ g.kept.frame)
      (starts_at (b + (term_size s.index v.init + 1 + vars_size s.index vs)) (omega arith) (subst (λ hs. Starts D w following k.end rest hs (after_vars (after_var s v) vs).visible (q + 1 + vars_size s.index vs) m (4 * vars_size s.index vs) (initial (after_var s v) vs m (with_name v.name names x))) (append_assoc hs (var_home R j v ∷ []) (var_homes R (j + 1) vs)) r))

  pub vars_runs : (vs : List Accumulator) {w : Fixed L} {hs : Homes} (s : Scope) {names : Names} {m : Memory} {st : State} (j b n : ℕ) (rest : List DraftEntry) → L.loose ≡ [] → AreSafeVars L R hs s j b vs → HighVars R j vs → FitsVars L R hs s j b vs → At w hs s.visible names m b st → Resolves D (vars_code L R hs s j b n vs rest)
      → Starts D w (vars_code L R hs s j b n vs rest) st rest (hs ++ var_homes R j vs) (after_vars s vs).visible (b + vars_size s.index vs) m (4 * vars_size s.index vs) (initial s vs m names)
  vars_runs [] {w = w} {hs = hs} s {names = names} {m = m} {st = st} j b n rest none safe high fits at res =
      starts_at (b + 0) (omega arith) (starts st (stay 0) (subst (λ hs. At w hs s.visible names m b st) (sym (append-nil hs)) at) refl)
  vars_runs (v ∷ vs) {hs = hs} s {names = names} {m = m} j b n rest none safe high fits at res =
      let covered : covers L.loose s Whole (Some v.type) v.init ≡ true = subst (λ ls. covers ls s Whole (Some v.type) v.init ≡ true) (sym none) (covers_none v.init s Whole (Some v.type)) in
      vars_step (value s (Some v.type) v.init m names) v vs s j b n rest none safe high.0 fits at refl
      (give_more D L (4 * term_size s.index v.init) (coded_few v.init L.constants s.index) (value_runs D L fit v.init s v.type b (b + term_size s.index v.init) n _ (omega arith) covered safe.0 at fits.0 res))
      (λ x st at1. vars_runs vs (after_var s v) (j + 1) (b + term_size s.index v.init + 1) (n + labels s.index v.init) rest none safe.2 high.1 fits.1 at1 (word_back D (copy_word (counted_x (R j)) (home L hs s.index b v.init)) _ (value_back D L fit v.init hs s (Some v.type) b n _ res)))

-- ---- X9

module _ (D : Laid) (L : Layout) (fit : Assigned L) where
  at_zero : {w : Fixed L} {hs : Homes} {ls : List Local} {names : Names} {m : Memory} {p : ℕ} {s : State} → AreSafe L p hs → Others hs 9 p → At w hs ls names m p s → At (fixed_at {L = L} 0 w.count w.args w.loaded) hs ls names m p (wrote s 9 0)
  at_zero {hs = hs} {names = names} {p = p} {s = s} safe others at =
      let k = changes_own s 9 0 in
      record {
        sized = wrote_sized s 9 0 ∙ at.sized;
        nine = wrote_same s 9 0 (let z = at.sized in omega (arith, z));
        args = λ r lt. k.others r (omega arith) (λ e. absurd (omega arith)) ∙ at.args r lt;
        ranged = at.ranged;
        memory = at.memory;
        good = at.good;
        stand = at.stand;
        told = at.told;
        held = held_others D L fit hs at.stand 9 p s (wrote s 9 0) safe at.held k others;
      }

  starts_zero : {w : Fixed L} {c rest : List DraftEntry} {s : State} {hs : Homes} {ls : List Local} {p most : ℕ} {m : Memory} {o : Option Names} → AreSafe L p hs → Others hs 9 p → Starts D w c s (zero_index rest) hs ls p m most o
      → Starts D (fixed_at {L = L} 0 w.count w.args w.loaded) c s rest hs ls p m (most + 1) o
  starts_zero safe others cannot = cannot
  starts_zero {most = most} safe others (starts end k at f) = starts (wrote end 9 0) (chain (most + 1) (omega arith) k (put_goes {i = word_of movz (9 ∷ 0 ∷ 0 ∷ [])} refl)) (at_zero safe others at) f

-- ---- kernels

safe_right : (L : Layout) (p : ℕ) (hs more : Homes) → AreSafe L p (hs ++ more) → AreSafe L p more
safe_right L p [] more h = h
safe_right L p (x ∷ hs) more h = safe_right L p hs more h.1

high_vars : (L : Layout) (R : ℕ → ℕ) (p j : ℕ) (vs : List Accumulator) → AreSafe L p (var_homes R j vs) → HighVars R j vs
high_vars L R p j [] h = tt
high_vars L R p j (v ∷ vs) h = (h.0.high tt, high_vars L R p (j + 1) vs h.1)

argument_back : (D : Laid) (x : Shape) (n : ℕ) (rest : List DraftEntry) → Resolves D (argument_code x n rest) → Resolves D rest
argument_back D (shape.Scalar t) n rest h = word_back D (settle_word true t n) rest h
argument_back D (shape.Array t) n rest h = h

arguments_back : (D : Laid) (n : ℕ) (ps : List Parameter) (rest : List DraftEntry) → Resolves D (arguments_code n ps rest) → Resolves D rest
arguments_back D n [] rest h = h
arguments_back D n (p ∷ ps) rest h = arguments_back D (n + 1) ps rest (argument_back D p.shape n (arguments_code (n + 1) ps rest) h)

-- each name has its register
pub all_held : (hs : Homes) (ns : Names) (p : ℕ) (s : State) → AreSteady hs → AreInRegisters hs ns p s → AreHeld hs ns s
all_held [] [] p s steady h = tt
all_held [] (n ∷ ns) p s steady h = absurd h
all_held (x ∷ hs) [] p s steady h = absurd h
all_held (x ∷ hs) (n ∷ ns) p s steady h = (h.0, h.1 (subst (λ o. Lasts o p) (sym steady.0) tt), all_held hs ns p s steady.1 h.2)

-- ---- arguments as they are given

index_drop : (n : ℕ) (args : List ℕ) → slice_index (drop n args) 0 ≡ slice_index args n
index_drop zero args = refl
index_drop (suc n) [] = refl
index_drop (suc n) (a ∷ args) = index_drop n args

drop_none : (n : ℕ) → drop {A = ℕ} n [] ≡ []
drop_none zero = refl
drop_none (suc n) = refl

drop_more : (n : ℕ) (args : List ℕ) → drop 1 (drop n args) ≡ drop (n + 1) args
drop_more zero args = refl
drop_more (suc n) [] = sym (drop_none (suc n + 1))
drop_more (suc n) (a ∷ args) = let e : suc n + 1 ≡ suc (n + 1) = omega arith in drop_more n args ∙ ap (λ j. drop j (a ∷ args)) (sym e)

index_small : (args : List ℕ) (n : ℕ) → All (λ arg. arg < 2 ^ 64) args → slice_index args n < 2 ^ 64
index_small args n h =
    ⊎_elim
    (λ (lt : n < length args). All-get_or (λ arg. arg < 2 ^ 64) args n 0 lt h)
    (λ (le : length args ≤ n). let e : slice_index args n ≡ 0 = get_or_past args n 0 le in omega (arith, e))
    (cases_lt n (length args))

are_given : (ps : List Parameter) (n : ℕ) (args : List ℕ) (s : State) → n + length ps ≤ 8 → All (λ arg. arg < 2 ^ 64) args → ((r : ℕ) → r < 8 → x_at s r ≡ slice_index args r) → AreGiven n ps (drop n args) s
are_given [] n args s few small f = tt
are_given (p ∷ ps) n args s few small f =
    let e = index_drop n args in
    (f n (omega (arith, few)) ∙ sym e, subst (λ a. a < 2 ^ 64) (sym e) (index_small args n small), subst (λ l. AreGiven (n + 1) ps l s) (sym (drop_more n args)) (are_given ps (n + 1) args s (omega (arith, few)) small f))

-- no name's register is X9
nine_free : (R : ℕ → ℕ) (k : Program) → length k.params ≤ 8 → (p : ℕ) → Others (kernel_homes R k) 9 p
nine_free R k few p = others-append (param_homes 0 k.params) (var_homes R 0 k.vars) 9 p (params_nine 0 p k.params (omega (arith, few))) (vars_nine R 0 p k.vars)

-- the names with which the loop starts
kernel_begins : {D : Laid} {R : ℕ → ℕ} {k : Program} {M : Layout} {w : Fixed M} {c rest : List DraftEntry} {s : State} {args : List ℕ} {m : Memory} {most : ℕ} {o : Option Names} (names : Names) → M.loose ≡ [] → AreSteady (kernel_homes R k) → w.index ≡ 0 → started k args m ≡ o → o ≡ Some names → Starts D w c s rest (kernel_homes R k) (var_scope k).visible (loop_start k) m most o → Begins R k D c s rest args m most
kernel_begins names bare steady none e f cannot = absurd cc
kernel_begins {R = R} {k = k} {M = M} {w = w} {m = m} names bare steady none e f (starts {names = found} end g at h) = record {
  names = found;
  starts = e;
  end = end;
  goes = g;
  at = record { sized = at.sized; index = at.nine ∙ none; ranged = at.ranged; held = all_held (kernel_homes R k) found (loop_start k) end steady (subst (λ ns. AreInRegisters (kernel_homes R k) ns (loop_start k) end) (told_none w.count at.stand found (subst (λ ls. Told ls w.count at.stand found) bare at.told)) at.held); memory = at.memory; good = at.good };
  frame = h;
}

pub begin_runs : (R : ℕ → ℕ) (k : Program) → check_fault k ≡ None → length k.params ≤ 8 → KernelFits R k → BeginRuns R k
begin_runs R k checked few fits D n rest args m st has res =
    let L = layout_of_kernel R k in
    let z = has.sized in
    let following = vars_code L R (param_homes 0 k.params) (param_scope k) 0 (length k.params) n k.vars (zero_index rest) in
    let a = arguments_runs D k.params 0 args st following (omega (arith, few, z)) (are_given k.params 0 args st (omega (arith, few)) has.words has.held) in
    let w : Fixed L = fixed_at (x_at a.end 9) 0 a.end.x (λ z r e. absurd cc) in
    let at : At w (param_homes 0 k.params) (param_scope k).visible (argument_names k.params args) m (length k.params) a.end = record {
      sized = a.sized ∙ has.sized;
      nine = refl;
      args = λ r lt. refl;
      ranged = given_ranged k.params (empty (loop_index k)) [] args tt;
      memory = a.memory ∙ has.memory;
      good = has.good;
      stand = argument_names k.params args;
      told = told_same [] 0 (argument_names k.params args) (λ x. refl);
      held = held_given 0 k.params args (length k.params) a.end a.wrapped;
    } in
    let high = high_vars L R 0 0 k.vars (safe_right L 0 (param_homes 0 k.params) (var_homes R 0 k.vars) (fits.safe 0)) in
    let v = vars_runs D L fits.assigned R k.vars (param_scope k) 0 (length k.params) n (zero_index rest) refl fits.vars_safe high fits.vars at (arguments_back D 0 k.params following res) in
    let i = ap (λ i. vars_size i k.vars) (param_index k) in
    let steps : length k.params + (4 * vars_size (param_scope k).index k.vars + 1) ≤ begin_steps k = omega (arith, i) in
    let known = all_start k args m checked in
    kernel_begins known.0 refl fits.steady refl refl known.1 (starts_after (begin_steps k) steps a.goes a.frame (starts_at (loop_start k) (ap (λ n. length k.params + n) i) (starts_zero D L fits.assigned (fits.safe (length k.params + vars_size (param_scope k).index k.vars)) (nine_free R k few (length k.params + vars_size (param_scope k).index k.vars)) v)))
