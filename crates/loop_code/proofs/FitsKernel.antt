-- Registers fit a checked kernel.
use Rattle.std.proofs.Common.{◌≡◌, ℕ, ◌+◌, ◌*◌, ◌<◌, ◌≤◌, true, false, cond, List, [], ◌∷◌, ◌++◌, length, drop, map, Option, Some, None, refl, sym, ap, ◌∙◌, subst, arith}
use Rattle.std.specs.Prelude.{option_map, unwrap_or}
use Rattle.std.specs.List.{find}
use Rattle.std.proofs.lemmas.Option.{slice_get_within}
use Rattle.kernel_tree.specs.declared.ops.Ty.TheVariants.{U64}
use Rattle.kernel_tree.specs.Plain.{Accumulator, PlainLoop, Returned, Program}
use Rattle.kernel_tree.specs.Items.{term_size, block_size, vars_size, for_loop_size, index_of, loop_index, loop_start, loop_end}
use Rattle.kernel_tree.specs.Typing.{Local, local, Value, lookup, insert_name, in_loop, after_for_loop, faults, twice, vars_faults, bound_faults, for_loop_faults, answer_faults, param_scope, var_scope, check_fault}
use Rattle.kernel_tree.specs.Scopes.{locals_of, accs_of}
use Rattle.kernel_tree.proofs.Faultless.{nil-left, nil-right, vars_faultless, for_loop_faultless, answer_faultless}
use Rattle.kernel_tree.proofs.NoFault.{bound_known}
use Rattle.kernel_tree.proofs.Names.{bytes_eq-refl, index_alone}
use Rattle.loop_form.specs.Entries.{Entry, term_entries, params_entries, vars_entries, for_loop_entries, answer_entries, loop_entries, entries_of}
use Rattle.loop_form.proofs.Numbers.{params-listed, vars-listed, term-listed, loop-listed}
use Rattle.loop_form.proofs.NameUses.{AreUsesCounted, counted_left, counted_right, all_counted}
use Rattle.scalar_words.specs.Layout.{Layout, Home, Homes, with_constants, with_loose, is_home, register_of, LastsAt, NameLasts}
use Rattle.value_code.specs.Fits.{IndexAt}
use Rattle.loop_code.specs.Loosening.{covers_block, after_loop, covers_answer, for_loop_loose, held_loosely}
use Rattle.loop_code.specs.LoopNumbers.{held_numbers, loop_layout, coded_block}
use Rattle.loop_code.proofs.LooseBlocks.{loop_covered, loop_answered, loop_formed, loop_once}
use Rattle.value_code.specs.HeldNumbers.{loading_words}
use Rattle.kernel_tree.proofs.Scopes.{scope_index}
use Rattle.loop_code.specs.Loop.{index_home, with_index, bare, NoHome, moving_words, AreHeldLoosely, FitsAnswer, FitsLoop}
use Rattle.loop_code.proofs.HoldBlocks.{numbers_next, numbers_few, accumulators_with, kernel_clear}
use Rattle.scalar_words.specs.KernelRegisters.{counted_x, x_last_use, layout_of_kernel, param_homes, var_home, var_homes, kernel_homes, AreChosen}
use Rattle.loop_code.specs.Kernel.{FitsVars}
use Rattle.loop_code.specs.KernelFits.{AreSafeVars, KernelFits}
use Rattle.scalar_words.proofs.AccumulatorRegisters.{accumulator_registers}
use Rattle.value_code.proofs.FitsOf.{Sits, last_uses}
use Rattle.scalar_words.proofs.NameHomes.{AccumulatorRegisters, numbers, AreHomes, homes_later, homes_on, is_at, register_is, others_new, are_safe}
use Rattle.loop_code.proofs.FitsBlocks.{sits_first, sits_second, sits_next, IsIndexed, value_stands, block_fits}
use Rattle.loop_code.proofs.LooseHomes.{no_home-append, no_param_home, no_var_home, AreNamed, held_loose, loop_named, loop_distinct}
use Rattle.scalar_words.proofs.KernelNames.{names_fit, scope_at, param_scope_is, var_scope_is, others-append, params_nine, vars_nine, numbers_on, numbers_params, first_are, kernel_are}
use Rattle.kernel_tree.specs.declared.fault.Binding.TheVariants as binding

-- ---- the loop variable's name is no other's

index_homeless : (R : ℕ → ℕ) (k : Program) (l : PlainLoop) → check_fault k ≡ None → k.for_loop ≡ Some l → NoHome l.index (kernel_homes R k)
index_homeless R k l e loop =
    let alone = index_alone k l e loop in
    no_home-append l.index (param_homes 0 k.params) (var_homes R 0 k.vars) (no_param_home l.index 0 k.params alone.params) (no_var_home l.index R 0 k.vars alone.vars)

index_found : (x : List ℕ) (hs : Homes) → NoHome x hs → find (is_home x) (hs ++ index_home x ∷ []) ≡ Some (index_home x)
index_found x [] h = ap (λ c. cond c (Some (index_home x)) None) (bytes_eq-refl x)
index_found x (y ∷ hs) h = ap (λ c. cond c (Some y) (find (is_home x) (hs ++ index_home x ∷ []))) h.0 ∙ index_found x hs h.1

index_at : (x : List ℕ) (hs : Homes) (p : ℕ) → NoHome x hs → IndexAt (hs ++ index_home x ∷ []) (Some x) p
index_at x hs p h =
    let e = index_found x hs h in
    (ap (λ o. unwrap_or (option_map register_of o) 31) e, subst (λ o. LastsAt o p) (sym e) tt)

map_last_uses : (entries es : List Entry) → map (x_last_use entries) es ≡ last_uses entries es []
map_last_uses entries [] = refl
map_last_uses entries (e ∷ es) = ap (λ l. x_last_use entries e ∷ l) (map_last_uses entries es)

drop_none : (xs : List ℕ) → drop 0 xs ≡ xs
drop_none [] = refl
drop_none (x ∷ xs) = refl

module _ (R : ℕ → ℕ) (k : Program) (L : Layout) (all : List Entry) where
  -- one accumulator more
  homes_of_var : (b j : ℕ) (v : List Local) (hs : Homes) (a : Accumulator) → AreHomes k R L all b 0 v hs → numbers 0 v ≡ j → j < length k.vars → AreHomes k R L all b 0 (v ++ local a.name (binding.Accumulator a.type) ∷ []) (hs ++ var_home R j a ∷ [])
  homes_of_var b j v hs a are n lt =
      homes_on k R L all b 0 v (local a.name (binding.Accumulator a.type) ∷ []) hs (var_home R j a ∷ []) are
      (refl, (refl, ap (λ m. counted_x (R m)) (sym n), omega (arith, n, lt)), tt)

  one_number : (j : ℕ) (v : List Local) (a : Accumulator) → numbers 0 v ≡ j → numbers 0 (v ++ local a.name (binding.Accumulator a.type) ∷ []) ≡ j + 1
  one_number j v a n = let m = numbers_on 0 v (local a.name (binding.Accumulator a.type) ∷ []) in omega (arith, m, n)

  no_reads : (hs : Homes) → IsIndexed k R L all false hs
  no_reads hs e = absurd cc

  -- ---- accumulators

  vars_fit : (vs : List Accumulator) (v : List Local) (tk : List (List ℕ)) (hs : Homes) (j b : ℕ) (rest : List ℕ) → AreHomes k R L all b 0 v hs → numbers 0 v ≡ j → j + length vs ≤ length k.vars → vars_faults (scope_at k v tk false) b vs ≡ [] → Sits L.last_uses b (last_uses all (vars_entries k b vs) rest) → AreUsesCounted all (vars_entries k b vs) → FitsVars L R hs (scope_at k v tk false) j b vs
  vars_fit [] v tk hs j b rest are n le f h c = tt
  vars_fit (a ∷ vs) v tk hs j b rest are n le f h c =
      let S = scope_at k v tk false in
      let q = b + term_size (loop_index k) a.init in
      let es = term_entries k b q a.init in
      let f2 = nil-right (twice q S a.name) _ (nil-right (faults S b (Value (Some a.type)) a.init) _ f) in
      let h2 = sits_next L.last_uses q _ _ (sits_second all L.last_uses es _ b q (term_size (loop_index k) a.init) rest (term-listed k b q a.init (omega arith)).count refl h) in (
        value_stands k R L all v tk false hs b are (no_reads hs) a.init a.type b q _ (nil-left (faults S b (Value (Some a.type)) a.init) _ f) (sits_first all L.last_uses es _ b rest h) (counted_left all es _ c),
        vars_fit vs (v ++ local a.name (binding.Accumulator a.type) ∷ []) (insert_name tk a.name) (hs ++ var_home R j a ∷ []) (j + 1) (q + 1) rest (homes_of_var (q + 1) j v hs a (homes_later k R L all b (q + 1) 0 v hs (omega arith) are) n (omega (arith, le))) (one_number j v a n) (omega (arith, le)) f2 h2 (counted_right all es _ c).1,
      )

  module _ (few : length k.params ≤ 8) (accumulators : AccumulatorRegisters R L (length k.vars)) where
    vars_safe : (vs : List Accumulator) (v : List Local) (tk : List (List ℕ)) (hs : Homes) (j b : ℕ) → AreHomes k R L all b 0 v hs → numbers 0 v ≡ j → j + length vs ≤ length k.vars → AreSafeVars L R hs (scope_at k v tk false) j b vs
    vars_safe [] v tk hs j b are n le = are_safe k R L all few accumulators b 0 b v hs are (omega arith)
    vars_safe (a ∷ vs) v tk hs j b are n le =
        let q = b + term_size (loop_index k) a.init in
        let later = homes_later k R L all b (q + 1) 0 v hs (omega arith) are in (
          are_safe k R L all few accumulators b 0 b v hs are (omega arith),
          others_new k R L all few accumulators (q + 1) 0 j (q + 1) v hs later (omega (arith, n)) (omega arith) (omega (arith, le)),
          vars_safe vs (v ++ local a.name (binding.Accumulator a.type) ∷ []) (insert_name tk a.name) (hs ++ var_home R j a ∷ []) (j + 1) (q + 1) (homes_of_var (q + 1) j v hs a later n (omega (arith, le))) (one_number j v a n) (omega (arith, le)),
        )

    answer_fits : (o : Option Returned) (v : List Local) (tk : List (List ℕ)) (hs : Homes) (b : ℕ) → AreHomes k R L all b 0 v hs → answer_faults (scope_at k v tk false) b o ≡ [] → Sits L.last_uses b (last_uses all (answer_entries k b o) []) → AreUsesCounted all (answer_entries k b o) → FitsAnswer L hs (scope_at k v tk false) b o
    answer_fits None v tk hs b are f h c = tt
    answer_fits (Some a) v tk hs b are f h c =
        let q = b + term_size (loop_index k) a.value in
        let es = term_entries k b q a.value in
        value_stands k R L all v tk false hs b are (no_reads hs) a.value a.type b q _ f (sits_first all L.last_uses es _ b [] h) (counted_left all es _ c)

-- ---- the loop

-- a name, where there is one, is held up to an item
abbrev IndexLasts : Homes → Option (List ℕ) → ℕ → Type 0
IndexLasts hs None p = Unit {0}
IndexLasts hs (Some x) p = NameLasts hs x p

module _ (R : ℕ → ℕ) (k : Program) (L : Layout) (all : List Entry) (few : length k.params ≤ 8) (accumulators : AccumulatorRegisters R L (length k.vars)) where
  loop_fits : (l : PlainLoop) (tk : List (List ℕ)) (b b2 : ℕ) (rest : List ℕ) → AreNamed (with_index (kernel_homes R k) l) → k.for_loop ≡ Some l → held_loosely k ≡ for_loop_loose (scope_at k (locals_of k.params ++ accs_of k.vars) tk false) (Some l) k.answer → loop_index k ≡ Some l.index → NoHome l.index (kernel_homes R k) → b ≤ b2 → for_loop_faults (scope_at k (locals_of k.params ++ accs_of k.vars) tk false) b (Some l) ≡ [] → answer_faults (after_for_loop (scope_at k (locals_of k.params ++ accs_of k.vars) tk false) (Some l)) b2 k.answer ≡ []
      → Sits L.last_uses b (last_uses all (for_loop_entries k b (Some l)) rest) → AreUsesCounted all (for_loop_entries k b (Some l)) → Sits L.last_uses b2 (last_uses all (answer_entries k b2 k.answer) []) → AreUsesCounted all (answer_entries k b2 k.answer)
      → FitsLoop (with_loose (with_constants L (held_numbers R k)) (held_loosely k)) (kernel_homes R k) (scope_at k (locals_of k.params ++ accs_of k.vars) tk false) l b b2 k.answer
  loop_fits l tk b b2 rest named for_loop loose ix alone le f fa h c ha ca =
      let N = with_loose (with_constants L (held_numbers R k)) (held_loosely k) in
      let p = length k.params in
      let inner : AccumulatorRegisters R N (length k.vars) = accumulators_with R L (length k.vars) p (held_numbers R k) (held_loosely k) (numbers_next R k) accumulators in
      let v = locals_of k.params ++ accs_of k.vars in
      let hs = kernel_homes R k in
      let S = scope_at k v tk false in
      let known = bound_known b (lookup S l.bound) (nil-left (bound_faults b (lookup S l.bound)) _ f) in
      let body = nil-right (twice b S l.index) _ (nil-right (bound_faults b (lookup S l.bound)) _ f) in
      let at = is_at k R L all b 0 v hs l.bound (binding.Scalar U64) (kernel_are R k L all b) known in
      let reg = register_is k R L all b hs l.bound (binding.Scalar U64) at in
      let param = at.what.1 in
      let low = slice_get_within k.params at.home.register _ param in
      let index : (p : ℕ) → IndexAt (with_index hs l) (loop_index k) p = λ p. subst (λ o. IndexAt (with_index hs l) o p) (sym ix) (index_at l.index hs p alone) in
      let inside : AreHomes k R N all (b + 1) 0 (v ++ local l.index binding.Index ∷ []) (with_index hs l) = homes_on k R N all (b + 1) 0 v (local l.index binding.Index ∷ []) hs (index_home l.index ∷ []) (kernel_are R k N all (b + 1)) (refl, (refl, refl), tt) in
      let are : (p : ℕ) → AreHomes k R (bare N) all p 0 (v ++ local l.index binding.Index ∷ []) (with_index hs l) = λ p. homes_on k R (bare N) all p 0 v (local l.index binding.Index ∷ []) hs (index_home l.index ∷ []) (kernel_are R k (bare N) all p) (refl, (refl, refl), tt) in
      let outside : AreHomes k R N all b 0 (v ++ local l.index binding.Index ∷ []) (with_index hs l) = homes_on k R N all b 0 v (local l.index binding.Index ∷ []) hs (index_home l.index ∷ []) (kernel_are R k N all b) (refl, (refl, refl), tt) in
      record {
        bound = subst (λ o. LastsAt o b) (sym at.is) (steady_at at.home b at.what.0);
        bound_low = omega (arith, reg, low, few);
        bound_known = known;
        free = alone;
        body = block_fits k R N all few inner l.body (v ++ local l.index binding.Index ∷ []) (insert_name tk l.index) true (with_index hs l) (b + 1) rest inside (λ e p. index p) refl body (sits_next L.last_uses b _ _ h) c.1;
        nine = others-append (param_homes 0 k.params) (var_homes R 0 k.vars) 9 b (params_nine 0 b k.params (omega (arith, few))) (vars_nine R 0 b k.vars);
        params = p;
        next = numbers_next R k;
        clear = kernel_clear R k;
        few = subst (λ i. moving_words (held_loosely k) + loading_words (held_numbers R k) + coded_block (held_numbers R k) i l.body ≤ 4 * block_size i l.body) (scope_index k) (numbers_few R k l for_loop);
        covered = subst (λ ls. covers_block ls (in_loop S l) l.body ≡ true) (sym loose) (loop_covered l S k.answer ix);
        loosely = subst (AreHeldLoosely (with_index hs l) (in_loop S l) b) (sym loose)
            (held_loose k R N all (with_index hs l) (in_loop S l) b outside (λ x e. subst (λ o. IndexLasts (with_index hs l) o b) (sym ix ∙ e) (index_at l.index hs b alone).1) named (loop_distinct R k N l few inner) (for_loop_loose S (Some l) k.answer) (loop_formed l S k.answer ix) (loop_once l S k.answer ix));
        answer_covered = subst (λ ls. covers_answer (after_loop ls) (after_for_loop S (Some l)) k.answer ≡ true) (sym loose) (loop_answered l S k.answer ix);
        answered = answer_fits R k (bare N) all few (accumulators_with R N (length k.vars) p [] (after_loop (held_loosely k)) tt inner) k.answer (v ++ local l.index binding.Index ∷ []) (insert_name tk l.index) (with_index hs l) b2 (are b2) fa ha ca;
        following = le;
      }
    where
      steady_at : (h : Home) (p : ℕ) → h.last_use ≡ None → LastsAt (Some h) p
      steady_at h p u = subst (λ o. LastsAt (Some (record { name = h.name; register = h.register; last_use = o })) p) (sym u) tt

-- ---- the kernel

module _ (R : ℕ → ℕ) (k : Program) (checked : check_fault k ≡ None) (few : length k.params ≤ 8) (c : AreChosen R k) where
  abbrev L : Layout
  L = layout_of_kernel R k

  abbrev all : List Entry
  all = entries_of k

  abbrev ps : List Entry
  ps = params_entries k 0 k.params

  abbrev vs : List Entry
  vs = vars_entries k (length k.params) k.vars

  abbrev ls : List Entry
  ls = loop_entries k

  abbrev xs : List Entry
  xs = answer_entries k (loop_end k) k.answer

  abbrev us : List ℕ
  us = map (x_last_use (entries_of k)) (entries_of k)

  at_vars : Sits us (length k.params) (last_uses all (vs ++ (ls ++ xs)) [])
  at_vars = sits_second all us ps (vs ++ (ls ++ xs)) 0 (length k.params) (length k.params) [] (params-listed k 0 k.params).count (omega arith) (drop_none us ∙ map_last_uses all all)

  at_loop : Sits us (loop_start k) (last_uses all (ls ++ xs) [])
  at_loop = sits_second all us vs (ls ++ xs) (length k.params) (loop_start k) (vars_size (loop_index k) k.vars) [] (vars-listed k (length k.params) k.vars).count refl at_vars

  at_answer : Sits us (loop_end k) (last_uses all xs [])
  at_answer = sits_second all us ls xs (loop_start k) (loop_end k) (for_loop_size k.for_loop) [] (loop-listed k).count refl at_loop

  counted_vars : AreUsesCounted all (vs ++ (ls ++ xs))
  counted_vars = counted_right all ps _ (all_counted all)

  counted_loop : AreUsesCounted all (ls ++ xs)
  counted_loop = counted_right all vs _ counted_vars

  accumulators : AccumulatorRegisters R (layout_of_kernel R k) (length k.vars)
  accumulators = accumulator_registers R k c

  vars_fits : FitsVars L R (param_homes 0 k.params) (param_scope k) 0 (length k.params) k.vars
  vars_fits =
      let e = param_scope_is k in
      let f = vars_faultless k checked in
      subst (λ s. FitsVars L R (param_homes 0 k.params) s 0 (length k.params) k.vars) (sym e)
      (vars_fit R k L all k.vars (locals_of k.params) (param_scope k).taken (param_homes 0 k.params) 0 (length k.params) _ (first_are R k L all (length k.params)) (numbers_params 0 k.params) (omega arith) (subst (λ s. vars_faults s (length k.params) k.vars ≡ []) e f) (sits_first all us vs (ls ++ xs) (length k.params) [] at_vars) (counted_left all vs _ counted_vars))

  vars_are_safe : AreSafeVars L R (param_homes 0 k.params) (param_scope k) 0 (length k.params) k.vars
  vars_are_safe =
      subst (λ s. AreSafeVars L R (param_homes 0 k.params) s 0 (length k.params) k.vars) (sym (param_scope_is k))
      (vars_safe R k L all few accumulators k.vars (locals_of k.params) (param_scope k).taken (param_homes 0 k.params) 0 (length k.params) (first_are R k L all (length k.params)) (numbers_params 0 k.params) (omega arith))

  for_loop_fits : (l : PlainLoop) → k.for_loop ≡ Some l → FitsLoop (loop_layout R k) (kernel_homes R k) (var_scope k) l (loop_start k) (loop_end k) k.answer
  for_loop_fits l e =
      let s = var_scope_is k in
      let ix : loop_index k ≡ Some l.index = ap (option_map index_of) e in
      let f0 : for_loop_faults (var_scope k) (loop_start k) (Some l) ≡ [] = for_loop_faultless k l checked e in
      let a0 : answer_faults (after_for_loop (var_scope k) (Some l)) (loop_end k) k.answer ≡ [] = subst (λ o. answer_faults (after_for_loop (var_scope k) o) (loop_end k) k.answer ≡ []) e (answer_faultless k checked) in
      let h : Sits us (loop_start k) (last_uses all (for_loop_entries k (loop_start k) (Some l)) (last_uses all xs [])) = subst (λ o. Sits us (loop_start k) (last_uses all (for_loop_entries k (loop_start k) o) (last_uses all xs []))) e (sits_first all us ls xs (loop_start k) [] at_loop) in
      let u : AreUsesCounted all (for_loop_entries k (loop_start k) (Some l)) = subst (λ o. AreUsesCounted all (for_loop_entries k (loop_start k) o)) e (counted_left all ls xs counted_loop) in
      subst (λ s. FitsLoop (loop_layout R k) (kernel_homes R k) s l (loop_start k) (loop_end k) k.answer) (sym s)
      (loop_fits R k L all few accumulators l (var_scope k).taken (loop_start k) (loop_end k) _ (loop_named R k l checked (index_homeless R k l checked e)) e (ap (λ o. for_loop_loose (var_scope k) o k.answer) e ∙ ap (λ s. for_loop_loose s (Some l) k.answer) s) ix (index_homeless R k l checked e) (omega arith) (subst (λ s. for_loop_faults s (loop_start k) (Some l) ≡ []) s f0) (subst (λ s. answer_faults (after_for_loop s (Some l)) (loop_end k) k.answer ≡ []) s a0) h u at_answer (counted_right all ls xs counted_loop))

  straight_fit : k.for_loop ≡ None → FitsAnswer L (kernel_homes R k) (var_scope k) (loop_end k) k.answer
  straight_fit e =
      let s = var_scope_is k in
      let a0 : answer_faults (var_scope k) (loop_end k) k.answer ≡ [] = subst (λ o. answer_faults (after_for_loop (var_scope k) o) (loop_end k) k.answer ≡ []) e (answer_faultless k checked) in
      subst (λ s. FitsAnswer L (kernel_homes R k) s (loop_end k) k.answer) (sym s)
      (answer_fits R k L all few accumulators k.answer (locals_of k.params ++ accs_of k.vars) (var_scope k).taken (kernel_homes R k) (loop_end k) (kernel_are R k L all (loop_end k)) (subst (λ s. answer_faults s (loop_end k) k.answer ≡ []) s a0) at_answer (counted_right all ls xs counted_loop))

-- Registers fit a checked kernel with at most eight parameters, whatever numbers register assignment gave.
pub kernel_fits : (R : ℕ → ℕ) (k : Program) → check_fault k ≡ None → length k.params ≤ 8 → AreChosen R k → KernelFits R k
kernel_fits R k checked few c = record {
  assigned = (accumulator_registers R k c).fit;
  vars = vars_fits R k checked few c;
  vars_safe = vars_are_safe R k checked few c;
  steady = (names_fit R k checked few c).steady;
  safe = (names_fit R k checked few c).safe;
  looped = for_loop_fits R k checked few c;
  bound = (names_fit R k checked few c).bound;
  straight = straight_fit R k checked few c;
}
