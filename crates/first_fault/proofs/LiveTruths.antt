-- No condition that a loop makes up to its last break is used after it.
use Rattle.std.proofs.Common.{◌≡◌, ℕ, suc, ◌+◌, ◌-◌, ◌<◌, ◌≤◌, ℤ, Bool, true, false, List, [], ◌∷◌, ◌++◌, length, map, Option, Some, None, refl, sym, ap, ◌∙◌, subst, arith, ⊎_elim}
use Rattle.std.specs.Prelude.{slice_index, unwrap_or}
use Rattle.std.specs.List.{list_any}
use Rattle.std.proofs.lemmas.Bool.{cases_lt}
use Rattle.kernel_tree.specs.Plain.{Term, Literal, Variable, Element, Unary, Operation, Shift, Conversion, Choice, Comparison, Both, Either, Not, Action, Define, Put, Update, Choose, Leave, Block, Done, Then, Otherwise, Nothing, Else, PlainLoop, Program}
use Rattle.kernel_tree.specs.Items.{stream_offset, index_size, index_items, term_size, action_size, block_size, otherwise_size, loop_index, loop_start}
use Rattle.kernel_tree.specs.Typing.{Scope, after_action, in_loop, var_scope}
use Rattle.kernel_tree.proofs.Scopes.{index_after, scope_index}
use Rattle.reg_assign.specs.declared.interval.RegClass.TheVariants.{P}
use Rattle.reg_assign.specs.Registers.{Assignment}
use Rattle.loop_form.specs.Entries.{Content, IsLiteral, IsName, IsRead, IsLet, IsStore, IsUpdate, IsPlain, Entry, entry, kind_of, inner_entries, term_entries, action_entries, block_entries, otherwise_entries, for_loop_entries, loop_entries, entries_of}
use Rattle.loop_form.specs.Listing.{has_p, held, last_of}
use Rattle.loop_form.specs.LoopItems.{Bound, Item, after_env, block_items, loop_env, loop_items}
use Rattle.loop_form.specs.Numbers.{Numbered}
use Rattle.loop_form.proofs.Numbers.{term-listed, action-listed}
use Rattle.chunk_emit.specs.KernelLayout.{last_in, item_last_use, layout_of_loop}
use Rattle.chunk_emit.proofs.FitsEntries.{AllGive, give_left, give_right, loop_gives}
use Rattle.chunk_emit.proofs.FitsIntervals.{of_p, first_nothing}
use Rattle.chunk_emit.proofs.FitsOperands.{truth_less}
use Rattle.chunk_emit.specs.Chunk.{Setting}
use Rattle.first_fault.specs.Fits.{FitsRegion}
use Rattle.first_fault.specs.BreakRegion.{region_of}
use Rattle.first_fault.proofs.RegionFits.{last_nothing}
use Rattle.loop_form.specs.declared.item.ItemKind.TheVariants as kind
use Rattle.first_fault.specs.KernelFits.{following_region, is_inner_break}
use Rattle.first_fault.specs.Rest.{NoTruthLive}
use Rattle.first_fault.proofs.TopBreaks.{breaks_of, following_break, region_end, outer_of, TopAction, goes, ends, top_action, last_break, IsLast}

-- ---- the users of items within a statement stand within it

abbrev Below : ℕ → List Entry → Type 0
Below top [] = Unit {0}
Below top (e ∷ es) = (e.last_use < top) × Below top es

below_on : (top : ℕ) (xs ys : List Entry) → Below top xs → Below top ys → Below top (xs ++ ys)
below_on top [] ys h g = g
below_on top (x ∷ xs) ys h g = (h.0, below_on top xs ys h.1 g)

inner_below : (top : ℕ) (o : Option ℤ) (es : List Entry) → (o ≡ None → Below top es) → Below top (inner_entries o es)
inner_below top None es h = h refl
inner_below top (Some c) es h = tt

module _ (k : Program) where
  abbrev i : Option (List ℕ)
  i = loop_index k

  term_below : (t : Term) (from last_use top : ℕ) → from + term_size i t ≤ last_use → last_use < top → Below top (term_entries k from last_use t)
  term_below (Literal n) from last_use top le lt = (lt, tt)
  term_below (Variable x) from last_use top le lt = (lt, tt)
  term_below (Element a j) from last_use top le lt =
      let q = from + index_items i j in
      below_on top (inner_entries (stream_offset i j) (term_entries k from q j)) _
      (inner_below top (stream_offset i j) (term_entries k from q j) (λ e. let n : index_items i j ≡ term_size i j = ap (λ o. index_size o (term_size i j)) e in term_below j from q top (omega (arith, n)) (omega (arith, le, lt)))) (lt, tt)
  term_below (Unary op x) from last_use top le lt = below_on top (term_entries k from _ x) _ (term_below x from _ top (omega arith) (omega (arith, le, lt))) (lt, tt)
  term_below (Operation op x y) from last_use top le lt = below_on top (term_entries k from _ x) _ (term_below x from _ top (omega arith) (omega (arith, le, lt))) (below_on top (term_entries k _ _ y) _ (term_below y _ _ top (omega arith) (omega (arith, le, lt))) (lt, tt))
  term_below (Shift to_left x n) from last_use top le lt = below_on top (term_entries k from _ x) _ (term_below x from _ top (omega arith) (omega (arith, le, lt))) (lt, tt)
  term_below (Conversion x t) from last_use top le lt = below_on top (term_entries k from _ x) _ (term_below x from _ top (omega arith) (omega (arith, le, lt))) (lt, tt)
  term_below (Choice c x y) from last_use top le lt =
      below_on top (term_entries k from _ x) _ (term_below x from _ top (omega arith) (omega (arith, le, lt)))
      (below_on top (term_entries k _ _ y) _ (term_below y _ _ top (omega arith) (omega (arith, le, lt))) (below_on top (term_entries k _ _ c) _ (term_below c _ _ top (omega arith) (omega (arith, le, lt))) (lt, tt)))
  term_below (Comparison op x y) from last_use top le lt = below_on top (term_entries k from _ x) _ (term_below x from _ top (omega arith) (omega (arith, le, lt))) (below_on top (term_entries k _ _ y) _ (term_below y _ _ top (omega arith) (omega (arith, le, lt))) (lt, tt))
  term_below (Both x y) from last_use top le lt = below_on top (term_entries k from _ x) _ (term_below x from _ top (omega arith) (omega (arith, le, lt))) (below_on top (term_entries k _ _ y) _ (term_below y _ _ top (omega arith) (omega (arith, le, lt))) (lt, tt))
  term_below (Either x y) from last_use top le lt =
      below_on top (term_entries k from _ x) _ (term_below x from _ top (omega arith) (omega (arith, le, lt))) (omega (arith, le, lt), below_on top (term_entries k _ _ y) _ (term_below y _ _ top (omega arith) (omega (arith, le, lt))) (lt, tt))
  term_below (Not x) from last_use top le lt = below_on top (term_entries k from _ x) _ (term_below x from _ top (omega arith) (omega (arith, le, lt))) (lt, tt)

  mutual
    action_below : (a : Action) (from top : ℕ) → from + action_size i a ≤ top → Below top (action_entries k from a)
    action_below (Define x t e) from top le = below_on top (term_entries k from _ e) _ (term_below e from _ top (omega arith) (omega (arith, le))) (omega (arith, le), tt)
    action_below (Put a j e) from top le = below_on top (term_entries k from _ e) _ (term_below e from _ top (omega arith) (omega (arith, le))) (omega (arith, le), tt)
    action_below (Update x op e) from top le = below_on top (term_entries k from _ e) _ (term_below e from _ top (omega arith) (omega (arith, le))) (omega (arith, le), tt)
    action_below (Choose c t d) from top le =
        below_on top (term_entries k from _ c) _ (term_below c from _ top (omega arith) (omega (arith, le)))
        (omega (arith, le), below_on top (block_entries k _ t) _ (block_below t _ top (omega (arith, le))) (below_on top (otherwise_entries k _ _ d) _ (otherwise_below d _ _ top (omega (arith, le)) (omega (arith, le))) (omega (arith, le), tt)))
    action_below (Leave c) from top le = below_on top (term_entries k from _ c) _ (term_below c from _ top (omega arith) (omega (arith, le))) (omega (arith, le), tt)

    block_below : (t : Block) (from top : ℕ) → from + block_size i t ≤ top → Below top (block_entries k from t)
    block_below Done from top le = tt
    block_below (Then a t) from top le = below_on top (action_entries k from a) _ (action_below a from top (omega (arith, le))) (block_below t _ top (omega (arith, le)))

    otherwise_below : (d : Otherwise) (from end top : ℕ) → from + otherwise_size i d ≤ top → end < top → Below top (otherwise_entries k from end d)
    otherwise_below Nothing from end top le lt = tt
    otherwise_below (Else t) from end top le lt = (lt, block_below t (from + 1) top (omega (arith, le)))

  -- ---- conditions made before an item are used before it

  abbrev Ended : ℕ → Type 0
  Ended q = (r : ℕ) → r < q → item_last_use k P r < q

  held_small : (b : Bool) (u : ℕ) → unwrap_or (held b u) 0 ≤ u
  held_small true u = omega arith
  held_small false u = omega arith

  content_small : (all : List Entry) (c : Content) (u : ℕ) → unwrap_or (held (has_p (kind_of c)) (last_of all c u)) 0 ≤ u
  content_small all (IsLiteral n) u = omega arith
  content_small all (IsName x) u = omega arith
  content_small all (IsRead a j) u = omega arith
  content_small all (IsLet x) u = omega arith
  content_small all (IsStore a j) u = omega arith
  content_small all (IsUpdate x op) u = omega arith
  content_small all (IsPlain kd) u = held_small (has_p kd) u

  ended_in : (b top : ℕ) (es : List Entry) → Numbered b es → Below top es → AllGive k es → (r : ℕ) → b ≤ r → r < b + length es → item_last_use k P r < top
  ended_in b top [] n h g r from to = absurd (omega (arith, from, to))
  ended_in b top (e ∷ es) n h g r from to =
      let more = ended_in (suc b) top es n.1 h.1 g.1 in
      ⊎_elim
      (λ (lt : b < r). more r (omega (arith, lt)) (omega (arith, to)))
      (λ (ge : r ≤ b).
      let number = n.0 in
      let same : e.item ≡ r = omega (arith, number, from, ge) in
      let last_use : item_last_use k P e.item ≡ last_in P (entries_of k) e = g.0.truth_last_use in
      let moved = ap (item_last_use k P) same in
      let small : last_in P (entries_of k) e ≤ e.last_use = content_small (entries_of k) e.content e.last_use in
      let below = h.0 in
      omega (arith, last_use, moved, small, below))
      (cases_lt b r)

  action_ended : (a : Action) (b : ℕ) → AllGive k (action_entries k b a) → Ended b → Ended (b + action_size i a)
  action_ended a b g before r lt =
      let listed = action-listed k b a in
      let count = listed.count in
      ⊎_elim
      (λ (low : r < b). let h = before r low in omega (arith, h))
      (λ (from : b ≤ r). ended_in b (b + action_size i a) (action_entries k b a) listed.numbered (action_below a b (b + action_size i a) (omega arith)) g r from (omega (arith, count, lt)))
      (cases_lt r b)

  -- the same of all items before the last one
  abbrev Closed : ℕ → Type 0
  Closed q = (r : ℕ) → r + 1 < q → item_last_use k P r < q

  -- after the last break of a condition: what the listing's `||` uses
  leave_closed : (c : Term) (b : ℕ) → AllGive k (action_entries k b (Leave c)) → Ended b → Ended (b + action_size i (Leave c)) → Closed (last_break i b c + 1)
  leave_closed (Either x y) b g before there r lt =
      let mark = b + term_size i x in
      let q = mark + 1 + term_size i y in
      let first = term-listed k b q x (omega arith) in
      let second = term-listed k (mark + 1) q y (omega arith) in
      let n1 = first.count in
      let n2 = second.count in
      let g1 = give_left k (term_entries k b (b + term_size i (Either x y)) (Either x y)) _ g in
      let g2 = give_right k (term_entries k b q x) _ g1 in
      ⊎_elim
      (λ (low : r < b). let h = before r low in omega (arith, h))
      (λ (from : b ≤ r).
      ⊎_elim
      (λ (lo : r < mark). ended_in b (q + 1) (term_entries k b q x) first.numbered (term_below x b q (q + 1) (omega arith) (omega arith)) (give_left k (term_entries k b q x) _ g1) r from (omega (arith, n1, lo)))
      (λ (hi : mark ≤ r).
      ⊎_elim
      (λ (same : r < mark + 1). ended_in mark (q + 1) (entry k mark (IsPlain kind.Mark) q ∷ []) (refl, tt) (omega arith, tt) (g2.0, tt) r hi (omega (arith, same)))
      (λ (up : mark + 1 ≤ r). ended_in (mark + 1) (q + 1) (term_entries k (mark + 1) q y) second.numbered (term_below y (mark + 1) q (q + 1) (omega arith) (omega arith)) (give_left k (term_entries k (mark + 1) q y) _ g2.1) r up (omega (arith, n2, lt)))
      (cases_lt r (mark + 1)))
      (cases_lt r mark))
      (cases_lt r b)
  leave_closed c b g before there r lt = let h = there r (omega (arith, lt)) in omega (arith, h)

  break_closed : (a : Action) (b q : ℕ) → IsLast i b a q → AllGive k (action_entries k b a) → Ended b → Ended (b + action_size i a) → Closed (q + 1)
  break_closed (Leave c) b q is g before there = subst (λ n. Closed (n + 1)) (sym is) (leave_closed c b g before there)
  break_closed (Define x t e) b q is g before there = absurd is
  break_closed (Put a j e) b q is g before there = absurd is
  break_closed (Update x op e) b q is g before there = absurd is
  break_closed (Choose c t d) b q is g before there = absurd is

  block_ended : (t : Block) (s : Scope) (b p : ℕ) (env : List Bound) → s.index ≡ i → AllGive k (block_entries k b t) → Closed p → Ended b → list_any is_inner_break (breaks_of (block_items s None b env t [])) ≡ false → Closed (following_break p (breaks_of (block_items s None b env t [])))
  block_ended Done s b p env e g last here none = last
  block_ended (Then a t) s b p env e g last here none =
      let next = b + action_size s.index a in
      let size : b + action_size i a ≡ next = ap (λ j. b + action_size j a) (sym e) in
      let later : List Item = block_items (after_action s a) None next (after_env s b env a) t [] in
      let there : Ended next = subst Ended size (action_ended a b (give_left k (action_entries k b a) _ g) here) in
      let gives : AllGive k (block_entries k next t) = subst (λ n. AllGive k (block_entries k n t)) size (give_right k (action_entries k b a) _ g) in
      by (top_action a s b env later none) there (λ q. block_ended t (after_action s a) next q (after_env s b env a) (index_after s a ∙ e) gives)
    where
      by : TopAction s b env a (block_items (after_action s a) None (b + action_size s.index a) (after_env s b env a) t []) → Ended (b + action_size s.index a)
          → ((q : ℕ) → Closed q → Ended (b + action_size s.index a) → list_any is_inner_break (breaks_of (block_items (after_action s a) None (b + action_size s.index a) (after_env s b env a) t [])) ≡ false → Closed (following_break q (breaks_of (block_items (after_action s a) None (b + action_size s.index a) (after_env s b env a) t []))))
          → Closed (following_break p (breaks_of (block_items s None b env (Then a t) [])))
      by (goes f) there more = subst (λ items. Closed (following_break p items)) (sym f) (more p last there (sym (ap (list_any is_inner_break) f) ∙ none))
      by (ends q is f outer) there more =
          let closed : Closed (q + 1) = break_closed a b q (subst (λ j. IsLast j b a q) e is) (give_left k (action_entries k b a) _ g) here (subst Ended (ap (λ j. b + action_size j a) e) there) in
          subst Closed (sym (f p)) (more (q + 1) closed there (outer none))

  start_ended : Ended (loop_start k + 1)
  start_ended r lt =
      let first : r - loop_start k ≡ 0 = omega (arith, lt) in
      let none : item_last_use k P r ≡ 0 = ap (slice_index (map (last_in P (entries_of k)) (loop_entries k))) first ∙ first_nothing k P of_p in
      omega (arith, none)

  start_closed : Closed (loop_start k + 1)
  start_closed r lt = start_ended r (omega (arith, lt))

  -- up to the last break, but for an item of its number
  pub closed_region : (l : PlainLoop) → k.for_loop ≡ Some l → list_any is_inner_break (loop_items k l) ≡ false → (r : ℕ) → r + 1 < following_region k l → item_last_use k P r < following_region k l
  closed_region l for_loop outer =
      let b = loop_start k + 1 in
      let gives : AllGive k (for_loop_entries k (loop_start k) (Some l)) = subst (λ o. AllGive k (for_loop_entries k (loop_start k) o)) for_loop (loop_gives k) in
      let done = block_ended l.body (in_loop (var_scope k) l) b b (loop_env (var_scope k) l.index) (scope_index k) gives.1 start_closed start_ended (sym (outer_of (loop_items k l)) ∙ outer) in
      subst Closed (sym (region_end b (loop_items k l))) done

  -- which makes nothing, as it is a break
  pub no_truth_live : (l : PlainLoop) (zs ps : Assignment) (f : Setting) → k.for_loop ≡ Some l → list_any is_inner_break (loop_items k l) ≡ false → FitsRegion (layout_of_loop k zs ps) f (loop_start k + 1) (region_of (loop_items k l)) → NoTruthLive (layout_of_loop k zs ps) (following_region k l)
  no_truth_live l zs ps f for_loop outer fits r lt =
      let less = truth_less k r in
      ⊎_elim
      (λ (early : r + 1 < following_region k l). let h = closed_region l for_loop outer r early in omega (arith, h, less))
      (λ (last : following_region k l ≤ r + 1).
      let number : r + 1 ≡ following_region k l = omega (arith, lt, last) in
      let nothing = last_nothing (layout_of_loop k zs ps) f (loop_start k + 1) (loop_items k l) fits (λ unbroken s e. let none = start_ended s (omega (arith, e)) in let small = truth_less k s in omega (arith, none, small, e)) r number in
      omega (arith, nothing, lt))
      (cases_lt (r + 1) (following_region k l))
