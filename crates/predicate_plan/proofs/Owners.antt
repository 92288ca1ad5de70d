-- In a lane that has come through the items of a loop the owner of each mask is true exactly where all parts of the mask are met.
use Rattle.std.proofs.Common.{◌≡◌, ℕ, ◌+◌, ◌-◌, ℤ, List, [], ◌∷◌, ◌++◌, length, replicate, Option, Some, None, Bool, true, false, not, ◌&&◌, append_assoc, length-append, option_map, refl, sym, ap, ap₂, ◌∙◌, subst, arith}
use Rattle.std.specs.Prelude.{slice_index_or}
use Rattle.std.proofs.lemmas.Bool.{and_parts}
use Rattle.std.proofs.lemmas.List.{get_or-append_right, length-replicate}
use Rattle.kernel_tree.specs.declared.ops.Ty.{Ty}
use Rattle.kernel_tree.specs.Plain.{Term, Literal, Variable, Element, Unary, Operation, Shift, Conversion, Choice, Comparison, Both, Either, Not, Action, Define, Put, Update, Choose, Leave, Block, Done, Then, Otherwise, Nothing, Else, PlainLoop, Program}
use Rattle.kernel_tree.specs.Items.{index_of, stream_offset, term_size, index_size, index_items, action_size, block_size, otherwise_size, loop_start}
use Rattle.kernel_tree.specs.Typing.{Scope, own, index_type, first, side_type, after_action, after_block, left, in_loop, var_scope, array_type}
use Rattle.kernel_tree.proofs.Scopes.{index_after, scope_index}
use Rattle.kernel_tree.specs.Kinds.{IsValue, IsTruth, ActionKinds, BlockKinds, OtherwiseKinds, ForLoopKinds}
use Rattle.loop_form.specs.LoopItems.{for_loop_items, Item, Bound, accumulator_of, truth_home, gather_item, load_item, store_item, term_items, cond_items, after_env, break_items, leave_items, action_items, block_items, otherwise_items, loop_env, loop_items}
use Rattle.predicate_plan.specs.declared.part.MaskPart.{MaskPart}
use Rattle.predicate_plan.specs.Masks.{meets, and_part, inner_masks, term_masks, action_masks, block_masks, otherwise_masks, mask_at, loop_masks, masks_of}
use Rattle.predicate_plan.specs.Owners.{is_on, AreSettled, AreOwned}
use Rattle.predicate_plan.proofs.Meets.{meets-more, term_count, action_count, block_count, otherwise_count}

-- masks by number, as a list from a number on has them
abbrev pub Agree : (ℕ → List MaskPart) → ℕ → List (List MaskPart) → Type 0
Agree masks from [] = Unit {0}
Agree masks from (m ∷ ms) = (masks from ≡ m) × Agree masks (from + 1) ms

agree_moved : (masks : ℕ → List MaskPart) (f g : ℕ) (ms : List (List MaskPart)) → f ≡ g → Agree masks f ms → Agree masks g ms
agree_moved masks f g ms e h = subst (λ n. Agree masks n ms) e h

agree_append : (masks : ℕ → List MaskPart) (from n : ℕ) (xs ys : List (List MaskPart)) → length xs ≡ n → Agree masks from (xs ++ ys) → Agree masks from xs × Agree masks (from + n) ys
agree_append masks from n [] ys e h = (tt, agree_moved masks from (from + n) ys (omega (arith, e)) h)
agree_append masks from n (x ∷ xs) ys e h =
    let rest = agree_append masks (from + 1) (n - 1) xs ys (omega (arith, e)) h.1 in
    ((h.0, rest.0), agree_moved masks (from + 1 + (n - 1)) (from + n) ys (omega (arith, e)) rest.1)

absorbed : (t b : Bool) → (t ≡ true → b ≡ true) → t ≡ (b && t)
absorbed true b h = ap (λ x. x && true) (sym (h refl))
absorbed false true h = refl
absorbed false false h = refl

left_part : (a b t : Bool) → t ≡ (a && b) → t ≡ true → a ≡ true
left_part a b t e h = (and_parts a b (sym e ∙ h)).0

home-is : (index : Option (List ℕ)) (from : ℕ) (c : Term) → IsTruth c → truth_home index from c ≡ from + term_size index c - 1
home-is index from (Comparison op a b) f = omega arith
home-is index from (Both a b) f = omega arith
home-is index from (Either a b) f = omega arith
home-is index from (Not e) f = omega arith
home-is index from other f = absurd f

module _ (masks : ℕ → List MaskPart) (truth : ℕ → Bool) where
  abbrev Owned : List Item → Type 0
  Owned items = AreOwned masks truth items

  -- the mask of a first condition, and of its contrary
  then_mask : (ms : List MaskPart) (mask : Option ℕ) (q c : ℕ) → is_on truth mask ≡ meets truth ms → q ≡ c → (truth q ≡ true → is_on truth mask ≡ true) → is_on truth (Some q) ≡ meets truth (and_part ms c true)
  then_mask ms mask q c h e inside =
      absorbed (truth q) (meets truth ms) (λ t. sym h ∙ inside t) ∙ ap (λ n. meets truth ms && truth n) e ∙ sym (meets-more truth ms c true)

  else_mask : (ms : List MaskPart) (mask : Option ℕ) (m q c : ℕ) → is_on truth mask ≡ meets truth ms → q ≡ c → truth m ≡ (is_on truth mask && not (truth q)) → is_on truth (Some m) ≡ meets truth (and_part ms c false)
  else_mask ms mask m q c h e is = is ∙ ap₂ (λ a n. a && not (truth n)) h e ∙ sym (meets-more truth ms c false)

  -- a read: by its item alone, or by the items of its index too
  load_owned : (scope : Scope) (mask : Option ℕ) (from : ℕ) (env : List Bound) (a : List ℕ) (i : Term) (o : Option ℤ) (gathered : List Item) (ms : List MaskPart) (rest : List Item) → stream_offset scope.index i ≡ o → is_on truth mask ≡ meets truth ms
      → Agree masks from (inner_masks o (term_masks scope.index from ms i) ++ ms ∷ [])
      → (index_items scope.index i ≡ term_size scope.index i → Agree masks from (term_masks scope.index from ms i ++ ms ∷ []) → AreSettled truth gathered → Owned gathered)
      → AreSettled truth (load_item scope mask (from + index_size o (term_size scope.index i)) env a o gathered rest) → (AreSettled truth rest → Owned rest) → Owned (load_item scope mask (from + index_size o (term_size scope.index i)) env a o gathered rest)
  load_owned scope mask from env a i None gathered ms rest e h g inner st k = inner (ap (λ o. index_size o (term_size scope.index i)) e) g st
  load_owned scope mask from env a i (Some c) gathered ms rest e h g inner st k = (h ∙ ap (meets truth) (sym (ap masks (let e : from + 0 ≡ from = omega arith in e) ∙ g.0)), k st.1)

  record Owns (t : Term) : Type 0 where
    value : IsValue t → (scope : Scope) (want : Option Ty) (mask : Option ℕ) (from : ℕ) (env : List Bound) (ms : List MaskPart) (rest : List Item) → is_on truth mask ≡ meets truth ms → Agree masks from (term_masks scope.index from ms t)
        → AreSettled truth (term_items scope want mask from env t rest) → (AreSettled truth rest → Owned rest) → Owned (term_items scope want mask from env t rest)
    cond : IsTruth t → (scope : Scope) (mask : Option ℕ) (from : ℕ) (env : List Bound) (ms : List MaskPart) (rest : List Item) → is_on truth mask ≡ meets truth ms → Agree masks from (term_masks scope.index from ms t)
        → AreSettled truth (cond_items scope mask from env t rest) → (AreSettled truth rest → (truth (truth_home scope.index from t) ≡ true → is_on truth mask ≡ true) → Owned rest) → Owned (cond_items scope mask from env t rest)

  -- the item after some others
  item_met : (mask : Option ℕ) (ms : List MaskPart) (q n : ℕ) → is_on truth mask ≡ meets truth ms → Agree masks n (ms ∷ []) → n ≡ q → is_on truth mask ≡ meets truth (masks q)
  item_met mask ms q n h g e = h ∙ ap (meets truth) (sym (ap masks (sym e) ∙ g.0))

  one_operand : (index : Option (List ℕ)) (from : ℕ) (ms : List MaskPart) (e : Term) → Agree masks from (term_masks index from ms e ++ ms ∷ []) → Agree masks from (term_masks index from ms e) × Agree masks (from + term_size index e) (ms ∷ [])
  one_operand index from ms e g = agree_append masks from (term_size index e) (term_masks index from ms e) (ms ∷ []) (term_count index e from ms) g

  owns : (t : Term) → Owns t
  owns (Literal n) = record { value = λ f scope want mask from env ms rest h g st k. k st; cond = λ f. absurd f }
  owns (Variable x) = record { value = λ f scope want mask from env ms rest h g st k. k st; cond = λ f. absurd f }
  owns (Element a i) = record {
    value = λ f scope want mask from env ms rest h g st k.
        let read = gather_item scope mask from (from + index_items scope.index i) env a i in
        load_owned scope mask from env a i (stream_offset scope.index i) (term_items scope (index_type scope i) mask from env i (read ∷ rest)) ms rest refl h g
        (λ e g2 s. let parts = one_operand scope.index from ms i g2 in
        (owns i).value f scope (index_type scope i) mask from env ms _ h parts.0 s (λ s2. (item_met mask ms _ _ h parts.1 (ap (λ n. from + n) (sym e)), k s2.1)))
        st k;
    cond = λ f. absurd f;
  }
  owns (Unary op e) = record {
    value = λ f scope want mask from env ms rest h g st k.
        let parts = one_operand scope.index from ms e g in
        (owns e).value f scope want mask from env ms _ h parts.0 st (λ s. (item_met mask ms _ _ h parts.1 refl, k s.1));
    cond = λ f. absurd f;
  }
  owns (Shift to e n) = record {
    value = λ f scope want mask from env ms rest h g st k.
        let parts = one_operand scope.index from ms e g in
        (owns e).value f scope want mask from env ms _ h parts.0 st (λ s. (item_met mask ms _ _ h parts.1 refl, k s.1));
    cond = λ f. absurd f;
  }
  owns (Conversion e t) = record {
    value = λ f scope want mask from env ms rest h g st k.
        let parts = one_operand scope.index from ms e g in
        (owns e).value f scope (own scope e) mask from env ms _ h parts.0 st (λ s. (item_met mask ms _ _ h parts.1 refl, k s.1));
    cond = λ f. absurd f;
  }
  owns (Operation op a b) = record {
    value = λ f scope want mask from env ms rest h g st k.
        let next = from + term_size scope.index a in
        let front = agree_append masks from (term_size scope.index a) (term_masks scope.index from ms a) _ (term_count scope.index a from ms) g in
        let parts = one_operand scope.index next ms b front.1 in
        (owns a).value f.0 scope want mask from env ms _ h front.0 st (λ s. (owns b).value f.1 scope want mask next env ms _ h parts.0 s (λ s2. (item_met mask ms _ _ h parts.1 refl, k s2.1)));
    cond = λ f. absurd f;
  }
  owns (Choice c a b) = record {
    value = λ f scope want mask from env ms rest h g st k.
        let next = from + term_size scope.index a in
        let last = next + term_size scope.index b in
        let front = agree_append masks from (term_size scope.index a) (term_masks scope.index from ms a) _ (term_count scope.index a from ms) g in
        let middle = agree_append masks next (term_size scope.index b) (term_masks scope.index next ms b) _ (term_count scope.index b next ms) front.1 in
        let parts = one_operand scope.index last ms c middle.1 in
        (owns a).value f.0 scope want mask from env ms _ h front.0 st (λ s.
        (owns b).value f.1 scope want mask next env ms _ h middle.0 s (λ s2.
        (owns c).cond f.2 scope mask last env ms _ h parts.0 s2 (λ s3 _. (item_met mask ms _ _ h parts.1 refl, k s3.1))));
    cond = λ f. absurd f;
  }
  owns (Comparison op a b) = record {
    value = λ f. absurd f;
    cond = λ f scope mask from env ms rest h g st k.
        let want = side_type scope a b in
        let next = from + term_size scope.index a in
        let front = agree_append masks from (term_size scope.index a) (term_masks scope.index from ms a) _ (term_count scope.index a from ms) g in
        let parts = one_operand scope.index next ms b front.1 in
        (owns a).value f.0 scope want mask from env ms _ h front.0 st (λ s. (owns b).value f.1 scope want mask next env ms _ h parts.0 s (λ s2. (item_met mask ms _ _ h parts.1 refl, k s2.1 s2.0)));
  }
  owns (Both a b) = record {
    value = λ f. absurd f;
    cond = λ f scope mask from env ms rest h g st k.
        let next = from + term_size scope.index a in
        let inner = and_part ms (next - 1) true in
        let front = agree_append masks from (term_size scope.index a) (term_masks scope.index from ms a) _ (term_count scope.index a from ms) g in
        let parts = agree_append masks next (term_size scope.index b) (term_masks scope.index next inner b) (ms ∷ []) (term_count scope.index b next inner) front.1 in
        (owns a).cond f.0 scope mask from env ms _ h front.0 st (λ s inside.
        (owns b).cond f.1 scope (Some (truth_home scope.index from a)) next env inner _ (then_mask ms mask _ (next - 1) h (home-is scope.index from a f.0) inside) parts.0 s (λ s2 _.
        (item_met mask ms _ _ h parts.1 refl, k s2.1 s2.0)));
  }
  owns (Either a b) = record {
    value = λ f. absurd f;
    cond = λ f scope mask from env ms rest h g st k.
        let mark = from + term_size scope.index a in
        let inner = and_part ms (mark - 1) false in
        let front = agree_append masks from (term_size scope.index a) (term_masks scope.index from ms a) _ (term_count scope.index a from ms) g in
        let parts = agree_append masks (mark + 1) (term_size scope.index b) (term_masks scope.index (mark + 1) inner b) (ms ∷ []) (term_count scope.index b (mark + 1) inner) front.1.1 in
        (owns a).cond f.0 scope mask from env ms _ h front.0 st (λ s inside. (
          h ∙ ap (meets truth) (sym front.1.0),
          (owns b).cond f.1 scope (Some mark) (mark + 1) env inner _ (else_mask ms mask mark _ (mark - 1) h (home-is scope.index from a f.0) s.0) parts.0 s.1 (λ s2 _.
              (item_met mask ms _ _ h parts.1 refl, k s2.1 s2.0)),
        ));
  }
  owns (Not e) = record {
    value = λ f. absurd f;
    cond = λ f scope mask from env ms rest h g st k.
        let parts = one_operand scope.index from ms e g in
        (owns e).cond f scope mask from env ms _ h parts.0 st (λ s _. (item_met mask ms _ _ h parts.1 refl, k s.1 (left_part _ _ _ s.0)));
  }

  store_owned : (scope : Scope) (mask : Option ℕ) (q : ℕ) (env : List Bound) (a : List ℕ) (o : Option ℤ) (v : _) (ms : List MaskPart) (rest : List Item) → is_on truth mask ≡ meets truth (masks q)
      → AreSettled truth (store_item scope mask q env a o v rest) → (AreSettled truth rest → Owned rest) → Owned (store_item scope mask q env a o v rest)
  store_owned scope mask q env a None v ms rest h st k = k st
  store_owned scope mask q env a (Some c) v ms rest h st k = (h, k st.1)

  -- past a break that was not taken
  past_mask : (ms : List MaskPart) (mask : Option ℕ) (c : ℕ) → is_on truth mask ≡ meets truth ms → (is_on truth mask ≡ true → truth c ≡ false) → is_on truth mask ≡ meets truth (and_part ms c false)
  past_mask ms mask c h past = by (is_on truth mask) h past ∙ sym (meets-more truth ms c false)
    where
      by : (b : Bool) → b ≡ meets truth ms → (b ≡ true → truth c ≡ false) → b ≡ (meets truth ms && not (truth c))
      by true e f = ap₂ (λ a t. a && not t) e (sym (f refl))
      by false e f = ap (λ a. a && not (truth c)) e

  break_owned : (c : Term) → IsTruth c → (scope : Scope) (mask : Option ℕ) (from : ℕ) (env : List Bound) (ms : List MaskPart) (rest : List Item) → is_on truth mask ≡ meets truth ms → Agree masks from (term_masks scope.index from ms c) → masks (from + term_size scope.index c) ≡ ms
      → AreSettled truth (break_items scope mask from env c rest) → (AreSettled truth rest → (is_on truth mask ≡ true → truth (from + term_size scope.index c - 1) ≡ false) → Owned rest) → Owned (break_items scope mask from env c rest)
  break_owned c f scope mask from env ms rest h g last st k =
      (owns c).cond f scope mask from env ms _ h g st (λ s _. (h ∙ ap (meets truth) (sym last), k s.1 (λ on. ap truth (sym (home-is scope.index from c f)) ∙ s.0.1 on)))

  -- the last condition of a break is the one before it, or the break in the place of a `||`, which makes no truth
  leave_owned : (c : Term) → IsTruth c → (scope : Scope) (mask : Option ℕ) (from : ℕ) (env : List Bound) (ms : List MaskPart) (rest : List Item) → is_on truth mask ≡ meets truth ms → Agree masks from (term_masks scope.index from ms c) → Agree masks (from + term_size scope.index c) (ms ∷ [])
      → AreSettled truth (leave_items scope mask from env c rest) → (AreSettled truth rest → (is_on truth mask ≡ true → truth (from + term_size scope.index c - 1) ≡ false) → Owned rest) → Owned (leave_items scope mask from env c rest)
  leave_owned (Either a b) f scope mask from env ms rest h g last st k =
      let mark = from + term_size scope.index a in
      let inner = and_part ms (mark - 1) false in
      let front = agree_append masks from (term_size scope.index a) (term_masks scope.index from ms a) _ (term_count scope.index a from ms) g in
      let parts = agree_append masks (mark + 1) (term_size scope.index b) (term_masks scope.index (mark + 1) inner b) (ms ∷ []) (term_count scope.index b (mark + 1) inner) front.1.1 in
      leave_owned a f.0 scope mask from env ms _ h front.0 (front.1.0, tt) st (λ s past.
      two_owned b f.1 scope mask (mark + 1) env inner ms rest (past_mask ms mask (mark - 1) h past) h parts.0 parts.1.0 s (λ s2 none. k s2 (λ on. ap truth (let e : from + term_size scope.index (Either a b) - 1 ≡ mark + 1 + term_size scope.index b = omega arith in e) ∙ none)))
    where
      -- b, and the break on it, whose mask is the outer one
      two_owned : (c : Term) → IsTruth c → (scope : Scope) (mask : Option ℕ) (from : ℕ) (env : List Bound) (inner ms : List MaskPart) (rest : List Item) → is_on truth mask ≡ meets truth inner → is_on truth mask ≡ meets truth ms → Agree masks from (term_masks scope.index from inner c) → masks (from + term_size scope.index c) ≡ ms
          → AreSettled truth (break_items scope mask from env c rest) → (AreSettled truth rest → truth (from + term_size scope.index c) ≡ false → Owned rest) → Owned (break_items scope mask from env c rest)
      two_owned c f scope mask from env inner ms rest h e g last st k = (owns c).cond f scope mask from env inner _ h g st (λ s _. (e ∙ ap (meets truth) (sym last), k s.1 s.0.0))
  leave_owned c f scope mask from env ms rest h g last st k = break_owned c f scope mask from env ms rest h g last.0 st k

  mutual
    action_owned : (s : Action) → ActionKinds s → (scope : Scope) (mask : Option ℕ) (from : ℕ) (env : List Bound) (ms : List MaskPart) (rest : List Item) → is_on truth mask ≡ meets truth ms → Agree masks from (action_masks scope.index from ms s)
        → AreSettled truth (action_items scope mask from env s rest) → (AreSettled truth rest → Owned rest) → Owned (action_items scope mask from env s rest)
    action_owned (Define x t e) f scope mask from env ms rest h g st k =
        let parts = one_operand scope.index from ms e g in
        (owns e).value f scope (first t (own scope e)) mask from env ms _ h parts.0 st (λ s. (item_met mask ms _ _ h parts.1 refl, k s.1))
    action_owned (Put a i e) f scope mask from env ms rest h g st k =
        let parts = one_operand scope.index from ms e g in
        (owns e).value f scope (array_type scope a) mask from env ms _ h parts.0 st
        (λ s. store_owned scope mask (from + term_size scope.index e) env a (stream_offset scope.index i) _ ms rest (item_met mask ms _ _ h parts.1 refl) s k)
    action_owned (Update x op e) f scope mask from env ms rest h g st k =
        let parts = one_operand scope.index from ms e g in
        (owns e).value f scope (accumulator_of scope x) mask from env ms _ h parts.0 st (λ s. (item_met mask ms _ _ h parts.1 refl, k s.1))
    action_owned (Choose c b d) f scope mask from env ms rest h g st k =
        let index = scope.index in
        let next = from + term_size index c in
        let yes = and_part ms (next - 1) true in
        let no = and_part ms (next - 1) false in
        let q = truth_home index from c in
        let is = home-is index from c f.0 in
        let front = agree_append masks from (term_size index c) (term_masks index from ms c) _ (term_count index c from ms) g in
        let inner = agree_append masks (next + 1) (block_size index b) (block_masks index (next + 1) yes b) _ (block_count index b (next + 1) yes) front.1.1 in
        let last = agree_append masks (next + 1 + block_size index b) (otherwise_size index d) (otherwise_masks index (next + 1 + block_size index b) ms no d) (ms ∷ []) (otherwise_count index d (next + 1 + block_size index b) ms no) inner.1 in
        (owns c).cond f.0 scope mask from env ms _ h front.0 st (λ s inside.
        block_owned b f.1 scope (Some q) (next + 1) env yes _ (then_mask ms mask q (next - 1) h is inside) inner.0 s (λ s2.
        otherwise_owned d f.2 (left scope (after_block scope b)) mask (next + 1 + block_size index b) q (next - 1) env ms rest h is last.0 s2 k))
    action_owned (Leave c) f scope mask from env ms rest h g st k =
        let parts = one_operand scope.index from ms c g in
        leave_owned c f scope mask from env ms rest h parts.0 parts.1 st (λ s _. k s)

    block_owned : (b : Block) → BlockKinds b → (scope : Scope) (mask : Option ℕ) (from : ℕ) (env : List Bound) (ms : List MaskPart) (rest : List Item) → is_on truth mask ≡ meets truth ms → Agree masks from (block_masks scope.index from ms b)
        → AreSettled truth (block_items scope mask from env b rest) → (AreSettled truth rest → Owned rest) → Owned (block_items scope mask from env b rest)
    block_owned Done f scope mask from env ms rest h g st k = k st
    block_owned (Then s b) f scope mask from env ms rest h g st k =
        let parts = agree_append masks from (action_size scope.index s) (action_masks scope.index from ms s) (block_masks scope.index (from + action_size scope.index s) ms b) (action_count scope.index s from ms) g in
        action_owned s f.0 scope mask from env ms _ h parts.0 st (λ s2.
        block_owned b f.1 (after_action scope s) mask (from + action_size scope.index s) (after_env scope from env s) ms rest h
        (subst (λ i. Agree masks (from + action_size scope.index s) (block_masks i (from + action_size scope.index s) ms b)) (sym (index_after scope s)) parts.1) s2 k)

    otherwise_owned : (d : Otherwise) → OtherwiseKinds d → (scope : Scope) (mask : Option ℕ) (from q c : ℕ) (env : List Bound) (ms : List MaskPart) (rest : List Item) → is_on truth mask ≡ meets truth ms → q ≡ c → Agree masks from (otherwise_masks scope.index from ms (and_part ms c false) d)
        → AreSettled truth (otherwise_items scope mask from q env d rest) → (AreSettled truth rest → Owned rest) → Owned (otherwise_items scope mask from q env d rest)
    otherwise_owned Nothing f scope mask from q c env ms rest h e g st k = k st
    otherwise_owned (Else b) f scope mask from q c env ms rest h e g st k =
        (h ∙ ap (meets truth) (sym g.0), block_owned b f scope (Some from) (from + 1) env (and_part ms c false) rest (else_mask ms mask from q c h e st.0) g.1 st.1 k)

-- ---- the items of a loop

agree_list : (xs ys zs : List (List MaskPart)) (n : ℕ) → zs ≡ xs ++ ys → length xs ≡ n → Agree (mask_at zs) n ys
agree_list xs [] zs n e f = tt
agree_list xs (y ∷ ys) zs n e f = (
  ap (λ l. mask_at l n) e ∙ get_or-append_right xs (y ∷ ys) n n [] f (omega arith) ∙ ap (λ i. slice_index_or (y ∷ ys) i []) (let z : n - n ≡ 0 = omega arith in z),
  agree_list (xs ++ y ∷ []) ys zs (n + 1) (e ∙ sym (append_assoc xs (y ∷ []) ys)) (length-append xs (y ∷ []) ∙ omega (arith, f)),
)

for_loop_agrees : (from : ℕ) (l : PlainLoop) → Agree (mask_at (loop_masks from (Some l))) (from + 1) (block_masks (Some l.index) (from + 1) [] l.body)
for_loop_agrees from l =
    agree_list (replicate from [] ++ [] ∷ []) (block_masks (Some l.index) (from + 1) [] l.body) (loop_masks from (Some l)) (from + 1)
    (sym (append_assoc (replicate from []) ([] ∷ []) (block_masks (Some l.index) (from + 1) [] l.body)))
    (length-append (replicate from []) ([] ∷ []) ∙ ap (λ n. n + 1) (length-replicate {A = List MaskPart} from []))

-- In a lane whose truths are those that the items of the loop leave, each item is done exactly where all parts of its mask
-- are met.
owners_met : (k : Program) (l : PlainLoop) (truth : ℕ → Bool) → k.for_loop ≡ Some l → BlockKinds l.body → AreSettled truth (loop_items k l) → AreOwned (mask_at (masks_of k)) truth (loop_items k l)
owners_met k l truth loop form settled =
    let from = loop_start k in
    let scope = in_loop (var_scope k) l in
    let index : scope.index ≡ Some l.index = scope_index k ∙ ap (option_map index_of) loop in
    let masks : loop_masks from (Some l) ≡ masks_of k = ap (loop_masks from) (sym loop) in
    let agree : Agree (mask_at (masks_of k)) (from + 1) (block_masks scope.index (from + 1) [] l.body) =
    subst (λ i. Agree (mask_at (masks_of k)) (from + 1) (block_masks i (from + 1) [] l.body)) (sym index)
    (subst (λ ms. Agree (mask_at ms) (from + 1) (block_masks (Some l.index) (from + 1) [] l.body)) masks (for_loop_agrees from l)) in
    block_owned (mask_at (masks_of k)) truth l.body form scope None (from + 1) (loop_env (var_scope k) l.index) [] [] refl agree settled (λ s. tt)

pub loop_owners_met : (k : Program) (o : Option PlainLoop) (truth : ℕ → Bool) → k.for_loop ≡ o → ForLoopKinds o → AreSettled truth (for_loop_items k o) → AreOwned (mask_at (masks_of k)) truth (for_loop_items k o)
loop_owners_met k None truth e f settled = tt
loop_owners_met k (Some l) truth e f settled = owners_met k l truth e f settled
