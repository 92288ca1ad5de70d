-- The items of the statements of a checked kernel's loop fit its layout.
use Rattle.std.proofs.Common.{◌≡◌, ℕ, ◌+◌, ◌<◌, ◌≤◌, ℤ, Bool, List, [], ◌∷◌, ◌++◌, length, Option, Some, None, refl, sym, ap, ◌∙◌, subst, arith}
use Rattle.kernel_tree.specs.declared.ops.Ty.{Ty}
use Rattle.kernel_tree.specs.declared.ops.UpdateOp.{UpdateOp}
use Rattle.kernel_tree.specs.Plain.{Term, Either, Action, Define, Put, Update, Choose, Leave, Block, Done, Then, Otherwise, Nothing, Else, Program}
use Rattle.kernel_tree.specs.Items.{stream_offset, term_size, action_size, block_size, otherwise_size, loop_index}
use Rattle.kernel_tree.specs.Typing.{Scope, Local, local, Value, Condition, lookup, own, first, insert_name, defined, left, after_action, after_block, after_otherwise, faults, target_faults, twice, action_faults, block_faults, otherwise_faults, term_types, action_types, block_types, otherwise_types, array_type}
use Rattle.kernel_tree.proofs.Faultless.{nil-left, nil-right}
use Rattle.kernel_tree.proofs.NoFault.{untyped_some, target_some, update_some, stream_some}
use Rattle.reg_assign.specs.declared.interval.RegClass.TheVariants.{Z}
use Rattle.reg_assign.specs.Registers.{Assignment}
use Rattle.loop_form.specs.declared.loop_item.Operand.{Operand}
use Rattle.loop_form.specs.declared.loop_item.Operand.TheVariants.{Made}
use Rattle.loop_form.specs.Entries.{IsLet, IsStore, IsUpdate, IsPlain, term_entries, action_entries, block_entries, otherwise_entries}
use Rattle.loop_form.specs.LoopItems.{Item, item, Bound, bound, with_bound, accumulator_of, home, truth_home, term_items, store_item, after_env, break_items, leave_items, action_items, block_items, otherwise_items}
use Rattle.loop_form.specs.LoopItems as ops
use Rattle.loop_form.proofs.ItemTypes.{term_matches, action_matches, block_matches, otherwise_matches}
use Rattle.chunk_emit.specs.Chunk.{Setting}
use Rattle.chunk_emit.specs.Registers.{Layout}
use Rattle.chunk_emit.specs.Fits.{FitsTruth}
use Rattle.chunk_emit.specs.KernelLayout.{item_last_use, truth_last_use, layout_of_loop}
use Rattle.chunk_emit.specs.LoopFits.{FitsSetting, FitsSteps}
use Rattle.chunk_emit.proofs.FitsKnown.{Part, part_left, part_right, part_following, At, known_at_head}
use Rattle.chunk_emit.proofs.FitsNumbers.{IsBefore}
use Rattle.chunk_emit.proofs.FitsNames.{LetHome, Names, names_later, names_more}
use Rattle.chunk_emit.proofs.FitsTrees.{KnownTruth, IsStream, is_stream, value_known, truth_known}
use Rattle.chunk_emit.proofs.FitsOperands.{AllTyped, value_following, truth_following, made_is, truth_same, truth_none, truth_is, truth_lasts}
use Rattle.chunk_emit.proofs.FitsPlaces.{fits_steps_at_equal_place, skip, plain_step, IsMasked, plain_casts}
use Rattle.chunk_emit.proofs.FitsTerms.{value_makes, truth_makes, nothing_made, operand, value_steps, truth_steps}
use Rattle.chunk_emit.proofs.FitsWrites.{store_ends, store_steps, update_steps}
use Rattle.kernel_tree.specs.declared.fault.Binding.TheVariants as binding
use Rattle.loop_form.specs.declared.item.ItemKind.TheVariants as kind

-- ---- the types of the items after

store_following : (k : Program) (s : Scope) (mask : Option ℕ) (q : ℕ) (env : List Bound) (a : List ℕ) (o : Option ℤ) (v : Operand) (rest : List Item) → AllTyped k (store_item s mask q env a o v rest) → AllTyped k rest
store_following k s mask q env a None v rest h = h
store_following k s mask q env a (Some c) v rest h = h.1

break_following : (k : Program) (c : Term) (s : Scope) (mask : Option ℕ) (b : ℕ) (env : List Bound) (rest : List Item) → AllTyped k (break_items s mask b env c rest) → AllTyped k rest
break_following k c s mask b env rest h = (truth_following k c s mask b env _ h).1

leave_following : (k : Program) (c : Term) (s : Scope) (mask : Option ℕ) (b : ℕ) (env : List Bound) (rest : List Item) → AllTyped k (leave_items s mask b env c rest) → AllTyped k rest
leave_following k (Either x y) s mask b env rest h = break_following k y s mask (b + term_size s.index x + 1) env rest (leave_following k x s mask b env _ h)
leave_following k c s mask b env rest h = break_following k c s mask b env rest h

mutual
  action_following : (k : Program) (a : Action) (s : Scope) (mask : Option ℕ) (b : ℕ) (env : List Bound) (rest : List Item) → AllTyped k (action_items s mask b env a rest) → AllTyped k rest
  action_following k (Define x t e) s mask b env rest h = (value_following k e s (first t (own s e)) mask b env _ h).1
  action_following k (Put a j e) s mask b env rest h = store_following k s mask _ env a (stream_offset s.index j) _ rest (value_following k e s (array_type s a) mask b env _ h)
  action_following k (Update x op e) s mask b env rest h = (value_following k e s (accumulator_of s x) mask b env _ h).1
  action_following k (Choose c t d) s mask b env rest h =
      let inner = b + term_size s.index c + 1 in
      otherwise_following k d (left s (after_block s t)) mask (inner + block_size s.index t) (truth_home s.index b c) env rest
      (block_following k t s (Some (truth_home s.index b c)) inner env _ (truth_following k c s mask b env _ h))
  action_following k (Leave c) s mask b env rest h = leave_following k c s mask b env rest h

  block_following : (k : Program) (t : Block) (s : Scope) (mask : Option ℕ) (b : ℕ) (env : List Bound) (rest : List Item) → AllTyped k (block_items s mask b env t rest) → AllTyped k rest
  block_following k Done s mask b env rest h = h
  block_following k (Then a t) s mask b env rest h = block_following k t (after_action s a) mask _ (after_env s b env a) rest (action_following k a s mask b env _ h)

  otherwise_following : (k : Program) (d : Otherwise) (s : Scope) (mask : Option ℕ) (b c : ℕ) (env : List Bound) (rest : List Item) → AllTyped k (otherwise_items s mask b c env d rest) → AllTyped k rest
  otherwise_following k Nothing s mask b c env rest h = h
  otherwise_following k (Else t) s mask b c env rest h = block_following k t s (Some b) (b + 1) env rest h.1

-- ---- what no fault tells

module _ (k : Program) (zs ps : Assignment) (f : Setting) (setting : FitsSetting k f) (few : length k.params ≤ 8) where
  abbrev i : Option (List ℕ)
  i = loop_index k

  abbrev scope : List Local → List (List ℕ) → Bool → Scope
  scope v tk ins = record { visible = v; taken = tk; index = loop_index k; inside = ins }

  -- ---- the names after a statement

  record AfterNames (ins : Bool) (env : List Bound) (s : Scope) (b : ℕ) (a : Action) : Type 0 where
    visible : List Local
    taken : List (List ℕ)
    env' : List Bound
    scope_is : after_action s a ≡ record { visible = visible; taken = taken; index = loop_index k; inside = ins }
    env_is : after_env s b env a ≡ env'
    names : Names k (b + action_size i a) visible env'

  same_names : (a : Action) (v : List Local) (tk : List (List ℕ)) (ins : Bool) (env : List Bound) (b : ℕ) (s : Scope) → after_action s a ≡ scope v tk ins → after_env s b env a ≡ env → Names k b v env → AfterNames ins env s b a
  same_names a v tk ins env b s e g names = record { visible = v; taken = tk; env' = env; scope_is = e; env_is = g; names = names_later k b (b + action_size i a) v env (omega arith) names }

  names_after : (a : Action) (v : List Local) (tk : List (List ℕ)) (ins : Bool) (env : List Bound) (mask : Option ℕ) (b g : ℕ) (rest : List Item) → Names k b v env → action_faults (scope v tk ins) g a ≡ [] → Part k (action_entries k b a) (action_types (scope v tk ins) a) → AllTyped k (action_items (scope v tk ins) mask b env a rest)
      → AfterNames ins env (scope v tk ins) b a
  names_after (Define x t e) v tk ins env mask b g rest names none part types =
      let S = scope v tk ins in
      let q = b + term_size i e in
      let want = first t (own S e) in
      let w = untyped_some (g + term_size i e) want (nil-right (twice (g + term_size i e) S x) _ (nil-right (faults S g (Value want) e) _ none)) in
      let T = w.0 in
      let at = known_at_head k q (IsLet x) q [] want [] (part_right k (term_entries k b q e) _ (term_types S (Value want) e) _ (term_matches k e S (Value want) b q refl) part) in
      let ti = value_following k e S want mask b env (item q mask (ops.Let want (home i want b env e)) ∷ rest) types in
      let new : LetHome k (b + action_size i (Define x t e)) x T (Made q) = record { item = q; is = refl; before = omega arith; type = made_is k q T (ti.0.type ∙ w.1); from = q; last_use = at.known.gives.value_last_use } in
      record {
        visible = v ++ local x (binding.Value T) ∷ [];
        taken = insert_name tk x;
        env' = env ++ bound x (Made q) ∷ [];
        scope_is = ap (λ o. defined S x o) w.1;
        env_is = ap (λ o. with_bound env x o q) w.1;
        names = names_more k b (b + action_size i (Define x t e)) v env x T q (omega arith) names new;
      }
  names_after (Put a j e) v tk ins env mask b g rest names none part types = same_names (Put a j e) v tk ins env b (scope v tk ins) refl refl names
  names_after (Update x op e) v tk ins env mask b g rest names none part types = same_names (Update x op e) v tk ins env b (scope v tk ins) refl refl names
  names_after (Choose c t d) v tk ins env mask b g rest names none part types =
      let S = scope v tk ins in
      same_names (Choose c t d) v (after_otherwise (left S (after_block S t)) d).taken ins env b S refl refl names
  names_after (Leave c) v tk ins env mask b g rest names none part types = same_names (Leave c) v tk ins env b (scope v tk ins) refl refl names

  -- ---- single statements

  module _ (v : List Local) (tk : List (List ℕ)) (ins : Bool) (b : ℕ) (env : List Bound) (names : Names k b v env) where
    abbrev S : Scope
    S = scope v tk ins

    let_steps : (x : List ℕ) (e : Term) (mask : Option ℕ) (g p : ℕ) (rest : List Item) (o : Option Ty) (T : Ty) → o ≡ Some T → faults S g (Value o) e ≡ [] → Part k (term_entries k b (b + term_size i e) e) (term_types S (Value o) e) → At k (b + term_size i e) (IsLet x) (b + term_size i e) o → p ≡ b + term_size i e + 1
        → AllTyped k (term_items S o mask b env e (item (b + term_size i e) mask (ops.Let o (home i o b env e)) ∷ rest)) → IsMasked (layout_of_loop k zs ps) b p mask → FitsSteps (layout_of_loop k zs ps) f p rest
        → FitsSteps (layout_of_loop k zs ps) f b (term_items S o mask b env e (item (b + term_size i e) mask (ops.Let o (home i o b env e)) ∷ rest))
    let_steps x e mask g p rest None U same none part at number types masked following = absurd cc
    let_steps x e mask g p rest (Some T) U same none part at number types masked following =
        let L = layout_of_loop k zs ps in
        let q = b + term_size i e in
        let act = ops.Let (Some T) (home i (Some T) b env e) in
        let last = item q mask act ∷ rest in
        let known = value_known k v tk ins e T g b q none part in
        let ti = value_following k e S (Some T) mask b env last types in
        let here =
        plain_step L f q p mask act rest number (masked q (omega arith) (omega (arith, number)))
        (operand k zs ps f setting few v tk ins b env names e T mask b q last known (omega arith) (omega arith) types, value_makes k zs ps f setting few q T at.known.gives.truth_last_use ti.0.type) (λ r next. refl) following in
        value_steps k zs ps f setting few v tk ins b env names e T mask b q last known (omega arith) (omega arith) types (λ r lo hi. masked r lo (omega (arith, hi, number))) (plain_casts L b last refl) here

    put_steps : (a : List ℕ) (j e : Term) (mask : Option ℕ) (g p : ℕ) (rest : List Item) (o : Option Ty) (T : Ty) → array_type S a ≡ o → o ≡ Some T → IsStream i j → faults S g (Value o) e ≡ [] → Part k (term_entries k b (b + term_size i e) e) (term_types S (Value o) e)
        → At k (b + term_size i e) (IsStore a j) (b + term_size i e) None → p ≡ b + term_size i e + 1 → AllTyped k (term_items S o mask b env e (store_item S mask (b + term_size i e) env a (stream_offset i j) (home i o b env e) rest)) → IsMasked (layout_of_loop k zs ps) b p mask
        → FitsSteps (layout_of_loop k zs ps) f p rest → FitsSteps (layout_of_loop k zs ps) f b (term_items S o mask b env e (store_item S mask (b + term_size i e) env a (stream_offset i j) (home i o b env e) rest))
    put_steps a j e mask g p rest None U is same stream none part at number types masked following = absurd cc
    put_steps a j e mask g p rest (Some T) U is same stream none part at number types masked following =
        let L = layout_of_loop k zs ps in
        let q = b + term_size i e in
        let last = store_item S mask q env a (stream_offset i j) (home i (Some T) b env e) rest in
        let known = value_known k v tk ins e T g b q none part in
        let value = operand k zs ps f setting few v tk ins b env names e T mask b q last known (omega arith) (omega arith) types in
        let here = store_steps k zs ps f setting few v tk ins b env names a j T mask q p (home i (Some T) b env e) rest stream at is value (masked q (omega arith) (omega (arith, number))) number following in
        value_steps k zs ps f setting few v tk ins b env names e T mask b q last known (omega arith) (omega arith) types (λ r lo hi. masked r lo (omega (arith, hi, number)))
        (store_ends k zs ps f setting few v tk ins b env names e T a j mask b q rest stream known (omega arith)) here

    add_steps : (x : List ℕ) (op : UpdateOp) (e : Term) (mask : Option ℕ) (g p : ℕ) (rest : List Item) (o : Option Ty) (T : Ty) → accumulator_of S x ≡ o → o ≡ Some T → faults S g (Value o) e ≡ [] → Part k (term_entries k b (b + term_size i e) e) (term_types S (Value o) e)
        → At k (b + term_size i e) (IsUpdate x op) (b + term_size i e) None → p ≡ b + term_size i e + 1 → AllTyped k (term_items S o mask b env e (item (b + term_size i e) mask (ops.Update x op o (home i o b env e)) ∷ rest)) → IsMasked (layout_of_loop k zs ps) b p mask → FitsSteps (layout_of_loop k zs ps) f p rest
        → FitsSteps (layout_of_loop k zs ps) f b (term_items S o mask b env e (item (b + term_size i e) mask (ops.Update x op o (home i o b env e)) ∷ rest))
    add_steps x op e mask g p rest None U is same none part at number types masked following = absurd cc
    add_steps x op e mask g p rest (Some T) U is same none part at number types masked following =
        let L = layout_of_loop k zs ps in
        let q = b + term_size i e in
        let last = item q mask (ops.Update x op (Some T) (home i (Some T) b env e)) ∷ rest in
        let known = value_known k v tk ins e T g b q none part in
        let value = operand k zs ps f setting few v tk ins b env names e T mask b q last known (omega arith) (omega arith) types in
        let here = update_steps k zs ps f setting few v tk ins b env names x op T mask q p (home i (Some T) b env e) rest at is value (masked q (omega arith) (omega (arith, number))) number following in
        value_steps k zs ps f setting few v tk ins b env names e T mask b q last known (omega arith) (omega arith) types (λ r lo hi. masked r lo (omega (arith, hi, number))) (plain_casts L b last refl) here

    -- a break on one condition, whose items begin at b1 and which item u uses in the listing
    one_break_steps : (c : Term) (mask : Option ℕ) (b1 u p : ℕ) (rest : List Item) → KnownTruth k S b1 u c → b ≤ b1 → item_last_use k Z (b1 + term_size i c) ≡ 0 → b1 + term_size i c ≤ u → p ≡ b1 + term_size i c + 1 → AllTyped k (break_items S mask b1 env c rest) → IsMasked (layout_of_loop k zs ps) b1 p mask
        → FitsSteps (layout_of_loop k zs ps) f p rest → FitsSteps (layout_of_loop k zs ps) f b1 (break_items S mask b1 env c rest)
    one_break_steps c mask b1 u p rest known from value le number types masked following =
        let L = layout_of_loop k zs ps in
        let q = b1 + term_size i c in
        let last = item q mask (ops.Break (truth_home i b1 c)) ∷ rest in
        let truth : truth_last_use k q ≡ 0 = truth_none k q (truth_following k c S mask b1 env last types).0.truth in
        let used = truth_lasts k zs ps c b1 u q (truth_is k v tk ins c mask b1 u env last known types) (omega arith) le in
        let here = plain_step L f q p mask (ops.Break (truth_home i b1 c)) rest number (masked q (omega arith) (omega (arith, number))) (used, (omega (arith, value), omega (arith, truth))) (λ r next. refl) following in
        truth_steps k zs ps f setting few v tk ins b env names c mask b1 u last known from types (λ r lo hi. masked r lo (omega (arith, hi, number))) here

    -- a number before that of the first item makes no condition where none stands there
    before_of_fits_steps : (l : Layout) (p r : ℕ) (items : List Item) → r < p → FitsSteps l f p items → IsBefore r items
    before_of_fits_steps l p r [] lt h = tt
    before_of_fits_steps l p r (it ∷ items) lt h = let a = h.0 in omega (arith, a, lt)

    leave_steps : (c : Term) (mask : Option ℕ) (b1 u p : ℕ) (rest : List Item) → KnownTruth k S b1 u c → b ≤ b1 → item_last_use k Z (b1 + term_size i c) ≡ 0 → b1 + term_size i c ≤ u → p ≡ b1 + term_size i c + 1 → AllTyped k (leave_items S mask b1 env c rest) → IsMasked (layout_of_loop k zs ps) b1 p mask
        → FitsSteps (layout_of_loop k zs ps) f p rest → FitsSteps (layout_of_loop k zs ps) f b1 (leave_items S mask b1 env c rest)
    leave_steps (Either x y) mask b1 u p rest known from value le number types masked following =
        let L = layout_of_loop k zs ps in
        let mark = b1 + term_size i x in let q = mark + 1 + term_size i y in
        let second = break_items S mask (mark + 1) env y rest in
        let typed : AllTyped k second = leave_following k x S mask b1 env second types in
        let quit = (truth_following k y S mask (mark + 1) env (item q mask (ops.Break (truth_home i (mark + 1) y)) ∷ rest) typed).0 in
        let same : b1 + term_size i (Either x y) ≡ q + 1 = omega arith in
        let past : item_last_use k Z (q + 1) ≡ 0 = ap (item_last_use k Z) (sym same) ∙ value in
        let truth : truth_last_use k (q + 1) ≡ 0 = truth_none k (q + 1) (quit.gap (q + 1) (omega arith) (before_of_fits_steps L p (q + 1) rest (omega (arith, number)) following)) in
        let later : FitsSteps L f (q + 1) rest = skip L f (q + 1) rest (omega (arith, past), omega (arith, truth)) (fits_steps_at_equal_place L f p (q + 1 + 1) rest (omega (arith, number)) following) in
        let steps = one_break_steps y mask (mark + 1) q (q + 1) rest known.2 (omega (arith, from)) known.3.known.gives.value_last_use (omega arith) refl typed (λ r lo hi. masked r (omega (arith, lo)) (omega (arith, hi, number))) later in
        leave_steps x mask b1 q (mark + 1) second known.0 from known.1.known.gives.value_last_use (omega arith) refl types (λ r lo hi. masked r lo (omega (arith, hi, number))) steps
    leave_steps c mask b1 u p rest known from value le number types masked following = one_break_steps c mask b1 u p rest known from value le number types masked following

  -- ---- statements and blocks

  mutual
    action_steps : (a : Action) (v : List Local) (tk : List (List ℕ)) (ins : Bool) (env : List Bound) (mask : Option ℕ) (b g : ℕ) (rest : List Item) → Names k b v env → action_faults (scope v tk ins) g a ≡ [] → Part k (action_entries k b a) (action_types (scope v tk ins) a)
        → AllTyped k (action_items (scope v tk ins) mask b env a rest) → IsMasked (layout_of_loop k zs ps) b (b + action_size i a) mask → FitsSteps (layout_of_loop k zs ps) f (b + action_size i a) rest → FitsSteps (layout_of_loop k zs ps) f b (action_items (scope v tk ins) mask b env a rest)
    action_steps (Define x t e) v tk ins env mask b g rest names none part types masked following =
        let S = scope v tk ins in
        let q = b + term_size i e in
        let want = first t (own S e) in
        let w = untyped_some (g + term_size i e) want (nil-right (twice (g + term_size i e) S x) _ (nil-right (faults S g (Value want) e) _ none)) in
        let m = term_matches k e S (Value want) b q refl in
        let at = known_at_head k q (IsLet x) q [] want [] (part_right k (term_entries k b q e) _ _ _ m part) in
        let_steps v tk ins b env names x e mask g (b + action_size i (Define x t e)) rest want w.0 w.1 (nil-left (faults S g (Value want) e) _ none) (part_left k (term_entries k b q e) _ _ _ m part) at (omega arith) types masked following
    action_steps (Put a j e) v tk ins env mask b g rest names none part types masked following =
        let S = scope v tk ins in
        let q = b + term_size i e in
        let n = g + term_size i e in
        let want = array_type S a in
        let none2 = nil-right (faults S g (Value want) e) _ none in
        let w = target_some n (lookup S a) (nil-left (target_faults n (lookup S a)) _ none2) in
        let m = term_matches k e S (Value want) b q refl in
        let at = known_at_head k q (IsStore a j) q [] None [] (part_right k (term_entries k b q e) _ _ _ m part) in
        let stream = is_stream i j (stream_some n (stream_offset i j) (nil-right (target_faults n (lookup S a)) _ none2)) at.known.near in
        put_steps v tk ins b env names a j e mask g (b + action_size i (Put a j e)) rest want w.0 refl w.1 stream (nil-left (faults S g (Value want) e) _ none) (part_left k (term_entries k b q e) _ _ _ m part) at (omega arith) types masked following
    action_steps (Update x op e) v tk ins env mask b g rest names none part types masked following =
        let S = scope v tk ins in
        let q = b + term_size i e in
        let want = accumulator_of S x in
        let w = update_some (g + term_size i e) (lookup S x) (nil-right (faults S g (Value want) e) _ none) in
        let m = term_matches k e S (Value want) b q refl in
        let at = known_at_head k q (IsUpdate x op) q [] None [] (part_right k (term_entries k b q e) _ _ _ m part) in
        add_steps v tk ins b env names x op e mask g (b + action_size i (Update x op e)) rest want w.0 refl w.1 (nil-left (faults S g (Value want) e) _ none) (part_left k (term_entries k b q e) _ _ _ m part) at (omega arith) types masked following
    action_steps (Choose c t d) v tk ins env mask b g rest names none part types masked following =
        let L = layout_of_loop k zs ps in
        let S = scope v tk ins in
        let S2 = left S (after_block S t) in
        let then = b + term_size i c in
        let inner = then + 1 in
        let second = inner + block_size i t in
        let end = second + otherwise_size i d in
        let picked = truth_home i b c in
        let m = term_matches k c S Condition b second refl in
        let part2 = part_right k (term_entries k b second c) _ _ _ m part in
        let part3 = part_following k _ _ None _ part2 in
        let at_then = known_at_head k then (IsPlain kind.Then) then _ None _ part2 in
        let mt = block_matches k t S inner refl in
        let part4 = part_right k (block_entries k inner t) _ _ _ mt part3 in
        let md = otherwise_matches k d S2 second end refl in
        let at_end = known_at_head k end (IsPlain kind.End) end [] None [] (part_right k (otherwise_entries k second end d) _ _ _ md part4) in
        let none2 = nil-right (faults S g Condition c) _ none in
        let known = truth_known k v tk ins c g b second (nil-left (faults S g Condition c) _ none) (part_left k (term_entries k b second c) _ _ _ m part) in
        let last = otherwise_items S2 mask second picked env d rest in
        let middle = block_items S (Some picked) inner env t last in
        let is = truth_is k v tk ins c mask b second env middle known types in
        let types2 = truth_following k c S mask b env middle types in
        let types3 = block_following k t S (Some picked) inner env last types2 in
        let following2 = skip L f end rest (nothing_made k zs ps f setting few end at_end.known.gives.value_last_use at_end.known.gives.truth_last_use) (fits_steps_at_equal_place L f (b + action_size i (Choose c t d)) (end + 1) rest (omega arith) following) in
        let steps3 =
        otherwise_steps d v (after_block S t).taken ins env mask second picked (g + term_size i c + 1 + block_size i t) end rest (names_later k b second v env (omega arith) names) (nil-right (block_faults S (g + term_size i c + 1) t) _ none2) (part_left k (otherwise_entries k second end d) _ _ _ md part4) types3
        (truth_lasts k zs ps c b second second is (omega arith) (omega arith)) (λ r lo hi. masked r (omega (arith, lo)) (omega (arith, hi))) refl following2 in
        let steps2 =
        block_steps t v tk ins env (Some picked) inner (g + term_size i c + 1) last (names_later k b inner v env (omega arith) names) (nil-left (block_faults S (g + term_size i c + 1) t) _ none2) (part_left k (block_entries k inner t) _ _ _ mt part3) types2
        (λ r lo hi. truth_lasts k zs ps c b second r is (omega (arith, lo)) (omega (arith, hi))) steps3 in
        truth_steps k zs ps f setting few v tk ins b env names c mask b second middle known (omega arith) types (λ r lo hi. masked r lo (omega (arith, hi))) (skip L f then middle (nothing_made k zs ps f setting few then at_then.known.gives.value_last_use at_then.known.gives.truth_last_use) steps2)
    action_steps (Leave c) v tk ins env mask b g rest names none part types masked following =
        let q = b + term_size i c in
        let m = term_matches k c (scope v tk ins) Condition b q refl in
        let known = truth_known k v tk ins c g b q none (part_left k (term_entries k b q c) _ _ _ m part) in
        let at = known_at_head k q (IsPlain kind.Break) q [] None [] (part_right k (term_entries k b q c) _ _ _ m part) in
        leave_steps v tk ins b env names c mask b q (b + action_size i (Leave c)) rest known (omega arith) at.known.gives.value_last_use (omega arith) (omega arith) types masked following

    pub block_steps : (t : Block) (v : List Local) (tk : List (List ℕ)) (ins : Bool) (env : List Bound) (mask : Option ℕ) (b g : ℕ) (rest : List Item) → Names k b v env → block_faults (scope v tk ins) g t ≡ [] → Part k (block_entries k b t) (block_types (scope v tk ins) t) → AllTyped k (block_items (scope v tk ins) mask b env t rest)
        → IsMasked (layout_of_loop k zs ps) b (b + block_size i t) mask → FitsSteps (layout_of_loop k zs ps) f (b + block_size i t) rest → FitsSteps (layout_of_loop k zs ps) f b (block_items (scope v tk ins) mask b env t rest)
    block_steps Done v tk ins env mask b g rest names none part types masked following = fits_steps_at_equal_place (layout_of_loop k zs ps) f (b + 0) b rest (omega arith) following
    block_steps (Then a t) v tk ins env mask b g rest names none part types masked following =
        let L = layout_of_loop k zs ps in
        let S = scope v tk ins in
        let next = b + action_size i a in
        let more = block_items (after_action S a) mask next (after_env S b env a) t rest in
        let m = action_matches k a S b refl in
        let part_a = part_left k (action_entries k b a) _ _ _ m part in
        let part_t = part_right k (action_entries k b a) _ _ _ m part in
        let none_a = nil-left (action_faults S g a) _ none in
        let none_t = nil-right (action_faults S g a) _ none in
        let n = names_after a v tk ins env mask b g more names none_a part_a types in
        let S2 = scope n.visible n.taken ins in
        let types_t : AllTyped k (block_items S2 mask next n.env' t rest) = subst (λ e. AllTyped k (block_items S2 mask next e t rest)) n.env_is (subst (λ s. AllTyped k (block_items s mask next (after_env S b env a) t rest)) n.scope_is (action_following k a S mask b env more types)) in
        let steps_t =
        block_steps t n.visible n.taken ins n.env' mask next (g + action_size i a) rest n.names (subst (λ s. block_faults s (g + action_size i a) t ≡ []) n.scope_is none_t) (subst (λ s. Part k (block_entries k next t) (block_types s t)) n.scope_is part_t) types_t (λ r lo hi. masked r (omega (arith, lo)) (omega (arith, hi)))
        (fits_steps_at_equal_place L f (b + block_size i (Then a t)) (next + block_size i t) rest (omega arith) following) in
        let following_a : FitsSteps L f next more = subst (λ s. FitsSteps L f next (block_items s mask next (after_env S b env a) t rest)) (sym n.scope_is) (subst (λ e. FitsSteps L f next (block_items S2 mask next e t rest)) (sym n.env_is) steps_t) in
        action_steps a v tk ins env mask b g more names none_a part_a types (λ r lo hi. masked r lo (omega (arith, hi))) following_a

    otherwise_steps : (d : Otherwise) (v : List Local) (tk : List (List ℕ)) (ins : Bool) (env : List Bound) (mask : Option ℕ) (b c g end : ℕ) (rest : List Item) → Names k b v env → otherwise_faults (scope v tk ins) g d ≡ [] → Part k (otherwise_entries k b end d) (otherwise_types (scope v tk ins) d)
        → AllTyped k (otherwise_items (scope v tk ins) mask b c env d rest) → FitsTruth (layout_of_loop k zs ps) b c → IsMasked (layout_of_loop k zs ps) b (b + otherwise_size i d) mask → end ≡ b + otherwise_size i d → FitsSteps (layout_of_loop k zs ps) f end rest
        → FitsSteps (layout_of_loop k zs ps) f b (otherwise_items (scope v tk ins) mask b c env d rest)
    otherwise_steps Nothing v tk ins env mask b c g end rest names none part types picked masked number following = fits_steps_at_equal_place (layout_of_loop k zs ps) f end b rest (omega (arith, number)) following
    otherwise_steps (Else t) v tk ins env mask b c g end rest names none part types picked masked number following =
        let L = layout_of_loop k zs ps in
        let S = scope v tk ins in
        let at = known_at_head k b (IsPlain kind.Else) end _ None _ part in
        let last_use : truth_last_use k b ≡ end = truth_same k b types.0.truth ∙ at.known.gives.truth_last_use in
        let later = block_items S (Some b) (b + 1) env t rest in
        let steps_t =
        block_steps t v tk ins env (Some b) (b + 1) (g + 1) rest (names_later k b (b + 1) v env (omega arith) names) none (part_following k _ _ None _ part) types.1 (λ r lo hi. (omega (arith, lo), omega (arith, hi, last_use, number)))
        (fits_steps_at_equal_place L f end (b + 1 + block_size i t) rest (omega (arith, number)) following) in
        plain_step L f b (b + 1) mask (ops.Not c) later refl (masked b (omega arith) (omega arith)) (picked, truth_makes k zs ps f setting few b at.known.gives.value_last_use) (λ r next. refl) steps_t
