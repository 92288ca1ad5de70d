-- The steps of the region one after another.
use Rattle.std.proofs.Common.{◌≡◌, ℕ, ◌+◌, ◌*◌, ◌%◌, ◌^◌, ◌<◌, ◌≤◌, ℤ, pos, ◌+ℤ◌, false, not, ◌&&◌, ◌||◌, List, [], ◌∷◌, ◌++◌, length, Option, Some, None, inl, inr, refl, sym, ap, ap₂, ◌∙◌, subst, arith, ⊎_elim, get_or-set_same}
use Rattle.std.specs.Prelude.{slice_index, slice_index_or}
use Rattle.std.proofs.lemmas.Bool.{cases_lt}
use Rattle.std.proofs.lemmas.List.{length-append}
use Rattle.guest_types.specs.declared.length.Width.{Width}
use Rattle.guest_types.specs.Length.{width_bits}
use Rattle.guest_types.specs.Elements.{active}
use Rattle.guest_types.specs.LaneMemory.{lane_address}
use Rattle.kernel_tree.specs.declared.ops.Ty.{Ty}
use Rattle.kernel_tree.specs.Wrap.{wrap, bits_of, log_bytes}
use Rattle.kernel_meaning.specs.Operators.{word, unary_value, binary_value, shift_value, compare_on}
use Rattle.kernel_meaning.specs.Eval.{Names, choose_value}
use Rattle.machine_model.specs.declared.outcome.StopKind.TheVariants.{Read}
use Rattle.machine_model.specs.Machine.{State, x_at, p_at}
use Rattle.label_fix.specs.DraftRun.{DraftEntry, Laid}
use Rattle.vector_order.specs.Orders.{Lane, Lanes}
use Rattle.loop_form.specs.declared.loop_item.Operand.TheVariants.{Constant, Outer, LoopIndex, Made}
use Rattle.loop_form.specs.LoopItems.{Op, Item, item}
use Rattle.loop_form.specs.LoopItems as ops
use Rattle.vector_order.specs.Operands.{nth_value, operand_value, on_mask}
use Rattle.lane_emit.specs.Right.{PRight, within}
use Rattle.lane_emit.specs.ItemCode.{mask_of, mask_register}
use Rattle.chunk_emit.specs.Registers.{Layout, IsValueUsed}
use Rattle.chunk_emit.specs.ChunkCode.{with_index, index_of, puts}
use Rattle.chunk_emit.specs.Chunk.{Setting, count_of, Holds}
use Rattle.chunk_emit.specs.Fits.{Assigned, FitsMask, IsNear, MakesValue, following_items}
use Rattle.chunk_emit.specs.StopPlaces.{ComesTo, OneComesTo}
use Rattle.chunk_emit.proofs.StopsAt.{stop_at_more, stop_at_following, stop_at_near}
use Rattle.chunk_emit.proofs.Indexes.{scratched, lane_place}
use Rattle.chunk_emit.proofs.LoadForms.{is_form}
use Rattle.first_fault.specs.Region.{Way, On, Broke, Fell, way_on, item_way, region_way}
use Rattle.first_fault.specs.RegionCode.{Mode, Early, Single, narrow_words, load_words, step_words, region_words}
use Rattle.first_fault.specs.Fits.{FitsStep, FitsRegion}
use Rattle.label_fix.specs.Stretches.{Leads}
use Rattle.first_fault.specs.Prefix.{Inside}
use Rattle.first_fault.specs.SuppressedLanes.{SuppressedOn}
use Rattle.first_fault.specs.RegionRuns.{Why, by_break, by_fault, by_stop, RegionOutcome, stops, comes}
use Rattle.first_fault.proofs.Stretches.{rest_at, word_leads, follow, follow-cut, suppressed_first, suppressed_second}
use Rattle.first_fault.proofs.PrefixSteps.{prefix, inside_later, operand_right}
use Rattle.first_fault.proofs.PureSteps.{narrowed, value_steps, truth_steps}
use Rattle.first_fault.proofs.BreakSteps.{break_steps}
use Rattle.first_fault.proofs.ReadLanes.{x_is, inside_scratch, indexed, from_address}
use Rattle.first_fault.proofs.SingleReads.{single_reads}
use Rattle.first_fault.proofs.EarlyReads.{masked_reads, top_reads}
use Rattle.chunk_emit.proofs.ItemRuns.{puts-append}

-- ---- stretches in sequence

weaken : {mode : Mode} {w : Width} {x y : Way} {d : Laid} {c e h j : List DraftEntry} {s t u v : State} {m n lane : ℕ} {a : Leads d c s e t m} {b : Leads d h u j v n} → (x ≡ Broke → y ≡ Broke) → (x ≡ Fell → y ≡ Fell) → a.cut ≤ b.cut → (SuppressedOn w a lane → SuppressedOn w b lane) → Why mode w x a lane → Why mode w y b lane
weaken f g le on (by_break e) = by_break (f e)
weaken f g le on (by_fault early e) = by_fault early (g e)
weaken f g le on (by_stop early lt here) = by_stop early (omega (arith, lt, le)) (on here)

-- words after which the lanes are as before
pub outcome_following : {mode : Mode} {l : Layout} {f : Setting} {d : Laid} {a : State} {n q m k : ℕ} {ls : ℕ → Lane} {code mid rest : List DraftEntry} {s u : State} {way : ℕ → Lane → Way} {near : ℕ → Type 0} (most : ℕ) → most ≡ m + k → Leads d code s mid u m → RegionOutcome mode l f d a n q k ls mid u rest way near → RegionOutcome mode l f d a n q most ls code s rest way near
outcome_following most total leads (stops some fell st) = stops some fell (stop_at_following most (omega (arith, total)) leads st)
outcome_following {m = m} {k = k} most total leads (comes c new end le pass on why inside) =
    let both : m + k ≤ most = omega (arith, total) in
    let cut = follow-cut most both leads on in
    comes c new end le pass (follow most both leads on) (λ lt. weaken (λ e. e) (λ e. e) (omega (arith, cut)) (suppressed_second most both leads on) (why lt)) inside

-- a stop at an address of which something else holds
outcome_near : {mode : Mode} {l : Layout} {f : Setting} {d : Laid} {a : State} {n q most : ℕ} {ls : ℕ → Lane} {code rest : List DraftEntry} {s : State} {way : ℕ → Lane → Way} {near other : ℕ → Type 0} → ((at : ℕ) → near at → other at) → RegionOutcome mode l f d a n q most ls code s rest way near → RegionOutcome mode l f d a n q most ls code s rest way other
outcome_near more (stops some fell st) = stops some fell (stop_at_near more st)
outcome_near more (comes c new end le pass leads why inside) = comes c new end le pass leads why inside

outcome_then : {mode : Mode} {l : Layout} {f : Setting} {d : Laid} {a : State} {n p q m k : ℕ} {ls : ℕ → Lane} {s : State} {code mid rest : List DraftEntry} {near : ℕ → Type 0} (most : ℕ) (g h : ℕ → Lane → Way) → most ≡ m + k → RegionOutcome mode l f d a n p m ls code s mid g near
    → ((c : ℕ) (new : ℕ → Lane) (u : State) → c ≤ n → Inside mode l f a c p new u → RegionOutcome mode l f d a c q k new mid u rest h near) → RegionOutcome mode l f d a n q most ls code s rest (λ j b. way_on (g j b) (h j)) near
outcome_then {f = f} {ls = ls} most g h total (stops some fell st) more = stops some (ap (λ w. way_on w (h f.i)) fell) (stop_at_more most (omega (arith, total)) st)
outcome_then {mode = mode} {l = l} {f = f} {d = d} {a = a} {n = n} {q = q} {m = m} {k = k} {ls = ls} {s = s} {code = code} {mid = mid} {rest = rest} {near = near} most g h total (comes c new u le pass leads why inside) more = by_second (more c new u le inside)
  where
    by_second : RegionOutcome mode l f d a c q k new mid u rest h near → RegionOutcome mode l f d a n q most ls code s rest (λ j b. way_on (g j b) (h j)) near
    by_second (stops some fell st) =
        let e : f.i + 0 ≡ f.i = omega arith in
        stops (omega (arith, some, le)) (ap (λ w. way_on w (h f.i)) (subst (λ j. g j (ls j) ≡ On (new j)) e (pass 0 some)) ∙ fell) (stop_at_following most (omega (arith, total)) leads st)
    by_second (comes c2 new2 u2 le2 pass2 leads2 why2 inside2) =
        let both : m + k ≤ most = omega (arith, total) in
        let cut = follow-cut most both leads leads2 in
        comes c2 new2 u2 (omega (arith, le, le2)) (λ e lt. ap (λ w. way_on w (h (f.i + e))) (pass e (omega (arith, lt, le2))) ∙ pass2 e lt) (follow most both leads leads2)
        (λ lt. ⊎_elim
        (λ less. let same = ap (λ w. way_on w (h (f.i + c2))) (pass c2 less) in weaken (λ e. same ∙ e) (λ e. same ∙ e) (omega (arith, cut)) (suppressed_second most both leads leads2) (why2 less))
        (λ ge. (let e : c ≡ c2 = omega (arith, ge, le2) in
        weaken (λ x. ap (λ w. way_on w (h (f.i + c2))) x) (λ x. ap (λ w. way_on w (h (f.i + c2))) x) (omega (arith, cut)) (suppressed_first most both leads leads2) (subst (λ c. Why mode f.w (g (f.i + c) (ls (f.i + c))) leads c) e (why (omega (arith, lt, e))))))
        (cases_lt c2 c))
        inside2

-- ---- one step

module _ {l : Layout} (fit : Assigned l) {f : Setting} {a : State} {p0 : ℕ} {t0 : Lanes} (h0 : Holds l f p0 t0 a) (d : Laid) (rest : List DraftEntry) where
  abbrev StepOutcome : (mode : Mode) (n p : ℕ) (ls : ℕ → Lane) (s : State) (mask : Option ℕ) → Op → Type 0
  StepOutcome mode n p ls s mask op = RegionOutcome mode l f d a n (p + 1) (length (step_words mode f.w l p mask op)) ls (puts (step_words mode f.w l p mask op) rest) s rest (λ j b. item_way f.names (item p mask op) j a.memory b) (ComesTo f.names op Read f.i)

  module _ (n p : ℕ) (ls : ℕ → Lane) (mask : Option ℕ) (array : List ℕ) (x : ℕ) (ty : Ty) (c : ℤ) (low : x < 8) (based : slice_index f.x x ≡ word (nth_value f.names x)) (near : IsNear c) (wide : bits_of ty ≤ width_bits f.w) (used : IsValueUsed l p) (makes : MakesValue l p ty) where
    -- the load, after the words that make its index
    abbrev LoadOutcome : Mode → State → Type 0
    LoadOutcome mode u =
        RegionOutcome mode l f d a n (p + 1) (length (load_words mode f.w l p mask ty x (index_of c))) ls (puts (load_words mode f.w l p mask ty x (index_of c)) rest) u rest (λ j b. item_way f.names (item p mask (ops.Load array (Outer x) (Some ty) c)) j a.memory b) (ComesTo f.names (ops.Load array (Outer x) (Some ty) c) Read f.i)

    following_index : (mode : Mode) {s : State} → FitsMask l p mask → Inside mode l f a n p ls s
        → ((u : State) → Inside mode l f a n p ls u → PRight f.w (count_of f) (p_at u (mask_register l.registers mask)) (within n (mask_of (prefix f a n ls) mask)) → x_at u (index_of c) ≡ word (pos f.i +ℤ c) → LoadOutcome mode u)
        → StepOutcome mode n p ls s mask (ops.Load array (Outer x) (Some ty) c)
    following_index mode fm h loads =
        let inner = load_words mode f.w l p mask ty x (index_of c) in
        let nar = narrowed fit h0 d mask (with_index c inner) rest fm h in
        let ix = indexed fit h0 d rest c inner near nar.inside in
        outcome_following (length (narrow_words l mask (with_index c inner))) nar.counted nar.leads
        (outcome_following (length (with_index c inner)) ix.counted ix.leads
        (loads ix.state ix.inside (λ e lt. ap (λ ps. active f.w (slice_index_or ps (mask_register l.registers mask) []) e) ix.truths ∙ nar.exact e lt) ix.place))

  read_steps : (mode : Mode) {n p : ℕ} {ls : ℕ → Lane} {s : State} (mask : Option ℕ) (array : List ℕ) (x : ℕ) (ty : Ty) (c : ℤ) (low : x < 8) (based : slice_index f.x x ≡ word (nth_value f.names x)) (near : IsNear c) (wide : bits_of ty ≤ width_bits f.w) (used : IsValueUsed l p) (makes : MakesValue l p ty) → FitsMask l p mask
      → Inside mode l f a n p ls s → StepOutcome mode n p ls s mask (ops.Load array (Outer x) (Some ty) c)
  read_steps Early {n = n} {p = p} {ls = ls} None array x ty c low based near wide used makes fm h =
      following_index n p ls None array x ty c low based near wide used makes Early fm h (λ u inside exact at_index. top_reads fit h0 p ls array x ty c wide makes used d rest inside exact low based (index_of c) at_index)
  read_steps Single {n = n} {p = p} {ls = ls} mask array x ty c low based near wide used makes fm h =
      following_index n p ls mask array x ty c low based near wide used makes Single fm h (λ u inside exact at_index. single_reads fit h0 p ls mask array x ty c wide makes used d rest inside exact low based (index_of c) at_index)
  read_steps Early {n = n} {p = p} {ls = ls} (Some q) array x ty c low based near wide used makes fm h =
      following_index n p ls (Some q) array x ty c low based near wide used makes Early fm h (λ u inside exact at_index.
      let v = (x_at u x + x_at u (index_of c) * 2 ^ log_bytes ty % 2 ^ 64) % 2 ^ 64 in
      let scratch : x_at (scratched u v) 26 ≡ v = get_or-set_same u.x 26 v 0 (omega (arith, inside.is.x_count)) in
      let base_x : x_at u x ≡ word (nth_value f.names x) = x_is fit h0 inside x (λ e. absurd (omega (arith, low, e))) ∙ based in
      outcome_following 3 refl (word_leads false refl refl)
      (masked_reads fit h0 p ls (Some q) array x ty c wide makes used d rest (inside_scratch fit h0 v (omega arith) inside) exact
      (λ e.
      ap₂ (λ b k. lane_address b 0 k e) scratch (is_form ty f.w wide).memory
      ∙ from_address ty (x_at u x) (x_at u (index_of c)) e
      ∙ lane_place ty (nth_value f.names x) c f.i e (x_at u x) (x_at u (index_of c)) base_x at_index)))

  op_steps : (mode : Mode) {n p : ℕ} {ls : ℕ → Lane} {s : State} (mask : Option ℕ) → FitsMask l p mask → Inside mode l f a n p ls s → (op : Op) → FitsStep l f p mask op → StepOutcome mode n p ls s mask op
  op_steps mode mask fm h (ops.Load array (Outer x) (Some ty) c) k = read_steps mode mask array x ty c k.0.0 k.0.1 k.1 k.2 k.3 k.4 fm h
  op_steps mode mask fm h (ops.Load array (Constant u z) (Some ty) c) k = absurd k.0
  op_steps mode mask fm h (ops.Load array LoopIndex (Some ty) c) k = absurd k.0
  op_steps mode mask fm h (ops.Load array (Made q) (Some ty) c) k = absurd k.0
  op_steps mode mask fm h (ops.Load array base None c) k = absurd k
  op_steps mode mask fm h (ops.Gather array base t reach u x) k = absurd k
  op_steps mode mask fm h (ops.Unary op (Some ty) x) k =
      value_steps fit h0 d rest h mask fm (ops.Unary op (Some ty) x) (λ j b. unary_value op (Some ty) (operand_value f.names j b x)) ty refl refl k.1 (λ u i. operand_right fit h0 i ty x k.0) (λ j mem b. refl) refl
  op_steps mode mask fm h (ops.Unary op None x) k = absurd k
  op_steps mode mask fm h (ops.Binary op (Some ty) x y) k =
      value_steps fit h0 d rest h mask fm (ops.Binary op (Some ty) x y) (λ j b. binary_value op (Some ty) (operand_value f.names j b x) (operand_value f.names j b y)) ty refl refl k.2
      (λ u i. (operand_right fit h0 i ty x k.0, operand_right fit h0 i ty y k.1)) (λ j mem b. refl) refl
  op_steps mode mask fm h (ops.Binary op None x y) k = absurd k
  op_steps mode mask fm h (ops.Shift left n (Some ty) x) k =
      value_steps fit h0 d rest h mask fm (ops.Shift left n (Some ty) x) (λ j b. shift_value left n (Some ty) (operand_value f.names j b x)) ty refl refl k.2 (λ u i. (operand_right fit h0 i ty x k.0, k.1)) (λ j mem b. refl) refl
  op_steps mode mask fm h (ops.Shift left n None x) k = absurd k
  op_steps mode mask fm h (ops.Cast (Some own) ty x) k =
      value_steps fit h0 d rest h mask fm (ops.Cast (Some own) ty x) (λ j b. wrap ty (operand_value f.names j b x)) ty refl refl k.2 (λ u i. (operand_right fit h0 i own x k.0, k.1)) (λ j mem b. refl) refl
  op_steps mode mask fm h (ops.Cast None ty x) k = absurd k
  op_steps mode mask fm h (ops.Let (Some ty) x) k = value_steps fit h0 d rest h mask fm (ops.Let (Some ty) x) (λ j b. operand_value f.names j b x) ty refl refl k.1 (λ u i. operand_right fit h0 i ty x k.0) (λ j mem b. refl) refl
  op_steps mode mask fm h (ops.Let None x) k = absurd k
  op_steps mode mask fm h (ops.Select (Some ty) c x y) k =
      value_steps fit h0 d rest h mask fm (ops.Select (Some ty) c x y) (λ j b. choose_value (b.truth c) (operand_value f.names j b x) (operand_value f.names j b y)) ty refl refl k.3
      (λ u i. (i.truths c k.0.0 k.0.1, operand_right fit h0 i ty x k.1, operand_right fit h0 i ty y k.2)) (λ j mem b. refl) refl
  op_steps mode mask fm h (ops.Select None c x y) k = absurd k
  op_steps mode mask fm h (ops.Store array base t c v) k = absurd k
  op_steps mode mask fm h (ops.Update x op t v) k = absurd k
  op_steps mode mask fm h (ops.Compare op (Some ty) x y) k =
      truth_steps fit h0 d rest h mask fm (ops.Compare op (Some ty) x y) (λ j b. on_mask mask b && compare_on op (operand_value f.names j b x) (operand_value f.names j b y)) refl k.2
      (λ u i. (operand_right fit h0 i ty x k.0, operand_right fit h0 i ty y k.1)) (λ j mem b. refl) refl
  op_steps mode mask fm h (ops.Compare op None x y) k = absurd k
  op_steps mode mask fm h (ops.Not c) k = truth_steps fit h0 d rest h mask fm (ops.Not c) (λ j b. on_mask mask b && not (b.truth c)) refl k.1 (λ u i. i.truths c k.0.0 k.0.1) (λ j mem b. refl) refl
  op_steps mode mask fm h (ops.And c) k = truth_steps fit h0 d rest h mask fm (ops.And c) (λ j b. on_mask mask b && b.truth c) refl k.1 (λ u i. i.truths c k.0.0 k.0.1) (λ j mem b. refl) refl
  op_steps mode mask fm h (ops.Or b c) k =
      truth_steps fit h0 d rest h mask fm (ops.Or b c) (λ j e. on_mask mask e && (e.truth b || e.truth c)) refl k.2 (λ u i. (i.truths b k.0.0 k.0.1, i.truths c k.1.0 k.1.1)) (λ j mem b. refl) refl
  op_steps mode None fm h (ops.Break c) k = break_steps fit h0 d rest h c k.1 k.2
  op_steps mode (Some q) fm h (ops.Break c) k = absurd (some_none k.0)
    where
      some_none : {q : ℕ} → Some q ≡ None → ⊥
      some_none eq = subst (λ o. elim o as (λ _. Type 0) [ None ↦ ⊥ | Some _ ↦ Unit {0} ]) eq tt

-- ---- the region

first_comes : (names : Names) (it : Item) (items : List Item) (j at : ℕ) → ComesTo names it.op Read j at → OneComesTo names (it ∷ items) Read j at
first_comes names it items j at h = inl h

later_comes : (names : Names) (it : Item) (items : List Item) (j at : ℕ) → OneComesTo names items Read j at → OneComesTo names (it ∷ items) Read j at
later_comes names it items j at h = inr h

module _ {l : Layout} (fit : Assigned l) {f : Setting} {a : State} {p0 : ℕ} {t0 : Lanes} (h0 : Holds l f p0 t0 a) (d : Laid) (rest : List DraftEntry) (mode : Mode) where
  pub region_runs : (items : List Item) {n p : ℕ} {ls : ℕ → Lane} {s : State} → FitsRegion l f p items → Inside mode l f a n p ls s
      → RegionOutcome mode l f d a n (following_items p items) (length (region_words mode f.w l items)) ls (puts (region_words mode f.w l items) rest) s rest (λ j. region_way f.names items j a.memory) (OneComesTo f.names items Read f.i)
  region_runs [] {n = n} {ls = ls} {s = s} k h = comes n ls s (omega arith) (λ e lt. refl) (rest_at 0) (λ lt. absurd (omega (arith, lt))) h
  region_runs (it ∷ items) {n = n} {p = p} {ls = ls} {s = s} k h =
      let words = step_words mode f.w l it.item it.mask it.op in
      let more = region_words mode f.w l items in
      let here = outcome_near (first_comes f.names it items f.i) (op_steps fit h0 d (puts more rest) mode it.mask k.2 (inside_later fit h0 h it.item k.0 k.1) it.op k.3) in
      subst (λ es. RegionOutcome mode l f d a n (following_items p (it ∷ items)) (length (words ++ more)) ls es s rest (λ j. region_way f.names (it ∷ items) j a.memory) (OneComesTo f.names (it ∷ items) Read f.i)) (sym (puts-append words more rest))
      (outcome_then (length (words ++ more)) (λ j b. item_way f.names it j a.memory b) (λ j. region_way f.names items j a.memory) (length-append words more) here (λ c new u le inside. outcome_near (later_comes f.names it items f.i) (region_runs items k.4 inside)))
