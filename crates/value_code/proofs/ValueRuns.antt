-- What the code of expressions does.
use Rattle.std.proofs.Common.{◌≡◌, ◌≢◌, ℕ, ◌+◌, ◌*◌, ◌%◌, ◌^◌, ◌<◌, ◌≤◌, ◌&&◌, ◌||◌, Bool, true, false, List, [], ◌∷◌, length, Option, Some, None, refl, sym, ap, ap₂, ◌∙◌, subst, arith}
use Rattle.std.specs.Prelude.{ℤ, ◌+ℤ◌, ◌*ℤ◌, option_map, option_and_then, not, if◌then◌else◌}
use Rattle.std.proofs.lemmas.Bool.{and_parts}
use Rattle.guest_types.specs.Memory.{Memory}
use Rattle.machine_model.specs.Machine.{State, x_at, jump}
use Rattle.machine_model.specs.declared.outcome.StopKind.TheVariants.{Read}
use Rattle.machine_model.specs.Arithmetic.{shifted_word, holds as flags_hold}
use Rattle.kernel_tree.specs.declared.ops.CompareOp.{CompareOp}
use Rattle.kernel_tree.specs.declared.ops.Ty.{Ty}
use Rattle.kernel_tree.specs.declared.ops.BinaryOp.{BinaryOp}
use Rattle.kernel_tree.specs.Plain.{Term, Literal, Variable, Element, Unary, Operation, Shift, Conversion, Choice, Comparison, Both, Either, Not}
use Rattle.kernel_tree.specs.Items.{term_size, index_size, stream_offset}
use Rattle.kernel_tree.specs.Wrap.{wrap, is_signed}
use Rattle.kernel_tree.specs.Typing.{Scope, Local, lookup, own, first, element_type, index_type, side_type}
use Rattle.kernel_meaning.specs.Operators.{word, binary_on, compare_on, shift_on, shift_count}
use Rattle.kernel_meaning.specs.TypeValues.{IsOf, binary_leaves}
use Rattle.kernel_meaning.proofs.Residues.{word-mul}
use Rattle.kernel_meaning.specs.Eval.{Names, value_at, iteration, element_number, read_element, on_both, chosen, choose_value, value, holds}
use Rattle.a64_code.specs.Table.{csel}
use Rattle.label_fix.specs.DraftRun.{DraftEntry, Put, Branch, Place, Always, Laid, following, address_of, word_of, ins}
use Rattle.label_fix.proofs.StretchSteps.{Goes, Stops, Resolves, stay, chain, go_more, put_goes, stop_after, stop_more, taken_goes, pass}
use Rattle.value_code.specs.HeldNumbers.{element_words, coded_words}
use Rattle.value_code.proofs.WholeNames.{name_less, index_is, whole_at, computed_covers}
use Rattle.value_code.proofs.Together.{together_read}
use Rattle.value_code.proofs.Places.{some_words, element_with, placed_runs}
use Rattle.value_code.proofs.Literals.{literal_high, literal_apart, literal_runs}
use Rattle.value_code.proofs.Comparisons.{IsSide, compare_goes}
use Rattle.value_code.proofs.Numbers.{compared_right, compared_small, added_right}
pub use Rattle.value_code.proofs.Jumps.{kept_jump, led, Turned, Turns, no_turn, turns, branch_goes, both_turn, over_turn, turns_more, not_turns}
use Rattle.scalar_words.proofs.Compare.{compared}
use Rattle.scalar_words.specs.Layout.{OfNumber, Loose, loose_in, Layout, Homes, reg_of, constant_at, IsMade, register_at, NameLasts}
use Rattle.value_code.specs.ValueRegisters.{home}
use Rattle.value_code.specs.ItemWords.{Side, Number, Register, Product, Moved, shift_kind, load_code, operator_code, index_word, index_register, convert_word, compare_word, pick_code}
use Rattle.scalar_words.specs.Words.{word_code, copy_word, condition, at_type}
use Rattle.value_code.specs.Code.{labels, number_code, number_register, place_of, signed_side, compared_number, added_number, takes_product, takes_shift, stays, is_fused, part_side, side_by, right_side, side_code, is_led, parts_code, right_code, flag_condition, choice_code, loose_code, value_code, flags_code, jump_code}
use Rattle.value_code.specs.Fits.{Fits, FitsTruth, FitsIndex, IndexAt, IsSome}
use Rattle.value_code.specs.Covers.{is_whole, index_covers, covers, covers_truth}
use Rattle.scalar_words.proofs.LayoutStates.{AreRanged, Assigned, Kept, AreSafe, Fixed, At, Told, wrote, wrote_same, kept_none, kept_more, kept_item, kept_changes, kept_on, kept_both, safe_later, name_held, name_found}
use Rattle.scalar_words.proofs.Told.{Standing, standing, standing_kept}
use Rattle.scalar_words.proofs.WordsRuns.{Gets, gets, more, copied_sets}
use Rattle.value_code.proofs.Loads.{Gives, no_value, a_value, load_runs, index_runs}
pub use Rattle.value_code.proofs.CodeBack.{operator_back, side_back, right_back, loose_back, parts_back, jump_back, value_back}
use Rattle.value_code.proofs.CodeBack.{pick_back}
use Rattle.value_code.proofs.Operators.{IsOperand, operation_runs, unary_runs, shift_runs, cast_runs}
pub use Rattle.value_code.proofs.Fused.{Sided, no_side, a_side, right_taken}
use Rattle.value_code.proofs.Fused.{Pairs, no_left, no_right, pair, and_false-never, settled_same, moved_same, part_taken, by_led, led_is, alone_code, on_both-turned, IsHigh, led_pairs, turned_runs}
use Rattle.value_code.proofs.Staying.{unary_keeps, binary_keeps, shift_keeps}
use Rattle.scalar_words.proofs.Words.{InRange, in_range}
use Rattle.value_code.specs.declared.extent.Extent.{Extent}
use Rattle.value_code.specs.Extents.{Whole, within_type, asked_extent, fits_at, converted_extent, settles}
use Rattle.value_code.specs.Leaving.{unary_may_leave, binary_may_leave, shift_may_leave, unary_asks, binary_asks, shift_asks, binary_settles, shift_settles}
use Rattle.value_code.proofs.Loose.{loose_binary, loose_unary, loose_shift, loose_cast, loose, whole_is}
use Rattle.value_code.proofs.Ranges.{value-range, fits_types}
use Rattle.kernel_tree.specs.declared.ops.Ty.TheVariants as ty
use Rattle.kernel_tree.specs.declared.ops.BinaryOp.TheVariants as binary

-- what the code of an expression does where a type is wanted of it
abbrev pub Runs : Laid → Layout → Term → Homes → Scope → Names → Memory → State → (b user n : ℕ) → List DraftEntry → Option Ty → Type 0
Runs D L e hs s names m st b user n rest want =
    Fits L hs s want b user e → Resolves D (value_code L hs s want b n e rest) → Gives D L (value_code L hs s want b n e rest) st rest b (b + term_size s.index e) (home L hs s.index b e) m (coded_words L.constants s.index e) (value s want e m names)

-- the same where so much is asked for, by what stands in the registers of names
abbrev pub LooseRuns : Laid → Layout → Term → Homes → Scope → (stand names : Names) → Memory → State → Extent → (b user n : ℕ) → List DraftEntry → Option Ty → Type 0
LooseRuns D L e hs s stand names m st w b user n rest want =
    Fits L hs s want b user e → Resolves D (loose_code L hs s w want b n e rest) → Gives D L (loose_code L hs s w want b n e rest) st rest b (b + term_size s.index e) (home L hs s.index b e) m (coded_words L.constants s.index e) (loose s w want e m stand names)

-- where the whole value is asked for, it is the value
exact : {D : Laid} {L : Layout} {st : State} {rest : List DraftEntry} (count : ℕ) (hs : Homes) (b user n : ℕ) (e : Term) (s : Scope) (stand names : Names) (m : Memory) (want : Option Ty) → AreRanged s.visible names → Told L.loose count stand names → covers L.loose s Whole want e ≡ true → LooseRuns D L e hs s stand names m st Whole b user n rest want → Runs D L e hs s names m st b user n rest want
exact {D = D} {L = L} {st = st} {rest = rest} count hs b user n e s stand names m want ranged told cov k fits res =
    subst (λ o. Gives D L (value_code L hs s want b n e rest) st rest b (b + term_size s.index e) (home L hs s.index b e) m (coded_words L.constants s.index e) o) (whole_is s m names ranged L.loose count stand told e want cov (fits_types e L hs s want b user fits)) (k fits res)

-- an operand of which the whole value is asked for is the value, and of its type
loose_value : (count : ℕ) (w : Extent) (L : Layout) (hs : Homes) (s : Scope) (stand names : Names) (m : Memory) (e : Term) (T : Ty) (b user : ℕ) (v : ℤ) → Fits L hs s (Some T) b user e → AreRanged s.visible names → Told L.loose count stand names → covers L.loose s w (Some T) e ≡ true → loose s w (Some T) e m stand names ≡ Some v → w ≡ Whole → value s (Some T) e m names ≡ Some v
loose_value count w L hs s stand names m e T b user v fits ranged told cov is whole =
    sym (whole_is s m names ranged L.loose count stand told e (Some T) (subst (λ w. covers L.loose s w (Some T) e ≡ true) whole cov) (fits_types e L hs s (Some T) b user fits)) ∙ subst (λ w. loose s w (Some T) e m stand names ≡ Some v) whole is

loose_range : (count : ℕ) (w : Extent) (L : Layout) (hs : Homes) (s : Scope) (stand names : Names) (m : Memory) (e : Term) (T : Ty) (b user : ℕ) (v : ℤ) → Fits L hs s (Some T) b user e → AreRanged s.visible names → Told L.loose count stand names → covers L.loose s w (Some T) e ≡ true → loose s w (Some T) e m stand names ≡ Some v → w ≡ Whole → IsOf T v
loose_range count w L hs s stand names m e T b user v fits ranged told cov is whole = value-range L hs s names m e T b user v fits ranged (loose_value count w L hs s stand names m e T b user v fits ranged told cov is whole)

-- an operator whose result is known to stay in the extended form
operator_keeps : (count : ℕ) (L : Layout) (user : ℕ) (x y : Term) (hs : Homes) (s : Scope) (stand names : Names) (m : Memory) (op : BinaryOp) (w : Extent) (T : Ty) (b : ℕ) (u v : ℤ) → AreRanged s.visible names → Told L.loose count stand names → (covers L.loose s w (Some T) x && covers L.loose s w (Some T) y) ≡ true → Fits L hs s (Some T) b user (Operation op x y) → loose s w (Some T) x m stand names ≡ Some u → loose s w (Some T) y m stand names ≡ Some v → w ≡ Whole → binary_may_leave s (Some T) op x y ≡ false
    → word (wrap T (binary_on op u v)) ≡ word (binary_on op u v)
operator_keeps count L user x y hs s stand names m op w T b u v ranged told cov h is js e out =
    let b1 = b + term_size s.index x in let c = b1 + term_size s.index y in
    let k = and_parts (covers L.loose s w (Some T) x) _ cov in
    binary_keeps s m names ranged T op x y u v (fits_types x L hs s (Some T) b c h.1) (fits_types y L hs s (Some T) b1 c h.2) (loose_value count w L hs s stand names m x T b c u h.1 ranged told k.0 is e) (loose_value count w L hs s stand names m y T b1 c v h.2 ranged told k.1 js e)
    (loose_range count w L hs s stand names m x T b c u h.1 ranged told k.0 is e) (loose_range count w L hs s stand names m y T b1 c v h.2 ranged told k.1 js e) out

covers_at : (ls : List Loose) (s : Scope) (w : Extent) (e : Term) (want : Option Ty) (T : Ty) → want ≡ Some T → covers ls s w want e ≡ true → covers ls s w (Some T) e ≡ true
covers_at ls s w e want T is h = subst (λ o. covers ls s w o e ≡ true) is h

first_some : (o : Option Ty) (t : Ty) → IsSome (first o (Some t))
first_some None t = tt
first_some (Some u) t = tt

index_some : (s : Scope) (i : Term) → IsSome (index_type s i)
index_some s i = first_some (own s i) ty.U64

pub give_more : (D : Laid) (L : Layout) {c rest : List DraftEntry} {s : State} {b e r m1 : ℕ} {m : Memory} {o : Option ℤ} (most : ℕ) → m1 ≤ most → Gives D L c s rest b e r m m1 o → Gives D L c s rest b e r m most o
give_more D L most le (no_value k) = no_value (stop_more most le k)
give_more D L most le (a_value k) = a_value (more D L most le k)

chosen_none : (o : Option ℤ) (c : Option Bool) → chosen None o c ≡ None
chosen_none o None = refl
chosen_none o (Some v) = refl

chosen_second : (x : ℤ) (c : Option Bool) → chosen (Some x) None c ≡ None
chosen_second x None = refl
chosen_second x (Some v) = refl

-- the flags of a comparison, or a fault of a read
data Flagged (D : Laid) (L : Layout) (c : List DraftEntry) (s : State) (rest : List DraftEntry) (b e k : ℕ) (m : Memory) (most : ℕ) : Option Bool → Type 0 where
  no_flags : Stops D c s Read m most → Flagged D L c s rest b e k m most None
  a_flag : {v : Bool} (end : State) → Goes D c s rest end most → Kept L s end b e → flags_hold k end.flags ≡ v → Flagged D L c s rest b e k m most (Some v)

bare_same : (low fit : Bool) (t : Ty) (x : ℤ) → (low || fit) ≡ true → x ≡ loose_cast low fit t x
bare_same true fit t x h = refl
bare_same false true t x h = refl
bare_same false false t x h = absurd cc

which : (v : Bool) (x y : ℤ) → (if v then word x else word y) ≡ word (choose_value v x y)
which true x y = refl
which false x y = refl

module _ (D : Laid) (L : Layout) (fit : Assigned L) where
  -- a right side, by whether a word holds it
  pub right_runs : (inner : List DraftEntry → List DraftEntry) {t : State} {rest : List DraftEntry} {b e r : ℕ} {m : Memory} {most : ℕ} (o : Option ℤ) (number : Option ℕ) → ((v : ℕ) → number ≡ Some v → (y : ℤ) × ((o ≡ Some y) × (v ≡ word y))) → Resolves D (right_code number inner rest)
      → (Resolves D (inner rest) → Gives D L (inner rest) t rest b e r m most o) → Sided D L (right_code number inner rest) t rest b e (IsSide number r) m most o
  right_runs inner {t = t} {rest = rest} {b = b} {e = e} {r = r} {m = m} {most = most} o None is res run = sided (run res)
    where
      sided : {o : Option ℤ} → Gives D L (inner rest) t rest b e r m most o → Sided D L (inner rest) t rest b e (IsSide None r) m most o
      sided (no_value g) = no_side g
      sided (a_value g) = a_side g.end g.goes g.kept g.value
  right_runs inner {t = t} {rest = rest} {b = b} {e = e} {r = r} {m = m} {most = most} o (Some v) is res run =
      let q = is v refl in
      subst (λ o. Sided D L rest t rest b e (IsSide (Some v) r) m most o) (sym q.1.0) (a_side t (stay most) (kept_none L t b e) q.1.1)

  -- what two operands give
  pair_runs : {c c2 d : List DraftEntry} {s : State} {m : Memory} {b b1 e hx m1 m2 : ℕ} {Q : State → ℤ → Type 0} {o1 o2 : Option ℤ} (most : ℕ) → m1 + m2 ≤ most → b ≤ b1 → b1 ≤ e → hx ≤ 25 → ((p : ℕ) → b1 ≤ p → p < e → IsMade L p → reg_of L p ≢ hx)
      → Gives D L c s c2 b b1 hx m m1 o1 → ((t : State) → Kept L s t b b1 → Sided D L c2 t d b1 e Q m m2 o2) → Pairs D L c s d b e hx Q m most o1 o2
  pair_runs most le l1 l2 hi apart (no_value g) right = no_left (stop_more most (omega arith) g)
  pair_runs {c = c} {c2 = c2} {d = d} {s = s} {m = m} {b = b} {b1 = b1} {e = e} {hx = hx} {m2 = m2} {Q = Q} most le l1 l2 hi apart (a_value {v = x} g) right = second (right g.end g.kept)
    where
      second : {o : Option ℤ} → Sided D L c2 g.end d b1 e Q m m2 o → Pairs D L c s d b e hx Q m most (Some x) o
      second (no_side k) = no_right (stop_after most le g.goes k)
      second (a_side end goes kept side) = pair end (chain most le g.goes goes) (kept_on L b e (omega arith) (omega arith) (omega arith) (omega arith) g.kept kept) (kept.others hx hi apart ∙ g.value) side

  -- an operation on them
  op_runs : {c d rest : List DraftEntry} {s : State} {m : Memory} {b e1 e2 hx r m1 : ℕ} {Q : State → ℤ → Type 0} {o1 o2 : Option ℤ} (f : ℤ → ℤ → ℤ) (most : ℕ) → m1 + 4 ≤ most → b ≤ e1 → e1 ≤ e2 → Pairs D L c s d b e1 hx Q m m1 o1 o2
      → ((t : State) (x y : ℤ) → o1 ≡ Some x → o2 ≡ Some y → Kept L s t b e1 → x_at t hx ≡ word x → Q t y → Gets D L d t rest e1 e2 r (f x y) 4) → Gives D L c s rest b e2 r m most (on_both f o1 o2)
  op_runs f most le l1 l2 (no_left g) op = no_value (stop_more most (omega arith) g)
  op_runs f most le l1 l2 (no_right g) op = no_value (stop_more most (omega arith) g)
  op_runs {b = b} {e2 = e2} f most le l1 l2 (pair {x = x} {y = y} end goes kept left side) op =
      let last = op end x y refl refl kept left side in
      a_value (record {
        end = last.end;
        goes = chain most le goes last.goes;
        kept = kept_on L b e2 (omega arith) (omega arith) (omega arith) (omega arith) kept last.kept;
        value = last.value;
      })

  -- a value in a register as a right side
  plain_sided : {c rest : List DraftEntry} {s : State} {b e r : ℕ} {m : Memory} {most : ℕ} {o : Option ℤ} → Gives D L c s rest b e r m most o → Sided D L c s rest b e (IsOperand (Register r)) m most o
  plain_sided (no_value g) = no_side g
  plain_sided (a_value g) = a_side g.end g.goes g.kept g.value

  -- two values as a product, which is not extended
  product_sided : {c rest : List DraftEntry} {s : State} {b e hp hq : ℕ} {m : Memory} {m1 : ℕ} {o1 o2 : Option ℤ} (leaves : Bool) (w : Extent) (T : Ty) (e2 most : ℕ) → e ≤ e2 → m1 ≤ most → stays (settles (within_type w T) true leaves) (Some T) ≡ true → ((u v : ℤ) → o1 ≡ Some u → o2 ≡ Some v → asked_extent true leaves w (Some T) ≡ Whole → leaves ≡ false → word (wrap T (u *ℤ v)) ≡ word (u *ℤ v)) → Pairs D L c s rest b e hp (IsOperand (Register hq)) m m1 o1 o2 → Sided D L c s rest b e2 (IsOperand (Product hp hq)) m most (on_both (loose_binary binary.Mul w (Some T)) o1 o2)
  product_sided leaves w T e2 most le l1 still kept (no_left g) = no_side (stop_more most l1 g)
  product_sided leaves w T e2 most le l1 still kept (no_right g) = no_side (stop_more most l1 g)
  product_sided leaves w T e2 most le l1 still kept (pair {x = u} {y = v} end goes held left right) =
      a_side end (go_more most l1 goes) (kept_more L e2 le held) (ap₂ (λ p q. p * q % 2 ^ 64) left right ∙ sym (word-mul u v) ∙ sym (settled_same leaves w T (u *ℤ v) still (kept u v refl refl)))

  -- the operand of a cast that is no word
  cast_sided : {c rest : List DraftEntry} {s : State} {b e r : ℕ} {m : Memory} {m1 : ℕ} {o : Option ℤ} (low fit : Bool) (t : Ty) (e2 most : ℕ) → e ≤ e2 → m1 ≤ most → (low || fit) ≡ true → Gives D L c s rest b e r m m1 o → Sided D L c s rest b e2 (IsOperand (Register r)) m most (option_map (loose_cast low fit t) o)
  cast_sided low fit t e2 most le l1 bare (no_value g) = no_side (stop_more most l1 g)
  cast_sided low fit t e2 most le l1 bare (a_value {v = x} g) = a_side g.end (go_more most l1 g.goes) (kept_more L e2 le g.kept) (g.value ∙ ap word (bare_same low fit t x bare))

  -- a value as one that the word shifts
  moved_sided : {c rest : List DraftEntry} {s : State} {b e r : ℕ} {m : Memory} {m1 : ℕ} {o : Option ℤ} (left leaves : Bool) (z : ℤ) (w : Extent) (T : Ty) (e2 most : ℕ) → e ≤ e2 → m1 ≤ most → (leaves ≡ true → left ≡ true) → stays (settles (within_type w T) left leaves) (Some T) ≡ true → ((x : ℤ) → o ≡ Some x → asked_extent left leaves w (Some T) ≡ Whole → IsOf T x)
      → ((x : ℤ) → o ≡ Some x → asked_extent left leaves w (Some T) ≡ Whole → leaves ≡ false → word (wrap T (shift_on left (shift_count z) x)) ≡ word (shift_on left (shift_count z) x)) → Gives D L c s rest b e r m m1 o
      → Sided D L c s rest b e2 (IsOperand (Moved (shift_kind left (is_signed T)) (shift_count z) r)) m most (option_map (loose_shift left z w (Some T)) o)
  moved_sided left leaves z w T e2 most le l1 only still range kept (no_value g) = no_side (stop_more most l1 g)
  moved_sided left leaves z w T e2 most le l1 only still range kept (a_value {v = x} g) =
      a_side g.end (go_more most l1 g.goes) (kept_more L e2 le g.kept) (ap (λ k. shifted_word (shift_kind left (is_signed T)) k (shift_count z)) g.value ∙ moved_same left leaves z w T x only still (range x refl) (kept x refl))

  -- a right side, by what the word takes of it
  sided_by : (whole parts : List DraftEntry → List DraftEntry) {t : State} {rest : List DraftEntry} {b e : ℕ} {m : Memory} {most : ℕ} (o : Option ℤ) (number : Option ℕ) (fused : Bool) (r : ℕ) (part : Side) → ((v : ℕ) → number ≡ Some v → (y : ℤ) × ((o ≡ Some y) × (v ≡ word y))) → Resolves D (side_code number fused whole parts rest)
      → (Resolves D (whole rest) → Gives D L (whole rest) t rest b e r m most o) → (fused ≡ true → Resolves D (parts rest) → Sided D L (parts rest) t rest b e (IsOperand part) m most o)
      → Sided D L (side_code number fused whole parts rest) t rest b e (IsOperand (side_by number fused r part)) m most o
  sided_by whole parts o None false r part is res run fuse = plain_sided (run res)
  sided_by whole parts o None true r part is res run fuse = fuse refl res
  sided_by whole parts {t = t} {rest = rest} {b = b} {e = e} {m = m} {most = most} o (Some v) fused r part is res run fuse =
      let q = is v refl in
      subst (λ o. Sided D L rest t rest b e (IsOperand (Number v)) m most o) (sym q.1.0) (a_side t (stay most) (kept_none L t b e) q.1.1)

  -- a comparison of them, and a branch
  op_turns : {c d rest : List DraftEntry} {s : State} {m : Memory} {to b e1 e2 hx m1 : ℕ} {Q : State → ℤ → Type 0} {sense : Bool} {o1 o2 : Option ℤ} (f : ℤ → ℤ → Bool) (most : ℕ) → m1 + 4 ≤ most → b ≤ e1 → e1 ≤ e2 → Pairs D L c s d b e1 hx Q m m1 o1 o2
      → ((t : State) (x y : ℤ) → o1 ≡ Some x → o2 ≡ Some y → x_at t hx ≡ word x → Q t y → Turned D L d t (led D to rest sense (f x y)) e1 e2 2) → Turns D L c s to rest b e2 m most sense (on_both f o1 o2)
  op_turns f most le l1 l2 (no_left g) op = no_turn (stop_more most (omega arith) g)
  op_turns f most le l1 l2 (no_right g) op = no_turn (stop_more most (omega arith) g)
  op_turns {b = b} {e2 = e2} f most le l1 l2 (pair {x = x} {y = y} end goes kept left side) op =
      let last = op end x y refl refl left side in
      turns (record { end = last.end; goes = chain most (omega arith) goes last.goes; kept = kept_on L b e2 (omega arith) (omega arith) (omega arith) (omega arith) kept last.kept })

  -- a comparison of them
  op_flags : {c rest : List DraftEntry} {s : State} {m : Memory} {b e1 e2 hx m1 : ℕ} {o1 o2 : Option ℤ} (number : Option ℕ) (hy : ℕ) (op : CompareOp) (sg : Bool) (most : ℕ) → m1 + 1 ≤ most → b ≤ e1 → e1 ≤ e2 → hx ≤ 25 → ((v : ℕ) → number ≡ Some v → v < 4096) → Pairs D L c s (Put (compare_word number hx hy) ∷ rest) b e1 hx (IsSide number hy) m m1 o1 o2
      → ((x y : ℤ) → o1 ≡ Some x → o2 ≡ Some y → InRange sg x × InRange sg y) → Flagged D L c s rest b e2 (condition op sg) m most (on_both (compare_on op) o1 o2)
  op_flags number hy op sg most le l1 l2 hi few (no_left g) range = no_flags (stop_more most (omega arith) g)
  op_flags number hy op sg most le l1 l2 hi few (no_right g) range = no_flags (stop_more most (omega arith) g)
  op_flags {rest = rest} {b = b} {e2 = e2} {hx = hx} number hy op sg most le l1 l2 hi few (pair {x = x} {y = y} end goes kept left side) range =
      let r = range x y refl refl in
      let last = compare_goes D number rest end hx hy x y few hi left side in
      a_flag last.end (chain most le goes last.goes) (kept_on L b e2 (omega arith) (omega arith) (omega arith) (omega arith) kept (last.kept L b e2)) (ap (flags_hold (condition op sg)) last.flags ∙ compared op sg x y r.0 r.1)

  -- a choice by the flags
  flag_picks : {c rest : List DraftEntry} {s : State} {m : Memory} {b p e hx hy k m1 : ℕ} {o : Option Bool} (x y : ℤ) (most : ℕ) → m1 + 1 ≤ most → b ≤ p → p < e → IsMade L p → length s.x ≡ 31 → hx ≤ 25 → hy ≤ 25 → ((q : ℕ) → b ≤ q → q < p → IsMade L q → reg_of L q ≢ hx) → ((q : ℕ) → b ≤ q → q < p → IsMade L q → reg_of L q ≢ hy) → x_at s hx ≡ word x → x_at s hy ≡ word y
      → Flagged D L c s (ins csel (reg_of L p ∷ hx ∷ k ∷ hy ∷ []) ∷ rest) b p k m m1 o → Gives D L c s rest b e (reg_of L p) m most (chosen (Some x) (Some y) o)
  flag_picks x y most le l1 l2 made sized ix iy ax ay ex ey (no_flags g) = no_value (stop_more most (omega arith) g)
  flag_picks {rest = rest} {b = b} {p = p} {e = e} {hx = hx} {hy = hy} {k = k} x y most le l1 l2 made sized ix iy ax ay ex ey (a_flag {v = v} end goes kept told) =
      let d = reg_of L p in
      let n = if flags_hold k end.flags then x_at end hx else x_at end hy in
      let hi = fit.high p made in
      let size = kept.sized ∙ sized in
      a_value (record {
        end = wrote end d n;
        goes = chain most le goes (put_goes {i = word_of csel (d ∷ hx ∷ k ∷ hy ∷ [])} refl);
        kept = kept_on L b e (omega arith) (omega arith) (omega arith) (omega arith) kept (kept_item L end p n b e l1 l2 made);
        value = wrote_same end d n (omega (arith, size, hi)) ∙ ap (λ q. if q then x_at end hx else x_at end hy) told ∙ ap₂ (λ m k. if v then m else k) (kept.others hx ix ax ∙ ex) (kept.others hy iy ay ∙ ey) ∙ which v x y;
      })

  -- a choice by a jump
  jump_picks : {c rest : List DraftEntry} {s : State} {m : Memory} {b p e hx hy n m1 : ℕ} {o : Option Bool} (x y : ℤ) (most : ℕ) → m1 + 2 ≤ most → b ≤ p → p < e → IsMade L p → length s.x ≡ 31 → hx ≤ 25 → hy ≤ 25 → ((q : ℕ) → b ≤ q → q < p → IsMade L q → reg_of L q ≢ hx) → ((q : ℕ) → b ≤ q → q < p → IsMade L q → reg_of L q ≢ hy) → x_at s hx ≡ word x → x_at s hy ≡ word y
      → following D n ≡ word_code (copy_word (reg_of L p) hy) (Place (n + 1) ∷ rest) → following D (n + 1) ≡ rest
      → Turns D L c s n (pick_code (reg_of L p) hx hy n rest) b p m m1 false o → Gives D L c s rest b e (reg_of L p) m most (chosen (Some x) (Some y) o)
  jump_picks x y most le l1 l2 made sized ix iy ax ay ex ey at1 at2 (no_turn g) = no_value (stop_more most (omega arith) g)
  jump_picks {rest = rest} {b = b} {p = p} {e = e} {hx = hx} {hy = hy} {n = n} {m1 = m1} x y most le l1 l2 made sized ix iy ax ay ex ey at1 at2 (turns {v = true} g) =
      let k = copied_sets D L fit {rest = Branch Always (n + 1) ∷ (Place n ∷ word_code (copy_word (reg_of L p) hy) (Place (n + 1) ∷ rest))} {s = g.end} (reg_of L p) hx x (g.kept.sized ∙ sized) (let hi = fit.high p made in omega (arith, hi)) (g.kept.others hx ix ax ∙ ex) in
      let back = subst (λ es. Goes D (Branch Always (n + 1) ∷ (Place n ∷ word_code (copy_word (reg_of L p) hy) (Place (n + 1) ∷ rest))) k.end es (jump k.end (address_of D (n + 1))) 1) at2 (taken_goes refl) in
      a_value (record {
        end = jump k.end (address_of D (n + 1));
        goes = chain most le g.goes (chain 2 (omega arith) k.goes back);
        kept = kept_on L b e (omega arith) (omega arith) (omega arith) (omega arith) g.kept (kept_both L b e (kept_changes L p b e l1 l2 made k.changes) (kept_jump L k.end (address_of D (n + 1)) b e));
        value = k.value;
      })
  jump_picks {c = c} {rest = rest} {s = s} {b = b} {p = p} {e = e} {hx = hx} {hy = hy} {n = n} {m1 = m1} x y most le l1 l2 made sized ix iy ax ay ex ey at1 at2 (turns {v = false} g) =
      let k = copied_sets D L fit {rest = Place (n + 1) ∷ rest} {s = g.end} (reg_of L p) hy y (g.kept.sized ∙ sized) (let hi = fit.high p made in omega (arith, hi)) (g.kept.others hy iy ay ∙ ey) in
      a_value (record {
        end = k.end;
        goes = chain most (omega arith) (subst (λ es. Goes D c s es g.end m1) at1 g.goes) (chain {n = 0} 1 (omega arith) k.goes pass);
        kept = kept_on L b e (omega arith) (omega arith) (omega arith) (omega arith) g.kept (kept_changes L p b e l1 l2 made k.changes);
        value = k.value;
      })

  -- two values, and a choice
  choose_runs : {c c2 c3 rest : List DraftEntry} {s : State} {m : Memory} {b b1 b2 e hx hy r m1 m2 m3 : ℕ} {o1 o2 : Option ℤ} (o3 : Option Bool) (most : ℕ) → m1 + m2 + m3 ≤ most → b ≤ b1 → b1 ≤ b2 → b2 ≤ e → hx ≤ 25 → ((p : ℕ) → b1 ≤ p → p < b2 → IsMade L p → reg_of L p ≢ hx)
      → Gives D L c s c2 b b1 hx m m1 o1 → ((t : State) → Kept L s t b b1 → Gives D L c2 t c3 b1 b2 hy m m2 o2)
      → ((t : State) (x y : ℤ) → Kept L s t b b2 → x_at t hx ≡ word x → x_at t hy ≡ word y → Gives D L c3 t rest b2 e r m m3 (chosen (Some x) (Some y) o3)) → Gives D L c s rest b e r m most (chosen o1 o2 o3)
  choose_runs {c = c} {rest = rest} {s = s} {m = m} {b = b} {e = e} {r = r} {o2 = o2} o3 most le l1 l2 l3 ix ax (no_value g) right pick =
      subst (λ o. Gives D L c s rest b e r m most o) (sym (chosen_none o2 o3)) (no_value (stop_more most (omega arith) g))
  choose_runs {c = c} {c2 = c2} {c3 = c3} {rest = rest} {s = s} {m = m} {b = b} {b1 = b1} {b2 = b2} {e = e} {hx = hx} {hy = hy} {r = r} {m1 = m1} {m2 = m2} {m3 = m3} o3 most le l1 l2 l3 ix ax (a_value {v = x} g) right pick = second (right g.end g.kept)
    where
      third : {o : Option ℤ} (t : State) → Goes D c s c3 t (m1 + m2) → Kept L s t b b2 → Gives D L c3 t rest b2 e r m m3 o → Gives D L c s rest b e r m most o
      third t goes kept (no_value k) = no_value (stop_after most le goes k)
      third t goes kept (a_value k) = a_value (record {
        end = k.end;
        goes = chain most le goes k.goes;
        kept = kept_on L b e (omega arith) (omega arith) (omega arith) (omega arith) kept k.kept;
        value = k.value;
      })

      second : {o : Option ℤ} → Gives D L c2 g.end c3 b1 b2 hy m m2 o → Gives D L c s rest b e r m most (chosen (Some x) o o3)
      second (no_value k) = subst (λ o. Gives D L c s rest b e r m most o) (sym (chosen_second x o3)) (no_value (stop_after most (omega arith) g.goes k))
      second (a_value {v = y} k) =
          let kept = kept_on L b b2 (omega arith) (omega arith) (omega arith) (omega arith) g.kept k.kept in
          third k.end (chain (m1 + m2) (omega arith) g.goes k.goes) kept (pick k.end x y kept (k.kept.others hx ix ax ∙ g.value) k.value)

  -- what an operand gives, and then an operation
  map_runs : {c d rest : List DraftEntry} {s : State} {m : Memory} {b e1 e2 h r m1 : ℕ} {o : Option ℤ} (f : ℤ → ℤ) (most : ℕ) → m1 + 4 ≤ most → b ≤ e1 → e1 ≤ e2 → Gives D L c s d b e1 h m m1 o → ((t : State) (x : ℤ) → o ≡ Some x → Kept L s t b e1 → x_at t h ≡ word x → Gets D L d t rest e1 e2 r (f x) 4) → Gives D L c s rest b e2 r m most (option_map f o)
  map_runs f most le l1 l2 (no_value g) op = no_value (stop_more most (omega arith) g)
  map_runs {b = b} {e2 = e2} f most le l1 l2 (a_value {v = x} g) op =
      let last = op g.end x refl g.kept g.value in
      a_value (record {
        end = last.end;
        goes = chain most le g.goes last.goes;
        kept = kept_on L b e2 (omega arith) (omega arith) (omega arith) (omega arith) g.kept last.kept;
        value = last.value;
      })

  -- the register of a value: in range, and kept until the item that uses it
  pub home_high : (e : Term) (hs : Homes) (s : Scope) (want : Option Ty) (b user : ℕ) → b + term_size s.index e ≤ user → Fits L hs s want b user e → AreSafe L b hs → home L hs s.index b e ≤ 25
  home_high (Literal n) hs s want b user le h safe = literal_high D L fit (constant_at L (OfNumber n)) n b user refl (omega arith) h.0
  home_high (Variable x) hs s want b user le h safe = (name_found L hs x b user (omega arith) safe h.0).high
  home_high (Element a e) hs s want b user le h safe = fit.high _ (omega (arith, h.3))
  home_high (Unary op e) hs s want b user le h safe = fit.high _ (omega (arith, h.2))
  home_high (Operation op x y) hs s want b user le h safe = fit.high _ (omega (arith, h.3))
  home_high (Shift left e n) hs s want b user le h safe = fit.high _ (omega (arith, h.2))
  home_high (Conversion e t) hs s want b user le h safe = fit.high _ (omega (arith, h.3))
  home_high (Choice c x y) hs s want b user le h safe = fit.high _ (omega (arith, h.3))
  home_high (Comparison op x y) hs s want b user le h safe = absurd h
  home_high (Both x y) hs s want b user le h safe = absurd h
  home_high (Either x y) hs s want b user le h safe = absurd h
  home_high (Not e) hs s want b user le h safe = absurd h

  pub home_apart : (e : Term) (hs : Homes) (s : Scope) (want : Option Ty) (b user : ℕ) → b + term_size s.index e ≤ user → Fits L hs s want b user e → AreSafe L b hs → (p : ℕ) → b + term_size s.index e ≤ p → p < user → IsMade L p → reg_of L p ≢ home L hs s.index b e
  home_apart (Literal n) hs s want b user le h safe p lo up made = literal_apart D L fit (constant_at L (OfNumber n)) n b user p refl h.0 (omega arith) up made
  home_apart (Variable x) hs s want b user le h safe p lo up made = (name_found L hs x b user (omega arith) safe h.0).apart p (omega arith) up made
  home_apart (Element a e) hs s want b user le h safe p lo up made = fit.apart p _ (omega arith) (omega (arith, h.3)) made
  home_apart (Unary op e) hs s want b user le h safe p lo up made = fit.apart p _ (omega arith) (omega (arith, h.2)) made
  home_apart (Operation op x y) hs s want b user le h safe p lo up made = fit.apart p _ (omega arith) (omega (arith, h.3)) made
  home_apart (Shift left e n) hs s want b user le h safe p lo up made = fit.apart p _ (omega arith) (omega (arith, h.2)) made
  home_apart (Conversion e t) hs s want b user le h safe p lo up made = fit.apart p _ (omega arith) (omega (arith, h.3)) made
  home_apart (Choice c x y) hs s want b user le h safe p lo up made = fit.apart p _ (omega arith) (omega (arith, h.3)) made
  home_apart (Comparison op x y) hs s want b user le h safe p lo up made = absurd h
  home_apart (Both x y) hs s want b user le h safe p lo up made = absurd h
  home_apart (Either x y) hs s want b user le h safe p lo up made = absurd h
  home_apart (Not e) hs s want b user le h safe p lo up made = absurd h

  -- the registers of a side that stands in the operator's word
  part_high : (e : Term) (hs : Homes) (s : Scope) (op : BinaryOp) (w : Extent) (T : Ty) (b user : ℕ) → is_fused s op w (Some T) e ≡ true → Fits L hs s (Some T) b user e → AreSafe L b hs → IsHigh (part_side L hs s.index (Some T) b e)
  part_high (Operation o x y) hs s op w T b user f h safe =
      let b1 = b + term_size s.index x in
      (home_high x hs s (Some T) b (b1 + term_size s.index y) (omega arith) h.1 safe, home_high y hs s (Some T) b1 (b1 + term_size s.index y) (omega arith) h.2 (safe_later L hs b b1 (omega arith) safe))
  part_high (Shift left e z) hs s op w T b user f h safe = home_high e hs s (Some T) b (b + term_size s.index e) (omega arith) h.1 safe
  part_high (Literal z) hs s op w T b user f h safe = absurd cc
  part_high (Variable x) hs s op w T b user f h safe = absurd cc
  part_high (Element a i) hs s op w T b user f h safe = absurd cc
  part_high (Unary o e) hs s op w T b user f h safe = absurd cc
  part_high (Conversion e t) hs s op w T b user f h safe = home_high e hs s (own s e) b (b + term_size s.index e) (omega arith) h.2 safe
  part_high (Choice c x y) hs s op w T b user f h safe = absurd cc
  part_high (Comparison o x y) hs s op w T b user f h safe = absurd cc
  part_high (Both x y) hs s op w T b user f h safe = absurd cc
  part_high (Either x y) hs s op w T b user f h safe = absurd cc
  part_high (Not e) hs s op w T b user f h safe = absurd cc

  -- what an operand has as its type
  pub some_type : (o : Option Ty) → IsSome o → (T : Ty) × (o ≡ Some T)
  some_type None h = absurd h
  some_type (Some T) h = (T, refl)

  -- the rest of a read after its index, by what stands in the register of the array
  read_runs : {w : Fixed L} {c rest : List DraftEntry} {st t : State} {m : Memory} {hs : Homes} {ls : List Local} {stand names : Names} {b most : ℕ} (T : Ty) (ot : Option Ty) (a : List ℕ) (p r : ℕ) (x : ℤ) → ot ≡ Some T → NameLasts hs a p → b ≤ p → AreSafe L b hs → IsMade L p → Standing w hs ls stand names m b st → Goes D c st (load_code ot (reg_of L p) (register_at hs a) r rest) t most → Kept L st t b p → x_at t r ≡ word x → Gives D L c st rest b (p + 1) (reg_of L p) m (most + 1) (read_element ot m (value_at stand a) x)
  read_runs {c = c} {rest = rest} {st = st} {t = t} {m = m} {hs = hs} {stand = stand} {b = b} {most = most} T ot a p r x e lasts le safe made at g kept is =
      let d = reg_of L p in
      let q = register_at hs a in
      let there = standing_kept L fit b p le safe at kept in
      let found = name_found L hs a b p le safe lasts in
      let load = load_runs D L fit {rest = rest} T (value_at stand a) x q r p b (p + 1) there.sized le (omega arith) made there.good there.memory found.high (name_held hs stand a p t there.sized there.held lasts) is in
      subst (λ o. Gives D L c st rest b (p + 1) d m (most + 1) (read_element o m (value_at stand a) x)) (sym e)
      (on (subst (λ o. Goes D c st (load_code o d q r rest) t most) e g) load)
    where
      on : {o : Option ℤ} {e2 : List DraftEntry} → Goes D c st e2 t most → Gives D L e2 t rest b (p + 1) (reg_of L p) m 1 o → Gives D L c st rest b (p + 1) (reg_of L p) m (most + 1) o
      on g (no_value k) = no_value (stop_after (most + 1) (omega arith) g k)
      on g (a_value k) = a_value (record { end = k.end; goes = chain (most + 1) (omega arith) g k.goes; kept = kept_on L b (p + 1) (omega arith) (omega arith) (omega arith) (omega arith) kept k.kept; value = k.value })

  -- an index, and a read of the element
  element_runs : {w : Fixed L} {hs : Homes} (s : Scope) {stand names : Names} {m : Memory} {st : State} (a : List ℕ) (i : Term) (T : Ty) (b n : ℕ) (rest : List DraftEntry) (o : Option ℤ) (computed : Bool) → index_covers L.loose s.index (loose_in L.loose a) (option_and_then element_type (lookup s a)) o computed ≡ true → option_and_then element_type (lookup s a) ≡ Some T → FitsIndex o (IndexAt hs s.index (b + index_size o (term_size s.index i))) (Fits L hs s (index_type s i) b (b + index_size o (term_size s.index i)) i) → NameLasts hs a (b + index_size o (term_size s.index i)) → IsMade L (b + index_size o (term_size s.index i)) → AreSafe L b hs → Standing w hs s.visible stand names m b st
      → Resolves D (number_code o (value_code L hs s (index_type s i) b n i) (load_code (option_and_then element_type (lookup s a)) (reg_of L (b + index_size o (term_size s.index i))) (register_at hs a) (number_register o (home L hs s.index b i)) rest))
      → (o ≡ None → (rest : List DraftEntry) → Runs D L i hs s names m st b (b + term_size s.index i) n rest (index_type s i))
      → Gives D L (number_code o (value_code L hs s (index_type s i) b n i) (load_code (option_and_then element_type (lookup s a)) (reg_of L (b + index_size o (term_size s.index i))) (register_at hs a) (number_register o (home L hs s.index b i)) rest)) st rest b (b + (index_size o (term_size s.index i) + 1)) (reg_of L (b + index_size o (term_size s.index i))) m ((element_words o (coded_words L.constants s.index i)))
      (option_and_then (read_element (option_and_then element_type (lookup s a)) m (value_at names a)) (element_number o (iteration s.index names) (value s (index_type s i) i m names)))
  element_runs {w = w} {hs = hs} s {stand = stand} {names = names} {m = m} {st = st} a i T b n rest (Some c) computed cov type fits lasts made safe at res inner =
      let r = index_register (index_word c) in
      let ot = option_and_then element_type (lookup s a) in
      let x = iteration s.index stand in
      let last = load_code ot (reg_of L (b + 0)) (register_at hs a) r rest in
      let g = index_runs D L fit {rest = last} x c b (b + 0) at.sized (index_is hs s.index stand (b + 0) b st (omega arith) fits.1 at.sized at.held) fits.0 in
      let e : b + 0 + 1 ≡ b + (0 + 1) = omega arith in
      let there = subst (λ o. Gives D L (word_code (index_word c) last) st rest b (b + 0 + 1) (reg_of L (b + 0)) m 2 o) (together_read L.loose w.count hs s.index a ot T m stand names c b (b + 0) (b + 0) st type cov lasts fits.1 at.held at.told)
      (give_more D L 2 (omega arith) (read_runs T ot a (b + 0) r (x +ℤ c) type lasts (omega arith) safe made at g.goes g.kept g.value)) in
      subst (λ q. Gives D L (word_code (index_word c) last) st rest b q (reg_of L (b + 0)) m 2 (read_element ot m (value_at names a) (iteration s.index names +ℤ c))) e there
  element_runs {w = w} {hs = hs} s {stand = stand} {names = names} {m = m} {st = st} a i T b n rest None computed cov type fits lasts made safe at res inner =
      found (value s (index_type s i) i m names) (inner refl last fits res)
    where
      last : List DraftEntry
      last = load_code (option_and_then element_type (lookup s a)) (reg_of L (b + term_size s.index i)) (register_at hs a) (home L hs s.index b i) rest

      base : value_at stand a ≡ value_at names a
      base = whole_at L.loose w.count a stand names (and_parts (is_whole L.loose a) computed cov).0 at.told

      found : (o : Option ℤ) → Gives D L (value_code L hs s (index_type s i) b n i last) st last b (b + term_size s.index i) (home L hs s.index b i) m (coded_words L.constants s.index i) o
          → Gives D L (value_code L hs s (index_type s i) b n i last) st rest b (b + (term_size s.index i + 1)) (reg_of L (b + term_size s.index i)) m ((coded_words L.constants s.index i + 4)) (option_and_then (read_element (option_and_then element_type (lookup s a)) m (value_at names a)) o)
      found None (no_value k) = no_value (stop_more _ (omega arith) k)
      found (Some x) (a_value k) =
          let p = b + term_size s.index i in
          let e : p + 1 ≡ b + (term_size s.index i + 1) = omega arith in
          let read = give_more D L ((coded_words L.constants s.index i + 4)) (omega arith) (read_runs T (option_and_then element_type (lookup s a)) a p (home L hs s.index b i) x type lasts (omega arith) safe made at k.goes k.kept k.value) in
          subst (λ q. Gives D L (value_code L hs s (index_type s i) b n i last) st rest b q (reg_of L p) m ((coded_words L.constants s.index i + 4)) (read_element (option_and_then element_type (lookup s a)) m (value_at names a) x)) e
          (subst (λ z. Gives D L (value_code L hs s (index_type s i) b n i last) st rest b (p + 1) (reg_of L p) m ((coded_words L.constants s.index i + 4)) (read_element (option_and_then element_type (lookup s a)) m z x)) base read)

  -- the sides of a comparison are in range
  sides_range : (x y : Term) (hs : Homes) (s : Scope) (names : Names) (m : Memory) (b : ℕ) (u v : ℤ) → AreRanged s.visible names
      → IsSome (side_type s x y) × Fits L hs s (side_type s x y) b (b + term_size s.index x + term_size s.index y) x × Fits L hs s (side_type s x y) (b + term_size s.index x) (b + term_size s.index x + term_size s.index y) y
      → value s (side_type s x y) x m names ≡ Some u → value s (side_type s x y) y m names ≡ Some v → InRange (signed_side (side_type s x y)) u × InRange (signed_side (side_type s x y)) v
  sides_range x y hs s names m b u v ranged h is js =
      let q = some_type (side_type s x y) h.0 in
      let b1 = b + term_size s.index x in let c = b1 + term_size s.index y in
      let sg : signed_side (side_type s x y) ≡ is_signed q.0 = ap signed_side q.1 in
      let fx : Fits L hs s (Some q.0) b c x = subst (λ w. Fits L hs s w b c x) q.1 h.1 in
      let fy : Fits L hs s (Some q.0) b1 c y = subst (λ w. Fits L hs s w b1 c y) q.1 h.2 in (
        subst (λ g. InRange g u) (sym sg) (in_range q.0 u (value-range L hs s names m x q.0 b c u fx ranged (sym (ap (λ w. value s w x m names) q.1) ∙ is))),
        subst (λ g. InRange g v) (sym sg) (in_range q.0 v (value-range L hs s names m y q.0 b1 c v fy ranged (sym (ap (λ w. value s w y m names) q.1) ∙ js))),
      )

  -- the two sides of a comparison
  sides_run : (x y : Term) (hs : Homes) (s : Scope) (names : Names) {m : Memory} {st : State} (b n : ℕ) (rest : List DraftEntry) → AreSafe L b hs
      → IsSome (side_type s x y) × Fits L hs s (side_type s x y) b (b + term_size s.index x + term_size s.index y) x × Fits L hs s (side_type s x y) (b + term_size s.index x) (b + term_size s.index x + term_size s.index y) y
      → ((T : Ty) (rest : List DraftEntry) → side_type s x y ≡ Some T → Runs D L x hs s names m st b (b + term_size s.index x + term_size s.index y) n rest (Some T))
      → ((T : Ty) (t : State) → side_type s x y ≡ Some T → Kept L st t b (b + term_size s.index x) → Runs D L y hs s names m t (b + term_size s.index x) (b + term_size s.index x + term_size s.index y) (n + labels s.index x) rest (Some T))
      → Resolves D (value_code L hs s (side_type s x y) b n x (right_code (compared_number (side_type s x y) y) (value_code L hs s (side_type s x y) (b + term_size s.index x) (n + labels s.index x) y) rest))
      → Pairs D L (value_code L hs s (side_type s x y) b n x (right_code (compared_number (side_type s x y) y) (value_code L hs s (side_type s x y) (b + term_size s.index x) (n + labels s.index x) y) rest)) st rest b (b + term_size s.index x + term_size s.index y)
      (home L hs s.index b x) (IsSide (compared_number (side_type s x y) y) (home L hs s.index (b + term_size s.index x) y)) m (coded_words L.constants s.index x + coded_words L.constants s.index y) (value s (side_type s x y) x m names) (value s (side_type s x y) y m names)
  sides_run x y hs s names {m = m} {st = st} b n rest safe h left right res =
      let q = some_type (side_type s x y) h.0 in
      let want = side_type s x y in
      let b1 = b + term_size s.index x in let c = b1 + term_size s.index y in
      let number = compared_number want y in
      let codey = right_code number (value_code L hs s want b1 (n + labels s.index x) y) rest in
      let runx : Runs D L x hs s names m st b c n codey want = subst (λ w. Runs D L x hs s names m st b c n codey w) (sym q.1) (left q.0 codey q.1) in
      pair_runs (coded_words L.constants s.index x + coded_words L.constants s.index y) (omega arith) (omega arith) (omega arith)
      (home_high x hs s want b c (omega arith) h.1 safe) (λ p lo up made. home_apart x hs s want b c (omega arith) h.1 safe p lo up made)
      (runx h.1 res)
      (λ t k. right_runs _ (value s want y m names) number (compared_right s want y m names) (value_back D L fit x hs s want b n _ res)
      (λ r. subst (λ w. Runs D L y hs s names m t b1 c (n + labels s.index x) rest w) (sym q.1) (right q.0 t q.1 k) h.2 r))

  -- one of two registers, by a condition
  pick_runs : (c : Term) (hs : Homes) (s : Scope) (names : Names) {m : Memory} {st : State} (x y : ℤ) (n b e hx hy : ℕ) (rest : List DraftEntry) (o : Option ℕ) → b + term_size s.index c < e → length st.x ≡ 31 → IsMade L (b + term_size s.index c) → hx ≤ 25 → hy ≤ 25
      → ((q : ℕ) → b ≤ q → q < b + term_size s.index c → IsMade L q → reg_of L q ≢ hx) → ((q : ℕ) → b ≤ q → q < b + term_size s.index c → IsMade L q → reg_of L q ≢ hy) → x_at st hx ≡ word x → x_at st hy ≡ word y
      → ((k : ℕ) (rest : List DraftEntry) → o ≡ Some k → Resolves D (flags_code L hs s b (n + 2) c rest) → Flagged D L (flags_code L hs s b (n + 2) c rest) st rest b (b + term_size s.index c) k m (coded_words L.constants s.index c) (holds s c m names))
      → ((rest : List DraftEntry) → Resolves D (jump_code L hs s false n b (n + 2) c rest) → Turns D L (jump_code L hs s false n b (n + 2) c rest) st n rest b (b + term_size s.index c) m (coded_words L.constants s.index c) false (holds s c m names))
      → Resolves D (choice_code o (flags_code L hs s b (n + 2) c) (jump_code L hs s false n b (n + 2) c) (reg_of L (b + term_size s.index c)) hx hy n rest)
      → Gives D L (choice_code o (flags_code L hs s b (n + 2) c) (jump_code L hs s false n b (n + 2) c) (reg_of L (b + term_size s.index c)) hx hy n rest) st rest b e (reg_of L (b + term_size s.index c)) m ((coded_words L.constants s.index c + 4)) (chosen (Some x) (Some y) (holds s c m names))
  pick_runs c hs s names x y n b e hx hy rest (Some k) lt sized made ix iy ax ay ex ey flags turn res =
      flag_picks x y ((coded_words L.constants s.index c + 4)) (omega arith) (omega arith) lt made sized ix iy ax ay ex ey (flags k _ refl res)
  pick_runs c hs s names x y n b e hx hy rest None lt sized made ix iy ax ay ex ey flags turn res =
      let r = pick_back D L fit (reg_of L (b + term_size s.index c)) hx hy n rest (jump_back D L fit c hs s false n b (n + 2) _ res) in
      jump_picks x y ((coded_words L.constants s.index c + 4)) (omega arith) (omega arith) lt made sized ix iy ax ay ex ey r.0 r.1.0 (turn _ res)

  -- what the code of an expression does
  mutual
    pub loose_standing : (e : Term) {W : Fixed L} {hs : Homes} (s : Scope) {stand names : Names} {m : Memory} {st : State} (w : Extent) (T : Ty) (b user n : ℕ) (rest : List DraftEntry) → b + term_size s.index e ≤ user → covers L.loose s w (Some T) e ≡ true → AreSafe L b hs → Standing W hs s.visible stand names m b st → LooseRuns D L e hs s stand names m st w b user n rest (Some T)
    loose_standing (Literal z) {W = W} s w T b user n rest le cov safe at h res = literal_runs D L fit (constant_at L (OfNumber z)) {W = W} z T b user refl (omega arith) at h.0 h.1
    loose_standing (Variable x) {hs = hs} s {stand = stand} {st = st} w T b user n rest le cov safe at h res =
        a_value (record { end = st; goes = stay 4; kept = kept_none L st b (b + 1); value = name_held hs stand x b st at.sized at.held (name_less hs x user b (omega arith) h.0) })
    loose_standing (Element a i) {hs = hs} s {stand = stand} {names = names} {m = m} {st = st} w T b user n rest le cov safe at h res =
        let q = some_type (index_type s i) (index_some s i) in
        let o = stream_offset s.index i in
        let ot = option_and_then element_type (lookup s a) in
        let p = b + index_size o (term_size s.index i) in
        let computed = covers L.loose s Whole (index_type s i) i in
        let e : p + 1 ≡ b + (index_size o (term_size s.index i) + 1) = omega arith in
        element_with D L fit (place_of L (register_at hs a) ot o) _ (λ x y. load_code ot (reg_of L p) x y rest) res
        (λ r. element_runs s a i T b n rest o computed cov h.0 h.1 h.2 (omega (arith, h.3)) safe at r
        (λ none rest2. let inner = covers_at L.loose s Whole i (index_type s i) q.0 q.1 (computed_covers L.loose s.index (loose_in L.loose a) ot o computed none cov).1 in subst (λ w. Runs D L i hs s names m st b (b + term_size s.index i) n rest2 w) (sym q.1) (exact _ hs b (b + term_size s.index i) n i s stand names m (Some q.0) at.ranged at.told inner (loose_standing i s Whole q.0 b (b + term_size s.index i) n rest2 (omega arith) inner safe at))))
        (λ r is. subst (λ q. Gives D L (load_code ot (reg_of L p) r 9 rest) st rest b q (reg_of L p) m (element_words o (coded_words L.constants s.index i)) (option_and_then (read_element ot m (value_at names a)) (element_number o (iteration s.index names) (value s (index_type s i) i m names)))) e
        (give_more D L _ (some_words o (coded_words L.constants s.index i)) (placed_runs D L fit s.index a T ot o (value s (index_type s i) i m names) computed (Fits L hs s (index_type s i) b p i) r p b cov h.0 is (name_less hs a p b (omega arith) h.2) h.1 (omega arith) (omega (arith, h.3)) at)))
    loose_standing (Unary op e) {hs = hs} s {stand = stand} {names = names} {m = m} w T b user n rest le cov safe at h res =
        let k1 = unary_asks s (Some T) op e w in
        map_runs (loose_unary op w (Some T)) ((coded_words L.constants s.index e + 4)) (omega arith) (omega arith) (omega arith)
        (loose_standing e s k1 T b _ n _ (omega arith) cov safe at h.1 res)
        (λ t x is k ex. gets D L (b + term_size s.index e) _ _ (omega arith) (omega arith) (omega (arith, h.2)) (unary_runs D L fit op (unary_may_leave s (Some T) op e) w T x _ _ (k.sized ∙ at.sized) (home_high e hs s (Some T) b (b + term_size s.index e) (omega arith) h.1 safe) (fit.high _ (omega (arith, h.2))) (loose_range _ k1 L hs s stand names m e T b _ x h.1 at.ranged at.told cov is)
        (λ whole stays. unary_keeps s m names at.ranged T op e x (fits_types e L hs s (Some T) b _ h.1) (loose_value _ k1 L hs s stand names m e T b _ x h.1 at.ranged at.told cov is whole) (loose_range _ k1 L hs s stand names m e T b _ x h.1 at.ranged at.told cov is whole) stays) ex))
    loose_standing (Operation op x y) {hs = hs} s {stand = stand} {names = names} {m = m} {st = st} w T b user n rest le cov safe at h res =
        let i = s.index in
        let b1 = b + term_size i x in let c = b1 + term_size i y in let e1 = b + (term_size i x + term_size i y + 1) in
        let k1 = binary_asks s (Some T) op x y w in
        let both = and_parts (covers L.loose s k1 (Some T) x) _ cov in
        let leaves = binary_may_leave s (Some T) op x y in
        let most = (coded_words L.constants i x + coded_words L.constants i y + 4) in
        let hx = home_high x hs s (Some T) b c (omega arith) h.1 safe in
        let safe1 = safe_later L hs b b1 (omega arith) safe in
        let vx = loose s k1 (Some T) x m stand names in let vy = loose s k1 (Some T) y m stand names in
        let part = part_side L hs i (Some T) b x in
        let right = right_side L hs s op k1 (Some T) b1 y in
        let number = added_number op (Some T) y in
        let fused = is_fused s op k1 (Some T) y in
        let whole = loose_code L hs s k1 (Some T) b1 (n + labels i x) y in
        let parts = parts_code L hs s k1 (Some T) b1 (n + labels i x) y in
        let ends = binary_settles s (Some T) op x y w in
        let code = λ (l : Bool). side_code None l (loose_code L hs s k1 (Some T) b n x) (parts_code L hs s k1 (Some T) b n x) (side_code number (not l && fused) whole parts (operator_code (if l then part else right) ends op T (reg_of L c) (if l then home L hs i b1 y else home L hs i b x) rest)) in
        by_led (λ l. Resolves D (code l) → Gives D L (code l) st rest b e1 (reg_of L c) m most (on_both (loose_binary op w (Some T)) vx vy)) (is_led L hs s op k1 (Some T) b x y)
        (λ led r.
        let known = led_is L hs s op k1 (Some T) b x y led in
        let hy = home_high y hs s (Some T) b1 c (omega arith) h.2 safe1 in
        let last = operator_code part ends op T (reg_of L c) (home L hs i b1 y) rest in
        let same : side_code number false whole parts last ≡ whole last = alone_code s op k1 (Some T) x y whole parts last known.alone in
        subst (λ o. Gives D L (code true) st rest b e1 (reg_of L c) m most o) (on_both-turned (loose_binary op w (Some T)) vx vy)
        (op_runs (λ v u. loose_binary op w (Some T) u v) most (omega arith) (omega arith) (omega arith)
        (led_pairs D L fit part (term_size i y) (coded_words L.constants i x + coded_words L.constants i y) (omega arith) (omega arith) refl (part_high x hs s op k1 T b c known.fused h.1 safe) known.lasts
        (parts_standing x s op k1 T b c n _ (omega arith) both.0 known.fused safe at h.1 r)
        (λ t k. subst (λ es. Gives D L es t last b1 c (home L hs i b1 y) m (coded_words L.constants i y) vy) (sym same) (loose_standing y s k1 T b1 c _ _ (omega arith) both.1 safe1 (standing_kept L fit b b1 (omega arith) safe at k) h.2 (subst (λ es. Resolves D es) same (parts_back D L fit x hs s k1 (Some T) b n _ r)))))
        (λ t v u js is k ey ex. gets D L c c e1 (omega arith) (omega arith) (omega (arith, h.3)) (turned_runs D L fit part op leaves w T u v _ _ known.turns (k.sized ∙ at.sized) hy (fit.high _ (omega (arith, h.3))) (λ e. (and_parts (binary_leaves op) _ e).0)
        (λ e. (loose_range _ k1 L hs s stand names m x T b c u h.1 at.ranged at.told both.0 is e, loose_range _ k1 L hs s stand names m y T b1 c v h.2 at.ranged at.told both.1 js e)) (operator_keeps _ L user x y hs s stand names m op k1 T b u v at.ranged at.told cov h is js) (part_taken op L hs s k1 T b x known.fused) ex ey))))
        (λ straight r.
        op_runs (loose_binary op w (Some T)) most (omega arith) (omega arith) (omega arith)
        (pair_runs (coded_words L.constants i x + coded_words L.constants i y) (omega arith) (omega arith) (omega arith) hx (λ p lo up made. home_apart x hs s (Some T) b c (omega arith) h.1 safe p lo up made)
        (loose_standing x s k1 T b c n _ (omega arith) both.0 safe at h.1 r)
        (λ t k. sided_by whole parts vy number fused (home L hs i b1 y) (part_side L hs i (Some T) b1 y) (added_right op s k1 (Some T) y m stand names) (loose_back D L fit x hs s k1 (Some T) b n _ r)
        (λ q. loose_standing y s k1 T b1 c _ _ (omega arith) both.1 safe1 (standing_kept L fit b b1 (omega arith) safe at k) h.2 q)
        (λ f q. parts_standing y s op k1 T b1 c _ _ (omega arith) both.1 f safe1 (standing_kept L fit b b1 (omega arith) safe at k) h.2 q)))
        (λ t u v is js k ex ey. gets D L c c e1 (omega arith) (omega arith) (omega (arith, h.3)) (operation_runs D L fit right op leaves w T u v _ _ (k.sized ∙ at.sized) hx (fit.high _ (omega (arith, h.3))) (λ e. (and_parts (binary_leaves op) _ e).0)
        (λ e. (loose_range _ k1 L hs s stand names m x T b c u h.1 at.ranged at.told both.0 is e, loose_range _ k1 L hs s stand names m y T b1 c v h.2 at.ranged at.told both.1 js e)) (operator_keeps _ L user x y hs s stand names m op k1 T b u v at.ranged at.told cov h is js) (right_taken op L hs s k1 T b1 y) ex ey)))
        res
    loose_standing (Shift left e z) {hs = hs} s {stand = stand} {names = names} {m = m} w T b user n rest le cov safe at h res =
        let k1 = shift_asks s (Some T) left e z w in
        map_runs (loose_shift left z w (Some T)) ((coded_words L.constants s.index e + 4)) (omega arith) (omega arith) (omega arith)
        (loose_standing e s k1 T b _ n _ (omega arith) cov safe at h.1 res)
        (λ t x is k ex. gets D L (b + term_size s.index e) _ _ (omega arith) (omega arith) (omega (arith, h.2)) (shift_runs D L fit left (shift_may_leave s (Some T) left e z) z w T x _ _ (k.sized ∙ at.sized) (fit.high _ (omega (arith, h.2))) (λ q. (and_parts left _ q).0) (loose_range _ k1 L hs s stand names m e T b _ x h.1 at.ranged at.told cov is)
        (λ whole stays. shift_keeps s m names at.ranged T left e z x (fits_types e L hs s (Some T) b _ h.1) (loose_value _ k1 L hs s stand names m e T b _ x h.1 at.ranged at.told cov is whole) (loose_range _ k1 L hs s stand names m e T b _ x h.1 at.ranged at.told cov is whole) stays) ex))
    loose_standing (Conversion e t) {hs = hs} s {stand = stand} {names = names} {m = m} {st = st} w T b user n rest le cov safe at h res =
        let q = some_type (own s e) h.1 in
        let c = b + term_size s.index e in
        let k1 = converted_extent w (own s e) t in
        let inside = covers_at L.loose s k1 e (own s e) q.0 q.1 cov in
        let low = within_type w t in
        let code = at_type (own s e) (λ u. word_code (convert_word low u t (reg_of L c) (home L hs s.index b e)) rest) rest in
        let inner : LooseRuns D L e hs s stand names m st k1 b c n code (own s e) = subst (λ o. LooseRuns D L e hs s stand names m st k1 b c n code o) (sym q.1) (loose_standing e s k1 q.0 b c n code (omega arith) inside safe at) in
        map_runs (loose_cast low (fits_at (own s e) t) t) ((coded_words L.constants s.index e + 4)) (omega arith) (omega arith) (omega arith) (inner h.2 res)
        (λ u x is k ex.
        subst (λ o. Gets D L (at_type o (λ v. word_code (convert_word low v t (reg_of L c) (home L hs s.index b e)) rest) rest) u rest c (b + (term_size s.index e + 1)) (reg_of L c) (loose_cast low (fits_at o t) t x) 4) (sym q.1)
        (cast_runs D L fit low q.0 t x (home L hs s.index b e) c c (b + (term_size s.index e + 1)) (k.sized ∙ at.sized) (omega arith) (omega arith) (omega (arith, h.3)) ex))
    loose_standing (Choice c x y) {hs = hs} s {stand = stand} {names = names} {m = m} {st = st} w T b user n rest le cov safe at h res =
        let i = s.index in
        let b1 = b + term_size i x in let b2 = b1 + term_size i y in let p = b2 + term_size i c in
        let first = and_parts (covers L.loose s w (Some T) x) _ cov in
        let second = and_parts (covers L.loose s w (Some T) y) _ first.1 in
        let ry = loose_back D L fit x hs s w (Some T) b n _ res in
        let rc = loose_back D L fit y hs s w (Some T) b1 _ _ ry in
        let hx = home_high x hs s (Some T) b p (omega arith) h.0 safe in
        let safe1 = safe_later L hs b b1 (omega arith) safe in
        let hy = home_high y hs s (Some T) b1 p (omega arith) h.1 safe1 in
        choose_runs (holds s c m names) ((coded_words L.constants i x + coded_words L.constants i y + coded_words L.constants i c + 4)) (omega arith) (omega arith) (omega arith) (omega arith) hx
        (λ q lo up made. home_apart x hs s (Some T) b p (omega arith) h.0 safe q (omega arith) (omega arith) made)
        (loose_standing x s w T b p n _ (omega arith) first.0 safe at h.0 res)
        (λ t k. loose_standing y s w T b1 p _ _ (omega arith) second.0 safe1 (standing_kept L fit b b1 (omega arith) safe at k) h.1 ry)
        (λ t u v k eu ev. pick_runs c hs s names u v (n + labels i x + labels i y) b2 (b + (term_size i x + term_size i y + term_size i c + 1)) (home L hs i b x) (home L hs i b1 y) rest (flag_condition s c) (omega arith) (k.sized ∙ at.sized) (omega (arith, h.3)) hx hy
        (λ q lo up made. home_apart x hs s (Some T) b p (omega arith) h.0 safe q (omega arith) up made)
        (λ q lo up made. home_apart y hs s (Some T) b1 p (omega arith) h.1 safe1 q (omega arith) up made) eu ev
        (λ j r is res. flags_standing c s b2 _ j r is second.1 (safe_later L hs b b2 (omega arith) safe) (standing_kept L fit b b2 (omega arith) safe at k) h.2 res)
        (λ r res. jump_standing c s false _ b2 _ r second.1 (safe_later L hs b b2 (omega arith) safe) (standing_kept L fit b b2 (omega arith) safe at k) h.2 res) rc)
    loose_standing (Comparison op x y) s w T b user n rest le cov safe at h res = absurd h
    loose_standing (Both x y) s w T b user n rest le cov safe at h res = absurd h
    loose_standing (Either x y) s w T b user n rest le cov safe at h res = absurd h
    loose_standing (Not e) s w T b user n rest le cov safe at h res = absurd h

    -- the parts of a right side that stands in the operator's word
    pub parts_standing : (e : Term) {W : Fixed L} {hs : Homes} (s : Scope) {stand names : Names} {m : Memory} {st : State} (op : BinaryOp) (w : Extent) (T : Ty) (b user n : ℕ) (rest : List DraftEntry) → b + term_size s.index e ≤ user → covers L.loose s w (Some T) e ≡ true → is_fused s op w (Some T) e ≡ true → AreSafe L b hs → Standing W hs s.visible stand names m b st → Fits L hs s (Some T) b user e
        → Resolves D (parts_code L hs s w (Some T) b n e rest)
        → Sided D L (parts_code L hs s w (Some T) b n e rest) st rest b (b + term_size s.index e) (IsOperand (part_side L hs s.index (Some T) b e)) m (coded_words L.constants s.index e) (loose s w (Some T) e m stand names)
    parts_standing (Operation binary.Mul x y) {hs = hs} s {stand = stand} {names = names} {m = m} op w T b user n rest le cov f safe at h res =
        let b1 = b + term_size s.index x in let c = b1 + term_size s.index y in
        let k = binary_asks s (Some T) binary.Mul x y w in
        let both = and_parts (covers L.loose s k (Some T) x) _ cov in
        product_sided (binary_may_leave s (Some T) binary.Mul x y) w T (b + (term_size s.index x + term_size s.index y + 1)) ((coded_words L.constants s.index x + coded_words L.constants s.index y + 4)) (omega arith) (omega arith) (and_parts (takes_product op) (stays (binary_settles s (Some T) binary.Mul x y w) (Some T)) f).1
        (λ u v is js e out. operator_keeps _ L user x y hs s stand names m binary.Mul k T b u v at.ranged at.told cov h is js e out)
        (pair_runs (coded_words L.constants s.index x + coded_words L.constants s.index y) (omega arith) (omega arith) (omega arith) (home_high x hs s (Some T) b c (omega arith) h.1 safe) (λ p lo up made. home_apart x hs s (Some T) b c (omega arith) h.1 safe p lo up made)
        (loose_standing x s k T b c n _ (omega arith) both.0 safe at h.1 res)
        (λ t kept. plain_sided (loose_standing y s k T b1 c _ _ (omega arith) both.1 (safe_later L hs b b1 (omega arith) safe) (standing_kept L fit b b1 (omega arith) safe at kept) h.2 (loose_back D L fit x hs s k (Some T) b n _ res))))
    parts_standing (Shift left e z) {hs = hs} s {stand = stand} {names = names} {m = m} op w T b user n rest le cov f safe at h res =
        let k = shift_asks s (Some T) left e z w in
        moved_sided left (shift_may_leave s (Some T) left e z) z w T (b + (term_size s.index e + 1)) ((coded_words L.constants s.index e + 4)) (omega arith) (omega arith) (λ q. (and_parts left _ q).0) (and_parts (takes_shift op) (stays (shift_settles s (Some T) left e z w) (Some T)) f).1
        (λ x is whole. loose_range _ k L hs s stand names m e T b _ x h.1 at.ranged at.told cov is whole)
        (λ x is whole out. shift_keeps s m names at.ranged T left e z x (fits_types e L hs s (Some T) b _ h.1) (loose_value _ k L hs s stand names m e T b _ x h.1 at.ranged at.told cov is whole) (loose_range _ k L hs s stand names m e T b _ x h.1 at.ranged at.told cov is whole) out)
        (loose_standing e s k T b _ n _ (omega arith) cov safe at h.1 res)
    parts_standing (Operation binary.Add x y) s op w T b user n rest le cov f safe at h res = absurd (and_false-never (takes_product op) f)
    parts_standing (Operation binary.Sub x y) s op w T b user n rest le cov f safe at h res = absurd (and_false-never (takes_product op) f)
    parts_standing (Operation binary.And x y) s op w T b user n rest le cov f safe at h res = absurd (and_false-never (takes_product op) f)
    parts_standing (Operation binary.Or x y) s op w T b user n rest le cov f safe at h res = absurd (and_false-never (takes_product op) f)
    parts_standing (Operation binary.Xor x y) s op w T b user n rest le cov f safe at h res = absurd (and_false-never (takes_product op) f)
    parts_standing (Operation binary.Min x y) s op w T b user n rest le cov f safe at h res = absurd (and_false-never (takes_product op) f)
    parts_standing (Operation binary.Max x y) s op w T b user n rest le cov f safe at h res = absurd (and_false-never (takes_product op) f)
    parts_standing (Literal z) s op w T b user n rest le cov f safe at h res = absurd cc
    parts_standing (Variable x) s op w T b user n rest le cov f safe at h res = absurd cc
    parts_standing (Element a i) s op w T b user n rest le cov f safe at h res = absurd cc
    parts_standing (Unary o e) s op w T b user n rest le cov f safe at h res = absurd cc
    parts_standing (Conversion e t) {hs = hs} s {stand = stand} {names = names} {m = m} {st = st} op w T b user n rest le cov f safe at h res =
        let q = some_type (own s e) h.1 in
        let k = converted_extent w (own s e) t in
        let c = b + term_size s.index e in
        let inside = covers_at L.loose s k e (own s e) q.0 q.1 cov in
        let inner : LooseRuns D L e hs s stand names m st k b c n rest (own s e) = subst (λ o. LooseRuns D L e hs s stand names m st k b c n rest o) (sym q.1) (loose_standing e s k q.0 b c n rest (omega arith) inside safe at) in
        cast_sided (within_type w t) (fits_at (own s e) t) t (b + (term_size s.index e + 1)) ((coded_words L.constants s.index e + 4)) (omega arith) (omega arith) f (inner h.2 res)
    parts_standing (Choice c x y) s op w T b user n rest le cov f safe at h res = absurd cc
    parts_standing (Comparison o x y) s op w T b user n rest le cov f safe at h res = absurd cc
    parts_standing (Both x y) s op w T b user n rest le cov f safe at h res = absurd cc
    parts_standing (Either x y) s op w T b user n rest le cov f safe at h res = absurd cc
    parts_standing (Not e) s op w T b user n rest le cov f safe at h res = absurd cc

    -- a comparison, whose truth is in the flags
    flags_standing : (e : Term) {w : Fixed L} {hs : Homes} (s : Scope) {stand names : Names} {m : Memory} {st : State} (b n k : ℕ) (rest : List DraftEntry) → flag_condition s e ≡ Some k → covers_truth L.loose s e ≡ true → AreSafe L b hs → Standing w hs s.visible stand names m b st → FitsTruth L hs s b e → Resolves D (flags_code L hs s b n e rest)
        → Flagged D L (flags_code L hs s b n e rest) st rest b (b + term_size s.index e) k m (coded_words L.constants s.index e) (holds s e m names)
    flags_standing (Comparison op x y) {hs = hs} s {stand = stand} {names = names} {m = m} {st = st} b n k rest is cov safe at h res =
        let want = side_type s x y in
        let both = and_parts (covers L.loose s Whole want x) _ cov in
        let left = λ (T : Ty) (e : want ≡ Some T). covers_at L.loose s Whole x want T e both.0 in
        let right = λ (T : Ty) (e : want ≡ Some T). covers_at L.loose s Whole y want T e both.1 in
        let b1 = b + term_size s.index x in let c = b1 + term_size s.index y in
        let number = compared_number want y in
        let same : condition op (signed_side want) ≡ k = cc in
        subst (λ k. Flagged D L (flags_code L hs s b n (Comparison op x y) rest) st rest b (b + (term_size s.index x + term_size s.index y + 1)) k m ((coded_words L.constants s.index x + coded_words L.constants s.index y + 4)) (holds s (Comparison op x y) m names)) same
        (op_flags number (home L hs s.index b1 y) op (signed_side want) ((coded_words L.constants s.index x + coded_words L.constants s.index y + 4)) (omega arith) (omega arith) (omega arith) (home_high x hs s want b c (omega arith) h.1 safe) (compared_small want y)
        (sides_run x y hs s names b n _ safe h (λ T r e. exact _ hs b c n x s stand names m (Some T) at.ranged at.told (left T e) (loose_standing x s Whole T b c n r (omega arith) (left T e) safe at)) (λ T t e k. exact _ hs b1 c (n + labels s.index x) y s stand names m (Some T) at.ranged at.told (right T e) (loose_standing y s Whole T b1 c _ _ (omega arith) (right T e) (safe_later L hs b b1 (omega arith) safe) (standing_kept L fit b b1 (omega arith) safe at k))) res) (λ u v is js. sides_range x y hs s names m b u v at.ranged h is js))
    flags_standing (Literal z) s b n k rest is cov safe at h res = absurd cc
    flags_standing (Variable x) s b n k rest is cov safe at h res = absurd cc
    flags_standing (Element a i) s b n k rest is cov safe at h res = absurd cc
    flags_standing (Unary op e) s b n k rest is cov safe at h res = absurd cc
    flags_standing (Operation op x y) s b n k rest is cov safe at h res = absurd cc
    flags_standing (Shift left e z) s b n k rest is cov safe at h res = absurd cc
    flags_standing (Conversion e t) s b n k rest is cov safe at h res = absurd cc
    flags_standing (Choice c x y) s b n k rest is cov safe at h res = absurd cc
    flags_standing (Both x y) s b n k rest is cov safe at h res = absurd cc
    flags_standing (Either x y) s b n k rest is cov safe at h res = absurd cc
    flags_standing (Not e) s b n k rest is cov safe at h res = absurd cc

    -- what the code of a condition does
    pub jump_standing : (e : Term) {w : Fixed L} {hs : Homes} (s : Scope) {stand names : Names} {m : Memory} {st : State} (sense : Bool) (to b n : ℕ) (rest : List DraftEntry) → covers_truth L.loose s e ≡ true → AreSafe L b hs → Standing w hs s.visible stand names m b st → FitsTruth L hs s b e → Resolves D (jump_code L hs s sense to b n e rest)
        → Turns D L (jump_code L hs s sense to b n e rest) st to rest b (b + term_size s.index e) m (coded_words L.constants s.index e) sense (holds s e m names)
    jump_standing (Comparison op x y) {hs = hs} s {stand = stand} {names = names} {m = m} {st = st} sense to b n rest cov safe at h res =
        let want = side_type s x y in
        let both = and_parts (covers L.loose s Whole want x) _ cov in
        let left = λ (T : Ty) (e : want ≡ Some T). covers_at L.loose s Whole x want T e both.0 in
        let right = λ (T : Ty) (e : want ≡ Some T). covers_at L.loose s Whole y want T e both.1 in
        let b1 = b + term_size s.index x in let c = b1 + term_size s.index y in
        let hx = home_high x hs s want b c (omega arith) h.1 safe in
        op_turns (compare_on op) ((coded_words L.constants s.index x + coded_words L.constants s.index y + 4)) (omega arith) (omega arith) (omega arith)
        (sides_run x y hs s names b n _ safe h (λ T r e. exact _ hs b c n x s stand names m (Some T) at.ranged at.told (left T e) (loose_standing x s Whole T b c n r (omega arith) (left T e) safe at)) (λ T t e k. exact _ hs b1 c (n + labels s.index x) y s stand names m (Some T) at.ranged at.told (right T e) (loose_standing y s Whole T b1 c _ _ (omega arith) (right T e) (safe_later L hs b b1 (omega arith) safe) (standing_kept L fit b b1 (omega arith) safe at k))) res)
        (λ t u v is js ex ey. let r = sides_range x y hs s names m b u v at.ranged h is js in branch_goes D L fit to rest op (compared_number want y) sense (signed_side want) u v (home L hs s.index b x) (home L hs s.index b1 y) c (b + (term_size s.index x + term_size s.index y + 1)) (compared_small want y) hx r.0 r.1 ex ey)
    jump_standing (Both x y) {hs = hs} s true to b n rest cov safe at h res =
        let both = and_parts (covers_truth L.loose s x) _ cov in
        let b1 = b + term_size s.index x in
        let r1 = jump_back D L fit x hs s false n b (n + 1) _ res in
        let r2 = jump_back D L fit y hs s true to b1 _ _ r1 in
        over_turn D L fit false ((coded_words L.constants s.index x + coded_words L.constants s.index y + 4)) (omega arith) (omega arith) (omega arith) (omega arith) r2.0
        (jump_standing x s false n b (n + 1) _ both.0 safe at h.0 res)
        (λ t k. jump_standing y s true to b1 _ _ both.1 (safe_later L hs b b1 (omega arith) safe) (standing_kept L fit b b1 (omega arith) safe at k) h.1 r1)
    jump_standing (Both x y) {hs = hs} s false to b n rest cov safe at h res =
        let both = and_parts (covers_truth L.loose s x) _ cov in
        let b1 = b + term_size s.index x in
        let r1 = jump_back D L fit x hs s false to b (n + 1) _ res in
        both_turn D L fit false ((coded_words L.constants s.index x + coded_words L.constants s.index y + 4)) (omega arith) (omega arith) (omega arith) (omega arith)
        (jump_standing x s false to b (n + 1) _ both.0 safe at h.0 res)
        (λ t k. jump_standing y s false to b1 _ _ both.1 (safe_later L hs b b1 (omega arith) safe) (standing_kept L fit b b1 (omega arith) safe at k) h.1 r1)
    jump_standing (Either x y) {hs = hs} s true to b n rest cov safe at h res =
        let both = and_parts (covers_truth L.loose s x) _ cov in
        let b1 = b + term_size s.index x in
        let b2 = b1 + 1 in
        let r1 = jump_back D L fit x hs s true to b (n + 1) _ res in
        both_turn D L fit true ((coded_words L.constants s.index x + 4 + coded_words L.constants s.index y + 4)) (omega arith) (omega arith) (omega arith) (omega arith)
        (turns_more D L fit b2 (coded_words L.constants s.index x) (omega arith) (omega arith) (jump_standing x s true to b (n + 1) _ both.0 safe at h.0 res))
        (λ t k. jump_standing y s true to b2 _ _ both.1 (safe_later L hs b b2 (omega arith) safe) (standing_kept L fit b b2 (omega arith) safe at k) h.1 r1)
    jump_standing (Either x y) {hs = hs} s false to b n rest cov safe at h res =
        let both = and_parts (covers_truth L.loose s x) _ cov in
        let b1 = b + term_size s.index x in
        let b2 = b1 + 1 in
        let r1 = jump_back D L fit x hs s true n b (n + 1) _ res in
        let r2 = jump_back D L fit y hs s false to b2 _ _ r1 in
        over_turn D L fit true ((coded_words L.constants s.index x + 4 + coded_words L.constants s.index y + 4)) (omega arith) (omega arith) (omega arith) (omega arith) r2.0
        (turns_more D L fit b2 (coded_words L.constants s.index x) (omega arith) (omega arith) (jump_standing x s true n b (n + 1) _ both.0 safe at h.0 res))
        (λ t k. jump_standing y s false to b2 _ _ both.1 (safe_later L hs b b2 (omega arith) safe) (standing_kept L fit b b2 (omega arith) safe at k) h.1 r1)
    jump_standing (Not e) s sense to b n rest cov safe at h res =
        turns_more D L fit _ ((coded_words L.constants s.index e + 4)) (omega arith) (omega arith) (not_turns D L fit sense (jump_standing e s (not sense) to b n rest cov safe at h res))
    jump_standing (Literal z) s sense to b n rest cov safe at h res = absurd h
    jump_standing (Variable x) s sense to b n rest cov safe at h res = absurd h
    jump_standing (Element a i) s sense to b n rest cov safe at h res = absurd h
    jump_standing (Unary op e) s sense to b n rest cov safe at h res = absurd h
    jump_standing (Operation op x y) s sense to b n rest cov safe at h res = absurd h
    jump_standing (Shift left e z) s sense to b n rest cov safe at h res = absurd h
    jump_standing (Conversion e t) s sense to b n rest cov safe at h res = absurd h
    jump_standing (Choice c x y) s sense to b n rest cov safe at h res = absurd h

  -- ---- the same of registers that have what stands of the names

  -- what the code of an expression does
  pub loose_runs : (e : Term) {W : Fixed L} {hs : Homes} (s : Scope) {names : Names} {m : Memory} {st : State} (w : Extent) (T : Ty) (b user n : ℕ) (rest : List DraftEntry) → b + term_size s.index e ≤ user → covers L.loose s w (Some T) e ≡ true → AreSafe L b hs → (at : At W hs s.visible names m b st) → LooseRuns D L e hs s at.stand names m st w b user n rest (Some T)
  loose_runs e s w T b user n rest le cov safe at = loose_standing e s w T b user n rest le cov safe (standing at)

  pub parts_runs : (e : Term) {W : Fixed L} {hs : Homes} (s : Scope) {names : Names} {m : Memory} {st : State} (op : BinaryOp) (w : Extent) (T : Ty) (b user n : ℕ) (rest : List DraftEntry) → b + term_size s.index e ≤ user → covers L.loose s w (Some T) e ≡ true → is_fused s op w (Some T) e ≡ true → AreSafe L b hs → (at : At W hs s.visible names m b st) → Fits L hs s (Some T) b user e
      → Resolves D (parts_code L hs s w (Some T) b n e rest)
      → Sided D L (parts_code L hs s w (Some T) b n e rest) st rest b (b + term_size s.index e) (IsOperand (part_side L hs s.index (Some T) b e)) m (coded_words L.constants s.index e) (loose s w (Some T) e m at.stand names)
  parts_runs e s op w T b user n rest le cov f safe at h res = parts_standing e s op w T b user n rest le cov f safe (standing at) h res

  -- what the code of a condition does
  pub jump_runs : (e : Term) {w : Fixed L} {hs : Homes} (s : Scope) {names : Names} {m : Memory} {st : State} (sense : Bool) (to b n : ℕ) (rest : List DraftEntry) → covers_truth L.loose s e ≡ true → AreSafe L b hs → At w hs s.visible names m b st → FitsTruth L hs s b e → Resolves D (jump_code L hs s sense to b n e rest)
      → Turns D L (jump_code L hs s sense to b n e rest) st to rest b (b + term_size s.index e) m (coded_words L.constants s.index e) sense (holds s e m names)
  jump_runs e s sense to b n rest cov safe at h res = jump_standing e s sense to b n rest cov safe (standing at) h res

  -- the right side of an operator
  pub side_runs : (e : Term) {W : Fixed L} {hs : Homes} (s : Scope) {names : Names} {m : Memory} {st : State} (op : BinaryOp) (w : Extent) (T : Ty) (b user n : ℕ) (rest : List DraftEntry) → b + term_size s.index e ≤ user → covers L.loose s w (Some T) e ≡ true → AreSafe L b hs → (at : At W hs s.visible names m b st) → Fits L hs s (Some T) b user e
      → Resolves D (side_code (added_number op (Some T) e) (is_fused s op w (Some T) e) (loose_code L hs s w (Some T) b n e) (parts_code L hs s w (Some T) b n e) rest)
      → Sided D L (side_code (added_number op (Some T) e) (is_fused s op w (Some T) e) (loose_code L hs s w (Some T) b n e) (parts_code L hs s w (Some T) b n e) rest) st rest b (b + term_size s.index e) (IsOperand (right_side L hs s op w (Some T) b e)) m (coded_words L.constants s.index e) (loose s w (Some T) e m at.stand names)
  side_runs e {hs = hs} s {names = names} {m = m} op w T b user n rest le cov safe at h res =
      sided_by _ _ (loose s w (Some T) e m at.stand names) (added_number op (Some T) e) (is_fused s op w (Some T) e) (home L hs s.index b e) (part_side L hs s.index (Some T) b e) (added_right op s w (Some T) e m at.stand names) res
      (λ r. loose_runs e s w T b user n rest le cov safe at h r) (λ f r. parts_runs e s op w T b user n rest le cov f safe at h r)

  -- a value itself
  pub value_runs : (e : Term) {w : Fixed L} {hs : Homes} (s : Scope) {names : Names} {m : Memory} {st : State} (T : Ty) (b user n : ℕ) (rest : List DraftEntry) → b + term_size s.index e ≤ user → covers L.loose s Whole (Some T) e ≡ true → AreSafe L b hs → At w hs s.visible names m b st → Runs D L e hs s names m st b user n rest (Some T)
  value_runs e {hs = hs} s {names = names} {m = m} T b user n rest le cov safe at = exact _ hs b user n e s at.stand names m (Some T) at.ranged at.told cov (loose_runs e s Whole T b user n rest le cov safe at)
