-- What is known of each expression of a checked kernel's loop: its items, the types of its places, and its stream indexes.
use Rattle.std.proofs.Common.{◌≡◌, ℕ, ◌+◌, ℤ, Bool, true, false, List, [], Option, Some, None, refl, sym, ap, ◌∙◌, subst}
use Rattle.std.specs.Prelude.{is_none, option_and_then}
use Rattle.kernel_tree.specs.declared.ops.Ty.{Ty}
use Rattle.kernel_tree.specs.Plain.{Term, Literal, Variable, Element, Unary, Operation, Shift, Conversion, Choice, Comparison, Both, Either, Not, Program}
use Rattle.kernel_tree.specs.Wrap.{bits_of}
use Rattle.kernel_tree.specs.Items.{term_size, index_items, stream_offset, loop_index}
use Rattle.kernel_tree.specs.Typing.{Scope, Local, Value, Condition, lookup, own, first, element_type, value_type, index_type, side_type, faults, as_value, as_condition, mismatch, read_faults, inner_faults, is_below, shift_faults, inner_types, term_types}
use Rattle.kernel_tree.proofs.Faultless.{nil-left, nil-right, never}
use Rattle.kernel_tree.proofs.NoFault.{is_empty, no_mismatch, no_name, no_read, untyped_some}
use Rattle.loop_form.specs.Entries.{IsLiteral, IsName, IsRead, IsPlain, inner_entries, term_entries}
use Rattle.chunk_emit.specs.Fits.{IsNear}
use Rattle.loop_form.proofs.ItemTypes.{matches_inner, term_matches}
use Rattle.loop_form.specs.Lanes.{lane_width_of}
use Rattle.guest_types.specs.declared.length.Width.TheVariants.{D}
use Rattle.kernel_tree.specs.declared.ops.Ty.TheVariants.{U64}
use Rattle.chunk_emit.proofs.FitsKnown.{Part, part_left, part_right, part_following, At, known_at_head}
use Rattle.loop_form.specs.Near as near
use Rattle.loop_form.specs.declared.item.ItemKind.TheVariants as kind
use Rattle.loop_form.specs.Near as near

-- ---- what no fault tells

no_shift : (item : ℕ) (T : Ty) (n : ℤ) → shift_faults item (Some T) n ≡ [] → is_below n (bits_of T) ≡ true
no_shift item T n e = is_empty (is_below n (bits_of T)) _ _ e

-- a stream index, with its offset
pub record IsStream (i : Option (List ℕ)) (j : Term) : Type 0 where
  pub offset : ℤ
  pub is : stream_offset i j ≡ Some offset
  pub near : IsNear offset

pub is_stream : (i : Option (List ℕ)) (j : Term) → is_none (stream_offset i j) ≡ false → near.IsNear (stream_offset i j) → IsStream i j
is_stream i j streamed is_near = by (stream_offset i j) refl streamed is_near
  where
    by : (o : Option ℤ) → stream_offset i j ≡ o → is_none o ≡ false → near.IsNear o → IsStream i j
    by None e s n = absurd cc
    by (Some c) e s n = record { offset = c; is = e; near = n }

-- a stream index has a near offset, and of a computed one more is known
abbrev pub IndexBy : Option ℤ → Type 0 → Type 0
IndexBy (Some c) N = IsNear c
IndexBy None N = N

index_by : {N : Type 0} (o : Option ℤ) → near.IsNear o → (o ≡ None → N) → IndexBy o N
index_by None n f = f refl
index_by (Some c) n f = n

first_of : (o : Option Ty) → (T : Ty) × (first o (Some U64) ≡ Some T)
first_of None = (U64, refl)
first_of (Some t) = (t, refl)

-- ---- expressions

abbrev mutual
  -- a value of a type whose items begin at b, and which item `user` uses
  pub KnownValue : Program → Scope → Ty → (b user : ℕ) → Term → Type 0
  KnownValue k s T b user (Literal n) = At k b (IsLiteral n) user (Some T)
  KnownValue k s T b user (Variable x) = At k b (IsName x) user (Some T) × (option_and_then value_type (lookup s x) ≡ Some T)
  KnownValue k s T b user (Element a j) = At k (b + index_items (loop_index k) j) (IsRead a j) user (Some T) × (option_and_then element_type (lookup s a) ≡ Some T)
      × IndexBy (stream_offset (loop_index k) j) ((U : Ty) × (index_type s j ≡ Some U) × KnownValue k s U b (b + index_items (loop_index k) j) j × (lane_width_of k ≡ D))
  KnownValue k s T b user (Unary op e) = KnownValue k s T b (b + term_size (loop_index k) e) e × At k (b + term_size (loop_index k) e) (IsPlain kind.Unary) user (Some T)
  KnownValue k s T b user (Operation op x y) =
      KnownValue k s T b (b + term_size (loop_index k) x + term_size (loop_index k) y) x
      × KnownValue k s T (b + term_size (loop_index k) x) (b + term_size (loop_index k) x + term_size (loop_index k) y) y
      × At k (b + term_size (loop_index k) x + term_size (loop_index k) y) (IsPlain kind.Binary) user (Some T)
  KnownValue k s T b user (Shift left e n) = KnownValue k s T b (b + term_size (loop_index k) e) e × At k (b + term_size (loop_index k) e) (IsPlain kind.Shift) user (Some T) × (is_below n (bits_of T) ≡ true)
  KnownValue k s T b user (Conversion e t) =
      (S : Ty) × (own s e ≡ Some S) × KnownValue k s S b (b + term_size (loop_index k) e) e × At k (b + term_size (loop_index k) e) (IsPlain kind.Cast) user (Some T) × (T ≡ t)
  KnownValue k s T b user (Choice c x y) =
      KnownValue k s T b (b + term_size (loop_index k) x + term_size (loop_index k) y + term_size (loop_index k) c) x
      × KnownValue k s T (b + term_size (loop_index k) x) (b + term_size (loop_index k) x + term_size (loop_index k) y + term_size (loop_index k) c) y
      × KnownTruth k s (b + term_size (loop_index k) x + term_size (loop_index k) y) (b + term_size (loop_index k) x + term_size (loop_index k) y + term_size (loop_index k) c) c
      × At k (b + term_size (loop_index k) x + term_size (loop_index k) y + term_size (loop_index k) c) (IsPlain kind.Select) user (Some T)
  KnownValue k s T b user (Comparison op x y) = ⊥
  KnownValue k s T b user (Both x y) = ⊥
  KnownValue k s T b user (Either x y) = ⊥
  KnownValue k s T b user (Not e) = ⊥

  -- a condition
  pub KnownTruth : Program → Scope → (b user : ℕ) → Term → Type 0
  KnownTruth k s b user (Comparison op x y) =
      (S : Ty) × (side_type s x y ≡ Some S) × KnownValue k s S b (b + term_size (loop_index k) x + term_size (loop_index k) y) x
      × KnownValue k s S (b + term_size (loop_index k) x) (b + term_size (loop_index k) x + term_size (loop_index k) y) y
      × At k (b + term_size (loop_index k) x + term_size (loop_index k) y) (IsPlain kind.Compare) user None
  KnownTruth k s b user (Both x y) =
      KnownTruth k s b (b + term_size (loop_index k) x + term_size (loop_index k) y) x
      × KnownTruth k s (b + term_size (loop_index k) x) (b + term_size (loop_index k) x + term_size (loop_index k) y) y
      × At k (b + term_size (loop_index k) x + term_size (loop_index k) y) (IsPlain kind.And) user None
  KnownTruth k s b user (Either x y) =
      KnownTruth k s b (b + term_size (loop_index k) x + 1 + term_size (loop_index k) y) x
      × At k (b + term_size (loop_index k) x) (IsPlain kind.Mark) (b + term_size (loop_index k) x + 1 + term_size (loop_index k) y) None
      × KnownTruth k s (b + term_size (loop_index k) x + 1) (b + term_size (loop_index k) x + 1 + term_size (loop_index k) y) y
      × At k (b + term_size (loop_index k) x + 1 + term_size (loop_index k) y) (IsPlain kind.Or) user None
  KnownTruth k s b user (Not e) = KnownTruth k s b (b + term_size (loop_index k) e) e × At k (b + term_size (loop_index k) e) (IsPlain kind.Not) user None
  KnownTruth k s b user (Literal n) = ⊥
  KnownTruth k s b user (Variable x) = ⊥
  KnownTruth k s b user (Element a e) = ⊥
  KnownTruth k s b user (Unary op e) = ⊥
  KnownTruth k s b user (Operation op x y) = ⊥
  KnownTruth k s b user (Shift left e n) = ⊥
  KnownTruth k s b user (Conversion e t) = ⊥
  KnownTruth k s b user (Choice c x y) = ⊥

module _ (k : Program) (v : List Local) (tk : List (List ℕ)) (ins : Bool) where
  abbrev S : Scope
  S = record { visible = v; taken = tk; index = loop_index k; inside = ins }

  abbrev i : Option (List ℕ)
  i = loop_index k

  mutual
    pub value_known : (t : Term) (T : Ty) (f b user : ℕ) → faults S f (Value (Some T)) t ≡ [] → Part k (term_entries k b user t) (term_types S (Value (Some T)) t) → KnownValue k S T b user t
    value_known (Literal n) T f b user e p = known_at_head k b _ user [] (Some T) [] p
    value_known (Variable x) T f b user e p = (known_at_head k b _ user [] (Some T) [] p, no_name f T (lookup S x) (nil-right (as_value f (Value (Some T))) _ e))
    value_known (Element a j) T f b user e p =
        let o = stream_offset i j in
        let item = f + index_items i j in
        let q = b + index_items i j in
        let fs = faults S f (Value (index_type S j)) j in
        let e2 = nil-right (as_value item (Value (Some T))) _ (nil-right (inner_faults o fs) _ e) in
        let es = term_entries k b q j in
        let ts = term_types S (Value (index_type S j)) j in
        let at = known_at_head k q _ user [] (Some T) [] (part_right k (inner_entries o es) _ (inner_types o ts) _ (matches_inner k o es ts (term_matches k j S _ b q refl)) p) in (
          at,
          no_read item ins T (lookup S a) (nil-left (read_faults item ins (Some T) (lookup S a)) _ e2),
          index_by o at.known.near (λ none.
              let U = first_of (own S j) in
              let inner_known : Part k es ts = subst (λ (o : Option ℤ). Part k (inner_entries o es) (inner_types o ts)) none (part_left k (inner_entries o es) _ (inner_types o ts) _ (matches_inner k o es ts (term_matches k j S _ b q refl)) p) in
              let fine : fs ≡ [] = subst (λ (o : Option ℤ). inner_faults o fs ≡ []) none (nil-left (inner_faults o fs) _ e) in (
                U.0,
                U.1,
                value_known j U.0 f b q (subst (λ w. faults S f (Value w) j ≡ []) U.1 fine) (subst (λ w. Part k es (term_types S (Value w) j)) U.1 inner_known),
                at.known.wide_read (ap is_none none),
              )),
        )
    value_known (Unary op x) T f b user e p =
        let q = b + term_size i x in
        let m = term_matches k x S (Value (Some T)) b q refl in
        (value_known x T f b q (nil-left (faults S f (Value (Some T)) x) _ e) (part_left k (term_entries k b q x) _ _ _ m p), known_at_head k q _ user [] (Some T) [] (part_right k (term_entries k b q x) _ _ _ m p))
    value_known (Operation op x y) T f b user e p =
        let b1 = b + term_size i x in let q = b1 + term_size i y in
        let m = term_matches k x S (Value (Some T)) b q refl in
        let n = term_matches k y S (Value (Some T)) b1 q refl in
        let p2 = part_right k (term_entries k b q x) _ _ _ m p in
        let e2 = nil-right (faults S f (Value (Some T)) x) _ e in (
          value_known x T f b q (nil-left (faults S f (Value (Some T)) x) _ e) (part_left k (term_entries k b q x) _ _ _ m p),
          value_known y T (f + term_size i x) b1 q (nil-left (faults S (f + term_size i x) (Value (Some T)) y) _ e2) (part_left k (term_entries k b1 q y) _ _ _ n p2),
          known_at_head k q _ user [] (Some T) [] (part_right k (term_entries k b1 q y) _ _ _ n p2),
        )
    value_known (Shift to_left x n) T f b user e p =
        let q = b + term_size i x in
        let m = term_matches k x S (Value (Some T)) b q refl in
        let e2 = nil-right (as_value (f + term_size i x) (Value (Some T))) _ (nil-right (faults S f (Value (Some T)) x) _ e) in (
          value_known x T f b q (nil-left (faults S f (Value (Some T)) x) _ e) (part_left k (term_entries k b q x) _ _ _ m p),
          known_at_head k q _ user [] (Some T) [] (part_right k (term_entries k b q x) _ _ _ m p),
          no_shift (f + term_size i x) T n e2,
        )
    value_known (Conversion x t) T f b user e p =
        let q = b + term_size i x in
        let m = term_matches k x S (Value (own S x)) b q refl in
        let e2 = nil-right (as_value (f + term_size i x) (Value (Some T))) _ (nil-right (faults S f (Value (own S x)) x) _ e) in
        let w = untyped_some _ (own S x) (nil-right (mismatch (f + term_size i x) (Some T) t) _ e2) in
        let px = part_left k (term_entries k b q x) _ _ _ m p in (
          w.0,
          w.1,
          value_known x w.0 f b q (sym (ap (λ o. faults S f (Value o) x) w.1) ∙ nil-left (faults S f (Value (own S x)) x) _ e) (subst (λ o. Part k (term_entries k b q x) (term_types S (Value o) x)) w.1 px),
          known_at_head k q _ user [] (Some T) [] (part_right k (term_entries k b q x) _ _ _ m p),
          no_mismatch _ T t (nil-left (mismatch (f + term_size i x) (Some T) t) _ e2),
        )
    value_known (Choice c x y) T f b user e p =
        let b1 = b + term_size i x in let b2 = b1 + term_size i y in let q = b2 + term_size i c in
        let m = term_matches k x S (Value (Some T)) b q refl in
        let n = term_matches k y S (Value (Some T)) b1 q refl in
        let r = term_matches k c S Condition b2 q refl in
        let p2 = part_right k (term_entries k b q x) _ _ _ m p in
        let p3 = part_right k (term_entries k b1 q y) _ _ _ n p2 in
        let e2 = nil-right (faults S f (Value (Some T)) x) _ e in
        let e3 = nil-right (faults S (f + term_size i x) (Value (Some T)) y) _ e2 in (
          value_known x T f b q (nil-left (faults S f (Value (Some T)) x) _ e) (part_left k (term_entries k b q x) _ _ _ m p),
          value_known y T (f + term_size i x) b1 q (nil-left (faults S (f + term_size i x) (Value (Some T)) y) _ e2) (part_left k (term_entries k b1 q y) _ _ _ n p2),
          truth_known c (f + term_size i x + term_size i y) b2 q (nil-left (faults S (f + term_size i x + term_size i y) Condition c) _ e3) (part_left k (term_entries k b2 q c) _ _ _ r p3),
          known_at_head k q _ user [] (Some T) [] (part_right k (term_entries k b2 q c) _ _ _ r p3),
        )
    value_known (Comparison op x y) T f b user e p = absurd (never (nil-left (as_condition (f + term_size i x + term_size i y) (Value (Some T))) _ (nil-right (faults S (f + term_size i x) (Value (side_type S x y)) y) _ (nil-right (faults S f (Value (side_type S x y)) x) _ e))))
    value_known (Both x y) T f b user e p = absurd (never (nil-right (faults S (f + term_size i x) Condition y) _ (nil-right (faults S f Condition x) _ e)))
    value_known (Either x y) T f b user e p = absurd (never (nil-right (faults S (f + term_size i x + 1) Condition y) _ (nil-right (faults S f Condition x) _ e)))
    value_known (Not x) T f b user e p = absurd (never (nil-right (faults S f Condition x) _ e))

    pub truth_known : (t : Term) (f b user : ℕ) → faults S f Condition t ≡ [] → Part k (term_entries k b user t) (term_types S Condition t) → KnownTruth k S b user t
    truth_known (Comparison op x y) f b user e p =
        let w = side_type S x y in
        let b1 = b + term_size i x in let q = b1 + term_size i y in
        let m = term_matches k x S (Value w) b q refl in
        let n = term_matches k y S (Value w) b1 q refl in
        let p1 = part_left k (term_entries k b q x) _ _ _ m p in
        let p2 = part_right k (term_entries k b q x) _ _ _ m p in
        let p3 = part_left k (term_entries k b1 q y) _ _ _ n p2 in
        let e1 = nil-left (faults S f (Value w) x) _ e in
        let e2 = nil-right (faults S f (Value w) x) _ e in
        let e3 = nil-left (faults S (f + term_size i x) (Value w) y) _ e2 in
        let known = untyped_some _ w (nil-right (as_condition (f + term_size i x + term_size i y) Condition) _ (nil-right (faults S (f + term_size i x) (Value w) y) _ e2)) in (
          known.0,
          known.1,
          value_known x known.0 f b q (sym (ap (λ o. faults S f (Value o) x) known.1) ∙ e1) (subst (λ o. Part k (term_entries k b q x) (term_types S (Value o) x)) known.1 p1),
          value_known y known.0 (f + term_size i x) b1 q (sym (ap (λ o. faults S (f + term_size i x) (Value o) y) known.1) ∙ e3) (subst (λ o. Part k (term_entries k b1 q y) (term_types S (Value o) y)) known.1 p3),
          known_at_head k q _ user [] None [] (part_right k (term_entries k b1 q y) _ _ _ n p2),
        )
    truth_known (Both x y) f b user e p =
        let b1 = b + term_size i x in let q = b1 + term_size i y in
        let m = term_matches k x S Condition b q refl in
        let n = term_matches k y S Condition b1 q refl in
        let p2 = part_right k (term_entries k b q x) _ _ _ m p in
        let e2 = nil-right (faults S f Condition x) _ e in (
          truth_known x f b q (nil-left (faults S f Condition x) _ e) (part_left k (term_entries k b q x) _ _ _ m p),
          truth_known y (f + term_size i x) b1 q (nil-left (faults S (f + term_size i x) Condition y) _ e2) (part_left k (term_entries k b1 q y) _ _ _ n p2),
          known_at_head k q _ user [] None [] (part_right k (term_entries k b1 q y) _ _ _ n p2),
        )
    truth_known (Either x y) f b user e p =
        let mark = b + term_size i x in let q = mark + 1 + term_size i y in
        let m = term_matches k x S Condition b q refl in
        let n = term_matches k y S Condition (mark + 1) q refl in
        let p2 = part_right k (term_entries k b q x) _ _ _ m p in
        let p3 = part_following k _ _ None _ p2 in
        let e2 = nil-right (faults S f Condition x) _ e in (
          truth_known x f b q (nil-left (faults S f Condition x) _ e) (part_left k (term_entries k b q x) _ _ _ m p),
          known_at_head k mark _ q _ None _ p2,
          truth_known y (f + term_size i x + 1) (mark + 1) q (nil-left (faults S (f + term_size i x + 1) Condition y) _ e2) (part_left k (term_entries k (mark + 1) q y) _ _ _ n p3),
          known_at_head k q _ user [] None [] (part_right k (term_entries k (mark + 1) q y) _ _ _ n p3),
        )
    truth_known (Not x) f b user e p =
        let q = b + term_size i x in
        let m = term_matches k x S Condition b q refl in
        (truth_known x f b q (nil-left (faults S f Condition x) _ e) (part_left k (term_entries k b q x) _ _ _ m p), known_at_head k q _ user [] None [] (part_right k (term_entries k b q x) _ _ _ m p))
    truth_known (Literal n) f b user e p = absurd cc
    truth_known (Variable x) f b user e p = absurd cc
    truth_known (Element a j) f b user e p = absurd (never (nil-left (as_value (f + index_items i j) Condition) _ (nil-right (inner_faults (stream_offset i j) (faults S f (Value (index_type S j)) j)) _ e)))
    truth_known (Unary op x) f b user e p = absurd (never (nil-right (faults S f (Value None) x) _ e))
    truth_known (Operation op x y) f b user e p = absurd (never (nil-right (faults S (f + term_size i x) (Value None) y) _ (nil-right (faults S f (Value None) x) _ e)))
    truth_known (Shift to_left x n) f b user e p = absurd (never (nil-left (as_value (f + term_size i x) Condition) _ (nil-right (faults S f (Value None) x) _ e)))
    truth_known (Conversion x t) f b user e p = absurd (never (nil-left (as_value (f + term_size i x) Condition) _ (nil-right (faults S f (Value (own S x)) x) _ e)))
    truth_known (Choice c x y) f b user e p = absurd (never (nil-right (faults S (f + term_size i x + term_size i y) Condition c) _ (nil-right (faults S (f + term_size i x) (Value None) y) _ (nil-right (faults S f (Value None) x) _ e))))
