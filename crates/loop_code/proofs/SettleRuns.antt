-- What the words after the last iteration do: the values of all names but arrays stand in their registers again.
use Rattle.std.proofs.Common.{◌≡◌, ℕ, ◌+◌, ◌%◌, ◌^◌, ◌<◌, ◌≤◌, List, [], ◌∷◌, ◌++◌, length, Some, None, refl, sym, ap, ap₂, ◌∙◌, subst, arith, append_assoc}
use Rattle.std.specs.Prelude.{ℤ, pos, ◌+ℤ◌}
use Rattle.std.proofs.lemmas.Int.{ints}
use Rattle.std.proofs.Math.Nat.{mod-eq_of_lt}
use Rattle.machine_model.specs.Machine.{State, x_at}
use Rattle.machine_model.specs.Arithmetic.{sum, shifted_word}
use Rattle.a64_code.specs.Table.{add}
use Rattle.kernel_tree.specs.declared.ops.Ty.{Ty}
use Rattle.kernel_tree.specs.declared.ops.Ty.TheVariants as ty
use Rattle.kernel_tree.specs.Typing.{Scope, lookup}
use Rattle.kernel_tree.specs.Wrap.{wrap, bits_of}
use Rattle.kernel_meaning.specs.Operators.{word}
use Rattle.kernel_meaning.specs.Eval.{Names, value_at}
use Rattle.kernel_meaning.specs.Iterate.{assigned}
use Rattle.kernel_meaning.specs.TypeValues.{IsOf}
use Rattle.kernel_meaning.proofs.TypeRanges.{wrap-of}
use Rattle.kernel_meaning.proofs.NameRanges.{name_range, acc_value}
use Rattle.label_fix.specs.DraftRun.{DraftEntry, Laid, word_of}
use Rattle.label_fix.proofs.StretchSteps.{Goes, Resolves, stay, go_more, chain}
use Rattle.scalar_words.specs.Layout.{Form, LowBits, Ahead, Behind, Loose, loose_in, Layout, Homes, register_at, NameLasts}
use Rattle.scalar_words.specs.Words.{word_code}
use Rattle.scalar_words.proofs.LayoutStates.{Assigned, AreSafe, AreInRegisters, Tells, Told, AreRanged, TypeRange, name_held, name_found}
use Rattle.scalar_words.proofs.Told.{told_found}
use Rattle.scalar_words.proofs.WordsRuns.{Sets, extended_sets}
use Rattle.scalar_words.proofs.Constants.{word_back}
use Rattle.value_code.proofs.Loads.{word-sum}
use Rattle.value_code.proofs.Loose.{wrap-alike}
use Rattle.loop_code.specs.Loosening.{keep_ahead, after_loop}
use Rattle.loop_code.specs.Loop.{settle_form, settle_code, IsFormed, AreHeldLoosely}
use Rattle.loop_code.proofs.StmtRuns.{held_assigned}
use Rattle.loop_code.proofs.LooseNames.{AreOnce, first_in, before_none, after_none, loose_in_past, without, once_without, told_changed, settling_words, all_settling}
use Rattle.loop_code.proofs.EnterRuns.{AreUnlike, wrote_sets, bound_apart}

type_wraps : (t : Ty) (z v : ℤ) → word z % 2 ^ bits_of t ≡ word v % 2 ^ bits_of t → wrap t z ≡ wrap t v
type_wraps ty.I8 z v e = wrap-alike ty.I8 z v e
type_wraps ty.U8 z v e = wrap-alike ty.U8 z v e
type_wraps ty.I16 z v e = wrap-alike ty.I16 z v e
type_wraps ty.U16 z v e = wrap-alike ty.U16 z v e
type_wraps ty.I32 z v e = wrap-alike ty.I32 z v e
type_wraps ty.U32 z v e = wrap-alike ty.U32 z v e
type_wraps ty.I64 z v e = wrap-alike ty.I64 z v e
type_wraps ty.U64 z v e = wrap-alike ty.U64 z v e

module _ (D : Laid) where
  pub settle_back : (r : ℕ) (hs : Homes) (ls : List Loose) (rest : List DraftEntry) → Resolves D (settle_code r hs ls rest) → Resolves D rest
  settle_back r hs [] rest h = h
  settle_back r hs (l ∷ ls) rest h = settle_back r hs ls rest (word_back D (settle_form r (register_at hs l.name) l.form) _ h)

  -- the values stand in the registers, but for those of arrays
  pub record Settles (c : List DraftEntry) (s : State) (rest : List DraftEntry) (hs : Homes) (ls : List Loose) (ns : Names) (p n most : ℕ) : Type 0 where
    pub end : State
    pub goes : Goes D c s rest end most
    pub memory : end.memory ≡ s.memory
    pub sized : length end.x ≡ length s.x
    pub stand : Names
    pub told : Told ls n stand ns
    pub held : AreInRegisters hs stand p end

module _ (D : Laid) (L : Layout) (fit : Assigned L) (hs : Homes) (sc : Scope) (p : ℕ) (safe : AreSafe L p hs) (y : List ℕ) (r n : ℕ) (lasts : NameLasts hs y p) (same : register_at hs y ≡ r) (small : n < 2 ^ 64) where
  bound_high : r ≤ 25
  bound_high = let f = (name_found L hs y p p (omega arith) safe lasts).high in omega (arith, f, same)

  -- a value that stands in its register again, and the rest
  settle_more : (l : Loose) (ls done : List Loose) (rest : List DraftEntry) (zs ns : Names) (s : State) {c : List DraftEntry} (most : ℕ) → length s.x ≡ 31 → AreHeldLoosely hs sc p (l ∷ ls) → AreUnlike y (l ∷ ls) → AreOnce (done ++ l ∷ ls) → x_at s r ≡ n → Told (done ++ l ∷ ls) n zs ns → AreInRegisters hs zs p s
      → Sets D c s (settle_code r hs ls rest) (register_at hs l.name) (value_at ns l.name) most
      → ((zs : Names) (s : State) → length s.x ≡ 31 → AreOnce (done ++ ls) → x_at s r ≡ n → Told (done ++ ls) n zs ns → AreInRegisters hs zs p s → Settles D (settle_code r hs ls rest) s rest hs (done ++ after_loop ls) ns p n (all_settling ls))
      → Settles D c s rest hs (done ++ after_loop ls) ns p n (most + all_settling ls)
  settle_more l ls done rest zs ns s most sized are unlike once bound told held k more =
      let x = l.name in
      let q = register_at hs x in
      let v = value_at ns x in
      let only = are.0.1.1 in
      let none : loose_in (done ++ ls) x ≡ None = loose_in_past done ls x (before_none done l ls once) ∙ after_none done l ls once in
      let tells : Tells n (loose_in (done ++ ls) x) v v = subst (λ o. Tells n o v v) (sym none) refl in
      let told1 = told_changed (done ++ l ∷ ls) (done ++ ls) n x v hs zs ns p s (λ w e. without done l ls w e) are.0.2 held told tells in
      let f = more (assigned x v zs) k.end (k.changes.sized ∙ sized) (once_without done l ls once) (k.changes.others r bound_high (bound_apart D L fit hs sc p safe y r n lasts same small x unlike.0 only) ∙ bound) told1 (held_assigned D L fit hs zs x v q p s k.end safe held k.changes k.value only) in
      record {
        end = f.end;
        goes = chain (most + all_settling ls) (omega arith) k.goes f.goes;
        memory = f.memory ∙ k.changes.memory;
        sized = f.sized ∙ k.changes.sized;
        stand = f.stand;
        told = f.told;
        held = f.held;
      }

  settle_one : (f : Form) (l : Loose) (ls done : List Loose) (rest : List DraftEntry) (zs ns : Names) (s : State) → l.form ≡ f → length s.x ≡ 31 → AreHeldLoosely hs sc p (l ∷ ls) → AreUnlike y (l ∷ ls) → AreOnce (done ++ l ∷ ls) → x_at s r ≡ n → AreRanged sc.visible ns → Told (done ++ l ∷ ls) n zs ns → AreInRegisters hs zs p s
      → ((done : List Loose) (zs : Names) (s : State) → length s.x ≡ 31 → AreOnce (done ++ ls) → x_at s r ≡ n → Told (done ++ ls) n zs ns → AreInRegisters hs zs p s → Settles D (settle_code r hs ls rest) s rest hs (done ++ after_loop ls) ns p n (all_settling ls))
      → Settles D (word_code (settle_form r (register_at hs l.name) f) (settle_code r hs ls rest)) s rest hs (done ++ keep_ahead f l (after_loop ls)) ns p n (settling_words f + all_settling ls)
  settle_one (LowBits t) l ls done rest zs ns s e sized are unlike once bound ranged told held more =
      let x = l.name in
      let z = value_at zs x in
      let v = value_at ns x in
      let found = name_found L hs x p p (omega arith) safe are.0.1.0 in
      let type = acc_value t (lookup sc x) (subst (IsFormed sc x) e are.0.0) in
      let range : IsOf t v = subst (λ o. TypeRange o v) type (name_range sc.visible ns x ranged) in
      let tells : Tells n (Some (LowBits t)) z v = subst (λ o. Tells n o z v) (loose_in_past done (l ∷ ls) x (before_none done l ls once) ∙ first_in l ls ∙ ap Some e) (told_found (done ++ l ∷ ls) n hs zs ns x p p s held are.0.1.0 told) in
      let k = extended_sets D L fit {rest = settle_code r hs ls rest} {s = s} t (register_at hs x) z sized (let hi = found.high in omega (arith, hi)) (name_held hs zs x p s sized held are.0.1.0) in
      settle_more l ls done rest zs ns s 1 sized are unlike once bound told held
      (record { end = k.end; goes = k.goes; changes = k.changes; value = k.value ∙ ap word (type_wraps t z v tells ∙ wrap-of t v range); shaped = k.shaped }) (more done)
  settle_one (Ahead t) l ls done rest zs ns s e sized are unlike once bound ranged told held more =
      let f = more (done ++ l ∷ []) zs s sized (subst AreOnce (sym (append_assoc done (l ∷ []) ls)) once) bound (subst (λ ds. Told ds n zs ns) (sym (append_assoc done (l ∷ []) ls)) told) held in
      record { end = f.end; goes = go_more (settling_words (Ahead t) + all_settling ls) (omega arith) f.goes; memory = f.memory; sized = f.sized; stand = f.stand; told = subst (λ ds. Told ds n f.stand ns) (append_assoc done (l ∷ []) (after_loop ls)) f.told; held = f.held }
  settle_one Behind l ls done rest zs ns s e sized are unlike once bound ranged told held more =
      let x = l.name in
      let q = register_at hs x in
      let z = value_at zs x in
      let v = value_at ns x in
      let found = name_found L hs x p p (omega arith) safe are.0.1.0 in
      let tells : Tells n (Some Behind) z v = subst (λ o. Tells n o z v) (loose_in_past done (l ∷ ls) x (before_none done l ls once) ∙ first_in l ls ∙ ap Some e) (told_found (done ++ l ∷ ls) n hs zs ns x p p s held are.0.1.0 told) in
      let back : z +ℤ pos n ≡ v = omega (arith, ints, tells) in
      let low : word (pos n) ≡ n = mod-eq_of_lt small in
      let plain : shifted_word 0 n 0 ≡ n = omega (arith, small) in
      let value : sum (x_at s q) (shifted_word 0 (x_at s r) 0) ≡ word v = ap₂ (λ a b. sum a (shifted_word 0 b 0)) (name_held hs zs x p s sized held are.0.1.0) bound ∙ ap (sum (word z)) (plain ∙ sym low) ∙ sym (word-sum z (pos n)) ∙ ap word back in
      settle_more l ls done rest zs ns s 1 sized are unlike once bound told held
      (wrote_sets D {i = word_of add (q ∷ q ∷ 0 ∷ r ∷ 0 ∷ [])} q (sum (x_at s q) (shifted_word 0 (x_at s r) 0)) v sized found.high refl value) (more done)

  pub settle_runs : (ls done : List Loose) (rest : List DraftEntry) (zs ns : Names) (s : State) → length s.x ≡ 31 → AreHeldLoosely hs sc p ls → AreUnlike y ls → AreOnce (done ++ ls) → x_at s r ≡ n → AreRanged sc.visible ns → Told (done ++ ls) n zs ns → AreInRegisters hs zs p s → Settles D (settle_code r hs ls rest) s rest hs (done ++ after_loop ls) ns p n (all_settling ls)
  settle_runs [] done rest zs ns s sized are unlike once bound ranged told held = record { end = s; goes = stay 0; memory = refl; sized = refl; stand = zs; told = told; held = held }
  settle_runs (l ∷ ls) done rest zs ns s sized are unlike once bound ranged told held =
      settle_one l.form l ls done rest zs ns s refl sized are unlike once bound ranged told held
      (λ done1 zs1 s1 sized1 once1 bound1 told1 held1. settle_runs ls done1 rest zs1 ns s1 sized1 are.1 unlike.1 once1 bound1 ranged told1 held1)
