-- Memories and rests beside each other.
use Rattle.std.proofs.Common.{◌≡◌, ℕ, zero, suc, ◌+◌, ◌-◌, ◌<◌, List, [], ◌∷◌, ◌++◌, length, take, drop, get_or, Option, Some, None, refl, sym, ap, ap₂, ◌∙◌, subst, arith}
use Rattle.guest_types.specs.Memory.{Memory}
use Rattle.std.specs.Prelude.{All, ◌≤◌}
use Rattle.std.specs.List.{slice_get}
use Rattle.std.proofs.lemmas.Option.{get_or_from_slice_get, slice_get-get_or}
use Rattle.std.proofs.lemmas.List.{length-drop, length-append}
use Rattle.machine_model.specs.declared.outcome.Ending.{Ending}
use Rattle.a64_machine.specs.Cores.{VectorState}
use Rattle.a64_machine.specs.declared.core_state.Core.{Core}
use Rattle.machine_model.specs.Debugged.{Past, View, now}
use Rattle.guest_types.specs.Kept.{kept_more}
use Rattle.sve_machine.specs.declared.snapshot.Snapshot.{Snapshot}
use Rattle.sve_machine.specs.declared.decoded.CacheEntry.{CacheEntry}
use Rattle.sve_machine.specs.DecodedWords.{IsDecodedFrom}
use Rattle.sve_machine.specs.View.{view_of}
use Rattle.sve_machine.specs.Pasts.{past_at, past_by, rests_of, AreBeside, IsWhole}

pub past_by-none : (ms : List Memory) → past_by ms [] ≡ []
past_by-none [] = refl
past_by-none (m ∷ ms) = refl

pub length-past_by : (ms : List Memory) (rs : List Snapshot) → length ms ≡ length rs → length (past_by ms rs) ≡ length rs
length-past_by [] [] same = refl
length-past_by [] (r ∷ rs) same = absurd (omega (arith, same))
length-past_by (m ∷ ms) [] same = absurd (omega (arith, same))
length-past_by (m ∷ ms) (r ∷ rs) same = ap suc (length-past_by ms rs (omega (arith, same)))

past_by-push : (ms : List Memory) (rs : List Snapshot) (m : Memory) (r : Snapshot) → length ms ≡ length rs → past_by (ms ++ m ∷ []) (rs ++ r ∷ []) ≡ past_by ms rs ++ past_at m r ∷ []
past_by-push [] [] m r same = refl
past_by-push [] (r2 ∷ rs) m r same = absurd (omega (arith, same))
past_by-push (m2 ∷ ms) [] m r same = absurd (omega (arith, same))
past_by-push (m2 ∷ ms) (r2 ∷ rs) m r same = ap (λ (l : List Past). past_at m2 r2 ∷ l) (past_by-push ms rs m r (omega (arith, same)))

past_by-drop : (k : ℕ) (ms : List Memory) (rs : List Snapshot) → past_by (drop k ms) (drop k rs) ≡ drop k (past_by ms rs)
past_by-drop zero ms rs = refl
past_by-drop (suc k) [] rs = refl
past_by-drop (suc k) (m ∷ ms) [] = past_by-none (drop k ms)
past_by-drop (suc k) (m ∷ ms) (r ∷ rs) = past_by-drop k ms rs

pub past_by-take : (k : ℕ) (ms : List Memory) (rs : List Snapshot) → past_by (take k ms) (take k rs) ≡ take k (past_by ms rs)
past_by-take zero ms rs = refl
past_by-take (suc k) [] rs = refl
past_by-take (suc k) (m ∷ ms) [] = refl
past_by-take (suc k) (m ∷ ms) (r ∷ rs) = ap (λ (l : List Past). past_at m r ∷ l) (past_by-take k ms rs)

-- one more
pub past_by-more : (ms : List Memory) (rs : List Snapshot) (m : Memory) (r : Snapshot) → length ms ≡ length rs → past_by (kept_more m ms) (kept_more r rs) ≡ kept_more (past_at m r) (past_by ms rs)
past_by-more ms rs m r same =
    let count = length-past_by ms rs same in
    ap (λ k. past_by (drop k (ms ++ m ∷ [])) (kept_more r rs)) (let e : length ms + 1 - 8 ≡ length rs + 1 - 8 = omega (arith, same) in e)
    ∙ past_by-drop (length rs + 1 - 8) (ms ++ m ∷ []) (rs ++ r ∷ [])
    ∙ ap (drop (length rs + 1 - 8)) (past_by-push ms rs m r same)
    ∙ ap (λ k. drop k (past_by ms rs ++ past_at m r ∷ [])) (let e : length rs + 1 - 8 ≡ length (past_by ms rs) + 1 - 8 = omega (arith, count) in e)

pub past_by-at : (ms : List Memory) (rs : List Snapshot) (n : ℕ) (m : Memory) (r : Snapshot) (d : Past) → n < length (past_by ms rs) → ((e : Memory) → get_or ms n e ≡ m) → ((e : Snapshot) → get_or rs n e ≡ r) → get_or (past_by ms rs) n d ≡ past_at m r
past_by-at [] rs n m r d l memory rest = absurd (omega (arith, l))
past_by-at (m2 ∷ ms) [] n m r d l memory rest = absurd (omega (arith, l))
past_by-at (m2 ∷ ms) (r2 ∷ rs) zero m r d l memory rest = ap₂ past_at (memory m2) (rest r2)
past_by-at (m2 ∷ ms) (r2 ∷ rs) (suc n) m r d l memory rest = past_by-at ms rs n m r d (omega (arith, l)) memory rest

-- ---- what a machine is seen to have been

pub seen-past : (ms : List Memory) (h : Option (List Snapshot)) (rs : List Snapshot) (past : List Past) → past_by ms (rests_of h) ≡ past → h ≡ Some rs → past_by ms rs ≡ past
seen-past ms h rs past is some = ap (λ h. past_by ms (rests_of h)) (sym some) ∙ is

pub never-kept : (ms : List Memory) (h : Option (List Snapshot)) (past : List Past) → past_by ms (rests_of h) ≡ past → h ≡ None → length past ≡ 0
never-kept ms h past is none = sym (ap (length {A = _}) (ap (λ h. past_by ms (rests_of h)) (sym none) ∙ is)) ∙ ap (length {A = _}) (past_by-none ms)

pub beside : (ms : List Memory) (h : Option (List Snapshot)) (rs : List Snapshot) → h ≡ Some rs → AreBeside ms h → length ms ≡ length rs
beside ms h rs some are = subst (AreBeside ms) some are

pub some-kept : (ms : List Memory) (h : Option (List Snapshot)) (rs : List Snapshot) (past : List Past) → past_by ms (rests_of h) ≡ past → h ≡ Some rs → AreBeside ms h → 1 ≤ length past → 1 ≤ length ms
some-kept ms h rs past is some are lt =
    let same = beside ms h rs some are in
    let seen = ap (length {A = _}) (seen-past ms h rs past is some) in
    omega (arith, length-past_by ms rs same, seen, same, lt)

pub now-seen : (core : Core) (memory memory2 : Memory) (rest : VectorState) (steps : ℕ) (over : Option Ending) (past past2 : List Past) (seen : View) → memory2 ≡ memory → view_of core memory rest steps over past ≡ seen → now (view_of core memory2 rest steps over past2) ≡ now seen
now-seen core memory memory2 rest steps over past past2 seen e is = ap (λ m. now (view_of core m rest steps over past2)) e ∙ ap now is

-- ---- the whole machine

decoded-in : (m m2 : Memory) (entries : List CacheEntry) → m2 ≡ m → All (IsDecodedFrom m) entries → All (IsDecodedFrom m2) entries
decoded-in m m2 entries e h = subst (λ m. All (IsDecodedFrom m) entries) (sym e) h

length-more : {X : Type 0} (x : X) (xs : List X) → length (kept_more x xs) ≡ length xs + 1 - (length xs + 1 - 8)
length-more x xs = length-drop (length xs + 1 - 8) (xs ++ x ∷ []) ∙ ap (λ n. n - (length xs + 1 - 8)) (length-append xs (x ∷ []))

pub whole-more : (m m2 : Memory) (ms ms2 : List Memory) (entries : List CacheEntry) (h : Option (List Snapshot)) (rs rs2 : List Snapshot) (r : Snapshot) → m2 ≡ m → ms2 ≡ kept_more m ms → rs2 ≡ kept_more r rs → h ≡ Some rs → IsWhole m ms entries h → IsWhole m2 ms2 entries (Some rs2)
whole-more m m2 ms ms2 entries h rs rs2 r e es er some w = record {
  decoded = decoded-in m m2 entries e w.decoded;
  beside =
      ap (length {A = _}) es ∙ length-more m ms
      ∙ ap (λ n. n + 1 - (n + 1 - 8)) (beside ms h rs some w.beside)
      ∙ sym (ap (length {A = _}) er ∙ length-more r rs);
}

pub whole-same : (m m2 : Memory) (ms ms2 : List Memory) (entries : List CacheEntry) (h : Option (List Snapshot)) → m2 ≡ m → ms2 ≡ ms → IsWhole m ms entries h → IsWhole m2 ms2 entries h
whole-same m m2 ms ms2 entries h e es w = record { decoded = decoded-in m m2 entries e w.decoded; beside = subst (λ ms. AreBeside ms h) (sym es) w.beside }

pub whole-begun : (m m2 : Memory) (ms2 : List Memory) (entries : List CacheEntry) (rs : List Snapshot) (r : Snapshot) → m2 ≡ m → ms2 ≡ m ∷ [] → rs ≡ r ∷ [] → All (IsDecodedFrom m) entries → IsWhole m2 ms2 entries (Some rs)
whole-begun m m2 ms2 entries rs r e es er decoded = record {
  decoded = decoded-in m m2 entries e decoded;
  beside = ap (length {A = _}) es ∙ sym (ap (length {A = _}) er);
}

pub whole-left : (m m2 : Memory) (ms ms2 : List Memory) (entries entries2 : List CacheEntry) (h : Option (List Snapshot)) → All (IsDecodedFrom m2) entries2 → ms2 ≡ ms → IsWhole m ms entries h → IsWhole m2 ms2 entries2 h
whole-left m m2 ms ms2 entries entries2 h decoded es w = record { decoded = decoded; beside = subst (λ ms. AreBeside ms h) (sym es) w.beside }

-- ---- one of those that are kept

pub got-at : (xs ys : List Snapshot) (n : ℕ) (r d : Snapshot) → xs ≡ ys → slice_get xs n ≡ Some r → get_or ys n d ≡ r
got-at xs ys n r d e h = get_or_from_slice_get ys n r d (subst (λ l. slice_get l n ≡ Some r) e h)

pub got-none : (xs ys : List Snapshot) (n : ℕ) → xs ≡ ys → n < length ys → slice_get xs n ≡ None → ⊥
got-none xs [] n e lt h = omega (arith, lt)
got-none xs (y ∷ ys) n e lt h =
    let some = slice_get-get_or (y ∷ ys) n y lt in
    let none = subst (λ l. slice_get l n ≡ None) e h in
    cc
