-- Laws of what is kept of a machine, and of its counts.
use Rattle.std.proofs.Common.{◌≡◌, ℕ, ◌+◌, ◌-◌, ◌<◌, ◌≤◌, Bool, true, false, List, [], ◌∷◌, ◌++◌, map, length, take, drop, refl, sym, ap, ◌∙◌, subst, arith, if◌then◌else◌, length-append, length-drop}
use Rattle.std.specs.Prelude.{nat_le, cond}
use Rattle.std.specs.List.{All, prefix_len}
use Rattle.std.proofs.lemmas.Bool.{leb-true}
use Rattle.std.proofs.lemmas.List.{drop-map, take-map, map-append, length-map, get_or-take}
use Rattle.std.proofs.lemmas.List.Elements.{All-drop, All-push}
use Rattle.std.proofs.lemmas.List.Folds.{length-prefix_len}
use Rattle.std.proofs.lemmas.List.Sums.{prefix_len_passes}
use Rattle.machine_model.specs.Debugged.{Past}
use Rattle.guest_types.specs.Kept.{kept_more}
use Rattle.debug_history.specs.Kept.{counts_of, is_kept, counted, noted, is_reached, up_to}

abbrev steps_of : Past → ℕ
steps_of v = v.steps

-- the counts of what is kept where a machine is noted
pub counts_noted : (v : Past) (kept : List Past) → counts_of (noted v kept) ≡ counted v.steps (counts_of kept)
counts_noted v kept = go (is_kept v.steps (counts_of kept))
  where
    more : counts_of (kept_more v kept) ≡ kept_more v.steps (counts_of kept)
    more =
        sym (drop-map steps_of (length kept + 1 - 8) (kept ++ v ∷ []))
        ∙ ap (drop (length kept + 1 - 8)) (map-append steps_of kept (v ∷ []))
        ∙ ap (λ n. drop (n + 1 - 8) (map steps_of kept ++ v.steps ∷ [])) (sym (length-map kept steps_of))

    go : (b : Bool) → counts_of (if b then kept_more v kept else kept) ≡ (if b then kept_more v.steps (counts_of kept) else counts_of kept)
    go true = more
    go false = refl

-- the counts of those that are left after a way back
pub counts_up_to : (target : ℕ) (kept : List Past) → counts_of (up_to target kept) ≡ take (prefix_len (λ k. nat_le k target) (counts_of kept)) (counts_of kept)
counts_up_to target kept = sym (take-map steps_of (prefix_len (is_reached target) kept) kept) ∙ ap (λ n. take n (map steps_of kept)) (same kept)
  where
    same : (xs : List Past) → prefix_len (is_reached target) xs ≡ prefix_len (λ k. nat_le k target) (map steps_of xs)
    same [] = refl
    same (x ∷ xs) = ap (λ n. cond (nat_le x.steps target) (1 + n) 0) (same xs)

pub noted_all : (P : Past → Type 0) (v : Past) (kept : List Past) → P v → All P kept → All P (noted v kept)
noted_all P v kept one each = go (is_kept v.steps (counts_of kept))
  where
    go : (b : Bool) → All P (if b then kept_more v kept else kept)
    go true = All-drop P (length kept + 1 - 8) (kept ++ v ∷ []) (All-push P kept v each one)
    go false = each

pub reached_all : (target : ℕ) (kept : List Past) → All (λ v. v.steps ≤ target) (up_to target kept)
reached_all target kept k d below =
    let p = is_reached target in
    let n = prefix_len p kept in
    let size = length-prefix_len p kept in
    let inside : k < n = omega (arith, size, below) in
    subst (λ v. v.steps ≤ target) (sym (get_or-take n kept k d inside)) (leb-true _ target (prefix_len_passes p kept k d inside))

-- something stays kept
pub noted_some : (v : Past) (kept : List Past) → 1 ≤ length kept → 1 ≤ length (noted v kept)
noted_some v kept some = go (is_kept v.steps (counts_of kept))
  where
    go : (b : Bool) → 1 ≤ length (if b then kept_more v kept else kept)
    go true =
        let rest = length-drop (length kept + 1 - 8) (kept ++ v ∷ []) in
        let all = length-append kept (v ∷ []) in
        omega (arith, rest, all)
    go false = some
