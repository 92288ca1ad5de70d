-- What a draft keeps: its entries are fit.
use Rattle.std.proofs.Common.{◌≡◌, ℕ, ◌+◌, ◌<◌, true, List, [], ◌∷◌, ◌++◌, map, refl, arith}
use Rattle.std.specs.Prelude.{nat_lt}
use Rattle.a64_code.specs.View.{cond_number}
use Rattle.a64_code.proofs.Valid as a64
use Rattle.a64_code.specs.declared.Cond.{Cond}
use Rattle.a64_code.specs.declared.Cond.TheVariants as conds
use Rattle.sve_code.proofs.Valid as sve
use Rattle.label_fix.specs.declared.entry.Word.{Word}
use Rattle.label_fix.specs.declared.entry.Word.TheVariants as word
use Rattle.label_fix.specs.declared.entry.BranchKind.{BranchKind}
use Rattle.label_fix.specs.declared.entry.BranchKind.TheVariants as kind
use Rattle.label_fix.specs.declared.entry.DraftEntry.{DraftEntry}
use Rattle.label_fix.specs.declared.entry.DraftEntry.TheVariants as entry
use Rattle.label_fix.specs.Draft.{word_view, kind_view, entry_view}
use Rattle.label_fix.specs.Finished.{is_plain, has_register, has_condition, IsWord, IsBranch, AreFit}

is_word : (w : Word) → is_plain (word_view w) ≡ true → IsWord (word_view w)
is_word (word.A i) h = (a64.valid i, h)
is_word (word.V v) h = (sve.valid v, h)

cond_listed : (c : Cond) → nat_lt (cond_number c) 15 ≡ true
cond_listed conds.Eq = refl
cond_listed other = refl

condition : (k : BranchKind) → has_condition (kind_view k) ≡ true
condition kind.Always = refl
condition (kind.If c) = cond_listed c
condition (kind.Zero r) = refl
condition (kind.NotZero r) = refl

is_branch : (k : BranchKind) → has_register (kind_view k) ≡ true → IsBranch (kind_view k)
is_branch k h = (h, condition k)

fit_one : (n : ℕ) (es : List DraftEntry) (e : DraftEntry) → AreFit n (entry_view e ∷ []) → AreFit n (map entry_view es) → AreFit n (map entry_view (es ++ e ∷ []))
fit_one n [] e h k = h
fit_one n (entry.Put w ∷ es) e h k = (k.0, fit_one n es e h k.1)
fit_one n (entry.Branch c l ∷ es) e h k = (k.0, k.1, fit_one n es e h k.2)
fit_one n (entry.Place l ∷ es) e h k = (k.0, fit_one n es e h k.1)

pub fit_more : (n : ℕ) (es : List DraftEntry) → AreFit n (map entry_view es) → AreFit (n + 1) (map entry_view es)
fit_more n [] k = tt
fit_more n (entry.Put w ∷ es) k = (k.0, fit_more n es k.1)
fit_more n (entry.Branch c l ∷ es) k = (k.0, (let lt = k.1 in omega arith), fit_more n es k.2)
fit_more n (entry.Place l ∷ es) k = ((let lt = k.0 in omega arith), fit_more n es k.1)

pub fit_put : (n : ℕ) (es : List DraftEntry) (w : Word) → is_plain (word_view w) ≡ true → AreFit n (map entry_view es) → AreFit n (map entry_view (es ++ entry.Put w ∷ []))
fit_put n es w h k = fit_one n es (entry.Put w) (is_word w h, tt) k

pub fit_branch : (n : ℕ) (es : List DraftEntry) (c : BranchKind) (l : ℕ) → has_register (kind_view c) ≡ true → l < n → AreFit n (map entry_view es) → AreFit n (map entry_view (es ++ entry.Branch c l ∷ []))
fit_branch n es c l h lt k = fit_one n es (entry.Branch c l) (is_branch c h, lt, tt) k

pub fit_place : (n : ℕ) (es : List DraftEntry) (l : ℕ) → l < n → AreFit n (map entry_view es) → AreFit n (map entry_view (es ++ entry.Place l ∷ []))
fit_place n es l lt k = fit_one n es (entry.Place l) (lt, tt) k
