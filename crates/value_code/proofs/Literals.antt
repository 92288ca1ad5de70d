-- What the code of a literal does, by whether a register holds its number.
use Rattle.std.proofs.Common.{◌≡◌, ◌≢◌, ℕ, ◌+◌, ◌<◌, ◌≤◌, List, Option, Some, None, refl, sym, ap, ◌∙◌, arith}
use Rattle.std.specs.Prelude.{ℤ, unwrap_or}
use Rattle.guest_types.specs.Memory.{Memory}
use Rattle.machine_model.specs.Machine.{State}
use Rattle.kernel_tree.specs.declared.ops.Ty.{Ty}
use Rattle.kernel_tree.specs.Wrap.{wrap}
use Rattle.kernel_tree.specs.Typing.{Local}
use Rattle.kernel_meaning.specs.Operators.{word}
use Rattle.kernel_meaning.specs.Eval.{Names}
use Rattle.label_fix.specs.DraftRun.{DraftEntry, Laid}
use Rattle.label_fix.proofs.StretchSteps.{stay}
use Rattle.scalar_words.specs.Layout.{OfNumber, Layout, Homes, reg_of, last_use_at, constant_at, IsMade}
use Rattle.scalar_words.specs.Words.{const_code}
use Rattle.value_code.specs.Code.{right_code}
use Rattle.scalar_words.proofs.LayoutStates.{Assigned, Fixed, kept_none}
use Rattle.scalar_words.proofs.Told.{Standing}
use Rattle.scalar_words.proofs.Constants.{const_runs}
use Rattle.value_code.proofs.Loads.{Gives, a_value}
use Rattle.value_code.specs.HeldNumbers.{literal_words}

module _ (D : Laid) (L : Layout) (fit : Assigned L) where
  -- its register: in range, and kept until the item that uses it
  pub literal_high : (o : Option ℕ) (z : ℤ) (b user : ℕ) → constant_at L (OfNumber z) ≡ o → b < user → last_use_at L b ≡ user → unwrap_or o (reg_of L b) ≤ 25
  literal_high None z b user is le h = fit.high b (omega (arith, h, le))
  literal_high (Some r) z b user is le h = let low = (fit.constants (OfNumber z) r is).0 in omega (arith, low)

  pub literal_apart : (o : Option ℕ) (z : ℤ) (b user p : ℕ) → constant_at L (OfNumber z) ≡ o → last_use_at L b ≡ user → b < p → p < user → IsMade L p → reg_of L p ≢ unwrap_or o (reg_of L b)
  literal_apart None z b user p is h lo up made = fit.apart p b lo (omega (arith, h, up)) made
  literal_apart (Some r) z b user p is h lo up made = λ e. absurd (let low = (fit.constants (OfNumber z) r is).0 in let above = fit.low p made in omega (arith, low, above, e))

  pub literal_runs : (o : Option ℕ) {W : Fixed L} {hs : Homes} {ls : List Local} {stand names : Names} {m : Memory} {st : State} {rest : List DraftEntry} (z : ℤ) (T : Ty) (b user : ℕ) → constant_at L (OfNumber z) ≡ o → b < user → Standing W hs ls stand names m b st → last_use_at L b ≡ user → wrap T z ≡ z
      → Gives D L (right_code o (const_code (reg_of L b) (word (wrap T z))) rest) st rest b (b + 1) (unwrap_or o (reg_of L b)) m (literal_words o) (Some (wrap T z))
  literal_runs None z T b user is le at h same = a_value (const_runs D L fit b (word (wrap T z)) (wrap T z) b (b + 1) at.sized (omega arith) (omega arith) (omega (arith, h, le)) refl)
  literal_runs (Some r) {W = W} {st = st} z T b user is le at h same =
      a_value (record { end = st; goes = stay 0; kept = kept_none L st b (b + 1); value = at.args r (fit.constants (OfNumber z) r is).0 ∙ W.loaded (OfNumber z) r is ∙ ap word (sym same) })
