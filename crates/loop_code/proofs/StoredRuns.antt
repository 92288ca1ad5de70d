-- What the code of a value that is stored does.
use Rattle.std.proofs.Common.{◌≡◌, ℕ, ◌+◌, ◌≤◌, true, List, Option, Some, None, sym, subst, arith}
use Rattle.std.specs.Prelude.{ℤ, if◌then◌else◌}
use Rattle.guest_types.specs.Memory.{Memory}
use Rattle.machine_model.specs.Machine.{State}
use Rattle.kernel_tree.specs.declared.ops.Ty.{Ty}
use Rattle.kernel_tree.specs.Plain.{Term, Literal, Variable, Element, Unary, Operation, Shift, Conversion, Choice, Comparison, Both, Either, Not}
use Rattle.kernel_tree.specs.Items.{term_size}
use Rattle.kernel_tree.specs.Typing.{Scope, own}
use Rattle.kernel_meaning.specs.Eval.{Names}
use Rattle.label_fix.specs.DraftRun.{DraftEntry, Laid}
use Rattle.label_fix.proofs.StretchSteps.{Resolves}
use Rattle.scalar_words.specs.Layout.{Layout, Homes}
use Rattle.scalar_words.proofs.LayoutStates.{Assigned, AreSafe, Fixed, At}
use Rattle.value_code.specs.HeldNumbers.{coded_words}
use Rattle.value_code.specs.ValueRegisters.{home}
use Rattle.value_code.specs.ItemWords.{Register}
use Rattle.value_code.specs.Code.{side_code, loose_code, parts_code}
use Rattle.value_code.specs.Fits.{Fits}
use Rattle.value_code.specs.Covers.{covers}
use Rattle.value_code.specs.declared.extent.Extent.{Extent}
use Rattle.value_code.proofs.Loads.{Gives, no_value, a_value}
use Rattle.value_code.proofs.Loose.{loose}
use Rattle.value_code.proofs.Operators.{IsOperand}
use Rattle.value_code.proofs.Fused.{by_led}
use Rattle.value_code.proofs.ValueRuns.{Sided, no_side, a_side, home_high, side_back, loose_back, parts_back, loose_runs, parts_runs}
use Rattle.loop_code.specs.Statements.{is_bare, operand_home, stored_code, stored_home}
use Rattle.kernel_tree.specs.declared.ops.BinaryOp.TheVariants as binary

module _ (D : Laid) (L : Layout) (fit : Assigned L) where
  sided_gives : {c rest : List DraftEntry} {s : State} {b e r : ℕ} {m : Memory} {most : ℕ} {o : Option ℤ} → Sided D L c s rest b e (IsOperand (Register r)) m most o → Gives D L c s rest b e r m most o
  sided_gives (no_side k) = no_value k
  sided_gives (a_side end goes kept held) = a_value (record { end = end; goes = goes; kept = kept; value = held })

  -- the operand of a cast that is no word
  bare_runs : (e : Term) {W : Fixed L} {hs : Homes} (s : Scope) {names : Names} {m : Memory} {st : State} (w : Extent) (T : Ty) (b user n : ℕ) (rest : List DraftEntry) → b + term_size s.index e ≤ user → covers L.loose s w (Some T) e ≡ true → is_bare s w e ≡ true → AreSafe L b hs → (at : At W hs s.visible names m b st) → Fits L hs s (Some T) b user e
      → Resolves D (parts_code L hs s w (Some T) b n e rest) → Gives D L (parts_code L hs s w (Some T) b n e rest) st rest b (b + term_size s.index e) (operand_home L hs s.index b e) m (coded_words L.constants s.index e) (loose s w (Some T) e m at.stand names)
  bare_runs (Conversion e t) s w T b user n rest le cov f safe at h res = sided_gives (parts_runs D L fit (Conversion e t) s binary.Mul w T b user n rest le cov f safe at h res)
  bare_runs (Literal z) s w T b user n rest le cov f safe at h res = absurd cc
  bare_runs (Variable x) s w T b user n rest le cov f safe at h res = absurd cc
  bare_runs (Element a i) s w T b user n rest le cov f safe at h res = absurd cc
  bare_runs (Unary op e) s w T b user n rest le cov f safe at h res = absurd cc
  bare_runs (Operation op x y) s w T b user n rest le cov f safe at h res = absurd cc
  bare_runs (Shift left e z) s w T b user n rest le cov f safe at h res = absurd cc
  bare_runs (Choice c x y) s w T b user n rest le cov f safe at h res = absurd cc
  bare_runs (Comparison op x y) s w T b user n rest le cov f safe at h res = absurd cc
  bare_runs (Both x y) s w T b user n rest le cov f safe at h res = absurd cc
  bare_runs (Either x y) s w T b user n rest le cov f safe at h res = absurd cc
  bare_runs (Not e) s w T b user n rest le cov f safe at h res = absurd cc

  bare_high : (e : Term) (hs : Homes) (s : Scope) (w : Extent) (want : Option Ty) (b user : ℕ) → is_bare s w e ≡ true → Fits L hs s want b user e → AreSafe L b hs → operand_home L hs s.index b e ≤ 25
  bare_high (Conversion e t) hs s w want b user f h safe = home_high D L fit e hs s (own s e) b (b + term_size s.index e) (omega arith) h.2 safe
  bare_high (Literal z) hs s w want b user f h safe = absurd cc
  bare_high (Variable x) hs s w want b user f h safe = absurd cc
  bare_high (Element a i) hs s w want b user f h safe = absurd cc
  bare_high (Unary op e) hs s w want b user f h safe = absurd cc
  bare_high (Operation op x y) hs s w want b user f h safe = absurd cc
  bare_high (Shift left e z) hs s w want b user f h safe = absurd cc
  bare_high (Choice c x y) hs s w want b user f h safe = absurd cc
  bare_high (Comparison op x y) hs s w want b user f h safe = absurd cc
  bare_high (Both x y) hs s w want b user f h safe = absurd cc
  bare_high (Either x y) hs s w want b user f h safe = absurd cc
  bare_high (Not e) hs s w want b user f h safe = absurd cc

  pub stored_high : (e : Term) (hs : Homes) (s : Scope) (w : Extent) (want : Option Ty) (b user : ℕ) → b + term_size s.index e ≤ user → Fits L hs s want b user e → AreSafe L b hs → stored_home L hs s w b e ≤ 25
  stored_high e hs s w want b user le h safe =
      by_led (λ l. (if l then operand_home L hs s.index b e else home L hs s.index b e) ≤ 25) (is_bare s w e) (λ f. bare_high e hs s w want b user f h safe) (λ f. home_high D L fit e hs s want b user le h safe)

  abbrev pub StoredRuns : Term → Homes → Scope → (stand names : Names) → Memory → State → Extent → (b user n : ℕ) → List DraftEntry → Option Ty → Type 0
  StoredRuns e hs s stand names m st w b user n rest want =
      Fits L hs s want b user e → Resolves D (stored_code L hs s w want b n e rest) → Gives D L (stored_code L hs s w want b n e rest) st rest b (b + term_size s.index e) (stored_home L hs s w b e) m (coded_words L.constants s.index e) (loose s w want e m stand names)

  stored_runs : (e : Term) {W : Fixed L} (hs : Homes) (s : Scope) (names : Names) (m : Memory) (st : State) (w : Extent) (T : Ty) (b user n : ℕ) (rest : List DraftEntry) → b + term_size s.index e ≤ user → covers L.loose s w (Some T) e ≡ true → AreSafe L b hs → (at : At W hs s.visible names m b st) → StoredRuns e hs s at.stand names m st w b user n rest (Some T)
  stored_runs e hs s names m st w T b user n rest le cov safe at h res =
      by_led (λ l. Resolves D (side_code None l (loose_code L hs s w (Some T) b n e) (parts_code L hs s w (Some T) b n e) rest)
      → Gives D L (side_code None l (loose_code L hs s w (Some T) b n e) (parts_code L hs s w (Some T) b n e) rest) st rest b (b + term_size s.index e) (if l then operand_home L hs s.index b e else home L hs s.index b e) m (coded_words L.constants s.index e) (loose s w (Some T) e m at.stand names))
      (is_bare s w e) (λ f r. bare_runs e s w T b user n rest le cov f safe at h r) (λ f r. loose_runs D L fit e s w T b user n rest le cov safe at h r) res

  pub stored_at_want : {W : Fixed L} (e : Term) (hs : Homes) (s : Scope) (names : Names) (m : Memory) (st : State) (w : Extent) (want : Option Ty) (T : Ty) (b user n : ℕ) (rest : List DraftEntry) → want ≡ Some T → b + term_size s.index e ≤ user → covers L.loose s w want e ≡ true → AreSafe L b hs → (at : At W hs s.visible names m b st) → StoredRuns e hs s at.stand names m st w b user n rest want
  stored_at_want e hs s names m st w want T b user n rest q le cov safe at =
      subst (λ o. covers L.loose s w o e ≡ true → StoredRuns e hs s at.stand names m st w b user n rest o) (sym q) (λ c h res. stored_runs e hs s names m st w T b user n rest le c safe at h res) cov

  pub stored_back : (e : Term) (hs : Homes) (s : Scope) (w : Extent) (want : Option Ty) (b n : ℕ) (rest : List DraftEntry) → Resolves D (stored_code L hs s w want b n e rest) → Resolves D rest
  stored_back e hs s w want b n rest h = side_back D L fit None (is_bare s w e) _ _ rest (loose_back D L fit e hs s w want b n rest) (parts_back D L fit e hs s w want b n rest) h
