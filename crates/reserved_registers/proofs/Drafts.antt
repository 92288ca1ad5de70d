-- What a draft has after a call that emits code.
use Rattle.std.proofs.Common.{◌≡◌, ℕ, suc, List, [], ◌∷◌, ◌++◌, append-nil, refl, sym, subst}
use Rattle.label_fix.specs.DraftRun.{DraftEntry}
use Rattle.reserved_registers.specs.Alone.{AreAlone, StaysAlone, ExitsOnce}

-- code before other entries leaves these registers alone where they do, and has so many exit calls
abbrev pub Adds : (ℕ → ℕ) → (List DraftEntry → List DraftEntry) → Type 0
Adds more code = (exits : ℕ) (rest : List DraftEntry) → AreAlone exits rest → AreAlone (more exits) (code rest)

-- a draft without entries
pub none_adds : (es : List DraftEntry) → es ≡ [] → StaysAlone (λ rest. es ++ rest)
none_adds es e exits rest h = subst (λ es. AreAlone exits (es ++ rest)) (sym e) h

-- one that grew by some code
pub emits_adds : (f g : ℕ → ℕ) (old new : List DraftEntry) (code : List DraftEntry → List DraftEntry) → ((rest : List DraftEntry) → new ++ rest ≡ old ++ code rest) → Adds f (λ rest. old ++ rest) → Adds g code → Adds (λ n. f (g n)) (λ rest. new ++ rest)
emits_adds f g old new code e before stays exits rest h = subst (AreAlone (f (g exits))) (sym (e rest)) (before (g exits) (code rest) (stays exits rest h))

-- and the whole of one with one exit call
pub whole_alone : (es : List DraftEntry) → ExitsOnce (λ rest. es ++ rest) → AreAlone 1 es
whole_alone es h = subst (AreAlone 1) (append-nil es) (h 0 [] refl)
