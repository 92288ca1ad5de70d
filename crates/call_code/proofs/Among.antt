-- Those of some registers that words write, and those that they do not.
use Rattle.std.proofs.Common.{◌≡◌, ◌≢◌, ℕ, ◌<◌, ◌≤◌, Bool, true, false, List, [], ◌∷◌, length, Option, Some, None, refl, sym, ap, ◌∙◌, arith}
use Rattle.std.specs.Prelude.{All, map, ◌||◌, if◌then◌else◌}
use Rattle.std.proofs.lemmas.Bool.{eq-eqb}
use Rattle.std.proofs.lemmas.List.Elements.{All-nil, All-cons}
use Rattle.machine_model.specs.CodeInMemory.{spell, IsListed}
use Rattle.machine_model.specs.InstructionTable.{Listed}
use Rattle.machine_model.proofs.ListedWords.{listed_spell}
use Rattle.promises.specs.Saved.{is_number, word_writes, is_written, written_among}
use Rattle.call_code.proofs.Restores.{Absent, AreRegisters, Back}

pub is_other : (r d : ℕ) → is_number r (Some d) ≡ false → r ≢ d
is_other r d h e = let same = eq-eqb d r (sym e) in let off : true ≡ false = sym same ∙ h in absurd cc

module _ (written : Listed → Option ℕ) where
  -- ---- words that do not write a register

  -- what the instruction of a word does
  pub spelled_writes : (i : Listed) (r : ℕ) → IsListed i → word_writes written r (spell i) ≡ is_number r (written i)
  spelled_writes i r h = ap (λ o. is_number r (elim o as (λ o. Option ℕ) [ None ↦ None | Some j ↦ written j ])) (listed_spell i h)

  first_not : (a b : Bool) → (a || b) ≡ false → a ≡ false
  first_not true b h = absurd cc
  first_not false b h = refl

  others_not : (a b : Bool) → (a || b) ≡ false → b ≡ false
  others_not true b h = absurd cc
  others_not false b h = h

  pub head_not : (r w : ℕ) (ws : List ℕ) → is_written written r (w ∷ ws) ≡ false → word_writes written r w ≡ false
  unfolding is_written
  head_not r w ws h = first_not (word_writes written r w) (is_written written r ws) h

  pub tail_not : (r w : ℕ) (ws : List ℕ) → is_written written r (w ∷ ws) ≡ false → is_written written r ws ≡ false
  unfolding is_written
  tail_not r w ws h = others_not (word_writes written r w) (is_written written r ws) h

  module _ (words : List ℕ) where
    -- ---- the registers that are written

    pub among_absent : (rs : List ℕ) (n : ℕ) → Absent n rs → Absent n (written_among written words rs)
    unfolding written_among
    among_absent [] n h = tt
    among_absent (r ∷ rs) n h = by (is_written written r words) h.0 (among_absent rs n h.1)
      where
        by : (b : Bool) → n ≢ r → Absent n (written_among written words rs) → Absent n (if b then r ∷ written_among written words rs else written_among written words rs)
        by true ne more = (ne, more)
        by false ne more = more

    pub unwritten_absent : (rs : List ℕ) (n : ℕ) → is_written written n words ≡ false → Absent n (written_among written words rs)
    unfolding written_among
    unwritten_absent [] n h = tt
    unwritten_absent (r ∷ rs) n h = by (is_written written r words) refl (unwritten_absent rs n h)
      where
        by : (b : Bool) → is_written written r words ≡ b → Absent n (written_among written words rs) → Absent n (if b then r ∷ written_among written words rs else written_among written words rs)
        by true is more = (λ e. let same : true ≡ false = sym is ∙ ap (λ q. is_written written q words) (sym e) ∙ h in absurd cc, more)
        by false is more = more

    pub among_registers : (m : ℕ) (rs : List ℕ) → AreRegisters m rs → AreRegisters m (written_among written words rs)
    unfolding written_among
    among_registers m [] h = tt
    among_registers m (r ∷ rs) h = by (is_written written r words) h.0 (among_absent rs r h.1) (among_registers m rs h.2)
      where
        by : (b : Bool) → r < m → Absent r (written_among written words rs) → AreRegisters m (written_among written words rs) → AreRegisters m (if b then r ∷ written_among written words rs else written_among written words rs)
        by true low off more = (low, off, more)
        by false low off more = more

    pub among_few : (rs : List ℕ) → length (written_among written words rs) ≤ length rs
    unfolding written_among
    among_few [] = omega arith
    among_few (r ∷ rs) = by (is_written written r words) (among_few rs)
      where
        by : (b : Bool) → length (written_among written words rs) ≤ length rs → length (if b then r ∷ written_among written words rs else written_among written words rs) ≤ length (r ∷ rs)
        by true le = omega (arith, le)
        by false le = omega (arith, le)

    -- those that are written have their numbers again, and the others keep them
    pub all_back : (now was : ℕ → ℕ) (n : ℕ) (rs : List ℕ) → Absent n rs → Back now (written_among written words rs) (map was (written_among written words rs)) → ((r : ℕ) → r ≢ n → is_written written r words ≡ false → now r ≡ was r) → All (λ r. now r ≡ was r) rs
    unfolding written_among
    all_back now was n [] off back same = All-nil (λ r. now r ≡ was r)
    all_back now was n (r ∷ rs) off back same = by (is_written written r words) refl back (λ more. all_back now was n rs off.1 more same)
      where
        by : (b : Bool) → is_written written r words ≡ b → Back now (if b then r ∷ written_among written words rs else written_among written words rs) (map was (if b then r ∷ written_among written words rs else written_among written words rs))
            → (Back now (written_among written words rs) (map was (written_among written words rs)) → All (λ r. now r ≡ was r) rs) → All (λ r. now r ≡ was r) (r ∷ rs)
        by true is h more = All-cons (λ r. now r ≡ was r) r rs h.0 (more h.1)
        by false is h more = All-cons (λ r. now r ≡ was r) r rs (same r (λ e. off.0 (sym e)) is) (more h)
