-- A function writes those registers that its code writes: what it keeps may be read from its own words.
use Rattle.std.proofs.Common.{◌≡◌, ◌≢◌, ℕ, zero, suc, ◌+◌, ◌*◌, ◌^◌, ◌<◌, ◌≤◌, Bool, true, false, List, [], ◌∷◌, ◌++◌, length, Option, Some, None, refl, sym, ap, ap₂, ◌∙◌, subst, arith}
use Rattle.std.specs.Prelude.{◌||◌, nat_eq, if◌then◌else◌}
use Rattle.std.proofs.lemmas.Bool.{eqb-true, eqb-false}
use Rattle.a64_code.specs.Table as a64
use Rattle.a64_code.proofs.Valid.{is_instruction}
use Rattle.machine_model.specs.CodeInMemory.{spell, IsListed, AllListed, words_of as listed_words}
use Rattle.machine_model.specs.InstructionTable.{Listed, Scalar}
use Rattle.promises.specs.Reserved.{register_written}
use Rattle.call_code.specs.Called.{function_words}
use Rattle.promises.specs.Saved.{Saved, frame_size, kept_x, kept_z, is_number, word_writes, is_written, written_among, vector_written, saved_by}
use Rattle.call_code.specs.Frame.{a64_of, move_sp, back, save_x, save_z, restore_x, restore_z, enter, leave}
use Rattle.promises.specs.OneExit.{exit_call, exit_word}
use Rattle.call_code.specs.Returning.{trap_word, branch_by, returning_word, returning}
use Rattle.call_code.proofs.Among.{spelled_writes, unwritten_absent}
use Rattle.call_code.proofs.AroundWords.{AreSaved, are_saved, enter_listed, leave_listed}
use Rattle.call_code.proofs.Exits.{exit_listed}
use Rattle.call_code.proofs.Restores.{Absent, AreRegisters, absent, registers}

not_number : (r d : ℕ) → r ≢ d → is_number r (Some d) ≡ false
not_number r d ne = by (nat_eq d r) refl
  where
    by : (b : Bool) → nat_eq d r ≡ b → nat_eq d r ≡ false
    by false e = e
    by true e = absurd (ne (sym (eqb-true d r e)))

module _ (written : Listed → Option ℕ) (r : ℕ) where
  -- ---- instructions that do not write the register

  abbrev NoneWrites : List Listed → Type 0
  NoneWrites [] = Unit {0}
  NoneWrites (i ∷ is) = (is_number r (written i) ≡ false) × NoneWrites is

  none_both : (is js : List Listed) → NoneWrites is → NoneWrites js → NoneWrites (is ++ js)
  none_both [] js h k = k
  none_both (i ∷ is) js h k = (h.0, none_both is js h.1 k)

  no_word_writes : (is : List Listed) → AllListed is → NoneWrites is → is_written written r (listed_words is) ≡ false
  unfolding is_written
  no_word_writes [] listed h = refl
  no_word_writes (i ∷ is) listed h = ap₂ (λ a b. a || b) (spelled_writes written i r listed.0 ∙ h.0) (no_word_writes is listed.1 h.1)

  written_append : (xs ys : List ℕ) → is_written written r (xs ++ ys) ≡ (is_written written r xs || is_written written r ys)
  unfolding is_written
  written_append [] ys = refl
  written_append (x ∷ xs) ys = ap (λ b. word_writes written r x || b) (written_append xs ys) ∙ sym (or_assoc (word_writes written r x) (is_written written r xs) (is_written written r ys))
    where
      or_assoc : (a b c : Bool) → ((a || b) || c) ≡ (a || (b || c))
      or_assoc true b c = refl
      or_assoc false b c = refl

  -- ---- words that return in place of ending

  abbrev NoBranch : Type 0
  NoBranch = ((n : ℕ) → is_number r (written (a64_of a64.b (n ∷ []))) ≡ false) × (is_number r (written exit_call) ≡ false) × (is_number r (written (a64_of a64.brk (0 ∷ []))) ≡ false)

  returning_writes : NoBranch → (words : List ℕ) → length words ≤ 65536 → is_written written r (returning words) ≡ is_written written r words
  unfolding is_written
  returning_writes none [] few =
      let known : IsListed (a64_of a64.brk (0 ∷ [])) = is_instruction _ (omega arith, tt) refl in
      ap (λ b. b || false) (spelled_writes written (a64_of a64.brk (0 ∷ [])) r known ∙ none.2)
  returning_writes none (w ∷ ws) few = ap₂ (λ a b. a || b) (by (nat_eq w exit_word) refl) (returning_writes none ws (omega (arith, few)))
    where
      n : ℕ
      n = length ws

      by : (b : Bool) → nat_eq w exit_word ≡ b → word_writes written r (if b then branch_by (n + 2) else w) ≡ word_writes written r w
      by false e = refl
      by true e =
          let known : IsListed (a64_of a64.b ((n + 2) ∷ [])) = is_instruction _ (omega (arith, few), tt) refl in
          spelled_writes written (a64_of a64.b ((n + 2) ∷ [])) r known ∙ none.0 (n + 2)
          ∙ sym (ap (word_writes written r) (eqb-true w exit_word e) ∙ spelled_writes written exit_call r exit_listed ∙ none.1)

  -- ---- all words

  same_either : (a b c d : Bool) → a ≡ false → c ≡ d → (d ≡ false → b ≡ false) → (a || (c || b)) ≡ d
  same_either a b c true none same off = ap₂ (λ x y. x || (y || b)) none same
  same_either a b c false none same off = ap₂ (λ x y. x || y) none (ap₂ (λ x y. x || y) same (off refl))

  function_writes : NoBranch → (words : List ℕ) → length words ≤ 65536 → NoneWrites (enter (saved_by words)) → (is_written written r words ≡ false → NoneWrites (leave (saved_by words))) → is_written written r (function_words words) ≡ is_written written r words
  function_writes none words few before behind =
      let v = saved_by words in
      let h = are_saved words in
      written_append (listed_words (enter v)) (returning words ++ listed_words (leave v))
      ∙ ap (λ b. is_written written r (listed_words (enter v)) || b) (written_append (returning words) (listed_words (leave v)))
      ∙ same_either (is_written written r (listed_words (enter v))) (is_written written r (listed_words (leave v))) (is_written written r (returning words)) (is_written written r words)
      (no_word_writes (enter v) (enter_listed v h) before) (returning_writes none words few) (λ off. no_word_writes (leave v) (leave_listed v h) (behind off))

-- ---- the words around the code

module _ (r : ℕ) (ne : r ≢ 9) (low : r ≢ 31) where
  saves_no_x : (rs : List ℕ) (p : ℕ) → NoneWrites register_written r (save_x p rs)
  saves_no_x [] p = tt
  saves_no_x (q ∷ rs) p = (refl, saves_no_x rs (p + 1))

  low_saves_no_x : (rs : List ℕ) (p : ℕ) → NoneWrites register_written r (save_z p rs)
  low_saves_no_x [] p = tt
  low_saves_no_x (q ∷ rs) p = (not_number r 9 ne, (refl, low_saves_no_x rs (p + 1)))

  restores_no_x : (rs : List ℕ) (p : ℕ) → Absent r rs → NoneWrites register_written r (restore_x p rs)
  restores_no_x [] p off = tt
  restores_no_x (q ∷ rs) p off = (not_number r q off.0, restores_no_x rs (p + 1) off.1)

  low_restores_no_x : (rs : List ℕ) (p : ℕ) → NoneWrites register_written r (restore_z p rs)
  low_restores_no_x [] p = tt
  low_restores_no_x (q ∷ rs) p = (not_number r 9 ne, (refl, low_restores_no_x rs (p + 1)))

  down_no_x : (n : ℕ) → NoneWrites register_written r (move_sp a64.sub_imm n)
  down_no_x zero = tt
  down_no_x (suc n) = (not_number r 31 low, tt)

  up_no_x : (n : ℕ) → NoneWrites register_written r (move_sp a64.add_imm n)
  up_no_x zero = tt
  up_no_x (suc n) = (not_number r 31 low, tt)

  x_same : (words : List ℕ) → length words ≤ 65536 → is_written register_written r (function_words words) ≡ is_written register_written r words
  x_same words few =
      let v = saved_by words in
      function_writes register_written r (λ n. refl, refl, refl) words few
      (none_both register_written r (move_sp a64.sub_imm (frame_size v)) (save_x 0 v.x ++ save_z (length v.x) v.z) (down_no_x (frame_size v)) (none_both register_written r (save_x 0 v.x) (save_z (length v.x) v.z) (saves_no_x v.x 0) (low_saves_no_x v.z (length v.x))))
      (λ off. none_both register_written r (restore_z (length v.x) v.z) (restore_x 0 v.x ++ (move_sp a64.add_imm (frame_size v) ++ back ∷ [])) (low_restores_no_x v.z (length v.x))
      (none_both register_written r (restore_x 0 v.x) (move_sp a64.add_imm (frame_size v) ++ back ∷ []) (restores_no_x v.x 0 (unwritten_absent register_written words kept_x r off)) (none_both register_written r (move_sp a64.add_imm (frame_size v)) (back ∷ []) (up_no_x (frame_size v)) (refl, tt))))

module _ (r : ℕ) where
  saves_no_z : (rs : List ℕ) (p : ℕ) → NoneWrites vector_written r (save_x p rs)
  saves_no_z [] p = tt
  saves_no_z (q ∷ rs) p = (refl, saves_no_z rs (p + 1))

  low_saves_no_z : (rs : List ℕ) (p : ℕ) → NoneWrites vector_written r (save_z p rs)
  low_saves_no_z [] p = tt
  low_saves_no_z (q ∷ rs) p = (refl, (refl, low_saves_no_z rs (p + 1)))

  restores_no_z : (rs : List ℕ) (p : ℕ) → NoneWrites vector_written r (restore_x p rs)
  restores_no_z [] p = tt
  restores_no_z (q ∷ rs) p = (refl, restores_no_z rs (p + 1))

  low_restores_no_z : (rs : List ℕ) (p : ℕ) → Absent r rs → NoneWrites vector_written r (restore_z p rs)
  low_restores_no_z [] p off = tt
  low_restores_no_z (q ∷ rs) p off = (refl, (not_number r q off.0, low_restores_no_z rs (p + 1) off.1))

  down_no_z : (n : ℕ) → NoneWrites vector_written r (move_sp a64.sub_imm n)
  down_no_z zero = tt
  down_no_z (suc n) = (refl, tt)

  up_no_z : (n : ℕ) → NoneWrites vector_written r (move_sp a64.add_imm n)
  up_no_z zero = tt
  up_no_z (suc n) = (refl, tt)

  vectors_written_same : (words : List ℕ) → length words ≤ 65536 → is_written vector_written r (function_words words) ≡ is_written vector_written r words
  vectors_written_same words few =
      let v = saved_by words in
      function_writes vector_written r (λ n. refl, refl, refl) words few
      (none_both vector_written r (move_sp a64.sub_imm (frame_size v)) (save_x 0 v.x ++ save_z (length v.x) v.z) (down_no_z (frame_size v)) (none_both vector_written r (save_x 0 v.x) (save_z (length v.x) v.z) (saves_no_z v.x 0) (low_saves_no_z v.z (length v.x))))
      (λ off. none_both vector_written r (restore_z (length v.x) v.z) (restore_x 0 v.x ++ (move_sp a64.add_imm (frame_size v) ++ back ∷ [])) (low_restores_no_z v.z (length v.x) (unwritten_absent vector_written words kept_z r off))
      (none_both vector_written r (restore_x 0 v.x) (move_sp a64.add_imm (frame_size v) ++ back ∷ []) (restores_no_z v.x 0) (none_both vector_written r (move_sp a64.add_imm (frame_size v)) (back ∷ []) (up_no_z (frame_size v)) (refl, tt))))

-- ---- what is kept

-- these words write the same of some registers as those, where they write the same of each
among_same : (written : Listed → Option ℕ) (words others rs : List ℕ) → AreRegisters 31 rs → Absent 9 rs → ((r : ℕ) → r ≢ 9 → r < 31 → is_written written r words ≡ is_written written r others) → written_among written words rs ≡ written_among written others rs
unfolding written_among
among_same written words others [] low off same = refl
among_same written words others (r ∷ rs) low off same =
    ap₂ (λ b more. if b then r ∷ more else more) (same r (λ e. off.0 (sym e)) low.0) (among_same written words others rs low.2 off.1 same)

among_z : (words : List ℕ) → length words ≤ 65536 → (rs : List ℕ) → written_among vector_written (function_words words) rs ≡ written_among vector_written words rs
unfolding written_among
among_z words few [] = refl
among_z words few (r ∷ rs) = ap₂ (λ b more. if b then r ∷ more else more) (vectors_written_same r words few) (among_z words few rs)

pub keeps_same : (words : List ℕ) → length words ≤ 65536 → saved_by (function_words words) ≡ saved_by words
keeps_same words few =
    ap₂ (λ x z. record { x = x; z = z })
    (among_same register_written (function_words words) words kept_x (registers 31 kept_x refl) (absent 9 kept_x refl) (λ r ne low. x_same r ne (λ e. let same = e in absurd (omega (arith, low, same))) words few))
    (among_z words few kept_z)
