-- The words before `--`, by what they are.
use Rattle.std.proofs.Common.{refl, sym, ap, inl, inr, ◌∙◌, ◌≡◌, ℕ, List, ◌∷◌, ◌++◌, Bool, true, false, codes, Option, Some, None, if◌then◌else◌}
use Rattle.std.specs.Prelude.{option_map, option_and_then, bytes_eq, unwrap_or, ◌⊎◌, ◌==◌}
use Rattle.std.proofs.lemmas.Bool.{eqb-true, ltb-true}
use Rattle.std.proofs.lemmas.Option.{none-some}
use Rattle.std.proofs.lemmas.List.Sums.{split_at_first, passes_at_first}
use Rattle.std.specs.List.{before_first, after_first}
use Rattle.number_text.proofs.Bytes.{bytes_eq-told}
use Rattle.command_line.specs.Line.{is_end, is_plain, is_filled}
use Rattle.command_line.specs.Numbers.{parted}
use Rattle.command_line.specs.Given.{name_of, joined_of, name_before}
use Rattle.command_line.specs.declared.place.OptionName.{OptionName}
use Rattle.command_line.specs.declared.place.OptionName.TheVariants.{Vl, Steps, Map, Dump, Suppress}

abbrev pub word_of : OptionName → List ℕ
word_of Vl = codes "--vl"
word_of Steps = codes "--steps"
word_of Map = codes "--map"
word_of Dump = codes "--dump"
word_of Suppress = codes "--suppress"

pub data Sorted (word : List ℕ) : Type 0 where
  ends : is_end word ≡ true → Sorted word
  plain : is_end word ≡ false → is_plain word ≡ true → Sorted word
  alone : is_end word ≡ false → is_plain word ≡ false → (n : OptionName) → name_of word ≡ Some n → Sorted word
  joined : is_end word ≡ false → is_plain word ≡ false → name_of word ≡ None → (n : OptionName) (v : List ℕ) → joined_of word ≡ Some (n, v) → Sorted word
  other : is_end word ≡ false → is_plain word ≡ false → name_of word ≡ None → joined_of word ≡ None → Sorted word

pub sorted : (word : List ℕ) → Sorted word
sorted word = by_end (is_end word) refl
  where
    by_joined : is_end word ≡ false → is_plain word ≡ false → name_of word ≡ None → (o : Option (OptionName × List ℕ)) → joined_of word ≡ o → Sorted word
    by_joined e p n None j = other e p n j
    by_joined e p n (Some x) j = joined e p n x.0 x.1 j

    by_name : is_end word ≡ false → is_plain word ≡ false → (o : Option OptionName) → name_of word ≡ o → Sorted word
    by_name e p None n = by_joined e p n (joined_of word) refl
    by_name e p (Some x) n = alone e p x n

    by_plain : is_end word ≡ false → (b : Bool) → is_plain word ≡ b → Sorted word
    by_plain e true p = plain e p
    by_plain e false p = by_name e p (name_of word) refl

    by_end : (b : Bool) → is_end word ≡ b → Sorted word
    by_end true e = ends e
    by_end false e = by_plain e (is_plain word) refl

pub unwrapped : {A : Type 0} (d x y : A) → Some x ≡ Some y → x ≡ y
unwrapped d x y e = ap (λ o. unwrap_or o d) e

pick : {A : Type 0} (b : Bool) (m n : A) (rest : Option A) → (if b then Some m else rest) ≡ Some n → ((b ≡ true) × (m ≡ n)) ⊎ (rest ≡ Some n)
pick true m n rest e = inl (refl, unwrapped m m n e)
pick false m n rest e = inr e

pub name_is : (word : List ℕ) (n : OptionName) → name_of word ≡ Some n → word ≡ word_of n
name_is word n e = by_vl (pick (bytes_eq word (codes "--vl")) Vl n _ e)
  where
    by_suppress : ((bytes_eq word (codes "--suppress") ≡ true) × (Suppress ≡ n)) ⊎ (None ≡ Some n) → word ≡ word_of n
    by_suppress (inl h) = bytes_eq-told _ _ h.0 ∙ ap word_of h.1
    by_suppress (inr h) = absurd (none-some n h)

    by_dump : ((bytes_eq word (codes "--dump") ≡ true) × (Dump ≡ n)) ⊎ ((if bytes_eq word (codes "--suppress") then Some Suppress else None) ≡ Some n) → word ≡ word_of n
    by_dump (inl h) = bytes_eq-told _ _ h.0 ∙ ap word_of h.1
    by_dump (inr h) = by_suppress (pick (bytes_eq word (codes "--suppress")) Suppress n None h)

    by_map : ((bytes_eq word (codes "--map") ≡ true) × (Map ≡ n)) ⊎ ((if bytes_eq word (codes "--dump") then Some Dump else if bytes_eq word (codes "--suppress") then Some Suppress else None) ≡ Some n) → word ≡ word_of n
    by_map (inl h) = bytes_eq-told _ _ h.0 ∙ ap word_of h.1
    by_map (inr h) = by_dump (pick (bytes_eq word (codes "--dump")) Dump n _ h)

    by_steps : ((bytes_eq word (codes "--steps") ≡ true) × (Steps ≡ n)) ⊎ ((if bytes_eq word (codes "--map") then Some Map else if bytes_eq word (codes "--dump") then Some Dump else if bytes_eq word (codes "--suppress") then Some Suppress else None) ≡ Some n) → word ≡ word_of n
    by_steps (inl h) = bytes_eq-told _ _ h.0 ∙ ap word_of h.1
    by_steps (inr h) = by_map (pick (bytes_eq word (codes "--map")) Map n _ h)

    by_vl : ((bytes_eq word (codes "--vl") ≡ true) × (Vl ≡ n)) ⊎ ((if bytes_eq word (codes "--steps") then Some Steps else if bytes_eq word (codes "--map") then Some Map else if bytes_eq word (codes "--dump") then Some Dump else if bytes_eq word (codes "--suppress") then Some Suppress else None) ≡ Some n) → word ≡ word_of n
    by_vl (inl h) = bytes_eq-told _ _ h.0 ∙ ap word_of h.1
    by_vl (inr h) = by_steps (pick (bytes_eq word (codes "--steps")) Steps n _ h)

some_if : {A : Type 0} (b : Bool) (x y : A) → (if b then Some x else None) ≡ Some y → (b ≡ true) × (x ≡ y)
some_if true x y e = (refl, unwrapped x x y e)
some_if false x y e = absurd (none-some y e)

-- a word with an equals sign has it between its parts
pub parts_are : (word before after : List ℕ) → parted 61 word ≡ Some (before, after) → word ≡ before ++ (61 ∷ after)
unfolding parted
parts_are word before after e =
    let is : ℕ → Bool = λ c. c == 61 in
    let h = some_if _ _ _ e in
    let lt = ltb-true _ _ h.0 in
    split_at_first is word 61 lt
    ∙ ap (λ (c : ℕ). before_first is word ++ (c ∷ after_first is word)) (eqb-true _ _ (passes_at_first is word 61 lt))
    ∙ ap (λ (p : List ℕ × List ℕ). p.0 ++ (61 ∷ p.1)) h.1

-- the name and the value of a word with an equals sign
pub joined_is : (word : List ℕ) (n : OptionName) (v : List ℕ) → joined_of word ≡ Some (n, v) → (word ≡ word_of n ++ (61 ∷ v)) × (is_filled v ≡ true)
unfolding joined_of
joined_is word n v e = by_parts (parted 61 word) refl e
  where
    by_name : (p : List ℕ × List ℕ) → parted 61 word ≡ Some p → is_filled p.1 ≡ true → (o : Option OptionName) → name_of p.0 ≡ o → option_map {U = OptionName × List ℕ} (λ name. (name, p.1)) o ≡ Some (n, v) → (word ≡ word_of n ++ (61 ∷ v)) × (is_filled v ≡ true)
    by_name p w f None o g = absurd (none-some (n, v) g)
    by_name p w f (Some m) o g =
        let same : ◌≡◌ {A = OptionName × List ℕ} (m, p.1) (n, v) = unwrapped (n, v) (m, p.1) (n, v) g in
        let names : p.0 ≡ word_of n = name_is p.0 m o ∙ ap (λ (x : OptionName × List ℕ). word_of x.0) same in
        let values : p.1 ≡ v = ap (λ (x : OptionName × List ℕ). x.1) same in
        (parts_are word p.0 p.1 w ∙ ap (λ (x : List ℕ). x ++ (61 ∷ p.1)) names ∙ ap (λ (x : List ℕ). word_of n ++ (61 ∷ x)) values, sym (ap is_filled values) ∙ f)

    by_filled : (p : List ℕ × List ℕ) → parted 61 word ≡ Some p → (b : Bool) → is_filled p.1 ≡ b → (if b then option_map {U = OptionName × List ℕ} (λ name. (name, p.1)) (name_of p.0) else None) ≡ Some (n, v) → (word ≡ word_of n ++ (61 ∷ v)) × (is_filled v ≡ true)
    by_filled p w true f g = by_name p w f (name_of p.0) refl g
    by_filled p w false f g = absurd (none-some (n, v) g)

    by_parts : (o : Option (List ℕ × List ℕ)) → parted 61 word ≡ o → option_and_then name_before o ≡ Some (n, v) → (word ≡ word_of n ++ (61 ∷ v)) × (is_filled v ≡ true)
    by_parts None w g = absurd (none-some (n, v) g)
    by_parts (Some p) w g = by_filled p w (is_filled p.1) refl g
