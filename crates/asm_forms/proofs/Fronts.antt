-- A text by the word at its front.
use Rattle.std.proofs.Common.{◌≡◌, ℕ, suc, ◌+◌, ◌<◌, ◌≤◌, List, [], ◌∷◌, ◌++◌, length, take, drop, Bool, true, false, ◌⊎◌, inl, inr, subst, refl, sym, ap, ◌∙◌, arith, append_assoc, length-append}
use Rattle.std.specs.List.{prefix_len}
use Rattle.std.proofs.lemmas.List.{append-nil}
use Rattle.asm_forms.specs.Blanks.{is_word_byte, over_words, blanked, blanked_word, byte_kept, numbers_of, numbers_of_word, no_number}

-- what is made of what stands behind a word
abbrev pub behind : (List ℕ → List ℕ) → (ℕ → List ℕ) → List ℕ → List ℕ
behind f g [] = []
behind f g (b ∷ text) = g b ++ over_words f g [] text

at_front : (f : List ℕ → List ℕ) (g : ℕ → List ℕ) (p text : List ℕ) (b : ℕ) (x : Bool) → is_word_byte b ≡ x
    → (over_words f g (p ++ b ∷ []) text ≡ f ((p ++ b ∷ []) ++ take (prefix_len is_word_byte text) text) ++ behind f g (drop (prefix_len is_word_byte text) text))
    → over_words f g p (b ∷ text) ≡ f (p ++ take (prefix_len is_word_byte (b ∷ text)) (b ∷ text)) ++ behind f g (drop (prefix_len is_word_byte (b ∷ text)) (b ∷ text))
unfolding over_words
at_front f g p text b true w ih = let e : 1 + prefix_len is_word_byte text ≡ suc (prefix_len is_word_byte text) = omega arith in rw (w, e) (ih ∙ ap (λ x. f x ++ behind f g (drop (prefix_len is_word_byte text) text)) (append_assoc p (b ∷ []) (take (prefix_len is_word_byte text) text)))
at_front f g p text b false w ih = rw (w, append-nil) (append_assoc (f p) (g b) (over_words f g [] text))

pub by_front : (f : List ℕ → List ℕ) (g : ℕ → List ℕ) (p text : List ℕ) → over_words f g p text ≡ f (p ++ take (prefix_len is_word_byte text) text) ++ behind f g (drop (prefix_len is_word_byte text) text)
unfolding over_words
by_front f g p [] = rw (append-nil, append-nil) refl
by_front f g p (b ∷ text) = at_front f g p text b (is_word_byte b) refl (by_front f g (p ++ b ∷ []) text)

-- of a text whose first word has k bytes
pub blanked-front : (text : List ℕ) (k : ℕ) → k ≡ prefix_len is_word_byte text → blanked text ≡ blanked_word (take k text) ++ behind blanked_word byte_kept (drop k text)
blanked-front text k e = by_front blanked_word byte_kept [] text ∙ ap (λ j. blanked_word (take j text) ++ behind blanked_word byte_kept (drop j text)) (sym e)

pub numbers-front : (text : List ℕ) (k : ℕ) → k ≡ prefix_len is_word_byte text → numbers_of text ≡ numbers_of_word (take k text) ++ behind numbers_of_word no_number (drop k text)
numbers-front text k e = by_front numbers_of_word no_number [] text ∙ ap (λ j. numbers_of_word (take j text) ++ behind numbers_of_word no_number (drop j text)) (sym e)

pub full_first : (text : List ℕ) (k o n : ℕ) → k ≡ prefix_len is_word_byte text
    → (32 < o + length (blanked_word (take k text))) ⊎ (8 < n + length (numbers_of_word (take k text)))
    → (32 < o + length (blanked text)) ⊎ (8 < n + length (numbers_of text))
full_first text k o n e (inl h) =
    inl (let l = ap length (blanked-front text k e) ∙ length-append (blanked_word (take k text)) (behind blanked_word byte_kept (drop k text)) in omega (arith, l))
full_first text k o n e (inr h) =
    inr (let l = ap length (numbers-front text k e) ∙ length-append (numbers_of_word (take k text)) (behind numbers_of_word no_number (drop k text)) in omega (arith, l))

pub held_end : (text old new on nn : List ℕ) (k : ℕ) → k ≡ prefix_len is_word_byte text → drop k text ≡ []
    → (new ≡ old ++ blanked_word (take k text)) × (nn ≡ on ++ numbers_of_word (take k text))
    → (new ≡ old ++ blanked text) × (nn ≡ on ++ numbers_of text)
held_end text old new on nn k e d h = (
  h.0 ∙ ap (λ x. old ++ x) (sym (blanked-front text k e ∙ ap (λ x. blanked_word (take k text) ++ behind blanked_word byte_kept x) d ∙ append-nil (blanked_word (take k text)))),
  h.1 ∙ ap (λ x. on ++ x) (sym (numbers-front text k e ∙ ap (λ x. numbers_of_word (take k text) ++ behind numbers_of_word no_number x) d ∙ append-nil (numbers_of_word (take k text)))),
)

-- where a byte stands behind the word
pub more_blanked : (text rest : List ℕ) (k b : ℕ) → k ≡ prefix_len is_word_byte text → drop k text ≡ b ∷ rest → blanked text ≡ (blanked_word (take k text) ++ b ∷ []) ++ blanked rest
more_blanked text rest k b e d =
    blanked-front text k e ∙ ap (λ x. blanked_word (take k text) ++ behind blanked_word byte_kept x) d ∙ sym (append_assoc (blanked_word (take k text)) (b ∷ []) (blanked rest))

pub more_numbers : (text rest : List ℕ) (k b : ℕ) → k ≡ prefix_len is_word_byte text → drop k text ≡ b ∷ rest → numbers_of text ≡ numbers_of_word (take k text) ++ numbers_of rest
more_numbers text rest k b e d =
    numbers-front text k e ∙ ap (λ x. numbers_of_word (take k text) ++ behind numbers_of_word no_number x) d

pub held_more : (text old mid pushed new on nmid nn : List ℕ) (k b : ℕ) (rest : List ℕ) → k ≡ prefix_len is_word_byte text → drop k text ≡ b ∷ rest
    → (mid ≡ old ++ blanked_word (take k text)) × (nmid ≡ on ++ numbers_of_word (take k text)) → pushed ≡ mid ++ b ∷ []
    → (new ≡ pushed ++ blanked rest) × (nn ≡ nmid ++ numbers_of rest)
    → (new ≡ old ++ blanked text) × (nn ≡ on ++ numbers_of text)
held_more text old mid pushed new on nmid nn k b rest e d m p r =
    let w = blanked_word (take k text) in
    let v = numbers_of_word (take k text) in (
      r.0 ∙ ap (λ x. x ++ blanked rest) (p ∙ ap (λ x. x ++ b ∷ []) m.0 ∙ append_assoc old w (b ∷ [])) ∙ append_assoc old (w ++ b ∷ []) (blanked rest)
          ∙ ap (λ x. old ++ x) (sym (more_blanked text rest k b e d)),
      r.1 ∙ ap (λ x. x ++ numbers_of rest) m.1 ∙ append_assoc on v (numbers_of rest) ∙ ap (λ x. on ++ x) (sym (more_numbers text rest k b e d)),
    )

pub full_more : (text rest mid nmid old on pushed : List ℕ) (k b : ℕ) → k ≡ prefix_len is_word_byte text → drop k text ≡ b ∷ rest
    → (mid ≡ old ++ blanked_word (take k text)) × (nmid ≡ on ++ numbers_of_word (take k text)) → pushed ≡ mid ++ b ∷ []
    → (32 < length pushed + length (blanked rest)) ⊎ (8 < length nmid + length (numbers_of rest))
    → (32 < length old + length (blanked text)) ⊎ (8 < length on + length (numbers_of text))
full_more text rest mid nmid old on pushed k b e d m p (inl h) =
    let w = blanked_word (take k text) in
    let l = ap length (more_blanked text rest k b e d) ∙ length-append (w ++ b ∷ []) (blanked rest) in
    let j = length-append w (b ∷ []) in
    let q = ap length p ∙ length-append mid (b ∷ []) in
    let s = ap length m.0 ∙ length-append old w in
    inl (omega (arith, l, j, q, s))
full_more text rest mid nmid old on pushed k b e d m p (inr h) =
    let v = numbers_of_word (take k text) in
    let l = ap length (more_numbers text rest k b e d) ∙ length-append v (numbers_of rest) in
    let s = ap length m.1 ∙ length-append on v in
    inr (omega (arith, l, s))

pub full_byte : (text rest mid nmid old on : List ℕ) (k b : ℕ) → k ≡ prefix_len is_word_byte text → drop k text ≡ b ∷ rest
    → (mid ≡ old ++ blanked_word (take k text)) × (nmid ≡ on ++ numbers_of_word (take k text)) → 32 ≤ length mid
    → (32 < length old + length (blanked text)) ⊎ (8 < length on + length (numbers_of text))
full_byte text rest mid nmid old on k b e d m h =
    let w = blanked_word (take k text) in
    let l = ap length (more_blanked text rest k b e d) ∙ length-append (w ++ b ∷ []) (blanked rest) in
    let j = length-append w (b ∷ []) in
    let s = ap length m.0 ∙ length-append old w in
    inl (omega (arith, l, j, s))

-- ---- the same of the word by its own name
abbrev pub first_len : List ℕ → ℕ
first_len text = prefix_len is_word_byte text

-- what was held after the word
abbrev pub Pushed : (word old mid on nmid : List ℕ) → Type 0
Pushed word old mid on nmid = (mid ≡ old ++ blanked_word word) × (nmid ≡ on ++ numbers_of_word word)

pub word_full : (text word : List ℕ) (o n : ℕ) → word ≡ take (first_len text) text
    → (32 < o + length (blanked_word word)) ⊎ (8 < n + length (numbers_of_word word))
    → (32 < o + length (blanked text)) ⊎ (8 < n + length (numbers_of text))
word_full text word o n e h =
    full_first text (first_len text) o n refl (subst (λ x. (32 < o + length (blanked_word x)) ⊎ (8 < n + length (numbers_of_word x))) e h)

pub end_held : (text word old mid on nmid : List ℕ) → word ≡ take (first_len text) text → drop (first_len text) text ≡ [] → Pushed word old mid on nmid
    → (mid ≡ old ++ blanked text) × (nmid ≡ on ++ numbers_of text)
end_held text word old mid on nmid e d h = held_end text old mid on nmid (first_len text) refl d (subst (λ x. Pushed x old mid on nmid) e h)

pub rest_held : (text word old mid pushed new on nmid nn : List ℕ) (b : ℕ) (rest : List ℕ) → word ≡ take (first_len text) text → drop (first_len text) text ≡ b ∷ rest
    → Pushed word old mid on nmid → pushed ≡ mid ++ b ∷ [] → (new ≡ pushed ++ blanked rest) × (nn ≡ nmid ++ numbers_of rest)
    → (new ≡ old ++ blanked text) × (nn ≡ on ++ numbers_of text)
rest_held text word old mid pushed new on nmid nn b rest e d h p r =
    held_more text old mid pushed new on nmid nn (first_len text) b rest refl d (subst (λ x. Pushed x old mid on nmid) e h) p r

pub rest_full : (text word rest mid nmid old on pushed : List ℕ) (b : ℕ) → word ≡ take (first_len text) text → drop (first_len text) text ≡ b ∷ rest
    → Pushed word old mid on nmid → pushed ≡ mid ++ b ∷ []
    → (32 < length pushed + length (blanked rest)) ⊎ (8 < length nmid + length (numbers_of rest))
    → (32 < length old + length (blanked text)) ⊎ (8 < length on + length (numbers_of text))
rest_full text word rest mid nmid old on pushed b e d h p r =
    full_more text rest mid nmid old on pushed (first_len text) b refl d (subst (λ x. Pushed x old mid on nmid) e h) p r

pub byte_full : (text word rest mid nmid old on : List ℕ) (b : ℕ) → word ≡ take (first_len text) text → drop (first_len text) text ≡ b ∷ rest
    → Pushed word old mid on nmid → 32 ≤ length mid
    → (32 < length old + length (blanked text)) ⊎ (8 < length on + length (numbers_of text))
byte_full text word rest mid nmid old on b e d h r =
    full_byte text rest mid nmid old on (first_len text) b refl d (subst (λ x. Pushed x old mid on nmid) e h) r
