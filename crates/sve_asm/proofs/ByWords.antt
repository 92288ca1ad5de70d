-- A text read word by word: its blanks and its numbers.
use Rattle.std.proofs.Common.{◌≡◌, ℕ, List, [], ◌∷◌, ◌++◌, Bool, true, false, None, refl, sym, ap, ◌∙◌, append_assoc}
use Rattle.std.proofs.lemmas.Bool.{and_parts, not-true}
use Rattle.std.specs.Prelude.{◌&&◌, not, bytes_eq}
use Rattle.std.specs.List.{list_all}
use Rattle.std.proofs.lemmas.List.{append-nil}
use Rattle.number_text.specs.Numbers.{decimal_of}
use Rattle.number_text.proofs.Bytes.{bytes_eq-told}
use Rattle.asm_forms.specs.Blanks.{is_word_byte, meanings, meaning_in, blank_of, over_words, blanked_word, numbers_of_word, byte_kept, no_number}
use Rattle.sve_asm.proofs.Words.{IsBlanked}

-- no word goes on at the front of the text
abbrev pub ends : List ℕ → Bool
ends [] = true
ends (b ∷ text) = not (is_word_byte b)

-- a text that ends between words
abbrev pub closes : List ℕ → Bool
closes [] = false
closes (b ∷ []) = not (is_word_byte b)
closes (b ∷ c ∷ text) = closes (c ∷ text)

over_words_of_word : (f : List ℕ → List ℕ) (g : ℕ → List ℕ) (w p text : List ℕ) → list_all is_word_byte w ≡ true → over_words f g p (w ++ text) ≡ over_words f g (p ++ w) text
unfolding over_words
over_words_of_word f g [] p text h = rw append-nil refl
over_words_of_word f g (b ∷ w) p text h =
    let q = and_parts (is_word_byte b) (list_all is_word_byte w) h in
    rw q.0 (over_words_of_word f g w (p ++ b ∷ []) text q.1 ∙ ap (λ x. over_words f g x text) (append_assoc p (b ∷ []) w))

over_words_at_stop : (f : List ℕ → List ℕ) (g : ℕ → List ℕ) (p text : List ℕ) → f [] ≡ [] → ends text ≡ true → over_words f g p text ≡ f p ++ over_words f g [] text
unfolding over_words
over_words_at_stop f g p [] e h = sym (rw (e, append-nil) refl)
over_words_at_stop f g p (b ∷ text) e h = rw (not-true (is_word_byte b) h, e) (append_assoc (f p) (g b) (over_words f g [] text))

over_words_of_byte : (f : List ℕ → List ℕ) (g : ℕ → List ℕ) (b : ℕ) (c p text : List ℕ) (x : Bool) → is_word_byte b ≡ x
    → ((q : List ℕ) → over_words f g q (c ++ text) ≡ over_words f g q c ++ over_words f g [] text)
    → over_words f g p (b ∷ (c ++ text)) ≡ over_words f g p (b ∷ c) ++ over_words f g [] text
unfolding over_words
over_words_of_byte f g b c p text true w ih = rw w (ih (p ++ b ∷ []))
over_words_of_byte f g b c p text false w ih = rw (w, ih []) (sym (append_assoc (f p ++ g b) (over_words f g [] c) (over_words f g [] text)))

over_words_append : (f : List ℕ → List ℕ) (g : ℕ → List ℕ) (c p text : List ℕ) → f [] ≡ [] → closes c ≡ true → over_words f g p (c ++ text) ≡ over_words f g p c ++ over_words f g [] text
unfolding over_words
over_words_append f g [] p text e h = cc
over_words_append f g (b ∷ []) p text e h = rw (not-true (is_word_byte b) h, e, append-nil) refl
over_words_append f g (b ∷ d ∷ c) p text e h = over_words_of_byte f g b (d ∷ c) p text (is_word_byte b) refl (λ q. over_words_append f g (d ∷ c) q text e h)

-- the blanks and the numbers of a text
pub record Reads (text blanks numbers : List ℕ) : Type 0 where
  pub blanks_are : over_words blanked_word byte_kept [] text ≡ blanks
  pub numbers_are : over_words numbers_of_word no_number [] text ≡ numbers

no_blank : blanked_word [] ≡ []
unfolding blank_of meanings meaning_in decimal_of
no_blank = refl

none_there : numbers_of_word [] ≡ []
unfolding blank_of meanings meaning_in decimal_of
none_there = refl

pub reads-none : Reads [] [] []
unfolding over_words
reads-none = record { blanks_are = no_blank; numbers_are = none_there }

-- a word with a blank stands in front
pub reads-blank : {w text blanks numbers : List ℕ} {b n : ℕ} → IsBlanked w b n → ends text ≡ true → Reads text blanks numbers → Reads (w ++ text) (b ∷ blanks) (n ∷ numbers)
reads-blank {w} {text} {blanks} {numbers} {b} {n} is e r = record {
  blanks_are = over_words_of_word blanked_word byte_kept w [] text is.word ∙ over_words_at_stop blanked_word byte_kept w text no_blank e ∙ rw (is.blank, r.blanks_are) refl;
  numbers_are = over_words_of_word numbers_of_word no_number w [] text is.word ∙ over_words_at_stop numbers_of_word no_number w text none_there e ∙ rw (is.blank, r.numbers_are) refl;
}

-- and nothing behind it
pub reads-last : {w : List ℕ} {b n : ℕ} → IsBlanked w b n → Reads w (b ∷ []) (n ∷ [])
reads-last {w} {b} {n} is = rw append-nil at (reads-blank {text = []} is refl reads-none)

-- bytes in front that end between words, with what they read as
pub reads-bytes : (c : List ℕ) {text blanks numbers : List ℕ} → closes c ≡ true → Reads text blanks numbers
    → Reads (c ++ text) (over_words blanked_word byte_kept [] c ++ blanks) (over_words numbers_of_word no_number [] c ++ numbers)
reads-bytes c {text} {blanks} {numbers} h r = record {
  blanks_are = over_words_append blanked_word byte_kept c [] text no_blank h ∙ rw r.blanks_are refl;
  numbers_are = over_words_append numbers_of_word no_number c [] text none_there h ∙ rw r.numbers_are refl;
}

-- bytes that end between words, and have no number
abbrev pub is_plain : List ℕ → Bool
is_plain c = closes c && (bytes_eq (over_words blanked_word byte_kept [] c) c && bytes_eq (over_words numbers_of_word no_number [] c) [])

pub reads-plain : (c : List ℕ) {text blanks numbers : List ℕ} → is_plain c ≡ true → Reads text blanks numbers → Reads (c ++ text) (c ++ blanks) numbers
reads-plain c {text} {blanks} {numbers} h r =
    let p = and_parts (closes c) (bytes_eq (over_words blanked_word byte_kept [] c) c && bytes_eq (over_words numbers_of_word no_number [] c) []) h in
    let q = and_parts (bytes_eq (over_words blanked_word byte_kept [] c) c) (bytes_eq (over_words numbers_of_word no_number [] c) []) p.1 in
    let b = bytes_eq-told (over_words blanked_word byte_kept [] c) c q.0 in
    let n = bytes_eq-told (over_words numbers_of_word no_number [] c) [] q.1 in
    let r = reads-bytes c p.0 r in
    record { blanks_are = r.blanks_are ∙ ap (λ x. x ++ blanks) b; numbers_are = r.numbers_are ∙ ap (λ x. x ++ numbers) n }

last_word : (w : List ℕ) → blank_of w ≡ None → over_words blanked_word byte_kept w [] ≡ w
unfolding over_words
last_word w e = rw e refl

last_number : (w : List ℕ) → blank_of w ≡ None → over_words numbers_of_word no_number w [] ≡ []
unfolding over_words
last_number w e = rw e refl

-- a word without a meaning that stands last
pub reads-word : (w : List ℕ) → list_all is_word_byte w ≡ true → blank_of w ≡ None → Reads w w []
reads-word w h e = record {
  blanks_are = ap (over_words blanked_word byte_kept []) (sym (append-nil w)) ∙ over_words_of_word blanked_word byte_kept w [] [] h ∙ last_word w e;
  numbers_are = ap (over_words numbers_of_word no_number []) (sym (append-nil w)) ∙ over_words_of_word numbers_of_word no_number w [] [] h ∙ last_number w e;
}
