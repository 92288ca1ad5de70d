use Rattle.std.proofs.Common.{◌≡◌, ℕ, List, [], ◌∷◌, ◌++◌, refl, ap, ◌∙◌, lit<, lit≤, arith}
use Rattle.number_text.specs.Hexadecimal.{hex_digit}
use Rattle.word_rows.specs.Field.{bits}
use Rattle.list_text.proofs.Pieces.{next}
use Rattle.list_text.proofs.push_hex_word.Goals as goal

by_digit : {b : List ℕ} {d e : ℕ} (a : List ℕ) → b ≡ a ++ hex_digit d ∷ [] → d ≡ e → b ≡ a ++ hex_digit e ∷ []
by_digit a e is = e ∙ ap (λ d. a ++ hex_digit d ∷ []) is

eight : (t : List ℕ) (a b c d e f g h : ℕ)
    → t ++ a ∷ [] ++ b ∷ [] ++ c ∷ [] ++ d ∷ [] ++ e ∷ [] ++ f ∷ [] ++ g ∷ [] ++ h ∷ [] ≡ t ++ a ∷ b ∷ c ∷ d ∷ e ∷ f ∷ g ∷ h ∷ []
eight [] a b c d e f g h = refl
eight (x ∷ t) a b c d e f g h = ap (λ (l : List ℕ). x ∷ l) (eight t a b c d e f g h)

pub field-requires : goal.field-requires
field-requires g c = record { within = lit≤ tt; begins = lit< tt; part = lit< tt }

pub push_hex_digit-requires : goal.push_hex_digit-requires
push_hex_digit-requires g c = (c.requires-raw.1.0, (omega (arith, c.requires), c.field.ensures.below))

pub field-requires-2 : goal.field-requires-2
field-requires-2 g c = record { within = lit≤ tt; begins = lit< tt; part = lit< tt }

pub push_hex_digit-requires-2 : goal.push_hex_digit-requires-2
push_hex_digit-requires-2 g c = (c.requires-raw.1.0, (omega (arith, c.requires, c.push_hex_digit.ensures.len), c.field-2.ensures.below))

pub field-requires-3 : goal.field-requires-3
field-requires-3 g c = record { within = lit≤ tt; begins = lit< tt; part = lit< tt }

pub push_hex_digit-requires-3 : goal.push_hex_digit-requires-3
push_hex_digit-requires-3 g c = (c.requires-raw.1.0, (omega (arith, c.requires, c.push_hex_digit.ensures.len, c.push_hex_digit-2.ensures.len), c.field-3.ensures.below))

pub field-requires-4 : goal.field-requires-4
field-requires-4 g c = record { within = lit≤ tt; begins = lit< tt; part = lit< tt }

pub push_hex_digit-requires-4 : goal.push_hex_digit-requires-4
push_hex_digit-requires-4 g c = (c.requires-raw.1.0, (omega (arith, c.requires, c.push_hex_digit.ensures.len, c.push_hex_digit-2.ensures.len, c.push_hex_digit-3.ensures.len), c.field-4.ensures.below))

pub field-requires-5 : goal.field-requires-5
field-requires-5 g c = record { within = lit≤ tt; begins = lit< tt; part = lit< tt }

pub push_hex_digit-requires-5 : goal.push_hex_digit-requires-5
push_hex_digit-requires-5 g c = (c.requires-raw.1.0, (omega (arith, c.requires, c.push_hex_digit.ensures.len, c.push_hex_digit-2.ensures.len, c.push_hex_digit-3.ensures.len, c.push_hex_digit-4.ensures.len), c.field-5.ensures.below))

pub field-requires-6 : goal.field-requires-6
field-requires-6 g c = record { within = lit≤ tt; begins = lit< tt; part = lit< tt }

pub push_hex_digit-requires-6 : goal.push_hex_digit-requires-6
push_hex_digit-requires-6 g c = (c.requires-raw.1.0, (omega (arith, c.requires, c.push_hex_digit.ensures.len, c.push_hex_digit-2.ensures.len, c.push_hex_digit-3.ensures.len, c.push_hex_digit-4.ensures.len, c.push_hex_digit-5.ensures.len), c.field-6.ensures.below))

pub field-requires-7 : goal.field-requires-7
field-requires-7 g c = record { within = lit≤ tt; begins = lit< tt; part = lit< tt }

pub push_hex_digit-requires-7 : goal.push_hex_digit-requires-7
push_hex_digit-requires-7 g c = (c.requires-raw.1.0, (omega (arith, c.requires, c.push_hex_digit.ensures.len, c.push_hex_digit-2.ensures.len, c.push_hex_digit-3.ensures.len, c.push_hex_digit-4.ensures.len, c.push_hex_digit-5.ensures.len, c.push_hex_digit-6.ensures.len), c.field-7.ensures.below))

pub field-requires-8 : goal.field-requires-8
field-requires-8 g c = record { within = lit≤ tt; begins = lit< tt; part = lit< tt }

pub push_hex_digit-requires-8 : goal.push_hex_digit-requires-8
push_hex_digit-requires-8 g c = (c.requires-raw.1.0, (omega (arith, c.requires, c.push_hex_digit.ensures.len, c.push_hex_digit-2.ensures.len, c.push_hex_digit-3.ensures.len, c.push_hex_digit-4.ensures.len, c.push_hex_digit-5.ensures.len, c.push_hex_digit-6.ensures.len, c.push_hex_digit-7.ensures.len), c.field-8.ensures.below))

pub returns : goal.returns
returns g c = record {
  bytes =
      by_digit c.push_hex_digit-7.new.into.bytes c.push_hex_digit-8.ensures.bytes c.field-8.ensures.value
      ∙ next (hex_digit (bits c.args.word 0 4) ∷ []) (by_digit c.push_hex_digit-6.new.into.bytes c.push_hex_digit-7.ensures.bytes c.field-7.ensures.value
      ∙ next (hex_digit (bits c.args.word 4 4) ∷ []) (by_digit c.push_hex_digit-5.new.into.bytes c.push_hex_digit-6.ensures.bytes c.field-6.ensures.value
      ∙ next (hex_digit (bits c.args.word 8 4) ∷ []) (by_digit c.push_hex_digit-4.new.into.bytes c.push_hex_digit-5.ensures.bytes c.field-5.ensures.value
      ∙ next (hex_digit (bits c.args.word 12 4) ∷ []) (by_digit c.push_hex_digit-3.new.into.bytes c.push_hex_digit-4.ensures.bytes c.field-4.ensures.value
      ∙ next (hex_digit (bits c.args.word 16 4) ∷ []) (by_digit c.push_hex_digit-2.new.into.bytes c.push_hex_digit-3.ensures.bytes c.field-3.ensures.value
      ∙ next (hex_digit (bits c.args.word 20 4) ∷ []) (by_digit c.push_hex_digit.new.into.bytes c.push_hex_digit-2.ensures.bytes c.field-2.ensures.value
      ∙ next (hex_digit (bits c.args.word 24 4) ∷ []) (by_digit c.args.into.now.bytes c.push_hex_digit.ensures.bytes c.field.ensures.value)))))))
      ∙ eight c.args.into.now.bytes (hex_digit (bits c.args.word 28 4)) (hex_digit (bits c.args.word 24 4)) (hex_digit (bits c.args.word 20 4)) (hex_digit (bits c.args.word 16 4)) (hex_digit (bits c.args.word 12 4)) (hex_digit (bits c.args.word 8 4)) (hex_digit (bits c.args.word 4 4)) (hex_digit (bits c.args.word 0 4));
  len = omega (arith, c.push_hex_digit.ensures.len, c.push_hex_digit-2.ensures.len, c.push_hex_digit-3.ensures.len, c.push_hex_digit-4.ensures.len, c.push_hex_digit-5.ensures.len, c.push_hex_digit-6.ensures.len, c.push_hex_digit-7.ensures.len, c.push_hex_digit-8.ensures.len);
}
