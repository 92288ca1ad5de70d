-- The decimal digits of a number are its token, before a byte that is no digit and no `x`.
use Rattle.std.proofs.Common.{◌≡◌, ℕ, ◌+◌, ◌-◌, ◌<◌, ◌^◌, List, [], ◌∷◌, ◌++◌, length, true, false, Ok, refl, ap, ◌∙◌, arith, eqb, ltb}
use Rattle.std.specs.Prelude.{decimal}
use Rattle.std.specs.List.{prefix_len, list_all}
use Rattle.std.specs.Str.Parse.{AllDigits}
use Rattle.std.proofs.lemmas.Bool.{lt-ltb, and_parts}
use Rattle.std.proofs.lemmas.Fmt.{decimal_is_IsNumeral}
use Rattle.std.proofs.Math.Seq.{take-append_seam}
use Rattle.kernel_tree.specs.TextToken.{TextToken, IsNumber}
use Rattle.kernel_tree.specs.Tokens.{begins_hex, Token, piece, literal, decimal_from, before, scan}
use Rattle.kernel_tree.proofs.Lexed.{moved, scan-skip, scan-token, prefix_len-all, digit_most, no_x, digit_piece, no_hex}
use Rattle.number_text.specs.Numbers.{is_digit, value_of}
use Rattle.number_text.proofs.DecimalDigits.{all_digits, digits_value-is}

-- a byte that ends a decimal number
pub record Stops (c : ℕ) : Type 0 where
  pub digit : is_digit c ≡ false
  pub cross : eqb c 120 ≡ false

digit_stops : (c : ℕ) (s : List ℕ) → Stops c → prefix_len is_digit (c ∷ s) ≡ 0
digit_stops c s h = rw h.digit refl

decimal_begins : (b : ℕ) (t : List ℕ) (c : ℕ) (s : List ℕ) → Stops c → list_all is_digit t ≡ true → begins_hex b (t ++ c ∷ s) ≡ false
decimal_begins b [] c s h e = no_hex b c s h.cross
decimal_begins b (d ∷ t) c s h e = no_hex b d (t ++ c ∷ s) (no_x d (digit_most d (and_parts (is_digit d) (list_all is_digit t) e).0))

number_piece-is : (n b : ℕ) (t : List ℕ) (c : ℕ) (s : List ℕ) → Stops c → is_digit b ≡ true → list_all is_digit t ≡ true → value_of 10 (b ∷ t) ≡ n → ltb n (2 ^ 127) ≡ true → piece b (t ++ c ∷ s) ≡ Token (IsNumber n) (length t)
number_piece-is n b t c s h p q v small =
    digit_piece b (t ++ c ∷ s) p
    ∙ rw (decimal_begins b t c s h q) refl
    ∙ ap (decimal_from b (t ++ c ∷ s)) (prefix_len-all is_digit t (c ∷ s) q (digit_stops c s h))
    ∙ ap (λ (x : List ℕ). literal (value_of 10 (b ∷ x)) (length t)) (take-append_seam t (c ∷ s))
    ∙ ap (λ m. literal m (length t)) v
    ∙ rw small refl

digits_scan : (n : ℕ) (ds : List ℕ) (c : ℕ) (s : List ℕ) (at : ℕ) → Stops c → 0 < length ds → AllDigits 10 ds → value_of 10 ds ≡ n → ltb n (2 ^ 127) ≡ true → scan 0 at (ds ++ c ∷ s) ≡ before (IsNumber n) (scan 0 (moved (length ds) at) (c ∷ s))
digits_scan n [] c s at h l a v small = absurd (omega arith)
digits_scan n (d ∷ ds) c s at h l a v small =
    let e = and_parts (is_digit d) (list_all is_digit ds) (all_digits (d ∷ ds) a) in
    scan-token d (ds ++ c ∷ s) at (IsNumber n) (length ds) (number_piece-is n d ds c s h e.0 e.1 v small)
    ∙ ap (before (IsNumber n)) (scan-skip ds (at + 1) (c ∷ s))

-- a number and what stands after it, where the rest is scanned from every place alike
pub number_scan : (n c : ℕ) (s : List ℕ) (ws : List TextToken) → n < 2 ^ 64 → Stops c → ((at : ℕ) → scan 0 at (c ∷ s) ≡ Ok ws) → (at : ℕ) → scan 0 at (decimal n ++ c ∷ s) ≡ Ok (IsNumber n ∷ ws)
number_scan n c s ws small h again at =
    let d = decimal_is_IsNumeral n small in
    digits_scan n (decimal n) c s at h d.0.0 d.0.1 (digits_value-is 0 (decimal n) d.0.1 ∙ d.1) (lt-ltb n (2 ^ 127) (omega arith))
    ∙ ap (before (IsNumber n)) (again (moved (length (decimal n)) at))
