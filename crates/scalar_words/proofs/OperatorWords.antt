-- The code of copies, of what settles a result, and of operators, by the word that writes it.
use Rattle.std.proofs.Common.{◌≡◌, ◌≢◌, ℕ, ◌-◌, Bool, true, false, List, [], ◌∷◌, refl, sym, ap, ap₂, ◌∙◌, ⊎_elim}
use Rattle.std.specs.Prelude.{◌⊎◌, ◌&&◌, Some, None, if◌then◌else◌}
use Rattle.std.proofs.lemmas.Bool.{eq-eqb, ne_eqb}
use Rattle.kernel_tree.specs.declared.ops.Ty.{Ty}
use Rattle.kernel_tree.specs.declared.ops.BinaryOp.{BinaryOp}
use Rattle.kernel_tree.specs.Wrap.{bits_of, is_signed}
use Rattle.machine_model.specs.InstructionTable.{Listed}
use Rattle.a64_code.specs.Table.{subs, sbfm, ubfm, orr}
use Rattle.label_fix.specs.DraftRun.{DraftEntry, Put, Branch, Place, word_of}
use Rattle.label_fix.specs.Finished.{is_plain}
use Rattle.scalar_words.specs.Words.{word_code, extending, is_narrow, settle_word, copy, copy_word, operation_code}
use Rattle.scalar_words.specs.Operands.{operation_word}
use Rattle.kernel_tree.specs.declared.ops.BinaryOp.TheVariants as binary

-- whether the instruction of an entry is plain; a branch and a place have none
abbrev pub is_plain_entry : DraftEntry → Bool
is_plain_entry (Put i) = is_plain i
is_plain_entry (Branch k l) = true
is_plain_entry (Place l) = true

pub extending_plain : (t : Ty) (d a : ℕ) → is_plain (extending t d a) ≡ true
extending_plain t d a = by (is_signed t)
  where
    by : (signed : Bool) → is_plain (if signed then word_of sbfm (d ∷ a ∷ (bits_of t - 1) ∷ 0 ∷ []) else word_of ubfm (d ∷ a ∷ (bits_of t - 1) ∷ 0 ∷ [])) ≡ true
    by true = refl
    by false = refl

-- what an operation gave, extended and as it is
pub extended : (leaves : Bool) (t : Ty) (d : ℕ) (w : Listed) (rest : List DraftEntry) → leaves ≡ true → is_narrow t ≡ true → w ≡ extending t d d → Put w ∷ rest ≡ word_code (settle_word leaves t d) rest
extended leaves t d w rest e f g = ap (λ i. Put i ∷ rest) g ∙ sym (ap₂ (λ b n. word_code (if b && n then Some (extending t d d) else None) rest) e f)

pub as_it_is : (leaves : Bool) (t : Ty) (d : ℕ) (rest : List DraftEntry) → (leaves && is_narrow t) ≡ false → rest ≡ word_code (settle_word leaves t d) rest
as_it_is leaves t d rest e = sym (ap (λ b. word_code (if b then Some (extending t d d) else None) rest) e)

-- a register into itself, and into another one
pub copied_not : (d a : ℕ) (rest : List DraftEntry) → d ≡ a → rest ≡ word_code (copy_word d a) rest
copied_not d a rest e = sym (ap (λ b. word_code (if b then None else Some (word_of orr (d ∷ 31 ∷ 0 ∷ a ∷ 0 ∷ []))) rest) (eq-eqb d a e))

pub copy_before_rest : (d a : ℕ) (w : Listed) (rest : List DraftEntry) → d ≢ a → Put w ≡ copy d a → Put w ∷ rest ≡ word_code (copy_word d a) rest
copy_before_rest d a w rest e f = ap (λ i. i ∷ rest) f ∙ sym (ap (λ b. word_code (if b then None else Some (word_of orr (d ∷ 31 ∷ 0 ∷ a ∷ 0 ∷ []))) rest) (ne_eqb d a e))

-- an operator whose result is one of its operands, and any other
pub chosen : (op : BinaryOp) (signed : Bool) (d a b : ℕ) (c w : Listed) (rest : List DraftEntry) → (op ≡ binary.Min) ⊎ (op ≡ binary.Max) → c ≡ word_of subs (31 ∷ a ∷ 0 ∷ b ∷ 0 ∷ []) → w ≡ operation_word op signed d a b → Put c ∷ Put w ∷ rest ≡ operation_code op signed d a b rest
chosen op signed d a b c w rest is e f =
    ap₂ (λ i j. Put i ∷ Put j ∷ rest) e f
    ∙ ⊎_elim (by binary.Min refl) (by binary.Max refl) is
  where
    by : (o : BinaryOp) → Put (word_of subs (31 ∷ a ∷ 0 ∷ b ∷ 0 ∷ [])) ∷ Put (operation_word o signed d a b) ∷ rest ≡ operation_code o signed d a b rest → op ≡ o → Put (word_of subs (31 ∷ a ∷ 0 ∷ b ∷ 0 ∷ [])) ∷ Put (operation_word op signed d a b) ∷ rest ≡ operation_code op signed d a b rest
    by o here m = ap (λ p. Put (word_of subs (31 ∷ a ∷ 0 ∷ b ∷ 0 ∷ [])) ∷ Put (operation_word p signed d a b) ∷ rest) m ∙ here ∙ sym (ap (λ p. operation_code p signed d a b rest) m)

pub in_one_word : (op : BinaryOp) (signed : Bool) (d a b : ℕ) (w : Listed) (rest : List DraftEntry) → op ≢ binary.Min → op ≢ binary.Max → w ≡ operation_word op signed d a b → Put w ∷ rest ≡ operation_code op signed d a b rest
in_one_word op signed d a b w rest m n f = ap (λ i. Put i ∷ rest) f ∙ by op m n
  where
    by : (o : BinaryOp) → o ≢ binary.Min → o ≢ binary.Max → Put (operation_word o signed d a b) ∷ rest ≡ operation_code o signed d a b rest
    by binary.Min p q = absurd (p refl)
    by binary.Max p q = absurd (q refl)
    by binary.Add p q = refl
    by binary.Sub p q = refl
    by binary.Mul p q = refl
    by binary.And p q = refl
    by binary.Or p q = refl
    by binary.Xor p q = refl
