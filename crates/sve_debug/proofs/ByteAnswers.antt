-- What is answered to one byte: a line feed ends the line, and another byte is added to it.
use Rattle.std.proofs.Common.{◌≡◌, ℕ, false, List, [], ◌∷◌, ◌++◌, Option, Some, None, Result, Ok, Err, sym, ap, ◌∙◌, subst, append-nil}
use Rattle.std.specs.Prelude.{IsErr}
use Rattle.std.proofs.lemmas.Bool.{cond-true, cond-false, ne_eqb}
use Rattle.io_edges.specs.Sink.{GainsPart}
use Rattle.io_edges.proofs.Puts.{part_none}
use Rattle.sve_debug.specs.declared.session.SessionFault.{SessionFault}
use Rattle.sve_debug.specs.Replies.{Session, after_line, line_text, quits}
use Rattle.sve_debug.specs.Sessions.{Tells, is_end, pending, after_byte, byte_answer, ends}

-- a line feed, after a line with this text
module _ (line text : List ℕ) (byte : ℕ) (same : text ≡ line) (end : byte ≡ 10) where
  pub ended_after : (d : Session) → after_line text d ≡ after_byte line byte d
  ended_after d = ap (λ l. after_line l d) same ∙ sym (cond-true (is_end byte) _ _ (ap is_end end))

  pub ended_text : (d : Session) → line_text text d ≡ byte_answer line byte d
  ended_text d = ap (λ l. line_text l d) same ∙ sym (cond-true (is_end byte) _ _ (ap is_end end))

  pub ended_quits : quits text ≡ ends line byte
  ended_quits = ap quits same ∙ sym (cond-true (is_end byte) _ _ (ap is_end end))

-- another byte
module _ (line : List ℕ) (byte : ℕ) (other : byte ≡ 10 → ⊥) where
  no_end : is_end byte ≡ false
  no_end = ne_eqb byte 10 other

  pub other_after : (d : Session) → d ≡ after_byte line byte d
  other_after d = sym (cond-false (is_end byte) _ _ no_end)

  pub other_text : (d : Session) → [] ≡ byte_answer line byte d
  other_text d = sym (cond-false (is_end byte) _ _ no_end)

  pub other_pending : line ++ byte ∷ [] ≡ pending line byte
  other_pending = sym (cond-false (is_end byte) _ _ no_end)

  pub other_goes_on : false ≡ ends line byte
  other_goes_on = sym (cond-false (is_end byte) _ _ no_end)

-- ---- what is told

pub tells_cut : {A B : Type 0} (old new : Option (List ℕ)) (text whole : List ℕ) (first : Result A SessionFault) (result : Result B SessionFault) → IsErr result → text ≡ whole
    → Tells old new text first → Tells old new whole result
tells_cut None new text whole first result err e told = tt
tells_cut (Some bytes) new text whole first (Ok done) err e told = absurd cc
tells_cut (Some bytes) new text whole first (Err fault) err e told = (tt, subst (GainsPart bytes new) e told.1)

pub tells_nothing : {A : Type 0} (old : Option (List ℕ)) (text : List ℕ) (result : Result A SessionFault) → [] ≡ text → Tells old old text result
tells_nothing old text result e = subst (λ t. Tells old old t result) e (by old result)
  where
    by : {A : Type 0} (o : Option (List ℕ)) (r : Result A SessionFault) → Tells o o [] r
    by None r = tt
    by (Some bytes) (Ok done) = (ap Some (sym (append-nil bytes)), part_none bytes [])
    by (Some bytes) (Err fault) = (tt, part_none bytes [])
