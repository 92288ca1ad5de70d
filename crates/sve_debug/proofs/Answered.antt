-- A session whose input fails: the lines that were ended are answered.
use Rattle.std.proofs.Common.{◌≡◌, ℕ, ◌+◌, ◌<◌, ◌≤◌, length, Bool, true, false, List, [], ◌∷◌, ◌++◌, drop, Option, Some, None, Ok, All, refl, sym, ap, ◌∙◌, subst, arith, append_assoc, append-nil}
use Rattle.std.specs.Prelude.{IfSome, not, slice_get}
use Rattle.std.proofs.lemmas.Bool.{cond-true, cond-false, eqb-true}
use Rattle.std.proofs.lemmas.List.Elements.{All-push, All-head, All-tail}
use Rattle.text_parts.specs.Parts.{is_byte}
use Rattle.machine_model.specs.Machine.{State}
use Rattle.sve_debug.specs.DebuggerState.{DebuggerState, Stands}
use Rattle.sve_debug.specs.Replies.{Session, after_line, line_text, quits, replies}
use Rattle.sve_debug.specs.Sessions.{is_end, pending, byte_answer, ends, ended_lines, AsItCame, IsWithin, most_input}
use Rattle.sve_debug.proofs.Sessions.{IsPending, LoopIndex, by_quit, replies_none, replies_more, goes, all_put, both_texts_gained, if_some}

abbrev GoesOn : List ℕ → Type 0
GoesOn line = quits line ≡ false

-- the session after some lines
abbrev after_lines : List (List ℕ) → Session → Session
after_lines [] d = d
after_lines (line ∷ lines) d = after_lines lines (after_line line d)

after_push : (lines : List (List ℕ)) (line : List ℕ) (d : Session) → after_lines (lines ++ line ∷ []) d ≡ after_line line (after_lines lines d)
after_push [] line d = refl
after_push (l ∷ lines) line d = after_push lines line (after_line l d)

-- the replies to one line more
replies_push : (lines : List (List ℕ)) (line : List ℕ) (d : Session) → All GoesOn lines → GoesOn line → replies d (lines ++ line ∷ []) ≡ replies d lines ++ line_text line (after_lines lines d)
replies_push [] line d all on = by_quit false line d on ∙ ap (λ t. t ++ line_text line d) (sym (replies_none d))
replies_push (l ∷ lines) line d all on =
    let first = All-head GoesOn l lines all in
    let rest = after_lines lines (after_line l d) in
    replies_more l (lines ++ line ∷ []) d first
    ∙ ap (λ t. line_text l d ++ t) (replies_push lines line (after_line l d) (All-tail GoesOn l lines all) on)
    ∙ sym (append_assoc (line_text l d) (replies (after_line l d) lines) (line_text line rest))
    ∙ ap (λ t. t ++ line_text line rest) (sym (replies_more l lines d first))

-- the bytes of one line more
ended_push : (lines : List (List ℕ)) (line rest : List ℕ) → ended_lines (lines ++ line ∷ []) ++ rest ≡ ended_lines lines ++ (line ++ 10 ∷ rest)
ended_push [] line rest = append_assoc line (10 ∷ []) rest
ended_push (l ∷ lines) line rest =
    append_assoc l (10 ∷ ended_lines (lines ++ line ∷ [])) rest
    ∙ ap (λ t. l ++ 10 ∷ t) (ended_push lines line rest)
    ∙ sym (append_assoc l (10 ∷ ended_lines lines) (line ++ 10 ∷ rest))

-- Some lines were taken of these bytes, with a part of one more, so many bytes together, and the lines were answered.
pub record SoFar (held : DebuggerState) (start : State) (d : Session) (bytes line : List ℕ) (n : ℕ) (input old new : Option (List ℕ)) : Type 0 where
  pub lines : List (List ℕ)
  pub each : All IsPending lines
  pub go_on : All GoesOn lines
  pub stands : Stands held start (after_lines lines d)
  pub left : List ℕ
  pub input_is : input ≡ Some left
  pub taken : bytes ≡ ended_lines lines ++ (line ++ left)
  pub count : length bytes ≡ n + length left
  pub put : IfSome old (λ told. new ≡ Some (told ++ replies d lines))

pub so_far_first : (held : DebuggerState) (start : State) (d : Session) (line bytes : List ℕ) (input old : Option (List ℕ)) → line ≡ [] → Stands held start d → input ≡ Some bytes → SoFar held start d bytes line 0 input old old
so_far_first held start d line bytes input old empty h is = record {
  lines = [];
  each = λ k x lt. absurd (omega (arith, lt));
  go_on = λ k x lt. absurd (omega (arith, lt));
  stands = h;
  left = bytes;
  input_is = is;
  taken = ap (λ l. l ++ bytes) (sym empty);
  count = omega arith;
  put = none_yet old;
}
  where
    none_yet : (o : Option (List ℕ)) → IfSome o (λ told. o ≡ Some (told ++ replies d []))
    none_yet None = tt
    none_yet (Some told) = ap Some (sym (append-nil told) ∙ ap (λ t. told ++ t) (sym (replies_none d)))

first_left : (left : List ℕ) (byte : ℕ) → Some byte ≡ slice_get left 0 → left ≡ byte ∷ drop 1 left
first_left [] byte is = absurd cc
first_left (b ∷ left) byte is =
    let same : b ≡ byte = cc in
    ap (λ x. x ∷ left) same

text_put_in_two : (old new : Option (List ℕ)) (text more all : List ℕ) → text ++ more ≡ all → IfSome old (λ told. new ≡ Some (told ++ (text ++ more))) → IfSome old (λ told. new ≡ Some (told ++ all))
text_put_in_two old new text more all is put = subst (λ t. IfSome old (λ told. new ≡ Some (told ++ t))) is put

-- after one byte more
pub so_far_next : (held held' : DebuggerState) (start : State) (d : Session) (bytes line line' : List ℕ) (n byte : ℕ) (on : Bool) (input input' old mid new : Option (List ℕ)) → IsPending line → IfSome input (λ bytes. Some byte ≡ slice_get bytes 0) → IfSome input (λ bytes. input' ≡ Some (drop 1 bytes)) → line' ≡ pending line byte → on ≡ true → on ≡ not (ends line byte) → LoopIndex held held' start line byte mid new (Ok on) → SoFar held start d bytes line n input old mid → SoFar held' start d bytes line' (n + 1) input' old new
so_far_next held held' start d bytes line line' n byte on input input' old mid new pends next left following is e t u = by_end (is_byte 10 byte) refl
  where
    rest : List ℕ
    rest = drop 1 u.left

    here : u.left ≡ byte ∷ rest
    here = first_left u.left byte (subst (λ i. IfSome i (λ bytes. Some byte ≡ slice_get bytes 0)) u.input_is next)

    input_left : input' ≡ Some rest
    input_left = subst (λ i. IfSome i (λ bytes. input' ≡ Some (drop 1 bytes))) u.input_is left

    fewer : length bytes ≡ n + 1 + length rest
    fewer =
        let count = u.count in
        let one = ap length here in
        omega (arith, count, one)

    before : Session
    before = after_lines u.lines d

    took : bytes ≡ ended_lines u.lines ++ (line ++ byte ∷ rest)
    took = u.taken ∙ ap (λ l. ended_lines u.lines ++ (line ++ l)) here

    said : IfSome old (λ told. new ≡ Some (told ++ (replies d u.lines ++ byte_answer line byte before)))
    said = both_texts_gained old mid new (replies d u.lines) (byte_answer line byte before) u.put (all_put mid new (byte_answer line byte before) on (t.told before u.stands))

    by_end : (b : Bool) → is_byte 10 byte ≡ b → SoFar held' start d bytes line' (n + 1) input' old new
    by_end true end =
        let stays : quits line ≡ false = sym (cond-true (is_end byte) _ _ end) ∙ goes on (ends line byte) is e in
        let empty : line' ≡ [] = following ∙ cond-true (is_end byte) _ _ end in
        let text : byte_answer line byte before ≡ line_text line before = cond-true (is_end byte) _ _ end in
        let feed = eqb-true byte 10 end in
        record {
          lines = u.lines ++ line ∷ [];
          each = All-push IsPending u.lines line u.each pends;
          go_on = All-push GoesOn u.lines line u.go_on stays;
          stands = subst (λ (x : Session). Stands held' start x) (cond-true (is_end byte) _ _ end ∙ sym (after_push u.lines line d)) (t.stands before u.stands);
          left = rest;
          input_is = input_left;
          taken =
              took
              ∙ ap (λ b. ended_lines u.lines ++ (line ++ b ∷ rest)) feed
              ∙ sym (ended_push u.lines line rest)
              ∙ ap (λ l. ended_lines (u.lines ++ line ∷ []) ++ (l ++ rest)) (sym empty);
          count = fewer;
          put = text_put_in_two old new (replies d u.lines) (byte_answer line byte before) (replies d (u.lines ++ line ∷ [])) (ap (λ x. replies d u.lines ++ x) text ∙ sym (replies_push u.lines line d u.go_on stays)) said;
        }
    by_end false end =
        let more : line' ≡ line ++ byte ∷ [] = following ∙ cond-false (is_end byte) _ _ end in
        let text : byte_answer line byte before ≡ [] = cond-false (is_end byte) _ _ end in
        record {
          lines = u.lines;
          each = u.each;
          go_on = u.go_on;
          stands = subst (λ (x : Session). Stands held' start x) (cond-false (is_end byte) _ _ end) (t.stands before u.stands);
          left = rest;
          input_is = input_left;
          taken =
              took
              ∙ ap (λ l. ended_lines u.lines ++ l) (sym (append_assoc line (byte ∷ []) rest))
              ∙ ap (λ l. ended_lines u.lines ++ (l ++ rest)) (sym more);
          count = fewer;
          put = text_put_in_two old new (replies d u.lines) (byte_answer line byte before) (replies d u.lines) (ap (λ x. replies d u.lines ++ x) text ∙ append-nil (replies d u.lines)) said;
        }

-- the input failed, and nothing of it was taken
pub so_far_failed : (held : DebuggerState) (start : State) (d : Session) (bytes line : List ℕ) (n : ℕ) (input input' old new : Option (List ℕ)) → IsPending line → IfSome input (λ bytes. input' ≡ Some bytes) → SoFar held start d bytes line n input old new → AsItCame d bytes input' old new
so_far_failed held start d bytes line n input input' old new pends same u =
    let left : input' ≡ Some u.left = subst (λ i. IfSome i (λ bytes. input' ≡ Some bytes)) u.input_is same in
    subst (λ i. AsItCame d bytes i old new) (sym left) (told old u.put)
  where
    told : (o : Option (List ℕ)) → IfSome o (λ before. new ≡ Some (before ++ replies d u.lines)) → AsItCame d bytes (Some u.left) o new
    told None put = tt
    told (Some before) put = (before ++ replies d u.lines, put, record { lines = u.lines; each = u.each; go_on = u.go_on; part = line; no_end = pends; taken = u.taken; answers = refl })

-- the next byte may be asked for
pub in_time : {I : Type 0} (may_take : I → Type 0) (i : I) (held : DebuggerState) (start : State) (d : Session) (line : List ℕ) (n : ℕ) (whole input old new : Option (List ℕ)) → IsPending line → n + 1 ≤ most_input → ((bytes : List ℕ) → whole ≡ Some bytes → SoFar held start d bytes line n input old new) → (IfSome whole (λ bytes. IsWithin bytes input × AsItCame d bytes input old new) → may_take i) → may_take i
in_time may_take i held start d line n whole input old new pends inside so_far may =
    may (if_some whole (λ (bytes : List ℕ). IsWithin bytes input × AsItCame d bytes input old new) (λ bytes is. (within bytes (so_far bytes is), so_far_failed held start d bytes line n input input old new pends (told_same input) (so_far bytes is))))
  where
    told_same : (o : Option (List ℕ)) → IfSome o (λ bytes. o ≡ Some bytes)
    told_same None = tt
    told_same (Some bytes) = refl

    within : (bytes : List ℕ) → SoFar held start d bytes line n input old new → IsWithin bytes input
    within bytes u =
        let count = u.count in
        let few : length bytes < length u.left + most_input = omega (arith, count, inside) in
        subst (λ o. IsWithin bytes o) (sym u.input_is) few
