-- Sessions byte by byte.
use Rattle.std.proofs.Common.{◌≡◌, ℕ, zero, suc, ◌+◌, ◌-◌, ◌≤◌, Bool, true, false, List, [], ◌∷◌, ◌++◌, take, drop, length, Option, Some, None, Result, Ok, Err, All, refl, sym, ap, ◌∙◌, subst, arith, append_assoc, append-nil, length-append}
use Rattle.std.specs.Prelude.{IfSome, IsErr, not, slice_get}
use Rattle.std.proofs.lemmas.Bool.{cond-true, cond-false}
use Rattle.std.proofs.lemmas.List.{take-append-le}
use Rattle.std.proofs.lemmas.List.Elements.{All-push}
use Rattle.std.proofs.lemmas.List.Splits.{slice_split_at, slice_split_none}
use Rattle.std.proofs.Math.Seq.{take-append-add, take-length}
use Rattle.text_parts.specs.Parts.{is_byte, lines_of}
use Rattle.machine_model.specs.Machine.{State}
use Rattle.io_edges.specs.Sink.{GainsPart}
use Rattle.sve_debug.specs.declared.command.Command.{Command}
use Rattle.sve_debug.specs.declared.command.Command.TheVariants.{Quit}
use Rattle.sve_debug.specs.declared.session.SessionFault.{SessionFault}
use Rattle.sve_debug.specs.DebuggerState.{DebuggerState, Stands}
use Rattle.sve_debug.specs.Lines.{command_of}
use Rattle.sve_debug.specs.Replies.{Session, after_line, line_text, command_text, after_command, quits, is_quit, replies}
use Rattle.sve_debug.specs.Sessions.{Tells, most_input, is_end, pending, after_byte, byte_answer, ends}

-- ---- lines

abbrev pub IsPending : List ℕ → Type 0
IsPending line = All (λ (b : ℕ). is_byte 10 b ≡ false) line

abbrev text_by : Option Command → Session → List ℕ → List ℕ
text_by o d bad = elim o [ Some command ↦ command_text command d (after_command command d) | None ↦ bad ]

quit_text : (o : Option Command) (d : Session) (bad : List ℕ) → is_quit o ≡ true → text_by o d bad ≡ []
quit_text None d bad h = absurd cc
quit_text (Some Quit) d bad h = refl
quit_text other d bad h = absurd cc

-- a line that ends the session has no text
pub no_text : (line : List ℕ) (d : Session) → quits line ≡ true → line_text line d ≡ []
no_text [] d h = refl
no_text (b ∷ bytes) d h = quit_text (command_of (b ∷ bytes)) d _ h

pub replies_none : (d : Session) → replies d [] ≡ []
unfolding replies
replies_none d = refl

replies_quit : (line : List ℕ) (lines : List (List ℕ)) (d : Session) → quits line ≡ true → replies d (line ∷ lines) ≡ line_text line d
unfolding replies
replies_quit line lines d h = cond-true (quits line) _ _ h ∙ sym (no_text line d h)

pub replies_more : (line : List ℕ) (lines : List (List ℕ)) (d : Session) → quits line ≡ false → replies d (line ∷ lines) ≡ line_text line d ++ replies (after_line line d) lines
unfolding replies
replies_more line lines d h = cond-false (quits line) _ _ h

pub by_quit : (b : Bool) (line : List ℕ) (d : Session) → quits line ≡ b → replies d (line ∷ []) ≡ line_text line d
by_quit true line d h = replies_quit line [] d h
by_quit false line d h = replies_more line [] d h ∙ ap (λ t. line_text line d ++ t) (replies_none (after_line line d)) ∙ append-nil (line_text line d)

-- the last line
pub last_line : (line : List ℕ) (d : Session) → IsPending line → replies d (lines_of line) ≡ line_text line d
last_line line d h = ap (replies d) (slice_split_none (is_byte 10) line h) ∙ by_quit (quits line) line d refl

-- ---- one byte

-- the session goes on after a byte
on_by : (b : Bool) (line rest : List ℕ) (byte : ℕ) (d : Session) → is_byte 10 byte ≡ b → IsPending line → ends line byte ≡ false → replies d (lines_of (line ++ byte ∷ rest)) ≡ byte_answer line byte d ++ replies (after_byte line byte d) (lines_of (pending line byte ++ rest))
on_by true line rest byte d is h goes =
    let stays : quits line ≡ false = sym (cond-true (is_end byte) _ _ is) ∙ goes in
    ap (replies d) (slice_split_at (is_byte 10) line byte rest h is)
    ∙ replies_more line (lines_of rest) d stays
    ∙ ap (λ t. t ++ replies (after_line line d) (lines_of rest)) (sym (cond-true (is_end byte) _ _ is))
    ∙ ap (λ (e : Session). byte_answer line byte d ++ replies e (lines_of rest)) (sym (cond-true (is_end byte) _ _ is))
    ∙ ap (λ l. byte_answer line byte d ++ replies (after_byte line byte d) (lines_of (l ++ rest))) (sym (cond-true (is_end byte) _ _ is))
on_by false line rest byte d is h goes =
    ap (λ l. replies d (lines_of l)) (sym (append_assoc line (byte ∷ []) rest))
    ∙ ap (λ t. t ++ replies d (lines_of ((line ++ byte ∷ []) ++ rest))) (sym (cond-false (is_end byte) _ _ is))
    ∙ ap (λ (e : Session). byte_answer line byte d ++ replies e (lines_of ((line ++ byte ∷ []) ++ rest))) (sym (cond-false (is_end byte) _ _ is))
    ∙ ap (λ l. byte_answer line byte d ++ replies (after_byte line byte d) (lines_of (l ++ rest))) (sym (cond-false (is_end byte) _ _ is))

-- the session ends with a byte
end_by : (b : Bool) (line rest : List ℕ) (byte : ℕ) (d : Session) → is_byte 10 byte ≡ b → IsPending line → ends line byte ≡ true → replies d (lines_of (line ++ byte ∷ rest)) ≡ byte_answer line byte d
end_by true line rest byte d is h goes =
    let stops : quits line ≡ true = sym (cond-true (is_end byte) _ _ is) ∙ goes in
    ap (replies d) (slice_split_at (is_byte 10) line byte rest h is)
    ∙ replies_quit line (lines_of rest) d stops
    ∙ sym (cond-true (is_end byte) _ _ is)
end_by false line rest byte d is h goes = let no : false ≡ true = sym (cond-false (is_end byte) _ _ is) ∙ goes in absurd cc

pend_by : (b : Bool) (line : List ℕ) (byte : ℕ) → is_byte 10 byte ≡ b → IsPending line → IsPending (pending line byte)
pend_by true line byte is h = subst (λ (l : List ℕ). IsPending l) (sym (cond-true (is_end byte) _ _ is)) (λ k d lt. absurd (omega (arith, lt)))
pend_by false line byte is h = subst (λ (l : List ℕ). IsPending l) (sym (cond-false (is_end byte) _ _ is)) (All-push (λ (b : ℕ). is_byte 10 b ≡ false) line byte h is)

pub pends : (line line' : List ℕ) (byte : ℕ) → line' ≡ pending line byte → IsPending line → IsPending line'
pends line line' byte e h = subst (λ (l : List ℕ). IsPending l) (sym e) (pend_by (is_byte 10 byte) line byte refl h)

-- ---- texts on an output

-- a part of a text was put, and then there is a fault
pub tells_part : {T : Type 0} (old mid new : Option (List ℕ)) (text x y whole : List ℕ) (result : Result T SessionFault) → IsErr result → whole ≡ text ++ (x ++ y) → IfSome old (λ bytes. mid ≡ Some (bytes ++ text)) → IfSome mid (λ bytes. GainsPart bytes new x) → Tells old new whole result
tells_part None mid new text x y whole result err is put part = tt
tells_part (Some bytes) mid new text x y whole (Ok value) err is put part = absurd cc
tells_part (Some bytes) mid new text x y whole (Err fault) err is put part =
    let p : GainsPart (bytes ++ text) new x = subst (λ m. IfSome m (λ b. GainsPart b new x)) put part in
    let most : length text + p.0 ≤ length (text ++ (x ++ y)) = omega (arith, p.1, length-append text (x ++ y), length-append x y) in
    let same : (bytes ++ text) ++ take p.0 x ≡ bytes ++ take (length text + p.0) (text ++ (x ++ y)) =
    append_assoc bytes text (take p.0 x) ∙ ap (λ t. bytes ++ t) (ap (λ t. text ++ t) (sym (take-append-le p.0 x y p.1)) ∙ sym (take-append-add text (x ++ y) p.0)) in
    (tt, subst (λ t. GainsPart bytes new t) (sym is) (length text + p.0, most, p.2 ∙ ap Some same))

pub tells_all : {T : Type 0} (old mid new : Option (List ℕ)) (text x whole : List ℕ) (value : T) → whole ≡ text ++ x → IfSome old (λ bytes. mid ≡ Some (bytes ++ text)) → IfSome mid (λ bytes. new ≡ Some (bytes ++ x)) → Tells {T = T} old new whole (Ok value)
tells_all None mid new text x whole value is put all = tt
tells_all (Some bytes) mid new text x whole value is put all =
    let last : new ≡ Some ((bytes ++ text) ++ x) = subst (λ m. IfSome m (λ b. new ≡ Some (b ++ x))) put all in
    let same : new ≡ Some (bytes ++ whole) = last ∙ ap Some (append_assoc bytes text x ∙ ap (λ t. bytes ++ t) (sym is)) in
    (same, (length whole, omega arith, same ∙ ap (λ t. Some (bytes ++ t)) (sym (take-length whole))))

-- what was put of a text for which there was no fault
pub all_put : {T : Type 0} (mid new : Option (List ℕ)) (x : List ℕ) (value : T) → Tells {T = T} mid new x (Ok value) → IfSome mid (λ bytes. new ≡ Some (bytes ++ x))
all_put None new x value h = tt
all_put (Some bytes) new x value h = h.0

part_put : {T : Type 0} (mid new : Option (List ℕ)) (x : List ℕ) (result : Result T SessionFault) → Tells mid new x result → IfSome mid (λ bytes. GainsPart bytes new x)
part_put None new x result h = tt
part_put (Some bytes) new x result h = h.1

gains_no_part : (mid : Option (List ℕ)) → IfSome mid (λ bytes. GainsPart bytes mid [])
gains_no_part None = tt
gains_no_part (Some bytes) = (0, omega arith, ap Some (sym (append-nil bytes)))

pub both_texts_gained : (old mid new : Option (List ℕ)) (text x : List ℕ) → IfSome old (λ bytes. mid ≡ Some (bytes ++ text)) → IfSome mid (λ bytes. new ≡ Some (bytes ++ x)) → IfSome old (λ bytes. new ≡ Some (bytes ++ (text ++ x)))
both_texts_gained None mid new text x put all = tt
both_texts_gained (Some bytes) mid new text x put all =
    subst (λ m. IfSome m (λ b. new ≡ Some (b ++ x))) put all ∙ ap Some (append_assoc bytes text x)

-- ---- a session under way

-- a debugger stands for the session after the lines that were taken of these bytes, and the output has gained their text
pub record Under (held : DebuggerState) (start : State) (d : Session) (whole line : List ℕ) (most : ℕ) (input old new : Option (List ℕ)) : Type 0 where
  pub session : Session
  pub stands : Stands held start session
  pub left : List ℕ
  pub input_is : input ≡ Some left
  pub text : List ℕ
  pub same : replies d (lines_of whole) ≡ text ++ replies session (lines_of (line ++ take most left))
  pub put : IfSome old (λ bytes. new ≡ Some (bytes ++ text))

pub under_first : (held : DebuggerState) (start : State) (d : Session) (line bytes : List ℕ) (most : ℕ) (input old : Option (List ℕ)) → line ≡ [] → Stands held start d → input ≡ Some bytes → Under held start d (take most bytes) line (most - 0) input old old
under_first held start d line bytes most input old empty h is =
    let all : most ≡ most - 0 = omega arith in
    record {
      session = d;
      stands = h;
      left = bytes;
      input_is = is;
      text = [];
      same = ap (λ n. replies d (lines_of (take n bytes))) all ∙ ap (λ l. replies d (lines_of (l ++ take (most - 0) bytes))) (sym empty);
      put = none_yet old;
    }
  where
    none_yet : (o : Option (List ℕ)) → IfSome o (λ bytes. o ≡ Some (bytes ++ []))
    none_yet None = tt
    none_yet (Some b) = ap Some (sym (append-nil b))

-- the next of the bytes that are left
one_left : (left : List ℕ) (most k byte : ℕ) → k + 1 ≤ most → Some byte ≡ slice_get left 0 → take (most - k) left ≡ byte ∷ take (most - (k + 1)) (drop 1 left)
one_left [] most k byte inside is = absurd cc
one_left (b ∷ left) most k byte inside is =
    let count : most - k ≡ suc (most - (k + 1)) = omega arith in
    let same : b ≡ byte = cc in
    ap (λ n. take n (b ∷ left)) count ∙ ap (λ x. x ∷ take (most - (k + 1)) left) same

take_of_nothing_left : (left : List ℕ) (n : ℕ) → None ≡ slice_get left 0 → take n left ≡ []
take_of_nothing_left [] zero is = refl
take_of_nothing_left [] (suc n) is = refl
take_of_nothing_left (b ∷ left) n is = absurd cc

pub goes : (on b : Bool) → on ≡ true → on ≡ not b → b ≡ false
goes on true is e = absurd cc
goes on false is e = refl

stops : (on b : Bool) → on ≡ false → on ≡ not b → b ≡ true
stops on true is e = refl
stops on false is e = absurd cc

-- what a byte and its answer do to a session under way
pub record LoopIndex (held held' : DebuggerState) (start : State) (line : List ℕ) (byte : ℕ) (mid new : Option (List ℕ)) (result : Result Bool SessionFault) : Type 0 where
  pub stands : (e : Session) → Stands held start e → Stands held' start (after_byte line byte e)
  pub told : (e : Session) → Stands held start e → Tells mid new (byte_answer line byte e) result

pub under_next : (held held' : DebuggerState) (start : State) (d : Session) (whole line line' : List ℕ) (most k byte : ℕ) (on : Bool) (input input' old mid new : Option (List ℕ)) → k + 1 ≤ most → IsPending line → IfSome input (λ bytes. Some byte ≡ slice_get bytes 0) → IfSome input (λ bytes. input' ≡ Some (drop 1 bytes)) → line' ≡ pending line byte → on ≡ true → on ≡ not (ends line byte) → LoopIndex held held' start line byte mid new (Ok on) → Under held start d whole line (most - k) input old mid → Under held' start d whole line' (most - (k + 1)) input' old new
under_next held held' start d whole line line' most k byte on input input' old mid new inside pends next left following is e t u =
    let here : Some byte ≡ slice_get u.left 0 = subst (λ i. IfSome i (λ bytes. Some byte ≡ slice_get bytes 0)) u.input_is next in
    let rest : input' ≡ Some (drop 1 u.left) = subst (λ i. IfSome i (λ bytes. input' ≡ Some (drop 1 bytes))) u.input_is left in
    let after = take (most - (k + 1)) (drop 1 u.left) in
    let said = byte_answer line byte u.session in
    record {
      session = after_byte line byte u.session;
      stands = t.stands u.session u.stands;
      left = drop 1 u.left;
      input_is = rest;
      text = u.text ++ said;
      same =
          u.same
          ∙ ap (λ l. u.text ++ replies u.session (lines_of (line ++ l))) (one_left u.left most k byte inside here)
          ∙ ap (λ r. u.text ++ r) (on_by (is_byte 10 byte) line after byte u.session refl pends (goes on (ends line byte) is e))
          ∙ sym (append_assoc u.text said (replies (after_byte line byte u.session) (lines_of (pending line byte ++ after))))
          ∙ ap (λ l. (u.text ++ said) ++ replies (after_byte line byte u.session) (lines_of (l ++ after))) (sym following);
      put = both_texts_gained old mid new u.text said u.put (all_put mid new said on (t.told u.session u.stands));
    }

-- a line ends the session
pub under_quit : {T : Type 0} (held held' : DebuggerState) (start : State) (d : Session) (whole line : List ℕ) (most k byte : ℕ) (on : Bool) (input old mid new : Option (List ℕ)) (value : T) → k + 1 ≤ most → IsPending line → IfSome input (λ bytes. Some byte ≡ slice_get bytes 0) → on ≡ false → on ≡ not (ends line byte) → LoopIndex held held' start line byte mid new (Ok on) → Under held start d whole line (most - k) input old mid → Tells {T = T} old new (replies d (lines_of whole)) (Ok value)
under_quit held held' start d whole line most k byte on input old mid new value inside pends next is e t u =
    let here : Some byte ≡ slice_get u.left 0 = subst (λ i. IfSome i (λ bytes. Some byte ≡ slice_get bytes 0)) u.input_is next in
    let after = take (most - (k + 1)) (drop 1 u.left) in
    let said = byte_answer line byte u.session in
    let same : replies d (lines_of whole) ≡ u.text ++ said =
    u.same
    ∙ ap (λ l. u.text ++ replies u.session (lines_of (line ++ l))) (one_left u.left most k byte inside here)
    ∙ ap (λ r. u.text ++ r) (end_by (is_byte 10 byte) line after byte u.session refl pends (stops on (ends line byte) is e)) in
    tells_all old mid new u.text said (replies d (lines_of whole)) value same u.put (all_put mid new said on (t.told u.session u.stands))

-- the output failed at a byte, or memory was short
pub under_cut : {T : Type 0} (held held' : DebuggerState) (start : State) (d : Session) (whole line : List ℕ) (most k byte : ℕ) (input old mid new : Option (List ℕ)) (first : Result Bool SessionFault) (result : Result T SessionFault) → k + 1 ≤ most → IsPending line → IfSome input (λ bytes. Some byte ≡ slice_get bytes 0) → IsErr result → LoopIndex held held' start line byte mid new first → Under held start d whole line (most - k) input old mid → Tells old new (replies d (lines_of whole)) result
under_cut held held' start d whole line most k byte input old mid new first result inside pends next err t u =
    let here : Some byte ≡ slice_get u.left 0 = subst (λ i. IfSome i (λ bytes. Some byte ≡ slice_get bytes 0)) u.input_is next in
    let after = take (most - (k + 1)) (drop 1 u.left) in
    let said = byte_answer line byte u.session in
    let rest = parted (ends line byte) refl (line ++ byte ∷ after) after u.session refl in
    let same : replies d (lines_of whole) ≡ u.text ++ (said ++ rest.0) =
    u.same
    ∙ ap (λ l. u.text ++ replies u.session (lines_of (line ++ l))) (one_left u.left most k byte inside here)
    ∙ ap (λ r. u.text ++ r) rest.1 in
    tells_part old mid new u.text said rest.0 (replies d (lines_of whole)) result err same u.put (part_put mid new said first (t.told u.session u.stands))
  where
    parted : (b : Bool) → ends line byte ≡ b → (all after : List ℕ) (e : Session) → all ≡ line ++ byte ∷ after → (y : List ℕ) × (replies e (lines_of all) ≡ byte_answer line byte e ++ y)
    parted true is all after e same =
        ([], ap (λ l. replies e (lines_of l)) same ∙ end_by (is_byte 10 byte) line after byte e refl pends is ∙ sym (append-nil (byte_answer line byte e)))
    parted false is all after e same =
        (replies (after_byte line byte e) (lines_of (pending line byte ++ after)), ap (λ l. replies e (lines_of l)) same ∙ on_by (is_byte 10 byte) line after byte e refl pends is)

-- the input failed
pub under_unread : {T : Type 0} (held : DebuggerState) (start : State) (d : Session) (whole line : List ℕ) (n : ℕ) (input old mid : Option (List ℕ)) (result : Result T SessionFault) → IsErr result → Under held start d whole line n input old mid → Tells old mid (replies d (lines_of whole)) result
under_unread held start d whole line n input old mid result err u =
    tells_part old mid mid u.text [] (replies u.session (lines_of (line ++ take n u.left))) (replies d (lines_of whole)) result err u.same u.put (gains_no_part mid)

-- the last line
last_by : {T : Type 0} (old mid new : Option (List ℕ)) (text x whole : List ℕ) (result : Result T SessionFault) → whole ≡ text ++ x → IfSome old (λ bytes. mid ≡ Some (bytes ++ text)) → Tells mid new x result → Tells old new whole result
last_by {T = T} old mid new text x whole (Ok value) is put told = tells_all {T = T} old mid new text x whole value is put (all_put mid new x value told)
last_by {T = T} old mid new text x whole (Err fault) is put told =
    tells_part {T = T} old mid new text x [] whole (Err fault) refl (is ∙ ap (λ t. text ++ t) (sym (append-nil x))) put (part_put {T = T} mid new x (Err fault) told)

under_last : {T : Type 0} (held : DebuggerState) (start : State) (d : Session) (whole line : List ℕ) (n : ℕ) (input old mid new : Option (List ℕ)) (result : Result T SessionFault) → IsPending line → (u : Under held start d whole line n input old mid) → take n u.left ≡ [] → ((e : Session) → Stands held start e → Tells mid new (line_text line e) result) → Tells old new (replies d (lines_of whole)) result
under_last held start d whole line n input old mid new result pends u end told =
    let same : replies d (lines_of whole) ≡ u.text ++ line_text line u.session =
    u.same
    ∙ ap (λ l. u.text ++ replies u.session (lines_of (line ++ l))) end
    ∙ ap (λ l. u.text ++ replies u.session (lines_of l)) (append-nil line)
    ∙ ap (λ r. u.text ++ r) (last_line line u.session pends) in
    last_by old mid new u.text (line_text line u.session) (replies d (lines_of whole)) result same u.put (told u.session u.stands)

-- at the end of the input
pub under_end : {T : Type 0} (held : DebuggerState) (start : State) (d : Session) (whole line : List ℕ) (n : ℕ) (input old mid new : Option (List ℕ)) (result : Result T SessionFault) → IsPending line → IfSome input (λ bytes. None ≡ slice_get bytes 0) → ((e : Session) → Stands held start e → Tells mid new (line_text line e) result) → Under held start d whole line n input old mid → Tells old new (replies d (lines_of whole)) result
under_end held start d whole line n input old mid new result pends next told u =
    let here : None ≡ slice_get u.left 0 = subst (λ i. IfSome i (λ bytes. None ≡ slice_get bytes 0)) u.input_is next in
    under_last held start d whole line n input old mid new result pends u (take_of_nothing_left u.left n here) told

-- after the last byte that is taken
pub under_limit : {T : Type 0} (held : DebuggerState) (start : State) (d : Session) (whole line : List ℕ) (most k : ℕ) (input old mid new : Option (List ℕ)) (result : Result T SessionFault) → most ≤ k → IsPending line → ((e : Session) → Stands held start e → Tells mid new (line_text line e) result) → Under held start d whole line (most - k) input old mid → Tells old new (replies d (lines_of whole)) result
under_limit held start d whole line most k input old mid new result all pends told u =
    let none : most - k ≡ 0 = omega arith in
    under_last held start d whole line (most - k) input old mid new result pends u (ap (λ n. take n u.left) none ∙ take_none u.left) told
  where
    take_none : (l : List ℕ) → take 0 l ≡ []
    take_none l = refl

pub if_some : {A : Type 0} (o : Option A) (P : A → Type 0) → ((x : A) → o ≡ Some x → P x) → IfSome o P
if_some None P h = tt
if_some (Some x) P h = h x refl

pub limit : most_input ≡ 1048576
unfolding most_input
limit = refl
