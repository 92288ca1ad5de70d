-- What is told of what a debugger holds is what its session answers.
use Rattle.std.proofs.Common.{◌≡◌, ℕ, Bool, true, false, List, [], ◌∷◌, ◌++◌, subst, length, Option, Some, None, Result, Ok, Err, refl, sym, ap, ap₂, ◌∙◌, ◌==◌, if◌then◌else◌, codes}
use Rattle.std.specs.Prelude.{IsErr, not, IfSome, OnOk, option_map}
use Rattle.io_edges.specs.declared.sink.Failed.{Failed}
use Rattle.io_edges.specs.Sink.{PutsText, GainsPart}
use Rattle.sve_debug.specs.declared.session.SessionFault.{SessionFault}
use Rattle.sve_debug.specs.declared.session.SessionFault.TheVariants.{Input, Output}
use Rattle.sve_debug.specs.Sessions.{Tells}
use Rattle.machine_model.specs.Machine.{State}
use Rattle.sve_debug.specs.declared.command.Command.{Command}
use Rattle.sve_debug.specs.declared.command.Command.TheVariants.{Step, Go, Back, Break, Show, Quit}
use Rattle.sve_debug.specs.DebuggerState.{DebuggerState, Stands, came_out, held_stand, answer_text}
use Rattle.sve_debug.specs.Lines.{command_of}
use Rattle.sve_debug.specs.Replies.{Session, line, stand_text, break_text, part_text, is_too_far, after_command, command_text, line_text}

stand_is : (held : DebuggerState) (start : State) (e : Session) → Stands held start e → held_stand held ≡ stand_text e.state e.steps e.over
stand_is held start e h =
    let shows = h.shows in
    ap₂ (λ (s : State) n. stand_text s n (option_map (came_out s n) held.machine.over)) shows.state shows.steps
    ∙ ap (stand_text e.state e.steps) (sym shows.over)

pub told_is : (command : Command) (held held' : DebuggerState) (start : State) (d : Session) → Stands held start d → Stands held' start (after_command command d) → answer_text command held held' ≡ command_text command d (after_command command d)
told_is (Step n) held held' start d h k = stand_is held' start _ k
told_is (Go n) held held' start d h k = stand_is held' start _ k
told_is (Back n) held held' start d h k =
    ap₂ (λ s (c : List ℕ). if is_too_far n s c then line (codes "too far") else held_stand held') h.shows.steps h.counts
    ∙ ap (λ (t : List ℕ). if is_too_far n d.steps d.counts then line (codes "too far") else t) (stand_is held' start _ k)
told_is (Break a) held held' start d h k = ap (break_text a) h.shows.breaks
told_is (Show part) held held' start d h k = ap₂ (part_text part) h.shows.state h.shows.last
told_is Quit held held' start d h k = refl

pub line_is : (text : List ℕ) (command : Command) (d : Session) → (length text == 0) ≡ false → command_of text ≡ Some command → command_text command d (after_command command d) ≡ line_text text d
line_is [] command d some is = absurd cc
line_is (b ∷ bytes) command d some is =
    sym (ap (λ o. elim o [ Some command ↦ command_text command d (after_command command d) | None ↦ line (codes "bad line") ]) is)

pub puts_on : (old new : Option (List ℕ)) (a b : ℕ) (text : List ℕ) (first : Result (Unit {0}) Failed) (done : Unit {0}) (on : Bool) → first ≡ Ok done → PutsText old new a b text first → PutsText {T = Bool} old new a b text (Ok on)
puts_on old new a b text (Ok _) done on is p = record { all = p.all; part = p.part; untold = p.untold; cause = record { later = p.cause.later; failed = tt } }
puts_on old new a b text (Err failed) done on is p = absurd cc

pub puts_failed : (old new : Option (List ℕ)) (a b : ℕ) (text : List ℕ) (first : Result (Unit {0}) Failed) (failed : Failed) (result : Result Bool Failed) → first ≡ Err failed → IsErr result → PutsText old new a b text first → PutsText {T = Bool} old new a b text result
puts_failed old new a b text (Ok done) failed result is err p = absurd cc
puts_failed old new a b text (Err other) failed (Ok on) is err p = absurd cc
puts_failed old new a b text (Err other) failed (Err again) is err p =
    record { all = tt; part = p.part; untold = p.untold; cause = record { later = p.cause.later; failed = p.cause.failed } }

-- whether steps back were done, and the text of what was answered
pub went_back : (far gone : Bool) (x y : List ℕ) → gone ≡ not far → gone ≡ true → y ≡ (if far then x else y)
went_back true gone x y is e = absurd cc
went_back false gone x y is e = refl

pub went_too_far : (far gone : Bool) (x y : List ℕ) → gone ≡ not far → gone ≡ false → x ≡ (if far then x else y)
went_too_far true gone x y is e = refl
went_too_far false gone x y is e = absurd cc

-- ---- what a session tells of it

if_some_both : (P Q : List ℕ → Type 0) (o : Option (List ℕ)) → IfSome o P → IfSome o Q → IfSome o (λ bytes. P bytes × Q bytes)
if_some_both P Q None p q = tt
if_some_both P Q (Some bytes) p q = (p, q)

pub tells_on : (old new : Option (List ℕ)) (a b : ℕ) (text : List ℕ) (result : Result Bool Failed) (on : Bool) → result ≡ Ok on → PutsText old new a b text result → Tells {T = Bool} old new text (Ok on)
tells_on old new a b text result on is p =
    if_some_both (λ bytes. new ≡ Some (bytes ++ text)) (λ bytes. GainsPart bytes new text) old (subst (λ r. OnOk r (IfSome old (λ bytes. new ≡ Some (bytes ++ text)))) is p.all) p.part

pub tells_failed : (old new : Option (List ℕ)) (a b : ℕ) (text : List ℕ) (result : Result Bool Failed) (fault : SessionFault) → PutsText old new a b text result → Tells {T = Bool} old new text (Err fault)
tells_failed old new a b text result fault p = if_some_both (λ bytes. Unit {0}) (λ bytes. GainsPart bytes new text) old (nothing old) p.part
  where
    nothing : (o : Option (List ℕ)) → IfSome o (λ bytes. Unit {0})
    nothing None = tt
    nothing (Some bytes) = tt

pub ok_no_err : {T E : Type 0} (x : T) (y : E) → ◌≡◌ {A = Result T E} (Ok x) (Err y) → ⊥
ok_no_err x y e = absurd cc

pub output_no_input : {T : Type 0} → ◌≡◌ {A = Result T SessionFault} (Err Output) (Err Input) → ⊥
output_no_input e = absurd cc
