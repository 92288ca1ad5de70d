-- Files that are read, and what is wanted after them.
use mathlib.Core.Logic.{⊎_elim}
use Rattle.std.proofs.Common.{◌≡◌, ℕ, Bool, true, false, List, Option, Some, None, Result, Ok, Err, inl, inr, refl, sym, ap, ◌∙◌, subst}
use Rattle.std.specs.Prelude.{IfSome, IsErrAnd, OnOk, nat_lt, length, if◌then◌else◌}
use Rattle.io_edges.specs.Files.{Rose, content, Writes}
use Rattle.io_edges.specs.declared.files.FileError.{FileError}
use Rattle.io_edges.specs.declared.files.TheConstants.{MAX_FILE}
use Rattle.refusals.specs.declared.refusal.Refusal.{Refusal}
use Rattle.refusals.specs.declared.refusal.Refusal.TheVariants.{TooLong, Memory, File}
use Rattle.command_answers.specs.Answer.{HeldFiles, Expected, Answer, answer_of, IsFileAnswer, IsAnswer}
use Rattle.command_answers.specs.Reads.{and_then, bytes_of, file_of, AfterRead}
use Rattle.command_answers.specs.Works.{WhereExpected}

-- ---- a file that is read

-- what was read is what is wanted
pub read_is : {T : Type 0} (x y : ℕ) (wanted : Result T Refusal) (read : T) → IsFileAnswer x y wanted (Ok read) → Ok read ≡ wanted
read_is {T = T} x y wanted read h = ⊎_elim (λ e. e) (λ other. absurd (⊎_elim (λ e. not_err e) (λ p. not_err p.0) other)) h
  where
    not_err : {r : Refusal} → ◌≡◌ {A = Result T Refusal} (Ok read) (Err r) → ⊥
    not_err e = absurd cc

-- something that holds of a work that is wanted after what was read
pub of_read : {T : Type 0} (x y : ℕ) (held : Option HeldFiles) (wanted : HeldFiles → Result T Refusal) (read : T) (found : Result T Refusal) (next : T → Expected → Type 0) (work : Expected) (P : Expected → Type 0) → found ≡ Ok read → IfSome held (λ h. IsFileAnswer x y (wanted h) found) → next read work → P work → IfSome held (λ h. WhereExpected (AfterRead (wanted h) next) P)
of_read x y None wanted read found next work P is answer w p = tt
of_read x y (Some h) wanted read found next work P is answer w p =
    let e : Ok read ≡ wanted h = read_is x y (wanted h) read (subst (IsFileAnswer x y (wanted h)) is answer) in
    λ other o. (work, subst (λ r. AfterRead r next work) e w, p)

-- the same of the one work that follows what was read
pub of_what_follows : {T : Type 0} (x y : ℕ) (held : Option HeldFiles) (wanted : HeldFiles → Result T Refusal) (read : T) (found : Result T Refusal) (next : T → Expected) (P : Expected → Type 0) → found ≡ Ok read → IfSome held (λ h. IsFileAnswer x y (wanted h) found) → P (next read) → IfSome held (λ h. P (and_then (wanted h) next))
of_what_follows x y None wanted read found next P is answer p = tt
of_what_follows x y (Some h) wanted read found next P is answer p =
    subst (λ r. P (and_then r next)) (read_is x y (wanted h) read (subst (IsFileAnswer x y (wanted h)) is answer)) p

-- what is refused first is refused in all that follows it
pub refused_first : {T U : Type 0} (x y u z : ℕ) (wanted : Result T Refusal) (next : T → Result U Refusal) (refusal : Refusal) → (Rose u z → Rose x y) → IsFileAnswer u z wanted (Err refusal) → IsFileAnswer x y (and_then wanted next) (Err refusal)
refused_first {T = T} {U = U} x y u z wanted next refusal later h =
    ⊎_elim
    (λ e. inl (ap (λ r. and_then r next) e))
    (⊎_elim (λ e. inr (inl (same Memory e))) (λ p. inr (inr (same File p.0, later p.1))))
    h
  where
    same : (other : Refusal) → ◌≡◌ {A = Result T Refusal} (Err refusal) (Err other) → ◌≡◌ {A = Result U Refusal} (Err refusal) (Err other)
    same other e = cc

-- a refusal that comes of the files is one of the command
answer_first : (x y : ℕ) (work : Expected) (refusal : Refusal) → IsFileAnswer x y work (Err refusal) → IsFileAnswer x y (answer_of work) (Err refusal)
answer_first x y work refusal h =
    ⊎_elim (λ e. inl (ap answer_of e)) (⊎_elim (λ e. inr (inl (same Memory e))) (λ p. inr (inr (same File p.0, p.1)))) h
  where
    same : (other : Refusal) → ◌≡◌ {A = Expected} (Err refusal) (Err other) → ◌≡◌ {A = Answer} (Err refusal) (Err other)
    same other e = cc

-- what could not be read is refused so
pub not_read : {T : Type 0} (x y : ℕ) (rose : Type 0) (held : Option HeldFiles) (wanted : HeldFiles → Result T Refusal) (found : Result T Refusal) (next : T → Expected) (refusal : Refusal) (result : Answer) → found ≡ Err refusal → result ≡ Err refusal → IfSome held (λ h. IsFileAnswer x y (wanted h) found) → IfSome held (λ h. IsAnswer x y rose (answer_of (and_then (wanted h) next)) result)
not_read x y rose None wanted found next refusal result is e answer = tt
not_read x y rose (Some h) wanted found next refusal result is e answer =
    inl (subst (IsFileAnswer x y (answer_of (and_then (wanted h) next))) (sym e)
    (answer_first x y (and_then (wanted h) next) refusal (refused_first x y x y (wanted h) next refusal (λ r. r) (subst (IsFileAnswer x y (wanted h)) is answer))))

-- ---- one after another

-- what is answered where it could not be read
pub stops_there : {T U : Type 0} (x y : ℕ) (held : Option HeldFiles) (wanted : HeldFiles → Result T Refusal) (found : Result T Refusal) (next : HeldFiles → T → Result U Refusal) (refusal : Refusal) (result : Result U Refusal) → found ≡ Err refusal → result ≡ Err refusal → IfSome held (λ h. IsFileAnswer x y (wanted h) found)
    → IfSome held (λ h. IsFileAnswer x y (and_then (wanted h) (next h)) result)
stops_there x y None wanted found next refusal result is e answer = tt
stops_there x y (Some h) wanted found next refusal result is e answer =
    subst (IsFileAnswer x y (and_then (wanted h) (next h))) (sym e)
    (refused_first x y x y (wanted h) (next h) refusal (λ r. r) (subst (IsFileAnswer x y (wanted h)) is answer))

-- what is answered without a look at the files
pub read_is_answered : {T : Type 0} (x : ℕ) (held : Option HeldFiles) (wanted : HeldFiles → Result T Refusal) (result : Result T Refusal) → ((h : HeldFiles) → wanted h ≡ result) → IfSome held (λ h. IsFileAnswer x x (wanted h) result)
read_is_answered x None wanted result is = tt
read_is_answered x (Some h) wanted result is = inl (sym (is h))

-- ---- refusals

pub is_err : {T : Type 0} (refusal : Refusal) (result : Result T Refusal) → IsErrAnd result (λ r. r ≡ refusal) → result ≡ Err refusal
is_err refusal (Ok done) h = absurd h
is_err refusal (Err r) h = ap (λ e. Err e) h

-- ---- answers of commands with an output

pub with_output : (x y : ℕ) (rose : Type 0) (held : Option HeldFiles) (W : HeldFiles → Expected → Type 0) (result : Answer) → IfSome held (λ h. WhereExpected (W h) (λ work. IsFileAnswer x y (answer_of work) result)) → IfSome held (λ h. WhereExpected (W h) (λ work. IsAnswer x y rose (answer_of work) result))
with_output x y rose None W result h = tt
with_output x y rose (Some held) W result h = λ work w. let p = h work w in (p.0, p.1, inl p.2)

-- the one work that is wanted
pub of_one : (held : Option HeldFiles) (f : HeldFiles → Expected) (P : Expected → Type 0) → IfSome held (λ h. P (f h)) → IfSome held (λ h. WhereExpected (λ work. work ≡ f h) P)
of_one None f P h = tt
of_one (Some held) f P h = λ work w. (f held, refl, h)

-- something that holds of each work holds of one that is wanted
pub of_every : (held : Option HeldFiles) (W : HeldFiles → Expected → Type 0) (P : Expected → Type 0) → ((work : Expected) → P work) → IfSome held (λ h. WhereExpected (W h) P)
of_every None W P all = tt
of_every (Some h) W P all = λ work w. (work, w, all work)

-- ---- a file that is written

long : (b : Bool) (text : List ℕ) {bytes : List ℕ} → ◌≡◌ {A = Result (List ℕ) Refusal} (Ok bytes) (if b then Err TooLong else Ok text) → bytes ≡ text
long true text e = absurd cc
long false text e = cc

pub written_at : {old new : HeldFiles} {to bytes : List ℕ} {result : Result (Unit {0}) FileError} → Writes (Some old) (Some new) to bytes result → result ≡ Ok tt → content new to ≡ Some bytes
written_at {new = new} {to = to} {bytes = bytes} {result = result} w ok =
    ap (λ h. content h to) (some_same w.1) ∙ onto result ok w.2.written
  where
    some_same : {a b : HeldFiles} → Some a ≡ Some b → a ≡ b
    some_same e = cc

    onto : (r : Result (Unit {0}) FileError) → r ≡ Ok tt → OnOk r (content w.0 to ≡ Some bytes) → content w.0 to ≡ Some bytes
    onto (Ok x) e h = h
    onto (Err f) e h = absurd cc

-- what was written for a text that was read
pub written_file : (x y : ℕ) (old mid new : Option HeldFiles) (from to bytes written file : List ℕ) (found : Result (List ℕ) Refusal) (result : Result (Unit {0}) FileError) (IsFileOf : List ℕ → List ℕ → Type 0) → found ≡ Ok bytes → IfSome old (λ h. IsFileAnswer x y (file_of h from) found) → mid ≡ old → Writes mid new to written result → result ≡ Ok tt → written ≡ file → IsFileOf bytes file
    → IfSome old (λ o. IfSome new (λ n. IfSome (content o from) (λ text. (f : List ℕ) × (content n to ≡ Some f) × IsFileOf text f)))
written_file x y None mid new from to bytes written file found result IsFileOf is read same writes ok put h = tt
written_file x y (Some o) mid None from to bytes written file found result IsFileOf is read same writes ok put h = tt
written_file x y (Some o) mid (Some n) from to bytes written file found result IsFileOf is read same writes ok put h =
    by (content o from) (read_is x y (file_of o from) bytes (subst (IsFileAnswer x y (file_of o from)) is read))
  where
    stands : content n to ≡ Some file
    stands = written_at (subst (λ m. Writes m (Some n) to written result) same writes) ok ∙ ap (λ b. Some b) put

    by : (c : Option (List ℕ)) → Ok bytes ≡ bytes_of c → IfSome c (λ text. (f : List ℕ) × (content n to ≡ Some f) × IsFileOf text f)
    by None e = tt
    by (Some text) e = (file, stands, subst (λ t. IsFileOf t file) (long (nat_lt MAX_FILE (length text)) text e) h)
