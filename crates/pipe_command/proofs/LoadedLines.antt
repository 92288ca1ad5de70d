-- The lines of a script, loaded one after another.
use Rattle.std.proofs.Common.{◌≡◌, ℕ, ◌+◌, ◌<◌, ◌≤◌, length, drop, get_or, List, [], ◌∷◌, ◌++◌, Option, Some, None, Result, Ok, Err, inl, refl, sym, ap, ◌∙◌, subst, append_assoc, append-nil}
use Rattle.std.specs.Prelude.{IfSome, IsSome}
use Rattle.std.proofs.lemmas.List.{drop_more}
use Rattle.io_edges.specs.Files.{content}
use Rattle.io_edges.proofs.Puts.{later_rose}
use Rattle.guest_types.specs.Memory.{Memory as Pages}
use Rattle.machine_model.specs.Load.{Image}
use Rattle.elf_image.specs.Loaded.{plain}
use Rattle.pipe_script.specs.Script.{ScriptEntry}
use Rattle.pipe_run.specs.PipeRun.{Line}
use Rattle.refusals.specs.declared.refusal.Refusal.{Refusal}
use Rattle.command_answers.specs.Answer.{HeldFiles, IsFileAnswer}
use Rattle.command_answers.specs.Reads.{and_then}
use Rattle.command_answers.proofs.Reading.{read_is, refused_first}
use Rattle.pipe_command.specs.Pipes.{image_of, with_line, lines_of, AreHeld}
use Rattle.pipe_command.specs.declared.loaded.LoadedLine.{LoadedLine}
use Rattle.pipe_command.specs.View.{line_view, lines_view}

-- some lines, and those after them
abbrev pub with_before : List Line → Result (List Line) Refusal → Result (List Line) Refusal
with_before before rest = and_then rest (λ lines. Ok (before ++ lines))

-- one line more, and those after it
step_is : (held : HeldFiles) (pages : Pages) (before : List Line) (entry : ScriptEntry) (entries : List ScriptEntry) → with_before before (lines_of held pages (entry ∷ entries)) ≡ and_then (with_line held pages before entry) (λ lines. with_before lines (lines_of held pages entries))
unfolding lines_of
step_is held pages before entry entries = by (image_of held pages entry) (lines_of held pages entries)
  where
    by : (i : Result Image Refusal) (rest : Result (List Line) Refusal)
        → with_before before (and_then i (λ image. and_then rest (λ lines. Ok (record { image = image; args = entry.args } ∷ lines))))
        ≡ and_then (and_then i (λ image. Ok (before ++ record { image = image; args = entry.args } ∷ []))) (λ lines. with_before lines rest)
    by (Err refusal) rest = refl
    by (Ok image) (Err refusal) = refl
    by (Ok image) (Ok lines) = ap (λ l. Ok l) (sym (append_assoc before (record { image = image; args = entry.args } ∷ []) lines))

lines_more : (lines : List LoadedLine) (line : LoadedLine) → lines_view (lines ++ line ∷ []) ≡ lines_view lines ++ line_view line ∷ []
lines_more [] line = refl
lines_more (first ∷ lines) line = ap (λ l. line_view first ∷ l) (lines_more lines line)

-- a line is added where the image of its file is the one that is wanted
pub line_added : (x y : ℕ) (held : Option HeldFiles) (pages : Pages) (before after : List LoadedLine) (line : LoadedLine) (entry : ScriptEntry) (found : Result Image Refusal) → found ≡ Ok (plain line.image) → line.args.items ≡ entry.args → IfSome held (λ h. IsFileAnswer x y (image_of h pages entry) found) → after ≡ before ++ line ∷ []
    → IfSome held (λ h. IsFileAnswer x y (with_line h pages (lines_view before) entry) (Ok (lines_view after)))
line_added x y None pages before after line entry found is same answer more = tt
line_added x y (Some h) pages before after line entry found is same answer more =
    let image : Ok (plain line.image) ≡ image_of h pages entry = read_is x y (image_of h pages entry) (plain line.image) (subst (IsFileAnswer x y (image_of h pages entry)) is answer) in
    inl (ap (λ l. Ok l) (ap lines_view more ∙ lines_more before line ∙ ap (λ a. lines_view before ++ record { image = plain line.image; args = a } ∷ []) same)
    ∙ ap (λ r. and_then r (λ image. Ok (lines_view before ++ record { image = image; args = entry.args } ∷ []))) image)

-- what is loaded, and the lines that are left, are the lines that are wanted
abbrev pub SoFar : Option HeldFiles → Pages → List Line → (left all : List ScriptEntry) → Type 0
SoFar held pages before left all = IfSome held (λ h. with_before before (lines_of h pages left) ≡ lines_of h pages all)

pub line_loaded : (x y : ℕ) (held : Option HeldFiles) (pages : Pages) (before after : List Line) (entry : ScriptEntry) (left all : List ScriptEntry) (found : Result (List Line) Refusal) → SoFar held pages before (entry ∷ left) all → found ≡ Ok after → IfSome held (λ h. IsFileAnswer x y (with_line h pages before entry) found) → SoFar held pages after left all
line_loaded x y None pages before after entry left all found so is answer = tt
line_loaded x y (Some h) pages before after entry left all found so is answer =
    ap (λ r. and_then r (λ lines. with_before lines (lines_of h pages left))) (read_is x y (with_line h pages before entry) after (subst (IsFileAnswer x y (with_line h pages before entry)) is answer))
    ∙ sym (step_is h pages before entry left) ∙ so

pub all_loaded : (x y : ℕ) (held : Option HeldFiles) (pages : Pages) (before : List Line) (left all : List ScriptEntry) (result : Result (List Line) Refusal) → SoFar held pages before left all → left ≡ [] → result ≡ Ok before → IfSome held (λ h. IsFileAnswer x y (lines_of h pages all) result)
unfolding lines_of
all_loaded x y None pages before left all result so none is = tt
all_loaded x y (Some h) pages before left all result so none is =
    let last : with_before before (lines_of h pages []) ≡ lines_of h pages all = subst (λ l. with_before before (lines_of h pages l) ≡ lines_of h pages all) none so in
    inl (is ∙ ap (λ l. Ok l) (sym (append-nil before)) ∙ last)

pub loading_stops : (x y z : ℕ) (held : Option HeldFiles) (pages : Pages) (before : List Line) (entry : ScriptEntry) (left all : List ScriptEntry) (found : Result (List Line) Refusal) (refusal : Refusal) (result : Result (List Line) Refusal) → x ≤ y → SoFar held pages before (entry ∷ left) all → found ≡ Err refusal → result ≡ Err refusal → IfSome held (λ h. IsFileAnswer y z (with_line h pages before entry) found) → IfSome held (λ h. IsFileAnswer x z (lines_of h pages all) result)
loading_stops x y z None pages before entry left all found refusal result more so is e answer = tt
loading_stops x y z (Some h) pages before entry left all found refusal result more so is e answer =
    subst (IsFileAnswer x z (lines_of h pages all)) (sym e)
    (subst (λ w. IsFileAnswer x z w (Err refusal)) (sym (step_is h pages before entry left) ∙ so)
    (refused_first x z y z (with_line h pages before entry) (λ lines. with_before lines (lines_of h pages left)) refusal (later_rose x y z more) (subst (IsFileAnswer y z (with_line h pages before entry)) is answer)))

-- ---- the files that are held

abbrev pub StillHeld : Option HeldFiles → (left all : List ScriptEntry) → Type 0
StillHeld held left all = IfSome held (λ h. AreHeld h all → AreHeld h left)

pub still_held : (held : Option HeldFiles) (entry : ScriptEntry) (left all : List ScriptEntry) → StillHeld held (entry ∷ left) all → StillHeld held left all
still_held None entry left all h = tt
still_held (Some held) entry left all h = λ a. (h a).1

-- the file of the next line is held
pub next_held : (held : Option HeldFiles) (entry : ScriptEntry) (left all : List ScriptEntry) (P : Type 0) → StillHeld held (entry ∷ left) all → IfSome held (λ h. IsSome (content h entry.file) → P) → IfSome held (λ h. AreHeld h all → P)
next_held None entry left all P h p = tt
next_held (Some held) entry left all P h p = λ a. p (h a).0

-- ---- the map fits beside each line

pub held_map : (held : Option HeldFiles) (A : HeldFiles → Type 0) (P Q : Type 0) → (P → Q) → IfSome held (λ h. A h → P) → IfSome held (λ h. A h → Q)
held_map None A P Q f h = tt
held_map (Some held) A P Q f h = λ a. f (h a)

-- ---- the next of some

pub next_is : {X : Type 0} (xs : List X) (i : ℕ) (x : X) → i < length xs → x ≡ get_or xs i x → drop i xs ≡ x ∷ drop (i + 1) xs
next_is xs i x h e = drop_more xs i x h ∙ ap (λ y. y ∷ drop (i + 1) xs) (sym e)
