-- The line of some words, by the first of them.
use Rattle.std.proofs.Common.{◌≡◌, ℕ, ◌≤◌, ◌-◌, List, [], ◌∷◌, ◌∙◌, length, take, drop, get_or, sym, ap, refl, Bool, true, false, codes, None}
use Rattle.std.specs.Prelude.{option_map, bytes_eq, String, string_bytes}
use Rattle.number_text.proofs.Bytes.{bytes_eq-told}
use Rattle.command_line.specs.Line.{Words, CheckLine, ListLine, compile_of, file_of, eval_of, run_of, debug_of, sweep_of, asm_of, object_of, pipe_of, line_of}
use Rattle.command_line.specs.View.{texts}
use Rattle.command_line.proofs.Outcomes.{opened}

-- the words by the first and the others
pub first_and_rest : {A : Type 0} (words : List (String A)) (word : String A) (name : List ℕ) → 1 ≤ length words → word ≡ get_or words 0 word → name ≡ string_bytes word
    → texts words ≡ name ∷ texts (take (length words - 1) (drop 1 words))
first_and_rest words word name least is e = opened string_bytes words word least ∙ ap (λ n. n ∷ texts (take (length words - 1) (drop 1 words))) (ap string_bytes (sym is) ∙ sym e)

pub compile_line : (name : List ℕ) (words : Words) → name ≡ codes "compile" → line_of (name ∷ words) ≡ compile_of words
unfolding line_of
compile_line name words e = ap (λ n. line_of (n ∷ words)) e

pub check_line : (name : List ℕ) (words : Words) → name ≡ codes "check" → line_of (name ∷ words) ≡ option_map CheckLine (file_of words)
unfolding line_of
check_line name words e = ap (λ n. line_of (n ∷ words)) e

pub eval_line : (name : List ℕ) (words : Words) → name ≡ codes "eval" → line_of (name ∷ words) ≡ eval_of words
unfolding line_of
eval_line name words e = ap (λ n. line_of (n ∷ words)) e

pub list_line : (name : List ℕ) (words : Words) → name ≡ codes "list" → line_of (name ∷ words) ≡ option_map ListLine (file_of words)
unfolding line_of
list_line name words e = ap (λ n. line_of (n ∷ words)) e

pub run_line : (name : List ℕ) (words : Words) → name ≡ codes "run" → line_of (name ∷ words) ≡ run_of words
unfolding line_of
run_line name words e = ap (λ n. line_of (n ∷ words)) e

pub debug_line : (name : List ℕ) (words : Words) → name ≡ codes "debug" → line_of (name ∷ words) ≡ debug_of words
unfolding line_of
debug_line name words e = ap (λ n. line_of (n ∷ words)) e

pub sweep_line : (name : List ℕ) (words : Words) → name ≡ codes "sweep" → line_of (name ∷ words) ≡ sweep_of words
unfolding line_of
sweep_line name words e = ap (λ n. line_of (n ∷ words)) e

pub asm_line : (name : List ℕ) (words : Words) → name ≡ codes "asm" → line_of (name ∷ words) ≡ asm_of words
unfolding line_of
asm_line name words e = ap (λ n. line_of (n ∷ words)) e

pub object_line : (name : List ℕ) (words : Words) → name ≡ codes "object" → line_of (name ∷ words) ≡ object_of words
unfolding line_of
object_line name words e = ap (λ n. line_of (n ∷ words)) e

pub pipe_line : (name : List ℕ) (words : Words) → name ≡ codes "pipe" → line_of (name ∷ words) ≡ pipe_of words
unfolding line_of
pipe_line name words e = ap (λ n. line_of (n ∷ words)) e

pub no_line : line_of [] ≡ None
unfolding line_of
no_line = refl

-- a first word that names no command
abbrev pub Differs : List ℕ → List ℕ → Type 0
Differs name other = name ≡ other → ⊥

differs : (name other : List ℕ) → Differs name other → bytes_eq name other ≡ false
differs name other d = by (bytes_eq name other) refl
  where
    by : (b : Bool) → bytes_eq name other ≡ b → b ≡ false
    by true e = absurd (d (bytes_eq-told name other e))
    by false e = refl

pub other_line : (name : List ℕ) (words : Words)
    → Differs name (codes "compile") → Differs name (codes "check") → Differs name (codes "eval") → Differs name (codes "list") → Differs name (codes "run")
    → Differs name (codes "debug") → Differs name (codes "sweep") → Differs name (codes "asm") → Differs name (codes "object") → Differs name (codes "pipe")
    → line_of (name ∷ words) ≡ None
unfolding line_of
other_line name words a b c d e f g h j i =
    rw (differs name (codes "compile") a, differs name (codes "check") b, differs name (codes "eval") c, differs name (codes "list") d, differs name (codes "run") e, differs name (codes "debug") f, differs name (codes "sweep") g, differs name (codes "asm") h, differs name (codes "object") j, differs name (codes "pipe") i) refl
