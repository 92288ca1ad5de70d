-- A map that stands beside an image gives the same pages where it is read alone.
use Rattle.std.proofs.Common.{◌≡◌, ℕ, ◌+◌, ◌/◌, Bool, true, false, List, [], ◌∷◌, length, Option, Some, None, Result, Ok, Err, refl, sym, subst, arith}
use Rattle.std.specs.Prelude.{◌||◌, nat_lt, IfOk, if◌then◌else◌}
use Rattle.std.proofs.lemmas.Bool.{cond-false, le-ltb, ltb-false}
use Rattle.guest_types.specs.declared.memory.Perm.{Perm}
use Rattle.guest_types.specs.Memory.{Memory, merged}
use Rattle.map_text.specs.declared.fault.MapFault.{MapFault}
use Rattle.map_text.specs.declared.fault.MapFault.TheVariants.{Clash, TooManyPages}
use Rattle.map_text.specs.Lines.{MapLine, Blank, Maps, Sets, map_line_of}
use Rattle.map_text.specs.Mapping.{put_bytes, zero_pages, has_any, with_pages, put_or_fault, after_map_line, after_read, after_line, and_then, after_lines, map_of}
use Rattle.text_parts.specs.Parts.{lines_of}

-- the pages that the one gives, the other gives too
Gives : Result Memory MapFault → Result Memory MapFault → Type 0
Gives r other = IfOk r (λ pages. other ≡ Ok pages)

module _ (image : Memory) where
  pages_alone : (line : ℕ) (perm : Perm) (first count : ℕ) (pages : Memory) → Gives (with_pages image line perm first count pages) (with_pages [] line perm first count pages)
  unfolding Gives with_pages
  pages_alone line perm first count pages = by (has_any pages first count) (has_any image first count) (nat_lt 16384 (length image + length pages + count)) refl
    where
      more : Memory
      more = merged pages (zero_pages perm first count)

      by : (p q many : Bool) → nat_lt 16384 (length image + length pages + count) ≡ many
          → IfOk (if p || q then Err (Clash line) else if many then Err TooManyPages else Ok more)
          (λ out. (if p || false then Err (Clash line) else if nat_lt 16384 (0 + length pages + count) then Err TooManyPages else Ok more) ≡ Ok out)
      by true q many e = tt
      by false true many e = tt
      by false false true e = tt
      by false false false e =
          let few = ltb-false 16384 (length image + length pages + count) e in
          cond-false (nat_lt 16384 (0 + length pages + count)) (Err TooManyPages) (Ok more) (le-ltb 16384 (0 + length pages + count) (omega (arith, few)))

  same_gives : (r : Result Memory MapFault) → Gives r r
  unfolding Gives
  same_gives (Ok pages) = refl
  same_gives (Err fault) = tt

  form_alone : (line : ℕ) (form : MapLine) (pages : Memory) → Gives (after_map_line image line form pages) (after_map_line [] line form pages)
  form_alone line Blank pages = same_gives (Ok pages)
  form_alone line (Maps address count perm) pages = pages_alone line perm (address / 4096) count pages
  form_alone line (Sets address bytes) pages = same_gives (put_or_fault line (put_bytes pages address bytes))

  read_alone : (line : ℕ) (o : Option MapLine) (pages : Memory) → Gives (after_read image line o pages) (after_read [] line o pages)
  unfolding Gives
  read_alone line (Some form) pages = form_alone line form pages
  read_alone line None pages = tt

  line_alone : (line : ℕ) (text : List ℕ) (pages : Memory) → Gives (after_line image line text pages) (after_line [] line text pages)
  unfolding after_line
  line_alone line text pages = read_alone line (map_line_of text) pages

  lines_alone : (texts : List (List ℕ)) (line : ℕ) (pages : Memory) → Gives (after_lines image line texts pages) (after_lines [] line texts pages)
  unfolding Gives after_lines
  lines_alone [] line pages = refl
  lines_alone (text ∷ texts) line pages = by (after_line image line text pages) (line_alone line text pages) (lines_alone texts (line + 1))
    where
      by : (r : Result Memory MapFault) → IfOk r (λ out. after_line [] line text pages ≡ Ok out) → ((out : Memory) → Gives (after_lines image (line + 1) texts out) (after_lines [] (line + 1) texts out))
          → IfOk (and_then r (after_lines image (line + 1) texts)) (λ out. and_then (after_line [] line text pages) (after_lines [] (line + 1) texts) ≡ Ok out)
      by (Ok out) h more =
          subst (λ r. IfOk (after_lines image (line + 1) texts out) (λ last. and_then r (after_lines [] (line + 1) texts) ≡ Ok last)) (sym h) (more out)
      by (Err fault) h more = tt

pub map_alone : (text : List ℕ) (image pages : Memory) → map_of text image ≡ Ok pages → map_of text [] ≡ Ok pages
unfolding Gives map_of
map_alone text image pages is =
    subst (λ r. IfOk r (λ out. after_lines [] 1 (lines_of text) [] ≡ Ok out)) is (lines_alone image (lines_of text) 1 [])
