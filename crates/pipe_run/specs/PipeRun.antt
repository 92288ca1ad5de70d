-- Several runs over the pages of one map: each over the pages of its image and those of the map as the runs before left them.
use Rattle.std.specs.Prelude.{ℕ, ◌+◌, ◌≤◌, List, [], ◌∷◌, map, length, Option, Some, None, Bool, nat_eq, nat_lt, if◌then◌else◌}
use Rattle.std.specs.List.{list_any}
use Rattle.guest_types.specs.Memory.{Page, Memory, DoNotMeet, page_at}
use Rattle.guest_types.specs.declared.memory.TheConstants.{MOST_PAGES}
use Rattle.machine_model.specs.Load.{Image}
use Rattle.machine_model.specs.Run.{Outcome, End, Stop, Spent, image_run, memory_left}
use Rattle.pipe_script.specs.declared.fault.PipeFault.{PipeFault}
use Rattle.pipe_script.specs.declared.fault.PipeFault.TheVariants.{Clash, TooManyPages}

-- the bytes of a page, if there is one, and else those of another
abbrev pub bytes_or : Page → Option Page → List ℕ
bytes_or page None = page.bytes
bytes_or page (Some found) = found.bytes

-- a page with the bytes that a memory has for its number
abbrev pub page_left : Memory → Page → Page
page_left memory page = record page { bytes = bytes_or page (page_at memory page.page) }

-- the pages of a map as a memory has them: the image's own pages are dropped
abbrev pub map_left : Memory → Memory → Memory
map_left memory pages = map (page_left memory) pages

-- an image and its arguments
pub record Line : Type 0 where
  pub image : Image
  pub args : List ℕ

-- what has come of some lines: the outcomes in order, and the map's pages after them
pub record Runs : Type 0 where
  pub outcomes : List Outcome
  pub pages : Memory

-- the first line's outcome, before those of the lines after it, which run where it ended
abbrev pub and_then : Outcome → Memory → (Memory → Runs) → Runs
and_then (End memory result steps) pages go = record { outcomes = End memory result steps ∷ (go pages).outcomes; pages = (go pages).pages }
and_then (Stop kind pc at memory steps) pages go = record { outcomes = Stop kind pc at memory steps ∷ []; pages = pages }
and_then (Spent pc memory steps) pages go = record { outcomes = Spent pc memory steps ∷ []; pages = pages }

-- the runs of these lines, each with so many steps
unfoldable pub runs_of : List Line → Memory → (vl steps : ℕ) → Runs
runs_of [] pages vl steps = record { outcomes = []; pages = pages }
runs_of (line ∷ lines) pages vl steps =
    let outcome = image_run line.image line.args pages vl steps in
    and_then outcome (map_left (memory_left outcome) pages) (λ left. runs_of lines left vl steps)

-- a memory has a page of this number
abbrev pub has_page : Memory → ℕ → Bool
has_page pages n = list_any (λ page. nat_eq page.page n) pages

-- an image and a map have a page in common
abbrev pub have_common : Memory → Memory → Bool
have_common image pages = list_any (λ page. has_page pages page.page) image

-- a map fits beside an image
pub record Fits (image pages : Memory) : Type 0 where
  pub apart : DoNotMeet image pages
  pub few : length image + length pages ≤ MOST_PAGES

-- why a map does not fit beside the image of a line
abbrev pub misfit : (line : ℕ) → (image pages : Memory) → Option PipeFault
misfit line image pages =
    if have_common image pages then Some (Clash line)
    else if nat_lt MOST_PAGES (length image + length pages) then Some (TooManyPages line)
    else None
