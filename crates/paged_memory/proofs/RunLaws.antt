-- Runs of pages.
use Rattle.std.proofs.Common.{◌≡◌, ◌≢◌, ℕ, ◌+◌, ◌<◌, ◌≤◌, List, [], ◌∷◌, ◌++◌, None, sym, ap, ◌∙◌, subst, arith}
use Rattle.std.proofs.lemmas.List.{length_push}
use Rattle.std.proofs.lemmas.List.Elements.{All-weaker, All-push}
use Rattle.guest_types.specs.declared.memory.Perm.{Perm}
use Rattle.guest_types.specs.Memory.{Page, Memory, IsPage, page_at, DoNotMeet}
use Rattle.guest_types.proofs.Merges.{IsMemory-push, page_at-absent}
use Rattle.paged_memory.specs.Runs.{BeginsWith, IsRun}

pub run-push : (from count : ℕ) (perm : Perm) (front : List ℕ) (memory : Memory) (p : Page) → IsRun from count perm front memory → IsPage p → p.page ≡ from + count → BeginsWith perm front p → IsRun from (count + 1) perm front (memory ++ p ∷ [])
run-push from count perm front memory p run is e alike = record {
  memory = IsMemory-push memory p run.memory is (All-weaker (λ (page : Page). page.page < from + count) (λ (page : Page). page.page < p.page) (λ page h. subst (λ n. page.page < n) (sym e) h) memory run.below);
  whole = length_push memory p ∙ ap (λ n. n + 1) run.whole;
  above = All-push (λ (page : Page). from ≤ page.page) memory p run.above (omega arith);
  below = All-push (λ (page : Page). page.page < from + (count + 1)) memory p (All-weaker (λ (page : Page). page.page < from + count) (λ (page : Page). page.page < from + (count + 1)) (λ page h. omega arith) memory run.below) (omega arith);
  alike = All-push (BeginsWith perm front) memory p run.alike alike;
}

-- two runs, the one below the other, do not meet
pub runs-apart : {perm perm2 : Perm} {front front2 : List ℕ} (from count next more : ℕ) (memory other : Memory) → IsRun from count perm front memory → IsRun next more perm2 front2 other → from + count ≤ next → DoNotMeet memory other
runs-apart from count next more memory other run after l =
    All-weaker (λ (page : Page). page.page < from + count) (λ (page : Page). page_at other page.page ≡ None)
    (λ page h. page_at-absent other page.page (All-weaker (λ (q : Page). next ≤ q.page) (λ (q : Page). q.page ≢ page.page) (λ q a e. omega arith) other after.above))
    memory run.below
