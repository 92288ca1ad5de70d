use Rattle.std.proofs.Common.{◌≡◌, ◌+◌, ◌*◌, ◌++◌}
use Rattle.sweep_kernel.specs.Pages.{drawn_page, pages_from}
use Rattle.sweep_kernel.proofs.pages.push_drawn.Given as goal

abbrev pub invariant-loop-p : goal.invariant-loop-p
invariant-loop-p l =
    (l.pages.items ≡ l.initial.pages.items ++ pages_from l.first (drawn_page l.initial.draw.seed l.initial.draw.place) l.p)
    × (l.draw.seed ≡ l.initial.draw.seed)
    × (l.draw.place ≡ l.initial.draw.place + 4096 * l.p)
