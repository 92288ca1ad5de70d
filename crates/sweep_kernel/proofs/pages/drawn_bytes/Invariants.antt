use Rattle.std.proofs.Common.{◌≡◌, ◌+◌}
use Rattle.sweep_kernel.specs.Pages.{low_bytes}
use Rattle.sweep_kernel.proofs.pages.drawn_bytes.Given as goal

abbrev pub invariant-loop-i : goal.invariant-loop-i
invariant-loop-i l =
    (l.bytes.items ≡ low_bytes l.initial.draw.seed l.initial.draw.place l.i)
    × (l.draw.seed ≡ l.initial.draw.seed)
    × (l.draw.place ≡ l.initial.draw.place + l.i)
