-- Runs of the pieces of a pass, one after another.
use Rattle.std.proofs.Common.{ℕ, ◌+◌, ◌≤◌, List, arith}
use Rattle.machine_model.specs.Machine.{State}
use Rattle.label_fix.specs.DraftRun.{DraftEntry, Laid}
use Rattle.label_fix.specs.Stretches.{Leads}
use Rattle.guest_types.specs.declared.length.Width.{Width}
use Rattle.first_fault.specs.SuppressedLanes.{SuppressedOn}
use Rattle.first_fault.proofs.Stretches.{follow, follow-cut, suppressed_first, suppressed_second}

-- two pieces, of which the first may suppress free elements
pub record Further {d : Laid} {c e : List DraftEntry} {s t : State} {m : ℕ} (first : Leads d c s e t m) (rest : List DraftEntry) (u : State) (most : ℕ) : Type 0 where
  pub leads : Leads d c s rest u most
  pub more : first.cut ≤ leads.cut
  pub on : (w : Width) (lane : ℕ) → SuppressedOn w first lane → SuppressedOn w leads lane

pub further : {d : Laid} {c e rest : List DraftEntry} {s t u : State} {m n : ℕ} (most : ℕ) → m + n ≤ most → (a : Leads d c s e t m) → Leads d e t rest u n → Further a rest u most
further most le a b = record {
  leads = follow most le a b;
  more = let same = follow-cut most le a b in omega (arith, same);
  on = λ w lane on. suppressed_first most le a b on;
}

-- the same of the second one
pub record Nearer {d : Laid} {c : List DraftEntry} {e : List DraftEntry} {s t : State} {m : ℕ} (second : Leads d c s e t m) (from : List DraftEntry) (a : State) (most : ℕ) : Type 0 where
  pub leads : Leads d from a e t most
  pub more : second.cut ≤ leads.cut
  pub on : (w : Width) (lane : ℕ) → SuppressedOn w second lane → SuppressedOn w leads lane

pub nearer : {d : Laid} {c e from : List DraftEntry} {a s t : State} {m n : ℕ} (most : ℕ) → m + n ≤ most → Leads d from a c s m → (b : Leads d c s e t n) → Nearer b from a most
nearer most le a b = record {
  leads = follow most le a b;
  more = let same = follow-cut most le a b in omega (arith, same);
  on = λ w lane on. suppressed_second most le a b on;
}
