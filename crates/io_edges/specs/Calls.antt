-- The calls of a thing in memory, some of which are to fail.
use Rattle.std.specs.Prelude.{ℕ, Bool, List, nat_eq, nat_lt, if◌then◌else◌}
use Rattle.std.specs.List.{list_all, list_any}
use Rattle.io_edges.specs.Files.{one_more}

-- the numbers of the calls that are to fail, from 0; the calls made so far; and how many of them failed
pub record CallCount : Type 0 where
  pub fail : List ℕ
  pub made : ℕ
  pub faults : ℕ

-- no call was made yet
abbrev pub no_calls : List ℕ → CallCount
no_calls fail = record { fail = fail; made = 0; faults = 0 }

-- whether the next call is one that is to fail
abbrev pub fails_next : CallCount → Bool
fails_next calls = list_any (λ n. nat_eq n calls.made) calls.fail

-- whether each call that is to fail was made
abbrev pub fails_no_more : CallCount → Bool
fails_no_more calls = list_all (λ n. nat_lt n calls.made) calls.fail

-- one call more, which failed or did not
abbrev pub after_call : Bool → CallCount → CallCount
after_call failed calls =
    record { fail = calls.fail; made = one_more calls.made; faults = if failed then one_more calls.faults else calls.faults }
