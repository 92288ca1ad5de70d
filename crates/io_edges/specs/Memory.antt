-- Files, a sink and a source in memory.
use Rattle.std.specs.Prelude.{ℕ, List}
use Rattle.io_edges.specs.Calls.{CallCount}

-- names and bytes, and the calls
pub record FilesInMemory : Type 0 where
  pub held : List (List ℕ × List ℕ)
  pub calls : CallCount

-- the bytes taken, how many more there is room for, and the calls
pub record SinkInMemory : Type 0 where
  pub taken : List ℕ
  pub room : ℕ
  pub calls : CallCount

-- the bytes that are left, and the calls
pub record SourceInMemory : Type 0 where
  pub left : List ℕ
  pub calls : CallCount
