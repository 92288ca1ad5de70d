-- Names of crates below that the crates above need, which then need not stand on those.
pub use Rattle.chunk_emit.specs.Head.{Ground, IsGround, most_lanes, limit}
pub use Rattle.lane_emit.specs.LaneCode.{dup_code}
pub use Rattle.lane_emit.specs.Joins.{identity}
pub use Rattle.chunk_emit.specs.ChunkCode.{vectors, puts}
pub use Rattle.chunk_emit.specs.Fits.{IsReach}
pub use Rattle.chunk_emit.specs.StopPlaces.{IsByteOf, ComesTo, OneComesTo}
pub use Rattle.chunk_emit.specs.KernelLayout.{update_of, layout_of_loop}
pub use Rattle.first_fault.specs.BreakRegion.{is_loop_break}
pub use Rattle.reductions.specs.Reductions.{reduce_name, reduce_code}
pub use Rattle.reductions.specs.EdgeCode.{type_of_var, hold_code, holds_code, start_code, fold_one, folds_code, fold_code}
pub use Rattle.chunk_pass.specs.Chunks.{items_of}
pub use Rattle.chunk_pass.specs.PassCode.{lanes_word, chunk_words, iteration_words, plain_words}
