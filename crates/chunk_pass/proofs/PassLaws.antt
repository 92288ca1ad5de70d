-- The passes, by what their lanes are to the scalar loop.
use Rattle.first_fault.proofs.LoopFits.{kernel_fits}
use Rattle.chunk_pass.specs.Passes.{ChunkPasses, IterationPasses, PlainPasses}
use Rattle.chunk_pass.proofs.ChunkDone.{fine_is_done}
use Rattle.chunk_pass.proofs.ChunkFails.{fail_is_fault}
use Rattle.chunk_pass.proofs.ChunkNext.{next_halts}
use Rattle.chunk_pass.proofs.PassWhole.{chunk_passes, iteration_passes, plain_passes}

pub chunk_law : ChunkPasses
chunk_law = chunk_passes fine_is_done fail_is_fault next_halts kernel_fits

pub iteration_law : IterationPasses
iteration_law = iteration_passes fine_is_done fail_is_fault next_halts kernel_fits

pub plain_law : PlainPasses
plain_law = plain_passes fine_is_done fail_is_fault next_halts kernel_fits
