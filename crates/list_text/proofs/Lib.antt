mod Pieces
mod Flags
