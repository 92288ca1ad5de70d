pub mod CloseBound
