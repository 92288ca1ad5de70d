pub mod ValueBounds
