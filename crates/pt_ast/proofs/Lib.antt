pub mod Shapes
pub mod StratShapes
pub mod TypeShapes
pub mod TreeValues
pub mod ValueLaws
pub mod OneType
pub mod NumberLaws
pub mod Shared
