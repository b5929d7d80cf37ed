pub mod Parts
pub mod ExprRows
pub mod StratRows
pub mod SuiteRows
