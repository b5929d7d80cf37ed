pub mod Window
pub mod Origins
pub mod Survey
pub mod Agree
pub mod Progress
