pub mod Lamp
pub mod Door
