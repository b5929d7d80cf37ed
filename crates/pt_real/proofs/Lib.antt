mod Ordered
mod Taken
