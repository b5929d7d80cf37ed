mod Room
mod Settled
