-- What the proofs share besides the laws of specs/.
mod Caught
mod Enqueued
mod Room
mod Ticked
