-- What the proofs share besides the laws of specs/.
mod Reading
mod Writing
