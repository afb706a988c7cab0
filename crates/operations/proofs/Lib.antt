-- What the proofs share besides the laws of specs/: an operation on a window, Send, Main and Start.
mod Operate
mod Sent
mod Advanced
mod Started
