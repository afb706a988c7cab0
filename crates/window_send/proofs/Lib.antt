-- What the proofs share besides the laws of specs/.
mod Answers
