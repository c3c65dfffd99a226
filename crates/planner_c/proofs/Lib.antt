-- What the proofs of several functions use.
mod Prelude
mod Rule
mod Certified
mod Slices
mod Parts
