pub mod TrueBest
