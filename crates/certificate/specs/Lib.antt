pub mod Certificate
pub mod Promises
