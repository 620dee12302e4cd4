pub mod Known
mod Parts
