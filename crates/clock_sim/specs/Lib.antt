pub mod Rehearsal
pub mod inside
