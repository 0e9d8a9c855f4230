pub mod MemoryAcceptor
pub mod inside
