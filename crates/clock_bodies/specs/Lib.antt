pub mod Bodies
pub mod CloseBodies
pub mod QuickBodies
pub mod QuickClosings
pub mod inside
