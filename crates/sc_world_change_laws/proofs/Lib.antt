pub mod Still
pub mod Through
