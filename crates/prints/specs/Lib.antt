pub mod Elements
pub mod Print
pub mod Records
pub mod Reprint
pub mod Writing
pub mod Examples
