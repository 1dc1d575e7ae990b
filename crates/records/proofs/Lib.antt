pub mod KindLaws
pub mod Sets
pub mod Bytes
pub mod ErrorLaws
pub mod Filling
