pub mod Texts
pub mod Families
pub mod Rewriting
pub mod Eights
