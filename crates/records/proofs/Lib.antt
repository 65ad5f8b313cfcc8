pub mod Records
pub mod Buffer
pub mod Words
