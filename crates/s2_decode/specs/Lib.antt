pub mod Fields
pub mod Table
pub mod Properness
pub mod Units
pub mod EncodedWords
