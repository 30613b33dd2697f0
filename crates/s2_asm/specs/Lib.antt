pub mod TextMeaning
pub mod Cutting
pub mod LineFaults
pub mod Building
pub mod Listings
pub mod ImageListings
pub mod TextLaws
