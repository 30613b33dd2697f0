pub mod DecimalText
pub mod HexText
pub mod HeldLine
pub mod InputLines
pub mod LineGrammar
pub mod LineTables
pub mod LineReading
