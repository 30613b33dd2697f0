pub mod MaskBits
pub mod KeptBits
