pub mod PrivateValues
