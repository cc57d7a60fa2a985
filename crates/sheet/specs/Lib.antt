pub mod Sheet
pub mod Bytes
pub mod RoundTrip
