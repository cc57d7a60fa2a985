pub mod Typed
pub mod Fillers
pub mod RoundTrip
