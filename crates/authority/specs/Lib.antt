pub mod Spans
pub mod Masks
pub mod BoundsMeet
pub mod PermissionsMeet
pub mod Capabilities
pub mod Images
pub mod Meets
