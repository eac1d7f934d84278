pub mod Printed
pub mod Sled
