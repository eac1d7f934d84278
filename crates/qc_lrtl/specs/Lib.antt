pub mod LambdaRtl
pub mod Named
pub mod Printed
