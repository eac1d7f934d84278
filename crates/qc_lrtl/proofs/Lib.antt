pub mod NamedTexts
pub mod Writing
