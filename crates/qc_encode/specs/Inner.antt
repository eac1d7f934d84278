-- Words of the contracts of private functions.
pub mod InstructionOf
pub mod PlacedBits
