pub mod AlgebraLemmas
pub mod ArithmeticLemmas
pub mod DivisionLemmas
pub mod OperatorLemmas
pub mod SliceLemmas
pub mod WordLemmas
