-- The terms of a pool have what laws keep by the widths of a term alone, typed in no context.
use Rattle.qc_pool.specs.Widths.{HasWidths}
use Rattle.qc_equations.specs.Law.Fill.{GoesByWidths}

pub by_widths : GoesByWidths HasWidths
by_widths = record {
  number = λ value width fits. fits;
  number_fits = λ value width fits. fits;
  unary = λ op arg fits. fits;
  unary_parts = λ op arg fits. fits;
  binary = λ op left right fits. fits;
  binary_parts = λ op left right fits. fits;
}
