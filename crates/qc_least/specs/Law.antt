-- Laws of least numbers and of counts, for searches: a sum, the lesser of two, one of many, and properties that are the same
-- (`least_plus`, `least_either`, `least_any`, `least_same`).
pub mod Numbers
