-- Laws of lists and powers, which all crates may cite.
-- Lists: of lists whose elements all have a property (`each_append`, `each_of_append`), of the elements of two lists one
-- after the other (`slice_get-append_left`, `slice_get-append_right`), and of one list cut into two (`same_parts`).
-- Powers: a number is less than two to its power (`below_power`), and a power is twice the one before (`twice_half`).
pub mod Lists
pub mod Powers
