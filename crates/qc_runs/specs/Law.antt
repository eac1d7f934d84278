-- Laws of runs, for crates above: Runs has how steps and turns add up, `potential` and what stands before each turn
-- (`before_is`, `one_before`, `no_later`, `later`, `reached_within`); Simulated has the bounds of a simulation (`source_below`,
-- `code_below`); Followed has that what follows shows the same and is nice (`same_of`, `nice_of`), and paths; Lines has that
-- machines of lines are automata (`is_automaton`); Grouped has that code in groups follows what it is grouped by
-- (`grouped_follows`); Placed has that the run at addresses follows the run by lines (`placed_follows`), to which lines words
-- lead (`leads_back`), and addresses of grouped lines (`pulled_back`).
pub mod Followed
pub mod Grouped
pub mod Lines
pub mod Placed
pub mod Runs
pub mod Simulated
