-- What is proved of the rules, for every netlist. Demand 3 is `one_probe` of `Probe` and `exactly_when` of `Halves`,
-- and told by the listing's last line it is `clear_line_probe` of `ClearLine`. The table P1 to P14 is in `rules`.

-- tests, loops, lists and tables
pub mod Tests
pub mod Turns
pub mod Lists
pub mod Members
pub mod Operands
pub mod Tables
pub mod Entries
-- reading a file; what replies say
pub mod Records
pub mod Reading
pub mod Written
pub mod Room
pub mod Sets
pub mod Packing
pub mod Decimal
pub mod Listing
pub mod Paper
-- families, feeding points and the two halves of the answer, also where nodes have other numbers; the lent slices at
-- exit, and the marks in them
pub mod Once
pub mod Feeding
pub mod Bounds
pub mod ReportOrder
pub mod Halves
pub mod Renumbering
pub mod Exit
pub mod Marks
-- demand 3, and counts on points
pub mod Points
pub mod Settings
pub mod Weights
pub mod Characters
pub mod Spans
pub mod Probe
pub mod ClearLine
