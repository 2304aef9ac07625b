-- What follows of a file that was read, where it is answered and where it is refused. Assumes nothing.
use Rattle.std.specs.Prelude.{Ok, Err}
use Prim.Native.Nat.{ℕ}
use mathlib.Core.Path.{◌≡◌, refl}
use mathlib.Core.List.{List}
use Rattle.rules.specs.declared.Refusal.{Refusal}
use Rattle.rules.specs.Records.{Netlist}
use Rattle.rules.specs.Checks.{Outcome, answered, refused, and_then, read}
use Rattle.rules.specs.Paper.{number_of, place_of}
use Rattle.rule_laws.proofs.Reading.{read_well_formed}
use Rattle.netlists.specs.declared.Netlist.{Netlist as Flat}
use Rattle.netlists.specs.Netlists.{flat_of, Formed}
use Rattle.read_bytes.specs.Reading.{Reads}

-- it stands, with this netlist
pub record Stands (read_as : Flat) (end : Outcome Netlist) : Type 0 where
  pub netlist : Netlist
  pub is : end ≡ answered netlist
  pub value : read_as ≡ flat_of netlist

-- what is read as a netlist by value stands
pub read_stands : {value : Flat} (end : Outcome Netlist) → Reads (Ok value) end → Stands value end
unfolding and_then
read_stands (answered n) r = record { netlist = n; is = refl; value = let e = r.comes_to in cc }
read_stands (refused k p) r = let e = r.comes_to in cc

-- and what is refused is refused by the rules
pub read_refused : {refusal : Refusal} (end : Outcome Netlist) → Reads (Err refusal) end → end ≡ refused (number_of refusal) (place_of refusal)
unfolding and_then
read_refused (answered n) r = let e = r.comes_to in cc
read_refused (refused k p) r = let e = r.comes_to in cc

-- the other way round
pub stands_read : {value : Flat} {end : Outcome Netlist} → Stands value end → Reads (Ok value) end
unfolding and_then
stands_read s = record { comes_to = rw (s.is, s.value) }

pub refused_read : {refusal : Refusal} {end : Outcome Netlist} → end ≡ refused (number_of refusal) (place_of refusal) → Reads (Err refusal) end
unfolding and_then
refused_read e = record { comes_to = rw e }

-- the netlist of a file that is read obeys the record rules
pub read_formed : {value : Flat} (bytes : List ℕ) → Stands value (read bytes) → Formed value
read_formed bytes s = record { netlist = s.netlist; is = s.value; obeys = read_well_formed bytes s.netlist s.is }
