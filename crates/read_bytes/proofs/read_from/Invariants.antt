-- `read_bytes::read_from` meets its contract. The loop's invariant: after as many records as were taken the rules are
-- still reading, with this netlist at this offset (`Reached`). Assumes nothing.
use Rattle.std.proofs.Common.{◌≡◌}
use Rattle.netlists.specs.Netlists.{Formed}
use Rattle.read_bytes.proofs.Reading.{Reached}
use Rattle.read_bytes.proofs.read_from.Given as goal

abbrev pub invariant-loop-records : goal.invariant-loop-records
invariant-loop-records l = record {
  bytes : l.reader.bytes.now ≡ l.bytes;
  reached : (f : Formed l.fn.start) → Reached f.netlist l.bytes l.records l.netlist l.reader.here;
}
