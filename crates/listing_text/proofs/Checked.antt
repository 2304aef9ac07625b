-- What `checker::examine` leaves of netlist bytes where the slices have room for every netlist: their refusal,
-- or the netlist that was read, its answer and its families. Assumes nothing.
use Rattle.std.specs.Prelude.{Ok, Err}
use Prim.Native.Nat.{ℕ}
use mathlib.Core.Path.{◌≡◌, refl}
use mathlib.Core.List.{List, ◌++◌}
use native.Mathlib.Omega.{arith}
use lib.ListN.{length, drop}
use Rattle.rules.specs.declared.Refusal.{Refusal}
use Rattle.rules.specs.Records.{Netlist, WellFormed, most_nodes}
use Rattle.rules.specs.Families.{families, findings}
use Rattle.rules.specs.Checks.{Outcome, answered, refused, and_then, read, admitted, most_work}
use Rattle.rules.specs.Slices.{work_bytes, filled, work_after, reply}
use Rattle.rules.specs.Paper.{number_of, place_of, findings_of}
use Rattle.rule_laws.proofs.Reading.{read_well_formed}
use Rattle.rule_laws.proofs.Room.{admitted_all}
use Rattle.netlists.specs.Netlists.{flat_of, kept}
use Rattle.checker.specs.declared.Examined.{Examined}
use Rattle.checker.specs.Work.{replied}

-- so many work bytes: nothing that is read is refused
module _ (bytes : List ℕ) (work : ℕ) (enough : work ≡ most_work) where
  all_admitted : admitted bytes most_nodes work ≡ read bytes
  all_admitted = admitted_all bytes most_nodes work (omega arith) (omega arith)

  pub refused_read : (r : Refusal) → replied (Err r) ≡ reply bytes most_nodes work
      → read bytes ≡ refused (number_of r) (place_of r)
  unfolding reply and_then
  refused_read r e = go (read bytes) (rw all_admitted at e)
    where
      go : (o : Outcome Netlist) → refused (number_of r) (place_of r) ≡ and_then o (λ n. answered (findings n)) → o ≡ refused (number_of r) (place_of r)
      go (answered n) e = absurd cc
      go (refused k p) e = cc

-- a netlist that was checked, with its families in the work bytes
pub record Checked (bytes : List ℕ) (examined : Examined) (before after : List ℕ) : Type 0 where
  pub netlist : Netlist
  pub is_read : read bytes ≡ answered netlist
  pub is_value : examined.netlist ≡ flat_of netlist
  pub found : findings_of examined.answer ≡ findings netlist
  pub is_work : after ≡ work_bytes (families netlist) ++ drop (length (work_bytes (families netlist))) before

pub checked : (bytes before : List ℕ) → length before ≡ most_work → (examined : Examined) {after : List ℕ}
    → replied (Ok examined) ≡ reply bytes most_nodes (length before)
    → examined.netlist ≡ flat_of (kept (admitted bytes most_nodes (length before)))
    → after ≡ work_after bytes most_nodes before → Checked bytes examined before after
unfolding reply work_after and_then kept filled
checked bytes before enough examined {after} r t w =
    let admits = all_admitted bytes (length before) enough in
    go (read bytes) refl (rw admits at r) (rw admits at t) (rw admits at w)
  where
    go : (o : Outcome Netlist) → read bytes ≡ o
        → answered (findings_of examined.answer) ≡ and_then o (λ n. answered (findings n))
        → examined.netlist ≡ flat_of (kept o)
        → after ≡ filled (λ n. work_bytes (families n)) o before → Checked bytes examined before after
    go (answered n) e a v f =
        let same : findings_of examined.answer ≡ findings n = cc in
        record { netlist = n; is_read = e; is_value = v; found = same; is_work = f }
    go (refused k p) e a v f = absurd cc

module _ {bytes : List ℕ} {examined : Examined} {before after : List ℕ} (c : Checked bytes examined before after) where
  -- it obeys the record rules
  pub obeys : WellFormed c.netlist
  obeys = read_well_formed bytes c.netlist c.is_read
