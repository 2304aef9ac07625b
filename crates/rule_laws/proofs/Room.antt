-- A netlist that is checked is the one that is read, and the lent slices have its entries and its work bytes;
-- and where they have them nothing more is refused. By checks 10 and 11. Assumes nothing.
use Prim.Native.Nat.{ℕ, ◌*◌, ◌≤◌}
use mathlib.Core.Path.{◌≡◌, refl, subst}
use mathlib.Core.List.{List}
use native.Mathlib.Omega.{arith}
use borrow.Author.Tests.{ltb-false, le-ltb}
use lib.ListN.{length}
use Rattle.rules.specs.Records.{Netlist, WellFormed, most_nodes, written_out}
use Rattle.rules.specs.Families.{findings}
use Rattle.rules.specs.Checks.{Outcome, answered, refused, and_then, judged, read, slices_fit, admitted}
use Rattle.rules.specs.Slices.{reply}
use Rattle.rule_laws.proofs.Records.{passes, answer}
use Rattle.rule_laws.proofs.Reading.{read_well_formed}
use Rattle.rule_laws.proofs.Written.{write_read}

-- the slices have room for the nodes of n
pub record Room (entries work : ℕ) (n : Netlist) : Type 0 where
  pub enough_entries : length n.nodes ≤ entries
  pub enough_work : 256 * length n.nodes ≤ work

pub has_room : (entries work : ℕ) (m n : Netlist) → slices_fit entries work m ≡ answered n → (m ≡ n) × Room entries work m
unfolding slices_fit
has_room entries work m n e =
    (answer _ m n e, record { enough_entries = ltb-false _ _ (passes _ m n e 0); enough_work = ltb-false _ _ (passes _ m n e 1) })

pub fits : (entries work : ℕ) (n : Netlist) → Room entries work n → slices_fit entries work n ≡ answered n
unfolding slices_fit judged
fits entries work n room = rw (le-ltb _ _ room.enough_entries, le-ltb _ _ room.enough_work)

-- what is checked is read, and has room
pub record Admitted (outcome : Outcome Netlist) (entries work : ℕ) (n : Netlist) : Type 0 where
  pub is_read : outcome ≡ answered n
  pub room : Room entries work n

pub admitted_says : (bytes : List ℕ) (entries work : ℕ) (n : Netlist) → admitted bytes entries work ≡ answered n
    → Admitted (read bytes) entries work n
unfolding admitted and_then
admitted_says bytes entries work n = go (read bytes)
  where
    go : (o : Outcome Netlist) → and_then o (slices_fit entries work) ≡ answered n → Admitted o entries work n
    go (answered m) e =
        let (same, room) = has_room entries work m n e in
        subst (Admitted (answered m) entries work) same (record { is_read = refl; room = room })
    go (refused number place) e = let z : ◌≡◌ {A = ℕ} 0 1 = cc in absurd (omega arith)

-- slices with room for every netlist refuse none
pub admitted_all : (bytes : List ℕ) (entries work : ℕ) → most_nodes ≤ entries → 256 * most_nodes ≤ work → admitted bytes entries work ≡ read bytes
unfolding admitted and_then
admitted_all bytes entries work he hw = go (read bytes) refl
  where
    go : (o : Outcome Netlist) → read bytes ≡ o → and_then o (slices_fit entries work) ≡ o
    go (answered n) e =
        let few = (read_well_formed bytes n e).few_nodes in
        fits entries work n (record { enough_entries = omega arith; enough_work = omega arith })
    go (refused number place) e = refl

-- a netlist that obeys the record rules and fits the lent slices gets a full answer
pub full_answer : (n : Netlist) (entries work : ℕ) → WellFormed n → Room entries work n → reply (written_out n) entries work ≡ answered (findings n)
unfolding reply admitted and_then
full_answer n entries work formed room = rw (write_read n formed, fits entries work n room)
