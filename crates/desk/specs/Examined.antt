-- What commands are given: what `checker::examine` left. Cited by the contracts of this crate and of the program.
-- Assumes nothing.
use Rattle.std.specs.Prelude.{◌≡◌, ℕ, List, length, Ok}
use Rattle.rules.specs.Records.{most_nodes}
use Rattle.rules.specs.Slices.{work_after, reply}
use Rattle.rules.specs.Checks.{admitted, most_work}
use Rattle.netlists.specs.Netlists.{flat_of, kept}
use Rattle.checker.specs.declared.Examined.{Examined}
use Rattle.checker.specs.Work.{replied}

-- what it leaves of netlist bytes, where the number of entries has room for every netlist,
-- and the work bytes were `before`
pub record Leaves (bytes before : List ℕ) (examined : Examined) (work : List ℕ) : Type 0 where
  pub reply : replied (Ok examined) ≡ reply bytes most_nodes (length before)
  pub netlist : examined.netlist ≡ flat_of (kept (admitted bytes most_nodes (length before)))
  pub held : work ≡ work_after bytes most_nodes before

-- what it leaves of some netlist bytes, where the work bytes have room for every netlist too
pub record Seen (examined : Examined) (work : List ℕ) : Type 0 where
  pub bytes : List ℕ
  pub before : List ℕ
  pub size : length before ≡ most_work
  pub leaves : Leaves bytes before examined work
