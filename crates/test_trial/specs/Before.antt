-- What stands in the slices before a check, and from which number on it still stands there. Cited by the contracts of
-- this crate. Assumes nothing.
use Rattle.std.specs.Prelude.{ℕ, zero, suc, ◌+◌, ◌%◌, Bool, cond, ◌&&◌, eqb}
use Rattle.rules.specs.declared.NodeRecord.{NodeRecord}

-- the record in each entry, which no node has
abbrev pub entry_before : NodeRecord
entry_before = record { node = record { kind = 9; first = 8; second = 7; set = 6 }; settled = 5; glitch = 4 }

-- the byte at k, which is not 0
abbrev pub byte_before : ℕ → ℕ
byte_before k = 1 + k % 251

-- whether a record is the one before
unfoldable pub is_before : NodeRecord → Bool
is_before r =
    eqb r.node.kind entry_before.node.kind && (eqb r.node.first entry_before.node.first
    && (eqb r.node.second entry_before.node.second && (eqb r.node.set entry_before.node.set
    && (eqb r.settled entry_before.settled && eqb r.glitch entry_before.glitch))))

-- the lowest number from which on, up to a bound, the test holds
unfoldable pub kept_from : (ℕ → Bool) → (bound : ℕ) → ℕ
kept_from same zero = 0
kept_from same (suc k) = cond (same k) (kept_from same k) (suc k)
