-- `suspect_sets::variables_of` meets its contract. The loop's invariant: the set is that of the variables passed,
-- and below 2 to the power of their number. Assumes nothing.
use Prim.Native.Nat.{ℕ, ◌+◌, ◌*◌, ◌^◌, ◌<◌, ◌≤◌}
use mathlib.Core.Path.{◌≡◌, refl, sym, ◌∙◌}
use mathlib.Core.Bool.{Bool, true, false}
use mathlib.Core.List.{List}
use native.Mathlib.Nat.{two-pow-succ}
use native.Mathlib.Numerals.{add-one}
use native.Mathlib.Omega.{arith}
use borrow.Author.Rules.{rules}
use borrow.Author.Tests.{eq-eqb, ne_eqb}
use lib.Dec.{eqb}
use lib.ListN.{length, get_or, take}
use lib.Pow.{pow_mono}
use lib.Seq.{take_all}
use Rattle.rules.specs.Lists.{digit}
use Rattle.rules.specs.Records.{Class, Netlist, public, class_byte, number, most_variables}
use Rattle.rules.specs.Values.{same}
use Rattle.netlists.specs.declared.Netlist as Values
use Rattle.netlists.specs.Netlists.{flat_of}
use Rattle.netlists.proofs.Netlists.{flat_class_at}
use Rattle.suspect_sets.specs.Sets.{variables_of}
use Rattle.suspect_sets.proofs.Sets.{variables_more, same_byte}
use Rattle.suspect_sets.proofs.variables_of.Goals as goal
use Rattle.suspect_sets.proofs.variables_of.Goals.{then-netlist-v, else-netlist-v}

pub loop-v-init : goal.loop-v-init
unfolding variables_of number
loop-v-init c = (search rules, λ n d e f. refl)

-- whether a variable is of the class, by its byte
class_read : (n : Netlist) (value : Values.Netlist) (d : Class) (class v : ℕ) → value ≡ flat_of n → class ≡ class_byte d → v < length n.variables
    → same d (get_or n.variables v public) ≡ eqb (get_or value.classes v 0) class
unfolding flat_of
class_read n value d class v e f inside = sym (rw (e, f, flat_class_at n v inside) (same_byte d (get_or n.variables v public)))

-- a turn adds the bit of its variable, or nothing
turn : (d : Class) (variables : List Class) (v set next : ℕ) (here : Bool) → v < length variables → set ≡ variables_of d (take v variables)
    → same d (get_or variables v public) ≡ here → next ≡ set + digit here * 2 ^ v → next ≡ variables_of d (take (v + 1) variables)
turn d variables v set next here inside before is more = rw (variables_more d variables v inside, is, ← before) more

pub loop-v-preserved : goal.loop-v-preserved
unfolding flat_of
loop-v-preserved c =
    let v = c.loop-v.v in
    let few : 2 ^ v ≤ 2 ^ most_variables = pow_mono {j = most_variables} (omega arith) in
    let before = c.loop-v.invariant.1 in
    elim c.if-netlist-v.branch [
      | then-netlist-v w ↦
          let more : c.if-netlist-v.set ≡ c.loop-v.set + 2 ^ v = omega (arith, w.set-is) in (
            rw (add-one, two-pow-succ) (omega arith),
            λ n d e f.
                let inside : v < length n.variables = rw e at c.loop-v-test.true in
                turn d n.variables v _ _ true inside (before n d e f)
                (class_read n _ _ _ v e f inside ∙ eq-eqb _ _ w.if-netlist-v.true) (omega arith),
          )
      | else-netlist-v w ↦ (
        rw (add-one, two-pow-succ) (omega (arith, w.set-is)),
        λ n d e f.
            let inside : v < length n.variables = rw e at c.loop-v-test.true in
            turn d n.variables v _ _ false inside (before n d e f)
            (class_read n _ _ _ v e f inside ∙ ne_eqb _ _ w.if-netlist-v.false) (omega (arith, w.set-is)),
      )
    ]

pub returns : goal.returns
unfolding flat_of
returns c =
    λ n d e f.
    let all : length n.variables ≤ c.loop-v.v = rw e at c.loop-v-test.false in
    c.loop-v.invariant.1 n d e f ∙ rw (take_all c.loop-v.v n.variables all)
