-- What the core's functions cite: each way through reading and the slices examines the outcome that the rules give,
-- and from that follow the promises of `examine`. Assumes nothing.
use Rattle.std.specs.Prelude.{Result, Ok, Err}
use mathlib.Core.Path.{◌≡◌, refl, sym, ap, subst, ◌∙◌}
use mathlib.Core.Logic.{◌↔◌}
use mathlib.Core.List.{List, ◌++◌, map}
use Prim.Native.Nat.{ℕ}
use lib.ListN.{length, take, drop}
use Rattle.rules.specs.Records.{Netlist}
use Rattle.rules.specs.Families.{families, lowest, half, findings}
use Rattle.rules.specs.Slices.{mark_of, work_bytes, filled, work_after, reply}
use Rattle.rules.specs.Checks.{answered, refused, and_then, read, slices_fit, admitted}
use Rattle.rules.specs.Demands.{GlitchClear, NothingSuspect, OneProbe}
use Rattle.rules.specs.Paper.{number_of, place_of, finding_of}
use Rattle.rules.specs.declared.Half.{Half}
use Rattle.rules.specs.declared.Refusal.{Refusal}
use Rattle.rule_laws.proofs.Halves.{exactly_when}
use Rattle.rule_laws.proofs.Probe.{one_probe}
use Rattle.rule_laws.proofs.Room.{fits}
use Rattle.netlists.specs.declared.Netlist as Value
use Rattle.netlists.specs.Netlists.{flat_of, kept}
use Rattle.rule_laws.proofs.Paper.{query_refused}
use Rattle.netlists.proofs.Netlists.{value_variables, value_count}
use Rattle.marks.specs.declared.Marks.{Marks}
use Rattle.marks.specs.Marks.{marks_of}
use Rattle.marks.proofs.Layers.{halves}
use Rattle.checker.specs.declared.Examined.{Examined}
use Rattle.checker.specs.Work.{replied, kept_netlist, kept_marks, Examines, ReadsMarks, JudgesSlices}

-- a refusal, with nothing kept and nothing written
pub refusal : (r : Refusal) (work : List ℕ) → Examines (refused (number_of r) (place_of r)) (Err r) work work
unfolding and_then kept filled
refusal r work = record { reply = refl; netlist = refl; marks = refl; work = refl }

-- what is read from the marks of both layers is the answer
pub looks : (value : Value.Netlist) (marks : Marks) (settled glitch : Half)
    → finding_of settled ≡ lowest 0 (map mark_of (take value.count marks.settled))
    → finding_of glitch ≡ lowest 0 (map mark_of (take value.count marks.glitch))
    → ReadsMarks value marks (record {
      answer = record { variables = value.variables; nodes = value.count; settled = settled; glitch = glitch };
      netlist = value;
      marks = marks;
    })
unfolding findings
looks value marks settled glitch s g = record { netlist = refl; its_marks = refl; finds = answer }
  where
    answer : (n : Netlist) → value ≡ flat_of n → marks ≡ marks_of n
        → record { variables = value.variables; nodes = value.count; settled = finding_of settled; glitch = finding_of glitch } ≡ findings n
    answer n e m =
        let nodes = value_count n e in
        let variables = value_variables n e in
        let read = halves n in
        let first : finding_of settled ≡ half (λ F. F.settled) n = rw (nodes, m) at s ∙ read.0 in
        let second : finding_of glitch ≡ half (λ F. F.glitch) n = rw (nodes, m) at g ∙ read.1 in
        rw (first, second, variables, nodes)

-- the answer of a netlist whose families stand in the work slice, and its marks
pub answers : (value : Value.Netlist) (n : Netlist) → value ≡ flat_of n → (marks : Marks) → marks ≡ marks_of n → (examined : Examined) (before : List ℕ) {after : List ℕ}
    → after ≡ work_bytes (families n) ++ drop (length (work_bytes (families n))) before → ReadsMarks value marks examined → Examines (answered n) (Ok examined) before after
unfolding and_then kept filled
answers value n e marks m examined before w l =
    record { reply = ap answered (l.finds n e m); netlist = l.netlist ∙ e; marks = l.its_marks ∙ m; work = w }

-- what is told of slices for so many nodes: they are too short for a netlist of these, or hold it
module _ {count entries work : ℕ} {told : Result (Unit {0}) Refusal} (fit : JudgesSlices count entries work told) (n : Netlist) (same : count ≡ length n.nodes) where
  pub too_short : {r : Refusal} → told ≡ Err r → slices_fit entries work n ≡ refused (number_of r) (place_of r)
  too_short {r} is = query_refused (slices_fit entries work n) r (fit.says n same) is

  pub both_hold : told ≡ Ok tt → slices_fit entries work n ≡ answered n
  both_hold is =
      let (few, enough) = fit.room is in
      fits entries work n (record { enough_entries = rw (← same) few; enough_work = rw (← same) enough })

-- so where they are too short, what is examined is the refusal
pub short : {count entries : ℕ} {work : List ℕ} {r : Refusal} → JudgesSlices count entries (length work) (Err r) → (n : Netlist) → count ≡ length n.nodes
    → Examines (slices_fit entries (length work) n) (Err r) work work
short {work = work} {r = r} fit n same = rw (too_short fit n same refl) (refusal r work)

-- and where they hold it, the answer
pub held : (entries : ℕ) (before : List ℕ) {after : List ℕ} (n : Netlist) {examined : Result Examined Refusal} → slices_fit entries (length before) n ≡ answered n
    → Examines (answered n) examined before after → Examines (slices_fit entries (length before) n) examined before after
held entries before n both x = rw both x

module _ (bytes : List ℕ) (entries : ℕ) where
  -- a file that is read, and one that is refused
  pub of_read : (n : Netlist) (examined : Result Examined Refusal) (before after : List ℕ) → read bytes ≡ answered n
      → Examines (slices_fit entries (length before) n) examined before after → Examines (admitted bytes entries (length before)) examined before after
  unfolding admitted and_then
  of_read n examined before after e x = rw e x

  pub of_refused : (r : Refusal) (before : List ℕ) → read bytes ≡ refused (number_of r) (place_of r)
      → Examines (admitted bytes entries (length before)) (Err r) before before
  unfolding admitted and_then
  of_refused r before e = rw e (refusal r before)

  -- the promises of `examine`
  pub record Promises (examined : Result Examined Refusal) (before after : List ℕ) : Type 0 where
    pub reply : replied examined ≡ reply bytes entries (length before)
    pub netlist : kept_netlist examined ≡ flat_of (kept (admitted bytes entries (length before)))
    pub marks : kept_marks examined ≡ marks_of (kept (admitted bytes entries (length before)))
    pub work : after ≡ work_after bytes entries before
    pub clear : GlitchClear (replied examined) ↔ NothingSuspect bytes entries (length before)
    pub probe : GlitchClear (replied examined) → OneProbe bytes

  pub promises : {examined : Result Examined Refusal} {before after : List ℕ} → Examines (admitted bytes entries (length before)) examined before after
      → Promises examined before after
  unfolding reply work_after
  promises {examined = examined} {before = before} e =
      let is : replied examined ≡ reply bytes entries (length before) = e.reply in
      record {
        reply = is;
        netlist = e.netlist;
        marks = e.marks;
        work = e.work;
        clear = subst (λ r. GlitchClear r ↔ NothingSuspect bytes entries (length before)) (sym is) (exactly_when bytes entries (length before));
        probe = subst (λ r. GlitchClear r → OneProbe bytes) (sym is) (one_probe bytes entries (length before));
      }
