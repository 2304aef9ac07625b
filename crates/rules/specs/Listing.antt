-- Document 01, "The listing program": its text, byte for byte, from the netlist bytes. Assumes nothing.
use Rattle.std.specs.Prelude.{ℕ, zero, suc, ◌+◌, ◌*◌, ◌/◌, ◌%◌, true, false, cond, List, [], ◌∷◌, ◌++◌, leb, ltb, length, drop}
use Prim.Native.Char.{code}
use Prim.Native.String.{String, [] as no_text, ◌∷◌ as ◌followed-by◌}
use Rattle.rules.specs.Records.{Kind, NOT, XOR, AND, OR, register, Cell, input, gate, Netlist, most_nodes}
use Rattle.rules.specs.Families.{Families, families, Finding, clear, suspect_at, findings}
use Rattle.rules.specs.Checks.{Outcome, answered, refused, read}

-- the bytes of a word
unfoldable pub word : String → List ℕ
word no_text = []
word (◌followed-by◌ c s) = code c ∷ word s

-- a number in base ten: the digit of its last place behind those of the rest, of which there are at most n
unfoldable pub digits : (n number : ℕ) → List ℕ
digits zero x = (48 + x % 10) ∷ []
digits (suc n) x = elim (ltb x 10) [ true ↦ (48 + x) ∷ [] | false ↦ digits n (x / 10) ++ ((48 + x % 10) ∷ []) ]

unfoldable pub decimal : ℕ → List ℕ
decimal x = digits x x

-- a line: its fields parted by one blank, and a line feed
unfoldable pub line : List (List ℕ) → List ℕ
line [] = 10 ∷ []
line (field ∷ []) = field ++ (10 ∷ [])
line (field ∷ other ∷ fields) = field ++ (32 ∷ line (other ∷ fields))

-- the kind's name
unfoldable pub name_of : Kind → List ℕ
name_of NOT = word "not"
name_of XOR = word "xor"
name_of AND = word "and"
name_of OR = word "or"
name_of register = word "reg"

unfoldable pub kind_name : Cell → List ℕ
kind_name (input s) = word "in"
kind_name (gate kind ops) = name_of kind

-- a line a node, from number i on: number, kind name, number of sets in the settled family, number in the glitch family
unfoldable pub node_lines : ℕ → List Cell → List Families → List ℕ
node_lines i [] Fs = []
node_lines i (c ∷ cells) [] = []
node_lines i (c ∷ cells) (F ∷ Fs) =
    line (decimal i ∷ kind_name c ∷ decimal (length F.settled) ∷ decimal (length F.glitch) ∷ [])
    ++ node_lines (suc i) cells Fs

-- a half: `clear`, or node and set number
unfoldable pub half_line : List ℕ → Finding → List ℕ
half_line name clear = line (name ∷ word "clear" ∷ [])
half_line name (suspect_at i A) = line (name ∷ decimal i ∷ decimal A ∷ [])

unfoldable pub netlist_text : Netlist → List ℕ
netlist_text n =
    line (word "vars" ∷ decimal (length n.variables) ∷ word "nodes" ∷ decimal (length n.nodes) ∷ [])
    ++ node_lines 0 n.nodes (families n)
    ++ half_line (word "settled") (findings n).settled
    ++ half_line (word "glitch") (findings n).glitch

unfoldable pub text_of : Outcome Netlist → List ℕ
text_of (refused k p) = line (word "refused" ∷ decimal k ∷ decimal p ∷ [])
text_of (answered n) = netlist_text n

-- a netlist's text has at most 18 bytes a line, and three lines beside those of the nodes; a refusal's
-- one line is shorter than all these
abbrev pub most_line : ℕ
most_line = 18

abbrev pub most_text : ℕ
most_text = most_line * (most_nodes + 3)

-- the program reads at most 1,024 bytes
abbrev pub most_input : ℕ
most_input = 1024

-- the listing of the netlist bytes
unfoldable pub listing : List ℕ → List ℕ
listing bytes = text_of (read bytes)

-- what a slice that the text is written to holds at exit, which held `before`: the text at its front, and beyond that
-- what stood there; a slice that is too short for the text keeps its contents
unfoldable pub shown : (text before : List ℕ) → List ℕ
shown text before = cond (leb (length text) (length before)) (text ++ drop (length text) before) before
