-- What is printed for a text.
use Rattle.std.proofs.Common.{◌≡◌, ℕ, ◌≤◌, List, map, length, take, drop, ◌∙◌, inl, inr, arith}
use Rattle.std.proofs.Math.ListN.{length-map}
use Rattle.std.proofs.Math.Seq.{take-append_seam}
use Rattle.markup.specs.declared.fault.Error.{Error}
use Rattle.markup.specs.declared.fault.Error.TheVariants.{Refused, Memory}
use Rattle.tree.specs.Tree.{Tree, region_of, LawfulTree}
use Rattle.book.specs.Answer.{Denies}
use Rattle.layout.specs.Encoding.{sheet_of}
use Rattle.layout.proofs.Tables.{length-encoded, length_joint_bounds}
use Rattle.index.specs.Indexing.{Sheeted, Unwritten}
use Rattle.report.specs.Outline.{Tells, Outlined, Outlined.refused}

-- the line of the error of a text that is not granted
pub denied_outline : (text lines : List ℕ) (e : Error) → Denies text e → Tells e lines → Outlined text lines
denied_outline text lines (Refused f) d h = refused f d h
denied_outline text lines Memory d h = absurd h

-- The sheet of a text's tree.

-- no sheet of a tree is longer
pub longest : (t : Tree) → LawfulTree t → length (sheet_of t) ≤ 1093648
longest t l =
    let few : length (map region_of t.elements) ≤ 65535 = l.regions.few in
    let count = length-map t.elements region_of in
    let names = l.few in
    let joined = length_joint_bounds t.names (λ j h. let n = l.lawful j h in (n.some, n.short)) in
    omega (arith, length-encoded t.elements t.names, joined.1)

pub sheet_cut : (text old new : List ℕ) (n : ℕ) (s : Sheeted text old new n) → take n new ≡ sheet_of s.tree
sheet_cut text old new n s = (λ i. take (s.size i) (s.bytes i)) ∙ take-append_seam (sheet_of s.tree) (drop n old)

-- a buffer that is long enough is never too short
pub never_short : (text old : List ℕ) (e : Error) → 1093648 ≤ length old → Unwritten text old e → Denies text e
never_short text old (Refused f) room (inl r) = r
never_short text old (Refused f) room (inr w) = let m = longest w.tree w.grants.lawful in absurd (omega (arith, w.longer))
never_short text old Memory room u = tt
