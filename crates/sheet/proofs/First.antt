-- The tree of `<a/>` is lawful.
use Rattle.std.proofs.Common.{◌≡◌, ℕ, ◌<◌, refl, arith, lit<, lit≤}
use Rattle.tree.specs.Tree.{LawfulTree}
use Rattle.layout.specs.Lawful.{LawfulSheet}
use Rattle.layout.specs.Encoding.{sheet_of}
use Rattle.layout.proofs.Encoded.{sheet_reads_back}
use Rattle.sheet.specs.Viewing.{first_tree}

each : (i : ℕ) → i < 1 → i ≡ 0
each i h = omega arith

first_tree_lem : LawfulTree first_tree
first_tree_lem = record {
  regions = record {
    some = lit≤ tt;
    few = lit≤ tt;
    each = λ i h. let z = each i h in rw z (lit< tt, lit≤ tt, lit≤ tt);
    rising = λ i j h k. absurd (omega arith);
    apart = λ i j h k ne. absurd (ne (omega arith));
    counted = λ i h. let z = each i h in rw z refl;
    first = λ i h k. absurd (omega arith);
  };
  few = lit≤ tt;
  lawful = λ k h. let z = each k h in rw z (record { some = lit≤ tt; short = lit≤ tt; first = refl; each = (refl, tt) });
  different = λ j k h l. absurd (omega arith);
  used = (lit≤ tt, refl);
}

pub first_lawful : LawfulSheet (sheet_of first_tree)
first_lawful = (sheet_reads_back first_tree first_tree_lem).0
