-- From what the steps of a listing did to what is printed.
use Rattle.std.proofs.Common.{◌≡◌, ℕ, ◌*◌, ◌/◌, ◌≤◌, List, ◌++◌, length, drop, take, Some, None, Option, Ok, Err, Result, refl, sym, ap, ◌∙◌, subst, ⊎_elim, arith, length-append}
use Rattle.std.specs.Prelude.{flat_map, IsOk, IsErr, IsErrAnd, OnOk}
use Rattle.std.specs.Io.KnownBytes.{Appends, Keeps}
use Rattle.std.proofs.Math.Seq.{take-append_seam}
use Rattle.markup.specs.declared.fault.Fault.{Fault}
use Rattle.markup.specs.declared.fault.Error.{Error}
use Rattle.markup.specs.declared.fault.Error.TheVariants as error
use Rattle.tree.specs.Tree.{Tree}
use Rattle.pattern.specs.Shape.{Shape, LawfulTwig}
use Rattle.pattern.specs.Reading.{read_pattern}
use Rattle.layout.specs.Layout.{tree_of}
use Rattle.layout.specs.Encoding.{sheet_of}
use Rattle.index.specs.Indexing.{Sheeted, WontFit, Unwritten}
use Rattle.stream.specs.declared.region.Region.{Region}
use Rattle.embedding.specs.Embedding.{node_count}
use Rattle.rows.specs.declared.row.Row.{Row}
use Rattle.rows.specs.Rows.{share_of}
use Rattle.chain.specs.Standing.{StandsFor}
use Rattle.gather.specs.Gather.{Granted, TooFew}
use Rattle.answers.proofs.Listings.{lists_have_the_tree_listing}
use Rattle.report.specs.Lines.{place_line, end_line, refusal_line}
use Rattle.search.specs.Runs.{Lists}
use Rattle.finding.specs.declared.ending.Ending.{Ending}
use Rattle.finding.specs.declared.ending.Ending.TheVariants as ending
use Rattle.finding.specs.Input.{pattern_in, text_in}
use Rattle.finding.specs.Ending.{Ended}
use Rattle.finding.specs.Pages.{ListingWritten}
use Rattle.finding.specs.Finding.{all, Reads, Refuses, Prints}
use Rattle.finding.specs.Writing.{Gathered, LinesWritten, Listed}
use Rattle.finding.proofs.Paging.{appends_more}

-- nothing was written
keeps_same : (old : Option (List ℕ)) → Keeps old old
keeps_same None = tt
keeps_same (Some xs) = refl

-- an ending that is a refusal, or a failure, of which nothing is said
module _ (input : List ℕ) (room rows : ℕ) (old new : Option (List ℕ)) where
  ended_listed : (r : Result (Unit {0}) Ending) (e : Error) → IsErr r → IsErrAnd r (Ended e)
      → ((f : Fault) → e ≡ error.Refused f → Refuses input room rows f × Keeps old new) → Listed input room rows old new r
  ended_listed (Ok u) e is and refused = cc
  ended_listed (Err x) (error.Refused f) is and refused = subst (λ y. Listed input room rows old new (Err y)) (sym and) (refused f refl)
  ended_listed (Err (ending.Refused f)) error.Memory is and refused = absurd and
  ended_listed (Err (ending.Failed x)) error.Memory is and refused = tt

-- the text was not indexed
pub not_indexed : (input sheet : List ℕ) (rows : ℕ) (old : Option (List ℕ)) (s : Shape) (r : Result (Unit {0}) Ending) (e : Error) → length input ≤ 65536
    → read_pattern (pattern_in input) ≡ Ok s → Unwritten (text_in input) sheet e → IsErr r → IsErrAnd r (Ended e) → Listed input (length sheet) rows old old r
not_indexed input sheet rows old s r e short pattern u is and =
    ended_listed input (length sheet) rows old old r e is and
    (λ f q. (
      ⊎_elim (λ b. Refuses.text s short pattern b)
          (λ (w : WontFit (text_in input) sheet f). Refuses.long_sheet s w.tree (record { short = short; pattern = pattern; text = w.grants }) w.longer w.refused)
          (subst (Unwritten (text_in input) sheet) q u),
      keeps_same old,
    ))

-- A set over the view of the text's sheet stands for the elements of the text's tree.
pub record Fresh (input : List ℕ) (room : ℕ) (s : Shape) (book : List Region) (lists : Lists) : Type 0 where
  pub tree : Tree
  pub reads : Reads input s tree
  pub fits : length (sheet_of tree) ≤ room
  pub stands : StandsFor tree s.nodes all book lists

pub fresh : (input old new : List ℕ) (s : Shape) (n : ℕ) (bytes : List ℕ) (book : List Region) (lists : Lists) → length input ≤ 65536
    → read_pattern (pattern_in input) ≡ Ok s → Sheeted (text_in input) old new n → length new ≡ length old → bytes ≡ take n new
    → StandsFor (tree_of bytes) s.nodes all book lists → Fresh input (length old) s book lists
fresh input old new s n bytes book lists short pattern x long opened stands =
    let sheet : bytes ≡ sheet_of x.tree
    = opened ∙ ap (take n) x.bytes ∙ ap (λ m. take m (sheet_of x.tree ++ drop n old)) x.size ∙ take-append_seam (sheet_of x.tree) (drop n old) in
    record {
      tree = x.tree;
      reads = record { short = short; pattern = pattern; text = x.grants };
      fits = omega (arith, long, ap length x.bytes, length-append (sheet_of x.tree) (drop n old));
      stands = subst (λ t. StandsFor t s.nodes all book lists) (ap tree_of sheet ∙ x.shows) stands;
    }

-- a gather over such a set, into a table of rows
module _ (input : List ℕ) (room rows : ℕ) (s : Shape) (book : List Region) (lists : Lists) (x : Fresh input room s book lists) (lawful : LawfulTwig s.nodes)
    (table : List Row) (many : length table ≡ rows) where
  share : share_of (node_count s) table ≡ rows / node_count s
  share = ap (λ m. m / node_count s) many

  few : (f : Fault) → TooFew s lists table f → Refuses input room rows f
  few f w =
      Refuses.few_rows s x.tree (node_count s * w.most) x.reads x.fits
      (record {
        kept = w.kept;
        useful = record { book = book; lists = lists; named = x.stands; useful = w.useful };
        most = w.most;
        largest = w.largest;
        more = omega (arith, w.more, share);
        nodes_times = refl;
      })
      w.fault

  -- the gather was refused, or the lines could not be written
  written_not : (nodes : ℕ) (old new : Option (List ℕ)) (r : Result (Unit {0}) Ending) (e : Ending) → Gathered s lists table nodes old new (Err e)
      → IsErr r → IsErrAnd r (λ x. x ≡ e) → Listed input room rows old new r
  written_not nodes old new (Ok u) e g is and = cc
  written_not nodes old new (Err x) (ending.Refused f) g is and = subst (λ y. Listed input room rows old new (Err y)) (sym and) (few f g.0, g.1)
  written_not nodes old new (Err x) (ending.Failed y) g is and = subst (λ y. Listed input room rows old new (Err y)) (sym and) tt

  pub not_written : (s₀ : Shape) → s₀ ≡ s → (nodes : ℕ) (old new : Option (List ℕ)) (r : Result (Unit {0}) Ending) (e : Ending) → Gathered s₀ lists table nodes old new (Err e)
      → IsErr r → IsErrAnd r (λ x. x ≡ e) → Listed input room rows old new r
  not_written s₀ q nodes old new r e g = written_not nodes old new r e (subst (λ y. Gathered y lists table nodes old new (Err e)) q g)

  -- all lines were written
  written_all : (nodes : ℕ) (old mid new : Option (List ℕ)) → nodes ≡ node_count s → Granted s lists table → ListingWritten s lists nodes old mid
      → Appends mid new end_line → LinesWritten input room rows old new
  written_all nodes old mid new n g w end = record {
    lines = flat_map (place_line (node_count s)) w.places ++ end_line;
    prints =
        Prints.listed s x.tree w.places x.reads x.fits
        (record {
          kept = g.kept;
          useful = record { book = book; lists = lists; named = x.stands; useful = g.useful };
          fits = λ i l. omega (arith, g.filled.fits i l, share);
        })
        ((lists_have_the_tree_listing x.tree s all book lists x.reads.text.lawful lawful x.stands w.places).0 w.listing) refl;
    written = subst (λ k. Appends old new (flat_map (place_line k) w.places ++ end_line)) n (appends_more old mid new _ end_line w.written end);
  }

  pub all_written : (s₀ : Shape) → s₀ ≡ s → (nodes : ℕ) (old mid new : Option (List ℕ)) → nodes ≡ node_count s → Gathered s₀ lists table nodes old mid (Ok tt)
      → Appends mid new end_line → LinesWritten input room rows old new
  all_written s₀ q nodes old mid new n g =
      let h = subst (λ y. Gathered y lists table nodes old mid (Ok tt)) q g in
      written_all nodes old mid new n h.0 h.1

-- what was appended where that is granted
pub if_ok : {T E : Type 0} (r : Result T E) (P : Type 0) → OnOk r P → IsOk r → P
if_ok (Ok x) P h ok = h
if_ok (Err e) P h ok = cc

-- the line of a refusal was written
pub refusal_written : (input : List ℕ) (room rows : ℕ) (f : Fault) (old mid new : Option (List ℕ)) → Refuses input room rows f × Keeps old mid
    → Appends mid new (refusal_line f) → LinesWritten input room rows old new
refusal_written input room rows f old mid new h w = record { lines = refusal_line f; prints = Prints.refused f h.0 refl; written = behind old mid new h.1 w }
  where
    behind : (old mid new : Option (List ℕ)) → Keeps old mid → Appends mid new (refusal_line f) → Appends old new (refusal_line f)
    behind None mid new k a = tt
    behind (Some o) None new k a = absurd k
    behind (Some o) (Some m) None k a = absurd a
    behind (Some o) (Some m) (Some n) k a = a ∙ ap (λ l. l ++ refusal_line f) k
