-- The pages of a search, written one after the other.
use Rattle.std.proofs.Common.{◌≡◌, ◌≢◌, ℕ, ◌<◌, ◌≤◌, List, [], ◌∷◌, ◌++◌, length, take, Some, None, Option, Ok, Err, sym, ap, ◌∙◌, subst, arith, ⊎_elim, append-nil, append_assoc}
use Rattle.std.specs.Prelude.{flat_map}
use Rattle.std.specs.Io.KnownBytes.{Appends}
use Rattle.std.proofs.Math.Nat.{div-le_self}
use Rattle.std.proofs.lemmas.Bool.{cases_lt}
use Rattle.std.proofs.lemmas.Grind.{flat_map-append}
use Rattle.std.proofs.lemmas.List.{take_all}
use Rattle.markup.specs.declared.fault.Fault.{Fault}
use Rattle.pattern.specs.Shape.{Shape}
use Rattle.pattern.specs.Twig.{shape_of}
use Rattle.embedding.specs.Embedding.{node_count}
use Rattle.rows.specs.declared.row.Row.{Row}
use Rattle.listing.specs.declared.choice.Choice.{Choice}
use Rattle.listing.specs.declared.place.Place.{Place}
use Rattle.listing.proofs.Once.{at_most_one_listing}
use Rattle.report.specs.Lines.{place_line, page_lines}
use Rattle.search.specs.declared.state.State.{State}
use Rattle.search.specs.declared.state.State.TheVariants.{Ungathered, Gathered}
use Rattle.search.specs.declared.search.Search.{Search}
use Rattle.search.specs.State.{PageDoes}
use Rattle.search.specs.Runs.{Lists, Log, met, paged, paging, PageAnswer, InOrder}
use Rattle.search.specs.Kept.{Kept, StateIs}
use Rattle.finding.specs.Pages.{Ready, ListingWritten}
use Rattle.finding.proofs.Ranking.{after, after_falls}

-- the lines of what was paged were written
pub record Sofar (lists : Lists) (search : Search) (nodes : ℕ) (old new : Option (List ℕ)) : Type 0 where
  pub log : Log
  pub kept : Kept search log
  pub met : met log ≡ Some lists
  pub written : Appends old new (flat_map (place_line nodes) (paged log))

-- the embedding that was paged latest
abbrev pub latest : State → Option Choice
latest Ungathered = None
latest (Gathered o) = o

-- how far the pages can go on
abbrev pub left : Search → ℕ
left search = after (length search.rows.now) (node_count (shape_of search.twig.now)) (latest search.state)

appends_none : (old : Option (List ℕ)) → Appends old old []
appends_none None = tt
appends_none (Some xs) = sym (append-nil xs)

pub appends_more : (old mid new : Option (List ℕ)) (xs ys : List ℕ) → Appends old mid xs → Appends mid new ys → Appends old new (xs ++ ys)
appends_more None mid new xs ys a b = tt
appends_more (Some o) None new xs ys a b = absurd a
appends_more (Some o) (Some m) None xs ys a b = absurd b
appends_more (Some o) (Some m) (Some n) xs ys a b = b ∙ ap (λ l. l ++ ys) a ∙ append_assoc o xs ys

pub sofar_start : (lists : Lists) (search : Search) (nodes : ℕ) (old : Option (List ℕ)) → Ready lists search → Sofar lists search nodes old old
sofar_start lists search nodes old r = record { log = r.log; kept = r.kept; met = r.met; written = subst (λ ps. Appends old old (flat_map (place_line nodes) ps)) (sym r.none) (appends_none old) }

module _ (lists : Lists) (nodes : ℕ) (old mid new : Option (List ℕ)) (search search′ : Search) (table table′ : List Place) (v : Sofar lists search nodes old mid) where
  -- a page was granted, and its lines are written
  pub sofar_more : (count : ℕ) (rows : List Row) → ((log : Log) → Kept search log → Kept search′ (paging table (Ok count) table′ rows ∷ log))
      → Appends mid new (page_lines nodes count table′) → Sofar lists search′ nodes old new
  sofar_more count rows law w = record {
    log = paging table (Ok count) table′ rows ∷ v.log;
    kept = law v.log v.kept;
    met = v.met;
    written = subst (Appends old new) (sym (flat_map-append (place_line nodes) (paged v.log) (take count table′))) (appends_more old mid new _ _ v.written w);
  }

  -- and fewer are left
  pub left_falls : (count : ℕ) → PageDoes search.state (shape_of search.twig.now) search.rows.now table table′ search′.state (Ok count)
      → search′.twig ≡ search.twig → search′.rows.now ≡ search.rows.now → left search′ < left search
  left_falls count does twig rows =
      let n : node_count (shape_of search′.twig.now) ≡ node_count (shape_of search.twig.now) = ap (λ t. node_count (shape_of t.now)) twig in
      let m : length search′.rows.now ≡ length search.rows.now = ap length rows in
      let f = falls search.state search′.state (subst (λ o. StateIs (shape_of search.twig.now) o (paged v.log) search.rows.now search.state) v.met v.kept.state) does in
      rw (n, m) f
    where
      s : Shape
      s = shape_of search.twig.now

      falls : (old new : State) → StateIs s (Some lists) (paged v.log) search.rows.now old → PageDoes old s search.rows.now table table′ new (Ok count)
          → after (length search.rows.now) (node_count s) (latest new) < after (length search.rows.now) (node_count s) (latest old)
      falls Ungathered new st does = absurd st
      falls (Gathered o) new st does =
          let page = does.2.1 st.kept st.holds st.ps st.listing (length (paged v.log)) st.at in
          let fits : (i : ℕ) → i < node_count s → length (st.kept i) ≤ length search.rows.now
          = λ i w. omega (arith, st.holds.filled.fits i w, div-le_self (length search.rows.now) (node_count s)) in
          subst (λ (x : State). after (length search.rows.now) (node_count s) (latest x) < after (length search.rows.now) (node_count s) o) (sym does.2.2)
          (after_falls st.listing st.holds.parts (length search.rows.now) fits (length (paged v.log)) count o does.2.0 does.1 st.at page.paged)

  -- a page with places was refused: the whole listing was paged
  pub sofar_end : (f : Fault) (rows : List Row) → 0 < length table → search′.twig ≡ search.twig
      → ((log : Log) → Kept search log → Kept search′ (paging table (Err f) table′ rows ∷ log))
      → ListingWritten (shape_of search.twig.now) lists nodes old mid
  sofar_end f rows some twig law =
      let call = (law v.log v.kept).fair.0 in
      let t : shape_of search′.twig.now ≡ s = ap (λ x. shape_of x.now) twig in
      over (subst (λ x. PageAnswer x (Some lists) done table (Err f) table′) t (subst (λ o. PageAnswer (shape_of search′.twig.now) o done table (Err f) table′) v.met call.answered))
      (subst (λ x. InOrder x (Some lists) done) t (subst (λ o. InOrder (shape_of search′.twig.now) o done) v.met call.order))
    where
      s : Shape
      s = shape_of search.twig.now

      done : List Place
      done = paged v.log

      over : PageAnswer s (Some lists) done table (Err f) table′ → InOrder s (Some lists) done → ListingWritten s lists nodes old mid
      over a o =
          let one : o.0 ≡ a.0 = at_most_one_listing s lists o.0 a.0 o.1 a.1 in
          let first : done ≡ take (length done) a.0 = subst (λ ps. done ≡ take (length done) ps) one o.2 in
          let whole : done ≡ a.0 =
          ⊎_elim
          (λ (l : length done < length a.0).
          let no : done ≢ a.0 = λ e. absurd (omega (arith, l, ap length e)) in
          let wrong = (a.2.next some no).0 in cc)
          (λ (l : length a.0 ≤ length done). first ∙ take_all (length done) a.0 l) (cases_lt (length done) (length a.0)) in
          record { places = a.0; listing = a.1; written = subst (λ ps. Appends old mid (flat_map (place_line nodes) ps)) whole v.written }
