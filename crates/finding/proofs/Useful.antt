-- The useful regions of each node, computed: those that stand there in one of the loose embeddings.
use Rattle.std.proofs.Common.{◌≡◌, ℕ, ◌<◌, Bool, true, eqb, ◌&&◌, List, slice_index_or, filter, Contains as Has, Decides, sym, ap, ◌∙◌, subst}
use Rattle.std.specs.List.{Any, list_any}
use Rattle.std.proofs.lemmas.Bool.Decides.{Decides-eqb, Decides-and, Decides-like}
use Rattle.std.proofs.lemmas.List.Elements.{All-contains, filter_passes}
use Rattle.std.proofs.lemmas.List.Folds.{Any-from_list_any, list_any_at}
use Rattle.pattern.specs.declared.node.Edge.{Edge}
use Rattle.pattern.specs.declared.node.Edge.TheVariants.{Descendant}
use Rattle.pattern.specs.Shape.{Shape, LawfulTwig}
use Rattle.stream.specs.declared.region.Region.{Region}
use Rattle.stream.specs.Narrowing.{kept_part}
use Rattle.embedding.specs.Embedding.{node_count, Loosely, Useful}
use Rattle.gather.specs.Gather.{UsefulLists}
use Rattle.listing.proofs.Exists.{at, listed, at_listed, has_filter, test_across, tells_across, embedded, embeds, has_embedded}

abbrev pub same_region : Region → Region → Bool
same_region u v = eqb u.start v.start && (eqb u.«end» v.«end» && eqb u.level v.level)

tells_same : (u v : Region) → Decides (same_region u v) (u ≡ v)
tells_same u v =
    let parts : Decides (same_region u v) ((u.start ≡ v.start) × ((u.«end» ≡ v.«end») × (u.level ≡ v.level)))
    = Decides-and _ _ (Decides-eqb u.start v.start) (Decides-and _ _ (Decides-eqb u.«end» v.«end») (Decides-eqb u.level v.level)) in
    Decides-like (same_region u v) (λ h i. record { start = h.0 i; «end» = h.1.0 i; level = h.1.1 i })
    (λ e. (ap (λ (r : Region). r.start) e, (ap (λ (r : Region). r.«end») e, ap (λ (r : Region). r.level) e))) parts

abbrev pub loosely : Edge → Region → Region → Bool
loosely edge u v = test_across Descendant u v

tells_loosely : (edge : Edge) (u v : Region) → Decides (loosely edge u v) (Loosely edge u v)
tells_loosely edge u v = tells_across Descendant u v

-- r stands at node i in one of these
abbrev pub stands : List (List Region) → ℕ → Region → Bool
stands found i r = list_any (λ rs. same_region (at rs i) r) found

abbrev pub useful_in : Shape → (ℕ → List Region) → ℕ → List Region
useful_in s lists i = filter (stands (embedded loosely s lists) i) (lists i)

module _ (s : Shape) (lawful : LawfulTwig s.nodes) (lists : ℕ → List Region) where
  abbrev found : List (List Region)
  found = embedded loosely s lists

  is_useful : (i : ℕ) → i < node_count s → (r : Region) → Has (useful_in s lists i) r → Useful s lists i r
  is_useful i l r h =
      let any : Any (λ rs. same_region (at rs i) r ≡ true) found
      = Any-from_list_any (λ rs. same_region (at rs i) r) found
      (All-contains (λ q. stands found i q ≡ true) (useful_in s lists i) r (filter_passes (stands found i) (lists i)) h) in
      record {
        embedding = at (slice_index_or found any.0 any.1);
        embeds = embeds Loosely loosely tells_loosely s lists any.0 any.1 any.2;
        there = l;
        here = subst (λ rs. at rs i ≡ r) (sym any.3) ((tells_same (at any.1 i) r).0 any.4);
      }

  has_useful : (i : ℕ) (r : Region) → Useful s lists i r → Has (useful_in s lists i) r
  has_useful i r u =
      let h : Has found (listed (node_count s) u.embedding) = has_embedded Loosely loosely tells_loosely s lists lawful u.embedding u.embeds in
      has_filter (stands found i) (lists i) r (subst (Has (lists i)) u.here (u.embeds.lies i u.there))
      (list_any_at (λ rs. same_region (at rs i) r) found h.0 (listed (node_count s) u.embedding) h.1
      (subst (λ rs. same_region (at rs i) r ≡ true) (sym h.2)
      ((tells_same (at (listed (node_count s) u.embedding) i) r).1 (at_listed (node_count s) u.embedding i u.there ∙ u.here))))

  pub useful_lists : UsefulLists s lists (useful_in s lists)
  useful_lists = record {
    part = λ i. kept_part (stands found i) (lists i);
    just = λ i l r. (is_useful i l r, has_useful i r);
  }
