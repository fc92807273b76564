-- The law over runs, where the lists of the granted gather stand for elements of a tree.
use Rattle.std.proofs.Common.{◌≡◌, ℕ, List, [], ◌∷◌, Some, None, Option, length, take, sym, subst}
use Rattle.pattern.specs.Shape.{Shape}
use Rattle.stream.specs.declared.region.Region.{Region}
use Rattle.listing.specs.declared.place.Place.{Place}
use Rattle.listing.specs.Listing.{Listing}
use Rattle.listing.proofs.Exists.{there_is_a_listing}
use Rattle.listing.proofs.Once.{at_most_one_listing}
use Rattle.search.specs.Runs.{Log, met, paged, paging, PageAnswer, NextPage, InOrder, FairCall, Fair}
use Rattle.answers.specs.Laws.{RunsListTheTree}
use Rattle.answers.proofs.Passing.{parts_of}
use Rattle.answers.proofs.Listings.{lists_have_the_tree_listing}

module _ (s : Shape) (lists : ℕ → List Region) (ps : List Place) (listing : Listing s lists ps) where
  -- what was paged is a beginning of this listing
  beginning : (size : ℕ) (log : Log) → Fair s size log → met log ≡ Some lists → paged log ≡ take (length (paged log)) ps
  beginning size [] fair e = cc
  beginning size (d ∷ log) fair e = go (subst (λ o. InOrder s o (paged (d ∷ log))) e fair.0.order)
    where
      go : InOrder s (Some lists) (paged (d ∷ log)) → paged (d ∷ log) ≡ take (length (paged (d ∷ log))) ps
      go o = subst (λ qs. paged (d ∷ log) ≡ take (length (paged (d ∷ log))) qs) (at_most_one_listing s lists o.0 ps o.1 listing) o.2

pub runs_list_the_tree : RunsListTheTree
runs_list_the_tree t s lets book lists lawful twig stands size log fair e =
    let l = there_is_a_listing book lists (parts_of t s.nodes lets book lists lawful stands) s twig in (
      l.0,
      (lists_have_the_tree_listing t s lets book lists lawful twig stands l.0).0 l.1,
      beginning s lists l.0 l.1 size log fair e,
      λ table table′ r rows call.
          let a = subst (λ o. PageAnswer s o (paged log) table r table′) e call.answered in
          subst (λ ps. NextPage ps (paged log) table r table′) (at_most_one_listing s lists a.0 l.0 a.1 l.1) a.2,
    )
