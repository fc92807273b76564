-- A run grows call by call.
use Rattle.std.proofs.Common.{◌≡◌, ℕ, zero, suc, ◌<◌, map, ◌+◌, ◌-◌, min, List, [], ◌∷◌, ◌++◌, length, take, drop, set, get_or, Result, refl, sym, ap, ◌∙◌, subst, arith, length-append, length-drop, append_assoc}
use borrow.Rule.Slice.PartMut.{put_mid}
use Rattle.std.proofs.lemmas.List.{drop-set-lt, get_or-drop, length-take, take_at, drop_at, drop-drop}
use Rattle.markup.specs.declared.fault.Fault.{Fault}
use Rattle.rows.specs.declared.row.Row.{Row}
use Rattle.listing.specs.declared.place.Place.{Place}
use Rattle.search.specs.declared.search.Search.{Search}
use Rattle.search.specs.Runs.{Lists, Event, gathering, paging, rewinding, Log}
use Rattle.search.specs.Kept.{Kept}
use Rattle.replay.specs.declared.series.Step.{Step}
use Rattle.replay.specs.declared.series.Step.TheVariants.{Gather, Page, Rewind}
use Rattle.replay.specs.declared.series.Answer.{Answer}
use Rattle.replay.specs.Series.{done_answer, count_answer, places_of, Called, gather, page, rewind, Ran, begun, then}

-- one call

pub called_gather : (call : Step) (lists lists′ : Lists) (places : List Place) (answer : Answer) (r : Result (Unit {0}) Fault) (rows : List Row) → call ≡ Gather
    → answer ≡ done_answer r → Called call lists places answer lists′ places (gathering lists r lists′ rows)
called_gather call lists lists′ places answer r rows e a = rw (e, a) (gather lists lists′ places r rows)

pub called_page : (call : Step) (most : ℕ) (lists : Lists) (places places′ : List Place) (answer : Answer) (r : Result ℕ Fault) (rows : List Row) → call ≡ Page most
    → answer ≡ count_answer r → Called call lists places answer lists places′ (paging places r places′ rows)
called_page call most lists places places′ answer r rows e a = rw (e, a) (page most lists places places′ r rows)

pub called_rewind : (call : Step) (lists : Lists) (places : List Place) (answer : Answer) (r : Result (Unit {0}) Fault) (rows : List Row) → call ≡ Rewind
    → answer ≡ done_answer r → Called call lists places answer lists places (rewinding r rows)
called_rewind call lists places answer r rows e a = rw (e, a) (rewind lists places r rows)

-- some calls were made, which had the places before `used` of a table that was `start`
pub record Running (start : List Place) (calls : List Step) (lists : List Lists) (answers : List Answer) (lists′ : List Lists) (table : List Place) (used : ℕ)
    (search : Search) : Type 0 where
  pub log : Log
  pub written : List Place
  pub ran : Ran start calls lists answers lists′ written log
  pub until : used ≡ length written
  pub shown : table ≡ written ++ drop (length written) start
  pub kept : Kept search log

pub running_start : (start : List Place) (search : Search) → Kept search [] → Running start [] [] [] [] start 0 search
running_start start search h = record { log = []; written = []; ran = begun; until = refl; shown = refl; kept = h }

pub running_as : {start : List Place} {calls calls′ : List Step} {lists lists₁ : List Lists} {answers answers′ : List Answer} {lists′ lists₂ : List Lists}
    {table : List Place} {used : ℕ} {search : Search} → calls′ ≡ calls → lists₁ ≡ lists → answers′ ≡ answers → lists₂ ≡ lists′
    → Running start calls lists answers lists′ table used search → Running start calls′ lists₁ answers′ lists₂ table used search
running_as a b c d h = rw (a, b, c, d) h

module _ (start : List Place) (calls : List Step) (lists : List Lists) (answers : List Answer) (lists′ : List Lists) (table : List Place) (used : ℕ) (old new : Search)
    (h : Running start calls lists answers lists′ table used old) (call : Step) (end : ℕ) (is : end ≡ used + min (places_of call) (length table - used)) (places places′ : List Place)
    (has : places ≡ take (places_of call) (drop used table)) (long : length places′ ≡ length places) (met left : Lists) (answer : Answer)
    (law : (log : Log) → Kept old log → (e : Event) × Called call met places answer left places′ e × Kept new (e ∷ log)) where
  rest : drop used table ≡ drop (length h.written) start
  rest = ap (drop used) h.shown ∙ drop_at h.written (drop (length h.written) start) used (sym h.until)

  given : places ≡ take (places_of call) (drop (length h.written) start)
  given = has ∙ ap (take (places_of call)) rest

  many : length places′ ≡ min (places_of call) (length table - used)
  many = long ∙ ap length has ∙ length-take (places_of call) (drop used table) ∙ ap (min (places_of call)) (length-drop used table)

  until : end ≡ length (h.written ++ places′)
  until = omega (arith, is, many, h.until, length-append h.written places′)

  shown : put_mid used (end - used) table places′ ≡ (h.written ++ places′) ++ drop (length (h.written ++ places′)) start
  shown =
      ap (λ xs. xs ++ (places′ ++ drop (end - used) (drop used table))) (ap (take used) h.shown ∙ take_at h.written (drop (length h.written) start) used (sym h.until))
      ∙ sym (append_assoc h.written places′ (drop (end - used) (drop used table)))
      ∙ ap (λ xs. (h.written ++ places′) ++ xs) last
    where
      step : end - used ≡ length places′
      step = omega (arith, is, many)

      last : drop (end - used) (drop used table) ≡ drop (length (h.written ++ places′)) start
      last = ap (drop (end - used)) rest ∙ drop-drop (end - used) (length h.written) start
          ∙ ap (λ n. drop n start) (ap (λ n. length h.written + n) step ∙ sym (length-append h.written places′))

  pub running_more : Running start (calls ++ call ∷ []) (lists ++ met ∷ []) (answers ++ answer ∷ []) (lists′ ++ left ∷ []) (put_mid used (end - used) table places′) end new
  running_more =
      let l = law h.log h.kept in
      record {
        log = l.0 ∷ h.log;
        written = h.written ++ places′;
        ran = then calls lists answers lists′ h.written h.log call met answer left places′ l.0 h.ran (subst (λ xs. Called call met xs answer left places′ l.0) given l.1)
            (long ∙ ap length given);
        until = until;
        shown = shown;
        kept = l.2;
      }

-- an element of a list that is written from the front

module _ {X : Type 0} (xs ys : List X) (i : ℕ) (same : drop i xs ≡ drop i ys) where
  pub still_same : (x : X) → drop (i + 1) (set xs i x) ≡ drop (i + 1) ys
  still_same x = drop-set-lt (i + 1) xs i x (omega arith) ∙ sym (drop-drop 1 i xs) ∙ ap (drop 1) same ∙ drop-drop 1 i ys

  pub same_here : (d : X) → get_or xs i d ≡ get_or ys i d
  same_here d =
      let z : i ≡ i + 0 = omega arith in
      ap (λ k. get_or xs k d) z ∙ sym (get_or-drop i xs 0 d) ∙ ap (λ zs. get_or zs 0 d) same ∙ get_or-drop i ys 0 d ∙ ap (λ k. get_or ys k d) (sym z)

-- an element that is changed but has the same image
pub same_images : {X Y : Type 0} (f : X → Y) (xs : List X) (i : ℕ) (x y : X) → i < length xs → f y ≡ f (get_or xs i x) → map f (set xs i y) ≡ map f xs
same_images f [] i x y l e = refl
same_images f (z ∷ zs) zero x y l e = ap (λ b. b ∷ map f zs) e
same_images f (z ∷ zs) (suc i) x y l e = ap (λ bs. f z ∷ bs) (same_images f zs i x y (omega (arith, l)) e)
