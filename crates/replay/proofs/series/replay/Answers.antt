use Rattle.std.proofs.Common.{◌≡◌, ◌+◌, ◌-◌, ◌<◌, min, get_or, [], ◌∷◌, ◌++◌, length, map, take, drop, length-drop, sym, ap, ◌∙◌, refl, subst, rules, arith}
use Rattle.std.proofs.lemmas.List.{take_more, take_more_set, map_more, map-append, take_min}
use borrow.Rule.Slice.PartMut.{same_len_mid}
use Rattle.pattern.specs.Twig.{shape_of}
use Rattle.search.specs.Runs.{Fair, RowsAre, met}
use Rattle.search.proofs.Keeping.{kept_rows}
use Rattle.replay.specs.declared.series.Step.TheVariants.{Gather}
use Rattle.replay.specs.Series.{places_of, Ran}
use Rattle.replay.proofs.Running.{running_start, running_as, running_more, still_same, same_here, same_images}
use Rattle.replay.proofs.series.replay.Goals as goal

pub loop-i-init : goal.loop-i-init
loop-i-init g c = record {
  holds = refl;
  twig = refl;
  many = refl;
  answers = refl;
  sets = refl;
  books = refl;
  within = omega arith;
  run = running_start c.args.table.now c.begin-search.result c.begin-search.ensures.law;
}

pub loop-i-preserved : goal.loop-i-preserved
loop-i-preserved g c =
    let sofar = c.loop-i.invariant in
    let lists = g.S.StreamSet.lists in
    let i = c.loop-i.i in
    let calls = c.args.calls.now in
    let met = c.args.sets.now in
    let sets = c.loop-i.sets in
    let answers = c.loop-i.answers in
    let table = c.loop-i.table in
    let used = c.loop-i.used in
    let end = used + c.min-in-loop-i.result in
    let call = get_or calls i Gather in
    let set = c.index-sets-i.result in
    let count : c.min-n.result ≡ min (min (length calls) (length met)) (length c.args.answers.now) = search rules in
    let room : c.min-in-loop-i.result ≡ min (places_of call) (length table - used) = search rules in
    let in_calls : i < length calls = omega (arith, c.loop-i-test.true) in
    let in_met : i < length met = omega (arith, c.loop-i-test.true) in
    let in_sets : i < length sets = omega (arith, c.loop-i.auto.sets, in_met) in
    let in_answers : i < length answers = omega (arith, c.loop-i.auto.answers, c.loop-i-test.true) in
    let part : end - used ≡ min (places_of call) (length (drop used table)) = omega (arith, room, length-drop used table) in
    let places : take (end - used) (drop used table) ≡ take (places_of call) (drop used table) =
    ap (λ n. take n (drop used table)) part ∙ take_min (places_of call) (drop used table) in
    let more = running_more c.args.table.now _ _ _ _ table used _ _ sofar.run call end (ap (λ n. used + n) room) _ c.make.new.places places c.make.auto.places
    _ _ _ c.make.ensures.law in
    record {
      holds = c.make.ensures.holds ∙ sofar.holds;
      twig = c.make.ensures.twig ∙ sofar.twig;
      many = c.make.ensures.length ∙ sofar.many;
      answers = still_same answers c.args.answers.now i sofar.answers c.make.result;
      sets = still_same sets met i sofar.sets c.make.new.set;
      books = same_images g.S.StreamSet.book sets i set c.make.new.set in_sets c.make.ensures.book ∙ sofar.books;
      within = omega (arith, same_len_mid used (end - used) table c.make.new.places c.make.auto.places, room, sofar.within);
      run = running_as (take_more calls i Gather in_calls)
          (map_more lists met i set in_met ∙ ap (λ s. map lists (take i met) ++ lists s ∷ []) (sym (same_here sets met i sofar.sets set)))
          (take_more_set answers i c.make.result in_answers)
          (ap (map lists) (take_more_set sets i c.make.new.set in_sets) ∙ map-append lists (take i sets) (c.make.new.set ∷ [])) more;
    }

pub returns-clause-law : goal.returns-clause-law
returns-clause-law g c =
    let sofar = c.loop-i.invariant in
    let lists = g.S.StreamSet.lists in
    let table = c.args.table.now in
    let run = sofar.run in
    let self = c.loop-i.search in
    let all : c.loop-i.i ≡ c.min-n.result = omega (arith, c.loop-i-test.false, c.loop-i.auto.i-end) in
    let twig = ap (λ w. shape_of w.now) (sofar.twig ∙ c.begin-search.ensures.twig) in
    let rows = subst (λ s. RowsAre s (met run.log) self.rows.now) twig (kept_rows self run.log run.kept) in
    record {
      log = run.log;
      written = run.written;
      ran = subst (λ n. Ran table (take n c.args.calls.now) (map lists (take n c.args.sets.now)) (take n c.loop-i.answers) (map lists (take n c.loop-i.sets)) run.written run.log)
          all run.ran;
      shown = run.shown;
      fair = subst (λ s. Fair s (length c.args.rows.now) run.log) twig
          (subst (λ n. Fair (shape_of self.twig.now) n run.log) (sofar.many ∙ c.begin-search.ensures.length) run.kept.fair);
      rows = subst (RowsAre (shape_of c.args.twig.now) (met run.log)) (search rules) rows;
    }
