use Rattle.std.proofs.Common.{◌≡◌, ◌≤◌, length, map, take, drop}
use Rattle.replay.proofs.Running.{Running}
use Rattle.replay.proofs.series.replay.Given as goal

abbrev pub invariant-loop-i : goal.invariant-loop-i
invariant-loop-i g l =
    let lists = g.S.StreamSet.lists in
    let book = g.S.StreamSet.book in
    record {
      holds : l.search.rows.ghost_name ≡ l.initial.search.rows.ghost_name;
      twig : l.search.twig ≡ l.initial.search.twig;
      many : length l.search.rows.now ≡ length l.initial.search.rows.now;
      answers : drop l.i l.answers ≡ drop l.i l.initial.answers;
      sets : drop l.i l.sets ≡ drop l.i l.initial.sets;
      books : map book l.sets ≡ map book l.initial.sets;
      within : l.used ≤ length l.table;
      run : Running l.initial.table (take l.i l.calls) (map lists (take l.i l.initial.sets)) (take l.i l.answers) (map lists (take l.i l.sets)) l.table l.used l.search;
    }
