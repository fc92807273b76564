use Rattle.std.proofs.Common.{◌≡◌, drop, sym, ap, ◌∙◌, arith, tests}
use Rattle.std.proofs.lemmas.List.{get_or-drop, get_or_past, length-drop}
use Rattle.std.proofs.lemmas.Grind.{common_steps, get_or_after_one}
use Rattle.markup.specs.Faults.{and_then}
use Rattle.lexer.specs.Lex.{name_at, start_tail, start_tag}
use Rattle.lexer.proofs.lexer.Rest.start_tag.Goals as goal
use Rattle.lexer.proofs.lexer.Rest.start_tag.Goals.{After-behind-close}

-- behind the name, the bytes that follow decide
named : (c : After-behind-close) → let rest = c.args.self.now in start_tag rest.place (drop 1 rest.bytes.now) ≡ start_tail rest.place (drop 1 rest.bytes.now) c.in_ok-len.len
named c =
    let tail = start_tail c.args.self.now.place (drop 1 c.args.self.now.bytes.now) in
    (λ i. and_then (name_at (sym c.behind.ensures.place i) (sym c.behind.ensures.bytes i)) tail) ∙ ap (λ r. and_then r tail) (sym c.in_ok-len.ensures.value)

ruleset bytes_behind = (arith, tests, get_or-drop, get_or_after_one, get_or_past, length-drop)

pub returns-in-62 : goal.returns-in-62
returns-in-62 c = (named (goal.at.returns-in-62 c).After-behind-close ∙ grind bytes_behind, grind (arith, common_steps))

pub returns-in-47 : goal.returns-in-47
returns-in-47 c = (named (goal.at.returns-in-47 c).After-behind-close ∙ grind bytes_behind, grind (arith, common_steps))

pub returns-in-47-2 : goal.returns-in-47-2
returns-in-47-2 c = named (goal.at.returns-in-47-2 c).After-behind-close ∙ grind bytes_behind

pub returns-in_default : goal.returns-in_default
returns-in_default c = named (goal.at.returns-in_default c).After-behind-close ∙ grind bytes_behind
