use Rattle.std.proofs.Common.{◌+◌, ◌<◌, ◌≤◌, length, ap, arith, tests}
use Rattle.std.proofs.lemmas.List.{length-drop}
use Rattle.lexer.specs.declared.token.Part.{Part}
use Rattle.lexer.specs.Token.{whole_of, HandsOut}
use Rattle.lexer.proofs.Steps.{next_found}
use Rattle.lexer.proofs.lexer.Lexer.next.Goals as goal
use Rattle.lexer.proofs.lexer.Lexer.next.Goals.{After-whole}

-- the token is a part of the text, at its place
found : (c : After-whole) → let lexer = c.args.self.now in let t = c.in_ok-token.token in
    (lexer.at + length (whole_of t).bytes.now ≤ length lexer.text.now) × HandsOut lexer.text.now lexer.at t
found c =
    let lexer = c.args.self.now in
    let rest = c.rest in
    let more : 0 < length rest.result.bytes.now = grind (arith, tests, length-drop) in
    next_found lexer.text.now lexer.at c.in_ok-token.token rest.result.bytes.now rest.result.place rest.ensures.place rest.ensures.bytes more c.in_ok-token.ensures

pub invariant_of-self : goal.invariant_of-self
invariant_of-self c =
    let within = (found (goal.at.invariant_of-self c).After-whole).0 in
    record { inside = omega (arith, within, ap (λ (part : Part). length part.bytes.now) c.whole.ensures) }

pub returns-clause-parts : goal.returns-clause-parts
returns-clause-parts c = (found (goal.at.returns-clause-parts c).After-whole).1
