use Rattle.std.proofs.Common.{◌≡◌, ℕ, ◌≤◌, List, length, drop, Some, None, Ok, Err, Option, Result, sym, ap, ◌∙◌, subst, arith}
use Rattle.std.proofs.lemmas.Result.{err_from_is_err_and}
use Rattle.markup.specs.declared.fault.Fault.{Fault}
use Rattle.markup.specs.declared.fault.Error.TheVariants.{Refused}
use Rattle.markup.specs.Faults.{and_then}
use Rattle.lexer.specs.declared.token.Token.{Token}
use Rattle.lexer.specs.Lex.{lex, behind}
use Rattle.lexer.specs.Token.{item_of, answered, Parts}
use Rattle.lexer.proofs.Meaning.{lexing_is_exact}
use Rattle.book.specs.Reading.{finished, step}
use Rattle.book.specs.Views.{tree_of, Fails, Answers}
use Rattle.book.proofs.Answering.{reads_book}
use Rattle.book.proofs.Runs.{item_within, one_more, step_fails, lex_fails, done, book_is, book_fails}
use Rattle.book.proofs.reader.read.Goals as goal
use Rattle.book.proofs.reader.read.Goals.{After-next, In-Some}

-- A turn of the loop: the lexer stood at p, answered r, and stands at q.
record Turn (text : List ℕ) (p q : ℕ) (r : Result (Option Token) Fault) : Type 0 where
  inside : p ≤ length text
  item : answered r ≡ lex p (drop p text)
  moved : q ≡ behind p (answered r)
  parts : Parts text p r

turn : (c : After-next) (r : Result (Option Token) Fault) → c.next.result ≡ r → Turn c.args.text.now c.loop-reader.lexer.at c.next.new.self.at r
turn c r e =
    subst (Turn c.args.text.now c.loop-reader.lexer.at c.next.new.self.at) e
    (subst (λ text. Turn text c.loop-reader.lexer.at c.next.new.self.at c.next.result) c.loop-reader.invariant.0
    (record { inside = c.loop-reader.lexer.inside; item = c.next.ensures.item; moved = c.next.ensures.moved; parts = c.next.ensures.parts }))

-- the turn with an item
token-turn : (c : In-Some) → Turn c.args.text.now c.loop-reader.lexer.at c.next.new.self.at (Ok (Some c.in-Some.token))
token-turn c = turn (goal.at.In-Some c).After-next _ (c.in_ok-token.was ∙ ap Ok c.in-Some.is)

pub loop-reader-smaller : goal.loop-reader-smaller
loop-reader-smaller c =
    let t = token-turn (goal.at.loop-reader-smaller c).In-Some in
    let w = item_within _ _ _ c.loop-reader.invariant.1 (item_of c.in-Some.token) t.inside (sym t.item) in
    omega (arith, t.moved, w.0, w.1)

pub loop-reader-preserved : goal.loop-reader-preserved
loop-reader-preserved c =
    let t = token-turn (goal.at.loop-reader-preserved c).In-Some in
    let i = item_of c.in-Some.token in
    let s = c.loop-reader.reader in
    let taken : step s c.loop-reader.lexer.at i ≡ Ok c.take.new.self = ap (λ p. step s p i) (sym t.parts.written.place) ∙ c.in_ok-take.ensures in
    (c.next.ensures.text ∙ c.loop-reader.invariant.0, rw t.moved (one_more _ _ s c.loop-reader.invariant.1 i _ t.inside (sym t.item) taken))

pub returns-in_err-token : goal.returns-in_err-token
returns-in_err-token c =
    let p = err_from_is_err_and c.from_residual-in_err-token.result c.from_residual-in_err-token.ensures.1 in
    let f = c.in_err-token.field-0.0 in
    let t = turn (goal.at.returns-in_err-token c).After-next (Err f) c.in_err-token.was in
    rw (p.1, p.2) (reads_book c.args.text.now (Err (Refused f))
    (book_fails c.args.text.now (Refused f) c.in_ok-check_length.ensures.short (lex_fails _ _ _ c.loop-reader.invariant.1 f (sym t.item))))

pub returns-in_err-take : goal.returns-in_err-take
returns-in_err-take c =
    let p = err_from_is_err_and c.from_residual-in_err-take.result c.from_residual-in_err-take.ensures.1 in
    let e = c.in_err-take.field-0.0 in
    let t = token-turn (goal.at.returns-in_err-take c).In-Some in
    let i = item_of c.in-Some.token in
    rw (p.1, p.2) (reads_book c.args.text.now (Err e)
    (book_fails c.args.text.now e c.in_ok-check_length.ensures.short
    (step_fails _ _ _ c.loop-reader.invariant.1 i e t.inside (sym t.item)
    (subst (λ p. Fails (step c.loop-reader.reader p i) e) t.parts.written.place c.in_err-take.ensures))))

pub returns : goal.returns
returns c =
    let bs = c.args.text.now in
    let t = turn (goal.at.returns c).After-next (Ok None) (c.in_ok-token.was ∙ ap Ok c.in_default.is) in
    let end = done _ _ _ c.loop-reader.invariant.1 ((lexing_is_exact.ended _ _).0 (sym t.item)) in
    reads_book bs c.finish.result
    (subst (λ r. Answers r c.finish.result tree_of) (sym (book_is bs c.in_ok-check_length.ensures.short ∙ ap (λ r. and_then r (finished (length bs))) end)) c.finish.ensures)
