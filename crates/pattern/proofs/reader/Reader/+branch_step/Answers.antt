use Rattle.std.proofs.Common.{◌≡◌, ℕ, ◌+◌, true, false, List, ◌∷◌, length, ap, ◌∙◌, arith}
use Rattle.std.proofs.lemmas.List.{length_push}
use Rattle.std.proofs.lemmas.Result.{err_from_is_err_and}
use Rattle.pattern.specs.declared.node.Mark.{Mark}
use Rattle.pattern.specs.Reading.{edge, step}
use Rattle.pattern.specs.Table.{parent_of, edge_of, items}
use Rattle.pattern.specs.Moves.{outcome}
use Rattle.pattern.proofs.Steps.{taken, shorter}
use Rattle.pattern.proofs.Progress.{state, begun, begun_not, onward, opened, opens_not, enters, enters_not, closes_not}
use Rattle.pattern.proofs.reader.Reader.+branch_step.Goals as goal
use Rattle.pattern.proofs.reader.Reader.+branch_step.Goals.{step-In_ok-edge, step-In_ok-branch}

-- `branch`: to one more step
pub branch-step-requires-in-loop-self : goal.branch-step-requires-in-loop-self
branch-step-requires-in-loop-self t c = (omega (arith, c.loop-self.invariant.0.0, shorter _ _ _ c.loop-self-test.ensures, c.edge-edge.ensures.0), omega (arith, c.loop-self.invariant.0.2))

pub branch-returns-in_err-last-2-clause-told : goal.branch-returns-in_err-last-2-clause-told
branch-returns-in_err-last-2-clause-told t c =
    let r = c.from_residual-in_err-last-2 in
    let p = err_from_is_err_and r.result r.ensures.1 in
    rw (p.1, p.2) (λ m hs d.
    c.loop-self.invariant.0.3 m hs d
    ∙ onward _ _ _ _ c.loop-self-test.ensures c.edge-edge.ensures (state c.loop-self.self m c.loop-self.last hs step)
    ∙ c.in_err-last-2.ensures.told m hs d)

pub branch-loop-self-preserved : goal.branch-loop-self-preserved
branch-loop-self-preserved t c =
    let i = c.loop-self.invariant.0 in
    let s = c.in_ok-last-2.ensures.told in (
      (
        omega (arith, i.0, s.0, shorter _ _ _ c.loop-self-test.ensures, c.edge-edge.ensures.0),
        omega (arith, i.1, s.1),
        s.2,
        λ m hs d.
            i.3 m hs d
            ∙ onward _ _ _ _ c.loop-self-test.ensures c.edge-edge.ensures (state c.loop-self.self m c.loop-self.last hs step)
            ∙ s.3 m hs d,
      ),
      c.in_ok-last-2.ensures.stops,
    )

pub branch-returns-clause-told : goal.branch-returns-clause-told
branch-returns-clause-told t c = rw c.loop-self-test.ensures.1 c.loop-self.invariant.0

pub branch-returns-clause-stops : goal.branch-returns-clause-stops
branch-returns-clause-stops t c = rw c.loop-self-test.ensures.1 (c.loop-self.invariant.1, c.loop-self-test.ensures.0)

-- `step`: the name and the new node
pub step-returns-in_err-name-clause-told : goal.step-returns-in_err-name-clause-told
step-returns-in_err-name-clause-told t c =
    let p = err_from_is_err_and c.from_residual.result c.from_residual.ensures.1 in
    rw (p.1, p.2) (λ m hs d. begun_not c.args.self.now c.name.new.self c.args.hook _ _ c.is_full.ensures c.in_err-name.ensures m hs)

pub step-loop-self-init : goal.step-loop-self-init
step-loop-self-init t c =
    let p = c.push-node.ensures in
    let n = c.in_ok-name.ensures in
    let more : length (items c.push-node.new.self) ≡ length (items c.args.self.now.nodes) + 1 = ap length p.items ∙ length_push (items c.args.self.now.nodes) _ in (
      n.0,
      omega (arith, more),
      omega (arith, more, p.number),
      λ m hs d. begun c.args.self.now _ c.push-node.new.self _ _ _ _ c.is_full.ensures n p.items p.number m hs,
    )

-- a bracket, its edge, its branch and its end
pub step-returns-in_err-open-clause-told : goal.step-returns-in_err-open-clause-told
step-returns-in_err-open-clause-told t c =
    let r = c.from_residual-in_err-open in
    let p = err_from_is_err_and r.result r.ensures.1 in
    rw (p.1, p.2) (λ m hs d. c.loop-self.invariant.3 m hs d ∙ opens_not c.loop-self.self _ m _ hs d c.open.new.self _ c.in_err-open.ensures)

pub step-returns-in_err-edge-clause-told : goal.step-returns-in_err-edge-clause-told
step-returns-in_err-edge-clause-told t c =
    let r = c.from_residual-in_err-edge in
    let p = err_from_is_err_and r.result r.ensures.1 in
    let o = opened _ _ _ _ true c.if-branch.true c.in_ok-open.ensures in
    rw (p.1, p.2) (λ m hs d. c.loop-self.invariant.3 m hs d ∙ enters_not c.loop-self.self _ m _ hs d _ o c.inner_edge.new.self _ c.in_err-edge.ensures)

pub step-branch-self-requires : goal.step-branch-self-requires
step-branch-self-requires t c =
    let o = opened _ _ _ _ true c.if-branch.true c.in_ok-open.ensures in
    (omega (arith, c.loop-self.invariant.0, shorter _ _ _ o.0, c.in_ok-edge.ensures.0), c.loop-self.invariant.2)

entered : (t : ℕ) (c : step-In_ok-edge t) (m : Mark) (hs : List ℕ) → length hs ≡ c.args.depth
    → outcome c.args.self.now m (parent_of c.args.hook) hs (edge (edge_of c.args.hook))
    ≡ outcome (record { cursor = c.inner_edge.new.self; nodes = c.loop-self.self.nodes }) m c.push-node.result (c.push-node.result ∷ hs) (edge c.in_ok-edge.edge)
entered t c m hs d =
    let o = opened _ _ _ _ true c.if-branch.true c.in_ok-open.ensures in
    c.loop-self.invariant.3 m hs d ∙ enters c.loop-self.self _ m _ hs d _ o _ _ c.in_ok-edge.ensures

pub step-returns-in_err-branch-clause-told : goal.step-returns-in_err-branch-clause-told
step-returns-in_err-branch-clause-told t c =
    let r = c.from_residual-in_err-branch in
    let p = err_from_is_err_and r.result r.ensures.1 in
    let f = goal.at.step-returns-in_err-branch-clause-told t c in
    rw (p.1, p.2) (λ m hs d. entered t f.In_ok-edge m hs d ∙ c.in_err-branch.ensures.told m (c.push-node.result ∷ hs) (omega (arith, d)))

crossed : (t : ℕ) (c : step-In_ok-branch t) (m : Mark) (hs : List ℕ) → length hs ≡ c.args.depth
    → outcome c.args.self.now m (parent_of c.args.hook) hs (edge (edge_of c.args.hook)) ≡ outcome c.branch-self.new.self m c.in_ok-branch.field-0 (c.push-node.result ∷ hs) step
crossed t c m hs d =
    entered t (goal.at.step-In_ok-branch t c).In_ok-edge m hs d ∙ c.in_ok-branch.ensures.told.3 m (c.push-node.result ∷ hs) (omega (arith, d))

pub step-loop-self-preserved : goal.step-loop-self-preserved
step-loop-self-preserved t c =
    let o = opened _ _ _ _ true c.if-branch.true c.in_ok-open.ensures in
    let i = c.loop-self.invariant in
    let b = c.in_ok-branch.ensures.told in
    let e = c.in_ok-expect.ensures in (
      omega (arith, i.0, shorter _ _ _ o.0, c.in_ok-edge.ensures.0, b.0, shorter _ _ _ e),
      omega (arith, i.1, b.1),
      omega (arith, i.2, b.1),
      λ m hs d. crossed t (goal.at.step-loop-self-preserved t c).In_ok-branch m hs d ∙ taken _ _ 93 e (state c.branch-self.new.self m c.in_ok-branch.field-0 (c.push-node.result ∷ hs) step),
    )

pub step-returns-in_err-expect-clause-told : goal.step-returns-in_err-expect-clause-told
step-returns-in_err-expect-clause-told t c =
    let r = c.from_residual-in_err-expect in
    let p = err_from_is_err_and r.result r.ensures.1 in
    rw (p.1, p.2) (λ m hs d. crossed t (goal.at.step-returns-in_err-expect-clause-told t c).In_ok-branch m hs d ∙ closes_not c.branch-self.new.self c.expect.new.self _ c.in_ok-branch.ensures.stops c.in_err-expect.ensures m _ _ _)

pub step-returns-clause-told : goal.step-returns-clause-told
step-returns-clause-told t c =
    let o = opened _ _ _ _ false c.if-branch.false c.in_ok-open.ensures in
    rw o.0.1 c.loop-self.invariant
