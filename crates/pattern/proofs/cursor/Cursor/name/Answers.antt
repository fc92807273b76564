use Rattle.std.proofs.Common.{◌≡◌, ◌+◌, ◌≤◌, false, true, Err, sym, refl, ap, ◌∙◌, arith, rules}
use Rattle.std.proofs.lemmas.List.Sums.{prefix_len-le-length}
use Rattle.markup.specs.Name.{name_byte}
use Rattle.pattern.specs.Moves.{begins_name}
use Rattle.pattern.proofs.Steps.{name_not, name_full, name_too_long, name_read, name_run}
use Rattle.pattern.proofs.cursor.Cursor.name.Goals as goal
use Rattle.pattern.proofs.cursor.Cursor.name.Goals.{Else-not-begins_name}

-- what `begins_name` answered, of the bytes left
begun : (c : Else-not-begins_name) → begins_name c.self.inside.rest.now ≡ true
begun c = (λ i. begins_name (c.self.view_is i).rest) ∙ sym c.begins_name.ensures ∙ c.if-not-begins_name.false

pub returns-then-not-begins_name : goal.returns-then-not-begins_name
returns-then-not-begins_name c =
    let b : begins_name c.self.inside.rest.now ≡ false = (λ i. begins_name (c.self.view_is i).rest) ∙ sym c.begins_name.ensures ∙ c.if-not-begins_name.true in
    rw (← c.self.view_is) (λ s e room. name_not s e _ _ b ∙ ap Err (sym c.at.ensures))

pub returns-then-is_full : goal.returns-then-is_full
returns-then-is_full c =
    let b = begun (goal.at.returns-then-is_full c).Else-not-begins_name in
    rw (← c.self.view_is) (λ s e room. name_full s e _ _ b (room ∙ c.if-is_full.true) ∙ ap Err (sym c.at-then-is_full.ensures))

pub returns-then-len-gt-MOST_BYTES : goal.returns-then-len-gt-MOST_BYTES
returns-then-len-gt-MOST_BYTES c =
    let b = begun (goal.at.returns-then-len-gt-MOST_BYTES c).Else-not-begins_name in
    let run = name_run c.self.inside.rest.now _ _ b c.min-most.ensures c.run-len.ensures.value in
    rw (← c.self.view_is) (λ s e room. name_too_long s e _ _ _ b (room ∙ c.if-is_full.false) refl (run.0 c.if-len-gt-MOST_BYTES.true) ∙ ap Err (sym c.at-then-len-gt-MOST_BYTES.ensures))

pub returns : goal.returns
returns c =
    let b = begun (goal.at.returns c).Else-not-begins_name in
    let few : 1 + c.run-len.result ≤ 32 = omega (arith, c.if-len-gt-MOST_BYTES.false) in
    let is = (name_run c.self.inside.rest.now _ _ b c.min-most.ensures c.run-len.ensures.value).1 few in
    rw (← c.self.view_is) (
      omega (arith, is, prefix_len-le-length name_byte c.self.inside.rest.now, c.split_at.ensures.back_len),
      c.if-is_full.false,
      λ s e room. name_read s e _ _ _ b (room ∙ c.if-is_full.false) is few ∙ search rules,
    )
