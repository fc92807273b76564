use Rattle.std.proofs.Common.{◌≡◌, ◌<◌, length, sum_by, rules, arith}
use Rattle.std.proofs.iter.runs.Made.{chains}
use Rattle.sheet.proofs.Fields.{sum_texts, sum_texts_le}
use Rattle.sheet.proofs.encoder.Contents.joint_length.Goals as goal

pub sum-requires-clause-fits : goal.sum-requires-clause-fits
sum-requires-clause-fits c =
    let xs = c.args.self.now.names.now in
    let m : sum_by (λ x. length x.now) xs < 18446744073709551616 = omega (arith, sum_texts_le xs c.args.self.now.few_names c.args.self.now.short) in
    search (rules, chains)

pub returns : goal.returns
returns c =
    let xs = c.args.self.now.names.now in
    let r : c.sum.result ≡ sum_by (λ x. length x.now) xs = search (rules, chains) in
    rw r (sum_texts xs)
