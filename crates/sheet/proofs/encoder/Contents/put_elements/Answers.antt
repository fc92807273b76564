use Rattle.std.proofs.Common.{◌≡◌, ◌<◌, length, sym, refl, ap, ◌∙◌, arith}
use Rattle.std.proofs.lemmas.List.{length-set, take_all}
use Rattle.layout.specs.Encoding.{blank}
use Rattle.sheet.proofs.Parts.{table_none, seek_none, last_of, seek_set, table_more}
use Rattle.sheet.proofs.encoder.Contents.put_elements.Goals as goal

pub loop-k-init : goal.loop-k-init
loop-k-init c =
    let es = c.args.self.now.elements.now in
    let i = c.into_iter-k-iterator.result.iter in
    let z : i.count ≡ 0 = cc in
    let r : i.iter.rest.now ≡ es = cc in
    let m : length i.iter.rest.now ≡ length es = ap length r in
    rw m (record {
      counted = z;
      within = omega arith;
      left = take_all (length es) es (omega arith) ∙ sym r;
      numbers = refl;
      written = table_none es (length es) (omega arith) c.args.table.now (omega arith);
      nearest = seek_none es (length es) (omega arith);
    })

pub loop-k-preserved : goal.loop-k-preserved
loop-k-preserved c =
    let es = c.args.self.now.elements.now in
    let i = c.loop-k.invariant in
    let rest = c.next.new.self.iter.iter.rest.now in
    let e = c.in-Some.e.now in
    let k = c.in-Some.k in
    let m = length c.loop-k.k-iterator.iter.iter.rest.now in
    let s = c.in-Some.ensures.steps in
    let p : k ≡ length rest = omega (arith, s.1.1, i.counted) in
    let l = last_of es rest e m k p i.within (i.left ∙ s.1.0) in
    let n : length rest ≡ k = sym p in
    let low : e.name < 1024 = omega (arith, ap (λ x. x.name) l.element, c.args.self.now.numbered k blank (omega (arith, l.number)), c.args.self.now.few_names) in
    rw n (record {
      counted = s.0 ∙ i.counted;
      within = omega (arith, l.number);
      left = l.before;
      numbers = length-set c.loop-k.nearest e.name k ∙ i.numbers;
      written = table_more es k m (omega (arith, l.number)) l.number e l.element c.loop-k.table c.put_element.new.out _ (i.nearest e.name low) c.put_element.ensures (omega arith) i.written;
      nearest = seek_set es k m (omega (arith, l.number)) l.number e l.element c.loop-k.nearest i.numbers low i.nearest;
    })
