use Rattle.std.proofs.Common.{length, Ok, ◌∙◌}
use Rattle.std.proofs.lemmas.Result.{err_from_is_err_and}
use Rattle.book.specs.Views.{tree_of}
use Rattle.tree.specs.Tree.{bytes_of}
use Rattle.sheet.specs.Writing.{encodes, written}
use Rattle.index.proofs.Indexing.{indexed_written, indexed_refused}
use Rattle.index.proofs.indexer.index.Goals as goal

pub returns-in_err-len : goal.returns-in_err-len
returns-in_err-len c =
    let p = err_from_is_err_and c.from_residual-in_err-len.result c.from_residual-in_err-len.ensures.1 in
    let f = c.in_err-len.field-0.0 in
    let book = c.in_ok-book.book in
    rw (p.1, p.2) (indexed_refused c.args.text.now c.args.out.now c.encode.new.out (tree_of book) c.in_ok-book.ensures f
    (c.in_err-len.ensures.answer ∙ (λ i. encodes (c.as_slice.ensures.value i) (bytes_of (c.as_slice-2.ensures.value i)) (length c.args.out.now)))
    c.in_err-len.ensures.buffer)

pub returns : goal.returns
returns c =
    let book = c.in_ok-book.book in
    indexed_written c.args.text.now c.args.out.now c.encode.new.out (tree_of book) c.in_ok-book.ensures c.in_ok-len.len
    (c.in_ok-len.ensures.answer ∙ (λ i. encodes (c.as_slice.ensures.value i) (bytes_of (c.as_slice-2.ensures.value i)) (length c.args.out.now)))
    (c.in_ok-len.ensures.buffer ∙ (λ i. written (c.as_slice.ensures.value i) (bytes_of (c.as_slice-2.ensures.value i)) (Ok c.in_ok-len.len) c.args.out.now))
