use Rattle.std.proofs.Common.{◌≡◌, ◌+◌, ◌≤◌, length, drop, ap, arith, length-append, length-drop}
use Rattle.std.proofs.lemmas.List.{take_rest, drop_all}
use Rattle.outside_io.specs.InMemory.{SourceView}
use Rattle.outside_io.proofs.Turns.{given-next}
use Rattle.outside_io.proofs.memory_source.MemSourceSource.read.Goals as goal

pub returns-clause-bytes : goal.returns-clause-bytes
returns-clause-bytes c =
    let at = c.self.inside.at in
    let n = c.min-count.result in
    let bytes = c.self.inside.bytes.items in
    let behind = drop n c.args.buf.now in
    let left : drop at bytes ≡ c.args.self.now.left = ap (λ (s : SourceView). s.left) c.self.view_is in
    let copied = rw (c.deref.ensures.value, take_rest bytes at) at c.copy_from_slice.ensures.after in
    let count = rw (c.deref.ensures.value, take_rest bytes at) at c.min-count.ensures in
    let fits : n ≤ length (drop at bytes) = omega (arith, count) in (
      rw (← left, copied) (given-next bytes behind at n fits),
      λ none room. drop_all (at + n) bytes
          (omega (
            arith,
            none,
            room,
            count,
            length-append c.copy_from_slice.new.self behind,
            length-drop n c.args.buf.now,
            length-drop at bytes,
            c.copy_from_slice.ensures.len,
          )),
    )
