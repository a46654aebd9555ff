use Rattle.std.proofs.Common.{◌++◌, take, drop, sym, ap, ◌∙◌, take-append-drop}
use Rattle.std.proofs.KnownBytes.{append_known-moved}
use Rattle.outside_io.proofs.GatheredLemmas.{none-waits}
use Rattle.outside_io.proofs.std_edge.StdSink.send.Goals as goal

pub returns-clause-sent : goal.returns-clause-sent
returns-clause-sent g c =
    let n = c.write_out-count.result.0 in
    let rest = c.counted.ensures.gathered ∙ c.let_go.ensures ∙ ap (drop n) (sym c.as_slice.ensures) in
    rw (c.counted.ensures.same)
    (none-waits c.write_out-count.result.1 c.as_slice.result.now _ n rest c.write_out-count.ensures.all)

-- what was written and what waits on are what waited
pub returns-clause-bytes : goal.returns-clause-bytes
returns-clause-bytes g c =
    let n = c.write_out-count.result.0 in
    let held = c.as_slice.result.now in
    let rest = c.let_go.ensures ∙ ap (drop n) (sym c.as_slice.ensures) in
    rw (c.counted.ensures.inner, c.counted.ensures.gathered)
    (append_known-moved _ _ (take n held) _ _ c.write_out-count.ensures.bytes
    (sym c.as_slice.ensures ∙ sym (take-append-drop n held) ∙ ap (λ l. take n held ++ l) (sym rest)))
