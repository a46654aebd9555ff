-- What a read of a source in memory promises beside what every source does.
use Rattle.std.specs.Prelude.{◌≡◌, ℕ, min, List, length, drop, Result, is_err, IfOk, MatchResult}
use Rattle.outside_io.specs.Failing.{is_listed}
use Rattle.outside_io.specs.Faults.{one_more}
use Rattle.outside_io.specs.InMemory.{SourceView}

-- A read of this source, before and after, into a buffer, before and after.
pub record Gives {E : Type 0} (source source' : SourceView) (buffer buffer' : List ℕ) (result : Result ℕ E) : Type 0
  where
    pub fails_exactly : is_err result ≡ is_listed source.fails source.calls
    -- as many bytes as step, buffer and rest allow
    pub count : IfOk result (λ n. n ≡ min (min source.step (length buffer)) (length source.left))
    -- behind the bytes that it gave the buffer is as it was, and all of it where it failed
    pub untouched : MatchResult result (λ n. drop n buffer' ≡ drop n buffer) (λ _. buffer' ≡ buffer)
    pub step : source'.step ≡ source.step
    pub fails : source'.fails ≡ source.fails
    pub calls : source'.calls ≡ one_more source.calls
