-- What is told of the failures of a cycle, and how many can be told.
use Rattle.std.proofs.Common.{◌≡◌, ℕ, ◌+◌, ◌≤◌, Bool, true, false, List, []}
use Rattle.std.proofs.Common.{◌∷◌, ◌++◌, map, length, refl, sym, ap, ◌∙◌, arith}
use Rattle.std.specs.Prelude.{◌==◌, not, ◌&&◌, ◌||◌, filter}
use Rattle.std.specs.List.{range_with_len}
use Rattle.std.proofs.lemmas.List.{length-map}
use Rattle.sequence.proofs.ListLemmas.{not_empty}
use Rattle.cm_model.specs.Components.{is_listed, is_available, write_runs, read_fails, write_fails}
use Rattle.cm_model.specs.Cycle.{component_is}
use Rattle.cm_model.specs.State.{State}
use Rattle.cm_storage.specs.declared.record.FailedPart.{FailedPart}
use Rattle.cm_hardware.specs.Holding.{reads_failed_in, writes_failed_in}
use Rattle.cm_hardware.specs.Wiring.{Mounted, IsWired, failure, failures, read, fails_read, fails_write}
use Rattle.cm_hardware.specs.Wiring.{failed_reads, failed_writes, one_if, count, can_fail, most_failures}
use Rattle.cm_hardware.proofs.ReadLemmas.{Agrees}
use Rattle.cm_hardware.proofs.StateLemmas.{asked_of, agrees_in}

-- ---- Which are told

-- what is told of the component at a place
abbrev part : Bool → ℕ → FailedPart
part reading place = record { place = place; reading = reading }

failures_agree_next : (reading : Bool) (test : ℕ → Bool) (holds : Mounted → Bool) (k : ℕ) (m : Mounted)
    (ms : List Mounted) (here : Bool) → holds m ≡ here → test k ≡ here
    → failures reading holds (k + 1) ms ≡ map (part reading) (filter test (range_with_len (k + 1) (length ms)))
    → failures reading holds k (m ∷ ms) ≡ map (part reading) (filter test (range_with_len k (length (m ∷ ms))))
failures_agree_next reading test holds k m ms true is at rest =
    rw (is, at) (ap (λ (l : List FailedPart). part reading k ∷ l) rest)
failures_agree_next reading test holds k m ms false is at rest = rw (is, at) rest

-- of the components from this place on those are told whose places pass the test
failures_agree : (reading : Bool) (test : ℕ → Bool) (holds : Mounted → Bool) (k : ℕ) (ms : List Mounted)
    → Agrees test holds k ms
    → failures reading holds k ms ≡ map (part reading) (filter test (range_with_len k (length ms)))
failures_agree reading test holds k [] agrees = refl
failures_agree reading test holds k (m ∷ ms) agrees =
    failures_agree_next reading test holds k m ms (holds m) refl agrees.0
    (failures_agree reading test holds (k + 1) ms agrees.1)

-- whether a write fails is asked of a component after its read
writes_agree : (n k : ℕ) (ms : List Mounted)
    → failed_writes n k (map (read n) ms) ≡ failures false (asked_of write_fails n) k ms
writes_agree n k [] = refl
writes_agree n k (m ∷ ms) =
    ap (λ (l : List FailedPart). failure k false (fails_write n (read n m)) ++ l) (writes_agree n (k + 1) ms)

-- What is told of reads is what a cycle of the state tells of them.
pub reads_told : (s : State) (ms : List Mounted) → IsWired s ms → failed_reads s.ended 0 ms ≡ reads_failed_in s
reads_told s ms wired =
    let number : length ms ≡ length s.description.components =
    sym (length-map ms (λ (m : Mounted). m.hardware.description)) ∙ ap length (sym wired.components) in
    rw (sym number)
    (failures_agree true (component_is read_fails s) (fails_read s.ended) 0 ms (agrees_in read_fails s ms wired))

-- So it is of writes.
pub writes_told : (s : State) (ms : List Mounted) → IsWired s ms
    → failed_writes s.ended 0 (map (read s.ended) ms) ≡ writes_failed_in s
writes_told s ms wired =
    let number : length ms ≡ length s.description.components =
    sym (length-map ms (λ (m : Mounted). m.hardware.description)) ∙ ap length (sym wired.components) in
    writes_agree s.ended 0 ms
    ∙ rw (sym number)
    (failures_agree false (component_is write_fails s) (asked_of write_fails s.ended) 0 ms
    (agrees_in write_fails s ms wired))

-- ---- How many

-- a list in which something is listed is not empty
listed_some : (cycles : List ℕ) (n : ℕ) → is_listed cycles n ≡ true → (length cycles == 0) ≡ false
listed_some [] n listed = cc
listed_some (c ∷ cycles) n listed = not_empty (c ∷ cycles) (omega arith)

-- both of two
pub both_first : (a b : Bool) → (a && b) ≡ true → a ≡ true
both_first true b e = refl
both_first false b e = cc

pub both_second : (a b : Bool) → (a && b) ≡ true → b ≡ true
both_second true b e = e
both_second false b e = cc

-- Of a read and a write one fails at most, and then something is listed.
one_fails : (r f l a b : Bool) → (f ≡ true → a ≡ false) → (l ≡ true → b ≡ false)
    → one_if f + one_if ((r && not f) && l) ≤ one_if (not a || not b)
one_fails r true l true b reads writes = let e : true ≡ false = reads refl in cc
one_fails true true l false b reads writes = omega arith
one_fails false true l false b reads writes = omega arith
one_fails r false true a true reads writes = let e : true ≡ false = writes refl in cc
one_fails true false true true false reads writes = omega arith
one_fails true false true false false reads writes = omega arith
one_fails false false true a false reads writes = omega arith
one_fails true false false a b reads writes = omega arith
one_fails false false false a b reads writes = omega arith

-- No more failures can be told in a cycle than there are components that can fail.
pub failures_fit : (n : ℕ) (ms : List Mounted)
    → count (fails_read n) ms + count (fails_write n) (map (read n) ms) ≤ most_failures ms
failures_fit n [] = omega arith
failures_fit n (m ∷ ms) =
    let c = m.hardware.description in
    let here : one_if (fails_read n m) + one_if (fails_write n (read n m)) ≤ one_if (can_fail c) =
    one_fails (write_runs m.hardware.life) (fails_read n m) (is_listed c.fail_write n) (length c.fail_read == 0)
    (length c.fail_write == 0)
    (λ (fails : fails_read n m ≡ true). listed_some c.fail_read n
    (both_second (is_available m.hardware.life) (is_listed c.fail_read n) fails))
    (listed_some c.fail_write n) in
    omega (arith, here, failures_fit n ms)
