-- Sentences that were written down by hand: computed from the definitions.
use Rattle.std.proofs.Common.{◌≡◌, refl}
use Rattle.std.specs.Prelude.{true, false, codes}
use Rattle.iface_names.specs.declared.interface.IfaceName.{IfaceName}
use Rattle.iface_names.specs.declared.interface.IfaceName.TheVariants.{Joint, Reference}
use Rattle.iface_names.specs.declared.kind.Kind.TheVariants.{Position}
use Rattle.cm_model.specs.declared.cause.Cause.TheVariants as cause
use Rattle.cm_model.specs.declared.reply.Why.TheVariants as why
use Rattle.draw_causes.specs.declared.failures.Failure.TheVariants as failure
use Rattle.draw_causes.specs.declared.failures.StopKind.TheVariants as stop
use Rattle.draw_causes.specs.Words.{is_own, why_words, why_mend, cause_words}
use Rattle.draw_causes.specs.Words.{cause_mend, fallback_mend, failure_mend, stop_words}
use Rattle.draw_causes.specs.Words.{stop_mend}

-- a joint's own interface, and a reference for it
abbrev own : IfaceName
own = Joint (codes "j1") Position

abbrev reference : IfaceName
reference = Reference (codes "pt") (codes "j1") Position

a_full_queue : why_words why.QueueFull ≡ codes "the queue is full"
a_full_queue = refl

a_full_queue_is_mended : why_mend why.QueueFull ≡ codes "wait until a request is decided, and ask again"
a_full_queue_is_mended = refl

-- Who leads misses who follows; who follows is needed.
it_is_of_another : is_own (codes "lead") (cause.MissingFollower reference) ≡ false
it_is_of_another = refl

it_is_its_own : is_own (codes "pt") (cause.MissingFollower reference) ≡ true
it_is_its_own = refl

of_the_leader : cause_words (codes "lead") (cause.MissingFollower reference)
    ≡ codes "lead claims pt/j1/position, whose controller would not be active"
of_the_leader = refl

of_the_follower : cause_words (codes "pt") (cause.MissingFollower reference)
    ≡ codes "pt is needed, because pt/j1/position is claimed"
of_the_follower = refl

of_both : cause_words (codes "other") (cause.Conflict own (codes "fwd"))
    ≡ codes "other claims j1/position, which fwd claims, too"
of_both = refl

both_are_mended : cause_mend (codes "other") (cause.Conflict own (codes "fwd"))
    ≡ codes "have only one of other and fwd active at a time"
both_are_mended = refl

-- A fallback that is active already is not to be taken off a list; one in conflict is mended like any other.
it_goes_on : fallback_mend (codes "fwd") cause.AlreadyActive ≡ codes "nothing, fwd goes on"
it_goes_on = refl

it_is_to_be_loaded : fallback_mend (codes "fwd") cause.Unknown ≡ codes "load and configure fwd first"
it_is_to_be_loaded = refl

it_is_at_odds : fallback_mend (codes "other") (cause.Conflict own (codes "fwd"))
    ≡ codes "have only one of other and fwd active at a time"
it_is_at_odds = refl

a_read : failure_mend failure.Read ≡ codes "take the cycle out of its fail_read in the document"
a_read = refl

two_modes : cause_words (codes "speed") (cause.ModeRefused (codes "j1"))
    ≡ codes "speed would have j1 driven in two modes"
two_modes = refl

a_stop : stop_words stop.Follower (codes "pt") ≡ codes "it claims a reference of pt, which was stopped"
a_stop = refl

a_stop_is_mended : stop_mend (codes "lead") stop.Component (codes "arm")
    ≡ codes "bring arm to active, then activate lead again"
a_stop_is_mended = refl

a_stop_for_good : stop_words stop.Finalized (codes "arm") ≡ codes "it uses arm, which failed and stays finalized"
a_stop_for_good = refl
