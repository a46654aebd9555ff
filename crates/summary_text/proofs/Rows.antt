-- Small histories with the summaries that were written down for them by hand: computed from the definitions.
use Rattle.std.proofs.Common.{◌≡◌, refl, ℕ, List, [], ◌∷◌, Some, pos}
use Rattle.std.specs.Prelude.{codes}
use Rattle.std.specs.Fmt.{digits}
use Rattle.fixed_num.specs.Text.{spelled}
use Rattle.fixed_num.specs.declared.value.BodyState.{BodyState}
use Rattle.iface_names.specs.declared.kind.Kind.TheVariants.{Position}
use Rattle.cm_document.specs.Described.{a_component, a_description, a_joint}
use Rattle.cm_document.specs.declared.call.Call.TheVariants as call
use Rattle.cm_document.specs.declared.description.CompKind.TheVariants.{System}
use Rattle.cm_document.specs.declared.description.Description.{Description}
use Rattle.cm_document.specs.declared.description.JointDesc.{JointDesc}
use Rattle.cm_document.specs.declared.life.Life.TheVariants.{Unconfigured, Active}
use Rattle.cm_storage.specs.Ran.{Ran}
use Rattle.cm_model.specs.declared.cause.Cause.TheVariants.{Unknown}
use Rattle.cm_model.specs.declared.cause.Decision.{Decision}
use Rattle.cm_model.specs.declared.cause.Outcome.{Outcome}
use Rattle.cm_model.specs.declared.cause.Outcome.TheVariants as outcome
use Rattle.cm_storage.specs.declared.ran.Done.TheVariants as done
use Rattle.cm_model.specs.declared.reply.Reply.TheVariants as reply
use Rattle.summary_text.specs.Summary.{summary}

-- a joint that stands at a half
abbrev joint : List ℕ → JointDesc
joint name = a_joint name (pos 1000000) (pos 1000000) (pos 0) (pos 500000) (pos 0) (Position ∷ []) (Position ∷ [])

-- two joints in two components
abbrev robot : Description
robot = a_description 1 100 2
    (a_component (codes "arm") System Active Unconfigured [] [] (joint (codes "j1") ∷ [])
    ∷ a_component (codes "hand") System Active Unconfigured [] [] (joint (codes "j2") ∷ []) ∷ []) []

-- an update that went well, and a body at this position
abbrev ran : ℕ → Ran
ran serial = record { serial = serial; done = done.Ok; outs = []; published = [] }

abbrev at : ℕ → BodyState
at x = record { x = pos x; v = pos 0; f = pos 0 }

-- a decided request
abbrev decided : ℕ → Outcome → Decision
decided ticket became = record { ticket = Some ticket; outcome = became }

-- of no entry all counts are 0, and each joint is where it is described
of_nothing : summary robot []
    ≡ codes "cycles 0\nentries 0\nupdates 0\nasks 0 done 0 refused 0 ended 0\njoint j1 0.500000\njoint j2 0.500000\n"
unfolding summary spelled digits
of_nothing = refl

-- Two cycles with three updates, one of them of a controller that failed; a request of each outcome; and the positions
-- after the second cycle, not those after the first.
of_two_cycles : summary robot (
    record { who = 0; call = call.Load (codes "f"); reply = reply.Serial 0 }
    ∷ record {
      who = 1;
      call = call.Begin 0;
      reply =
          reply.Decisions (decided 0 (outcome.Done []) ∷ decided 1 (outcome.Refused (codes "g") Unknown) ∷ []);
    }
    ∷ record {
      who = 1;
      call = call.End 0;
      reply =
          reply.Cycle (record
          { cycle = 0; failed = []; ran = ran 0 ∷ ran 1 ∷ []; bodies = at 1 ∷ at 2 ∷ []; stops = [] });
    }
    ∷ record { who = 1; call = call.Begin 1; reply = reply.Decisions [] }
    ∷ record {
      who = 1;
      call = call.End 1;
      reply =
          reply.Cycle (record {
            cycle = 1;
            failed = [];
            ran =
                record { serial = 1; done = done.Error; outs = []; published = [] } ∷ [];
            bodies = at 1500000 ∷ at 20 ∷ [];
            stops = 1 ∷ [];
          });
    }
    ∷ record { who = 1; call = call.Close; reply = reply.Decisions (decided 2 outcome.LoopEnded ∷ []) } ∷ [])
    ≡ codes "cycles 2\nentries 6\nupdates 3\nasks 3 done 1 refused 1 ended 1\njoint j1 1.500000\njoint j2 0.000020\n"
unfolding summary spelled digits
of_two_cycles = refl
