-- Scripts that were written down by hand with what they say, or with their first bad line: computed from the
-- definitions.
use Rattle.std.proofs.Common.{◌≡◌, refl, List, ℕ, [], ◌∷◌, Result, Ok, Err, pos, negsuc, true, false}
use Rattle.std.specs.Prelude.{codes}
use Rattle.std.specs.Fmt.{digits}
use Rattle.fixed_num.specs.Text.{number_of, spelled}
use Rattle.cm_document.specs.Reading.{◌>>=◌}
use Rattle.cm_document.specs.Grammars.{whole_grammar}
use Rattle.cm_document.specs.CallText.{script_text}
use Rattle.cm_document.specs.ScriptRules.{with_line, script_with}
use Rattle.cm_document.specs.declared.call.Call.TheVariants.{Load, Configure, Cleanup, Unload, Rate, Send}
use Rattle.cm_document.specs.declared.call.Call.TheVariants.{Switch, Hardware, Await, ListControllers}
use Rattle.cm_document.specs.declared.call.Call.TheVariants.{ListInterfaces, ListComponents}
use Rattle.cm_document.specs.declared.call.Mail.TheVariants.{Values, Points}
use Rattle.cm_document.specs.declared.call.Pick.TheVariants.{One, Group}
use Rattle.cm_document.specs.declared.life.Life.TheVariants.{Finalized}
use Rattle.cm_document.specs.declared.script.Turn.TheVariants as turn
use Rattle.cm_document.specs.declared.faults.ScriptFault.{ScriptFault}
use Rattle.cm_document.specs.declared.faults.ScriptFault.TheVariants.{BadLine, NoSession, TooMany}

-- what a script prints as that a text is
abbrev reprinted : List ℕ → Result (List ℕ) ScriptFault
reprinted text = script_with whole_grammar 1 text >>= λ s. Ok (script_text s)

-- blanks and comments go
blanks_go : reprinted (codes "  session   a\n# x\nload mk \n") ≡ Ok (codes "session a\nload mk\n")
unfolding script_with with_line script_text number_of spelled digits
blanks_go = refl

-- one joint's script, with a last line that has no form
no_form : script_with whole_grammar 20 (codes "session a\nload fwd\nconfigure fwd\nswitch strict +fwd\njump fwd\n")
    ≡ Err (BadLine 24)
unfolding script_with with_line script_text number_of spelled digits
no_form = refl

-- a call before any session
no_session : script_with whole_grammar 20
    (codes "load fwd\nload fwd\nconfigure fwd\nswitch strict +fwd\nsend fwd 0.5\n") ≡ Err (NoSession 20)
unfolding script_with with_line script_text number_of spelled digits
no_session = refl

-- every form of a session's line
every_call : script_with whole_grammar 1
    (codes "session a\nload c\nconfigure c\ncleanup c\nunload c\nrate c 007\nsend c 0.5 -1\nsend c @1 1 2 @20 3 4\nswitch strict +c -d +@e\nswitch best\nhw arm finalized\nawait 12\nlist controllers\nlist interfaces\nlist components\n")
    ≡ Ok (record {
      sessions = record {
        name = codes "a";
        lines = Load (codes "c") ∷ Configure (codes "c") ∷ Cleanup (codes "c") ∷ Unload (codes "c") ∷ Rate (codes "c") 7
            ∷ Send (codes "c") (Values (pos 500000 ∷ negsuc 999999 ∷ []))
            ∷ Send (codes "c")
            (Points (record { at_us = 1; values = pos 1000000 ∷ pos 2000000 ∷ [] }
            ∷ record { at_us = 20; values = pos 3000000 ∷ pos 4000000 ∷ [] } ∷ []))
            ∷ Switch (record
            { on = One (codes "c") ∷ Group (codes "e") ∷ []; off = One (codes "d") ∷ []; strict = true })
            ∷ Switch (record { on = []; off = []; strict = false })
            ∷ Hardware (codes "arm") Finalized ∷ Await 12 ∷ ListControllers ∷ ListInterfaces ∷ ListComponents ∷ [];
      } ∷ [];
      schedule = [];
    })
unfolding script_with with_line script_text number_of spelled digits
every_call = refl

-- its text: numbers in their one spelling, names to deactivate before those to activate
printed_calls : reprinted
    (codes "session a\nrate c 007\nsend c 0.5 -1\nsend c @1 1 2 @20 3 -0\nswitch strict +c -@d +@e\nswitch best\n")
    ≡ Ok (codes "session a\nrate c 7\nsend c 0.500000 -1.000000\nsend c @1 1.000000 2.000000 @20 3.000000 0.000000\nswitch strict -@d +c +@e\nswitch best\n")
unfolding script_with with_line script_text number_of spelled digits
printed_calls = refl

-- a schedule of two sessions
scheduled_turns : script_with whole_grammar 1
    (codes "session a\nload c\nsession b\nschedule\nstep b\nbegin\nstep a\nend\n")
    ≡ Ok (record {
      sessions = record { name = codes "a"; lines = Load (codes "c") ∷ [] } ∷ record { name = codes "b"; lines = [] }
          ∷ [];
      schedule = turn.Step 1 ∷ turn.Begin ∷ turn.Step 0 ∷ turn.End ∷ [];
    })
unfolding script_with with_line script_text number_of spelled digits
scheduled_turns = refl

-- a group without a name, and one before its sign
nameless_group : script_with whole_grammar 1 (codes "session a\nswitch strict +@\n") ≡ Err (BadLine 2)
unfolding script_with with_line script_text number_of spelled digits
nameless_group = refl

unsigned_group : script_with whole_grammar 1 (codes "session a\nswitch strict @+e\n") ≡ Err (BadLine 2)
unfolding script_with with_line script_text number_of spelled digits
unsigned_group = refl

-- times that stand still are no points
times_stand_still : script_with whole_grammar 1 (codes "session a\nsend c @5 1 @5 2\n") ≡ Err (BadLine 2)
unfolding script_with with_line script_text number_of spelled digits
times_stand_still = refl

-- a call behind the schedule, and a turn before it
wrong_side : script_with whole_grammar 1 (codes "session a\nschedule\nload c\n") ≡ Err (BadLine 3)
unfolding script_with with_line script_text number_of spelled digits
wrong_side = refl

turn_too_early : script_with whole_grammar 1 (codes "session a\nbegin\n") ≡ Err (BadLine 2)
unfolding script_with with_line script_text number_of spelled digits
turn_too_early = refl

-- the ninth session
ninth : script_with whole_grammar 1
    (codes "session a\nsession b\nsession c\nsession d\nsession e\nsession f\nsession g\nsession h\nsession i\n")
    ≡ Err (TooMany 9)
unfolding script_with with_line script_text number_of spelled digits
ninth = refl

-- a ninth session of a used name
ninth_again : script_with whole_grammar 1
    (codes "session a\nsession b\nsession c\nsession d\nsession e\nsession f\nsession g\nsession h\nsession a\n")
    ≡ Err (BadLine 9)
unfolding script_with with_line script_text number_of spelled digits
ninth_again = refl
