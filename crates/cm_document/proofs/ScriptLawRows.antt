-- A script with every form keeps the rules and uses accepted forms alone, so the laws of scripts speak of it.
use Rattle.std.proofs.Common.{[], ◌∷◌, pos, negsuc, true, false, arith, rules}
use Rattle.std.specs.Prelude.{codes}
use Rattle.cm_document.specs.Grammars.{whole_grammar}
use Rattle.cm_document.specs.ScriptLaws.{MeetsRules, UsesGrammar}
use Rattle.cm_document.specs.declared.call.Call.TheVariants.{Load, Configure, Cleanup, Unload, Rate, Send}
use Rattle.cm_document.specs.declared.call.Call.TheVariants.{Switch, Hardware, Await, ListControllers}
use Rattle.cm_document.specs.declared.call.Call.TheVariants.{ListInterfaces, ListComponents}
use Rattle.cm_document.specs.declared.call.Mail.TheVariants.{Values, Points}
use Rattle.cm_document.specs.declared.call.Pick.TheVariants.{One, Group}
use Rattle.cm_document.specs.declared.life.Life.TheVariants.{Finalized}
use Rattle.cm_document.specs.declared.script.Script.{Script}
use Rattle.cm_document.specs.declared.script.Turn.TheVariants as turn

-- a script of two sessions and a schedule
every_line : Script
every_line = record {
  sessions = record {
    name = codes "a";
    lines = Load (codes "c") ∷ Configure (codes "c") ∷ Cleanup (codes "c") ∷ Unload (codes "c") ∷ Rate (codes "c") 10000
        ∷ Send (codes "c") (Values (pos 500000 ∷ negsuc 999999999999999 ∷ []))
        ∷ Send (codes "c")
        (Points (record { at_us = 1; values = pos 1000000 ∷ [] }
        ∷ record { at_us = 999999999; values = pos 3000000 ∷ [] } ∷ []))
        ∷ Switch (record { on = One (codes "c") ∷ Group (codes "e") ∷ []; off = One (codes "d") ∷ []; strict = true })
        ∷ Switch (record { on = []; off = []; strict = false })
        ∷ Hardware (codes "arm") Finalized ∷ Await 999999999 ∷ ListControllers ∷ ListInterfaces ∷ ListComponents ∷ [];
  } ∷ record { name = codes "b"; lines = [] } ∷ [];
  schedule = turn.Step 1 ∷ turn.Begin ∷ turn.Step 0 ∷ turn.End ∷ [];
}

meets : MeetsRules every_line
unfolding every_line
meets = search (arith, rules)

uses : UsesGrammar whole_grammar every_line
unfolding every_line
uses = search (arith, rules)
