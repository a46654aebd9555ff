-- What a cycle that was made through any console of the loop makes of what it tells.
use Rattle.std.specs.Prelude.{◌≡◌, ◌-◌, false, [], ◌∷◌, ◌++◌}
use Rattle.cm_document.specs.declared.call.Call.TheVariants.{Begin, End}
use Rattle.cm_model.specs.Histories.{ends_in}
use Rattle.cm_model.specs.Ports.{LoopConsole}
use Rattle.cm_model.specs.Sessions.{calls_of}

-- One cycle more: the loop began it and ended it, under the number of the cycles before it, and no flight is out.
pub record MakesCycle (old new : LoopConsole) : Type 0 where
  pub calls : calls_of new.made ≡ calls_of old.made ++ (Begin (ends_in old.made) ∷ End (ends_in old.made) ∷ [])
  pub left : new.left ≡ old.left - 1
  pub out : new.out ≡ false
  pub closed : new.closed ≡ old.closed
