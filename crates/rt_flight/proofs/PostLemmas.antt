-- A step changes no post: who stands in the cell, of which kind, and how much room it has.
use Rattle.std.proofs.Common.{◌≡◌, ℕ, length, Option, ap, ◌∙◌}
use Rattle.cm_document.specs.declared.call.Mail.{Mail}
use Rattle.cm_document.specs.declared.description.CtlKind.{CtlKind}
use Rattle.cm_model.specs.declared.data.CtlData.{CtlData}
use Rattle.cm_model.specs.declared.tick.Tick.{Tick}
use Rattle.cm_storage.specs.declared.ran.Done.{Done}
use Rattle.rt_flight.specs.Workspaces.{WorkspaceFacts}
use Rattle.rt_flight.specs.Cells.{Post, post_of}

-- the post of this workspace, with this kind and so many outputs
abbrev posted : WorkspaceFacts → CtlKind → ℕ → Post
posted w kind outs = record {
  serial = w.serial;
  place = w.place;
  divisor = w.divisor;
  kind = kind;
  states = length w.states;
  references = length w.references;
  outs = outs;
}

-- other outputs, as many of them, in a workspace that is the same in all else
pub post_stays : (w w' : WorkspaceFacts) (ctl ctl' : CtlData) (mail mail' : Option Mail) (depth : ℕ)
    (turn turn' : Option Tick) (told told' : Option Done)
    → w' ≡ record w { outs = w'.outs } → length w'.outs ≡ length w.outs → ctl'.kind ≡ ctl.kind
    → post_of (record { workspace = w'; ctl = ctl'; mail = mail'; depth = depth; turn = turn'; done = told' })
    ≡ post_of (record { workspace = w; ctl = ctl; mail = mail; depth = depth; turn = turn; done = told })
post_stays w w' ctl ctl' mail mail' depth turn turn' told told' same width kind =
    ap (λ (x : WorkspaceFacts). posted x ctl'.kind (length w'.outs)) same
    ∙ ap (λ (n : ℕ). posted w ctl'.kind n) width
    ∙ ap (λ (k : CtlKind). posted w k (length w.outs)) kind
