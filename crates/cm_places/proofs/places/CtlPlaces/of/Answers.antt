use Rattle.cm_document.proofs.ValidParts.{few_controllers}
use Rattle.cm_places.proofs.MakingLemmas.{few_listed, looked_up-placed}
use Rattle.cm_places.proofs.places.CtlPlaces.of.Goals as goal

-- interfaces have numbers of 32 bits
pub reads-requires : goal.reads-requires
reads-requires c =
    rw c.deref.ensures.value
    (few_listed c.args.checked.now c.in_ok-listed.listed.items c.description.ensures.valid c.in_ok-listed.ensures)

pub references-requires : goal.references-requires
references-requires c =
    rw c.deref-2.ensures.value
    (few_listed c.args.checked.now c.in_ok-listed.listed.items c.description.ensures.valid c.in_ok-listed.ensures)

pub claims_of-requires : goal.claims_of-requires
claims_of-requires c =
    rw c.deref-3.ensures.value
    (few_listed c.args.checked.now c.in_ok-listed.listed.items c.description.ensures.valid c.in_ok-listed.ensures)

pub claimers-requires : goal.claimers-requires
claimers-requires c =
    rw (c.as_slice-controllers.ensures, c.description.ensures.same)
    (few_controllers c.args.checked.now c.description.ensures.valid)

-- what is looked up are the places
pub returns : goal.returns
returns c =
    rw (
      c.in_ok-reads.ensures,
      c.in_ok-references.ensures,
      c.in_ok-claims_of.ensures,
      c.in_ok-claimers.ensures,
      c.in_ok-exporters.ensures,
      c.deref.ensures.value,
      c.deref-2.ensures.value,
      c.deref-3.ensures.value,
      c.deref-4.ensures.value,
      c.deref-5.ensures.value,
      c.in_ok-listed.ensures,
      c.as_slice-controllers.ensures,
      c.description.ensures.same,
    )
    (looked_up-placed c.args.checked.now)
