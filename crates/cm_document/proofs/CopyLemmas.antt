-- A copy of a description is the description: each of its parts is copied as it is.
use Rattle.std.proofs.Common.{rules}
use Rattle.std.proofs.lemmas.List.Elements.{same_from_all_zip}
use Rattle.std.specs.Prelude.{◌≡◌}
use Rattle.cm_document.specs.declared.description.Description.{Description}
use Rattle.cm_document.specs.declared.description.JointDesc.{JointDesc}
use Rattle.cm_document.specs.declared.description.CompDesc.{CompDesc}
use Rattle.cm_document.specs.declared.description.CtlDesc.{CtlDesc}
use Rattle.cm_document.specs.declared.description.GroupDesc.{GroupDesc}
use Rattle.cm_document.specs.declared.description.Params.{Params}
use Rattle.cm_document.specs.contracts.description.DescriptionClone.TheImpl as whole
use Rattle.cm_document.specs.contracts.description.JointDescClone.TheImpl as joint
use Rattle.cm_document.specs.contracts.description.CompDescClone.TheImpl as component
use Rattle.cm_document.specs.contracts.description.CtlDescClone.TheImpl as controller
use Rattle.cm_document.specs.contracts.description.GroupDescClone.TheImpl as group
use Rattle.cm_document.specs.contracts.description.ParamsClone.TheImpl as params

-- a controller's parameters
pub same_params : (p q : Params) → (params.is_clone-value).it p q → q ≡ p
same_params p q same = search rules

-- a joint
pub same_joint : (j k : JointDesc) → (joint.is_clone-value).it j k → k ≡ j
same_joint j k same = search (rules, same_from_all_zip)

-- a component, with its joints
pub same_component : (j k : CompDesc) → (component.is_clone-value).it j k → k ≡ j
same_component j k same = search (rules, same_from_all_zip, same_joint)

-- a group
pub same_group : (j k : GroupDesc) → (group.is_clone-value).it j k → k ≡ j
same_group j k same = search (rules, same_from_all_zip)

-- a controller
pub same_controller : (j k : CtlDesc) → (controller.is_clone-value).it j k → k ≡ j
same_controller j k same = search (rules, same_from_all_zip, same_params)

-- a whole description
pub same_description : (d e : Description) → (whole.is_clone-value).it d e → e ≡ d
same_description d e same = search (rules, same_from_all_zip, same_component, same_controller, same_group)
