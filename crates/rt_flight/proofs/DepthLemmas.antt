-- Of the members of a set none precedes another of its depth.
use Rattle.std.proofs.Common.{◌≡◌, ℕ, ◌<◌, true, false, List, subst, arith}
use Rattle.std.specs.Prelude.{None}
use Rattle.std.proofs.lemmas.Bool.{false_from_ne_true}
use Rattle.iface_names.specs.Interfaces.{same_interface}
use Rattle.iface_names.specs.Sameness.{same_interface-Decides}
use Rattle.iface_names.specs.declared.interface.IfaceName.{IfaceName}
use Rattle.cm_document.specs.Links.{is_among, refs_of, first_in_loop}
use Rattle.cm_document.specs.declared.description.CtlDesc.{CtlDesc}
use Rattle.cm_model.specs.Order.{Places, controller_at, depth, precedes_at}
use Rattle.cm_model.specs.Scene.{claims_at}
use Rattle.chain_order.proofs.DepthLemmas.{depth-rises}
use Rattle.switch_plan.proofs.ElementLemmas.{each_fails, some_of}

module _ (cs : List CtlDesc) (free : first_in_loop cs ≡ None) (set : Places) (p q : ℕ) (member : set p ≡ true)
    (same : depth cs set p ≡ depth cs set q) where
  -- what precedes another is less deep
  pub none_precedes : precedes_at cs p q ≡ false
  none_precedes =
      false_from_ne_true (precedes_at cs p q) (λ leads.
      let less : depth cs set p < depth cs set q = depth-rises cs free set p q member leads in
      absurd (omega (arith, less, same)))

  -- so what it claims is no reference of the other
  pub no_reference : (interface : IfaceName) → claims_at cs p interface ≡ true
      → is_among interface (refs_of (controller_at cs q)) ≡ false
  no_reference interface claims =
      let one = some_of (λ claim. same_interface claim interface) (controller_at cs p).claims claims in
      let itself : one.0 ≡ interface = (same_interface-Decides one.0 interface).0 one.2 in
      subst (λ (i : IfaceName). is_among i (refs_of (controller_at cs q)) ≡ false) itself
      (each_fails (λ i. is_among i (refs_of (controller_at cs q))) (controller_at cs p).claims none_precedes one.0
      one.1)
