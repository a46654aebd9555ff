-- Two interfaces are the same exactly where they are equal: the laws of `==`.
use Rattle.std.specs.Prelude.{◌≡◌}
use Rattle.std.specs.Bool.{Decides}
use Rattle.std.specs.Cmp.{IsEquivalence, decided}
use Rattle.std.proofs.Common.{refl}
use Rattle.std.proofs.lemmas.Bool.Decides.{Decides-and}
use Rattle.std.proofs.lemmas.Slice.Eq.{bytes_eq-Decides}
use Rattle.iface_names.specs.Interfaces.{same_kind, same_interface}
use Rattle.iface_names.specs.declared.interface.IfaceName.{IfaceName}
use Rattle.iface_names.specs.declared.interface.IfaceName.TheVariants.{Joint, Reference}
use Rattle.iface_names.specs.declared.kind.Kind.{Kind}
use Rattle.iface_names.specs.declared.kind.Kind.TheVariants.{Position, Velocity, Effort}

-- two kinds are the same exactly where they are equal
pub same_kind-Decides : (x y : Kind) → Decides (same_kind x y) (x ≡ y)
same_kind-Decides Position Position = (λ _. refl, λ _. refl)
same_kind-Decides Velocity Velocity = (λ _. refl, λ _. refl)
same_kind-Decides Effort Effort = (λ _. refl, λ _. refl)
same_kind-Decides Position Velocity = (λ e. cc, λ e. cc)
same_kind-Decides Position Effort = (λ e. cc, λ e. cc)
same_kind-Decides Velocity Position = (λ e. cc, λ e. cc)
same_kind-Decides Velocity Effort = (λ e. cc, λ e. cc)
same_kind-Decides Effort Position = (λ e. cc, λ e. cc)
same_kind-Decides Effort Velocity = (λ e. cc, λ e. cc)

-- two interfaces are the same exactly where they are equal
pub same_interface-Decides : (x y : IfaceName) → Decides (same_interface x y) (x ≡ y)
same_interface-Decides (Joint j k) (Joint j' k') =
    let both = Decides-and _ _ (bytes_eq-Decides j j') (same_kind-Decides k k') in
    (λ e. let p = both.0 e in cc, λ e. both.1 (cc, cc))
same_interface-Decides (Reference c j k) (Reference c' j' k') =
    let both =
    Decides-and _ _ (Decides-and _ _ (bytes_eq-Decides c c') (bytes_eq-Decides j j')) (same_kind-Decides k k') in
    (λ e. let p = both.0 e in cc, λ e. both.1 ((cc, cc), cc))
same_interface-Decides (Joint j k) (Reference c' j' k') = (λ e. cc, λ e. cc)
same_interface-Decides (Reference c j k) (Joint j' k') = (λ e. cc, λ e. cc)

-- so sameness is an equivalence
pub same_interface-IsEquivalence : IsEquivalence same_interface
same_interface-IsEquivalence = decided same_interface same_interface-Decides
