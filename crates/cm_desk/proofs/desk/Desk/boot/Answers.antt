use Rattle.std.proofs.Common.{ℕ, [], refl, arith}
use Rattle.std.specs.Prelude.{◌==◌}
use Rattle.std.specs.List.{IsDistinct}
use Rattle.sound_laws.proofs.BootLemmas.{boot_steady}
use Rattle.cm_desk.proofs.desk.Desk.boot.Goals as goal

-- no serial is given twice
none_twice : IsDistinct (λ (m n : ℕ). m == n) []
unfolding IsDistinct
none_twice = tt

-- nothing was made yet
pub invariant_of-result : goal.invariant_of-result
invariant_of-result g c = (
  record {
    valid = rw (c.in_ok-works.ensures.booted) c.in_ok-works.ensures.valid;
    legal = rw (c.in_ok-history.ensures.items) tt;
    sound = rw (c.in_ok-history.ensures.items)
        (record {
          loans = tt;
          updates = tt;
          configurations = tt;
          requests =
              record { tickets = tt; whole = tt; fallbacks = tt };
          unloads = tt;
        });
    ends = rw (c.in_ok-history.ensures.items, c.in_ok-works.ensures.booted, c.blanks-at_boot.ensures) refl;
    steady = rw (c.in_ok-works.ensures.booted) (boot_steady c.args.checked (c.args.stock) c.args.sessions);
    numbered = rw (c.in_ok-works.ensures.booted) (record { rising = tt; once = none_twice; below = tt });
    few = rw (c.in_ok-history.ensures.items, c.in_ok-works.ensures.booted) (omega arith);
    room = rw (c.in_ok-history.ensures.items, c.in_ok-works.ensures.booted)
        (omega (arith, c.in_ok-history.ensures.capacity));
    places = rw (c.in_ok-works.ensures.booted) (omega arith);
  },
  c.new.ensures.items,
)

pub returns : goal.returns
returns g c = rw (c.in_ok-history.ensures.items, c.in_ok-works.ensures.booted, c.blanks-at_boot.ensures) refl
