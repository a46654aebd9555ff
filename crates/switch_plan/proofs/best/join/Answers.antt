use Rattle.std.proofs.Common.{◌≡◌, List, [], ◌∷◌, ◌++◌, ◌∙◌, ap, ap₂, sym}
use Rattle.cm_document.specs.declared.description.CtlDesc.{CtlDesc}
use Rattle.cm_model.specs.Order.{Places, set_of}
use Rattle.cm_model.specs.Switches.{with_name}
use Rattle.cm_model.specs.BestEffort.{Joined}
use Rattle.cm_model.specs.declared.cause.Dropped.{Dropped}
use Rattle.switch_plan.specs.Settings.{set_scene}
use Rattle.switch_plan.proofs.JoinLemmas.{join-none, join-some, put_back}
use Rattle.switch_plan.proofs.best.join.Goals as goal

-- nothing speaks against it, as the relations show
pub returns-then-is_seen_free-clause-joined : goal.returns-then-is_seen_free-clause-joined
returns-then-is_seen_free-clause-joined c =
    sym (join-none (set_scene c.args.setting.now) (set_of c.args.on.now) (set_of c.args.set.now)
    (set_of c.insert.new.self) c.args.dropped.now.items c.args.member.now
    c.insert.ensures.set (c.is_seen_free.ensures c.if-is_seen_free.true (set_of c.args.on.now)))

pub returns-in_default-clause-joined : goal.returns-in_default-clause-joined
returns-in_default-clause-joined c =
    sym (join-none (set_scene c.args.setting.now) (set_of c.args.on.now) (set_of c.args.set.now)
    (set_of c.insert.new.self) c.args.dropped.now.items c.args.member.now
    c.insert.ensures.set (sym c.in_ok-cause.ensures ∙ c.in_default.is))

-- something does, and the set is as it was
pub returns-clause-joined : goal.returns-clause-joined
returns-clause-joined c =
    let scene = set_scene c.args.setting.now in
    let m = c.args.member.now in
    ap₂ (λ (set : Places) (dropped : List Dropped). let j : Joined = record { set = set; dropped = dropped } in j)
    (put_back (set_of c.args.set.now) (set_of c.insert.new.self) (set_of c.put.new.self) m.place
    c.has-was_member.result c.has-was_member.ensures c.insert.ensures.set c.put.ensures.set)
    (c.in_ok-drop_for.ensures
    ∙ ap (λ (d : CtlDesc). c.args.dropped.now.items ++ with_name d.name c.in-Some.cause ∷ []) c.described.ensures)
    ∙ sym (join-some scene (set_of c.args.on.now) (set_of c.args.set.now) (set_of c.insert.new.self)
    c.args.dropped.now.items m c.in-Some.cause
    c.insert.ensures.set (sym c.in_ok-cause.ensures ∙ c.in-Some.is))
