use Rattle.trace_text.proofs.items.push_in_words.Goals as goal

pub returns-in_ok-push_items-in-Controllers : goal.returns-in_ok-push_items-in-Controllers
returns-in_ok-push_items-in-Controllers c =
    rw (c.in-Controllers.is, ← c.get-in-Controllers.ensures, ← c.as_slice.ensures)
    c.in_ok-push_items-in-Controllers.ensures

pub returns-in_ok-push_items-in-Decisions : goal.returns-in_ok-push_items-in-Decisions
returns-in_ok-push_items-in-Decisions c =
    rw (c.in-Decisions.is, ← c.as_slice-in-Decisions.ensures) c.in_ok-push_items-in-Decisions.ensures
