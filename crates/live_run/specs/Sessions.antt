-- A session over its console, before a live run and after it.
use Rattle.std.specs.Prelude.{◌≡◌, ℕ, ◌<◌, true, List, [], length, slice_index_or}
use Rattle.std.specs.Prelude.{None, is_none}
use Rattle.std.specs.List.{AllByRecursion}
use Rattle.cm_model.specs.Ports.{Console}
use Rattle.cm_model.specs.Sessions.{Comes, Follows}
use Rattle.console_session.specs.Sessions.{SessionState, IsLine, left_of, next_of}

-- A session before its first line, over a console that has made no entry.
pub record IsAtItsStart (c : Console) (x : SessionState) : Type 0 where
  pub line : x.line ≡ 0
  pub ticket : x.ticket ≡ None
  pub none : c.made ≡ []

module _ {P Ground : Type 0} (footing : P → Ground) (tells : P → Console) where
  -- A session ran to its end: its console has the footing that it had, and its entries follow the session's lines.
  pub record HasFollowed (s : SessionState × P) (port : P) : Type 0 where
    pub still : footing port ≡ footing s.1
    pub follows : Follows s.0.lines (tells port).made

  -- It ran as far as it could: its console has the footing that it had, and where the session has no next call the
  -- entries of its console follow its lines.
  pub record HasRunLive (old new : SessionState × P) : Type 0 where
    pub still : footing new.1 ≡ footing old.1
    pub follows : is_none (next_of new.0) ≡ true → Follows old.0.lines (tells new.1).made

  -- each of them, place by place
  pub record EachHasRun (old new : List (SessionState × P)) : Type 0 where
    pub as_many : length new ≡ length old
    pub each : (i : ℕ) (d : SessionState × P)
        → i < length old → HasRunLive (slice_index_or old i d) (slice_index_or new i d)

-- ---- While it runs

module _ {P Ground : Type 0} (footing : P → Ground) (tells : P → Console) where
  -- Where a session has come over its console, since it was before its first line.
  pub record GoesOn (first now : SessionState × P) : Type 0 where
    pub still : footing now.1 ≡ footing first.1
    pub each : AllByRecursion IsLine first.0.lines
    pub lines : now.0.lines ≡ first.0.lines
    pub comes : Comes (tells now.1).made now.0.lines (left_of now.0).lines now.0.ticket

  -- what it does next leaves it on its way
  abbrev pub KeepsOn : SessionState × P → SessionState × P → Type 0
  KeepsOn old new = (first : SessionState × P) → GoesOn first old → GoesOn first new
