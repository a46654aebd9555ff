-- Of the passes of the lock the last is the loop's, and the others are those of the sessions.
use Rattle.std.proofs.Common.{◌≡◌, ℕ, ◌+◌, ◌<◌, refl, List, [], ◌∷◌, ◌++◌, map, length}
use Rattle.std.proofs.Common.{length-append, get_or, All, Some, sym, ap, subst, ◌∙◌, arith}
use Rattle.std.specs.List.{range_with_len}
use Rattle.std.proofs.lemmas.List.{get_or_append_left, get_or-map, length-map}
use Rattle.std.proofs.lemmas.List.FromFn.{length-range_with_len, get_or-range_with_len}
use Rattle.std.proofs.Math.Seq.{get_or-append_seam}
use Rattle.cm_desk.specs.Desk.{History}
use Rattle.cm_model.specs.State.{State}
use Rattle.cm_model.specs.declared.entry.Entry.{Entry}
use Rattle.turn_lock.specs.declared.kept.Kept.{Ghosts}
use Rattle.turn_lock.specs.declared.lock.TurnLock.{TurnLock}
use Rattle.turn_lock.specs.declared.pass.TurnPass.{TurnPass}
use Rattle.turn_lock.specs.Calls.Make.{Made}
use Rattle.turn_lock.specs.Passes.{view, IsReady}
use Rattle.shared_desk.specs.Calls.Share.{Shares}
use Rattle.shared_desk.specs.Passes.{IsAt, IsSessionPass, IsLoopPass}

one_less : (n k : ℕ) → k + 1 ≡ n + 1 → k ≡ n
one_less n k same = omega (arith, same)

module _ {K : Type 0} {g : Ghosts K Entry State} (lock : TurnLock K Entry State) (desk : History) where
  -- so many sessions as there are passes but the last
  sessions_are : (ps : List (TurnPass K Entry State g)) (last : TurnPass K Entry State g)
      → Made desk.opening (desk.opening.sessions + 1) lock (ps ++ last ∷ [])
      → length ps ≡ desk.opening.sessions
  sessions_are ps last made =
      one_less desk.opening.sessions (length ps)
      (sym (length-append ps (last ∷ []))
      ∙ sym (length-map (ps ++ last ∷ []) (λ (p : TurnPass K Entry State g). p.number))
      ∙ ap length made.passes_are.numbers
      ∙ length-range_with_len 0 (desk.opening.sessions + 1))

  -- what was made of a value is made of this desk
  pub made_here : (opening : State) (seats : ℕ) (all : List (TurnPass K Entry State g)) → opening ≡ desk.opening
      → seats ≡ desk.opening.sessions + 1 → Made opening seats lock all
      → Made desk.opening (desk.opening.sessions + 1) lock all
  made_here opening seats all same many made =
      subst (λ (s : State). Made s (desk.opening.sessions + 1) lock all) same
      (subst (λ (n : ℕ). Made opening n lock all) many made)

  -- each pass that was made is one of the desk,
  pass_at : (all : List (TurnPass K Entry State g)) → Made desk.opening (desk.opening.sessions + 1) lock all
      → All (IsAt lock desk) all
  pass_at all made = λ k d low. record {
    ready = (made.passes_are.of_lock k d low, (made.passes_are.fresh k d low).idle);
    ground_is = (made.passes_are.fresh k d low).footing_is;
  }

  -- and has its place as its number
  number_at : (all : List (TurnPass K Entry State g)) → Made desk.opening (desk.opening.sessions + 1) lock all
      → (k : ℕ) (d : TurnPass K Entry State g) → k < length all → k < desk.opening.sessions + 1
      → (get_or all k d).number ≡ k
  number_at all made k d low few =
      sym (get_or-map (λ (p : TurnPass K Entry State g). p.number) all k d d.number low)
      ∙ ap (λ (ns : List ℕ). get_or ns k d.number) made.passes_are.numbers
      ∙ get_or-range_with_len 0 (desk.opening.sessions + 1) k d.number few ∙ omega arith

  pub shares : (all ps : List (TurnPass K Entry State g)) (last : TurnPass K Entry State g) → all ≡ ps ++ last ∷ []
      → Made desk.opening (desk.opening.sessions + 1) lock all
      → Shares desk lock desk last ps
  shares all ps last split made_all =
      let made : Made desk.opening (desk.opening.sessions + 1) lock (ps ++ last ∷ []) =
      subst (λ (xs : List (TurnPass K Entry State g)). Made desk.opening (desk.opening.sessions + 1) lock xs) split
      made_all in
      let many : length ps ≡ desk.opening.sessions = sessions_are ps last made in
      let long : length (ps ++ last ∷ []) ≡ length ps + 1 = length-append ps (last ∷ []) in
      let here : get_or (ps ++ last ∷ []) (length ps) last ≡ last = get_or-append_seam ps last [] last in
      let its_number : last.number ≡ (get_or (ps ++ last ∷ []) (length ps) last).number =
      ap (λ (p : TurnPass K Entry State g). p.number) (sym here) in
      record {
        first_is = refl;
        made = made;
        looping_is = record {
          at = subst (IsAt lock desk) here (pass_at (ps ++ last ∷ []) made (length ps) last (omega (arith, long)));
          loop = its_number
              ∙ number_at (ps ++ last ∷ []) made (length ps) last (omega (arith, long)) (omega (arith, many)) ∙ many;
        };
        passes_are = λ k d low.
            let there : get_or (ps ++ last ∷ []) k d ≡ get_or ps k d = get_or_append_left ps (last ∷ []) d k low in
            let among : k < length (ps ++ last ∷ []) = omega (arith, long) in
            let its_place : (get_or ps k d).number ≡ k =
            ap (λ (p : TurnPass K Entry State g). p.number) (sym there)
            ∙ number_at (ps ++ last ∷ []) made k d among (omega (arith, many)) in
            record {
              at = subst (IsAt lock desk) there (pass_at (ps ++ last ∷ []) made k d among);
              session = omega (arith, its_place, many);
            };
      }

  -- the same of a desk as it was shared
  pub shares_first : (first : History) (all ps : List (TurnPass K Entry State g)) (last : TurnPass K Entry State g)
      → first ≡ desk → all ≡ ps ++ last ∷ []
      → Made desk.opening (desk.opening.sessions + 1) lock all → Shares desk lock first last ps
  shares_first first all ps last same split made =
      subst (λ (h : History). Shares desk lock h last ps) (sym same) (shares all ps last split made)

  -- there is a pass
  pub some_pass : (all : List (TurnPass K Entry State g)) → Made desk.opening (desk.opening.sessions + 1) lock all
      → length all ≡ 0 → ⊥
  some_pass all made none =
      let long : length all ≡ desk.opening.sessions + 1 =
      sym (length-map all (λ (p : TurnPass K Entry State g). p.number)) ∙ ap length made.passes_are.numbers
      ∙ length-range_with_len 0 (desk.opening.sessions + 1) in
      omega (arith, long, none)
