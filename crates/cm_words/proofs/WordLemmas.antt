-- What the command finds on a line, and how it refuses one.
use Rattle.std.proofs.Common.{◌≡◌, ◌⊎◌, refl, sym, ap, subst, ◌∙◌, List, [], ◌∷◌, inl}
use Rattle.std.proofs.Common.{inr, true, Option, None, Result, Ok, Err, IfOk, codes}
use Rattle.std.specs.Prelude.{IfErr}
use Rattle.clap.specs.Simple.{app_of_fields}
use Rattle.clap.specs.Words.{App, FailsBy, HasKind, HasMatchesOf, IsAmong, Kinds, Text, app_of, fault_of, first_of}
use Rattle.clap.specs.Words.{first_value, found_of, is_simple, is_simple_and_free, kind_of, matches_of}
use Rattle.clap.specs.declared.builder.command.Command.{Command}
use Rattle.clap.specs.declared.builder.command.Command.TheOpen.{Command-F}
use Rattle.clap.specs.declared.builder.command.Command.TheViews.{out-Command}
use Rattle.clap.specs.declared.error.Error.{Error}
use Rattle.clap.specs.declared.error.kind.ErrorKind.{ErrorKind}
use Rattle.clap.specs.declared.error.kind.ErrorKind.TheVariants.{OutOfMemory}
use Rattle.clap.specs.declared.parser.matches.ArgMatches.{ArgMatches}
use Rattle.clap.proofs.OnLiterals.{clap_on_literals}
use Rattle.clap.proofs.WalkLemmas.{first_value-rows}
use Rattle.cm_words.specs.Words.{command, flagless, given, unless_at_fault}

-- a command after both of its flags were switched off
pub flagless-app : (a b c : Command) (app : App) → app_of a ≡ app
    → out-Command b ≡ record (out-Command a) { disable_help_flag = true }
    → out-Command c ≡ record (out-Command b) { disable_version_flag = true } → app_of c ≡ flagless app
flagless-app a b c app is help version =
    ap app_of_fields version
    ∙ ap (λ (f : Command-F Command). app_of_fields (record f { disable_version_flag = true })) help ∙ ap flagless is

-- the written `clap` gives the matches of the command, and says how it fails
is_a_simple_command : is_simple command ≡ true
unfolding clap_on_literals
is_a_simple_command = refl

is_a_free_command : is_simple_and_free command ≡ true
unfolding clap_on_literals
is_a_free_command = refl

-- where something is at fault nothing is read
at_fault : (k : ErrorKind) (kinds : Kinds) (word : Option Text) → IsAmong k kinds → unless_at_fault kinds word ≡ None
at_fault k [] word among = absurd among
at_fault k (x ∷ xs) word among = refl

-- a parse of the command's line has what was given, or nothing was
pub parsed_given : (r : Result ArgMatches Error) (a : App) (line : List Text) → a ≡ command
    → IfOk r (HasMatchesOf a line) → (is_simple_and_free a ≡ true → FailsBy (fault_of a line) r)
    → IfOk r (λ m. (id : Text) → first_value (found_of m) id ≡ given id line)
    × IfErr r (λ e. (kind_of e ≡ OutOfMemory) ⊎ ((id : Text) → given id line ≡ None))
unfolding given
parsed_given (Ok m) a line is found fails =
    let rows = (subst (λ (b : App). HasMatchesOf b line m) is found is_a_simple_command).0 in
    let none : fault_of command line ≡ [] =
    subst (λ (b : App). is_simple_and_free b ≡ true → fault_of b line ≡ []) is fails is_a_free_command in (
      λ id. first_value-rows (found_of m) id ∙ ap (first_of id) rows
          ∙ ap (λ (k : Kinds). unless_at_fault k (first_of id (matches_of command line))) (sym none),
      tt,
    )
parsed_given (Err e) a line is found fails =
    let failed : HasKind (fault_of command line) e =
    subst (λ (b : App). is_simple_and_free b ≡ true → HasKind (fault_of b line) e) is fails is_a_free_command in (
      tt,
      elim failed [
        | inl memory ↦ inl memory
        | inr among ↦ inr
            (λ id. at_fault (kind_of e) (fault_of command line) (first_of id (matches_of command line)) among)
      ],
    )
