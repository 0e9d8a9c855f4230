-- What clap's contracts promise of a parse, applied to the program's own grammar. The commands are built option by
-- option, and their rules are those of the grammar.
use Rattle.std.proofs.Common.{◌≡◌, ◌≢◌, ◌∷◌, [], inl, inr, true, List, Option, None, refl, subst, ap₂, ◌∙◌}
use Rattle.std.specs.Prelude.{IfErr, IfOk, Result, Ok, Err}
use Rattle.clap.specs.Words.{AddsArg, AddsSubcommand, App, FailsBy, HasKind, HasMatchesOf, Kinds, Rule, Text, fault_of}
use Rattle.clap.specs.Words.{is_simple, is_simple_and_free}
use Rattle.clap.specs.Words.{kind_of, subcommand_of, subcommand_rows_of, with_rule, with_subcommand}
use Rattle.clap.specs.declared.builder.arg.Arg.{Arg}
use Rattle.clap.specs.declared.builder.command.Command.{Command}
use Rattle.clap.specs.declared.error.Error.{Error}
use Rattle.clap.specs.declared.error.kind.ErrorKind.TheVariants.{OutOfMemory}
use Rattle.clap.specs.declared.parser.matches.ArgMatches.{ArgMatches}
use Rattle.clap.proofs.OnLiterals.{clap_on_literals}
use Rattle.clock_console.specs.Words.{grammar, unless_refused}
use Rattle.clock_console.specs.inside.Commands.{IsCommand, IsOption}

-- an option was added
pub with_one : (app : App) (command : Command) → IsCommand app command → (rule : Rule) (option : Arg) (made : Command)
    → IsOption rule option → AddsArg command option made → IsCommand (with_rule app rule) made
with_one app command is rule option made is_option added = record {
  shape = added.shape is_option.local ∙ ap₂ with_rule is.shape is_option.shape;
  local = rw (added.globals, is.local, is_option.local) refl;
}

module _ {E : Type 0} (app : App) (command : Command) (is : IsCommand app command) where
  -- an option was added
  pub with_one_more : (rule : Rule) (option : Arg) (result : Result Command E) → IsOption rule option
      → IfOk result (AddsArg command option) → IfOk result (IsCommand (with_rule app rule))
  with_one_more rule option (Ok made) is_option added = with_one app command is rule option made is_option added
  with_one_more rule option (Err refused) is_option added = tt

  -- a command was added
  pub with_below : (sub : App) (below : Command) (result : Result Command E) → IsCommand sub below
      → IfOk result (AddsSubcommand command below) → IfOk result (IsCommand (with_subcommand app sub.top))
  with_below sub below (Ok made) is_below added = record {
    shape = added.shape is_below.local ∙ ap₂ (λ (a b : App). with_subcommand a b.top) is.shape is_below.shape;
    local = rw (added.globals, is.local, is_below.local) refl;
  }
  with_below sub below (Err refused) is_below added = tt

grammar_free : is_simple_and_free grammar ≡ true
unfolding clap_on_literals
grammar_free = refl

grammar_simple : is_simple grammar ≡ true
unfolding clap_on_literals
grammar_simple = refl

is_some_kind : (kinds : Kinds) (error : Error) → HasKind kinds error → kind_of error ≢ OutOfMemory → kinds ≢ []
is_some_kind [] error (inl memory) other none = other memory
is_some_kind [] error (inr among) other none = among
is_some_kind (kind ∷ kinds) error has other none = cc

-- how clap's parse of these words ends
module _ (app : App) (is_grammar : app ≡ grammar) (words : List Text) where
  pub none_refused : (result : Result ArgMatches Error) → (is_simple_and_free app ≡ true
      → FailsBy (fault_of app words) result) → IfOk result (λ found. fault_of grammar words ≡ [])
  none_refused (Ok found) kinds =
      subst (λ (a : App). is_simple_and_free a ≡ true → fault_of a words ≡ []) is_grammar kinds grammar_free
  none_refused (Err error) kinds = tt

  pub found_by : (result : Result ArgMatches Error) → IfOk result (HasMatchesOf app words)
      → IfOk result (λ found. subcommand_rows_of found ≡ subcommand_of grammar words)
  found_by (Ok found) matches = (subst (λ (a : App). HasMatchesOf a words found) is_grammar matches grammar_simple).1
  found_by (Err error) matches = tt

  pub some_refused : (result : Result ArgMatches Error) → (is_simple_and_free app ≡ true → FailsBy
      (fault_of app words) result) → IfErr result (λ error. kind_of error ≢ OutOfMemory → fault_of grammar words ≢ [])
  some_refused (Ok found) kinds = tt
  some_refused (Err error) kinds =
      let has : HasKind (fault_of grammar words) error = subst (λ (a : App). is_simple_and_free a ≡ true
      → HasKind (fault_of a words) error) is_grammar kinds grammar_free in
      is_some_kind (fault_of grammar words) error has

module _ {A : Type 0} (meant : Option A) where
  pub meant_where_taken : (kinds : Kinds) → kinds ≡ [] → meant ≡ unless_refused kinds meant
  meant_where_taken kinds none = rw none refl

  pub none_meant : (kinds : Kinds) → kinds ≢ [] → unless_refused kinds meant ≡ None
  none_meant [] some = absurd (some refl)
  none_meant (kind ∷ kinds) some = refl
