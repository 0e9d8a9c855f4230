-- What the program's arguments, its words, ask for. How they are parsed is clap's own definition:
-- `fault_of` lists the reasons for which a grammar refuses words, and `subcommand_of` is the
-- command that they name, with the values of its options.
--     grammar      the program's commands and options
--     given words      the words, or those that replace an empty list
--     asked_by words      what the words ask for, unless they are refused
--     job_of words      the job that the words ask for, if they ask for one
--     IsParsing words parsed      how parsing the words can end
use Rattle.std.specs.Prelude.{◌≡◌, ◌≢◌, ℕ, true, List, [], ◌∷◌, Option, Some, None, Result, Ok, Err}
use Rattle.std.specs.Prelude.{codes, if◌then◌else◌, option_and_then, option_map}
use Rattle.std.specs.Str.{bytes_eq}
use Rattle.std.specs.Str.Parse.{digits_value, without_leading_plus}
use Rattle.clap.specs.Words.{App, Kinds, Row, Rule, Shape, Text, fault_of, first_of, kind_of}
use Rattle.clap.specs.Words.{new_app, new_rule, one_of, subcommand_of, with_rule, with_subcommand}
use Rattle.clap.specs.Simple.{on_top}
use Rattle.clap.specs.ValueTests.{is_unsigned_in}
use Rattle.clap.specs.declared.builder.value_parser.ValueParser.TheVariants as parser
use Rattle.clap.specs.declared.error.Error.{Error}
use Rattle.clap.specs.declared.error.kind.ErrorKind.TheVariants.{OutOfMemory}
use Rattle.clock_terms.specs.Increments.{IsIncrement}
use Rattle.clock_terms.specs.Limits.{least_increment, most_increment}
use Rattle.clock_console.specs.declared.words.Job.{Job}
use Rattle.clock_console.specs.declared.words.Serving.{Serving}
use Rattle.clock_console.specs.declared.words.NamedFiles.{NamedFiles}
use Rattle.clock_console.specs.declared.words.Asked.{Asked}
use Rattle.clock_console.specs.declared.words.Asked.TheVariants as case
use Rattle.clock_console.specs.declared.words.Job.TheVariants.{Prices, Opening, Replay}

-- an optional option with one value, such as `--journal FILE`
abbrev pub option_rule : Text → Rule
option_rule name = record (new_rule name) { long = Some name; value_names = 1 }

-- a required option, such as `--setup FILE`
abbrev pub needed_rule : Text → Rule
needed_rule name = record (option_rule name) { required = true }

-- a required option whose value is a number from 1 to `most`
abbrev pub number_rule : Text → ℕ → Rule
number_rule name most = record (needed_rule name) { parser = Some (parser.Unsigned 1 most) }

-- `--increment N`, within its limits, with 10 as its default
abbrev pub increment_option : Rule
increment_option = record (option_rule (codes "increment")) {
  parser = Some (parser.Unsigned least_increment most_increment);
  defaults = codes "10" ∷ [];
}

-- `prices [--increment N]`
abbrev pub prices_grammar : App
prices_grammar = with_rule (new_app (codes "prices")) increment_option

-- a port has 16 bits and is not 0
abbrev pub most_port : ℕ
most_port = 65535

-- the most connections that `serve` can be asked to serve (own limit)
abbrev pub most_served : ℕ
most_served = 1000000

-- `serve --setup FILE --port N --connections K [--journal FILE [--mirror FILE]]`
abbrev pub serve_grammar : App
serve_grammar = with_rule (with_rule (with_rule (with_rule (with_rule (new_app (codes "serve"))
    (needed_rule (codes "setup"))) (number_rule (codes "port") most_port))
    (number_rule (codes "connections") most_served)) (option_rule (codes "journal")))
    (option_rule (codes "mirror"))

-- a command on two files, such as `audit --setup FILE --journal FILE`
abbrev pub files_grammar : Text → App
files_grammar name = with_rule (with_rule (new_app name) (needed_rule (codes "setup")))
    (needed_rule (codes "journal"))

-- words begin with a command, not with the program's name, or ask for help or the version
abbrev pub asks_for_a_command : Shape → Shape
asks_for_a_command shape =
    record shape { no_binary_name = true; subcommand_required = true; has_version = true }

-- the program without its commands
abbrev pub program_only_grammar : App
program_only_grammar = on_top asks_for_a_command (new_app (codes "clock_auction"))

-- the program, with its commands
abbrev pub grammar : App
grammar = with_subcommand (with_subcommand (with_subcommand (with_subcommand (with_subcommand
    (with_subcommand program_only_grammar prices_grammar.top) (new_app (codes "opening")).top)
    (new_app (codes "replay")).top) serve_grammar.top) (files_grammar (codes "journal")).top)
    (files_grammar (codes "audit")).top

-- an empty list is replaced by `prices --increment 10`
abbrev pub given : List Text → List Text
given [] = codes "prices" ∷ codes "--increment" ∷ codes "10" ∷ []
given (word ∷ words) = word ∷ words

-- the number that a text writes, if it is within the limits
abbrev pub number_within : ℕ → ℕ → Text → Option ℕ
number_within least most text = if is_unsigned_in least most text
    then Some (digits_value 10 (without_leading_plus text)) else None

-- the number that an option has, if it is within the limits
abbrev pub number_of : Text → ℕ → ℕ → List Row → Option ℕ
number_of name least most options = option_and_then (number_within least most) (one_of name options)

-- the arguments of `serve`: set-up file, port, number of connections, journal files if any
pub record ServingFields : Type 0 where
  pub setup : Text
  pub port : ℕ
  pub connections : ℕ
  pub journal : Option Text
  pub mirror : Option Text

-- the arguments of `journal` and `audit`: set-up file and journal file
pub record FilesFields : Type 0 where
  pub setup : Text
  pub journal : Text

-- what a run is asked for: a job, or a command on files
pub data AskedFields : Type 0 where
  job : Job → AskedFields
  serve : ServingFields → AskedFields
  journal : FilesFields → AskedFields
  audit : FilesFields → AskedFields

-- the arguments of `serve`, from its options
abbrev pub serving_from : List Row → Option ServingFields
serving_from options =
    option_and_then (λ setup. option_and_then (λ port. option_map (λ connections.
    record {
      setup = setup;
      port = port;
      connections = connections;
      journal = first_of (codes "journal") options;
      mirror = first_of (codes "mirror") options;
    })
    (number_of (codes "connections") 1 most_served options))
    (number_of (codes "port") 1 most_port options)) (first_of (codes "setup") options)

-- the arguments of `journal` or `audit`, from its options
abbrev pub files_from : List Row → Option FilesFields
files_from options =
    option_and_then (λ setup. option_map (λ file. record { setup = setup; journal = file })
    (first_of (codes "journal") options)) (first_of (codes "setup") options)

-- what a command with these options asks for
abbrev pub asked_named : Text → List Row → Option AskedFields
asked_named name options = if bytes_eq name (codes "prices") then option_map (λ increment.
    job (Prices increment)) (number_of (codes "increment") least_increment most_increment options)
    else (if bytes_eq name (codes "opening") then Some (job Opening)
    else (if bytes_eq name (codes "replay") then Some (job Replay)
    else (if bytes_eq name (codes "serve") then option_map serve (serving_from options)
    else (if bytes_eq name (codes "journal") then option_map journal (files_from options)
    else (if bytes_eq name (codes "audit") then option_map audit (files_from options) else None)))))

-- what the parsed command asks for
abbrev pub asked_met : Option (Text × List Row) → Option AskedFields
asked_met None = None
asked_met (Some met) = asked_named met.0 met.1

-- the arguments of `serve`, as the code has them
abbrev pub serving_fields : Serving → ServingFields
serving_fields serving = record {
  setup = serving.setup.now;
  port = serving.port;
  connections = serving.connections;
  journal = option_map (λ text. text.now) serving.journal;
  mirror = option_map (λ text. text.now) serving.mirror;
}

-- the files that are named, as contracts see them
abbrev pub files_fields : NamedFiles → FilesFields
files_fields files = record { setup = files.setup.now; journal = files.journal.now }

-- what the words ask for, as contracts see it
abbrev pub asked_fields : Asked → AskedFields
asked_fields (case.Job one) = job one
asked_fields (case.Serve serving) = serve (serving_fields serving)
asked_fields (case.Journal files) = journal (files_fields files)
asked_fields (case.Audit files) = audit (files_fields files)

-- the value, or none if there is a reason to refuse
abbrev pub unless_refused : {A : Type 0} → Kinds → Option A → Option A
unless_refused [] meant = meant
unless_refused (kind ∷ kinds) meant = None

-- what words ask for, or nothing if clap refuses them
abbrev pub asked_meant : List Text → Option AskedFields
asked_meant words =
    unless_refused (fault_of grammar words) (asked_met (subcommand_of grammar words))

-- what the program's arguments ask for
abbrev pub asked_by : List Text → Option AskedFields
asked_by words = asked_meant (given words)

-- the job that is asked for, if it is one
abbrev pub job_in : AskedFields → Option Job
job_in (job one) = Some one
job_in (serve serving) = None
job_in (journal files) = None
job_in (audit files) = None

-- the job that the program's arguments ask for, if they ask for one
abbrev pub job_of : List Text → Option Job
job_of words = option_and_then job_in (asked_by words)

-- Parsing returns what the words ask for, or an error. An error other than out of memory comes only
-- for words that ask for nothing.
abbrev pub IsParsing : List Text → Result (Option Asked) Error → Type 0
IsParsing words (Ok asked) = option_map asked_fields asked ≡ asked_by words
IsParsing words (Err error) = kind_of error ≢ OutOfMemory → asked_by words ≡ None

-- the increment of a job is within its limits
abbrev pub IsJob : Job → Type 0
IsJob (Prices increment) = IsIncrement increment
IsJob Opening = Unit {0}
IsJob Replay = Unit {0}

-- the increment of what is asked for, if it has one, is within its limits
abbrev pub IsAsked : Asked → Type 0
IsAsked (case.Job one) = IsJob one
IsAsked (case.Serve serving) = Unit {0}
IsAsked (case.Journal files) = Unit {0}
IsAsked (case.Audit files) = Unit {0}
