-- What the code builds for clap, and what clap returns.
--     IsOption rule option      the option has this rule
--     IsCommand app command      the command is this one
--     within_limits least most number      the number, if it is within the limits
use Rattle.std.specs.Prelude.{◌≡◌, ◌&&◌, ℕ, Option, Some, None, false, nat_le, if◌then◌else◌}
use Rattle.clap.specs.Words.{App, Rule, app_of, rule_of}
use Rattle.clap.specs.declared.builder.arg.Arg.{Arg}
use Rattle.clap.specs.declared.builder.command.Command.{Command}
use Rattle.clap.specs.declared.builder.command.Command.TheViews.{out-Command}

-- the option has this rule, and commands below do not inherit it
pub record IsOption (rule : Rule) (option : Arg) : Type 0 where
  pub shape : rule_of option ≡ rule
  pub local : option.global ≡ false

-- the command is this one, and commands below inherit none of its options
pub record IsCommand (app : App) (command : Command) : Type 0 where
  pub shape : app_of command ≡ app
  pub local : (out-Command command).has_globals ≡ false

-- the number, if it is within the limits
abbrev pub within_limits : ℕ → ℕ → Option ℕ → Option ℕ
within_limits least most None = None
within_limits least most (Some n) = if nat_le least n && nat_le n most then Some n else None
