-- The arguments of `serve` are the values of its options. Option by option.
use Rattle.std.proofs.Common.{◌≡◌, ℕ, List, Option, Some, codes, refl}
use Rattle.clap.specs.Words.{Row, Text, first_of}
use Rattle.clock_console.specs.Words.{most_port, most_served, number_of, serving_from}

pub serving_is : (options : List Row) (setup : Text) (port connections : ℕ) (journal mirror : Option Text)
    → Some setup ≡ first_of (codes "setup") options → Some port ≡ number_of (codes "port") 1 most_port options
    → Some connections ≡ number_of (codes "connections") 1 most_served options
    → journal ≡ first_of (codes "journal") options → mirror ≡ first_of (codes "mirror") options
    → Some (record { setup = setup; port = port; connections = connections; journal = journal; mirror = mirror })
    ≡ serving_from options
serving_is options setup port connections journal mirror first second third fourth last =
    rw (← first, ← second, ← third, ← fourth, ← last) refl
