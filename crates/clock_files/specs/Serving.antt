-- How the command `serve` reports that it does not serve to the end.
--     of_serving fault      why a server ended before it served all connections
--     of_server fault      why a server with a journal ended before that
--     IsReadFrom document setup digest      the set-up and the digest are those of this document
use Rattle.std.specs.Prelude.{◌≡◌, ℕ, List, Ok}
use Rattle.clock_terms.specs.Limits.{SetupFields}
use Rattle.clock_setup.specs.SetupDocument.{document_setup}
use Rattle.clock_journal.specs.Format.{document_digest}
use Rattle.clock_server.specs.declared.serving.ServeFault.{ServeFault}
use Rattle.clock_server.specs.declared.serving.ServeFault.TheVariants as in_serving
use Rattle.clock_server.specs.declared.generation.ServerFault.{ServerFault}
use Rattle.clock_server.specs.declared.generation.ServerFault.TheVariants.{Start, Listen, Serve}
use Rattle.clock_console.specs.FaultLines.{of_journal}
use Rattle.clock_console.specs.declared.fault.Fault.{Fault}
use Rattle.clock_console.specs.declared.fault.Fault.TheVariants.{Accept, Journal}

-- why a server ended before it served all connections
abbrev pub of_serving : ServeFault → Fault
of_serving in_serving.Accept = Accept
of_serving in_serving.Journal = Journal

-- what the document means, and its digest
pub record IsReadFrom (document : List ℕ) (setup : SetupFields) (digest : List ℕ) : Type 0 where
  pub means : document_setup document ≡ Ok setup
  pub digest_is : digest ≡ document_digest document

-- of the journal, of the port, or of serving
abbrev pub of_server : ServerFault Fault → Fault
of_server (Start why) = of_journal why
of_server (Listen why) = why
of_server (Serve why) = of_serving why
