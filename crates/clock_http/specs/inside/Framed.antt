-- The framing of a text by what is known of it.
--     framed known text      what the text is
use Rattle.std.specs.Prelude.{List, ℕ, take, drop}
use Rattle.clock_http.specs.Framing.{Known, unended, waiting, complete, refused, Framing}
use Rattle.clock_http.specs.Framing.{incomplete, refusal, whole}

-- what a text is, if this is known of it
abbrev pub framed : Known → List ℕ → Framing
framed (unended n) text = incomplete
framed (waiting head n body) text = incomplete
framed (complete head n body) text = whole head (take body (drop n text))
framed (refused fault) text = refusal fault
