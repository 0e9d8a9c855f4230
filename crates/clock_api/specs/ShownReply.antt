-- The bytes of a reply.
use Rattle.std.specs.Prelude.{ℕ, List, drop}
use Rattle.clock_api.specs.declared.reply.ReplyBytes.{ReplyBytes}
use Rattle.clock_api.specs.declared.reply.ReplyBytes.TheVariants.{Constant, Written}

-- constant bytes, or those of a text from an index on
abbrev pub shown_bytes : ReplyBytes → List ℕ
shown_bytes (Constant bytes) = bytes.now
shown_bytes (Written written) = drop written.start written.text
