-- Proves that each constant reply has the bytes of the refusal with its code, by computing these.
use Rattle.std.proofs.Common.{◌≡◌, List, ℕ, ap, sym, ◌∙◌}
use Rattle.std.specs.Fmt.{digits}
use Rattle.clock_api.specs.Replies.{Answer, reply_bytes}
use Rattle.clock_front.specs.inside.FixedReplies.{refusal_of}
use Rattle.clock_front.proofs.FrontLaws.{constant_bytes, constant_reply}
use Rattle.clock_front.proofs.front.replies.fixed_reply.Goals as goal
use Rattle.clock_front.proofs.front.replies.fixed_reply.Goals.{in-LongHead, in-BadHead, in-Coding, in-BadLength}
use Rattle.clock_front.proofs.front.replies.fixed_reply.Goals.{in-LongBody, in-Memory}

pub returns : goal.returns
unfolding reply_bytes digits
returns c =
    let code = c.args.code in
    let made : List ℕ → Answer = λ bytes. record { code = code; bytes = bytes } in
    let is : c.match-code.bytes.now ≡ (refusal_of code).bytes = elim c.match-code.branch [
      | in-LongHead w ↦ rw w.bytes-is (ap constant_bytes (sym w.in-LongHead.is) ∙ constant_reply code)
      | in-BadHead w ↦ rw w.bytes-is (ap constant_bytes (sym w.in-BadHead.is) ∙ constant_reply code)
      | in-Coding w ↦ rw w.bytes-is (ap constant_bytes (sym w.in-Coding.is) ∙ constant_reply code)
      | in-BadLength w ↦ rw w.bytes-is (ap constant_bytes (sym w.in-BadLength.is) ∙ constant_reply code)
      | in-LongBody w ↦ rw w.bytes-is (ap constant_bytes (sym w.in-LongBody.is) ∙ constant_reply code)
      | in-Memory w ↦ rw w.bytes-is (ap constant_bytes (sym w.in-Memory.is) ∙ constant_reply code)
    ] in c.constant.ensures ∙ ap made is
