-- Proves the bytes of a reply whose page was written after space for the head, and moves what is known of a reply to an
-- equal outcome.
use Rattle.std.proofs.Common.{Option, ◌≡◌, ℕ, Bool, true, false, ◌&&◌, List, ◌++◌, drop, replicate, Result, ◌∙◌, ap}
use Rattle.std.proofs.Common.{refl, ◌≤◌, length, sym, subst, Ok, Err, arith, length-append}
use Rattle.std.proofs.lemmas.List.{length-replicate}
use Rattle.std.specs.Prelude.{IfOk}
use Rattle.std.proofs.Math.Seq.{drop-append_seam}
use Rattle.serde_json.specs.Data.{Data}
use Rattle.serde_json.specs.Written.{compact_text}
use Rattle.clock_bids.specs.Holding.{Holding}
use Rattle.clock_api.specs.declared.code.Code.{Code}
use Rattle.clock_api.specs.declared.routes.Page.{Page}
use Rattle.clock_api.specs.Replies.{Answer, reply_bytes}
use Rattle.clock_front.specs.Outcomes.{Outcome, answer_of, with_page}
use Rattle.clock_front.specs.Requests.{Ask}
use Rattle.clock_front.specs.Rooms.{reply_room}
use Rattle.clock_front.specs.inside.FixedPage.{head_room}
use Rattle.clock_front.specs.inside.Replies.{IsPageIn}

-- A reply whose page was written after space for the head is the reply with that page.
pub written_page : (reported : Answer) (code : Code) (allowed : Option Page) (text : List ℕ) (value : Data)
    → reported ≡ record { code = code; bytes = reply_bytes code allowed (drop head_room text) }
    → text ≡ replicate head_room 0 ++ compact_text value → reported ≡ with_page code allowed value
written_page reported code allowed text value is behind =
    let made : List ℕ → Answer = λ page. record { code = code; bytes = reply_bytes code allowed page } in
    is ∙ ap made (ap (drop head_room) behind ∙ drop-append_seam (replicate head_room 0) (compact_text value))

pub has_space : (text page : List ℕ) → text ≡ replicate head_room 0 ++ page → head_room ≤ length text
has_space text page is = subst (λ (t : List ℕ). head_room ≤ length t) (sym is)
    (let long = length-append (replicate head_room 0) page in
    let space = length-replicate {A = ℕ} head_room 0 in omega arith)

-- Eligibility and processed demands make up what a bidder has.
pub held_is : (held : Holding) (eligibility : ℕ) (demands : List ℕ) → eligibility ≡ held.eligibility
    → demands ≡ held.demands → record { eligibility = eligibility; demands = demands } ≡ held
held_is held eligibility demands e d =
    let made : ℕ → List ℕ → Holding = λ n row. record { eligibility = n; demands = row } in
    ap (λ n. made n demands) e ∙ ap (made held.eligibility) d

-- A reply with one outcome, or the failed allocation of its page, is the reply with an equal outcome.
pub page_in : (ask : Ask) (result : Result Answer ℕ) (one right : Outcome) → one ≡ right
    → IsPageIn (answer_of one) (reply_room ask one) result → IsPageIn (answer_of right) (reply_room ask right) result
page_in ask result one right is = subst (λ (o : Outcome). IsPageIn (answer_of o) (reply_room ask o) result) is

-- What is known of a reply, and of a failure, is known of the reply only.
pub if_page : (result : Result Answer ℕ) (answer : Answer) (room : ℕ) → IsPageIn answer room result
    → IfOk result (λ reply. reply ≡ answer)
if_page (Ok reply) answer room is = is
if_page (Err wanted) answer room is = tt

-- Two tests that pass together pass.
pub both : (a b : Bool) → a && b ≡ true → (a ≡ true) × (b ≡ true)
both true b passed = (refl, passed)
both false b passed = absurd cc
