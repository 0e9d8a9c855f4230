-- Requests that are written one after the other.
use Rattle.std.proofs.Common.{◌≡◌, ℕ, ◌+◌, ◌-◌, List, [], ◌++◌, length, take, drop, codes, refl, sym, ◌∙◌, ap, ap₂}
use Rattle.std.proofs.Common.{subst, arith, append-nil, append_assoc}
use Rattle.std.proofs.Math.Seq.{drop-append_seam, take-append_seam}
use Rattle.std.proofs.lemmas.List.{length-append}
use Rattle.std.specs.Prelude.{Option, Some, Result, Ok, Err, IfOk, option_map}
use Rattle.clock_device.specs.declared.items.NoMemory.{NoMemory}
use Rattle.clock_terms.specs.Limits.{SetupFields}
use Rattle.clock_bids.specs.declared.sheet.Bid.{Bid}
use Rattle.clock_closing.specs.declared.closed_round.ClosedRound.{ClosedRound}
use Rattle.clock_house.specs.History.{bidder_at, holding, public_state}
use Rattle.clock_views.specs.inside.Values.{Adds}
use Rattle.clock_replays.specs.declared.replay.Closing.{Closing}
use Rattle.clock_replays.specs.declared.replay.Script.{Script}
use Rattle.clock_scripts.specs.declared.requests.Written.{Written}
use Rattle.clock_scripts.specs.RequestTexts.{request_head, request_text, written_put, put_text, written_close}
use Rattle.clock_scripts.specs.RequestTexts.{close_text}
use Rattle.clock_scripts.specs.ScriptedRequests.{scripted_sheet, scripted_put, scripted_close}
use Rattle.clock_scripts.specs.Pieces.{Writes, WritesIf, written_body, written_head}
use Rattle.clock_scripts.specs.inside.Heads.{HasRequestHead}

-- what is between two parts of a text
between : (first middle last whole : List ℕ) (from to : ℕ) → whole ≡ first ++ (middle ++ last) → from ≡ length first
    → to ≡ length first + length middle → take (to - from) (drop from whole) ≡ middle
between first middle last whole from to is start end =
    let count : to - from ≡ length middle = omega (arith, start, end) in
    ap₂ (λ (n : ℕ) (text : List ℕ). take (to - from) (drop n text)) start is
    ∙ ap (λ (rest : List ℕ). take (to - from) rest) (drop-append_seam first (middle ++ last))
    ∙ ap (λ (n : ℕ). take n (middle ++ last)) count ∙ take-append_seam middle last

-- a request after what is in a text: its body was pushed, and then its head
module _ (old pushed new line token body : List ℕ) (from : ℕ) (written : Written) (added : Adds body old pushed)
    (start : from ≡ length old) (headed : HasRequestHead line token from pushed new written) where
  long : length pushed ≡ length old + length body
  long = ap length added.is ∙ length-append old body

  abbrev head : List ℕ
  head = request_head line token (length pushed - from)

  count : length pushed - from ≡ length body
  count = omega (arith, long, start)

  all : new ≡ old ++ (body ++ head)
  all = headed.added.is ∙ ap (λ (text : List ℕ). text ++ head) added.is ∙ append_assoc old body head

  all_long : length new ≡ length pushed + length head
  all_long = ap length headed.added.is ∙ length-append pushed head

  is_body : written_body new written ≡ body
  is_body = between old body head new written.body written.head all (headed.from ∙ start) (headed.behind ∙ long)

  pub is_head : written_head new written ≡ head
  is_head = between pushed head [] new written.head written.end (headed.added.is
      ∙ ap (λ (rest : List ℕ). pushed ++ rest) (sym (append-nil head))) headed.behind (headed.until ∙ all_long)

  pub size : written.head - written.body ≡ length pushed - from
  size = omega (arith, headed.from, headed.behind)

  pub written_behind : Writes old new (request_text line token body) written
  written_behind = record {
    grows = record { more = body ++ head; is = all };
    reads = ap₂ (λ (first rest : List ℕ). first ++ rest) (is_head ∙ ap (request_head line token) count) is_body;
    within = record {
      body = omega (arith, headed.from, headed.behind, start, long);
      head = omega (arith, headed.behind, headed.until, all_long);
      end = omega (arith, headed.until);
    };
  }

-- the operator's request, by what it is written of
pub closing_behind : (old pushed new : List ℕ) (setup : SetupFields) (closed : List ClosedRound) (closing : Closing)
    (token : List ℕ) (round from : ℕ) (result : Result Written NoMemory) → token ≡ setup.operator → round
    ≡ (public_state setup.products closed).round → Adds (written_close round closing.increments closing.ties) old pushed
    → from ≡ length old → IfOk result (HasRequestHead (codes "POST /v1/close") token from pushed new)
    → IfOk result (Writes old new (scripted_close setup closed closing))
unfolding scripted_close
closing_behind old pushed new setup closed closing token round from (Err fault) operator at added start headed = tt
closing_behind old pushed new setup closed closing token round from (Ok written) operator at added start headed =
    let text : close_text token round closing.increments closing.ties
    ≡ close_text setup.operator (public_state setup.products closed).round closing.increments closing.ties =
    ap₂ (λ (sender : List ℕ) (k : ℕ). close_text sender k closing.increments closing.ties) operator at in
    subst (λ (whole : List ℕ). Writes old new whole written) text (written_behind old pushed new (codes
    "POST /v1/close") token (written_close round closing.increments closing.ties) from written added start headed)

-- the sheet that a script gives was added to a text
pub record AddsSheet (setup : SetupFields) (closed : List ClosedRound) (bidder : ℕ) (script : Script)
    (old new : List ℕ) : Type 0 where
  pub bids : List Bid
  pub given : scripted_sheet script (public_state setup.products closed) (holding setup closed bidder) ≡ Some bids
  pub added : Adds (written_put (public_state setup.products closed).round bids) old new

-- a bidder's request, by what it is written of
pub put_behind : (old pushed new : List ℕ) (setup : SetupFields) (closed : List ClosedRound) (bidder : ℕ)
    (script : Script) (token : List ℕ) (from : ℕ) (written : Written) → token ≡ (bidder_at setup bidder).token
    → AddsSheet setup closed bidder script old pushed → from ≡ length old → HasRequestHead (codes "PUT /v1/me/bids")
    token from pushed new written → WritesIf old new (scripted_put setup closed bidder script) (Some written)
unfolding scripted_put
put_behind old pushed new setup closed bidder script token from written own sheet start headed =
    let round = (public_state setup.products closed).round in
    let behind = written_behind old pushed new (codes "PUT /v1/me/bids") token
    (written_put round sheet.bids) from written sheet.added start headed in (
      ap (λ (given : Option (List Bid)). option_map (put_text (bidder_at setup bidder).token round) given) sheet.given
          ∙ ap (λ (sender : List ℕ). Some (put_text sender round sheet.bids)) (sym own)
          ∙ ap Some (sym behind.reads),
      record { grows = behind.grows; reads = refl; within = behind.within },
    )
