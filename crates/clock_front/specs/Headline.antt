-- The headline: what is proved of a whole run, a list of requests and the replies to them.
--
-- Right: each reply is right, or out of memory. `reply` states the rules: from the set-up and the
-- past it computes what is accepted, and all prices, demands, and eligibilities in the reply, to
-- the byte; so only one reply is right. The past has all earlier requests but those answered out of
-- memory.
--
-- Private: the right reply to a bidder's own request, one with its token, is computed by `answer`
-- from the public set-up, the bidder's row, its view, and the request. What rivals bid enters only
-- through the results in the view. So the right reply has the same bytes after any requests, under
-- any set-up with distinct tokens, this or another, if public set-up, row, and view are equal.
--
-- The view of a past (`text_view`) has, in order, the bytes of each of the bidder's own requests in
-- it: reads, and sheets, also those refused. Of each accepted closing it has the round results and
-- its own bidder results. It has nothing else: no request or bidder results of a rival, no request
-- of the operator or without a valid token, no tie-breaking number. Replies may show what it has.
--
-- Public: a request with no valid token has the same right reply after any requests, under this or
-- another set-up, if it has none there either and everyone sees the same. This is the public set-up
-- and the round results of each accepted closing. The bids that led to them may differ.
--
-- Sound (`IsSound`), after the last request: each bidder's processed demands are within the caps,
-- and its processed activity within its eligibility, of at most 10^12. Closed rounds are numbered
-- 1, 2, 3, to at most 4096 * 10^12 + 2. Unless the auction has ended, current start-of-round
-- prices are from 1 to 10^12 dollars, at most the clock prices, from round 2 below them. Once a
-- product's aggregate demand is at least supply after a round, it is after each later round.
--
-- Out of memory: only a request that needs memory may be answered so, at any time: any but one that
-- is refused for its head or length. It changes nothing and is in no later past, so no later right
-- reply depends on it; which later requests are out of memory may depend on it.
--
-- Nothing is said of a call of `run` or `run_events` that returns an error, time, crashes (the
-- second headline), or tokens read on the wire. Nothing is said of what rivals and the operator
-- tell each other and decide, what a refused connection or lack of memory reveals, or what right
-- replies to the operator depend on.
--
--     SeesTheSame one two ..      a bidder sees the same after two lists of requests
--     IsPrivate setup bidder past text one      the reply follows from what the bidder sees
--     IsPublic setup past text one      the reply follows from what everyone sees
--     IsRight setup past text one      the reply is right; private, or public without valid token
--     Runs setup past texts answers end      each reply is right, or out of memory and left out
--     IsRun setup texts answers      a run from the beginning of an auction, which is sound
--     IsEventRun setup events replies      a run of requests that arrive in pieces
use Rattle.std.specs.Prelude.{◌≡◌, ◌<◌, ◌⊎◌, ℕ, true, List, [], ◌∷◌, length, map}
use Rattle.clock_terms.specs.Limits.{SetupFields, public_setup}
use Rattle.clock_house.specs.History.{history, bidder_at}
use Rattle.clock_house.specs.Laws.{IsSound}
use Rattle.clock_api.specs.Replies.{Answer}
use Rattle.clock_connections.specs.declared.connections.Event.{Event}
use Rattle.clock_front.specs.declared.runs.EventReply.{EventReply}
use Rattle.clock_front.specs.Callers.{HasOwnTokens}
use Rattle.clock_front.specs.Fronts.{reply, commands_of, IsOutOfMemoryReply}
use Rattle.clock_front.specs.Views.{is_own, text_view, answer, HasNoValidToken, public_view}
use Rattle.clock_connections.specs.Pieces.{requests_of}

-- A bidder sees the same: the public set-up, its own row, and its view are equal. All else may
-- differ: its index, the rivals and their requests, the operator's token, tie-breaking numbers.
pub record SeesTheSame (one two : SetupFields) (bidder other_number : ℕ)
    (past other_past : List (List ℕ)) : Type 0 where
  pub public : public_setup one ≡ public_setup two
  pub row : bidder_at one bidder ≡ bidder_at two other_number
  pub view : text_view one bidder past ≡ text_view two other_number other_past

-- The right reply to a bidder's own request is computed from what it sees. It is right after every
-- other list of requests, under any set-up with distinct tokens, if a bidder there sees the same.
pub record IsPrivate (setup : SetupFields) (bidder : ℕ) (past : List (List ℕ)) (text : List ℕ)
    (one : Answer) : Type 0 where
  pub from_view : one
      ≡ answer (public_setup setup) (bidder_at setup bidder) (text_view setup bidder past) text
  pub elsewhere : (other : SetupFields) (other_number : ℕ) (other_past : List (List ℕ))
      → HasOwnTokens other → other_number < length other.bidders → SeesTheSame setup other bidder
      other_number past other_past → one ≡ reply other other_past text

-- The reply is also the right reply after every other list of requests after which everyone sees
-- the same, if the request has no valid token there either.
abbrev pub IsPublic : SetupFields → List (List ℕ) → List ℕ → Answer → Type 0
IsPublic setup past text one = (other : SetupFields) (other_past : List (List ℕ))
    → HasNoValidToken other text → public_setup setup ≡ public_setup other
    → public_view setup past ≡ public_view other other_past → one ≡ reply other other_past text

-- The reply is the right one after the requests of the past. If the request is a bidder's own, the
-- reply depends only on what that bidder sees. If the request has no valid token, it is public.
pub record IsRight (setup : SetupFields) (past : List (List ℕ)) (text : List ℕ)
    (one : Answer) : Type 0 where
  pub is : one ≡ reply setup past text
  pub private : (bidder : ℕ) → bidder < length setup.bidders
      → is_own (bidder_at setup bidder) text ≡ true → IsPrivate setup bidder past text one
  pub public : HasNoValidToken setup text → IsPublic setup past text one

-- Each request has the right reply, or was answered out of memory and is left out of the past of
-- those after it. `end` is the past after the last request. A past has the newest first.
abbrev pub Runs : SetupFields → List (List ℕ) → List (List ℕ) → List Answer → List (List ℕ) → Type 0
Runs setup past [] [] end = end ≡ past
Runs setup past [] (one ∷ answers) end = ⊥
Runs setup past (text ∷ texts) [] end = ⊥
Runs setup past (text ∷ texts) (one ∷ answers) end =
    (IsOutOfMemoryReply text one × Runs setup past texts answers end)
    ⊎ (IsRight setup past text one × Runs setup (text ∷ past) texts answers end)

-- A run from the beginning of an auction, whose past is empty. At the end the auction is sound that
-- the commands of all requests in `end` make: `history` leaves out the refused commands.
pub record IsRun (setup : SetupFields) (texts : List (List ℕ))
    (answers : List Answer) : Type 0 where
  pub end : List (List ℕ)
  pub runs : Runs setup [] texts answers end
  pub sound : IsSound setup (history setup (commands_of setup end))

-- A run of requests that arrive in pieces, in the order in which they are complete: whole, refused,
-- or cut short as the connection ends. No other has a reply. Each has its connection's number.
pub record IsEventRun (setup : SetupFields) (events : List Event)
    (replies : List EventReply) : Type 0 where
  pub numbers : map (λ one. one.number) replies ≡ map (λ request. request.0) (requests_of events)
  pub run : IsRun setup (map (λ request. request.1) (requests_of events))
      (map (λ one. one.reply) replies)
