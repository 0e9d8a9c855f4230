-- A sheet closes no round: a text that begins with the method PUT is no closing, whatever it is otherwise.
use Rattle.std.proofs.Common.{◌≡◌, ℕ, suc, Bool, true, false, List, [], ◌∷◌, take, drop, Option, Some, None, Result, Ok}
use Rattle.std.proofs.Common.{Err, codes, refl, sym, ap, subst}
use Rattle.std.specs.Prelude.{option_map, if◌then◌else◌}
use Rattle.clock_terms.specs.Limits.{SetupFields}
use Rattle.clock_bids.specs.declared.sheet.Bid.{Bid}
use Rattle.clock_house.specs.Command.{Command}
use Rattle.clock_house.specs.History.{Auction, history, after_command}
use Rattle.clock_closing.specs.declared.closed_round.ClosedRound.{ClosedRound}
use Rattle.clock_api.specs.declared.code.Code.{Code}
use Rattle.clock_api.specs.declared.code.Code.TheVariants.{LongHead, BadHead}
use Rattle.clock_http.specs.Scans.{head_length}
use Rattle.clock_http.specs.Heads.{onto_first, lines_of, head_from, head_of}
use Rattle.clock_api.specs.Bytes.{same_bytes}
use Rattle.clock_http.specs.Framing.{Head, Framing, framing, framed_at, framed_head, ended_head, or_bad_head}
use Rattle.clock_http.specs.Framing.{length_read, and_length}
use Rattle.clock_http.specs.Framing as framed_as
use Rattle.clock_front.specs.Requests.{Ask, ask_of, ask_by_route, ask_of_page, request_of}
use Rattle.clock_front.specs.Requests as asked
use Rattle.clock_bodies.specs.Bodies.{put_body}
use Rattle.clock_api.specs.Routes.{page_of, has_method}
use Rattle.clock_front.specs.Outcomes.{command_of}
use Rattle.clock_front.specs.Callers.{caller}
use Rattle.clock_front.specs.Fronts.{commands_of}
use Rattle.clock_api.specs.declared.routes.Page.{Page}
use Rattle.clock_api.specs.declared.routes.Page.TheVariants.{Status, Products, RoundResults, Account, Bids}
use Rattle.clock_api.specs.declared.routes.Page.TheVariants.{BidderResults, Close, Results}
use Rattle.clock_front.specs.declared.front.callers.Caller.{Caller}
use Rattle.clock_front.specs.declared.front.callers.Caller.TheVariants.{Nobody, Operator, Bidder}
use Rattle.clock_replays.specs.declared.replay.Script.{Script}
use Rattle.clock_sim.specs.inside.Groups.{ClosesNoRound}
use Rattle.clock_scripts.specs.RequestTexts.{put_text}
use Rattle.clock_scripts.specs.ScriptedRequests.{scripted_put}

-- ---- the method of a head

-- the text begins with this word and space
abbrev begun : List ℕ → List ℕ
begun rest = 80 ∷ 85 ∷ 84 ∷ 32 ∷ rest

first_word : (lines : List (List ℕ))
    → (head_from (onto_first 80 (onto_first 85 (onto_first 84 (onto_first 32 lines))))).method ≡ codes "PUT"
first_word [] = refl
first_word (line ∷ lines) = refl

begun_lines : (rest : List ℕ) → (head_from (lines_of (begun rest))).method ≡ codes "PUT"
begun_lines rest = first_word (lines_of rest)

abbrev IsPutKnown : Result (Head × ℕ) Code → Type 0
IsPutKnown (Err fault) = Unit {0}
IsPutKnown (Ok read) = read.0.method ≡ codes "PUT"

with_length : (lines : List (List ℕ)) (count : Result ℕ Code) → (head_from lines).method ≡ codes "PUT"
    → IsPutKnown (and_length (head_from lines) count)
with_length lines (Err fault) is = tt
with_length lines (Ok n) is = is

tested : (long loose good : Bool) (lines : List (List ℕ)) → (head_from lines).method ≡ codes "PUT"
    → IsPutKnown (length_read (if long then Err LongHead
    else (if loose then Err BadHead else or_bad_head (if good then Some (head_from lines) else None))))
tested true loose good lines is = tt
tested false true good lines is = tt
tested false false true lines is = with_length lines _ is
tested false false false lines is = tt

begun_head : (rest : List ℕ) → IsPutKnown (length_read (ended_head (begun rest)))
unfolding head_of
begun_head rest = tested _ _ _ (lines_of (begun rest)) (begun_lines rest)

-- ---- what the text is

abbrev IsPutFraming : Framing → Type 0
IsPutFraming framed_as.incomplete = Unit {0}
IsPutFraming (framed_as.refusal code) = Unit {0}
IsPutFraming (framed_as.whole head body) = head.method ≡ codes "PUT"

in_body : (text : List ℕ) (short : Bool) (head : Head) (n body : ℕ) → head.method ≡ codes "PUT"
    → IsPutFraming (if short then framed_as.incomplete else framed_as.whole head (take body (drop n text)))
in_body text true head n body is = tt
in_body text false head n body is = is

in_head : (text : List ℕ) (n : ℕ) (read : Result (Head × ℕ) Code) → IsPutKnown read
    → IsPutFraming (framed_head n text read)
in_head text n (Err fault) is = tt
in_head text n (Ok read) is = in_body text _ read.0 n read.1 is

ended_or_not : (short : Bool) → IsPutFraming (if short then framed_as.incomplete else framed_as.refusal LongHead)
ended_or_not true = tt
ended_or_not false = tt

-- the head ends after its method
abbrev behind : Option ℕ → Option ℕ
behind found = option_map suc (option_map suc (option_map suc (option_map suc found)))

at_end : (rest : List ℕ) (found : Option ℕ) → IsPutFraming (framed_at (behind found) (begun rest))
at_end rest None = ended_or_not _
at_end rest (Some n) = in_head (begun rest) _ _ (begun_head (take n rest))

begun_framing : (rest : List ℕ) → IsPutFraming (framing (begun rest))
unfolding framing
begun_framing rest = at_end rest (head_length (take 16380 rest))

-- ---- what the request asks for

abbrev IsNoClosing : Ask → Type 0
IsNoClosing (asked.close body) = ⊥
IsNoClosing _ = Unit {0}

-- the command does not change the closed rounds
abbrev Leaves : SetupFields → Command → Type 0
Leaves setup command = (auction : Auction) → (after_command setup auction command).closed ≡ auction.closed

leaves : (setup : SetupFields) (sender : Caller) (ask : Ask) → IsNoClosing ask
    → Leaves setup (command_of setup sender ask)
leaves setup Nobody ask free = λ auction. refl
leaves setup (Bidder b) (asked.turned_away code) free = λ auction. refl
leaves setup (Bidder b) (asked.no_method page) free = λ auction. refl
leaves setup (Bidder b) asked.status free = λ auction. refl
leaves setup (Bidder b) asked.products free = λ auction. refl
leaves setup (Bidder b) (asked.round_results segment) free = λ auction. refl
leaves setup (Bidder b) asked.account free = λ auction. refl
leaves setup (Bidder b) asked.bids free = λ auction. refl
leaves setup (Bidder b) (asked.put (Ok body)) free = λ auction. refl
leaves setup (Bidder b) (asked.put (Err fault)) free = λ auction. refl
leaves setup (Bidder b) (asked.bidder_results segment) free = λ auction. refl
leaves setup (Bidder b) (asked.close body) free = absurd free
leaves setup (Bidder b) asked.results free = λ auction. refl
leaves setup Operator (asked.turned_away code) free = λ auction. refl
leaves setup Operator (asked.no_method page) free = λ auction. refl
leaves setup Operator asked.status free = λ auction. refl
leaves setup Operator asked.products free = λ auction. refl
leaves setup Operator (asked.round_results segment) free = λ auction. refl
leaves setup Operator asked.account free = λ auction. refl
leaves setup Operator asked.bids free = λ auction. refl
leaves setup Operator (asked.put body) free = λ auction. refl
leaves setup Operator (asked.bidder_results segment) free = λ auction. refl
leaves setup Operator (asked.close body) free = absurd free
leaves setup Operator asked.results free = λ auction. refl

if_method : (has : Bool) (page : Page) (ask : Ask) → IsNoClosing ask
    → IsNoClosing (if has then ask else asked.no_method page)
if_method true page ask free = free
if_method false page ask free = tt

put_or_bids : (is : Bool) (one other : Ask) → IsNoClosing one → IsNoClosing other
    → IsNoClosing (if is then one else other)
put_or_bids true one other free same = free
put_or_bids false one other free same = same

of_page : (page : Page) (head : Head) (body : List ℕ) → head.method ≡ codes "PUT"
    → IsNoClosing (ask_by_route (Some page) head body)
of_page Status head body is = if_method _ Status asked.status tt
of_page Products head body is = if_method _ Products asked.products tt
of_page RoundResults head body is = if_method _ RoundResults (ask_of_page RoundResults head body) tt
of_page Account head body is = if_method _ Account asked.account tt
of_page Bids head body is = if_method _ Bids (ask_of_page Bids head body)
    (put_or_bids (same_bytes (codes "PUT") head.method) (asked.put (put_body body)) asked.bids tt tt)
of_page BidderResults head body is = if_method _ BidderResults (ask_of_page BidderResults head body) tt
of_page Close head body is =
    let none : has_method Close head.method ≡ false = ap (λ (method : List ℕ). has_method Close method) is in
    subst
    (λ (has : Bool). IsNoClosing (if has then ask_of_page Close head body else asked.no_method Close)) (sym none) tt
of_page Results head body is = if_method _ Results asked.results tt

by_route : (page : Option Page) (head : Head) (body : List ℕ) → head.method ≡ codes "PUT"
    → IsNoClosing (ask_by_route page head body)
by_route None head body is = tt
by_route (Some page) head body is = of_page page head body is

of_framing : (is : Framing) → IsPutFraming is → IsNoClosing (ask_of is)
of_framing framed_as.incomplete put = tt
of_framing (framed_as.refusal code) put = tt
of_framing (framed_as.whole head body) put = by_route (page_of head.path) head body put

begun_closes_none : (rest : List ℕ) → ClosesNoRound (begun rest)
unfolding request_of
begun_closes_none rest setup texts = leaves setup (caller setup (request_of (begun rest)).token) (ask_of (framing
    (begun rest))) (of_framing (framing (begun rest)) (begun_framing rest)) (history setup (commands_of setup texts))

-- ---- scripted sheets

pub put_closes_none : (token : List ℕ) (round : ℕ) (bids : List Bid) → ClosesNoRound (put_text token round bids)
put_closes_none token round bids = begun_closes_none _

of_sheet : (token : List ℕ) (round : ℕ) (sheet : Option (List Bid)) (text : List ℕ)
    → option_map (put_text token round) sheet ≡ Some text → ClosesNoRound text
of_sheet token round None text is = absurd (cc)
of_sheet token round (Some bids) text is = let same : put_text token round bids ≡ text = cc in
    subst ClosesNoRound same (put_closes_none token round bids)

pub scripted_closes_none : (setup : SetupFields) (closed : List ClosedRound) (bidder : ℕ) (script : Script)
    (text : List ℕ) → scripted_put setup closed bidder script ≡ Some text → ClosesNoRound text
unfolding scripted_put
scripted_closes_none setup closed bidder script text is = of_sheet _ _ _ text is
