-- The waiting requests, by the text that they are in. What is appended to the text does not change them.
use Rattle.std.proofs.Common.{◌≡◌, ℕ, ◌+◌, ◌-◌, ◌<◌, ◌≤◌, List, Vec, [], ◌∷◌, ◌++◌, All, length, take, drop, map}
use Rattle.std.proofs.Common.{get_or, Option, Some, None, Result, Ok, Err}
use Rattle.std.proofs.Common.{refl, sym, ◌∙◌, ap, ap₂, subst, subst₂, arith, append-nil}
use Rattle.std.specs.Prelude.{option_map}
use Rattle.std.specs.declared.alloc.Global.{Global}
use Rattle.std.proofs.lemmas.List.{length-map, get_or-map, map-append, length-append, length-drop, drop-append-le}
use Rattle.std.proofs.lemmas.List.{take-append-le}
use Rattle.std.proofs.lemmas.List.Elements.{All-tail}
use Rattle.clock_house.specs.House.{HouseFields}
use Rattle.clock_connections.specs.Connections.{ConnectionFields, open_text, LeavesOthers}
use Rattle.clock_front.specs.Hubs.{HubFields}
use Rattle.clock_scripts.specs.declared.requests.Written.{Written}
use Rattle.clock_scripts.specs.Pieces.{Grows, IsWrittenIn, WritesIf, written_body, written_request}
use Rattle.clock_sim.specs.declared.rounds.Waiting.{Waiting}
use Rattle.clock_sim.specs.declared.rounds.Group.{Group}
use Rattle.clock_scripts.specs.declared.fault.SimFault.{SimFault}
use Rattle.clock_sim.specs.Rehearsal.{after_request}
use Rattle.clock_sim.specs.inside.Groups.{GroupRequest, request_in, requests_in, after_group, AreApart, HaveTextsFrom}
use Rattle.clock_sim.specs.inside.Groups.{StillWait, AreWaiting}
use Rattle.clock_sim.specs.inside.Steps.{MakesStep}
use Rattle.clock_sim.proofs.GroupLaws.{body_done, body_refused, empty_group, head_at, heads_kept, one_step}
use Rattle.clock_sim.proofs.StepLaws.{IsOnWay, Step}

-- a piece of a text is a piece of a longer one
kept : (old new more : List ℕ) (from to : ℕ) → new ≡ old ++ more → from ≤ to → to ≤ length old
    → take (to - from) (drop from new) ≡ take (to - from) (drop from old)
kept old new more from to is order within =
    let count : length (drop from old) ≡ length old - from = length-drop from old in
    ap (λ (text : List ℕ). take (to - from) (drop from text)) is
    ∙ ap (λ (rest : List ℕ). take (to - from) rest) (drop-append-le from old more (omega (arith, order, within)))
    ∙ take-append-le (to - from) (drop from old) more (omega (arith, count, order, within))

-- in a longer text the requests are the same
module _ (old new : List ℕ) (grows : Grows old new) where
  requests_kept : (waiting : List Waiting) → All (λ one. IsWrittenIn old one.written) waiting
      → map (request_in new) waiting ≡ map (request_in old) waiting
  requests_kept [] all = refl
  requests_kept (one ∷ waiting) all =
      let here = all 0 one (omega arith) in
      let at = one.written in
      let first : request_in new one ≡ request_in old one = ap₂ (λ (head body : List ℕ).
      record { bidder = one.bidder; round = one.round; conn = one.conn; head = head; body = body })
      (kept old new grows.more at.head at.end grows.is here.head here.end)
      (kept old new grows.more at.body at.head grows.is here.body (omega (arith, here.head, here.end))) in
      ap₂ (λ (request : GroupRequest) (others : List GroupRequest). request ∷ others) first
      (requests_kept waiting (All-tail (λ (w : Waiting). IsWrittenIn old w.written) one waiting all))

-- so the waiting requests are unchanged
pub still_wait : (group : Group) (text : Vec ℕ Global) → Grows group.text.items text.items
    → StillWait group (record group { text = text })
still_wait group text grows = λ all. (
  requests_kept group.text.items text.items grows group.waiting.items all,
  λ k other below.
      let here = all k other below in
      let long = ap length grows.is ∙ length-append group.text.items grows.more in
      record { body = here.body; head = here.head; end = omega (arith, here.end, long) },
)

none_of : (waiting : List Waiting) → length waiting ≡ 0 → waiting ≡ []
none_of [] none = refl
none_of (one ∷ waiting) none = absurd (omega (arith, none))

-- if none waits, any text will do
pub still_none : (group : Group) (text : Vec ℕ Global) → length group.waiting.items ≡ 0
    → StillWait group (record group { text = text })
still_none group text empty = (let none = none_of group.waiting.items empty in λ all. (
  ap (λ (waiting : List Waiting). map (request_in text.items) waiting) none
      ∙ ap (λ (waiting : List Waiting). map (request_in group.text.items) waiting) (sym none),
  λ k other below. absurd (omega (arith, below, empty)),
))

-- the text is longer by what was written, if a request was
pub kept_if : (old new : List ℕ) (text : Option (List ℕ)) (written : Option Written)
    → WritesIf old new text written → Grows old new
kept_if old new text None is = record { more = []; is = is.1 ∙ sym (append-nil old) }
kept_if old new text (Some one) is = is.1.grows

-- what was written reads as the text
pub reads_as : (old new : List ℕ) (text : Option (List ℕ)) (written : Option Written) → WritesIf old new text written
    → text ≡ option_map (written_request new) written
reads_as old new text None is = is.0
reads_as old new text (Some one) is = is.0

-- one change after the other
pub still_twice : (first second third : Group) → StillWait first second → StillWait second third → StillWait first third
still_twice first second third one two = λ all.
    let now = one all in
    let then_ = two now.1 in
    (then_.0 ∙ now.0, then_.1)

-- one more request waits
pub one_more : (text : List ℕ) (waiting next : List Waiting) (one : Waiting) → next ≡ waiting ++ one ∷ []
    → map (request_in text) next ≡ map (request_in text) waiting ++ request_in text one ∷ []
one_more text waiting next one is =
    ap (λ (list : List Waiting). map (request_in text) list) is ∙ map-append (request_in text) waiting (one ∷ [])

-- no request waits
pub none_wait : (connections : ConnectionFields) (group : Group) → requests_in group ≡ [] → AreWaiting connections group
none_wait connections group none =
    let count = length-map group.waiting.items (request_in group.text.items) in
    record {
      requests = empty_group connections (requests_in group) (ap length none);
      written =
          λ k other below. absurd (omega (arith, below, count, ap (λ (list : List GroupRequest). length list) none));
    }

-- ---- the request at an index

-- the value after the end of the list
abbrev pub no_waiting : Waiting
no_waiting = record {
  bidder = 0;
  round = 0;
  written = record { body = 0; head = 0; end = 0 };
  conn = record { slot = 0; serial = 0 };
}

abbrev pub waiting_at : List Waiting → ℕ → Waiting
waiting_at waiting i = get_or waiting i no_waiting

pub request_at : (group : Group) (i : ℕ) → i < length group.waiting.items
    → (i < length (requests_in group)) × (request_in group.text.items (waiting_at group.waiting.items i)
    ≡ get_or (requests_in group) i (request_in group.text.items (waiting_at group.waiting.items i)))
request_at group i below =
    let f = request_in group.text.items in (
      omega (arith, below, length-map group.waiting.items f),
      sym (get_or-map f group.waiting.items i no_waiting (f (waiting_at group.waiting.items i)) below),
    )

-- ---- the body of the request at an index is sent

-- what the contract of the call says, by the list of the loop and the bytes passed
abbrev pub IsMade : {U : Type 0} → ℕ → HubFields → HubFields → Result U SimFault → List Waiting → List ℕ → Type 0
IsMade i old new result waiting body = (head : List ℕ) → open_text old.connections (waiting_at waiting i).conn
    ≡ Some head → MakesStep (λ texts. after_request old.house.setup texts (Some (waiting_at waiting i).bidder)
    (waiting_at waiting i).round (head ++ body)) old.house new.house result

module _ (whole : Step) (group : Group) (i : ℕ) (waiting : List Waiting) (body : List ℕ) (initial : HouseFields)
    (old new : HubFields) (same : waiting ≡ group.waiting.items) (here : i < length waiting)
    (is : body ≡ written_body group.text.items (waiting_at waiting i).written)
    (before : IsOnWay whole (after_group initial.setup (drop i (requests_in group))) initial old.house)
    (stand : HaveTextsFrom i old.connections (requests_in group) (λ k one. one.head)) where
  abbrev this : GroupRequest
  this = request_in group.text.items (waiting_at group.waiting.items i)

  placed : (i < length (requests_in group)) × (this ≡ get_or (requests_in group) i this)
  placed = request_at group i (subst (λ (list : List Waiting). i < length list) same here)

  headed : open_text old.connections this.conn ≡ Some this.head
  headed = head_at old.connections (requests_in group) i this placed.0 placed.1 stand

  made_at : {U : Type 0} (result : Result U SimFault) → IsMade i old new result waiting body
      → MakesStep (one_step old.house.setup this) old.house new.house result
  made_at result made =
      let same_body : body ≡ this.body =
      is ∙ ap (λ (list : List Waiting). written_body group.text.items (waiting_at list i).written) same in
      subst₂ (IsMade i old new result) same same_body made this.head headed

  -- the request is done, and those after it are left
  pub sent_in_turn : {U : Type 0} (done : U) → IsMade i old new (Ok done) waiting body → AreApart (requests_in group)
      → ((head : List ℕ) → open_text old.connections (waiting_at waiting i).conn ≡ Some head
      → LeavesOthers old.connections new.connections (waiting_at waiting i).conn)
      → IsOnWay whole (after_group initial.setup (drop (i + 1) (requests_in group))) initial new.house
      × HaveTextsFrom (i + 1) new.connections (requests_in group) (λ k one. one.head)
  sent_in_turn done made apart keeps =
      let KeepsThem : List Waiting → Type 0 =
      λ list. (head : List ℕ) → open_text old.connections (waiting_at list i).conn ≡ Some head
      → LeavesOthers old.connections new.connections (waiting_at list i).conn in (
        body_done whole (requests_in group) i this initial old.house new.house placed.0 placed.1 before done
            (made_at (Ok done) made),
        heads_kept old.connections new.connections (requests_in group) i this apart placed.0 placed.1 stand
            (subst KeepsThem same keeps this.head headed),
      )

  -- the request is refused
  pub refused_in_turn : {T : Type 0} (U : Type 0) (fault : SimFault) → IsMade {U = U} i old new (Err fault) waiting body
      → MakesStep {T = T} whole initial new.house (Err fault)
  refused_in_turn {T = T} U fault made = body_refused whole (requests_in group) i this initial old.house new.house
      placed.0 placed.1 before {U = U} {T = T} fault (made_at {U = U} (Err fault) made)
