-- A request that changes nothing can be left out of the past, so what was served is a run of all requests.
use Rattle.std.proofs.Common.{◌≡◌, ◌<◌, ◌+◌, inl, inr, ℕ, suc, Bool, true, false, List, [], ◌∷◌, length, reverse}
use Rattle.std.proofs.Common.{Option, Some, None, Result, Ok, Err, refl, sym, ap, ◌∙◌, subst, arith, if◌then◌else◌}
use Rattle.clock_terms.specs.Limits.{IsSetup, SetupFields}
use Rattle.clock_terms.specs.declared.setup.Bidder.{Bidder as BidderRow}
use Rattle.clock_terms.specs.declared.increments.Increments.{Increments}
use Rattle.clock_bids.specs.declared.sheet.Bid.{Bid}
use Rattle.clock_order.specs.declared.ties.Tie.{Tie}
use Rattle.clock_closing.specs.declared.closed_round.ClosedRound.{ClosedRound}
use Rattle.clock_closing.specs.declared.fault.CloseFault.{CloseFault}
use Rattle.clock_api.specs.Bytes.{same_bytes}
use Rattle.clock_api.specs.Replies.{Answer}
use Rattle.clock_house.specs.Command.{Command, put, close, other}
use Rattle.clock_house.specs.History.{for_each_bidder, history, sheet_in_force}
use Rattle.clock_house.specs.House.{HouseFields, StandsFor, closing_in, put_fault_in}
use Rattle.clock_house.specs.declared.fault.PutFault.{PutFault}
use Rattle.clock_house.proofs.Closes.{close-accepted, close-refused}
use Rattle.clock_house.proofs.Puts.{put-accepted, put-refused}
use Rattle.clock_house.proofs.Sound.{sound}
use Rattle.clock_front.specs.Callers.{bidder_tokens, caller, holder}
use Rattle.clock_front.specs.Effects.{close_effect, effect, effect_in, put_effect}
use Rattle.clock_front.specs.Fronts.{commands_of, house_after, reply, text_command}
use Rattle.clock_front.specs.Headline.{Runs}
use Rattle.clock_front.specs.Outcomes.{answer_of, close_command, command_of, outcome, put_command}
use Rattle.clock_front.specs.Requests.{Ask, request_of}
use Rattle.clock_front.specs.Requests as asked
use Rattle.clock_front.specs.declared.front.callers.Caller.{Caller}
use Rattle.clock_front.specs.declared.front.callers.Caller.TheVariants.{Nobody, Operator, Bidder}
use Rattle.clock_front.specs.declared.front.response.Effect.{Effect}
use Rattle.clock_front.specs.declared.front.response.Effect.TheVariants.{Nothing, Sheet, Closing}
use Rattle.clock_front.proofs.RunLaws.{right}
use Rattle.clock_journal.proofs.Lists.{reverse-push}
use Rattle.clock_server.specs.Exchanges.{Exchange}
use Rattle.clock_server.specs.Keeping.{is_change}
use Rattle.clock_server.specs.Laws.{AreAnswered, CanBeLeftOut, ServedIsRun}
use Rattle.clock_server.specs.Serving.{RepliesTo, ServerState, Walks}
use Rattle.clock_server.proofs.EffectLaws.{logged_when}

-- ---- a house after one more command

put_still : (house : HouseFields) (bidder round : ℕ) (bids : List Bid) (commands : List Command) (fault : Option
    PutFault) → StandsFor commands house → put_fault_in house bidder round bids ≡ fault → put_effect fault ≡ Nothing
    → StandsFor (put bidder round bids ∷ commands) house
put_still house bidder round bids commands None stands is none =
    absurd (let no : Sheet ≡ Nothing = none in let bad : ⊥ = cc in bad)
put_still house bidder round bids commands (Some fault) stands is none =
    put-refused house bidder round bids commands stands fault is

close_still : (house : HouseFields) (round : ℕ) (increments : Increments) (ties : List Tie) (commands : List Command)
    (answer : Result ClosedRound CloseFault) → StandsFor commands house → closing_in house round increments ties
    ≡ answer → close_effect round answer ≡ Nothing → StandsFor (close round increments ties ∷ commands) house
close_still house round increments ties commands (Ok done) stands is none =
    absurd (let no : Closing round ≡ Nothing = none in let bad : ⊥ = cc in bad)
close_still house round increments ties commands (Err fault) stands is none =
    close-refused house round increments ties commands stands fault is

-- a house stands for one more command that changes nothing
still_in : (house : HouseFields) (commands : List Command) (command : Command) → StandsFor commands house
    → effect_in house command ≡ Nothing → StandsFor (command ∷ commands) house
still_in house commands (put bidder round bids) stands none =
    put_still house bidder round bids commands (put_fault_in house bidder round bids) stands refl none
still_in house commands (close round increments ties) stands none =
    close_still house round increments ties commands (closing_in house round increments ties) stands refl none
still_in house commands other stands none = record { closed = stands.closed; sheets = stands.sheets }

abbrev house_of : SetupFields → List ClosedRound → List (Option (List Bid)) → HouseFields
house_of setup closed sheets = record { setup = setup; closed = closed; sheets = sheets; spare = 0 }

-- all of a house follows from the commands that it stands for
after_is : (setup : SetupFields) (closed : List ClosedRound) (sheets : List (Option (List Bid)))
    (commands : List Command) → StandsFor commands (house_of setup closed sheets)
    → house_after setup commands ≡ house_of setup closed sheets
after_is setup closed sheets commands stands =
    ap (λ (rounds : List ClosedRound). house_of setup rounds
    (for_each_bidder setup (sheet_in_force setup (history setup commands)))) (sym stands.closed)
    ∙ ap (λ (now : List (Option (List Bid))). house_of setup closed now) (sym stands.sheets)

-- ---- a bidder's number

one_by : (found : Bool) (i n : ℕ) (row : BidderRow) (rows : List BidderRow) (rest : Caller) → (rest ≡ Bidder n
    → n < suc i + length rows) → (if found then Bidder i else rest) ≡ Bidder n → n < i + length (row ∷ rows)
one_by true i n row rows rest later is = let same : i ≡ n = cc in omega (arith, same)
one_by false i n row rows rest later is = omega (arith, later is)

held_within : (i n : ℕ) (rows : List BidderRow) (token : List ℕ) → holder (bidder_tokens i rows) token ≡ Bidder n
    → n < i + length rows
held_within i n [] token is = absurd (let no : Nobody ≡ Bidder n = is in let bad : ⊥ = cc in bad)
held_within i n (row ∷ rows) token is = one_by (same_bytes token row.token) i n row rows
    (holder (bidder_tokens (suc i) rows) token) (held_within (suc i) n rows token) is

operator_or : (found : Bool) (n most : ℕ) (rest : Caller) → (rest ≡ Bidder n → n < most)
    → (if found then Operator else rest) ≡ Bidder n → n < most
operator_or true n most rest later is = absurd (let no : Operator ≡ Bidder n = is in let bad : ⊥ = cc in bad)
operator_or false n most rest later is = later is

caller_within : (setup : SetupFields) (token : Option (List ℕ)) (n : ℕ) → caller setup token ≡ Bidder n
    → n < length setup.bidders
caller_within setup None n is = absurd (let no : Nobody ≡ Bidder n = is in let bad : ⊥ = cc in bad)
caller_within setup (Some token) n is = operator_or (same_bytes token setup.operator) n (length setup.bidders)
    (holder (bidder_tokens 0 setup.bidders) token)
    (λ same. let within = held_within 0 n setup.bidders token same in omega (arith, within)) is

-- ---- two lists of requests that make the same auction

record Both (setup : SetupFields) (one two : List (List ℕ)) : Type 0 where
  closed : List ClosedRound
  sheets : List (Option (List Bid))
  first : StandsFor (commands_of setup one) (house_of setup closed sheets)
  second : StandsFor (commands_of setup two) (house_of setup closed sheets)

both_reply : (setup : SetupFields) (one two : List (List ℕ)) (text : List ℕ) → Both setup one two
    → reply setup one text ≡ reply setup two text
both_reply setup one two text both =
    ap (λ (house : HouseFields). answer_of (outcome house (caller setup (request_of text).token) (request_of text).ask))
    (after_is setup both.closed both.sheets (commands_of setup one) both.first
    ∙ sym (after_is setup both.closed both.sheets (commands_of setup two) both.second))

-- what a request changes after the second list, it changes in the house
effect_there : (setup : SetupFields) (one two : List (List ℕ)) (text : List ℕ) (both : Both setup one two)
    → effect setup two text ≡ effect_in (house_of setup both.closed both.sheets) (text_command setup text)
effect_there setup one two text both =
    ap (λ (house : HouseFields). effect_in house (text_command setup text))
    (after_is setup both.closed both.sheets (commands_of setup two) both.second)

-- a request that changes nothing, only in the first list
both_skip : (setup : SetupFields) (one two : List (List ℕ)) (text : List ℕ) → Both setup one two
    → effect setup two text ≡ Nothing → Both setup (text ∷ one) two
both_skip setup one two text both none = record {
  closed = both.closed;
  sheets = both.sheets;
  first = still_in (house_of setup both.closed both.sheets) (commands_of setup one) (text_command setup text) both.first
      (sym (effect_there setup one two text both) ∙ none);
  second = both.second;
}

-- ---- a command that changes the auction

record BothAfter (setup : SetupFields) (one two : List Command) (command : Command) : Type 0 where
  closed : List ClosedRound
  sheets : List (Option (List Bid))
  first : StandsFor (command ∷ one) (house_of setup closed sheets)
  second : StandsFor (command ∷ two) (house_of setup closed sheets)

module _ (setup : SetupFields) (closed : List ClosedRound) (sheets : List (Option (List Bid))) (one two : List Command)
    (first : StandsFor one (house_of setup closed sheets)) (second : StandsFor two (house_of setup closed sheets)) where
  put_both : (bidder round : ℕ) (bids : List Bid) (fault : Option PutFault) → put_fault_in (house_of setup closed
      sheets) bidder round bids ≡ fault → is_change (put_effect fault) ≡ true → bidder < length setup.bidders
      → BothAfter setup one two (put bidder round bids)
  put_both bidder round bids None is changes lt = record {
    closed = closed;
    sheets = _;
    first = put-accepted (house_of setup closed sheets) bidder round bids one first lt is;
    second = put-accepted (house_of setup closed sheets) bidder round bids two second lt is;
  }
  put_both bidder round bids (Some fault) is changes lt =
      absurd (let no : false ≡ true = changes in let bad : ⊥ = cc in bad)

  close_both : (round : ℕ) (increments : Increments) (ties : List Tie) (answer : Result ClosedRound CloseFault)
      → closing_in (house_of setup closed sheets) round increments ties ≡ answer
      → is_change (close_effect round answer) ≡ true → BothAfter setup one two (close round increments ties)
  close_both round increments ties (Ok done) is changes = record {
    closed = done ∷ closed;
    sheets = for_each_bidder setup (λ bidder. None);
    first = close-accepted (house_of setup closed sheets) round increments ties one first done (done ∷ closed)
        (for_each_bidder setup (λ bidder. None)) 0 is refl refl;
    second = close-accepted (house_of setup closed sheets) round increments ties two second done (done ∷ closed)
        (for_each_bidder setup (λ bidder. None)) 0 is refl refl;
  }
  close_both round increments ties (Err fault) is changes =
      absurd (let no : false ≡ true = changes in let bad : ⊥ = cc in bad)

  -- by the body of a sheet or of a closing
  sheet_both : (bidder : ℕ) (body : Result _ _) → bidder < length setup.bidders
      → is_change (effect_in (house_of setup closed sheets) (put_command bidder body)) ≡ true
      → BothAfter setup one two (put_command bidder body)
  sheet_both bidder (Ok body) lt changes = put_both bidder body.round body.bids
      (put_fault_in (house_of setup closed sheets) bidder body.round body.bids) refl changes lt
  sheet_both bidder (Err fault) lt changes =
      absurd (let no : false ≡ true = changes in let bad : ⊥ = cc in bad)

  closing_both : (body : Result _ _) → is_change (effect_in (house_of setup closed sheets)
      (close_command body)) ≡ true → BothAfter setup one two (close_command body)
  closing_both (Ok body) changes = close_both body.round body.increments body.ties
      (closing_in (house_of setup closed sheets) body.round body.increments body.ties) refl changes
  closing_both (Err fault) changes = absurd (let no : false ≡ true = changes in let bad : ⊥ = cc in bad)

  none_both : (command : Command) → command ≡ other
      → is_change (effect_in (house_of setup closed sheets) command) ≡ true → BothAfter setup one two command
  none_both command is changes =
      let no : false ≡ true = ap (λ (c : Command). is_change (effect_in (house_of setup closed sheets) c)) (sym is)
      ∙ changes in absurd (let bad : ⊥ = cc in bad)

  -- by who sends it and what it asks for
  asked_both : (who : Caller) (ask : Ask) → ((n : ℕ) → who ≡ Bidder n → n < length setup.bidders)
      → is_change (effect_in (house_of setup closed sheets) (command_of setup who ask)) ≡ true
      → BothAfter setup one two (command_of setup who ask)
  asked_both (Bidder bidder) (asked.put body) within changes =
      sheet_both bidder body (within bidder refl) changes
  asked_both Operator (asked.close body) within changes = closing_both _ changes
  asked_both (Bidder bidder) ask within changes = none_both (command_of setup (Bidder bidder) ask) refl changes
  asked_both Operator ask within changes = none_both (command_of setup Operator ask) refl changes
  asked_both Nobody ask within changes = none_both (command_of setup Nobody ask) refl changes

-- a request that changes the auction, in both lists
both_add : (setup : SetupFields) (one two : List (List ℕ)) (text : List ℕ) → Both setup one two
    → is_change (effect setup two text) ≡ true → Both setup (text ∷ one) (text ∷ two)
both_add setup one two text both changes =
    let after = asked_both setup both.closed both.sheets (commands_of setup one) (commands_of setup two) both.first
    both.second (caller setup (request_of text).token) (request_of text).ask
    (λ n is. caller_within setup (request_of text).token n is)
    (sym (ap is_change (effect_there setup one two text both)) ∙ changes) in
    record { closed = after.closed; sheets = after.sheets; first = after.first; second = after.second }

nothing_where : (one : Effect) → is_change one ≡ false → one ≡ Nothing
nothing_where Nothing is = refl
nothing_where Sheet is = absurd (let no : true ≡ false = is in let bad : ⊥ = cc in bad)
nothing_where (Closing round) is = absurd (let no : true ≡ false = is in let bad : ⊥ = cc in bad)

both_after : (changes : Bool) (setup : SetupFields) (all past : List (List ℕ)) (text : List ℕ)
    → is_change (effect setup (reverse past) text) ≡ changes → Both setup all (reverse past)
    → Both setup (text ∷ all) (reverse (logged_when changes past text))
both_after true setup all past text is both = subst (λ (list : List (List ℕ)). Both setup (text ∷ all) list)
    (sym (reverse-push past text)) (both_add setup all (reverse past) text both is)
both_after false setup all past text is both = both_skip setup all (reverse past) text both
    (nothing_where (effect setup (reverse past) text) is)

both_same : (setup : SetupFields) (past : List (List ℕ)) → Both setup past past
both_same setup past = record {
  closed = (house_after setup (commands_of setup past)).closed;
  sheets = (house_after setup (commands_of setup past)).sheets;
  first = record { closed = refl; sheets = refl };
  second = record { closed = refl; sheets = refl };
}

pub can_be_left_out : CanBeLeftOut
can_be_left_out setup past text one none =
    both_reply setup (text ∷ past) past one (both_skip setup past past text (both_same setup past) none)

-- ---- what was served is a run

abbrev RunsOn : SetupFields → List Exchange → List (List ℕ) → Type 0
RunsOn setup exchanges all = (texts : List (List ℕ)) × (answers : List Answer) × (end : List (List ℕ))
    × AreAnswered exchanges texts answers × Runs setup all texts answers end

-- one connection, and then the others
runs_more : (setup : SetupFields) (limits : IsSetup setup) (before : ServerState) (one : Exchange)
    (others : List Exchange) (next after : ServerState) (all : List (List ℕ)) → ((from : ServerState)
    (earlier : List (List ℕ)) → Both setup earlier (reverse from.texts) → Walks setup from others after
    → RunsOn setup others earlier) → Both setup all (reverse before.texts) → RepliesTo setup before one next
    → Walks setup next others after → RunsOn setup (one ∷ others) all
runs_more setup limits before one others next after all further both
    (inl (text, answer, arrived, sends, inl (fits, is, reported))) walks =
    let rest = further next (text ∷ all) (subst (λ (texts : List (List ℕ)). Both setup (text ∷ all) (reverse texts))
    (sym is) (both_after (is_change (effect setup (reverse before.texts) text)) setup all before.texts text refl both))
    walks in (
      text ∷ rest.0,
      answer ∷ rest.1,
      rest.2,
      inr (text, answer, next.journal, rest.0, rest.1, arrived, sends, refl, refl, rest.3),
      inr (
        right setup limits all text answer
            (fits.is ∙ sym (both_reply setup all (reverse before.texts) text both)),
        rest.4,
      ),
    )
runs_more setup limits before one others next after all further both
    (inl (text, answer, arrived, sends, inr (left_out, is))) walks =
    let rest = further before all both (subst (λ (state : ServerState). Walks setup state others after) is walks) in (
      text ∷ rest.0,
      answer ∷ rest.1,
      rest.2,
      inr (text, answer, next.journal, rest.0, rest.1, arrived, sends, refl, refl, rest.3),
      inl (left_out, rest.4),
    )
runs_more setup limits before one others next after all further both (inr (unanswered, is)) walks =
    let rest = further before all both (subst (λ (state : ServerState). Walks setup state others after) is walks) in
    (rest.0, rest.1, rest.2, inl (next.journal, unanswered, rest.3), rest.4)

runs_on : (setup : SetupFields) (limits : IsSetup setup) (before : ServerState) (exchanges : List Exchange)
    (after : ServerState) (all : List (List ℕ)) → Both setup all (reverse before.texts)
    → Walks setup before exchanges after → RunsOn setup exchanges all
runs_on setup limits before [] after all both walks = ([], [], all, (refl, refl), refl)
runs_on setup limits before (one ∷ others) after all both (next, step, walks) =
    runs_more setup limits before one others next after all
    (λ from earlier same onward. runs_on setup limits from others after earlier same onward) both step.replies walks

pub served_is_run : ServedIsRun
served_is_run setup limits before exchanges after walks =
    let runs = runs_on setup limits before exchanges after (reverse before.texts)
    (both_same setup (reverse before.texts)) walks in
    (runs.0, runs.1, runs.2, runs.3, runs.4, sound setup limits (commands_of setup runs.2))
