use Rattle.std.proofs.Common.{◌≡◌, ◌-◌, ◌<◌, All, List, [], ℕ, get_or, length, None, Some, ap, arith, refl, rules}
use Rattle.std.proofs.Common.{subst, sym, ◌∙◌}
use Rattle.std.specs.Prelude.{slice_index_or}
use Rattle.std.proofs.lemmas.List.{get_or_default}
use Rattle.clock_terms.specs.Limits.{IsBidder, IsToken, SetupFields}
use Rattle.clock_terms.specs.declared.setup.Bidder.{Bidder}
use Rattle.clock_house.specs.History.{bidder_at}
use Rattle.clock_house.specs.House.{state_in, holding_in}
use Rattle.clock_views.specs.inside.Values.{Adds}
use Rattle.clock_scripts.specs.RequestTexts.{written_put}
use Rattle.clock_scripts.specs.Sincere.{sincere_sheet}
use Rattle.clock_scripts.proofs.PutHeads.{put_awaits}
use Rattle.clock_scripts.proofs.WrittenLaws.{AddsSheet, put_behind}
use Rattle.clock_scripts.proofs.requests.write_put.Goals.{in-Sincere+in_ok-push_sincere-in-Sincere}
use Rattle.clock_scripts.proofs.requests.write_put.Goals.{in-Literal+in-Some-Some+in_ok-push_sheet-in-Some-Some}
use Rattle.clock_scripts.proofs.requests.write_put.Goals as goal

-- the token of a bidder, as it is in the list of all
own_token : (setup : SetupFields) (bidders : List Bidder) (bidder : ℕ) (one : Bidder) → bidders ≡ setup.bidders
    → bidder < length bidders → one ≡ get_or bidders bidder one → one.token ≡ (bidder_at setup bidder).token
own_token setup bidders bidder one same within is =
    let none : Bidder = record { name = []; token = []; eligibility = 0 } in
    ap (λ (b : Bidder). b.token) (is ∙ get_or_default bidders bidder one none within)
    ∙ ap (λ (list : List Bidder). (slice_index_or list bidder none).token) same

some_body : {body old new : List ℕ} → Adds body old new → (b : List ℕ) × Adds b old new
some_body {body = body} added = (body, added)

pub returns-clause-writes : goal.returns-clause-writes
returns-clause-writes g c =
    let old = c.args.text.now in
    let house = c.args.house.now in
    let pushed = c.match-script.text in
    let now = state_in house in
    let added : AddsSheet house.setup house.closed c.args.bidder c.args.script.now old.items pushed.items =
    elim c.match-script.branch [
      | in-Sincere+in_ok-push_sincere-in-Sincere w ↦
          rw (w.text-is, w.in-Sincere.is) (record {
            bids = sincere_sheet now.round now.prices (holding_in house c.args.bidder).demands w.in-Sincere.limits;
            given = refl;
            added = w.in_ok-push_sincere-in-Sincere.ensures;
          })
      | in-Literal+in-Some-Some+in_ok-push_sheet-in-Some-Some w ↦
          let bids = w.as_slice.result.now in
          let sheet : slice_index_or w.in-Literal.sheets (w.round-round.result - 1) None ≡ Some bids = search rules in
          rw (w.text-is, w.in-Literal.is) (record {
            bids = bids;
            given = ap (λ (round : ℕ). slice_index_or w.in-Literal.sheets (round - 1) None)
                (sym w.round-round.ensures.is) ∙ sheet;
            added = subst (λ (round : ℕ). Adds (written_put round bids) old.items w.push_sheet.new.text.items)
                w.round-round.ensures.is w.in_ok-push_sheet-in-Some-Some.ensures;
          })
    ] in
    let sender = c.index-as_slice-bidder.result in
    let list = c.as_slice-2.result.now in
    let bidders : list ≡ house.setup.bidders = search rules in
    let within : c.args.bidder < length list =
    omega (arith, c.requires.known, ap (λ (list : List Bidder). length list) bidders) in
    let token = c.as_slice-3.ensures
    ∙ own_token house.setup list c.args.bidder sender bidders within c.index-as_slice-bidder.is in
    put_behind old.items pushed.items c.push_head.new.text.items house.setup house.closed c.args.bidder
    c.args.script.now c.as_slice-3.result.now c.len-body.result
    c.in_ok-written.written token added (omega (arith, c.len-body.ensures, old.ok.0)) c.in_ok-written.ensures

pub returns-clause-awaits : goal.returns-clause-awaits
returns-clause-awaits g c =
    let old = c.args.text.now in
    let pushed = c.match-script.text in
    let sender = c.index-as_slice-bidder.result in
    let list = c.as_slice-2.result.now in
    let bidders : list ≡ c.args.house.now.setup.bidders = search rules in
    let within : c.args.bidder < length list =
    omega (arith, c.requires.known, ap (λ (list : List Bidder). length list) bidders) in
    let all : All IsBidder list = search rules in
    let limits : IsToken c.as_slice-3.result.now = subst IsToken (sym c.as_slice-3.ensures)
    (subst IsBidder (sym c.index-as_slice-bidder.is) (all c.args.bidder sender within)).token in
    let added : (body : List ℕ) × Adds body old.items pushed.items =
    elim c.match-script.branch [
      | in-Sincere+in_ok-push_sincere-in-Sincere w ↦ rw w.text-is (some_body w.in_ok-push_sincere-in-Sincere.ensures)
      | in-Literal+in-Some-Some+in_ok-push_sheet-in-Some-Some w ↦
          rw w.text-is (some_body w.in_ok-push_sheet-in-Some-Some.ensures)
    ] in
    put_awaits c.law_head_of_grammar.ensures c.as_slice-3.result.now limits old.items pushed.items
    c.push_head.new.text.items added.0 c.len-body.result
    c.in_ok-written.written added.1 (omega (arith, c.len-body.ensures, old.ok.0))
    (omega (arith, pushed.ok.0, pushed.ok.1, pushed.small)) c.in_ok-written.ensures
