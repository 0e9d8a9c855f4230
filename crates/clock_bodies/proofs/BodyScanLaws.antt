-- The value that the reader by bytes finds means the body that it returns. So both readers agree.
use Rattle.std.proofs.Common.{◌≡◌, ℕ, List, [], ◌∷◌, map, Option, Some, option_map}
use Rattle.std.proofs.Common.{refl, ap, ◌∙◌}
use Rattle.json.specs.Token.{Token}
use Rattle.serde_json.specs.Data.{Data}
use Rattle.clock_json.specs.Tree.{each, number_from, ◌>>=◌}
use Rattle.clock_terms.specs.declared.increments.Increments.{Increments}
use Rattle.clock_terms.specs.declared.increments.Increments.TheVariants.{Single, PerProduct}
use Rattle.clock_json.specs.Reading.{whole_number, numbers, items_in, ReadsValue}
use Rattle.clock_json.proofs.Steps.{items_start, items_next, items_end}
use Rattle.clock_bids.specs.declared.sheet.Bid.{Bid}
use Rattle.clock_order.specs.declared.ties.Tie.{Tie}
use Rattle.clock_bodies.specs.declared.put_body.PutBody.{PutBody}
use Rattle.clock_bodies.specs.declared.close_body.CloseBody.{CloseBody}
use Rattle.clock_bodies.specs.Bodies.{bid_of, put_of}
use Rattle.clock_bodies.specs.CloseBodies.{tie_in, close_of}
use Rattle.clock_bodies.specs.QuickBodies.{bid_data, tie_data}
use Rattle.clock_bodies.specs.inside.QuickBodies.{put_data}
use Rattle.clock_bodies.specs.QuickClosings.{close_data}

-- a list of three numbers
pub three_read : (first start after_first after_second after_third new : List Token) (a b c : ℕ)
    → first ≡ Token.begin_array ∷ start → ReadsValue 0 start (whole_number a) after_first
    → ReadsValue 0 after_first (whole_number b) after_second → ReadsValue 0 after_second (whole_number c) after_third
    → after_third ≡ Token.end_array ∷ new → ReadsValue 1 first (numbers (a ∷ b ∷ c ∷ [])) new
three_read first start after_first after_second after_third new a b c opened reads_a reads_b reads_c closed =
    let one = items_next 0 start start after_first [] (whole_number a) (items_start 0 start) reads_a in
    let two = items_next 0 start after_first after_second (whole_number a ∷ []) (whole_number b) one reads_b in
    let three =
    items_next 0 start after_second after_third (whole_number a ∷ whole_number b ∷ []) (whole_number c) two reads_c in
    items_end 0 first start after_third new (whole_number a ∷ whole_number b ∷ whole_number c ∷ []) opened three closed

-- ---- what the values mean

pub bid_means : (bid : Bid) → bid_of (bid_data bid) ≡ Some bid
unfolding bid_of
bid_means bid = refl

pub tie_means : (tie : Tie) → tie_in (tie_data tie) ≡ Some tie
tie_means tie = refl

pub number_means : (n : ℕ) → number_from (whole_number n) ≡ Some n
number_means n = refl

pub each_means : {A : Type 0} (meaning : Data → Option A) (data_of : A → Data)
    → ((x : A) → meaning (data_of x) ≡ Some x) → (xs : List A) → each meaning (items_in (map data_of xs)) ≡ Some xs
each_means meaning data_of means [] = refl
each_means meaning data_of means (x ∷ xs) =
    ap (λ o. o >>= λ first. (each meaning (items_in (map data_of xs)) >>= λ rest. Some (first ∷ rest))) (means x)
    ∙ ap (λ o. o >>= λ rest. Some (x ∷ rest)) (each_means meaning data_of means xs)

pub put_means : (body : PutBody) → put_of (put_data body) ≡ Some body
unfolding put_of
put_means body = ap (λ o. o >>= λ bids. Some (record { round = body.round; bids = bids }))
    (each_means bid_of bid_data bid_means body.bids)

abbrev closing : ℕ → List Tie → Increments → CloseBody
closing round ties increments = record { round = round; increments = increments; ties = ties }

pub close_means : (round : ℕ) (increments : Increments) (ties : List Tie)
    → close_of (close_data (closing round ties increments)) ≡ Some (closing round ties increments)
unfolding close_of
close_means round (Single increment) ties =
    ap (λ o. o >>= λ known. Some (closing round known (Single increment))) (each_means tie_in tie_data tie_means ties)
close_means round (PerProduct increments) ties = ap (λ o. option_map PerProduct o
    >>= λ listed. (each tie_in (items_in (map tie_data ties)) >>= λ known. Some (closing round known listed)))
    (each_means number_from whole_number number_means increments) ∙ ap (λ o. o
    >>= λ known. Some (closing round known (PerProduct increments))) (each_means tie_in tie_data tie_means ties)
